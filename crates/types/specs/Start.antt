-- The record at the start: what `new` and `reset` set.
use Rattle.std.specs.Prelude.{ℕ, cond, eqb, Float}
use Rattle.types.specs.declared.EqMode.{EqMode}
use Rattle.types.specs.declared.EqMode.TheVariants.{Cma, Decision}
use Rattle.types.specs.declared.EqParams.{EqParams}
use Rattle.types.specs.declared.EqualizeState.{EqualizeState}
use Rattle.types.specs.Bits.{zero32, one32}

-- mode Decision if `cma_symbols` is 0, else Cma
unfoldable pub start_mode : ℕ → EqMode
start_mode total = cond (eqb total 0) Decision Cma

-- count 0, `mse` 1, phase 0, freq 0
unfoldable pub start_state : EqParams → Float → Float → EqualizeState
start_state p kp ki =
    record { params = p; kp = kp; ki = ki; mode = start_mode p.cma_symbols; count = 0; mse = one32; phase = 0; freq = zero32 }
