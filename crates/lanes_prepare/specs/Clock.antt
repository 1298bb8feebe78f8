-- The modes of a run's samples, known ahead.
use Rattle.std.specs.Prelude.{ℕ, ◌+◌, ◌-◌, ◌<◌, ◌≤◌, min, ◌≡◌, cond, List, get_or, eqb, Float}
use Rattle.std.specs.Float.{nan}
use Rattle.types.specs.declared.EqMode.{EqMode}
use Rattle.types.specs.declared.EqMode.TheVariants.{Cma, Decision}
use Rattle.types.specs.declared.EqualizeState.{EqualizeState}
use Rattle.definition.specs.Sample.{never_switch, step_size}

unfoldable pub left_in : EqMode → ℕ → ℕ → ℕ
left_in Decision total count = 0
left_in Cma total count = cond (eqb total never_switch) 64 (min 64 (total - count))

abbrev pub cma_left : EqualizeState → ℕ
cma_left s = left_in s.mode s.params.cma_symbols s.count

-- the step size of the window at j, by the mode of sample 63 - j
pub record StepSizes (s : EqualizeState) (power : List Float) (from : ℕ) (steps : List Float) : Type 0 where
  pub cma : (j : ℕ) → from ≤ j → j < 64 → 63 - j < cma_left s → get_or steps j nan ≡ step_size s.params.mu_cma (get_or power j nan)
  pub decided : (j : ℕ) → from ≤ j → j < 64 → cma_left s ≤ 63 - j → get_or steps j nan ≡ step_size s.params.mu_dd (get_or power j nan)

-- s' is k samples later than s: its parameters and its mode
pub record Clock (s : EqualizeState) (k : ℕ) (s' : EqualizeState) : Type 0 where
  pub params : s'.params ≡ s.params
  pub early : k < cma_left s → s'.mode ≡ Cma
  pub late : cma_left s ≤ k → s'.mode ≡ Decision
  pub count : (s.params.cma_symbols ≡ never_switch → ⊥) → k < cma_left s → s'.count ≡ s.count + k
