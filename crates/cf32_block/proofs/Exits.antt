-- A call from bytes to bytes: what it answers where the equalizer's call is served, and where it is refused. Assumes nothing.
use Prim.Native.Nat.{ℕ}
use mathlib.Core.Path.{◌≡◌}
use mathlib.Core.Bool.{true, false}
use mathlib.Core.List.{List}
use lib.Ieee.{Float}
use Rattle.std.specs.Prelude.{is_ok}
use Rattle.definition.specs.Sample.{Equalizer}
use Rattle.definition.specs.Calls.{Answer, equalize_def}
use Rattle.cf32.specs.Bytes.{read_into, write_over}
use Rattle.cf32_block.specs.Block.{bytes_answer, block_def}

-- xs are the floats that were read, a is the answer over them
module _ (q : Equalizer) (bs : List ℕ) (x y : List Float) (out ms ns : List ℕ) (xs : List Float) (r : xs ≡ read_into bs x) (a : Answer) (p : a ≡ equalize_def q xs y ms ns) where
  pub block-served : is_ok a.outcome ≡ true → (out' : List ℕ) → out' ≡ write_over a.out out → bytes_answer a xs out' ≡ block_def q bs x y out ms ns
  unfolding block_def
  block-served e out' w = rw (← r, ← p, e, w)

  pub block_refused : is_ok a.outcome ≡ false → bytes_answer a xs out ≡ block_def q bs x y out ms ns
  unfolding block_def
  block_refused e = rw (← r, ← p, e)
