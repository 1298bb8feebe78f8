-- The three ways of a sample. Assumes nothing.
use Prim.Native.Nat.{ℕ}
use mathlib.Core.Path.{◌≡◌, refl}
use mathlib.Core.Bool.{Bool, true, false, cond, not}
use mathlib.Core.List.{List}
use lib.Ieee.{Float}
use Rattle.types.specs.declared.C32.{C32}
use Rattle.types.specs.declared.EqualizeState.{EqualizeState}
use Rattle.types.specs.declared.Mark.TheVariants.{Blank, Spilled}
use Rattle.definition.specs.Floats.{finite_c}
use Rattle.definition.specs.Slices.{power}
use Rattle.definition.specs.Phase.{cos_sin}
use Rattle.definition.specs.Turns.{derotated}
use Rattle.definition.specs.Sample.{heard_mark, mark_by, numbered, step3, hear, heard_as, passed_by}

module _ (s : EqualizeState) (w : List Float) (n f : ℕ) (x : C32) (h : List Float) (y : C32) where
  pub stage-blank : finite_c x ≡ false → step3 s w n f x h y ≡ passed_by s w Blank
  unfolding step3
  stage-blank a = rw a

  pub stage-spilled : finite_c x ≡ true → finite_c y ≡ false → step3 s w n f x h y ≡ passed_by s w Spilled
  unfolding step3
  stage-spilled a b = rw (a, b)

  pub stage-heard : finite_c x ≡ true → finite_c y ≡ true → step3 s w n f x h y ≡ heard_as s w n f h (hear s n f h y)
  unfolding step3
  stage-heard a b = rw (a, b)

  -- the mark, whichever way it goes
  pub stage-mark : (step3 s w n f x h y).mark ≡ mark_by x y (power h f) (derotated y (cos_sin s.phase))
  unfolding step3 heard_as hear mark_by
  stage-mark = go (finite_c x) (finite_c y)
    where
      go : (a b : Bool) → (cond a (cond b (heard_as s w n f h (hear s n f h y)) (passed_by s w Spilled)) (passed_by s w Blank)).mark
          ≡ cond (not a) Blank (cond (not b) Spilled (heard_mark (power h f) (derotated y (cos_sin s.phase))))
      go true true = refl
      go true false = refl
      go false b = refl

  -- the number, whichever way it goes
  pub stage-number : (step3 s w n f x h y).number ≡ numbered (mark_by x y (power h f) (derotated y (cos_sin s.phase))) (hear s n f h y).number
  unfolding step3 heard_as hear mark_by numbered
  stage-number = go (finite_c x) (finite_c y)
    where
      go : (a b : Bool) → (cond a (cond b (heard_as s w n f h (hear s n f h y)) (passed_by s w Spilled)) (passed_by s w Blank)).number
          ≡ numbered (cond (not a) Blank (cond (not b) Spilled (heard_mark (power h f) (derotated y (cos_sin s.phase))))) (hear s n f h y).number
      go true true = refl
      go true false = refl
      go false b = refl
