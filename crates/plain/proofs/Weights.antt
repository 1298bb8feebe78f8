-- The weights after an update: one law for each exit. Assumes nothing.
use Prim.Native.Nat.{ℕ, ◌*◌, ◌/◌}
use mathlib.Core.Path.{◌≡◌, sym, ap, ◌∙◌}
use native.Mathlib.Omega.{arith}
use lib.ListN.{length}
use mathlib.Core.Bool.{Bool, true, false}
use mathlib.Core.List.{List}
use lib.Ieee.{Float}
use lib.Ieee.Scale.{finite}
use Rattle.types.specs.declared.Update.{Update}
use Rattle.types.specs.declared.Update.TheVariants.{Step, Hold}
use Rattle.definition.specs.Floats.{complex}
use Rattle.definition.specs.Slices.{every, updated, start_weights}
use Rattle.definition.specs.Sample.{reset_unless, adapted}

halves : {n : ℕ} (x : List Float) → length x ≡ 2 * n → length x / 2 ≡ n
halves x l = omega (arith, l)

module _ (u : Update) (n f : ℕ) (w h : List Float) where
  pub adapt_hold : u ≡ Hold → w ≡ adapted u n f w h
  unfolding adapted
  adapt_hold e = rw e

  module _ (gr gi : Float) (e : u ≡ Step gr gi) (l : length w ≡ 2 * n) (v : List Float) (d : v ≡ updated (length w / 2) (complex gr gi) w h) (b : Bool) (t : b ≡ every finite v) where
    pub adapt_kept : b ≡ true → v ≡ adapted u n f w h
    unfolding adapted reset_unless
    adapt_kept y = rw (e, ← halves w l, ← d, ← t, y)

    pub adapt_reset : b ≡ false → (z : List Float) → z ≡ start_weights n (f / 2) → z ≡ adapted u n f w h
    unfolding adapted reset_unless
    adapt_reset y z k = rw (e, ← halves w l, ← d, ← t, y) (k ∙ ap (λ (i : ℕ). start_weights i (f / 2)) (sym (halves w l)))
