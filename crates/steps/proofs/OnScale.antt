-- Where the detector value of a symbol is finite, so is the symbol: a difference, and a product, of which a part is not finite is not. Assumes nothing.
use Prim.Native.Nat.{ℕ}
use mathlib.Core.Path.{◌≡◌, refl, sym, ◌∙◌, ap}
use mathlib.Core.Bool.{Bool, true, false, cond, not}
use lib.Dec.{eqb}
use lib.Ieee.{Float, nan, inf, fin, unlike, neg, add, sub, mul}
use lib.Ieee.Scale.{finite}
use Rattle.std.specs.Bool.{beq}
use Rattle.std.proofs.lemmas.Bool.{and_from}
use Rattle.types.specs.declared.C32.{C32}
use Rattle.types.specs.declared.Mark.TheVariants.{Heard}
use Rattle.definition.specs.Floats.{◌+f◌, ◌-f◌, ◌*f◌, complex, finite_c}
use Rattle.definition.specs.Sample.{numbered}
use Rattle.steps.specs.declared.Told.{Told}
use Rattle.steps.specs.Step.{live_mark, live_told}

factor : (x y : Float) → finite (x *f y) ≡ true → finite x ≡ true
unfolding mul
factor nan y h = h
factor (inf s) nan h = h
factor (inf s) (inf t) h = h
factor (inf s) (fin t n d) h = go (eqb n 0) h
  where
    go : (b : Bool) → finite (cond b nan (inf (unlike s t))) ≡ true → finite (inf s) ≡ true
    go true h = h
    go false h = h
factor (fin s m e) y h = refl

-- two infinities apart
apart : (s t : Bool) (v : Float) → finite v ≡ false → finite (cond (beq s (not t)) (inf s) nan) ≡ true → finite v ≡ true
apart s t v e h = go (beq s (not t)) h
  where
    go : (b : Bool) → finite (cond b (inf s) nan) ≡ true → finite v ≡ true
    go true h = rw e h
    go false h = rw e h

from : (x y : Float) → finite (x -f y) ≡ true → finite x ≡ true
unfolding sub neg add
from nan y h = h
from (inf s) nan h = h
from (inf s) (inf t) h = apart s t (inf s) refl h
from (inf s) (fin t n d) h = h
from (fin s m e) y h = refl

taken : (x y : Float) → finite (x -f y) ≡ true → finite y ≡ true
unfolding sub neg add
taken nan nan h = h
taken nan (inf t) h = h
taken (inf s) nan h = h
taken (inf s) (inf t) h = apart s t (inf t) refl h
taken (fin s m e) nan h = h
taken (fin s m e) (inf t) h = h
taken x (fin t n d) h = refl

on_scale : (z d : C32) → finite (z.im *f d.re -f z.re *f d.im) ≡ true → finite_c z ≡ true
unfolding finite_c
on_scale z d h = and_from (finite z.re) (finite z.im) (factor z.re d.im (taken (z.im *f d.re) (z.re *f d.im) h)) (factor z.im d.re (from (z.im *f d.re) (z.re *f d.im) h))

-- a symbol z whose detector value, the second part of v, is finite is heard
pub told_is : (z d v : C32) (n : ℕ) (b : Bool) → v ≡ complex (z.re *f d.re +f z.im *f d.im) (z.im *f d.re -f z.re *f d.im) → b ≡ finite v.im → b ≡ true → ◌≡◌ {A = Told} (record { mark = Heard; number = n }) (live_told z n)
unfolding live_told live_mark numbered
told_is z d v n b e f t = rw (on_scale z d (ap (λ (v : C32). finite v.im) (sym e) ∙ sym f ∙ t))
