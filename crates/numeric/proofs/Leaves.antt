-- Laws of the library's test for a finite float and of its magnitude, of `flush` and of `clip`. Assumes nothing.
use mathlib.Core.Path.{◌≡◌, refl}
use mathlib.Core.Logic.{◌⊎◌, inl, inr}
use mathlib.Core.Bool.{Bool, true, false, not, cond}
use lib.Dec.{T}
use lib.Ieee.{Float, nan, inf, fin, lt, le, neg}
use lib.Ieee.Scale.{finite}
use Rattle.std.specs.Float.{float_is_finite, float_with_sign}
use Rattle.laws.specs.Order.{number, le_of_not_lt, le_itself, neg_number}
use Rattle.types.specs.Bits.{zero32}
use Rattle.definition.specs.Floats.{abs, tiny, flush, clip}
use Rattle.definition_laws.proofs.Parts.{both_tests}
use Rattle.numeric.specs.Below.{kept_of}

-- ---- the library's test for a finite float, and its magnitude, are the definition's

pub is_finite_lem : (x : Float) → float_is_finite x ≡ finite x
unfolding float_is_finite
is_finite_lem nan = refl
is_finite_lem (inf s) = refl
is_finite_lem (fin s m e) = refl

pub sign_abs : (v : Float) → float_with_sign false v ≡ abs v
unfolding float_with_sign
sign_abs nan = refl
sign_abs (inf s) = refl
sign_abs (fin s m e) = refl

pub kept_tiny : (v : Float) → kept_of v tiny ≡ flush v
unfolding kept_of flush
kept_tiny v = rw (both_tests v)

-- ---- LAW: what `flush` gives of a finite x is +0, or finite and no smaller than `tiny`
abbrev pub Flushed : Float → Type 0
Flushed r = (r ≡ zero32) ⊎ (T (finite r) × (lt (abs r) tiny ≡ false))

pub flushed : (x : Float) → T (finite x) → Flushed (flush x)
unfolding flush
flushed x h = go (lt (abs x) tiny) refl
  where
    go : (b : Bool) → lt (abs x) tiny ≡ b → Flushed (cond b zero32 x)
    go true e = inl refl
    go false e = inr (h, e)

pub flush_nan : flush nan ≡ nan
unfolding flush lt
flush_nan = refl

-- ---- LAW: what `clip` gives of a v that is no NaN is within the limit, for a limit that is no NaN and not negative
-- -0 or above, an infinity included
abbrev pub at_least_zero : Float → Bool
at_least_zero nan = false
at_least_zero (inf s) = not s
at_least_zero (fin s m e) = not s

zero_or_more_number : (x : Float) → T (at_least_zero x) → T (number x)
zero_or_more_number nan h = h
zero_or_more_number (inf s) h = tt
zero_or_more_number (fin s m e) h = tt

not_below_neg : (l : Float) → T (at_least_zero l) → lt l (neg l) ≡ false
unfolding lt neg
not_below_neg nan h = refl
not_below_neg (inf true) h = absurd h
not_below_neg (inf false) h = refl
not_below_neg (fin true m e) h = absurd h
not_below_neg (fin false m e) h = refl

neg_le : (l : Float) → T (at_least_zero l) → T (le (neg l) l)
neg_le l h = le_of_not_lt l (neg l) (zero_or_more_number l h) (neg_number l (zero_or_more_number l h)) (not_below_neg l h)

abbrev pub Within : Float → Float → Type 0
Within r l = T (le (neg l) r) × T (le r l)

pub clipped : (v l : Float) → T (number v) → T (at_least_zero l) → Within (clip v l) l
unfolding clip
clipped v l h k = go (lt l v) (lt v (neg l)) refl refl
  where
    n : T (number l)
    n = zero_or_more_number l k

    go : (a b : Bool) → lt l v ≡ a → lt v (neg l) ≡ b → Within (cond a l (cond b (neg l) v)) l
    go true b p q = (neg_le l k, le_itself l n)
    go false true p q = (le_itself (neg l) (neg_number l n), neg_le l k)
    go false false p q = (le_of_not_lt v (neg l) h (neg_number l n) q, le_of_not_lt l v n h p)
