-- The code's tests against the definition's: flush by the limit, finiteness by differences. Assumes nothing.
use mathlib.Core.Path.{◌≡◌, refl, sym, ◌∙◌, subst}
use mathlib.Core.Bool.{Bool, true, false, not, ◌&&◌}
use Rattle.std.proofs.lemmas.Bool.{not-false, not_from_true}
use lib.IntN.{pos}
use lib.Count.{count_trailing_zeros}
use lib.Dec.{T}
use lib.Ieee.{Float, nan, inf, fin, binary32, of_bits, of_fields, odd, lt, eq, ne, neg, sub, add}
use lib.Ieee.Bits.{is_true}
use lib.Ieee.Fits.{and_i, and_l, and_r}
use lib.Ieee.Scale.{finite}
use Rattle.laws.specs.Exact.{minus_itself}
use Rattle.types.specs.Bits.{zero32, one32}
use Rattle.definition.specs.Floats.{◌-f◌, tiny}
use Rattle.numeric.specs.Below.{kept_of}
use Rattle.lanes_adapt.specs.Steps.{uneven}

-- where padding stays finite it was finite
pub kept_top_fine : (v : Float) → T (finite (kept_of v (inf false))) → kept_of v (inf false) ≡ zero32
unfolding kept_of lt neg
kept_top_fine nan h = absurd h
kept_top_fine (inf true) h = absurd h
kept_top_fine (inf false) h = absurd h
kept_top_fine (fin s m e) h = refl

not_finite : (v : Float) → finite v ≡ false → v -f v ≡ nan
unfolding sub add neg
not_finite nan h = refl
not_finite (inf true) h = refl
not_finite (inf false) h = refl
not_finite (fin s m e) h = absurd (subst T h tt)

is_finite : (v : Float) → finite v ≡ true → v -f v ≡ fin false 0 (pos 0)
is_finite nan h = absurd (subst T (sym h) tt)
is_finite (inf s) h = absurd (subst T (sym h) tt)
is_finite (fin s m e) h = minus_itself binary32 s m e

go_uneven : (r m : Float) (a b : Bool) → finite r ≡ a → finite m ≡ b → uneven r m ≡ not (a && b)
unfolding uneven ne eq
go_uneven r m true true p q = rw (is_finite r p, is_finite m q)
go_uneven r m true false p q = rw (is_finite r p, not_finite m q)
go_uneven r m false b p q = rw (not_finite r p)

pub uneven_is : (r m : Float) → uneven r m ≡ not (finite r && finite m)
uneven_is r m = go_uneven r m (finite r) (finite m) refl refl

pub even_fine : (r m : Float) → uneven r m ≡ false → T (finite r) × T (finite m)
even_fine r m h =
    let t : T (finite r && finite m) = subst T (sym (not-false (finite r && finite m) (sym (uneven_is r m) ∙ h))) tt in
    (and_l (finite r) (finite m) t, and_r (finite r) (finite m) t)

pub fine_even : (r m : Float) → T (finite r) → T (finite m) → uneven r m ≡ false
fine_even r m a b = uneven_is r m ∙ not_from_true (finite r && finite m) (is_true (finite r && finite m) (and_i (finite r) (finite m) a b))

-- ---- the limits as tests
pub tiny_low : lt tiny one32 ≡ true
unfolding lt of_bits of_fields odd count_trailing_zeros
tiny_low = refl

pub tiny_not_high : lt one32 tiny ≡ false
unfolding lt of_bits of_fields odd count_trailing_zeros
tiny_not_high = refl

pub top_not_low : lt (inf false) one32 ≡ false
unfolding lt of_bits of_fields odd count_trailing_zeros
top_not_low = refl

pub top_high : lt one32 (inf false) ≡ true
unfolding lt of_bits of_fields odd count_trailing_zeros
top_high = refl
