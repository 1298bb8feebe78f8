-- The library's test of a range, as the comparisons with its ends. Assumes nothing.
use Prim.Native.Nat.{ℕ}
use mathlib.Core.Path.{◌≡◌, refl, sym}
use mathlib.Core.Bool.{Bool, true, false, cond, ◌&&◌, ◌||◌}
use lib.Dec.{leb}
use native.Mathlib.Omega.{arith}
use Rattle.std.proofs.lemmas.Grind.{common_steps}
use lib.Ieee.{Float, lt, eq, le}
use Rattle.std.proofs.Math.Bool.{and_assoc}
use Rattle.std.specs.Prelude.{Some, None}
use Rattle.std.specs.declared.cmp.Ordering.TheVariants.{Less, Equal, Greater}
use Rattle.std.specs.declared.ops.RangeInclusive.{RangeInclusive}
use Rattle.std.specs.Ordering.{partial_le, is_some_and, is_le, float_partial_cmp, nat_cmp}
use Rattle.std.specs.Range.{range_inclusive_contains, range_inclusive_start, range_inclusive_end, range_inclusive_exhausted}

-- at or below, of the three tests that say how two floats compare
at_most : (p q s : Bool) → is_some_and is_le (cond p (Some Less) (cond q (Some Equal) (cond s (Some Greater) None))) ≡ (p || q)
at_most true q s = refl
at_most false true s = refl
at_most false false true = refl
at_most false false false = refl

float_le : (x y : Float) → partial_le float_partial_cmp x y ≡ le x y
unfolding le
float_le x y = at_most (lt x y) (eq x y) (lt y x)

pub in_floats : (r : RangeInclusive Float) (v : Float) → range_inclusive_exhausted r ≡ false
    → range_inclusive_contains float_partial_cmp r v ≡ (le (range_inclusive_start r) v && le v (range_inclusive_end r))
in_floats r v s = rw (s, float_le (range_inclusive_start r) v, float_le v (range_inclusive_end r))

nat_le : (x y : ℕ) → is_le (nat_cmp x y) ≡ leb x y
nat_le x y = grind (arith, common_steps)

-- beside another test
pub in_nats : (p : Bool) (r : RangeInclusive ℕ) (v : ℕ) → range_inclusive_exhausted r ≡ false
    → (p && range_inclusive_contains (λ x y. Some (nat_cmp x y)) r v) ≡ ((p && leb (range_inclusive_start r) v) && leb v (range_inclusive_end r))
in_nats p r v s = rw (s, nat_le (range_inclusive_start r) v, nat_le v (range_inclusive_end r)) (sym (and_assoc p (leb (range_inclusive_start r) v) (leb v (range_inclusive_end r))))
