-- At phase 0 the table gives exactly (1, 0), by computation, so step 4 needs no test there. Assumes nothing.
use mathlib.Core.Path.{◌≡◌, refl}
use Prim.Native.Nat.{ℕ, zero, suc}
use native.Mathlib.Omega.{arith}
use borrow.Author.Tests.{ne_eqb}
use lib.Count.{count_trailing_zeros}
use lib.Ieee.{of_bits, of_fields, odd, of_int, add, sub, mul, neg, sum, round, units, size, span, climb}
use Rattle.tables.specs.Table.{cos_at, cos_bits}
use Rattle.types.specs.Bits.{zero32, one32}
use Rattle.definition.specs.Phase.{low_part, line_at, interp_pair, cos_sin}

pub pair_at_zero : interp_pair 0 ≡ record { c = one32; s = zero32 }
unfolding interp_pair line_at low_part cos_at cos_bits of_bits of_fields odd count_trailing_zeros of_int add sub mul neg sum round units size span climb
pair_at_zero = refl

pub cos_sin_is : (p : ℕ) → interp_pair p ≡ cos_sin p
unfolding cos_sin
cos_sin_is zero = pair_at_zero
cos_sin_is (suc p) = rw (ne_eqb (suc p) 0 (λ (e : suc p ≡ 0). omega arith))
