-- One float and its pattern: a NaN's pattern gives the NaN, and the NaN has its pattern. Assumes nothing.
use Prim.Native.Nat.{ℕ, ◌%◌, ◌<◌}
use mathlib.Core.Path.{◌≡◌, refl, sym, ap, subst, ◌∙◌}
use mathlib.Core.Bool.{true}
use lib.Dec.{T}
use borrow.Author.Tests.{lt-ltb}
use lib.Ieee.{Float, nan, inf, fin, binary32, div, ne, is_nan, of_bits, of_fields, odd, to_bits}
use lib.Ieee.Bits.{nan_bits_is, nan_bits_above}
use lib.Ieee.Compare.{differs_from_itself}
use Rattle.types.specs.Bits.{zero32}
use Rattle.cf32.specs.Bytes.{float_of, pattern_of}

is_nan_lem : (x : Float) → T (is_nan x) → nan ≡ x
unfolding is_nan
is_nan_lem nan h = refl
is_nan_lem (inf s) h = absurd h
is_nan_lem (fin s m e) h = absurd h

made_nan : div binary32 zero32 zero32 ≡ nan
unfolding div of_bits of_fields odd
made_nan = refl

-- a pattern above an infinity's is a NaN's
pub nan_read : (n : ℕ) → 0x7f80_0000 < n % 0x8000_0000 → div binary32 zero32 zero32 ≡ float_of n
nan_read n h =
    let t : is_nan (float_of n) ≡ true = sym (nan_bits_is binary32 n) ∙ nan_bits_above binary32 n ∙ lt-ltb 0x7f80_0000 (n % 0x8000_0000) h in
    made_nan ∙ is_nan_lem (float_of n) (subst T (sym t) tt)

-- what differs from itself is the NaN
pub nan_written : (x : Float) → ne x x ≡ true → 0x7fc0_0000 ≡ pattern_of x
unfolding to_bits
nan_written x h = sym (ap pattern_of (differs_from_itself x (subst T (sym h) tt)))
