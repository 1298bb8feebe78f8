-- Which patterns and which floats are no NaN's. Assumes nothing.
use Rattle.std.specs.Prelude.{◌≡◌, false, not, ℕ, ◌%◌, ◌^◌, ◌≤◌, T, Float}
use Rattle.std.specs.Bool.{fails}
use Rattle.std.proofs.Common.{subst, ◌∙◌, le-ltb}
use Rattle.std.specs.Float.{nan, inf, fin, binary32, binary64}
use Rattle.std.specs.Float.Ieee.{ne, is_nan, nan_bits}
use Rattle.std.specs.Float.Ieee.Bits.{nan_bits_above}

pub single_pattern : (n : ℕ) → n % 0x8000_0000 ≤ 0x7f80_0000 → T (not (nan_bits binary32 n))
single_pattern n h = fails _ (nan_bits_above binary32 n ∙ le-ltb 0x7f80_0000 (n % 2 ^ 31) h)

pub double_pattern : (n : ℕ) → n % 0x8000_0000_0000_0000 ≤ 0x7ff0_0000_0000_0000 → T (not (nan_bits binary64 n))
double_pattern n h = fails _ (nan_bits_above binary64 n ∙ le-ltb 0x7ff0_0000_0000_0000 (n % 2 ^ 63) h)

pub is_number : (x : Float) → ne x x ≡ false → T (not (is_nan x))
unfolding is_nan ne
is_number nan h = subst T h tt
is_number (inf s) h = tt
is_number (fin s m e) h = tt
