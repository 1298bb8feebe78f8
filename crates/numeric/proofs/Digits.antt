-- What the code's shifts and masks work out. Assumes nothing.
use mathlib.Core.Path.{◌≡◌, refl, sym, ap, ◌∙◌, subst}
use mathlib.Core.Bool.{Bool, true, false, not}
use Prim.Native.Nat.{ℕ, suc, ◌+◌, ◌-◌, ◌*◌, ◌/◌, ◌%◌, ◌^◌, ◌≤◌, ◌<◌}
use native.Mathlib.Nat.{le_trans, le_of_eq, le_antisymm, one-mul, mod-eq_of_lt, pow-succ'}
use native.Mathlib.Numerals.{add-one}
use native.Mathlib.Omega.{arith}
use lib.Dec.{T}
use lib.Pow.{pow-lt}
use lib.Bits.{bit_and, bit_or, and_mask, or_shifted_r}
use lib.Ieee.{Float, nan, inf, fin, binary32, nan_bits, is_nan, of_bits}
use lib.Ieee.Nearest.{closest}
use Rattle.laws.specs.Half.{closest-down, closest-up, closest-tie}
use Rattle.laws.specs.NoNan.{single_pattern}
use Rattle.definition.specs.Floats.{narrow}

-- ---- `nearest`
module _ (g d : ℕ) (one : 1 ≤ d) (D : d < 64) where
  pub bit_is : 1 * 2 ^ d % 2 ^ 64 ≡ 2 ^ d
  bit_is = ap (λ (y : ℕ). y % 2 ^ 64) (one-mul (2 ^ d)) ∙ mod-eq_of_lt (pow-lt D)

  rest-is : bit_and g (1 * 2 ^ d % 2 ^ 64 - 1) ≡ g % 2 ^ d
  rest-is = ap (λ (y : ℕ). bit_and g (y - 1)) bit_is ∙ and_mask g d

  pred_lt : d - 1 < 64
  pred_lt = omega arith

  half_is : 1 * 2 ^ (d - 1) % 2 ^ 64 ≡ 2 ^ (d - 1)
  half_is = ap (λ (y : ℕ). y % 2 ^ 64) (one-mul (2 ^ (d - 1))) ∙ mod-eq_of_lt (pow-lt pred_lt)

  pred-suc : d ≡ suc (d - 1)
  pred-suc = omega arith

  even : 2 ^ d ≡ 2 * 2 ^ (d - 1)
  even = ap (λ (y : ℕ). 2 ^ y) pred-suc ∙ pow-succ' 2 (d - 1)

  pub down : bit_and g (1 * 2 ^ d % 2 ^ 64 - 1) < 1 * 2 ^ (d - 1) % 2 ^ 64 → g / 2 ^ d ≡ closest g (2 ^ d)
  down h = closest-down g (2 ^ d) (2 ^ (d - 1)) even (subst (λ (y : ℕ). y < 2 ^ (d - 1)) rest-is (subst (λ (y : ℕ). bit_and g (1 * 2 ^ d % 2 ^ 64 - 1) < y) half_is h))

  pub up : 1 * 2 ^ (d - 1) % 2 ^ 64 < bit_and g (1 * 2 ^ d % 2 ^ 64 - 1) → g / 2 ^ d + 1 ≡ closest g (2 ^ d)
  up h = add-one (g / 2 ^ d) ∙ closest-up g (2 ^ d) (2 ^ (d - 1)) even (subst (λ (y : ℕ). 2 ^ (d - 1) < y) rest-is (subst (λ (y : ℕ). y < bit_and g (1 * 2 ^ d % 2 ^ 64 - 1)) half_is h))

  pub tie : 1 * 2 ^ (d - 1) % 2 ^ 64 ≤ bit_and g (1 * 2 ^ d % 2 ^ 64 - 1) → bit_and g (1 * 2 ^ d % 2 ^ 64 - 1) ≤ 1 * 2 ^ (d - 1) % 2 ^ 64 → g / 2 ^ d + bit_and (g / 2 ^ d) 1 ≡ closest g (2 ^ d)
  tie a b = ap (λ (y : ℕ). g / 2 ^ d + y) (and_mask (g / 2 ^ d) 1) ∙ closest-tie g (2 ^ d) (2 ^ (d - 1)) even (sym rest-is ∙ le_antisymm b a ∙ half_is)

-- ---- `with_sign`
module _ (p : ℕ) (P : p ≤ 0x7f80_0000) where
  rest_plain : p % 2 ^ 31 ≡ p
  rest_plain = omega arith

  rest-signed : (2 ^ 31 + p) % 2 ^ 31 ≡ p
  rest-signed = omega arith

  no_nan : (n : ℕ) → n % 2 ^ 31 ≡ p → T (not (nan_bits binary32 n))
  no_nan n e = single_pattern n (le_trans (le_of_eq e) P)

  small : p < 2 ^ 31
  small = omega arith

  or_is : bit_or p (2 ^ 31) ≡ 2 ^ 31 + p
  or_is = or_shifted_r 1 31 p small

  pub plain_ok : T (not (nan_bits binary32 p))
  plain_ok = no_nan p rest_plain

  pub signed_ok : T (not (nan_bits binary32 (bit_or p (2 ^ 31))))
  signed_ok = subst (λ (n : ℕ). T (not (nan_bits binary32 n))) (sym or_is) (no_nan (2 ^ 31 + p) rest-signed)

-- ---- `narrow`
pub of_nan : (x : Float) (b : Bool) → b ≡ is_nan x → b ≡ true → of_bits binary32 0x7fc0_0000 ≡ narrow x
unfolding narrow of_bits is_nan
of_nan nan b e h = refl
of_nan (inf s) b e h = absurd (subst T (sym h ∙ e) tt)
of_nan (fin s m k) b e h = absurd (subst T (sym h ∙ e) tt)

pub no_nan_in : (x : Float) (b : Bool) → b ≡ is_nan x → b ≡ false → T (not (is_nan x))
no_nan_in x b e h = subst (λ (t : Bool). T (not t)) (sym h ∙ e) tt

module _ (x q : ℕ) (X : x < 1151) (Q : q ≤ 2 ^ 24) where
  pub shift_is : (x - 897) * 2 ^ 23 % 2 ^ 64 ≡ (x - 897) * 2 ^ 23
  shift_is = omega arith

  pub sum-le : (x - 897) * 2 ^ 23 % 2 ^ 64 + q ≤ 0x7f80_0000
  sum-le = omega arith

  pub sum_fits : (x - 897) * 2 ^ 23 % 2 ^ 64 + q < 2 ^ 64
  sum_fits = omega arith
