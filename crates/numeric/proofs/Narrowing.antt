-- `round binary32` of g * 2 ^ j / 2 ^ 1074, by the digits that it drops. Assumes nothing.
use mathlib.Core.Path.{◌≡◌, refl, sym, ap, ◌∙◌, subst}
use mathlib.Core.Logic.{inl, inr}
use mathlib.Core.Bool.{Bool, not}
use Prim.Native.Nat.{ℕ, suc, ◌+◌, ◌-◌, ◌*◌, ◌/◌, ◌%◌, ◌^◌, ◌≤◌, ◌<◌, compare}
use native.Mathlib.Nat.{le_trans, le_of_eq, lt_trans, lt_of_lt_of_le, mul-one, mul_assoc, mul-le-mul_right, mul-le-mul, mul-pos, div-lt_iff_lt-mul, le-div_iff_mul-le, div-eq_of_lt, mod-eq_of_lt, mod-lt, le-add_right}
use native.Mathlib.Omega.{arith}
use lib.Dec.{T, leb, lit≤, lit<}
use lib.Pow.{pow-add, pow_pos, pow_mono, shl_lt, field, shr_lt}
use lib.Bits.{bit_and, bit_or, and_mask, or_shifted_r}
use lib.Ieee.{Float, nan, inf, fin, binary32, binary64, up, down, size, units, round, nearest, fits, is_nan, of_bits, to_bits}
use lib.Ieee.Digits.{size-le}
use lib.Ieee.Fits.{core, round_is, down_pos, nearest-le}
use lib.Ieee.Nearest.{closest, closest_same, nearest-ge}
use lib.Ieee.Scale.{round_same}
use lib.Ieee.Exact.{HasValue}
use Rattle.laws.specs.Fields.{View, view}
use Rattle.laws.specs.Units.{size_is, units_bits, units_over, pattern}
use Rattle.laws.specs.Half.{compare-lt}
use Rattle.definition.specs.Floats.{narrow}

-- ---- powers
join3 : (a j b : ℕ) → 2 ^ a * 2 ^ j * 2 ^ b ≡ 2 ^ (a + j + b)
join3 a j b = ap (λ (x : ℕ). x * 2 ^ b) (sym (pow-add 2 a j)) ∙ sym (pow-add 2 (a + j) b)

pow_is : {a b : ℕ} → a ≡ b → 2 ^ a ≡ 2 ^ b
pow_is e = ap (λ (x : ℕ). 2 ^ x) e

-- g * 2 ^ j * 2 ^ b * 2 ^ d
gather : (g j b d : ℕ) → g * 2 ^ j * 2 ^ b * 2 ^ d ≡ g * 2 ^ (j + (b + d))
gather g j b d =
    mul_assoc (g * 2 ^ j) (2 ^ b) (2 ^ d)
    ∙ ap (λ (x : ℕ). g * 2 ^ j * x) (sym (pow-add 2 b d))
    ∙ mul_assoc g (2 ^ j) (2 ^ (b + d))
    ∙ ap (λ (x : ℕ). g * x) (sym (pow-add 2 j (b + d)))

-- ---- the normal range: 29 digits go
module _ (s : Bool) (g j : ℕ) (lo : 2 ^ 52 ≤ g) (hi : g < 2 ^ 53) (J : 896 ≤ j) where
  abbrev n : ℕ
  n = g * 2 ^ j * 2 ^ 149

  e1 : (j : ℕ) → 896 ≤ j → j - 873 + 1074 ≡ 52 + j + 149
  e1 j h = omega arith

  e2 : (j : ℕ) → 896 ≤ j → 53 + j + 149 ≡ suc (j - 873) + 1074
  e2 j h = omega arith

  e3 : (j : ℕ) → 896 ≤ j → suc (j - 873) - 24 ≡ j - 896
  e3 j h = omega arith

  e4 : (j : ℕ) → 896 ≤ j → j + (149 + 29) ≡ 1074 + (j - 896)
  e4 j h = omega arith

  at_least : 2 ^ (j - 873) ≤ n / 2 ^ 1074
  at_least =
      (le-div_iff_mul-le (pow_pos 1074)).1
      (le_trans (le_of_eq (sym (pow-add 2 (j - 873) 1074) ∙ pow_is (e1 j J) ∙ sym (join3 52 j 149))) (mul-le-mul_right (2 ^ 149) (mul-le-mul_right (2 ^ j) lo)))

  at_most : n / 2 ^ 1074 < 2 ^ suc (j - 873)
  at_most =
      (div-lt_iff_lt-mul (pow_pos 1074)).1
      (lt_of_lt_of_le (shl_lt (53 + j) 149 (shl_lt 53 j hi)) (le_of_eq (pow_is (e2 j J) ∙ pow-add 2 (suc (j - 873)) 1074)))

  dropped : size (n / 2 ^ 1074) - 24 ≡ j - 896
  dropped = ap (λ (x : ℕ). x - 24) (size_is (j - 873) (n / 2 ^ 1074) at_least at_most) ∙ e3 j J

  same : n * 2 ^ 29 ≡ g * (2 ^ 1074 * 2 ^ (j - 896))
  same = gather g j 149 29 ∙ ap (λ (x : ℕ). g * x) (pow_is (e4 j J) ∙ pow-add 2 1074 (j - 896))

  pub rounds : round binary32 s (g * 2 ^ j) (2 ^ 1074) ≡ units binary32 s (closest g (2 ^ 29)) (j - 896)
  rounds =
      round_is binary32 s (g * 2 ^ j) (2 ^ 1074)
      ∙ ap (λ (k : ℕ). core binary32 s n (2 ^ 1074) k) dropped
      ∙ ap (λ (q : ℕ). units binary32 s q (j - 896)) (closest_same n (2 ^ 1074 * 2 ^ (j - 896)) g (2 ^ 29) (mul-pos (pow_pos 1074) (pow_pos (j - 896))) (pow_pos 29) same)

-- ---- below it: what is left of the units
module _ (s : Bool) (g j : ℕ) (hi : g < 2 ^ 53) (J : j < 896) where
  abbrev m : ℕ
  m = g * 2 ^ j * 2 ^ 149

  f1 : (j : ℕ) → j < 896 → 53 + j + 149 ≤ 24 + 1074
  f1 j h = omega arith

  f2 : (z : ℕ) → z ≤ 24 → z - 24 ≡ 0
  f2 z h = omega arith

  f3 : (j : ℕ) → j < 896 → j + (149 + (925 - j)) ≡ 1074
  f3 j h = omega arith

  few : size (m / 2 ^ 1074) - 24 ≡ 0
  few = f2 (size (m / 2 ^ 1074)) (size-le (m / 2 ^ 1074) 24 ((div-lt_iff_lt-mul (pow_pos 1074)).1 (lt_of_lt_of_le (shl_lt (53 + j) 149 (shl_lt 53 j hi)) (le_trans (pow_mono (f1 j J)) (le_of_eq (pow-add 2 24 1074))))))

  same_low : m * 2 ^ (925 - j) ≡ g * (2 ^ 1074 * 2 ^ 0)
  same_low = gather g j 149 (925 - j) ∙ ap (λ (x : ℕ). g * x) (pow_is (f3 j J))

  pub rounds-low : round binary32 s (g * 2 ^ j) (2 ^ 1074) ≡ units binary32 s (closest g (2 ^ (925 - j))) 0
  rounds-low =
      round_is binary32 s (g * 2 ^ j) (2 ^ 1074)
      ∙ ap (λ (k : ℕ). core binary32 s m (2 ^ 1074) k) few
      ∙ ap (λ (q : ℕ). units binary32 s q 0) (closest_same m (2 ^ 1074 * 2 ^ 0) g (2 ^ (925 - j)) (pow_pos 1074) (pow_pos (925 - j)) same_low)

-- ---- the quotient's size
pub closest_le : (g d k : ℕ) → g / 2 ^ d < k → closest g (2 ^ d) ≤ k
closest_le g d k h = le_trans (nearest-le (g / 2 ^ d) (compare (g % 2 ^ d * 2) (2 ^ d))) h

pub closest_ge : (g d k : ℕ) → k ≤ g / 2 ^ d → k ≤ closest g (2 ^ d)
closest_ge g d k h = le_trans h (nearest-ge (g / 2 ^ d) (compare (g % 2 ^ d * 2) (2 ^ d)))

closest_zero : (g d : ℕ) → g < 2 ^ 53 → 55 ≤ d → closest g (2 ^ d) ≡ 0
closest_zero g d h l =
    let b : g < 2 ^ d = lt_of_lt_of_le h (pow_mono {i = 53} (le_trans (lit≤ tt) l)) in
    let c : g * 2 < 2 ^ d = lt_of_lt_of_le (twice g h) (pow_mono {i = 54} (le_trans (lit≤ tt) l)) in
    ap (λ (x : ℕ). nearest x (compare (g % 2 ^ d * 2) (2 ^ d))) (div-eq_of_lt b)
    ∙ ap (λ (x : ℕ). nearest 0 (compare (x * 2) (2 ^ d))) (mod-eq_of_lt b)
    ∙ ap (nearest 0) (compare-lt (g * 2) (2 ^ d) c)
  where
    twice : (g : ℕ) → g < 2 ^ 53 → g * 2 < 2 ^ 54
    twice g h = omega arith

-- ---- the f32 of a value of a / 2 ^ 1074
narrow_value : (v : Float) (s : Bool) (a : ℕ) → HasValue v s a (2 ^ 1074) → narrow v ≡ round binary32 s a (2 ^ 1074)
unfolding narrow
narrow_value nan s a h = absurd h
narrow_value (inf t) s a h = absurd h
narrow_value (fin t m e) s a h = ap (λ (r : Bool). round binary32 r (m * up e) (down e)) h.0 ∙ round_same binary32 s (m * up e) (down e) a (2 ^ 1074) (down_pos e) (pow_pos 1074) h.1

narrow_inf : (s : Bool) → narrow (inf s) ≡ inf s
unfolding narrow
narrow_inf s = refl

-- the pattern by the field x, where g is the digits under a leading one
abbrev Answers : Float → Bool → ℕ → ℕ → Type 0
Answers v s x g =
    (x < 872 → narrow v ≡ of_bits binary32 (pattern binary32 s 0 0))
    × (872 ≤ x → x < 897 → narrow v ≡ of_bits binary32 (pattern binary32 s 0 (closest g (2 ^ (926 - x)))))
    × (897 ≤ x → x < 1151 → narrow v ≡ of_bits binary32 (pattern binary32 s (x - 897) (closest g (2 ^ 29))))
    × (1151 ≤ x → narrow v ≡ inf s)

-- the digits that stay: at most 2 ^ 24, and where 29 go, at least 2 ^ 23
pub normal_le : (g : ℕ) → g < 2 ^ 53 → closest g (2 ^ 29) ≤ 2 ^ 24
normal_le g h = closest_le g 29 (2 ^ 24) (shr_lt 24 29 h)

pub normal_ge : (g : ℕ) → 2 ^ 52 ≤ g → 2 ^ 23 ≤ closest g (2 ^ 29)
normal_ge g h = closest_ge g 29 (2 ^ 23) ((le-div_iff_mul-le (pow_pos 29)).1 h)

-- with d from 30 on
pub low_le : (g d : ℕ) → g < 2 ^ 53 → 30 ≤ d → closest g (2 ^ d) ≤ 2 ^ 23
low_le g d h l = closest_le g d (2 ^ 23) (shr_lt 23 d (lt_of_lt_of_le h (pow_mono (room d l))))
  where
    room : (d : ℕ) → 30 ≤ d → 53 ≤ 23 + d
    room d l = omega arith

units_zero : (s : Bool) → units binary32 s 0 0 ≡ of_bits binary32 (pattern binary32 s 0 0)
units_zero s = units_bits binary32 s 0 0 (lit≤ tt) (inr refl) (lit< tt)

contra : (x : ℕ) → x ≡ 0 → 872 ≤ x → ⊥
contra x a b = omega arith

contra_top : (x : ℕ) → x ≡ 2047 → x < 1151 → ⊥
contra_top x a b = omega arith

lead : (t : ℕ) → t < 2 ^ 52 → 2 ^ 52 + t < 2 ^ 53
lead t h = omega arith

module _ (x j : ℕ) (e : x ≡ suc j) where
  a1 : x < 872 → j < 896
  a1 h = omega arith

  a2 : x < 872 → 55 ≤ 925 - j
  a2 h = omega arith

  a3 : x < 897 → j < 896
  a3 h = omega arith

  a4 : 925 - j ≡ 926 - x
  a4 = omega arith

  a5 : x < 897 → 30 ≤ 925 - j
  a5 h = omega arith

  a6 : 897 ≤ x → 896 ≤ j
  a6 h = omega arith

  a7 : j - 896 ≡ x - 897
  a7 = omega arith

  a8 : x < 1151 → suc (j - 896) < 255
  a8 h = omega arith

  a9 : 1151 ≤ x → 254 ≤ j - 896
  a9 h = omega arith

  a10 : 1151 ≤ x → 896 ≤ j
  a10 h = omega arith

answers : (v : Float) (s : Bool) (x t : ℕ) → t < 2 ^ 52 → View binary64 s x t v → Answers v s x (2 ^ 52 + t)
answers v s x t h (inl z) = (
  λ l. narrow_value v s t z.1
      ∙ ap (λ (a : ℕ). round binary32 s a (2 ^ 1074)) (sym (mul-one t))
      ∙ rounds-low s t 0 (lt_trans h (lit< tt)) (lit< tt)
      ∙ ap (λ (q : ℕ). units binary32 s q 0) (closest_zero t 925 (lt_trans h (lit< tt)) (lit≤ tt))
      ∙ units_zero s,
  λ l k. absurd (contra x z.0 l),
  λ l k. absurd (contra x z.0 (le_trans (lit≤ tt) l)),
  λ l. absurd (contra x z.0 (le_trans (lit≤ tt) l)),
)
answers v s x t h (inr (inl z)) =
    let j = z.0 in
    let g = 2 ^ 52 + t in
    let lo : 2 ^ 52 ≤ g = le-add_right (2 ^ 52) t in
    let hi : g < 2 ^ 53 = lead t h in
    let is = narrow_value v s (g * 2 ^ j) z.3 in (
      λ l. is
          ∙ rounds-low s g j hi (a1 x j z.1 l)
          ∙ ap (λ (q : ℕ). units binary32 s q 0) (closest_zero g (925 - j) hi (a2 x j z.1 l))
          ∙ units_zero s,
      λ k l. is
          ∙ rounds-low s g j hi (a3 x j z.1 l)
          ∙ units_bits binary32 s (closest g (2 ^ (925 - j))) 0 (le_trans (low_le g (925 - j) hi (a5 x j z.1 l)) (lit≤ tt)) (inr refl) (lit< tt)
          ∙ ap (λ (d : ℕ). of_bits binary32 (pattern binary32 s 0 (closest g (2 ^ d)))) (a4 x j z.1),
      λ k l. is
          ∙ rounds s g j lo hi (a6 x j z.1 k)
          ∙ units_bits binary32 s (closest g (2 ^ 29)) (j - 896) (normal_le g hi) (inl (normal_ge g lo)) (a8 x j z.1 l)
          ∙ ap (λ (d : ℕ). of_bits binary32 (pattern binary32 s d (closest g (2 ^ 29)))) (a7 x j z.1),
      λ k. is
          ∙ rounds s g j lo hi (a10 x j z.1 k)
          ∙ units_over binary32 s (closest g (2 ^ 29)) (j - 896) (le_trans (le_of_eq (pow-add 2 23 254)) (mul-le-mul (normal_ge g lo) (pow_mono (a9 x j z.1 k)))),
    )
answers v s x t h (inr (inr z)) = (
  λ l. absurd (contra_top x z.0 (lt_trans l (lit< tt))),
  λ k l. absurd (contra_top x z.0 (lt_trans l (lit< tt))),
  λ k l. absurd (contra_top x z.0 l),
  λ k. ap narrow z.1 ∙ narrow_inf s,
)

-- ---- the fields, as the code takes them
exp_is : (b : ℕ) → b % 2 ^ 63 / 2 ^ 52 ≡ bit_and (b / 2 ^ 52) (2 ^ 11 - 1)
exp_is b = field b 11 52 ∙ sym (and_mask (b / 2 ^ 52) 11)

sig_is : (b : ℕ) → 2 ^ 52 + b % 2 ^ 52 ≡ bit_or (bit_and b (2 ^ 52 - 1)) (2 ^ 52)
sig_is b = sym (ap (λ (k : ℕ). bit_or k (2 ^ 52)) (and_mask b 52) ∙ or_shifted_r 1 52 (b % 2 ^ 52) (mod-lt b (pow_pos 52)))

pub sig_lt : (b : ℕ) → bit_or (bit_and b (2 ^ 52 - 1)) (2 ^ 52) < 2 ^ 53
sig_lt b = subst (λ (y : ℕ). y < 2 ^ 53) (sig_is b) (lead (b % 2 ^ 52) (mod-lt b (pow_pos 52)))

module _ (v : Float) (F : T (fits binary64 v)) (N : T (not (is_nan v))) where
  abbrev b : ℕ
  b = to_bits binary64 v

  pub narrows : Answers v (leb (2 ^ 63) b) (bit_and (b / 2 ^ 52) (2 ^ 11 - 1)) (bit_or (bit_and b (2 ^ 52 - 1)) (2 ^ 52))
  narrows =
      subst (λ (y : ℕ). Answers v (leb (2 ^ 63) b) (bit_and (b / 2 ^ 52) (2 ^ 11 - 1)) y) (sig_is b)
      (subst (λ (y : ℕ). Answers v (leb (2 ^ 63) b) y (2 ^ 52 + b % 2 ^ 52)) (exp_is b)
      (answers v (leb (2 ^ 63) b) (b % 2 ^ 63 / 2 ^ 52) (b % 2 ^ 52) (mod-lt b (pow_pos 52)) (view binary64 v F N)))
