-- A weight part fits exactly where its pattern is 0 or is, but for the sign, between those of 1e-30 and of the largest float. Assumes nothing.
use Rattle.std.proofs.Common.{◌≡◌, ℕ, suc, ◌+◌, ◌*◌, ◌/◌, ◌%◌, ◌^◌, ◌<◌, ◌≤◌, Bool, true, false, not, ◌&&◌, ◌||◌, T, leb, ltb, eqb, sym, refl, ap, ◌∙◌, subst, inl, inr, ◌⊎◌, mod-lt, le_trans, le-add_right, mul-le-mul, arith, lit<, lit≤, pow_pos, pow_mono}
use native.Mathlib.Nat.{le_of_mul-le-mul_right, mul-le-mul_right, not-le_of_lt, le_antisymm, le_of_suc-le-suc}
use Rattle.std.specs.Bool.{one_answer}
use Rattle.std.proofs.lemmas.Bool.{le-leb, lt-leb, leb-true, cases_lt}
use mathlib.Core.Bool.{and-true, and-false}
use lib.Bits.{bit_and, and_mask}
use Rattle.std.specs.Prelude.{Some}
use Rattle.std.specs.declared.ops.RangeInclusive.{RangeInclusive}
use Rattle.std.specs.Ordering.{nat_cmp}
use Rattle.std.specs.Range.{range_inclusive_contains, range_inclusive_start, range_inclusive_end, range_inclusive_exhausted}
use Rattle.numeric.proofs.Ranges.{in_nats}
use lib.Ieee.{Float, nan, inf, fin, up, down, binary32, fits, is_nan, to_bits, of_bits, lt, eq, le}
use lib.Ieee.Exact.{HasValue}
use lib.Ieee.Fits.{down_pos}
use lib.Ieee.Scale.{finite}
use Rattle.laws.specs.Fields.{View, view}
use Rattle.definition.specs.Floats.{abs, tiny}
use Rattle.definition.specs.Rules.{plus_zero, weight_fits}

le_is : (a b : ℕ) → (ltb a b || (eqb a b && true)) ≡ leb a b
le_is a b = grind arith

leb_alike : (a b c d : ℕ) → (a ≤ b → c ≤ d) → (c ≤ d → a ≤ b) → leb a b ≡ leb c d
leb_alike a b c d f g = one_answer (leb a b) (leb c d) (λ e. f (leb-true a b e), λ p. le-leb a b (g p)) (leb-true c d, le-leb c d)

-- a v of ±a smallest values: 1e-30 is 332307 · 2^31 of them, which is 10633824 · 2^26, and 0da24260 is its pattern, with the field 27 and the digits 10633824 - 2^23
sized : (v : Float) (s : Bool) (a : ℕ) → HasValue v s a (2 ^ 149) → (finite v && le tiny (abs v)) ≡ leb (10633824 * 2 ^ 26) a
unfolding le lt eq of_bits
sized nan s a h = absurd h
sized (inf t) s a h = absurd h
sized (fin t m e) s a h = le_is (332307 * down e) (m * up e * 2 ^ 118) ∙ leb_alike (332307 * down e) (m * up e * 2 ^ 118) (10633824 * 2 ^ 26) a there back
  where
    wide : 332307 * down e ≤ m * up e * 2 ^ 118 → 10633824 * 2 ^ 26 * down e ≤ a * down e
    wide l = omega arith

    there : 332307 * down e ≤ m * up e * 2 ^ 118 → 10633824 * 2 ^ 26 ≤ a
    there l = le_of_mul-le-mul_right (wide l) (down_pos e)

    narrow : 10633824 * 2 ^ 26 * down e ≤ a * down e → 332307 * down e ≤ m * up e * 2 ^ 118
    narrow l = omega arith

    back : 10633824 * 2 ^ 26 ≤ a → 332307 * down e ≤ m * up e * 2 ^ 118
    back l = narrow (mul-le-mul_right (down e) l)

-- a pattern rises with the size
rises : (j t : ℕ) → t < 2 ^ 23 → leb 0x0da2_4260 (suc j * 2 ^ 23 + t) ≡ leb (10633824 * 2 ^ 26) ((2 ^ 23 + t) * 2 ^ j)
rises j t h = leb_alike 0x0da2_4260 (suc j * 2 ^ 23 + t) (10633824 * 2 ^ 26) ((2 ^ 23 + t) * 2 ^ j) there back
  where
    lead : (t : ℕ) → t < 2 ^ 23 → 2 ^ 23 + t ≤ 2 ^ 24
    lead t h = omega arith

    small : j < 26 → (2 ^ 23 + t) * 2 ^ j ≤ 2 ^ 24 * 2 ^ 25
    small l = mul-le-mul (lead t h) (pow_mono (le_of_suc-le-suc l))

    at_26 : j ≤ 26 → 26 ≤ j → (2 ^ 23 + t) * 2 ^ j ≡ (2 ^ 23 + t) * 2 ^ 26
    at_26 a b = ap (λ (k : ℕ). (2 ^ 23 + t) * 2 ^ k) (le_antisymm a b)

    large : 26 < j → 2 ^ 23 * 2 ^ 27 ≤ (2 ^ 23 + t) * 2 ^ j
    large l = mul-le-mul (le-add_right (2 ^ 23) t) (pow_mono l)

    there : 0x0da2_4260 ≤ suc j * 2 ^ 23 + t → 10633824 * 2 ^ 26 ≤ (2 ^ 23 + t) * 2 ^ j
    there l = elim (cases_lt 26 j) [
      | inl m ↦ le_trans (lit≤ tt) (large m)
      | inr m ↦ subst (λ (n : ℕ). 10633824 * 2 ^ 26 ≤ n) (sym (at_26 m (omega arith))) (omega arith)
    ]

    back : 10633824 * 2 ^ 26 ≤ (2 ^ 23 + t) * 2 ^ j → 0x0da2_4260 ≤ suc j * 2 ^ 23 + t
    back l = elim (cases_lt j 26) [
      | inl m ↦ absurd (not-le_of_lt (lit< tt) (le_trans l (small m)))
      | inr m ↦ go (cases_lt 26 j) m
    ]
      where
        exact : (n : ℕ) → n ≡ (2 ^ 23 + t) * 2 ^ 26 → 10633824 * 2 ^ 26 ≤ n → j ≡ 26 → 0x0da2_4260 ≤ suc j * 2 ^ 23 + t
        exact n e k q = omega arith

        go : (26 < j) ⊎ (j ≤ 26) → 26 ≤ j → 0x0da2_4260 ≤ suc j * 2 ^ 23 + t
        go (inl b) m = omega arith
        go (inr b) m = exact ((2 ^ 23 + t) * 2 ^ j) (at_26 b m) l (omega arith)

-- k is a pattern without its sign
abbrev between : ℕ → Bool
between k = leb 0x0da2_4260 k && leb k 0x7f7f_ffff

-- of the field x and the digits t
by_view : (s : Bool) (x t : ℕ) (v : Float) → t < 2 ^ 23 → View binary32 s x t v → between (x * 2 ^ 23 + t) ≡ (finite v && le tiny (abs v))
by_view s x t v h (inl a) =
    ap (λ (b : Bool). b && leb (x * 2 ^ 23 + t) 0x7f7f_ffff) (lt-leb 0x0da2_4260 (x * 2 ^ 23 + t) (under a.0))
    ∙ sym (sized v s t a.1 ∙ lt-leb (10633824 * 2 ^ 26) t (omega arith))
  where
    under : x ≡ 0 → x * 2 ^ 23 + t < 0x0da2_4260
    under e = omega arith
by_view s x t v h (inr (inl a)) =
    ap (λ (b : Bool). leb 0x0da2_4260 (x * 2 ^ 23 + t) && b) (le-leb (x * 2 ^ 23 + t) 0x7f7f_ffff (within a.0 a.1 a.2))
    ∙ and-true (leb 0x0da2_4260 (x * 2 ^ 23 + t))
    ∙ ap (λ (y : ℕ). leb 0x0da2_4260 (y * 2 ^ 23 + t)) a.1
    ∙ rises a.0 t h
    ∙ sym (sized v s ((2 ^ 23 + t) * 2 ^ a.0) a.3)
  where
    within : (j : ℕ) → x ≡ suc j → suc j < 255 → x * 2 ^ 23 + t ≤ 0x7f7f_ffff
    within j e l = omega arith
by_view s x t v h (inr (inr a)) =
    ap (λ (b : Bool). leb 0x0da2_4260 (x * 2 ^ 23 + t) && b) (lt-leb (x * 2 ^ 23 + t) 0x7f7f_ffff (over a.0))
    ∙ and-false (leb 0x0da2_4260 (x * 2 ^ 23 + t))
    ∙ ap (λ (w : Float). finite w && le tiny (abs w)) (sym a.1)
  where
    over : x ≡ 255 → 0x7f7f_ffff < x * 2 ^ 23 + t
    over e = omega arith

of_number : (v : Float) → T (fits binary32 v) → T (not (is_nan v)) → between (to_bits binary32 v % 2 ^ 31) ≡ (finite v && le tiny (abs v))
of_number v f n =
    let b = to_bits binary32 v in
    subst (λ (k : ℕ). between k ≡ (finite v && le tiny (abs v))) (fields b)
    (by_view (leb (2 ^ 31) b) (b % 2 ^ 31 / 2 ^ 23) (b % 2 ^ 23) v (mod-lt b (pow_pos 23)) (view binary32 v f n))
  where
    fields : (b : ℕ) → b % 2 ^ 31 / 2 ^ 23 * 2 ^ 23 + b % 2 ^ 23 ≡ b % 2 ^ 31
    fields b = omega arith

-- a NaN has the pattern of the quiet one here
by_bits : (v : Float) → T (fits binary32 v) → between (to_bits binary32 v % 2 ^ 31) ≡ (finite v && le tiny (abs v))
by_bits nan f = unfold to_bits le lt eq in refl
by_bits (inf s) f = of_number (inf s) f (unfold is_nan in tt)
by_bits (fin s m e) f = of_number (fin s m e) f (unfold is_nan in tt)

-- LAW: the code's test is the definition's
pub fits_in : (v : Float) (r : RangeInclusive ℕ) → fits binary32 v ≡ true → range_inclusive_exhausted r ≡ false → range_inclusive_start r ≡ to_bits binary32 tiny → range_inclusive_end r ≡ to_bits binary32 (of_bits binary32 0x7f7f_ffff)
    → (plus_zero v || range_inclusive_contains (λ x y. Some (nat_cmp x y)) r (bit_and (to_bits binary32 v) 0x7fff_ffff)) ≡ weight_fits v
unfolding of_bits to_bits weight_fits
fits_in v r f x l h =
    ap (λ (b : Bool). plus_zero v || b)
    (in_nats true r (bit_and (to_bits binary32 v) 0x7fff_ffff) x
    ∙ rw (l, h, and_mask (to_bits binary32 v) 31) refl
    ∙ by_bits v (subst T (sym f) tt))
