-- The gain ki of an accepted bandwidth is finite: theta is at most 1 and not negative, the divisor is at least 1. Assumes nothing.
use Prim.Native.Nat.{ℕ, zero, suc, ◌+◌, ◌-◌, ◌*◌, ◌^◌, ◌<◌, ◌≤◌}
use mathlib.Core.Path.{◌≡◌, refl, sym, ◌∙◌, ap, subst}
use mathlib.Core.Logic.{◌⊎◌, inl, inr}
use mathlib.Core.Bool.{Bool, true, false, not, cond, ◌&&◌, ◌||◌}
use native.Mathlib.Nat.{le_trans, le_of_eq, le_of_lt, lt_of_lt_of_le, mul-one, one-mul, zero-mul, mul_comm, mul_assoc, mul_right_comm, mul-le-mul, mul-le-mul_right, le_of_mul-le-mul_right, mul-pos, zero-lt-suc, lt_irrefl}
use native.Mathlib.Omega.{arith}
use lib.IntN.{ℤ, pos}
use lib.Count.{count_trailing_zeros}
use lib.Dec.{T, ltb, eqb, ltb→lt, eqb→eq, lit≤}
use lib.Pow.{pow_pos}
use borrow.Author.Tests.{ne_eqb, le-ltb}
use lib.Ieee.{Float, nan, inf, fin, Format, binary32, binary64, prec, emax, low, up, down, unlike, of_bits, of_fields, odd, size, span, climb, units, round, sum, add, mul, div, lt, le, eq}
use lib.Ieee.Fits.{up_pos, down_pos, and_l, and_r}
use lib.Ieee.Order.{round_mono}
use lib.Ieee.Scale.{finite}
use lib.Ieee.Positive.{num, den, positive, between, le→cross}
use Rattle.laws.specs.Exact.{round_zero}
use Rattle.laws.specs.Bound.{AtMost, Within, Held, round_at_most, within_add, within_mul, within_mono, power_held, at_most_finite}
use Rattle.types.specs.Bits.{f64}
use Rattle.definition.specs.Floats.{◌+d◌, ◌*d◌, ◌/d◌, bw_min, bw_max, narrow}
use Rattle.definition.specs.Gains.{phase_damping, tau, one64, two64, four64, theta, divisor, gain_ki}
use Rattle.definition.specs.Rules.{bw_fits}

-- ---- not negative: +, or a zero
unfoldable pub nonneg : Float → Bool
nonneg nan = false
nonneg (inf s) = false
nonneg (fin false m e) = true
nonneg (fin true m e) = eqb m 0

-- 1 at least
unfoldable pub Above : Float → Type 0
Above nan = ⊥
Above (inf s) = ⊥
Above (fin true m e) = ⊥
Above (fin false m e) = down e ≤ m * up e

odd_nonneg : (d q k l : ℕ) → T (nonneg (odd d false q k l))
unfolding odd nonneg
odd_nonneg d zero k l = tt
odd_nonneg d (suc q) k l = tt

units_nonneg : (f : Format) (q k : ℕ) → T (finite (units f false q k)) → T (nonneg (units f false q k))
unfolding units
units_nonneg f q k = go (ltb (q * 2 ^ k) (2 ^ (low f + suc (emax f))))
  where
    go : (b : Bool) → T (finite (cond b (odd (suc (prec f)) false q k (low f)) (inf false))) → T (nonneg (cond b (odd (suc (prec f)) false q k (low f)) (inf false)))
    go true h = odd_nonneg (suc (prec f)) q k (low f)
    go false h = absurd h

round_nonneg : (f : Format) (a c : ℕ) → T (finite (round f false a c)) → T (nonneg (round f false a c))
unfolding round
round_nonneg f a c h = units_nonneg f _ _ h

zero_nonneg : T (nonneg (fin true 0 (pos 0)))
unfolding nonneg
zero_nonneg = tt

-- the fraction ±a / c, where a is 0 if it is negative
signed_nonneg : (f : Format) (s : Bool) (a c : ℕ) → 0 < c → (s ≡ true → a ≡ 0) → T (finite (round f s a c)) → T (nonneg (round f s a c))
signed_nonneg f false a c C z h = round_nonneg f a c h
signed_nonneg f true a c C z h = subst (λ (x : Float). T (nonneg x)) (sym (ap (λ (n : ℕ). round f true n c) (z refl) ∙ round_zero f true c C)) zero_nonneg

neg_zero : (s : Bool) (m : ℕ) (e : ℤ) → T (nonneg (fin s m e)) → s ≡ true → m ≡ 0
unfolding nonneg
neg_zero true m e h p = eqb→eq m 0 h
neg_zero false m e h p = absurd (subst (λ (b : Bool). T (not b)) p tt)

either : (s t : Bool) → unlike s t ≡ true → (s ≡ true) ⊎ (t ≡ true)
either true t h = inl refl
either false true h = inr refl
either false false h = absurd (subst T (sym h) tt)

mul_zero : (a b : ℕ) → (a ≡ 0) ⊎ (b ≡ 0) → a * b ≡ 0
mul_zero a b (inl p) = ap (λ (n : ℕ). n * b) p ∙ zero-mul b
mul_zero a b (inr p) = mul_comm a b ∙ ap (λ (n : ℕ). n * a) p ∙ zero-mul a

mul_nonneg : (f : Format) (x y : Float) → T (nonneg x) → T (nonneg y) → T (finite (mul f x y)) → T (nonneg (mul f x y))
unfolding mul
mul_nonneg f nan y p q h = unfold nonneg in p
mul_nonneg f (inf s) y p q h = unfold nonneg in absurd p
mul_nonneg f (fin s m e) nan p q h = unfold nonneg in q
mul_nonneg f (fin s m e) (inf t) p q h = unfold nonneg in absurd q
mul_nonneg f (fin s m e) (fin t n d) p q h =
    signed_nonneg f (unlike s t) (m * up e * (n * up d)) (down e * down d) (mul-pos (down_pos e) (down_pos d))
    (λ (u : unlike s t ≡ true). elim (either s t u) [
      | inl a ↦ mul_zero (m * up e) (n * up d) (inl (mul_zero m (up e) (inl (neg_zero s m e p a))))
      | inr a ↦ mul_zero (m * up e) (n * up d) (inr (mul_zero n (up d) (inl (neg_zero t n d q a))))
    ]) h

-- ---- a quotient by 1 or more
unlike_false : (s : Bool) → unlike s false ≡ s
unlike_false true = refl
unlike_false false = refl

shrink : (X l n de k D : ℕ) → X * l ≤ n * de → D ≤ k → X * D * l ≤ n * (k * de)
shrink X l n de k D p q =
    le_trans (le_of_eq (mul_right_comm X D l))
    (le_trans (mul-le-mul p q) (le_of_eq (simp (mul_assoc, mul_comm))))

some : (k u D : ℕ) → 0 < D → D ≤ k * u → k ≡ 0 → ⊥
some k u D p h e = lt_irrefl 0 (lt_of_lt_of_le p (le_trans h (le_of_eq (ap (λ (n : ℕ). n * u) e ∙ zero-mul u))))

div_is : (f : Format) (s : Bool) (m : ℕ) (e : ℤ) (k : ℕ) (d : ℤ) → down d ≤ k * up d
    → div f (fin s m e) (fin false k d) ≡ round f s (m * up e * down d) (k * up d * down e)
unfolding div
div_is f s m e k d h =
    ap (λ (b : Bool). cond b (cond (eqb m 0) nan (inf (unlike s false))) (round f (unlike s false) (m * up e * down d) (k * up d * down e))) (ne_eqb k 0 (some k (up d) (down d) (down_pos d) h))
    ∙ ap (λ (b : Bool). round f b (m * up e * down d) (k * up d * down e)) (unlike_false s)

div_shrinks : (f : Format) (n : ℕ) (x y : Float) → Held f n → Above y → AtMost f n x → AtMost f n (div f x y)
unfolding AtMost Above
div_shrinks f n nan y r a v = absurd v
div_shrinks f n (inf s) y r a v = absurd v
div_shrinks f n (fin s m e) nan r a v = absurd a
div_shrinks f n (fin s m e) (inf t) r a v = absurd a
div_shrinks f n (fin s m e) (fin true k d) r a v = absurd a
div_shrinks f n (fin s m e) (fin false k d) r a v =
    subst (AtMost f n) (sym (div_is f s m e k d a))
    (round_at_most f s (m * up e * down d) (k * up d * down e) n r (mul-pos (lt_of_lt_of_le (down_pos d) a) (down_pos e))
    (shrink (m * up e) (2 ^ low f) n (down e) (k * up d) (down d) v a))

div_nonneg : (f : Format) (x y : Float) → Above y → T (nonneg x) → T (finite (div f x y)) → T (nonneg (div f x y))
unfolding Above
div_nonneg f nan y a p h = unfold nonneg in absurd p
div_nonneg f (inf s) y a p h = unfold nonneg in absurd p
div_nonneg f (fin s m e) nan a p h = absurd a
div_nonneg f (fin s m e) (inf t) a p h = absurd a
div_nonneg f (fin s m e) (fin true k d) a p h = absurd a
div_nonneg f (fin s m e) (fin false k d) a p h =
    subst (λ (x : Float). T (nonneg x)) (sym (div_is f s m e k d a))
    (signed_nonneg f s (m * up e * down d) (k * up d * down e) (mul-pos (lt_of_lt_of_le (down_pos d) a) (down_pos e))
    (λ (u : s ≡ true). mul_zero (m * up e) (down d) (inl (mul_zero m (up e) (inl (neg_zero s m e p u)))))
    (subst (λ (x : Float). T (finite x)) (div_is f s m e k d a) h))

-- ---- a sum of 1 or more and what is not negative
one_rounded : round binary64 false 1 1 ≡ fin false 1 (pos 0)
unfolding round size span climb units odd count_trailing_zeros
one_rounded = refl

or_split : (a b : Bool) → T (a || b) → T a ⊎ T b
or_split true b t = inl tt
or_split false b t = inr t

above_le : (r : Float) → T (finite r) → T (le (fin false 1 (pos 0)) r) → Above r
unfolding le lt eq Above
above_le nan f h = absurd f
above_le (inf s) f h = absurd f
above_le (fin false m e) f h = elim (or_split (ltb (1 * 1 * down e) (m * up e * 1)) _ h) [
  | inl l ↦ le_trans (le_of_eq (sym (one-mul (down e)))) (le_trans (le_of_lt (ltb→lt (1 * 1 * down e) (m * up e * 1) l)) (le_of_eq (mul-one (m * up e))))
  | inr l ↦ le_trans (le_of_eq (sym (one-mul (down e)))) (le_trans (le_of_eq (eqb→eq (1 * 1 * down e) (m * up e * 1) (and_l (eqb (1 * 1 * down e) (m * up e * 1)) _ l))) (le_of_eq (mul-one (m * up e))))
]
above_le (fin true m e) f h =
    lt_irrefl 0 (lt_of_lt_of_le (down_pos e) (le_of_eq (sym (one-mul (down e)) ∙ eqb→eq (1 * 1 * down e) 0 (and_r (eqb (1 * 1 * down e) (m * up e * 1)) (eqb (1 * 1 * down e) 0) h))))

round_above : (a c : ℕ) → 0 < c → c ≤ a → T (finite (round binary64 false a c)) → Above (round binary64 false a c)
round_above a c C h f =
    above_le (round binary64 false a c) f
    (subst (λ (x : Float). T (le x (round binary64 false a c))) one_rounded
    (round_mono binary64 1 1 a c (zero-lt-suc 0) C (le_trans (le_of_eq (one-mul c)) (le_trans h (le_of_eq (sym (mul-one a)))))))

less_sum : (c a b : ℕ) → c ≤ a → c ≤ a + b
less_sum c a b h = omega arith

less_diff : (c a b : ℕ) → c ≤ a → b ≡ 0 → c ≤ a - b
less_diff c a b h e = omega arith

zero_le_any : (a b : ℕ) → b ≡ 0 → b ≤ a
zero_le_any a b e = omega arith

add_above : (x y : Float) → Above x → T (nonneg y) → T (finite (add binary64 x y)) → Above (add binary64 x y)
unfolding Above add sum
add_above nan y a p h = absurd a
add_above (inf s) y a p h = absurd a
add_above (fin true m e) y a p h = absurd a
add_above (fin false m e) nan a p h = absurd h
add_above (fin false m e) (inf t) a p h = absurd h
add_above (fin false m e) (fin false n d) a p h =
    round_above (m * up e * down d + n * up d * down e) (down e * down d) (mul-pos (down_pos e) (down_pos d))
    (less_sum (down e * down d) (m * up e * down d) (n * up d * down e) (mul-le-mul_right (down d) a)) h
add_above (fin false m e) (fin true n d) a p h =
    let A = m * up e * down d in
    let B = n * up d * down e in
    let c = down e * down d in
    let z : B ≡ 0 = mul_zero (n * up d) (down e) (inl (mul_zero n (up d) (inl (neg_zero true n d p refl)))) in
    let q : cond (ltb A B) (round binary64 true (B - A) c) (round binary64 false (A - B) c) ≡ round binary64 false (A - B) c = ap (λ (b : Bool). cond b (round binary64 true (B - A) c) (round binary64 false (A - B) c)) (le-ltb A B (zero_le_any A B z)) in
    subst Above (sym q) (round_above (A - B) c (mul-pos (down_pos e) (down_pos d)) (less_diff c A B (mul-le-mul_right (down d) a) z) (subst (λ (x : Float). T (finite x)) q h))

-- ---- an accepted bandwidth is at most 1, and not negative
zero_value : (m : ℕ) (e : ℤ) → T (eqb (m * up e * 1) (0 * 1 * down e)) → m * up e ≡ 0
zero_value m e h = sym (mul-one (m * up e)) ∙ eqb→eq (m * up e * 1) (0 * 1 * down e) h ∙ zero-mul (down e)

first_zero : (m u : ℕ) → 0 < u → m * u ≡ 0 → T (eqb m 0)
first_zero zero u p h = tt
first_zero (suc m) u p h = absurd (lt_irrefl 0 (lt_of_lt_of_le (mul-pos (zero-lt-suc m) p) (le_of_eq h)))

record Band (bw : Float) : Type 0 where
  within : Within binary64 0 bw
  sign : T (nonneg bw)

band_zero : (bw : Float) → T (eq bw (f64 0)) → Band bw
unfolding eq of_bits of_fields odd
band_zero nan h = absurd h
band_zero (inf s) h = absurd h
band_zero (fin s m e) h =
    let z = zero_value m e (and_l (eqb (m * up e * 1) (0 * 1 * down e)) _ h) in
    record {
      within = unfold AtMost in (le_trans (le_of_eq (ap (λ (n : ℕ). n * 2 ^ 1074) z ∙ zero-mul (2 ^ 1074))) (zero_le_any (2 ^ 1074 * down e) 0 refl));
      sign = go s z;
    }
  where
    go : (s : Bool) → m * up e ≡ 0 → T (nonneg (fin s m e))
    go true z = unfold nonneg in (first_zero m (up e) (up_pos e) z)
    go false z = unfold nonneg in tt

positive_nonneg : (x : Float) → T (positive x) → T (nonneg x)
unfolding nonneg
positive_nonneg nan h = h
positive_nonneg (inf s) h = absurd h
positive_nonneg (fin true m e) h = absurd h
positive_nonneg (fin false m e) h = tt

within_max : (x : Float) → T (positive x) → num x * den bw_max ≤ num bw_max * den x → Within binary64 0 x
unfolding AtMost of_bits of_fields odd count_trailing_zeros
within_max nan h c = absurd h
within_max (inf s) h c = absurd h
within_max (fin true m e) h c = absurd h
within_max (fin false m e) h c = le_of_mul-le-mul_right (cross (m * up e) (down e) (2 ^ 1074) (num (f64 0x3fc9_9999_9999_999a)) (den (f64 0x3fc9_9999_9999_999a)) (lit≤ tt) c) (lit≤ tt)
  where
    cross : (X de l a b : ℕ) → a ≤ b → X * b ≤ a * de → X * l * b ≤ l * de * b
    cross X de l a b h c = le_trans (le_of_eq (mul_right_comm X l b)) (le_trans (mul-le-mul_right l (le_trans c (mul-le-mul_right de h))) (le_of_eq (simp (mul_assoc, mul_comm))))

min_positive : T (positive bw_min)
unfolding of_bits of_fields odd count_trailing_zeros
min_positive = tt

max_positive : T (positive bw_max)
unfolding of_bits of_fields odd count_trailing_zeros
max_positive = tt

band : (bw : Float) → T (bw_fits bw) → Band bw
unfolding bw_fits
band bw h = elim (or_split (eq bw (f64 0)) (le bw_min bw && le bw bw_max) h) [
  | inl z ↦ band_zero bw z
  | inr b ↦
      let lo = and_l (le bw_min bw) (le bw bw_max) b in
      let hi = and_r (le bw_min bw) (le bw bw_max) b in
      let p = between bw_min bw bw_max min_positive max_positive lo hi in
      record { within = within_max bw p (le→cross bw bw_max p max_positive hi); sign = positive_nonneg bw p }
]

-- ---- the gain
const_above : Above (phase_damping +d one64 /d (four64 *d phase_damping))
unfolding Above of_bits of_fields odd count_trailing_zeros size span climb round units sum add mul div
const_above = lit≤ tt

tau_above : Above tau
unfolding Above of_bits of_fields odd count_trailing_zeros
tau_above = lit≤ tt

one_above : Above one64
unfolding Above of_bits of_fields odd count_trailing_zeros
one_above = lit≤ tt

one_within : Within binary64 1 one64
unfolding AtMost of_bits of_fields odd count_trailing_zeros
one_within = lit≤ tt

four_within : Within binary64 2 four64
unfolding AtMost of_bits of_fields odd count_trailing_zeros
four_within = lit≤ tt

twice_within : Within binary64 1 (two64 *d phase_damping)
unfolding AtMost of_bits of_fields odd count_trailing_zeros size span climb round units mul
twice_within = lit≤ tt

twice_nonneg : T (nonneg (two64 *d phase_damping))
unfolding nonneg of_bits of_fields odd count_trailing_zeros size span climb round units mul
twice_nonneg = tt

finite_of : (k : ℕ) (x : Float) → Within binary64 k x → T (finite x)
finite_of k x v = at_most_finite binary64 (2 ^ (k + 1074)) x v

theta_band : (bw : Float) → Band bw → Band (theta bw phase_damping)
unfolding theta
theta_band bw b =
    let K = phase_damping +d one64 /d (four64 *d phase_damping) in
    let w : Within binary64 0 (bw /d K) = div_shrinks binary64 (2 ^ (0 + 1074)) bw K (power_held binary64 0 (lit≤ tt)) const_above b.within in
    record { within = w; sign = div_nonneg binary64 bw K const_above b.sign (finite_of 0 (bw /d K) w) }

module _ (t : Float) (b : Band t) where
  square-within : Within binary64 0 (t *d t)
  square-within = within_mul binary64 0 0 t t (lit≤ tt) b.within b.within

  square-nonneg : T (nonneg (t *d t))
  square-nonneg = mul_nonneg binary64 t t b.sign b.sign (finite_of 0 (t *d t) square-within)

  divisor-above : Above (divisor t phase_damping)
  unfolding divisor
  divisor-above =
      let c = two64 *d phase_damping in
      let u : Within binary64 1 (c *d t) = within_mul binary64 1 0 c t (lit≤ tt) twice_within b.within in
      let s : Within binary64 2 (one64 +d c *d t) = within_add binary64 1 one64 (c *d t) (lit≤ tt) one_within u in
      let n : T (nonneg (c *d t)) = mul_nonneg binary64 c t twice_nonneg b.sign (finite_of 1 (c *d t) u) in
      let a : Above (one64 +d c *d t) = add_above one64 (c *d t) one_above n (finite_of 2 (one64 +d c *d t) s) in
      add_above (one64 +d c *d t) (t *d t) a square-nonneg
      (finite_of 3 (one64 +d c *d t +d t *d t) (within_add binary64 2 (one64 +d c *d t) (t *d t) (lit≤ tt) s (within_mono binary64 0 2 (t *d t) (lit≤ tt) square-within)))

  quotient-within : Within binary64 2 ((four64 *d (t *d t)) /d divisor t phase_damping /d tau)
  quotient-within =
      div_shrinks binary64 (2 ^ (2 + 1074)) ((four64 *d (t *d t)) /d divisor t phase_damping) tau (power_held binary64 2 (lit≤ tt)) tau_above
      (div_shrinks binary64 (2 ^ (2 + 1074)) (four64 *d (t *d t)) (divisor t phase_damping) (power_held binary64 2 (lit≤ tt)) divisor-above
      (within_mul binary64 2 0 four64 (t *d t) (lit≤ tt) four_within square-within))

narrow_finite : (x : Float) → Within binary64 2 x → T (finite (narrow x))
unfolding narrow AtMost
narrow_finite nan h = absurd h
narrow_finite (inf s) h = absurd h
narrow_finite (fin s m e) h =
    at_most_finite binary32 (2 ^ 151) (round binary32 s (m * up e) (down e))
    (round_at_most binary32 s (m * up e) (down e) (2 ^ 151) (power_held binary32 2 (lit≤ tt)) (down_pos e)
    (le_of_mul-le-mul_right (grow (m * up e) (down e) (2 ^ 1074) (2 ^ 149) (2 ^ 1076) (2 ^ 151) (le_of_eq refl) h) (pow_pos 1074)))
  where
    grow : (X de l k a b : ℕ) → a * k ≤ b * l → X * l ≤ a * de → X * k * l ≤ b * de * l
    grow X de l k a b q h =
        le_trans (le_of_eq (mul_right_comm X k l)) (le_trans (mul-le-mul_right k h) (le_trans (le_of_eq (mul_right_comm a de k)) (le_trans (mul-le-mul_right de q) (le_of_eq (mul_right_comm b l de)))))

pub ki_finite : (bw : Float) → T (bw_fits bw) → T (finite (gain_ki bw phase_damping))
unfolding gain_ki
ki_finite bw h = narrow_finite _ (quotient-within (theta bw phase_damping) (theta_band bw (band bw h)))
