-- What the code of the phase step works out, against the definition. Assumes nothing.
use Rattle.std.proofs.Common.{◌≡◌, ℕ, suc, ◌+◌, ◌-◌, ◌*◌, ◌/◌, ◌%◌, ◌^◌, ◌<◌, ◌≤◌, Bool, true, false, cond, not, T, leb, sym, refl, ap, ◌∙◌, subst, inl, inr, le_trans, lt_trans, le_of_eq, le_refl, lt_of_lt_of_le, le-add_right, lt_of_le_of_lt, add-le-add, mod-lt, mul_assoc, div-lt_iff_lt-mul, mul-le-mul, pow-suc, le-div_iff_mul-le, mul_left_comm, arith, lit<, lit≤, pow_pos, pow_mono, pow-add, shl_lt, shl_exact}
use native.Mathlib.Nat.{mul-mod_left, div-eq_of_lt, pow-succ', div-div-eq-div-mul, add-div_right}
use lib.Pow.{field}
use lib.Bits.{bit_and, bit_or, and_mask, or_shifted_r}
use lib.Ieee.{Float, nan, inf, fin, binary32, fits, is_nan, to_bits}
use lib.Ieee.Exact.{HasValue}
use Rattle.std.specs.Float.{is_sign_negative}
use Rattle.laws.specs.Fields.{View, view}
use Rattle.definition.specs.Phase.{phase_step, step_int}
use Rattle.costas_step.specs.HalfUp.{half_up}
use Rattle.costas_step.proofs.Halves.{bit, bit_le, twice, out, step_value, mag_whole, mag_part, mag_more}

-- ---- `magnitude`

shift_split : (x : ℕ) → 150 ≤ x → x - 118 ≡ (x - 150) + 32
shift_split x h = omega arith

below150 : 118 ≤ 150
below150 = lit≤ tt

pub far : (n g x : ℕ) → n ≤ 1 → 150 ≤ x → 0 ≡ half_up n (g * 2 ^ x) (2 ^ 118) % 2 ^ 32
far n g x h l =
    sym (ap (λ (y : ℕ). y % 2 ^ 32) (mag_whole n g x h (le_trans below150 l) ∙ ap (λ (y : ℕ). g * 2 ^ y) (shift_split x l) ∙ ap (λ (y : ℕ). g * y) (pow-add 2 (x - 150) 32) ∙ sym (mul_assoc g (2 ^ (x - 150)) (2 ^ 32)))
    ∙ mul-mod_left (g * 2 ^ (x - 150)) (2 ^ 32))

pub whole : (n g x : ℕ) → n ≤ 1 → 118 ≤ x → g * 2 ^ (x - 118) % 2 ^ 32 ≡ half_up n (g * 2 ^ x) (2 ^ 118) % 2 ^ 32
whole n g x h l = ap (λ (y : ℕ). y % 2 ^ 32) (sym (mag_whole n g x h l))

-- below 2 ^ 14: the digits are shifted up by 39, so that one shift down serves every exponent
module _ (n g x : ℕ) (n1 : n ≤ 1) (lo : 94 ≤ x) (hi : x ≤ 140) (g1 : 1 ≤ g) (g24 : g < 2 ^ 24) where
  abbrev S : ℕ
  S = g * 2 ^ 39

  abbrev P : ℕ
  P = 2 ^ (156 - x)

  up_is : g * 2 ^ 39 % 2 ^ 64 ≡ S
  up_is = shl_exact 24 39 64 g24 (lit≤ tt)

  below : x < 157
  below = omega arith

  next : 157 - x ≡ suc (156 - x)
  next = omega arith

  moved : (p : ℕ) → S + p - n ≡ S - n + p
  moved p = omega arith

  halved : (S + P - n) / 2 ^ (157 - x) ≡ ((S - n) / P + 1) / 2
  halved =
      ap (λ (y : ℕ). (S + P - n) / 2 ^ y) next
      ∙ ap (λ (y : ℕ). (S + P - n) / y) (pow-suc 2 (156 - x))
      ∙ sym (div-div-eq-div-mul (S + P - n) P 2)
      ∙ ap (λ (y : ℕ). y / P / 2) (moved P)
      ∙ ap (λ (y : ℕ). y / 2) (add-div_right (S - n) (pow_pos (156 - x)))

  pub part : bit_and (((g * 2 ^ 39 % 2 ^ 64 - n) / 2 ^ (156 - x) + 1) / 2) (2 ^ 32 - 1) ≡ half_up n (g * 2 ^ x) (2 ^ 118) % 2 ^ 32
  part =
      and_mask (((g * 2 ^ 39 % 2 ^ 64 - n) / P + 1) / 2) 32
      ∙ ap (λ (y : ℕ). y % 2 ^ 32) (ap (λ (y : ℕ). ((y - n) / P + 1) / 2) up_is ∙ sym halved ∙ sym (mag_part 157 n S x n1 below) ∙ mag_more n g x n1)

-- ---- the size of a / 2 ^ 118 rounded

near_zero : (n a c : ℕ) → 2 * a < c → (2 * a + c - n) < 2 * c
near_zero n a c h = omega arith

rounds_to_zero : (n a c : ℕ) → 2 * a < c → half_up n a c ≡ 0
rounds_to_zero n a c h = div-eq_of_lt (near_zero n a c h)

-- c is a variable here, since `omega` refuses numbers of more than 38 digits
big : (n a c q : ℕ) → n ≤ 1 → 0 < c → q ≤ a → 2 * q ≤ 2 * a + c - n
big n a c q h p l = omega arith

rounds_big : (n a c k : ℕ) → n ≤ 1 → 0 < c → k * c ≤ a → k ≤ half_up n a c
rounds_big n a c k h p l = (le-div_iff_mul-le (twice c p)).1 (le_trans (le_of_eq (mul_left_comm k 2 c)) (big n a c (k * c) h p l))

fine : (n a c q : ℕ) → 0 < c → a + c ≤ q → 2 * a + c - n < 2 * q
fine n a c q h l = omega arith

rounds_fine : (n a c k : ℕ) → 0 < c → a + c ≤ k * c → half_up n a c < k
rounds_fine n a c k p l = (div-lt_iff_lt-mul (twice c p)).1 (lt_of_lt_of_le (fine n a c (k * c) p l) (le_of_eq (sym (mul_left_comm k 2 c))))

-- ---- the fields, as the code takes them

pub exp_is : (b : ℕ) → b % 2 ^ 31 / 2 ^ 23 ≡ bit_and (b / 2 ^ 23) (2 ^ 8 - 1)
exp_is b = field b 8 23 ∙ sym (and_mask (b / 2 ^ 23) 8)

pub sig_is : (b : ℕ) → 2 ^ 23 + b % 2 ^ 23 ≡ bit_or (bit_and b (2 ^ 23 - 1)) (2 ^ 23)
sig_is b = sym (ap (λ (k : ℕ). bit_or k (2 ^ 23)) (and_mask b 23) ∙ or_shifted_r 1 23 (b % 2 ^ 23) (mod-lt b (pow_pos 23)))

lead : (t : ℕ) → t < 2 ^ 23 → 2 ^ 23 + t < 2 ^ 24
lead t h = omega arith

pub sig_lt : (b : ℕ) → bit_or (bit_and b (2 ^ 23 - 1)) (2 ^ 23) < 2 ^ 24
sig_lt b = subst (λ (y : ℕ). y < 2 ^ 24) (sig_is b) (lead (b % 2 ^ 23) (mod-lt b (pow_pos 23)))

-- ---- the three answers

-- the held low bits of a magnitude
out_fine : (s : Bool) (k : ℕ) → k < 2 ^ 63 → out s k ≡ cond s ((2 ^ 32 - k % 2 ^ 32) % 2 ^ 32) (k % 2 ^ 32)
out_fine false k h = omega arith
out_fine true k h = omega arith

top_low : (k : ℕ) → 2 ^ 63 ≤ k → 4294967295 ≡ out false k
top_low k h = omega arith

bottom_low : (k : ℕ) → 2 ^ 63 ≤ k → 0 ≡ out true k
bottom_low k h = omega arith

zero_out : (s : Bool) → 0 ≡ out s 0
zero_out true = refl
zero_out false = refl

-- twice the digits times 2 ^ j, below a field of 94
little : (d j : ℕ) → d < 2 ^ 24 → suc j < 94 → 2 * (2 * (d * 2 ^ j)) < 2 ^ 118
little d j h l =
    lt_of_le_of_lt (le_of_eq (four (d * 2 ^ j) ∙ mul_assoc d (2 ^ j) 4 ∙ ap (λ (y : ℕ). d * y) (sym (pow-add 2 j 2))))
    (lt_of_lt_of_le (shl_lt 24 (j + 2) h) (pow_mono (room j l)))
  where
    four : (y : ℕ) → 2 * (2 * y) ≡ y * 4
    four y = omega arith

    room : (j : ℕ) → suc j < 94 → 24 + (j + 2) ≤ 118
    room j l = omega arith

double : (d j : ℕ) → 2 * (d * 2 ^ j) ≡ d * 2 ^ suc j
double d j = mul_left_comm 2 d (2 ^ j) ∙ ap (λ (y : ℕ). d * y) (sym (pow-succ' 2 j))

abbrev Answers : Float → Bool → ℕ → ℕ → Type 0
Answers v s x g =
    (x < 94 → 0 ≡ phase_step v)
    × (158 ≤ x → cond s 0 4294967295 ≡ phase_step v)
    × (94 ≤ x → x < 158 → phase_step v ≡ out s (half_up (bit s) (g * 2 ^ x) (2 ^ 118)))

of_inf : (s : Bool) → cond s 0 4294967295 ≡ phase_step (inf s)
unfolding phase_step step_int
of_inf true = refl
of_inf false = refl

at_top : (s : Bool) (k : ℕ) → 2 ^ 63 ≤ k → cond s 0 4294967295 ≡ out s k
at_top true k h = bottom_low k h
at_top false k h = top_low k h

no_top : (x : ℕ) → x ≡ 255 → x < 158 → ⊥
no_top x a b = omega arith

zero_low : (x : ℕ) → x ≡ 0 → 94 ≤ x → ⊥
zero_low x a b = omega arith

answers : (v : Float) (s : Bool) (x t : ℕ) → t < 2 ^ 23 → View binary32 s x t v → Answers v s x (2 ^ 23 + t)
answers v s x t h (inl z) = (
  λ l. zero_out s ∙ sym (step_value v s t z.1 ∙ ap (out s) (rounds_to_zero (bit s) (2 * t) (2 ^ 118) (lt_trans (small t h) (lit< tt)))),
  λ l. absurd (zero_low x z.0 (le_trans (lit≤ tt) l)),
  λ l k. absurd (zero_low x z.0 l),
)
  where
    small : (t : ℕ) → t < 2 ^ 23 → 2 * (2 * t) < 2 ^ 25
    small t h = omega arith
answers v s x t h (inr (inl z)) =
    let j = z.0 in
    let d = 2 ^ 23 + t in
    let D : d < 2 ^ 24 = lead t h in
    let is = step_value v s (d * 2 ^ j) z.3 in
    let is' : phase_step v ≡ out s (half_up (bit s) (d * 2 ^ x) (2 ^ 118)) = is ∙ ap (λ (y : ℕ). out s (half_up (bit s) y (2 ^ 118))) (double d j ∙ ap (λ (y : ℕ). d * 2 ^ y) (sym z.1)) in (
      λ l. zero_out s ∙ sym (is ∙ ap (out s) (rounds_to_zero (bit s) (2 * (d * 2 ^ j)) (2 ^ 118) (little d j D (subst (λ (y : ℕ). y < 94) z.1 l)))),
      λ l. at_top s (half_up (bit s) (d * 2 ^ x) (2 ^ 118)) (rounds_big (bit s) (d * 2 ^ x) (2 ^ 118) (2 ^ 63) (bit_le s) (pow_pos 118) (le_trans (le_of_eq split181) (mul-le-mul (le-add_right (2 ^ 23) t) (pow_mono l)))) ∙ sym is',
      λ l k. is',
    )
  where
    split181 : 2 ^ 63 * 2 ^ 118 ≡ 2 ^ 23 * 2 ^ 158
    split181 = refl
answers v s x t h (inr (inr z)) = (
  λ l. absurd (no_top x z.0 (lt_trans l (lit< tt))),
  λ l. of_inf s ∙ sym (ap phase_step z.1),
  λ l k. absurd (no_top x z.0 k),
)

-- the sign of a value
valued : (v : Float) (t : Bool) (k c : ℕ) → HasValue v t k c → is_sign_negative v ≡ t
unfolding is_sign_negative
valued nan t k c h = absurd h
valued (inf s) t k c h = absurd h
valued (fin s m e) t k c h = h.0

of_infinity : (t : Bool) → is_sign_negative (inf t) ≡ t
unfolding is_sign_negative
of_infinity t = refl

pub of_nan : (x : Float) (b : Bool) → b ≡ is_nan x → b ≡ true → 0 ≡ phase_step x
unfolding phase_step step_int is_nan
of_nan nan b e h = refl
of_nan (inf s) b e h = absurd (subst T (sym h ∙ e) tt)
of_nan (fin s m k) b e h = absurd (subst T (sym h ∙ e) tt)

module _ (v : Float) (fit : fits binary32 v ≡ true) (none : is_nan v ≡ false) where
  F : T (fits binary32 v)
  F = subst T (sym fit) tt

  N : T (not (is_nan v))
  N = subst (λ (b : Bool). T (not b)) (sym none) tt

  abbrev b : ℕ
  b = to_bits binary32 v

  abbrev x : ℕ
  x = bit_and (b / 2 ^ 23) (2 ^ 8 - 1)

  abbrev g : ℕ
  g = bit_or (bit_and b (2 ^ 23 - 1)) (2 ^ 23)

  abbrev s : Bool
  s = leb (2 ^ 31) b

  a : Answers v s x g
  a =
      subst (λ (y : ℕ). Answers v s x y) (sig_is b)
      (subst (λ (y : ℕ). Answers v s y (2 ^ 23 + b % 2 ^ 23)) (exp_is b)
      (answers v s (b % 2 ^ 31 / 2 ^ 23) (b % 2 ^ 23) (mod-lt b (pow_pos 23)) (view binary32 v F N)))

  pub tiny : x < 94 → 0 ≡ phase_step v
  tiny l = a.0 l

  -- the sign
  sign_seen : (t : Bool) (y z : ℕ) → View binary32 t y z v → is_sign_negative v ≡ t
  sign_seen t y z (inl h) = valued v t z (2 ^ 149) h.1
  sign_seen t y z (inr (inl h)) = valued v t ((2 ^ 23 + z) * 2 ^ h.0) (2 ^ 149) h.3
  sign_seen t y z (inr (inr h)) = ap is_sign_negative h.1 ∙ of_infinity t

  sign_is : is_sign_negative v ≡ s
  sign_is = sign_seen s (b % 2 ^ 31 / 2 ^ 23) (b % 2 ^ 23) (view binary32 v F N)

  in-range : (n : ℕ) → x < 158 → half_up n (g * 2 ^ x) (2 ^ 118) < 2 ^ 63
  in-range n l = rounds_fine n (g * 2 ^ x) (2 ^ 118) (2 ^ 63) (pow_pos 118) (le_trans (add-le-add (mul-le-mul (below (g) (sig_lt b)) (pow_mono (under x l))) (le_refl (2 ^ 118))) (lit≤ tt))
    where
      below : (d : ℕ) → d < 2 ^ 24 → d ≤ 2 ^ 24 - 1
      below d h = omega arith

      under : (x : ℕ) → x < 158 → x ≤ 157
      under x h = omega arith

  abbrev Middle : Bool → Type 0
  Middle r = phase_step v ≡ cond r ((2 ^ 32 - half_up (bit r) (g * 2 ^ x) (2 ^ 118) % 2 ^ 32) % 2 ^ 32) (half_up (bit r) (g * 2 ^ x) (2 ^ 118) % 2 ^ 32)

  middle : 94 ≤ x → x < 158 → Middle s
  middle l k = a.2 l k ∙ out_fine s (half_up (bit s) (g * 2 ^ x) (2 ^ 118)) (in-range (bit s) k)

  module _ (minus : Bool) (is : minus ≡ is_sign_negative v) where
    sign : (t : Bool) → minus ≡ t → s ≡ t
    sign t h = sym sign_is ∙ sym is ∙ h

    pub huge : 158 ≤ x → minus ≡ false → 4294967295 ≡ phase_step v
    huge l h = subst (λ (r : Bool). cond r 0 4294967295 ≡ phase_step v) (sign false h) (a.1 l)

    pub huge_minus : 158 ≤ x → minus ≡ true → 0 ≡ phase_step v
    huge_minus l h = subst (λ (r : Bool). cond r 0 4294967295 ≡ phase_step v) (sign true h) (a.1 l)

    module _ (m : ℕ) (q : m ≡ half_up (bit minus) (g * 2 ^ x) (2 ^ 118) % 2 ^ 32) (l : 94 ≤ x) (k : x < 158) where
      pub plain : minus ≡ false → m ≡ phase_step v
      plain h = q ∙ ap (λ (t : Bool). half_up (bit t) (g * 2 ^ x) (2 ^ 118) % 2 ^ 32) h ∙ sym (subst Middle (sign false h) (middle l k))

      wrapped : (r m : ℕ) → r < 2 ^ 32 → m < 2 ^ 32 → (r + m) % 2 ^ 32 ≡ 0 → r ≡ (2 ^ 32 - m) % 2 ^ 32
      wrapped r m p q e = omega arith

      pub negated : minus ≡ true → (r : ℕ) → r < 2 ^ 32 → (r + m) % 2 ^ 32 ≡ 0 → r ≡ phase_step v
      negated h r p e =
          let c : m < 2 ^ 32 = subst (λ (y : ℕ). y < 2 ^ 32) (sym q) (mod-lt (half_up (bit minus) (g * 2 ^ x) (2 ^ 118)) (pow_pos 32)) in
          wrapped r m p c e
          ∙ ap (λ (y : ℕ). (2 ^ 32 - y) % 2 ^ 32) (q ∙ ap (λ (t : Bool). half_up (bit t) (g * 2 ^ x) (2 ^ 118) % 2 ^ 32) h)
          ∙ sym (subst Middle (sign true h) (middle l k))
