-- The phase step by the magnitude, and at a fraction of 2 ^ 118. Assumes nothing.
use Rattle.std.proofs.Common.{◌≡◌, ℕ, zero, suc, ◌+◌, ◌-◌, ◌*◌, ◌/◌, ◌%◌, ◌^◌, ◌<◌, ◌≤◌, min, Bool, true, false, cond, not, T, leb, pos, negsuc, sym, refl, ap, ◌∙◌, zero-le, le_trans, le_of_eq, le_of_suc-le-suc, mul-le-mul_right, mul_assoc, lt-suc_self, mul_comm, div-lt_iff_lt-mul, add-mul, le_antisymm, mul-one, mul_right_comm, le_of_mul-le-mul_right, mul_left_comm, arith, leb→le, pow_pos, pow-add}
use native.Mathlib.Nat.{div-eq_of_lt, add-div_right, div-div-eq-div-mul, two-pow-succ, mul-mul-mul_comm}
use lib.Dec.{nleb→lt}
use lib.Ieee.{Float, nan, inf, fin, up, down}
use lib.Ieee.Fits.{down_pos}
use lib.Ieee.Nearest.{div_same}
use lib.Ieee.Exact.{HasValue}
use Rattle.definition.specs.Phase.{floor_of, held, low_bits, signed_sum, step_int, phase_step}
use Rattle.costas_step.specs.HalfUp.{half_up}

-- ---- the magnitude, and what becomes of it

abbrev pub bit : Bool → ℕ
bit s = cond s 1 0

abbrev pub out : Bool → ℕ → ℕ
out false k = min k (2 ^ 63 - 1) % 2 ^ 32
out true k = (2 ^ 32 - min k (2 ^ 63) % 2 ^ 32) % 2 ^ 32

pub bit_le : (s : Bool) → bit s ≤ 1
bit_le true = le_of_eq refl
bit_le false = zero-le

pub twice : (c : ℕ) → 0 < c → 0 < 2 * c
twice c h = omega arith

turn : (n : ℕ) → 2 ^ 32 - 1 - min n (2 ^ 63 - 1) % 2 ^ 32 ≡ (2 ^ 32 - min (n + 1) (2 ^ 63) % 2 ^ 32) % 2 ^ 32
turn n = omega arith

regroup : (a c : ℕ) → c < 2 * a → 2 * a - suc c + 2 * c ≡ 2 * a + c - 1
regroup a c h = omega arith

by_magnitude : (s : Bool) (a c : ℕ) → 0 < c → low_bits (held (floor_of (signed_sum s (2 * a) c) (2 * c))) ≡ out s (half_up (bit s) a c)
by_magnitude false a c h = ap (λ (x : ℕ). min (x / (2 * c)) (2 ^ 63 - 1) % 2 ^ 32) (swap a c)
  where
    swap : (a c : ℕ) → c + 2 * a ≡ 2 * a + c - 0
    swap a c = omega arith
by_magnitude true a c h = go (leb (2 * a) c) (leb→le (2 * a) c) (nleb→lt (2 * a) c)
  where
    small : (a c : ℕ) → 2 * a ≤ c → 0 < c → c - 2 * a < 2 * c
    small a c l p = omega arith

    small' : (a c : ℕ) → 2 * a ≤ c → 0 < c → 2 * a + c - 1 < 2 * c
    small' a c l p = omega arith

    go : (b : Bool) → (T b → 2 * a ≤ c) → (T (not b) → c < 2 * a)
        → low_bits (held (floor_of (cond b (pos (c - 2 * a)) (negsuc (2 * a - suc c))) (2 * c))) ≡ out true (half_up 1 a c)
    go true l g =
        ap (λ (x : ℕ). min x (2 ^ 63 - 1) % 2 ^ 32) (div-eq_of_lt (small a c (l tt) h))
        ∙ sym (ap (λ (x : ℕ). (2 ^ 32 - min x (2 ^ 63) % 2 ^ 32) % 2 ^ 32) (div-eq_of_lt (small' a c (l tt) h)))
    go false l g =
        turn ((2 * a - suc c) / (2 * c))
        ∙ ap (λ (x : ℕ). (2 ^ 32 - min x (2 ^ 63) % 2 ^ 32) % 2 ^ 32)
        (sym (add-div_right (2 * a - suc c) (twice c h)) ∙ ap (λ (x : ℕ). x / (2 * c)) (regroup a c (g tt)))

-- ---- a half up or down, of equal fractions

pred_div_le : (n d n' d' : ℕ) → 0 < d → 0 < d' → suc n * d' ≡ suc n' * d → n / d ≤ n' / d'
pred_div_le n d n' d' D D' e =
    let k = suc (n' / d') in
    let a : n' < k * d' = (div-lt_iff_lt-mul D').0 (lt-suc_self (n' / d')) in
    let b : suc n * d' ≤ k * d * d' = le_trans (le_of_eq e) (le_trans (mul-le-mul_right d a) (le_of_eq (mul_right_comm k d' d))) in
    le_of_suc-le-suc ((div-lt_iff_lt-mul D).1 (le_of_mul-le-mul_right b D'))

pred_div_same : (n d n' d' : ℕ) → 0 < d → 0 < d' → suc n * d' ≡ suc n' * d → n / d ≡ n' / d'
pred_div_same n d n' d' D D' e = le_antisymm (pred_div_le n d n' d' D D' e) (pred_div_le n' d' n d D' D (sym e))

cross : (a c c' : ℕ) → (2 * a + c) * (2 * c') ≡ 4 * (a * c') + 2 * (c * c')
cross a c c' = add-mul (2 * a) c (2 * c') ∙ ap (λ (x : ℕ). x + c * (2 * c')) (mul-mul-mul_comm 2 a 2 c') ∙ ap (λ (x : ℕ). 4 * (a * c') + x) (mul_left_comm c 2 c')

crossed : (a c a' c' : ℕ) → a * c' ≡ a' * c → (2 * a + c) * (2 * c') ≡ (2 * a' + c') * (2 * c)
crossed a c a' c' e = cross a c c' ∙ ap (λ (x : ℕ). 4 * x + 2 * (c * c')) e ∙ ap (λ (x : ℕ). 4 * (a' * c) + 2 * x) (mul_comm c c') ∙ sym (cross a' c' c)

less_none : (x : ℕ) → x - 0 ≡ x
less_none x = omega arith

up_one : (a c : ℕ) → 0 < c → suc (2 * a + c - 1) ≡ 2 * a + c
up_one a c h = omega arith

not_two : (n : ℕ) → suc (suc n) ≤ 1 → ⊥
not_two n h = omega arith

pub half_same : (n a c a' c' : ℕ) → n ≤ 1 → 0 < c → 0 < c' → a * c' ≡ a' * c → half_up n a c ≡ half_up n a' c'
half_same zero a c a' c' n C C' e =
    div_same (2 * a + c - 0) (2 * c) (2 * a' + c' - 0) (2 * c') (twice c C) (twice c' C')
    (ap (λ (x : ℕ). x * (2 * c')) (less_none (2 * a + c)) ∙ crossed a c a' c' e ∙ ap (λ (x : ℕ). x * (2 * c)) (sym (less_none (2 * a' + c'))))
half_same (suc zero) a c a' c' n C C' e =
    pred_div_same (2 * a + c - 1) (2 * c) (2 * a' + c' - 1) (2 * c') (twice c C) (twice c' C')
    (ap (λ (x : ℕ). x * (2 * c')) (up_one a c C) ∙ crossed a c a' c' e ∙ ap (λ (x : ℕ). x * (2 * c)) (sym (up_one a' c' C')))
half_same (suc (suc k)) a c a' c' n C C' e = absurd (not_two k n)

half_whole : (n a : ℕ) → n ≤ 1 → half_up n a 1 ≡ a
half_whole n a h = omega arith

halved : (n a p q : ℕ) → n ≤ 1 → 0 < p → q ≡ p + p → (2 * a + q - n) / 2 ≡ a + p - n
halved n a p q h P e = omega arith

half_shift : (n a j : ℕ) → n ≤ 1 → half_up n a (2 ^ suc j) ≡ (a + 2 ^ j - n) / 2 ^ suc j
half_shift n a j h = sym (div-div-eq-div-mul (2 * a + 2 ^ suc j - n) 2 (2 ^ suc j)) ∙ ap (λ (x : ℕ). x / 2 ^ suc j) (halved n a (2 ^ j) (2 ^ suc j) h (pow_pos j) (two-pow-succ j))

-- ---- sig * 2 ^ exp / 2 ^ 118, as the code has it

rejoin : (x : ℕ) → 118 ≤ x → x - 118 + 118 ≡ x
rejoin x h = omega arith

pub mag_whole : (n g x : ℕ) → n ≤ 1 → 118 ≤ x → half_up n (g * 2 ^ x) (2 ^ 118) ≡ g * 2 ^ (x - 118)
mag_whole n g x h l =
    half_same n (g * 2 ^ x) (2 ^ 118) (g * 2 ^ (x - 118)) 1 h (pow_pos 118) (pow_pos 0)
    (mul-one (g * 2 ^ x) ∙ ap (λ (y : ℕ). g * 2 ^ y) (sym (rejoin x l)) ∙ ap (λ (y : ℕ). g * y) (pow-add 2 (x - 118) 118) ∙ sym (mul_assoc g (2 ^ (x - 118)) (2 ^ 118)))
    ∙ half_whole n (g * 2 ^ (x - 118)) h

under : (l x : ℕ) → x < l → x + suc (l - 1 - x) ≡ l
under l x h = omega arith

to_suc : (l x : ℕ) → x < l → suc (l - 1 - x) ≡ l - x
to_suc l x h = omega arith

pub mag_part : (l n g x : ℕ) → n ≤ 1 → x < l → half_up n (g * 2 ^ x) (2 ^ l) ≡ (g + 2 ^ (l - 1 - x) - n) / 2 ^ (l - x)
mag_part l n g x h k =
    half_same n (g * 2 ^ x) (2 ^ l) g (2 ^ suc (l - 1 - x)) h (pow_pos l) (pow_pos (suc (l - 1 - x)))
    (mul_assoc g (2 ^ x) (2 ^ suc (l - 1 - x)) ∙ ap (λ (y : ℕ). g * y) (sym (pow-add 2 x (suc (l - 1 - x))) ∙ ap (λ (y : ℕ). 2 ^ y) (under l x k)))
    ∙ half_shift n g (l - 1 - x) h
    ∙ ap (λ (y : ℕ). (g + 2 ^ (l - 1 - x) - n) / 2 ^ y) (to_suc l x k)

-- with 39 digits more
pub mag_more : (n g x : ℕ) → n ≤ 1 → half_up n (g * 2 ^ 39 * 2 ^ x) (2 ^ 157) ≡ half_up n (g * 2 ^ x) (2 ^ 118)
mag_more n g x h =
    half_same n (g * 2 ^ 39 * 2 ^ x) (2 ^ 157) (g * 2 ^ x) (2 ^ 118) h (pow_pos 157) (pow_pos 118)
    (ap (λ (y : ℕ). y * 2 ^ 118) (mul_right_comm g (2 ^ 39) (2 ^ x)) ∙ mul_assoc (g * 2 ^ x) (2 ^ 39) (2 ^ 118))

-- ---- a value of a / 2 ^ 149

abbrev Step : Float → Bool → ℕ → Type 0
Step v s a = phase_step v ≡ out s (half_up (bit s) (2 * a) (2 ^ 118))

pub step_value : (v : Float) (s : Bool) (a : ℕ) → HasValue v s a (2 ^ 149) → Step v s a
unfolding phase_step step_int
step_value nan s a h = absurd h
step_value (inf t) s a h = absurd h
step_value (fin t m e) s a h =
    let x = m * up e in
    by_magnitude t (x * 2 ^ 32) (down e) (down_pos e)
    ∙ ap (λ (r : Bool). out r (half_up (bit r) (x * 2 ^ 32) (down e))) h.0
    ∙ ap (out s) (half_same (bit s) (x * 2 ^ 32) (down e) (2 * a) (2 ^ 118) (bit_le s) (down_pos e) (pow_pos 118)
    (mul_assoc x (2 ^ 32) (2 ^ 118) ∙ sym (mul_assoc x (2 ^ 149) 2) ∙ ap (λ (y : ℕ). y * 2) h.1 ∙ shuffle a (down e)))
  where
    shuffle : (a d : ℕ) → a * d * 2 ≡ 2 * a * d
    shuffle a d = mul_comm (a * d) 2 ∙ sym (mul_assoc 2 a d)
