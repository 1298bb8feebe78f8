-- The fewest digits that hold a number are the number's digits. Assumes nothing.
use Rattle.std.proofs.Common.{◌≡◌, ℕ, zero, suc, ◌+◌, ◌-◌, ◌*◌, ◌/◌, ◌%◌, ◌^◌, ◌<◌, ◌≤◌, [], ◌∷◌, refl, pow-suc, arith, le-ltb, lt-ltb}
use Rattle.io.specs.Digits.{hex_digit_ascii, last_digits, IsDigitCount}
use Rattle.program_text.specs.Pages.{numeral_in, numeral}

-- the glyph of a digit
glyph_is : (d : ℕ) → d < 10 → hex_digit_ascii d ≡ 48 + d
glyph_is d h = rw (lt-ltb d 10 h)

sub_one : (k : ℕ) → suc (suc k) - 1 ≡ suc k
sub_one k = omega arith

pos : (k : ℕ) → 0 < 10 ^ k
pos zero = omega arith
pos (suc k) = omega (arith, pos k, pow-suc 10 k)

fewer : (j f : ℕ) → 10 ^ j < 10 ^ f → j < f
fewer j zero h = absurd (omega (arith, pos j))
fewer zero (suc f) h = omega arith
fewer (suc j) (suc f) h = let r = fewer j f (omega (arith, pow-suc 10 j, pow-suc 10 f)) in omega arith

fits : (k n : ℕ) → n < 10 ^ 20 → IsDigitCount 10 1 n k → k ≤ 20
fits zero n h w = omega arith
fits (suc zero) n h w = omega arith
fits (suc (suc k)) n h (a, b, c) =
    let low : 10 ^ suc k ≤ n = rw (sub_one k) at (c (omega arith)) in
    let r = fewer (suc k) 20 (omega arith) in
    omega arith

digits_are : (f k n : ℕ) → k ≤ f → IsDigitCount 10 1 n k → last_digits 10 k n ≡ numeral_in f n
unfolding numeral_in
digits_are f zero n h w = absurd (omega arith)
digits_are zero (suc k) n h w = absurd (omega arith)
digits_are (suc f) (suc zero) n h (a, b, c) =
    let s : n < 10 = b in
    let m : n % 10 ≡ n = omega arith in
    rw (m, lt-ltb n 10 s)
digits_are (suc f) (suc (suc k)) n h (a, b, c) =
    let low : 10 ^ suc k ≤ n = rw (sub_one k) at (c (omega arith)) in
    let p : 10 ^ suc k ≡ 10 ^ k * 10 = pow-suc 10 k in
    let q : 10 ^ suc (suc k) ≡ 10 ^ suc k * 10 = pow-suc 10 (suc k) in
    let z : 0 < 10 ^ k = pos k in
    let s : 10 ≤ n = omega arith in
    let r : suc k - 1 ≡ k = omega arith in
    rw (le-ltb n 10 s, glyph_is (n % 10) (omega arith), digits_are f (suc k) (n / 10) (omega arith) (omega arith, omega arith, λ o. rw r (omega arith)))

pub numeral_is : (k n : ℕ) → n < 100_000_000_000_000_000_000 → IsDigitCount 10 1 n k → last_digits 10 k n ≡ numeral n
unfolding numeral
numeral_is k n h w = digits_are 20 k n (fits k n h w) w

-- a number below ten is its digit
pub digit_is : (n : ℕ) → n < 10 → (48 + n) ∷ [] ≡ numeral n
unfolding numeral_in numeral
digit_is n h = rw (lt-ltb n 10 h) refl
