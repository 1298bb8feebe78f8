-- Digits read one by one: what is counted, and their value as far as it is below 10^15. Assumes nothing.
use Rattle.std.proofs.Common.{◌≡◌, ℕ, suc, ◌+◌, ◌-◌, ◌*◌, min, Bool, true, false, cond, not, ltb, List, [], ◌∷◌, length, take, refl, sym, ap, ◌∙◌, arith, unwrap_or}
use Rattle.std.specs.List.{position, position_or_len, fold}
use Rattle.std.proofs.lemmas.List.Sums.{prefix_len-le-length}
use Rattle.std.proofs.lemmas.List.Recursion.{is_position_or_len}
use borrow.Author.Tests.{ltb-false}
use Rattle.program_words.proofs.Texts.{found_by}
use Rattle.program_words.specs.Wholes.{too_long, is_digit, digit_count, digit_value, with_digit, DigitsFrom}

alike_by : (c : Bool) (l : List ℕ) (v w d : ℕ) → ((v w : ℕ) → min v too_long ≡ min w too_long → min (digit_value v l) too_long ≡ min (digit_value w l) too_long)
    → min v too_long ≡ min w too_long → min (cond c (digit_value (v * 10 + d) l) v) too_long ≡ min (cond c (digit_value (w * 10 + d) l) w) too_long
alike_by true l v w d f h = f (v * 10 + d) (w * 10 + d) (omega arith)
alike_by false l v w d f h = h

-- values that are alike below 10^15 stay so
alike : (l : List ℕ) (v w : ℕ) → min v too_long ≡ min w too_long → min (digit_value v l) too_long ≡ min (digit_value w l) too_long
unfolding digit_value
alike [] v w h = h
alike (b ∷ l) v w h = alike_by (is_digit b) l v w (b - 48) (alike l) h

-- the digits are the bytes before the first that is none
count_is : (t : List ℕ) → digit_count t ≡ position_or_len (λ b. not (is_digit b)) t
unfolding digit_count
count_is t = is_position_or_len digit_count (λ b. not (is_digit b)) refl (λ b l. turned (is_digit b) (digit_count l)) t
  where
    turned : (c : Bool) (n : ℕ) → cond c (suc n) 0 ≡ cond (not c) 0 (1 + n)
    turned true n = omega arith
    turned false n = refl

step_by : (c : Bool) (value b : ℕ) → ltb value too_long ≡ c → min (cond c (value * 10 + (b - 48)) value) too_long ≡ min (value * 10 + (b - 48)) too_long
step_by true value b e = refl
step_by false value b e = let k = ltb-false value too_long e in omega arith

-- one digit more
with_is : (value b : ℕ) → min (with_digit value b) too_long ≡ min (value * 10 + (b - 48)) too_long
unfolding with_digit
with_is value b = step_by (ltb value too_long) value b refl

folded_by : (c : Bool) (b v : ℕ) (t : List ℕ) → min (fold with_digit (with_digit v b) (take (digit_count t) t)) too_long ≡ min (digit_value (with_digit v b) t) too_long
    → min (fold with_digit v (take (cond c (suc (digit_count t)) 0) (b ∷ t))) too_long ≡ min (cond c (digit_value (v * 10 + (b - 48)) t) v) too_long
folded_by true b v t h = h ∙ alike t (with_digit v b) (v * 10 + (b - 48)) (with_is v b)
folded_by false b v t h = refl

-- the digits, one after the other
folded : (t : List ℕ) (v : ℕ) → min (fold with_digit v (take (digit_count t) t)) too_long ≡ min (digit_value v t) too_long
unfolding digit_count digit_value
folded [] v = refl
folded (b ∷ t) v = folded_by (is_digit b) b v t (folded t (with_digit v b))

-- what digits_of counts and folds
pub digits_are : (t : List ℕ) (start value count : ℕ) → count ≡ unwrap_or (position (λ b. not (is_digit b)) t) (length t) → value ≡ fold with_digit start (take count t) → DigitsFrom t 0 start value count count
digits_are t start value count e f =
    let p = position_or_len (λ b. not (is_digit b)) t in
    let n : count ≡ digit_count t = e ∙ found_by (ltb p (length t)) p (length t) refl (prefix_len-le-length _ t) ∙ sym (count_is t) in
    (ap (λ (x : ℕ). min x too_long) (f ∙ ap (λ i. fold with_digit start (take i t)) n) ∙ folded t start, n, omega arith)
