-- Whole numbers in a text.
use Rattle.std.specs.Prelude.{◌≡◌, ℕ, suc, ◌+◌, ◌-◌, ◌*◌, min, Bool, cond, ◌&&◌, List, [], ◌∷◌, length, drop, ◌==◌, nat_le, nat_lt, Option, Some, None}

-- From here on the digits are too many.
abbrev pub too_long : ℕ
too_long = 1_000_000_000_000_000

-- `0` to `9`.
abbrev pub is_digit : ℕ → Bool
is_digit b = nat_le 48 b && nat_le b 57

-- How many digits a text starts with.
unfoldable pub digit_count : List ℕ → ℕ
digit_count [] = 0
digit_count (b ∷ t) = cond (is_digit b) (suc (digit_count t)) 0

-- The value of the digits that a text starts with, behind digits of value v.
unfoldable pub digit_value : ℕ → List ℕ → ℕ
digit_value v [] = v
digit_value v (b ∷ t) = cond (is_digit b) (digit_value (v * 10 + (b - 48)) t) v

-- The value of one digit more; too long a value stays.
unfoldable pub with_digit : ℕ → ℕ → ℕ
with_digit value b = cond (nat_lt value too_long) (value * 10 + (b - 48)) value

-- What digits_of answers: their value as far as it is below 10^15, how many there are, and the place past them.
abbrev pub DigitsFrom : List ℕ → ℕ → ℕ → ℕ → ℕ → ℕ → Type 0
DigitsFrom t from start value count at =
    (min value too_long ≡ min (digit_value start (drop from t)) too_long) × (count ≡ digit_count (drop from t)) × (at ≡ from + count)

-- The value of a text of digits and nothing else, at least one, if it is below 10^15 and at most `most`; none of any other text.
unfoldable pub whole_of : List ℕ → ℕ → Option ℕ
unfolding digit_count digit_value
whole_of t most =
    cond
    (nat_lt 0 (digit_count t) && digit_count t == length t && nat_lt (digit_value 0 t) too_long && nat_le (digit_value 0 t) most)
    (Some (digit_value 0 t))
    None
