-- Text on a page, and what is written there.
use Rattle.std.specs.Prelude.{◌≡◌, ℕ, zero, suc, ◌+◌, ◌/◌, ◌%◌, min, max, cond, List, [], ◌∷◌, ◌++◌, length, nat_lt, slice_index_or, take, drop}
use Rattle.program_words.specs.Words.{divided}

-- A list of bytes that keeps its length, with a text laid over it from a place on, as far as it reaches.
unfoldable pub laid : List ℕ → ℕ → List ℕ → List ℕ
laid [] at t = []
laid (a ∷ p) (suc at) t = a ∷ laid p at t
laid (a ∷ p) zero [] = a ∷ p
laid (a ∷ p) zero (b ∷ t) = b ∷ laid p zero t

-- The place behind a text laid so: past the text, or the list's end; a place beyond the end stays.
unfoldable pub reached : List ℕ → ℕ → List ℕ → ℕ
reached p at t = max at (min (at + length t) (length p))

-- A text was laid: the list then, and the place behind the text.
abbrev pub LaidAs : List ℕ → ℕ → List ℕ → List ℕ → ℕ → Type 0
LaidAs p at t after next = (after ≡ laid p at t) × (next ≡ reached p at t)

-- What stands on a page of n bytes where a text is written behind another: what finds no room is left out.
unfoldable pub written : ℕ → List ℕ → List ℕ → List ℕ
written n s t = take n (s ++ t)

-- What stands on a page of n bytes, where a text was written behind s: in any list of n bytes that begins with s, what stands there is the text laid
-- from behind s on, and its length is the place reached.
unfoldable pub LaidBehind : ℕ → List ℕ → List ℕ → List ℕ → Type 0
LaidBehind n s t after = (p : List ℕ) → length p ≡ n → take (length s) p ≡ s → LaidAs p (length s) t (after ++ drop (length after) p) (length after)

-- The decimal digits of a number, the highest first, with no zero in front of another digit; at most as many as the first number says.
unfoldable pub numeral_in : ℕ → ℕ → List ℕ
numeral_in zero n = []
numeral_in (suc k) n = cond (nat_lt n 10) ((48 + n) ∷ []) (numeral_in k (n / 10) ++ ((48 + n % 10) ∷ []))

-- The decimal digits of a number below 10^20.
unfoldable pub numeral : ℕ → List ℕ
unfolding numeral_in
numeral n = numeral_in 20 n

-- The text of a number among those that line ends divide a list into, counted from 0; empty where there are not so many.
unfoldable pub entry_of : List ℕ → ℕ → List ℕ
unfolding divided
entry_of l n = slice_index_or (divided 10 l) n []
