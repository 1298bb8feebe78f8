-- What a byte divides a list into, and words in a list with a blank behind each.
use Rattle.std.specs.Prelude.{ℕ, suc, ◌+◌, Bool, true, false, cond, ◌&&◌, List, [], ◌∷◌, ◌==◌, Option, Some, None, unwrap_or}

-- How many bytes stand before the first byte d, or all.
unfoldable pub before : ℕ → List ℕ → ℕ
before d [] = 0
before d (b ∷ t) = cond (b == d) 0 (suc (before d t))

-- A byte in front of the first of some texts; `divided` always has a first.
abbrev pub onto : ℕ → List (List ℕ) → List (List ℕ)
onto b [] = []
onto b (t ∷ ts) = (b ∷ t) ∷ ts

-- The texts that a byte divides a list into: always one more than there are such bytes.
unfoldable pub divided : ℕ → List ℕ → List (List ℕ)
divided d [] = [] ∷ []
divided d (b ∷ l) = cond (b == d) ([] ∷ divided d l) (onto b (divided d l))

-- Whether two texts are the same.
unfoldable pub same_of : List ℕ → List ℕ → Bool
same_of [] [] = true
same_of [] (b ∷ t) = false
same_of (a ∷ s) [] = false
same_of (a ∷ s) (b ∷ t) = a == b && same_of s t

-- The place of the first of some texts that is the word, counted from n, where one is. The last text is no word: no blank stands behind it.
unfoldable pub place_in_from : ℕ → List (List ℕ) → List ℕ → Option ℕ
unfolding same_of
place_in_from n [] word = None
place_in_from n (t ∷ []) word = None
place_in_from n (t ∷ u ∷ ts) word = cond (same_of t word) (Some n) (place_in_from (n + 1) (u ∷ ts) word)

-- The place of a word in a list of words with a blank behind each, counted from 0, where it is there.
unfoldable pub place_in : List ℕ → List ℕ → Option ℕ
unfolding divided place_in_from
place_in l word = place_in_from 0 (divided 32 l) word

-- The same place as a number alone: 1000 where the word is not there. A list of up to 1000 words has no place 1000, so that the two are told apart.
unfoldable pub place_of : List ℕ → List ℕ → ℕ
unfolding place_in
place_of l word = unwrap_or (place_in l word) 1000
