-- Known values of each definition.
use Rattle.std.specs.Prelude.{◌≡◌, ℕ, List, [], ◌∷◌, Some, None}
use Rattle.program_words.specs.Words.{before, place_in, place_of}
use Rattle.program_words.specs.Wholes.{whole_of}

-- `ab=c=`, `ab`, `=a` and nothing
abbrev pub BeforeRows : Type 0
BeforeRows =
    (before 61 (97 ∷ 98 ∷ 61 ∷ 99 ∷ 61 ∷ []) ≡ 2) × (before 61 (97 ∷ 98 ∷ []) ≡ 2) × (before 61 (61 ∷ 97 ∷ []) ≡ 0) × (before 61 [] ≡ 0)

-- the words `a`, `bc`, `a` again, and `d` with no blank behind it
abbrev list : List ℕ
list = 97 ∷ 32 ∷ 98 ∷ 99 ∷ 32 ∷ 97 ∷ 32 ∷ 100 ∷ []

-- `a` and `bc` are there; `b`, `bcd`, `d` and the empty word are not; the empty word is the first of a blank and `a`, and none of nothing
abbrev pub PlaceRows : Type 0
PlaceRows =
    (place_of list (97 ∷ []) ≡ 0) × (place_of list (98 ∷ 99 ∷ []) ≡ 1) × (place_of list (98 ∷ []) ≡ 1000) × (place_of list (98 ∷ 99 ∷ 100 ∷ []) ≡ 1000)
    × (place_of list (100 ∷ []) ≡ 1000) × (place_of list [] ≡ 1000) × (place_of (32 ∷ 97 ∷ 32 ∷ []) [] ≡ 0) × (place_of [] [] ≡ 1000)

-- the same places, as found or not
abbrev pub FoundRows : Type 0
FoundRows =
    (place_in list (97 ∷ []) ≡ Some 0) × (place_in list (98 ∷ 99 ∷ []) ≡ Some 1) × (place_in list (98 ∷ []) ≡ None) × (place_in list (100 ∷ []) ≡ None)
    × (place_in list [] ≡ None) × (place_in (32 ∷ 97 ∷ 32 ∷ []) [] ≡ Some 0) × (place_in [] [] ≡ None)

-- 10^15 - 1, with more behind it
abbrev nines : List ℕ → List ℕ
nines l = 57 ∷ 57 ∷ 57 ∷ 57 ∷ 57 ∷ 57 ∷ 57 ∷ 57 ∷ 57 ∷ 57 ∷ 57 ∷ 57 ∷ 57 ∷ 57 ∷ 57 ∷ l

-- `0`, `007`; at most 10 and at most 9; nothing, `1x`, `x1`, `-1`, `/` and `:`, which stand beside the digits; 15 digits, zeros in front of them, and 16
abbrev pub WholeRows : Type 0
WholeRows =
    (whole_of (48 ∷ []) 0 ≡ Some 0) × (whole_of (48 ∷ 48 ∷ 55 ∷ []) 9 ≡ Some 7) × (whole_of (49 ∷ 48 ∷ []) 10 ≡ Some 10)
    × (whole_of (49 ∷ 48 ∷ []) 9 ≡ None) × (whole_of [] 9 ≡ None) × (whole_of (49 ∷ 120 ∷ []) 9 ≡ None)
    × (whole_of (120 ∷ 49 ∷ []) 9 ≡ None) × (whole_of (45 ∷ 49 ∷ []) 9 ≡ None) × (whole_of (47 ∷ []) 99 ≡ None)
    × (whole_of (58 ∷ []) 99 ≡ None) × (whole_of (nines []) 999999999999999 ≡ Some 999999999999999)
    × (whole_of (48 ∷ 48 ∷ nines []) 999999999999999 ≡ Some 999999999999999) × (whole_of (nines (57 ∷ [])) 9999999999999999 ≡ None)
