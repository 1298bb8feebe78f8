-- Known values of each definition.
use Rattle.std.specs.Prelude.{◌≡◌, ℕ, List, [], ◌∷◌}
use Rattle.program_text.specs.Pages.{LaidAs, written, LaidBehind, numeral, entry_of}

-- a page of three bytes
abbrev page : List ℕ
page = 1 ∷ 2 ∷ 3 ∷ []

-- in the middle; over all; past the end, where it is cut; at the end and beyond it; on no page; nothing
abbrev pub LaidRows : Type 0
LaidRows =
    LaidAs page 1 (9 ∷ []) (1 ∷ 9 ∷ 3 ∷ []) 2 × LaidAs page 0 (7 ∷ 8 ∷ 9 ∷ []) (7 ∷ 8 ∷ 9 ∷ []) 3 × LaidAs page 2 (8 ∷ 9 ∷ []) (1 ∷ 2 ∷ 8 ∷ []) 3
    × LaidAs page 3 (9 ∷ []) page 3 × LaidAs page 5 (9 ∷ []) page 5 × LaidAs [] 0 (9 ∷ []) [] 0 × LaidAs page 1 [] page 1

-- on an empty page of three bytes; behind a text; past the end, where it is cut; on a full page; nothing
abbrev pub WrittenRows : Type 0
WrittenRows =
    (written 3 [] (7 ∷ 8 ∷ []) ≡ 7 ∷ 8 ∷ []) × (written 3 (7 ∷ []) (8 ∷ 9 ∷ []) ≡ 7 ∷ 8 ∷ 9 ∷ []) × (written 3 (7 ∷ 8 ∷ []) (9 ∷ 9 ∷ []) ≡ 7 ∷ 8 ∷ 9 ∷ [])
    × (written 3 page (9 ∷ []) ≡ page) × (written 3 (7 ∷ []) [] ≡ 7 ∷ [])

-- behind a text; past the end, where it is cut; not over the text
abbrev pub BehindRows : Type 0
BehindRows =
    LaidBehind 3 (7 ∷ []) (8 ∷ []) (7 ∷ 8 ∷ []) × LaidBehind 3 (7 ∷ 8 ∷ []) (9 ∷ 9 ∷ []) (7 ∷ 8 ∷ 9 ∷ [])
    × (LaidBehind 3 (7 ∷ []) (8 ∷ []) (8 ∷ []) → ⊥)

-- 0, 7, 10, 1066, 2^64 - 1
abbrev pub NumeralRows : Type 0
NumeralRows =
    (numeral 0 ≡ 48 ∷ []) × (numeral 7 ≡ 55 ∷ []) × (numeral 10 ≡ 49 ∷ 48 ∷ []) × (numeral 1066 ≡ 49 ∷ 48 ∷ 54 ∷ 54 ∷ [])
    × (numeral 18446744073709551615
    ≡ 49 ∷ 56 ∷ 52 ∷ 52 ∷ 54 ∷ 55 ∷ 52 ∷ 52 ∷ 48 ∷ 55 ∷ 51 ∷ 55 ∷ 48 ∷ 57 ∷ 53 ∷ 53 ∷ 49 ∷ 54 ∷ 49 ∷ 53 ∷ [])

-- the lines `ab`, `c`, an empty one, and `d` with no line end behind it
abbrev lines : List ℕ
lines = 97 ∷ 98 ∷ 10 ∷ 99 ∷ 10 ∷ 10 ∷ 100 ∷ []

abbrev pub EntryRows : Type 0
EntryRows =
    (entry_of lines 0 ≡ 97 ∷ 98 ∷ []) × (entry_of lines 1 ≡ 99 ∷ []) × (entry_of lines 2 ≡ []) × (entry_of lines 3 ≡ 100 ∷ []) × (entry_of lines 4 ≡ [])
    × (entry_of [] 0 ≡ [])
