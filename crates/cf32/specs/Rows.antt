-- Known bytes, as one table. Floats are compared by their value: 1, -0, the least and the greatest f32, infinities, NaN.
use Rattle.std.specs.Prelude.{ℕ, Bool, true, false, ◌&&◌, List, [], ◌∷◌, eqb, ℤ, pos, negsuc, Float}
use Rattle.std.specs.Float.{nan, inf, fin}
use Rattle.cf32.specs.Bytes.{read_into, write_over}

abbrev alike : Bool → Bool → Bool
alike true b = b
alike false true = false
alike false false = true

abbrev same_z : ℤ → ℤ → Bool
same_z (pos a) (pos b) = eqb a b
same_z (pos a) (negsuc b) = false
same_z (negsuc a) (pos b) = false
same_z (negsuc a) (negsuc b) = eqb a b

-- `fin s m e` is m · 2^e, with a minus where s
abbrev same_float : Float → Float → Bool
same_float nan nan = true
same_float nan (inf t) = false
same_float nan (fin t n k) = false
same_float (inf s) nan = false
same_float (inf s) (inf t) = alike s t
same_float (inf s) (fin t n k) = false
same_float (fin s m e) nan = false
same_float (fin s m e) (inf t) = false
same_float (fin s m e) (fin t n k) = alike s t && eqb m n && same_z e k

abbrev same_floats : List Float → List Float → Bool
same_floats [] [] = true
same_floats [] (y ∷ ys) = false
same_floats (x ∷ xs) [] = false
same_floats (x ∷ xs) (y ∷ ys) = same_float x y && same_floats xs ys

abbrev same_bytes : List ℕ → List ℕ → Bool
same_bytes [] [] = true
same_bytes [] (b ∷ l) = false
same_bytes (a ∷ k) [] = false
same_bytes (a ∷ k) (b ∷ l) = eqb a b && same_bytes k l

abbrev all : List Bool → Bool
all [] = true
all (b ∷ l) = b && all l

abbrev one : Float
one = fin false 1 (pos 0)

-- the bytes of 1 and of infinity, and four other bytes, before more
abbrev one_then : List ℕ → List ℕ
one_then l = 0 ∷ 0 ∷ 0x80 ∷ 0x3f ∷ l

abbrev inf_then : List ℕ → List ℕ
inf_then l = 0 ∷ 0 ∷ 0x80 ∷ 0x7f ∷ l

abbrev nines_then : List ℕ → List ℕ
nines_then l = 9 ∷ 9 ∷ 9 ∷ 9 ∷ l

-- four bytes are this float, whatever stood there
unfoldable reads : ℕ → ℕ → ℕ → ℕ → Float → Bool
reads a b c d x = same_floats (read_into (a ∷ b ∷ c ∷ d ∷ []) (nan ∷ [])) (x ∷ []) && same_floats (read_into (a ∷ b ∷ c ∷ d ∷ []) (one ∷ [])) (x ∷ [])

-- this float is four bytes
unfoldable writes : Float → ℕ → ℕ → ℕ → ℕ → Bool
writes x a b c d = same_bytes (write_over (x ∷ []) (9 ∷ 9 ∷ 9 ∷ 9 ∷ [])) (a ∷ b ∷ c ∷ d ∷ [])

-- both
unfoldable are : ℕ → ℕ → ℕ → ℕ → Float → Bool
unfolding reads writes
are a b c d x = reads a b c d x && writes x a b c d

unfoldable rows : List Bool
unfolding reads writes are
rows =
    -- 1, -2.5, +0 and -0
    are 0 0 0x80 0x3f one ∷ are 0 0 0x20 0xc0 (fin true 5 (negsuc 0)) ∷ are 0 0 0 0 (fin false 0 (pos 0)) ∷ are 0 0 0 0x80 (fin true 0 (pos 0))
    -- four bytes that all differ: 0x04030201, which is 0x830201 · 2^-142
    ∷ are 1 2 3 4 (fin false 0x83_0201 (negsuc 141))
    -- the least f32, the greatest, the infinities
    ∷ are 1 0 0 0 (fin false 1 (negsuc 148)) ∷ are 0xff 0xff 0x7f 0x7f (fin false 0xff_ffff (pos 104))
    ∷ are 0 0 0x80 0x7f (inf false) ∷ are 0 0 0x80 0xff (inf true)
    -- every NaN's bytes are the one NaN, which is written 00 00 c0 7f
    ∷ reads 1 0 0x80 0x7f nan ∷ reads 0xff 0xff 0xff 0xff nan ∷ are 0 0 0xc0 0x7f nan
    -- reading: two floats; room for one; room for three, of which the last stays; a tail of 1 to 3 bytes, which gives no float; no float at all
    ∷ same_floats (read_into (one_then (inf_then [])) (nan ∷ nan ∷ [])) (one ∷ inf false ∷ [])
    ∷ same_floats (read_into (one_then (inf_then [])) (nan ∷ [])) (one ∷ [])
    ∷ same_floats (read_into (one_then (inf_then [])) (nan ∷ nan ∷ inf true ∷ [])) (one ∷ inf false ∷ inf true ∷ [])
    ∷ same_floats (read_into (one_then (7 ∷ [])) (nan ∷ inf true ∷ [])) (one ∷ inf true ∷ [])
    ∷ same_floats (read_into (one_then (7 ∷ 7 ∷ [])) (nan ∷ inf true ∷ [])) (one ∷ inf true ∷ [])
    ∷ same_floats (read_into (one_then (7 ∷ 7 ∷ 7 ∷ [])) (nan ∷ inf true ∷ [])) (one ∷ inf true ∷ [])
    ∷ same_floats (read_into [] (nan ∷ [])) (nan ∷ []) ∷ same_floats (read_into (one_then []) []) []
    -- writing: two floats; room for one; room for more, which stays; a tail of 1 to 3 bytes, which stays; no float at all
    ∷ same_bytes (write_over (one ∷ inf false ∷ []) (nines_then (nines_then []))) (one_then (inf_then []))
    ∷ same_bytes (write_over (one ∷ inf false ∷ []) (nines_then [])) (one_then [])
    ∷ same_bytes (write_over (one ∷ []) (nines_then (nines_then (7 ∷ [])))) (one_then (nines_then (7 ∷ [])))
    ∷ same_bytes (write_over (one ∷ one ∷ []) (nines_then (7 ∷ []))) (one_then (7 ∷ []))
    ∷ same_bytes (write_over (one ∷ one ∷ []) (nines_then (7 ∷ 6 ∷ []))) (one_then (7 ∷ 6 ∷ []))
    ∷ same_bytes (write_over (one ∷ one ∷ []) (nines_then (7 ∷ 6 ∷ 5 ∷ []))) (one_then (7 ∷ 6 ∷ 5 ∷ []))
    ∷ same_bytes (write_over [] (7 ∷ [])) (7 ∷ []) ∷ same_bytes (write_over (one ∷ []) []) []
    ∷ []

unfoldable pub rows_pass : Bool
unfolding rows reads writes are
rows_pass = all rows
