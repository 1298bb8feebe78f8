-- Floats from the bytes of a cf32 file, and bytes from floats.
use Rattle.std.specs.Prelude.{ℕ, ◌+◌, ◌*◌, ◌/◌, ◌%◌, List, [], ◌∷◌, get_or, Float}
use Rattle.std.specs.Float.{binary32}
use Rattle.std.specs.Float.Ieee.{of_bits, to_bits}

-- The word of four bytes, the lowest first.
abbrev pub word_of : ℕ → ℕ → ℕ → ℕ → ℕ
word_of a b c d = a + 256 * b + 65536 * c + 16777216 * d

-- The word at place i of the bytes.
abbrev pub word_at : List ℕ → ℕ → ℕ
word_at bs i = word_of (get_or bs (4 * i) 0) (get_or bs (4 * i + 1) 0) (get_or bs (4 * i + 2) 0) (get_or bs (4 * i + 3) 0)

-- The f32 of a pattern. Every NaN's pattern gives the one NaN.
abbrev pub float_of : ℕ → Float
float_of n = of_bits binary32 n

-- The pattern of an f32. The NaN is written as 0x7fc00000.
abbrev pub pattern_of : Float → ℕ
pattern_of x = to_bits binary32 x

-- The byte of a word at a weight: 1, 256, 65536 or 16777216.
abbrev pub byte_of : ℕ → ℕ → ℕ
byte_of n weight = n / weight % 256

-- The slice of floats after the bytes were read into it: a float for each four bytes, as far as both go. Bytes that make no whole float are left,
-- and so are floats for which there are no four bytes.
unfoldable pub read_into : List ℕ → List Float → List Float
read_into bs [] = []
read_into [] (x ∷ xs) = x ∷ xs
read_into (a ∷ []) (x ∷ xs) = x ∷ xs
read_into (a ∷ b ∷ []) (x ∷ xs) = x ∷ xs
read_into (a ∷ b ∷ c ∷ []) (x ∷ xs) = x ∷ xs
read_into (a ∷ b ∷ c ∷ d ∷ more) (x ∷ xs) = float_of (word_of a b c d) ∷ read_into more xs

-- The slice of bytes after the floats were written over it: four bytes for each float, as far as both go. Floats for which there are no four bytes
-- are not written, and bytes beyond the floats stay.
unfoldable pub write_over : List Float → List ℕ → List ℕ
write_over [] bs = bs
write_over (x ∷ xs) [] = []
write_over (x ∷ xs) (a ∷ []) = a ∷ []
write_over (x ∷ xs) (a ∷ b ∷ []) = a ∷ b ∷ []
write_over (x ∷ xs) (a ∷ b ∷ c ∷ []) = a ∷ b ∷ c ∷ []
write_over (x ∷ xs) (a ∷ b ∷ c ∷ d ∷ more) =
    byte_of (pattern_of x) 1 ∷ byte_of (pattern_of x) 256 ∷ byte_of (pattern_of x) 65536 ∷ byte_of (pattern_of x) 16777216 ∷ write_over xs more
