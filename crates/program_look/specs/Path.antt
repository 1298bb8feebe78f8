-- What the contracts say of a path. Each is an `abbrev`, so that a caller's proof can use what it says. Assumes nothing.
use Rattle.std.specs.Prelude.{◌≡◌, List, ℕ, ◌<◌, length, take, get_or}

-- none of the bytes is 0
abbrev pub NoZero : List ℕ → Type 0
NoZero path = (j : ℕ) → j < length path → get_or path j 0 ≡ 0 → ⊥

-- C can be handed all of path: it leaves room for a 0 in 4096 bytes, and has none of its own
abbrev pub Whole : List ℕ → Type 0
Whole path = (length path < 4096) × NoZero path

-- path stands at the start of bytes, with a 0 after it
abbrev pub Text : List ℕ → List ℕ → Type 0
Text path bytes = (take (length path) bytes ≡ path) × (get_or bytes (length path) 1 ≡ 0)
