-- Places of an array replaced, the others as they were.
use Rattle.std.specs.Prelude.{ℕ, ◌+◌, ◌-◌, ◌<◌, ◌≤◌, ◌≡◌, List, length, get_or, Float}
use Rattle.std.specs.Float.{nan}

-- the elements from .. to of old replaced by f
pub record Between (f : ℕ → Float) (from to : ℕ) (old l : List Float) : Type 0 where
  pub long : length l ≡ length old
  pub done : (k : ℕ) → from ≤ k → k < to → get_or l k nan ≡ f k
  pub low : (k : ℕ) → k < from → get_or l k nan ≡ get_or old k nan
  pub high : (k : ℕ) → to ≤ k → get_or l k nan ≡ get_or old k nan

-- n elements of old, from o on, replaced by f 0, f 1 ..
abbrev pub Replaced : (ℕ → Float) → ℕ → ℕ → List Float → List Float → Type 0
Replaced f o n old l = Between (λ k. f (k - o)) o (o + n) old l
