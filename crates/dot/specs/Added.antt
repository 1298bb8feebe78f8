-- A block of products, added to partial sums.
use Rattle.std.specs.Prelude.{ℕ, ◌+◌, ◌<◌, ◌≤◌, ◌≡◌, List, length, get_or, Float}
use Rattle.std.specs.Float.{nan}
use Rattle.definition.specs.Floats.{◌+f◌}

-- l' is l with p i, p (i + 1) .. p (i + m − 1) added to its first m elements
pub record Added (p : ℕ → Float) (i m : ℕ) (l l' : List Float) : Type 0 where
  pub long : length l' ≡ length l
  pub done : (k : ℕ) → k < m → get_or l' k nan ≡ get_or l k nan +f p (i + k)
  pub kept : (k : ℕ) → m ≤ k → get_or l' k nan ≡ get_or l k nan
