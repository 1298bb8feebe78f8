-- The caller's slices and the split arrays.
use Rattle.std.specs.Prelude.{ℕ, ◌+◌, ◌*◌, ◌<◌, ◌≤◌, ◌≡◌, List, length, get_or, Float}
use Rattle.std.specs.Float.{nan}
use Rattle.definition.specs.Slices.{re_at, im_at}
use Rattle.lanes.specs.Between.{Replaced}

-- count numbers of x, from `from` on, are those of the lanes from `at` on; the others are as they were
pub record Joined (re im : List Float) (at from count : ℕ) (old x : List Float) : Type 0 where
  pub long : length x ≡ length old
  pub re_is : (j : ℕ) → j < count → re_at x (from + j) ≡ get_or re (at + j) nan
  pub im_is : (j : ℕ) → j < count → im_at x (from + j) ≡ get_or im (at + j) nan
  pub low : (k : ℕ) → k < 2 * from → get_or x k nan ≡ get_or old k nan
  pub high : (k : ℕ) → 2 * (from + count) ≤ k → get_or x k nan ≡ get_or old k nan

-- count numbers of x, from `from` on, in the lanes from `at` on; the other lanes are as they were: real parts in old and new, imaginary parts in old' and new'
pub record Loaded (x : List Float) (at from count : ℕ) (old old' new new' : List Float) : Type 0 where
  pub re : Replaced (λ i. re_at x (from + i)) at count old new
  pub im : Replaced (λ i. im_at x (from + i)) at count old' new'

-- count values from `from` on stand from `to` on too; the others are as they were
abbrev pub Moved : ℕ → ℕ → ℕ → List Float → List Float → Type 0
Moved from to count old new = Replaced (λ i. get_or old (from + i) nan) to count old new
