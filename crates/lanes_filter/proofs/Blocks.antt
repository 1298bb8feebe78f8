-- Blocks of eight products added to eight partials. Assumes nothing.
use Prim.Native.Nat.{ℕ, suc, ◌+◌, ◌*◌, ◌/◌, ◌%◌, ◌<◌}
use mathlib.Core.Path.{◌≡◌, refl, ◌∙◌}
use mathlib.Core.List.{List}
use native.Mathlib.Omega.{arith}
use lib.ListN.{length, get_or, replicate, get_or-replicate}
use lib.Ieee.{Float, nan}
use Rattle.types.specs.Bits.{zero32}
use Rattle.definition.specs.Slices.{tree}
use Rattle.lanes_filter.specs.Split.{lane_from, Onto, sum_two}
use Rattle.dot.specs.Added.{Added}

-- a sum of eight partials by each of them
pub tree_cong : (a b : ℕ → Float) → ((k : ℕ) → k < 8 → a k ≡ b k) → tree a ≡ tree b
tree_cong a b s = rw (s 0 (omega arith), s 1 (omega arith), s 2 (omega arith), s 3 (omega arith), s 4 (omega arith), s 5 (omega arith), s 6 (omega arith), s 7 (omega arith))

pub onto_none : (p : ℕ → Float) (l : List Float) → length l ≡ 8 → Onto p 0 l l
unfolding lane_from
onto_none p l h = record { long = h; sums = λ k b. refl }

-- the next block of eight
pub onto_more : (p : ℕ → Float) (n : ℕ) {l₀ l l' : List Float} → n % 8 ≡ 0 → Onto p n l₀ l → Added p n 8 l l' → Onto p (n + 8) l₀ l'
unfolding lane_from
onto_more p n {l₀} {l} {l'} z o a = record {
  long = a.long ∙ o.long;
  sums = λ k h.
      let c : (n + 8) / 8 ≡ suc (n / 8) = omega arith in
      let i : n + k ≡ 8 * (n / 8) + k = omega arith in
      rw (a.done k h, o.sums k h, c, i);
}

pub onto_tree : (p : ℕ → Float) (n : ℕ) (q : ℕ → Float) (m : ℕ) {l l' : List Float} → Onto p n (replicate 8 zero32) l → Onto q m l l'
    → tree (λ k. get_or l' k nan) ≡ sum_two p n q m
unfolding sum_two
onto_tree p n q m {l} {l'} a b =
    tree_cong (λ k. get_or l' k nan) (λ k. lane_from (lane_from zero32 p k (n / 8)) q k (m / 8)) (λ k h. rw (b.sums k h, a.sums k h, get_or-replicate 8 k zero32 nan h))
