-- Split arrays: real parts in one, imaginary parts in the other, window from a place on. What the code's loops compute of them, by index.
use Rattle.std.specs.Prelude.{ℕ, zero, suc, ◌+◌, ◌*◌, ◌/◌, ◌<◌, ◌≡◌, List, length, get_or, Float}
use Rattle.std.specs.Float.{nan}
use Rattle.types.specs.Bits.{zero32}
use Rattle.definition.specs.Floats.{◌+f◌}
use Rattle.definition.specs.Slices.{tree}
use Rattle.dot.specs.Parts.{product_re, product_im}
use Rattle.lanes.specs.declared.Half.{Half}
use Rattle.lanes.specs.declared.Split.{Split}
use Rattle.lanes.specs.declared.Window.{Window}

-- the part p of window value a + i times weight o + i
abbrev pub split_at : (Float → Float → Float → Float → Float) → List Float → List Float → List Float → List Float → ℕ → ℕ → ℕ → Float
split_at p xr xi wr wi a o i = p (get_or xr (a + i) nan) (get_or xi (a + i) nan) (get_or wr (o + i) nan) (get_or wi (o + i) nan)

abbrev pub split_re : List Float → List Float → List Float → List Float → ℕ → ℕ → ℕ → Float
split_re = split_at product_re

abbrev pub split_im : List Float → List Float → List Float → List Float → ℕ → ℕ → ℕ → Float
split_im = split_at product_im

-- the part p of window value i times weight i of a half
abbrev pub split_of : (Float → Float → Float → Float → Float) → Window → Split 144 → Half → ℕ → Float
split_of p h w a = split_at p h.values.re h.values.im w.re w.im a.at a.from

-- partial k from a on: a, then p k, p (8 + k), .., b of them
unfoldable pub lane_from : Float → (ℕ → Float) → ℕ → ℕ → Float
lane_from a p k zero = a
lane_from a p k (suc b) = lane_from a p k b +f p (8 * b + k)

-- l' holds the partials of l after n products, n a multiple of eight
pub record Onto (p : ℕ → Float) (n : ℕ) (l l' : List Float) : Type 0 where
  pub long : length l' ≡ 8
  pub sums : (k : ℕ) → k < 8 → get_or l' k nan ≡ lane_from (get_or l k nan) p k (n / 8)

-- n products of p, then m of q, in eight partials
unfoldable pub sum_two : (ℕ → Float) → ℕ → (ℕ → Float) → ℕ → Float
sum_two p n q m = tree (λ k. lane_from (lane_from zero32 p k (n / 8)) q k (m / 8))
