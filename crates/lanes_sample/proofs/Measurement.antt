-- The exit of `measure`. Assumes nothing.
use Prim.Native.Nat.{ℕ, ◌+◌, ◌-◌, ◌≤◌}
use mathlib.Core.Path.{◌≡◌, ◌∙◌, ap}
use mathlib.Core.List.{List}
use native.Mathlib.Omega.{arith}
use lib.ListN.{length}
use lib.Ieee.{Float}
use Rattle.std.specs.List.{fold, slice_range}
use Rattle.definition.specs.Floats.{◌+f◌, complex}
use Rattle.definition.specs.Slices.{prod_re, prod_im, sum8, filter_sum}
use Rattle.dot.specs.Parts.{product_re, product_im}
use Rattle.lanes_filter.specs.Split.{split_re, split_im, sum_two}
use Rattle.lanes.specs.Powers.{chain_from}
use Rattle.lanes.specs.Arrays.{arrays}
use Rattle.lanes_sample.specs.Measures.{Measures}
use Rattle.lanes_filter.proofs.Sums.{sum_is, summed_re, summed_im}
use Rattle.lanes.proofs.Powers.{chain_power}
use Rattle.lanes_sample.proofs.ChainLoop.{chained}

pub measured : (m lanes more front at : ℕ) (wr wi xr xi q : List Float) (forward re im p : Float) → at ≤ 63 → m ≤ 63 → length q ≡ 288
    → p ≡ fold (λ p v. p +f v) forward (slice_range q (at + 153) (at + 153 + m))
    → re ≡ sum_two (split_re xr xi wr wi at 0) lanes (split_re xr xi wr wi (at + 153 - front) 72) more
    → im ≡ sum_two (split_im xr xi wr wi at 0) lanes (split_im xr xi wr wi (at + 153 - front) 72) more
    → Measures m lanes more front at (arrays wr wi xr xi q) forward (complex re im) p
unfolding filter_sum
measured m lanes more front at wr wi xr xi q forward re im p low back long a b d = record {
  holds = λ n quads mquads w h s.
      let x : re ≡ sum8 (prod_re h w) (n + m) = b ∙ rw s.front_is (sum_is product_re summed_re n m lanes more quads mquads at wr wi xr xi w h s.shaped s.weights s.window low) in
      let y : im ≡ sum8 (prod_im h w) (n + m) = d ∙ rw s.front_is (sum_is product_im summed_im n m lanes more quads mquads at wr wi xr xi w h s.shaped s.weights s.window low) in (
        rw (x, y),
        chained forward q (at + 153) m (omega arith) a ∙ ap (λ (v : Float). chain_from v q (at + 153) m) s.power_is ∙ chain_power q (at + 153) h n m s.squares,
      );
}
