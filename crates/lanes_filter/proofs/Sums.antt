-- The filter sum over the padded split arrays is the definition's. Assumes nothing.
use Prim.Native.Nat.{ℕ, ◌+◌, ◌-◌, ◌%◌, ◌<◌, ◌≤◌}
use mathlib.Core.Path.{◌≡◌}
use mathlib.Core.List.{List}
use native.Mathlib.Omega.{arith}
use lib.ListN.{get_or}
use lib.Dec.{T}
use lib.Ieee.{Float, nan, binary32, fits}
use lib.Ieee.Fits.{add-fits, sub-fits}
use lib.Ieee.Scale.{finite}
use Rattle.types.specs.Bits.{zero32}
use Rattle.definition.specs.Slices.{sum8}
use Rattle.definition_laws.proofs.Padding.{Zero, times_zero, zero_minus, zero_plus}
use Rattle.dot.specs.Parts.{product_re, product_im, product_at}
use Rattle.lanes_filter.specs.Split.{split_at, sum_two}
use Rattle.lanes.specs.Holds.{Lies, Unused, Calm, Weights, Window, LaneCounts}
use Rattle.lanes_filter.proofs.Halves.{Halves, halves-sum}

-- what the sum asks of a part of the product: a weight of +0 gives a zero, and each product is an f32
pub record Summed (p : Float → Float → Float → Float → Float) : Type 0 where
  pub none : (x y c d : Float) → T (finite x) → T (finite y) → c ≡ zero32 → d ≡ zero32 → Zero (p x y c d)
  pub fit : (x y c d : Float) → T (fits binary32 (p x y c d))

pub summed_re : Summed product_re
summed_re = record {
  none = λ x y c d a b e f.
      let u = times_zero x a in
      let v = times_zero y b in
      rw (e, f, u.is, v.is) (zero_minus u.sign v.sign);
  fit = λ x y c d. sub-fits binary32 _ _;
}

pub summed_im : Summed product_im
summed_im = record {
  none = λ x y c d a b e f.
      let u = times_zero x a in
      let v = times_zero y b in
      rw (e, f, u.is, v.is) (zero_plus u.sign v.sign);
  fit = λ x y c d. add-fits binary32 _ _;
}

module _ (p : Float → Float → Float → Float → Float) (r : Summed p) where
  -- a padding lane's product
  pad : (xr xi wr wi : List Float) (a o i from to : ℕ) → Calm xr xi 288 → Unused wr wi o from to → from ≤ i → i < to → a + i < 288
      → Zero (split_at p xr xi wr wi a o i)
  pad xr xi wr wi a o i from to q b l h g =
      r.none (get_or xr (a + i) nan) (get_or xi (a + i) nan) (get_or wr (o + i) nan) (get_or wi (o + i) nan)
      (q.re_fine (a + i) g) (q.im_fine (a + i) g) (b.re_zero i l h) (b.im_zero i l h)

  -- a lane that holds a tap
  tap : (xr xi wr wi h w : List Float) (a o from base count j : ℕ) → Lies xr xi (a + from) h base count → Lies wr wi (o + from) w base count → j < count
      → split_at p xr xi wr wi a o (from + j) ≡ product_at p h w (base + j)
  tap xr xi wr wi h w a o from base count j x y l =
      let e : a + (from + j) ≡ a + from + j = omega arith in
      let f : o + (from + j) ≡ o + from + j = omega arith in
      rw (e, f, x.re_is j l, x.im_is j l, y.re_is j l, y.im_is j l)

  halves : (n m lanes more quads mquads at : ℕ) (wr wi xr xi w h : List Float)
      → LaneCounts n m lanes more quads mquads → Weights n m wr wi w → Window n m at xr xi h → at ≤ 63
      → Halves (split_at p xr xi wr wi at 0) (split_at p xr xi wr wi (at + 153 - n % 8) 72) (product_at p h w) n lanes m more
  halves n m lanes more quads mquads at wr wi xr xi w h s k q low =
      let forth_lies : Lies xr xi (at + 0) h 0 n = let e : at + 0 ≡ at = omega arith in rw e q.forth in
      let forth_late : Unused wr wi 0 n 72 = let e : 0 + n ≡ n = omega arith in rw e at k.forth.late in
      let back_lies : Lies xr xi (at + 153 - n % 8 + n % 8) h n m = let e : at + 153 - n % 8 + n % 8 ≡ at + 153 = omega arith in rw e q.back in
      record {
        forth = λ i l. let z : 0 + i ≡ i = omega arith in rw z at (tap xr xi wr wi h w at 0 0 0 n i forth_lies k.forth.lies l);
        padded = λ i a b. pad xr xi wr wi at 0 i n 72 q.calm forth_late a (omega (arith, s.lanes_fit)) (omega (arith, s.lanes_fit));
        early = λ i a b. pad xr xi wr wi (at + 153 - n % 8) 72 i 0 (n % 8) q.calm k.back.early (omega arith) a (omega (arith, s.more_fit));
        back = λ j l. tap xr xi wr wi h w (at + 153 - n % 8) 72 (n % 8) n m j back_lies k.back.lies l;
        late = λ i a b. pad xr xi wr wi (at + 153 - n % 8) 72 i (n % 8 + m) 72 q.calm k.back.late a (omega (arith, s.more_fit)) (omega (arith, s.more_fit));
        fit_forth = λ i. r.fit _ _ _ _;
        fit_back = λ i. r.fit _ _ _ _;
        wide = s.wide;
        blocks = s.blocks;
        back_blocks = s.more_blocks;
        none = s.none;
        back_wide = s.more_wide;
      }

  pub sum_is : (n m lanes more quads mquads at : ℕ) (wr wi xr xi w h : List Float)
      → LaneCounts n m lanes more quads mquads → Weights n m wr wi w → Window n m at xr xi h → at ≤ 63
      → sum_two (split_at p xr xi wr wi at 0) lanes (split_at p xr xi wr wi (at + 153 - n % 8) 72) more ≡ sum8 (product_at p h w) (n + m)
  sum_is n m lanes more quads mquads at wr wi xr xi w h s k q low = halves-sum _ _ _ n lanes m more (halves n m lanes more quads mquads at wr wi xr xi w h s k q low)
