-- A step of one half of the lanes, then perhaps the clearing of padding. Assumes nothing.
use Prim.Native.Nat.{ℕ, ◌+◌, ◌-◌, ◌<◌, ◌≤◌}
use mathlib.Core.Path.{◌≡◌, sym, ◌∙◌}
use mathlib.Core.Bool.{Bool, false}
use mathlib.Core.List.{List}
use native.Mathlib.Omega.{arith}
use native.Mathlib.Decide.{dec_lt}
use lib.ListN.{length, get_or}
use lib.Dec.{T}
use lib.Ieee.{Float, nan, inf}
use lib.Ieee.Scale.{finite}
use Rattle.types.specs.Bits.{zero32}
use Rattle.definition.specs.Floats.{tiny, complex}
use Rattle.definition.specs.Slices.{re_at, im_at, updated}
use Rattle.lanes.specs.Between.{Replaced}
use Rattle.lanes.specs.Holds.{Lies, Unused, Half, Limits}
use Rattle.lanes.proofs.Between.{replaced_at}
use Rattle.numeric.proofs.Leaves.{kept_tiny}
use Rattle.numeric.specs.Below.{kept_of}
use Rattle.lanes_adapt.specs.Steps.{uneven, lane_re, lane_im, step_re, step_im, any_of, broken_at, clear_of, clear_in}
use Rattle.lanes_adapt.specs.Settled.{ruined}
use Rattle.lanes_adapt.proofs.Tests.{kept_top_fine, even_fine, fine_even, tiny_low, tiny_not_high, top_not_low, top_high}
use Rattle.lanes_adapt.proofs.Loops.{any_false}
use Rattle.lanes_adapt.proofs.Update.{Fine, updated_at}

lane_pad : (v l : Float) → l ≡ inf false → T (finite (kept_of v l)) → kept_of v l ≡ zero32
lane_pad v l e h = rw e (kept_top_fine v (rw e at h))

-- padding of either part: stepped, or behind the lanes of the step
pad_at : (f : ℕ → Float) (o K i : ℕ) {old new : List Float} → Replaced f o K old new → get_or old (o + i) nan ≡ zero32 → (i < K → f i ≡ zero32) → Dec (i < K) → get_or new (o + i) nan ≡ zero32
pad_at f o K i m z p (yes b) = replaced_at f o K m i b ∙ p b
pad_at f o K i m z p (no b) = m.high (o + i) (omega arith) ∙ z

clear_tap : (v l : Float) → l ≡ tiny → clear_of v l ≡ v
unfolding clear_of
clear_tap v l e = rw (e, tiny_not_high)

clear_pad : (v l : Float) → l ≡ inf false → clear_of v l ≡ zero32
unfolding clear_of
clear_pad v l e = rw (e, top_high)

cleared_at : (w limit : List Float) {l : List Float} → Replaced (clear_in w limit) 0 144 w l → (k : ℕ) → k < 144 → get_or l k nan ≡ clear_of (get_or w k nan) (get_or limit k nan)
cleared_at w limit m k h = let e : 0 + k ≡ k = omega arith in rw e at (replaced_at (clear_in w limit) 0 144 m k h)

broken_tap : (r m l : Float) → l ≡ tiny → broken_at r m l ≡ uneven r m
unfolding broken_at
broken_tap r m l e = rw (e, tiny_low)

broken_pad : (r m l : Float) → l ≡ inf false → broken_at r m l ≡ false
unfolding broken_at
broken_pad r m l e = rw (e, top_not_low)

-- ---- a step of K lanes: what the lanes hold after it, and where no lane is flagged the half and that its numbers are finite
pub record Stepped (re im : List Float) (o from : ℕ) (y : List Float) (base count : ℕ) (flag : Bool) : Type 0 where
  pub lies : Lies re im (o + from) y base count
  pub calm : flag ≡ false → Half re im o from y base count × Fine y base count

module _ (re im limit xr xi w h : List Float) (a o from base count K N : ℕ) (gr gi : Float) (re' im' : List Float)
    (s : Half re im o from w base count) (x : Lies xr xi (a + from) h base count) (l : Limits limit o from count)
    (wide : 0 < count → from + count ≤ K) (within : base + count ≤ N)
    (mr : Replaced (step_re re limit xr xi a o gr gi) o K re re') (mi : Replaced (step_im im limit xr xi a o gr gi) o K im im') where
  abbrev stepped_re : ℕ → Float
  stepped_re = step_re re limit xr xi a o gr gi

  abbrev stepped_im : ℕ → Float
  stepped_im = step_im im limit xr xi a o gr gi

  tap : (j : ℕ) → j < count → (get_or re' (o + from + j) nan ≡ re_at (updated N (complex gr gi) w h) (base + j)) × (get_or im' (o + from + j) nan ≡ im_at (updated N (complex gr gi) w h) (base + j))
  unfolding lane_re lane_im
  tap j b =
      let q = wide (omega arith) in
      let z : o + from + j ≡ o + (from + j) = omega arith in
      let e : a + (from + j) ≡ a + from + j = omega arith in
      let y = updated_at N (complex gr gi) w h (base + j) (omega arith) in
      let r = s.lies.re_is j b in
      let i = s.lies.im_is j b in
      rw (z, y.0, y.1) (
        replaced_at stepped_re o K mr (from + j) (omega arith) ∙ rw (l.inside j b, rw z at r, e, x.re_is j b, x.im_is j b) (kept_tiny _),
        replaced_at stepped_im o K mi (from + j) (omega arith) ∙ rw (l.inside j b, rw z at i, e, x.re_is j b, x.im_is j b) (kept_tiny _),
      )

  new_lies : Lies re' im' (o + from) (updated N (complex gr gi) w h) base count
  new_lies = record { re_is = λ j b. (tap j b).0; im_is = λ j b. (tap j b).1 }

  -- no lane is flagged
  module _ (calm : any_of K (λ i. uneven (stepped_re i) (stepped_im i)) ≡ false) where
    even_at : (i : ℕ) → i < K → uneven (stepped_re i) (stepped_im i) ≡ false
    even_at = any_false (λ i. uneven (stepped_re i) (stepped_im i)) K calm

    pads : (lo hi : ℕ) → ((i : ℕ) → lo ≤ i → i < hi → get_or limit (o + i) nan ≡ inf false) → Unused re im o lo hi → Unused re' im' o lo hi
    unfolding lane_re lane_im
    pads lo hi t u = record {
      re_zero = λ i p q. pad_at stepped_re o K i mr (u.re_zero i p q) (λ b. lane_pad _ _ (t i p q) (even_fine _ _ (even_at i b)).0) (dec_lt i K);
      im_zero = λ i p q. pad_at stepped_im o K i mi (u.im_zero i p q) (λ b. lane_pad _ _ (t i p q) (even_fine _ _ (even_at i b)).1) (dec_lt i K);
    }

    calm_half : Half re' im' o from (updated N (complex gr gi) w h) base count
    calm_half = record {
      long = mr.long ∙ s.long;
      long' = mi.long ∙ s.long';
      room = s.room;
      lies = new_lies;
      early = pads 0 from (λ i p q. l.early i q) s.early;
      late = pads (from + count) 72 l.late s.late;
    }

    calm_fine : Fine (updated N (complex gr gi) w h) base count
    calm_fine j b =
        let q = wide (omega arith) in
        let z : o + from + j ≡ o + (from + j) = omega arith in
        let e = even_at (from + j) (omega arith) in
        let r = rw z at (tap j b).0 in
        let i = rw z at (tap j b).1 in
        even_fine _ _ (rw (← r, ← i, replaced_at stepped_re o K mr (from + j) (omega arith), replaced_at stepped_im o K mi (from + j) (omega arith)) e)

  pub half_step : Stepped re' im' o from (updated N (complex gr gi) w h) base count (any_of K (λ i. uneven (stepped_re i) (stepped_im i)))
  half_step = record { lies = new_lies; calm = λ q. (calm_half q, calm_fine q) }

-- ---- the test of all lanes, and the clearing of padding: a half that holds the numbers of y
module _ {re im limit : List Float} {o from : ℕ} {y : List Float} {base count : ℕ}
    (l : Limits limit o from count) (s : Lies re im (o + from) y base count) (room : from + count ≤ 72) (two : o ≤ 72) where
  pub whole_fine : ruined re im limit ≡ false → Fine y base count
  unfolding ruined
  whole_fine q j b =
      let z : o + from + j ≡ o + (from + j) = omega arith in
      let f = any_false (λ k. broken_at (get_or re k nan) (get_or im k nan) (get_or limit k nan)) 144 q (o + (from + j)) (omega arith) in
      let r = rw z at (s.re_is j b) in
      let i = rw z at (s.im_is j b) in
      even_fine _ _ (rw (← r, ← i) (sym (broken_tap _ _ _ (l.inside j b)) ∙ f))

  pub fine_whole : Fine y base count → (i : ℕ) → i < 72 → broken_at (get_or re (o + i) nan) (get_or im (o + i) nan) (get_or limit (o + i) nan) ≡ false
  fine_whole f i b = go (dec_lt i from) (dec_lt i (from + count))
    where
      go : Dec (i < from) → Dec (i < from + count) → broken_at (get_or re (o + i) nan) (get_or im (o + i) nan) (get_or limit (o + i) nan) ≡ false
      go (yes p) q = broken_pad _ _ _ (l.early i p)
      go (no p) (no q) = broken_pad _ _ _ (l.late i (omega arith) b)
      go (no p) (yes q) =
          let k : i - from < count = omega arith in
          let e : o + (from + (i - from)) ≡ o + i = omega arith in
          let z : o + from + (i - from) ≡ o + i = omega arith in
          broken_tap _ _ _ (rw e at (l.inside (i - from) k))
          ∙ rw (rw z at (s.re_is (i - from) k), rw z at (s.im_is (i - from) k)) (fine_even _ _ (f (i - from) k).0 (f (i - from) k).1)

  -- cleared
  module _ {re' im' : List Float} (cr : Replaced (clear_in re limit) 0 144 re re') (ci : Replaced (clear_in im limit) 0 144 im im') where
    clean : (lo hi : ℕ) → hi ≤ 72 → ((i : ℕ) → lo ≤ i → i < hi → get_or limit (o + i) nan ≡ inf false) → Unused re' im' o lo hi
    clean lo hi b t = record {
      re_zero = λ i p q. cleared_at re limit cr (o + i) (omega arith) ∙ clear_pad _ _ (t i p q);
      im_zero = λ i p q. cleared_at im limit ci (o + i) (omega arith) ∙ clear_pad _ _ (t i p q);
    }

    pub cleared_half : length re ≡ 144 → length im ≡ 144 → Half re' im' o from y base count
    cleared_half lr li = record {
      long = cr.long ∙ lr;
      long' = ci.long ∙ li;
      room = room;
      lies = record {
        re_is = λ j b. let z : o + from + j ≡ o + (from + j) = omega arith in cleared_at re limit cr (o + from + j) (omega arith) ∙ clear_tap _ _ (rw z (l.inside j b)) ∙ s.re_is j b;
        im_is = λ j b. let z : o + from + j ≡ o + (from + j) = omega arith in cleared_at im limit ci (o + from + j) (omega arith) ∙ clear_tap _ _ (rw z (l.inside j b)) ∙ s.im_is j b;
      };
      early = clean 0 from (omega arith) (λ i p b. l.early i b);
      late = clean (from + count) 72 (omega arith) l.late;
    }
