-- What ties the split arrays of a run to the definition's lists. n forward taps, m feedback taps; feedback lanes start n % 8 early.
use Rattle.std.specs.Prelude.{ℕ, ◌+◌, ◌*◌, ◌%◌, ◌<◌, ◌≤◌, ◌≡◌, false, List, length, get_or, T, Float}
use Rattle.std.specs.Float.{nan, inf}
use Rattle.std.specs.Float.Ieee.Scale.{finite}
use Rattle.types.specs.Bits.{zero32}
use Rattle.definition.specs.Floats.{tiny, norm, complex}
use Rattle.types.specs.declared.C32.{C32}
use Rattle.definition.specs.Sample.{Equalizer, feedback, sanitized}
use Rattle.definition.specs.Slices.{re_at, im_at}
use Rattle.lanes.specs.Arrays.{Arrays, Long}
use Rattle.lanes.specs.Fed.{back_at}

-- the complex numbers base .. base + count of x stand in the lanes from `from` on
pub record Lies (re im : List Float) (from : ℕ) (x : List Float) (base count : ℕ) : Type 0 where
  pub re_is : (j : ℕ) → j < count → get_or re (from + j) nan ≡ re_at x (base + j)
  pub im_is : (j : ℕ) → j < count → get_or im (from + j) nan ≡ im_at x (base + j)

-- +0 in the lanes from .. to of the part that starts at o
pub record Unused (re im : List Float) (o from to : ℕ) : Type 0 where
  pub re_zero : (i : ℕ) → from ≤ i → i < to → get_or re (o + i) nan ≡ zero32
  pub im_zero : (i : ℕ) → from ≤ i → i < to → get_or im (o + i) nan ≡ zero32

-- the first `size` values are finite
pub record Calm (re im : List Float) (size : ℕ) : Type 0 where
  pub re_fine : (i : ℕ) → i < size → T (finite (get_or re i nan))
  pub im_fine : (i : ℕ) → i < size → T (finite (get_or im i nan))

-- one half of the weights, the 72 lanes from o on: lanes from .. from + count are w's from base on, the others +0
pub record Half (re im : List Float) (o from : ℕ) (w : List Float) (base count : ℕ) : Type 0 where
  pub long : length re ≡ 144
  pub long' : length im ≡ 144
  pub room : from + count ≤ 72
  pub lies : Lies re im (o + from) w base count
  pub early : Unused re im o 0 from
  pub late : Unused re im o (from + count) 72

-- the split weights
pub record Weights (n m : ℕ) (wr wi w : List Float) : Type 0 where
  pub forth : Half wr wi 0 0 w 0 n
  pub back : Half wr wi 72 (n % 8) w n m
  pub taps : length w ≡ 2 * (n + m)

-- the window h, from the place `at` on, and its feedback part from 144 + at + 9 on
pub record Window (n m at : ℕ) (xr xi h : List Float) : Type 0 where
  pub forth : Lies xr xi at h 0 n
  pub back : Lies xr xi (back_at at) h n m
  pub calm : Calm xr xi 288
  pub taps : length h ≡ 2 * (n + m)

-- the window x before a sample is taken in: from the place p on, its feedback part from 144 + p + 8 on
pub record Past (n m p : ℕ) (xr xi x : List Float) : Type 0 where
  pub forth : Lies xr xi p x 0 n
  pub back : Lies xr xi (p + 152) x n m
  pub calm : Calm xr xi 288
  pub taps : length x ≡ 2 * (n + m)

-- re² + im² of count numbers of x from base on, in q from `from` on
pub record Squares (q : List Float) (from : ℕ) (x : List Float) (base count : ℕ) : Type 0 where
  pub is : (j : ℕ) → j < count → get_or q (from + j) nan ≡ norm (complex (re_at x (base + j)) (im_at x (base + j)))

-- THE REPRESENTATION: what the arrays hold of an equalizer, before the sample that goes in at p − 1
pub record Holds (n m p : ℕ) (a : Arrays) (q : Equalizer) : Type 0 where
  pub weights : Weights n m a.wr a.wi q.weights
  pub past : Past n m p a.xr a.xi q.window
  pub squares : Squares a.q (p + 152) q.window n m
  pub fed_back : feedback q ≡ m
  pub long : Long a

-- the sample x has been put in at the place `at`
pub record Put (at : ℕ) (x : C32) (xr xi : List Float) : Type 0 where
  pub re : get_or xr at nan ≡ (sanitized x).re
  pub im : get_or xi at nan ≡ (sanitized x).im

-- the limits of one half's lanes
pub record Limits (limit : List Float) (o from count : ℕ) : Type 0 where
  pub inside : (j : ℕ) → j < count → get_or limit (o + (from + j)) nan ≡ tiny
  pub early : (i : ℕ) → i < from → get_or limit (o + i) nan ≡ inf false
  pub late : (i : ℕ) → from + count ≤ i → i < 72 → get_or limit (o + i) nan ≡ inf false

-- the lanes of the sums and of the steps
pub record LaneCounts (n m lanes more quads mquads : ℕ) : Type 0 where
  pub some : 3 ≤ n
  pub most : n ≤ 63
  pub most' : m ≤ 63
  pub wide : n ≤ lanes
  pub lanes_fit : lanes ≤ 72
  pub blocks : lanes % 8 ≡ 0
  pub more_fit : more ≤ 72
  pub more_blocks : more % 8 ≡ 0
  pub none : more ≡ 0 → m ≡ 0
  pub more_wide : 0 < more → n % 8 + m ≤ more
  pub quads_wide : n ≤ quads
  pub quads_fit : quads ≤ 72
  pub mquads_fit : mquads ≤ 72
  pub mnone : mquads ≡ 0 → m ≡ 0
  pub mquads_wide : 0 < mquads → n % 8 + m ≤ mquads
