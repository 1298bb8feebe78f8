-- WHICH FINITE SAMPLES DRIVE A SUM PAST THE FLOAT RANGE: none does below a bound.
use Rattle.std.specs.Prelude.{ℕ, ◌+◌, ◌*◌, ◌^◌, ◌<◌, ◌≤◌, ◌≡◌, Bool, true, false, leb, Float}
use Rattle.std.specs.Float.{nan, inf, fin}
use Rattle.std.specs.Float.Ieee.{up, down}
use Rattle.types.specs.declared.C32.{C32}
use Rattle.definition.specs.Floats.{finite_c}
use Rattle.definition.specs.Slices.{every}
use Rattle.definition.specs.Sample.{Equalizer, all_taps}
use Rattle.definition.specs.Rules.{accepted_def}
use Rattle.demands.specs.Marks.{sum_of}

-- the magnitude is at most 2^a: fin s m e has the size m · up e / down e
unfoldable pub up_to : ℕ → Float → Bool
up_to a nan = false
up_to a (inf s) = false
up_to a (fin s m e) = leb (m * up e) (2 ^ a * down e)

-- Where every weight part is at most 2^a, and every part of the window and of the sample at most 2^b, y is finite, so the sample is not marked
-- spilled, if a + b + k is at most 128 for a k with twice the taps below 2^k. So a + b may be 125 at 3 taps, 124 at 4 to 7, 123 at 8 to 15, 122 at
-- 16 to 31, 121 at 32 to 63, 120 at 64 to 126.
abbrev pub NoSpill : Type 0
NoSpill =
    (q : Equalizer) (x : C32) (a b k : ℕ) → accepted_def q ≡ true → 2 * all_taps q < 2 ^ k → a + b + k ≤ 128
    → every (up_to a) q.weights ≡ true → every (up_to b) q.window ≡ true → up_to b x.re ≡ true → up_to b x.im ≡ true → finite_c (sum_of q x) ≡ true

-- a + b cannot be one more: an accepted equalizer with twice its taps below 2^k, and a sample, within 2^a and 2^b, whose sum is not finite
pub record SharpAt (k : ℕ) : Type 0 where
  pub a : ℕ
  pub b : ℕ
  pub equalizer : Equalizer
  pub sample : C32
  pub accepted : accepted_def equalizer ≡ true
  pub taps : 2 * all_taps equalizer < 2 ^ k
  pub one_more : a + b + k ≡ 129
  pub weights : every (up_to a) equalizer.weights ≡ true
  pub window : every (up_to b) equalizer.window ≡ true
  pub re : up_to b sample.re ≡ true
  pub im : up_to b sample.im ≡ true
  pub spills : finite_c (sum_of equalizer sample) ≡ false

-- the k of 3 taps, of 4 to 7, 8 to 15, 16 to 31, 32 to 63, 64 to 126
pub record Sharp : Type 0 where
  pub at_3 : SharpAt 3
  pub at_4 : SharpAt 4
  pub at_5 : SharpAt 5
  pub at_6 : SharpAt 6
  pub at_7 : SharpAt 7
  pub at_8 : SharpAt 8
