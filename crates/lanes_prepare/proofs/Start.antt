-- The start of a run: `enter` keeps the representation and stores the samples, the powers made ahead are the windows'. Assumes nothing.
use Prim.Native.Nat.{ℕ, ◌+◌, ◌-◌, ◌/◌, ◌<◌, ◌≤◌}
use mathlib.Core.Path.{◌≡◌, ◌∙◌}
use mathlib.Core.List.{List}
use native.Mathlib.Omega.{arith}
use lib.ListN.{length, get_or}
use lib.Ieee.{Float, nan}
use Rattle.definition.specs.Floats.{complex}
use Rattle.definition.specs.Slices.{re_at, im_at, power}
use Rattle.definition.specs.Sample.{Equalizer}
use Rattle.definition_laws.proofs.Kept.{sanitized_finite}
use Rattle.lanes.specs.Between.{Between}
use Rattle.lanes_prepare.specs.Entered.{Entered}
use Rattle.lanes.specs.Powers.{square_at, chain_of}
use Rattle.lanes.specs.Holds.{Lies, Holds, Put}
use Rattle.lanes.specs.Arrays.{arrays}
use Rattle.lanes.proofs.Between.{calm_between}
use Rattle.lanes.proofs.Places.{lies_kept}
use Rattle.lanes.proofs.Powers.{squares_lie, ahead_power}

module _ (x xr xi xr' xi' : List Float) (e : Entered x xr xi xr' xi') (most : length x ≤ 128) where
  -- sample k of a run stands at 63 − k
  pub entered-put : (k : ℕ) → k < length x / 2 → Put (63 - k) (complex (re_at x k) (im_at x k)) xr' xi'
  entered-put k l =
      let g : 63 - (63 - k) ≡ k = omega arith in
      record { re = e.re.done (63 - k) (omega arith) (omega arith) ∙ rw g; im = e.im.done (63 - k) (omega arith) (omega arith) ∙ rw g }

  -- the window from 64 on and the squares from 216 on stay as they were
  pub entered-holds : (n m : ℕ) (wr wi sq sq' : List Float) (f : ℕ → Float) (lo hi : ℕ) (q : Equalizer) → hi ≤ 216 → Between f lo hi sq sq'
      → Holds n m 64 (arrays wr wi xr xi sq) q → Holds n m 64 (arrays wr wi xr' xi' sq') q
  entered-holds n m wr wi sq sq' f lo hi q b z s = record {
    weights = s.weights;
    past = record {
      forth = lies_kept xr xi xr' xi' 64 q.window 0 n (λ j l. e.re.high (64 + j) (omega arith)) (λ j l. e.im.high (64 + j) (omega arith)) s.past.forth;
      back = lies_kept xr xi xr' xi' 216 q.window n m (λ j l. e.re.high (216 + j) (omega arith)) (λ j l. e.im.high (216 + j) (omega arith)) s.past.back;
      calm = calm_between e.re e.im (λ j l h i. sanitized_finite (complex (re_at x (63 - j)) (im_at x (63 - j)))) s.past.calm;
      taps = s.past.taps;
    };
    squares = record { is = λ j l. z.high (216 + j) (omega arith) ∙ s.squares.is j l };
    fed_back = s.fed_back;
    long = record { xr = e.re.long ∙ s.long.xr; xi = e.im.long ∙ s.long.xi; q = z.long ∙ s.long.q };
  }

-- ---- the powers made ahead: at 63 - k for the window that lies there
pub ahead_is : (xr xi q₀ q p₀ p h : List Float) (from n at : ℕ) → Between (square_at xr xi) from (64 + n) q₀ q → Between (λ i. chain_of q i n) from 64 p₀ p
    → from ≤ at → at < 64 → Lies xr xi at h 0 n → get_or p at nan ≡ power h n
ahead_is xr xi q₀ q p₀ p h from n at b c l k x =
    c.done at l k ∙ ahead_power q at n h (squares_lie xr xi q q₀ from (64 + n) at h 0 n b l (omega arith) x)
