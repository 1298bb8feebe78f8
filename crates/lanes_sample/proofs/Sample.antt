-- The arrays after the weights' step and the fed-back sample, and ONE SAMPLE against `sample_def`. Assumes nothing.
use Prim.Native.Nat.{ℕ, ◌+◌, ◌-◌, ◌/◌, ◌%◌, ◌≤◌}
use mathlib.Core.Path.{◌≡◌, sym, ◌∙◌, ap, subst}
use mathlib.Core.List.{List}
use native.Mathlib.Omega.{arith}
use lib.ListN.{set}
use lib.Ieee.{Float}
use Rattle.types.specs.declared.C32.{C32}
use Rattle.types.specs.declared.Update.{Update}
use Rattle.definition.specs.Floats.{norm}
use Rattle.definition.specs.Slices.{power}
use Rattle.definition.specs.Sample.{Equalizer, Did, forward, feedback, step1, step2, step3, step8, sample_def, adapted}
use Rattle.definition_laws.proofs.Accept.{Accepted}
use Rattle.definition_laws.proofs.Kept.{Staged, staged}
use Rattle.lanes.specs.Arrays.{Arrays, arrays}
use Rattle.lanes.specs.Holds.{Weights, Holds, Put, Limits, LaneCounts}
use Rattle.lanes.specs.Adapts.{Ready, Adapts}
use Rattle.lanes_sample.specs.Absorbs.{Absorbs}
use Rattle.lanes_sample.specs.Measures.{Measures}
use Rattle.lanes_sample.proofs.Representation.{holds-forward, holds-taps, window_is, squares_in, holds_next}

pub absorbed : (u : Update) (fed : C32) (at quads mquads front centre : ℕ) (limit wr wi xr xi q wr' wi' xr' xi' q' : List Float) → at ≤ 63
    → Adapts u wr wi limit xr xi at quads (at + 153 - front) mquads centre wr' wi'
    → xr' ≡ set xr (at + 152) fed.re → xi' ≡ set xi (at + 152) fed.im → q' ≡ set q (at + 152) (norm fed)
    → Absorbs u fed at quads mquads front centre limit (arrays wr wi xr xi q) (arrays wr' wi' xr' xi' q')
absorbed u fed at quads mquads front centre limit wr wi xr xi sq wr' wi' xr' xi' sq' low a er ei eq = record {
  holds = λ n m lanes more q x t c.
      let old = arrays wr wi xr xi sq in
      let h = step1 n x q.window in
      let early : at + 153 - front + n % 8 ≡ at + 153 = omega (arith, c.front_is) in
      let ready : Ready n m wr wi limit xr xi at quads (at + 153 - front) mquads centre q.weights h = record {
        weights = c.holds.weights;
        window = window_is n m at old q x c.holds c.put;
        limits = c.limits;
        limits' = c.limits';
        some = c.shaped.some;
        most = c.shaped.most;
        most' = c.shaped.most';
        low = low;
        early = early;
        wide = c.shaped.quads_wide;
        fit = c.shaped.quads_fit;
        fit' = c.shaped.mquads_fit;
        none = c.shaped.mnone;
        wide' = c.shaped.mquads_wide;
        middle = c.middle;
      } in
      let p : Weights n m wr' wi' t.weights = rw c.weights_are (a.holds n m q.weights h ready) in
      rw (er, ei, eq, sym c.fed_is) (holds_next n m at old q x t wr' wi' low c.shaped.most c.holds c.put p c.params c.fine_re c.fine_im);
}

-- ---- what `measure` gives: y of step 2, and the power over all taps
pub measure_is : (n m lanes more front quads mquads at : ℕ) (a : Arrays) (forward : Float) (y : C32) (all : Float) (q : Equalizer) (x : C32)
    → Measures m lanes more front at a forward y all → LaneCounts n m lanes more quads mquads → front ≡ n % 8 → Holds n m (at + 1) a q → Put at x a.xr a.xi
    → forward ≡ power (step1 n x q.window) n
    → (y ≡ step2 (n + m) q.weights (step1 n x q.window)) × (all ≡ power (step1 n x q.window) (n + m))
unfolding step2
measure_is n m lanes more front quads mquads at a forward y all q x r s e g i p =
    r.holds n quads mquads q.weights (step1 n x q.window) (record {
      shaped = s;
      front_is = e;
      weights = g.weights;
      window = window_is n m at a q x g i;
      squares = squares_in n m at a q x g i;
      power_is = p;
    })

-- ---- a sample by the numbers of taps: all, forward, feedback
unfoldable pub sample_by : ℕ → ℕ → ℕ → Equalizer → C32 → Did
sample_by k f m q x = let h = step1 f x q.window in step8 f m h (step3 q.state q.weights k f x h (step2 k q.weights h))

pub sample_by_lem : {n m p : ℕ} {a : Arrays} {q : Equalizer} → Holds n m p a q → (x : C32) → sample_def q x ≡ sample_by (n + m) n m q x
unfolding sample_def sample_by
sample_by_lem {n} {m} {p} {a} {q} s x =
    ap (λ (k : ℕ). sample_by k (forward q) (feedback q) q x) (holds-taps s)
    ∙ ap (λ (f : ℕ). sample_by (n + m) f (feedback q) q x) (holds-forward s)
    ∙ ap (λ (k : ℕ). sample_by (n + m) n k q x) s.fed_back

staged_by : {n m p : ℕ} {a : Arrays} {q : Equalizer} → Holds n m p a q → Accepted q → (x : C32) (h : List Float) (y : C32) → Staged q (step3 q.state q.weights (n + m) n x h y)
staged_by {n} {m} {p} {a} {q} s ok x h y =
    subst (λ (f : ℕ). Staged q (step3 q.state q.weights (n + m) f x h y)) (holds-forward s)
    (subst (λ (k : ℕ). Staged q (step3 q.state q.weights k (forward q) x h y)) (holds-taps s) (staged q ok x h y))

-- ONE SAMPLE: arrays that hold an accepted q hold `sample_def`'s equalizer after the weights' step and `feed` by the sample's own update and fed-back sample
pub sample_holds : (n m at lanes more quads mquads front centre : ℕ) (limit : List Float) (a a' : Arrays) (q : Equalizer) (x : C32) (u : Update) (fed : C32)
    → Accepted q → LaneCounts n m lanes more quads mquads → front ≡ n % 8 → centre ≡ n / 2 → Limits limit 0 0 n → Limits limit 72 (n % 8) m
    → Holds n m (at + 1) a q → Put at x a.xr a.xi
    → (step3 q.state q.weights (n + m) n x (step1 n x q.window) (step2 (n + m) q.weights (step1 n x q.window))).weights ≡ adapted u (n + m) n q.weights (step1 n x q.window)
    → (step3 q.state q.weights (n + m) n x (step1 n x q.window) (step2 (n + m) q.weights (step1 n x q.window))).fed ≡ fed
    → Absorbs u fed at quads mquads front centre limit a a'
    → Holds n m at a' (sample_def q x).equalizer
sample_holds n m at lanes more quads mquads front centre limit a a' q x u fed ok shaped f c l l' holds put uw ff r =
    let h = step1 n x q.window in
    let t = step3 q.state q.weights (n + m) n x h (step2 (n + m) q.weights h) in
    let g = staged_by holds ok x h (step2 (n + m) q.weights h) in
    let e = sample_by_lem holds x in
    rw e (unfold sample_by in (r.holds n m lanes more q x t (record {
      shaped = shaped;
      front_is = f;
      middle = c;
      holds = holds;
      limits = l;
      limits' = l';
      put = put;
      weights_are = uw;
      fed_is = ff;
      params = g.params;
      fine_re = g.fed_re;
      fine_im = g.fed_im;
    })))
