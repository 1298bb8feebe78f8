-- The loop over the samples of a run. Assumes nothing.
use Prim.Native.Nat.{ℕ, ◌+◌, ◌*◌, ◌-◌, ◌/◌, ◌≤◌, ◌<◌}
use mathlib.Core.Path.{◌≡◌, refl, sym, ◌∙◌, ap}
use mathlib.Core.Bool.{true}
use mathlib.Core.List.{List}
use native.Mathlib.Omega.{arith}
use native.Mathlib.Decide.{dec_lt}
use lib.ListN.{length, get_or, set, length-set}
use lib.Ieee.{Float, nan}
use Rattle.types.specs.declared.C32.{C32}
use Rattle.types.specs.declared.EqualizeState.{EqualizeState}
use Rattle.types.specs.Numbers.{mark_number}
use Rattle.definition.specs.Floats.{complex}
use Rattle.definition.specs.Slices.{re_at, im_at}
use Rattle.definition.specs.Packed.{equalizer}
use Rattle.definition.specs.Sample.{Equalizer, mu_of, step_size, step1, advance}
use Rattle.definition.specs.Rules.{accepted_def, rule_r4}
use Rattle.definition_laws.proofs.Kept.{advance_keeps}
use Rattle.lanes.specs.Arrays.{Arrays}
use Rattle.lanes.specs.Holds.{Lies, Holds, Put}
use Rattle.lanes_prepare.specs.Clock.{cma_left, StepSizes, Clock}
use Rattle.lanes_sample.proofs.Representation.{window_is}
use Rattle.lanes_prepare.proofs.Clock.{clock_none, clock_next}
use Rattle.steps.specs.declared.Track.{Track}
use Rattle.lanes.specs.declared.Shape.{Shape}
use Rattle.steps.specs.declared.Sampled.{Sampled}
use Rattle.run_samples.specs.Sample.{Front, Before, Samples}
use Rattle.steps.specs.Step.{with_track, did}
use Rattle.run_samples.specs.Run.{RunReady, Runs}
use Rattle.record_mode.proofs.Counts.{count_below}
use Rattle.definition_laws.proofs.Progress.{Progress, progress_none, progress-more, progress-all}

-- after k samples from q₀: weights and window, how far the block has come, what the arrays hold, and the mode
pub record Reached (n m : ℕ) (s₀ : EqualizeState) (q₀ : Equalizer) (xs : List Float) (a : Arrays) (ys : List Float) (ms ns : List ℕ) (s : EqualizeState) (k : ℕ) : Type 0 where
  pub weights : List Float
  pub window : List Float
  pub done : Progress q₀ xs (equalizer s weights window) ys ms ns k (2 * k)
  pub holds : Holds n m (64 - k) a (equalizer s weights window)
  pub clock : k ≤ 63 → Clock s₀ k s

pub record RunLoop (s₀ : EqualizeState) (g : Shape) (limit : List Float) (a₀ : Arrays) (ps ss xs : List Float) (a : Arrays) (ys : List Float) (ms ns : List ℕ) (s : EqualizeState) (k : ℕ) : Type 0 where
  pub front : Front a₀ a
  pub counts : rule_r4 s ≡ true
  pub here : k ≤ length ms
  pub most : length ms ≤ 64
  pub input : length xs ≡ 2 * length ms
  pub output : length ys ≡ 2 * length ms
  pub numbers : length ns ≡ length ms
  pub reached : (n : ℕ) (w h : List Float) → accepted_def (equalizer s₀ w h) ≡ true → RunReady s₀ g n limit a₀ ps ss xs w h → Reached n g.m s₀ (equalizer s₀ w h) xs a ys ms ns s k

pub loop_none : (s : EqualizeState) (g : Shape) (limit : List Float) (a : Arrays) (ps ss xs ys : List Float) (ms ns : List ℕ) → rule_r4 s ≡ true
    → length ms ≤ 64 → length xs ≡ 2 * length ms → length ys ≡ 2 * length ms → length ns ≡ length ms → RunLoop s g limit a ps ss xs a ys ms ns s 0
loop_none s g limit a ps ss xs ys ms ns c t i o n = record {
  front = record { re = λ i b. refl; im = λ i b. refl };
  counts = c;
  here = omega arith;
  most = t;
  input = i;
  output = o;
  numbers = n;
  reached = λ n w h ok b. record {
    weights = w;
    window = h;
    done = progress_none (equalizer s w h) xs ys ms ns ok;
    holds = b.holds;
    clock = λ z. clock_none s (λ e f. count_below s e f c);
  };
}

-- the step size made ahead is that of the sample's own mode
size_at : (s₀ s : EqualizeState) (ps ss : List Float) (from k : ℕ) → StepSizes s₀ ps from ss → Clock s₀ k s → k ≤ 63 → from ≤ 63 - k → Dec (k < cma_left s₀)
    → get_or ss (63 - k) nan ≡ step_size (mu_of s.mode s.params) (get_or ps (63 - k) nan)
size_at s₀ s ps ss from k z c l f (yes d) =
    let e : 63 - (63 - k) ≡ k = omega arith in
    z.cma (63 - k) f (omega arith) (omega (arith, e, d)) ∙ rw (c.early d, c.params)
size_at s₀ s ps ss from k z c l f (no d) =
    let e : 63 - (63 - k) ≡ k = omega arith in
    z.decided (63 - k) f (omega arith) (omega (arith, e, d)) ∙ rw (c.late (omega (arith, d)), c.params)

ticked : (s₀ s r : EqualizeState) (t : Track) (k : ℕ) → r ≡ with_track (advance s) t → Clock s₀ k s → k + 1 ≤ 63 → Clock s₀ (k + 1) r
ticked s₀ s r t k e c l =
    clock_next s₀ s r k c l (ap (λ (z : EqualizeState). z.mode) e) (ap (λ (z : EqualizeState). z.count) e)
    (ap (λ (z : EqualizeState). z.params) e ∙ ap (λ (z : EqualizeState). z.params) (advance_keeps s))

module _ (s₀ : EqualizeState) (g : Shape) (limit : List Float) (a₀ : Arrays) (ps ss xs : List Float) (a : Arrays) (ys : List Float) (ms ns : List ℕ) (s : EqualizeState) (k : ℕ) (o : RunLoop s₀ g limit a₀ ps ss xs a ys ms ns s k) where
  -- the forward window as it was when the powers were made
  lies-front : (n at : ℕ) (l : List Float) → at ≤ 63 → n ≤ 63 → Lies a.xr a.xi at l 0 n → Lies a₀.xr a₀.xi at l 0 n
  lies-front n at l b c y = record { re_is = λ j h. sym (o.front.re (at + j) (omega arith)) ∙ y.re_is j h; im_is = λ j h. sym (o.front.im (at + j) (omega arith)) ∙ y.im_is j h }

  before-sample : (n : ℕ) (w h : List Float) (b : RunReady s₀ g n limit a₀ ps ss xs w h) (z : Reached n g.m s₀ (equalizer s₀ w h) xs a ys ms ns s k) → k < length ms
      → Before s g n (63 - k) (complex (re_at xs k) (im_at xs k)) (get_or ps (63 - k) nan) (get_or ss (63 - k) nan) limit a z.weights z.window
  before-sample n w h b z l =
      let x = complex (re_at xs k) (im_at xs k) in
      let q = equalizer s z.weights z.window in
      let e : 63 - k + 1 ≡ 64 - k = omega (arith, o.most) in
      let u = b.puts k (omega (arith, o.input)) in
      let v : Put (63 - k) x a.xr a.xi = record { re = o.front.re (63 - k) (omega arith) ∙ u.re; im = o.front.im (63 - k) (omega arith) ∙ u.im } in
      let y : Holds n g.m (63 - k + 1) a q = rw e z.holds in
      record {
        setting = b.setting;
        holds = y;
        put = v;
        power_is = b.powers.is (63 - k) (step1 n x z.window) (omega (arith, o.input, o.most)) (omega arith) (lies-front n (63 - k) (step1 n x z.window) (omega arith) b.setting.shaped.most (window_is n g.m (63 - k) a q x y v).forth);
        size_is = λ u. size_at s₀ s ps ss (64 - length xs / 2) k b.sizes (z.clock (omega (arith, o.most))) (omega (arith, o.most)) (omega (arith, o.input, o.most)) (dec_lt k (cma_left s₀));
      }

  pub loop_more : (x : C32) (r : Sampled) (b c : ℕ) (a' : Arrays) (ys' : List Float) → k < length ms → x.re ≡ re_at xs k → x.im ≡ im_at xs k → b ≡ mark_number r.told.mark → c ≡ r.told.number
      → Samples s g (63 - k) x (get_or ps (63 - k) nan) (get_or ss (63 - k) nan) limit a a' r → ys' ≡ set (set ys (2 * k) r.out.re) (2 * k + 1) r.out.im
      → RunLoop s₀ g limit a₀ ps ss xs a' ys' (set ms k b) (set ns k c) r.state (k + 1)
  loop_more x r b c a' ys' l xr xi v y p e = record {
    front = record { re = λ i b. p.front.re i b ∙ o.front.re i b; im = λ i b. p.front.im i b ∙ o.front.im i b };
    counts = p.counts;
    here = simp length-set (omega arith);
    most = simp length-set o.most;
    input = simp length-set o.input;
    output = rw e (simp length-set o.output);
    numbers = simp length-set o.numbers;
    reached = λ n w h ok u.
        let z = o.reached n w h ok u in
        let X : x ≡ complex (re_at xs k) (im_at xs k) = λ i. record { re = xr i; im = xi i } in
        let d = p.done n z.weights z.window z.done.accepted (rw X (before-sample n w h u z l)) in
        let f : 64 - (k + 1) ≡ 63 - k = omega arith in
        let t : 2 * (k + 1) ≡ 2 * k + 2 = omega arith in
        record {
          weights = d.weights;
          window = d.window;
          done = rw (e, t) (progress-more (equalizer s₀ w h) xs (equalizer s z.weights z.window) ys ms ns k (2 * k) z.done x (did r d.weights d.window) b c l (omega (arith, o.numbers)) (omega (arith, o.output)) (omega (arith, o.input)) X d.is v y);
          holds = rw f d.holds;
          clock = λ j. ticked s₀ s r.state p.track k p.ticks (z.clock (omega arith)) j;
        };
  }

  pub loop_all : length ms ≤ k → Runs s₀ g limit a₀ ps ss xs a ys ms ns s
  loop_all l = record {
    counts = o.counts;
    input = o.input;
    after = λ n w h ok b.
        let z = o.reached n w h ok b in
        let e : length ms ≡ k = omega (arith, o.here) in
        record {
          weights = z.weights;
          window = z.window;
          ran = progress-all (equalizer s₀ w h) xs (equalizer s z.weights z.window) ys ms ns k (2 * k) z.done l (omega (arith, o.numbers)) (omega (arith, o.output)) (omega (arith, o.input));
          holds = rw e z.holds;
        };
  }
