-- The loop over the runs of a block. Assumes nothing.
use Prim.Native.Nat.{ℕ, ◌+◌, ◌*◌, ◌<◌, ◌≤◌, min}
use mathlib.Core.Path.{◌≡◌}
use mathlib.Core.Bool.{true}
use mathlib.Core.List.{List}
use native.Mathlib.Omega.{arith}
use lib.ListN.{length}
use lib.Ieee.{Float}
use Rattle.types.specs.declared.EqualizeState.{EqualizeState}
use Rattle.definition.specs.Packed.{equalizer}
use Rattle.definition.specs.Sample.{Equalizer}
use Rattle.definition.specs.Rules.{accepted_def, rule_r4}
use Rattle.lanes.specs.Arrays.{Arrays}
use Rattle.lanes.specs.Holds.{Holds}
use Rattle.lanes.specs.declared.Shape.{Shape}
use Rattle.run_samples.specs.Sample.{Setting}
use Rattle.run_block.specs.Block.{AllRuns}
use Rattle.run_one.specs.WholeRun.{WholeRun}
use Rattle.run_block.proofs.Part.{progress-run}
use Rattle.definition_laws.proofs.Progress.{Progress, progress_none, progress-all}

-- after i samples from q₀, in whole runs: weights and window, how far the block has come, and what the arrays hold
pub record BlockReached (n m : ℕ) (q₀ : Equalizer) (xs : List Float) (a : Arrays) (ys : List Float) (ms ns : List ℕ) (s : EqualizeState) (i : ℕ) : Type 0 where
  pub weights : List Float
  pub window : List Float
  pub done : Progress q₀ xs (equalizer s weights window) ys ms ns i (2 * i)
  pub holds : Holds n m 64 a (equalizer s weights window)

pub record BlockLoop (s₀ : EqualizeState) (g : Shape) (n : ℕ) (limit : List Float) (a₀ : Arrays) (xs : List Float) (a : Arrays) (ys : List Float) (ms ns : List ℕ) (s : EqualizeState) (i : ℕ) : Type 0 where
  pub counts : rule_r4 s ≡ true
  pub input : length xs ≡ 2 * length ms
  pub output : length ys ≡ 2 * length ms
  pub numbers : length ns ≡ length ms
  pub reached : (w h : List Float) → accepted_def (equalizer s₀ w h) ≡ true → Setting g n limit → Holds n g.m 64 a₀ (equalizer s₀ w h) → BlockReached n g.m (equalizer s₀ w h) xs a ys ms ns s (min i (length ms))

pub loop_none : (s : EqualizeState) (g : Shape) (n : ℕ) (limit : List Float) (a : Arrays) (xs ys : List Float) (ms ns : List ℕ) → rule_r4 s ≡ true → length xs ≡ 2 * length ms → length ys ≡ 2 * length ms → length ns ≡ length ms → BlockLoop s g n limit a xs a ys ms ns s 0
loop_none s g n limit a xs ys ms ns c i o k = record {
  counts = c;
  input = i;
  output = o;
  numbers = k;
  reached = λ w h ok set hold.
      let z : min 0 (length ms) ≡ 0 = omega arith in
      record { weights = w; window = h; done = rw z (progress_none (equalizer s w h) xs ys ms ns ok); holds = hold };
}

module _ (s₀ : EqualizeState) (g : Shape) (n : ℕ) (limit : List Float) (a₀ : Arrays) (xs : List Float) (a : Arrays) (ys : List Float) (ms ns : List ℕ) (s : EqualizeState) (i : ℕ)
    (o : BlockLoop s₀ g n limit a₀ xs a ys ms ns s i) where
  pub loop_more : (e : ℕ) (a' : Arrays) (ys' : List Float) (ms' ns' : List ℕ) (r : EqualizeState) → i < length ms → e ≡ min (i + 64) (length ms) → length ys' ≡ length ys → length ms' ≡ length ms → length ns' ≡ length ns
      → WholeRun s g n limit a xs ys ms ns i e a' ys' ms' ns' r → BlockLoop s₀ g n limit a₀ xs a' ys' ms' ns' r (i + 64)
  loop_more e a' ys' ms' ns' r l k ly lm ln b = record {
    counts = b.counts;
    input = omega (arith, lm, o.input);
    output = omega (arith, lm, ly, o.output);
    numbers = omega (arith, lm, ln, o.numbers);
    reached = λ w h ok set hold.
        let j : min i (length ms) ≡ i = omega arith in
        let next : min (i + 64) (length ms') ≡ e = omega (arith, k, lm) in
        let z = rw j at (o.reached w h ok set hold) in
        let v = b.part_done z.weights z.window z.done.accepted set z.holds in
        let q = equalizer s z.weights z.window in
        let q' = equalizer r v.after.weights v.after.window in
        record {
          weights = v.after.weights;
          window = v.after.window;
          done = rw (next, v.out, v.marks, v.numbers) (progress-run (equalizer s₀ w h) xs q ys ms ns i e z.done o.input o.output o.numbers (omega (arith, k)) (omega (arith, k)) q' v.part v.part_marks v.part_numbers v.after.ran);
          holds = v.after.holds;
        };
  }

  pub loop_all : length ms ≤ i → AllRuns s₀ g n limit a₀ xs a ys ms ns s
  loop_all l = record {
    after = λ w h ok set hold.
        let j : min i (length ms) ≡ length ms = omega arith in
        let z = rw j at (o.reached w h ok set hold) in
        record {
          weights = z.weights;
          window = z.window;
          ran = progress-all (equalizer s₀ w h) xs (equalizer s z.weights z.window) ys ms ns (length ms) (2 * length ms) z.done (omega arith) (omega (arith, o.numbers)) (omega (arith, o.output)) (omega (arith, o.input));
          holds = z.holds;
        };
  }
