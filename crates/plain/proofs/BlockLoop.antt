-- The loop over the samples of a block. Assumes nothing.
use Prim.Native.Nat.{ℕ, ◌+◌, ◌*◌, ◌≤◌, ◌<◌}
use mathlib.Core.Path.{◌≡◌, refl}
use mathlib.Core.List.{List}
use native.Mathlib.Omega.{arith}
use lib.ListN.{length, set, length-set}
use lib.Ieee.{Float}
use Rattle.types.specs.declared.C32.{C32}
use Rattle.types.specs.declared.EqualizeState.{EqualizeState}
use Rattle.types.specs.declared.Mark.{Mark}
use Rattle.types.specs.Numbers.{mark_number}
use Rattle.definition.specs.Floats.{complex}
use Rattle.definition.specs.Slices.{re_at, im_at, samples_of}
use Rattle.definition.specs.Packed.{equalizer, ServedBlock, Ran}
use Rattle.definition.specs.Sample.{Equalizer, Did, sample_def}
use Rattle.definition.specs.Run.{run_def}
use Rattle.definition_laws.proofs.Progress.{Progress, progress-more, progress-all}

-- how far the loop has come: the lengths, and the block's progress
pub record Turns (q₀ : Equalizer) (xs : List Float) (q : Equalizer) (ys : List Float) (ms ns : List ℕ) (i : ℕ) : Type 0 where
  pub shaped : ServedBlock q xs ys ms ns
  pub within : i ≤ length ms
  pub done : Progress q₀ xs q ys ms ns i (2 * i)

module _ (q₀ : Equalizer) (xs : List Float) (q : Equalizer) (ys : List Float) (ms ns : List ℕ) (i : ℕ) (g : Turns q₀ xs q ys ms ns i) where
  pub turns_more : (x o : C32) (t : EqualizeState) (k : Mark) (j b : ℕ) (w h ys' : List Float) → i < length ms → ◌≡◌ {A = Did} (record { equalizer = equalizer t w h; out = record { symbol = o; mark = k; number = j } }) (sample_def q x)
      → x.re ≡ re_at xs i → x.im ≡ im_at xs i → b ≡ mark_number k → ys' ≡ set (set ys (2 * i) o.re) (2 * i + 1) o.im → Turns q₀ xs (equalizer t w h) ys' (set ms i b) (set ns i j) (i + 1)
  turns_more x o t k j b w h ys' l d xr xi m e =
      let s = g.shaped in
      let z : 2 * (i + 1) ≡ 2 * i + 2 = omega arith in
      let X : x ≡ complex (re_at xs i) (im_at xs i) = λ u. record { re = xr u; im = xi u } in
      let p = progress-more q₀ xs q ys ms ns i (2 * i) g.done x (record { equalizer = equalizer t w h; out = record { symbol = o; mark = k; number = j } }) b j l (omega (arith, s.numbers)) (omega arith) (omega arith) X d m refl in
      rw e
      (record {
        shaped = record { accepted = p.accepted; input = simp length-set s.input; output = simp length-set s.output; numbers = simp length-set s.numbers };
        within = simp length-set (omega arith);
        done = rw z p;
      })

  pub turns_all : length ms ≤ i → Ran (run_def q₀ (samples_of xs)) q ys ms ns
  turns_all h = let s = g.shaped in progress-all q₀ xs q ys ms ns i (2 * i) g.done h (omega (arith, s.numbers)) (omega arith) (omega arith)
