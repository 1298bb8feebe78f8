-- A block on the arrays, run after run, in the definition's words.
use Rattle.std.specs.Prelude.{ℕ, ◌≡◌, true, List, length, replicate, Float}
use Rattle.types.specs.declared.EqualizeState.{EqualizeState}
use Rattle.types.specs.Bits.{zero32}
use Rattle.definition.specs.Packed.{equalizer, ServedBlock}
use Rattle.definition.specs.Sample.{Equalizer, forward, feedback}
use Rattle.definition.specs.Rules.{accepted_def}
use Rattle.lanes.specs.Arrays.{Arrays, arrays}
use Rattle.lanes.specs.Holds.{Holds}
use Rattle.lanes.specs.declared.Shape.{Shape}
use Rattle.run_samples.specs.Sample.{Setting}
use Rattle.run_samples.specs.Run.{After}

-- all runs of a block
pub record AllRuns (s : EqualizeState) (g : Shape) (n : ℕ) (limit : List Float) (a : Arrays) (xs : List Float) (a' : Arrays) (ys' : List Float) (ms' ns' : List ℕ) (r : EqualizeState) : Type 0 where
  pub after : (w h : List Float) → accepted_def (equalizer s w h) ≡ true → Setting g n limit → Holds n g.m 64 a (equalizer s w h)
      → After n g.m 64 (equalizer s w h) xs ys' ms' ns' a' r

pub record Empty (a : Arrays) : Type 0 where
  pub wr : a.wr ≡ replicate 144 zero32
  pub wi : a.wi ≡ replicate 144 zero32
  pub xr : a.xr ≡ replicate 288 zero32
  pub xi : a.xi ≡ replicate 288 zero32
  pub q : a.q ≡ replicate 288 zero32

-- the caller's slices to arrays
pub record Loads (n m : ℕ) (w h : List Float) (a : Arrays) : Type 0 where
  pub loaded : (s : EqualizeState) → accepted_def (equalizer s w h) ≡ true → forward (equalizer s w h) ≡ n → feedback (equalizer s w h) ≡ m → Holds n m 64 a (equalizer s w h)

-- arrays to the caller's slices
pub record Stores (n m : ℕ) (wr wi xr xi w₀ h₀ w h : List Float) : Type 0 where
  pub stored : (sq : List Float) (q : Equalizer) → Holds n m 64 (arrays wr wi xr xi sq) q → length w₀ ≡ length q.weights → length h₀ ≡ length q.window → (w ≡ q.weights) × (h ≡ q.window)

-- a served call of n forward and m feedback taps
pub record Asked (s : EqualizeState) (w h xs ys : List Float) (ms ns : List ℕ) (n m : ℕ) : Type 0 where
  pub shaped : ServedBlock (equalizer s w h) xs ys ms ns
  pub forth : n ≡ forward (equalizer s w h)
  pub back : m ≡ feedback (equalizer s w h)
