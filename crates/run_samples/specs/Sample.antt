-- One sample on the arrays, in the definition's words. n forward taps; `Shape` has the feedback taps and the lanes.
use Rattle.std.specs.Prelude.{ℕ, ◌+◌, ◌/◌, ◌%◌, ◌<◌, ◌≡◌, true, cond, List, get_or, eqb, Float}
use Rattle.std.specs.Float.{nan}
use Rattle.types.specs.declared.C32.{C32}
use Rattle.types.specs.declared.EqualizeState.{EqualizeState}
use Rattle.types.specs.declared.Update.{Update}
use Rattle.definition.specs.Slices.{power}
use Rattle.definition.specs.Packed.{equalizer}
use Rattle.definition.specs.Sample.{Equalizer, mu_of, step_size, adapted, step1, step2, step3, advance, sample_def}
use Rattle.definition.specs.Sample as sample
use Rattle.definition.specs.Rules.{accepted_def, rule_r4}
use Rattle.lanes.specs.Arrays.{Arrays}
use Rattle.lanes.specs.Fed.{fed_at}
use Rattle.lanes.specs.Holds.{Holds, Put, Limits, LaneCounts}
use Rattle.lanes.specs.Adapts.{Adapts}
use Rattle.steps.specs.declared.Track.{Track}
use Rattle.steps.specs.declared.Stage.{Stage}
use Rattle.steps.specs.declared.Sampled.{Sampled}
use Rattle.steps.specs.Step.{with_track, stage, did}
use Rattle.lanes.specs.declared.Shape.{Shape}

-- the forward window, the first 144 places, is the same in both
pub record Front (a a' : Arrays) : Type 0 where
  pub re : (i : ℕ) → i < 144 → get_or a'.xr i nan ≡ get_or a.xr i nan
  pub im : (i : ℕ) → i < 144 → get_or a'.xi i nan ≡ get_or a.xi i nan

-- a shape of n forward and m feedback taps
pub record Formed (n m : ℕ) (g : Shape) : Type 0 where
  pub back_is : g.m ≡ m
  pub front_is : g.front ≡ n % 8
  pub middle : g.centre ≡ n / 2
  pub shaped : LaneCounts n m g.lanes g.more g.quads g.mquads

-- a shape and its limits, of n forward taps
pub record Setting (g : Shape) (n : ℕ) (limit : List Float) : Type 0 where
  pub shaped : LaneCounts n g.m g.lanes g.more g.quads g.mquads
  pub front_is : g.front ≡ n % 8
  pub middle : g.centre ≡ n / 2
  pub limits : Limits limit 0 0 n
  pub limits' : Limits limit 72 (n % 8) g.m

unfoldable pub size_of : EqualizeState → ℕ → Float → Float → Float
size_of s m ahead P = cond (eqb m 0) ahead (step_size (mu_of s.mode s.params) P)

-- what steps 2 to 7 come to, of n + m taps
unfoldable pub stage_of : EqualizeState → List Float → List Float → ℕ → ℕ → C32 → sample.Stage
stage_of s w h n m x = step3 s w (n + m) n x (step1 n x h) (step2 (n + m) w (step1 n x h))

-- before a sample: the arrays hold record, weights and window, x has been put in, its forward power is known, and its step size without feedback
pub record Before (s : EqualizeState) (g : Shape) (n at : ℕ) (x : C32) (forward ahead : Float) (limit : List Float) (a : Arrays) (w h : List Float) : Type 0 where
  pub setting : Setting g n limit
  pub holds : Holds n g.m (at + 1) a (equalizer s w h)
  pub put : Put at x a.xr a.xi
  pub power_is : forward ≡ power (step1 n x h) n
  pub size_is : g.m ≡ 0 → ahead ≡ step_size (mu_of s.mode s.params) forward

-- after steps 2 to 7: r, with the weights after the update u, is what those steps come to
abbrev pub StageIs : EqualizeState → ℕ → ℕ → C32 → List Float → List Float → Update → Stage → Type 0
StageIs s n m x w h u r = stage s r (adapted u (n + m) n w (step1 n x h)) ≡ stage_of s w h n m x

pub record Takes (s : EqualizeState) (g : Shape) (at : ℕ) (x : C32) (forward ahead : Float) (limit : List Float) (a : Arrays) (wr' wi' : List Float) (r : Stage) : Type 0 where
  pub update : Update
  pub adapts : Adapts update a.wr a.wi limit a.xr a.xi at g.quads (fed_at at g.front) g.mquads g.centre wr' wi'
  pub stage_is : (n : ℕ) (w h : List Float) → Before s g n at x forward ahead limit a w h → StageIs s n g.m x w h update r

-- after step 8: weights and window, what the sample gave, and what the arrays hold now
pub record SampleDone (n m at : ℕ) (x : C32) (q : Equalizer) (a : Arrays) (r : Sampled) : Type 0 where
  pub weights : List Float
  pub window : List Float
  pub is : did r weights window ≡ sample_def q x
  pub holds : Holds n m at a (equalizer r.state weights window)

pub record Samples (s : EqualizeState) (g : Shape) (at : ℕ) (x : C32) (forward ahead : Float) (limit : List Float) (a a' : Arrays) (r : Sampled) : Type 0 where
  pub front : Front a a'
  pub counts : rule_r4 r.state ≡ true
  pub track : Track
  pub ticks : r.state ≡ with_track (advance s) track
  pub done : (n : ℕ) (w h : List Float) → accepted_def (equalizer s w h) ≡ true → Before s g n at x forward ahead limit a w h → SampleDone n g.m at x (equalizer s w h) a' r
