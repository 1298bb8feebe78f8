-- The samples of a run on the arrays, in the definition's words.
use Rattle.std.specs.Prelude.{ℕ, ◌-◌, ◌*◌, ◌/◌, ◌<◌, ◌≤◌, ◌≡◌, true, List, length, get_or, Float}
use Rattle.std.specs.Float.{nan}
use Rattle.types.specs.declared.EqualizeState.{EqualizeState}
use Rattle.definition.specs.Floats.{complex}
use Rattle.definition.specs.Slices.{re_at, im_at, power, samples_of}
use Rattle.definition.specs.Packed.{equalizer, Ran}
use Rattle.definition.specs.Sample.{Equalizer}
use Rattle.definition.specs.Rules.{accepted_def, rule_r4}
use Rattle.definition.specs.Run.{run_def}
use Rattle.lanes.specs.Arrays.{Arrays}
use Rattle.lanes.specs.Holds.{Lies, Holds, Put}
use Rattle.lanes_prepare.specs.Clock.{StepSizes}
use Rattle.lanes.specs.declared.Shape.{Shape}
use Rattle.run_samples.specs.Sample.{Setting}

-- input, output, marks and numbers of the same samples; the four go one by one, as the call of the specification has them
abbrev pub SameSamples : List Float → List Float → List ℕ → List ℕ → Type 0
SameSamples xs ys ms ns = (length xs ≡ 2 * length ms) × ((length ys ≡ 2 * length ms) × (length ns ≡ length ms))

-- the powers ps of the windows that lie in the arrays, from the place `from` on
pub record Powered (n from : ℕ) (xr xi ps : List Float) : Type 0 where
  pub is : (at : ℕ) (l : List Float) → from ≤ at → at < 64 → Lies xr xi at l 0 n → get_or ps at nan ≡ power l n

-- before a run over xs: the arrays hold record, weights and window, the samples are put in, and what depends on them alone is made
pub record RunReady (s : EqualizeState) (g : Shape) (n : ℕ) (limit : List Float) (a : Arrays) (ps ss xs w h : List Float) : Type 0 where
  pub setting : Setting g n limit
  pub holds : Holds n g.m 64 a (equalizer s w h)
  pub puts : (k : ℕ) → k < length xs / 2 → Put (63 - k) (complex (re_at xs k) (im_at xs k)) a.xr a.xi
  pub powers : Powered n (64 - length xs / 2) a.xr a.xi ps
  pub sizes : StepSizes s ps (64 - length xs / 2) ss

-- after a run from q over xs: its outcome, and what the arrays hold of it, at p
pub record After (n m p : ℕ) (q : Equalizer) (xs ys : List Float) (ms ns : List ℕ) (a : Arrays) (s : EqualizeState) : Type 0 where
  pub weights : List Float
  pub window : List Float
  pub ran : Ran (run_def q (samples_of xs)) (equalizer s weights window) ys ms ns
  pub holds : Holds n m p a (equalizer s weights window)

pub record Runs (s : EqualizeState) (g : Shape) (limit : List Float) (a : Arrays) (ps ss xs : List Float) (a' : Arrays) (ys : List Float) (ms ns : List ℕ) (r : EqualizeState) : Type 0 where
  pub counts : rule_r4 r ≡ true
  pub input : length xs ≡ 2 * length ms
  pub after : (n : ℕ) (w h : List Float) → accepted_def (equalizer s w h) ≡ true → RunReady s g n limit a ps ss xs w h
      → After n g.m (64 - length ms) (equalizer s w h) xs ys ms ns a' r
