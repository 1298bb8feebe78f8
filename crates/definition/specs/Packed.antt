-- How the code's values make up those of the definition: a public function's contract is one equation of these with its definition.
use Rattle.std.specs.Prelude.{ℕ, ◌*◌, ◌≡◌, true, List, length, Float}
use Rattle.types.specs.declared.EqualizeState.{EqualizeState}
use Rattle.types.specs.declared.Equalized.{Equalized}
use Rattle.definition.specs.Refusals.{Fresh}
use Rattle.definition.specs.Sample.{Equalizer}
use Rattle.definition.specs.Rules.{accepted_def}
use Rattle.definition.specs.Run.{Run, written, symbol_parts, mark_byte, number_byte}
use Rattle.definition.specs.Calls.{NewAnswer, new_answer, ResetAnswer, reset_answer, SetAnswer, set_answer, Answer, answer}

-- the record, and what the slices of weights and window hold
abbrev pub equalizer : EqualizeState → List Float → List Float → Equalizer
equalizer s w h = record { state = s; weights = w; window = h }

-- an equalizing call's result, and the later content of weights, window, output, marks and numbers
abbrev pub answered : Equalized → List Float → List Float → List Float → List ℕ → List ℕ → Answer
answered r w h ys ms ns = answer r.outcome (equalizer r.state w h) ys ms ns

-- of `new`, `reset` and the setters
abbrev pub made : Fresh → List Float → List Float → NewAnswer
made r w h = new_answer r w h

abbrev pub reset_to : Equalized → List Float → List Float → ResetAnswer
reset_to r w h = reset_answer r.outcome (equalizer r.state w h)

abbrev pub settled : Equalized → SetAnswer
settled r = set_answer r.outcome r.state

-- what the run over a block asks of its slices, once the call is served
pub record ServedBlock (q : Equalizer) (xs ys : List Float) (ms ns : List ℕ) : Type 0 where
  pub accepted : accepted_def q ≡ true
  pub input : length xs ≡ 2 * length ms
  pub output : length ys ≡ 2 * length ms
  pub numbers : length ns ≡ length ms

-- a run's outcome in the slices
pub record Ran (r : Run) (q : Equalizer) (ys : List Float) (ms ns : List ℕ) : Type 0 where
  pub left : q ≡ r.equalizer
  pub out : ys ≡ written symbol_parts r.outs
  pub marks : ms ≡ written mark_byte r.outs
  pub numbers : ns ≡ written number_byte r.outs
