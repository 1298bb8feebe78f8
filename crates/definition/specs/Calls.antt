-- THE PUBLIC OPERATIONS, whole: reply, record, weights, window, output, marks, numbers. A refusal leaves all as it was.
-- Each answer holds the outcome, as the code's `Result`, and the reply: document 01's number and lengths for it.
-- Lists left as they were are equal as data: a NaN in them is a NaN again, and its payload is not spoken of (Floats).
use Rattle.std.specs.Prelude.{ℕ, ◌-◌, ◌*◌, ◌/◌, Bool, cond, ◌&&◌, List, [], ◌∷◌, ◌++◌, length, eqb, Float, Ok, Err}
use Rattle.std.specs.Float.Ieee.{is_nan}
use Rattle.types.specs.declared.EqParams.{EqParams}
use Rattle.types.specs.declared.EqualizeState.{EqualizeState}
use Rattle.types.specs.declared.Error.TheVariants.{Odd, Feedback, Taps, Window, MuCma, MuDd, Bandwidth, Record, Output, Marks, Numbers}
use Rattle.types.specs.Start.{start_state}
use Rattle.definition.specs.Refusals.{Outcome, Fresh, reply_of, Test, test, first_of}
use Rattle.types.specs.Bits.{zero32}
use Rattle.definition.specs.Floats.{max_freq, flush, clip}
pub use Rattle.definition.specs.Slices.{even}
use Rattle.definition.specs.Slices.{samples_of, zeros, start_weights}
use Rattle.definition.specs.Gains.{phase_damping, gain_kp, gain_ki}
use Rattle.definition.specs.Sample.{Equalizer, all_taps, with_running}
use Rattle.definition.specs.Rules.{taps_fit, feedback_fits, mu_fits, bw_fits, rule_r1, rule_r2, rules}
use Rattle.definition.specs.Run.{Run, run_def, written, symbol_parts, mark_byte, number_byte}

-- ---- the start: what `new` and `reset` set; `start_state` (types) is the record then: count 0, `mse` 1, phase 0, freq 0

-- all weights 0 but 1 at index forward taps / 2, window 0; n is the number of all taps
unfoldable pub start_over : EqualizeState → ℕ → Equalizer
start_over s n = record { state = s; weights = start_weights n ((n - s.params.feedback_taps) / 2); window = zeros (2 * n) }

-- ---- new

-- The tests are lists that a call joins; lw and lh are the counts of f32 in weights and window.

-- test 1 of weights and window: whole complex numbers
abbrev pub pair_tests : ℕ → ℕ → List Test
pair_tests lw lh =
    test (even lw && even lh) Odd
    ∷ []

-- Tests 2 to 4: the taps. Forward taps are the weights less the feedback taps, and 0 where there are fewer weights, which is refused with 3.
abbrev pub tap_tests : EqParams → ℕ → ℕ → List Test
tap_tests p lw lh =
    test (feedback_fits p.feedback_taps) Feedback
    ∷ test (taps_fit (lw / 2 - p.feedback_taps)) Taps
    ∷ test (eqb (lh / 2) (lw / 2)) (Window (lw / 2) (lh / 2))
    ∷ []

-- tests 5 to 7: the settings
abbrev pub setting_tests : EqParams → List Test
setting_tests p =
    test (mu_fits p.mu_cma) MuCma
    ∷ test (mu_fits p.mu_dd) MuDd
    ∷ test (bw_fits p.phase_bw) Bandwidth
    ∷ []

-- test 8: the record
abbrev pub record_tests : Bool → List Test
record_tests rulesMet =
    test rulesMet Record
    ∷ []

-- `new` tests 1 to 7 in that order.
unfoldable pub new_tests : EqParams → ℕ → ℕ → List Test
new_tests p lw lh = pair_tests lw lh ++ tap_tests p lw lh ++ setting_tests p

unfoldable pub new_verdict : EqParams → ℕ → ℕ → Outcome
new_verdict p lw lh = first_of (new_tests p lw lh)

pub record NewAnswer : Type 0 where
  pub answer : Fresh
  pub reply : List ℕ
  pub weights : List Float
  pub window : List Float

abbrev pub new_answer : Fresh → List Float → List Float → NewAnswer
new_answer a w h = record { answer = a; reply = reply_of a; weights = w; window = h }

unfoldable pub fresh_state : EqParams → EqualizeState
fresh_state p = start_state p (gain_kp p.phase_bw phase_damping) (gain_ki p.phase_bw phase_damping)

abbrev pub new_by : Outcome → EqParams → List Float → List Float → NewAnswer
new_by (Err e) p w h = new_answer (Err e) w h
new_by (Ok tt) p w h =
    let q = start_over (fresh_state p) (length w / 2) in
    new_answer (Ok q.state) q.weights q.window

-- w and h are what the slices of weights and window hold before the call
unfoldable pub new_def : EqParams → List Float → List Float → NewAnswer
new_def p w h = new_by (new_verdict p (length w) (length h)) p w h

-- ---- reset

-- `reset` tests 1, then 8 for R1 and R2 only.
abbrev pub reset_tests : Equalizer → List Test
reset_tests q = pair_tests (length q.weights) (length q.window) ++ record_tests (rule_r1 q && rule_r2 q.state)

unfoldable pub reset_verdict : Equalizer → Outcome
reset_verdict q = first_of (reset_tests q)

pub record ResetAnswer : Type 0 where
  pub outcome : Outcome
  pub reply : List ℕ
  pub equalizer : Equalizer

abbrev pub reset_answer : Outcome → Equalizer → ResetAnswer
reset_answer o q = record { outcome = o; reply = reply_of o; equalizer = q }

abbrev pub reset_by : Outcome → Equalizer → ResetAnswer
reset_by (Err e) q = reset_answer (Err e) q
reset_by (Ok tt) q = reset_answer (Ok tt) (start_over (start_state q.state.params q.state.kp q.state.ki) (all_taps q))

unfoldable pub reset_def : Equalizer → ResetAnswer
reset_def q = reset_by (reset_verdict q) q

-- ---- the setters test 5 or 6 only

abbrev pub with_params : EqualizeState → EqParams → EqualizeState
with_params s p = record { params = p; kp = s.kp; ki = s.ki; mode = s.mode; count = s.count; mse = s.mse; phase = s.phase; freq = s.freq }

-- the settings with other step sizes
abbrev pub with_mus : EqParams → Float → Float → EqParams
with_mus p cma dd = record {
  constellation = p.constellation;
  feedback_taps = p.feedback_taps;
  mu_cma = cma;
  mu_dd = dd;
  cma_symbols = p.cma_symbols;
  phase_bw = p.phase_bw;
}

pub record SetAnswer : Type 0 where
  pub outcome : Outcome
  pub reply : List ℕ
  pub state : EqualizeState

abbrev pub set_answer : Outcome → EqualizeState → SetAnswer
set_answer o s = record { outcome = o; reply = reply_of o; state = s }

unfoldable pub set_mu_cma_def : EqualizeState → Float → SetAnswer
set_mu_cma_def s mu =
    cond (mu_fits mu) (set_answer (Ok tt) (with_params s (with_mus s.params mu s.params.mu_dd))) (set_answer (Err MuCma) s)

unfoldable pub set_mu_dd_def : EqualizeState → Float → SetAnswer
set_mu_dd_def s mu =
    cond (mu_fits mu) (set_answer (Ok tt) (with_params s (with_mus s.params s.params.mu_cma mu))) (set_answer (Err MuDd) s)

-- `set_frequency` never refuses: NaN gives 0; otherwise below 1e-30 in magnitude gives +0, beyond 0.125 gives ±0.125.
unfoldable pub held_freq : Float → Float
held_freq v = cond (is_nan v) zero32 (clip (flush v) max_freq)

unfoldable pub set_frequency_def : EqualizeState → Float → EqualizeState
set_frequency_def s v = with_running s s.mode s.count s.mse s.phase (held_freq v)

-- ---- equalizing

-- the lengths of what a call is handed, as counts of f32, and of bytes for marks and numbers
pub record Lengths : Type 0 where
  pub weights : ℕ
  pub window : ℕ
  pub input : ℕ
  pub output : ℕ
  pub marks : ℕ
  pub numbers : ℕ

-- test 1 of all four slices
abbrev pub slice_tests : Lengths → List Test
slice_tests l =
    test (even l.weights && even l.window && even l.input && even l.output) Odd
    ∷ []

-- Tests 9, 10 and 13: output, marks and numbers hold as many samples as the input. "Where that slice is not the input's length the call gives 13, tried after 10."
abbrev pub length_tests : Lengths → List Test
length_tests l =
    test (eqb (l.output / 2) (l.input / 2)) (Output (l.input / 2) (l.output / 2))
    ∷ test (eqb l.marks (l.input / 2)) (Marks (l.input / 2) l.marks)
    ∷ test (eqb l.numbers (l.input / 2)) Numbers
    ∷ []

-- Equalizing tests 1, 8, 9, 10, 13.
unfoldable pub equalize_tests : Bool → Lengths → List Test
equalize_tests rulesMet l = slice_tests l ++ record_tests rulesMet ++ length_tests l

unfoldable pub verdict_def : Bool → Lengths → Outcome
verdict_def rulesMet l = first_of (equalize_tests rulesMet l)

abbrev pub lengths_of : Equalizer → List Float → List Float → List ℕ → List ℕ → Lengths
lengths_of q xs ys ms ns = record {
  weights = length q.weights;
  window = length q.window;
  input = length xs;
  output = length ys;
  marks = length ms;
  numbers = length ns;
}

-- what a call answers, and the later content of all that it was handed
pub record Answer : Type 0 where
  pub outcome : Outcome
  pub reply : List ℕ
  pub equalizer : Equalizer
  pub out : List Float
  pub marks : List ℕ
  pub numbers : List ℕ

abbrev pub answer : Outcome → Equalizer → List Float → List ℕ → List ℕ → Answer
answer o q ys ms ns = record { outcome = o; reply = reply_of o; equalizer = q; out = ys; marks = ms; numbers = ns }

abbrev pub served_by : Run → Answer
served_by r = answer (Ok tt) r.equalizer (written symbol_parts r.outs) (written mark_byte r.outs) (written number_byte r.outs)

abbrev pub answer_by : Outcome → Equalizer → List Float → List Float → List ℕ → List ℕ → Answer
answer_by (Ok tt) q xs ys ms ns = served_by (run_def q (samples_of xs))
answer_by (Err e) q xs ys ms ns = answer (Err e) q ys ms ns

-- xs is the input; ys, ms and ns are what output, marks and numbers hold before the call
unfoldable pub equalize_def : Equalizer → List Float → List Float → List ℕ → List ℕ → Answer
equalize_def q xs ys ms ns = answer_by (verdict_def (rules q) (lengths_of q xs ys ms ns)) q xs ys ms ns
