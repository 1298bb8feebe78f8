-- DEMAND 1. "A block handed in with its record and buffers, be it long, empty, mismatched, forged or full of infinities, is either served, with
-- one symbol and one mark per sample, or refused by a listed number with every buffer and the record as they came; a served block's record is
-- accepted by the next call."
use Rattle.std.specs.Prelude.{ℕ, ◌/◌, ◌<◌, ◌≡◌, ◌⊎◌, true, ◌&&◌, List, [], ◌∷◌, length, get_or, take, eqb, Float, Ok, Err}
use Rattle.types.specs.declared.C32.{C32}
use Rattle.types.specs.declared.EqParams.{EqParams}
use Rattle.types.specs.declared.EqualizeState.{EqualizeState}
use Rattle.types.specs.declared.Error.{Error}
use Rattle.types.specs.declared.Error.TheVariants.{Odd, Output, Marks, Numbers}
use Rattle.types.specs.Numbers.{error_number, mark_number}
use Rattle.definition.specs.Refusals.{Outcome, error_values, test, first_of}
use Rattle.definition.specs.Floats.{zero_c}
use Rattle.definition.specs.Sample.{Equalizer, with_running}
use Rattle.definition.specs.Rules.{accepted_def}
use Rattle.definition.specs.Run.{run_def, written, mark_byte}
use Rattle.demands.specs.Marks.{mark_given}
use Rattle.definition.specs.Calls.{even, Answer, equalize_def, new_def, reset_def, with_params, with_mus, set_mu_cma_def, set_mu_dd_def, held_freq, set_frequency_def}

-- served: one symbol, one mark and one number per sample, and what is left is accepted
pub record ServedCall (xs : List Float) (a : Answer) : Type 0 where
  pub outcome : a.outcome ≡ (Ok tt)
  pub accepted : accepted_def a.equalizer ≡ true
  pub symbols : length a.out ≡ length xs
  pub marks : length a.marks ≡ length xs / 2
  pub numbers : length a.numbers ≡ length xs / 2

-- refused: the error's number, its lengths, and record, weights, window, output, marks and numbers as they came
pub record RefusedCall (q : Equalizer) (ys : List Float) (ms ns : List ℕ) (a : Answer) : Type 0 where
  pub error : Error
  pub outcome : a.outcome ≡ Err error
  pub reply : a.reply ≡ error_number error ∷ error_values error
  pub equalizer : a.equalizer ≡ q
  pub out : a.out ≡ ys
  pub marks : a.marks ≡ ms
  pub numbers : a.numbers ≡ ns

abbrev pub Demand1 : Type 0
Demand1 =
    (q : Equalizer) (xs ys : List Float) (ms ns : List ℕ) → ServedCall xs (equalize_def q xs ys ms ns) ⊎ RefusedCall q ys ms ns (equalize_def q xs ys ms ns)

-- From an accepted start the lengths alone decide: 1, 9, 10, 13, "tried after 10", or served. So a served block's record is not refused by the next
-- call with 8.
unfoldable pub lengths_verdict : List Float → List Float → List ℕ → List ℕ → Outcome
lengths_verdict xs ys ms ns =
    first_of
    (test (even (length xs) && even (length ys)) Odd
    ∷ test (eqb (length ys / 2) (length xs / 2)) (Output (length xs / 2) (length ys / 2))
    ∷ test (eqb (length ms) (length xs / 2)) (Marks (length xs / 2) (length ms))
    ∷ test (eqb (length ns) (length xs / 2)) Numbers
    ∷ [])

abbrev pub ByLengths : Type 0
ByLengths =
    (q : Equalizer) (xs ys : List Float) (ms ns : List ℕ) → accepted_def q ≡ true → (equalize_def q xs ys ms ns).outcome ≡ lengths_verdict xs ys ms ns

-- The mark of sample i goes by that sample and by y, F and z, which are formed from what the i samples before have left. For every q, accepted or not.
abbrev pub EveryMark : Type 0
EveryMark =
    (q : Equalizer) (xs : List C32) (i : ℕ) → i < length xs → get_or (written mark_byte (run_def q xs).outs) i 0 ≡ mark_number (mark_given (run_def q (take i xs)).equalizer (get_or xs i zero_c))

-- `new`, `reset` and the setters: what a served call leaves is accepted, or stays accepted, and a refused one leaves all as it came; a setter moves
-- its one setting, and set_frequency the frequency alone.
abbrev pub with_state : Equalizer → EqualizeState → Equalizer
with_state q s = record { state = s; weights = q.weights; window = q.window }

pub record OthersAccepted : Type 0 where
  pub new : (p : EqParams) (w h : List Float) (s : EqualizeState) → (new_def p w h).answer ≡ Ok s
      → accepted_def (record { state = s; weights = (new_def p w h).weights; window = (new_def p w h).window }) ≡ true
  pub reset : (q : Equalizer) → (reset_def q).outcome ≡ (Ok tt) → accepted_def (reset_def q).equalizer ≡ true
  pub set_mu_cma : (q : Equalizer) (mu : Float) → accepted_def q ≡ true → accepted_def (with_state q (set_mu_cma_def q.state mu).state) ≡ true
  pub set_mu_dd : (q : Equalizer) (mu : Float) → accepted_def q ≡ true → accepted_def (with_state q (set_mu_dd_def q.state mu).state) ≡ true
  pub set_frequency : (q : Equalizer) (v : Float) → accepted_def q ≡ true → accepted_def (with_state q (set_frequency_def q.state v)) ≡ true

pub record OthersRefused : Type 0 where
  pub new : (p : EqParams) (w h : List Float) (e : Error) → (new_def p w h).answer ≡ Err e → ((new_def p w h).weights ≡ w) × ((new_def p w h).window ≡ h)
  pub reset : (q : Equalizer) (e : Error) → (reset_def q).outcome ≡ Err e → (reset_def q).equalizer ≡ q
  pub set_mu_cma : (s : EqualizeState) (mu : Float) (e : Error) → (set_mu_cma_def s mu).outcome ≡ Err e → (set_mu_cma_def s mu).state ≡ s
  pub set_mu_dd : (s : EqualizeState) (mu : Float) (e : Error) → (set_mu_dd_def s mu).outcome ≡ Err e → (set_mu_dd_def s mu).state ≡ s

pub record SettersMove : Type 0 where
  pub moves_mu_cma : (s : EqualizeState) (mu : Float) → (set_mu_cma_def s mu).outcome ≡ (Ok tt) → (set_mu_cma_def s mu).state ≡ with_params s (with_mus s.params mu s.params.mu_dd)
  pub moves_mu_dd : (s : EqualizeState) (mu : Float) → (set_mu_dd_def s mu).outcome ≡ (Ok tt) → (set_mu_dd_def s mu).state ≡ with_params s (with_mus s.params s.params.mu_cma mu)
  pub frequency : (s : EqualizeState) (v : Float) → set_frequency_def s v ≡ with_running s s.mode s.count s.mse s.phase (held_freq v)
