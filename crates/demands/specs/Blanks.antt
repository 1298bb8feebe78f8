-- WHAT BLANKS DO. "A blank is a sample of which a part is not finite."
use Rattle.std.specs.Prelude.{ℕ, ◌+◌, ◌*◌, ◌≤◌, min, max, ◌≡◌, Bool, true, cond, not, ◌&&◌, List, [], ◌∷◌, ◌++◌, length, take, drop, replicate, eqb, Float}
use Rattle.types.specs.declared.C32.{C32}
use Rattle.types.specs.declared.EqMode.{EqMode}
use Rattle.types.specs.declared.EqMode.TheVariants.{Cma, Decision}
use Rattle.types.specs.declared.EqualizeState.{EqualizeState}
use Rattle.types.specs.declared.Mark.TheVariants.{Blank}
use Rattle.definition.specs.Floats.{zero_c, finite_c}
use Rattle.definition.specs.Slices.{zeros}
use Rattle.definition.specs.Sample.{Equalizer, Out, feedback, forward, never_switch, no_number, with_mode}
use Rattle.definition.specs.Rules.{accepted_def}
use Rattle.definition.specs.Run.{Run, run_def}

unfoldable pub all_blank : List C32 → Bool
all_blank [] = true
all_blank (x ∷ xs) = not (finite_c x) && all_blank xs

pub record Blanks (n : ℕ) (xs : List C32) : Type 0 where
  pub many : length xs ≡ n
  pub each : all_blank xs ≡ true

-- zero, the mark blank, and no number
abbrev pub blank_out : Out
blank_out = record { symbol = zero_c; mark = Blank; number = no_number }

-- count after k blanks: the smaller of its start plus k and `cma_symbols`, or 0 where `cma_symbols` is 4,294,967,295
abbrev pub count_after : EqualizeState → ℕ → ℕ
count_after s k = cond (eqb s.params.cma_symbols never_switch) 0 (min (s.count + k) s.params.cma_symbols)

-- mode is Decision exactly when count equals `cma_symbols`
abbrev pub mode_at : ℕ → ℕ → EqMode
mode_at n total = cond (eqb n total) Decision Cma

-- the window after k blanks: k zeros in front of the forward part, and of the feedback part, as many falling out
abbrev pub window_after : Equalizer → ℕ → List Float
window_after q k =
    take (2 * forward q) (zeros (2 * k) ++ take (2 * forward q) q.window) ++ take (2 * feedback q) (zeros (2 * k) ++ drop (2 * forward q) q.window)

-- "After k of the n blanks weights and every field but mode and count are as at the start": r is what q has become
pub record AfterBlanks (q : Equalizer) (k : ℕ) (r : Equalizer) : Type 0 where
  pub weights : r.weights ≡ q.weights
  pub state : r.state ≡ with_mode q.state (mode_at (count_after q.state k) q.state.params.cma_symbols) (count_after q.state k)
  pub window : r.window ≡ window_after q k

pub record BlankRun (q : Equalizer) (k : ℕ) (r : Run) : Type 0 where
  pub outs : r.outs ≡ replicate k blank_out
  pub after : AfterBlanks q k r.equalizer

abbrev pub BlanksClaim : Type 0
BlanksClaim = (q : Equalizer) (k : ℕ) (xs : List C32) → accepted_def q ≡ true → Blanks k xs → BlankRun q k (run_def q xs)

-- nothing of the past is in the window after as many blanks as the longer of the forward and feedback windows: all is +0
abbrev pub ClearClaim : Type 0
ClearClaim = (q : Equalizer) (n : ℕ) → accepted_def q ≡ true → max (forward q) (feedback q) ≤ n → window_after q n ≡ zeros (length q.window)
