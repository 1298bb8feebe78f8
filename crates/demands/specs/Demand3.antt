-- DEMAND 3, over two whole lists of equalizing calls. Each line names the sentence of the demand that it carries.
use Rattle.std.specs.Prelude.{ℕ, ◌*◌, ◌≤◌, max, ◌≡◌, true, List, ◌++◌, length, take, replicate}
use Rattle.types.specs.declared.C32.{C32}
use Rattle.types.specs.declared.Mark.TheVariants.{Blank}
use Rattle.types.specs.Numbers.{mark_number}
use Rattle.definition.specs.Slices.{zeros}
use Rattle.definition.specs.Sample.{Equalizer, feedback, forward, no_number}
use Rattle.definition.specs.Rules.{accepted_def}
use Rattle.definition.specs.Run.{run_def}
use Rattle.demands.specs.Traces.{Observed, Follow, samples, symbols, marks, numbers, left}
use Rattle.demands.specs.Cut.{OneRun, Same}
use Rattle.demands.specs.Blanks.{Blanks, AfterBlanks, BlankRun}

-- what demand 3 starts from: p and q are the two equalizers, os and ps their lists of calls
pub record Dropout (p q : Equalizer) (os ps : List Observed) (n : ℕ) (bs es stream : List C32) : Type 0 where
  -- "Take two equalizers that have accepted records"
  pub accepted_p : accepted_def p ≡ true
  pub accepted_q : accepted_def q ≡ true
  -- "and equal weights and differ only in what their windows hold"
  pub states : p.state ≡ q.state
  pub weights : p.weights ≡ q.weights
  -- "and give each any list of equalizing calls, refused ones included, whichever path serves each call"
  pub follow_p : Follow p os
  pub follow_q : Follow q ps
  -- "Let each list's served samples, joined, be a run of blanks, of one length for both"
  pub blanks_p : Blanks n bs
  pub blanks_q : Blanks n es
  -- "and at least the longer of the forward and feedback windows"
  pub enough : max (forward p) (feedback p) ≤ n
  -- "and then one stream, the same for both"
  pub samples_p : samples os ≡ bs ++ stream
  pub samples_q : samples ps ≡ es ++ stream

-- what holds of each list by itself
pub record Dropped (p : Equalizer) (os : List Observed) (n : ℕ) (bs stream : List C32) : Type 0 where
  -- the calls are the run over the blanks and the stream, so what is said of the run is said of them
  pub run : OneRun p os
  -- "each of these blanks gives zero and the mark blank"
  pub first_symbols : take (2 * n) (symbols os) ≡ zeros (2 * n)
  pub first_marks : take n (marks os) ≡ replicate n (mark_number Blank)
  -- and no number: "255 where the mark isn't 0"
  pub first_numbers : take n (numbers os) ≡ replicate n no_number
  -- "and moves only windows, mode and count": after the first k of the blanks, inside a call too
  pub each : (k : ℕ) → k ≤ n → BlankRun p k (run_def p (take k bs))
  -- and wherever a call ends: what the calls before have left, where their samples are the first k blanks
  pub between : (k : ℕ) (before after : List Observed) → os ≡ before ++ after → k ≤ n → samples before ≡ take k bs → AfterBlanks p k (left p before)
  -- no old echo: after the n blanks the window is all +0
  pub clear : (run_def p bs).equalizer.window ≡ zeros (length p.window)

pub record Recovered (p q : Equalizer) (os ps : List Observed) (n : ℕ) (bs es stream : List C32) : Type 0 where
  pub one : Dropped p os n bs stream
  pub other : Dropped q ps n es stream
  -- "all symbols and all marks of the one list, joined, equal those of the other as in 2; and so do the weights, windows and records that the two
  -- lists leave"; and "the two lists' numbers, joined, are equal too"
  pub same : Same p q os ps

abbrev pub Demand3 : Type 0
Demand3 =
    (p q : Equalizer) (os ps : List Observed) (n : ℕ) (bs es stream : List C32) → Dropout p q os ps n bs es stream → Recovered p q os ps n bs es stream
