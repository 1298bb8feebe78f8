-- DEMAND 3, over two lists of exported calls: the sentences are those of the crate `demands`, specs/Demand3.
use Rattle.std.specs.Prelude.{ℕ, ◌*◌, ◌≤◌, max, ◌≡◌, true, List, ◌++◌, length, take, replicate}
use Rattle.types.specs.declared.C32.{C32}
use Rattle.types.specs.declared.Mark.TheVariants.{Blank}
use Rattle.types.specs.Numbers.{mark_number}
use Rattle.definition.specs.Slices.{zeros}
use Rattle.definition.specs.Sample.{feedback, forward, no_number}
use Rattle.definition.specs.Run.{run_def}
use Rattle.demands.specs.Blanks.{Blanks, AfterBlanks}
use Rattle.capi_demands.specs.Traces.{Kept, equalizer_of, accepted, Seen, Follow, samples, symbols, marks, numbers, left}
use Rattle.capi_demands.specs.Cut.{OneRun, Same}

pub record Dropout (j k : Kept) (ss ts : List Seen) (n : ℕ) (bs es stream : List C32) : Type 0 where
  pub accepted_j : accepted j ≡ true
  pub accepted_k : accepted k ≡ true
  -- they differ in what their windows hold, and in no more
  pub raws : j.raw ≡ k.raw
  pub weights : j.weights ≡ k.weights
  pub follow_j : Follow j ss
  pub follow_k : Follow k ts
  pub blanks_j : Blanks n bs
  pub blanks_k : Blanks n es
  pub enough : max (forward (equalizer_of j)) (feedback (equalizer_of j)) ≤ n
  pub samples_j : samples ss ≡ bs ++ stream
  pub samples_k : samples ts ≡ es ++ stream

pub record Dropped (k : Kept) (ss : List Seen) (n : ℕ) (bs : List C32) : Type 0 where
  pub run : OneRun k ss
  -- each of the blanks gives zero, the mark blank and no number
  pub first_symbols : take (2 * n) (symbols ss) ≡ zeros (2 * n)
  pub first_marks : take n (marks ss) ≡ replicate n (mark_number Blank)
  pub first_numbers : take n (numbers ss) ≡ replicate n no_number
  -- and moves only windows, mode and count: wherever a call ends
  pub between : (i : ℕ) (front back : List Seen) → ss ≡ front ++ back → i ≤ n → samples front ≡ take i bs → AfterBlanks (equalizer_of k) i (equalizer_of (left k front))
  -- no old echo: after the n blanks the window is all +0
  pub clear : (run_def (equalizer_of k) bs).equalizer.window ≡ zeros (length k.window)

pub record Recovered (j k : Kept) (ss ts : List Seen) (n : ℕ) (bs es : List C32) : Type 0 where
  pub one : Dropped j ss n bs
  pub other : Dropped k ts n es
  pub same : Same j k ss ts

abbrev pub Demand3 : Type 0
Demand3 = (j k : Kept) (ss ts : List Seen) (n : ℕ) (bs es stream : List C32) → Dropout j k ss ts n bs es stream → Recovered j k ss ts n bs es
