-- Equalizing calls that follow one another, as their caller sees them.
use Rattle.std.specs.Prelude.{ℕ, ◌≡◌, Bool, true, not, List, [], ◌∷◌, ◌++◌, eqb, Float, Ok, Err}
use Rattle.types.specs.declared.C32.{C32}
use Rattle.definition.specs.Refusals.{Outcome}
use Rattle.definition.specs.Slices.{samples_of}
use Rattle.definition.specs.Sample.{Equalizer, feedback}
use Rattle.definition.specs.Calls.{Answer, equalize_def}
use Rattle.definition.specs.Paths.{Path, plain, quick, joint, Promised}

-- the quick path without feedback taps, the joint path with them, the plain path either way
abbrev pub allows : Path → Equalizer → Bool
allows plain q = true
allows quick q = eqb (feedback q) 0
allows joint q = not (eqb (feedback q) 0)

-- what a call is handed beside record, weights and window: the input, and output, marks and numbers, which may hold anything before the call
pub record Call : Type 0 where
  pub path : Path
  pub input : List Float
  pub output : List Float
  pub marks : List ℕ
  pub numbers : List ℕ

abbrev pub call_def : Equalizer → Call → Answer
call_def q c = equalize_def q c.input c.output c.marks c.numbers

-- a call as it was seen: what it was handed, and what it answered and left
pub record Observed : Type 0 where
  pub before : Equalizer
  pub call : Call
  pub answer : Answer

-- "The first call gets the accepted record, weights and window that the equalizer starts from, each later one what the last returned or left."
-- All counts by its value, so another call may come between if it leaves them as they were.
pub data Follow : Equalizer → List Observed → Type 0 where
  none : {q : Equalizer} → Follow q []
  next : {q : Equalizer} {o : Observed} {os : List Observed} → o.before ≡ q → allows o.call.path q ≡ true → Promised o.call.path q o.call.input o.call.output o.call.marks o.call.numbers o.answer
      → Follow o.answer.equalizer os → Follow q (o ∷ os)

-- "A list's samples, symbols and marks are those of its served calls, joined in order; a refused call adds none." Its numbers likewise.
abbrev pub if_served : {A : Type 0} → Outcome → List A → List A
if_served (Ok tt) l = l
if_served (Err e) l = []

unfoldable pub samples : List Observed → List C32
samples [] = []
samples (o ∷ os) = if_served o.answer.outcome (samples_of o.call.input) ++ samples os

unfoldable pub symbols : List Observed → List Float
symbols [] = []
symbols (o ∷ os) = if_served o.answer.outcome o.answer.out ++ symbols os

unfoldable pub marks : List Observed → List ℕ
marks [] = []
marks (o ∷ os) = if_served o.answer.outcome o.answer.marks ++ marks os

unfoldable pub numbers : List Observed → List ℕ
numbers [] = []
numbers (o ∷ os) = if_served o.answer.outcome o.answer.numbers ++ numbers os

-- the record, weights and window that a list leaves
unfoldable pub left : Equalizer → List Observed → Equalizer
left q [] = q
left q (o ∷ os) = left o.answer.equalizer os
