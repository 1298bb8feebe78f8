-- Exported equalizing calls that follow one another, as their caller sees them: the record is numbers.
use Rattle.std.specs.Prelude.{ℕ, ◌≡◌, Bool, cond, ◌&&◌, List, [], ◌∷◌, ◌++◌, eqb, Float}
use Rattle.types.specs.declared.C32.{C32}
use Rattle.definition.specs.Slices.{samples_of}
use Rattle.definition.specs.Sample.{Equalizer}
use Rattle.definition.specs.Rules.{accepted_def}
use Rattle.definition.specs.Packed.{equalizer}
use Rattle.capi_numbers.specs.declared.EqRecord.{EqRecord}
use Rattle.capi_numbers.specs.RawRecord.{known_record, record_in, record_out}
use Rattle.capi.specs.Raw.{Block, Entry, PromisedRaw}

-- what a caller keeps between two calls
pub record Kept : Type 0 where
  pub raw : EqRecord
  pub weights : List Float
  pub window : List Float

-- as the definition has it, and back
unfoldable pub equalizer_of : Kept → Equalizer
equalizer_of k = equalizer (record_in k.raw) k.weights k.window

unfoldable pub kept_of : Equalizer → Kept
kept_of q = record { raw = record_out q.state; weights = q.weights; window = q.window }

-- its numbers are known, and the record meets R1 to R4
unfoldable pub accepted : Kept → Bool
accepted k = known_record k.raw && accepted_def (equalizer_of k)

-- what a call leaves its caller with
abbrev pub leaves : Block → Kept
leaves b = record { raw = b.filter.reply.«record»; weights = b.filter.weights; window = b.filter.window }

-- a call as it was seen: what it was handed, and what it replied and left
pub record Seen : Type 0 where
  pub entry : Entry
  pub before : Kept
  pub input : List Float
  pub output : List Float
  pub marks : List ℕ
  pub numbers : List ℕ
  pub after : Block

-- each call gets what the last left, by `eq_equalize` or by `eq_reference`
pub data Follow : Kept → List Seen → Type 0 where
  none : {k : Kept} → Follow k []
  next : {k : Kept} {s : Seen} {ss : List Seen} → s.before ≡ k
      → PromisedRaw s.entry k.raw k.weights k.window s.input s.output s.marks s.numbers s.after
      → Follow (leaves s.after) ss → Follow k (s ∷ ss)

-- the number of the reply: 0 where the call was served
abbrev pub number : Seen → ℕ
number s = s.after.filter.reply.number

abbrev pub if_served : {A : Type 0} → ℕ → List A → List A
if_served n l = cond (eqb n 0) l []

-- the samples, symbols, marks and numbers of the served calls, joined in order; a refused call adds none
unfoldable pub samples : List Seen → List C32
samples [] = []
samples (s ∷ ss) = if_served (number s) (samples_of s.input) ++ samples ss

unfoldable pub symbols : List Seen → List Float
symbols [] = []
symbols (s ∷ ss) = if_served (number s) s.after.out ++ symbols ss

unfoldable pub marks : List Seen → List ℕ
marks [] = []
marks (s ∷ ss) = if_served (number s) s.after.marks ++ marks ss

unfoldable pub numbers : List Seen → List ℕ
numbers [] = []
numbers (s ∷ ss) = if_served (number s) s.after.numbers ++ numbers ss

-- what a list leaves its caller with
unfoldable pub left : Kept → List Seen → Kept
left k [] = k
left k (s ∷ ss) = left (leaves s.after) ss
