-- The refusals, whose numbers are `error_number` (types): the two lengths that 4, 9 and 10 return (expected, then got), and the first test that fails.
use Rattle.std.specs.Prelude.{ℕ, Bool, cond, List, [], ◌∷◌, Option, Some, None, Result, ⊤, Ok, Err}
use Rattle.types.specs.declared.Error.{Error}
use Rattle.types.specs.declared.numbers.Lengths.{Lengths}
use Rattle.types.specs.declared.EqualizeState.{EqualizeState}
use Rattle.types.specs.Numbers.{error_number, lengths_of}

-- the lengths that a refusal has, as numbers: expected, then got
abbrev pub values_of : Option Lengths → List ℕ
values_of None = []
values_of (Some l) = l.expected ∷ l.got ∷ []

-- the table of document 01: what is returned beside the number
abbrev pub error_values : Error → List ℕ
error_values e = values_of (lengths_of e)

-- whether a call was served, or why not
abbrev pub Outcome : Type 0
Outcome = Result ⊤ Error

-- what `new` gives: a record, or why none
abbrev pub Fresh : Type 0
Fresh = Result EqualizeState Error

-- What a caller learns, as document 01's numbers: nothing where the call was served; else the refusal's number and its lengths.
abbrev pub reply_of : {A : Type 0} → Result A Error → List ℕ
reply_of (Ok x) = []
reply_of (Err e) = error_number e ∷ error_values e

-- a test of a call: whether it is passed, and the refusal where it is not
pub record Test : Type 0 where
  pub passed : Bool
  pub refusal : Error

abbrev pub test : Bool → Error → Test
test b e = record { passed = b; refusal = e }

-- The tests are tried in the order of the list, and the first that fails gives the refusal.
unfoldable pub first_of : List Test → Outcome
first_of [] = Ok tt
first_of (t ∷ ts) = cond t.passed (first_of ts) (Err t.refusal)
