-- A block of samples: one sample after the other.
use Rattle.std.specs.Prelude.{ℕ, List, [], ◌∷◌, ◌++◌, Float}
use Rattle.types.specs.declared.C32.{C32}
use Rattle.types.specs.Numbers.{mark_number}
use Rattle.definition.specs.Sample.{Equalizer, Out, sample_def}

-- what a block leaves, and one symbol, one mark and one number for each sample
pub record Run : Type 0 where
  pub equalizer : Equalizer
  pub outs : List Out

-- symbols, marks and numbers in front of those of a run
abbrev pub ahead : List Out → Run → Run
ahead os r = record { equalizer = r.equalizer; outs = os ++ r.outs }

unfoldable pub run_def : Equalizer → List C32 → Run
run_def q [] = record { equalizer = q; outs = [] }
run_def q (x ∷ xs) = ahead ((sample_def q x).out ∷ []) (run_def (sample_def q x).equalizer xs)

-- ---- what the slices of a call hold after a block

-- of each sample's output what f gives of it, one after the other
unfoldable pub written : {A : Type 0} → (Out → List A) → List Out → List A
written f [] = []
written f (o ∷ os) = f o ++ written f os

-- the output slice has two f32 for each sample, the real part first
abbrev pub symbol_parts : Out → List Float
symbol_parts o = o.symbol.re ∷ o.symbol.im ∷ []

-- the marks have one byte for each sample, the mark's number
abbrev pub mark_byte : Out → List ℕ
mark_byte o = mark_number o.mark ∷ []

-- so have the numbers
abbrev pub number_byte : Out → List ℕ
number_byte o = o.number ∷ []
