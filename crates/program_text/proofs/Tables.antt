-- The known values, computed. Assumes nothing.
use Rattle.std.proofs.Common.{◌∷◌, [], refl}
use Rattle.program_words.specs.Words.{divided}
use Rattle.program_text.specs.Pages.{laid, reached, written, LaidBehind, numeral_in, numeral, entry_of}
use Rattle.program_text.proofs.Laying.{laid_behind}
use Rattle.program_text.specs.Rows.{LaidRows, WrittenRows, BehindRows, NumeralRows, EntryRows}

pub laid_rows : LaidRows
unfolding laid reached
laid_rows = ((refl, refl), (refl, refl), (refl, refl), (refl, refl), (refl, refl), (refl, refl), (refl, refl))

pub written_rows : WrittenRows
unfolding written
written_rows = (refl, refl, refl, refl, refl)

pub behind_rows : BehindRows
unfolding laid reached written LaidBehind
behind_rows = (laid_behind 3 _ _ _ refl, laid_behind 3 _ _ _ refl, λ h. let e = (h (7 ∷ 1 ∷ 2 ∷ []) refl refl).0 in cc)

pub numeral_rows : NumeralRows
unfolding numeral_in numeral
numeral_rows = (refl, refl, refl, refl, refl)

pub entry_rows : EntryRows
unfolding divided entry_of
entry_rows = (refl, refl, refl, refl, refl, refl)
