-- The known values, computed. Assumes nothing.
use Rattle.std.proofs.Common.{refl}
use Rattle.program_words.specs.Words.{before, divided, same_of, place_in_from, place_in, place_of}
use Rattle.program_words.specs.Wholes.{digit_count, digit_value, whole_of}
use Rattle.program_words.specs.Rows.{BeforeRows, PlaceRows, FoundRows, WholeRows}

pub before_rows : BeforeRows
unfolding before
before_rows = (refl, refl, refl, refl)

pub place_rows : PlaceRows
unfolding divided same_of place_in_from place_in place_of
place_rows = (refl, refl, refl, refl, refl, refl, refl, refl)

pub found_rows : FoundRows
unfolding divided same_of place_in_from place_in
found_rows = (refl, refl, refl, refl, refl, refl, refl)

pub whole_rows : WholeRows
unfolding digit_count digit_value whole_of
whole_rows = (refl, refl, refl, refl, refl, refl, refl, refl, refl, refl, refl, refl, refl)
