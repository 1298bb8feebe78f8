-- The table of known bytes passes, computed whole. Assumes nothing.
use mathlib.Core.Path.{◌≡◌, refl}
use mathlib.Core.Bool.{true}
use lib.Count.{count_trailing_zeros}
use lib.Ieee.{of_bits, of_fields, odd, to_bits, size, span, climb}
use Rattle.cf32.specs.Bytes.{read_into, write_over}
use Rattle.cf32.specs.Rows.{rows_pass}

pub rows_pass_lem : rows_pass ≡ true
unfolding count_trailing_zeros of_bits of_fields odd to_bits size span climb read_into write_over rows_pass
rows_pass_lem = refl
