-- The definition gives what the Rust gave, computed whole. Assumes nothing.
use mathlib.Core.Path.{◌≡◌, refl}
use mathlib.Core.Bool.{true}
use Rattle.definition.specs.Rows.{bits_of, state_bits, same_equalizer, settings_of, state_of}
use Rattle.definition.proofs.Computed.{computed}
use Rattle.definition_vectors.specs.Vectors.{vectors_pass}

pub vectors_pass_lem : vectors_pass ≡ true
unfolding computed bits_of state_bits same_equalizer settings_of state_of vectors_pass
vectors_pass_lem = refl
