-- The tables of rows pass, each computed whole. Assumes nothing.
use mathlib.Core.Path.{◌≡◌, refl}
use mathlib.Core.Bool.{true}
use Rattle.definition.specs.Rows.{all, bits_of, state_bits, same_equalizer, settings_of, settings, settings_with, state_of, holds}
use Rattle.definition.specs.Examples.{examples_pass}
use Rattle.definition.specs.Refused.{refusals_pass}
use Rattle.definition.specs.Samples.{samples_pass}
use Rattle.definition.specs.Marks.{marks_pass}
use Rattle.definition.specs.Numbers.{numbers_pass}
use Rattle.definition.specs.Constants.{constants_pass}
use Rattle.definition.specs.Edges.{edges_pass}
use Rattle.definition.proofs.Computed.{computed}

-- document 01's examples
pub examples_pass_lem : examples_pass ≡ true
unfolding computed bits_of state_bits same_equalizer settings_of settings settings_with examples_pass
examples_pass_lem = refl

-- the refusals, and what the operations leave
pub refusals_pass_lem : refusals_pass ≡ true
unfolding computed all bits_of state_bits same_equalizer settings_of settings settings_with state_of refusals_pass
refusals_pass_lem = refl

-- one sample whole
pub samples_pass_lem : samples_pass ≡ true
unfolding computed all bits_of state_bits same_equalizer settings_of settings state_of holds samples_pass
samples_pass_lem = refl

-- the marks
pub marks_pass_lem : marks_pass ≡ true
unfolding computed all bits_of settings_of settings state_of holds marks_pass
marks_pass_lem = refl

-- the numbers of the points
pub numbers_pass_lem : numbers_pass ≡ true
unfolding computed all bits_of settings_of settings state_of holds numbers_pass
numbers_pass_lem = refl

-- the constants against their decimals and roots
pub constants_pass_lem : constants_pass ≡ true
unfolding computed constants_pass
constants_pass_lem = refl

-- the leaves at their edges
pub edges_pass_lem : edges_pass ≡ true
unfolding computed all bits_of settings_of settings state_of edges_pass
edges_pass_lem = refl
