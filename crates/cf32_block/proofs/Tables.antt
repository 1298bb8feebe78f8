-- The whole calls pass, computed. Assumes nothing.
use mathlib.Core.Path.{◌≡◌, refl}
use mathlib.Core.Bool.{true}
use Rattle.definition.specs.Rows.{bits_of, settings, settings_of}
use Rattle.definition.proofs.Computed.{computed}
use Rattle.cf32.specs.Bytes.{read_into, write_over}
use Rattle.cf32_block.specs.Block.{block_def}
use Rattle.cf32_block.specs.Rows.{calls_pass}

pub calls_pass_lem : calls_pass ≡ true
unfolding computed bits_of settings settings_of read_into write_over block_def calls_pass
calls_pass_lem = refl
