-- The exit status of a program.
use Rattle.std.specs.Prelude.{◌≤◌, ℤ, pos, negsuc}
use Rattle.program.specs.declared.Status.{Status}
use Rattle.program.specs.declared.Status.TheVariants.{Served, Failed, Usage}

-- 0 all was served; 1 something failed; 2 it was asked for what it does not do
abbrev pub ExitStatus : ℤ → Type 0
ExitStatus (pos k) = k ≤ 2
ExitStatus (negsuc k) = ⊥

-- the number of each status
abbrev pub status_number : Status → ℤ
status_number Served = pos 0
status_number Failed = pos 1
status_number Usage = pos 2
