-- Which file stands at a path that was looked at.
use Rattle.std.specs.Prelude.{Option, Some, None}
use Rattle.program_look.specs.declared.FileId.{FileId}
use Rattle.program_look.specs.declared.Seen.{Seen}
use Rattle.program_look.specs.declared.Seen.TheVariants.{Missing, There, Hidden}

-- the file of a path where one is; none where nothing is, or it cannot be told
abbrev pub file_of : Seen → Option FileId
file_of Missing = None
file_of (There kind file) = Some file
file_of Hidden = None
