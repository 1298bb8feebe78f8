-- What `dot_complex` answers: an odd count of f32 first, then lengths that differ, else the sum. Lengths are in complex numbers.
use Rattle.std.specs.Prelude.{cond, ◌&&◌, List, eqb, Float, Result, Ok, Err}
use Rattle.types.specs.declared.C32.{C32}
use Rattle.definition.specs.Slices.{whole, complex_length, dot_complex}
use Rattle.dot_checked.specs.declared.DotError.{DotError}
use Rattle.dot_checked.specs.declared.DotError.TheVariants.{LengthMismatch, Odd}

unfoldable pub dot_def : List Float → List Float → Result C32 DotError
dot_def x w =
    cond (whole x && whole w)
    (cond (eqb (complex_length x) (complex_length w)) (Ok (dot_complex x w)) (Err (LengthMismatch (complex_length x) (complex_length w))))
    (Err Odd)
