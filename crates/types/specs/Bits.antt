-- Floats by their exact bits.
use Rattle.std.specs.Prelude.{ℕ, Float}
use Rattle.std.specs.Float.{binary32, binary64}
use Rattle.std.specs.Float.Ieee.{of_bits}

abbrev pub f32 : ℕ → Float
f32 bits = of_bits binary32 bits

abbrev pub f64 : ℕ → Float
f64 bits = of_bits binary64 bits

-- +0, 1
abbrev pub zero32 : Float
zero32 = f32 0

abbrev pub one32 : Float
one32 = f32 0x3f80_0000
