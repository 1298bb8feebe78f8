-- Rounding to a whole number.
use Rattle.std.specs.Prelude.{ℕ, ◌+◌, ◌-◌, ◌*◌, ◌/◌}

-- a / c to the nearest whole number, a half up where n is 0 and down where n is 1
abbrev pub half_up : ℕ → ℕ → ℕ → ℕ
half_up n a c = (2 * a + c - n) / (2 * c)
