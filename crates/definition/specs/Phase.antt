-- The phase, in 2^32nds of a turn: cosine and sine from the table, and the phase step.
use Rattle.std.specs.Prelude.{Bool, true, false, cond, ℕ, ◌+◌, ◌-◌, ◌*◌, ◌/◌, ◌%◌, ◌^◌, min, ℤ, pos, negsuc, eqb, Float}
use Rattle.std.specs.Float.{nan, inf, fin, binary32}
use Rattle.std.specs.Float.Ieee.{up, down, minus, of_int}
use Rattle.tables.specs.Table.{cos_at}
use Rattle.types.specs.declared.CosSin.{CosSin}
use Rattle.types.specs.Bits.{f32, zero32, one32}
use Rattle.definition.specs.Floats.{◌+f◌, ◌-f◌, ◌*f◌}

-- ---- cosine and sine

-- the low 20 bits of the phase as a part of 1: times 2^-20, exact
unfoldable pub low_part : ℕ → Float
low_part p = of_int binary32 (pos (p % 1048576)) *f f32 0x3580_0000

-- the straight line from entry k to the next, as (b − a)·f + a
unfoldable pub line_at : ℕ → Float → Float
line_at k f = (cos_at (k + 1) -f cos_at k) *f f +f cos_at k

-- From the table: index phase / 2^20 (1,048,576), straight line by the low 20 bits; sine from index + 3072 mod 4096.
unfoldable pub interp_pair : ℕ → CosSin
interp_pair p = record { c = line_at (p / 1048576) (low_part p); s = line_at ((p / 1048576 + 3072) % 4096) (low_part p) }

-- Step 4: c and s are (1, 0) at phase 0, else from the table.
unfoldable pub cos_sin : ℕ → CosSin
cos_sin p = cond (eqb p 0) (record { c = one32; s = zero32 }) (interp_pair p)

-- ---- the phase step: floor(v·2^32 + 1/2), held to −2^63 .. 2^63 − 1, low 32 bits; NaN gives 0

-- the floor of z / d: negsuc n is −(n + 1)
abbrev pub floor_of : ℤ → ℕ → ℤ
floor_of (pos n) d = pos (n / d)
floor_of (negsuc n) d = negsuc (n / d)

-- held to −2^63 .. 2^63 − 1
abbrev pub held : ℤ → ℤ
held (pos n) = pos (min n (2 ^ 63 - 1))
held (negsuc n) = negsuc (min n (2 ^ 63 - 1))

-- the low 32 bits, in two's complement
abbrev pub low_bits : ℤ → ℕ
low_bits (pos n) = n % 2 ^ 32
low_bits (negsuc n) = 2 ^ 32 - 1 - n % 2 ^ 32

-- d + a, or d − a where s says that a counts as negative
abbrev pub signed_sum : Bool → ℕ → ℕ → ℤ
signed_sum false a d = pos (d + a)
signed_sum true a d = minus d a

-- v·2^32 + 1/2 as a fraction, its floor, held. A number is ±(m · up e / down e), so v·2^32 + 1/2 is (down e ± 2 (m · up e · 2^32)) / (2 down e).
unfoldable pub step_int : Float → ℤ
step_int nan = pos 0
step_int (inf s) = cond s (negsuc (2 ^ 63 - 1)) (pos (2 ^ 63 - 1))
step_int (fin s m e) = held (floor_of (signed_sum s (2 * (m * up e * 2 ^ 32)) (down e)) (2 * down e))

unfoldable pub phase_step : Float → ℕ
phase_step v = low_bits (step_int v)
