-- The rules of the cosine table, as a statement: proofs/Rules.antt has the proof, `table_rules`. An entry is the cosine of k / 4096 turn, and the entry
-- 3072 further on, mod 4096, is its sine.
use Rattle.std.specs.Prelude.{◌≡◌, Bool, true, false, ℕ, ◌+◌, ◌-◌, ◌*◌, ◌/◌, ◌%◌, ◌^◌, ◌<◌, ◌≤◌, length, Float}
use Rattle.std.specs.Float.{nan, inf, fin, binary32}
use Rattle.std.specs.Float.Ieee.{of_bits, up, down, lt, neg}
use Rattle.std.specs.Float.Ieee.Exact.{HasValue}
use Rattle.tables.specs.Table.{cos_bits, cos_at}

-- whether the sign is minus
unfoldable pub sign : Float → Bool
sign nan = false
sign (inf s) = s
sign (fin s m e) = s

-- the magnitude in units of 2^-33: fin s m e has the magnitude m · up e / down e
unfoldable pub size33 : Float → ℕ
size33 nan = 0
size33 (inf s) = 0
size33 (fin s m e) = m * up e * 2 ^ 33 / down e

-- x² + y² in units of 2^-66
abbrev pub squares : Float → Float → ℕ
squares x y = size33 x * size33 x + size33 y * size33 y

pub record TableRules : Type 0 where
  -- it has 4,097 entries
  pub long : length cos_bits ≡ 4097
  -- entry 0 is 1, entries 1024 and 3072 are +0
  pub first : cos_at 0 ≡ of_bits binary32 0x3f80_0000
  pub quarter : cos_at 1024 ≡ of_bits binary32 0
  pub three_quarters : cos_at 3072 ≡ of_bits binary32 0
  -- entry k equals entry 4096 − k
  pub mirror : (k : ℕ) → k < 4097 → cos_at k ≡ cos_at (4096 - k)
  -- half a turn further on the sign is the opposite, in the first quarter (entry 1024 and entry 3072 are both +0)
  pub half_turn : (k : ℕ) → k < 1024 → cos_at (k + 2048) ≡ neg (cos_at k)
  -- it falls from 0 to 2048, strictly
  pub falls : (k : ℕ) → k < 2048 → lt (cos_at (k + 1)) (cos_at k) ≡ true
  -- every entry is finite and a whole number of 2^-33: its magnitude is size33 / 2^33 exactly
  pub whole : (k : ℕ) → k < 4097 → HasValue (cos_at k) (sign (cos_at k)) (size33 (cos_at k)) (2 ^ 33)
  -- entry(k)² + entry(k + 3072 mod 4096)² lies within 2^-23 of 1: as whole numbers of 2^-66, within 2^43 of 2^66
  pub circle : (k : ℕ) → k < 4097
      → (squares (cos_at k) (cos_at ((k + 3072) % 4096)) ≤ 2 ^ 66 + 2 ^ 43) × (2 ^ 66 ≤ squares (cos_at k) (cos_at ((k + 3072) % 4096)) + 2 ^ 43)
