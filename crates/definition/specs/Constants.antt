-- The constants are the nearest floats to what document 01 calls them, as one table of whole-number tests.
use Rattle.std.specs.Prelude.{ℕ, ◌+◌, ◌-◌, ◌*◌, ◌/◌, ◌^◌, Bool, true, false, ◌&&◌, List, [], ◌∷◌, eqb, ltb, get_or, Float}
use Rattle.std.specs.Float.{nan, inf, fin, Format, binary32, binary64}
use Rattle.std.specs.Float.Ieee.{up, down, to_bits, size, round, neg}
use Rattle.types.specs.declared.Qam.TheVariants as qam
use Rattle.types.specs.Bits.{zero32, one32, f32}
use Rattle.definition.specs.Floats.{tiny, nlms_eps, mse_alpha, max_freq, mu_min, bw_min, bw_max}
use Rattle.definition.specs.Gains.{phase_damping, tau, one64, two64, four64}
use Rattle.definition.specs.Points.{A, C8, S8, half_root_e, half_count, levels}

-- twice x, in smallest values of binary32, for an x that is not negative
unfoldable twice : Float → ℕ
twice nan = 0
twice (inf s) = 0
twice (fin s m e) = 2 * (m * up e * 2 ^ 149 / down e)

-- the distance to the next float, in smallest values: so twice x ± gap x is twice the middle between x and a neighbour, where x is no power of two
unfoldable gap : Float → ℕ
gap nan = 0
gap (inf s) = 0
gap (fin s m e) = 2 ^ (size (m * up e * 2 ^ 149 / down e) - 24)

pub data Row : Type 0 where
  -- the nearest of the format to a / b
  ratio : Format → Float → ℕ → ℕ → Row
  -- a float has these bits
  has_bits : Format → Float → ℕ → Row
  -- the nearest f32 to the root of a / b
  root : Float → ℕ → ℕ → Row
  -- the nearest f32 to the cosine, and the sine, of 1/16 turn: the roots of (2 + sqrt 2) / 4 and (2 - sqrt 2) / 4
  cosine16 sine16 : Float → Row

-- with t = twice x and g its gap, the values x ± gap / 2 are (t ± g) / 2^150: their squares lie on either side of a / b
unfoldable root_around : ℕ → ℕ → ℕ → ℕ → Bool
root_around t g a b = ltb ((t - g) * (t - g) * b) (a * 2 ^ 300) && ltb (a * 2 ^ 300) ((t + g) * (t + g) * b)

-- y is below the cosine where (4 y² - 2)² < 2, for y above 1 / sqrt 2; and below the sine where (2 - 4 y²)² > 2, for y below it
unfoldable square : ℕ → ℕ
square n = n * n

unfoldable passes : Row → Bool
passes (ratio f x a b) = eqb (to_bits f x) (to_bits f (round f false a b))
passes (has_bits f x n) = eqb (to_bits f x) n
passes (root x a b) = root_around (twice x) (gap x) a b
passes (cosine16 x) =
    let lo = twice x - gap x in
    let hi = twice x + gap x in
    ltb (2 * 2 ^ 300) (4 * (lo * lo)) && ltb (square (4 * (lo * lo) - 2 * 2 ^ 300)) (2 * 2 ^ 600) && ltb (2 * 2 ^ 600) (square (4 * (hi * hi) - 2 * 2 ^ 300))
passes (sine16 x) =
    let lo = twice x - gap x in
    let hi = twice x + gap x in
    ltb (4 * (hi * hi)) (2 * 2 ^ 300) && ltb (2 * 2 ^ 600) (square (2 * 2 ^ 300 - 4 * (lo * lo))) && ltb (square (2 * 2 ^ 300 - 4 * (hi * hi))) (2 * 2 ^ 600)

unfoldable all_pass : List Row → Bool
all_pass [] = true
all_pass (r ∷ rs) = passes r && all_pass rs

unfoldable constants : List Row
constants =
    ratio binary32 one32 1 1
    ∷ ratio binary32 tiny 1 (10 ^ 30)
    ∷ ratio binary32 nlms_eps 1 (10 ^ 6)
    ∷ ratio binary32 mse_alpha 1 100
    ∷ ratio binary32 max_freq 1 8
    ∷ ratio binary32 mu_min 1 (10 ^ 5)
    ∷ ratio binary64 bw_min 1 (10 ^ 4)
    ∷ ratio binary64 bw_max 2 10
    ∷ ratio binary64 phase_damping 7071 (10 ^ 4)
    -- TAU has the bits that document 01 gives
    ∷ has_bits binary64 tau 0x4019_21fb_5444_2d18
    ∷ has_bits binary32 zero32 0
    ∷ ratio binary64 one64 1 1
    ∷ ratio binary64 two64 2 1
    ∷ ratio binary64 four64 4 1
    -- 2^-20, m / 2
    ∷ ratio binary32 (f32 0x3580_0000) 1 (2 ^ 20)
    ∷ ratio binary32 (half_count qam.Qam16) 2 1
    ∷ ratio binary32 (half_count qam.Qam64) 4 1
    -- h: sqrt(10) / 2 and sqrt(42) / 2
    ∷ root (half_root_e qam.Qam16) 10 4
    ∷ root (half_root_e qam.Qam64) 42 4
    ∷ root A 1 2
    ∷ cosine16 C8
    ∷ sine16 S8
    -- the levels are ±1, ±3 of sqrt 10, and ±1, ±3, ±5, ±7 of sqrt 42
    ∷ root (get_or (levels qam.Qam16) 2 nan) 1 10
    ∷ root (get_or (levels qam.Qam16) 3 nan) 9 10
    ∷ root (neg (get_or (levels qam.Qam16) 1 nan)) 1 10
    ∷ root (neg (get_or (levels qam.Qam16) 0 nan)) 9 10
    ∷ root (get_or (levels qam.Qam64) 4 nan) 1 42
    ∷ root (get_or (levels qam.Qam64) 5 nan) 9 42
    ∷ root (get_or (levels qam.Qam64) 6 nan) 25 42
    ∷ root (get_or (levels qam.Qam64) 7 nan) 49 42
    ∷ root (neg (get_or (levels qam.Qam64) 3 nan)) 1 42
    ∷ root (neg (get_or (levels qam.Qam64) 2 nan)) 9 42
    ∷ root (neg (get_or (levels qam.Qam64) 1 nan)) 25 42
    ∷ root (neg (get_or (levels qam.Qam64) 0 nan)) 49 42
    ∷ []

-- the table, whole
unfoldable pub constants_pass : Bool
unfolding twice gap root_around square passes all_pass constants
constants_pass = all_pass constants
