-- The constellations: decisions, the numbers of the points, and Godard's R2.
use Rattle.std.specs.Prelude.{ℕ, ◌+◌, ◌-◌, ◌*◌, ◌/◌, ◌%◌, min, Bool, false, cond, ◌&&◌, List, [], ◌∷◌, ◌++◌, map, length, get_or, eqb, Float}
use Rattle.std.specs.Float.{nan, inf, fin, binary64}
use Rattle.std.specs.Float.Ieee.{neg, lt, le, up, down, round}
use Rattle.types.specs.declared.C32.{C32}
use Rattle.types.specs.declared.Decided.{Decided}
use Rattle.types.specs.declared.Qam.{Qam}
use Rattle.types.specs.declared.Qam.TheVariants as qam
use Rattle.types.specs.declared.EqConstellation.{EqConstellation}
use Rattle.types.specs.declared.EqConstellation.TheVariants.{Bpsk, Qpsk, Psk8, Qam16, Qam64}
use Rattle.types.specs.Bits.{f32, zero32, one32}
use Rattle.definition.specs.Floats.{◌+f◌, ◌*f◌, abs, narrow, complex, zero_c}

-- ---- BPSK and QPSK: by v < 0

-- A, the f32 of 1 / sqrt 2: 0.70710677
abbrev pub A : Float
A = f32 0x3f35_04f3

-- ±a by v < 0, so −0 and a NaN count as positive
unfoldable pub side : Float → Float → Float
side v a = cond (lt v zero32) (neg a) a

-- ---- 8-PSK: `octant_point`

-- C8 and S8, the f32 of the cosine and the sine of 1/16 turn
abbrev pub C8 : Float
C8 = f32 0x3f6c_835e

abbrev pub S8 : Float
S8 = f32 0x3ec3_ef15

-- point k lies at (2 k + 1)/16 turn, counter-clockwise
unfoldable pub points8 : List C32
points8 =
    complex C8 S8 ∷ complex S8 C8 ∷ complex (neg S8) C8 ∷ complex (neg C8) S8 ∷ complex (neg C8) (neg S8) ∷ complex (neg S8) (neg C8)
    ∷ complex S8 (neg C8) ∷ complex C8 (neg S8) ∷ []

-- The number of the half-open octant [k/8, (k + 1)/8) turn. The quadrant goes by the signs, its half by the larger part; zero and a NaN give 0.
unfoldable pub octant : C32 → ℕ
octant y =
    let wide = lt (abs y.im) (abs y.re) in
    let tall = lt (abs y.re) (abs y.im) in
    cond (lt zero32 y.re && le zero32 y.im) (cond wide 0 1)
    (cond (le y.re zero32 && lt zero32 y.im) (cond tall 2 3)
    (cond (lt y.re zero32 && le y.im zero32) (cond wide 4 5)
    (cond (le zero32 y.re && lt y.im zero32) (cond tall 6 7)
    0)))

unfoldable pub octant_point : C32 → C32
octant_point y = get_or points8 (octant y) zero_c

-- ---- QAM: the floor of v·h + m/2 held to 0 .. m − 1, in the table of m levels

-- m, the levels of a part
abbrev pub level_count : Qam → ℕ
level_count qam.Qam16 = 4
level_count qam.Qam64 = 8

-- h, the f32 of sqrt(10)/2 or sqrt(42)/2
abbrev pub half_root_e : Qam → Float
half_root_e qam.Qam16 = f32 0x3fca_62c2
half_root_e qam.Qam64 = f32 0x404f_623a

-- m/2: 2 or 4
abbrev pub half_count : Qam → Float
half_count qam.Qam16 = f32 0x4000_0000
half_count qam.Qam64 = f32 0x4080_0000

-- the level tables, from the lowest level up: ±1, ±3 .. over sqrt(10) or sqrt(42)
unfoldable pub levels : Qam → List Float
levels qam.Qam16 = f32 0xbf72_dce9 ∷ f32 0xbea1_e89b ∷ f32 0x3ea1_e89b ∷ f32 0x3f72_dce9 ∷ []
levels qam.Qam64 =
    f32 0xbf8a_417c ∷ f32 0xbf45_821f ∷ f32 0xbeed_028c ∷ f32 0xbe1e_01b3 ∷ f32 0x3e1e_01b3 ∷ f32 0x3eed_028c ∷ f32 0x3f45_821f ∷ f32 0x3f8a_417c ∷ []

-- the floor of a float held to 0 .. top; a NaN gives 0
unfoldable pub held_to : ℕ → Float → ℕ
held_to top nan = 0
held_to top (inf s) = cond s 0 top
held_to top (fin s m e) = cond s 0 (min top (m * up e / down e))

unfoldable pub level_of : Qam → Float → ℕ
level_of k v = held_to (level_count k - 1) (v *f half_root_e k +f half_count k)

unfoldable pub level_at : Qam → Float → Float
level_at k v = get_or (levels k) (level_of k v) nan

unfoldable pub qam_point : Qam → C32 → C32
qam_point k z = complex (level_at k z.re) (level_at k z.im)

-- ---- the decision

unfoldable pub decide : EqConstellation → C32 → C32
decide Bpsk z = complex (side z.re one32) zero32
decide Qpsk z = complex (side z.re A) (side z.im A)
decide Psk8 z = octant_point z
decide Qam16 z = qam_point qam.Qam16 z
decide Qam64 z = qam_point qam.Qam64 z

-- ---- the number of the point. "The decision gives point and number together."

abbrev pub digit : Bool → ℕ
digit b = cond b 1 0

-- the Gray code of a level, from the lowest level up: two that are neighbours differ in one bit
abbrev pub grays : List ℕ
grays = 0 ∷ 1 ∷ 3 ∷ 2 ∷ 6 ∷ 7 ∷ 5 ∷ 4 ∷ []

-- "QAM: `decide_symbol`": the code of the real part's level in the high bits, that of the imaginary part's in the low ones
unfoldable pub symbol_of : Qam → C32 → ℕ
symbol_of k z = get_or grays (level_of k z.re) 0 * level_count k + get_or grays (level_of k z.im) 0

-- "BPSK: 1 if real part < 0. QPSK: 2 if real < 0, plus 1 if imaginary < 0. 8-PSK: 0 to 7 counter-clockwise from (C8, S8)."
unfoldable pub number_of : EqConstellation → C32 → ℕ
number_of Bpsk z = digit (lt z.re zero32)
number_of Qpsk z = 2 * digit (lt z.re zero32) + digit (lt z.im zero32)
number_of Psk8 z = octant z
number_of Qam16 z = symbol_of qam.Qam16 z
number_of Qam64 z = symbol_of qam.Qam64 z

unfoldable pub decided : EqConstellation → C32 → Decided
decided k z = record { point = decide k z; number = number_of k z }

-- ---- the point of a number, the other way

-- how many points there are: the numbers are 0 to one less
abbrev pub point_count : EqConstellation → ℕ
point_count Bpsk = 2
point_count Qpsk = 4
point_count Psk8 = 8
point_count Qam16 = 16
point_count Qam64 = 64

-- a, or −a where the digit is 1
abbrev pub signed : ℕ → Float → Float
signed n a = cond (eqb n 1) (neg a) a

-- the place in `grays`, and so the level, of each code from 0 up
abbrev pub ungrays : List ℕ
ungrays = 0 ∷ 1 ∷ 3 ∷ 2 ∷ 7 ∷ 6 ∷ 4 ∷ 5 ∷ []

-- the level with the code n
abbrev pub level_with : Qam → ℕ → Float
level_with k n = get_or (levels k) (get_or ungrays n 0) nan

unfoldable pub symbol_point : Qam → ℕ → C32
symbol_point k n = complex (level_with k (n / level_count k)) (level_with k (n % level_count k))

unfoldable pub point_of : EqConstellation → ℕ → C32
point_of Bpsk n = complex (signed n one32) zero32
point_of Qpsk n = complex (signed (n / 2) A) (signed (n % 2) A)
point_of Psk8 n = get_or points8 n zero_c
point_of Qam16 n = symbol_point qam.Qam16 n
point_of Qam64 n = symbol_point qam.Qam64 n

-- ---- Godard's R2 = E|a|^4 / E|a|^2 over points scaled to mean power 1

-- the sizes of the levels of one part, up to a factor: |2 i − (m − 1)| for i from 0 to m − 1
abbrev pub grid_sizes : Qam → List ℕ
grid_sizes qam.Qam16 = 3 ∷ 1 ∷ 1 ∷ 3 ∷ []
grid_sizes qam.Qam64 = 7 ∷ 5 ∷ 3 ∷ 1 ∷ 1 ∷ 3 ∷ 5 ∷ 7 ∷ []

abbrev pub total : List ℕ → ℕ
total [] = 0
total (a ∷ l) = a + total l

-- a·a + b·b for each a of the one list and b of the other
abbrev pub powers_of : List ℕ → List ℕ → List ℕ
powers_of [] bs = []
powers_of (a ∷ l) bs = map (λ b. a * a + b * b) bs ++ powers_of l bs

-- |a|² of each point, up to a factor
abbrev pub powers : EqConstellation → List ℕ
powers Bpsk = 1 ∷ 1 ∷ []
powers Qpsk = powers_of (1 ∷ 1 ∷ []) (1 ∷ 1 ∷ [])
powers Psk8 = 1 ∷ 1 ∷ 1 ∷ 1 ∷ 1 ∷ 1 ∷ 1 ∷ 1 ∷ []
powers Qam16 = powers_of (grid_sizes qam.Qam16) (grid_sizes qam.Qam16)
powers Qam64 = powers_of (grid_sizes qam.Qam64) (grid_sizes qam.Qam64)

-- With n points of powers p, scaled by their mean total p / n, R2 is (total p² / n) / (total p / n)²: a fraction of whole numbers
abbrev pub radius_num : List ℕ → ℕ
radius_num p = length p * total (map (λ a. a * a) p)

abbrev pub radius_den : List ℕ → ℕ
radius_den p = total p * total p

-- rounded once to f64, once to f32
unfoldable pub radius : EqConstellation → Float
radius k = narrow (round binary64 false (radius_num (powers k)) (radius_den (powers k)))
