-- Each point is at most 2 in each part, cosine and sine are at most 4 in size, so what is fed back is finite. Assumes nothing.
use Prim.Native.Nat.{ℕ, zero, suc, ◌+◌, ◌*◌, ◌/◌, ◌%◌, ◌^◌, ◌<◌, ◌≤◌}
use mathlib.Core.Path.{subst}
use mathlib.Core.Logic.{inl, inr}
use mathlib.Core.Bool.{Bool, true, false, cond}
use mathlib.Core.List.{List, [], ◌∷◌}
use native.Mathlib.Nat.{mul-le-mul_right, zero-lt-suc}
use native.Mathlib.Omega.{arith}
use lib.IntN.{pos}
use lib.Count.{count_trailing_zeros}
use lib.ListN.{get_or}
use lib.Dec.{T, leb, eqb, leb→le, lit≤}
use lib.Ieee.{Float, nan, inf, fin, binary32, up, down, of_bits, of_fields, odd, neg, lt, of_int}
use lib.Ieee.Scale.{finite}
use Rattle.laws.specs.Bound.{AtMost, Within, round_at_most, mul_at_most, within_add, within_sub, within_mul, within_mono, within_neg, power_held, at_most_finite, le_or_lt}
use Rattle.tables.specs.Table.{cos_at}
use Rattle.tables.proofs.Rules.{past_end, at_most_one}
use Rattle.types.specs.declared.C32.{C32}
use Rattle.types.specs.declared.CosSin.{CosSin}
use Rattle.types.specs.declared.Qam.{Qam}
use Rattle.types.specs.declared.Qam.TheVariants as qam
use Rattle.types.specs.declared.EqConstellation.{EqConstellation}
use Rattle.types.specs.declared.EqConstellation.TheVariants.{Bpsk, Qpsk, Psk8, Qam16, Qam64}
use Rattle.types.specs.Bits.{f32, zero32, one32}
use Rattle.definition.specs.Floats.{◌+f◌, ◌-f◌, ◌*f◌, complex, zero_c}
use Rattle.definition.specs.Slices.{every}
use Rattle.definition.specs.Phase.{low_part, line_at, interp_pair, cos_sin}
use Rattle.definition.specs.Points.{A, C8, S8, side, points8, octant, octant_point, levels, level_of, level_at, qam_point, decide}
use Rattle.definition.specs.Turns.{rotated}
use Rattle.definition.proofs.Held.{held_le}
use Rattle.definition_laws.proofs.Every.{every-at}

-- ---- constants, by a computed test
unfoldable small : Float → Bool
small nan = false
small (inf s) = false
small (fin s m e) = leb (m * up e * 2 ^ 149) (2 ^ 150 * down e)

small_within : (x : Float) → T (small x) → Within binary32 1 x
unfolding small AtMost
small_within nan h = h
small_within (inf s) h = h
small_within (fin s m e) h = leb→le (m * up e * 2 ^ 149) (2 ^ 150 * down e) h

-- both parts at most 2
pub record Small (v : C32) : Type 0 where
  pub re : Within binary32 1 v.re
  pub im : Within binary32 1 v.im

zero_small : Within binary32 1 zero32
unfolding small of_bits of_fields odd
zero_small = small_within zero32 tt

one_small : Within binary32 1 one32
unfolding small of_bits of_fields odd count_trailing_zeros
one_small = small_within one32 tt

a_small : Within binary32 1 A
unfolding small of_bits of_fields odd count_trailing_zeros
a_small = small_within A tt

c8_small : Within binary32 1 C8
unfolding small of_bits of_fields odd count_trailing_zeros
c8_small = small_within C8 tt

s8_small : Within binary32 1 S8
unfolding small of_bits of_fields odd count_trailing_zeros
s8_small = small_within S8 tt

-- ---- the decisions
side_small : (v a : Float) → Within binary32 1 a → Within binary32 1 (side v a)
unfolding side
side_small v a h = go (lt v zero32)
  where
    go : (b : Bool) → Within binary32 1 (cond b (neg a) a)
    go true = within_neg binary32 1 a h
    go false = h

-- each of the eight points, and past them (0, 0)
pair_small : {a b : Float} → Within binary32 1 a → Within binary32 1 b → Small (complex a b)
pair_small x y = record { re = x; im = y }

data AllSmall : List C32 → Type 0 where
  none : AllSmall []
  next : {v : C32} {l : List C32} → Small v → AllSmall l → AllSmall (v ∷ l)

small_at : {l : List C32} → AllSmall l → (k : ℕ) → Small (get_or l k zero_c)
small_at none k = pair_small zero_small zero_small
small_at (next s r) zero = s
small_at (next s r) (suc k) = small_at r k

points_small : AllSmall points8
unfolding points8
points_small =
    let c = c8_small in
    let s = s8_small in
    let d = within_neg binary32 1 C8 c in
    let u = within_neg binary32 1 S8 s in
    next (pair_small c s) (next (pair_small s c) (next (pair_small u c) (next (pair_small d s)
    (next (pair_small d u) (next (pair_small u d) (next (pair_small s d) (next (pair_small c u) none)))))))

octant_small : (z : C32) → Small (octant_point z)
unfolding octant_point
octant_small z = small_at points_small (octant z)

less : (a n : ℕ) → a ≤ n → a < suc n
less a n h = omega arith

level_small : (k : Qam) (v : Float) → Within binary32 1 (level_at k v)
unfolding level_at levels level_of every small of_bits of_fields odd count_trailing_zeros
level_small qam.Qam16 v = small_within _ (every-at small (levels qam.Qam16) (level_of qam.Qam16 v) nan tt (less (level_of qam.Qam16 v) 3 (held_le 3 _)))
level_small qam.Qam64 v = small_within _ (every-at small (levels qam.Qam64) (level_of qam.Qam64 v) nan tt (less (level_of qam.Qam64 v) 7 (held_le 7 _)))

pub decide_small : (k : EqConstellation) (z : C32) → Small (decide k z)
unfolding decide qam_point
decide_small Bpsk z = record { re = side_small z.re one32 one_small; im = zero_small }
decide_small Qpsk z = record { re = side_small z.re A a_small; im = side_small z.im A a_small }
decide_small Psk8 z = octant_small z
decide_small Qam16 z = record { re = level_small qam.Qam16 z.re; im = level_small qam.Qam16 z.im }
decide_small Qam64 z = record { re = level_small qam.Qam64 z.re; im = level_small qam.Qam64 z.im }

-- ---- cosine and sine
zero_unit : Within binary32 0 zero32
unfolding AtMost of_bits of_fields odd
zero_unit = lit≤ tt

-- beyond the table `cos_at` is +0
cos_unit : (k : ℕ) → Within binary32 0 (cos_at k)
cos_unit k = elim (le_or_lt 4097 k) [
  | inl h ↦ subst (Within binary32 0) (past_end k h) zero_unit
  | inr h ↦ at_most_one k h
]

low_bits : (p : ℕ) → p % 1048576 ≤ 2 ^ 20
low_bits p = omega arith

number : (n : ℕ) → n ≤ 2 ^ 20 → Within binary32 20 (of_int binary32 (pos n))
unfolding of_int
number n h = round_at_most binary32 false n 1 (2 ^ 169) (power_held binary32 20 (lit≤ tt)) (zero-lt-suc 0) (mul-le-mul_right (2 ^ 149) h)

part_step : AtMost binary32 (2 ^ 129) (f32 0x3580_0000)
unfolding AtMost of_bits of_fields odd count_trailing_zeros
part_step = lit≤ tt

low_unit : (p : ℕ) → Within binary32 0 (low_part p)
unfolding low_part
low_unit p =
    mul_at_most binary32 (2 ^ 169) (2 ^ 129) (2 ^ 149) (of_int binary32 (pos (p % 1048576))) (f32 0x3580_0000) (power_held binary32 0 (lit≤ tt)) (lit≤ tt)
    (number (p % 1048576) (low_bits p)) part_step

line_within : (k p : ℕ) → Within binary32 2 (line_at k (low_part p))
unfolding line_at
line_within k p =
    within_add binary32 1 ((cos_at (k + 1) -f cos_at k) *f low_part p) (cos_at k) (lit≤ tt)
    (within_mul binary32 1 0 (cos_at (k + 1) -f cos_at k) (low_part p) (lit≤ tt) (within_sub binary32 0 (cos_at (k + 1)) (cos_at k) (lit≤ tt) (cos_unit (k + 1)) (cos_unit k)) (low_unit p))
    (within_mono binary32 0 1 (cos_at k) (lit≤ tt) (cos_unit k))

pub record Turns (t : CosSin) : Type 0 where
  pub c : Within binary32 2 t.c
  pub s : Within binary32 2 t.s

pub cos_within : (p : ℕ) → Turns (cos_sin p)
unfolding cos_sin interp_pair
cos_within p = go (eqb p 0)
  where
    go : (b : Bool) → Turns (cond b (record { c = one32; s = zero32 }) (record { c = line_at (p / 1048576) (low_part p); s = line_at ((p / 1048576 + 3072) % 4096) (low_part p) }))
    go true = record { c = within_mono binary32 1 2 one32 (lit≤ tt) one_small; s = within_mono binary32 1 2 zero32 (lit≤ tt) zero_small }
    go false = record { c = line_within (p / 1048576) p; s = line_within ((p / 1048576 + 3072) % 4096) p }

-- ---- a point rotated
pub rotated_finite : (d : C32) (t : CosSin) → Small d → Turns t → T (finite (rotated d t).re) × T (finite (rotated d t).im)
unfolding rotated
rotated_finite d t h a = (
  at_most_finite binary32 (2 ^ 153) (d.re *f t.c -f d.im *f t.s)
      (within_sub binary32 3 (d.re *f t.c) (d.im *f t.s) (lit≤ tt) (within_mul binary32 1 2 d.re t.c (lit≤ tt) h.re a.c) (within_mul binary32 1 2 d.im t.s (lit≤ tt) h.im a.s)),
  at_most_finite binary32 (2 ^ 153) (d.re *f t.s +f d.im *f t.c)
      (within_add binary32 3 (d.re *f t.s) (d.im *f t.c) (lit≤ tt) (within_mul binary32 1 2 d.re t.s (lit≤ tt) h.re a.s) (within_mul binary32 1 2 d.im t.c (lit≤ tt) h.im a.c)),
)
