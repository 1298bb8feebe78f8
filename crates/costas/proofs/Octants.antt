-- The point of an octant. Assumes nothing.
use Prim.Native.Nat.{ℕ}
use mathlib.Core.Path.{◌≡◌, refl}
use mathlib.Core.Bool.{Bool, true, false, cond, ◌&&◌}
use mathlib.Core.List.{List, [], ◌∷◌}
use lib.ListN.{get_or}
use lib.Ieee.{of_bits, of_fields, odd, neg, lt, le}
use Rattle.types.specs.declared.C32.{C32}
use Rattle.types.specs.Bits.{f32, zero32}
use Rattle.definition.specs.Floats.{abs, complex, zero_c}
use Rattle.definition.specs.Points.{octant, octant_point, points8}

-- the number by the quadrants' tests, and the halves'
abbrev number : Bool → Bool → Bool → Bool → Bool → Bool → ℕ
number q1 q2 q3 q4 wide tall = cond q1 (cond wide 0 1) (cond q2 (cond tall 2 3) (cond q3 (cond wide 4 5) (cond q4 (cond tall 6 7) 0)))

module _ (y : C32) where
  abbrev q1 : Bool
  q1 = lt zero32 y.re && le zero32 y.im

  abbrev q2 : Bool
  q2 = le y.re zero32 && lt zero32 y.im

  abbrev q3 : Bool
  q3 = lt y.re zero32 && le y.im zero32

  abbrev q4 : Bool
  q4 = le zero32 y.re && lt y.im zero32

-- ---- the point

module _ (P : ℕ → Type 0) (a0 : P 0) (a1 : P 1) (a2 : P 2) (a3 : P 3) (a4 : P 4) (a5 : P 5) (a6 : P 6) (a7 : P 7) where
  each : (q1 q2 q3 q4 wide tall : Bool) → P (number q1 q2 q3 q4 wide tall)
  each true _ _ _ true _ = a0
  each true _ _ _ false _ = a1
  each false true _ _ _ true = a2
  each false true _ _ _ false = a3
  each false false true _ true _ = a4
  each false false true _ false _ = a5
  each false false false true _ true = a6
  each false false false true _ false = a7
  each false false false false _ _ = a0

  at-octant : (y : C32) → P (octant y)
  unfolding octant
  at-octant y = each (q1 y) (q2 y) (q3 y) (q4 y) (lt (abs y.im) (abs y.re)) (lt (abs y.re) (abs y.im))

abbrev pub points : List C32
points =
    complex (f32 0x3f6c_835e) (f32 0x3ec3_ef15) ∷ complex (f32 0x3ec3_ef15) (f32 0x3f6c_835e) ∷ complex (f32 0xbec3_ef15) (f32 0x3f6c_835e) ∷ complex (f32 0xbf6c_835e) (f32 0x3ec3_ef15)
    ∷ complex (f32 0xbf6c_835e) (f32 0xbec3_ef15) ∷ complex (f32 0xbec3_ef15) (f32 0xbf6c_835e) ∷ complex (f32 0x3ec3_ef15) (f32 0xbf6c_835e) ∷ complex (f32 0x3f6c_835e) (f32 0xbec3_ef15) ∷ []

pub point_is : (y : C32) (k : ℕ) (d : C32) → k ≡ octant y → get_or points k d ≡ octant_point y
unfolding octant_point points8 of_bits of_fields odd neg
point_is y k d e = rw e (at-octant (λ n. get_or points n d ≡ get_or points8 n zero_c) refl refl refl refl refl refl refl refl y)
