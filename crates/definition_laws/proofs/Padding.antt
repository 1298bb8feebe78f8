-- Padding: products that are zeros, of either sign, may be left out of the end of a partial sum, and of a sum; +0 and a finite value make such a product. Assumes nothing.
use Prim.Native.Nat.{ℕ, zero, suc, ◌+◌, ◌-◌, ◌*◌, ◌<◌, ◌≤◌}
use mathlib.Core.Path.{◌≡◌, refl, sym, ◌∙◌, ap}
use mathlib.Core.Bool.{Bool, true, false}
use native.Mathlib.Omega.{arith}
use native.Mathlib.Nat.{add-zero, add-suc}
use lib.IntN.{pos}
use lib.Dec.{T}
use lib.Ieee.{Float, nan, inf, fin, binary32, fits, unlike, of_bits, of_fields, odd, size, span, climb, round, units, sum, neg, add, sub}
use lib.Ieee.Fits.{add-fits}
use lib.Ieee.Bits.{of_bits-fits}
use lib.Ieee.Scale.{finite}
use Rattle.laws.specs.Zero.{not_neg_zero, add_any_zero, add_not_neg, mul_zero_right}
use Rattle.types.specs.Bits.{zero32}
use Rattle.definition.specs.Floats.{◌+f◌, ◌-f◌, ◌*f◌}
use Rattle.definition.specs.Slices.{lane, lane_count, sum8}

-- a zero of either sign
pub record Zero (x : Float) : Type 0 where
  pub sign : Bool
  pub is : x ≡ fin sign 0 (pos 0)

module _ (p : ℕ → Float) (each : (i : ℕ) → T (fits binary32 (p i))) where
  pub lane-fits : (k b : ℕ) → T (fits binary32 (lane p k b))
  unfolding lane
  lane-fits k zero = of_bits-fits binary32 0
  lane-fits k (suc b) = add-fits binary32 (lane p k b) (p (8 * b + k))

  pub lane-not-neg : (k b : ℕ) → T (not_neg_zero (lane p k b))
  unfolding lane
  lane-not-neg k zero = unfold of_bits of_fields odd in tt
  lane-not-neg k (suc b) = add_not_neg binary32 (lane p k b) (p (8 * b + k)) (lane-fits k b) (each (8 * b + k)) (lane-not-neg k b)

  lane-pad : (k b c : ℕ) → ((i : ℕ) → b ≤ i → i < b + c → Zero (p (8 * i + k))) → lane p k (b + c) ≡ lane p k b
  unfolding lane
  lane-pad k b zero z = ap (lane p k) (add-zero b)
  lane-pad k b (suc c) z =
      let w = z (b + c) (omega arith) (omega arith) in
      ap (lane p k) (add-suc b c)
      ∙ ap (λ (x : Float). lane p k (b + c) +f x) w.is
      ∙ add_any_zero binary32 (lane p k (b + c)) w.sign (lane-fits k (b + c)) (lane-not-neg k (b + c))
      ∙ lane-pad k b c (λ i l h. z i l (omega arith))

  -- one partial of n products is that of m, where the products from n on are zeros
  pub lane-same : (n m k : ℕ) → k < 8 → n ≤ m → ((i : ℕ) → n ≤ i → i < m → Zero (p i)) → lane p k (lane_count m k) ≡ lane p k (lane_count n k)
  lane-same n m k l h z =
      let b = lane_count n k in
      let c = lane_count m k - lane_count n k in
      let e : b + c ≡ lane_count m k = omega arith in
      ap (lane p k) (sym e) ∙ lane-pad k b c (λ i x y. z (8 * i + k) (omega arith) (omega arith))

  -- and so is the whole sum
  pub sum-pad : (n m : ℕ) → n ≤ m → ((i : ℕ) → n ≤ i → i < m → Zero (p i)) → sum8 p m ≡ sum8 p n
  unfolding sum8
  sum-pad n m h z =
      let s : (k : ℕ) → k < 8 → lane p k (lane_count m k) ≡ lane p k (lane_count n k) = λ k l. lane-same n m k l h z in
      rw (s 0 (omega arith), s 1 (omega arith), s 2 (omega arith), s 3 (omega arith), s 4 (omega arith), s 5 (omega arith), s 6 (omega arith), s 7 (omega arith))

-- ---- a weight +0 and a finite window
pub times_zero : (x : Float) → T (finite x) → Zero (x *f zero32)
times_zero nan h = absurd h
times_zero (inf s) h = absurd h
times_zero (fin s m e) h = record { sign = unlike s false; is = unfold of_bits of_fields odd in (mul_zero_right binary32 s m e false) }

pub zero_minus : (s t : Bool) → Zero (fin s 0 (pos 0) -f fin t 0 (pos 0))
unfolding sub add neg sum round size span climb units odd
zero_minus true true = record { sign = false; is = refl }
zero_minus true false = record { sign = true; is = refl }
zero_minus false true = record { sign = false; is = refl }
zero_minus false false = record { sign = false; is = refl }

pub zero_plus : (s t : Bool) → Zero (fin s 0 (pos 0) +f fin t 0 (pos 0))
unfolding add sum round size span climb units odd
zero_plus true true = record { sign = true; is = refl }
zero_plus true false = record { sign = false; is = refl }
zero_plus false true = record { sign = false; is = refl }
zero_plus false false = record { sign = false; is = refl }
