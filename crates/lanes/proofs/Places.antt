-- Lanes that are as they were hold what they held; the places of a list by its numbers. Assumes nothing.
use Prim.Native.Nat.{ℕ, ◌+◌, ◌-◌, ◌*◌, ◌/◌, ◌%◌, ◌<◌}
use mathlib.Core.Path.{◌≡◌, ◌∙◌}
use mathlib.Core.List.{List}
use native.Mathlib.Omega.{arith}
use native.Mathlib.Decide.{ℕ_discrete, dec_lt}
use lib.ListN.{length, get_or}
use lib.Ieee.{Float, nan}
use Rattle.lanes.specs.Holds.{Lies, Half}

pub lies_kept : (re im re' im' : List Float) (from : ℕ) (x : List Float) (base count : ℕ)
    → ((j : ℕ) → j < count → get_or re' (from + j) nan ≡ get_or re (from + j) nan) → ((j : ℕ) → j < count → get_or im' (from + j) nan ≡ get_or im (from + j) nan)
    → Lies re im from x base count → Lies re' im' from x base count
lies_kept re im re' im' from x base count f g l = record { re_is = λ j h. f j h ∙ l.re_is j h; im_is = λ j h. g j h ∙ l.im_is j h }

-- a half is what its 72 lanes are
pub half_kept : {re im re' im' w : List Float} (o from base count : ℕ) → length re' ≡ length re → length im' ≡ length im
    → ((i : ℕ) → i < 72 → get_or re' (o + i) nan ≡ get_or re (o + i) nan) → ((i : ℕ) → i < 72 → get_or im' (o + i) nan ≡ get_or im (o + i) nan)
    → Half re im o from w base count → Half re' im' o from w base count
half_kept o from base count a b f g s = record {
  long = a ∙ s.long;
  long' = b ∙ s.long';
  room = s.room;
  lies = record {
    re_is = λ j l. let e : o + from + j ≡ o + (from + j) = omega arith in rw e (f (from + j) (omega (arith, s.room)) ∙ rw e at (s.lies.re_is j l));
    im_is = λ j l. let e : o + from + j ≡ o + (from + j) = omega arith in rw e (g (from + j) (omega (arith, s.room)) ∙ rw e at (s.lies.im_is j l));
  };
  early = record { re_zero = λ i p q. f i (omega (arith, s.room)) ∙ s.early.re_zero i p q; im_zero = λ i p q. g i (omega (arith, s.room)) ∙ s.early.im_zero i p q };
  late = record { re_zero = λ i p q. f i q ∙ s.late.re_zero i p q; im_zero = λ i p q. g i q ∙ s.late.im_zero i p q };
}

-- what holds of both parts of the first n numbers and of the m behind them holds of each place
pub each_place : (P : ℕ → Type 0) (n m : ℕ) → ((j : ℕ) → j < n → P (2 * (0 + j)) × P (2 * (0 + j) + 1)) → ((j : ℕ) → j < m → P (2 * (n + j)) × P (2 * (n + j) + 1))
    → (k : ℕ) → k < 2 * (n + m) → P k
each_place P n m f g k l = part (ℕ_discrete (k % 2) 0) (number (dec_lt (k / 2) n))
  where
    number : Dec (k / 2 < n) → P (2 * (k / 2)) × P (2 * (k / 2) + 1)
    number (yes q) = let e : 0 + k / 2 ≡ k / 2 = omega arith in rw e at (f (k / 2) q)
    number (no q) = let e : n + (k / 2 - n) ≡ k / 2 = omega arith in rw e at (g (k / 2 - n) (omega arith))

    part : Dec (k % 2 ≡ 0) → P (2 * (k / 2)) × P (2 * (k / 2) + 1) → P k
    part (yes q) h = let e : k ≡ 2 * (k / 2) = omega arith in rw e h.0
    part (no q) h = let e : k ≡ 2 * (k / 2) + 1 = omega arith in rw e h.1
