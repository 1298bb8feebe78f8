-- The power of a window as a fold over pairs of floats. Assumes nothing.
use Prim.Native.Nat.{ℕ, zero, suc, ◌+◌, ◌-◌, ◌*◌, ◌/◌, ◌≤◌, ◌<◌}
use mathlib.Core.Path.{◌≡◌, refl, ◌∙◌, ap}
use mathlib.Core.List.{List, [], ◌∷◌}
use native.Mathlib.Omega.{arith}
use lib.ListN.{length, get_or, take, drop, length-drop}
use lib.Seq.{take-suc, get_or-drop}
use lib.Ieee.{Float, nan}
use Rattle.std.specs.List.{fold, slice_range}
use Rattle.std.specs.Simd.{first_chunks}
use Rattle.std.proofs.lemmas.List.Sums.{fold-append}
use Rattle.definition.specs.Floats.{◌+f◌, norm, complex}
use Rattle.definition.specs.Slices.{re_at, im_at, power}

length_pairs : (k : ℕ) (x : List Float) → length (first_chunks 2 k x) ≡ k
length_pairs zero x = refl
length_pairs (suc k) x = ap (λ (n : ℕ). suc n) (length_pairs k (drop 2 x))

pair_is : (k i : ℕ) (x : List Float) → i < k → 2 * k ≤ length x → get_or (first_chunks 2 k x) i [] ≡ re_at x i ∷ im_at x i ∷ []
pair_is zero i x h l = absurd (omega arith)
pair_is (suc k) i [] h l = absurd (omega arith)
pair_is (suc k) i (a ∷ []) h l = absurd (omega arith)
pair_is (suc k) zero (a ∷ b ∷ x) h l = refl
pair_is (suc k) (suc i) (a ∷ b ∷ x) h l =
    let f : 2 * suc i + 1 ≡ suc (suc (2 * i + 1)) = omega arith in
    let e : 2 * suc i ≡ suc (suc (2 * i)) = omega arith in
    rw (f, e) (pair_is k i x (omega arith) (omega arith))

abbrev pub add_power : Float → List Float → Float
add_power s p = s +f norm (complex (get_or p 0 nan) (get_or p 1 nan))

power_fold : (x : List Float) (m from k : ℕ) (s : Float) → 2 * m ≤ length x → from + k ≤ m → s ≡ power x from → fold add_power s (take k (drop from (first_chunks 2 m x))) ≡ power x (from + k)
unfolding power
power_fold x m from zero s l h e = let z : from + 0 ≡ from = omega arith in rw z e
power_fold x m from (suc k) s l h e =
    let d = drop from (first_chunks 2 m x) in
    let n : k < length d = simp length-drop (omega (arith, length_pairs m x)) in
    let z : from + suc k ≡ suc (from + k) = omega arith in
    ap (fold add_power s) (take-suc d k [] n) ∙ fold-append add_power s (take k d) (get_or d k [] ∷ [])
    ∙ rw (power_fold x m from k s l (omega arith) e, get_or-drop from (first_chunks 2 m x) k [], pair_is m (from + k) x (omega arith) l, z)

-- the part that the code lends
pub power_folded : (x : List Float) (from n : ℕ) (s r : Float) → 2 * n ≤ length x → from ≤ n → s ≡ power x from
    → r ≡ fold add_power s (slice_range (first_chunks 2 (length x / 2) x) from n) → r ≡ power x n
power_folded x from n s r l h e f =
    let k : from + (n - from) ≡ n = omega arith in
    f ∙ power_fold x (length x / 2) from (n - from) s (omega arith) (omega arith) e ∙ ap (power x) k
