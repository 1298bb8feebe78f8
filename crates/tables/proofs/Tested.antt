-- A rule of a table, proved at all of its entries by one test that antt computes: of each entry (`at`), and of each entry of one list with the entry of another
-- list at the same place (`at2`): the other list is the table reversed, without its first entry, or turned round.
-- Assumes nothing.
use mathlib.Core.Path.{◌≡◌, ◌∙◌, ap, subst, sym}
use mathlib.Core.Logic.{inl, inr}
use mathlib.Core.Bool.{Bool, true, ◌&&◌}
use mathlib.Core.List.{List, [], ◌∷◌, reverse, reverse_aux}
use Prim.Native.Nat.{ℕ, zero, suc, ◌+◌, ◌-◌, ◌<◌}
use native.Mathlib.Nat.{add-zero, zero-add, add-suc, suc-add, le_of_suc-le-suc, not-suc-le-zero, eq-or-lt_of_le}
use native.Mathlib.Omega.{arith}
use lib.Dec.{T}
use lib.Ieee.Fits.{and_l, and_r}
use lib.ListN.{length, get_or}

-- ---- one list
abbrev pub every : (ℕ → ℕ → Bool) → ℕ → List ℕ → Bool
every f i [] = true
every f i (x ∷ xs) = f i x && every f (suc i) xs

from : (f : ℕ → ℕ → Bool) (xs : List ℕ) (i : ℕ) → T (every f i xs) → (k : ℕ) → k < length xs → T (f (i + k) (get_or xs k 0))
from f [] i t k h = absurd (not-suc-le-zero h)
from f (x ∷ xs) i t zero h = subst (λ (m : ℕ). T (f m x)) (sym (add-zero i)) (and_l (f i x) (every f (suc i) xs) t)
from f (x ∷ xs) i t (suc k) h =
    subst (λ (m : ℕ). T (f m (get_or xs k 0))) (suc-add i k ∙ sym (add-suc i k))
    (from f xs (suc i) (and_r (f i x) (every f (suc i) xs) t) k (le_of_suc-le-suc h))

pub at : (f : ℕ → ℕ → Bool) (xs : List ℕ) → T (every f 0 xs) → (k : ℕ) → k < length xs → T (f k (get_or xs k 0))
at f xs t k h = subst (λ (m : ℕ). T (f m (get_or xs k 0))) (zero-add k) (from f xs 0 t k h)

-- ---- two lists
abbrev pub every2 : (ℕ → ℕ → Bool) → List ℕ → List ℕ → Bool
every2 f [] ys = true
every2 f (x ∷ xs) [] = true
every2 f (x ∷ xs) (y ∷ ys) = f x y && every2 f xs ys

pub at2 : (f : ℕ → ℕ → Bool) (xs ys : List ℕ) → T (every2 f xs ys) → (k : ℕ) → k < length xs → k < length ys → T (f (get_or xs k 0) (get_or ys k 0))
at2 f [] ys t k h g = absurd (not-suc-le-zero h)
at2 f (x ∷ xs) [] t k h g = absurd (not-suc-le-zero g)
at2 f (x ∷ xs) (y ∷ ys) t zero h g = and_l (f x y) (every2 f xs ys) t
at2 f (x ∷ xs) (y ∷ ys) t (suc k) h g = at2 f xs ys (and_r (f x y) (every2 f xs ys) t) k (le_of_suc-le-suc h) (le_of_suc-le-suc g)

-- ---- a list reversed
past : (l r : List ℕ) (i : ℕ) → get_or (reverse_aux l r) (length l + i) 0 ≡ get_or r i 0
past [] r i = ap (λ (n : ℕ). get_or r n 0) (zero-add i)
past (x ∷ xs) r i = ap (λ (n : ℕ). get_or (reverse_aux xs (x ∷ r)) n 0) (suc-add (length xs) i ∙ sym (add-suc (length xs) i)) ∙ past xs (x ∷ r) (suc i)

one_less : (n k : ℕ) → k < n → suc n - suc k ≡ suc (n - suc k)
one_less n k h = omega arith

none_left : (n k : ℕ) → k ≡ n → suc n - suc k ≡ 0
none_left n k h = omega arith

within : (l r : List ℕ) (k : ℕ) → k < length l → get_or (reverse_aux l r) k 0 ≡ get_or l (length l - suc k) 0
within [] r k h = absurd (not-suc-le-zero h)
within (x ∷ xs) r k h = elim (eq-or-lt_of_le (le_of_suc-le-suc h)) [
  | inl e ↦
      ap (λ (n : ℕ). get_or (reverse_aux xs (x ∷ r)) n 0) (e ∙ sym (add-zero (length xs)))
      ∙ past xs (x ∷ r) 0
      ∙ ap (λ (n : ℕ). get_or (x ∷ xs) n 0) (sym (none_left (length xs) k e))
  | inr l ↦ within xs (x ∷ r) k l ∙ ap (λ (n : ℕ). get_or (x ∷ xs) n 0) (sym (one_less (length xs) k l))
]

pub get_d_reverse : (l : List ℕ) (k : ℕ) → k < length l → get_or (reverse l) k 0 ≡ get_or l (length l - suc k) 0
get_d_reverse l k h = within l [] k h
