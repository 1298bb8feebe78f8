-- The floor of a float held to 0 .. k, by comparisons with 1, 2 and so on. Assumes nothing.
use mathlib.Core.Path.{◌≡◌, refl, sym, ap, ◌∙◌, subst}
use mathlib.Core.Bool.{Bool, true, false, cond}
use mathlib.Core.List.{List}
use Prim.Native.Nat.{ℕ, zero, suc, ◌+◌, ◌-◌, ◌*◌, ◌/◌, ◌^◌, ◌≤◌, ◌<◌, min}
use native.Mathlib.Nat.{add-zero, le_of_eq, le_antisymm, mul-one, le-min, le-div_iff_mul-le, div-lt_iff_lt-mul, lt_of_le_of_lt, min-le_right, zero-mul, le_of_mul-le-mul_right}
use native.Mathlib.Omega.{arith}
use lib.IntN.{pos}
use lib.Count.{count_trailing_zeros}
use lib.Dec.{T, eqb, eqb→eq, lit<}
use lib.ListN.{length, get_or}
use Rattle.std.proofs.lemmas.List.{get_or_default}
use lib.Ieee.{Float, nan, inf, fin, binary32, of_int, odd, round, units, size, span, climb, up, down, lt, le, eq}
use lib.Ieee.Fits.{down_pos, and_r}
use Rattle.laws.specs.Order.{le_yes, le_no}
use Rattle.std.specs.Prelude.{count_by}
use Rattle.std.specs.List.{range_with_len}
use Rattle.std.proofs.lemmas.List.Sums.{sum_by-cons}
use Rattle.definition.specs.Points.{held_to, grays}
use Rattle.definition.proofs.Held.{held_le}

-- ---- a comparison with the whole number n * 2 ^ j, as a fact on the floor

at_least : (top n j : ℕ) (t : Float) → n * 2 ^ j ≤ top → le (fin false n (pos j)) t ≡ true → n * 2 ^ j ≤ held_to top t
unfolding le lt eq held_to
at_least top n j nan g h = absurd (subst T (sym h) tt)
at_least top n j (inf true) g h = absurd (subst T (sym h) tt)
at_least top n j (inf false) g h = g
at_least top n j (fin true m e) g h =
    let a = n * 2 ^ j * down e in
    let z : a ≡ 0 = eqb→eq a 0 (and_r (eqb a (m * up e * 1)) (eqb a 0) (subst T (sym h) tt)) in
    le_of_mul-le-mul_right (le_of_eq (z ∙ sym (zero-mul (down e)))) (down_pos e)
at_least top n j (fin false m e) g h =
    le-min g ((le-div_iff_mul-le (down_pos e)).1 (subst (λ (x : ℕ). n * 2 ^ j * down e ≤ x) (mul-one (m * up e)) (le_yes _ _ h)))

-- false too of a NaN, whose floor counts as 0
under : (top n j : ℕ) (t : Float) → 0 < n * 2 ^ j → le (fin false n (pos j)) t ≡ false → held_to top t < n * 2 ^ j
unfolding le lt eq held_to
under top n j nan g h = g
under top n j (inf true) g h = g
under top n j (inf false) g h = absurd (subst T h tt)
under top n j (fin true m e) g h = g
under top n j (fin false m e) g h =
    lt_of_le_of_lt (min-le_right top (m * up e / down e)) ((div-lt_iff_lt-mul (down_pos e)).1 (subst (λ (x : ℕ). x < n * 2 ^ j * down e) (mul-one (m * up e)) (le_no _ _ h)))

-- ---- one place more: the floor held to k, of the floor held to k - 1

-- the float of k, from 1 to 7, is exact
exact : (k : ℕ) → 1 ≤ k → k < 8 → (n : ℕ) × (j : ℕ) × (of_int binary32 (pos k) ≡ fin false n (pos j)) × (n * 2 ^ j ≡ k)
unfolding of_int odd count_trailing_zeros round units size span climb
exact zero a b = absurd (omega arith)
exact (suc zero) a b = (1, 0, refl, refl)
exact (suc (suc zero)) a b = (1, 1, refl, refl)
exact (suc (suc (suc zero))) a b = (3, 0, refl, refl)
exact (suc (suc (suc (suc zero)))) a b = (1, 2, refl, refl)
exact (suc (suc (suc (suc (suc zero))))) a b = (5, 0, refl, refl)
exact (suc (suc (suc (suc (suc (suc zero)))))) a b = (3, 1, refl, refl)
exact (suc (suc (suc (suc (suc (suc (suc zero))))))) a b = (7, 0, refl, refl)
exact (suc (suc (suc (suc (suc (suc (suc (suc k)))))))) a b = absurd (omega arith)

lower_min : (k q : ℕ) → min k q < k → min k q ≡ min (k - 1) q
lower_min k q h = omega arith

lower : (k : ℕ) (t : Float) → held_to k t < k → held_to k t ≡ held_to (k - 1) t
unfolding held_to
lower k nan h = refl
lower k (inf true) h = refl
lower k (inf false) h = absurd (omega arith)
lower k (fin true m e) h = refl
lower k (fin false m e) h = lower_min k (m * up e / down e) h

positive : (k : ℕ) → 1 ≤ k → 0 < k
positive k h = omega arith

abbrev reached : ℕ → Float → Bool
reached k t = le (of_int binary32 (pos k)) t

up_to : (k : ℕ) (t : Float) → 1 ≤ k → k < 8 → reached k t ≡ true → held_to k t ≡ k
up_to k t a b h =
    let e = exact k a b in
    le_antisymm (held_le k t) (subst (λ (x : ℕ). x ≤ held_to k t) e.3 (at_least k e.0 e.1 t (le_of_eq e.3) (subst (λ (x : Float). le x t ≡ true) e.2 h)))

same : (k : ℕ) (t : Float) → 1 ≤ k → k < 8 → reached k t ≡ false → held_to k t ≡ held_to (k - 1) t
same k t a b h =
    let e = exact k a b in
    lower k t
    (subst (λ (x : ℕ). held_to k t < x) e.3
    (under k e.0 e.1 t (subst (λ (x : ℕ). 0 < x) (sym e.3) (positive k a)) (subst (λ (x : Float). le x t ≡ false) e.2 h)))

none : (t : Float) → held_to 0 t ≡ 0
none t = le_antisymm (held_le 0 t) (omega arith)

-- the floor held to k - 1, of the floor held to k
less : (k : ℕ) (t : Float) → held_to (k - 1) t ≡ min (k - 1) (held_to k t)
unfolding held_to
less k nan = omega arith
less k (inf true) = omega arith
less k (inf false) = omega arith
less k (fin true m e) = omega arith
less k (fin false m e) = small k (m * up e / down e)
  where
    small : (k q : ℕ) → min (k - 1) q ≡ min (k - 1) (min k q)
    small k q = omega arith

-- one place more
next : (k n : ℕ) (t : Float) → 1 ≤ k → k < 8 → n ≡ held_to (k - 1) t → n + cond (reached k t) 1 0 ≡ held_to k t
next k n t l h e = go (reached k t) refl
  where
    went : (q : ℕ) → q ≡ k → n ≡ min (k - 1) q → n + 1 ≡ q
    went q u v = omega arith

    go : (c : Bool) → reached k t ≡ c → n + cond c 1 0 ≡ held_to k t
    go true p = went (held_to k t) (up_to k t l h p) (e ∙ less k t)
    go false p = rw (same k t l h p, e) (add-zero (held_to (k - 1) t))

-- how many of n numbers from a on meet p, of one fewer
more : (p : ℕ → Bool) (n a j : ℕ) → a + n ≡ j → count_by p (range_with_len a (suc n)) ≡ count_by p (range_with_len a n) + cond (p j) 1 0
more p zero a j e = ap (λ (i : ℕ). 0 + cond (p i) 1 0) (sym (add-zero a) ∙ e)
more p (suc n) a j e =
    add (cond (p a) 1 0) (count_by p (range_with_len (a + 1) (suc n))) (count_by p (range_with_len (a + 1) n)) (cond (p j) 1 0) _ _
    (sum_by-cons (λ i. cond (p i) 1 0) a (range_with_len (a + 1) (suc n)))
    (sum_by-cons (λ i. cond (p i) 1 0) a (range_with_len (a + 1) n))
    (more p n (a + 1) j (omega (arith, e)))
  where
    add : (x y z w u v : ℕ) → u ≡ x + y → v ≡ x + z → y ≡ z + w → u ≡ v + w
    add x y z w u v a b h = omega (arith, a, b, h)

before : (n : ℕ) → n ≡ suc n - 1
before n = omega arith

-- as many of the places 1 .. n are reached
counted : (n : ℕ) (t : Float) → n < 8 → count_by (λ k. reached k t) (range_with_len 1 n) ≡ held_to n t
counted zero t l = sym (none t)
counted (suc n) t l = more (λ k. reached k t) n 1 (suc n) (omega arith) ∙ next (suc n) _ t (omega arith) l (counted n t (omega arith) ∙ ap (λ (i : ℕ). held_to i t) (before n))

pub counted_is : (m n : ℕ) (t : Float) → 0 < m → m ≤ 8 → n ≡ count_by (λ k. le (of_int binary32 (pos k)) t) (range_with_len 1 (m - 1)) → n ≡ held_to (m - 1) t
counted_is m n t p l e = e ∙ counted (m - 1) t (omega arith)

-- ---- what stands at the floor: one place more, one number more

module _ {A : Type 0} (xs : List A) (t : Float) where
  -- before the first comparison
  pub first_at : (m : ℕ) (y d : A) → 0 < length xs → m ≡ 0 → get_or xs 0 y ≡ get_or xs (held_to m t) d
  first_at m y d l s = get_or_default xs 0 y d l ∙ ap (λ (n : ℕ). get_or xs n d) (sym (none t)) ∙ ap (λ (n : ℕ). get_or xs (held_to n t) d) (sym s)

  -- after one more
  pub next_at : (k m : ℕ) (y r r' d : A)
      → 1 ≤ k → k < 8 → k < length xs → m ≡ k → r' ≡ cond (reached k t) (get_or xs k y) r → r ≡ get_or xs (held_to (k - 1) t) d → r' ≡ get_or xs (held_to m t) d
  next_at k m y r r' d a b l s e h = e ∙ go (reached k t) refl ∙ ap (λ (n : ℕ). get_or xs (held_to n t) d) (sym s)
    where
      go : (c : Bool) → reached k t ≡ c → cond c (get_or xs k y) r ≡ get_or xs (held_to k t) d
      go true p = get_or_default xs k y d l ∙ ap (λ (n : ℕ). get_or xs n d) (sym (up_to k t a b p))
      go false p = h ∙ ap (λ (n : ℕ). get_or xs n d) (sym (same k t a b p))

-- ---- the code of a level is one of eight

pub code_below : (n : ℕ) → get_or grays n 0 < 8
code_below zero = lit< tt
code_below (suc zero) = lit< tt
code_below (suc (suc zero)) = lit< tt
code_below (suc (suc (suc zero))) = lit< tt
code_below (suc (suc (suc (suc zero)))) = lit< tt
code_below (suc (suc (suc (suc (suc zero))))) = lit< tt
code_below (suc (suc (suc (suc (suc (suc zero)))))) = lit< tt
code_below (suc (suc (suc (suc (suc (suc (suc zero))))))) = lit< tt
code_below (suc (suc (suc (suc (suc (suc (suc (suc n)))))))) = lit< tt
