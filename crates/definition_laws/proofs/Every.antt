-- Tests of every element of a list, and lengths. Assumes nothing.
use Prim.Native.Nat.{ℕ, zero, suc, ◌*◌, ◌<◌, ◌≤◌}
use mathlib.Core.Path.{◌≡◌, refl}
use mathlib.Core.Bool.{Bool, true, ◌&&◌}
use mathlib.Core.List.{List, [], ◌∷◌, ◌++◌}
use native.Mathlib.Nat.{le_of_suc-le-suc, not-suc-le-zero}
use native.Mathlib.Omega.{arith}
use lib.ListN.{length, get_or, take, drop, set, replicate, length-append, length-take, length-drop, length-set, length-replicate}
use lib.Dec.{T}
use lib.Ieee.{Float}
use lib.Ieee.Fits.{and_i, and_l, and_r}
use Rattle.types.specs.declared.C32.{C32}
use Rattle.definition.specs.Slices.{every, tabulate, shifted, updated, start_weights}

-- ---- every

module _ (p : Float → Bool) where
  pub every_append : (x y : List Float) → T (every p x) → T (every p y) → T (every p (x ++ y))
  unfolding every
  every_append [] y a b = b
  every_append (v ∷ x) y a b = and_i (p v) (every p (x ++ y)) (and_l (p v) (every p x) a) (every_append x y (and_r (p v) (every p x) a) b)

  pub every-left : (x y : List Float) → T (every p (x ++ y)) → T (every p x)
  unfolding every
  every-left [] y a = tt
  every-left (v ∷ x) y a = and_i (p v) (every p x) (and_l (p v) (every p (x ++ y)) a) (every-left x y (and_r (p v) (every p (x ++ y)) a))

  pub every_take : (n : ℕ) (x : List Float) → T (every p x) → T (every p (take n x))
  unfolding every
  every_take zero x a = tt
  every_take (suc n) [] a = tt
  every_take (suc n) (v ∷ x) a = and_i (p v) (every p (take n x)) (and_l (p v) (every p x) a) (every_take n x (and_r (p v) (every p x) a))

  pub every_drop : (n : ℕ) (x : List Float) → T (every p x) → T (every p (drop n x))
  unfolding every
  every_drop zero x a = a
  every_drop (suc n) [] a = tt
  every_drop (suc n) (v ∷ x) a = every_drop n x (and_r (p v) (every p x) a)

  pub every_set : (x : List Float) (i : ℕ) (v : Float) → T (every p x) → T (p v) → T (every p (set x i v))
  unfolding every
  every_set [] i v a b = tt
  every_set (u ∷ x) zero v a b = and_i (p v) (every p x) b (and_r (p u) (every p x) a)
  every_set (u ∷ x) (suc i) v a b = and_i (p u) (every p (set x i v)) (and_l (p u) (every p x) a) (every_set x i v (and_r (p u) (every p x) a) b)

  pub every-replicate : (n : ℕ) (v : Float) → T (p v) → T (every p (replicate n v))
  unfolding every
  every-replicate zero v a = tt
  every-replicate (suc n) v a = and_i (p v) (every p (replicate n v)) a (every-replicate n v a)

  pub every-at : (x : List Float) (i : ℕ) (d : Float) → T (every p x) → i < length x → T (p (get_or x i d))
  unfolding every
  every-at [] i d a h = absurd (not-suc-le-zero h)
  every-at (v ∷ x) zero d a h = and_l (p v) (every p x) a
  every-at (v ∷ x) (suc i) d a h = every-at x i d (and_r (p v) (every p x) a) (le_of_suc-le-suc h)

  pub every-of-each : (x : List Float) (d : Float) → ((i : ℕ) → i < length x → T (p (get_or x i d))) → T (every p x)
  unfolding every
  every-of-each [] d a = tt
  every-of-each (v ∷ x) d a = and_i (p v) (every p x) (a 0 (omega arith)) (every-of-each x d (λ i h. a (suc i) (omega arith)))

  pub every-shifted : (n : ℕ) (a : C32) (x : List Float) → T (p a.re) → T (p a.im) → T (every p x) → T (every p (shifted n a x))
  unfolding shifted every
  every-shifted n a x r i e =
      every_append (take (2 * n) (a.re ∷ a.im ∷ x)) (drop (2 * n) x)
      (every_take (2 * n) (a.re ∷ a.im ∷ x) (and_i (p a.re) (p a.im && every p x) r (and_i (p a.im) (every p x) i e)))
      (every_drop (2 * n) x e)

-- another test, where the one implies the other at each element
pub every_tabulate : (p r : Float → Bool) (f : ℕ → Float) → ((k : ℕ) → T (p (f k)) → T (r (f k))) → (n : ℕ) → T (every p (tabulate n f)) → T (every r (tabulate n f))
unfolding tabulate every
every_tabulate p r f g zero a = tt
every_tabulate p r f g (suc n) a =
    every_append r (tabulate n f) (f n ∷ []) (every_tabulate p r f g n (every-left p (tabulate n f) (f n ∷ []) a))
    (and_i (r (f n)) true (g n (last (tabulate n f) (f n) a)) tt)
  where
    last : (x : List Float) (v : Float) → T (every p (x ++ v ∷ [])) → T (p v)
    last [] v a = and_l (p v) true a
    last (u ∷ x) v a = last x v (and_r (p u) (every p (x ++ v ∷ [])) a)

-- ---- lengths

pub length_tabulate : (n : ℕ) (f : ℕ → Float) → length (tabulate n f) ≡ n
unfolding tabulate
length_tabulate zero f = refl
length_tabulate (suc n) f = simp (length-append, length_tabulate n f) (omega arith)

pub length_shifted : (n : ℕ) (a : C32) (x : List Float) → 2 * n ≤ length x → length (shifted n a x) ≡ length x
unfolding shifted
length_shifted n a x h = simp (length-append, length-take, length-drop) (omega arith)

pub length_updated : (n : ℕ) (g : C32) (w h : List Float) → 2 * n ≤ length w → length (updated n g w h) ≡ length w
unfolding updated
length_updated n g w h l = simp (length-append, length_tabulate, length-drop) (omega arith)

pub length_start : (n c : ℕ) → length (start_weights n c) ≡ 2 * n
unfolding start_weights
length_start n c = simp (length-set, length-replicate)
