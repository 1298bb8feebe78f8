-- Parts of the new weights by index; lists whose parts are all finite. Assumes nothing.
use Prim.Native.Nat.{ℕ, zero, suc, ◌+◌, ◌*◌, ◌<◌, ◌≤◌}
use mathlib.Core.Path.{◌≡◌, refl, ◌∙◌}
use mathlib.Core.Bool.{true}
use mathlib.Core.List.{List, [], ◌∷◌, ◌++◌}
use native.Mathlib.Omega.{arith}
use native.Mathlib.Decide.{ℕ_discrete}
use Rattle.std.proofs.lemmas.List.Recursion.{and_from_places}
use lib.ListN.{length, get_or, drop, get_or-append}
use lib.Seq.{get_or_at}
use lib.Dec.{T}
use lib.Ieee.{Float, nan}
use lib.Ieee.Bits.{is_true}
use lib.Ieee.Scale.{finite}
use Rattle.types.specs.declared.C32.{C32}
use Rattle.definition.specs.Slices.{re_at, im_at, part, tabulate, new_re, new_im, updated, every}
use Rattle.definition_laws.proofs.Every.{length_tabulate, every-at}
use Rattle.definition_laws.proofs.Mapped.{part_even, part_odd}
use Rattle.lanes.proofs.Places.{each_place}

pub tabulate_at : (f : ℕ → Float) (n k : ℕ) → k < n → get_or (tabulate n f) k nan ≡ f k
unfolding tabulate
tabulate_at f zero k h = absurd (omega arith)
tabulate_at f (suc n) k h = go (ℕ_discrete k n) (tabulate_at f n k)
  where
    go : Dec (k ≡ n) → (k < n → get_or (tabulate n f) k nan ≡ f k) → get_or (tabulate n f ++ f n ∷ []) k nan ≡ f k
    go (yes e) r = rw e (get_or_at (tabulate n f) (f n) [] nan n (length_tabulate n f))
    go (no d) r = get_or-append (tabulate n f) (f n ∷ []) nan k (omega (arith, length_tabulate n f)) ∙ r (omega arith)

module _ (n : ℕ) (g : C32) (w h : List Float) where
  part_at : (k : ℕ) → k < 2 * n → get_or (updated n g w h) k nan ≡ part (new_re g w h) (new_im g w h) k
  unfolding updated
  part_at k l =
      get_or-append (tabulate (2 * n) (part (new_re g w h) (new_im g w h))) (drop (2 * n) w) nan k (omega (arith, length_tabulate (2 * n) (part (new_re g w h) (new_im g w h))))
      ∙ tabulate_at (part (new_re g w h) (new_im g w h)) (2 * n) k l

  pub updated_at : (i : ℕ) → i < n → (re_at (updated n g w h) i ≡ new_re g w h i) × (im_at (updated n g w h) i ≡ new_im g w h i)
  updated_at i l = (part_at (2 * i) (omega arith) ∙ part_even (new_re g w h) (new_im g w h) i, part_at (2 * i + 1) (omega arith) ∙ part_odd (new_re g w h) (new_im g w h) i)

-- ---- the numbers base .. base + count of y are finite
abbrev pub Fine : List Float → ℕ → ℕ → Type 0
Fine y base count = (j : ℕ) → j < count → T (finite (re_at y (base + j))) × T (finite (im_at y (base + j)))

pub every_fine : (y : List Float) (n m : ℕ) → length y ≡ 2 * (n + m) → Fine y 0 n → Fine y n m → every finite y ≡ true
unfolding every
every_fine y n m e f g =
    and_from_places (every finite) finite refl (λ v x. refl) y nan (λ k l. is_true (finite (get_or y k nan)) (each_place (λ (k : ℕ). T (finite (get_or y k nan))) n m f g k (omega arith)))

pub fine_every : (y : List Float) (base count : ℕ) → 2 * (base + count) ≤ length y → T (every finite y) → Fine y base count
fine_every y base count b t j l = (every-at finite y (2 * (base + j)) nan t (omega arith), every-at finite y (2 * (base + j) + 1) nan t (omega arith))
