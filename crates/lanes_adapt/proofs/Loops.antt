-- Tests of all lanes, one after another. Assumes nothing.
use Prim.Native.Nat.{ℕ, zero, suc, ◌+◌, ◌<◌, ◌≤◌}
use mathlib.Core.Path.{◌≡◌, refl, sym, ◌∙◌, ap}
use mathlib.Core.Bool.{Bool, false, ◌||◌}
use mathlib.Core.List.{List}
use Rattle.std.specs.List.{list_any, enumerate_from}
use Rattle.std.proofs.lemmas.Bool.{or_parts}
use Rattle.std.proofs.lemmas.List.Folds.{list_any_more}
use Rattle.std.proofs.lemmas.List.FromFn.{length-enumerate_from, get_or-enumerate_from}
use native.Mathlib.Omega.{arith}
use native.Mathlib.Numerals.{add-one}
use native.Mathlib.Nat.{zero-add}
use borrow.Author.Count.{below_more}
use lib.ListN.{length, get_or, take}
use lib.Seq.{take-length}
use lib.Ieee.{Float, nan}
use Rattle.lanes_adapt.specs.Steps.{broken_at, any_of}
use Rattle.lanes_adapt.specs.Settled.{ruined}

pub any_none : (p : ℕ → Bool) → false ≡ any_of 0 p
unfolding any_of
any_none p = refl

pub any_more : (p : ℕ → Bool) (n : ℕ) (bad b : Bool) → bad ≡ any_of n p → b ≡ p n → (bad || b) ≡ any_of (n + 1) p
unfolding any_of
any_more p n bad b e f = rw (add-one, e, f)

pub any_false : (p : ℕ → Bool) (n : ℕ) → any_of n p ≡ false → (i : ℕ) → i < n → p i ≡ false
unfolding any_of
any_false p zero h i l = absurd (omega arith)
any_false p (suc n) h i l =
    let z = or_parts (any_of n p) (p n) h in
    below_more (λ (i : ℕ). p i ≡ false) n (any_false p n z.0) z.1 i (omega arith)

pub none_any : (p : ℕ → Bool) (n : ℕ) → ((i : ℕ) → i < n → p i ≡ false) → any_of n p ≡ false
unfolding any_of
none_any p zero h = refl
none_any p (suc n) h = rw (none_any p n (λ i l. h i (omega arith)), h n (omega arith))

-- the first n elements of a list with their places
any_listed : (p : ℕ → Float → Bool) (xs : List Float) (n : ℕ) → n ≤ length xs → list_any (λ (x : ℕ × Float). p x.0 x.1) (take n (enumerate_from 0 xs)) ≡ any_of n (λ k. p k (get_or xs k nan))
unfolding any_of
any_listed p xs zero h = refl
any_listed p xs (suc n) h =
    let e : suc n ≡ n + 1 = omega arith in
    ap (λ (k : ℕ). list_any (λ (x : ℕ × Float). p x.0 x.1) (take k (enumerate_from 0 xs))) e
    ∙ list_any_more (λ (x : ℕ × Float). p x.0 x.1) (enumerate_from 0 xs) n (0, nan) (simp length-enumerate_from (omega arith))
    ∙ rw (any_listed p xs n (omega arith), get_or-enumerate_from 0 xs n (0, nan) (omega arith), zero-add)

-- all lanes at once
pub broken_all : (wr wi limit : List Float) → length limit ≡ 144
    → list_any (λ (x : ℕ × Float). broken_at (get_or wr x.0 nan) (get_or wi x.0 nan) x.1) (enumerate_from 0 limit) ≡ ruined wr wi limit
unfolding ruined
broken_all wr wi limit e =
    let n : length (enumerate_from 0 limit) ≡ 144 = length-enumerate_from 0 limit ∙ e in
    ap (list_any (λ (x : ℕ × Float). broken_at (get_or wr x.0 nan) (get_or wi x.0 nan) x.1)) (sym (rw n at (take-length (enumerate_from 0 limit))))
    ∙ any_listed (λ k l. broken_at (get_or wr k nan) (get_or wi k nan) l) limit 144 (omega arith)
