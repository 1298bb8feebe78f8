-- A loop that goes up over the complex numbers of a slice: one stored, and what was read before it. Assumes nothing.
use Prim.Native.Nat.{ℕ, suc, ◌+◌, ◌*◌, ◌<◌}
use mathlib.Core.Path.{◌≡◌, ◌∙◌}
use mathlib.Core.List.{List, ◌∷◌}
use native.Mathlib.Omega.{arith}
use lib.ListN.{length, get_or, set}
use lib.Ieee.{Float, nan}
use Rattle.types.specs.declared.C32.{C32}
use Rattle.definition.specs.Slices.{re_at, im_at}
use Rattle.definition_laws.proofs.Mapped.{Mapped, mapped-more, mapped-read}

module _ {f : ℕ → Float} {old l : List Float} (i : ℕ) (m : Mapped f old (2 * i) l) where
  pub stored : (v : C32) {to : List Float} → to ≡ set (set l (2 * i) v.re) (2 * i + 1) v.im → v.re ≡ f (2 * i) → v.im ≡ f (2 * i + 1) → 2 * i + 1 < length old → Mapped f old (2 * (i + 1)) to
  stored v d a b h =
      let e : 2 * (i + 1) ≡ 2 * i + 1 + 1 = omega arith in
      rw (e, d) (mapped-more (2 * i + 1) v.im b h (mapped-more (2 * i) v.re a (omega arith) m))

  pub still_re : re_at l i ≡ re_at old i
  still_re = mapped-read (2 * i) (2 * i) nan (omega arith) m

  pub still_im : im_at l i ≡ im_at old i
  still_im = mapped-read (2 * i) (2 * i + 1) nan (omega arith) m

  -- number i of the old list is number i + 1 with one in front
  pub next_re : (v : C32) {r : Float} → r ≡ re_at l i → r ≡ get_or (v.re ∷ v.im ∷ old) (2 * (i + 1)) nan
  next_re v e = let s : 2 * (i + 1) ≡ suc (suc (2 * i)) = omega arith in rw s (e ∙ still_re)

  pub next_im : (v : C32) {r : Float} → r ≡ im_at l i → r ≡ get_or (v.re ∷ v.im ∷ old) (2 * (i + 1) + 1) nan
  next_im v e = let s : 2 * (i + 1) + 1 ≡ suc (suc (2 * i + 1)) = omega arith in rw s (e ∙ still_im)
