-- The chain of the power as a fold over a part of the squares. Assumes nothing.
use Prim.Native.Nat.{ℕ, zero, suc, ◌+◌, ◌-◌, ◌≤◌}
use mathlib.Core.Path.{◌≡◌, refl, ◌∙◌, ap}
use mathlib.Core.List.{List}
use native.Mathlib.Omega.{arith}
use lib.ListN.{length, take, drop, length-drop}
use lib.Seq.{get_or-drop}
use lib.Ieee.{Float, nan}
use Rattle.std.specs.List.{fold, slice_range}
use Rattle.std.proofs.lemmas.List.Sums.{fold_more}
use Rattle.definition.specs.Floats.{◌+f◌}
use Rattle.lanes.specs.Powers.{chain_from}

-- n squares from `from` on, added to s in order
chain_fold : (s : Float) (q : List Float) (from n : ℕ) → from + n ≤ length q → fold (λ p v. p +f v) s (take n (drop from q)) ≡ chain_from s q from n
unfolding chain_from
chain_fold s q from zero h = refl
chain_fold s q from (suc n) h =
    let e : suc n ≡ n + 1 = omega arith in
    ap (λ (k : ℕ). fold (λ p v. p +f v) s (take k (drop from q))) e
    ∙ fold_more (λ p v. p +f v) s (drop from q) n nan (simp length-drop (omega arith))
    ∙ rw (chain_fold s q from n (omega arith), get_or-drop from q n nan)

-- the same of the part that the code lends
pub chained : (s : Float) (q : List Float) (from n : ℕ) {p : Float} → from + n ≤ length q → p ≡ fold (λ p v. p +f v) s (slice_range q from (from + n)) → p ≡ chain_from s q from n
chained s q from n h e =
    let k : from + n - from ≡ n = omega arith in
    e ∙ rw k (chain_fold s q from n h)
