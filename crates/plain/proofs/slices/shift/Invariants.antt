-- `shift` moves the first numbers up by one: the loop replaces them one by one.
use Prim.Native.Nat.{◌+◌, ◌*◌}
use mathlib.Core.Path.{◌≡◌}
use mathlib.Core.List.{◌∷◌}
use lib.ListN.{get_or}
use lib.Ieee.{nan}
use Rattle.definition_laws.proofs.Mapped.{Mapped}
use Rattle.plain.proofs.slices.shift.Given as goal

abbrev pub invariant-loop-i : goal.invariant-loop-i
invariant-loop-i l =
    let v = l.fn.v in
    let x = l.initial.x in
    Mapped (λ q. get_or (v.re ∷ v.im ∷ x) q nan) x (2 * l.i) l.x
    × (l.next.re ≡ get_or (v.re ∷ v.im ∷ x) (2 * l.i) nan)
    × (l.next.im ≡ get_or (v.re ∷ v.im ∷ x) (2 * l.i + 1) nan)
