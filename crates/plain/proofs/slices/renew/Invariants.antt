-- `renew` replaces the weights one by one by the definition's new ones.
use Prim.Native.Nat.{◌*◌}
use Rattle.definition.specs.Slices.{part, new_re, new_im}
use Rattle.definition_laws.proofs.Mapped.{Mapped}
use Rattle.plain.proofs.slices.renew.Given as goal

abbrev pub invariant-loop-i : goal.invariant-loop-i
invariant-loop-i l =
    Mapped (part (new_re l.g l.initial.w l.x) (new_im l.g l.initial.w l.x)) l.initial.w (2 * l.i) l.w
