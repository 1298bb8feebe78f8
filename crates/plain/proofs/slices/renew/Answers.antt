-- `renew` replaces the weights one by one by the definition's new ones.
-- By an answer: `grind` with the laws of a loop over numbers finds no proof of a turn, the one goal left.
use Prim.Native.Nat.{◌+◌, ◌*◌}
use mathlib.Core.Path.{◌≡◌, ◌∙◌}
use native.Mathlib.Omega.{arith}
use Rattle.definition.specs.Slices.{part, new_re, new_im}
use Rattle.numeric.proofs.Leaves.{kept_tiny}
use Rattle.steps.specs.Weight.{lane_re, lane_im}
use Rattle.definition_laws.proofs.Mapped.{part_even, part_odd}
use Rattle.plain.proofs.Numbers.{stored, still_re, still_im}
use Rattle.plain.proofs.slices.renew.Goals as goal

pub loop-i-preserved : goal.loop-i-preserved
unfolding lane_re lane_im
loop-i-preserved c =
    let m = c.loop-i.invariant in
    let i = c.loop-i.i in
    let u = c.weight-v in
    let R = new_re c.args.g c.args.w.now c.args.x.now in
    let I = new_im c.args.g c.args.w.now c.args.x.now in
    let a : u.result.re ≡ part R I (2 * i) = u.ensures.re ∙ kept_tiny _ ∙ cc (still_re i m, part_even R I i) in
    let b : u.result.im ≡ part R I (2 * i + 1) = u.ensures.im ∙ kept_tiny _ ∙ cc (still_im i m, part_odd R I i) in
    stored i m _ c.put.ensures a b (omega arith)
