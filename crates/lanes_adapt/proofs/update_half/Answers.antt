-- `update_half` steps the lanes of one half and says whether one is not finite: each turn of its loop steps one lane, by the law of that loop.
-- By an answer: `grind` opens the record that the law is about, and does not find its parts.
use Rattle.lanes_adapt.proofs.HalfLoop.{half_more}
use native.Mathlib.Omega.{arith}
use Rattle.lanes_adapt.proofs.update_half.Goals as goal

pub loop-i-preserved : goal.loop-i-preserved
loop-i-preserved c =
    let re = rw (c.at.ensures, c.at-in-loop-i.ensures) at c.weight-v.ensures.re in
    let im = rw (c.at.ensures, c.at-in-loop-i.ensures) at c.weight-v.ensures.im in
    rw (c.put.ensures.re, c.put.ensures.im) (half_more _ _ _ _ _ _ _ _ _ _ _ _ _ _ _ _ c.loop-i.invariant (omega (arith, c.args.p.within, c.put.ensures.long.0)) (omega (arith, c.args.p.within, c.put.ensures.long.1)) re im c.apart-bad.ensures)
