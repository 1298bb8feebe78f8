-- `block` passes over the samples of a block: the loop's record is `Turns`.
-- By an answer: `grind` opens the record that the law is about, and does not find that the record is accepted.
use native.Mathlib.Omega.{arith}
use Rattle.plain.proofs.BlockLoop.{turns_more}
use Rattle.plain.proofs.block.Goals as goal

pub loop-i-preserved : goal.loop-i-preserved
loop-i-preserved c = turns_more _ _ _ _ _ _ _ c.loop-i.invariant _ _ _ _ _ _ _ _ _ (omega arith) c.sample-r.ensures c.at-x.ensures.0 c.at-x.ensures.1 c.from.ensures c.put.ensures
