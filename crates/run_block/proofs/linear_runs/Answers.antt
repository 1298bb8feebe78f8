-- `linear_runs` passes over a whole block, run after run: the loop's record is `BlockLoop`.
-- By an answer: `grind` opens the record that the law is about, and stops at a field that is a value.
use native.Mathlib.Omega.{arith}
use Rattle.run_block.proofs.BlockLoop.{loop_more}
use Rattle.run_block.proofs.linear_runs.Goals as goal

pub loop-i-preserved : goal.loop-i-preserved
loop-i-preserved c =
    loop_more _ _ _ _ _ _ _ _ _ _ _ _ c.loop-i.invariant _ _ _ _ _ _ (omega (arith, c.loop-i-test.true, c.loop-i.auto.marks)) (omega (arith, c.min-e.ensures, c.loop-i.auto.marks)) c.run-s.auto.output c.run-s.auto.marks c.run-s.auto.numbers c.run-s.ensures
