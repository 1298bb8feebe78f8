-- `run` passes over the samples of a run: the loop's record is `RunLoop`.
-- By answers: `grind` opens the records that the laws are about, and stops at a field that is a value, and in a turn at its limit of instances.
use mathlib.Core.Path.{refl}
use native.Mathlib.Omega.{arith}
use Rattle.run_samples.proofs.RunLoop.{loop_none, loop_more, loop_all}
use Rattle.run_samples.proofs.run.Goals as goal

pub loop-k-init : goal.loop-k-init
loop-k-init c = let m = c.requires.marks_len_bound in loop_none _ _ _ _ _ _ _ _ _ _ c.requires.state_value m.0 m.1.0 m.1.1.0 m.1.1.1

pub loop-k-preserved : goal.loop-k-preserved
loop-k-preserved c =
    loop_more _ _ _ _ _ _ _ _ _ _ _ _ _ c.loop-k.invariant _ _ _ _ _ _ (omega (arith, c.loop-k-test.true, c.loop-k.auto.marks)) c.at.ensures.0 c.at.ensures.1 c.from.ensures refl c.sample-r.ensures c.put.ensures

pub returns : goal.returns
returns c = loop_all _ _ _ _ _ _ _ _ _ _ _ _ _ c.loop-k.invariant (omega (arith, c.loop-k-test.false, c.loop-k.auto.marks))
