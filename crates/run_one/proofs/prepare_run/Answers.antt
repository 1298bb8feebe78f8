-- `prepare_run` puts a run's samples in and makes what depends on them alone: its four calls, joined by `prepared`.
-- By an answer: `grind` with the law stops at its limit of case splits.
use Rattle.run_one.proofs.Start.{prepared}
use native.Mathlib.Omega.{arith}
use Rattle.run_one.proofs.prepare_run.Goals as goal

pub returns : goal.returns
returns c =
    let made = prepared _ _ _ _ _ _ _ _ _ _ _ _ _ (omega arith) c.enter.ensures.entered (rw c.enter.ensures.squares at c.squares.ensures.squared) c.powers.ensures c.sizes.ensures.sizes in
    rw (c.squares.ensures.values, c.sizes.ensures.power) made
