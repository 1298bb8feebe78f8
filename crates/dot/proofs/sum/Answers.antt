-- `dot::sum` meets its contract: after b blocks the partial sums of 8 b products. Assumes nothing.
-- By answers: in each goal `grind` with the law stops at its limit of instances.
use mathlib.Core.Path.{◌∙◌}
use native.Mathlib.Omega.{arith}
use Rattle.dot.proofs.Lanes.{lanes_none, lanes_block, lanes_rest}
use Rattle.dot.proofs.sum.Goals as goal

pub loop-b-init : goal.loop-b-init
loop-b-init g c = lanes_none _

pub loop-b-preserved : goal.loop-b-preserved
loop-b-preserved g c = lanes_block _ _ c.loop-b.invariant c.add.ensures

pub returns : goal.returns
returns g c = c.dot_complex_tree.ensures ∙ lanes_rest _ _ _ (omega arith) c.loop-b.invariant c.add-2.ensures
