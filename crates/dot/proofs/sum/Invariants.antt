-- `dot::sum` meets its contract: after b blocks the partial sums of 8 b products. Assumes nothing.
use Prim.Native.Nat.{◌*◌}
use Rattle.dot.specs.Parts.{product_at}
use Rattle.dot.proofs.Lanes.{Lanes}
use Rattle.dot.proofs.sum.Given as goal

abbrev pub invariant-loop-b : goal.invariant-loop-b
invariant-loop-b g l = Lanes (product_at g.P.Part.product l.t.x.now l.t.w.now) (8 * l.b) l.a
