-- `dot::add` meets its contract: after k turns min k m products are added. Assumes nothing.
use Prim.Native.Nat.{min}
use Rattle.dot.specs.Parts.{product_at}
use Rattle.dot.specs.Added.{Added}
use Rattle.dot.proofs.add.Given as goal

abbrev pub invariant-loop-k : goal.invariant-loop-k
invariant-loop-k g l = Added (product_at g.P.Part.product l.t.x.now l.t.w.now) l.i (min l.k l.m) l.initial.a l.a
