-- `add_block` adds eight products to the eight partial sums: each turn of its loop adds one.
use Rattle.lanes_filter.specs.Split.{split_of}
use Rattle.dot.specs.Added.{Added}
use Rattle.lanes_filter.proofs.add_block.Given as goal

abbrev pub invariant-loop-k : goal.invariant-loop-k
invariant-loop-k g l = Added (split_of g.P.Part.product l.t.h.now l.t.w.now l.t.p) l.i l.k l.initial.acc l.acc
