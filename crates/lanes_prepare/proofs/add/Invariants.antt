-- `add` adds N values to N sums: each turn of its loop adds one.
use lib.Ieee.{nan}
use Rattle.dot.specs.Added.{Added}
use lib.ListN.{get_or}
use Rattle.lanes_prepare.proofs.add.Given as goal

abbrev pub invariant-loop-k : goal.invariant-loop-k
invariant-loop-k g l = Added (λ i. get_or l.q i nan) 0 l.k l.initial.acc l.acc
