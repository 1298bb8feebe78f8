-- `divide` gives the step sizes of the windows from .. to: each turn of its loop sets one of that part.
use lib.Ieee.{nan}
use Prim.Native.Nat.{◌+◌}
use Rattle.definition.specs.Sample.{step_size}
use Rattle.lanes.specs.Between.{Between}
use lib.ListN.{get_or}
use Rattle.lanes_prepare.proofs.divide.Given as goal

abbrev pub invariant-loop-k : goal.invariant-loop-k
invariant-loop-k l = Between (λ i. step_size l.mu (get_or l.power (l.from + i) nan)) 0 l.k l.initial.s-items l.s-items
