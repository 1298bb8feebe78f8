-- `joined` stores the lanes from `at` on, and no other: each turn of its loop stores one complex number.
use Rattle.lanes_load.specs.Load.{Joined}
use Rattle.lanes_load.proofs.joined.Given as goal

abbrev pub invariant-loop-i : goal.invariant-loop-i
invariant-loop-i l = Joined l.re l.im l.at l.from l.i l.initial.x l.x
