-- `cleared` clears the lanes: each turn of its loop clears one.
use Rattle.lanes.specs.Between.{Replaced}
use Rattle.lanes_adapt.specs.Steps.{clear_in}
use Rattle.lanes_adapt.proofs.cleared.Given as goal

abbrev pub invariant-loop-k : goal.invariant-loop-k
invariant-loop-k l = Replaced (clear_in l.initial.w l.limit) 0 l.k l.initial.w l.w
