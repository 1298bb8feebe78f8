-- `split` fills the lanes from `at` on, and no other: each turn of its loop replaces one place in either array.
use Prim.Native.Nat.{◌+◌}
use Rattle.definition.specs.Slices.{re_at, im_at}
use Rattle.lanes.specs.Between.{Replaced}
use Rattle.lanes_load.proofs.split.Given as goal

abbrev pub invariant-loop-i : goal.invariant-loop-i
invariant-loop-i l = Replaced (λ k. re_at l.x (l.from + k)) l.at l.i l.initial.re l.re × Replaced (λ k. im_at l.x (l.from + k)) l.at l.i l.initial.im l.im
