-- `update_half` steps the lanes of one half and says whether one is not finite: each turn of its loop steps one lane, by the law of that loop.
use Rattle.lanes_adapt.proofs.HalfLoop.{HalfLoop}
use Rattle.lanes_adapt.proofs.update_half.Given as goal

abbrev pub invariant-loop-i : goal.invariant-loop-i
invariant-loop-i l = HalfLoop l.initial.w.re l.initial.w.im l.limit l.h.values.re l.h.values.im l.p.at l.p.from l.g.re l.g.im l.i l.w.re l.w.im l.bad
