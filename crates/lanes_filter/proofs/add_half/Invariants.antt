-- `add_half` adds the products of all lanes to the partial sums: each turn of its loop is a block of eight.
use Rattle.std.proofs.Common.{◌≡◌, ◌-◌, ◌%◌, ◌≤◌}
use Rattle.lanes_filter.specs.Split.{split_of, Onto}
use Rattle.lanes_filter.proofs.add_half.Given as goal

abbrev pub invariant-loop-i : goal.invariant-loop-i
invariant-loop-i g l = record {
  most : l.i ≤ l.t.p.lanes;
  blocks : l.i % 8 ≡ 0;
  done : Onto (split_of g.P.Part.product l.t.h.now l.t.w.now l.t.p) l.i l.initial.acc l.acc;
}

abbrev pub decreases-loop-i : goal.decreases-loop-i
decreases-loop-i g l = l.t.p.lanes - l.i
