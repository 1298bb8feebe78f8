-- `enter` puts the samples of a run in, newest first: each turn of its loop puts one in, by the law of that loop.
use Rattle.std.proofs.Common.{◌≡◌}
use Rattle.lanes_prepare.proofs.Entry.{Entry}
use Rattle.lanes_prepare.proofs.enter.Given as goal

abbrev pub invariant-loop-k : goal.invariant-loop-k
invariant-loop-k l = record {
  entry : Entry l.input l.initial.h.values.re l.initial.h.values.im l.k l.h.values.re l.h.values.im;
  squares : l.h.squares ≡ l.initial.h.squares;
}
