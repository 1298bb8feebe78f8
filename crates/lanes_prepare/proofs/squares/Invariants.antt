-- `squares` replaces the places from .. to by squares: each turn of its loop sets one.
use Rattle.std.proofs.Common.{◌≡◌}
use Rattle.lanes.specs.Between.{Between}
use Rattle.lanes.specs.Powers.{square_at}
use Rattle.lanes_prepare.proofs.squares.Given as goal

abbrev pub invariant-loop-j : goal.invariant-loop-j
invariant-loop-j l = record {
  squared : Between (square_at l.initial.h.values.re l.initial.h.values.im) l.from l.j l.initial.h.squares l.h.squares;
  values : l.h.values ≡ l.initial.h.values;
}
