-- `powers` gives the powers of the windows from `from` on: each turn of its loop is a tile of sixteen.
use Rattle.std.proofs.Common.{◌≡◌, ◌-◌, ◌%◌, ◌≤◌}
use Rattle.lanes.specs.Between.{Between}
use Rattle.lanes.specs.Powers.{chain_of}
use Rattle.lanes_prepare.proofs.powers.Given as goal

abbrev pub invariant-loop-j : goal.invariant-loop-j
invariant-loop-j l = record {
  most : l.j ≤ 64;
  tiles : l.j % 16 ≡ 0;
  done : Between (λ i. chain_of l.q i l.n) l.from l.j l.initial.power l.power;
}

abbrev pub decreases-loop-j : goal.decreases-loop-j
decreases-loop-j l = 64 - l.j
