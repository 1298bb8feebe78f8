-- `Grid::level`: value and code are those of the level at the floor held to the numbers below k.
use Rattle.std.proofs.Common.{◌≡◌, ◌-◌, slice_index_or}
use Rattle.definition.specs.Points.{held_to, grays}
use Rattle.constellation_qam.proofs.grid.Grid.level.Given as goal

abbrev pub invariant-loop-k : goal.invariant-loop-k
invariant-loop-k g l =
    ((d : _) → l.value ≡ slice_index_or l.self.levels (held_to (l.k - 1) l.t) d) × (l.code ≡ slice_index_or grays (held_to (l.k - 1) l.t) 0)
