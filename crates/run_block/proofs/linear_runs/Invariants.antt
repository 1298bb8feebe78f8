-- `linear_runs` passes over a whole block, run after run: the loop's record is `BlockLoop`, the measure what is left of the marks.
use Rattle.std.proofs.Common.{◌-◌, length}
use Rattle.lanes.specs.Arrays.{arrays_of}
use Rattle.run_block.proofs.BlockLoop.{BlockLoop}
use Rattle.run_block.proofs.linear_runs.Given as goal

abbrev pub invariant-loop-i : goal.invariant-loop-i
invariant-loop-i l =
    BlockLoop l.initial.s l.call.shape l.call.n l.call.limit (arrays_of l.initial.w l.initial.h) l.input (arrays_of l.w l.h) l.output l.marks l.numbers l.s l.i

abbrev pub decreases-loop-i : goal.decreases-loop-i
decreases-loop-i l = length l.marks - l.i
