-- `run` passes over the samples of a run: the loop's record is `RunLoop`.
use Rattle.lanes.specs.Arrays.{arrays_of}
use Rattle.run_samples.proofs.RunLoop.{RunLoop}
use Rattle.run_samples.proofs.run.Given as goal

abbrev pub invariant-loop-k : goal.invariant-loop-k
invariant-loop-k l =
    RunLoop l.initial.s l.call.shape l.call.limit (arrays_of l.initial.w l.initial.h) l.ahead.power l.ahead.steps l.input (arrays_of l.w l.h) l.output l.marks l.numbers l.s l.k
