-- `block` passes over the samples of a block: the loop's record is `Turns`.
use Rattle.definition.specs.Packed.{equalizer}
use Rattle.plain.proofs.BlockLoop.{Turns}
use Rattle.plain.proofs.block.Given as goal

abbrev pub invariant-loop-i : goal.invariant-loop-i
invariant-loop-i l =
    Turns (equalizer l.initial.s l.initial.weights l.initial.window) l.input (equalizer l.s l.weights l.window) l.output l.marks l.numbers l.i
