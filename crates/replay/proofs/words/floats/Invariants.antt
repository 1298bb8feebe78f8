-- `replay::words::floats` has room for each float: there are as many as the words that were read. Assumes nothing.
use Rattle.std.proofs.Common.{◌≡◌, length}
use Rattle.replay.proofs.words.floats.Given as goal

abbrev pub invariant-loop-w : goal.invariant-loop-w
invariant-loop-w l = length l.x.items ≡ l.w-index
