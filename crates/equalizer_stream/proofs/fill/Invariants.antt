-- `equalizer_stream::fill` reads no more than there is room for, and ends: each read that goes on takes a byte at least. Assumes nothing.
use Rattle.std.proofs.Common.{◌≡◌, ◌-◌, ◌≤◌, length}
use Rattle.equalizer_stream.proofs.fill.Given as goal

abbrev pub invariant-loop-raw : goal.invariant-loop-raw
invariant-loop-raw l = (l.bytes ≤ length l.raw) × (length l.raw ≡ length l.fn.raw)

abbrev pub decreases-loop-raw : goal.decreases-loop-raw
decreases-loop-raw l = length l.raw - l.bytes
