-- `cf32::bytes` leaves what the definition says: the bytes of the floats up to k are written, and the rest of the pass is the definition's. Assumes nothing.
use Prim.Native.Nat.{◌*◌}
use mathlib.Core.Path.{◌≡◌}
use mathlib.Core.List.{◌++◌}
use lib.ListN.{length, take, drop}
use Rattle.cf32.specs.Bytes.{write_over}
use Rattle.cf32.proofs.bytes.Given as goal

abbrev pub invariant-loop-k : goal.invariant-loop-k
invariant-loop-k l = (length l.b ≡ length l.fn.b) × (write_over l.fn.x l.fn.b ≡ take (4 * l.k) l.b ++ write_over (drop l.k l.fn.x) (drop (4 * l.k) l.b))
