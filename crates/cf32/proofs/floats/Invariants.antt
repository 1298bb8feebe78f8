-- `cf32::floats` leaves what the definition says: the floats up to i are read, and the rest of the pass is the definition's. Assumes nothing.
use Prim.Native.Nat.{◌*◌}
use mathlib.Core.Path.{◌≡◌}
use mathlib.Core.List.{◌++◌}
use lib.ListN.{length, take, drop}
use Rattle.cf32.specs.Bytes.{read_into}
use Rattle.cf32.proofs.floats.Given as goal

abbrev pub invariant-loop-i : goal.invariant-loop-i
invariant-loop-i l =
    (length l.v-items ≡ l.n)
    × (read_into l.b l.fn.x ≡ take l.i (l.v-items ++ drop l.n l.fn.x) ++ read_into (drop (4 * l.i) l.b) (drop l.i (l.v-items ++ drop l.n l.fn.x)))
