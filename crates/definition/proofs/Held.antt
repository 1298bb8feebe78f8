-- A floor held to 0 .. top is top at most. Assumes nothing.
use mathlib.Core.Bool.{true, false}
use Prim.Native.Nat.{ℕ, ◌*◌, ◌/◌, ◌≤◌}
use native.Mathlib.Nat.{le_refl, min-le_left}
use native.Mathlib.Omega.{arith}
use lib.Ieee.{Float, nan, inf, fin, up, down}
use Rattle.definition.specs.Points.{held_to}

pub held_le : (top : ℕ) (t : Float) → held_to top t ≤ top
unfolding held_to
held_le top nan = omega arith
held_le top (inf true) = omega arith
held_le top (inf false) = le_refl top
held_le top (fin true m e) = omega arith
held_le top (fin false m e) = min-le_left top (m * up e / down e)
