-- What the functions inside the crate ask of their slices.
use Rattle.std.specs.Prelude.{◌+◌, ◌*◌, ◌≡◌, List, length, Float}
use Rattle.types.specs.declared.EqualizeState.{EqualizeState}
use Rattle.plain.specs.declared.counts.Taps.{Taps}

-- the weights and the window of a record with these taps: no invariant of a type, since record and slices come one by one, as the specification has them
pub record Beside (s : EqualizeState) (w h : List Float) (t : Taps) : Type 0 where
  pub sum : t.forward + s.params.feedback_taps ≡ t.all
  pub weights : length w ≡ 2 * t.all
  pub window : length h ≡ 2 * t.all
