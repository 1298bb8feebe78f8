-- The samples of a run in the window.
use Rattle.std.specs.Prelude.{ℕ, ◌-◌, ◌/◌, List, length, Float}
use Rattle.types.specs.declared.C32.{C32}
use Rattle.definition.specs.Floats.{complex}
use Rattle.definition.specs.Slices.{re_at, im_at}
use Rattle.definition.specs.Sample.{sanitized}
use Rattle.lanes.specs.Between.{Between}

-- sample k of the input at 63 - k, +0 if it is not finite; all else as it was
abbrev pub entered_at : List Float → ℕ → C32
entered_at x j = sanitized (complex (re_at x (63 - j)) (im_at x (63 - j)))

pub record Entered (x xr xi xr' xi' : List Float) : Type 0 where
  pub re : Between (λ j. (entered_at x j).re) (64 - length x / 2) 64 xr xr'
  pub im : Between (λ j. (entered_at x j).im) (64 - length x / 2) 64 xi xi'
