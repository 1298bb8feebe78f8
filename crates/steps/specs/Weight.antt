-- The parts of a weight w after a step by g·conj(x), +0 below a limit l. Two, since each part starts from one part of w.
use Rattle.std.specs.Prelude.{Float}
use Rattle.definition.specs.Floats.{◌+f◌, ◌-f◌, ◌*f◌}
use Rattle.numeric.specs.Below.{kept_of}

unfoldable pub lane_re : Float → Float → Float → Float → Float → Float → Float
lane_re w l a b gr gi = kept_of (w -f (gr *f a +f gi *f b)) l

unfoldable pub lane_im : Float → Float → Float → Float → Float → Float → Float
lane_im w l a b gr gi = kept_of (w -f (gi *f a -f gr *f b)) l
