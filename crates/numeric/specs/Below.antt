-- What is left of a number below a limit.
use Rattle.std.specs.Prelude.{cond, ◌&&◌, Float}
use Rattle.std.specs.Float.Ieee.{lt, neg}
use Rattle.types.specs.Bits.{zero32}

-- +0 where v is below l in magnitude, by two tests: with the limit `tiny` that is the definition's `flush`, which asks for |v|
unfoldable pub kept_of : Float → Float → Float
kept_of v l = cond (lt v l && lt (neg l) v) zero32 v
