-- The weights' step on split lanes, by index.
use Rattle.std.specs.Prelude.{ℕ, zero, suc, ◌+◌, Bool, false, cond, ◌&&◌, ◌||◌, List, get_or, Float}
use Rattle.std.specs.Float.{nan}
use Rattle.std.specs.Float.Ieee.{lt, ne}
use Rattle.types.specs.Bits.{zero32, one32}
use Rattle.definition.specs.Floats.{◌-f◌}
pub use Rattle.lanes.specs.Between.{Replaced}
unfoldable pub use Rattle.steps.specs.Weight.{lane_re, lane_im}

unfoldable pub uneven : Float → Float → Bool
uneven r m = ne (r -f r) (m -f m)

unfoldable pub broken_at : Float → Float → Float → Bool
broken_at r m l = lt l one32 && uneven r m

unfoldable pub clear_of : Float → Float → Float
clear_of v l = cond (lt one32 l) zero32 v

-- whether p holds of one of 0 .. n - 1
unfoldable pub any_of : ℕ → (ℕ → Bool) → Bool
any_of zero p = false
any_of (suc n) p = any_of n p || p n

-- lane o + i of a step
abbrev pub step_re : List Float → List Float → List Float → List Float → ℕ → ℕ → Float → Float → ℕ → Float
step_re w limit xr xi at o gr gi i = lane_re (get_or w (o + i) nan) (get_or limit (o + i) nan) (get_or xr (at + i) nan) (get_or xi (at + i) nan) gr gi

abbrev pub step_im : List Float → List Float → List Float → List Float → ℕ → ℕ → Float → Float → ℕ → Float
step_im w limit xr xi at o gr gi i = lane_im (get_or w (o + i) nan) (get_or limit (o + i) nan) (get_or xr (at + i) nan) (get_or xi (at + i) nan) gr gi

-- lane i cleared
abbrev pub clear_in : List Float → List Float → ℕ → Float
clear_in w limit i = clear_of (get_or w i nan) (get_or limit i nan)
