-- The weights after a lane that is not finite.
use Rattle.std.specs.Prelude.{ℕ, ◌≡◌, Bool, true, false, List, get_or, set, replicate, Float}
use Rattle.std.specs.Float.{nan}
use Rattle.types.specs.Bits.{zero32, one32}
use Rattle.lanes.specs.Between.{Replaced}
use Rattle.lanes_adapt.specs.Steps.{any_of, broken_at, clear_in}

-- whether one of the lanes is a weight that is not finite
unfoldable pub ruined : List Float → List Float → List Float → Bool
ruined wr wi limit = any_of 144 (λ k. broken_at (get_or wr k nan) (get_or wi k nan) (get_or limit k nan))

-- all +0 but 1 at the centre, if one is; else cleared by the limits
pub record Settled (wr wi limit : List Float) (centre : ℕ) (wr' wi' : List Float) : Type 0 where
  pub started : ruined wr wi limit ≡ true → (wr' ≡ set (replicate 144 zero32) centre one32) × (wi' ≡ replicate 144 zero32)
  pub cleared : ruined wr wi limit ≡ false → Replaced (clear_in wr limit) 0 144 wr wr' × Replaced (clear_in wi limit) 0 144 wi wi'
