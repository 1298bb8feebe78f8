-- What the loops over the lanes ask of a shape.
use Rattle.std.specs.Prelude.{ℕ, ◌%◌, ◌<◌, ◌≤◌, ◌≡◌}

pub record Fits (lanes more quads mquads front m centre : ℕ) : Type 0 where
  pub lanes_fit : lanes ≤ 72
  pub blocks : lanes % 8 ≡ 0
  pub more_fit : more ≤ 72
  pub more_blocks : more % 8 ≡ 0
  pub quads_fit : quads ≤ 72
  pub mquads_fit : mquads ≤ 72
  pub in_front : front < 8
  pub back : m ≤ 63
  pub middle : centre < 72
