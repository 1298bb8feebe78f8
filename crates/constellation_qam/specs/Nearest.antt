-- The level nearest to a part of a number, by a grid.
use Rattle.std.specs.Prelude.{ℕ, ◌+◌, ◌-◌, ◌*◌, List, slice_index_or, get_or, Float}
use Rattle.std.specs.Float.{nan}
use Rattle.definition.specs.Floats.{◌+f◌, ◌*f◌}
use Rattle.types.specs.declared.C32.{C32}
use Rattle.definition.specs.Points.{held_to, grays}
use Rattle.constellation_qam.specs.declared.grid.Grid.{Grid}

-- the index among m levels of the one nearest to v, which lies at v * scale + half on the grid of whole numbers: its floor, held to 0 .. m - 1
abbrev pub nearest : ℕ → Float → Float → Float → ℕ
nearest m scale half v = held_to (m - 1) (v *f scale +f half)

-- that level
abbrev pub level_near : ℕ → List Float → Float → Float → Float → Float
level_near m levels scale half v = slice_index_or levels (nearest m scale half v) nan

-- that level of a grid
abbrev pub level_on : (m : ℕ) → Grid m → Float → Float
level_on m g v = level_near m g.levels g.scale g.half v

-- the Gray code of that level
abbrev pub code_on : (m : ℕ) → Grid m → Float → ℕ
code_on m g v = get_or grays (nearest m g.scale g.half v) 0

-- the number of the point nearest to y
abbrev pub number_on : (m : ℕ) → Grid m → C32 → ℕ
number_on m g y = code_on m g y.re * m + code_on m g y.im
