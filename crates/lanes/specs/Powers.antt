-- The window's squares and their sums, by index.
use Rattle.std.specs.Prelude.{ℕ, zero, suc, ◌+◌, List, get_or, Float}
use Rattle.std.specs.Float.{nan}
use Rattle.types.specs.Bits.{zero32}
use Rattle.definition.specs.Floats.{◌+f◌, ◌*f◌}

abbrev pub square_at : List Float → List Float → ℕ → Float
square_at xr xi j = get_or xr j nan *f get_or xr j nan +f get_or xi j nan *f get_or xi j nan

-- s + q[from] + q[from + 1] .., n of them in order
unfoldable pub chain_from : Float → List Float → ℕ → ℕ → Float
chain_from s q from zero = s
chain_from s q from (suc n) = chain_from s q from n +f get_or q (from + n) nan

abbrev pub chain_of : List Float → ℕ → ℕ → Float
chain_of q from n = chain_from zero32 q from n
