-- The filter sum and the power of a sample's window, in the definition's words.
use Rattle.std.specs.Prelude.{ℕ, ◌+◌, ◌%◌, ◌≡◌, List, Float}
use Rattle.types.specs.declared.C32.{C32}
use Rattle.definition.specs.Slices.{filter_sum, power}
use Rattle.lanes.specs.Arrays.{Arrays}
use Rattle.lanes.specs.Fed.{back_at}
use Rattle.lanes.specs.Holds.{Weights, Window, Squares, LaneCounts}

-- before: the arrays hold the weights w and the window h at `at`, and the power of the forward taps is known
pub record Seen (n m lanes more front quads mquads at : ℕ) (a : Arrays) (forward : Float) (w h : List Float) : Type 0 where
  pub shaped : LaneCounts n m lanes more quads mquads
  pub front_is : front ≡ n % 8
  pub weights : Weights n m a.wr a.wi w
  pub window : Window n m at a.xr a.xi h
  pub squares : Squares a.q (back_at at) h n m
  pub power_is : forward ≡ power h n

pub record Measures (m lanes more front at : ℕ) (a : Arrays) (forward : Float) (y : C32) (all : Float) : Type 0 where
  pub holds : (n quads mquads : ℕ) (w h : List Float) → Seen n m lanes more front quads mquads at a forward w h
      → (y ≡ filter_sum (n + m) h w) × (all ≡ power h (n + m))
