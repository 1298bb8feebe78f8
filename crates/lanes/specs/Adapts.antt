-- The weights after a sample, in the definition's words: whatever w and h the arrays hold, they hold the weights after the update.
use Rattle.std.specs.Prelude.{ℕ, ◌+◌, ◌/◌, ◌%◌, ◌<◌, ◌≤◌, ◌≡◌, List, Float}
use Rattle.types.specs.declared.Update.{Update}
use Rattle.definition.specs.Sample.{adapted}
use Rattle.lanes.specs.Fed.{back_at}
use Rattle.lanes.specs.Holds.{Weights, Window, Limits}

-- the facts that a caller has
pub record Ready (n m : ℕ) (wr wi limit xr xi : List Float) (at lanes bt more centre : ℕ) (w h : List Float) : Type 0 where
  pub weights : Weights n m wr wi w
  pub window : Window n m at xr xi h
  pub limits : Limits limit 0 0 n
  pub limits' : Limits limit 72 (n % 8) m
  pub some : 3 ≤ n
  pub most : n ≤ 63
  pub most' : m ≤ 63
  pub low : at ≤ 63
  pub early : bt + n % 8 ≡ back_at at
  pub wide : n ≤ lanes
  pub fit : lanes ≤ 72
  pub fit' : more ≤ 72
  pub none : more ≡ 0 → m ≡ 0
  pub wide' : 0 < more → n % 8 + m ≤ more
  pub middle : centre ≡ n / 2

pub record Adapts (u : Update) (wr wi limit xr xi : List Float) (at lanes bt more centre : ℕ) (wr' wi' : List Float) : Type 0 where
  pub holds : (n m : ℕ) (w h : List Float) → Ready n m wr wi limit xr xi at lanes bt more centre w h
      → Weights n m wr' wi' (adapted u (n + m) n w h)
