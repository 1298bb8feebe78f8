-- The arrays of a run: weights and window, real and imaginary parts apart, and the squares of the window. Feedback lanes from 72 on, their window from 144 on.
use Rattle.std.specs.Prelude.{◌≡◌, List, length, Float}
use Rattle.lanes.specs.declared.Split.{Split}
use Rattle.lanes.specs.declared.Window.{Window}

pub record Arrays : Type 0 where
  -- weights
  pub wr : List Float
  pub wi : List Float
  -- window, and its re² + im²
  pub xr : List Float
  pub xi : List Float
  pub q : List Float

abbrev pub arrays : List Float → List Float → List Float → List Float → List Float → Arrays
arrays wr wi xr xi q = record { wr = wr; wi = wi; xr = xr; xi = xi; q = q }

-- those of the structs
abbrev pub arrays_of : Split 144 → Window → Arrays
arrays_of w h = arrays w.re w.im h.values.re h.values.im h.squares

-- the window's arrays have 288 places
pub record Long (a : Arrays) : Type 0 where
  pub xr : length a.xr ≡ 288
  pub xi : length a.xi ≡ 288
  pub q : length a.q ≡ 288
