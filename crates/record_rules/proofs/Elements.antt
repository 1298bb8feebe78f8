-- A test of every element: the definition's is the library's. Assumes nothing.
use mathlib.Core.Path.{◌≡◌, refl, ap}
use mathlib.Core.Bool.{Bool, ◌&&◌}
use mathlib.Core.List.{List, [], ◌∷◌}
use lib.Ieee.{Float}
use Rattle.std.specs.List.{list_all}
use Rattle.definition.specs.Slices.{every}

pub every_is : (p : Float → Bool) (x : List Float) → list_all p x ≡ every p x
unfolding every
every_is p [] = refl
every_is p (v ∷ x) = ap (λ (b : Bool). p v && b) (every_is p x)
