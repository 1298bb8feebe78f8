-- A heard sample from what the calls of steps 4 to 7 give, for the plain path and for the runs. Assumes nothing.
use Prim.Native.Nat.{ℕ}
use mathlib.Core.Path.{◌≡◌}
use mathlib.Core.List.{List}
use lib.Ieee.{Float}
use Rattle.types.specs.declared.C32.{C32}
use Rattle.types.specs.declared.CosSin.{CosSin}
use Rattle.types.specs.declared.EqualizeState.{EqualizeState}
use Rattle.definition.specs.Slices.{power}
use Rattle.definition.specs.Phase.{cos_sin}
use Rattle.definition.specs.Points.{decided}
use Rattle.definition.specs.Sample.{mu_of, step_size, update_of, adapted, tracked, hear, heard_as}
use Rattle.steps.specs.declared.Stepped.{Stepped}
use Rattle.steps.specs.declared.Stage.{Stage}
use Rattle.steps.specs.Step.{track_of, update_if, step_at, step_with, heard_of, stage}

module _ (s : EqualizeState) (w h : List Float) (y : C32) (n f : ℕ) where
  pub heard_by : (t : CosSin) (F P size : Float) (r : Stepped) (v : List Float) (k : Stage)
      → F ≡ power h f → P ≡ power h n → size ≡ step_size (mu_of s.mode s.params) P → t ≡ cos_sin s.phase → r ≡ step_with s t y F size
      → v ≡ adapted r.update n f w h → k ≡ heard_of r → stage s k v ≡ heard_as s w n f h (hear s n f h y)
  unfolding step_with step_at decided track_of update_if heard_as hear tracked update_of
  heard_by t F P size r v k p1 p2 p3 p4 p5 p6 p7 = rw (p7, p6, p5, p4, p3, p2, p1)
