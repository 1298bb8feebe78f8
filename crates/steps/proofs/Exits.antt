-- Steps 4 to 7 from what the calls give. Assumes nothing.
use Rattle.std.proofs.Common.{◌≡◌, true, false}
use lib.Ieee.{Float, eq}
use Rattle.types.specs.declared.C32.{C32}
use Rattle.types.specs.declared.CosSin.{CosSin}
use Rattle.types.specs.declared.Decided.{Decided}
use Rattle.types.specs.declared.EqualizeState.{EqualizeState}
use Rattle.types.specs.declared.Mark.TheVariants.{Silent}
use Rattle.types.specs.declared.Update.{Update}
use Rattle.types.specs.declared.Update.TheVariants.{Hold}
use Rattle.types.specs.Bits.{zero32}
use Rattle.definition.specs.Floats.{◌-f◌, zero_c, norm, complex, minus_c, scaled_c}
use Rattle.definition.specs.Points.{decided}
use Rattle.definition.specs.Turns.{derotated}
use Rattle.definition.specs.Sample.{mse_after, live, heard_mark, no_number, numbered, phase_error}
use Rattle.steps.specs.declared.Aim.{Aim}
use Rattle.steps.specs.declared.Track.{Track}
use Rattle.steps.specs.declared.Told.{Told}
use Rattle.steps.specs.declared.Stepped.{Stepped}
use Rattle.steps.specs.Step.{track_of, aimed, update_if, live_mark, live_told, step_at, step_with}

module _ (s : EqualizeState) (t : CosSin) (y : C32) (F m : Float) (z : C32) (v : Decided) (r : Track)
    (p1 : z ≡ derotated y t) (p2 : v ≡ decided s.params.constellation z)
    (p3 : r ≡ track_of s (mse_after s.mse (norm (complex (z.re -f v.point.re) (z.im -f v.point.im)))) (phase_error z v.point)) where
  pub step_silent : eq F zero32 ≡ true → ◌≡◌ {A = Stepped} (record { track = r; z = z; fed = zero_c; update = Hold; told = record { mark = Silent; number = no_number } }) (step_with s t y F m)
  unfolding step_with step_at minus_c live heard_mark numbered update_if
  step_silent e = rw (e, p3, p2, p1)

  pub step_live : eq F zero32 ≡ false → (a : Aim) (u : Update) (k : Told) → a ≡ aimed s.mode s.params.constellation t y v.point (complex (z.re -f v.point.re) (z.im -f v.point.im))
      → u ≡ update_if true (scaled_c m a.e) → k ≡ live_told z v.number → ◌≡◌ {A = Stepped} (record { track = r; z = z; fed = a.fed; update = u; told = k }) (step_with s t y F m)
  unfolding step_with step_at aimed minus_c live heard_mark live_mark live_told update_if
  step_live e a u k p4 p5 p6 = rw (e, p6, p5, p4, p3, p2, p1)
