-- Steps 4 to 7 as the changed numbers, in the definition's words.
use Rattle.std.specs.Prelude.{ℕ, Bool, cond, not, ◌&&◌, List, Float}
use Rattle.types.specs.declared.C32.{C32}
use Rattle.types.specs.declared.CosSin.{CosSin}
use Rattle.types.specs.declared.Decided.{Decided}
use Rattle.types.specs.declared.EqMode.{EqMode}
use Rattle.types.specs.declared.EqConstellation.{EqConstellation}
use Rattle.types.specs.declared.EqualizeState.{EqualizeState}
use Rattle.types.specs.declared.Mark.{Mark}
use Rattle.types.specs.declared.Mark.TheVariants.{Heard, OffScale}
use Rattle.types.specs.declared.Update.{Update}
use Rattle.types.specs.declared.Update.TheVariants.{Step, Hold}
use Rattle.definition.specs.Floats.{zero_c, finite_c, norm, minus_c, scaled_c}
use Rattle.definition.specs.Phase.{cos_sin}
use Rattle.definition.specs.Points.{decided}
use Rattle.definition.specs.Turns.{derotated}
use Rattle.definition.specs.Packed.{equalizer}
use Rattle.definition.specs.Sample.{Did, with_running, mse_after, error_of, fed_of, live, heard_mark, no_number, numbered, phase_error, freq_after, phase_after, advance}
use Rattle.definition.specs.Sample as sample
use Rattle.steps.specs.declared.Track.{Track}
use Rattle.steps.specs.declared.Aim.{Aim}
use Rattle.steps.specs.declared.Told.{Told}
use Rattle.steps.specs.declared.Stepped.{Stepped}
use Rattle.steps.specs.declared.Stage.{Stage}
use Rattle.steps.specs.declared.Sampled.{Sampled}

-- the running numbers with the mean error mse, after the detector value p
unfoldable pub track_of : EqualizeState → Float → Float → Track
track_of s mse p = record { mse = mse; freq = freq_after s p; phase = phase_after s (freq_after s p) p }

unfoldable pub aimed : EqMode → EqConstellation → CosSin → C32 → C32 → C32 → Aim
aimed mode k t y d e = record { e = error_of mode k y e t; fed = fed_of mode d t }

unfoldable pub update_if : Bool → C32 → Update
update_if b g = cond (b && finite_c g) (Step g.re g.im) Hold

-- the mark of the symbol z, where the forward window is live
unfoldable pub live_mark : C32 → Mark
live_mark z = cond (not (finite_c z)) OffScale Heard

-- what is told of a sample with this mark, whose decision has the number n
abbrev pub told_as : Mark → ℕ → Told
told_as mark n = record { mark = mark; number = numbered mark n }

unfoldable pub live_told : C32 → ℕ → Told
live_told z n = told_as (live_mark z) n

-- steps 4 to 7 with c and s, z and the decision v settled
unfoldable pub step_at : EqualizeState → CosSin → C32 → Float → Float → C32 → Decided → Stepped
step_at s t y F size z v = record {
  track = track_of s (mse_after s.mse (norm (minus_c z v.point))) (phase_error z v.point);
  z = z;
  fed = cond (live F) (fed_of s.mode v.point t) zero_c;
  update = update_if (live F) (scaled_c size (error_of s.mode s.params.constellation y (minus_c z v.point) t));
  told = told_as (heard_mark F z) v.number;
}

-- .. with c and s settled
unfoldable pub step_with : EqualizeState → CosSin → C32 → Float → Float → Stepped
step_with s t y F size = step_at s t y F size (derotated y t) (decided s.params.constellation (derotated y t))

-- steps 4 to 7 by the sum y, the forward power F and the step size
unfoldable pub step_of : EqualizeState → C32 → Float → Float → Stepped
step_of s y F size = step_with s (cos_sin s.phase) y F size

-- ---- how the code's values make up those of the definition

-- the running numbers of the record s
abbrev pub running_of : EqualizeState → Track
running_of s = record { mse = s.mse; freq = s.freq; phase = s.phase }

-- the record with the running numbers t
abbrev pub with_track : EqualizeState → Track → EqualizeState
with_track s t = with_running s s.mode s.count t.mse t.phase t.freq

-- a sample that went through steps 4 to 7, and one that did not
abbrev pub heard_of : Stepped → Stage
heard_of r = record { track = r.track; out = r.z; fed = r.fed; told = r.told }

abbrev pub unheard_of : EqualizeState → Mark → Stage
unheard_of s mark =
    record { track = record { mse = s.mse; freq = s.freq; phase = s.phase }; out = zero_c; fed = zero_c; told = record { mark = mark; number = no_number } }

-- from the record s, beside the weights w
abbrev pub stage : EqualizeState → Stage → List Float → sample.Stage
stage s r w = record { state = with_track s r.track; weights = w; out = r.out; fed = r.fed; mark = r.told.mark; number = r.told.number }

-- what a sample with the stage r gives of the record s, which steps 4 to 7 and then step 8 move on
abbrev pub sampled_of : EqualizeState → Stage → Sampled
sampled_of s r = record { state = advance (with_track s r.track); out = r.out; told = r.told }

-- beside weights w and window h
abbrev pub did : Sampled → List Float → List Float → Did
did r w h = record { equalizer = equalizer r.state w h; out = record { symbol = r.out; mark = r.told.mark; number = r.told.number } }
