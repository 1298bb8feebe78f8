-- ONE SAMPLE, steps 1 to 8 of document 01. Throughout: s is the record, w the weights, h the window, n the number of all taps, f of the forward
-- taps, m of the feedback taps.
use Rattle.std.specs.Prelude.{ℕ, ◌+◌, ◌-◌, ◌*◌, ◌/◌, ◌%◌, ◌^◌, Bool, cond, not, ◌&&◌, List, ◌++◌, take, drop, eqb, ltb, Float}
use Rattle.std.specs.Float.Ieee.{eq}
use Rattle.std.specs.Float.Ieee.Scale.{finite}
use Rattle.types.specs.declared.C32.{C32}
use Rattle.types.specs.declared.CosSin.{CosSin}
use Rattle.types.specs.declared.EqMode.{EqMode}
use Rattle.types.specs.declared.EqMode.TheVariants.{Cma, Decision}
use Rattle.types.specs.declared.EqConstellation.{EqConstellation}
use Rattle.types.specs.declared.EqParams.{EqParams}
use Rattle.types.specs.declared.EqualizeState.{EqualizeState}
use Rattle.types.specs.declared.Mark.{Mark}
use Rattle.types.specs.declared.Mark.TheVariants.{Heard, Blank, Spilled, Silent, OffScale}
use Rattle.types.specs.declared.Update.{Update}
use Rattle.types.specs.declared.Update.TheVariants.{Step, Hold}
use Rattle.types.specs.Bits.{zero32, one32}
use Rattle.definition.specs.Floats.{◌+f◌, ◌-f◌, ◌*f◌, ◌/f◌, nlms_eps, mse_alpha, max_freq, flush, clip, complex, zero_c, finite_c, norm, minus_c, scaled_c, clip_c}
use Rattle.definition.specs.Slices.{complex_length, every, shifted, filter_sum, power, updated, start_weights}
use Rattle.definition.specs.Phase.{cos_sin, phase_step}
use Rattle.definition.specs.Points.{decide, number_of, radius}
use Rattle.definition.specs.Turns.{derotated, rotated}

-- ---- what a caller holds

-- The record, and what the slices of weights and window hold: this is carried from sample to sample, and from call to call.
pub record Equalizer : Type 0 where
  pub state : EqualizeState
  pub weights : List Float
  pub window : List Float

-- all taps; the feedback taps; the forward taps, which come first in both slices
abbrev pub all_taps : Equalizer → ℕ
all_taps q = complex_length q.weights

abbrev pub feedback : Equalizer → ℕ
feedback q = q.state.params.feedback_taps

abbrev pub forward : Equalizer → ℕ
forward q = all_taps q - feedback q

-- `cma_symbols` for never to switch to Decision
abbrev pub never_switch : ℕ
never_switch = 4294967295

-- the record with other running numbers: mode, count, mean error, phase, freq
abbrev pub with_running : EqualizeState → EqMode → ℕ → Float → ℕ → Float → EqualizeState
with_running s md n e p v = record { params = s.params; kp = s.kp; ki = s.ki; mode = md; count = n; mse = e; phase = p; freq = v }

-- ---- Step 1. Shift the forward window; store x, or (0, 0) if x is not finite.
unfoldable pub sanitized : C32 → C32
sanitized x = cond (finite_c x) x zero_c

unfoldable pub step1 : ℕ → C32 → List Float → List Float
step1 f x h = shifted f (sanitized x) h

-- ---- Step 2. y is the sum of weight times window over all taps.
unfoldable pub step2 : ℕ → List Float → List Float → C32
step2 n w h = filter_sum n h w

-- ---- Step 4. If pe is finite, `mse` becomes flush(`mse` + 0.01·(pe − `mse`)).
unfoldable pub mse_after : Float → Float → Float
mse_after mse pe = cond (finite pe) (flush (mse +f mse_alpha *f (pe -f mse))) mse

-- ---- Step 5. The error e and the fed-back sample, by the mode.

-- Godard's constant modulus error: y·(|y|² − R2) by parts
unfoldable pub godard_error : C32 → Float → C32
godard_error y r2 = complex (y.re *f (norm y -f r2)) (y.im *f (norm y -f r2))

-- Cma: Godard's error, each part clipped to ±1. Decision: ed turned by c and s.
unfoldable pub error_of : EqMode → EqConstellation → C32 → C32 → CosSin → C32
error_of Cma k y ed t = clip_c (godard_error y (radius k)) one32
error_of Decision k y ed t = rotated ed t

-- Cma: (0, 0). Decision: d turned by c and s.
unfoldable pub fed_of : EqMode → C32 → CosSin → C32
fed_of Cma d t = zero_c
fed_of Decision d t = rotated d t

-- ---- Step 6. g = (mu / (P + 1e-6))·e, mu of the mode.
abbrev pub mu_of : EqMode → EqParams → Float
mu_of Cma p = p.mu_cma
mu_of Decision p = p.mu_dd

unfoldable pub step_size : Float → Float → Float
step_size mu P = mu /f (P +f nlms_eps)

-- F is not 0: the forward window holds something
unfoldable pub live : Float → Bool
live F = not (eq F zero32)

-- an update is a step with two floats, where F is not 0 and g is finite, or none
unfoldable pub update_of : Float → C32 → Update
update_of F g = cond (live F && finite_c g) (Step g.re g.im) Hold

-- Each weight becomes flush(w − g·conj(window)) by parts; one weight not finite resets them all as `new` does.
unfoldable pub reset_unless : Bool → ℕ → ℕ → List Float → List Float
reset_unless fine n f w = cond fine w (start_weights n (f / 2))

unfoldable pub adapted : Update → ℕ → ℕ → List Float → List Float → List Float
adapted Hold n f w h = w
adapted (Step gr gi) n f w h =
    let v = updated n (complex gr gi) w h in
    reset_unless (every finite v) n f v

-- ---- Step 7. pd = z.im·d.re − z.re·d.im, or 0 if not finite.
unfoldable pub phase_error : C32 → C32 → Float
phase_error z d = let v = z.im *f d.re -f z.re *f d.im in cond (finite v) v zero32

-- freq becomes flush and clip of freq + ki·pd to 0.125
unfoldable pub freq_after : EqualizeState → Float → Float
freq_after s pd = clip (flush (s.freq +f s.ki *f pd)) max_freq

-- then phase advances by the step of freq + kp·pd and wraps on purpose
unfoldable pub phase_after : EqualizeState → Float → Float → ℕ
phase_after s freq pd = (s.phase + phase_step (freq +f s.kp *f pd)) % 2 ^ 32

-- ---- The mark. "Marks are tried in the order 1, 2, 3, 4. Mark 0 means none of these."

-- "Mark 3, silent, is given where sample and y are finite and the forward power F is 0. Mark 4, off scale, is given where z has a part that is not
-- finite." F is 0 where step 6 has no update: by the float, and not by the samples, whose squares may be too small for one.
unfoldable pub heard_mark : Float → C32 → Mark
heard_mark F z = cond (not (live F)) Silent (cond (not (finite_c z)) OffScale Heard)

-- of any sample x: before these 1, blank, where x is not finite, and 2, spilled, where y is not
unfoldable pub mark_by : C32 → C32 → Float → C32 → Mark
mark_by x y F z = cond (not (finite_c x)) Blank (cond (not (finite_c y)) Spilled (heard_mark F z))

-- ---- The number. "One per sample, 255 where the mark isn't 0."

abbrev pub no_number : ℕ
no_number = 255

unfoldable pub numbered : Mark → ℕ → ℕ
numbered Heard n = n
numbered Blank n = no_number
numbered Spilled n = no_number
numbered Silent n = no_number
numbered OffScale n = no_number

-- ---- Steps 4 to 7 put together, for a finite sample and a finite y, by document 01's letters

pub record Letters : Type 0 where
  -- c and s, of the phase
  pub turn : CosSin
  -- the output
  pub z : C32
  -- the decision, its number, and what is left of z
  pub d : C32
  pub number : ℕ
  pub ed : C32
  pub pe : Float
  -- the error of the mode
  pub e : C32
  -- the window power over all taps, and over the forward taps
  pub P : Float
  pub F : Float
  pub g : C32
  pub pd : Float

unfoldable pub hear : EqualizeState → ℕ → ℕ → List Float → C32 → Letters
hear s n f h y =
    let t = cos_sin s.phase in
    let z = derotated y t in
    let d = decide s.params.constellation z in
    let ed = minus_c z d in
    let e = error_of s.mode s.params.constellation y ed t in
    let P = power h n in
    record {
      turn = t;
      z = z;
      d = d;
      number = number_of s.params.constellation z;
      ed = ed;
      pe = norm ed;
      e = e;
      P = P;
      F = power h f;
      g = scaled_c (step_size (mu_of s.mode s.params) P) e;
      pd = phase_error z d;
    }

-- what step 8 starts from: record and weights after steps 4 to 7, the output, the fed-back sample, the mark, the number
pub record Stage : Type 0 where
  pub state : EqualizeState
  pub weights : List Float
  pub out : C32
  pub fed : C32
  pub mark : Mark
  pub number : ℕ

unfoldable pub tracked : EqualizeState → Float → Float → EqualizeState
tracked s pe pd = with_running s s.mode s.count (mse_after s.mse pe) (phase_after s (freq_after s pd) pd) (freq_after s pd)

-- If F is 0, nothing adapts and (0, 0) is fed back. Marks 3 and 4 skip nothing.
unfoldable pub heard_as : EqualizeState → List Float → ℕ → ℕ → List Float → Letters → Stage
heard_as s w n f h v = record {
  state = tracked s v.pe v.pd;
  weights = adapted (update_of v.F v.g) n f w h;
  out = v.z;
  fed = cond (live v.F) (fed_of s.mode v.d v.turn) zero_c;
  mark = heard_mark v.F v.z;
  number = numbered (heard_mark v.F v.z) v.number;
}

-- ---- Step 3. If x or y is not finite: output (0, 0), fed-back sample (0, 0), go to 8.
abbrev pub passed_by : EqualizeState → List Float → Mark → Stage
passed_by s w mark = record { state = s; weights = w; out = zero_c; fed = zero_c; mark = mark; number = no_number }

unfoldable pub step3 : EqualizeState → List Float → ℕ → ℕ → C32 → List Float → C32 → Stage
step3 s w n f x h y =
    cond (finite_c x) (cond (finite_c y) (heard_as s w n f h (hear s n f h y)) (passed_by s w Spilled)) (passed_by s w Blank)

-- ---- Step 8. Shift the fed-back sample into the feedback window.
unfoldable pub fed_in : ℕ → ℕ → C32 → List Float → List Float
fed_in f m v h = take (2 * f) h ++ shifted m v (drop (2 * f) h)

-- In Cma, unless `cma_symbols` is 4,294,967,295, count rises by 1 and mode becomes Decision once it reaches `cma_symbols`. Blanks count too.
abbrev pub with_mode : EqualizeState → EqMode → ℕ → EqualizeState
with_mode s md n = with_running s md n s.mse s.phase s.freq

unfoldable pub advance_in : EqMode → EqualizeState → EqualizeState
advance_in Decision s = s
advance_in Cma s =
    cond (eqb s.params.cma_symbols never_switch) s
    (with_mode s (cond (ltb (s.count + 1) s.params.cma_symbols) Cma Decision) (s.count + 1))

unfoldable pub advance : EqualizeState → EqualizeState
advance s = advance_in s.mode s

-- ---- what a sample gives, and what it leaves

pub record Out : Type 0 where
  pub symbol : C32
  pub mark : Mark
  pub number : ℕ

pub record Did : Type 0 where
  pub equalizer : Equalizer
  pub out : Out

unfoldable pub step8 : ℕ → ℕ → List Float → Stage → Did
step8 f m h t = record {
  equalizer = record { state = advance t.state; weights = t.weights; window = fed_in f m t.fed h };
  out = record { symbol = t.out; mark = t.mark; number = t.number };
}

-- Steps 1 to 8.
unfoldable pub sample_def : Equalizer → C32 → Did
sample_def q x =
    let n = all_taps q in
    let f = forward q in
    let h = step1 f x q.window in
    step8 f (feedback q) h (step3 q.state q.weights n f x h (step2 n q.weights h))
