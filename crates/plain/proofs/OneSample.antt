-- One sample: the pieces put together. Assumes nothing.
use Prim.Native.Nat.{◌-◌, ◌*◌, ◌/◌, ◌≤◌, min}
use mathlib.Core.Path.{◌≡◌, refl, ◌∙◌}
use mathlib.Core.Bool.{Bool, true, false}
use mathlib.Core.List.{List}
use native.Mathlib.Omega.{arith}
use lib.ListN.{length}
use lib.Ieee.{Float}
use Rattle.types.specs.declared.C32.{C32}
use Rattle.types.specs.declared.EqualizeState.{EqualizeState}
use Rattle.types.specs.declared.Mark.TheVariants.{Blank, Spilled}
use Rattle.types.specs.Bits.{zero32}
use Rattle.definition.specs.Floats.{finite_c}
use Rattle.definition.specs.Slices.{dot_complex, power}
use Rattle.definition.specs.Packed.{equalizer}
use Rattle.definition.specs.Sample.{step2, mu_of, step_size, update_of, adapted, tracked, hear, heard_as, step3}
use Rattle.definition.specs.Sample as sample
use Rattle.definition.specs.Rules.{rule_r4, accepted_def}
use Rattle.definition_laws.proofs.Accept.{Accepted, accepted_is, shape}
use Rattle.definition_laws.proofs.Accept as accept
use Rattle.plain.specs.declared.counts.Taps.{Taps}
use Rattle.plain.specs.Taps.{Beside}
use Rattle.steps.specs.declared.Stage.{Stage}
use Rattle.steps.specs.Step.{unheard_of, stage}
pub use Rattle.steps.proofs.Heard.{heard_by}

-- ---- steps 4 to 7

pub power_none : (x : List Float) → zero32 ≡ power x 0
unfolding power
power_none x = refl

-- ---- steps 2 and 3

module _ (s : EqualizeState) (w h : List Float) (x : C32) (t : Taps) (g : Beside s w h t) (b : Bool) (p : b ≡ finite_c x) where
  pub took_blank : b ≡ false → (r : Stage) → r ≡ unheard_of s Blank → stage s r w ≡ step3 s w t.all t.forward x h (step2 t.all w h)
  unfolding step3
  took_blank e r k = rw (← p, e, k)

  module _ (e : b ≡ true) (y : C32) (q : y ≡ dot_complex h w) (c : Bool) (o : c ≡ finite_c y) where
    sum_is : y ≡ step2 t.all w h
    unfolding dot_complex step2
    sum_is = let n : min (length h / 2) (length w / 2) ≡ t.all = omega (arith, g.weights, g.window) in q ∙ rw n

    pub took_spilled : c ≡ false → (r : Stage) → r ≡ unheard_of s Spilled → stage s r w ≡ step3 s w t.all t.forward x h (step2 t.all w h)
    unfolding step3
    took_spilled i r k = rw (← p, e, ← sum_is, ← o, i, k)

    pub took_heard : c ≡ true → (k : sample.Stage) → k ≡ heard_as s w t.all t.forward h (hear s t.all t.forward h y) → k ≡ step3 s w t.all t.forward x h (step2 t.all w h)
    unfolding step3
    took_heard i k j = rw (← p, e, ← sum_is, ← o, i) j

-- ---- the whole sample

-- the taps, as the definition counts them
pub counted : (s : EqualizeState) (w h : List Float) (t : Taps) → Beside s w h t
    → let m = s.params.feedback_taps in (length w / 2 ≡ t.all) × ((length w / 2 - m ≡ t.forward) × (t.all - t.forward ≡ m))
counted s w h t z = (omega (arith, z.weights), (omega (arith, z.weights, z.sum), omega (arith, z.sum)))

module _ (s : EqualizeState) (w h : List Float) (t : accepted_def (equalizer s w h) ≡ true) where
  accepted : Accepted (equalizer s w h)
  accepted = accepted_is (equalizer s w h) t

  pub accepted_taps : let n = length w / 2 in let m = s.params.feedback_taps in
      (m ≤ n) × ((3 ≤ n - m) × ((n - m ≤ 63) × ((m ≤ 63) × ((length w ≡ 2 * n) × (length h ≡ 2 * n)))))
  accepted_taps = let t = shape (equalizer s w h) accepted in (omega (arith, t.sum, t.some), (t.some, (t.most, (t.back, (t.weights, t.window)))))

  pub accepted_r4 : rule_r4 s ≡ true
  accepted_r4 = accept.accepted_r4 (equalizer s w h) t
