-- `new` and `reset`: where the tests are passed, the lengths are what `start_over` asks. Assumes nothing.
use Prim.Native.Nat.{ℕ, ◌*◌, ◌-◌, ◌/◌, ◌%◌, ◌≤◌}
use mathlib.Core.Path.{◌≡◌, sym, ◌∙◌, subst}
use mathlib.Core.Bool.{true, ◌&&◌}
use mathlib.Core.List.{List}
use native.Mathlib.Omega.{arith}
use lib.ListN.{length}
use lib.Dec.{T, eqb, leb, leb→le}
use borrow.Author.Tests.{eqb-true}
use lib.Ieee.{Float}
use Rattle.types.specs.declared.EqParams.{EqParams}
use Rattle.types.specs.declared.EqualizeState.{EqualizeState}
use Rattle.std.specs.Prelude.{Ok}
use Rattle.definition.specs.Refusals.{Outcome}
use Rattle.types.specs.declared.Error.TheVariants.{Odd, Feedback, Taps, Record}
use Rattle.definition.specs.Packed.{equalizer}
use Rattle.definition.specs.Rules.{feedback_fits, taps_fit, rule_r1, rule_r2}
use Rattle.definition.specs.Calls.{even, new_tests, new_verdict, reset_verdict}
use Rattle.std.proofs.lemmas.Bool.{and_parts}
use Rattle.definition_laws.proofs.Verdicts.{fine}

-- ---- new

-- an odd number from 3 to 63 is at least 1
pub fits_some : (n : ℕ) → taps_fit n ≡ true → 3 ≤ n
unfolding taps_fit
fits_some n h = leb→le 3 n (subst T (sym (and_parts (eqb (n % 2) 1) (leb 3 n) (and_parts (eqb (n % 2) 1 && leb 3 n) (leb n 63) h).0).1) tt)

module _ (p : EqParams) (w h : List Float) (v : Outcome) (e : v ≡ new_verdict p (length w) (length h)) where
  -- what `start_over` asks
  pub new_fits : v ≡ (Ok tt)
      → (length w ≡ 2 * (length w / 2)) × ((length h ≡ 2 * (length w / 2)) × (1 ≤ length w / 2 - p.feedback_taps))
  unfolding new_verdict new_tests
  new_fits d =
      let x = fine (even (length w) && even (length h)) Odd _ (sym e ∙ d) in
      let y = fine _ Feedback _ x.1 in
      let z = fine _ Taps _ y.1 in
      let u = fine _ _ _ z.1 in
      let o = and_parts (even (length w)) (even (length h)) x.0 in
      let W : length w % 2 ≡ 0 = eqb-true _ _ o.0 in
      let H : length h % 2 ≡ 0 = eqb-true _ _ o.1 in
      let S : length h / 2 ≡ length w / 2 = eqb-true _ _ u.0 in
      let B : 3 ≤ length w / 2 - p.feedback_taps = fits_some _ z.0 in
      (omega arith, (omega arith, omega arith))

-- ---- reset

module _ (s : EqualizeState) (w h : List Float) (v : Outcome) (p : v ≡ reset_verdict (equalizer s w h)) where
  pub reset_fits : v ≡ (Ok tt)
      → (length w ≡ 2 * (length w / 2)) × ((length h ≡ 2 * (length w / 2)) × (1 ≤ length w / 2 - s.params.feedback_taps))
  unfolding reset_verdict rule_r1
  reset_fits d =
      let x = fine (even (length w) && even (length h)) Odd _ (sym p ∙ d) in
      let y = fine (rule_r1 (equalizer s w h) && rule_r2 s) Record _ x.1 in
      let o = and_parts (even (length w)) (even (length h)) x.0 in
      let r = and_parts (feedback_fits s.params.feedback_taps && taps_fit (length w / 2 - s.params.feedback_taps)) (eqb (length w / 2) (length h / 2)) (and_parts _ _ y.0).0 in
      let t = and_parts (feedback_fits s.params.feedback_taps) (taps_fit (length w / 2 - s.params.feedback_taps)) r.0 in
      let W : length w % 2 ≡ 0 = eqb-true _ _ o.0 in
      let H : length h % 2 ≡ 0 = eqb-true _ _ o.1 in
      let S : length w / 2 ≡ length h / 2 = eqb-true _ _ r.1 in
      let B : 3 ≤ length w / 2 - s.params.feedback_taps = fits_some _ t.1 in
      (omega arith, (omega arith, omega arith))
