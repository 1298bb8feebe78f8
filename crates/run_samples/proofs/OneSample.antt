-- One sample on the arrays: the exits of its functions. Assumes nothing.
use Prim.Native.Nat.{ℕ, ◌+◌, ◌-◌, ◌≤◌}
use mathlib.Core.Path.{◌≡◌, refl, sym, ◌∙◌, ap, subst}
use mathlib.Core.Bool.{Bool, true, false, cond}
use mathlib.Core.List.{List}
use native.Mathlib.Omega.{arith}
use native.Mathlib.Decide.{ℕ_discrete}
use borrow.Author.Tests.{eq-eqb, ne_eqb}
use lib.ListN.{set}
use lib.Dec.{T, eqb, ltb}
use lib.Seq.{get_or-set_other}
use lib.Ieee.{Float, nan}
use lib.Ieee.Bits.{is_true}
use Rattle.types.specs.declared.C32.{C32}
use Rattle.types.specs.declared.EqMode.{EqMode}
use Rattle.types.specs.declared.EqMode.TheVariants.{Cma, Decision}
use Rattle.types.specs.declared.EqualizeState.{EqualizeState}
use Rattle.types.specs.declared.Mark.TheVariants.{Blank, Spilled}
use Rattle.types.specs.declared.Update.{Update}
use Rattle.types.specs.declared.Update.TheVariants.{Hold}
use Rattle.definition.specs.Floats.{norm, finite_c}
use Rattle.definition.specs.Slices.{power}
use Rattle.definition.specs.Packed.{equalizer}
use Rattle.definition.specs.Sample as sample
use Rattle.definition.specs.Sample.{Did, Out, mu_of, step_size, update_of, adapted, tracked, hear, heard_as, step1, step2, step3, never_switch, with_mode, advance_in, advance, step8, sample_def}
use Rattle.definition.specs.Rules.{rule_r4}
use Rattle.definition_laws.proofs.Exits.{stage-blank, stage-spilled, stage-heard}
use Rattle.definition_laws.proofs.Accept.{accepted_is}
use Rattle.definition_laws.proofs.Kept.{advance_r4}
use Rattle.lanes.specs.Arrays.{Arrays}
use Rattle.lanes.specs.Holds.{Holds}
use Rattle.lanes_sample.specs.Measures.{Measures}
use Rattle.lanes.specs.Adapts.{Adapts}
use Rattle.lanes_sample.proofs.Sample.{absorbed, measure_is, sample_by, sample_by_lem, sample_holds}
use Rattle.steps.specs.declared.Track.{Track}
use Rattle.lanes.specs.declared.Shape.{Shape}
use Rattle.steps.specs.declared.Stage.{Stage}
use Rattle.steps.specs.declared.Sampled.{Sampled}
use Rattle.steps.proofs.Heard.{heard_by}
use Rattle.definition.specs.Phase.{cos_sin}
use Rattle.steps.specs.Step.{step_of, with_track, heard_of, unheard_of, sampled_of, did}
use Rattle.run_samples.specs.Sample.{size_of, stage_of, Before, StageIs, Takes, Samples}

-- ---- steps 4 to 7
-- ---- `take`
module _ (s : EqualizeState) (w h : List Float) (n m : ℕ) (x y : C32) (e : y ≡ step2 (n + m) w (step1 n x h)) where
  took-blank : finite_c x ≡ false → StageIs s n m x w h Hold (unheard_of s Blank)
  unfolding stage_of adapted
  took-blank i = sym (stage-blank s w (n + m) n x (step1 n x h) _ i)

  took-spilled : finite_c x ≡ true → finite_c y ≡ false → StageIs s n m x w h Hold (unheard_of s Spilled)
  unfolding stage_of adapted
  took-spilled i j = sym (ap (step3 s w (n + m) n x (step1 n x h)) (sym e) ∙ stage-spilled s w (n + m) n x (step1 n x h) y i j)

  took-heard : (F size : Float) → finite_c x ≡ true → finite_c y ≡ true → F ≡ power (step1 n x h) n
      → size ≡ step_size (mu_of s.mode s.params) (power (step1 n x h) (n + m)) → StageIs s n m x w h (step_of s y F size).update (heard_of (step_of s y F size))
  unfolding stage_of step_of
  took-heard F size i j a b =
      heard_by s w (step1 n x h) y (n + m) n (cos_sin s.phase) F (power (step1 n x h) (n + m)) size (step_of s y F size) _ _ a refl b refl refl refl refl ∙ sym (stage-heard s w (n + m) n x (step1 n x h) y i j) ∙ ap (step3 s w (n + m) n x (step1 n x h)) e

module _ (s : EqualizeState) (g : Shape) (at : ℕ) (x : C32) (F ahead : Float) (limit : List Float) (a : Arrays) (y : C32) (all : Float)
    (measures : Measures g.m g.lanes g.more g.front at a F y all) where
  sums : (n : ℕ) (w h : List Float) → Before s g n at x F ahead limit a w h → (y ≡ step2 (n + g.m) w (step1 n x h)) × (all ≡ power (step1 n x h) (n + g.m))
  sums n w h f =
      measure_is n g.m g.lanes g.more g.front g.quads g.mquads at a F y all (equalizer s w h) x measures f.setting.shaped f.setting.front_is f.holds f.put f.power_is

  size-go : (n : ℕ) (w h : List Float) → Before s g n at x F ahead limit a w h → Dec (g.m ≡ 0)
      → size_of s g.m ahead all ≡ step_size (mu_of s.mode s.params) (power (step1 n x h) (n + g.m))
  unfolding size_of
  size-go n w h f (yes e) =
      let l : n ≡ n + g.m = omega arith in
      rw (eq-eqb g.m 0 e) (f.size_is e ∙ ap (step_size (mu_of s.mode s.params)) (f.power_is ∙ ap (power (step1 n x h)) l))
  size-go n w h f (no d) = rw (ne_eqb g.m 0 d) (ap (step_size (mu_of s.mode s.params)) (sums n w h f).1)

  module _ (r : Stage) (b : Bool) (i : b ≡ finite_c x) where
    unheard : (wr wi : List Float) → wr ≡ a.wr → wi ≡ a.wi → ((n : ℕ) (w h : List Float) → Before s g n at x F ahead limit a w h → StageIs s n g.m x w h Hold r)
        → Takes s g at x F ahead limit a wr wi r
    unfolding adapted
    unheard wr wi e f t = rw (e, f) (record { update = Hold; adapts = record { holds = λ n m w h k. k.weights }; stage_is = t })

    pub take_blank : b ≡ false → r ≡ unheard_of s Blank → (wr wi : List Float) → wr ≡ a.wr → wi ≡ a.wi → Takes s g at x F ahead limit a wr wi r
    take_blank d q wr wi e f = unheard wr wi e f (λ n w h f. rw q (took-blank s w h n g.m x y (sums n w h f).0 (sym i ∙ d)))

    module _ (d : b ≡ true) (c : Bool) (j : c ≡ finite_c y) where
      pub take_spilled : c ≡ false → r ≡ unheard_of s Spilled → (wr wi : List Float) → wr ≡ a.wr → wi ≡ a.wi → Takes s g at x F ahead limit a wr wi r
      take_spilled k q wr wi e f = unheard wr wi e f (λ n w h f. rw q (took-spilled s w h n g.m x y (sums n w h f).0 (sym i ∙ d) (sym j ∙ k)))

      pub take_heard : c ≡ true → (wr' wi' : List Float) → r ≡ heard_of (step_of s y F (size_of s g.m ahead all))
          → Adapts (step_of s y F (size_of s g.m ahead all)).update a.wr a.wi limit a.xr a.xi at g.quads (at + 153 - g.front) g.mquads g.centre wr' wi'
          → Takes s g at x F ahead limit a wr' wi' r
      take_heard o wr' wi' q k = record {
        update = (step_of s y F (size_of s g.m ahead all)).update;
        adapts = k;
        stage_is = λ n w h f. rw q (took-heard s w h n g.m x y (sums n w h f).0 F (size_of s g.m ahead all) (sym i ∙ d) (sym j ∙ o) f.power_is (size-go n w h f (ℕ_discrete g.m 0)));
      }

-- ---- `sample`
advanced_r4 : (s : EqualizeState) → rule_r4 s ≡ true → rule_r4 (advance s) ≡ true
advanced_r4 s e = is_true (rule_r4 (advance s)) (advance_r4 s (subst T (sym e) tt))

ticks_go : (s : EqualizeState) (t : Track) (m : EqMode) → advance_in m (with_track s t) ≡ with_track (advance_in m s) t
unfolding advance_in
ticks_go s t Decision = refl
ticks_go s t Cma = go (eqb s.params.cma_symbols never_switch) (cond (ltb (s.count + 1) s.params.cma_symbols) Cma Decision)
  where
    go : (b : Bool) (m : EqMode) → cond b (with_track s t) (with_mode (with_track s t) m (s.count + 1)) ≡ with_track (cond b s (with_mode s m (s.count + 1))) t
    go true m = refl
    go false m = refl

-- mode and count go by the record alone
ticks_is : (s : EqualizeState) (t : Track) → advance (with_track s t) ≡ with_track (advance s) t
unfolding advance
ticks_is s t = ticks_go s t s.mode

-- a sample by its stage
by_state : (n m : ℕ) (s : EqualizeState) (w h : List Float) (x : C32) → (sample_by (n + m) n m (equalizer s w h) x).equalizer.state ≡ advance (stage_of s w h n m x).state
unfolding sample_by step8 stage_of
by_state n m s w h x = refl

by_out : (n m : ℕ) (s : EqualizeState) (w h : List Float) (x : C32) → (sample_by (n + m) n m (equalizer s w h) x).out ≡ record { symbol = (stage_of s w h n m x).out; mark = (stage_of s w h n m x).mark; number = (stage_of s w h n m x).number }
unfolding sample_by step8 stage_of
by_out n m s w h x = refl

module _ (s : EqualizeState) (w h : List Float) (n m at : ℕ) (a : Arrays) (x : C32) (r : Stage) (u : Update) (k : Holds n m (at + 1) a (equalizer s w h))
    (t : StageIs s n m x w h u r) where
  did-is : did (sampled_of s r) (sample_def (equalizer s w h) x).equalizer.weights (sample_def (equalizer s w h) x).equalizer.window ≡ sample_def (equalizer s w h) x
  did-is =
      let b = sample_by_lem k x in
      let v : advance (with_track s r.track) ≡ (sample_def (equalizer s w h) x).equalizer.state = ap (λ (k : sample.Stage). advance k.state) t ∙ sym (by_state n m s w h x) ∙ sym (ap (λ (d : Did). d.equalizer.state) b) in
      let o = sym (by_out n m s w h x) ∙ sym (ap (λ (d : Did). d.out) b) in
      let z : r.out ≡ (sample_def (equalizer s w h) x).out.symbol = ap (λ (k : sample.Stage). k.out) t ∙ ap (λ (d : Out). d.symbol) o in
      let y : r.told.mark ≡ (sample_def (equalizer s w h) x).out.mark = ap (λ (k : sample.Stage). k.mark) t ∙ ap (λ (d : Out). d.mark) o in
      let u : r.told.number ≡ (sample_def (equalizer s w h) x).out.number = ap (λ (k : sample.Stage). k.number) t ∙ ap (λ (d : Out). d.number) o in
      λ j. record {
        equalizer = record { state = v j; weights = (sample_def (equalizer s w h) x).equalizer.weights; window = (sample_def (equalizer s w h) x).equalizer.window };
        out = record { symbol = z j; mark = y j; number = u j };
      }

pub sampled_is : (s : EqualizeState) (g : Shape) (at : ℕ) (x : C32) (F ahead : Float) (limit : List Float) (a a' : Arrays) (r : Stage) (k : Sampled)
    → at ≤ 63 → rule_r4 s ≡ true → Takes s g at x F ahead limit a a'.wr a'.wi r
    → a'.xr ≡ set a.xr (at + 152) r.fed.re → a'.xi ≡ set a.xi (at + 152) r.fed.im → a'.q ≡ set a.q (at + 152) (norm r.fed)
    → k ≡ sampled_of s r → Samples s g at x F ahead limit a a' k
sampled_is s g at x F ahead limit a a' r k low r4 t er ei eq e =
    let ab = absorbed t.update r.fed at g.quads g.mquads g.front g.centre limit a.wr a.wi a.xr a.xi a.q a'.wr a'.wi a'.xr a'.xi a'.q low t.adapts er ei eq in
    rw e
    (record {
      front = record {
        re = λ i b. rw er (get_or-set_other a.xr (at + 152) i r.fed.re nan (λ (z : i ≡ at + 152). omega arith));
        im = λ i b. rw ei (get_or-set_other a.xi (at + 152) i r.fed.im nan (λ (z : i ≡ at + 152). omega arith));
      };
      counts = advanced_r4 (with_track s r.track) (unfold rule_r4 in r4);
      track = r.track;
      ticks = ticks_is s r.track;
      done = λ n w h ok f.
          let q = equalizer s w h in
          let tk = t.stage_is n w h f in
          let is = did-is s w h n g.m at a x r t.update f.holds tk in
          let hd = sample_holds n g.m at g.lanes g.more g.quads g.mquads g.front g.centre limit a a' q x t.update r.fed (accepted_is q ok)
          f.setting.shaped f.setting.front_is f.setting.middle f.setting.limits f.setting.limits' f.holds f.put
          (unfold stage_of in (sym (ap (λ (k : sample.Stage). k.weights) tk))) (unfold stage_of in (sym (ap (λ (k : sample.Stage). k.fed) tk))) ab in
          record {
            weights = (sample_def q x).equalizer.weights;
            window = (sample_def q x).equalizer.window;
            is = is;
            holds = subst (λ (d : Did). Holds n g.m at a' d.equalizer) (sym is) hd;
          };
    })
