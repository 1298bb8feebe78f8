-- The number of each sample: 255 exactly where its mark is not 0, else that of its symbol, whose point is the decision. Assumes nothing.
use Prim.Native.Nat.{ℕ, zero, suc, ◌+◌, ◌*◌, ◌<◌}
use mathlib.Core.Path.{◌≡◌, refl, sym, ◌∙◌, ap, subst}
use mathlib.Core.Bool.{Bool, true, false, cond}
use mathlib.Core.Logic.{◌↔◌, ◌≢◌}
use mathlib.Core.List.{List, [], ◌∷◌}
use native.Mathlib.Nat.{not-suc-le-zero, le_of_suc-le-suc, lt_trans}
use native.Mathlib.Omega.{arith}
use Rattle.types.specs.declared.C32.{C32}
use Rattle.types.specs.declared.EqConstellation.{EqConstellation}
use Rattle.types.specs.declared.EqConstellation.TheVariants.{Bpsk, Qpsk, Psk8, Qam16, Qam64}
use Rattle.types.specs.declared.EqParams.{EqParams}
use Rattle.types.specs.declared.EqualizeState.{EqualizeState}
use Rattle.types.specs.declared.Mark.{Mark}
use Rattle.types.specs.declared.Mark.TheVariants.{Heard, Blank, Spilled, Silent, OffScale}
use Rattle.types.specs.Numbers.{mark_number}
use Rattle.definition.specs.Floats.{finite_c}
use Rattle.definition.specs.Points.{number_of, point_count, point_of}
use Rattle.definition.specs.Sample.{Equalizer, all_taps, forward, no_number, numbered, hear, heard_as, passed_by, tracked, step3, step8, sample_def}
use Rattle.definition.specs.Run.{run_def, written}
use Rattle.definition_laws.proofs.Exits.{stage-number}
use Rattle.definition_laws.proofs.Kept.{advance_keeps}
use Rattle.demands.specs.Marks.{window_of, sum_of, output_of, mark_at, symbol_at}
use Rattle.demands.specs.Numbers.{letters_of, NumberSays, EveryNumber}
use Rattle.demands.proofs.Marks.{mark_says, sample_mark}
use Rattle.demands.proofs.Belongs.{belongs}

-- ---- by the mark

few_points : (k : EqConstellation) → point_count k < no_number
few_points Bpsk = omega arith
few_points Qpsk = omega arith
few_points Psk8 = omega arith
few_points Qam16 = omega arith
few_points Qam64 = omega arith

heard_alone : (m : Mark) → mark_number m ≡ 0 → m ≡ Heard
heard_alone Heard e = refl
heard_alone Blank e = absurd (omega arith)
heard_alone Spilled e = absurd (omega arith)
heard_alone Silent e = absurd (omega arith)
heard_alone OffScale e = absurd (omega arith)

none_by : (n : ℕ) (m : Mark) → n < no_number → (numbered m n ≡ no_number) ↔ (mark_number m ≢ 0)
unfolding numbered
none_by n Heard h = (λ e z. omega arith, λ a. absurd (a refl))
none_by n Blank h = (λ e z. omega arith, λ a. refl)
none_by n Spilled h = (λ e z. omega arith, λ a. refl)
none_by n Silent h = (λ e z. omega arith, λ a. refl)
none_by n OffScale h = (λ e z. omega arith, λ a. refl)

-- ---- one sample

module _ (q : Equalizer) (x : C32) where
  abbrev kind : EqConstellation
  kind = q.state.params.constellation

  sample_number : (sample_def q x).out.number ≡ numbered (mark_at q x) (number_of kind (output_of q x))
  unfolding sample_def step8 hear
  sample_number =
      stage-number q.state q.weights (all_taps q) (forward q) x (window_of q x) (sum_of q x)
      ∙ ap (λ (m : Mark). numbered m (letters_of q x).number) (sym (sample_mark q x))

  none_at : ((sample_def q x).out.number ≡ no_number) ↔ (mark_number (mark_at q x) ≢ 0)
  none_at =
      let l : number_of kind (output_of q x) < no_number = lt_trans (belongs.below kind (output_of q x)) (few_points kind) in
      subst (λ (n : ℕ). (n ≡ no_number) ↔ (mark_number (mark_at q x) ≢ 0)) (sym sample_number) (none_by _ (mark_at q x) l)

  module _ (e : mark_number (mark_at q x) ≡ 0) where
    number_is : (sample_def q x).out.number ≡ number_of kind (output_of q x)
    number_is = sample_number ∙ unfold numbered in (ap (λ (m : Mark). numbered m (number_of kind (output_of q x))) (heard_alone (mark_at q x) e))

    symbol_number : (sample_def q x).out.number ≡ number_of kind (symbol_at q x)
    symbol_number =
        let t = (mark_says.exactly q x Heard).0 (heard_alone (mark_at q x) e) in
        number_is ∙ ap (number_of kind) (sym (mark_says.turned q x t.0 t.1.0))

    point_at : point_of kind (sample_def q x).out.number ≡ (letters_of q x).d
    unfolding hear
    point_at = ap (point_of kind) number_is ∙ sym (belongs.point kind (output_of q x))

  sample_params : (sample_def q x).equalizer.state.params ≡ q.state.params
  unfolding sample_def step8 step3 heard_as tracked
  sample_params = ap (λ (s : EqualizeState). s.params) (advance_keeps _) ∙ go (finite_c x) (finite_c (sum_of q x))
    where
      go : (a b : Bool) → (cond a (cond b (heard_as q.state q.weights (all_taps q) (forward q) (window_of q x) (letters_of q x)) (passed_by q.state q.weights Spilled)) (passed_by q.state q.weights Blank)).state.params ≡ q.state.params
      go true true = refl
      go true false = refl
      go false b = refl

-- ---- every sample

-- the samples behind the first
says_more : (k : EqConstellation) (q : Equalizer) (x : C32) (xs : List C32) (i : ℕ) → NumberSays k (sample_def q x).equalizer xs i → NumberSays k q (x ∷ xs) (suc i)
unfolding run_def written
says_more k q x xs i r =
    let two : 2 * suc i ≡ suc (suc (2 * i)) = omega arith in
    let three : suc (suc (2 * i)) + 1 ≡ suc (suc (2 * i + 1)) = omega arith in
    record { none = r.none; number = λ h. rw (two, three) (r.number h); point = r.point }

pub every_number : EveryNumber
unfolding run_def written
every_number q [] i h = absurd (not-suc-le-zero h)
every_number q (x ∷ xs) zero h = record { none = none_at q x; number = symbol_number q x; point = point_at q x }
every_number q (x ∷ xs) (suc i) h =
    subst (λ (p : EqParams). NumberSays p.constellation q (x ∷ xs) (suc i)) (sample_params q x)
    (says_more (sample_def q x).equalizer.state.params.constellation q x xs i (every_number (sample_def q x).equalizer xs i (le_of_suc-le-suc h)))
