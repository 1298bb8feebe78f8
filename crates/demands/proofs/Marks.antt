-- Each mark is given exactly where it says so, and what a caller reads from it. Assumes nothing.
use mathlib.Core.Path.{◌≡◌, refl, sym, ◌∙◌, ap, subst}
use mathlib.Core.Logic.{◌⊎◌, inl, inr}
use mathlib.Core.Bool.{Bool, true, false, cond, not}
use lib.Ieee.{Float, eq}
use Rattle.types.specs.declared.C32.{C32}
use Rattle.types.specs.declared.Mark.{Mark}
use Rattle.types.specs.declared.Mark.TheVariants.{Heard, Blank, Spilled, Silent, OffScale}
use Rattle.types.specs.Bits.{zero32}
use Rattle.definition.specs.Floats.{zero_c, finite_c}
use Rattle.definition.specs.Sample.{Equalizer, Stage, all_taps, forward, feedback, live, update_of, adapted, heard_mark, mark_by, hear, heard_as, fed_in, step8, sample_def}
use Rattle.definition_laws.proofs.Exits.{stage-blank, stage-spilled, stage-heard, stage-mark}
use Rattle.demands.specs.Marks.{window_of, sum_of, power_of, output_of, mark_given, Says, mark_at, symbol_at, MarkSays}

-- ---- of any x, y, F and z

module _ (x y z : C32) (F : Float) where
  says : Says (mark_by x y F z) x y F z
  unfolding mark_by heard_mark live
  says = go (finite_c x) (finite_c y) (eq F zero32) (finite_c z) refl refl refl refl
    where
      go : (a b e d : Bool) → finite_c x ≡ a → finite_c y ≡ b → eq F zero32 ≡ e → finite_c z ≡ d
          → Says (cond (not a) Blank (cond (not b) Spilled (cond (not (not e)) Silent (cond (not d) OffScale Heard)))) x y F z
      go false b e d p q r s = p
      go true false e d p q r s = (p, q)
      go true true true d p q r s = (p, (q, r))
      go true true false false p q r s = (p, (q, (r, s)))
      go true true false true p q r s = (p, (q, (r, s)))

  only : (k : Mark) → Says k x y F z → mark_by x y F z ≡ k
  unfolding mark_by heard_mark live
  only Blank t = rw t
  only Spilled t = rw (t.0, t.1)
  only Silent t = rw (t.0, t.1.0, t.1.1)
  only OffScale t = rw (t.0, t.1.0, t.1.1.0, t.1.1.1)
  only Heard t = rw (t.0, t.1.0, t.1.1.0, t.1.1.1)

-- ---- of a sample

module _ (q : Equalizer) (x : C32) where
  pub sample_mark : mark_at q x ≡ mark_given q x
  unfolding sample_def step8
  sample_mark = stage-mark q.state q.weights (all_taps q) (forward q) x (window_of q x) (sum_of q x)

  -- what it says, from the mark that it got
  said : (k : Mark) → mark_at q x ≡ k → Says k x (sum_of q x) (power_of q x) (output_of q x)
  said k e = subst (λ (k : Mark). Says k x (sum_of q x) (power_of q x) (output_of q x)) (sym sample_mark ∙ e) (says x (sum_of q x) (output_of q x) (power_of q x))

  zero_by : (mark_at q x ≡ Blank) ⊎ (mark_at q x ≡ Spilled) → symbol_at q x ≡ zero_c
  unfolding sample_def step8
  zero_by (inl e) = ap (λ (t : Stage). t.out) (stage-blank q.state q.weights (all_taps q) (forward q) x (window_of q x) (sum_of q x) (said Blank e))
  zero_by (inr e) =
      let t = said Spilled e in
      ap (λ (t : Stage). t.out) (stage-spilled q.state q.weights (all_taps q) (forward q) x (window_of q x) (sum_of q x) t.0 t.1)

  module _ (a : finite_c x ≡ true) (b : finite_c (sum_of q x) ≡ true) where
    turned_by : symbol_at q x ≡ output_of q x
    unfolding sample_def step8 heard_as hear
    turned_by = ap (λ (t : Stage). t.out) (stage-heard q.state q.weights (all_taps q) (forward q) x (window_of q x) (sum_of q x) a b)

    module _ (e : eq (power_of q x) zero32 ≡ true) where
      weights_by : (sample_def q x).equalizer.weights ≡ q.weights
      unfolding sample_def step8 heard_as hear update_of live adapted
      weights_by = ap (λ (t : Stage). t.weights) (stage-heard q.state q.weights (all_taps q) (forward q) x (window_of q x) (sum_of q x) a b) ∙ rw e

      fed_by : (sample_def q x).equalizer.window ≡ fed_in (forward q) (feedback q) zero_c (window_of q x)
      unfolding sample_def step8 heard_as hear live
      fed_by =
          ap (λ (t : Stage). fed_in (forward q) (feedback q) t.fed (window_of q x)) (stage-heard q.state q.weights (all_taps q) (forward q) x (window_of q x) (sum_of q x) a b)
          ∙ rw e

pub mark_says : MarkSays
mark_says = record {
  exactly = λ q x k. (said q x k, λ t. sample_mark q x ∙ only x (sum_of q x) (output_of q x) (power_of q x) k t);
  zero = λ q x e. zero_by q x e;
  turned = λ q x a b. turned_by q x a b;
  heard = λ q x e. let t = said q x Heard e in ap finite_c (turned_by q x t.0 t.1.0) ∙ t.1.1.1;
  off_scale = λ q x e. let t = said q x OffScale e in ap finite_c (turned_by q x t.0 t.1.0) ∙ t.1.1.1;
  weights = λ q x e. let t = said q x Silent e in weights_by q x t.0 t.1.0 t.1.1;
  fed = λ q x e. let t = said q x Silent e in fed_by q x t.0 t.1.0 t.1.1;
}
