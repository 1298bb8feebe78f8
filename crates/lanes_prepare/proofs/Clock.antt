-- The exits of `cma_left` and `sizes`, and the modes of a run. Assumes nothing.
use Prim.Native.Nat.{ℕ, ◌+◌, ◌-◌, ◌<◌, ◌≤◌, min}
use mathlib.Core.Path.{◌≡◌, refl, sym, ◌∙◌}
use Rattle.std.proofs.lemmas.Bool.{cond_both}
use native.Mathlib.Omega.{arith}
use native.Mathlib.Decide.{ℕ_discrete, dec_lt}
use borrow.Author.Tests.{eq-eqb, ne_eqb, le-ltb, lt-ltb}
use lib.Dec.{eqb}
use Rattle.types.specs.declared.EqMode.{EqMode}
use Rattle.types.specs.declared.EqMode.TheVariants.{Cma, Decision}
use Rattle.types.specs.declared.EqualizeState.{EqualizeState}
use Rattle.definition.specs.Sample.{never_switch, advance, advance_in}
use Rattle.lanes_prepare.specs.Clock.{left_in, cma_left, Clock}

module _ (m : EqMode) (total count : ℕ) where
  pub left-decision : m ≡ Decision → 0 ≡ left_in m total count
  unfolding left_in
  left-decision e = rw e

  pub left-never : m ≡ Cma → total ≡ 4294967295 → 64 ≡ left_in m total count
  unfolding left_in
  left-never e f = rw (e, eq-eqb total never_switch f)

pub left_most : (m : EqMode) (total count : ℕ) → left_in m total count ≤ 64
unfolding left_in
left_most Decision total count = omega arith
left_most Cma total count = cond_both (eqb total never_switch) 64 (min 64 (total - count)) (λ n. n ≤ 64) (λ e. omega arith) (λ e. omega arith)

-- ---- the modes of a run
left_cma : (s : EqualizeState) → (s.params.cma_symbols ≡ never_switch → ⊥) → s.mode ≡ Cma → cma_left s ≡ min 64 (s.params.cma_symbols - s.count)
unfolding left_in
left_cma s f e = rw (e, ne_eqb s.params.cma_symbols never_switch f)

left_mode : (s : EqualizeState) (m : EqMode) → s.mode ≡ m → 0 < cma_left s → s.mode ≡ Cma
left_mode s Cma e h = e
left_mode s Decision e h = let z = left-decision s.mode s.params.cma_symbols s.count e in absurd (omega arith)

adv_decision : (s : EqualizeState) → s.mode ≡ Decision → (advance s).mode ≡ Decision
unfolding advance advance_in
adv_decision s e = rw e

adv_never : (s : EqualizeState) → s.mode ≡ Cma → s.params.cma_symbols ≡ never_switch → (advance s).mode ≡ Cma
unfolding advance advance_in
adv_never s e f = rw (e, eq-eqb s.params.cma_symbols never_switch f)

module _ (s : EqualizeState) (e : s.mode ≡ Cma) (f : s.params.cma_symbols ≡ never_switch → ⊥) where
  adv-more : s.count + 1 < s.params.cma_symbols → (advance s).mode ≡ Cma
  unfolding advance advance_in
  adv-more l = rw (e, ne_eqb s.params.cma_symbols never_switch f, lt-ltb (s.count + 1) s.params.cma_symbols l)

  adv-switch : s.params.cma_symbols ≤ s.count + 1 → (advance s).mode ≡ Decision
  unfolding advance advance_in
  adv-switch l = rw (e, ne_eqb s.params.cma_symbols never_switch f, le-ltb (s.count + 1) s.params.cma_symbols l)

  adv-count : (advance s).count ≡ s.count + 1
  unfolding advance advance_in
  adv-count = rw (e, ne_eqb s.params.cma_symbols never_switch f)

clock_go : (s s' s'' : EqualizeState) (k : ℕ) → Clock s k s' → k + 1 ≤ 63 → s''.mode ≡ (advance s').mode → s''.count ≡ (advance s').count → s''.params ≡ s'.params
    → Dec (k < cma_left s) → Dec (s.params.cma_symbols ≡ never_switch) → Clock s (k + 1) s''
clock_go s s' s'' k c l m n p (no d) v = record {
  params = p ∙ c.params;
  early = λ h. absurd (omega arith);
  late = λ h. m ∙ adv_decision s' (c.late (omega arith));
  count = λ f h. absurd (omega arith);
}
clock_go s s' s'' k c l m n p (yes d) (yes v) =
    let cma = left_mode s s.mode refl (omega arith) in
    let top = left-never s.mode s.params.cma_symbols s.count cma v in
    let same : s'.params.cma_symbols ≡ never_switch = rw c.params v in
    record { params = p ∙ c.params; early = λ h. m ∙ adv_never s' (c.early d) same; late = λ h. absurd (omega arith); count = λ f h. absurd (f v) }
clock_go s s' s'' k c l m n p (yes d) (no v) =
    let cma = left_mode s s.mode refl (omega arith) in
    let left = left_cma s v cma in
    let same : s'.params.cma_symbols ≡ s.params.cma_symbols = rw c.params in
    let v' : s'.params.cma_symbols ≡ never_switch → ⊥ = λ e. v (sym same ∙ e) in
    let n' = c.count v d in
    record {
      params = p ∙ c.params;
      early = λ h. m ∙ adv-more s' (c.early d) v' (omega arith);
      late = λ h. m ∙ adv-switch s' (c.early d) v' (omega arith);
      count = λ f h. let a = adv-count s' (c.early d) v' in omega arith;
    }

-- a sample moves mode and count by `advance` alone
pub clock_next : (s s' s'' : EqualizeState) (k : ℕ) → Clock s k s' → k + 1 ≤ 63 → s''.mode ≡ (advance s').mode → s''.count ≡ (advance s').count → s''.params ≡ s'.params → Clock s (k + 1) s''
clock_next s s' s'' k c l m n p = clock_go s s' s'' k c l m n p (dec_lt k (cma_left s)) (ℕ_discrete s.params.cma_symbols never_switch)

late_go : (s : EqualizeState) → (s.mode ≡ Cma → (s.params.cma_symbols ≡ never_switch → ⊥) → s.count < s.params.cma_symbols) → cma_left s ≤ 0 → (m : EqMode) → s.mode ≡ m
    → Dec (s.params.cma_symbols ≡ never_switch) → s.mode ≡ Decision
late_go s r h Decision e v = e
late_go s r h Cma e (yes v) = let z = left-never s.mode s.params.cma_symbols s.count e v in absurd (omega arith)
late_go s r h Cma e (no v) = let z = left_cma s v e in let b = r e v in absurd (omega arith)

-- R4 gives the premise
pub clock_none : (s : EqualizeState) → (s.mode ≡ Cma → (s.params.cma_symbols ≡ never_switch → ⊥) → s.count < s.params.cma_symbols) → Clock s 0 s
clock_none s r = record {
  params = refl;
  early = λ h. left_mode s s.mode refl h;
  late = λ h. late_go s r h s.mode refl (ℕ_discrete s.params.cma_symbols never_switch);
  count = λ f h. omega arith;
}
