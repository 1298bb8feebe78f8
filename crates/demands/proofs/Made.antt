-- What `new`, `reset` and the setters leave is accepted, a refusal leaves all as it came, and a setter moves its one setting. Assumes nothing.
use Prim.Native.Nat.{ℕ, ◌-◌, ◌*◌, ◌/◌, ◌%◌, ◌<◌}
use mathlib.Core.Path.{◌≡◌, refl, sym, subst}
use mathlib.Core.Bool.{Bool, true, false, cond, not, ◌&&◌}
use mathlib.Core.List.{List}
use native.Mathlib.Omega.{arith}
use lib.ListN.{length, length-replicate}
use lib.Dec.{T, eqb, ltb}
use borrow.Author.Tests.{lt-ltb, eq-eqb, eqb-true, eqb-false}
use lib.Ieee.{Float, nan, inf, fin, binary32, to_bits, is_nan}
use lib.Ieee.Fits.{eq→eqb}
use lib.Ieee.Scale.{finite}
use lib.Ieee.Bits.{is_true}
use Rattle.std.specs.Bool.{passes}
use Rattle.types.specs.declared.EqMode.TheVariants.{Cma, Decision}
use Rattle.types.specs.declared.EqParams.{EqParams}
use Rattle.types.specs.declared.EqualizeState.{EqualizeState}
use Rattle.types.specs.declared.Error.{Error}
use Rattle.types.specs.declared.Error.TheVariants.{MuCma, MuDd}
use Rattle.std.specs.Prelude.{Ok, Err}
use Rattle.definition.specs.Refusals.{Outcome, Fresh}
use Rattle.types.specs.Bits.{zero32}
use Rattle.definition.specs.Slices.{complex_length, zeros, start_weights}
use Rattle.definition.specs.Gains.{phase_damping, gain_kp, gain_ki}
use Rattle.definition.specs.Sample.{Equalizer, all_taps, feedback, forward, never_switch}
use Rattle.definition.specs.Rules.{same_bits, taps_fit, feedback_fits, mu_fits, bw_fits, freq_fits, rule_r1, rule_r2, count_fits, rule_r4, accepted_def}
use Rattle.types.specs.Start.{start_mode, start_state}
use Rattle.definition.specs.Calls.{start_over, fresh_state, new_tests, new_verdict, new_by, new_def, reset_verdict, reset_by, reset_def, with_params, with_mus, SetAnswer, set_answer, set_mu_cma_def, set_mu_dd_def, held_freq, set_frequency_def}
use Rattle.definition_laws.proofs.Every.{every-replicate, length_start}
use Rattle.definition_laws.proofs.Parts.{finite_zero, zero_freq_fits, freq_fits_lem}
use Rattle.definition_laws.proofs.Accept.{Accepted, accepted_is, accepted_whole}
use Rattle.definition_laws.proofs.Kept.{start_fits}
use Rattle.std.proofs.lemmas.Bool.{and_parts}
use Rattle.definition_laws.proofs.Verdicts.{ok_no_err, fine}
use Rattle.demands.specs.Demand1.{with_state, OthersAccepted, OthersRefused, SettersMove}

-- ---- R2 in its five parts

record R2Parts (s : EqualizeState) : Type 0 where
  cma : mu_fits s.params.mu_cma ≡ true
  dd : mu_fits s.params.mu_dd ≡ true
  bw : bw_fits s.params.phase_bw ≡ true
  kp : same_bits s.kp (gain_kp s.params.phase_bw phase_damping) ≡ true
  ki : same_bits s.ki (gain_ki s.params.phase_bw phase_damping) ≡ true

r2_parts : (s : EqualizeState) → rule_r2 s ≡ true → R2Parts s
unfolding rule_r2
r2_parts s h =
    let d = and_parts _ _ h in
    let c = and_parts _ _ d.0 in
    let b = and_parts _ _ c.0 in
    let a = and_parts _ _ b.0 in
    record { cma = a.0; dd = a.1; bw = b.1; kp = c.1; ki = d.1 }

r2_whole : (s : EqualizeState) → R2Parts s → rule_r2 s ≡ true
unfolding rule_r2
r2_whole s r = rw (r.cma, r.dd, r.bw, r.kp, r.ki)

same_bits_lem : (x : Float) → same_bits x x ≡ true
unfolding same_bits
same_bits_lem x = eq-eqb (to_bits binary32 x) (to_bits binary32 x) refl

-- ---- what `new` and `reset` set

start_r4 : (total : ℕ) → T (count_fits (start_mode total) 0 total)
unfolding count_fits start_mode
start_r4 total = go (eqb total 0) refl
  where
    pos : (b : Bool) → eqb total 0 ≡ false → T (cond b (eqb 0 0) (ltb 0 total))
    pos true e = tt
    pos false e = subst T (sym (lt-ltb 0 total (above total (eqb-false total 0 e)))) tt
      where
        above : (t : ℕ) → (t ≡ 0 → ⊥) → 0 < t
        above t n = omega arith

    go : (b : Bool) → eqb total 0 ≡ b → T (count_fits (cond b Decision Cma) 0 total)
    go true e = subst (λ (t : ℕ). T (not (eqb t never_switch) && eqb 0 t)) (sym (eqb-true total 0 e)) tt
    go false e = pos (eqb total never_switch) e

even_twice : (n l : ℕ) → l ≡ 2 * n → T (eqb (l % 2) 0)
even_twice n l e = eq→eqb (go n l e)
  where
    go : (n l : ℕ) → l ≡ 2 * n → l % 2 ≡ 0
    go n l e = omega arith

half_twice : (n l : ℕ) → l ≡ 2 * n → l / 2 ≡ n
half_twice n l e = omega arith

module _ (p : EqParams) (kp ki : Float) (n : ℕ) (fb : feedback_fits p.feedback_taps ≡ true) (fit : taps_fit (n - p.feedback_taps) ≡ true) (gains : rule_r2 (start_state p kp ki) ≡ true) where
  start-r1 : rule_r1 (start_over (start_state p kp ki) n) ≡ true
  unfolding rule_r1 start_over start_state
  start-r1 =
      let c = (n - p.feedback_taps) / 2 in
      let w : length (start_weights n c) / 2 ≡ n = half_twice n _ (length_start n c) in
      let h : length (zeros (2 * n)) / 2 ≡ n = half_twice n _ (length-replicate (2 * n) zero32) in
      rw (w, h, fb, fit, eq-eqb n n refl)

  start-accepted : accepted_def (start_over (start_state p kp ki) n) ≡ true
  start-accepted = is_true _ (accepted_whole (start_over (start_state p kp ki) n) (record {
    whole_w = unfold start_over start_state in (even_twice n _ (length_start n ((n - p.feedback_taps) / 2)));
    whole_h = unfold start_over start_state in (even_twice n _ (length-replicate (2 * n) zero32));
    r1 = passes _ start-r1;
    r2 = unfold start_over in (passes _ gains);
    weights = unfold start_over start_state in (start_fits n ((n - p.feedback_taps) / 2));
    window = unfold start_over start_state in (every-replicate finite (2 * n) zero32 finite_zero);
    freq = unfold start_over start_state in zero_freq_fits;
    r4 = unfold start_over start_state rule_r4 in (start_r4 p.cma_symbols);
  }))

start_r2 : (p : EqParams) → mu_fits p.mu_cma ≡ true → mu_fits p.mu_dd ≡ true → bw_fits p.phase_bw ≡ true
    → rule_r2 (start_state p (gain_kp p.phase_bw phase_damping) (gain_ki p.phase_bw phase_damping)) ≡ true
start_r2 p x y z = r2_whole _ (unfold start_state in (record { cma = x; dd = y; bw = z; kp = same_bits_lem _; ki = same_bits_lem _ }))

-- ---- new

made_is : (s t : EqualizeState) → ◌≡◌ {A = Fresh} (Ok s) (Ok t) → s ≡ t
made_is s t h = cc

new_by_lem : (p : EqParams) (w h : List Float) (s : EqualizeState) (v : Outcome) → new_verdict p (length w) (length h) ≡ v → (new_by v p w h).answer ≡ Ok s
    → accepted_def (record { state = s; weights = (new_by v p w h).weights; window = (new_by v p w h).window }) ≡ true
unfolding new_verdict new_tests
new_by_lem p w h s (Err e) v m = absurd (ok_no_err s e (sym m))
new_by_lem p w h s (Ok tt) v m =
    let a = fine _ _ _ v in
    let b = fine _ _ _ a.1 in
    let c = fine _ _ _ b.1 in
    let d = fine _ _ _ c.1 in
    let e = fine _ _ _ d.1 in
    let f = fine _ _ _ e.1 in
    let g = fine _ _ _ f.1 in
    let t = start_over (fresh_state p) (length w / 2) in
    subst (λ (u : EqualizeState). accepted_def (record { state = u; weights = t.weights; window = t.window }) ≡ true) (made_is t.state s m)
    (unfold fresh_state in (start-accepted p (gain_kp p.phase_bw phase_damping) (gain_ki p.phase_bw phase_damping) (length w / 2) b.0 c.0 (start_r2 p e.0 f.0 g.0)))

new_kept : (p : EqParams) (w h : List Float) (e : Error) (v : Outcome) → (new_by v p w h).answer ≡ Err e → ((new_by v p w h).weights ≡ w) × ((new_by v p w h).window ≡ h)
new_kept p w h e (Ok tt) m = absurd (ok_no_err _ e m)
new_kept p w h e (Err x) m = (refl, refl)

-- ---- reset

reset_by_lem : (q : Equalizer) (v : Outcome) → reset_verdict q ≡ v → (reset_by v q).outcome ≡ (Ok tt) → accepted_def (reset_by v q).equalizer ≡ true
unfolding reset_verdict
reset_by_lem q (Err e) v m = absurd (ok_no_err tt e (sym m))
reset_by_lem q (Ok tt) v m =
    let a = fine _ _ _ v in
    let b = fine _ _ _ a.1 in
    let r = and_parts (rule_r1 q) (rule_r2 q.state) b.0 in
    let one : (feedback_fits (feedback q) && taps_fit (forward q) && eqb (complex_length q.weights) (complex_length q.window)) ≡ true = unfold rule_r1 in r.0 in
    let two = and_parts _ _ (and_parts _ _ one).0 in
    let s = q.state in
    start-accepted s.params s.kp s.ki (all_taps q) two.0 two.1 (unfold rule_r2 start_state in r.1)

reset_kept : (q : Equalizer) (e : Error) (v : Outcome) → (reset_by v q).outcome ≡ Err e → (reset_by v q).equalizer ≡ q
reset_kept q e (Ok tt) m = absurd (ok_no_err tt e m)
reset_kept q e (Err x) m = refl

-- ---- the setters

changed : (q : Equalizer) (t : EqualizeState) → Accepted q → t.params.feedback_taps ≡ feedback q → t.params.cma_symbols ≡ q.state.params.cma_symbols
    → rule_r2 t ≡ true → T (freq_fits t.freq) → t.mode ≡ q.state.mode → t.count ≡ q.state.count → accepted_def (with_state q t) ≡ true
changed q t a fb cma gains freq m n = is_true _ (accepted_whole (with_state q t) (record {
  whole_w = a.whole_w;
  whole_h = a.whole_h;
  r1 = unfold rule_r1 in (rw fb a.r1);
  r2 = passes _ gains;
  weights = a.weights;
  window = a.window;
  freq = freq;
  r4 = unfold rule_r4 in (rw (m, n, cma) a.r4);
}))

module _ (q : Equalizer) (mu : Float) (t : accepted_def q ≡ true) where
  parts : Accepted q
  parts = accepted_is q t

  two : R2Parts q.state
  two = r2_parts q.state (is_true _ parts.r2)

  set-cma : accepted_def (with_state q (set_mu_cma_def q.state mu).state) ≡ true
  unfolding set_mu_cma_def
  set-cma = go (mu_fits mu) refl
    where
      s : EqualizeState
      s = with_params q.state (with_mus q.state.params mu q.state.params.mu_dd)

      go : (b : Bool) → mu_fits mu ≡ b → accepted_def (with_state q (cond {A = SetAnswer} b (set_answer (Ok tt) (with_params q.state (with_mus q.state.params mu q.state.params.mu_dd))) (set_answer (Err MuCma) q.state)).state) ≡ true
      go true e = changed q _ parts refl refl (r2_whole _ (record { cma = e; dd = two.dd; bw = two.bw; kp = two.kp; ki = two.ki })) parts.freq refl refl
      go false e = t

  set-dd : accepted_def (with_state q (set_mu_dd_def q.state mu).state) ≡ true
  unfolding set_mu_dd_def
  set-dd = go (mu_fits mu) refl
    where
      go : (b : Bool) → mu_fits mu ≡ b → accepted_def (with_state q (cond {A = SetAnswer} b (set_answer (Ok tt) (with_params q.state (with_mus q.state.params q.state.params.mu_cma mu))) (set_answer (Err MuDd) q.state)).state) ≡ true
      go true e = changed q _ parts refl refl (r2_whole _ (record { cma = two.cma; dd = e; bw = two.bw; kp = two.kp; ki = two.ki })) parts.freq refl refl
      go false e = t

held_fits : (v : Float) → T (freq_fits (held_freq v))
unfolding held_freq is_nan
held_fits nan = zero_freq_fits
held_fits (inf s) = freq_fits_lem (inf s) tt
held_fits (fin s m e) = freq_fits_lem (fin s m e) tt

set_freq : (q : Equalizer) (v : Float) → accepted_def q ≡ true → accepted_def (with_state q (set_frequency_def q.state v)) ≡ true
unfolding set_frequency_def
set_freq q v t = let a = accepted_is q t in changed q (set_frequency_def q.state v) a refl refl (unfold rule_r2 in (is_true _ a.r2)) (held_fits v) refl refl

pub others_accepted : OthersAccepted
unfolding new_def reset_def
others_accepted = record {
  new = λ p w h s m. new_by_lem p w h s (new_verdict p (length w) (length h)) refl m;
  reset = λ q m. reset_by_lem q (reset_verdict q) refl m;
  set_mu_cma = set-cma;
  set_mu_dd = set-dd;
  set_frequency = set_freq;
}

-- the record of a setter, by its test
set_kept : (b : Bool) (s t : EqualizeState) (e x : Error) → (cond b (set_answer (Ok tt) t) (set_answer (Err x) s)).outcome ≡ Err e → (cond b (set_answer (Ok tt) t) (set_answer (Err x) s)).state ≡ s
set_kept true s t e x m = absurd (ok_no_err tt e m)
set_kept false s t e x m = refl

set_moved : (b : Bool) (s t : EqualizeState) (x : Error) → (cond b (set_answer (Ok tt) t) (set_answer (Err x) s)).outcome ≡ (Ok tt) → (cond b (set_answer (Ok tt) t) (set_answer (Err x) s)).state ≡ t
set_moved true s t x m = refl
set_moved false s t x m = absurd (ok_no_err tt x (sym m))

pub others_refused : OthersRefused
unfolding new_def reset_def set_mu_cma_def set_mu_dd_def
others_refused = record {
  new = λ p w h e m. new_kept p w h e (new_verdict p (length w) (length h)) m;
  reset = λ q e m. reset_kept q e (reset_verdict q) m;
  set_mu_cma = λ s mu e m. set_kept (mu_fits mu) s (with_params s (with_mus s.params mu s.params.mu_dd)) e MuCma m;
  set_mu_dd = λ s mu e m. set_kept (mu_fits mu) s (with_params s (with_mus s.params s.params.mu_cma mu)) e MuDd m;
}

pub setters_move : SettersMove
unfolding set_mu_cma_def set_mu_dd_def set_frequency_def
setters_move = record {
  moves_mu_cma = λ s mu m. set_moved (mu_fits mu) s (with_params s (with_mus s.params mu s.params.mu_dd)) MuCma m;
  moves_mu_dd = λ s mu m. set_moved (mu_fits mu) s (with_params s (with_mus s.params s.params.mu_cma mu)) MuDd m;
  frequency = λ s v. refl;
}
