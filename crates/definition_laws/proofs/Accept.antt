-- The record rules as a record of facts, and what a sample leaves alone. Assumes nothing.
use Prim.Native.Nat.{◌%◌, ◌≤◌}
use mathlib.Core.Path.{◌≡◌, refl, sym, ◌∙◌, ap, subst}
use mathlib.Core.Bool.{true, ◌&&◌}
use native.Mathlib.Omega.{arith}
use lib.ListN.{length}
use lib.Dec.{T, leb, eqb, leb→le, eqb→eq}
use lib.Ieee.{Float, nan, inf, fin, binary32, fits, to_bits}
use lib.Ieee.Fits.{and_i, and_l, and_r, round-fits, nan-fits, inf-fits}
use lib.Ieee.Bits.{of_bits-to_bits, is_true}
use lib.Ieee.{of_bits, down}
use lib.Ieee.Scale.{finite}
use Rattle.types.specs.declared.EqualizeState.{EqualizeState}
use Rattle.definition.specs.Floats.{narrow}
use Rattle.definition.specs.Slices.{complex_length, whole, every}
use Rattle.definition.specs.Gains.{phase_damping, gain_kp, gain_ki}
use Rattle.definition.specs.Sample.{Equalizer, feedback, forward}
use Rattle.definition.specs.Rules.{same_bits, taps_fit, mu_fits, bw_fits, weight_fits, freq_fits, rule_r1, rule_r2, rule_r3, rule_r4, rules, accepted_def, TapCounts, feedback_fits}
use Rattle.definition_laws.proofs.Gains.{ki_finite}

pub record Accepted (q : Equalizer) : Type 0 where
  pub whole_w : T (whole q.weights)
  pub whole_h : T (whole q.window)
  pub r1 : T (rule_r1 q)
  pub r2 : T (rule_r2 q.state)
  pub weights : T (every weight_fits q.weights)
  pub window : T (every finite q.window)
  pub freq : T (freq_fits q.state.freq)
  pub r4 : T (rule_r4 q.state)

pub accepted_parts : (q : Equalizer) → T (accepted_def q) → Accepted q
unfolding accepted_def rules rule_r3
accepted_parts q t =
    let w = whole q.weights in
    let h = whole q.window in
    let a = rule_r1 q in
    let b = rule_r2 q.state in
    let c = every weight_fits q.weights in
    let d = every finite q.window in
    let e = freq_fits q.state.freq in
    let f = rule_r4 q.state in
    let wh = and_l (w && h) (a && b && (c && d && e) && f) t in
    let abcf = and_r (w && h) (a && b && (c && d && e) && f) t in
    let abc = and_l (a && b && (c && d && e)) f abcf in
    let ab = and_l (a && b) (c && d && e) abc in
    let cde = and_r (a && b) (c && d && e) abc in
    let cd = and_l (c && d) e cde in
    record {
      whole_w = and_l w h wh;
      whole_h = and_r w h wh;
      r1 = and_l a b ab;
      r2 = and_r a b ab;
      weights = and_l c d cd;
      window = and_r c d cd;
      freq = and_r (c && d) e cde;
      r4 = and_r (a && b && (c && d && e)) f abcf;
    }

-- the same of the equation, as theorems and contracts have it
pub accepted_is : (q : Equalizer) → accepted_def q ≡ true → Accepted q
accepted_is q t = accepted_parts q (subst T (sym t) tt)

pub accepted_r4 : (q : Equalizer) → accepted_def q ≡ true → rule_r4 q.state ≡ true
accepted_r4 q t = is_true (rule_r4 q.state) (accepted_is q t).r4

pub accepted_whole : (q : Equalizer) → Accepted q → T (accepted_def q)
unfolding accepted_def rules rule_r3
accepted_whole q a =
    let w = whole q.weights in
    let h = whole q.window in
    let x = rule_r1 q in
    let y = rule_r2 q.state in
    let c = every weight_fits q.weights in
    let d = every finite q.window in
    let e = freq_fits q.state.freq in
    let f = rule_r4 q.state in
    and_i (w && h) (x && y && (c && d && e) && f) (and_i w h a.whole_w a.whole_h)
    (and_i (x && y && (c && d && e)) f (and_i (x && y) (c && d && e) (and_i x y a.r1 a.r2) (and_i (c && d) e (and_i c d a.weights a.window) a.freq)) a.r4)

-- ---- the lengths of an accepted equalizer
pub shape : (q : Equalizer) → Accepted q → TapCounts q
unfolding rule_r1 taps_fit feedback_fits
shape q a =
    let F = forward q in
    let x : T (leb (feedback q) 63 && (eqb (F % 2) 1 && leb 3 F && leb F 63) && eqb (complex_length q.weights) (complex_length q.window)) = a.r1 in
    let fit = and_r (leb (feedback q) 63) (eqb (F % 2) 1 && leb 3 F && leb F 63) (and_l (leb (feedback q) 63 && (eqb (F % 2) 1 && leb 3 F && leb F 63)) _ x) in
    let three : 3 ≤ F = leb→le 3 F (and_r (eqb (F % 2) 1) (leb 3 F) (and_l (eqb (F % 2) 1 && leb 3 F) (leb F 63) fit)) in
    let same : complex_length q.weights ≡ complex_length q.window = eqb→eq _ _ (and_r (leb (feedback q) 63 && (eqb (F % 2) 1 && leb 3 F && leb F 63)) _ x) in
    let w : length q.weights % 2 ≡ 0 = eqb→eq _ _ a.whole_w in
    let h : length q.window % 2 ≡ 0 = eqb→eq _ _ a.whole_h in
    let y = and_l (leb (feedback q) 63 && (eqb (F % 2) 1 && leb 3 F && leb F 63)) _ x in
    record { some = three; most = leb→le F 63 (and_r (eqb (F % 2) 1 && leb 3 F) (leb F 63) fit); back = leb→le (feedback q) 63 (and_l (leb (feedback q) 63) _ y); sum = omega arith; weights = omega arith; window = omega arith }

-- ---- ki is finite
narrow_fits : (x : Float) → T (fits binary32 (narrow x))
unfolding narrow
narrow_fits nan = nan-fits binary32
narrow_fits (inf s) = inf-fits binary32 s
narrow_fits (fin s m e) = round-fits binary32 s _ (down e)

same_finite : (x y : Float) → T (same_bits x y) → T (fits binary32 y) → T (finite y) → T (finite x)
unfolding same_bits
same_finite nan y h f g = subst (λ (v : Float). T (finite v)) (back y f h) g
  where
    back : (y : Float) → T (fits binary32 y) → T (eqb (to_bits binary32 nan) (to_bits binary32 y)) → y ≡ nan
    back y f h = sym (of_bits-to_bits binary32 y f) ∙ ap (of_bits binary32) (sym (eqb→eq _ _ h)) ∙ of_bits-to_bits binary32 nan (nan-fits binary32)
same_finite (inf s) y h f g = subst (λ (v : Float). T (finite v)) (sym (of_bits-to_bits binary32 y f) ∙ ap (of_bits binary32) (sym (eqb→eq _ _ h)) ∙ of_bits-to_bits binary32 (inf s) (inf-fits binary32 s)) g
same_finite (fin s m e) y h f g = tt

pub own_ki : (s : EqualizeState) → T (rule_r2 s) → T (finite s.ki)
unfolding rule_r2 gain_ki
own_ki s h =
    let p = s.params in
    let a = mu_fits p.mu_cma && mu_fits p.mu_dd in
    let b = bw_fits p.phase_bw in
    let c = same_bits s.kp (gain_kp p.phase_bw phase_damping) in
    let d = same_bits s.ki (gain_ki p.phase_bw phase_damping) in
    same_finite s.ki (gain_ki p.phase_bw phase_damping) (and_r (a && b && c) d h) (narrow_fits _) (ki_finite p.phase_bw (and_r a b (and_l (a && b) c (and_l (a && b && c) d h))))

-- ---- what a sample leaves alone
pub record Alike (p q : Equalizer) : Type 0 where
  pub params : p.state.params ≡ q.state.params
  pub kp : p.state.kp ≡ q.state.kp
  pub ki : p.state.ki ≡ q.state.ki
  pub weights : length p.weights ≡ length q.weights
  pub window : length p.window ≡ length q.window

pub alike_refl : (q : Equalizer) → Alike q q
alike_refl q = record { params = refl; kp = refl; ki = refl; weights = refl; window = refl }

pub alike_trans : (p q r : Equalizer) → Alike p q → Alike q r → Alike p r
alike_trans p q r x y = record {
  params = x.params ∙ y.params;
  kp = x.kp ∙ y.kp;
  ki = x.ki ∙ y.ki;
  weights = x.weights ∙ y.weights;
  window = x.window ∙ y.window;
}

pub alike_r1 : (p q : Equalizer) → Alike p q → rule_r1 p ≡ rule_r1 q
unfolding rule_r1
alike_r1 p q a = rw (a.params, a.weights, a.window)

pub alike_r2 : (p q : Equalizer) → Alike p q → rule_r2 p.state ≡ rule_r2 q.state
unfolding rule_r2
alike_r2 p q a = rw (a.params, a.kp, a.ki)
