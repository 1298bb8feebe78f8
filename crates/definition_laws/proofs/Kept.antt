-- A sample, and a block of samples, leave an accepted equalizer accepted. Assumes nothing.
use Prim.Native.Nat.{ℕ, ◌+◌, ◌*◌, ◌/◌, ◌%◌, ◌<◌}
use mathlib.Core.Path.{◌≡◌, refl, sym, ◌∙◌, ap, subst}
use mathlib.Core.Bool.{Bool, true, false, cond}
use mathlib.Core.List.{List, [], ◌∷◌}
use native.Mathlib.Omega.{arith}
use lib.ListN.{length, take, drop, length-append, length-take, length-drop}
use lib.Dec.{T, eqb, ltb, ltb→lt}
use lib.Ieee.{Float, binary32, of_bits, of_fields, odd, to_bits, size, span, climb, le, lt, eq}
use lib.Count.{count_trailing_zeros}
use lib.Ieee.Fits.{and_l, and_r, eq→eqb}
use lib.Ieee.Scale.{finite}
use borrow.Author.Tests.{lt-ltb}
use Rattle.types.specs.declared.C32.{C32}
use Rattle.types.specs.declared.CosSin.{CosSin}
use Rattle.types.specs.declared.EqMode.{EqMode}
use Rattle.types.specs.declared.EqMode.TheVariants.{Cma, Decision}
use Rattle.types.specs.declared.EqualizeState.{EqualizeState}
use Rattle.types.specs.declared.Update.{Update}
use Rattle.types.specs.declared.Update.TheVariants.{Step, Hold}
use Rattle.types.specs.Bits.{zero32, one32}
use Rattle.definition.specs.Floats.{◌+f◌, ◌-f◌, ◌*f◌, complex, zero_c, finite_c}
use Rattle.definition.specs.Slices.{every, shifted, zeros, part, new_re, new_im, tabulate, updated, start_weights}
use Rattle.definition.specs.Phase.{cos_sin}
use Rattle.definition.specs.Points.{decide}
use Rattle.definition.specs.Turns.{derotated, rotated}
use Rattle.types.specs.declared.Mark.{Mark}
use Rattle.types.specs.declared.Mark.TheVariants.{Blank, Spilled}
use Rattle.definition.specs.Sample.{Equalizer, Stage, all_taps, feedback, forward, never_switch, sanitized, step1, step2, fed_of, reset_unless, adapted, live, phase_error, freq_after, tracked, hear, heard_as, passed_by, step3, fed_in, with_mode, advance_in, advance, step8, sample_def}
use Rattle.definition.specs.Rules.{plus_zero, weight_fits, freq_fits, count_fits, rule_r4, TapCounts}
use Rattle.definition.specs.Run.{run_def}
use Rattle.definition_laws.proofs.Every.{every_append, every-left, every_take, every_drop, every_set, every-replicate, every-shifted, every_tabulate, length_shifted, length_updated, length_start}
use Rattle.definition_laws.proofs.Parts.{zero_fits, flush_fits, freq_fits_lem, freq_finite, finite_zero, mul_number, add_number}
use Rattle.definition_laws.proofs.Bounds.{decide_small, cos_within, rotated_finite}
use Rattle.definition_laws.proofs.Accept.{Accepted, shape, own_ki, Alike, alike_refl, alike_trans, alike_r1, alike_r2}

-- ---- step 8: count and mode

-- it moves mode and count only
pub advance_keeps : (s : EqualizeState) → advance s ≡ with_mode s (advance s).mode (advance s).count
unfolding advance advance_in
advance_keeps s = go s.mode
  where
    at : (b : Bool) (n : ℕ) (m : EqMode) → cond b s (with_mode s m n) ≡ with_mode s (cond b s (with_mode s m n)).mode (cond b s (with_mode s m n)).count
    at true n m = refl
    at false n m = refl

    go : (m : EqMode) → advance_in m s ≡ with_mode s (advance_in m s).mode (advance_in m s).count
    go Decision = refl
    go Cma = at (eqb s.params.cma_symbols never_switch) (s.count + 1) (cond (ltb (s.count + 1) s.params.cma_symbols) Cma Decision)

-- R4 after count rises
reached : (n total : ℕ) → n < total → (n + 1 < total → ⊥) → n + 1 ≡ total
reached n total h g = omega arith

cma_r4 : (n total : ℕ) (b : Bool) → eqb total never_switch ≡ b → T (cond b (eqb n 0) (ltb n total)) → b ≡ false
    → T (count_fits (cond (ltb (n + 1) total) Cma Decision) (n + 1) total)
unfolding count_fits
cma_r4 n total true e h p = absurd (subst (λ (b : Bool). T b) p tt)
cma_r4 n total false e h p = go (ltb (n + 1) total) refl
  where
    go : (c : Bool) → ltb (n + 1) total ≡ c → T (count_fits (cond c Cma Decision) (n + 1) total)
    go true k = rw (e, k) tt
    go false k = rw e (eq→eqb (reached n total (ltb→lt n total h) (λ (l : n + 1 < total). subst T (sym (lt-ltb (n + 1) total l) ∙ k) tt)))

r4_in : (s : EqualizeState) → T (rule_r4 s) → (m : EqMode) → s.mode ≡ m → T (rule_r4 (advance_in m s))
unfolding rule_r4 advance_in
r4_in s h Decision e = h
r4_in s h Cma e = go (eqb s.params.cma_symbols never_switch) refl
  where
    go : (b : Bool) → eqb s.params.cma_symbols never_switch ≡ b → T (rule_r4 (cond b s (with_mode s (cond (ltb (s.count + 1) s.params.cma_symbols) Cma Decision) (s.count + 1))))
    go true k = h
    go false k = cma_r4 s.count s.params.cma_symbols false k (unfold count_fits in (rw (e, k) at h)) refl

pub advance_r4 : (s : EqualizeState) → T (rule_r4 s) → T (rule_r4 (advance s))
unfolding advance
advance_r4 s h = r4_in s h s.mode refl

-- ---- weights

pub start_fits : (n c : ℕ) → T (every weight_fits (start_weights n c))
unfolding start_weights
start_fits n c = every_set weight_fits (zeros (2 * n)) (2 * c) one32 (every-replicate weight_fits (2 * n) zero32 zero_fits) one-fits
  where
    one-fits : T (weight_fits one32)
    one-fits = unfold weight_fits plus_zero of_bits of_fields odd count_trailing_zeros to_bits size span climb le lt eq in tt

updated_fits : (n : ℕ) (g : C32) (w h : List Float) → T (every weight_fits w) → T (every finite (updated n g w h)) → T (every weight_fits (updated n g w h))
unfolding updated part
updated_fits n g w h a b =
    every_append weight_fits (tabulate (2 * n) (part (new_re g w h) (new_im g w h))) (drop (2 * n) w)
    (every_tabulate finite weight_fits (part (new_re g w h) (new_im g w h)) fits (2 * n) (every-left finite (tabulate (2 * n) (part (new_re g w h) (new_im g w h))) (drop (2 * n) w) b))
    (every_drop weight_fits (2 * n) w a)
  where
    fits : (k : ℕ) → T (finite (part (new_re g w h) (new_im g w h) k)) → T (weight_fits (part (new_re g w h) (new_im g w h) k))
    fits k = go (eqb (k % 2) 0)
      where
        go : (b : Bool) → T (finite (cond b (new_re g w h (k / 2)) (new_im g w h (k / 2)))) → T (weight_fits (cond b (new_re g w h (k / 2)) (new_im g w h (k / 2))))
        go true = flush_fits _
        go false = flush_fits _

module _ (n f : ℕ) (w h : List Float) (a : T (every weight_fits w)) (z : length w ≡ 2 * n) where
  after-fits : (u : Update) → T (every weight_fits (adapted u n f w h))
  unfolding adapted reset_unless
  after-fits Hold = a
  after-fits (Step gr gi) = go (every finite (updated n (complex gr gi) w h)) refl
    where
      go : (b : Bool) → every finite (updated n (complex gr gi) w h) ≡ b → T (every weight_fits (cond b (updated n (complex gr gi) w h) (start_weights n (f / 2))))
      go true e = updated_fits n (complex gr gi) w h a (subst T (sym e) tt)
      go false e = start_fits n (f / 2)

  after-length : (u : Update) → length (adapted u n f w h) ≡ length w
  unfolding adapted reset_unless
  after-length Hold = refl
  after-length (Step gr gi) = go (every finite (updated n (complex gr gi) w h))
    where
      go : (b : Bool) → length (cond b (updated n (complex gr gi) w h) (start_weights n (f / 2))) ≡ length w
      go true = length_updated n (complex gr gi) w h (omega arith)
      go false = length_start n (f / 2) ∙ sym z

-- ---- the window

pub finite_parts : (v : C32) → T (finite_c v) → T (finite v.re) × T (finite v.im)
unfolding finite_c
finite_parts v h = (and_l (finite v.re) (finite v.im) h, and_r (finite v.re) (finite v.im) h)

pub sanitized_finite : (x : C32) → T (finite (sanitized x).re) × T (finite (sanitized x).im)
unfolding sanitized
sanitized_finite x = go (finite_c x) refl
  where
    go : (b : Bool) → finite_c x ≡ b → T (finite (cond b x zero_c).re) × T (finite (cond b x zero_c).im)
    go true e = finite_parts x (subst T (sym e) tt)
    go false e = (finite_zero, finite_zero)

pub step1_length : (q : Equalizer) → TapCounts q → (x : C32) → length (step1 (forward q) x q.window) ≡ length q.window
unfolding step1
step1_length q z x = length_shifted (forward q) (sanitized x) q.window (omega (arith, z.sum, z.window))

pub step1_finite : (f : ℕ) (x : C32) (h : List Float) → T (every finite h) → T (every finite (step1 f x h))
unfolding step1
step1_finite f x h a = every-shifted finite f (sanitized x) h (sanitized_finite x).0 (sanitized_finite x).1 a

fed_in_length : (q : Equalizer) → TapCounts q → (v : C32) (h : List Float) → length h ≡ length q.window → length (fed_in (forward q) (feedback q) v h) ≡ length q.window
unfolding fed_in
fed_in_length q z v h l =
    let d : length (drop (2 * forward q) h) ≡ 2 * feedback q = length-drop (2 * forward q) h ∙ omega (arith, z.sum, z.window, l) in
    let s : length (shifted (feedback q) v (drop (2 * forward q) h)) ≡ length (drop (2 * forward q) h) = length_shifted (feedback q) v (drop (2 * forward q) h) (omega (arith, d)) in
    length-append (take (2 * forward q) h) (shifted (feedback q) v (drop (2 * forward q) h)) ∙ rw (s, d, length-take) (omega (arith, z.sum, z.window, l))

fed_in_finite : (f m : ℕ) (v : C32) (h : List Float) → T (finite v.re) → T (finite v.im) → T (every finite h) → T (every finite (fed_in f m v h))
unfolding fed_in
fed_in_finite f m v h r i a =
    every_append finite (take (2 * f) h) (shifted m v (drop (2 * f) h)) (every_take finite (2 * f) h a)
    (every-shifted finite m v (drop (2 * f) h) r i (every_drop finite (2 * f) h a))

-- ---- steps 3 to 7

-- what each way through steps 3 to 7 leaves
pub record Staged (q : Equalizer) (t : Stage) : Type 0 where
  pub params : t.state.params ≡ q.state.params
  pub kp : t.state.kp ≡ q.state.kp
  pub ki : t.state.ki ≡ q.state.ki
  pub mode : t.state.mode ≡ q.state.mode
  pub count : t.state.count ≡ q.state.count
  pub freq : T (freq_fits t.state.freq)
  pub long : length t.weights ≡ length q.weights
  pub weights : T (every weight_fits t.weights)
  pub fed_re : T (finite t.fed.re)
  pub fed_im : T (finite t.fed.im)

phase_error_finite : (z d : C32) → T (finite (phase_error z d))
unfolding phase_error
phase_error_finite z d = go (finite (z.im *f d.re -f z.re *f d.im)) refl
  where
    go : (b : Bool) → finite (z.im *f d.re -f z.re *f d.im) ≡ b → T (finite (cond b (z.im *f d.re -f z.re *f d.im) zero32))
    go true e = subst T (sym e) tt
    go false e = finite_zero

fed_finite : (b : Bool) (m : EqMode) (d : C32) (t : CosSin) → T (finite (rotated d t).re) × T (finite (rotated d t).im)
    → T (finite (cond b (fed_of m d t) zero_c).re) × T (finite (cond b (fed_of m d t) zero_c).im)
unfolding fed_of
fed_finite false m d t f = (finite_zero, finite_zero)
fed_finite true Cma d t f = (finite_zero, finite_zero)
fed_finite true Decision d t f = f

module _ (q : Equalizer) (a : Accepted q) where
  passed-staged : (mark : Mark) → Staged q (passed_by q.state q.weights mark)
  passed-staged mark = record {
    params = refl;
    kp = refl;
    ki = refl;
    mode = refl;
    count = refl;
    freq = a.freq;
    long = refl;
    weights = a.weights;
    fed_re = finite_zero;
    fed_im = finite_zero;
  }

  freq-after : (pd : Float) → T (finite pd) → T (freq_fits (freq_after q.state pd))
  unfolding freq_after
  freq-after pd h =
      freq_fits_lem (q.state.freq +f q.state.ki *f pd)
      (add_number binary32 q.state.freq (q.state.ki *f pd) (freq_finite q.state.freq a.freq) (mul_number binary32 q.state.ki pd (own_ki q.state a.r2) h))

  heard-staged : (h : List Float) (y : C32) → Staged q (heard_as q.state q.weights (all_taps q) (forward q) h (hear q.state (all_taps q) (forward q) h y))
  unfolding heard_as hear tracked
  heard-staged h y =
      let t = cos_sin q.state.phase in
      let k = q.state.params.constellation in
      let d = decide k (derotated y t) in
      let fed = fed_finite (live _) q.state.mode d t (rotated_finite d t (decide_small k (derotated y t)) (cos_within q.state.phase)) in
      record {
        params = refl;
        kp = refl;
        ki = refl;
        mode = refl;
        count = refl;
        freq = freq-after (phase_error (derotated y t) d) (phase_error_finite (derotated y t) d);
        long = after-length (all_taps q) (forward q) q.weights h a.weights (shape q a).weights _;
        weights = after-fits (all_taps q) (forward q) q.weights h a.weights (shape q a).weights _;
        fed_re = fed.0;
        fed_im = fed.1;
      }

  pub staged : (x : C32) (h : List Float) (y : C32) → Staged q (step3 q.state q.weights (all_taps q) (forward q) x h y)
  unfolding step3
  staged x h y = go (finite_c x) (finite_c y)
    where
      go : (b c : Bool) → Staged q (cond b (cond c (heard_as q.state q.weights (all_taps q) (forward q) h (hear q.state (all_taps q) (forward q) h y)) (passed_by q.state q.weights Spilled)) (passed_by q.state q.weights Blank))
      go false c = passed-staged Blank
      go true false = passed-staged Spilled
      go true true = heard-staged h y

-- ---- one sample

module _ (q : Equalizer) (h : List Float) (t : Stage) where
  alike-step8 : TapCounts q → length h ≡ length q.window → Staged q t → Alike (step8 (forward q) (feedback q) h t).equalizer q
  unfolding step8
  alike-step8 z l g =
      let k = advance_keeps t.state in
      record {
        params = ap (λ (s : EqualizeState). s.params) k ∙ g.params;
        kp = ap (λ (s : EqualizeState). s.kp) k ∙ g.kp;
        ki = ap (λ (s : EqualizeState). s.ki) k ∙ g.ki;
        weights = g.long;
        window = fed_in_length q z t.fed h l;
      }

  r4-staged : Staged q t → T (rule_r4 q.state) → T (rule_r4 t.state)
  unfolding rule_r4
  r4-staged g r = rw (g.mode, g.count, g.params) r

  step8-accepted : Accepted q → length h ≡ length q.window → T (every finite h) → Staged q t → Accepted (step8 (forward q) (feedback q) h t).equalizer
  step8-accepted a l f g =
      let k = alike-step8 (shape q a) l g in
      record {
        whole_w = subst (λ (n : ℕ). T (eqb (n % 2) 0)) (sym k.weights) a.whole_w;
        whole_h = subst (λ (n : ℕ). T (eqb (n % 2) 0)) (sym k.window) a.whole_h;
        r1 = subst T (sym (alike_r1 (step8 (forward q) (feedback q) h t).equalizer q k)) a.r1;
        r2 = subst T (sym (alike_r2 (step8 (forward q) (feedback q) h t).equalizer q k)) a.r2;
        weights = unfold step8 in g.weights;
        window = unfold step8 in (fed_in_finite (forward q) (feedback q) t.fed h g.fed_re g.fed_im f);
        freq = unfold step8 in (subst (λ (s : EqualizeState). T (freq_fits s.freq)) (sym (advance_keeps t.state)) g.freq);
        r4 = unfold step8 in (advance_r4 t.state (r4-staged g a.r4));
      }

pub sample_alike : (q : Equalizer) (x : C32) → Accepted q → Alike (sample_def q x).equalizer q
unfolding sample_def
sample_alike q x a =
    let h = step1 (forward q) x q.window in
    alike-step8 q h _ (shape q a) (step1_length q (shape q a) x) (staged q a x h (step2 (all_taps q) q.weights h))

pub sample_accepted : (q : Equalizer) (x : C32) → Accepted q → Accepted (sample_def q x).equalizer
unfolding sample_def
sample_accepted q x a =
    let h = step1 (forward q) x q.window in
    step8-accepted q h _ a (step1_length q (shape q a) x) (step1_finite (forward q) x q.window a.window) (staged q a x h (step2 (all_taps q) q.weights h))

-- ---- a block

pub run_accepted : (q : Equalizer) (xs : List C32) → Accepted q → Accepted (run_def q xs).equalizer
unfolding run_def
run_accepted q [] a = a
run_accepted q (x ∷ xs) a = run_accepted (sample_def q x).equalizer xs (sample_accepted q x a)

pub run_alike : (q : Equalizer) (xs : List C32) → Accepted q → Alike (run_def q xs).equalizer q
unfolding run_def
run_alike q [] a = alike_refl q
run_alike q (x ∷ xs) a =
    alike_trans (run_def (sample_def q x).equalizer xs).equalizer (sample_def q x).equalizer q (run_alike (sample_def q x).equalizer xs (sample_accepted q x a)) (sample_alike q x a)
