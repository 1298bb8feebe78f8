-- What blanks do, and the window after them. Assumes nothing.
use Prim.Native.Nat.{ℕ, zero, suc, ◌+◌, ◌*◌, ◌<◌, ◌≤◌, min}
use mathlib.Core.Path.{◌≡◌, refl, sym, ◌∙◌, ap, subst}
use mathlib.Core.Bool.{Bool, true, false, cond, not, ◌&&◌}
use mathlib.Core.List.{List, [], ◌∷◌, ◌++◌, append_assoc, append-nil}
use native.Mathlib.Nat.{le_of_suc-le-suc, not-suc-le-zero}
use native.Mathlib.Omega.{arith}
use lib.ListN.{length, take, drop, length-drop, length-replicate, replicate-append-replicate, drop_of_length-le, take-append-drop}
use lib.Seq.{take-take, take-append-le, take_at, drop_at, length-take-le, take_all}
use lib.Dec.{T, eqb, ltb, eqb→eq, ltb→lt}
use borrow.Author.Tests.{eq-eqb, ne_eqb, eqb-true}
use lib.Ieee.{Float}
use lib.Ieee.Fits.{and_l, and_r}
use Rattle.types.specs.declared.C32.{C32}
use Rattle.types.specs.declared.EqMode.{EqMode}
use Rattle.types.specs.declared.EqMode.TheVariants.{Cma, Decision}
use Rattle.types.specs.declared.EqualizeState.{EqualizeState}
use Rattle.types.specs.Bits.{zero32}
use Rattle.definition.specs.Floats.{zero_c, finite_c}
use Rattle.definition.specs.Slices.{shifted, zeros}
use Rattle.definition.specs.Sample.{Equalizer, Did, Out, feedback, forward, never_switch, sanitized, step1, step3, fed_in, with_mode, advance_in, advance, step8, sample_def}
use Rattle.definition.specs.Rules.{count_fits, rule_r4, TapCounts}
use Rattle.definition.specs.Run.{Run, ahead, run_def}
use Rattle.definition_laws.proofs.Accept.{Accepted, accepted_is, shape}
use Rattle.definition_laws.proofs.Kept.{advance_keeps, sample_accepted}
use Rattle.std.proofs.lemmas.Bool.{and_parts}
use Rattle.demands.specs.Blanks.{all_blank, blank_out, count_after, mode_at, window_after, BlankRun, BlanksClaim, ClearClaim}

-- ---- one blank

-- what a blank leaves
abbrev blanked : Equalizer → Equalizer
blanked q = record { state = advance q.state; weights = q.weights; window = fed_in (forward q) (feedback q) zero_c (shifted (forward q) zero_c q.window) }

abbrev blank_did : Equalizer → Did
blank_did q = record { equalizer = blanked q; out = blank_out }

blank_sample : (q : Equalizer) (x : C32) → finite_c x ≡ false → sample_def q x ≡ blank_did q
unfolding sample_def step8 step3 step1 sanitized
blank_sample q x e = rw e

params_kept : (s : EqualizeState) → (advance s).params ≡ s.params
params_kept s = ap (λ (t : EqualizeState). t.params) (advance_keeps s)

-- ---- the window

take_more : (n m : ℕ) (x y : List Float) → n ≤ m → take n (x ++ take m y) ≡ take n (x ++ y)
take_more zero m x y h = refl
take_more (suc n) m [] y h = take-take (suc n) m y h
take_more (suc n) m (v ∷ x) y h = ap (λ (l : List Float). v ∷ l) (take_more n m x y (omega arith))

take_inner : (n : ℕ) (x y : List Float) → take n (x ++ take n y) ≡ take n (x ++ y)
take_inner n x y = take_more n n x y (omega arith)

-- two zeros shifted into a window of a forward part A and a feedback part B
module _ (q : Equalizer) (A B : List Float) (a : length A ≡ 2 * forward q) (b : length B ≡ 2 * feedback q) where
  shift-forward : shifted (forward q) zero_c (A ++ B) ≡ take (2 * forward q) (zero32 ∷ zero32 ∷ A) ++ B
  unfolding shifted
  shift-forward = rw (take-append-le (2 * forward q) (zero32 ∷ zero32 ∷ A) B (omega arith), drop_at A B (2 * forward q) a)

  shift_back : shifted (feedback q) zero_c B ≡ take (2 * feedback q) (zero32 ∷ zero32 ∷ B)
  unfolding shifted
  shift_back = rw (drop_of_length-le B {i = 2 * feedback q} (omega arith), append-nil)

  shift-both : fed_in (forward q) (feedback q) zero_c (shifted (forward q) zero_c (A ++ B)) ≡ take (2 * forward q) (zero32 ∷ zero32 ∷ A) ++ take (2 * feedback q) (zero32 ∷ zero32 ∷ B)
  unfolding fed_in
  shift-both =
      let l : length (take (2 * forward q) (zero32 ∷ zero32 ∷ A)) ≡ 2 * forward q = length-take-le (2 * forward q) (zero32 ∷ zero32 ∷ A) (omega arith) in
      rw (shift-forward, take_at (take (2 * forward q) (zero32 ∷ zero32 ∷ A)) B (2 * forward q) l, drop_at (take (2 * forward q) (zero32 ∷ zero32 ∷ A)) B (2 * forward q) l, shift_back)

zeros_more : (k : ℕ) (x : List Float) → zeros (2 * k) ++ zero32 ∷ zero32 ∷ x ≡ zeros (2 * suc k) ++ x
zeros_more k x =
    let e : 2 * suc k ≡ 2 * k + 2 = omega arith in
    rw e (sym (append_assoc (zeros (2 * k)) (zero32 ∷ zero32 ∷ []) x) ∙ ap (λ (l : List Float). l ++ x) (replicate-append-replicate (2 * k) 2 zero32))

-- the parts of the window of an accepted memory
module _ (q : Equalizer) (z : TapCounts q) where
  forward-part : length (take (2 * forward q) q.window) ≡ 2 * forward q
  forward-part = length-take-le (2 * forward q) q.window (omega (arith, z.sum, z.window))

  back-part : length (drop (2 * forward q) q.window) ≡ 2 * feedback q
  back-part = length-drop (2 * forward q) q.window ∙ omega (arith, z.sum, z.window)

  -- one blank and then k are k + 1
  window_more : (k : ℕ) → window_after (blanked q) k ≡ window_after q (suc k)
  window_more k =
      let F = 2 * forward q in
      let M = 2 * feedback q in
      let A = take F q.window in
      let B = drop F q.window in
      let w : fed_in (forward q) (feedback q) zero_c (shifted (forward q) zero_c q.window) ≡ take F (zero32 ∷ zero32 ∷ A) ++ take M (zero32 ∷ zero32 ∷ B) = ap (λ (l : List Float). fed_in (forward q) (feedback q) zero_c (shifted (forward q) zero_c l)) (sym (take-append-drop F q.window)) ∙ shift-both q A B forward-part back-part in
      let l : length (take F (zero32 ∷ zero32 ∷ A)) ≡ F = length-take-le F (zero32 ∷ zero32 ∷ A) (omega (arith, forward-part)) in
      rw (params_kept q.state, w, take_at (take F (zero32 ∷ zero32 ∷ A)) (take M (zero32 ∷ zero32 ∷ B)) F l, drop_at (take F (zero32 ∷ zero32 ∷ A)) (take M (zero32 ∷ zero32 ∷ B)) F l, take_inner F (zeros (2 * k)) (zero32 ∷ zero32 ∷ A), take_inner M (zeros (2 * k)) (zero32 ∷ zero32 ∷ B), zeros_more k A, zeros_more k B)

  window-none : q.window ≡ window_after q 0
  window-none =
      let F = 2 * forward q in
      sym (rw (take_all F (take F q.window) (omega (arith, forward-part)), take_all (2 * feedback q) (drop F q.window) (omega (arith, back-part)), take-append-drop F q.window))

-- ---- count and mode

never_zero : (n total : ℕ) → T (cond (eqb total never_switch) (eqb n 0) (ltb n total)) → n ≡ cond (eqb total never_switch) 0 (min (n + 0) total)
never_zero n total = go (eqb total never_switch)
  where
    go : (b : Bool) → T (cond b (eqb n 0) (ltb n total)) → n ≡ cond b 0 (min (n + 0) total)
    go true h = eqb→eq n 0 h
    go false h = let l : n < total = ltb→lt n total h in omega arith

decided : (n total : ℕ) → T (not (eqb total never_switch) && eqb n total) → (eqb total never_switch ≡ false) × (n ≡ total)
decided n total h = (no_never (eqb total never_switch) (and_l (not (eqb total never_switch)) (eqb n total) h), eqb→eq n total (and_r (not (eqb total never_switch)) (eqb n total) h))
  where
    no_never : (b : Bool) → T (not b) → b ≡ false
    no_never true t = absurd t
    no_never false t = refl

count_none : (s : EqualizeState) → T (rule_r4 s) → s.count ≡ count_after s 0
unfolding rule_r4 count_fits
count_none s h = go s.mode h
  where
    go : (m : EqMode) → T (count_fits m s.count s.params.cma_symbols) → s.count ≡ count_after s 0
    go Cma t = never_zero s.count s.params.cma_symbols t
    go Decision t = let d = decided s.count s.params.cma_symbols t in rw d.0 (omega (arith, d.1))

cma_differs : (n total : ℕ) → T (cond (eqb total never_switch) (eqb n 0) (ltb n total)) → eqb n total ≡ false
cma_differs n total = go (eqb total never_switch) refl
  where
    go : (b : Bool) → eqb total never_switch ≡ b → T (cond b (eqb n 0) (ltb n total)) → eqb n total ≡ false
    go true e h = ne_eqb n total (λ (p : n ≡ total). let z : n ≡ 0 = eqb→eq n 0 h in let y : total ≡ 4294967295 = eqb-true total never_switch e in omega arith)
    go false e h = ne_eqb n total (λ (p : n ≡ total). let l : n < total = ltb→lt n total h in omega arith)

mode_none : (s : EqualizeState) → T (rule_r4 s) → s.mode ≡ mode_at s.count s.params.cma_symbols
unfolding rule_r4 count_fits
mode_none s h = go s.mode h
  where
    go : (m : EqMode) → T (count_fits m s.count s.params.cma_symbols) → m ≡ mode_at s.count s.params.cma_symbols
    go Cma t = rw (cma_differs s.count s.params.cma_symbols t)
    go Decision t = rw (eq-eqb s.count s.params.cma_symbols (decided s.count s.params.cma_symbols t).1)

-- one blank and then k are k + 1
count_more : (s : EqualizeState) (k : ℕ) → T (rule_r4 s) → count_after (advance s) k ≡ count_after s (suc k)
unfolding advance advance_in rule_r4 count_fits
count_more s k h = go s.mode h
  where
    total : ℕ
    total = s.params.cma_symbols

    one_more : (n k t : ℕ) → min (n + 1 + k) t ≡ min (n + suc k) t
    one_more n k t = omega arith

    full : (n k t : ℕ) → n ≡ t → min (n + k) t ≡ min (n + suc k) t
    full n k t e = omega arith

    at : (b : Bool) → eqb s.params.cma_symbols never_switch ≡ b → count_after (cond b s (with_mode s (cond (ltb (s.count + 1) s.params.cma_symbols) Cma Decision) (s.count + 1))) k ≡ count_after s (suc k)
    at true e = rw e
    at false e = rw (e, one_more s.count k s.params.cma_symbols)

    go : (m : EqMode) → T (count_fits m s.count s.params.cma_symbols) → count_after (advance_in m s) k ≡ count_after s (suc k)
    go Cma t = at (eqb s.params.cma_symbols never_switch) refl
    go Decision t = let d = decided s.count s.params.cma_symbols t in rw (d.0, full s.count k s.params.cma_symbols d.1)

-- ---- k blanks

-- the record after one blank and then k
state_more : (s : EqualizeState) (k : ℕ) → T (rule_r4 s)
    → with_mode (advance s) (mode_at (count_after (advance s) k) (advance s).params.cma_symbols) (count_after (advance s) k)
    ≡ with_mode s (mode_at (count_after s (suc k)) s.params.cma_symbols) (count_after s (suc k))
state_more s k h =
    ap (λ (n : ℕ). with_mode (advance s) (mode_at n (advance s).params.cma_symbols) n) (count_more s k h)
    ∙ ap (λ (t : EqualizeState). with_mode t (mode_at (count_after s (suc k)) t.params.cma_symbols) (count_after s (suc k))) (advance_keeps s)

state_none : (s : EqualizeState) → T (rule_r4 s) → s ≡ with_mode s (mode_at (count_after s 0) s.params.cma_symbols) (count_after s 0)
state_none s h =
    ap (λ (m : EqMode). with_mode s m s.count) (mode_none s h)
    ∙ ap (λ (n : ℕ). with_mode s (mode_at n s.params.cma_symbols) n) (count_none s h)

blank_more : (q : Equalizer) (k : ℕ) (r : Run) → Accepted q → BlankRun (blanked q) k r → BlankRun q (suc k) (ahead (blank_out ∷ []) r)
blank_more q k r a b = record {
  outs = ap (λ (l : List Out). blank_out ∷ l) b.outs;
  after = record {
    weights = b.after.weights;
    state = b.after.state ∙ state_more q.state k a.r4;
    window = b.after.window ∙ window_more q (shape q a) k;
  };
}

blank_none : (q : Equalizer) → Accepted q → BlankRun q 0 (record { equalizer = q; outs = [] })
blank_none q a = record { outs = refl; after = record { weights = refl; state = state_none q.state a.r4; window = window-none q (shape q a) } }

not_true : (b : Bool) → not b ≡ true → b ≡ false
not_true true h = absurd (let z : ◌≡◌ {A = ℕ} 0 1 = cc in omega arith)
not_true false h = refl

some_more : (n : ℕ) → suc n ≡ 0 → ⊥
some_more n h = omega arith

less_one : (n k : ℕ) → suc n ≡ suc k → n ≡ k
less_one n k h = omega arith

after_blanks : (k : ℕ) (q : Equalizer) (xs : List C32) → Accepted q → length xs ≡ k → all_blank xs ≡ true → BlankRun q k (run_def q xs)
unfolding run_def all_blank
after_blanks zero q [] a l b = blank_none q a
after_blanks zero q (x ∷ xs) a l b = absurd (some_more (length xs) l)
after_blanks (suc k) q [] a l b = absurd (some_more k (sym l))
after_blanks (suc k) q (x ∷ xs) a l b =
    let f = and_parts (not (finite_c x)) (all_blank xs) b in
    let e : sample_def q x ≡ blank_did q = blank_sample q x (not_true (finite_c x) f.0) in
    let a' : Accepted (blanked q) = subst (λ (d : Did). Accepted d.equalizer) e (sample_accepted q x a) in
    subst (λ (d : Did). BlankRun q (suc k) (ahead (d.out ∷ []) (run_def d.equalizer xs))) (sym e)
    (blank_more q k (run_def (blanked q) xs) a (after_blanks k (blanked q) xs a' (less_one (length xs) k l) f.1))

pub blanks_claim : BlanksClaim
blanks_claim q k xs a b = after_blanks k q xs (accepted_is q a) b.many b.each

-- ---- a window that is cleared

take_zeros : (n m : ℕ) → n ≤ m → take n (zeros m) ≡ zeros n
take_zeros zero m h = refl
take_zeros (suc n) zero h = absurd (not-suc-le-zero h)
take_zeros (suc n) (suc m) h = ap (λ (l : List Float). zero32 ∷ l) (take_zeros n m (le_of_suc-le-suc h))

clear_part : (n k : ℕ) (x : List Float) → n ≤ k → take (2 * n) (zeros (2 * k) ++ x) ≡ zeros (2 * n)
clear_part n k x h =
    take-append-le (2 * n) (zeros (2 * k)) x (simp length-replicate (omega arith)) ∙ take_zeros (2 * n) (2 * k) (omega arith)

pub clear_claim : ClearClaim
clear_claim q n a h =
    let z = shape q (accepted_is q a) in
    let e : 2 * forward q + 2 * feedback q ≡ length q.window = omega (arith, z.sum, z.window) in
    rw (clear_part (forward q) n (take (2 * forward q) q.window) (omega arith), clear_part (feedback q) n (drop (2 * forward q) q.window) (omega arith))
    (replicate-append-replicate (2 * forward q) (2 * feedback q) zero32 ∙ ap zeros e)
