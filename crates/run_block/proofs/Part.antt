-- One run more of a block: its part of output, marks and numbers goes behind what the runs before have written. Assumes nothing.
use Prim.Native.Nat.{ℕ, ◌*◌, ◌-◌, ◌%◌, ◌≤◌}
use mathlib.Core.Path.{◌≡◌, refl, sym, ◌∙◌, ap}
use mathlib.Core.List.{List, [], ◌∷◌, ◌++◌, append_assoc}
use native.Mathlib.Omega.{arith}
use borrow.Rule.Slice.PartMut.{mid_of, put_mid, mid_len, Post-is}
use lib.ListN.{length, take, drop, length-append, take-append-drop}
use lib.Seq.{take_at, length-take-le}
use lib.Ieee.{Float}
use lib.Ieee.Bits.{is_true}
use Rattle.types.specs.declared.C32.{C32}
use Rattle.definition.specs.Floats.{complex}
use Rattle.definition.specs.Slices.{samples_of}
use Rattle.definition.specs.Packed.{Ran}
use Rattle.definition.specs.Sample.{Equalizer}
use Rattle.definition.specs.Rules.{accepted_def}
use Rattle.definition.specs.Run.{Run, ahead, run_def, symbol_parts, mark_byte, number_byte}
use Rattle.definition_laws.proofs.Progress.{Progress, written-more}
use Rattle.definition_laws.proofs.Accept.{accepted_is, accepted_whole}
use Rattle.definition_laws.proofs.Kept.{run_accepted}
use Rattle.definition_laws.proofs.Runs.{run_append, run_outs, symbols_length, marks_length, numbers_length, samples_length}

samples_append : (l r : List Float) → length l % 2 ≡ 0 → samples_of (l ++ r) ≡ samples_of l ++ samples_of r
unfolding samples_of
samples_append [] r e = refl
samples_append (x ∷ []) r e = absurd (omega arith)
samples_append (re ∷ im ∷ l) r e = ap (λ (z : List C32). complex re im ∷ z) (samples_append l r (omega arith))

put_head : {X : Type 0} (a e : ℕ) (xs ys : List X) → a ≤ e → e ≤ length xs → length ys ≡ e - a → take e (put_mid a (e - a) xs ys) ≡ take a xs ++ ys
put_head {X} a e xs ys h g l =
    let t : length (take a xs) ≡ a = length-take-le a xs (omega arith) in
    let n : length (take a xs ++ ys) ≡ e = length-append (take a xs) ys ∙ omega (arith, t, l, h) in
    ap (take e) (sym (append_assoc (take a xs) ys _)) ∙ take_at (take a xs ++ ys) _ e n

module _ (q₀ : Equalizer) (xs : List Float) (q : Equalizer) (ys : List Float) (ms ns : List ℕ) (i e : ℕ) (g : Progress q₀ xs q ys ms ns i (2 * i)) (input : length xs ≡ 2 * length ms) (output : length ys ≡ 2 * length ms)
    (numbers : length ns ≡ length ms) (a : i ≤ e) (b : e ≤ length ms) (q' : Equalizer) (part : List Float) (pm pn : List ℕ) (ran : Ran (run_def q (samples_of (mid_of (2 * i) (2 * e - 2 * i) xs))) q' part pm pn) where
  mid-x : length (mid_of (2 * i) (2 * e - 2 * i) xs) ≡ 2 * e - 2 * i
  mid-x = mid_len (2 * i) (2 * e) xs (omega arith)

  outs-long : length (run_def q (samples_of (mid_of (2 * i) (2 * e - 2 * i) xs))).outs ≡ e - i
  outs-long =
      let o = run_outs q (samples_of (mid_of (2 * i) (2 * e - 2 * i) xs)) in
      let l = samples_length (mid_of (2 * i) (2 * e - 2 * i) xs) in
      o ∙ l ∙ omega (arith, mid-x, a)

  apart : samples_of (drop (2 * i) xs) ≡ samples_of (mid_of (2 * i) (2 * e - 2 * i) xs) ++ samples_of (drop (2 * e) xs)
  apart =
      let p = Post-is (2 * i) (2 * e) xs (omega arith) in
      ap samples_of (sym (take-append-drop (2 * e - 2 * i) (drop (2 * i) xs))) ∙ samples_append (mid_of (2 * i) (2 * e - 2 * i) xs) _ (omega (arith, mid-x))
      ∙ ap (λ (l : List Float). samples_of (mid_of (2 * i) (2 * e - 2 * i) xs) ++ samples_of l) p

  whole_is : run_def q (samples_of (drop (2 * i) xs)) ≡ ahead (run_def q (samples_of (mid_of (2 * i) (2 * e - 2 * i) xs))).outs (run_def q' (samples_of (drop (2 * e) xs)))
  whole_is =
      ap (run_def q) apart ∙ run_append q (samples_of (mid_of (2 * i) (2 * e - 2 * i) xs)) (samples_of (drop (2 * e) xs))
      ∙ ap (λ (z : Equalizer). ahead (run_def q (samples_of (mid_of (2 * i) (2 * e - 2 * i) xs))).outs (run_def z (samples_of (drop (2 * e) xs)))) (sym ran.left)

  pub progress-run : Progress q₀ xs q' (put_mid (2 * i) (2 * e - 2 * i) ys part) (put_mid i (e - i) ms pm) (put_mid i (e - i) ns pn) e (2 * e)
  progress-run =
      let os = (run_def q (samples_of (mid_of (2 * i) (2 * e - 2 * i) xs))).outs in
      let lp : length part ≡ 2 * e - 2 * i = ap length ran.out ∙ symbols_length os ∙ omega (arith, outs-long, a) in
      let lm : length pm ≡ e - i = ap length ran.marks ∙ marks_length os ∙ outs-long in
      let hy = put_head (2 * i) (2 * e) ys part (omega arith) (omega arith) lp in
      let ln : length pn ≡ e - i = ap length ran.numbers ∙ numbers_length os ∙ outs-long in
      let hm = put_head i e ms pm a b lm in
      let hn = put_head i e ns pn a (omega arith) ln in
      record {
        accepted = ap accepted_def ran.left ∙ is_true _ (accepted_whole _ (run_accepted q (samples_of (mid_of (2 * i) (2 * e - 2 * i) xs)) (accepted_is q g.accepted)));
        left = sym (ap (λ (t : Run). t.equalizer) whole_is) ∙ g.left;
        out = written-more Float symbol_parts q₀ xs q q' ys _ (2 * i) (2 * i) (2 * e) (2 * e) os whole_is (hy ∙ ap (λ (l : List Float). take (2 * i) ys ++ l) ran.out) g.out;
        marks = written-more ℕ mark_byte q₀ xs q q' ms _ (2 * i) i (2 * e) e os whole_is (hm ∙ ap (λ (l : List ℕ). take i ms ++ l) ran.marks) g.marks;
        numbers = written-more ℕ number_byte q₀ xs q q' ns _ (2 * i) i (2 * e) e os whole_is (hn ∙ ap (λ (l : List ℕ). take i ns ++ l) ran.numbers) g.numbers;
      }
