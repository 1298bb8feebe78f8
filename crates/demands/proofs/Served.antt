-- Demand 1, the marks, and which calls are served from an accepted start. Assumes nothing.
use Prim.Native.Nat.{ℕ, zero, suc, ◌*◌, ◌/◌, ◌%◌}
use mathlib.Core.Path.{◌≡◌, refl, ◌∙◌, ap}
use mathlib.Core.Logic.{◌⊎◌, inl, inr}
use mathlib.Core.Bool.{Bool, true, ◌&&◌}
use mathlib.Core.List.{List, [], ◌∷◌}
use native.Mathlib.Nat.{not-suc-le-zero, le_of_suc-le-suc}
use native.Mathlib.Omega.{arith}
use lib.ListN.{length}
use lib.Ieee.{Float}
use lib.Ieee.Bits.{is_true}
use Rattle.types.specs.declared.C32.{C32}
use Rattle.types.specs.declared.Error.TheVariants.{Odd, Record}
use Rattle.std.specs.Prelude.{Ok, Err}
use Rattle.types.specs.Numbers.{mark_number}
use Rattle.definition.specs.Refusals.{Outcome, Test, test, first_of}
use Rattle.definition.specs.Slices.{whole, samples_of}
use Rattle.definition.specs.Sample.{Equalizer, sample_def}
use Rattle.definition.specs.Rules.{rules, accepted_def}
use Rattle.definition.specs.Run.{run_def, written}
use Rattle.definition.specs.Calls.{even, lengths_of, length_tests, equalize_tests, verdict_def, answer_by, equalize_def}
use Rattle.definition_laws.proofs.Accept.{accepted_is, accepted_whole}
use Rattle.definition_laws.proofs.Kept.{run_accepted}
use Rattle.definition_laws.proofs.Runs.{run_outs, symbols_length, marks_length, numbers_length, samples_length}
use Rattle.std.proofs.lemmas.Bool.{and_parts}
use Rattle.definition_laws.proofs.Verdicts.{outcome_is, served_fits}
use Rattle.demands.specs.Demand1.{ServedCall, RefusedCall, Demand1, lengths_verdict, ByLengths, EveryMark}
use Rattle.demands.proofs.Marks.{sample_mark}

-- an accepted equalizer stays accepted over a block
pub run_fine : (q : Equalizer) (xs : List C32) → accepted_def q ≡ true → accepted_def (run_def q xs).equalizer ≡ true
run_fine q xs a = is_true _ (accepted_whole (run_def q xs).equalizer (run_accepted q xs (accepted_is q a)))

twice_half : (n : ℕ) → n % 2 ≡ 0 → 2 * (n / 2) ≡ n
twice_half n h = omega arith

by_verdict : (q : Equalizer) (xs ys : List Float) (ms ns : List ℕ) (v : Outcome) → verdict_def (rules q) (lengths_of q xs ys ms ns) ≡ v
    → ServedCall xs (answer_by v q xs ys ms ns) ⊎ RefusedCall q ys ms ns (answer_by v q xs ys ms ns)
by_verdict q xs ys ms ns (Ok tt) e =
    let f = served_fits q xs ys ms ns e in
    let outs = (run_def q (samples_of xs)).outs in
    let n : length outs ≡ length xs / 2 = run_outs q (samples_of xs) ∙ samples_length xs in
    inl (record {
      outcome = refl;
      accepted = run_fine q (samples_of xs) f.accepted;
      symbols = symbols_length outs ∙ ap (λ (k : ℕ). 2 * k) n ∙ twice_half (length xs) f.even_in;
      marks = marks_length outs ∙ n;
      numbers = numbers_length outs ∙ n;
    })
by_verdict q xs ys ms ns (Err r) e = inr (record { error = r; outcome = refl; reply = refl; equalizer = refl; out = refl; marks = refl; numbers = refl })

pub demand1 : Demand1
unfolding equalize_def
demand1 q xs ys ms ns = by_verdict q xs ys ms ns (verdict_def (rules q) (lengths_of q xs ys ms ns)) refl

-- ---- from an accepted start the lengths decide

-- the tests of the lengths are those of the definition
lengths_tried : (q : Equalizer) (xs ys : List Float) (ms ns : List ℕ)
    → first_of (test (even (length xs) && even (length ys)) Odd ∷ length_tests (lengths_of q xs ys ms ns)) ≡ lengths_verdict xs ys ms ns
unfolding lengths_verdict
lengths_tried q xs ys ms ns = refl

pub by_lengths : ByLengths
unfolding accepted_def
by_lengths q xs ys ms ns a =
    let w = whole q.weights && whole q.window in
    let s = and_parts w (rules q) a in
    outcome_is q xs ys ms ns
    ∙ unfold verdict_def equalize_tests in (go w (even (length xs)) (even (length ys)) (rules q) (length_tests (lengths_of q xs ys ms ns)) s.0 s.1)
    ∙ lengths_tried q xs ys ms ns
  where
    go : (w x y r : Bool) (ts : List Test) → w ≡ true → r ≡ true → first_of (test (w && x && y) Odd ∷ test r Record ∷ ts) ≡ first_of (test (x && y) Odd ∷ ts)
    go w x y r ts p q = unfold first_of in (rw (p, q))

-- ---- the mark of each sample

pub every_mark : EveryMark
unfolding run_def written
every_mark q [] i h = absurd (not-suc-le-zero h)
every_mark q (x ∷ xs) zero h = ap mark_number (sample_mark q x)
every_mark q (x ∷ xs) (suc i) h = every_mark (sample_def q x).equalizer xs i (le_of_suc-le-suc h)
