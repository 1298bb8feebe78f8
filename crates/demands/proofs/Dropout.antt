-- Demand 3: two lists of calls over n blanks and one stream. Assumes nothing.
use Prim.Native.Nat.{ℕ, zero, suc, ◌*◌, ◌/◌, ◌≤◌, max}
use mathlib.Core.Path.{◌≡◌, refl, sym, ◌∙◌, ap, subst}
use mathlib.Core.Bool.{true, not}
use mathlib.Core.List.{List, [], ◌∷◌, ◌++◌}
use native.Mathlib.Omega.{arith}
use lib.ListN.{length, take, replicate, length-replicate}
use lib.Seq.{length-take-le, take_at}
use lib.Ieee.{Float}
use Rattle.types.specs.declared.C32.{C32}
use Rattle.types.specs.declared.EqualizeState.{EqualizeState}
use Rattle.types.specs.declared.Mark.TheVariants.{Blank}
use Rattle.types.specs.Bits.{zero32}
use Rattle.types.specs.Numbers.{mark_number}
use Rattle.definition.specs.Floats.{finite_c}
use Rattle.definition.specs.Slices.{zeros}
use Rattle.definition.specs.Sample.{Equalizer, Out, feedback, forward, no_number, with_mode}
use Rattle.definition.specs.Rules.{accepted_def}
use Rattle.definition.specs.Run.{Run, ahead, run_def, written, symbol_parts, mark_byte, number_byte}
use Rattle.definition_laws.proofs.Accept.{accepted_is, shape}
use Rattle.definition_laws.proofs.Runs.{run_append, written_append}
use Rattle.std.proofs.lemmas.Bool.{and_parts, and_from}
use Rattle.demands.specs.Traces.{Observed, Follow, samples, symbols, marks, numbers, left}
use Rattle.demands.specs.Cut.{OneRun, Same}
use Rattle.demands.specs.Blanks.{all_blank, Blanks, blank_out, count_after, mode_at, AfterBlanks, BlankRun}
use Rattle.demands.specs.Demand3.{Dropout, Dropped, Recovered, Demand3}
use Rattle.demands.proofs.Cut.{calls_are_one_run, same_run, follow_front}
use Rattle.demands.proofs.Blanks.{blanks_claim, clear_claim}

-- ---- the first k of n blanks

blanks_take : (k : ℕ) (xs : List C32) → all_blank xs ≡ true → all_blank (take k xs) ≡ true
unfolding all_blank
blanks_take zero xs b = refl
blanks_take (suc k) [] b = refl
blanks_take (suc k) (x ∷ xs) b =
    let f = and_parts (not (finite_c x)) (all_blank xs) b in
    and_from (not (finite_c x)) (all_blank (take k xs)) f.0 (blanks_take k xs f.1)

first_blanks : (k n : ℕ) (xs : List C32) → k ≤ n → Blanks n xs → Blanks k (take k xs)
first_blanks k n xs h b = record { many = length-take-le k xs (omega (arith, b.many)); each = blanks_take k xs b.each }

-- what n blanks put out: their symbols, and bytes of which each gives b
zero_floats : (n : ℕ) → written symbol_parts (replicate n blank_out) ≡ zeros (2 * n)
unfolding written
zero_floats zero = refl
zero_floats (suc n) = let e : 2 * suc n ≡ suc (suc (2 * n)) = omega arith in rw e (ap (λ (l : List Float). zero32 ∷ zero32 ∷ l) (zero_floats n))

blank_bytes : (f : Out → List ℕ) (b : ℕ) → f blank_out ≡ b ∷ [] → (n : ℕ) → written f (replicate n blank_out) ≡ replicate n b
unfolding written
blank_bytes f b e zero = refl
blank_bytes f b e (suc n) = rw e (ap (λ (l : List ℕ). b ∷ l) (blank_bytes f b e n))

-- ---- one list

module _ (p : Equalizer) (os : List Observed) (n : ℕ) (bs stream : List C32) (acc : accepted_def p ≡ true) (f : Follow p os) (b : Blanks n bs) (enough : max (forward p) (feedback p) ≤ n) (e : samples os ≡ bs ++ stream) where
  after : BlankRun p n (run_def p bs)
  after = blanks_claim p n bs acc b

  -- the whole run: n blanks, and then the stream
  whole : run_def p (samples os) ≡ ahead (replicate n blank_out) (run_def (run_def p bs).equalizer stream)
  whole = ap (run_def p) e ∙ run_append p bs stream ∙ ap (λ (os : List Out). ahead os (run_def (run_def p bs).equalizer stream)) after.outs

  one-run : OneRun p os
  one-run = calls_are_one_run p os f

  -- what f gives of the calls' samples begins with z, which it gives of the blanks
  first : {A : Type 0} (f : Out → List A) (l z : List A) (m : ℕ) → l ≡ written f (run_def p (samples os)).outs → written f (replicate n blank_out) ≡ z → length z ≡ m → take m l ≡ z
  first f l z m r e k =
      let rest = (run_def (run_def p bs).equalizer stream).outs in
      ap (take m)
      (r ∙ ap (λ (t : Run). written f t.outs) whole ∙ written_append f (replicate n blank_out) rest ∙ ap (λ (l : List _). l ++ written f rest) e)
      ∙ take_at z (written f rest) m k

  cleared : (run_def p bs).equalizer.window ≡ zeros (length p.window)
  cleared = after.after.window ∙ clear_claim p n acc enough

  at-end : (k : ℕ) (front back : List Observed) → os ≡ front ++ back → k ≤ n → samples front ≡ take k bs → AfterBlanks p k (left p front)
  at-end k front back c h s =
      let r = calls_are_one_run p front (follow_front p front back (subst (λ (l : List Observed). Follow p l) c f)) in
      subst (AfterBlanks p k) (sym (r.left ∙ ap (λ (xs : List C32). (run_def p xs).equalizer) s)) (blanks_claim p k (take k bs) acc (first_blanks k n bs h b)).after

  dropped : Dropped p os n bs stream
  dropped = record {
    run = one-run;
    first_symbols = first symbol_parts (symbols os) (zeros (2 * n)) (2 * n) one-run.symbols (zero_floats n) (length-replicate (2 * n) _);
    first_marks = first mark_byte (marks os) (replicate n (mark_number Blank)) n one-run.marks (blank_bytes mark_byte (mark_number Blank) refl n) (length-replicate n _);
    first_numbers = first number_byte (numbers os) (replicate n no_number) n one-run.numbers (blank_bytes number_byte no_number refl n) (length-replicate n _);
    each = λ k h. blanks_claim p k (take k bs) acc (first_blanks k n bs h b);
    between = at-end;
    clear = cleared;
  }

-- ---- two lists

same_equalizer_lem : (p q : Equalizer) → p.state ≡ q.state → p.weights ≡ q.weights → p.window ≡ q.window → p ≡ q
same_equalizer_lem p q s w h = λ i. record { state = s i; weights = w i; window = h i }

module _ (p q : Equalizer) (os ps : List Observed) (n : ℕ) (bs es stream : List C32) (d : Dropout p q os ps n bs es stream) where
  lengths : length p.window ≡ length q.window
  lengths =
      (shape p (accepted_is p d.accepted_p)).window ∙ ap (λ (w : List Float). 2 * (length w / 2)) d.weights
      ∙ sym (shape q (accepted_is q d.accepted_q)).window

  enough-q : max (forward q) (feedback q) ≤ n
  enough-q = rw (d.states, d.weights) at d.enough

  -- the two are the same after their blanks
  met : (run_def p bs).equalizer ≡ (run_def q es).equalizer
  met =
      let a = (blanks_claim p n bs d.accepted_p d.blanks_p).after in
      let b = (blanks_claim q n es d.accepted_q d.blanks_q).after in
      same_equalizer_lem (run_def p bs).equalizer (run_def q es).equalizer
      (a.state ∙ ap (λ (s : EqualizeState). with_mode s (mode_at (count_after s n) s.params.cma_symbols) (count_after s n)) d.states ∙ sym b.state)
      (a.weights ∙ d.weights ∙ sym b.weights)
      (cleared p os n bs stream d.accepted_p d.follow_p d.blanks_p d.enough d.samples_p ∙ ap zeros lengths
      ∙ sym (cleared q ps n es stream d.accepted_q d.follow_q d.blanks_q enough-q d.samples_q))

  same : Same p q os ps
  same =
      let x = one-run p os n bs stream d.accepted_p d.follow_p d.blanks_p d.enough d.samples_p in
      let y = one-run q ps n es stream d.accepted_q d.follow_q d.blanks_q enough-q d.samples_q in
      let r : run_def p (samples os) ≡ run_def q (samples ps) =
      whole p os n bs stream d.accepted_p d.follow_p d.blanks_p d.enough d.samples_p
      ∙ ap (λ (r : Equalizer). ahead (replicate n blank_out) (run_def r stream)) met
      ∙ sym (whole q ps n es stream d.accepted_q d.follow_q d.blanks_q enough-q d.samples_q) in
      same_run p q os ps x y r

  recovered : Recovered p q os ps n bs es stream
  recovered = record {
    one = dropped p os n bs stream d.accepted_p d.follow_p d.blanks_p d.enough d.samples_p;
    other = dropped q ps n es stream d.accepted_q d.follow_q d.blanks_q enough-q d.samples_q;
    same = same;
  }

pub demand3 : Demand3
demand3 p q os ps n bs es stream d = recovered p q os ps n bs es stream d
