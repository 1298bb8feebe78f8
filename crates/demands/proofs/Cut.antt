-- A list of calls is one run over the samples of those that are served, so the cut into calls does not matter. Assumes nothing.
use mathlib.Core.Path.{◌≡◌, refl, sym, ◌∙◌, ap, subst}
use mathlib.Core.List.{List, [], ◌∷◌, ◌++◌}
use Rattle.types.specs.declared.C32.{C32}
use Rattle.std.specs.Prelude.{Ok, Err}
use Rattle.definition.specs.Refusals.{Outcome}
use Rattle.definition.specs.Slices.{samples_of}
use Rattle.definition.specs.Sample.{Equalizer, Out}
use Rattle.definition.specs.Rules.{rules}
use Rattle.definition.specs.Run.{Run, run_def, written, symbol_parts, mark_byte, number_byte}
use Rattle.definition.specs.Calls.{lengths_of, verdict_def, Answer, answer_by}
use Rattle.definition_laws.proofs.Runs.{run_append, written_append}
use Rattle.definition_laws.proofs.Verdicts.{answered_by}
use Rattle.demands.specs.Traces.{Observed, Follow, none, next, samples, symbols, marks, numbers, left}
use Rattle.demands.specs.Cut.{OneRun, CallsAreOneRun, Same, AnyCut}

-- what f gives of the samples xs, and behind it l, which it gives of the samples ys that follow
joined : {A : Type 0} (f : Out → List A) (q : Equalizer) (xs ys : List C32) (l : List A) → l ≡ written f (run_def (run_def q xs).equalizer ys).outs
    → written f (run_def q xs).outs ++ l ≡ written f (run_def q (xs ++ ys)).outs
joined f q xs ys l r =
    ap (λ (l : List _). written f (run_def q xs).outs ++ l) r ∙ sym (written_append f (run_def q xs).outs (run_def (run_def q xs).equalizer ys).outs)
    ∙ ap (λ (t : Run). written f t.outs) (sym (run_append q xs ys))

module _ (q : Equalizer) (o : Observed) (os : List Observed) where
  -- the first call by its answer, and the law for the later ones
  first : (v : Outcome) → o.answer ≡ answer_by v q o.call.input o.call.output o.call.marks o.call.numbers → OneRun o.answer.equalizer os → OneRun q (o ∷ os)
  unfolding samples symbols marks numbers left
  first (Ok tt) e r =
      let xs = samples_of o.call.input in
      let s = subst (λ (p : Equalizer). OneRun p os) (ap (λ (a : Answer). a.equalizer) e) r in
      rw e (record {
        symbols = joined symbol_parts q xs (samples os) (symbols os) s.symbols;
        marks = joined mark_byte q xs (samples os) (marks os) s.marks;
        numbers = joined number_byte q xs (samples os) (numbers os) s.numbers;
        left = s.left ∙ ap (λ (t : Run). t.equalizer) (sym (run_append q xs (samples os)));
      })
  first (Err x) e r =
      let s = subst (λ (p : Equalizer). OneRun p os) (ap (λ (a : Answer). a.equalizer) e) r in
      rw e (record { symbols = s.symbols; marks = s.marks; numbers = s.numbers; left = s.left })

pub calls_are_one_run : CallsAreOneRun
unfolding samples symbols marks numbers left run_def written
calls_are_one_run q [] none = record { symbols = refl; marks = refl; numbers = refl; left = refl }
calls_are_one_run q (o ∷ os) (next b l p f) =
    first q o os (verdict_def (rules q) (lengths_of q o.call.input o.call.output o.call.marks o.call.numbers))
    (p ∙ answered_by q o.call.input o.call.output o.call.marks o.call.numbers) (calls_are_one_run o.answer.equalizer os f)

-- two lists of calls, of which the runs are one
pub same_run : (p q : Equalizer) (os ps : List Observed) → OneRun p os → OneRun q ps → run_def p (samples os) ≡ run_def q (samples ps) → Same p q os ps
same_run p q os ps a b r = record {
  symbols = a.symbols ∙ ap (λ (t : Run). written symbol_parts t.outs) r ∙ sym b.symbols;
  marks = a.marks ∙ ap (λ (t : Run). written mark_byte t.outs) r ∙ sym b.marks;
  numbers = a.numbers ∙ ap (λ (t : Run). written number_byte t.outs) r ∙ sym b.numbers;
  left = a.left ∙ ap (λ (t : Run). t.equalizer) r ∙ sym b.left;
}

pub any_cut : AnyCut
any_cut q os ps f g e = same_run q q os ps (calls_are_one_run q os f) (calls_are_one_run q ps g) (ap (run_def q) e)

-- the first calls of a list that follow one another do so too
pub follow_front : (q : Equalizer) (os ps : List Observed) → Follow q (os ++ ps) → Follow q os
follow_front q [] ps f = none
follow_front q (o ∷ os) ps (next b l p f) = next b l p (follow_front o.answer.equalizer os ps f)
