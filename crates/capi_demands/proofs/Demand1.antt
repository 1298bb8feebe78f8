-- An exported call is served or refused whatever it is handed, and from an accepted start the lengths alone decide. Assumes nothing.
use Prim.Native.Nat.{ℕ}
use mathlib.Core.Path.{◌≡◌, refl, sym, ◌∙◌, ap, subst}
use mathlib.Core.Logic.{◌⊎◌, inl, inr}
use mathlib.Core.Bool.{Bool, true, false, cond}
use mathlib.Core.List.{List, [], ◌∷◌}
use lib.ListN.{get_or}
use lib.Ieee.{Float}
use Rattle.types.specs.declared.Error.TheVariants.{Odd, Record}
use Rattle.std.specs.Prelude.{⊤, Err}
use Rattle.definition.specs.Refusals.{reply_of, first_of}
use Rattle.definition.specs.Sample.{Equalizer}
use Rattle.definition.specs.Rules.{accepted_def}
use Rattle.definition.specs.Calls.{Answer, equalize_def}
use Rattle.std.proofs.lemmas.Bool.{and_from}
use Rattle.definition_laws.proofs.Verdicts.{reply_is}
use Rattle.demands.specs.Demand1 as def
use Rattle.demands.proofs.Served.{demand1, by_lengths}
use Rattle.capi_numbers.specs.RawRecord.{known_record, replied, unknown}
use Rattle.capi_numbers.proofs.Facts.{out_known}
use Rattle.capi.specs.Raw.{Block, block, block_out, equalize_raw}
use Rattle.capi_demands.specs.Traces.{Kept, equalizer_of, kept_of, accepted, leaves, Seen, none, next, number}
use Rattle.capi_demands.specs.Demand1.{ServedCall, RefusedCall, Demand1, by_lengths_of, ByLengths}
use Rattle.capi_demands.proofs.Told.{known_part, accepted_part, there, back, known_block}

-- what the definition hands over has known numbers, and is accepted where the definition accepts it
known_over : (q : Equalizer) → known_record (kept_of q).raw ≡ true
unfolding kept_of
known_over q = out_known q.state

handed_over : (q : Equalizer) → accepted_def q ≡ true → accepted (kept_of q) ≡ true
unfolding accepted
handed_over q a = and_from _ _ (known_over q) (subst (λ (p : Equalizer). accepted_def p ≡ true) (sym (there q)) a)

-- ---- a record of known numbers

module _ (k : Kept) (xs ys : List Float) (ms ns : List ℕ) where
  abbrev answer : Answer
  answer = equalize_def (equalizer_of k) xs ys ms ns

  known-call : known_record k.raw ≡ true → def.ServedCall xs answer ⊎ def.RefusedCall (equalizer_of k) ys ms ns answer
      → ServedCall xs (block_out answer) ⊎ RefusedCall k ys ms ns (block_out answer)
  unfolding replied kept_of
  known-call h (inl s) = inl (record {
    number = ap (λ (l : List ℕ). get_or l 0 0) (reply_is (equalizer_of k) xs ys ms ns ∙ ap reply_of s.outcome);
    accepted = handed_over answer.equalizer s.accepted;
    symbols = s.symbols;
    marks = s.marks;
    numbers = s.numbers;
  })
  known-call h (inr r) =
      let same : kept_of answer.equalizer ≡ k = ap kept_of r.equalizer ∙ back k h in
      inr (record {
        error = r.error;
        reply = (λ i. replied (same i).raw ((reply_is (equalizer_of k) xs ys ms ns ∙ ap reply_of r.outcome) i));
        left = same;
        out = r.out;
        marks = r.marks;
        numbers = r.numbers;
      })

-- ---- a record with an unknown number

unknown_is : (b : Bool) → unknown b ≡ reply_of {A = ⊤} (Err (cond b Record Odd))
unfolding unknown first_of
unknown_is true = refl
unknown_is false = refl

unknown_call : (k : Kept) (ys : List Float) (ms ns : List ℕ) (b : Bool) → RefusedCall k ys ms ns (block (replied k.raw (unknown b)) k.weights k.window ys ms ns)
unfolding replied
unknown_call k ys ms ns b = record { error = cond b Record Odd; reply = ap (replied k.raw) (unknown_is b); left = refl; out = refl; marks = refl; numbers = refl }

pub demand_1 : Demand1
demand_1 e k xs ys ms ns b p = subst (λ (x : Block). ServedCall xs x ⊎ RefusedCall k ys ms ns x) (sym p) (go (known_record k.raw) refl)
  where
    go : (t : Bool) → known_record k.raw ≡ t → ServedCall xs (equalize_raw k.raw k.weights k.window xs ys ms ns) ⊎ RefusedCall k ys ms ns (equalize_raw k.raw k.weights k.window xs ys ms ns)
    go true h = subst (λ (x : Block). ServedCall xs x ⊎ RefusedCall k ys ms ns x) (sym (known_block k xs ys ms ns h)) (known-call k xs ys ms ns h (demand1 (equalizer_of k) xs ys ms ns))
    go false h = inr (unfold equalize_raw in (rw h (unknown_call k ys ms ns _)))

-- ---- from an accepted start

module _ (k : Kept) (s : Seen) (a : accepted k ≡ true) (e : s.after ≡ block_out (equalize_def (equalizer_of k) s.input s.output s.marks s.numbers)) where
  number_is : number s ≡ by_lengths_of s
  unfolding replied
  number_is =
      ap (λ (b : Block). b.filter.reply.number) e
      ∙ ap (λ (l : List ℕ). get_or l 0 0) (reply_is (equalizer_of k) s.input s.output s.marks s.numbers ∙ ap reply_of (by_lengths (equalizer_of k) s.input s.output s.marks s.numbers (accepted_part k a)))

  next-accepted : accepted (leaves s.after) ≡ true
  next-accepted = go (demand_1 s.entry k s.input s.output s.marks s.numbers s.after (e ∙ sym (known_block k s.input s.output s.marks s.numbers (known_part k a))))
    where
      go : ServedCall s.input s.after ⊎ RefusedCall k s.output s.marks s.numbers s.after → accepted (leaves s.after) ≡ true
      go (inl x) = x.accepted
      go (inr x) = ap accepted x.left ∙ a

pub lengths_decide : ByLengths
lengths_decide k [] a none = refl
lengths_decide k (s ∷ ss) a (next b p f) =
    let e = p ∙ known_block k s.input s.output s.marks s.numbers (known_part k a) in
    λ i. number_is k s a e i ∷ lengths_decide (leaves s.after) ss (next-accepted k s a e) f i
