-- A list of exported calls from a record of known numbers is a list of the definition's calls, with the same samples, symbols, marks and numbers.
-- Assumes nothing.
use Prim.Native.Nat.{ℕ}
use mathlib.Core.Path.{◌≡◌, refl, sym, ◌∙◌, ap, subst}
use mathlib.Core.Bool.{Bool, true, false, cond, not}
use mathlib.Core.List.{List, [], ◌∷◌, ◌++◌, map}
use lib.Dec.{eqb}
use lib.Ieee.{Float}
use Rattle.types.specs.declared.EqualizeState.{EqualizeState}
use Rattle.std.specs.Prelude.{Ok, Err}
use Rattle.definition.specs.Refusals.{Outcome}
use Rattle.types.proofs.Numbered.{not_zero}
use Rattle.definition.specs.Slices.{samples_of}
use Rattle.definition.specs.Sample.{Equalizer, feedback}
use Rattle.definition.specs.Rules.{rules, accepted_def}
use Rattle.definition.specs.Packed.{equalizer}
use Rattle.definition.specs.Calls.{lengths_of, verdict_def, Answer, answer_by, equalize_def}
use Rattle.definition.specs.Paths.{Path, plain, quick, joint, by_taps}
use Rattle.std.proofs.lemmas.Bool.{and_parts}
use Rattle.definition_laws.proofs.Verdicts.{answered_by}
use Rattle.demands.specs.Traces as def
use Rattle.capi_numbers.specs.declared.EqRecord.{EqRecord}
use Rattle.capi_numbers.specs.RawRecord.{known_record, replied}
use Rattle.capi_numbers.proofs.Facts.{kept, out_known, out_in}
use Rattle.capi.specs.Raw.{Block, block_out, Entry, eq_reference, eq_equalize, equalize_raw}
use Rattle.capi_demands.specs.Traces.{Kept, equalizer_of, kept_of, accepted, leaves, Seen, Follow, none, next, number, if_served, samples, symbols, marks, numbers, left}

-- ---- what `accepted` holds

pub known_part : (k : Kept) → accepted k ≡ true → known_record k.raw ≡ true
unfolding accepted
known_part k a = (and_parts (known_record k.raw) (accepted_def (equalizer_of k)) a).0

pub accepted_part : (k : Kept) → accepted k ≡ true → accepted_def (equalizer_of k) ≡ true
unfolding accepted
accepted_part k a = (and_parts (known_record k.raw) (accepted_def (equalizer_of k)) a).1

-- ---- the record there and back

pub there : (q : Equalizer) → equalizer_of (kept_of q) ≡ q
unfolding equalizer_of kept_of
there q = ap (λ (s : EqualizeState). equalizer s q.weights q.window) (out_in q.state)

pub back : (k : Kept) → known_record k.raw ≡ true → kept_of (equalizer_of k) ≡ k
unfolding equalizer_of kept_of
back k h = ap (λ (r : EqRecord). record { raw = r; weights = k.weights; window = k.window }) (kept k.raw h)

-- ---- a call as the definition has it

unfoldable pub path_of : Entry → Equalizer → Path
path_of eq_reference q = plain
path_of eq_equalize q = by_taps q

pub allowed : (e : Entry) (q : Equalizer) → def.allows (path_of e q) q ≡ true
unfolding path_of
allowed eq_reference q = refl
allowed eq_equalize q = go (eqb (feedback q) 0) refl
  where
    go : (b : Bool) → eqb (feedback q) 0 ≡ b → def.allows (cond b quick joint) q ≡ true
    go true e = e
    go false e = ap not e

unfoldable pub call_of : Kept → Seen → def.Call
call_of k s = record { path = path_of s.entry (equalizer_of k); input = s.input; output = s.output; marks = s.marks; numbers = s.numbers }

unfoldable pub observed : Seen → def.Observed
unfolding call_of
observed s = record { before = equalizer_of s.before; call = call_of s.before s; answer = def.call_def (equalizer_of s.before) (call_of s.before s) }

-- the answer of the definition, as the exported call hands it over
pub known_block : (k : Kept) (xs ys : List Float) (ms ns : List ℕ) → known_record k.raw ≡ true
    → equalize_raw k.raw k.weights k.window xs ys ms ns ≡ block_out (equalize_def (equalizer_of k) xs ys ms ns)
unfolding equalize_raw equalizer_of
known_block k xs ys ms ns h = rw h

-- ---- served is number 0

served_is : {A : Type 0} (a : Answer) (q : Equalizer) (xs ys : List Float) (ms ns : List ℕ) (v : Outcome) (l : List A) → a ≡ answer_by v q xs ys ms ns
    → if_served (block_out a).filter.reply.number l ≡ def.if_served a.outcome l
unfolding replied
served_is a q xs ys ms ns (Ok tt) l e = rw e refl
served_is a q xs ys ms ns (Err x) l e = rw (e, not_zero x) refl

pub served : {A : Type 0} (q : Equalizer) (xs ys : List Float) (ms ns : List ℕ) (l : List A)
    → if_served (block_out (equalize_def q xs ys ms ns)).filter.reply.number l ≡ def.if_served (equalize_def q xs ys ms ns).outcome l
served q xs ys ms ns l = served_is (equalize_def q xs ys ms ns) q xs ys ms ns (verdict_def (rules q) (lengths_of q xs ys ms ns)) l (answered_by q xs ys ms ns)

-- ---- lists

pub record Told (k : Kept) (ss : List Seen) : Type 0 where
  pub follow : def.Follow (equalizer_of k) (map observed ss)
  pub samples : samples ss ≡ def.samples (map observed ss)
  pub symbols : symbols ss ≡ def.symbols (map observed ss)
  pub marks : marks ss ≡ def.marks (map observed ss)
  pub numbers : numbers ss ≡ def.numbers (map observed ss)
  pub left : left k ss ≡ kept_of (def.left (equalizer_of k) (map observed ss))

-- the first call, and the law for the later ones
module _ (k : Kept) (s : Seen) (ss : List Seen) (b : s.before ≡ k) (e : s.after ≡ block_out (equalize_def (equalizer_of k) s.input s.output s.marks s.numbers)) where
  abbrev answer : Answer
  answer = equalize_def (equalizer_of k) s.input s.output s.marks s.numbers

  at : equalizer_of (leaves s.after) ≡ answer.equalizer
  unfolding kept_of replied
  at = ap (λ (x : Block). equalizer_of (leaves x)) e ∙ there answer.equalizer

  joined : {A : Type 0} (mine : List A) (hers : List A) (l m : List A) → mine ≡ hers → l ≡ m → if_served (number s) mine ++ l ≡ def.if_served answer.outcome hers ++ m
  joined mine hers l m p q =
      (λ i. if_served (e i).filter.reply.number (p i) ++ q i) ∙ ap (λ (x : List _). x ++ m) (served (equalizer_of k) s.input s.output s.marks s.numbers hers)

  first : Told (leaves s.after) ss → Told k (s ∷ ss)
  unfolding samples symbols marks numbers left def.samples def.symbols def.marks def.numbers def.left observed call_of
  first r = rw b (record {
    follow = def.next refl (allowed s.entry (equalizer_of k)) refl (subst (λ (q : Equalizer). def.Follow q (map observed ss)) at r.follow);
    samples = joined (samples_of s.input) (samples_of s.input) _ _ refl r.samples;
    symbols = joined s.after.out answer.out _ _ (ap (λ (x : Block). x.out) e) r.symbols;
    marks = joined s.after.marks answer.marks _ _ (ap (λ (x : Block). x.marks) e) r.marks;
    numbers = joined s.after.numbers answer.numbers _ _ (ap (λ (x : Block). x.numbers) e) r.numbers;
    left = r.left ∙ ap (λ (q : Equalizer). kept_of (def.left q (map observed ss))) at;
  })

pub told : (k : Kept) (ss : List Seen) → known_record k.raw ≡ true → Follow k ss → Told k ss
unfolding samples symbols marks numbers left def.samples def.symbols def.marks def.numbers def.left
told k [] h none = record { follow = def.none; samples = refl; symbols = refl; marks = refl; numbers = refl; left = sym (back k h) }
told k (s ∷ ss) h (next b p f) =
    let e = p ∙ known_block k s.input s.output s.marks s.numbers h in
    let a = equalize_def (equalizer_of k) s.input s.output s.marks s.numbers in
    first k s ss b e (told (leaves s.after) ss (ap (λ (x : Block). known_record (leaves x).raw) e ∙ unfold replied in (out_known a.equalizer.state)) f)
