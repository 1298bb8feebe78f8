-- How far a loop over the slices of a block has come: what is written, with what the samples that are left will give, is the block's outcome. Assumes nothing.
use Prim.Native.Nat.{ℕ, suc, ◌+◌, ◌<◌, ◌≤◌}
use mathlib.Core.Path.{◌≡◌, refl, sym, ◌∙◌, ap}
use mathlib.Core.Bool.{true}
use mathlib.Core.List.{List, [], ◌∷◌, ◌++◌, append_assoc, append-nil}
use native.Mathlib.Numerals.{add-one}
use native.Mathlib.Omega.{arith}
use lib.ListN.{length, take, drop, get_or, set, length-set, drop_of_length-le}
use lib.Seq.{take-suc-set, take_all, drop-cons}
use lib.Ieee.{Float, nan}
use lib.Ieee.Bits.{is_true}
use Rattle.types.specs.declared.C32.{C32}
use Rattle.types.specs.Numbers.{mark_number}
use Rattle.definition.specs.Floats.{complex}
use Rattle.definition.specs.Slices.{samples_of}
use Rattle.definition.specs.Sample.{Equalizer, Did, Out, sample_def}
use Rattle.definition.specs.Packed.{Ran}
use Rattle.definition.specs.Rules.{accepted_def}
use Rattle.definition.specs.Run.{Run, ahead, run_def, written, symbol_parts, mark_byte, number_byte}
use Rattle.definition_laws.proofs.Accept.{accepted_is, accepted_whole}
use Rattle.definition_laws.proofs.Kept.{sample_accepted}
use Rattle.definition_laws.proofs.Runs.{written_append, written_one}

pub take_two : (ys : List Float) (k : ℕ) (a b : Float) → k + 1 < length ys → take (k + 2) (set (set ys k a) (k + 1) b) ≡ take k ys ++ a ∷ b ∷ []
take_two ys k a b h =
    let e : k + 2 ≡ suc (k + 1) = omega arith in
    rw (e, take-suc-set (set ys k a) (k + 1) b (simp length-set (omega arith)), add-one, take-suc-set ys k a (omega arith), append_assoc)

-- the next sample of an input
pub samples_cons : (xs : List Float) (k : ℕ) → k + 1 < length xs → samples_of (drop k xs) ≡ complex (get_or xs k nan) (get_or xs (k + 1) nan) ∷ samples_of (drop (k + 2) xs)
unfolding samples_of
samples_cons xs k h =
    let e : k + 2 ≡ suc (k + 1) = omega arith in
    rw (drop-cons xs k nan (omega arith), ← add-one k, drop-cons xs (k + 1) nan h, e)

pub accepted_after : (q : Equalizer) (x : C32) (d : Did) → d ≡ sample_def q x → accepted_def q ≡ true → accepted_def d.equalizer ≡ true
accepted_after q x d e t =
    ap (λ (x : Did). accepted_def x.equalizer) e
    ∙ is_true (accepted_def (sample_def q x).equalizer) (accepted_whole _ (sample_accepted q x (accepted_is q t)))

-- a run by its first sample
pub run_cons : (q : Equalizer) (x : C32) (rest : List C32) (d : Did) → d ≡ sample_def q x → run_def q (x ∷ rest) ≡ ahead (d.out ∷ []) (run_def d.equalizer rest)
unfolding run_def
run_cons q x rest d e = ap (λ (t : Did). ahead (t.out ∷ []) (run_def t.equalizer rest)) (sym e)

-- ---- one slice, by what f gives of a sample: the samples before place j of the input are done, and zs is written as far as k
pub record Written (A : Type 0) (f : Out → List A) (q₀ : Equalizer) (xs : List Float) (q : Equalizer) (zs : List A) (j k : ℕ) : Type 0 where
  pub is : take k zs ++ written f (run_def q (samples_of (drop j xs))).outs ≡ written f (run_def q₀ (samples_of xs)).outs

module _ (A : Type 0) (f : Out → List A) (q₀ : Equalizer) (xs : List Float) where
  pub written_none : (zs : List A) → Written A f q₀ xs q₀ zs 0 0
  written_none zs = record { is = refl }

  -- the samples from j to j' gave os, which are now in zs'
  pub written-more : (q q' : Equalizer) (zs zs' : List A) (j k j' k' : ℕ) (os : List Out) → run_def q (samples_of (drop j xs)) ≡ ahead os (run_def q' (samples_of (drop j' xs)))
      → take k' zs' ≡ take k zs ++ written f os → Written A f q₀ xs q zs j k → Written A f q₀ xs q' zs' j' k'
  written-more q q' zs zs' j k j' k' os r t g =
      let rest = (run_def q' (samples_of (drop j' xs))).outs in
      record {
        is = ap (λ (l : List A). l ++ written f rest) t ∙ append_assoc (take k zs) (written f os) (written f rest)
            ∙ ap (λ (l : List A). take k zs ++ l) (sym (written_append f os rest) ∙ ap (λ (u : Run). written f u.outs) (sym r)) ∙ g.is;
      }

  pub written_all : (q : Equalizer) (zs : List A) (j k : ℕ) → length zs ≤ k → length xs ≤ j → Written A f q₀ xs q zs j k → zs ≡ written f (run_def q₀ (samples_of xs)).outs
  unfolding run_def samples_of written
  written_all q zs j k h e g = simp (take_all k zs h, drop_of_length-le xs {i = j} e, append-nil) at g.is

-- ---- the block: i samples are done, which end at place j of the input
pub record Progress (q₀ : Equalizer) (xs : List Float) (q : Equalizer) (ys : List Float) (ms ns : List ℕ) (i j : ℕ) : Type 0 where
  pub accepted : accepted_def q ≡ true
  pub left : (run_def q (samples_of (drop j xs))).equalizer ≡ (run_def q₀ (samples_of xs)).equalizer
  pub out : Written Float symbol_parts q₀ xs q ys j j
  pub marks : Written ℕ mark_byte q₀ xs q ms j i
  pub numbers : Written ℕ number_byte q₀ xs q ns j i

pub progress_none : (q : Equalizer) (xs ys : List Float) (ms ns : List ℕ) → accepted_def q ≡ true → Progress q xs q ys ms ns 0 0
progress_none q xs ys ms ns h = record {
  accepted = h;
  left = refl;
  out = written_none Float symbol_parts q xs ys;
  marks = written_none ℕ mark_byte q xs ms;
  numbers = written_none ℕ number_byte q xs ns;
}

-- one byte more of a slice of bytes, by what f gives of a sample
byte-more : (f : Out → List ℕ) (q₀ : Equalizer) (xs : List Float) (q : Equalizer) (zs : List ℕ) (i j : ℕ) (d : Did) (b : ℕ)
    → run_def q (samples_of (drop j xs)) ≡ ahead (d.out ∷ []) (run_def d.equalizer (samples_of (drop (j + 2) xs)))
    → i < length zs → f d.out ≡ b ∷ [] → Written ℕ f q₀ xs q zs j i → Written ℕ f q₀ xs d.equalizer (set zs i b) (j + 2) (i + 1)
byte-more f q₀ xs q zs i j d b r l e =
    written-more ℕ f q₀ xs q d.equalizer zs (set zs i b) j i (j + 2) (i + 1) (d.out ∷ []) r
    (rw add-one (take-suc-set zs i b l) ∙ ap (λ (l : List ℕ). take i zs ++ l) (sym e ∙ sym (written_one f d.out)))

module _ (q₀ : Equalizer) (xs : List Float) (q : Equalizer) (ys : List Float) (ms ns : List ℕ) (i j : ℕ) (g : Progress q₀ xs q ys ms ns i j) where
  -- one sample more: d is what it gave and left, b the byte of its mark, c that of its number
  pub progress-more : (x : C32) (d : Did) (b c : ℕ) → i < length ms → i < length ns → j + 1 < length ys → j + 1 < length xs → x ≡ complex (get_or xs j nan) (get_or xs (j + 1) nan) → d ≡ sample_def q x
      → b ≡ mark_number d.out.mark → c ≡ d.out.number
      → Progress q₀ xs d.equalizer (set (set ys j d.out.symbol.re) (j + 1) d.out.symbol.im) (set ms i b) (set ns i c) (i + 1) (j + 2)
  progress-more x d b c him hin hys hxs e h m n =
      let rest = samples_of (drop (j + 2) xs) in
      let r : run_def q (samples_of (drop j xs)) ≡ ahead (d.out ∷ []) (run_def d.equalizer rest) =
      ap (run_def q) (samples_cons xs j hxs ∙ ap (λ (v : C32). v ∷ rest) (sym e)) ∙ run_cons q x rest d h in
      record {
        accepted = accepted_after q x d h g.accepted;
        left = ap (λ (t : Run). t.equalizer) (sym r) ∙ g.left;
        out = written-more Float symbol_parts q₀ xs q d.equalizer ys _ j j (j + 2) (j + 2) (d.out ∷ []) r
            (take_two ys j d.out.symbol.re d.out.symbol.im hys ∙ ap (λ (l : List Float). take j ys ++ l) (sym (written_one symbol_parts d.out))) g.out;
        marks = byte-more mark_byte q₀ xs q ms i j d b r him (ap (λ (v : ℕ). v ∷ []) (sym m)) g.marks;
        numbers = byte-more number_byte q₀ xs q ns i j d c r hin (ap (λ (v : ℕ). v ∷ []) (sym n)) g.numbers;
      }

  pub progress-all : length ms ≤ i → length ns ≤ i → length ys ≤ j → length xs ≤ j → Ran (run_def q₀ (samples_of xs)) q ys ms ns
  unfolding run_def samples_of
  progress-all him hin hys hxs = record {
    left = rw (drop_of_length-le xs {i = j} hxs) at g.left;
    out = written_all Float symbol_parts q₀ xs q ys j j hys hxs g.out;
    marks = written_all ℕ mark_byte q₀ xs q ms j i him hxs g.marks;
    numbers = written_all ℕ number_byte q₀ xs q ns j i hin hxs g.numbers;
  }
