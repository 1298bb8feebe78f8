-- Demand 3 over two lists of exported calls, from that of the definition's. Assumes nothing.
use Prim.Native.Nat.{ℕ, ◌*◌, ◌≤◌}
use mathlib.Core.Path.{◌≡◌, sym, ◌∙◌, ap, subst}
use mathlib.Core.Bool.{true}
use mathlib.Core.List.{List, [], ◌∷◌, ◌++◌, map}
use Rattle.std.proofs.lemmas.List.{map-append}
use lib.ListN.{take}
use Rattle.types.specs.declared.C32.{C32}
use Rattle.demands.specs.Traces as def
use Rattle.demands.specs.Blanks.{AfterBlanks}
use Rattle.demands.specs.Demand3 as def3
use Rattle.demands.proofs.Dropout.{demand3}
use Rattle.capi_numbers.specs.RawRecord.{known_record, record_in}
use Rattle.capi_demands.specs.Traces.{Kept, equalizer_of, kept_of, leaves, Seen, Follow, none, next, samples, left}
use Rattle.capi_demands.specs.Demand3.{Dropped, Demand3}
use Rattle.capi_demands.proofs.Told.{known_part, accepted_part, there, observed, told}
use Rattle.capi_demands.proofs.Cut.{calls_are_one_run}

-- the first calls of a list that follow one another do so too
follow_front : (k : Kept) (ss ts : List Seen) → Follow k (ss ++ ts) → Follow k ss
follow_front k [] ts f = none
follow_front k (s ∷ ss) ts (next b p f) = next b p (follow_front (leaves s.after) ss ts f)

-- ---- one list

module _ (k : Kept) (ss : List Seen) (n : ℕ) (bs stream : List C32) (h : known_record k.raw ≡ true) (f : Follow k ss) (d : def3.Dropped (equalizer_of k) (map observed ss) n bs stream) where
  at-end : (i : ℕ) (front back : List Seen) → ss ≡ front ++ back → i ≤ n → samples front ≡ take i bs → AfterBlanks (equalizer_of k) i (equalizer_of (left k front))
  at-end i front back c l e =
      let t = told k front h (follow_front k front back (subst (λ (x : List Seen). Follow k x) c f)) in
      subst (AfterBlanks (equalizer_of k) i) (sym (ap equalizer_of t.left ∙ there (def.left (equalizer_of k) (map observed front))))
      (d.between i (map observed front) (map observed back) (ap (map observed) c ∙ map-append observed front back) l (sym t.samples ∙ e))

  dropped : Dropped k ss n bs
  dropped =
      let t = told k ss h f in
      record {
        run = calls_are_one_run k ss h f;
        first_symbols = ap (take (2 * n)) t.symbols ∙ d.first_symbols;
        first_marks = ap (take n) t.marks ∙ d.first_marks;
        first_numbers = ap (take n) t.numbers ∙ d.first_numbers;
        between = at-end;
        clear = unfold equalizer_of in d.clear;
      }

-- ---- two lists

pub demand_3 : Demand3
demand_3 j k ss ts n bs es stream d =
    let hj = known_part j d.accepted_j in
    let hk = known_part k d.accepted_k in
    let s = told j ss hj d.follow_j in
    let t = told k ts hk d.follow_k in
    let r = demand3 (equalizer_of j) (equalizer_of k) (map observed ss) (map observed ts) n bs es stream (record {
      accepted_p = accepted_part j d.accepted_j;
      accepted_q = accepted_part k d.accepted_k;
      states = unfold equalizer_of in (ap record_in d.raws);
      weights = unfold equalizer_of in d.weights;
      follow_p = s.follow;
      follow_q = t.follow;
      blanks_p = d.blanks_j;
      blanks_q = d.blanks_k;
      enough = d.enough;
      samples_p = sym s.samples ∙ d.samples_j;
      samples_q = sym t.samples ∙ d.samples_k;
    }) in
    record {
      one = dropped j ss n bs stream hj d.follow_j r.one;
      other = dropped k ts n es stream hk d.follow_k r.other;
      same = record {
        symbols = s.symbols ∙ r.same.symbols ∙ sym t.symbols;
        marks = s.marks ∙ r.same.marks ∙ sym t.marks;
        numbers = s.numbers ∙ r.same.numbers ∙ sym t.numbers;
        left = s.left ∙ ap kept_of r.same.left ∙ sym t.left;
      };
    }
