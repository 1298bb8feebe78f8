-- Loops that replace elements, one law for each step, up and down; what is finite stays finite. Assumes nothing.
use Prim.Native.Nat.{ℕ, ◌+◌, ◌-◌, ◌<◌, ◌≤◌}
use mathlib.Core.Path.{◌≡◌, refl, ◌∙◌, ap}
use mathlib.Core.List.{List, ◌++◌}
use native.Mathlib.Omega.{arith}
use native.Mathlib.Decide.{ℕ_discrete, dec_lt}
use borrow.Rule.Slice.PartMut.{put_mid}
use Rattle.std.proofs.lemmas.List.{get_or-append_right, get_or-drop, get_or-take}
use lib.ListN.{length, get_or, get_or-append, set, take, drop, length-set, length-append, length-drop}
use lib.Seq.{get_or-set_same, get_or-set_other, length-take-le}
use lib.Dec.{T}
use lib.Ieee.{Float, nan}
use lib.Ieee.Scale.{finite}
use Rattle.lanes.specs.Between.{Between, Replaced}
use Rattle.lanes.specs.Holds.{Calm}

-- one more element, at j: the places from .. to are those from' .. to' and j
between_set : (f : ℕ → Float) (from to from' to' j : ℕ) {old l : List Float} (v : Float) → v ≡ f j → from ≤ from' → to' ≤ to → from ≤ j → j < to → j < length l
    → ((k : ℕ) → from ≤ k → k < to → (k ≡ j → ⊥) → (from' ≤ k) × (k < to')) → Between f from' to' old l → Between f from to old (set l j v)
between_set f from to from' to' j {old} {l} v e a b c d i h m = record {
  long = simp length-set m.long;
  done = λ k p q. at k (ℕ_discrete k j) p q;
  low = λ k p. get_or-set_other l j k v nan (λ (z : k ≡ j). omega arith) ∙ m.low k (omega arith);
  high = λ k p. get_or-set_other l j k v nan (λ (z : k ≡ j). omega arith) ∙ m.high k (omega arith);
}
  where
    at : (k : ℕ) → Dec (k ≡ j) → from ≤ k → k < to → get_or (set l j v) k nan ≡ f k
    at k (yes z) p q = rw (z, get_or-set_same l j v nan i) e
    at k (no z) p q = get_or-set_other l j k v nan z ∙ m.done k (h k p q z).0 (h k p q z).1

pub between_none : (f : ℕ → Float) (j : ℕ) (l : List Float) → Between f j j l l
between_none f j l = record { long = refl; done = λ k g h. absurd (omega arith); low = λ k h. refl; high = λ k h. refl }

pub between_more : (f : ℕ → Float) (from to : ℕ) {old l : List Float} (v : Float) → v ≡ f to → from ≤ to → to < length l → Between f from to old l
    → Between f from (to + 1) old (set l to v)
between_more f from to v e g b m = between_set f from (to + 1) from to to v e (omega arith) (omega arith) g (omega arith) b (λ k p q d. (p, omega arith)) m

pub between_down : (f : ℕ → Float) (j to : ℕ) {old l : List Float} (v : Float) → v ≡ f j → j < to → j < length l → Between f (j + 1) to old l
    → Between f j to old (set l j v)
between_down f j to v e g b m = between_set f j to (j + 1) to j v e (omega arith) (omega arith) (omega arith) g b (λ k p q d. (omega arith, q)) m

-- one element
pub between_one : (j : ℕ) (v : Float) (l : List Float) → j < length l → Between (λ k. v) j (j + 1) l (set l j v)
between_one j v l h = between_more (λ k. v) j j v refl (omega arith) h (between_none (λ k. v) j l)

pub replaced_none : (f : ℕ → Float) (o : ℕ) (l : List Float) → Replaced f o 0 l l
replaced_none f o l = let e : o + 0 ≡ o = omega arith in rw e (between_none (λ k. f (k - o)) o l)

pub replaced_more : (f : ℕ → Float) (o n : ℕ) {old l : List Float} (v : Float) → v ≡ f n → o + n < length l → Replaced f o n old l → Replaced f o (n + 1) old (set l (o + n) v)
replaced_more f o n v e b m =
    let i : o + n - o ≡ n = omega arith in
    let j : o + (n + 1) ≡ o + n + 1 = omega arith in
    rw j (between_more (λ k. f (k - o)) o (o + n) v (rw i e) (omega arith) b m)

-- an element by its number among those replaced
pub replaced_at : (f : ℕ → Float) (o n : ℕ) {old l : List Float} → Replaced f o n old l → (k : ℕ) → k < n → get_or l (o + k) nan ≡ f k
replaced_at f o n m k h =
    let e : o + k - o ≡ k = omega arith in
    m.done (o + k) (omega arith) (omega arith) ∙ ap f e

-- what is finite stays finite
fine_at : {f : ℕ → Float} {from to : ℕ} {old l : List Float} (k : ℕ) → Between f from to old l → (from ≤ k → k < to → T (finite (f k))) → T (finite (get_or old k nan)) → Dec (k < from) → Dec (k < to)
    → T (finite (get_or l k nan))
fine_at k m h o (yes p) q = rw (m.low k p) o
fine_at k m h o (no p) (yes q) = rw (m.done k (omega arith) q) (h (omega arith) q)
fine_at k m h o (no p) (no q) = rw (m.high k (omega arith)) o

pub calm_between : {f g : ℕ → Float} {from to size : ℕ} {re im re' im' : List Float} → Between f from to re re' → Between g from to im im'
    → ((k : ℕ) → from ≤ k → k < to → k < size → T (finite (f k)) × T (finite (g k))) → Calm re im size → Calm re' im' size
calm_between {from = from} {to = to} a b h c = record {
  re_fine = λ k l. fine_at k a (λ p q. (h k p q l).0) (c.re_fine k l) (dec_lt k from) (dec_lt k to);
  im_fine = λ k l. fine_at k b (λ p q. (h k p q l).1) (c.im_fine k l) (dec_lt k from) (dec_lt k to);
}

-- a part written whole
pub between_put : (f : ℕ → Float) (j e n : ℕ) (old part : List Float) → length part ≡ n → n ≡ e - j → j ≤ e → e ≤ length old → ((k : ℕ) → k < n → get_or part k nan ≡ f (j + k))
    → Between f j e old (put_mid j n old part)
between_put f j e n old part l h b t g =
    let a : length (take j old) ≡ j = length-take-le j old (omega arith) in
    let d : length (drop n (drop j old)) ≡ length old - e = simp length-drop (omega arith) in
    record {
      long = simp length-append (omega (arith, a, d));
      done = λ k p q.
          let z : j + (k - j) ≡ k = omega arith in
          get_or-append_right (take j old) (part ++ drop n (drop j old)) j k nan a p ∙ get_or-append part (drop n (drop j old)) nan (k - j) (omega arith) ∙ g (k - j) (omega arith) ∙ ap f z;
      low = λ k p. get_or-append (take j old) (part ++ drop n (drop j old)) nan k (omega (arith, a)) ∙ get_or-take j old k nan p;
      high = λ k p.
          let z : j + (n + (k - j - n)) ≡ k = omega arith in
          get_or-append_right (take j old) (part ++ drop n (drop j old)) j k nan a (omega arith) ∙ get_or-append_right part (drop n (drop j old)) n (k - j) nan l (omega arith)
          ∙ get_or-drop n (drop j old) (k - j - n) nan ∙ get_or-drop j old (n + (k - j - n)) nan ∙ ap (λ (i : ℕ). get_or old i nan) z;
    }
