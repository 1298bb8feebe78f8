-- |v| by a comparison with zero, where -0 stays: it compares as |v| does, what is at most l in size is within -l .. l, and from 1e-30 on it is not flushed. Assumes nothing.
use Prim.Native.Nat.{ℕ, ◌+◌, ◌*◌, ◌≤◌, ◌<◌, zero-le}
use mathlib.Core.Path.{◌≡◌, refl, sym, ap, ◌∙◌, subst}
use mathlib.Core.Bool.{Bool, true, false, cond, not, ◌&&◌, ◌||◌}
use native.Mathlib.Omega.{arith}
use native.Mathlib.Nat.{mul-one, zero-mul, le_trans, le_of_eq}
use lib.IntN.{ℤ}
use lib.Dec.{ltb, eqb}
use borrow.Author.Tests.{le-ltb, ltb-true, ltb-false, eqb-true}
use lib.Ieee.{Float, nan, inf, fin, of_bits, of_fields, odd, up, down, neg, lt, le, eq, below, level}
use Rattle.std.proofs.lemmas.Bool.{and_parts}
use Rattle.laws.specs.Order.{no_true, le_yes}
use Rattle.types.specs.Bits.{zero32}
use Rattle.definition.specs.Floats.{tiny, abs, flush, clip}

abbrev pub size : Float → Float
size v = cond (lt v zero32) (neg v) v

least : (a z : ℕ) → z ≡ 0 → z ≤ a
least a z h = omega arith

-- ---- of a finite number: itself without the sign, or with it where it is a zero

record Sized (s : Bool) (m : ℕ) (e : ℤ) : Type 0 where
  sign : Bool
  is : size (fin s m e) ≡ fin sign m e
  nought : sign ≡ true → m * up e ≡ 0

sized : (s : Bool) (m : ℕ) (e : ℤ) → Sized s m e
unfolding lt neg of_bits of_fields odd
sized false m e = record {
  sign = false;
  is = ap (λ (b : Bool). cond b (fin true m e) (fin false m e)) (le-ltb (m * up e * 1) (0 * 1 * down e) (le_trans (le_of_eq (zero-mul (down e))) zero-le));
  nought = no_true;
}
sized true m e = go (ltb 0 (m * up e * 1 + 0 * 1 * down e)) refl
  where
    none : (a z : ℕ) → a + z ≤ 0 → a ≡ 0
    none a z h = omega arith

    go : (b : Bool) → ltb 0 (m * up e * 1 + 0 * 1 * down e) ≡ b → Sized true m e
    go true h = record { sign = false; is = ap (λ (b : Bool). cond b (fin false m e) (fin true m e)) h; nought = no_true }
    go false h = record {
      sign = true;
      is = ap (λ (b : Bool). cond b (fin false m e) (fin true m e)) h;
      nought = λ _. sym (mul-one (m * up e)) ∙ none (m * up e * 1) (0 * 1 * down e) (ltb-false 0 (m * up e * 1 + 0 * 1 * down e) h);
    }

-- ---- sizes compare as magnitudes do

-- the size and the magnitude of a float, side by side
data Seen : Float → Float → Type 0 where
  no_number : Seen nan nan
  infinite : Seen (inf false) (inf false)
  finite : (t : Bool) (m : ℕ) (e : ℤ) → (t ≡ true → m * up e ≡ 0) → Seen (fin t m e) (fin false m e)

seen : (v : Float) → Seen (size v) (abs v)
unfolding lt neg of_bits of_fields odd
seen nan = no_number
seen (inf true) = infinite
seen (inf false) = infinite
seen (fin s m e) = let z = sized s m e in subst (λ (x : Float). Seen x (fin false m e)) (sym z.is) (finite z.sign m e z.nought)

times_zero : (a b : ℕ) → a ≡ 0 → a * b ≡ 0
times_zero a b h = ap (λ (x : ℕ). x * b) h ∙ zero-mul b

same_below : (s t : Bool) (a b : ℕ) → (s ≡ true → a ≡ 0) → (t ≡ true → b ≡ 0) → below s a t b ≡ ltb a b
same_below false false a b h k = refl
same_below false true a b h k = sym (le-ltb a b (least a b (k refl)))
same_below true false a b h k = ap (ltb 0) (none a b (h refl)) ∙ ap (λ (x : ℕ). ltb x b) (sym (h refl))
  where
    none : (a b : ℕ) → a ≡ 0 → a + b ≡ b
    none a b h = omega arith
same_below true true a b h k = le-ltb b a (least b a (h refl)) ∙ sym (le-ltb a b (least a b (k refl)))

seen_lt : {x a y b : Float} → Seen x a → Seen y b → lt x y ≡ lt a b
unfolding lt
seen_lt no_number w = refl
seen_lt infinite no_number = refl
seen_lt infinite infinite = refl
seen_lt infinite (finite t n d k) = refl
seen_lt (finite s m e h) no_number = refl
seen_lt (finite s m e h) infinite = refl
seen_lt (finite s m e h) (finite t n d k) =
    same_below s t (m * up e * down d) (n * up d * down e) (λ p. times_zero (m * up e) (down d) (h p)) (λ p. times_zero (n * up d) (down e) (k p))

pub size_lt : (u v : Float) → lt (size u) (size v) ≡ lt (abs u) (abs v)
size_lt u v = seen_lt (seen u) (seen v)

-- ---- what `le` says of two numbers

-- a, where a - is only before a zero, is at most ±b
at_most : (g q : Bool) (a b : ℕ) → (g ≡ true → a ≡ 0) → (below g a q b || level g a q b) ≡ true → (a ≤ b) × (q ≡ true → b ≡ 0)
at_most false false a b z h = (le_yes a b h, no_true)
at_most false true a b z h =
    let t = and_parts (eqb a b) (eqb a 0) h in
    let e : a ≡ b = eqb-true a b t.0 in
    let n : a ≡ 0 = eqb-true a 0 t.1 in
    (omega arith, λ _. sym e ∙ n)
at_most true false a b z h = let n : a ≡ 0 = z refl in (omega arith, no_true)
at_most true true a b z h = go (ltb b a) (eqb a b) refl refl h
  where
    none : (a b : ℕ) → a ≡ 0 → b < a → ⊥
    none a b e l = omega arith

    go : (p q : Bool) → ltb b a ≡ p → eqb a b ≡ q → (p || (q && true)) ≡ true → (a ≤ b) × (true ≡ true → b ≡ 0)
    go true q l e h = absurd (none a b (z refl) (ltb-true b a l))
    go false true l e h = (le_trans (le_of_eq (z refl)) zero-le, λ _. sym (eqb-true a b e) ∙ z refl)
    go false false l e h = no_true h

-- ---- so t is neither above l nor below -l

not_above : (s q : Bool) (a b : ℕ) → a ≤ b → (q ≡ true → b ≡ 0) → below q b s a ≡ false
not_above false false a b h k = le-ltb b a h
not_above true false a b h k = refl
not_above false true a b h k = let z = k refl in le-ltb 0 (b + a) (omega arith)
not_above true true a b h k = let z = k refl in le-ltb a b (omega arith)

not_below : (s q : Bool) (a b : ℕ) → a ≤ b → (q ≡ true → b ≡ 0) → below s a (not q) b ≡ false
not_below false false a b h k = refl
not_below true false a b h k = le-ltb b a h
not_below false true a b h k = let z = k refl in le-ltb a b (omega arith)
not_below true true a b h k = let z = k refl in le-ltb 0 (a + b) (omega arith)

within : (t l : Float) → le (size t) l ≡ true → (lt l t ≡ false) × (lt t (neg l) ≡ false)
unfolding le lt eq neg of_bits of_fields odd
within nan l h = no_true h
within (inf true) nan h = no_true h
within (inf true) (inf true) h = no_true h
within (inf true) (inf false) h = (refl, refl)
within (inf true) (fin q n d) h = no_true h
within (inf false) nan h = no_true h
within (inf false) (inf true) h = no_true h
within (inf false) (inf false) h = (refl, refl)
within (inf false) (fin q n d) h = no_true h
within (fin s m e) l h = go l (subst (λ (x : Float). le x l ≡ true) (sized s m e).is h)
  where
    go : (l : Float) → le (fin (sized s m e).sign m e) l ≡ true → (lt l (fin s m e) ≡ false) × (lt (fin s m e) (neg l) ≡ false)
    go nan h = no_true h
    go (inf true) h = no_true h
    go (inf false) h = (refl, refl)
    go (fin q n d) h =
        let z = sized s m e in
        let k = at_most z.sign q (m * up e * down d) (n * up d * down e) (λ p. ap (λ (x : ℕ). x * down d) (z.nought p) ∙ zero-mul (down d)) h in
        (not_above s q (m * up e * down d) (n * up d * down e) k.0 k.1, not_below s q (m * up e * down d) (n * up d * down e) k.0 k.1)

-- ---- and where it is 1e-30 at least, it is not flushed

reaches : (s : Bool) (a b : ℕ) → (below false b s a || level false b s a) ≡ true → b ≤ a
reaches false a b h = le_yes b a h
reaches true a b h = let e = eqb-true b a (and_parts (eqb b a) (eqb b 0) h).0 in omega arith

not_tiny : (t : Float) → le tiny (size t) ≡ true → lt (abs t) tiny ≡ false
unfolding le lt eq neg of_bits of_fields odd
not_tiny nan h = refl
not_tiny (inf s) h = refl
not_tiny (fin s m e) h =
    let z = sized s m e in
    le-ltb _ _ (reaches z.sign _ _ (subst (λ (x : Float). le tiny x ≡ true) z.is h))

-- ---- `integrate`

pub kept : (t l a : Float) → a ≡ size t → (le tiny a && le a l) ≡ true → t ≡ clip (flush t) l
unfolding clip flush
kept t l a e h =
    let p = and_parts (le tiny a) (le a l) h in
    let w = within t l (subst (λ (x : Float). le x l ≡ true) e p.1) in
    let n = not_tiny t (subst (λ (x : Float). le tiny x ≡ true) e p.0) in
    rw (n, w.0, w.1)
