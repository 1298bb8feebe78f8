-- Loops over slices of floats. Assumes nothing.
--     Mapped f old n l            a loop that goes up has replaced the first n elements of old
--     mapped_none, mapped-more    before the first store; a store at n
--     mapped-read                 what stands from n on is old's
--     part_even, part_odd         the parts of complex number i
--     tabulate_take               the first n elements of a list
--     mapped-long                 it keeps its length
--     shift_list, start_is        shift, start weights
--     clear_all                   all +0
use Prim.Native.Nat.{ℕ, zero, suc, ◌+◌, ◌-◌, ◌*◌, ◌/◌, ◌%◌, ◌<◌, ◌≤◌}
use mathlib.Core.Path.{◌≡◌, refl, sym, ◌∙◌, ap}
use mathlib.Core.List.{List, [], ◌∷◌, ◌++◌, append-nil}
use native.Mathlib.Omega.{arith}
use native.Mathlib.Numerals.{add-one}
use lib.ListN.{length, get_or, set, take, drop, length-append, length-drop, drop_of_length-le}
use lib.Seq.{take-suc, drop-cons, set_at, append_snoc, get_or-append-add, get_or-drop}
use lib.Ieee.{Float, nan}
use Rattle.types.specs.declared.C32.{C32}
use Rattle.types.specs.Bits.{zero32, one32}
use Rattle.definition.specs.Slices.{shifted, zeros, part, tabulate, start_weights}
use Rattle.definition_laws.proofs.Every.{length_tabulate}

-- ---- the first n elements replaced: l is f 0 .. f (n − 1), then the rest of old
pub record Mapped (f : ℕ → Float) (old : List Float) (n : ℕ) (l : List Float) : Type 0 where
  pub is : l ≡ tabulate n f ++ drop n old

pub mapped_none : (f : ℕ → Float) (old : List Float) → Mapped f old 0 old
unfolding tabulate
mapped_none f old = record { is = refl }

module _ {f : ℕ → Float} {old : List Float} where
  pub mapped-more : (n : ℕ) {l : List Float} (v : Float) → v ≡ f n → n < length old → Mapped f old n l → Mapped f old (n + 1) (set l n v)
  unfolding tabulate
  mapped-more n {l} v q h m = record {
    is =
        rw (m.is, q, add-one, drop-cons old n nan)
        (set_at (tabulate n f) (get_or old n nan) (drop (suc n) old) (f n) n (length_tabulate n f) ∙ sym (append_snoc (tabulate n f) (f n) (drop (suc n) old)));
  }

  pub mapped-read : (n q : ℕ) (d : Float) {l : List Float} → n ≤ q → Mapped f old n l → get_or l q d ≡ get_or old q d
  mapped-read n q d h m =
      let i : length (tabulate n f) + (q - n) ≡ q = omega (arith, length_tabulate n f) in
      let j : n + (q - n) ≡ q = omega arith in
      rw m.is (rw i at (get_or-append-add (tabulate n f) (drop n old) (q - n) d) ∙ get_or-drop n old (q - n) d ∙ rw j)

  pub mapped-long : (n : ℕ) {l : List Float} → n ≤ length old → Mapped f old n l → length l ≡ length old
  mapped-long n h m = rw m.is (simp (length-append, length_tabulate, length-drop) (omega arith))

-- ---- the parts of complex numbers
pub part_even : (re im : ℕ → Float) (i : ℕ) → part re im (2 * i) ≡ re i
unfolding part
part_even re im i =
    let r : 2 * i % 2 ≡ 0 = omega arith in
    let q : 2 * i / 2 ≡ i = omega arith in
    rw (r, q)

pub part_odd : (re im : ℕ → Float) (i : ℕ) → part re im (2 * i + 1) ≡ im i
unfolding part
part_odd re im i =
    let r : (2 * i + 1) % 2 ≡ 1 = omega arith in
    let q : (2 * i + 1) / 2 ≡ i = omega arith in
    rw (r, q)

-- the first n elements of a list
pub tabulate_take : (l : List Float) (n : ℕ) → n ≤ length l → tabulate n (λ q. get_or l q nan) ≡ take n l
unfolding tabulate
tabulate_take l zero h = refl
tabulate_take l (suc n) h = rw (tabulate_take l n (omega arith), take-suc l n nan (omega arith))

-- a number shifted in at the front
pub shift_list : (n : ℕ) (v : C32) (old buf : List Float) → 2 * n ≤ length old
    → Mapped (λ q. get_or (v.re ∷ v.im ∷ old) q nan) old (2 * n) buf → buf ≡ shifted n v old
unfolding shifted
shift_list n v old buf h m =
    m.is ∙ ap (λ (t : List Float). t ++ drop (2 * n) old) (tabulate_take (v.re ∷ v.im ∷ old) (2 * n) (omega arith))

-- all +0
tabulate_zeros : (n : ℕ) → tabulate n (λ q. zero32) ≡ zeros n
unfolding tabulate
tabulate_zeros zero = refl
tabulate_zeros (suc n) = ap (λ (l : List Float). l ++ zero32 ∷ []) (tabulate_zeros n) ∙ snoc n
  where
    snoc : (n : ℕ) → zeros n ++ zero32 ∷ [] ≡ zeros (suc n)
    snoc zero = refl
    snoc (suc n) = ap (λ (l : List Float). zero32 ∷ l) (snoc n)

pub clear_all : (old l : List Float) (i : ℕ) → length old ≤ i → i ≤ length old → Mapped (λ q. zero32) old i l → l ≡ zeros (length old)
clear_all old l i h g m =
    let e : i ≡ length old = omega arith in
    m.is ∙ rw (drop_of_length-le old {i = i} h, append-nil, e) (tabulate_zeros (length old))

-- the start weights
pub start_is : (n c : ℕ) (w z : List Float) → length w ≡ 2 * n → z ≡ zeros (length w) → set z (2 * c) one32 ≡ start_weights n c
unfolding start_weights
start_is n c w z h e = rw (e, h)
