-- The table's rules, each proved at every entry by one test over the whole table. Assumes nothing.
use mathlib.Core.Path.{◌≡◌, refl, ◌∙◌, ap, subst, sym}
use mathlib.Core.Logic.{inl, inr}
use mathlib.Core.Bool.{Bool, false, not, ◌&&◌}
use mathlib.Core.List.{List, [], ◌∷◌, ◌++◌, map, reverse}
use Prim.Native.Nat.{ℕ, zero, suc, ◌+◌, ◌-◌, ◌*◌, ◌%◌, ◌^◌, ◌<◌, ◌≤◌, min}
use native.Mathlib.Nat.{mod-eq_of_lt, add_comm, le_of_suc-le-suc, not-suc-le-zero}
use native.Mathlib.Omega.{arith}
use lib.Dec.{T, leb, eqb, eqb→eq, leb→le}
use lib.ListN.{length, get_or, take, drop, length-take, length-drop, length-reverse, get_or-append, get_or-eq_default}
use lib.Seq.{get_or-drop, get_or-take, get_or-append-add}
use lib.Ieee.{Float, nan, inf, fin, binary32, of_bits, of_fields, nan_bits, odd, up, down, lt, neg}
use lib.Ieee.Fits.{and_l, and_r}
use lib.Ieee.Bits.{is_true}
use lib.Ieee.Exact.{HasValue}
use lib.Count.{count_trailing_zeros}
use Rattle.laws.specs.Bound.{AtMost, Within, le_or_lt}
use Rattle.tables.specs.Table.{cos_bits, cos_at}
use Rattle.tables.specs.Rules.{TableRules, sign, size33, squares}
use Rattle.tables.proofs.Tested.{at, at2, every, every2, get_d_reverse}

len : length cos_bits ≡ 4097
unfolding cos_bits
len = refl

in_table : (k : ℕ) → k < 4097 → k < length cos_bits
in_table k h = subst (λ (n : ℕ). k < n) (sym len) h

-- past the end
pub past_end : (k : ℕ) → 4097 ≤ k → of_bits binary32 0 ≡ cos_at k
unfolding cos_at
past_end k h = ap (of_bits binary32) (sym (get_or-eq_default cos_bits 0 (subst (λ (n : ℕ). n ≤ k) (sym len) h)))

-- ---- 1. the table is the same from both ends
mirrored : T (every2 eqb cos_bits (reverse cos_bits))
unfolding cos_bits
mirrored = tt

mirror_at : (n k : ℕ) → n ≡ 4097 → n - suc k ≡ 4096 - k
mirror_at n k e = omega arith

pub mirror : (k : ℕ) → k < 4097 → cos_at k ≡ cos_at (4096 - k)
unfolding cos_at
mirror k h =
    let g = in_table k h in
    ap (of_bits binary32)
    (eqb→eq (get_or cos_bits k 0) (get_or (reverse cos_bits) k 0) (at2 eqb cos_bits (reverse cos_bits) mirrored k g (subst (λ (n : ℕ). k < n) (sym (length-reverse cos_bits)) g))
    ∙ get_d_reverse cos_bits k g
    ∙ ap (λ (n : ℕ). get_or cos_bits n 0) (mirror_at (length cos_bits) k len))

-- ---- 2. it falls from 0 to 2048, at each step
unfoldable falling : ℕ → ℕ → Bool
falling x y = lt (of_bits binary32 y) (of_bits binary32 x)

falls_all : T (every2 falling (take 2048 cos_bits) (drop 1 cos_bits))
unfolding cos_bits falling of_bits of_fields odd count_trailing_zeros lt
falls_all = tt

next_in : (k : ℕ) → k < 2048 → k < 4096
next_in k h = omega arith

falls : (k : ℕ) → k < 2048 → T (lt (cos_at (1 + k)) (cos_at k))
unfolding cos_at falling
falls k h =
    let a : k < length (take 2048 cos_bits) = subst (λ (n : ℕ). k < n) (sym (length-take 2048 cos_bits ∙ ap (min 2048) len)) h in
    let b : k < length (drop 1 cos_bits) = subst (λ (n : ℕ). k < n) (sym (length-drop 1 cos_bits ∙ ap (λ (n : ℕ). n - 1) len)) (next_in k h) in
    subst (λ (n : ℕ). T (falling n (get_or cos_bits (1 + k) 0))) (get_or-take 2048 cos_bits k 0 h)
    (subst (λ (n : ℕ). T (falling (get_or (take 2048 cos_bits) k 0) n)) (get_or-drop 1 cos_bits k 0)
    (at2 falling (take 2048 cos_bits) (drop 1 cos_bits) falls_all k a b))

-- ---- 3. as whole numbers of 2 ^ -33: the entry k and the entry k + 3072 (mod 4096), a cosine and its sine, have squares that sum to 1, to 2 ^ -23
-- x is a whole number of them
unfoldable exact : Float → Bool
unfolding size33
exact nan = false
exact (inf s) = false
exact (fin s m e) = eqb (m * up e * 2 ^ 33) (size33 (fin s m e) * down e)

unfoldable exact_bits : ℕ → ℕ → Bool
exact_bits k x = exact (of_bits binary32 x)

exact_all : T (every exact_bits 0 cos_bits)
unfolding cos_bits exact_bits exact size33 of_bits of_fields odd count_trailing_zeros
exact_all = tt

exact_says : (x : Float) → T (exact x) → HasValue x (sign x) (size33 x) (2 ^ 33)
unfolding exact sign
exact_says nan t = t
exact_says (inf s) t = t
exact_says (fin s m e) t = (refl, eqb→eq (m * up e * 2 ^ 33) (size33 (fin s m e) * down e) t)

whole : (k : ℕ) → k < 4097 → HasValue (cos_at k) (sign (cos_at k)) (size33 (cos_at k)) (2 ^ 33)
unfolding cos_at exact_bits
whole k h = exact_says (cos_at k) (at exact_bits cos_bits exact_all k (in_table k h))

unfoldable round_one : ℕ → ℕ → Bool
round_one x y = leb (squares (of_bits binary32 x) (of_bits binary32 y)) (2 ^ 66 + 2 ^ 43) && leb (2 ^ 66) (squares (of_bits binary32 x) (of_bits binary32 y) + 2 ^ 43)

unfoldable turned : List ℕ
unfolding cos_bits
turned = take 1024 (drop 3072 cos_bits) ++ take 3073 cos_bits

circle_all : T (every2 round_one cos_bits turned)
unfolding cos_bits turned round_one size33 of_bits of_fields odd count_trailing_zeros
circle_all = tt

turned_length : length turned ≡ 4097
unfolding cos_bits turned
turned_length = refl

front_in : (k : ℕ) → k < 1024 → k + 3072 < 4096
front_in k h = omega arith

back_of : (k : ℕ) → 1024 ≤ k → k < 4097 → (k + 3072) % 4096 ≡ k - 1024
back_of k h g = omega arith

split_back : (k : ℕ) → 1024 ≤ k → 1024 + (k - 1024) ≡ k
split_back k h = omega arith

back_in : (k : ℕ) → 1024 ≤ k → k < 4097 → k - 1024 < 3073
back_in k h g = omega arith

swap : (k : ℕ) → 3072 + k ≡ k + 3072
swap k = omega arith

front_length : length (take 1024 (drop 3072 cos_bits)) ≡ 1024
unfolding cos_bits
front_length = refl

turned_at : (k : ℕ) → k < 4097 → get_or turned k 0 ≡ get_or cos_bits ((k + 3072) % 4096) 0
unfolding turned
turned_at k h = elim (le_or_lt 1024 k) [
  | inl l ↦
      ap (λ (n : ℕ). get_or turned n 0) (sym (split_back k l) ∙ ap (λ (n : ℕ). n + (k - 1024)) (sym front_length))
      ∙ get_or-append-add (take 1024 (drop 3072 cos_bits)) (take 3073 cos_bits) (k - 1024) 0
      ∙ get_or-take 3073 cos_bits (k - 1024) 0 (back_in k l h)
      ∙ ap (λ (n : ℕ). get_or cos_bits n 0) (sym (back_of k l h))
  | inr l ↦
      get_or-append (take 1024 (drop 3072 cos_bits)) (take 3073 cos_bits) 0 k (subst (λ (n : ℕ). k < n) (sym front_length) l)
      ∙ get_or-take 1024 (drop 3072 cos_bits) k 0 l
      ∙ get_or-drop 3072 cos_bits k 0
      ∙ ap (λ (n : ℕ). get_or cos_bits n 0) (swap k ∙ sym (mod-eq_of_lt (front_in k l)))
]

circle : (k : ℕ) → k < 4097
    → (squares (cos_at k) (cos_at ((k + 3072) % 4096)) ≤ 2 ^ 66 + 2 ^ 43) × (2 ^ 66 ≤ squares (cos_at k) (cos_at ((k + 3072) % 4096)) + 2 ^ 43)
unfolding cos_at round_one
circle k h =
    let t : T (round_one (get_or cos_bits k 0) (get_or cos_bits ((k + 3072) % 4096) 0)) =
    subst (λ (n : ℕ). T (round_one (get_or cos_bits k 0) n)) (turned_at k h) (at2 round_one cos_bits turned circle_all k (in_table k h) (subst (λ (n : ℕ). k < n) (sym turned_length) h)) in
    let s = squares (cos_at k) (cos_at ((k + 3072) % 4096)) in
    (leb→le s (2 ^ 66 + 2 ^ 43) (and_l (leb s (2 ^ 66 + 2 ^ 43)) (leb (2 ^ 66) (s + 2 ^ 43)) t), leb→le (2 ^ 66) (s + 2 ^ 43) (and_r (leb s (2 ^ 66 + 2 ^ 43)) (leb (2 ^ 66) (s + 2 ^ 43)) t))

-- ---- 4. finite, and 1 at most
unfoldable unit : Float → Bool
unit nan = false
unit (inf s) = false
unit (fin s m e) = leb (m * up e * 2 ^ 149) (2 ^ 149 * down e)

unfoldable unit_bits : ℕ → ℕ → Bool
unit_bits k x = unit (of_bits binary32 x)

unit_all : T (every unit_bits 0 cos_bits)
unfolding cos_bits unit_bits unit of_bits of_fields odd count_trailing_zeros
unit_all = tt

unit_says : (x : Float) → T (unit x) → Within binary32 0 x
unfolding unit AtMost
unit_says nan t = t
unit_says (inf s) t = t
unit_says (fin s m e) t = leb→le (m * up e * 2 ^ 149) (2 ^ 149 * down e) t

pub at_most_one : (k : ℕ) → k < 4097 → Within binary32 0 (cos_at k)
unfolding cos_at unit_bits
at_most_one k h = unit_says (cos_at k) (at unit_bits cos_bits unit_all k (in_table k h))

-- ---- 5. no pattern is a NaN's
unfoldable number : ℕ → ℕ → Bool
number k x = not (nan_bits binary32 x)

number_all : T (every number 0 cos_bits)
unfolding cos_bits number nan_bits
number_all = tt

pub a_number : (k : ℕ) → k < 4097 → T (not (nan_bits binary32 (get_or cos_bits k 0)))
unfolding number
a_number k h = at number cos_bits number_all k (in_table k h)

-- ---- 6. half a turn further on the sign is the opposite, in the first quarter
opposite_all : map (of_bits binary32) (take 1024 (drop 2048 cos_bits)) ≡ map (λ (x : ℕ). neg (of_bits binary32 x)) (take 1024 cos_bits)
unfolding cos_bits of_bits of_fields odd count_trailing_zeros neg
opposite_all = refl

at_map : (f : ℕ → Float) (xs : List ℕ) (d : Float) (k : ℕ) → k < length xs → get_or (map f xs) k d ≡ f (get_or xs k 0)
at_map f [] d k h = absurd (not-suc-le-zero h)
at_map f (x ∷ xs) d zero h = refl
at_map f (x ∷ xs) d (suc k) h = at_map f xs d k (le_of_suc-le-suc h)

quarter_length : length (take 1024 cos_bits) ≡ 1024
unfolding cos_bits
quarter_length = refl

third_length : length (take 1024 (drop 2048 cos_bits)) ≡ 1024
unfolding cos_bits
third_length = refl

pub half_turn : (k : ℕ) → k < 1024 → cos_at (2048 + k) ≡ neg (cos_at k)
unfolding cos_at
half_turn k h =
    ap (of_bits binary32) (sym (get_or-drop 2048 cos_bits k 0) ∙ sym (get_or-take 1024 (drop 2048 cos_bits) k 0 h))
    ∙ sym (at_map (of_bits binary32) (take 1024 (drop 2048 cos_bits)) nan k (subst (λ (n : ℕ). k < n) (sym third_length) h))
    ∙ ap (λ (l : List Float). get_or l k nan) opposite_all
    ∙ at_map (λ (x : ℕ). neg (of_bits binary32 x)) (take 1024 cos_bits) nan k (subst (λ (n : ℕ). k < n) (sym quarter_length) h)
    ∙ ap (λ (x : ℕ). neg (of_bits binary32 x)) (get_or-take 1024 cos_bits k 0 h)

-- so the second quarter is the first, backwards, with the opposite sign
pub second_quarter : (k : ℕ) → 1024 < k → k < 2049 → neg (cos_at (2048 - k)) ≡ cos_at k
second_quarter k l h =
    sym (half_turn (2048 - k) (back k l)) ∙ ap cos_at (again k h) ∙ sym (mirror k (here k h))
  where
    back : (k : ℕ) → 1024 < k → 2048 - k < 1024
    back k l = omega arith

    again : (k : ℕ) → k < 2049 → 2048 + (2048 - k) ≡ 4096 - k
    again k h = omega arith

    here : (k : ℕ) → k < 2049 → k < 4097
    here k h = omega arith

-- ---- all of them
at_first : cos_at 0 ≡ of_bits binary32 0x3f80_0000
unfolding cos_at cos_bits
at_first = refl

pub at_quarter : cos_at 1024 ≡ of_bits binary32 0
unfolding cos_at cos_bits
at_quarter = refl

at_three_quarters : cos_at 3072 ≡ of_bits binary32 0
unfolding cos_at cos_bits
at_three_quarters = refl

pub table_rules : TableRules
table_rules = record {
  long = len;
  first = at_first;
  quarter = at_quarter;
  three_quarters = at_three_quarters;
  mirror = mirror;
  half_turn = λ k h. subst (λ (n : ℕ). cos_at n ≡ neg (cos_at k)) (add_comm 2048 k) (half_turn k h);
  falls = λ k h. is_true _ (subst (λ (n : ℕ). T (lt (cos_at n) (cos_at k))) (add_comm 1 k) (falls k h));
  whole = whole;
  circle = circle;
}
