-- What a byte divides a list into, and words in it, by the library's words for a `split` and a `position`. Assumes nothing.
use Rattle.std.proofs.Common.{◌≡◌, ℕ, zero, suc, ◌+◌, ◌<◌, ◌≤◌, Bool, true, false, cond, eqb, ltb, List, [], ◌∷◌, length, get_or, take, Some, None, unwrap_or, refl, ap, ◌∙◌, sym, arith}
use Rattle.std.specs.List.{position, position_or_len, position_from, slice_split, onto_first, count_by}
use Rattle.std.specs.Cmp.Lexicographic.{pointwise}
use Rattle.std.proofs.lemmas.List.Recursion.{is_position_or_len}
use Rattle.std.proofs.lemmas.List.Sums.{prefix_len-le-length}
use Rattle.std.proofs.lemmas.List.Splits.{length-slice_split}
use Rattle.std.proofs.lemmas.Iterator.Adapters.{position_from-zero}
use borrow.Author.Tests.{eqb-false, ltb-false}
use Rattle.program_words.specs.Words.{before, onto, divided, same_of, place_in_from, place_in}

-- the bytes before the first d are those before the first that passes
pub before_is : (d : ℕ) (l : List ℕ) → before d l ≡ position_or_len (λ b. eqb b d) l
unfolding before
before_is d l = is_position_or_len (before d) (λ b. eqb b d) refl (λ b t. ap (λ (n : ℕ). cond (eqb b d) 0 n) (omega arith)) l

pub before_most : (d : ℕ) (l : List ℕ) → before d l ≤ length l
before_most d l = rw (before_is d l) (prefix_len-le-length _ l)

none_by : (c : Bool) (d b : ℕ) (l : List ℕ) → eqb b d ≡ c → (length l ≤ before d l → (j : ℕ) → j < length l → get_or l j 0 ≡ d → ⊥) → suc (length l) ≤ cond c 0 (suc (before d l))
    → (j : ℕ) → j < suc (length l) → get_or (b ∷ l) j 0 ≡ d → ⊥
none_by true d b l q f h j k e = omega arith
none_by false d b l q f h zero k e = eqb-false b d q e
none_by false d b l q f h (suc j) k e = f (omega arith) j (omega arith) e

-- no byte is d where all stand before the first
pub before_none : (d : ℕ) (l : List ℕ) → length l ≤ before d l → (j : ℕ) → j < length l → get_or l j 0 ≡ d → ⊥
unfolding before
before_none d [] h j k e = omega arith
before_none d (b ∷ l) h j k e = none_by (eqb b d) d b l refl (before_none d l) h j k e

-- the place of what is found, or the end
pub found_by : (c : Bool) (p n : ℕ) → ltb p n ≡ c → p ≤ n → unwrap_or (cond c (Some p) None) n ≡ p
found_by true p n e h = refl
found_by false p n e h = let k = ltb-false p n e in omega arith

-- the place of the first d, or the end
pub end_is : (d : ℕ) (l : List ℕ) → unwrap_or (position (λ b. eqb b d) l) (length l) ≡ before d l
end_is d l =
    let p = position_or_len (λ b. eqb b d) l in
    found_by (ltb p (length l)) p (length l) refl (prefix_len-le-length _ l) ∙ sym (before_is d l)

onto_some : (b : ℕ) (ts : List (List ℕ)) → 0 < length ts → (onto b ts ≡ onto_first b ts) × (0 < length (onto b ts))
onto_some b [] h = absurd (omega arith)
onto_some b (t ∷ ts) h = (refl, omega arith)

divided_by : (c : Bool) (b : ℕ) (ts us : List (List ℕ)) → ts ≡ us → 0 < length ts
    → (cond c ([] ∷ ts) (onto b ts) ≡ cond c ([] ∷ us) (onto_first b us)) × (0 < length (cond c ([] ∷ ts) (onto b ts)))
divided_by true b ts us e h = (rw e, omega arith)
divided_by false b ts us e h = ((onto_some b ts h).0 ∙ rw e, (onto_some b ts h).1)

divided_both : (d : ℕ) (l : List ℕ) → (divided d l ≡ slice_split (λ b. eqb b d) l) × (0 < length (divided d l))
unfolding divided
divided_both d [] = (refl, omega arith)
divided_both d (b ∷ l) = divided_by (eqb b d) b (divided d l) (slice_split (λ b. eqb b d) l) (divided_both d l).0 (divided_both d l).1

-- what a byte divides a list into is what a split at that byte gives
pub divided_is : (d : ℕ) (l : List ℕ) → divided d l ≡ slice_split (λ b. eqb b d) l
divided_is d l = (divided_both d l).0

-- two texts are the same where `==` says so
pub same_is : (a b : List ℕ) → pointwise eqb a b ≡ same_of a b
unfolding same_of
same_is [] [] = refl
same_is [] (y ∷ b) = refl
same_is (x ∷ a) [] = refl
same_is (x ∷ a) (y ∷ b) = rw (same_is a b)

module _ (word : List ℕ) where
  place_by : (ts : List (List ℕ)) (k n : ℕ) → length ts ≡ suc k → place_in_from n ts word ≡ position_from (λ t. pointwise eqb t word) n (take k ts)
  unfolding place_in_from
  place_by [] k n h = absurd (omega arith)
  place_by (t ∷ []) zero n h = refl
  place_by (t ∷ []) (suc k) n h = absurd (omega arith)
  place_by (t ∷ u ∷ ts) zero n h = absurd (omega arith)
  place_by (t ∷ u ∷ ts) (suc k) n h = rw (same_is t word, place_by (u ∷ ts) k (n + 1) (omega arith))

  -- the place of a word is its place among as many parts as there are blanks
  pub place_is : (l : List ℕ) → position (λ t. pointwise eqb t word) (take (count_by (λ b. eqb b 32) l) (slice_split (λ b. eqb b 32) l)) ≡ place_in l word
  unfolding place_in
  place_is l =
      let ts = slice_split (λ b. eqb b 32) l in
      let h : length ts ≡ suc (count_by (λ b. eqb b 32) l) = omega (arith, length-slice_split (λ b. eqb b 32) l) in
      position_from-zero _ (take (count_by (λ b. eqb b 32) l) ts) ∙ rw (divided_is 32 l) (sym (place_by ts _ 0 h))
