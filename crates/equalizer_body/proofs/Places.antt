-- The option at the place of a word in the list of the words is the first of the table whose word it is. Assumes nothing.
use Rattle.std.proofs.Common.{◌≡◌, ℕ, zero, suc, ◌+◌, Bool, true, false, cond, eqb, List, [], ◌∷◌, ◌++◌, map, find, Option, Some, None, option_map, option_and_then, slice_get, bytes_eq, refl, sym, ◌∙◌, subst, add-zero, ltb, ltb-true, arith}
use Rattle.std.specs.Str.{IsUtf8, IsAscii}
use Rattle.std.specs.List.{list_all}
use Rattle.std.proofs.lemmas.Bool.Decides.{nat_tests}
use Rattle.std.proofs.lemmas.Slice.Eq.{bytes_eq-Decides}
use Rattle.std.proofs.lemmas.Str.{IsUtf8-from_ascii}
use Rattle.program_words.specs.Words.{divided, same_of, place_in_from, place_in}
use Rattle.equalizer_body.specs.declared.options.Kind.{Kind}
use Rattle.equalizer_body.specs.Options.{options, first_named, option_with}

eqb_turned : (a b : ℕ) → eqb a b ≡ eqb b a
eqb_turned a b = grind (arith, nat_tests)

-- two texts are the same where `==` says so
same_is : (a b : List ℕ) → same_of a b ≡ bytes_eq b a
unfolding same_of
same_is [] [] = refl
same_is [] (y ∷ b) = refl
same_is (x ∷ a) [] = refl
same_is (x ∷ a) (y ∷ b) = rw (same_is a b, eqb_turned x y)

-- what is found at a place, where the place is known by a test
at_place : (g : ℕ → Option Kind) (c : Bool) (n : ℕ) (o : Option ℕ) (k : Kind) (q : Option (List ℕ × Kind)) (t : List ℕ) → g n ≡ Some k
    → option_and_then g o ≡ option_map (λ p. p.1) q → option_and_then g (cond c (Some n) o) ≡ option_map (λ p. p.1) (cond c (Some (t, k)) q)
at_place g true n o k q t h r = h
at_place g false n o k q t h r = r

abbrev is_plain : List ℕ → Bool
is_plain t = list_all (λ b. ltb b 128) t

ascii : (t : List ℕ) → is_plain t ≡ true → IsAscii t
ascii [] u i = omega arith
ascii (b ∷ t) u zero = let a : ltb b 128 ≡ true = grind arith in ltb-true b 128 a
ascii (b ∷ t) u (suc i) = let a : is_plain t ≡ true = grind arith in ascii t a i

module _ (w : List ℕ) where
  -- the table's options are those that g gives from n on; z stands behind the last blank
  placed : (ps : List (List ℕ × Kind)) (z : List ℕ) (g : ℕ → Option Kind) (n : ℕ) → ((i : ℕ) → g (n + i) ≡ slice_get (map (λ p. p.1) ps) i)
      → option_and_then g (place_in_from n (map (λ p. p.0) ps ++ (z ∷ [])) w) ≡ option_map (λ p. p.1) (find (λ p. bytes_eq w p.0) ps)
  unfolding place_in_from
  placed [] z g n h = refl
  placed (p ∷ []) z g n h = rw (same_is p.0 w) (at_place g (bytes_eq w p.0) n None p.1 None p.0 (rw add-zero at (h 0)) refl)
  placed (p ∷ q ∷ ps) z g n h =
      rw (same_is p.0 w)
      (at_place g (bytes_eq w p.0) n (place_in_from (n + 1) (q.0 ∷ (map (λ r. r.0) ps ++ (z ∷ []))) w) p.1 (find (λ r. bytes_eq w r.0) (q ∷ ps)) p.0 (rw add-zero at (h 0))
      (placed (q ∷ ps) z g (n + 1) (λ i. let e : (n + 1) + i ≡ n + suc i = omega arith in rw e (h (suc i)))))

  pub option_is : option_with w ≡ first_named options w
  unfolding option_with place_in divided
  option_is = placed options [] (slice_get (map (λ p. p.1) options)) 0 (λ i. let e : 0 + i ≡ i = omega arith in rw e)

  -- bytes that are no text are no word
  apart_by : (c : Bool) (t : List ℕ) → ¬ (IsUtf8 w) → is_plain t ≡ true → bytes_eq w t ≡ c → c ≡ false
  apart_by false t h u e = refl
  apart_by true t h u e = let f : w ≡ t = (bytes_eq-Decides w t).0 e in absurd (h (subst (λ x. IsUtf8 x) (sym f) (IsUtf8-from_ascii t (ascii t u))))

  none_named : (ps : List (List ℕ × Kind)) → ¬ (IsUtf8 w) → list_all (λ p. is_plain p.0) ps ≡ true → first_named ps w ≡ None
  none_named [] h u = refl
  none_named (p ∷ ps) h u = let a : is_plain p.0 ≡ true = grind arith in let b : list_all (λ q. is_plain q.0) ps ≡ true = grind arith in rw (apart_by (bytes_eq w p.0) p.0 h a refl) (none_named ps h b)

  pub no_option : ¬ (IsUtf8 w) → option_with w ≡ None
  no_option h = option_is ∙ none_named options h refl
