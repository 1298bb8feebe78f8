-- A whole number in a text, as a u32 where the most that is taken is one. Assumes nothing.
use Rattle.std.proofs.Common.{◌≡◌, ℕ, ◌<◌, ◌≤◌, ◌^◌, List, Option, Some, None, MatchOption, Result, Ok, Err, OkIff, pos, refl, ◌∙◌, ap, arith}
use Rattle.std.specs.Int.{FitsUnsignedBits}
use Rattle.std.specs.Int.RustNames.{unsigned_abs}
use Rattle.std.specs.Result.{result_ok}
use Rattle.std.proofs.lemmas.Bool.Decides.{nat_tests}
use Rattle.program_words.specs.Wholes.{whole_of}

whole_most : (t : List ℕ) (most n : ℕ) → whole_of t most ≡ Some n → n ≤ most
unfolding whole_of
whole_most t most n h = grind (arith, nat_tests)

by : (E : Type 0) (m o : Option ℕ) → ((n : ℕ) → m ≡ Some n → n < 2 ^ 32)
    → MatchOption m (o ≡ None) (λ n. (r : Result ℕ E) × OkIff r (FitsUnsignedBits 32 (pos n)) (unsigned_abs (pos n)) × (o ≡ result_ok r)) → o ≡ m
by E None o b h = h
by E (Some n) o b (Ok x, i, e) = e ∙ ap Some i.1
by E (Some n) o b (Err x, i, e) = absurd (i (b n refl))

pub narrowed : (E : Type 0) (t : List ℕ) (most : ℕ) (o : Option ℕ) → most < 2 ^ 32
    → MatchOption (whole_of t most) (o ≡ None) (λ n. (r : Result ℕ E) × OkIff r (FitsUnsignedBits 32 (pos n)) (unsigned_abs (pos n)) × (o ≡ result_ok r)) → o ≡ whole_of t most
narrowed E t most o l h = by E (whole_of t most) o (λ n e. let k = whole_most t most n e in omega arith) h
