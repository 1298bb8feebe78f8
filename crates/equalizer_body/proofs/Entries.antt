-- What an option takes is the entry of a list at the place of the option's word, the words of a refusal that at its number. Assumes nothing.
use Rattle.std.proofs.Common.{◌≡◌, ℕ, zero, suc, List, [], ◌∷◌, ◌++◌, map, Some, option_and_then, slice_get, slice_index_or, refl, sym, ap, ◌∙◌}
use Rattle.types.specs.declared.Error.{Error}
use Rattle.types.specs.declared.Error.TheVariants.{Odd, Feedback, Taps, Window, MuCma, MuDd, Bandwidth, Record, Output, Marks, Numbers}
use Rattle.types.specs.Numbers.{error_number}
use Rattle.types.specs.Words.{error_word}
use Rattle.program_words.specs.Words.{divided, place_in}
use Rattle.program_text.specs.Pages.{entry_of}
use Rattle.equalizer_body.specs.declared.options.Kind.{Kind}
use Rattle.equalizer_body.specs.Options.{options, option_words, option_with}
use Rattle.equalizer_body.specs.Entries.{taken, taken_list, reasons}

at : (ks : List Kind) (n : ℕ) (k : Kind) → slice_get ks n ≡ Some k → slice_index_or (map taken ks ++ ([] ∷ [])) n [] ≡ taken k
at [] n k h = cc
at (x ∷ ks) zero k h = let e : x ≡ k = cc in ap taken e
at (x ∷ ks) (suc n) k h = at ks n k h

pub taken_is : (w : List ℕ) (n : ℕ) (k : Kind) → place_in option_words w ≡ Some n → option_with w ≡ Some k → entry_of taken_list n ≡ taken k
unfolding option_with entry_of divided
taken_is w n k p h = let f : slice_get (map (λ p. p.1) options) n ≡ Some k = sym (ap (option_and_then (slice_get (map (λ p. p.1) options))) p) ∙ h in at (map (λ p. p.1) options) n k f

pub reason_is : (e : Error) → entry_of reasons (error_number e) ≡ error_word e
unfolding entry_of divided
reason_is Odd = refl
reason_is Feedback = refl
reason_is Taps = refl
reason_is (Window x y) = refl
reason_is MuCma = refl
reason_is MuDd = refl
reason_is Bandwidth = refl
reason_is Record = refl
reason_is (Output x y) = refl
reason_is (Marks x y) = refl
reason_is Numbers = refl
