-- What the options take, and the words of the refusals, as lists of texts with a line end behind each.
use Rattle.std.specs.Prelude.{ℕ, List, [], ◌∷◌, ◌++◌, map, flat_map}
use Rattle.types.specs.declared.Error.TheVariants.{Odd, Feedback, Taps, Window, MuCma, MuDd, Bandwidth, Record, Output, Marks, Numbers}
use Rattle.types.specs.Words.{error_word}
use Rattle.equalizer_body.specs.declared.options.Kind.{Kind}
use Rattle.equalizer_body.specs.declared.options.Kind.TheVariants.{Valued, Alone}
use Rattle.equalizer_body.specs.Options.{options, words_taken}

-- what an option takes; one that takes no value has no words
abbrev pub taken : Kind → List ℕ
taken (Valued s) = words_taken s
taken (Alone f) = []

-- texts with a line end behind each
abbrev pub lines : List (List ℕ) → List ℕ
lines ts = flat_map (λ t. t ++ (10 ∷ [])) ts

-- what the options take, in the order of their words
abbrev pub taken_list : List ℕ
taken_list = lines (map (λ p. taken p.1) options)

-- the words of the refusals, each at its number: there is none of 0, 11 and 12
abbrev pub reasons : List ℕ
reasons =
    lines
    ([] ∷ error_word Odd ∷ error_word Feedback ∷ error_word Taps ∷ error_word (Window 0 0) ∷ error_word MuCma ∷ error_word MuDd ∷ error_word Bandwidth ∷ error_word Record
    ∷ error_word (Output 0 0) ∷ error_word (Marks 0 0) ∷ [] ∷ [] ∷ error_word Numbers ∷ [])
