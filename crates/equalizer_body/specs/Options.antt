-- The options: the words that name them, what each takes, and what the text of a value says.
use Rattle.std.specs.Prelude.{ℕ, ◌-◌, cond, bytes_eq, find, List, [], ◌∷◌, ◌++◌, map, codes, flat_map, Option, Some, option_map, option_and_then, slice_get}
use Rattle.types.specs.declared.TheConstants.EqParams.{NEVER_SWITCH}
use Rattle.program_words.specs.Words.{place_in}
use Rattle.program_words.specs.Wholes.{whole_of}
use Rattle.program.specs.declared.arguments.Value.{Value}
use Rattle.program.specs.declared.arguments.Stream.{Stream}
use Rattle.program.specs.declared.arguments.Stream.TheVariants.{Standard, File}
use Rattle.equalizer_body.specs.declared.options.About.TheVariants.{Help, Version}
use Rattle.equalizer_body.specs.declared.options.Flag.TheVariants.{Text, About}
use Rattle.equalizer_body.specs.declared.options.Setting.{Setting}
use Rattle.equalizer_body.specs.declared.options.Setting.TheVariants.{Input, Output, Marks, Numbers, Curve, MuCma, MuDd, Bandwidth, Frequency, Taps, Feedback, CmaSymbols, Block, Constellation, Path}
use Rattle.equalizer_body.specs.declared.options.Kind.{Kind}
use Rattle.equalizer_body.specs.declared.options.Kind.TheVariants.{Valued, Alone}

-- the words, each with its option
abbrev pub options : List (List ℕ × Kind)
options =
    (codes "--in", Valued Input) ∷ (codes "--out", Valued Output) ∷ (codes "--marks", Valued Marks) ∷ (codes "--numbers", Valued Numbers)
    ∷ (codes "--curve", Valued Curve) ∷ (codes "--mu-cma", Valued MuCma) ∷ (codes "--mu-dd", Valued MuDd) ∷ (codes "--bandwidth", Valued Bandwidth)
    ∷ (codes "--frequency", Valued Frequency) ∷ (codes "--taps", Valued Taps) ∷ (codes "--feedback", Valued Feedback)
    ∷ (codes "--cma-symbols", Valued CmaSymbols) ∷ (codes "--block", Valued Block) ∷ (codes "--constellation", Valued Constellation)
    ∷ (codes "--path", Valued Path) ∷ (codes "--text", Alone Text) ∷ (codes "--help", Alone (About Help)) ∷ (codes "-h", Alone (About Help))
    ∷ (codes "--version", Alone (About Version)) ∷ []

-- what stands with the first word that is w
abbrev pub first_named : {A : Type 0} → List (List ℕ × A) → List ℕ → Option A
first_named ps w = option_map (λ p. p.1) (find (λ p. bytes_eq w p.0) ps)

-- the list of the words, with a blank behind each
abbrev pub option_words : List ℕ
option_words = flat_map (λ p. p.0 ++ (32 ∷ [])) options

-- the option at the place that a word has in the list of the words
unfoldable pub option_with : List ℕ → Option Kind
option_with w = option_and_then (slice_get (map (λ p. p.1) options)) (place_in option_words w)

-- what an option takes
abbrev pub words_taken : Setting → List ℕ
words_taken Input = codes "the name of a file, or - for standard input"
words_taken Output = codes "the name of a file, or - for standard output"
words_taken Marks = codes "the name of a file, or - for standard output"
words_taken Numbers = codes "the name of a file, or - for standard output"
words_taken Curve = codes "the name of a file, or - for standard output"
words_taken MuCma = codes "a number from 0.00001 to 1, of at most 15 digits"
words_taken MuDd = codes "a number from 0.00001 to 1, of at most 15 digits"
words_taken Bandwidth = codes "0, or a number from 0.0001 to 0.2, of at most 15 digits"
words_taken Frequency = codes "a number, held to -0.125 to 0.125, of at most 15 digits"
words_taken Taps = codes "an odd number from 3 to 63"
words_taken Feedback = codes "a whole number from 0 to 63"
words_taken CmaSymbols = codes "a whole number from 0 to 4294967294, or never"
words_taken Block = codes "a whole number from 1 to 4096"
words_taken Constellation = codes "bpsk, qpsk, 8psk, 16qam or 64qam"
words_taken Path = codes "plain or fast"

-- what a value of text t names: `-` standard input or output, any other a file
abbrev pub name_with : List ℕ → Value → Stream Value
name_with t v = cond (bytes_eq t (codes "-")) Standard (File v)

-- for how many samples a text says that it stays blind: `never` is the count that is not reached
abbrev pub symbols_with : List ℕ → Option ℕ
symbols_with t = cond (bytes_eq t (codes "never")) (Some NEVER_SWITCH) (whole_of t (NEVER_SWITCH - 1))
