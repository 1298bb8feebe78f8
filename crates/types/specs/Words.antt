-- The words of refusals, modes and constellations.
use Rattle.std.specs.Prelude.{ℕ, bytes_eq, find, List, ◌++◌, codes, decimal, ok_or, Option, Some, None, Result}
use Rattle.types.specs.declared.Error.{Error}
use Rattle.types.specs.declared.Error.TheVariants.{Odd, Feedback, Taps, Window, MuCma, MuDd, Bandwidth, Record, Output, Marks, Numbers}
use Rattle.types.specs.declared.numbers.UnknownNumber.{UnknownNumber}
use Rattle.types.specs.declared.numbers.Lengths.{Lengths}
use Rattle.types.specs.declared.EqMode.{EqMode}
use Rattle.types.specs.declared.EqMode.TheVariants.{Cma, Decision}
use Rattle.types.specs.declared.EqConstellation.{EqConstellation}
use Rattle.types.specs.declared.EqConstellation.TheVariants.{Bpsk, Qpsk, Psk8, Qam16, Qam64}
use Rattle.types.specs.declared.words.UnknownWord.{UnknownWord}
use Rattle.types.specs.Numbers.{lengths_of, constellations}

-- the words of a refusal, without its lengths
abbrev pub error_word : Error → List ℕ
error_word Odd = codes "a complex slice has an odd count of f32"
error_word Feedback = codes "over 63 feedback taps"
error_word Taps = codes "forward taps even or outside 3 to 63"
error_word (Window expected got) = codes "the window's length is not the weights'"
error_word MuCma = codes "mu-cma outside 0.00001 to 1"
error_word MuDd = codes "mu-dd outside 0.00001 to 1"
error_word Bandwidth = codes "bandwidth neither 0 nor 0.0001 to 0.2"
error_word Record = codes "the record breaks a rule"
error_word (Output expected got) = codes "the output's length is not the input's"
error_word (Marks expected got) = codes "the marks' length is not the input's"
error_word Numbers = codes "the numbers' length is not the input's"

-- words, and behind them the two lengths where there are some
abbrev pub with_lengths : List ℕ → Option Lengths → List ℕ
with_lengths w None = w
with_lengths w (Some l) = w ++ (codes ": " ++ (decimal l.expected ++ (codes " expected, " ++ (decimal l.got ++ codes " given"))))

-- a refusal in words
abbrev pub error_text : Error → List ℕ
error_text e = with_lengths (error_word e) (lengths_of e)

-- a number that no case has, in words
abbrev pub unknown_text : UnknownNumber → List ℕ
unknown_text u = codes "no case has the number " ++ decimal u.number

abbrev pub mode_word : EqMode → List ℕ
mode_word Cma = codes "cma"
mode_word Decision = codes "decision"

abbrev pub constellation_word : EqConstellation → List ℕ
constellation_word Bpsk = codes "bpsk"
constellation_word Qpsk = codes "qpsk"
constellation_word Psk8 = codes "8psk"
constellation_word Qam16 = codes "16qam"
constellation_word Qam64 = codes "64qam"

-- the constellation whose word w is, or that none has it
abbrev pub constellation_with : List ℕ → Result EqConstellation UnknownWord
constellation_with w = ok_or (find (λ k. bytes_eq w (constellation_word k)) constellations) (record {})
