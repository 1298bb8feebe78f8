-- The number of each case of an enum, said once: the maps back go through the list of the cases.
use Rattle.std.specs.Prelude.{ℕ, Bool, false, cond, ◌||◌, List, [], ◌∷◌, eqb, Option, Some, None, Result, Ok, Err}
use Rattle.types.specs.declared.Mark.{Mark}
use Rattle.types.specs.declared.Mark.TheVariants.{Heard, Blank, Spilled, Silent, OffScale}
use Rattle.types.specs.declared.EqMode.{EqMode}
use Rattle.types.specs.declared.EqMode.TheVariants.{Cma, Decision}
use Rattle.types.specs.declared.EqConstellation.{EqConstellation}
use Rattle.types.specs.declared.EqConstellation.TheVariants.{Bpsk, Qpsk, Psk8, Qam16, Qam64}
use Rattle.types.specs.declared.Error.{Error}
use Rattle.types.specs.declared.Error.TheVariants.{Odd, Feedback, Taps, Window, MuCma, MuDd, Bandwidth, Record, Output, Marks, Numbers}
use Rattle.types.specs.declared.numbers.UnknownNumber.{UnknownNumber}
use Rattle.types.specs.declared.numbers.Lengths.{Lengths}

-- the table of document 01: cause, number
abbrev pub error_number : Error → ℕ
error_number Odd = 1
error_number Feedback = 2
error_number Taps = 3
error_number (Window expected got) = 4
error_number MuCma = 5
error_number MuDd = 6
error_number Bandwidth = 7
error_number Record = 8
error_number (Output expected got) = 9
error_number (Marks expected got) = 10
error_number Numbers = 13

-- what is returned beside the number: two lengths, or nothing
abbrev pub lengths_of : Error → Option Lengths
lengths_of Odd = None
lengths_of Feedback = None
lengths_of Taps = None
lengths_of (Window expected got) = Some (record { expected = expected; got = got })
lengths_of MuCma = None
lengths_of MuDd = None
lengths_of Bandwidth = None
lengths_of Record = None
lengths_of (Output expected got) = Some (record { expected = expected; got = got })
lengths_of (Marks expected got) = Some (record { expected = expected; got = got })
lengths_of Numbers = None

abbrev pub mode_number : EqMode → ℕ
mode_number Cma = 0
mode_number Decision = 1

abbrev pub constellation_number : EqConstellation → ℕ
constellation_number Bpsk = 0
constellation_number Qpsk = 1
constellation_number Psk8 = 2
constellation_number Qam16 = 3
constellation_number Qam64 = 4

-- the marks, tried in the order 1, 2, 3, 4: blank, the sample is not finite; spilled, the filter sum y is not;
-- silent, the forward power F is 0; off scale, the output z has a part that is not finite; heard, none of these
abbrev pub mark_number : Mark → ℕ
mark_number Heard = 0
mark_number Blank = 1
mark_number Spilled = 2
mark_number Silent = 3
mark_number OffScale = 4

-- ---- from a number back to its case

-- whether n is the number f of a case of the list
abbrev pub known : {A : Type 0} → (A → ℕ) → List A → ℕ → Bool
known f [] n = false
known f (a ∷ l) n = eqb n (f a) || known f l n

-- the case of the list whose number f is n, and d where there is none
abbrev pub case_of : {A : Type 0} → (A → ℕ) → List A → A → ℕ → A
case_of f [] d n = d
case_of f (a ∷ l) d n = cond (eqb n (f a)) a (case_of f l d n)

-- all cases; the last stands for a number that is not known
abbrev pub constellations : List EqConstellation
constellations = Bpsk ∷ Qpsk ∷ Psk8 ∷ Qam16 ∷ Qam64 ∷ []

abbrev pub modes : List EqMode
modes = Cma ∷ Decision ∷ []

abbrev pub marks : List Mark
marks = Heard ∷ Blank ∷ Spilled ∷ Silent ∷ OffScale ∷ []

abbrev pub known_constellation : ℕ → Bool
known_constellation n = known constellation_number constellations n

abbrev pub constellation_of : ℕ → EqConstellation
constellation_of n = case_of constellation_number constellations Qam64 n

abbrev pub known_mode : ℕ → Bool
known_mode n = known mode_number modes n

abbrev pub mode_of : ℕ → EqMode
mode_of n = case_of mode_number modes Decision n

abbrev pub known_mark : ℕ → Bool
known_mark n = known mark_number marks n

abbrev pub mark_of : ℕ → Mark
mark_of n = case_of mark_number marks OffScale n

-- ---- read: the case, or that no case has the number

abbrev pub read : {A : Type 0} → (A → ℕ) → List A → A → ℕ → Result A UnknownNumber
read f l d n = cond (known f l n) (Ok (case_of f l d n)) (Err (record { number = n }))

abbrev pub read_constellation : ℕ → Result EqConstellation UnknownNumber
read_constellation n = read constellation_number constellations Qam64 n

abbrev pub read_mode : ℕ → Result EqMode UnknownNumber
read_mode n = read mode_number modes Decision n

abbrev pub read_mark : ℕ → Result Mark UnknownNumber
read_mark n = read mark_number marks OffScale n
