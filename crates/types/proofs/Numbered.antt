-- The number of a case is known and gives the case back, and no refusal has the number 0. Assumes nothing.
use mathlib.Core.Path.{◌≡◌, refl}
use mathlib.Core.Bool.{true, false}
use lib.Dec.{eqb}
use Rattle.types.specs.declared.EqMode.{EqMode}
use Rattle.types.specs.declared.EqMode.TheVariants.{Cma, Decision}
use Rattle.types.specs.declared.EqConstellation.{EqConstellation}
use Rattle.types.specs.declared.EqConstellation.TheVariants.{Bpsk, Qpsk, Psk8, Qam16, Qam64}
use Rattle.types.specs.declared.Error.{Error}
use Rattle.types.specs.declared.Error.TheVariants.{Odd, Feedback, Taps, Window, MuCma, MuDd, Bandwidth, Record, Output, Marks, Numbers}
use Rattle.types.specs.Numbers.{error_number, mode_number, known_mode, mode_of, constellation_number, known_constellation, constellation_of}

pub mode_known : (m : EqMode) → known_mode (mode_number m) ≡ true
mode_known Cma = refl
mode_known Decision = refl

pub mode_back : (m : EqMode) → mode_of (mode_number m) ≡ m
mode_back Cma = refl
mode_back Decision = refl

pub constellation_known : (k : EqConstellation) → known_constellation (constellation_number k) ≡ true
constellation_known Bpsk = refl
constellation_known Qpsk = refl
constellation_known Psk8 = refl
constellation_known Qam16 = refl
constellation_known Qam64 = refl

pub constellation_back : (k : EqConstellation) → constellation_of (constellation_number k) ≡ k
constellation_back Bpsk = refl
constellation_back Qpsk = refl
constellation_back Psk8 = refl
constellation_back Qam16 = refl
constellation_back Qam64 = refl

pub not_zero : (e : Error) → eqb (error_number e) 0 ≡ false
not_zero Odd = refl
not_zero Feedback = refl
not_zero Taps = refl
not_zero (Window x y) = refl
not_zero MuCma = refl
not_zero MuDd = refl
not_zero Bandwidth = refl
not_zero Record = refl
not_zero (Output x y) = refl
not_zero (Marks x y) = refl
not_zero Numbers = refl
