-- Document 01's "Proved examples", as one table: each row is tested, and the theorem is that all rows pass.
use Rattle.std.specs.Prelude.{ℕ, ◌+◌, ◌*◌, Bool, true, false, ◌&&◌, List, [], ◌∷◌, eqb, Float, Ok, Err}
use Rattle.std.specs.Float.{nan, binary32, binary64}
use Rattle.std.specs.Float.Ieee.{round, neg}
use Rattle.types.specs.declared.C32.{C32}
use Rattle.types.specs.declared.Qam.TheVariants as qam
use Rattle.types.specs.declared.EqConstellation.{EqConstellation}
use Rattle.types.specs.declared.EqConstellation.TheVariants.{Bpsk, Qpsk, Psk8, Qam16, Qam64}
use Rattle.definition.specs.Refusals.{Fresh}
use Rattle.types.specs.Bits.{f32, zero32, one32}
use Rattle.definition.specs.Floats.{narrow, complex}
use Rattle.definition.specs.Slices.{zeros}
use Rattle.definition.specs.Phase.{phase_step}
use Rattle.definition.specs.Points.{A, C8, S8, level_of, decide, radius}
use Rattle.definition.specs.Rules.{same_bits}
use Rattle.definition.specs.Calls.{Answer, NewAnswer, new_def, equalize_def}
use Rattle.types.specs.Numbers.{mode_number}
use Rattle.definition.specs.Rows.{same, bits_of, settings}

pub data Row : Type 0 where
  -- R2 of a constellation is a / b, rounded once to f64, once to f32
  radius_is : EqConstellation → ℕ → ℕ → Row
  -- the step of an f32, by its bits
  step_is : ℕ → ℕ → Row
  -- the decision on a point
  decides : EqConstellation → C32 → C32 → Row
  -- the 16-QAM level at an f32: its index from 0, and its bits
  level_is : ℕ → ℕ → ℕ → Row
  -- an f32 is the nearest to a / b
  nearest : Float → ℕ → ℕ → Row
  -- what `new` replies with so many feedback and forward taps: [] is taken
  taps_reply : ℕ → ℕ → List ℕ → Row
  -- `new`, 3 taps, 1000 Cma symbols, one sample: one symbol (0, 0), this mark and number
  one_sample : C32 → ℕ → ℕ → Row
  -- `new`, 3 taps, `cma_symbols` 2, two blanks: (0, 0), mark 1 and number 255 each; Decision, count 2, `mse` 1, phase 0
  two_blanks : C32 → C32 → Row

-- a call after `new` with 3 taps; where `new` refuses, nothing
unfoldable on_made : Fresh → NewAnswer → List Float → List ℕ → List ℕ → List Answer
on_made (Ok s) a xs ms ns = equalize_def (record { state = s; weights = a.weights; window = a.window }) xs xs ms ns ∷ []
on_made (Err e) a xs ms ns = []

unfoldable pub after_new : ℕ → List Float → List ℕ → List ℕ → List Answer
unfolding on_made
after_new cma xs ms ns = let a = new_def (settings 0 cma) (zeros 6) (zeros 6) in on_made a.answer a xs ms ns

-- the call is served, with these symbols, marks and numbers
unfoldable pub answers : List ℕ → List ℕ → List ℕ → List Answer → Bool
answers symbols marks numbers [] = false
answers symbols marks numbers (a ∷ l) = same a.reply [] && same (bits_of a.out) symbols && same a.marks marks && same a.numbers numbers

unfoldable blank_twice : List Answer → Bool
blank_twice [] = false
blank_twice (a ∷ l) =
    same a.reply [] && same (bits_of a.out) (0 ∷ 0 ∷ 0 ∷ 0 ∷ []) && same a.marks (1 ∷ 1 ∷ []) && same a.numbers (255 ∷ 255 ∷ []) && eqb (mode_number a.equalizer.state.mode) 1
    && eqb a.equalizer.state.count 2 && same_bits a.equalizer.state.mse one32 && eqb a.equalizer.state.phase 0

unfoldable passes : Row → Bool
passes (radius_is k a b) = same_bits (radius k) (narrow (round binary64 false a b))
passes (step_is v n) = eqb (phase_step (f32 v)) n
passes (decides k z d) = same_bits (decide k z).re d.re && same_bits (decide k z).im d.im
passes (level_is v n bits) = eqb (level_of qam.Qam16 (f32 v)) n && same_bits (decide Qam16 (complex (f32 v) zero32)).re (f32 bits)
passes (nearest x a b) = same_bits x (round binary32 false a b)
passes (taps_reply fb n reply) = same (new_def (settings fb 1000) (zeros (2 * (n + fb))) (zeros (2 * (n + fb)))).reply reply
passes (one_sample x mark number) = answers (0 ∷ 0 ∷ []) (mark ∷ []) (number ∷ []) (after_new 1000 (x.re ∷ x.im ∷ []) (7 ∷ []) (8 ∷ []))
passes (two_blanks x y) = blank_twice (after_new 2 (x.re ∷ x.im ∷ y.re ∷ y.im ∷ []) (7 ∷ 7 ∷ []) (8 ∷ 8 ∷ []))

unfoldable all_pass : List Row → Bool
all_pass [] = true
all_pass (r ∷ rs) = passes r && all_pass rs

unfoldable minus : Float → Float
minus x = neg x

unfoldable examples : List Row
examples =
    -- R2 of 16-QAM; 64-QAM: 33/25; 29/21; it is 1 for BPSK, QPSK and 8-PSK
    radius_is Qam16 33 25
    ∷ radius_is Qam64 29 21
    ∷ radius_is Bpsk 1 1 ∷ radius_is Qpsk 1 1 ∷ radius_is Psk8 1 1
    -- step of 0.125; −0.125; 2^-33; −2^-33; 2^31; −2^31
    ∷ step_is 0x3e00_0000 536870912
    ∷ step_is 0xbe00_0000 3758096384
    ∷ step_is 0x2f00_0000 1
    ∷ step_is 0xaf00_0000 0
    ∷ step_is 0x4f00_0000 4294967295
    ∷ step_is 0xcf00_0000 0
    -- QPSK (0, 0): (+A, +A), A = f32 0.70710677
    ∷ decides Qpsk (complex zero32 zero32) (complex A A)
    ∷ nearest A 70710677 100000000
    -- 8-PSK (0, 0); (1, 1); (−1, 0)
    ∷ decides Psk8 (complex zero32 zero32) (complex C8 S8)
    ∷ decides Psk8 (complex one32 one32) (complex S8 C8)
    ∷ decides Psk8 (complex (minus one32) zero32) (complex (minus C8) (minus S8))
    -- 16-QAM level at 0: third, 0.316..
    ∷ level_is 0 2 0x3ea1_e89b
    -- taps 3, 63; 1, 4, 65
    ∷ taps_reply 0 3 []
    ∷ taps_reply 0 63 []
    ∷ taps_reply 0 1 (3 ∷ [])
    ∷ taps_reply 0 4 (3 ∷ [])
    ∷ taps_reply 0 65 (3 ∷ [])
    -- feedback 63; 64
    ∷ taps_reply 63 3 []
    ∷ taps_reply 64 3 (2 ∷ [])
    -- `new`, 3 taps, sample (1, 0): heard; sample (0, 0), whose forward power is 0: silent
    ∷ one_sample (complex one32 zero32) 0 0
    ∷ one_sample (complex zero32 zero32) 3 255
    -- `new`, `cma_symbols` 2, two NaN samples
    ∷ two_blanks (complex nan nan) (complex nan nan)
    ∷ two_blanks (complex nan zero32) (complex one32 nan)
    ∷ []

-- the table, whole
unfoldable pub examples_pass : Bool
unfolding after_new answers blank_twice passes all_pass minus examples
examples_pass = all_pass examples
