-- The leaves at their edges, as one table: limits and their neighbours, NaN, infinities, -0, ties, octant borders, gains at -0, flush at 1e-30.
-- A row gives the arguments by their bits and then the result; 7fc00000 is a NaN.
use Rattle.std.specs.Prelude.{ℕ, Bool, true, false, ◌&&◌, ◌||◌, List, [], ◌∷◌, map, replicate, get_or, ℤ, pos, negsuc, eqb, Float}
use Rattle.std.specs.Float.{nan, inf, binary32}
use Rattle.std.specs.Float.Ieee.{to_bits, is_nan, eq}
use Rattle.std.specs.Float.Ieee.Scale.{finite}
use Rattle.types.specs.declared.C32.{C32}
use Rattle.types.specs.declared.EqMode.TheVariants.{Cma, Decision}
use Rattle.types.specs.declared.EqConstellation.TheVariants.{Bpsk, Qpsk, Psk8, Qam16, Qam64}
use Rattle.types.specs.declared.Qam.TheVariants as qam
use Rattle.types.specs.declared.EqualizeState.{EqualizeState}
use Rattle.types.specs.declared.Update.{Update}
use Rattle.types.specs.declared.Update.TheVariants.{Step, Hold}
use Rattle.types.specs.Bits.{f32, f64}
use Rattle.definition.specs.Floats.{flush, clip, narrow, complex, times_c}
use Rattle.definition.specs.Slices.{sum8, filter_sum, shifted, dot_complex, power}
use Rattle.definition.specs.Gains.{phase_damping, gain_kp, gain_ki}
use Rattle.definition.specs.Phase.{cos_sin, interp_pair, step_int, phase_step}
use Rattle.definition.specs.Points.{octant, level_of, decide}
use Rattle.definition.specs.Turns.{derotated, rotated}
use Rattle.definition.specs.Sample.{sanitized, mse_after, error_of, fed_of, step_size, live, update_of, adapted, phase_error, freq_after}
use Rattle.definition.specs.Rules.{taps_fit, feedback_fits, mu_fits, bw_fits, weight_fits, freq_fits, count_fits}
use Rattle.definition.specs.Rows.{same, all, bits_of, settings, state_of}

abbrev yes : Bool → Bool → Bool
yes true b = b
yes false true = false
yes false false = true

-- it is the f32 of these bits: to_bits rounds, so a number that is no f32 has to be told from the one beside it
unfoldable bits : Float → ℕ → Bool
bits v n = eqb (to_bits binary32 v) n && (is_nan v || eq v (f32 n))

unfoldable bits_c : C32 → ℕ → ℕ → Bool
bits_c v re im = bits v.re re && bits v.im im

unfoldable c : ℕ → ℕ → C32
c re im = complex (f32 re) (f32 im)

-- ---- finite, flush, clip, narrow

unfoldable float_rows : List Bool
float_rows =
    yes (finite (f32 0x7f7f_ffff)) true ∷ yes (finite (f32 0xff7f_ffff)) true ∷ yes (finite (f32 1)) true ∷ yes (finite (f32 0x8000_0000)) true
    ∷ yes (finite (f32 0x7f80_0000)) false ∷ yes (finite (f32 0xff80_0000)) false ∷ yes (finite (f32 0x7fc0_0000)) false
    -- flush: 1e-30 stays, the f32 below gives +0, of either sign; -0 and subnormals give +0
    ∷ bits (flush (f32 0x0da2_4260)) 0x0da2_4260 ∷ bits (flush (f32 0x0da2_425f)) 0 ∷ bits (flush (f32 0x8da2_4260)) 0x8da2_4260 ∷ bits (flush (f32 0x8da2_425f)) 0
    ∷ bits (flush (f32 0x8000_0000)) 0 ∷ bits (flush (f32 0x8000_0001)) 0 ∷ bits (flush nan) 0x7fc0_0000 ∷ bits (flush (inf true)) 0xff80_0000
    -- clip to 1 and to 0.125
    ∷ bits (clip (f32 0x3f80_0000) (f32 0x3f80_0000)) 0x3f80_0000 ∷ bits (clip (f32 0x3f80_0001) (f32 0x3f80_0000)) 0x3f80_0000
    ∷ bits (clip (f32 0xbf80_0001) (f32 0x3f80_0000)) 0xbf80_0000 ∷ bits (clip (f32 0x3f7f_ffff) (f32 0x3f80_0000)) 0x3f7f_ffff
    ∷ bits (clip (inf true) (f32 0x3e00_0000)) 0xbe00_0000 ∷ bits (clip nan (f32 0x3f80_0000)) 0x7fc0_0000 ∷ bits (clip (f32 0x8000_0000) (f32 0x3f80_0000)) 0x8000_0000
    -- to 0: what is at the limit stays, so zeros keep their sign
    ∷ bits (clip (f32 0x8000_0000) (f32 0)) 0x8000_0000 ∷ bits (clip (f32 0) (f32 0)) 0 ∷ bits (clip (f32 1) (f32 0)) 0 ∷ bits (clip (f32 0x8000_0001) (f32 0)) 0x8000_0000
    -- narrow: 1 + 2^-24 is a tie and goes down to the even 1, 1 + 3·2^-24 up to 1 + 2^-22; above a tie up
    ∷ bits (narrow (f64 0x3ff0_0000_1000_0000)) 0x3f80_0000 ∷ bits (narrow (f64 0x3ff0_0000_3000_0000)) 0x3f80_0002 ∷ bits (narrow (f64 0x3ff0_0000_1000_0001)) 0x3f80_0001
    -- the largest f32, the tie above it, the largest f64; the smallest f32, half of it, above half
    ∷ bits (narrow (f64 0x47ef_ffff_efff_ffff)) 0x7f7f_ffff ∷ bits (narrow (f64 0x47ef_ffff_f000_0000)) 0x7f80_0000 ∷ bits (narrow (f64 0xffef_ffff_ffff_ffff)) 0xff80_0000
    ∷ bits (narrow (f64 0x36a0_0000_0000_0000)) 1 ∷ bits (narrow (f64 0x3690_0000_0000_0000)) 0 ∷ bits (narrow (f64 0x3690_0000_0000_0001)) 1
    ∷ bits (narrow (f64 0x8000_0000_0000_0000)) 0x8000_0000 ∷ bits (narrow nan) 0x7fc0_0000 ∷ bits (narrow (inf false)) 0x7f80_0000
    -- (1 + 2i)·(3 + 5i) = -7 + 11i; and one whose products are rounded, as the Rust's sum of one tap has it
    ∷ bits_c (times_c (c 0x3f80_0000 0x4000_0000) (c 0x4040_0000 0x40a0_0000)) 0xc0e0_0000 0x4130_0000
    ∷ bits_c (times_c (c 0x3f8c_d232 0x3f4a_b2d8) (c 0x3f94_535c 0xbf9b_15e9)) 0x400e_fd30 0xbed4_b4f6
    ∷ []

-- ---- the ranges of R1 to R4

unfoldable range_rows : List Bool
range_rows =
    yes (taps_fit 1) false ∷ yes (taps_fit 2) false ∷ yes (taps_fit 3) true ∷ yes (taps_fit 4) false ∷ yes (taps_fit 62) false ∷ yes (taps_fit 63) true ∷ yes (taps_fit 65) false
    ∷ yes (feedback_fits 0) true ∷ yes (feedback_fits 63) true ∷ yes (feedback_fits 64) false
    -- 0.00001 and 1, and their neighbours
    ∷ yes (mu_fits (f32 0x3727_c5ac)) true ∷ yes (mu_fits (f32 0x3727_c5ab)) false ∷ yes (mu_fits (f32 0x3727_c5ad)) true ∷ yes (mu_fits (f32 0x3f80_0000)) true
    ∷ yes (mu_fits (f32 0x3f80_0001)) false ∷ yes (mu_fits (f32 0x3f7f_ffff)) true ∷ yes (mu_fits nan) false ∷ yes (mu_fits (inf false)) false ∷ yes (mu_fits (f32 0xbf00_0000)) false
    ∷ yes (mu_fits (f32 0)) false
    -- 0 of either sign, 0.0001 and 0.2, and their neighbours
    ∷ yes (bw_fits (f64 0)) true ∷ yes (bw_fits (f64 0x8000_0000_0000_0000)) true ∷ yes (bw_fits (f64 1)) false
    ∷ yes (bw_fits (f64 0x3f1a_36e2_eb1c_432d)) true ∷ yes (bw_fits (f64 0x3f1a_36e2_eb1c_432c)) false ∷ yes (bw_fits (f64 0x3f1a_36e2_eb1c_432e)) true
    ∷ yes (bw_fits (f64 0x3fc9_9999_9999_999a)) true ∷ yes (bw_fits (f64 0x3fc9_9999_9999_999b)) false ∷ yes (bw_fits (f64 0x3fc9_9999_9999_9999)) true
    ∷ yes (bw_fits nan) false ∷ yes (bw_fits (inf false)) false ∷ yes (bw_fits (f64 0xbf94_7ae1_47ae_147b)) false
    -- gains: at +0, at -0 (kp -0, ki +0), at 0.02
    ∷ bits (gain_kp (f64 0) phase_damping) 0 ∷ bits (gain_ki (f64 0) phase_damping) 0
    ∷ bits (gain_kp (f64 0x8000_0000_0000_0000) phase_damping) 0x8000_0000 ∷ bits (gain_ki (f64 0x8000_0000_0000_0000) phase_damping) 0
    ∷ bits (gain_kp (f64 0x3f94_7ae1_47ae_147b) phase_damping) 0x3c07_6966 ∷ bits (gain_ki (f64 0x3f94_7ae1_47ae_147b) phase_damping) 0x3967_1b0a
    -- kp: the first is one f32 off if divided by d·TAU at once, or by 1 + (2 damping theta + theta theta); the second if divided by TAU before d
    ∷ bits (gain_kp (f64 0x3f62_358b_166f_3ea6) phase_damping) 0x3a76_91b2 ∷ bits (gain_kp (f64 0x3f78_fb1f_49da_f642) phase_damping) 0x3b28_42cf
    -- ki: the first is one f32 off if divided by d·TAU at once, or by TAU before d; the second if divided by that other d
    ∷ bits (gain_ki (f64 0x3f8b_7dfc_bf2f_bed1) phase_damping) 0x38d2_0f84 ∷ bits (gain_ki (f64 0x3f43_e92b_2cf9_8abf) phase_damping) 0x3460_28c2
    -- weights: +0, -0, 1e-30 and the f32 below, the infinity, NaN
    ∷ yes (weight_fits (f32 0)) true ∷ yes (weight_fits (f32 0x8000_0000)) false ∷ yes (weight_fits (f32 0x0da2_4260)) true ∷ yes (weight_fits (f32 0x0da2_425f)) false
    ∷ yes (weight_fits (f32 0x8da2_4260)) true ∷ yes (weight_fits (f32 0x7f7f_ffff)) true ∷ yes (weight_fits (inf true)) false ∷ yes (weight_fits nan) false
    -- freq: the same below, and 0.125 above
    ∷ yes (freq_fits (f32 0)) true ∷ yes (freq_fits (f32 0x8000_0000)) false ∷ yes (freq_fits (f32 0x8da2_4260)) true ∷ yes (freq_fits (f32 0x8da2_425f)) false
    ∷ yes (freq_fits (f32 0x3e00_0000)) true ∷ yes (freq_fits (f32 0xbe00_0000)) true ∷ yes (freq_fits (f32 0x3e00_0001)) false ∷ yes (freq_fits (f32 0xbe00_0001)) false ∷ yes (freq_fits nan) false ∷ yes (freq_fits (inf false)) false
    ∷ yes (count_fits Cma 0 1) true ∷ yes (count_fits Cma 1 1) false ∷ yes (count_fits Decision 1 1) true ∷ yes (count_fits Decision 0 1) false ∷ yes (count_fits Decision 2 1) false
    ∷ yes (count_fits Cma 0 0) false ∷ yes (count_fits Decision 0 0) true
    ∷ yes (count_fits Cma 0 4294967295) true ∷ yes (count_fits Cma 1 4294967295) false ∷ yes (count_fits Decision 4294967295 4294967295) false
    ∷ []

-- ---- the phase: steps, cosine and sine

-- negsuc n is -(n + 1)
unfoldable is_int : ℤ → ℤ → Bool
is_int (pos a) (pos b) = eqb a b
is_int (pos a) (negsuc b) = false
is_int (negsuc a) (pos b) = false
is_int (negsuc a) (negsuc b) = eqb a b

unfoldable phase_rows : List Bool
phase_rows =
    -- the infinities are held to the ends, a NaN gives 0
    eqb (phase_step (inf false)) 4294967295 ∷ eqb (phase_step (inf true)) 0 ∷ eqb (phase_step nan) 0 ∷ eqb (phase_step (f32 0x8000_0000)) 0
    -- 1.5 and -1.5 of 2^-32: the half goes up; and 0.5 - 2^-25 of it
    ∷ eqb (phase_step (f32 0x2fc0_0000)) 2 ∷ eqb (phase_step (f32 0xafc0_0000)) 4294967295 ∷ eqb (phase_step (f32 0x2eff_ffff)) 0 ∷ eqb (phase_step (f32 0xaf00_0001)) 4294967295
    -- 1 turn, 1 - 2^-24 turns, 2^31 - 128 and 2^31 turns, the largest f32
    ∷ eqb (phase_step (f32 0x3f80_0000)) 0 ∷ eqb (phase_step (f32 0x3f7f_ffff)) 4294967040 ∷ eqb (phase_step (f32 0x4eff_ffff)) 0 ∷ eqb (phase_step (f32 0x4f00_0000)) 4294967295
    ∷ eqb (phase_step (f32 0x7f7f_ffff)) 4294967295 ∷ eqb (phase_step (f32 0xff7f_ffff)) 0 ∷ eqb (phase_step (f32 1)) 0
    -- 1.5, -1.5 and -1.25 turns: the low 32 bits
    ∷ eqb (phase_step (f32 0x3fc0_0000)) 2147483648 ∷ eqb (phase_step (f32 0xbfc0_0000)) 2147483648 ∷ eqb (phase_step (f32 0xbfa0_0000)) 3221225472
    -- held to 2^63 - 1 and -2^63: the infinities, ±2^31 turns and the f32 beyond; the f32 before -2^31 is not held
    ∷ is_int (step_int (inf false)) (pos 9223372036854775807) ∷ is_int (step_int (f32 0x4f00_0000)) (pos 9223372036854775807)
    ∷ is_int (step_int (inf true)) (negsuc 9223372036854775807) ∷ is_int (step_int (f32 0xcf00_0000)) (negsuc 9223372036854775807)
    ∷ is_int (step_int (f32 0xcf00_0001)) (negsuc 9223372036854775807) ∷ is_int (step_int (f32 0xceff_ffff)) (negsuc 9223371487098961919)
    -- quarters of a turn: (1, 0), (0, 1), (-1, 0), (0, -1); the table gives (1, +0) at phase 0 too
    ∷ bits (cos_sin 0).c 0x3f80_0000 ∷ bits (cos_sin 0).s 0 ∷ bits (interp_pair 0).c 0x3f80_0000 ∷ bits (interp_pair 0).s 0
    ∷ bits (cos_sin 0x4000_0000).c 0 ∷ bits (cos_sin 0x4000_0000).s 0x3f80_0000
    ∷ bits (cos_sin 0x8000_0000).c 0xbf80_0000 ∷ bits (cos_sin 0x8000_0000).s 0
    ∷ bits (cos_sin 0xc000_0000).c 0 ∷ bits (cos_sin 0xc000_0000).s 0xbf80_0000
    -- 1/8 turn, and the two phases beside 0
    ∷ bits (cos_sin 0x2000_0000).c 0x3f35_04f3 ∷ bits (cos_sin 0x2000_0000).s 0x3f35_04f3
    ∷ bits (cos_sin 1).c 0x3f80_0000 ∷ bits (cos_sin 1).s 0x30c9_0fd5 ∷ bits (cos_sin 0xffff_ffff).c 0x3f80_0000
    -- the last phase of the first line of the table
    ∷ bits (cos_sin 0x000f_ffff).c 0x3f7f_ffec ∷ bits (cos_sin 0x000f_ffff).s 0x3ac9_0fc8
    ∷ []

-- ---- decisions

unfoldable decide_rows : List Bool
decide_rows =
    -- BPSK and QPSK: -0 and a NaN count as positive
    bits_c (decide Bpsk (c 0x8000_0000 0x7fc0_0000)) 0x3f80_0000 0 ∷ bits_c (decide Bpsk (c 0x8000_0001 0)) 0xbf80_0000 0 ∷ bits_c (decide Bpsk (complex nan nan)) 0x3f80_0000 0
    ∷ bits_c (decide Bpsk (complex (inf true) (inf true))) 0xbf80_0000 0
    ∷ bits_c (decide Qpsk (c 0x8000_0000 0x8000_0000)) 0x3f35_04f3 0x3f35_04f3 ∷ bits_c (decide Qpsk (complex nan (inf true))) 0x3f35_04f3 0xbf35_04f3
    ∷ bits_c (decide Qpsk (c 0xbf80_0000 0x3f80_0000)) 0xbf35_04f3 0x3f35_04f3
    -- 8-PSK: the eight borders belong to the octant above them
    ∷ eqb (octant (c 0x3f80_0000 0)) 0 ∷ eqb (octant (c 0x3f80_0000 0x3f80_0000)) 1 ∷ eqb (octant (c 0 0x3f80_0000)) 2 ∷ eqb (octant (c 0xbf80_0000 0x3f80_0000)) 3
    ∷ eqb (octant (c 0xbf80_0000 0)) 4 ∷ eqb (octant (c 0xbf80_0000 0xbf80_0000)) 5 ∷ eqb (octant (c 0 0xbf80_0000)) 6 ∷ eqb (octant (c 0x3f80_0000 0xbf80_0000)) 7
    -- one f32 below and above the diagonal borders
    ∷ eqb (octant (c 0x3f80_0000 0x3f7f_ffff)) 0 ∷ eqb (octant (c 0x3f7f_ffff 0x3f80_0000)) 1 ∷ eqb (octant (c 0xbf7f_ffff 0x3f80_0000)) 2 ∷ eqb (octant (c 0xbf80_0000 0x3f7f_ffff)) 3
    ∷ eqb (octant (c 0xbf80_0000 0xbf7f_ffff)) 4 ∷ eqb (octant (c 0xbf7f_ffff 0xbf80_0000)) 5 ∷ eqb (octant (c 0x3f7f_ffff 0xbf80_0000)) 6 ∷ eqb (octant (c 0x3f80_0000 0xbf7f_ffff)) 7
    -- one f32 beside the axes, and -0 on them
    ∷ eqb (octant (c 0x3f80_0000 0x8000_0001)) 7 ∷ eqb (octant (c 1 0x3f80_0000)) 1 ∷ eqb (octant (c 0xbf80_0000 1)) 3 ∷ eqb (octant (c 0x8000_0001 0xbf80_0000)) 5
    ∷ eqb (octant (c 0x3f80_0000 0x8000_0000)) 0 ∷ eqb (octant (c 0x8000_0000 0x3f80_0000)) 2 ∷ eqb (octant (c 0xbf80_0000 0x8000_0000)) 4 ∷ eqb (octant (c 0x8000_0000 0xbf80_0000)) 6
    -- zeros, NaN, infinities
    ∷ eqb (octant (c 0x8000_0000 0x8000_0000)) 0 ∷ eqb (octant (complex nan (f32 0xbf80_0000))) 0 ∷ eqb (octant (complex (f32 0xbf80_0000) nan)) 0
    ∷ eqb (octant (complex (inf true) (inf false))) 3 ∷ eqb (octant (complex (inf false) (f32 0xbf80_0000))) 7
    -- the eight points, from inside the unit circle
    ∷ bits_c (decide Psk8 (c 0x3f00_0000 0x3e80_0000)) 0x3f6c_835e 0x3ec3_ef15 ∷ bits_c (decide Psk8 (c 0x3e80_0000 0x3f00_0000)) 0x3ec3_ef15 0x3f6c_835e
    ∷ bits_c (decide Psk8 (c 0xbe80_0000 0x3f00_0000)) 0xbec3_ef15 0x3f6c_835e ∷ bits_c (decide Psk8 (c 0xbf00_0000 0x3e80_0000)) 0xbf6c_835e 0x3ec3_ef15
    ∷ bits_c (decide Psk8 (c 0xbf00_0000 0xbe80_0000)) 0xbf6c_835e 0xbec3_ef15 ∷ bits_c (decide Psk8 (c 0xbe80_0000 0xbf00_0000)) 0xbec3_ef15 0xbf6c_835e
    ∷ bits_c (decide Psk8 (c 0x3e80_0000 0xbf00_0000)) 0x3ec3_ef15 0xbf6c_835e ∷ bits_c (decide Psk8 (c 0x3f00_0000 0xbe80_0000)) 0x3f6c_835e 0xbec3_ef15
    -- QAM: NaN is level 0, the infinities are the outer levels; the borders at 0 and at ±2/sqrt(10); far out the outer levels
    ∷ eqb (level_of qam.Qam16 nan) 0 ∷ eqb (level_of qam.Qam16 (inf false)) 3 ∷ eqb (level_of qam.Qam16 (inf true)) 0 ∷ eqb (level_of qam.Qam64 nan) 0 ∷ eqb (level_of qam.Qam64 (inf false)) 7
    ∷ eqb (level_of qam.Qam64 (inf true)) 0 ∷ eqb (level_of qam.Qam16 (f32 0x8000_0000)) 2 ∷ eqb (level_of qam.Qam64 (f32 0)) 4
    ∷ eqb (level_of qam.Qam16 (f32 0x3f21_e89a)) 3 ∷ eqb (level_of qam.Qam16 (f32 0x3f21_e899)) 2 ∷ eqb (level_of qam.Qam16 (f32 0xbf21_e89b)) 1 ∷ eqb (level_of qam.Qam16 (f32 0xbf21_e89c)) 0
    ∷ eqb (level_of qam.Qam16 (f32 0x42c8_0000)) 3 ∷ eqb (level_of qam.Qam64 (f32 0xc2c8_0000)) 0
    ∷ bits_c (decide Qam64 (complex (inf false) nan)) 0x3f8a_417c 0xbf8a_417c ∷ bits_c (decide Qam16 (complex nan (f32 0))) 0xbf72_dce9 0x3ea1_e89b
    ∷ []

-- ---- steps 1 to 7 at their edges

unfoldable step_or : Update → ℕ → ℕ → Bool
step_or Hold re im = false
step_or (Step a b) re im = bits a re && bits b im

unfoldable held : Update → Bool
held Hold = true
held (Step a b) = false

-- a record with this freq and this ki
unfoldable tracker : ℕ → ℕ → EqualizeState
tracker freqBits kiBits = state_of (settings 0 1000) 0 kiBits Cma 0 0x3f80_0000 0 freqBits

-- 18 taps, so that partials 0 and 1 have three products and the others two; the Rust's sum. Other ways that were tried give another: five other trees
-- (neighbours first, one partial after the other, ..), the taps from the last on, one sum without partials, one rounding for a·c − b·d, an addition for
-- each product, and sums of a·c and of b·d apart
unfoldable window18 : List ℕ
window18 =
    0xbfc3_8e8c ∷ 0x3ccd_5600 ∷ 0xbfee_8687 ∷ 0x3fa1_fe14 ∷ 0xbfe1_2ed6 ∷ 0x3f1f_fc98 ∷ 0x3ee1_1bd0 ∷ 0x3fd6_2f0c ∷ 0x3e73_9db0 ∷ 0x3f61_7dc8 ∷ 0x3eed_b6d0 ∷ 0x3ca6_5800
    ∷ 0x3f80_e468 ∷ 0xbfd6_90fd ∷ 0xbe70_0df8 ∷ 0xbeec_1f04 ∷ 0x3ff2_be64 ∷ 0xbda2_7c70 ∷ 0xbfd7_e7e4 ∷ 0x3ff1_6e26 ∷ 0xbd7d_7640 ∷ 0x3fca_8064 ∷ 0xbec6_ca04 ∷ 0xbe0d_cf10
    ∷ 0x3ec9_b660 ∷ 0x3fc7_a41c ∷ 0x3feb_884e ∷ 0xbf48_e6e8 ∷ 0xbf24_f594 ∷ 0xbfb1_6df4 ∷ 0x3fe4_6b64 ∷ 0xbff0_3a0b ∷ 0xbf94_a8db ∷ 0x3f28_a708 ∷ 0x3fc0_386c ∷ 0xbfdc_9859 ∷ []

unfoldable weights18 : List ℕ
weights18 =
    0x3f76_b24c ∷ 0x3fef_a428 ∷ 0x3e80_5fd8 ∷ 0xbfd2_94cc ∷ 0xbee0_cfdc ∷ 0x3f09_3778 ∷ 0x3fab_6e92 ∷ 0x3f8a_8d24 ∷ 0x3fa0_a8e0 ∷ 0x3fc1_a190 ∷ 0xbf7e_5f8e ∷ 0x3f7b_5420
    ∷ 0x3e67_ebe0 ∷ 0xbd1f_c080 ∷ 0x3fb2_99ec ∷ 0xbfcf_42bd ∷ 0xbec7_f290 ∷ 0xbe9f_5190 ∷ 0xbefa_4320 ∷ 0x3ed5_2c58 ∷ 0xbfe1_a724 ∷ 0xbfec_9bb6 ∷ 0xbf47_000a ∷ 0xbf0a_0dea
    ∷ 0xbf7c_eab8 ∷ 0x3fe6_e254 ∷ 0x3ee6_4470 ∷ 0x3fb2_f344 ∷ 0xbf2c_2ee4 ∷ 0xbff1_1d92 ∷ 0xbeaa_8f7c ∷ 0x3fdb_a3e0 ∷ 0xbfde_2392 ∷ 0x3ff0_e718 ∷ 0x3f71_a2ac ∷ 0xbf1f_5558 ∷ []

unfoldable step_rows : List Bool
step_rows =
    -- step 1: both parts become 0 where one is not finite
    bits_c (sanitized (complex nan (f32 0x3f80_0000))) 0 0 ∷ bits_c (sanitized (complex (f32 0x3f80_0000) (inf true))) 0 0 ∷ bits_c (sanitized (c 0x8000_0000 1)) 0x8000_0000 1
    -- step 2: (1 + 2i)·(3 - i) = 5 + 5i; the shorter slice counts, whichever it is
    ∷ bits_c (dot_complex (f32 0x3f80_0000 ∷ f32 0x4000_0000 ∷ []) (f32 0x4040_0000 ∷ f32 0xbf80_0000 ∷ f32 0x3f80_0000 ∷ f32 0x3f80_0000 ∷ [])) 0x40a0_0000 0x40a0_0000
    ∷ bits_c (dot_complex (f32 0x4040_0000 ∷ f32 0xbf80_0000 ∷ f32 0x3f80_0000 ∷ f32 0x3f80_0000 ∷ []) (f32 0x3f80_0000 ∷ f32 0x4000_0000 ∷ [])) 0x40a0_0000 0x40a0_0000
    ∷ bits_c (dot_complex [] (f32 0x3f80_0000 ∷ [])) 0 0
    -- 2^24 and -2^24 are partials 0 and 4, which meet first, so that the 1 beside them is not lost
    ∷ bits (sum8 (λ i. get_or (f32 0x4b80_0000 ∷ f32 0x3f80_0000 ∷ f32 0 ∷ f32 0 ∷ f32 0xcb80_0000 ∷ []) i (f32 0)) 8) 0x3f80_0000
    ∷ bits_c (filter_sum 18 (map f32 window18) (map f32 weights18)) 0xbe94_9620 0x3d65_e700
    -- step 4: mse moves by 0.01, is flushed, and stays where pe is not finite
    ∷ bits (mse_after (f32 0x3f80_0000) (f32 0)) 0x3f7d_70a4 ∷ bits (mse_after (f32 0x0da2_4260) (f32 0)) 0 ∷ bits (mse_after (f32 0x3f80_0000) (inf false)) 0x3f80_0000
    ∷ bits (mse_after (f32 0x3f80_0000) nan) 0x3f80_0000 ∷ bits (mse_after nan (f32 0)) 0x7fc0_0000
    -- step 5: Godard's error clipped to ±1: y = 2 gives 2·(4 - 1), y = 0.5 gives -0.375, ±2i gives ±i; nothing is fed back in Cma
    ∷ bits_c (error_of Cma Qpsk (c 0x4000_0000 0x8000_0000) (c 0 0) (cos_sin 0)) 0x3f80_0000 0x8000_0000 ∷ bits_c (error_of Cma Qpsk (c 0x3f00_0000 0) (c 0 0) (cos_sin 0)) 0xbec0_0000 0x8000_0000
    ∷ bits_c (error_of Cma Qpsk (c 0 0x4000_0000) (c 0 0) (cos_sin 0)) 0 0x3f80_0000 ∷ bits_c (error_of Cma Qpsk (c 0 0xc000_0000) (c 0 0) (cos_sin 0)) 0 0xbf80_0000
    ∷ bits_c (error_of Decision Qpsk (c 0 0) (c 0x3f80_0000 0x4000_0000) (cos_sin 0x4000_0000)) 0xc000_0000 0x3f80_0000
    ∷ bits_c (fed_of Cma (c 0x3f80_0000 0x3f80_0000) (cos_sin 0)) 0 0 ∷ bits_c (fed_of Decision (c 0x3f80_0000 0x4000_0000) (cos_sin 0x4000_0000)) 0xc000_0000 0x3f80_0000
    -- step 6: P = 0 and P infinite; F = ±0, subnormal and infinite; g not finite
    ∷ bits (step_size (f32 0x3f80_0000) (f32 0)) 0x4974_2400 ∷ bits (step_size (f32 0x3f80_0000) (inf false)) 0
    ∷ yes (live (f32 0)) false ∷ yes (live (f32 0x8000_0000)) false ∷ yes (live (f32 1)) true ∷ yes (live (inf false)) true
    ∷ held (update_of (f32 0) (c 0x3f80_0000 0)) ∷ held (update_of (f32 1) (complex nan (f32 0))) ∷ held (update_of (f32 1) (complex (f32 0) (inf false)))
    ∷ step_or (update_of (f32 1) (c 0x3f80_0000 0xbf80_0000)) 0x3f80_0000 0xbf80_0000 ∷ step_or (update_of (inf false) (c 0 0)) 0 0
    -- the power underflows to 0 at 2^-75, and the order of the sum is the slice's
    ∷ bits (power (f32 0x1a00_0000 ∷ f32 0 ∷ []) 1) 0 ∷ bits (power (f32 0x3f80_0000 ∷ f32 0x3f80_0000 ∷ f32 0x4000_0000 ∷ f32 0 ∷ []) 2) 0x40c0_0000
    -- a weight that is not finite resets them all: 1 at 3 / 2; a tiny part is flushed
    ∷ same (bits_of (adapted (Step (f32 0x7f00_0000) (f32 0)) 3 3 (replicate 6 (f32 0x3f80_0000)) (replicate 6 (f32 0x4080_0000)))) (0 ∷ 0 ∷ 0x3f80_0000 ∷ 0 ∷ 0 ∷ 0 ∷ [])
    ∷ same (bits_of (adapted (Step (f32 0x7f00_0000) (f32 0)) 5 5 (replicate 10 (f32 0x3f80_0000)) (replicate 10 (f32 0x4080_0000)))) (0 ∷ 0 ∷ 0 ∷ 0 ∷ 0x3f80_0000 ∷ 0 ∷ 0 ∷ 0 ∷ 0 ∷ 0 ∷ [])
    ∷ same (bits_of (adapted (Step (f32 0x0d80_0000) (f32 0)) 1 1 (f32 0 ∷ f32 0x3f80_0000 ∷ []) (f32 0x3f80_0000 ∷ f32 0 ∷ []))) (0 ∷ 0x3f80_0000 ∷ [])
    ∷ same (bits_of (adapted (Step (f32 0) (f32 0x0d80_0000)) 1 1 (f32 0x3f80_0000 ∷ f32 0 ∷ []) (f32 0x3f80_0000 ∷ f32 0 ∷ []))) (0x3f80_0000 ∷ 0 ∷ [])
    ∷ same (bits_of (adapted Hold 1 1 (f32 0x3f80_0000 ∷ f32 0 ∷ []) (f32 0x3f80_0000 ∷ f32 0 ∷ []))) (0x3f80_0000 ∷ 0 ∷ [])
    -- w - g·conj(h) with g = 1 + 2i, h = 3 + 5i, w = 0: g·conj(h) = 13 + i
    ∷ same (bits_of (adapted (Step (f32 0x3f80_0000) (f32 0x4000_0000)) 1 1 (f32 0 ∷ f32 0 ∷ []) (f32 0x4040_0000 ∷ f32 0x40a0_0000 ∷ []))) (0xc150_0000 ∷ 0xbf80_0000 ∷ [])
    -- n is 1, and there are two weights: the second stays
    ∷ same (bits_of (adapted (Step (f32 0x3f80_0000) (f32 0x4000_0000)) 1 1 (map f32 (0 ∷ 0 ∷ 0x3f80_0000 ∷ 0x4000_0000 ∷ [])) (map f32 (0x4040_0000 ∷ 0x40a0_0000 ∷ 0x3f80_0000 ∷ 0 ∷ []))))
    (0xc150_0000 ∷ 0xbf80_0000 ∷ 0x3f80_0000 ∷ 0x4000_0000 ∷ [])
    -- step 7: pd is 0 where it is not finite
    ∷ bits (phase_error (c 0x3f80_0000 0x4000_0000) (c 0x4040_0000 0x3f80_0000)) 0x40a0_0000 ∷ bits (phase_error (complex (inf false) (f32 0)) (c 0x3f80_0000 0x3f80_0000)) 0
    -- freq is flushed: 2^-99 - 2^-100, and the other sign; it is held to ±0.125
    ∷ bits (freq_after (tracker 0x0e00_0000 0x3f80_0000) (f32 0x8d80_0000)) 0 ∷ bits (freq_after (tracker 0x8e00_0000 0x3f80_0000) (f32 0x0d80_0000)) 0
    ∷ bits (freq_after (tracker 0x3e00_0000 0x3967_1b0a) (f32 0x3f80_0000)) 0x3e00_0000 ∷ bits (freq_after (tracker 0xbe00_0000 0x3967_1b0a) (f32 0xbf80_0000)) 0xbe00_0000
    ∷ bits (freq_after (tracker 0x3dff_0000 0x3967_1b0a) (f32 0x3f00_0000)) 0x3dff_39c7 ∷ bits (freq_after (tracker 0x0da2_4260 0x3967_1b0a) (f32 0)) 0x0da2_4260
    -- turning on and back by a quarter
    ∷ bits_c (rotated (c 0x3f80_0000 0x4000_0000) (cos_sin 0x4000_0000)) 0xc000_0000 0x3f80_0000 ∷ bits_c (derotated (c 0x3f80_0000 0x4000_0000) (cos_sin 0x4000_0000)) 0x4000_0000 0xbf80_0000
    -- a window of two numbers takes a third; a window of none takes none
    ∷ same (bits_of (shifted 2 (c 5 6) (f32 1 ∷ f32 2 ∷ f32 3 ∷ f32 4 ∷ f32 9 ∷ []))) (5 ∷ 6 ∷ 1 ∷ 2 ∷ 9 ∷ []) ∷ same (bits_of (shifted 0 (c 5 6) (f32 1 ∷ []))) (1 ∷ [])
    ∷ []

-- the table, whole
unfoldable pub edges_pass : Bool
unfolding bits bits_c c float_rows range_rows is_int phase_rows decide_rows step_or held tracker window18 weights18 step_rows
edges_pass = all float_rows && all range_rows && all phase_rows && all decide_rows && all step_rows
