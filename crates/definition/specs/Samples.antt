-- One sample whole, as one table: a call of one sample, what it puts out and marks, and the record, weights and window that it leaves.
-- Floats go by their bits. The values are the Rust's (oracle/README.md), the marks document 01's, the numbers Job 5's.
use Rattle.std.specs.Prelude.{ℕ, Bool, ◌&&◌, List, [], ◌∷◌, ◌++◌, replicate}
use Rattle.types.specs.declared.EqMode.{EqMode}
use Rattle.types.specs.declared.EqMode.TheVariants.{Cma, Decision}
use Rattle.types.specs.declared.EqConstellation.TheVariants.{Bpsk, Qam16, Qam64}
use Rattle.types.specs.declared.EqParams.{EqParams}
use Rattle.types.specs.declared.EqualizeState.{EqualizeState}
use Rattle.types.specs.Bits.{f32}
use Rattle.definition.specs.Slices.{zeros}
use Rattle.definition.specs.Sample.{Equalizer}
use Rattle.definition.specs.Calls.{equalize_def}
use Rattle.definition.specs.Rows.{same, all, bits_of, same_equalizer, settings_of, settings, state_of, holds}

-- bandwidth 0.02 and its gains: mode, count, mse, phase, freq
unfoldable runs : EqParams → EqMode → ℕ → ℕ → ℕ → ℕ → EqualizeState
runs p md n mse phase freq = state_of p 0x3c07_6966 0x3967_1b0a md n mse phase freq

-- the sample (re, im) is served: it gives this symbol, this mark and this number, and leaves this equalizer
unfoldable sample_is : Equalizer → ℕ → ℕ → List ℕ → ℕ → ℕ → Equalizer → Bool
sample_is q re im symbol mark number left =
    let a = equalize_def q (f32 re ∷ f32 im ∷ []) (zeros 2) (7 ∷ []) (8 ∷ []) in
    same a.reply [] && same (bits_of a.out) symbol && same a.marks (mark ∷ []) && same a.numbers (number ∷ []) && same_equalizer a.equalizer left

-- ---- step 3: blanks and spilled samples; QPSK, 3 + 2 taps, and weights for which the imaginary part of y is infinite

-- the symbols in Cma, mode, count, forward window, feedback window
unfoldable huge : ℕ → EqMode → ℕ → List ℕ → List ℕ → Equalizer
huge symbols md n forward fed =
    holds (runs (settings 2 symbols) md n 0x3f00_0000 77 0x3c23_d70a)
    (0 ∷ 0x7f00_0000 ∷ 0 ∷ 0x7f00_0000 ∷ 0 ∷ 0x7f00_0000 ∷ 0 ∷ 0x7f00_0000 ∷ 0 ∷ 0x7f00_0000 ∷ []) (forward ++ fed)

unfoldable huge_start : ℕ → EqMode → ℕ → Equalizer
huge_start symbols md n = huge symbols md n (0x7f00_0000 ∷ 0 ∷ 0 ∷ 0 ∷ 0 ∷ 0 ∷ []) (0x3f80_0000 ∷ 0 ∷ 0x4000_0000 ∷ 0 ∷ [])

-- (re, 0) in the forward window, and (0, 0) in the feedback window; all but mode and count as it was
unfoldable huge_after : ℕ → EqMode → ℕ → ℕ → Equalizer
huge_after symbols md n re = huge symbols md n (re ∷ 0 ∷ 0x7f00_0000 ∷ 0 ∷ 0 ∷ 0 ∷ []) (0 ∷ 0 ∷ 0x3f80_0000 ∷ 0 ∷ [])

unfoldable passed_rows : List Bool
passed_rows =
    -- a blank counts, but where Cma never ends
    sample_is (huge_start 1000 Cma 5) 0x7fc0_0000 0 (0 ∷ 0 ∷ []) 1 255 (huge_after 1000 Cma 6 0)
    ∷ sample_is (huge_start 4294967295 Cma 0) 0x3f80_0000 0x7f80_0000 (0 ∷ 0 ∷ []) 1 255 (huge_after 4294967295 Cma 0 0)
    -- a spilled sample counts; it may be the last of Cma; none counts in Decision
    ∷ sample_is (huge_start 1000 Cma 5) 0x4000_0000 0 (0 ∷ 0 ∷ []) 2 255 (huge_after 1000 Cma 6 0x4000_0000)
    ∷ sample_is (huge_start 6 Cma 5) 0x4000_0000 0 (0 ∷ 0 ∷ []) 2 255 (huge_after 6 Decision 6 0x4000_0000)
    ∷ sample_is (huge_start 6 Decision 6) 0x4000_0000 0 (0 ∷ 0 ∷ []) 2 255 (huge_after 6 Decision 6 0x4000_0000)
    ∷ []

-- ---- steps 4 to 8: samples that are heard; each row is the equalizer before, the sample, symbol and mark, the equalizer after

-- QPSK, 3 + 1 taps, 5 symbols in Cma, all counted: mse, phase, freq
unfoldable deciding : ℕ → ℕ → ℕ → EqualizeState
deciding mse phase freq = runs (settings 1 5) Decision 5 mse phase freq

-- a silent forward window: mark 3, nothing adapts, and (0, 0) is fed back; all else moves
unfoldable silent : Bool
silent =
    sample_is
    (holds (deciding 0x3f00_0000 77 0) (replicate 8 0x3f00_0000) (replicate 6 0 ++ replicate 2 0x3e80_0000))
    0 0 (0x32f1_e70c ∷ 0x3e80_0000 ∷ []) 3 255
    (holds (deciding 0x3f00_88ef 0x0062_4e1b 0x3823_6a95) (replicate 8 0x3f00_0000) (replicate 8 0))

-- an infinite forward power is no silence: g is 0, and the decision is fed back
unfoldable loud : Bool
loud =
    sample_is
    (holds (deciding 0x3f00_0000 0 0) (0x1f80_0000 ∷ replicate 7 0) (replicate 8 0))
    0x5f80_0000 0 (0x3f80_0000 ∷ 0 ∷ []) 0 0
    (holds (deciding 0x3f00_3839 0xfe76_c8c8 0xb923_6a96) (0x1f80_0000 ∷ replicate 7 0) (0x5f80_0000 ∷ replicate 5 0 ++ replicate 2 0x3f35_04f3))

-- y is finite and z is not: z is put out, with mark 4; g is not finite, and the decision is fed back all the same
unfoldable infinite : Bool
infinite =
    sample_is
    (holds (deciding 0x3f00_0000 0x2000_0000 0x3c23_d70a) (0x7f7f_ffff ∷ 0x7f7f_ffff ∷ replicate 6 0) (replicate 8 0))
    0x3f80_0000 0 (0x7f80_0000 ∷ 0 ∷ []) 4 255
    (holds (deciding 0x3f00_0000 0x228f_5c28 0x3c23_d70a) (0x7f7f_ffff ∷ 0x7f7f_ffff ∷ replicate 6 0) (0x3f80_0000 ∷ replicate 6 0 ++ 0x3f7f_ffff ∷ []))

-- the feedback weight alone overflows: all weights are reset, with 1 in the middle of the forward taps; BPSK, step sizes 1, bandwidth 0
unfoldable still : EqualizeState
still = state_of (settings_of Bpsk 1 0x3f80_0000 0x3f80_0000 0 0) 0 0 Decision 0 0x3f00_0000 0 0

unfoldable brink : Bool
brink =
    sample_is
    (holds still (0xff78_43b0 ∷ 0 ∷ 0xfee1_b1e6 ∷ 0 ∷ 0 ∷ 0 ∷ 0x7f78_43b0 ∷ 0 ∷ []) (0x3f80_0000 ∷ 0 ∷ 0 ∷ 0 ∷ 0 ∷ 0 ∷ 0x3f80_0000 ∷ 0 ∷ []))
    0x3f80_0000 0 (0xfee1_b1e6 ∷ 0 ∷ []) 0 1
    (holds still (0 ∷ 0 ∷ 0x3f80_0000 ∷ 0 ∷ 0 ∷ 0 ∷ 0 ∷ 0 ∷ []) (0x3f80_0000 ∷ 0 ∷ 0x3f80_0000 ∷ 0 ∷ 0 ∷ 0 ∷ 0xbf80_0000 ∷ 0 ∷ []))

-- Cma without feedback taps, QPSK
unfoldable blind : Bool
blind =
    sample_is
    (holds (runs (settings 0 1000) Cma 5 0x3f00_0000 0 0)
    (0xbe42_233f ∷ 0xbe19_b3e6 ∷ 0x3e10_2540 ∷ 0x3e8a_fb71 ∷ 0x3eb2_7070 ∷ 0x3d80_6ca2 ∷ [])
    (0x3ec0_bae8 ∷ 0xbebd_93f3 ∷ 0x3e85_1487 ∷ 0x3da1_b003 ∷ 0xbf2b_f3e4 ∷ 0x3d66_67b5 ∷ []))
    0xbef4_bb25 0xbd6e_eea6 (0x3ea4_59fa ∷ 0x3e34_eb34 ∷ []) 0 0
    (holds (runs (settings 0 1000) Cma 6 0x3eff_a4d1 0xffc7_403d 0xb7bc_acb3)
    (0xbe4e_8e49 ∷ 0xbe1e_aff8 ∷ 0x3e14_591d ∷ 0x3e92_02db ∷ 0x3eb6_21cb ∷ 0x3d83_8bc3 ∷ [])
    (0xbef4_bb25 ∷ 0xbd6e_eea6 ∷ 0x3ec0_bae8 ∷ 0xbebd_93f3 ∷ 0x3e85_1487 ∷ 0x3da1_b003 ∷ []))

-- the last sample of Cma, 64-QAM: (0, 0) is fed back, then the mode is Decision
unfoldable qam64 : EqMode → ℕ → ℕ → ℕ → ℕ → EqualizeState
qam64 md n mse phase freq = runs (settings_of Qam64 1 0x3d4c_cccd 0x3ca3_d70a 6 0x3f94_7ae1_47ae_147b) md n mse phase freq

unfoldable last_blind : Bool
last_blind =
    sample_is
    (holds (qam64 Cma 5 0x3f00_0000 0x4000_0001 0xbd80_0000)
    (0x3e80_0000 ∷ 0xbe00_0000 ∷ 0x3f80_0000 ∷ 0x3e80_0000 ∷ 0xbe00_0000 ∷ 0x3d80_0000 ∷ 0x3e00_0000 ∷ 0x3e80_0000 ∷ [])
    (0x3f00_0000 ∷ 0x3f80_0000 ∷ 0xbf80_0000 ∷ 0x3e80_0000 ∷ 0x3f40_0000 ∷ 0xbf00_0000 ∷ 0x3f00_0000 ∷ 0xbe80_0000 ∷ []))
    0xbf00_0000 0x3f40_0000 (0x3fb0_0000 ∷ 0xbee8_0000 ∷ []) 0 35
    (holds (qam64 Decision 6 0x3efd_e2bc 0x3051_c8d1 0xbd7f_de03)
    (0x3e77_6e33 ∷ 0xbdea_1e5a ∷ 0x3f7b_bc6d ∷ 0x3e7d_8107 ∷ 0xbdfd_aba0 ∷ 0x3d9f_b2f0 ∷ 0x3e01_3f7c ∷ 0x3e77_78d9 ∷ [])
    (0xbf00_0000 ∷ 0x3f40_0000 ∷ 0x3f00_0000 ∷ 0x3f80_0000 ∷ 0xbf80_0000 ∷ 0x3e80_0000 ∷ 0 ∷ 0 ∷ []))

-- Decision with two feedback taps, 16-QAM; the phase wraps
unfoldable qam16 : ℕ → ℕ → ℕ → EqualizeState
qam16 mse phase freq = runs (settings_of Qam16 2 0x3d4c_cccd 0x3ca3_d70a 5 0x3f94_7ae1_47ae_147b) Decision 5 mse phase freq

unfoldable decided : Bool
decided =
    sample_is
    (holds (qam16 0x3f00_0000 0xfe00_0000 0x3d80_0000)
    (0x3e80_0000 ∷ 0xbe00_0000 ∷ 0x3f80_0000 ∷ 0x3e80_0000 ∷ 0xbe00_0000 ∷ 0x3d80_0000 ∷ 0x3e00_0000 ∷ 0 ∷ 0 ∷ 0xbd80_0000 ∷ [])
    (0x3f00_0000 ∷ 0x3f80_0000 ∷ 0xbf80_0000 ∷ 0x3e80_0000 ∷ 0x3f40_0000 ∷ 0xbf00_0000 ∷ 0x3ea1_e89b ∷ 0xbf72_dce9 ∷ 0x3f72_dce9 ∷ 0x3ea1_e89b ∷ []))
    0xbf00_0000 0x3f40_0000 (0x3eaa_6639 ∷ 0x3f8f_7ea6 ∷ []) 0 14
    (holds (qam16 0x3efd_97f2 0x0e15_9000 0x3d80_047b)
    (0x3e7f_8955 ∷ 0xbdff_2a51 ∷ 0x3f7f_d0fa ∷ 0x3e7f_c1f4 ∷ 0xbe00_123a ∷ 0x3d81_6b60 ∷ 0x3e00_9e33 ∷ 0xb99f_6dc2 ∷ 0xb99f_6dc2 ∷ 0xbd81_3c66 ∷ [])
    (0xbf00_0000 ∷ 0x3f40_0000 ∷ 0x3f00_0000 ∷ 0x3f80_0000 ∷ 0xbf80_0000 ∷ 0x3e80_0000 ∷ 0x3eb9_8c0a ∷ 0x3f6e_9920 ∷ 0x3ea1_e89b ∷ 0xbf72_dce9 ∷ []))

-- the table, whole
unfoldable pub samples_pass : Bool
unfolding runs sample_is huge huge_start huge_after passed_rows deciding silent loud infinite still brink blind qam64 last_blind qam16 decided
samples_pass = all passed_rows && all (silent ∷ loud ∷ infinite ∷ brink ∷ blind ∷ last_blind ∷ decided ∷ [])
