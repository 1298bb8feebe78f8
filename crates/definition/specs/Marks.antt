-- The marks, as one table: calls of a few samples, the symbols, marks and numbers that they give, by the bits. Then the order of the marks by itself.
-- The symbols are the Rust's (oracle/README.md), the marks and numbers the customer's words.
use Rattle.std.specs.Prelude.{ℕ, Bool, true, false, ◌&&◌, List, [], ◌∷◌, ◌++◌, map, length, replicate, eqb}
use Rattle.std.specs.Float.{nan, inf}
use Rattle.types.specs.declared.EqMode.TheVariants.{Cma, Decision}
use Rattle.types.specs.declared.EqConstellation.{EqConstellation}
use Rattle.types.specs.declared.EqConstellation.TheVariants.{Qpsk, Qam64}
use Rattle.types.specs.declared.EqualizeState.{EqualizeState}
use Rattle.types.specs.Bits.{f32, zero32, one32}
use Rattle.types.specs.Numbers.{mark_number}
use Rattle.definition.specs.Floats.{complex, zero_c}
use Rattle.definition.specs.Slices.{zeros}
use Rattle.definition.specs.Rules.{same_bits}
use Rattle.definition.specs.Sample.{Equalizer, mark_by}
use Rattle.definition.specs.Calls.{Answer, equalize_def}
use Rattle.definition.specs.Rows.{all, settings_of, state_of, holds}
use Rattle.definition.specs.Examples.{after_new, answers}

-- ---- calls after `new` with 3 taps, QPSK, `cma_symbols` 1000

unfoldable new_gives : List ℕ → List ℕ → List ℕ → List ℕ → Bool
new_gives xs symbols marks numbers = answers symbols marks numbers (after_new 1000 (map f32 xs) (replicate (length marks) 7) (replicate (length numbers) 8))

-- they count, and `mse`, which the error of a silent symbol moves, is 1
unfoldable counted : ℕ → List Answer → Bool
counted n [] = false
counted n (a ∷ l) = eqb a.equalizer.state.count n && same_bits a.equalizer.state.mse one32

unfoldable new_rows : List Bool
new_rows =
    -- zeros of either sign are silent
    new_gives (0 ∷ 0 ∷ 0x8000_0000 ∷ 0x8000_0000 ∷ 0 ∷ 0x8000_0000 ∷ []) (replicate 6 0) (3 ∷ 3 ∷ 3 ∷ []) (replicate 3 255)
    ∷ counted 3 (after_new 1000 (map f32 (0 ∷ 0 ∷ 0x8000_0000 ∷ 0x8000_0000 ∷ 0 ∷ 0x8000_0000 ∷ [])) (7 ∷ 7 ∷ 7 ∷ []) (8 ∷ 8 ∷ 8 ∷ []))
    -- a zero behind a burst is heard for as long as the burst is in the window; the first symbol of a burst is 0 and heard
    ∷ new_gives (0x3f80_0000 ∷ replicate 9 0 ++ 0x3f00_0000 ∷ 0x3f00_0000 ∷ 0 ∷ 0 ∷ []) (0 ∷ 0 ∷ 0x3f80_0000 ∷ replicate 9 0 ++ 0x3ef5_20b2 ∷ 0x3f05_36e7 ∷ []) (0 ∷ 0 ∷ 0 ∷ 3 ∷ 3 ∷ 0 ∷ 0 ∷ []) (0 ∷ 0 ∷ 0 ∷ 255 ∷ 255 ∷ 0 ∷ 0 ∷ [])
    -- a blank is one where its window is silent too
    ∷ new_gives (0x7fc0_0000 ∷ 0 ∷ 0 ∷ 0x7f80_0000 ∷ 0 ∷ 0 ∷ []) (replicate 6 0) (1 ∷ 1 ∷ 3 ∷ []) (replicate 3 255)
    ∷ []

-- ---- calls with bandwidth 0 and, but for the first two, in Decision from the start

-- constellation, feedback taps, phase
unfoldable pub fixed : EqConstellation → ℕ → ℕ → EqualizeState
fixed k m phase = state_of (settings_of k m 0x3d4c_cccd 0x3ca3_d70a 0 0) 0 0 Decision 0 0x3f80_0000 phase 0

unfoldable pub gives : Equalizer → List ℕ → List ℕ → List ℕ → List ℕ → Bool
gives q xs symbols marks numbers =
    answers symbols marks numbers (equalize_def q (map f32 xs) (zeros (length xs)) (replicate (length marks) 7) (replicate (length numbers) 8) ∷ [])

-- the same of Cma, 3 taps of 2^100 + 2^100·i each: a sample of 2^-75 has a square of 0, and a symbol; the f32 above it has a square
unfoldable loud : Equalizer
loud = holds (state_of (settings_of Qpsk 0 0x3d4c_cccd 0x3ca3_d70a 1000 0) 0 0 Cma 0 0x3f80_0000 0 0) (replicate 6 0x7180_0000) (replicate 6 0)

-- 3 + 2 taps: the decisions fed back before speak on in silence
unfoldable spoken : Equalizer
spoken =
    holds (fixed Qpsk 2 0)
    (0 ∷ 0 ∷ 0x3f80_0000 ∷ 0 ∷ 0 ∷ 0 ∷ 0x3f00_0000 ∷ 0x3e80_0000 ∷ 0xbf00_0000 ∷ 0 ∷ [])
    (replicate 6 0 ++ 0x3f33_3333 ∷ 0xbf33_3333 ∷ 0x3f33_3333 ∷ 0x3f33_3333 ∷ [])

-- 3 + 1 taps, 1/8 turn, a large feedback weight and what stands before it
unfoldable vast : ℕ → ℕ → ℕ → Equalizer
vast wr wi h = holds (fixed Qpsk 1 0x2000_0000) (0 ∷ 0 ∷ 0x3f80_0000 ∷ 0 ∷ 0 ∷ 0 ∷ wr ∷ wi ∷ []) (replicate 6 0 ++ h ∷ h ∷ [])

-- 3 taps, 64-QAM, a large weight
unfoldable turned : ℕ → ℕ → Equalizer
turned phase w = holds (fixed Qam64 0 phase) (w ∷ replicate 5 0) (replicate 6 0)

unfoldable fixed_rows : List Bool
fixed_rows =
    gives loud (0x1a00_0000 ∷ 0 ∷ []) (0x4c00_0000 ∷ 0x4c00_0000 ∷ []) (3 ∷ []) (255 ∷ [])
    ∷ gives loud (0x1a00_0001 ∷ 0 ∷ []) (0x4c00_0001 ∷ 0x4c00_0001 ∷ []) (0 ∷ []) (0 ∷ [])
    ∷ gives spoken (replicate 6 0 ++ 0x3f80_0000 ∷ 0 ∷ []) (0x3e33_3332 ∷ 0xbf06_6666 ∷ 0xbeb3_3333 ∷ 0x3eb3_3333 ∷ replicate 4 0) (3 ∷ 3 ∷ 3 ∷ 0 ∷ []) (255 ∷ 255 ∷ 255 ∷ 0 ∷ [])
    -- F is 0 and z infinite: silent; F is 0 and y infinite: spilled
    ∷ gives (vast 0x7f7f_ffff 0 0x3f66_6666) (replicate 4 0) (0x7f80_0000 ∷ replicate 3 0) (3 ∷ 3 ∷ []) (255 ∷ 255 ∷ [])
    ∷ gives (vast 0x7f7f_ffff 0x7f7f_ffff 0x3f80_0000) (replicate 4 0) (replicate 4 0) (2 ∷ 3 ∷ []) (255 ∷ 255 ∷ [])
    -- z infinite, in its real part and in its imaginary part; the same sum at phase 0
    ∷ gives (turned 0x2000_0000 0x7f66_6665) (0x3f80_0000 ∷ 0x3f80_0000 ∷ replicate 6 0) (0x7f80_0000 ∷ replicate 7 0) (4 ∷ 0 ∷ 0 ∷ 3 ∷ []) (255 ∷ 54 ∷ 54 ∷ 255 ∷ [])
    ∷ gives (turned 0x2000_0000 0x7f66_6665) (0xbf80_0000 ∷ 0x3f80_0000 ∷ []) (0 ∷ 0x7f80_0000 ∷ []) (4 ∷ []) (255 ∷ [])
    ∷ gives (turned 0 0x7f66_6665) (0x3f80_0000 ∷ 0x3f80_0000 ∷ []) (0x7f66_6665 ∷ 0x7f66_6665 ∷ []) (0 ∷ []) (36 ∷ [])
    -- z finite where z.im·d.re and z.re·d.im are not
    ∷ gives (turned 0 0x7f7f_ffff) (0xbf80_0000 ∷ 0x3f80_0000 ∷ []) (0xff7f_ffff ∷ 0x7f7f_ffff ∷ []) (0 ∷ []) (4 ∷ [])
    ∷ []

-- ---- the order: of two that fit the first is given; F infinite is no silence

unfoldable order_rows : List Bool
order_rows =
    eqb (mark_number (mark_by (complex nan zero32) (complex nan zero32) zero32 (complex nan zero32))) 1
    ∷ eqb (mark_number (mark_by (complex zero32 (inf true)) zero_c one32 zero_c)) 1
    ∷ eqb (mark_number (mark_by zero_c (complex nan zero32) zero32 (complex nan zero32))) 2
    ∷ eqb (mark_number (mark_by zero_c (complex zero32 (inf false)) one32 zero_c)) 2
    ∷ eqb (mark_number (mark_by zero_c zero_c zero32 (complex (inf false) zero32))) 3
    ∷ eqb (mark_number (mark_by zero_c zero_c one32 (complex (inf false) zero32))) 4
    ∷ eqb (mark_number (mark_by zero_c zero_c one32 (complex zero32 nan))) 4
    ∷ eqb (mark_number (mark_by zero_c zero_c one32 zero_c)) 0
    ∷ eqb (mark_number (mark_by zero_c zero_c (inf false) zero_c)) 0
    ∷ []

-- the table, whole
unfoldable pub marks_pass : Bool
unfolding after_new answers new_gives counted new_rows fixed gives loud spoken vast turned fixed_rows order_rows
marks_pass = all new_rows && all fixed_rows && all order_rows
