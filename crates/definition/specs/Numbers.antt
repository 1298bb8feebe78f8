-- The numbers of the points, as one table: decisions, by the bits, and the number of each; every number from its own point; calls. The numbers of QAM
-- and the symbols are the Rust's (oracle/README.md), all else the customer's words.
use Rattle.std.specs.Prelude.{ℕ, zero, suc, Bool, true, false, ◌&&◌, List, [], ◌∷◌, replicate, map, length, eqb}
use Rattle.std.specs.Float.{nan, inf}
use Rattle.types.specs.declared.C32.{C32}
use Rattle.types.specs.declared.EqConstellation.{EqConstellation}
use Rattle.types.specs.declared.EqConstellation.TheVariants.{Bpsk, Qpsk, Psk8, Qam16, Qam64}
use Rattle.types.specs.Bits.{f32, zero32}
use Rattle.definition.specs.Floats.{complex}
use Rattle.definition.specs.Points.{decide, number_of, point_of, point_count, powers}
use Rattle.definition.specs.Rules.{same_bits}
use Rattle.definition.specs.Rows.{same, all, holds}
use Rattle.definition.specs.Examples.{after_new, answers}
use Rattle.definition.specs.Marks.{fixed, gives}

unfoldable is_number : EqConstellation → C32 → ℕ → Bool
is_number k z n = eqb (number_of k z) n

unfoldable at : ℕ → ℕ → C32
at re im = complex (f32 re) (f32 im)

-- ---- BPSK, QPSK, 8-PSK: -0 and a NaN count as positive

unfoldable phase_rows : List Bool
phase_rows =
    is_number Bpsk (at 0x8000_0000 0x7fc0_0000) 0 ∷ is_number Bpsk (at 0x8000_0001 0) 1 ∷ is_number Bpsk (complex nan nan) 0 ∷ is_number Bpsk (at 0x3f80_0000 0xbf80_0000) 0
    ∷ is_number Qpsk (at 0x8000_0000 0x8000_0000) 0 ∷ is_number Qpsk (at 0x3f80_0000 0xbf80_0000) 1 ∷ is_number Qpsk (at 0xbf80_0000 0x3f80_0000) 2
    ∷ is_number Qpsk (at 0xbf80_0000 0xbf80_0000) 3 ∷ is_number Qpsk (complex nan (inf true)) 1
    ∷ is_number Psk8 (at 0 0) 0 ∷ is_number Psk8 (at 0x3f80_0000 0x3f80_0000) 1 ∷ is_number Psk8 (at 0 0x3f80_0000) 2 ∷ is_number Psk8 (at 0xbf80_0000 0x3f80_0000) 3
    ∷ is_number Psk8 (at 0xbf80_0000 0) 4 ∷ is_number Psk8 (at 0xbf80_0000 0xbf80_0000) 5 ∷ is_number Psk8 (at 0 0xbf80_0000) 6 ∷ is_number Psk8 (at 0x3f80_0000 0xbf80_0000) 7
    ∷ []

-- ---- QAM

-- 16-QAM by the levels of the real part, from the lowest up, each with all levels of the imaginary part: -0.948.., -0.316.., 0.316.., 0.948..
unfoldable levels16 : List ℕ
levels16 = 0xbf72_dce9 ∷ 0xbea1_e89b ∷ 0x3ea1_e89b ∷ 0x3f72_dce9 ∷ []

unfoldable row16 : ℕ → List ℕ → Bool
row16 re numbers = same (map (λ im. number_of Qam16 (at re im)) levels16) numbers

unfoldable qam_rows : List Bool
qam_rows =
    row16 0xbf72_dce9 (0 ∷ 1 ∷ 3 ∷ 2 ∷ []) ∷ row16 0xbea1_e89b (4 ∷ 5 ∷ 7 ∷ 6 ∷ []) ∷ row16 0x3ea1_e89b (12 ∷ 13 ∷ 15 ∷ 14 ∷ []) ∷ row16 0x3f72_dce9 (8 ∷ 9 ∷ 11 ∷ 10 ∷ [])
    ∷ is_number Qam16 (at 0 0) 15 ∷ is_number Qam16 (complex nan nan) 0 ∷ is_number Qam16 (complex (inf false) (inf false)) 10 ∷ is_number Qam16 (complex (inf true) zero32) 3
    -- (0.3, 0.9)
    ∷ is_number Qam16 (at 0x3e99_999a 0x3f66_6666) 14
    ∷ is_number Qam64 (at 0 0) 54 ∷ is_number Qam64 (complex (inf false) (inf false)) 36 ∷ is_number Qam64 (complex nan zero32) 6
    ∷ []

-- ---- each number's own point has that number and decides to itself, of all below n

unfoldable is_point : EqConstellation → ℕ → C32 → Bool
is_point k n p = eqb (number_of k p) n && same_bits (decide k p).re p.re && same_bits (decide k p).im p.im

unfoldable leads_back : EqConstellation → ℕ → Bool
leads_back k zero = true
leads_back k (suc n) = is_point k n (point_of k n) && leads_back k n

unfoldable point_rows : List Bool
point_rows =
    leads_back Bpsk (point_count Bpsk) ∷ leads_back Qpsk (point_count Qpsk) ∷ leads_back Psk8 (point_count Psk8) ∷ leads_back Qam16 (point_count Qam16)
    ∷ leads_back Qam64 (point_count Qam64)
    -- as many points as R2 has powers
    ∷ eqb (point_count Bpsk) (length (powers Bpsk)) ∷ eqb (point_count Qpsk) (length (powers Qpsk)) ∷ eqb (point_count Psk8) (length (powers Psk8))
    ∷ eqb (point_count Qam16) (length (powers Qam16)) ∷ eqb (point_count Qam64) (length (powers Qam64)) ∷ []

-- ---- calls

unfoldable call_rows : List Bool
call_rows =
    -- `new`, QPSK, 3 taps, `cma_symbols` 4; the third sample is a blank
    answers (0 ∷ 0 ∷ 0xbf1f_efdf ∷ 0x3f5d_7cc5 ∷ 0 ∷ 0 ∷ 0xba83_adc6 ∷ 0xbafb_84d6 ∷ 0xbe89_416c ∷ 0xbf15_9cdf ∷ []) (0 ∷ 0 ∷ 1 ∷ 0 ∷ 0 ∷ []) (0 ∷ 2 ∷ 255 ∷ 3 ∷ 3 ∷ [])
    (after_new 4 (map f32 (0xbf1f_efdf ∷ 0x3f5d_7cc5 ∷ 0x3f60_3193 ∷ 0xbf8a_246c ∷ 0x7fc0_0000 ∷ 0x3f5a_52a9 ∷ 0xbe8b_5e92 ∷ 0xbf15_edeb ∷ 0xbf1e_bf49 ∷ 0x3f20_96c6 ∷ []))
    (replicate 5 7) (replicate 5 8))
    -- the number is that of z, which is put out, and not that of y: half a turn apart
    ∷ gives (holds (fixed Qpsk 0 0x8000_0000) (0x3f80_0000 ∷ replicate 5 0) (replicate 6 0)) (0x3f00_0000 ∷ 0x3e80_0000 ∷ []) (0xbf00_0000 ∷ 0xbe80_0000 ∷ []) (0 ∷ []) (3 ∷ [])
    ∷ []

-- the table, whole
unfoldable pub numbers_pass : Bool
unfolding after_new answers fixed gives is_number at phase_rows levels16 row16 qam_rows is_point leads_back point_rows call_rows
numbers_pass = all phase_rows && all qam_rows && all point_rows && all call_rows
