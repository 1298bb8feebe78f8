-- The refusals, as one table: every number from every operation that tests it, what it returns, and that all slices and the record are as they
-- came; two causes at once for each order; and what the operations leave where they serve.
use Rattle.std.specs.Prelude.{ℕ, ◌+◌, ◌*◌, Bool, true, false, not, ◌&&◌, List, [], ◌∷◌, map, replicate, set, eqb, Float, Ok, Err}
use Rattle.std.specs.Float.{nan, inf}
use Rattle.types.specs.declared.EqMode.{EqMode}
use Rattle.types.specs.declared.EqMode.TheVariants.{Cma, Decision}
use Rattle.types.specs.declared.EqParams.{EqParams}
use Rattle.types.specs.declared.EqualizeState.{EqualizeState}
use Rattle.definition.specs.Refusals.{Fresh}
use Rattle.types.specs.Bits.{f32, zero32, one32}
use Rattle.definition.specs.Sample.{Equalizer, all_taps, forward, with_running}
use Rattle.definition.specs.Rules.{rule_r1, rule_r3, accepted_def}
use Rattle.definition.specs.Calls.{new_def, reset_def, SetAnswer, set_mu_cma_def, set_mu_dd_def, set_frequency_def, equalize_def}
use Rattle.definition.specs.Rows.{same, all, bits_of, state_bits, same_equalizer, settings, settings_with, state_of}

-- ---- the operations, compared whole

-- `new` with weights of lw and a window of lh f32, all 2 and all 3 before: refused with this reply, both slices as they came
unfoldable new_refused : EqParams → ℕ → ℕ → List ℕ → Bool
new_refused p lw lh reply =
    let w = replicate lw (f32 0x4000_0000) in
    let h = replicate lh (f32 0x4040_0000) in
    let a = new_def p w h in
    same a.reply reply && same (bits_of a.weights) (bits_of w) && same (bits_of a.window) (bits_of h)

unfoldable made_bits : Fresh → List ℕ
made_bits (Ok s) = state_bits s
made_bits (Err e) = []

-- served: the weights are all 0 but 1 at the place c, the window is all 0
unfoldable new_served : EqParams → ℕ → ℕ → List ℕ → Bool
new_served p n c bits =
    let a = new_def p (replicate (2 * n) (f32 0x4000_0000)) (replicate (2 * n) (f32 0x4040_0000)) in
    same a.reply [] && same (bits_of a.weights) (set (replicate (2 * n) 0) (2 * c) 0x3f80_0000) && same (bits_of a.window) (replicate (2 * n) 0)
    && same (made_bits a.answer) bits

unfoldable reset_is : Equalizer → Equalizer → List ℕ → Bool
reset_is q left reply = let a = reset_def q in same a.reply reply && same_equalizer a.equalizer left

-- an equalizing call that is refused: all as it came
unfoldable numbers_refused : Equalizer → List Float → List Float → List ℕ → List ℕ → List ℕ → Bool
numbers_refused q xs ys ms ns reply =
    let a = equalize_def q xs ys ms ns in
    same a.reply reply && same_equalizer a.equalizer q && same (bits_of a.out) (bits_of ys) && same a.marks ms && same a.numbers ns

-- .. with as many numbers as marks
unfoldable beside : List ℕ → List ℕ
beside ms = map (λ m. m + 1) ms

unfoldable call_refused : Equalizer → List Float → List Float → List ℕ → List ℕ → Bool
call_refused q xs ys ms reply = numbers_refused q xs ys ms (beside ms) reply

unfoldable call_replies : Equalizer → List Float → List Float → List ℕ → List ℕ → Bool
call_replies q xs ys ms reply = same (equalize_def q xs ys ms (beside ms)).reply reply

-- a setter's reply, and the record that it leaves
unfoldable setter_is : SetAnswer → List ℕ → EqualizeState → Bool
setter_is a reply s = same a.reply reply && same (state_bits a.state) (state_bits s)

-- set_frequency: freq by its bits, every other field as it was
unfoldable frequency_is : EqualizeState → Float → ℕ → Bool
frequency_is s v bits =
    same (state_bits (set_frequency_def s v)) (state_bits (with_running s s.mode s.count s.mse s.phase (f32 bits)))

-- ---- an accepted equalizer: QPSK, 3 forward taps, 1 feedback tap, bandwidth 0.02 and its gains, 5 of 1000 counted

unfoldable record_of : EqParams → EqMode → ℕ → ℕ → ℕ → ℕ → EqualizeState
record_of p md n kp ki fr =
    state_of p kp ki md n 0x3f00_0000 77 fr

unfoldable good : EqualizeState
good = record_of (settings 1 1000) Cma 5 0x3c07_6966 0x3967_1b0a 0x3c23_d70a

unfoldable around : EqualizeState → List Float → List Float → Equalizer
around s w h = record { state = s; weights = w; window = h }

unfoldable eight : ℕ → List Float
eight bits = replicate 8 (f32 bits)

unfoldable start : Equalizer
start = around good (eight 0x3f00_0000) (eight 0x3e80_0000)

unfoldable start_with : EqualizeState → Equalizer
start_with s = around s (eight 0x3f00_0000) (eight 0x3e80_0000)

-- one f32 of the weights, or of the window, has these bits: 0 is the first forward part, 7 the last feedback part
unfoldable weights_with : ℕ → ℕ → Equalizer
weights_with at bits = around good (set (eight 0x3f00_0000) at (f32 bits)) (eight 0x3e80_0000)

unfoldable window_with : ℕ → ℕ → Equalizer
window_with at bits = around good (eight 0x3f00_0000) (set (eight 0x3e80_0000) at (f32 bits))

unfoldable longer : List Float → List Float
longer l = f32 0x3f00_0000 ∷ l

-- two samples
unfoldable four : List Float
four = replicate 4 (f32 0x3f00_0000)

unfoldable six : List Float
six = replicate 6 (f32 0x4080_0000)

unfoldable two : List Float
two = replicate 2 (f32 0x4080_0000)

unfoldable marks : ℕ → List ℕ
marks n = replicate n 7

-- a record that breaks R4: count 1000 of 1000 in Cma
unfoldable broken : Equalizer
broken = start_with (record_of (settings 1 1000) Cma 1000 0x3c07_6966 0x3967_1b0a 0x3c23_d70a)

-- a window of one number more than the weights
unfoldable uneven : Equalizer
uneven = around good (eight 0) (longer (longer (eight 0)))

-- bandwidth 0.25 with its own gains
unfoldable wide : EqualizeState
wide = record_of (settings_with 1 0x3d4c_cccd 0x3ca3_d70a 0x3fd0_0000_0000_0000) Cma 5 0x3d9c_7473 0x3cd0_9bf2 0

-- a record that breaks every rule: 64 feedback taps, bandwidth 0.25 with the gains of 0.02, freq -0, Decision with 5 of 1000; the step sizes are given
unfoldable ruined : ℕ → ℕ → EqualizeState
ruined cmaBits ddBits = record_of (settings_with 64 cmaBits ddBits 0x3fd0_0000_0000_0000) Decision 5 0x3c07_6966 0x3967_1b0a 0x8000_0000

-- what reset leaves of `start`: count 0, mse 1, phase 0, freq 0, weight 1 in the middle of the forward taps
unfoldable restarted : EqualizeState → EqMode → Equalizer
restarted s md = around (with_running s md 0 one32 0 zero32) (set (replicate 8 zero32) 2 one32) (replicate 8 zero32)

-- ---- new: tests 1 to 7 in that order

unfoldable new_rows : List Bool
new_rows =
    new_refused (settings 1 1000) 9 8 (1 ∷ [])
    ∷ new_refused (settings 1 1000) 8 7 (1 ∷ [])
    ∷ new_refused (settings 64 1000) 134 134 (2 ∷ [])
    ∷ new_refused (settings 1 1000) 6 6 (3 ∷ [])
    ∷ new_refused (settings 1 1000) 4 4 (3 ∷ [])
    ∷ new_refused (settings 0 1000) 0 0 (3 ∷ [])
    ∷ new_refused (settings 0 1000) 130 130 (3 ∷ [])
    -- fewer weights than feedback taps
    ∷ new_refused (settings 5 1000) 8 8 (3 ∷ [])
    -- 4 returns the weights' length, then the window's
    ∷ new_refused (settings 1 1000) 8 10 (4 ∷ 4 ∷ 5 ∷ [])
    ∷ new_refused (settings 1 1000) 8 0 (4 ∷ 4 ∷ 0 ∷ [])
    ∷ new_refused (settings_with 1 0 0x3ca3_d70a 0) 8 8 (5 ∷ [])
    ∷ new_refused (settings_with 1 0x3d4c_cccd 0 0) 8 8 (6 ∷ [])
    ∷ new_refused (settings_with 1 0x3d4c_cccd 0x3ca3_d70a 0x3fd0_0000_0000_0000) 8 8 (7 ∷ [])
    -- two causes: 1 and 2, 2 and 3, 3 and 4, 4 and 5, 5 and 6, 6 and 7; and all of 2 to 7
    ∷ new_refused (settings 64 1000) 135 134 (1 ∷ [])
    ∷ new_refused (settings 64 1000) 8 8 (2 ∷ [])
    ∷ new_refused (settings 1 1000) 6 8 (3 ∷ [])
    ∷ new_refused (settings_with 1 0 0x3ca3_d70a 0) 8 6 (4 ∷ 4 ∷ 3 ∷ [])
    ∷ new_refused (settings_with 1 0 0 0) 8 8 (5 ∷ [])
    ∷ new_refused (settings_with 1 0x3d4c_cccd 0 0x3fd0_0000_0000_0000) 8 8 (6 ∷ [])
    ∷ new_refused (settings_with 64 0 0 0x3fd0_0000_0000_0000) 8 6 (2 ∷ [])
    -- served: 15 + 5 taps, weight 7 is 1; count 0, mse 1, phase 0, freq 0, the gains of 0.02; Decision where `cma_symbols` is 0
    ∷ new_served (settings 5 1000) 20 7 (1 ∷ 5 ∷ 0x3d4c_cccd ∷ 0x3ca3_d70a ∷ 1000 ∷ 0x3f94_7ae1_47ae_147b ∷ 0x3c07_6966 ∷ 0x3967_1b0a ∷ 0 ∷ 0 ∷ 0x3f80_0000 ∷ 0 ∷ 0 ∷ [])
    ∷ new_served (settings 0 0) 3 1 (1 ∷ 0 ∷ 0x3d4c_cccd ∷ 0x3ca3_d70a ∷ 0 ∷ 0x3f94_7ae1_47ae_147b ∷ 0x3c07_6966 ∷ 0x3967_1b0a ∷ 1 ∷ 0 ∷ 0x3f80_0000 ∷ 0 ∷ 0 ∷ [])
    -- the largest, and bandwidth -0, whose kp is -0
    ∷ new_served (settings 63 1) 126 31 (1 ∷ 63 ∷ 0x3d4c_cccd ∷ 0x3ca3_d70a ∷ 1 ∷ 0x3f94_7ae1_47ae_147b ∷ 0x3c07_6966 ∷ 0x3967_1b0a ∷ 0 ∷ 0 ∷ 0x3f80_0000 ∷ 0 ∷ 0 ∷ [])
    ∷ new_served (settings_with 0 0x3727_c5ac 0x3f80_0000 0x8000_0000_0000_0000) 3 1 (1 ∷ 0 ∷ 0x3727_c5ac ∷ 0x3f80_0000 ∷ 1000 ∷ 0x8000_0000_0000_0000 ∷ 0x8000_0000 ∷ 0 ∷ 0 ∷ 0 ∷ 0x3f80_0000 ∷ 0 ∷ 0 ∷ [])
    ∷ []

-- ---- reset: tests 1, then 8 for R1 and R2 only

unfoldable reset_rows : List Bool
reset_rows =
    reset_is start (restarted good Cma) []
    -- R3 and R4 are not tested
    ∷ reset_is broken (restarted good Cma) []
    ∷ reset_is (weights_with 3 0x7f80_0000) (restarted good Cma) []
    ∷ (let s = record_of (settings 1 0) Cma 9 0x3c07_6966 0x3967_1b0a 0x3f80_0000 in reset_is (start_with s) (restarted s Decision) [])
    -- an odd slice
    ∷ (let q = around good (longer (eight 0)) (eight 0) in reset_is q q (1 ∷ []))
    ∷ (let q = around good (eight 0) (longer (eight 0)) in reset_is q q (1 ∷ []))
    -- R1: lengths, taps; R2: a step size, the bandwidth, a gain
    ∷ reset_is uneven uneven (8 ∷ [])
    ∷ (let q = around good (longer (longer (eight 0))) (longer (longer (eight 0))) in reset_is q q (8 ∷ []))
    ∷ (let q = start_with (record_of (settings_with 1 0 0x3ca3_d70a 0x3f94_7ae1_47ae_147b) Cma 5 0x3c07_6966 0x3967_1b0a 0) in reset_is q q (8 ∷ []))
    ∷ (let q = start_with wide in reset_is q q (8 ∷ []))
    ∷ (let q = start_with (record_of (settings 1 1000) Cma 5 0x3c07_6967 0x3967_1b0a 0) in reset_is q q (8 ∷ []))
    -- 1 and 8
    ∷ (let q = around (record_of (settings 1 1000) Cma 5 0 0 0) (longer (eight 0)) (eight 0) in reset_is q q (1 ∷ []))
    ∷ []

-- ---- the setters test 5 or 6 only, and move one setting

unfoldable setter_rows : List Bool
setter_rows =
    setter_is (set_mu_cma_def good (f32 0x3dcc_cccd)) [] (record_of (settings_with 1 0x3dcc_cccd 0x3ca3_d70a 0x3f94_7ae1_47ae_147b) Cma 5 0x3c07_6966 0x3967_1b0a 0x3c23_d70a)
    ∷ setter_is (set_mu_dd_def good (f32 0x3dcc_cccd)) [] (record_of (settings_with 1 0x3d4c_cccd 0x3dcc_cccd 0x3f94_7ae1_47ae_147b) Cma 5 0x3c07_6966 0x3967_1b0a 0x3c23_d70a)
    ∷ setter_is (set_mu_cma_def good nan) (5 ∷ []) good
    ∷ setter_is (set_mu_cma_def good (f32 0x3f80_0001)) (5 ∷ []) good
    ∷ setter_is (set_mu_dd_def good zero32) (6 ∷ []) good
    ∷ setter_is (set_mu_dd_def good (inf false)) (6 ∷ []) good
    -- nothing else is tested
    ∷ setter_is (set_mu_cma_def (ruined 0 0) one32) [] (ruined 0x3f80_0000 0)
    ∷ setter_is (set_mu_dd_def (ruined 0 0) one32) [] (ruined 0 0x3f80_0000)
    ∷ setter_is (set_mu_cma_def (ruined 0 0) zero32) (5 ∷ []) (ruined 0 0)
    ∷ setter_is (set_mu_dd_def (ruined 0 0) zero32) (6 ∷ []) (ruined 0 0)
    -- set_frequency: NaN, the infinities, -0, 1e-31, 1e-30 and the f32 below, 0.04, -0.3, the limits
    ∷ frequency_is good nan 0
    ∷ frequency_is good (inf false) 0x3e00_0000
    ∷ frequency_is good (inf true) 0xbe00_0000
    ∷ frequency_is good (f32 0x8000_0000) 0
    ∷ frequency_is good (f32 0x0c01_ceb3) 0
    ∷ frequency_is good (f32 0x8c01_ceb3) 0
    ∷ frequency_is good (f32 0x0da2_425f) 0
    ∷ frequency_is good (f32 0x0da2_4260) 0x0da2_4260
    ∷ frequency_is good (f32 0x8da2_4260) 0x8da2_4260
    ∷ frequency_is good (f32 0x3d23_d70a) 0x3d23_d70a
    ∷ frequency_is good (f32 0xbe99_999a) 0xbe00_0000
    ∷ frequency_is good (f32 0x3e00_0000) 0x3e00_0000
    ∷ frequency_is good (f32 0x3e00_0001) 0x3e00_0000
    ∷ frequency_is (ruined 0 0) (f32 0x3d23_d70a) 0x3d23_d70a
    ∷ []

-- ---- an accepted record: R1 to R4, and slices of whole complex numbers

-- 3 forward and m feedback taps
unfoldable feeding : ℕ → Equalizer
feeding m = around (record_of (settings m 1000) Cma 5 0x3c07_6966 0x3967_1b0a 0) (replicate (2 * (3 + m)) zero32) (replicate (2 * (3 + m)) zero32)

unfoldable accepted_rows : List Bool
accepted_rows =
    accepted_def start ∷ not (accepted_def broken)
    -- one f32 too many, which R1 does not see
    ∷ not (accepted_def (around good (longer (eight 0x3f00_0000)) (eight 0x3e80_0000)))
    ∷ not (accepted_def (around good (eight 0x3f00_0000) (longer (eight 0x3e80_0000))))
    -- R1: 63 and 64 feedback taps
    ∷ rule_r1 (feeding 63) ∷ not (rule_r1 (feeding 64))
    -- no weights: R3 holds of them, R1 does not
    ∷ rule_r3 (around good [] []) ∷ not (rule_r1 (around good [] []))
    -- taps are those of the weights
    ∷ eqb (all_taps uneven) 4 ∷ eqb (forward uneven) 3
    ∷ []

-- ---- R3 of one weight part by its bits, at the first, a middle and the last place of 3 + 1 and of 63 + 63 taps

-- whether a record of m feedback taps with n parts of weights, all 0.5 but v at one place, is accepted
unfoldable accepts : ℕ → ℕ → ℕ → ℕ → Bool
accepts m n at v =
    accepted_def (around (record_of (settings m 1000) Cma 5 0x3c07_6966 0x3967_1b0a 0) (set (replicate n (f32 0x3f00_0000)) at (f32 v)) (replicate n zero32))

unfoldable at_places : ℕ → List Bool
at_places v = accepts 1 8 0 v ∷ accepts 1 8 3 v ∷ accepts 1 8 7 v ∷ accepts 63 252 0 v ∷ accepts 63 252 126 v ∷ accepts 63 252 251 v ∷ []

unfoldable fits_everywhere : ℕ → Bool
fits_everywhere v = all (at_places v)

unfoldable fits_nowhere : ℕ → Bool
fits_nowhere v = all (map not (at_places v))

unfoldable weight_rows : List Bool
weight_rows =
    -- +0; 1e-30, the f32 above it, -1e-30; 1, -1; the largest of both signs
    fits_everywhere 0 ∷ fits_everywhere 0x0da2_4260 ∷ fits_everywhere 0x0da2_4261 ∷ fits_everywhere 0x8da2_4260 ∷ fits_everywhere 0x3f80_0000 ∷ fits_everywhere 0xbf80_0000
    ∷ fits_everywhere 0x7f7f_ffff ∷ fits_everywhere 0xff7f_ffff
    -- -0; the smallest of both signs, the largest subnormal, the smallest normal; the f32 below 1e-30 of both signs
    ∷ fits_nowhere 0x8000_0000 ∷ fits_nowhere 1 ∷ fits_nowhere 0x8000_0001 ∷ fits_nowhere 0x007f_ffff ∷ fits_nowhere 0x0080_0000 ∷ fits_nowhere 0x0da2_425f ∷ fits_nowhere 0x8da2_425f
    -- the infinities; NaNs: the least pattern, the quiet one, the largest
    ∷ fits_nowhere 0x7f80_0000 ∷ fits_nowhere 0xff80_0000 ∷ fits_nowhere 0x7f80_0001 ∷ fits_nowhere 0x7fc0_0000 ∷ fits_nowhere 0xffff_ffff
    ∷ []

-- ---- equalizing tests 1, 8, 9, 10, 13

unfoldable call_rows : List Bool
call_rows =
    call_replies start four four (marks 2) []
    ∷ call_replies start [] [] [] []
    -- 1: each slice
    ∷ call_refused (around good (longer (eight 0)) (eight 0)) four four (marks 2) (1 ∷ [])
    ∷ call_refused (around good (eight 0) (longer (eight 0))) four four (marks 2) (1 ∷ [])
    ∷ call_refused start (longer four) four (marks 2) (1 ∷ [])
    ∷ call_refused start four (longer four) (marks 2) (1 ∷ [])
    -- 8, R1: feedback taps, forward taps, lengths, no weights
    ∷ call_refused (start_with (record_of (settings 64 1000) Cma 5 0x3c07_6966 0x3967_1b0a 0)) four four (marks 2) (8 ∷ [])
    ∷ call_refused (start_with (record_of (settings 0 1000) Cma 5 0x3c07_6966 0x3967_1b0a 0)) four four (marks 2) (8 ∷ [])
    ∷ call_refused uneven four four (marks 2) (8 ∷ [])
    ∷ call_refused (around good [] []) four four (marks 2) (8 ∷ [])
    -- R2: step sizes, bandwidth 0.25, gains by bits
    ∷ call_refused (start_with (record_of (settings_with 1 0 0x3ca3_d70a 0x3f94_7ae1_47ae_147b) Cma 5 0x3c07_6966 0x3967_1b0a 0)) four four (marks 2) (8 ∷ [])
    ∷ call_refused (start_with (record_of (settings_with 1 0x3d4c_cccd 0x3f80_0001 0x3f94_7ae1_47ae_147b) Cma 5 0x3c07_6966 0x3967_1b0a 0)) four four (marks 2) (8 ∷ [])
    ∷ call_refused (start_with wide) four four (marks 2) (8 ∷ [])
    ∷ call_refused (start_with (record_of (settings 1 1000) Cma 5 0x3c07_6965 0x3967_1b0a 0)) four four (marks 2) (8 ∷ [])
    ∷ call_refused (start_with (record_of (settings 1 1000) Cma 5 0x3c07_6966 0x3967_1b0b 0)) four four (marks 2) (8 ∷ [])
    -- bandwidth +0 and -0: kp has the sign of the bandwidth
    ∷ call_replies (start_with (record_of (settings_with 1 0x3d4c_cccd 0x3ca3_d70a 0) Cma 5 0 0 0)) four four (marks 2) []
    ∷ call_replies (start_with (record_of (settings_with 1 0x3d4c_cccd 0x3ca3_d70a 0) Cma 5 0x8000_0000 0 0)) four four (marks 2) (8 ∷ [])
    ∷ call_replies (start_with (record_of (settings_with 1 0x3d4c_cccd 0x3ca3_d70a 0x8000_0000_0000_0000) Cma 5 0x8000_0000 0 0)) four four (marks 2) []
    ∷ call_replies (start_with (record_of (settings_with 1 0x3d4c_cccd 0x3ca3_d70a 0x8000_0000_0000_0000) Cma 5 0 0 0)) four four (marks 2) (8 ∷ [])
    -- R3: a weight -0, below 1e-30, 1e-30, infinite, NaN; a window part infinite, NaN, subnormal
    ∷ call_refused (weights_with 3 0x8000_0000) four four (marks 2) (8 ∷ [])
    ∷ call_refused (weights_with 3 0x0da2_425f) four four (marks 2) (8 ∷ [])
    ∷ call_replies (weights_with 3 0x8da2_4260) four four (marks 2) []
    ∷ call_replies (weights_with 3 0) four four (marks 2) []
    ∷ call_refused (weights_with 3 0x7f80_0000) four four (marks 2) (8 ∷ [])
    ∷ call_refused (weights_with 3 0x7fc0_0000) four four (marks 2) (8 ∷ [])
    ∷ call_refused (window_with 7 0xff80_0000) four four (marks 2) (8 ∷ [])
    ∷ call_refused (window_with 7 0x7fc0_0000) four four (marks 2) (8 ∷ [])
    ∷ call_replies (window_with 7 0x8000_0001) four four (marks 2) []
    -- the first and the last weight, the first and the last forward part of the window
    ∷ call_refused (weights_with 0 0x8000_0000) four four (marks 2) (8 ∷ [])
    ∷ call_refused (weights_with 7 0x8000_0000) four four (marks 2) (8 ∷ [])
    ∷ call_refused (window_with 0 0x7f80_0000) four four (marks 2) (8 ∷ [])
    ∷ call_refused (window_with 5 0x7f80_0000) four four (marks 2) (8 ∷ [])
    -- freq -0, below 1e-30, beyond 0.125; mse is free
    ∷ call_refused (start_with (record_of (settings 1 1000) Cma 5 0x3c07_6966 0x3967_1b0a 0x8000_0000)) four four (marks 2) (8 ∷ [])
    ∷ call_refused (start_with (record_of (settings 1 1000) Cma 5 0x3c07_6966 0x3967_1b0a 0x0da2_425f)) four four (marks 2) (8 ∷ [])
    ∷ call_refused (start_with (record_of (settings 1 1000) Cma 5 0x3c07_6966 0x3967_1b0a 0x3e00_0001)) four four (marks 2) (8 ∷ [])
    ∷ call_replies (start_with (record_of (settings 1 1000) Cma 5 0x3c07_6966 0x3967_1b0a 0xbe00_0000)) four four (marks 2) []
    ∷ call_replies (start_with (with_running good Cma 5 nan 0 zero32)) four four (marks 2) []
    -- R4: Cma with count below `cma_symbols`, Decision with count equal to it; with 4,294,967,295 Cma and 0
    ∷ call_refused broken four four (marks 2) (8 ∷ [])
    ∷ call_replies (start_with (record_of (settings 1 1000) Cma 999 0x3c07_6966 0x3967_1b0a 0)) four four (marks 2) []
    ∷ call_replies (start_with (record_of (settings 1 1000) Decision 1000 0x3c07_6966 0x3967_1b0a 0)) four four (marks 2) []
    ∷ call_refused (start_with (record_of (settings 1 1000) Decision 999 0x3c07_6966 0x3967_1b0a 0)) four four (marks 2) (8 ∷ [])
    ∷ call_refused (start_with (record_of (settings 1 1000) Decision 1001 0x3c07_6966 0x3967_1b0a 0)) four four (marks 2) (8 ∷ [])
    ∷ call_replies (start_with (record_of (settings 1 4294967295) Cma 0 0x3c07_6966 0x3967_1b0a 0)) four four (marks 2) []
    ∷ call_refused (start_with (record_of (settings 1 4294967295) Cma 1 0x3c07_6966 0x3967_1b0a 0)) four four (marks 2) (8 ∷ [])
    ∷ call_refused (start_with (record_of (settings 1 4294967295) Decision 4294967295 0x3c07_6966 0x3967_1b0a 0)) four four (marks 2) (8 ∷ [])
    -- 9 and 10: the input's length, then the other's
    ∷ call_refused start four six (marks 2) (9 ∷ 2 ∷ 3 ∷ [])
    ∷ call_refused start four two (marks 2) (9 ∷ 2 ∷ 1 ∷ [])
    ∷ call_refused start [] two [] (9 ∷ 0 ∷ 1 ∷ [])
    ∷ call_refused start four four (marks 3) (10 ∷ 2 ∷ 3 ∷ [])
    ∷ call_refused start four four (marks 0) (10 ∷ 2 ∷ 0 ∷ [])
    ∷ call_refused start [] [] (marks 1) (10 ∷ 0 ∷ 1 ∷ [])
    -- two causes: 1 and 8, 1 and 9, 8 and 9, 8 and 10, 9 and 10
    ∷ call_refused broken (longer four) four (marks 2) (1 ∷ [])
    ∷ call_refused start (longer four) six (marks 0) (1 ∷ [])
    ∷ call_refused broken four six (marks 2) (8 ∷ [])
    ∷ call_refused broken four four (marks 0) (8 ∷ [])
    ∷ call_refused start four six (marks 3) (9 ∷ 2 ∷ 3 ∷ [])
    -- 13: its number alone
    ∷ numbers_refused start four four (marks 2) (marks 3) (13 ∷ [])
    ∷ numbers_refused start four four (marks 2) (marks 1) (13 ∷ [])
    ∷ numbers_refused start four four (marks 2) [] (13 ∷ [])
    ∷ numbers_refused start four four (marks 2) (marks 4) (13 ∷ [])
    ∷ numbers_refused start [] [] [] (marks 1) (13 ∷ [])
    -- 10 and 13, 9 and 13, 8 and 13, 1 and 13
    ∷ numbers_refused start four four (marks 3) (marks 1) (10 ∷ 2 ∷ 3 ∷ [])
    ∷ numbers_refused start four six (marks 2) (marks 3) (9 ∷ 2 ∷ 3 ∷ [])
    ∷ numbers_refused broken four four (marks 2) (marks 3) (8 ∷ [])
    ∷ numbers_refused start (longer four) four (marks 2) (marks 3) (1 ∷ [])
    ∷ []

-- the table, whole
unfoldable pub refusals_pass : Bool
unfolding new_refused made_bits new_served reset_is numbers_refused beside call_refused call_replies setter_is frequency_is record_of good around eight start start_with weights_with window_with longer four six two marks broken wide ruined restarted feeding uneven new_rows reset_rows setter_rows accepted_rows accepts at_places fits_everywhere fits_nowhere weight_rows call_rows
refusals_pass = all new_rows && all reset_rows && all setter_rows && all accepted_rows && all weight_rows && all call_rows
