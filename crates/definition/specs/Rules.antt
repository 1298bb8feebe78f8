-- The record rules R1 to R4.
use Rattle.std.specs.Prelude.{ℕ, ◌+◌, ◌*◌, ◌≤◌, ◌%◌, ◌≡◌, Bool, cond, not, ◌&&◌, ◌||◌, length, eqb, leb, ltb, Float}
use Rattle.std.specs.Float.{binary32}
use Rattle.std.specs.Float.Ieee.{to_bits, eq, le}
use Rattle.std.specs.Float.Ieee.Scale.{finite}
use Rattle.types.specs.declared.EqMode.{EqMode}
use Rattle.types.specs.declared.EqMode.TheVariants.{Cma, Decision}
use Rattle.types.specs.declared.EqualizeState.{EqualizeState}
use Rattle.types.specs.Bits.{f64, one32}
use Rattle.definition.specs.Floats.{tiny, max_freq, mu_min, bw_min, bw_max, abs}
use Rattle.definition.specs.Slices.{complex_length, whole, every}
use Rattle.definition.specs.Gains.{phase_damping, gain_kp, gain_ki}
use Rattle.definition.specs.Sample.{Equalizer, all_taps, feedback, forward, never_switch}

-- ---- the ranges

-- an odd number from 3 to 63
unfoldable pub taps_fit : ℕ → Bool
taps_fit n = eqb (n % 2) 1 && leb 3 n && leb n 63

-- at most 63
unfoldable pub feedback_fits : ℕ → Bool
feedback_fits m = leb m 63

-- from f32 0.00001 to 1
unfoldable pub mu_fits : Float → Bool
mu_fits mu = le mu_min mu && le mu one32

-- 0 of either sign, or 0.0001 to 0.2, ends included
unfoldable pub bw_fits : Float → Bool
bw_fits bw = eq bw (f64 0) || (le bw_min bw && le bw bw_max)

-- the same by bits
unfoldable pub same_bits : Float → Float → Bool
same_bits x y = eqb (to_bits binary32 x) (to_bits binary32 y)

-- +0
unfoldable pub plus_zero : Float → Bool
plus_zero v = eqb (to_bits binary32 v) 0

-- ---- R1: at most 63 feedback taps, an odd number of forward taps from 3 to 63, equal slice lengths.
unfoldable pub rule_r1 : Equalizer → Bool
rule_r1 q = feedback_fits (feedback q) && taps_fit (forward q) && eqb (complex_length q.weights) (complex_length q.window)

-- ---- R2: both step sizes from f32 0.00001 to 1; bandwidth 0 of either sign or 0.0001 to 0.2, ends included; kp and ki are exactly its gains, by bits.
unfoldable pub rule_r2 : EqualizeState → Bool
rule_r2 s =
    mu_fits s.params.mu_cma && mu_fits s.params.mu_dd && bw_fits s.params.phase_bw
    && same_bits s.kp (gain_kp s.params.phase_bw phase_damping) && same_bits s.ki (gain_ki s.params.phase_bw phase_damping)

-- ---- R3: each weight part is +0 or finite with magnitude at least 1e-30; window parts are finite; freq is +0 or has magnitude 1e-30 to 0.125.
-- `mse` is free.
unfoldable pub weight_fits : Float → Bool
weight_fits v = plus_zero v || (finite v && le tiny (abs v))

unfoldable pub freq_fits : Float → Bool
freq_fits v = plus_zero v || (le tiny (abs v) && le (abs v) max_freq)

unfoldable pub rule_r3 : Equalizer → Bool
rule_r3 q = every weight_fits q.weights && every finite q.window && freq_fits q.state.freq

-- ---- R4: with `cma_symbols` 4,294,967,295, mode Cma and count 0; else Cma with count below `cma_symbols`, or Decision with count equal to it.
unfoldable pub count_fits : EqMode → ℕ → ℕ → Bool
count_fits Cma n total = cond (eqb total never_switch) (eqb n 0) (ltb n total)
count_fits Decision n total = not (eqb total never_switch) && eqb n total

unfoldable pub rule_r4 : EqualizeState → Bool
rule_r4 s = count_fits s.mode s.count s.params.cma_symbols

-- ---- the rules together

unfoldable pub rules : Equalizer → Bool
rules q = rule_r1 q && rule_r2 q.state && rule_r3 q && rule_r4 q.state

-- An accepted record meets R1 to R4. Its weights and window are slices of complex numbers, of an even count of f32 each (refusal 1, tried first).
unfoldable pub accepted_def : Equalizer → Bool
accepted_def q = whole q.weights && whole q.window && rules q

-- what R1 says, as numbers
pub record TapCounts (q : Equalizer) : Type 0 where
  pub some : 3 ≤ forward q
  pub most : forward q ≤ 63
  pub back : feedback q ≤ 63
  pub sum : forward q + feedback q ≡ all_taps q
  pub weights : length q.weights ≡ 2 * all_taps q
  pub window : length q.window ≡ 2 * all_taps q
