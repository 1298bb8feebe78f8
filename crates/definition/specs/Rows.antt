-- What the tables of rows compare: everything by whole numbers, floats by their bits.
use Rattle.std.specs.Prelude.{ℕ, Bool, true, false, ◌&&◌, List, [], ◌∷◌, map, eqb, Float}
use Rattle.std.specs.Float.{binary32, binary64}
use Rattle.std.specs.Float.Ieee.{to_bits}
use Rattle.types.specs.declared.EqMode.{EqMode}
use Rattle.types.specs.declared.EqConstellation.{EqConstellation}
use Rattle.types.specs.declared.EqConstellation.TheVariants.{Qpsk}
use Rattle.types.specs.declared.EqParams.{EqParams}
use Rattle.types.specs.declared.EqualizeState.{EqualizeState}
use Rattle.types.specs.Bits.{f32, f64}
use Rattle.types.specs.Numbers.{mode_number, constellation_number}
use Rattle.definition.specs.Sample.{Equalizer}

abbrev pub same : List ℕ → List ℕ → Bool
same [] [] = true
same [] (b ∷ l) = false
same (a ∷ k) [] = false
same (a ∷ k) (b ∷ l) = eqb a b && same k l

unfoldable pub all : List Bool → Bool
all [] = true
all (b ∷ l) = b && all l

unfoldable pub bits_of : List Float → List ℕ
bits_of l = map (to_bits binary32) l

-- every field of the record, in its order
unfoldable pub state_bits : EqualizeState → List ℕ
state_bits s =
    constellation_number s.params.constellation ∷ s.params.feedback_taps ∷ to_bits binary32 s.params.mu_cma ∷ to_bits binary32 s.params.mu_dd
    ∷ s.params.cma_symbols ∷ to_bits binary64 s.params.phase_bw ∷ to_bits binary32 s.kp ∷ to_bits binary32 s.ki ∷ mode_number s.mode ∷ s.count
    ∷ to_bits binary32 s.mse ∷ s.phase ∷ to_bits binary32 s.freq ∷ []

-- the record, the weights and the window are the same
unfoldable pub same_equalizer : Equalizer → Equalizer → Bool
same_equalizer p q =
    same (state_bits p.state) (state_bits q.state) && same (bits_of p.weights) (bits_of q.weights) && same (bits_of p.window) (bits_of q.window)

-- settings, a record, and an equalizer by their numbers, floats by their bits
unfoldable pub settings_of : EqConstellation → ℕ → ℕ → ℕ → ℕ → ℕ → EqParams
settings_of k taps cmaBits ddBits symbols bwBits = record {
  constellation = k;
  feedback_taps = taps;
  mu_cma = f32 cmaBits;
  mu_dd = f32 ddBits;
  cma_symbols = symbols;
  phase_bw = f64 bwBits;
}

unfoldable pub state_of : EqParams → ℕ → ℕ → EqMode → ℕ → ℕ → ℕ → ℕ → EqualizeState
state_of p kpBits kiBits md n mseBits phase freqBits =
    record { params = p; kp = f32 kpBits; ki = f32 kiBits; mode = md; count = n; mse = f32 mseBits; phase = phase; freq = f32 freqBits }

unfoldable pub holds : EqualizeState → List ℕ → List ℕ → Equalizer
holds s w h = record { state = s; weights = map f32 w; window = map f32 h }

-- QPSK, mu 0.05 and 0.02, bandwidth 0.02
unfoldable pub settings : ℕ → ℕ → EqParams
unfolding settings_of
settings taps symbols = settings_of Qpsk taps 0x3d4c_cccd 0x3ca3_d70a symbols 0x3f94_7ae1_47ae_147b

-- QPSK with other step sizes and another bandwidth, 1000 symbols in Cma
unfoldable pub settings_with : ℕ → ℕ → ℕ → ℕ → EqParams
unfolding settings_of
settings_with taps cmaBits ddBits bwBits = settings_of Qpsk taps cmaBits ddBits 1000 bwBits
