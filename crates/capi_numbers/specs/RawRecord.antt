-- THE RECORD OF THE EXPORTED CALLS, as numbers, both ways, and the reply. A record or settings with a number that stands for no constellation or
-- mode breaks a rule: 8, after 1 where there are slices.
use Rattle.std.specs.Prelude.{ℕ, Bool, false, ◌&&◌, List, [], ◌∷◌, get_or, cond, Result, Ok, Err}
use Rattle.types.specs.declared.EqParams.{EqParams}
use Rattle.types.specs.declared.EqualizeState.{EqualizeState}
use Rattle.types.specs.declared.Error.TheVariants.{Odd, Record}
use Rattle.types.specs.declared.numbers.UnknownNumber.{UnknownNumber}
use Rattle.types.specs.Bits.{zero32, f64}
use Rattle.types.specs.Numbers.{mode_number, known_mode, mode_of, constellation_number, known_constellation, constellation_of}
use Rattle.definition.specs.Refusals.{Fresh, reply_of, test, first_of}
use Rattle.capi_numbers.specs.declared.EqSettings.{EqSettings}
use Rattle.capi_numbers.specs.declared.EqRecord.{EqRecord}
use Rattle.capi_numbers.specs.declared.EqReply.{EqReply}

-- ---- numbers in

-- the numbers are those of types
unfoldable pub known_settings : EqSettings → Bool
known_settings p = known_constellation p.constellation

unfoldable pub known_record : EqRecord → Bool
known_record r = known_settings r.settings && known_mode r.mode

unfoldable pub settings_in : EqSettings → EqParams
settings_in p = record {
  constellation = constellation_of p.constellation;
  feedback_taps = p.feedback_taps;
  mu_cma = p.mu_cma;
  mu_dd = p.mu_dd;
  cma_symbols = p.cma_symbols;
  phase_bw = p.phase_bw;
}

unfoldable pub record_in : EqRecord → EqualizeState
record_in r = record {
  params = settings_in r.settings;
  kp = r.kp;
  ki = r.ki;
  mode = mode_of r.mode;
  count = r.count;
  mse = r.mse;
  phase = r.phase;
  freq = r.freq;
}

-- read: the settings and the record, or the first number that is not known

abbrev pub read_settings : EqSettings → Result EqParams UnknownNumber
read_settings p = cond (known_settings p) (Ok (settings_in p)) (Err (record { number = p.constellation }))

abbrev pub read_record : EqRecord → Result EqualizeState UnknownNumber
read_record r =
    cond (known_settings r.settings) (cond (known_mode r.mode) (Ok (record_in r)) (Err (record { number = r.mode }))) (Err (record { number = r.settings.constellation }))

-- ---- numbers out

unfoldable pub settings_out : EqParams → EqSettings
settings_out p = record {
  phase_bw = p.phase_bw;
  feedback_taps = p.feedback_taps;
  constellation = constellation_number p.constellation;
  mu_cma = p.mu_cma;
  mu_dd = p.mu_dd;
  cma_symbols = p.cma_symbols;
}

unfoldable pub record_out : EqualizeState → EqRecord
record_out s = record {
  settings = settings_out s.params;
  kp = s.kp;
  ki = s.ki;
  mode = mode_number s.mode;
  count = s.count;
  mse = s.mse;
  phase = s.phase;
  freq = s.freq;
}

-- no equalizer: all zeros. Its step sizes are out of range, so that equalizing and reset refuse it.
unfoldable pub no_record : EqRecord
no_record = record {
  settings = record { phase_bw = f64 0; feedback_taps = 0; constellation = 0; mu_cma = zero32; mu_dd = zero32; cma_symbols = 0 };
  kp = zero32;
  ki = zero32;
  mode = 0;
  count = 0;
  mse = zero32;
  phase = 0;
  freq = zero32;
}

-- The definition's reply, of a number and two lengths at most, with 0 for what it has not: [] is served.
unfoldable pub replied : EqRecord → List ℕ → EqReply
replied r l = record { «record» = r; number = get_or l 0 0; expected = get_or l 1 0; got = get_or l 2 0 }

-- what new replies with
abbrev pub fresh_out : Fresh → EqRecord
fresh_out (Ok s) = record_out s
fresh_out (Err e) = no_record

-- An unknown number is tried like any broken rule: 1 where a slice is odd, else 8.
unfoldable pub unknown : Bool → List ℕ
unknown evens = reply_of (first_of (test evens Odd ∷ test false Record ∷ []))
