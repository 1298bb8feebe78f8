-- EVERY CUT of a stream into exported calls: a list of them is one run over the samples of those that are served.
use Rattle.std.specs.Prelude.{◌≡◌, true, List}
use Rattle.definition.specs.Run.{run_def, written, symbol_parts, mark_byte, number_byte}
use Rattle.capi_numbers.specs.RawRecord.{known_record}
use Rattle.capi_demands.specs.Traces.{Kept, equalizer_of, kept_of, Seen, Follow, samples, symbols, marks, numbers, left}

pub record OneRun (k : Kept) (ss : List Seen) : Type 0 where
  pub symbols : symbols ss ≡ written symbol_parts (run_def (equalizer_of k) (samples ss)).outs
  pub marks : marks ss ≡ written mark_byte (run_def (equalizer_of k) (samples ss)).outs
  pub numbers : numbers ss ≡ written number_byte (run_def (equalizer_of k) (samples ss)).outs
  pub left : left k ss ≡ kept_of (run_def (equalizer_of k) (samples ss)).equalizer

abbrev pub CallsAreOneRun : Type 0
CallsAreOneRun = (k : Kept) (ss : List Seen) → known_record k.raw ≡ true → Follow k ss → OneRun k ss

-- the same symbols, marks, numbers, record, weights and window
pub record Same (j k : Kept) (ss ts : List Seen) : Type 0 where
  pub symbols : symbols ss ≡ symbols ts
  pub marks : marks ss ≡ marks ts
  pub numbers : numbers ss ≡ numbers ts
  pub left : left j ss ≡ left k ts

abbrev pub AnyCut : Type 0
AnyCut = (k : Kept) (ss ts : List Seen) → known_record k.raw ≡ true → Follow k ss → Follow k ts → samples ss ≡ samples ts → Same k k ss ts
