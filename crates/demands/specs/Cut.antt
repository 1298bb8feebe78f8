-- EVERY CUT OF A STREAM INTO CALLS. A list of calls is one run over the samples of its served calls, so the cut does not matter.
use Rattle.std.specs.Prelude.{◌≡◌, List}
use Rattle.definition.specs.Sample.{Equalizer}
use Rattle.definition.specs.Run.{run_def, written, symbol_parts, mark_byte, number_byte}
use Rattle.demands.specs.Traces.{Observed, Follow, samples, symbols, marks, numbers, left}

-- a list of calls from q on, whichever paths serve them, as one run
pub record OneRun (q : Equalizer) (os : List Observed) : Type 0 where
  pub symbols : symbols os ≡ written symbol_parts (run_def q (samples os)).outs
  pub marks : marks os ≡ written mark_byte (run_def q (samples os)).outs
  pub numbers : numbers os ≡ written number_byte (run_def q (samples os)).outs
  pub left : left q os ≡ (run_def q (samples os)).equalizer

abbrev pub CallsAreOneRun : Type 0
CallsAreOneRun = (q : Equalizer) (os : List Observed) → Follow q os → OneRun q os

-- two lists of calls from one start, over the same samples: the same symbols, marks, numbers, record, weights and window
pub record Same (p q : Equalizer) (os ps : List Observed) : Type 0 where
  pub symbols : symbols os ≡ symbols ps
  pub marks : marks os ≡ marks ps
  pub numbers : numbers os ≡ numbers ps
  pub left : left p os ≡ left q ps

abbrev pub AnyCut : Type 0
AnyCut = (q : Equalizer) (os ps : List Observed) → Follow q os → Follow q ps → samples os ≡ samples ps → Same q q os ps
