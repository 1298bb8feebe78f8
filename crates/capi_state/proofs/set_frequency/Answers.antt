-- `capi_state::set_frequency` replies what `set_frequency_raw` says: its setter is served. Assumes nothing.
-- By an answer: `set` promises a reply for each answer of a setter, and no search finds the one of a setter that is always served.
use Rattle.std.proofs.Common.{Ok, rules}
use Rattle.definition.specs.Calls.{set_answer, set_frequency_def}
use Rattle.capi_numbers.specs.RawRecord.{record_in}
use Rattle.capi_state.specs.Raw.{set_frequency_raw}
use Rattle.capi_state.proofs.set_frequency.Goals as goal

pub returns : goal.returns
unfolding set_frequency_raw
returns c = c.set.ensures (set_answer (Ok tt) (set_frequency_def (record_in c.args.raw) c.args.freq)) (λ e p. search rules)
