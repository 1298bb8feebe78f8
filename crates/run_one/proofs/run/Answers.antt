-- `run` passes over the samples i .. e of a block: start, samples and end of one run, joined by `whole_run`.
-- By an answer: `grind` opens the record that the law is about, and stops at a field that is a value.
use Rattle.run_one.proofs.Start.{whole_run}
use Rattle.run_one.proofs.run.Goals as goal

pub returns : goal.returns
returns c =
    let asked = c.requires in
    whole_run _ _ _ _ _ _ _ _ _ _ _ _ _ _ _ _ _ _ _ _ _ _ _ _ _ _ _ _ asked.i_le_e.0 asked.i_le_e.1.0 asked.i_le_e.1.1 asked.input_len.0 c.args.call.now.most c.prepare_run.ensures c.run-r.ensures c.finish_run.ensures
