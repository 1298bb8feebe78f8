-- `linear_state` hands the caller's slices to the arrays: they are as long as the shape of its taps asks.
-- By an answer: the search stops at one of its limits.
use Rattle.run_block.proofs.Call.{asked_long}
use Rattle.run_block.proofs.linear_state.Goals as goal

pub load_linear-requires-clause-weights_len : goal.load_linear-requires-clause-weights_len
load_linear-requires-clause-weights_len c = asked_long _ _ _ _ _ _ _ _ _ c.requires c.shape_of-shape.result c.shape_of-shape.ensures
