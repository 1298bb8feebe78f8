-- `load_linear` fills empty arrays from the caller's slices: by what `split` and `squares` leave, and the law of a call's start.
-- By an answer: `grind` with the law stops at its limit of depth.
use Rattle.run_block.proofs.Call.{loads}
use Rattle.run_block.proofs.load_linear.Goals as goal

pub returns : goal.returns
returns c =
    rw c.squares.ensures.values
    (loads _ _ _ c.requires.front _ _ _ c.requires.empty _ _ _ _ _ _ _ _ _ c.split.ensures c.split-2.ensures
    c.split-3.ensures c.split-4.ensures c.squares.ensures.squared)
