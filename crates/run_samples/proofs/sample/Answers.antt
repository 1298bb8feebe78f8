-- `sample` is steps 2 to 8 of a sample on the arrays: `take`, the feedback and the mode, joined by `sampled_is`.
-- By an answer: `grind` opens the record that the law is about, and does not find its parts.
use Rattle.run_samples.proofs.OneSample.{sampled_is}
use Rattle.run_samples.proofs.sample.Goals as goal

pub returns : goal.returns
returns c =
    sampled_is _ _ _ _ _ _ _ _ _ _ _ c.args.e.within c.requires c.take-r.ensures c.feed.ensures.re c.feed.ensures.im c.feed.ensures.squares c.sampled.ensures
