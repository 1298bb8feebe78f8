-- `limits` gives each lane its limit: infinities, and TINY filled in where the weights are.
-- By an answer: what `fill` fills in stands behind a premise on its copies, where no tactic finds the law.
use Rattle.lanes_load.proofs.LaneLimits.{limits-are}
use Rattle.lanes_load.proofs.limits.Goals as goal

pub returns : goal.returns
returns c = limits-are _ _ _ _ _ c.requires.0 c.requires.1 (c.fill.ensures.after (λ y e. e)) (c.fill-2.ensures.after (λ y e. e))
