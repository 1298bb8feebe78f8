-- `broken` says whether a weight is not finite: `any` asks it of each lane. Assumes nothing.
-- By an answer: no search gives the library's law of `any` its test and what the iterator yields.
use mathlib.Core.Path.{◌∙◌}
use Prim.Native.Nat.{ℕ}
use Rattle.std.proofs.Common.{rules}
use Rattle.std.proofs.lemmas.Iterator.{YieldsList-from_slice}
use Rattle.std.proofs.lemmas.Iterator.Consumers.{YieldsList-at, YieldsList-from_enumerate}
use Rattle.std.proofs.lemmas.Iterator.Search.{any_from_yields_List}
use lib.Ieee.{Float, nan}
use lib.ListN.{get_or}
use Rattle.lanes_adapt.specs.Steps.{broken_at}
use Rattle.lanes_adapt.proofs.Loops.{broken_all}
use Rattle.lanes_adapt.proofs.broken.Goals as goal

pub returns : goal.returns
returns c =
    any_from_yields_List (λ (x : ℕ × Float). broken_at (get_or c.args.w.now.re x.0 nan) (get_or c.args.w.now.im x.0 nan) x.1) _ _ _ c.any.ensures.ran
    (YieldsList-from_enumerate (YieldsList-at c.enumerate.ensures.source (YieldsList-from_slice c.args.limit.now cc)) c.enumerate.ensures.count) (λ x b q k. search rules)
    ∙ broken_all _ _ _ c.told-limit
