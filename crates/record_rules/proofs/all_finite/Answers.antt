-- `record_rules::all_finite` says whether every part is finite: `all` asks it of each. Assumes nothing.
-- By an answer: no search gives the library's law of `all` its test and what the iterator yields. One law for this and `weights_fit` would write out what `all` says of a closure, and be longer than both.
use mathlib.Core.Path.{◌∙◌}
use Rattle.std.proofs.Common.{rules}
use Rattle.std.proofs.lemmas.Iterator.{YieldsList-from_slice}
use Rattle.std.proofs.lemmas.Iterator.Search.{all_from_yields_List}
use lib.Ieee.Scale.{finite}
use Rattle.record_rules.proofs.Elements.{every_is}
use Rattle.record_rules.proofs.all_finite.Goals as goal

pub returns : goal.returns
returns c = all_from_yields_List finite _ _ _ c.all.ensures.ran (YieldsList-from_slice c.args.x.now cc) (λ x b q k. search rules) ∙ every_is _ _
