-- `record_rules::weights_fit` says whether every weight part fits: `all` asks it of each. Assumes nothing.
-- By an answer, as `all_finite`'s: the same law with another test.
use mathlib.Core.Path.{◌∙◌}
use Rattle.std.proofs.Common.{rules}
use Rattle.std.proofs.lemmas.Iterator.{YieldsList-from_slice}
use Rattle.std.proofs.lemmas.Iterator.Search.{all_from_yields_List}
use Rattle.definition.specs.Rules.{weight_fits}
use Rattle.record_rules.proofs.Elements.{every_is}
use Rattle.record_rules.proofs.weights_fit.Goals as goal

pub returns : goal.returns
returns c = all_from_yields_List weight_fits _ _ _ c.all.ensures.ran (YieldsList-from_slice c.args.x.now cc) (λ x b q k. search rules) ∙ every_is _ _
