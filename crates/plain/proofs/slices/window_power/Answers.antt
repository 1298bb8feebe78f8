-- `window_power` adds the powers of the pairs from `from` on: a fold, which `power_folded` takes to the definition's sum.
-- By an answer: no search gives the library's law of `fold` its function and what the pairs yield.
use Rattle.std.proofs.Common.{rules, ◌≡◌}
use Rattle.std.specs.List.{fold, slice_range}
use Rattle.std.proofs.lemmas.Iterator.{YieldsList-from_slice}
use Rattle.std.proofs.lemmas.Iterator.Consumers.{fold_from_yields_List}
use Rattle.plain.proofs.Powers.{add_power, power_folded}
use Rattle.plain.proofs.slices.window_power.Goals as goal

pub returns : goal.returns
returns c =
    let pairs = slice_range c.as_chunks.result.0.now c.args.from c.args.n in
    let e : c.fold.result ≡ fold add_power c.args.first pairs = fold_from_yields_List _ add_power _ _ c.fold.ensures.ran (YieldsList-from_slice pairs cc) (λ a x b q k. search rules) in
    power_folded _ _ _ _ _ c.requires.0 c.requires.1.0 c.requires.1.1 (rw c.as_chunks.ensures.front at e)
