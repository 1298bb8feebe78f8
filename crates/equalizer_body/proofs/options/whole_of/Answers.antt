-- What the number read is in the type wanted. Assumes nothing.
use Rattle.std.proofs.Common.{sym, ◌∙◌}
use Rattle.equalizer_body.proofs.options.whole_of.Goals as goal

pub returns : goal.returns
returns g c = rw (sym c.whole_of.ensures ∙ c.in_ok-whole_of.was) (c.try_from.result, c.try_from.ensures, c.ok.ensures.value)
