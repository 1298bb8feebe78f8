-- `capi_state::set` replies what the setter gives, where the numbers are known; an unknown one is found by the law named on the function.
-- By an answer: no search takes what the setter gives of the state that was read for what it gives of `record_in raw`.
use mathlib.Core.Path.{sym, ◌∙◌}
use Rattle.capi_state.proofs.Laws.{set_known}
use Rattle.capi_state.proofs.set.Goals as goal

pub returns : goal.returns
returns g c = set_known _ _ _ (sym c.try_from.ensures ∙ c.in-Ok.is) _ c.from.ensures (λ s e. goal.F-post g c.args.setter s e) c.setter.ensures
