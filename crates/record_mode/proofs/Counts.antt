-- R4 in Cma, with a switch to come: the count is below the samples of Cma. Assumes nothing.
use Prim.Native.Nat.{◌<◌}
use mathlib.Core.Path.{◌≡◌, sym, subst}
use mathlib.Core.Bool.{true}
use lib.Dec.{T, ltb→lt}
use borrow.Author.Tests.{ne_eqb}
use Rattle.types.specs.declared.EqMode.TheVariants.{Cma}
use Rattle.types.specs.declared.EqualizeState.{EqualizeState}
use Rattle.definition.specs.Sample.{never_switch}
use Rattle.definition.specs.Rules.{count_fits, rule_r4}

pub count_below : (s : EqualizeState) → s.mode ≡ Cma → (s.params.cma_symbols ≡ 4294967295 → ⊥) → rule_r4 s ≡ true → s.count < s.params.cma_symbols
unfolding rule_r4 count_fits
count_below s m t h = ltb→lt _ _ (subst T (sym (rw (m, ne_eqb s.params.cma_symbols never_switch t) at h)) tt)
