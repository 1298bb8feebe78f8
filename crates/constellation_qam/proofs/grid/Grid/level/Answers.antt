-- `Grid::level` compares with one place more: value and code are by one law each time, of any list.
-- By answers: the search does not see that the code's list is a list of such a law.
use Rattle.std.proofs.Common.{◌≡◌, ◌+◌, ◌-◌, ◌<◌, ◌≤◌, refl}
use native.Mathlib.Omega.{arith}
use lib.Dec.{lit<}
use Rattle.definition.specs.Points.{grays}
use Rattle.constellation_qam.proofs.Levels.{first_at, next_at}
use Rattle.constellation_qam.proofs.grid.Grid.level.Goals as goal

pub loop-k-init : goal.loop-k-init
loop-k-init g c =
    (λ d. first_at c.args.self.now.levels c.place-t.result 0 _ d (omega (arith, c.args.self.now.small.0)) refl, first_at grays c.place-t.result 0 0 0 (lit< tt) refl)

pub loop-k-preserved : goal.loop-k-preserved
loop-k-preserved g c =
    let i = c.loop-k.invariant in
    let k = c.loop-k.k in
    let low : 1 ≤ k = omega (arith, c.loop-k.auto.k) in
    let high : k < 8 = omega (arith, c.loop-k-test.true, c.args.self.now.small.1) in
    let next : k + 1 - 1 ≡ k = omega arith in
    (λ d. next_at _ _ k (k + 1 - 1) _ _ _ d low high (omega (arith, c.loop-k-test.true)) next c.pick-value.ensures (i.0 d), next_at grays _ k (k + 1 - 1) _ _ _ 0 low high high next c.pick-code.ensures i.1)
