-- `update_split` leaves the weights after the update at its exits after a step: all lanes finite, and a lane that is not after which the weights are settled.
-- By answers: with the laws `grind` stops at its limit of depth at one exit, and finds no proof at the other.
use Rattle.lanes_adapt.proofs.Adaptation.{adapt_calm, adapt_settled}
use Rattle.lanes_adapt.proofs.update_split.Goals as goal

pub returns-then-b1-b2 : goal.returns-then-b1-b2
returns-then-b1-b2 c =
    let s = c.update_half-b1.ensures in
    let t = c.update_half-b2.ensures in
    adapt_settled _ _ _ _ _ _ _ _ _ _ _ _ _ _ _ _ (rw c.args.p.apart.0 at s.re) (rw c.args.p.apart.0 at s.im) (rw c.args.p.apart.1 at t.re) (rw c.args.p.apart.1 at t.im) _ _ _ c.in-Step.is c.settle.ensures

pub returns-else-b1-b2 : goal.returns-else-b1-b2
returns-else-b1-b2 c =
    let s = c.update_half-b1.ensures in
    let t = c.update_half-b2.ensures in
    adapt_calm _ _ _ _ _ _ _ _ _ _ _ _ _ _ _ _ (rw c.args.p.apart.0 at s.re) (rw c.args.p.apart.0 at s.im) (rw c.args.p.apart.1 at t.re) (rw c.args.p.apart.1 at t.im) _ _ _ c.in-Step.is (rw c.args.p.apart.0 at s.value) (rw c.args.p.apart.1 at t.value) c.if-b1-b2.false
