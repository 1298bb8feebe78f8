-- `tile` gives the powers of sixteen windows: each turn of its loop adds one square to each, and the sums are stored.
-- By answers: with the laws named on the function neither goal is found, nor then the return.
use native.Mathlib.Omega.{arith}
use lib.ListN.{drop, length-drop}
use Rattle.std.proofs.Common.{◌≡◌, ◌∙◌, ◌-◌, ◌+◌, ap, drop-drop, take_all}
use Rattle.std.specs.Iterator.Adapters.{take_count}
use Rattle.lanes_prepare.proofs.Chains.{chained_none, chained_more}
use Rattle.lanes_prepare.proofs.tile.Goals as goal

pub loop-w-init : goal.loop-w-init
loop-w-init c =
    let s = c.take-w-items.ensures in
    let w = c.array_windows.ensures in
    let e : c.args.n - c.args.n ≡ 0 = omega arith in
    let f : c.args.j + 0 ≡ c.args.j = omega arith in
    rw (c.into_iter-w-iterator.ensures.into_iter_gives, s.source, s.count, e, f) record {
      size = w.size;
      rest = w.rest ∙ take_all _ _ (omega (arith, length-drop c.args.j c.args.q.now, c.told-q));
      count = omega arith;
      sums = chained_none _ _;
    }

pub loop-w-preserved : goal.loop-w-preserved
loop-w-preserved c =
    let v = c.loop-w.invariant in
    let s = c.in-Some.ensures.steps in
    let i = c.args.n - take_count c.loop-w.w-iterator in
    let e : c.args.n - take_count c.next.new.self ≡ i + 1 = omega (arith, s.1, v.count) in
    let f : c.args.j + (i + 1) ≡ c.args.j + i + 1 = omega arith in
    record {
      size = s.0.0 ∙ v.size;
      rest = rw (e, f) (s.0.1.2 ∙ ap (drop 1) v.rest ∙ drop-drop 1 (c.args.j + i) c.args.q.now);
      count = omega (arith, s.1, v.count);
      sums = rw e (chained_more _ _ _ _ _ v.sums v.rest (rw v.size at s.0.1.1) c.add.ensures);
    }
