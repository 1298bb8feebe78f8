-- `add_half` adds the products of all lanes to the partial sums: each turn of its loop is a block of eight.
-- By answers: with the laws named on the function none of the three goals is found.
use Rattle.lanes_filter.proofs.Blocks.{onto_none, onto_more}
use native.Mathlib.Omega.{arith}
use Rattle.std.proofs.Common.{rules, ◌≡◌, ◌+◌}
use Rattle.lanes_filter.proofs.add_half.Goals as goal

pub loop-i-init : goal.loop-i-init
loop-i-init g c = record { most = omega arith; blocks = omega arith; done = onto_none _ _ (search rules) }

pub loop-i-preserved : goal.loop-i-preserved
loop-i-preserved g c = record { most = search rules; blocks = search rules; done = onto_more _ _ c.loop-i.invariant.blocks c.loop-i.invariant.done c.add_block.ensures }

pub returns-2 : goal.returns-2
returns-2 g c =
    let v = c.loop-i.invariant in
    let e : c.args.t.p.lanes ≡ c.loop-i.i + 8 = omega (arith, v.blocks, v.most, c.requires) in
    rw e (onto_more _ _ v.blocks v.done c.add_block.ensures)
