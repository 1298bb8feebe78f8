-- `enter` puts the samples of a run in, newest first: each turn of its loop puts one in, by the law of that loop.
-- By an answer: `grind` opens the record that the law is about, and stops at its limit of instances.
use Rattle.lanes_prepare.proofs.Entry.{entry_more}
use native.Mathlib.Omega.{arith}
use Rattle.lanes_prepare.proofs.enter.Goals as goal

pub loop-k-preserved : goal.loop-k-preserved
loop-k-preserved c = record {
  entry = rw (c.put.ensures.re, c.put.ensures.im) (entry_more _ _ _ _ _ _ _ _ c.loop-k.invariant.entry (omega arith) c.put.ensures.long.0 c.put.ensures.long.1 c.at.ensures c.sanitize-x.ensures);
  squares = c.loop-k.invariant.squares;
}
