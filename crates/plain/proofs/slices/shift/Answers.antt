-- `shift` moves the first numbers up by one: the loop replaces them one by one.
-- By answers: `grind` with the laws of a loop over numbers finds no proof of a turn, nor of the return.
use mathlib.Core.Path.{◌≡◌}
use native.Mathlib.Omega.{arith}
use Rattle.definition_laws.proofs.Mapped.{shift_list}
use Rattle.plain.proofs.Numbers.{stored, next_re, next_im}
use Rattle.plain.proofs.slices.shift.Goals as goal

pub loop-i-preserved : goal.loop-i-preserved
loop-i-preserved c =
    let v = c.loop-i.invariant in
    let e = c.at-old.ensures in
    (stored _ v.0 _ c.put.ensures v.1 v.2 (omega arith), next_re _ v.0 _ e.0, next_im _ v.0 _ e.1)

pub returns : goal.returns
returns c = let e : c.loop-i.i ≡ c.args.n = omega arith in
    shift_list _ _ _ _ (omega arith) (rw e at c.loop-i.invariant.0)
