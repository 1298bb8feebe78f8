-- What is not `never` is a whole number or nothing. Assumes nothing.
use Rattle.std.proofs.Common.{◌≡◌, ◌-◌, false, bytes_eq, codes, arith, rules}
use Rattle.equalizer_body.proofs.Counts.{narrowed}
use Rattle.equalizer_body.proofs.options.symbols_of.Goals as goal

pub returns-in_default : goal.returns-in_default
returns-in_default c =
    let most : c.from.result ≡ 0xffff_ffff = search rules in
    let e = narrowed _ c.args.t.now (c.from.result - 1) c.whole_of.result (omega arith) c.whole_of.ensures in
    let k : bytes_eq c.args.t.now (codes "never") ≡ false = search rules in
    rw k (rw most at e)
