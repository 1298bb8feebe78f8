-- `tile` gives the powers of sixteen windows: each turn of its loop adds one square to each, and the sums are stored.
use Rattle.std.proofs.Common.{◌≡◌, ◌+◌, ◌-◌, ◌≤◌, drop}
use Rattle.std.specs.Slice.Iter.{windows_rest, windows_size}
use Rattle.std.specs.Slice.ArrayWindows.{array_windows_parts}
use Rattle.std.specs.Iterator.Adapters.{take_source, take_count}
use Rattle.lanes_prepare.proofs.Chains.{Chained}
use Rattle.lanes_prepare.proofs.tile.Given as goal

abbrev pub invariant-loop-w : goal.invariant-loop-w
invariant-loop-w l =
    let parts = array_windows_parts (take_source l.w-iterator) in
    let i = l.n - take_count l.w-iterator in
    record {
      size : windows_size parts ≡ 16;
      rest : windows_rest parts ≡ drop (l.j + i) l.q;
      count : take_count l.w-iterator ≤ l.n;
      sums : Chained l.q l.j i l.acc;
    }
