-- The exported equalizing calls, where the numbers are known. Assumes nothing.
use Prim.Native.Nat.{ℕ}
use mathlib.Core.Path.{◌≡◌}
use mathlib.Core.List.{List}
use lib.Ieee.{Float}
use Rattle.types.specs.declared.EqualizeState.{EqualizeState}
use Rattle.std.specs.Prelude.{Ok}
use Rattle.definition.specs.Packed.{equalizer}
use Rattle.definition.specs.Calls.{equalize_def}
use Rattle.capi_numbers.specs.declared.EqRecord.{EqRecord}
use Rattle.capi_numbers.specs.RawRecord.{read_record}
use Rattle.capi_numbers.proofs.Facts.{record_ok}
use Rattle.capi.specs.Raw.{block_out, equalize_raw}

module _ (p : EqRecord) (w h xs ys : List Float) (ms ns : List ℕ) where
  pub block_known : (s : EqualizeState) → read_record p ≡ Ok s → equalize_raw p w h xs ys ms ns ≡ block_out (equalize_def (equalizer s w h) xs ys ms ns)
  unfolding equalize_raw
  block_known s y = let k = record_ok p s y in rw (k.0, ← k.1)
