-- The reply to an unknown number: one law for each exit. Assumes nothing.
use mathlib.Core.Path.{◌≡◌}
use mathlib.Core.Bool.{Bool, true, false}
use Rattle.types.specs.declared.Error.TheVariants.{Odd, Record}
use Rattle.std.specs.Prelude.{⊤, Err}
use Rattle.definition.specs.Refusals.{reply_of, first_of}
use Rattle.capi_numbers.specs.declared.EqRecord.{EqRecord}
use Rattle.capi_numbers.specs.declared.EqReply.{EqReply}
use Rattle.capi_numbers.specs.RawRecord.{replied, unknown}

module _ (t : EqRecord) (b : Bool) (r : EqReply) where
  pub unknown_8 : b ≡ true → r ≡ replied t (reply_of {A = ⊤} (Err Record)) → r ≡ replied t (unknown b)
  unfolding unknown first_of
  unknown_8 h e = rw h e

  pub unknown_1 : b ≡ false → r ≡ replied t (reply_of {A = ⊤} (Err Odd)) → r ≡ replied t (unknown b)
  unfolding unknown first_of
  unknown_1 h e = rw h e
