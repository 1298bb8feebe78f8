-- The exported calls that take no samples: `reset` where the numbers are known, the setters where they are and where one is not. Assumes nothing.
use mathlib.Core.Path.{◌≡◌, ap, subst}
use mathlib.Core.Bool.{true, cond}
use mathlib.Core.List.{List}
use lib.Ieee.{Float}
use Rattle.types.specs.declared.EqualizeState.{EqualizeState}
use Rattle.types.specs.declared.Equalized.{Equalized}
use Rattle.std.specs.Prelude.{Ok, Err}
use Rattle.types.specs.declared.numbers.UnknownNumber.{UnknownNumber}
use Rattle.definition.specs.Refusals.{reply_of}
use Rattle.definition.specs.Packed.{equalizer, settled}
use Rattle.definition.specs.Calls.{SetAnswer, reset_def}
use Rattle.capi_numbers.specs.declared.EqRecord.{EqRecord}
use Rattle.capi_numbers.specs.declared.EqReply.{EqReply}
use Rattle.capi_numbers.specs.RawRecord.{known_record, record_in, read_record, record_out, replied, unknown}
use Rattle.capi_numbers.proofs.Facts.{record_ok, record_err}
use Rattle.capi_state.specs.Raw.{reset_out, reset_raw, set_out}

-- ---- reset, of a known number

pub reset_known : (p : EqRecord) (s : EqualizeState) → read_record p ≡ Ok s → (w h : List Float) → reset_raw p w h ≡ reset_out (reset_def (equalizer s w h))
unfolding reset_raw
reset_known p s y w h = let k = record_ok p s y in rw (k.0, ← k.1)

-- ---- the setters

module _ (p : EqRecord) (r : EqReply) where
  pub set_unknown : (x : UnknownNumber) → read_record p ≡ Err x → (a : SetAnswer) → r ≡ replied p (unknown true) → r ≡ cond (known_record p) (set_out a) (replied p (unknown true))
  set_unknown x n a d = rw (record_err p x n) d

  -- P says what a setter may give
  pub set_known : (s : EqualizeState) → read_record p ≡ Ok s → (e : Equalized) → r ≡ replied (record_out e.state) (reply_of e.outcome) → (P : EqualizeState → Equalized → Type 0) → P s e
      → (a : SetAnswer) → ((e : Equalized) → P (record_in p) e → settled e ≡ a) → r ≡ cond (known_record p) (set_out a) (replied p (unknown true))
  set_known s y e d P q a h = let k = record_ok p s y in rw (k.0, d) (ap set_out (h e (subst (λ t. P t e) k.1 q)))
