-- What the definitions give: a record goes in and out, and out and in, unchanged, and what a refused new hands back is never accepted. Assumes nothing.
use Prim.Native.Nat.{ℕ}
use mathlib.Core.Path.{◌≡◌, refl, sym}
use mathlib.Core.Bool.{Bool, true, false, cond, ◌&&◌, ◌||◌}
use Rattle.std.specs.Prelude.{Result, Ok, Err}
use mathlib.Core.List.{List, [], ◌∷◌}
use lib.Dec.{eqb}
use borrow.Author.Tests.{eqb-true}
use lib.Ieee.{is_nan, of_bits, of_fields, lt, eq, le}
use Rattle.types.specs.Numbers.{known, case_of, mode_number, modes, known_mode, constellation_number, constellations}
use Rattle.types.proofs.Numbered.{mode_known, mode_back, constellation_known, constellation_back}
use Rattle.types.specs.declared.EqMode.TheVariants.{Decision}
use Rattle.types.specs.declared.EqConstellation.TheVariants.{Qam64}
use Rattle.types.specs.declared.EqParams.{EqParams}
use Rattle.types.specs.declared.EqualizeState.{EqualizeState}
use Rattle.types.specs.declared.numbers.UnknownNumber.{UnknownNumber}
use Rattle.definition.specs.Rules.{mu_fits, rule_r2}
use Rattle.definition_laws.proofs.Verdicts.{ok_no_err}
use Rattle.std.proofs.lemmas.Bool.{and_parts, and_from}
use Rattle.capi_numbers.specs.declared.EqSettings.{EqSettings}
use Rattle.capi_numbers.specs.declared.EqRecord.{EqRecord}
use Rattle.capi_numbers.specs.RawRecord.{known_settings, known_record, settings_in, record_in, read_settings, read_record, settings_out, record_out, no_record}

-- a known number is that of its case
pick_back : {A : Type 0} (f : A → ℕ) (a b : A) (n : ℕ) (t : Bool) → (t ≡ true → f a ≡ n) → (rest : Bool) → (rest ≡ true → f b ≡ n) → (t || rest) ≡ true → f (cond t a b) ≡ n
pick_back f a b n true p rest q h = p refl
pick_back f a b n false p rest q h = q h

known_back : {A : Type 0} (f : A → ℕ) (l : List A) (d : A) (n : ℕ) → known f l n ≡ true → f (case_of f l d n) ≡ n
known_back f [] d n h = cc
known_back f (a ∷ l) d n h =
    pick_back f a (case_of f l d n) n (eqb n (f a)) (λ e. sym (eqb-true n (f a) e)) (known f l n) (known_back f l d n) h

-- what two tests give, one after the other
module _ {A E : Type 0} where
  ok_by : (a b : Bool) (x q : A) (y z : E) → ◌≡◌ {A = Result A E} (cond a (cond b (Ok x) (Err y)) (Err z)) (Ok q) → ((a && b) ≡ true) × (q ≡ x)
  ok_by true true x q y z e = (refl, cc)
  ok_by true false x q y z e = absurd (ok_no_err q y (sym e))
  ok_by false b x q y z e = absurd (ok_no_err q z (sym e))

  err_by : (a b : Bool) (x : A) (y z w : E) → ◌≡◌ {A = Result A E} (cond a (cond b (Ok x) (Err y)) (Err z)) (Err w) → (a && b) ≡ false
  err_by true true x y z w e = absurd (ok_no_err x w e)
  err_by true false x y z w e = refl
  err_by false b x y z w e = refl

-- what is read is the settings, or the record, of known numbers
module _ (p : EqSettings) where
  abbrev bad : UnknownNumber
  bad = record { number = p.constellation }

  pub settings_ok : (q : EqParams) → read_settings p ≡ Ok q → (known_settings p ≡ true) × (q ≡ settings_in p)
  settings_ok q h = ok_by true (known_settings p) (settings_in p) q bad bad h

  pub settings_err : (x : UnknownNumber) → read_settings p ≡ Err x → known_settings p ≡ false
  settings_err x h = err_by true (known_settings p) (settings_in p) bad bad x h

pub record_ok : (r : EqRecord) (s : EqualizeState) → read_record r ≡ Ok s → (known_record r ≡ true) × (s ≡ record_in r)
unfolding known_record
record_ok r s h = ok_by (known_settings r.settings) (known_mode r.mode) (record_in r) s (record { number = r.mode }) (record { number = r.settings.constellation }) h

pub record_err : (r : EqRecord) (x : UnknownNumber) → read_record r ≡ Err x → known_record r ≡ false
unfolding known_record
record_err r x h = err_by (known_settings r.settings) (known_mode r.mode) (record_in r) (record { number = r.mode }) (record { number = r.settings.constellation }) x h

-- the record, in and out again
pub kept : (r : EqRecord) → known_record r ≡ true → record_out (record_in r) ≡ r
unfolding known_settings known_record settings_in record_in settings_out record_out
kept r h =
    let p = and_parts (known_settings r.settings) (known_mode r.mode) h in
    rw (known_back constellation_number constellations Qam64 r.settings.constellation p.0, known_back mode_number modes Decision r.mode p.1)

-- a record out and in again, whose numbers are known: what a call replies can be handed to the next
pub out_known : (s : EqualizeState) → known_record (record_out s) ≡ true
unfolding known_settings known_record settings_out record_out
out_known s = and_from _ _ (constellation_known s.params.constellation) (mode_known s.mode)

pub out_in : (s : EqualizeState) → record_in (record_out s) ≡ s
unfolding settings_in record_in settings_out record_out
out_in s = rw (constellation_back s.params.constellation, mode_back s.mode)

-- what new hands back where it is refused breaks R2, so that equalizing and reset refuse it
pub none_breaks : rule_r2 (record_in no_record) ≡ false
unfolding rule_r2 mu_fits record_in settings_in no_record le lt eq is_nan of_bits of_fields
none_breaks = refl
