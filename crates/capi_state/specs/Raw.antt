-- THE EXPORTED CALLS THAT TAKE NO SAMPLES, whole: what each replies and leaves, from the record as numbers (capi_numbers).
use Rattle.std.specs.Prelude.{true, cond, ◌&&◌, List, length, Float, ⊤, Ok}
use Rattle.definition.specs.Refusals.{reply_of}
use Rattle.definition.specs.Packed.{equalizer}
use Rattle.definition.specs.Calls.{even, NewAnswer, new_def, ResetAnswer, reset_def, SetAnswer, set_mu_cma_def, set_mu_dd_def, set_frequency_def}
use Rattle.capi_numbers.specs.declared.EqSettings.{EqSettings}
use Rattle.capi_numbers.specs.declared.EqRecord.{EqRecord}
use Rattle.capi_numbers.specs.declared.EqReply.{EqReply}
use Rattle.capi_numbers.specs.RawRecord.{known_settings, known_record, settings_in, record_in, record_out, no_record, replied, fresh_out, unknown}

-- ---- new and reset

pub record Filter : Type 0 where
  pub reply : EqReply
  pub weights : List Float
  pub window : List Float

abbrev pub filter : EqReply → List Float → List Float → Filter
filter r w h = record { reply = r; weights = w; window = h }

abbrev pub new_out : NewAnswer → Filter
new_out a = filter (replied (fresh_out a.answer) a.reply) a.weights a.window

unfoldable pub new_raw : EqSettings → List Float → List Float → Filter
new_raw p w h =
    cond (known_settings p) (new_out (new_def (settings_in p) w h)) (filter (replied no_record (unknown (even (length w) && even (length h)))) w h)

abbrev pub reset_out : ResetAnswer → Filter
reset_out a = filter (replied (record_out a.equalizer.state) a.reply) a.equalizer.weights a.equalizer.window

unfoldable pub reset_raw : EqRecord → List Float → List Float → Filter
reset_raw r w h =
    cond (known_record r) (reset_out (reset_def (equalizer (record_in r) w h))) (filter (replied r (unknown (even (length w) && even (length h)))) w h)

-- ---- the setters: no slice, so that an unknown number is 8 before all else

abbrev pub set_out : SetAnswer → EqReply
set_out a = replied (record_out a.state) a.reply

unfoldable pub set_mu_cma_raw : EqRecord → Float → EqReply
set_mu_cma_raw r mu = cond (known_record r) (set_out (set_mu_cma_def (record_in r) mu)) (replied r (unknown true))

unfoldable pub set_mu_dd_raw : EqRecord → Float → EqReply
set_mu_dd_raw r mu = cond (known_record r) (set_out (set_mu_dd_def (record_in r) mu)) (replied r (unknown true))

unfoldable pub set_frequency_raw : EqRecord → Float → EqReply
set_frequency_raw r v = cond (known_record r) (replied (record_out (set_frequency_def (record_in r) v)) (reply_of {A = ⊤} (Ok tt))) (replied r (unknown true))
