-- THE EXPORTED EQUALIZING CALLS, whole: what each replies and leaves, from the record as numbers (capi_numbers). The others are in capi_state.
use Rattle.std.specs.Prelude.{ℕ, ◌≡◌, cond, ◌&&◌, List, length, Float}
use denote.Ref.{Bor, MutBor}
use Rattle.types.specs.declared.EqualizeState.{EqualizeState}
use Rattle.types.specs.declared.Equalized.{Equalized}
use Rattle.definition.specs.Packed.{equalizer, answered}
use Rattle.definition.specs.Calls.{even, Answer, equalize_def}
use Rattle.capi_numbers.specs.declared.EqRecord.{EqRecord}
use Rattle.capi_numbers.specs.declared.EqReply.{EqReply}
use Rattle.capi_numbers.specs.RawRecord.{known_record, record_in, record_out, replied, unknown}
use Rattle.capi_state.specs.Raw.{Filter, filter}

pub record Block : Type 0 where
  pub filter : Filter
  pub out : List Float
  pub marks : List ℕ
  pub numbers : List ℕ

abbrev pub block : EqReply → List Float → List Float → List Float → List ℕ → List ℕ → Block
block r w h ys ms ns = record { filter = filter r w h; out = ys; marks = ms; numbers = ns }

abbrev pub block_out : Answer → Block
block_out a = block (replied (record_out a.equalizer.state) a.reply) a.equalizer.weights a.equalizer.window a.out a.marks a.numbers

unfoldable pub equalize_raw : EqRecord → List Float → List Float → List Float → List Float → List ℕ → List ℕ → Block
equalize_raw r w h xs ys ms ns =
    cond (known_record r)
    (block_out (equalize_def (equalizer (record_in r) w h) xs ys ms ns))
    (block (replied r (unknown (even (length w) && even (length h) && even (length xs) && even (length ys)))) w h ys ms ns)

-- ---- what the two exported equalizing calls promise: their contracts are `PromisedRaw`

pub data Entry : Type 0 where
  eq_reference : Entry
  eq_equalize : Entry

-- b is the reply, and the later content of all that the call was handed. The same of both.
abbrev pub PromisedRaw : Entry → EqRecord → List Float → List Float → List Float → List Float → List ℕ → List ℕ → Block → Type 0
PromisedRaw entry r w h xs ys ms ns b = b ≡ equalize_raw r w h xs ys ms ns

-- where a call may give and leave what P says, it is the definition's answer
abbrev pub AsDefined :
    (EqualizeState → MutBor (List Float) → MutBor (List Float) → Bor (List Float) → MutBor (List Float) → MutBor (List ℕ) → MutBor (List ℕ) → Equalized → MutBor (List Float) → MutBor (List Float)
    → MutBor (List Float) → MutBor (List ℕ) → MutBor (List ℕ) → Type 0)
    → Type 0
AsDefined P =
    (s : EqualizeState) (w h : MutBor (List Float)) (xs : Bor (List Float)) (ys : MutBor (List Float)) (ms ns : MutBor (List ℕ))
    (e : Equalized) (w' h' ys' : MutBor (List Float)) (ms' ns' : MutBor (List ℕ))
    → P s w h xs ys ms ns e w' h' ys' ms' ns' → answered e w'.now h'.now ys'.now ms'.now ns'.now ≡ equalize_def (equalizer s w.now h.now) xs.now ys.now ms.now ns.now
