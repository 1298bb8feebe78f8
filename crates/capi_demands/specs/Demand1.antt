-- DEMAND 1 of the exported equalizing calls: each is served or refused, whatever it is handed, and what a served one leaves is accepted by the next.
use Rattle.std.specs.Prelude.{ℕ, ◌/◌, ◌≡◌, ◌⊎◌, ⊤, true, List, map, length, get_or, Float, Err}
use Rattle.types.specs.declared.Error.{Error}
use Rattle.definition.specs.Refusals.{reply_of}
use Rattle.demands.specs.Demand1.{lengths_verdict}
use Rattle.capi_numbers.specs.RawRecord.{replied}
use Rattle.capi.specs.Raw.{Block, Entry, PromisedRaw}
use Rattle.capi_demands.specs.Traces.{Kept, accepted, leaves, Seen, Follow, number}

-- served: the reply's number is 0, one symbol, one mark and one number per sample, and what is left is accepted
pub record ServedCall (xs : List Float) (b : Block) : Type 0 where
  pub number : b.filter.reply.number ≡ 0
  pub accepted : accepted (leaves b) ≡ true
  pub symbols : length b.out ≡ length xs
  pub marks : length b.marks ≡ length xs / 2
  pub numbers : length b.numbers ≡ length xs / 2

-- refused: the reply is that of a listed error, its number and lengths; record, weights, window, output, marks and numbers are as they came
pub record RefusedCall (k : Kept) (ys : List Float) (ms ns : List ℕ) (b : Block) : Type 0 where
  pub error : Error
  pub reply : b.filter.reply ≡ replied k.raw (reply_of {A = ⊤} (Err error))
  pub left : leaves b ≡ k
  pub out : b.out ≡ ys
  pub marks : b.marks ≡ ms
  pub numbers : b.numbers ≡ ns

abbrev pub Demand1 : Type 0
Demand1 =
    (e : Entry) (k : Kept) (xs ys : List Float) (ms ns : List ℕ) (b : Block) → PromisedRaw e k.raw k.weights k.window xs ys ms ns b
    → ServedCall xs b ⊎ RefusedCall k ys ms ns b

-- From an accepted start every call of a list is answered by its lengths alone: served, or 1, 9, 10 or 13. So what a call leaves, served or refused,
-- is accepted by the next.
abbrev pub by_lengths_of : Seen → ℕ
by_lengths_of s = get_or (reply_of (lengths_verdict s.input s.output s.marks s.numbers)) 0 0

abbrev pub ByLengths : Type 0
ByLengths = (k : Kept) (ss : List Seen) → accepted k ≡ true → Follow k ss → map number ss ≡ map by_lengths_of ss
