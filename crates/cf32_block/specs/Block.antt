-- One call of the equalizer from bytes to bytes: the floats of the input are equalized, and where the call is served the output's floats are written.
use Rattle.std.specs.Prelude.{ℕ, cond, is_ok, List, Float}
use Rattle.definition.specs.Sample.{Equalizer}
use Rattle.definition.specs.Calls.{Answer, equalize_def}
use Rattle.cf32.specs.Bytes.{read_into, write_over}

-- What a call from bytes to bytes answers: the equalizer's answer over the floats, the floats of the input, the bytes of the output.
pub record BytesAnswer : Type 0 where
  pub answer : Answer
  pub read : List Float
  pub out : List ℕ

abbrev pub bytes_answer : Answer → List Float → List ℕ → BytesAnswer
bytes_answer a xs out = record { answer = a; read = xs; out = out }

-- The output's bytes after an answer: its floats where the call was served, and as they were where it was refused.
abbrev pub bytes_of : Answer → List ℕ → List ℕ
bytes_of a out = cond (is_ok a.outcome) (write_over a.out out) out

-- bs are the bytes of the input; x and y are what the slices lent for the floats of input and output hold before the call, out, ms and ns what those of the
-- output's bytes, of the marks and of the numbers do.
unfoldable pub block_def : Equalizer → List ℕ → List Float → List Float → List ℕ → List ℕ → List ℕ → BytesAnswer
block_def q bs x y out ms ns =
    let xs = read_into bs x in
    let a = equalize_def q xs y ms ns in
    bytes_answer a xs (bytes_of a out)
