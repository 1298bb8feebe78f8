-- Calls from bytes to bytes, whole, after `new` with 3 taps: one that is served, two that are refused, one whose last bytes have no room.
use Rattle.std.specs.Prelude.{ℕ, Bool, false, ◌&&◌, List, [], ◌∷◌, replicate, Ok, Err}
use Rattle.definition.specs.Refusals.{Fresh}
use Rattle.types.specs.Bits.{f32}
use Rattle.definition.specs.Slices.{zeros}
use Rattle.definition.specs.Calls.{NewAnswer, new_def}
use Rattle.definition.specs.Rows.{same, bits_of, settings}
use Rattle.cf32_block.specs.Block.{BytesAnswer, block_def}

-- what is compared: the reply, the floats of input and output by their bits, the marks, the numbers, the output's bytes
unfoldable is_answer : BytesAnswer → List ℕ → List ℕ → List ℕ → List ℕ → List ℕ → List ℕ → Bool
is_answer b reply read ys ms ns out =
    same b.answer.reply reply && same (bits_of b.read) read && same (bits_of b.answer.out) ys && same b.answer.marks ms && same b.answer.numbers ns && same b.out out

-- Every float lent is 2, every byte 9, of the numbers 8. Input, room for floats in, for floats out, for bytes, for marks, for numbers; then the answer.
unfoldable on_made : Fresh → NewAnswer → List ℕ → ℕ → ℕ → ℕ → ℕ → ℕ → List ℕ → List ℕ → List ℕ → List ℕ → List ℕ → List ℕ → Bool
unfolding is_answer
on_made (Err e) a bs x y o m n reply read ys ms ns out = false
on_made (Ok s) a bs x y o m n reply read ys ms ns out =
    is_answer
    (block_def (record { state = s; weights = a.weights; window = a.window }) bs (replicate x (f32 0x4000_0000)) (replicate y (f32 0x4000_0000)) (replicate o 9) (replicate m 9)
    (replicate n 8))
    reply read ys ms ns out

unfoldable after : List ℕ → ℕ → ℕ → ℕ → ℕ → ℕ → List ℕ → List ℕ → List ℕ → List ℕ → List ℕ → List ℕ → Bool
unfolding on_made
after bs x y o m n reply read ys ms ns out =
    let a = new_def (settings 0 1000) (zeros 6) (zeros 6) in
    on_made a.answer a bs x y o m n reply read ys ms ns out

-- 1 - 0.5i, then -1 + 1i
unfoldable bytes_in : List ℕ
bytes_in = 0 ∷ 0 ∷ 0x80 ∷ 0x3f ∷ 0 ∷ 0 ∷ 0 ∷ 0xbf ∷ 0 ∷ 0 ∷ 0x80 ∷ 0xbf ∷ 0 ∷ 0 ∷ 0x80 ∷ 0x3f ∷ []

unfoldable pub calls_pass : Bool
unfolding after bytes_in
calls_pass =
    -- served: the weights are 1 at the second tap, so 0 comes out first and then the first sample; two bytes beyond stay
    after bytes_in 4 4 18 2 2 []
    (0x3f80_0000 ∷ 0xbf00_0000 ∷ 0xbf80_0000 ∷ 0x3f80_0000 ∷ [])
    (0 ∷ 0 ∷ 0x3f80_0000 ∷ 0xbf00_0000 ∷ [])
    (0 ∷ 0 ∷ [])
    (0 ∷ 1 ∷ [])
    (0 ∷ 0 ∷ 0 ∷ 0 ∷ 0 ∷ 0 ∷ 0 ∷ 0 ∷ 0 ∷ 0 ∷ 0x80 ∷ 0x3f ∷ 0 ∷ 0 ∷ 0 ∷ 0xbf ∷ 9 ∷ 9 ∷ [])
    -- refused with 10, 2 and 1: one mark for two samples; the floats are read, and no byte is written
    && after bytes_in 4 4 16 1 2 (10 ∷ 2 ∷ 1 ∷ [])
    (0x3f80_0000 ∷ 0xbf00_0000 ∷ 0xbf80_0000 ∷ 0x3f80_0000 ∷ [])
    (replicate 4 0x4000_0000)
    (9 ∷ [])
    (8 ∷ 8 ∷ [])
    (replicate 16 9)
    -- with 13: three numbers for two samples
    && after bytes_in 4 4 16 2 3 (13 ∷ [])
    (0x3f80_0000 ∷ 0xbf00_0000 ∷ 0xbf80_0000 ∷ 0x3f80_0000 ∷ [])
    (replicate 4 0x4000_0000)
    (9 ∷ 9 ∷ [])
    (8 ∷ 8 ∷ 8 ∷ [])
    (replicate 16 9)
    -- room for one sample in: the second is not read
    && after bytes_in 2 2 8 1 1 []
    (0x3f80_0000 ∷ 0xbf00_0000 ∷ [])
    (0 ∷ 0 ∷ [])
    (0 ∷ [])
    (0 ∷ [])
    (replicate 8 0)
