-- How far a pass over floats and bytes has come: what is stored so far, and the rest by the definition. `reading` and `writing` are what the two passes go by. Assumes nothing.
use Rattle.std.proofs.Common.{◌≡◌, refl, sym, ap, ◌∙◌, ℕ, zero, suc, ◌+◌, ◌*◌, ◌/◌, ◌%◌, ◌<◌, ◌≤◌, min, List, [], ◌∷◌, ◌++◌, append_assoc, length, get_or, take, drop, drop-cons, drop-drop, set, length-append, length-drop, length-set, take-append-drop, arith}
use Rattle.std.specs.Int.{w32, to_le_bytes}
use Rattle.std.specs.Simd.{first_chunks}
use Rattle.std.proofs.lemmas.List.{take_more_set, drop-set-lt, set-append_left, length-take, get_or-take}
use Rattle.std.proofs.lemmas.Slice.{take-put_mid, drop-put_mid}
use borrow.Rule.Slice.PartMut.{put_mid}
use lib.Ieee.{Float, nan}
use Rattle.cf32.specs.Bytes.{word_at, float_of, pattern_of, byte_of, read_into, write_over}

next : {A : Type 0} (l : List A) (j k : ℕ) (d : A) → j < length l → k ≡ suc j → drop j l ≡ get_or l j d ∷ drop k l
next l j k d h e = rw e (drop-cons l j d h)

-- four bytes from j on
four : (bs : List ℕ) (j : ℕ) → j + 4 ≤ length bs
    → drop j bs ≡ get_or bs j 0 ∷ get_or bs (j + 1) 0 ∷ get_or bs (j + 2) 0 ∷ get_or bs (j + 3) 0 ∷ drop (j + 4) bs
four bs j h =
    rw (
      next bs j (j + 1) 0 (omega arith) (omega arith),
      next bs (j + 1) (j + 2) 0 (omega arith) (omega arith),
      next bs (j + 2) (j + 3) 0 (omega arith) (omega arith),
      next bs (j + 3) (j + 4) 0 (omega arith) (omega arith),
    )

-- the i-th of k chunks of four bytes
chunk : (k i : ℕ) (bs : List ℕ) → i < k → 4 * k ≤ length bs → get_or (first_chunks 4 k bs) i [] ≡ take 4 (drop (4 * i) bs)
chunk zero i bs h l = absurd (omega arith)
chunk (suc k) zero bs h l = refl
chunk (suc k) (suc i) bs h l =
    let e : 4 * suc i ≡ 4 + 4 * i = omega arith in
    let m : 4 * k ≤ length (drop 4 bs) = simp length-drop (omega arith) in
    chunk k i (drop 4 bs) (omega arith) m ∙ rw (e, drop-drop)

pub chunk_is : (k i : ℕ) (bs : List ℕ) → i < k → 4 * k ≤ length bs
    → get_or (first_chunks 4 k bs) i [] ≡ get_or bs (4 * i) 0 ∷ get_or bs (4 * i + 1) 0 ∷ get_or bs (4 * i + 2) 0 ∷ get_or bs (4 * i + 3) 0 ∷ []
chunk_is k i bs h l = chunk k i bs h l ∙ ap (take 4) (four bs (4 * i) (omega arith))

-- ---- floats from bytes

-- no four bytes, or no room
read_rest : (bs : List ℕ) (xs : List Float) → min (length bs / 4) (length xs) ≡ 0 → read_into bs xs ≡ xs
unfolding read_into
read_rest bs [] h = refl
read_rest [] (x ∷ xs) h = refl
read_rest (a ∷ []) (x ∷ xs) h = refl
read_rest (a ∷ b ∷ []) (x ∷ xs) h = refl
read_rest (a ∷ b ∷ c ∷ []) (x ∷ xs) h = refl
read_rest (a ∷ b ∷ c ∷ d ∷ more) (x ∷ xs) h = absurd (omega arith)

-- xs are the floats that there is room for, rest those beyond: one float more
pub read_more : (bs : List ℕ) (xs rest : List Float) (i : ℕ) (v : Float) → v ≡ float_of (word_at bs i) → 4 * i + 4 ≤ length bs → i < length xs
    → take (i + 1) (set xs i v ++ rest) ++ read_into (drop (4 * (i + 1)) bs) (drop (i + 1) (set xs i v ++ rest)) ≡ take i (xs ++ rest) ++ read_into (drop (4 * i) bs) (drop i (xs ++ rest))
unfolding read_into
read_more bs xs rest i v e hb hx =
    let all = xs ++ rest in
    let h : i < length all = simp length-append (omega arith) in
    let k : 4 * (i + 1) ≡ 4 * i + 4 = omega arith in
    rw (← set-append_left xs rest i v hx, four bs (4 * i) hb, next all i (i + 1) nan h (omega arith), k, take_more_set all i v h, drop-set-lt (i + 1) all i v (omega arith), append_assoc, e)

-- and all that there are
pub read_all : (bs : List ℕ) (old xs rest : List Float) (i : ℕ) → read_into bs old ≡ take i (xs ++ rest) ++ read_into (drop (4 * i) bs) (drop i (xs ++ rest))
    → min (length bs / 4) (length (xs ++ rest)) ≤ i → xs ++ rest ≡ read_into bs old
read_all bs old xs rest i p h =
    let r : min (length (drop (4 * i) bs) / 4) (length (drop i (xs ++ rest))) ≡ 0 = simp length-drop (omega arith) in
    sym (p ∙ rw (read_rest (drop (4 * i) bs) (drop i (xs ++ rest)) r, take-append-drop))

pub ruleset reading = (length-set, read_more, read_all)

-- ---- bytes from floats

write_rest : (xs : List Float) (bs : List ℕ) → min (length bs / 4) (length xs) ≡ 0 → write_over xs bs ≡ bs
unfolding write_over
write_rest [] bs h = refl
write_rest (x ∷ xs) [] h = refl
write_rest (x ∷ xs) (a ∷ []) h = refl
write_rest (x ∷ xs) (a ∷ b ∷ []) h = refl
write_rest (x ∷ xs) (a ∷ b ∷ c ∷ []) h = refl
write_rest (x ∷ xs) (a ∷ b ∷ c ∷ d ∷ more) h = absurd (omega arith)

-- one float's bytes more
pub write_more : (xs : List Float) (bs ws : List ℕ) (i n : ℕ) → i < length xs → 4 * i + 4 ≤ length bs → n ≡ 4 → ws ≡ to_le_bytes w32 (pattern_of (get_or xs i nan))
    → take (4 * (i + 1)) (put_mid (4 * i) n bs ws) ++ write_over (drop (i + 1) xs) (drop (4 * (i + 1)) (put_mid (4 * i) n bs ws)) ≡ take (4 * i) bs ++ write_over (drop i xs) (drop (4 * i) bs)
unfolding write_over
write_more xs bs ws i n hx hb four_of e =
    let k : 4 * (i + 1) ≡ 4 * i + 4 = omega arith in
    let room : 4 * i ≤ length bs = omega arith in
    let l : length ws ≡ 4 = rw e in
    let low : byte_of (pattern_of (get_or xs i nan)) 1 ≡ pattern_of (get_or xs i nan) % 256 = omega arith in
    rw (
      k,
      take-put_mid (4 * i) n bs ws (4 * i + 4) (omega arith) room,
      drop-put_mid (4 * i) n bs ws (4 * i + 4) (omega arith) room (omega arith),
      four bs (4 * i) hb,
      next xs i (i + 1) nan hx (omega arith),
      append_assoc,
      e,
      low,
    )

-- and all that there are
pub write_all : (xs : List Float) (old bs : List ℕ) (i : ℕ) → write_over xs old ≡ take (4 * i) bs ++ write_over (drop i xs) (drop (4 * i) bs) → min (length bs / 4) (length xs) ≤ i → bs ≡ write_over xs old
write_all xs old bs i p h =
    let r : min (length (drop (4 * i) bs) / 4) (length (drop i xs)) ≡ 0 = simp length-drop (omega arith) in
    sym (p ∙ rw (write_rest (drop i xs) (drop (4 * i) bs) r, take-append-drop))

pub ruleset writing = (length-take, get_or-take, write_more, write_all)
