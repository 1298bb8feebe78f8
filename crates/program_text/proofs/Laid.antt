-- A text laid over a list of bytes, a byte at a time: lengths, no text, a place behind the end, the bytes that are left. Assumes nothing.
use Rattle.std.proofs.Common.{◌≡◌, ℕ, zero, suc, ◌+◌, ◌<◌, ◌≤◌, Bool, true, false, ltb, List, [], ◌∷◌, length, get_or, drop, set, sym, refl, ap, ◌∙◌, add-one, arith, drop_of_length-le, drop-cons, ltb-false, ltb-true}
use Rattle.program_text.specs.Pages.{laid, reached}

-- the list keeps its length
pub laid_length : (p : List ℕ) (at : ℕ) (t : List ℕ) → length (laid p at t) ≡ length p
unfolding laid
laid_length [] at t = refl
laid_length (a ∷ p) (suc at) t = ap suc (laid_length p at t)
laid_length (a ∷ p) zero [] = refl
laid_length (a ∷ p) zero (b ∷ t) = ap suc (laid_length p zero t)

-- nothing laid
pub laid_none : (p : List ℕ) (at : ℕ) → laid p at [] ≡ p
unfolding laid
laid_none [] at = refl
laid_none (a ∷ p) zero = refl
laid_none (a ∷ p) (suc at) = rw (laid_none p at)

-- laid beyond the end
pub laid_beyond : (p : List ℕ) (at : ℕ) (t : List ℕ) → length p ≤ at → laid p at t ≡ p
unfolding laid
laid_beyond [] at t h = refl
laid_beyond (a ∷ p) zero t h = absurd (omega arith)
laid_beyond (a ∷ p) (suc at) t h = rw (laid_beyond p at t (omega arith))

-- the first byte is stored, the rest laid behind it
pub laid_set : (p : List ℕ) (at b : ℕ) (t : List ℕ) → at < length p → laid p at (b ∷ t) ≡ laid (set p at b) (suc at) t
unfolding laid
laid_set [] at b t h = absurd (omega arith)
laid_set (a ∷ p) zero b t h = refl
laid_set (a ∷ p) (suc at) b t h = rw (laid_set p at b t (omega arith))

-- one byte stored
pub stored : (p : List ℕ) (at b : ℕ) → at < length p → set p at b ≡ laid p at (b ∷ [])
stored p at b h = sym (laid_set p at b [] h ∙ laid_none (set p at b) (suc at))

pub reached_in : (p : List ℕ) (at b : ℕ) → at < length p → at + 1 ≡ reached p at (b ∷ [])
unfolding reached
reached_in p at b h = omega arith

pub reached_out : (p : List ℕ) (at : ℕ) (t : List ℕ) → length p ≤ at → at ≡ reached p at t
unfolding reached
reached_out p at t h = omega arith

pub reached_none : (p : List ℕ) (at : ℕ) → at ≡ reached p at []
unfolding reached
reached_none p at = omega arith

-- a text laid is its first byte laid, and the rest behind that
module _ (p : List ℕ) (at b : ℕ) (t : List ℕ) where
  more_by : (c : Bool) → ltb at (length p) ≡ c → laid p at (b ∷ t) ≡ laid (laid p at (b ∷ [])) (reached p at (b ∷ [])) t
  more_by true e =
      let h : at < length p = ltb-true at (length p) e in
      laid_set p at b t h ∙ rw (← stored p at b h, ← reached_in p at b h, add-one)
  more_by false e =
      let h : length p ≤ at = ltb-false at (length p) e in
      rw (laid_beyond p at (b ∷ t) h, laid_beyond p at (b ∷ []) h, ← reached_out p at (b ∷ []) h, laid_beyond p at t h)

  laid_more : laid p at (b ∷ t) ≡ laid (laid p at (b ∷ [])) (reached p at (b ∷ [])) t
  laid_more = more_by (ltb at (length p)) refl

  reached-more : reached p at (b ∷ t) ≡ reached (laid p at (b ∷ [])) (reached p at (b ∷ [])) t
  unfolding reached
  reached-more = rw laid_length (omega arith)

-- one byte of a text more
module _ (p : List ℕ) (at : ℕ) (t : List ℕ) (i : ℕ) (h : i < length t) (p' : List ℕ) (at' : ℕ) where
  pub next-laid : p' ≡ laid p at (get_or t i 0 ∷ []) → at' ≡ reached p at (get_or t i 0 ∷ []) → laid p at (drop i t) ≡ laid p' at' (drop (i + 1) t)
  next-laid e f = rw (e, f, drop-cons t i 0 h, add-one) (laid_more p at (get_or t i 0) (drop (suc i) t))

  pub next-reached : p' ≡ laid p at (get_or t i 0 ∷ []) → at' ≡ reached p at (get_or t i 0 ∷ [])
      → reached p at (drop i t) ≡ reached p' at' (drop (i + 1) t)
  next-reached e f = rw (e, f, drop-cons t i 0 h, add-one) (reached-more p at (get_or t i 0) (drop (suc i) t))

-- the whole text
module _ (q p t : List ℕ) (i start at : ℕ) where
  pub laid_end : laid q start t ≡ laid p at (drop i t) → length t ≤ i → p ≡ laid q start t
  laid_end e h = sym (e ∙ rw (drop_of_length-le t h) (laid_none p at))

  pub reached-end : reached q start t ≡ reached p at (drop i t) → length t ≤ i → at ≡ reached q start t
  reached-end e h = sym (e ∙ rw (drop_of_length-le t h) (sym (reached_none p at)))

-- an empty text
pub laid_empty : (p q : List ℕ) (at : ℕ) {t : List ℕ} → q ≡ p → t ≡ [] → q ≡ laid p at t
laid_empty p q at e z = rw z (e ∙ sym (laid_none p at))

pub reached_empty : (p : List ℕ) (at : ℕ) {t : List ℕ} → t ≡ [] → at ≡ reached p at t
reached_empty p at z = rw z (reached_none p at)

-- the same text on the same page
module _ (p q : List ℕ) (at : ℕ) (s t : List ℕ) (e : p ≡ q) (f : s ≡ t) where
  pub laid_same : laid p at s ≡ laid q at t
  laid_same = rw (e, f)

  pub reached-same : reached p at s ≡ reached q at t
  reached-same = rw (e, f)
