-- A text appended to what stands on a page, as far as there is room, is written there; and what is written there is the text laid, from behind what
-- stood there on, in any list of the page's length that begins with that. Assumes nothing.
use Rattle.std.proofs.Common.{◌≡◌, ℕ, zero, suc, ◌+◌, ◌-◌, ◌<◌, ◌≤◌, min, List, [], ◌∷◌, ◌++◌, length, take, drop, sym, refl, ap, ap₂, ◌∙◌, arith, length-take, length-take-le, length-append, take-append-drop}
use Rattle.std.proofs.lemmas.List.{take_min}
use lib.Seq.{take-append-add, take-append_seam, take-nil}
use Rattle.program_text.specs.Pages.{laid, reached, written, LaidBehind}

-- ws is what of t has room behind s
pub laid_is : (N : ℕ) (s t ws : List ℕ) (r n : ℕ) → r + length s ≡ N → n ≡ min (length t) r → ws ≡ take n t → s ++ ws ≡ written N s t
unfolding written
laid_is N s t ws r n l m w =
    let c : min r (length t) ≡ n = omega arith in
    let d : N ≡ length s + r = omega arith in
    ap (λ x. s ++ x) (w ∙ ap (λ i. take i t) (sym c) ∙ take_min r t) ∙ sym (ap (λ i. take i (s ++ t)) d ∙ take-append-add s t r)

pub room_for : (N : ℕ) (s t ws : List ℕ) (r n : ℕ) → r + length s ≡ N → n ≡ min (length t) r → ws ≡ take n t → length s + length ws ≤ N
room_for N s t ws r n l m w = let e : length ws ≡ n = ap length w ∙ length-take-le n t (omega arith) in omega arith

-- a byte behind s, where there is room, and where there is none
pub byte_is : (N : ℕ) (s : List ℕ) (b : ℕ) → length s < N → s ++ b ∷ [] ≡ written N s (b ∷ [])
unfolding written
byte_is N s b h =
    let r : N ≡ length s + suc (N - length s - 1) = omega arith in
    ap (λ l. s ++ b ∷ l) (sym (take-nil (N - length s - 1))) ∙ sym (ap (λ i. take i (s ++ b ∷ [])) r ∙ take-append-add s (b ∷ []) (suc (N - length s - 1)))

pub no_room : (N : ℕ) (s t : List ℕ) → length s ≡ N → s ≡ written N s t
unfolding written
no_room N s t h = sym (ap (λ i. take i (s ++ t)) (sym h) ∙ take-append_seam s t)

-- what is written has room
pub written_fits : (N : ℕ) (s t after : List ℕ) → after ≡ written N s t → length after ≤ N
unfolding written
written_fits N s t after e = omega (arith, ap length e, length-take N (s ++ t))

-- a place further on, and a byte more
reached_on : (a : ℕ) (p : List ℕ) (at : ℕ) (t : List ℕ) → reached (a ∷ p) (suc at) t ≡ suc (reached p at t)
unfolding reached
reached_on a p at t = omega arith

reached_byte : (a : ℕ) (p : List ℕ) (b : ℕ) (t : List ℕ) → reached (a ∷ p) zero (b ∷ t) ≡ suc (reached p zero t)
unfolding reached
reached_byte a p b t = omega arith

reached_none : (p : List ℕ) → reached p zero [] ≡ zero
unfolding reached
reached_none p = omega arith

-- up to the place reached stands what is written behind the list's first bytes
pub laid_written : (p : List ℕ) (at : ℕ) (t : List ℕ) → take (reached p at t) (laid p at t) ≡ written (length p) (take at p) t
unfolding laid written
laid_written [] at t = take-nil (reached [] at t)
laid_written (a ∷ p) (suc at) t = ap (λ n. take n (a ∷ laid p at t)) (reached_on a p at t) ∙ ap (λ l. a ∷ l) (laid_written p at t)
laid_written (a ∷ p) zero [] = ap (λ n. take n (a ∷ p)) (reached_none (a ∷ p))
laid_written (a ∷ p) zero (b ∷ t) = ap (λ n. take n (b ∷ laid p zero t)) (reached_byte a p b t) ∙ ap (λ l. b ∷ l) (laid_written p zero t)

-- from there on the list is as it was
pub laid_rest : (p : List ℕ) (at : ℕ) (t : List ℕ) → drop (reached p at t) (laid p at t) ≡ drop (reached p at t) p
unfolding laid
laid_rest [] at t = refl
laid_rest (a ∷ p) (suc at) t = rw (reached_on a p at t) (laid_rest p at t)
laid_rest (a ∷ p) zero [] = refl
laid_rest (a ∷ p) zero (b ∷ t) = rw (reached_byte a p b t) (laid_rest p zero t)

-- what stands on a page then is as long as the text reaches
reaches : (N : ℕ) (s t after p : List ℕ) → after ≡ written N s t → length p ≡ N → take (length s) p ≡ s → length after ≡ reached p (length s) t
unfolding written reached
reaches N s t after p e l f =
    omega (arith, ap length e, length-take N (s ++ t), length-append s t, length-take (length s) p, ap length f)

-- what is written on a page is the text laid behind what stood there
pub laid_behind : (N : ℕ) (s t after : List ℕ) → after ≡ written N s t → LaidBehind N s t after
unfolding LaidBehind
laid_behind N s t after e p l f =
    let k : length after ≡ reached p (length s) t = reaches N s t after p e l f in
    let front : after ≡ take (reached p (length s) t) (laid p (length s) t) = e ∙ sym (laid_written p (length s) t ∙ ap₂ (λ n x. written n x t) l f) in
    let rest : drop (length after) p ≡ drop (reached p (length s) t) (laid p (length s) t) = ap (λ i. drop i p) k ∙ sym (laid_rest p (length s) t) in
    (ap₂ (λ x y. x ++ y) front rest ∙ take-append-drop (reached p (length s) t) (laid p (length s) t), k)
