-- Blocks one after the other, and what a block's slices hold. Assumes nothing.
use Prim.Native.Nat.{ℕ, suc, ◌+◌, ◌*◌, ◌/◌}
use mathlib.Core.Path.{◌≡◌, refl, sym, ◌∙◌, ap}
use mathlib.Core.List.{List, [], ◌∷◌, ◌++◌, append_assoc, append-nil}
use native.Mathlib.Omega.{arith}
use native.Mathlib.Nat.{add_comm, zero-mul, suc-mul}
use lib.ListN.{length, length-append}
use lib.Ieee.{Float}
use Rattle.types.specs.declared.C32.{C32}
use Rattle.definition.specs.Slices.{samples_of}
use Rattle.definition.specs.Sample.{Equalizer, Out, sample_def}
use Rattle.definition.specs.Run.{ahead, run_def, written, symbol_parts, mark_byte, number_byte}

-- a block in two parts
pub run_append : (q : Equalizer) (xs ys : List C32) → run_def q (xs ++ ys) ≡ ahead (run_def q xs).outs (run_def (run_def q xs).equalizer ys)
unfolding run_def
run_append q [] ys = refl
run_append q (x ∷ xs) ys = ap (ahead ((sample_def q x).out ∷ [])) (run_append (sample_def q x).equalizer xs ys)

-- one symbol, one mark and one number for each sample
pub run_outs : (q : Equalizer) (xs : List C32) → length (run_def q xs).outs ≡ length xs
unfolding run_def
run_outs q [] = refl
run_outs q (x ∷ xs) = ap suc (run_outs (sample_def q x).equalizer xs)

-- what f gives of each sample, w elements, over all samples
pub written_length : {A : Type 0} (f : Out → List A) (w : ℕ) → ((o : Out) → length (f o) ≡ w) → (os : List Out) → length (written f os) ≡ length os * w
unfolding written
written_length f w h [] = sym (zero-mul w)
written_length f w h (o ∷ os) =
    length-append (f o) (written f os) ∙ ap (λ (n : ℕ). n + length (written f os)) (h o) ∙ ap (λ (n : ℕ). w + n) (written_length f w h os) ∙ add_comm w (length os * w) ∙ sym (suc-mul (length os) w)

pub written_append : {A : Type 0} (f : Out → List A) (os ps : List Out) → written f (os ++ ps) ≡ written f os ++ written f ps
unfolding written
written_append f [] ps = refl
written_append f (o ∷ os) ps = ap (λ (l : List _). f o ++ l) (written_append f os ps) ∙ sym (append_assoc (f o) (written f os) (written f ps))

-- one sample alone
pub written_one : {A : Type 0} (f : Out → List A) (o : Out) → written f (o ∷ []) ≡ f o
unfolding written
written_one f o = append-nil (f o)

-- two f32, one byte and one byte for each sample
pub symbols_length : (os : List Out) → length (written symbol_parts os) ≡ 2 * length os
symbols_length os = written_length symbol_parts 2 (λ o. refl) os ∙ omega arith

pub marks_length : (os : List Out) → length (written mark_byte os) ≡ length os
marks_length os = written_length mark_byte 1 (λ o. refl) os ∙ omega arith

pub numbers_length : (os : List Out) → length (written number_byte os) ≡ length os
numbers_length os = written_length number_byte 1 (λ o. refl) os ∙ omega arith

half_two : (n m : ℕ) → m ≡ n / 2 → suc m ≡ suc (suc n) / 2
half_two n m h = omega arith

pub samples_length : (xs : List Float) → length (samples_of xs) ≡ length xs / 2
unfolding samples_of
samples_length [] = refl
samples_length (x ∷ []) = refl
samples_length (re ∷ im ∷ xs) = half_two (length xs) (length (samples_of xs)) (samples_length xs)
