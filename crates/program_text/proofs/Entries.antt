-- The text of a number among those that line ends divide a list into is that part of a split. Assumes nothing.
use Rattle.std.proofs.Common.{◌≡◌, ℕ, eqb, List, [], Option, Some, None, unwrap_or, option_map, Bor, refl, ◌∙◌}
use Rattle.std.specs.List.{slice_get, slice_split}
use Rattle.std.proofs.lemmas.Option.{unwrap_or-slice_get}
use Rattle.program_words.proofs.Texts.{divided_is}
use Rattle.program_text.specs.Pages.{entry_of}

pub entry_is : (l : List ℕ) (n : ℕ) → unwrap_or (slice_get (slice_split (λ b. eqb b 10) l) n) [] ≡ entry_of l n
unfolding entry_of
entry_is l n = unwrap_or-slice_get (slice_split (λ b. eqb b 10) l) n [] ∙ rw (divided_is 10 l)

-- what a reference leads to, or what its stand-in does
pub now_or : (o : Option (Bor (List ℕ))) (d : Bor (List ℕ)) → (unwrap_or o d).now ≡ unwrap_or (option_map (λ (x : Bor (List ℕ)). x.now) o) d.now
now_or None d = refl
now_or (Some x) d = refl
