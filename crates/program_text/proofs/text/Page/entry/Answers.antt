-- `program_text::text::Page::entry` writes the text of its number, or none. Assumes nothing.
-- By an answer: the search leaves a premise of the library's law for an `nth` open.
use Rattle.std.proofs.Common.{◌≡◌, ◌∙◌, ap, eqb, ℕ, Bor, Option, List, [], unwrap_or, option_map, rules, tests}
use Rattle.std.specs.List.{slice_split, slice_get}
use Rattle.std.proofs.lemmas.Iterator.Consumers.{nth_from_yields_List}
use Rattle.std.proofs.lemmas.Iterator.Splits.{YieldsList-from_slice_split}
use Rattle.program_text.specs.Pages.{written, entry_of}
use Rattle.program_text.proofs.Entries.{entry_is, now_or}
use Rattle.program_text.proofs.Laying.{laid_behind}
use Rattle.program_text.proofs.text.Page.entry.Goals as goal

pub returns : goal.returns
returns g c =
    let list = c.args.list.now in
    let part : option_map (λ (x : Bor (List ℕ)). x.now) c.nth.result ≡ slice_get (slice_split (λ b. eqb b 10) list) c.args.number = nth_from_yields_List c.nth.result _ c.args.number c.nth.ensures.ran (YieldsList-from_slice_split _ (λ b. eqb b 10) list c.split.ensures.rest c.split.ensures.done c.split.ensures.closure (λ x b q k. search (rules, tests))) in
    let text : c.unwrap_or.result.now ≡ entry_of list c.args.number = ap (λ (r : Bor (List ℕ)). r.now) c.unwrap_or.ensures ∙ now_or c.nth.result _ ∙ ap (λ (o : Option (List ℕ)). unwrap_or o []) part ∙ entry_is list c.args.number in
    record { appended = c.words.ensures.appended ∙ ap (written _ _) text; laid = laid_behind _ _ _ _ (c.words.ensures.appended ∙ ap (written _ _) text) }
