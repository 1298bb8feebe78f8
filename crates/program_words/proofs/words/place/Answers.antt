-- `program_words::words::place` answers the word's place among the texts that blanks divide the list into. Assumes nothing.
-- By an answer: `grind` stops at its limit of instances with the library's laws for a `position`, a `take` and a `split` and `place_is`.
use Rattle.std.proofs.Common.{◌≡◌, eqb, ◌∙◌, rules}
use Rattle.std.specs.List.{count_by}
use Rattle.std.specs.Cmp.Lexicographic.{pointwise}
use Rattle.std.proofs.lemmas.Iterator.{YieldsList-from_take}
use Rattle.std.proofs.lemmas.Iterator.Consumers.{YieldsList-at}
use Rattle.std.proofs.lemmas.Iterator.Search.{position_from_yields_List}
use Rattle.std.proofs.lemmas.Iterator.Splits.{YieldsList-from_slice_split}
use borrow.Author.Tests.{tests}
use Rattle.program_words.proofs.Texts.{place_is}
use Rattle.program_words.proofs.words.place.Goals as goal

pub returns : goal.returns
returns c =
    let list = c.args.list.now in
    let blanks : c.count-words.result ≡ count_by (λ b. eqb b 32) list = search rules in
    let count = c.take.ensures.count ∙ blanks in
    position_from_yields_List (λ t. pointwise eqb t c.args.word.now) _ _ _ c.position.ensures.ran (YieldsList-from_take (count_by (λ b. eqb b 32) list) (YieldsList-at c.take.ensures.source (YieldsList-from_slice_split _ (λ b. eqb b 32) list c.split.ensures.rest c.split.ensures.done c.split.ensures.closure (λ x b q k. search (rules, tests)))) count) (λ x b q k. search (rules, tests))
    ∙ place_is c.args.word.now list
