-- `program_words::numbers::digits_of` has the digits that the text starts with. Assumes nothing.
-- By an answer: `grind` finds no proof with the library's laws for a `position` and a `fold` and `digits_are`.
use Rattle.std.proofs.Common.{◌≡◌, ◌∙◌, ap, not, length, unwrap_or, rules}
use Rattle.std.specs.List.{position, fold}
use Rattle.std.proofs.lemmas.Iterator.{YieldsList-from_slice}
use Rattle.std.proofs.lemmas.Iterator.Consumers.{fold_from_yields_List}
use Rattle.std.proofs.lemmas.Iterator.Search.{position_from_yields_List}
use borrow.Author.Tests.{tests}
use Rattle.program_words.specs.Wholes.{is_digit, with_digit}
use Rattle.program_words.proofs.Wholes.{digits_are}
use Rattle.program_words.proofs.numbers.digits_of.Goals as goal

pub returns-clause-digits : goal.returns-clause-digits
returns-clause-digits c =
    let t = c.args.t.now in
    let found : c.position.result ≡ position (λ b. not (is_digit b)) t = position_from_yields_List (λ b. not (is_digit b)) _ _ c.position.result c.position.ensures.ran (YieldsList-from_slice t c.iter.ensures.rest) (λ x b q k. search (rules, tests)) in
    let front = c.split_at.result.0.now in
    let all : c.fold-value.result ≡ fold with_digit c.args.start front = fold_from_yields_List _ with_digit c.args.start c.fold-value.result c.fold-value.ensures.ran (YieldsList-from_slice front c.iter-2.ensures.rest) (λ a x b q k. search (rules, tests)) in
    digits_are t c.args.start c.fold-value.result c.unwrap_or-count.result (c.unwrap_or-count.ensures ∙ ap (λ o. unwrap_or o (length t)) found) (all ∙ ap (fold with_digit c.args.start) c.split_at.ensures.front)
