-- `program_words::words::end_of` answers the place of the first such byte, or the end. Assumes nothing.
-- By an answer: the search leaves a premise of the library's law for a `position` open.
use Rattle.std.proofs.Common.{◌≡◌, ◌+◌, ◌∙◌, eqb, ap, arith, length, drop, unwrap_or, rules}
use Rattle.std.specs.List.{position}
use Rattle.std.proofs.lemmas.Iterator.{YieldsList-from_slice}
use Rattle.std.proofs.lemmas.Iterator.Search.{position_from_yields_List}
use Rattle.std.proofs.lemmas.Grind.{common_steps}
use borrow.Author.Tests.{tests}
use Rattle.program_words.specs.Words.{before}
use Rattle.program_words.proofs.Texts.{end_is}
use Rattle.program_words.proofs.words.end_of.Goals as goal

pub returns-in-Some : goal.returns-in-Some
returns-in-Some c =
    let rest = c.in-Some.rest.now in
    let from_there : rest ≡ drop c.args.from c.args.t.now = grind (arith, common_steps) in
    let found : c.position.result ≡ position (λ b. eqb b c.args.b) rest = position_from_yields_List (λ x. eqb x c.args.b) _ _ c.position.result c.position.ensures.ran (YieldsList-from_slice rest c.iter.ensures.rest) (λ x b q k. search (rules, tests)) in
    ap (λ n. c.args.from + n) (c.unwrap_or.ensures ∙ ap (λ o. unwrap_or o (length rest)) found ∙ end_is c.args.b rest ∙ ap (before c.args.b) from_there)
