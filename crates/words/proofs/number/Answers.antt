-- `words::number` meets its contract: a byte that is no digit goes before a number that is too large.
use mathlib.Core.Path.{◌∙◌}
use borrow.Author.Rules.{rules}
use Rattle.std.proofs.Common.{tests}
use Rattle.std.proofs.lemmas.Iterator.{YieldsList-from_slice}
use Rattle.std.proofs.lemmas.Iterator.Search.{any_from_yields_List}
use Rattle.words.specs.Words.{is_no_digit}
use Rattle.words.proofs.Numbers.{all_digits, number-empty, number_bad, number-good}
use Rattle.words.proofs.Values.{number-with-values}
use Rattle.words.proofs.number.Goals.{then-is_empty-via-then-is_empty, then-is_empty-via-else-is_empty+then-any}
use Rattle.words.proofs.number.Goals as goal

pub returns-then-is_empty : goal.returns-then-is_empty
returns-then-is_empty g c =
    number-with-values _ _ _ _ _ _
    (elim c.then-is_empty.branch [
      | then-is_empty-via-then-is_empty w ↦ number-empty _ _ _ _ _ (search rules)
      | then-is_empty-via-else-is_empty+then-any w ↦
          number_bad _ _ _ _ _
          (any_from_yields_List (is_no_digit c.args.base) _ _ w.any.result w.any.ensures.ran (YieldsList-from_slice c.args.word.now cc) (λ x b q k. search (rules, tests))) w.if-any.true
    ])

pub value-requires : goal.value-requires
value-requires g c =
    all_digits _ _ _
    (any_from_yields_List (is_no_digit c.args.base) _ _ c.any.result c.any.ensures.ran (YieldsList-from_slice c.args.word.now cc) (λ x b q k. search (rules, tests))) c.if-any.false

pub returns : goal.returns
returns g c =
    let d = all_digits _ _ _
    (any_from_yields_List (is_no_digit c.args.base) _ _ c.any.result c.any.ensures.ran (YieldsList-from_slice c.args.word.now cc) (λ x b q k. search (rules, tests))) c.if-any.false in
    number-with-values _ _ _ _ _ _ (c.value.ensures ∙ number-good _ _ _ _ _ (search rules) d)
