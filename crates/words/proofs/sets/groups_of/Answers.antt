-- `sets::groups_of` meets its contract: hex or a list.
use mathlib.Core.Path.{◌∙◌}
use Rattle.std.proofs.Common.{rules, tests}
use Rattle.std.proofs.lemmas.Iterator.{YieldsList-from_slice}
use Rattle.std.proofs.lemmas.Iterator.Search.{any_from_yields_List}
use Rattle.words.specs.Parts.{is_joint}
use Rattle.words.proofs.Spans.{list-of, hex-of}
use Rattle.words.proofs.Values.{groups-with-values}
use Rattle.words.proofs.sets.groups_of.Goals as goal

pub returns-then-any : goal.returns-then-any
returns-then-any c =
    let e = any_from_yields_List is_joint _ _ c.any.result c.any.ensures.ran (YieldsList-from_slice c.args.word.now cc) (λ x b q k. search (rules, tests)) in
    groups-with-values _ _ (c.list.ensures ∙ list-of _ _ e c.if-any.true)

pub returns : goal.returns
returns c =
    let e = any_from_yields_List is_joint _ _ c.any.result c.any.ensures.ran (YieldsList-from_slice c.args.word.now cc) (λ x b q k. search (rules, tests)) in
    groups-with-values _ _ (c.number.ensures.0 ∙ hex-of _ _ e c.if-any.false)
