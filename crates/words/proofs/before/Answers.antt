-- `words::before` meets its contract: what the library's `position` finds (`before-found`).
use Rattle.std.proofs.Common.{rules, tests}
use Rattle.std.proofs.lemmas.Iterator.{YieldsList-from_slice}
use Rattle.std.proofs.lemmas.Iterator.Search.{position_from_yields_List}
use Rattle.words.specs.Parts.{is}
use Rattle.words.proofs.Parts.{before-found}
use Rattle.words.proofs.before.Goals as goal

pub returns : goal.returns
returns c =
    let e = position_from_yields_List (is c.args.b) _ _ c.position.result c.position.ensures.ran (YieldsList-from_slice c.args.text.now cc) (λ x b q k. search (rules, tests)) in
    rw c.unwrap_or.ensures (before-found (is c.args.b) c.args.text.now _ e)
