-- `held` meets its contract: it counts the claims that are on.
use Rattle.std.proofs.Common.{rules, tests, length, ap, ◌∙◌}
use Rattle.std.proofs.lemmas.Iterator.{YieldsList-from_slice}
use Rattle.std.proofs.lemmas.Iterator.Consumers.{YieldsList-from_filter, count_from_yields_List}
use Rattle.frames.specs.Rows.{on}
use Rattle.frame_table.proofs.Releasing.{kept_is}
use Rattle.frame_table.proofs.Table.held.Goals as goal

pub returns : goal.returns
returns c =
    let ps = c.args.self.now.pending in
    count_from_yields_List _ _ c.count.ensures.ran (YieldsList-from_filter _ on (YieldsList-from_slice ps cc) c.filter.ensures.closure (λ x b q k. search (rules, tests)))
    ∙ ap length (kept_is on ps)
