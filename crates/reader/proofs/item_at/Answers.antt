-- `item_at` meets its contract: the opening's refusal first, then the item at the position.
use mathlib.Core.Path.{◌∙◌}
use Rattle.std.proofs.lemmas.Result.{err_from_is_err_and}
use Rattle.reader.proofs.Items.{with_values, item_refused, item-opened}
use Rattle.reader.proofs.item_at.Goals as goal

pub returns-in_err-check_open : goal.returns-in_err-check_open
returns-in_err-check_open c =
    let p = err_from_is_err_and c.from_residual.result c.from_residual.ensures.1 in
    rw (p.1, p.2) (with_values _ _ _ (item_refused _ _ _ c.in_err-check_open.ensures))

pub returns : goal.returns
returns c = with_values _ _ _ (c.record_at.ensures.0 ∙ item-opened _ _ c.in_ok-check_open.ensures)
