-- `put_common` meets its contract: each case by the definition.
use mathlib.Core.Path.{sym, ap}
use Rattle.numerals.proofs.Pages.{lays_then, lays_as}
use Rattle.question.specs.Answers.{common_text}
use Rattle.question.proofs.sentences.put_common.Goals as goal

pub returns-in-Shared : goal.returns-in-Shared
returns-in-Shared c =
    lays_as _ _ (ap (common_text c.args.first c.args.second c.args.standing) (sym c.in-Shared.is)) (lays_then c.put_tickets.ensures c.put_number.ensures)

pub returns-in-Apart : goal.returns-in-Apart
returns-in-Apart c =
    lays_as _ _ (ap (common_text c.args.first c.args.second c.args.standing) (sym c.in-Apart.is)) (lays_then c.put_tickets-in-Apart.ensures c.bytes.ensures)
