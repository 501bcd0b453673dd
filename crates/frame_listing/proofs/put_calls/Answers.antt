-- `put_calls` meets its contract: a turn for each line, up to the text's end or the limit. The invariant is `Turn`.
use borrow.Author.Rules.{rules}
use mathlib.Core.Logic.{inl, inr}
use mathlib.Core.Path.{sym, ◌∙◌}
use Rattle.frame_listing.proofs.CallLoop.{turn-start, turn_end, turn-pass, turn-stop, turn-call}
use Rattle.frame_listing.proofs.put_calls.Goals.{else-loop-at-test, then-loop-at-test+else-page-limit}
use Rattle.frame_listing.proofs.put_calls.Goals as goal

pub loop-at-init : goal.loop-at-init
loop-at-init c = turn-start _ _ _ _ _ _ _ _ _ c.new-page.ensures.clean c.bytes.ensures c.requires.1 c.requires.0.valid c.requires.0.few

-- A call that ends the listing.
pub loop-at-preserved-then-stops_at : goal.loop-at-preserved-then-stops_at
loop-at-preserved-then-stops_at c =
    turn-stop c.loop-at.invariant c.loop-at-test.true c.if-page-limit.true _ c.place-end.ensures.0 _ c.parse_line.ensures.0
    _ (sym c.unwrap_or-said.ensures ∙ c.in-Some.is) _ _ c.make-answer.ensures.answer c.make-answer.ensures.table _ c.stops_at.ensures _ c.if-stops_at.true c.bytes-then-stops_at.ensures

-- A call with its lines.
pub loop-at-preserved-else-stops_at : goal.loop-at-preserved-else-stops_at
loop-at-preserved-else-stops_at c =
    turn-call c.loop-at.invariant c.loop-at-test.true c.if-page-limit.true _ c.place-end.ensures.0 _ c.parse_line.ensures.0
    _ (sym c.unwrap_or-said.ensures ∙ c.in-Some.is) _ _ c.make-answer.ensures.answer c.make-answer.ensures.table _ c.stops_at.ensures _ c.if-stops_at.false c.put_entry.ensures

-- A line that says no call.
pub loop-at-preserved : goal.loop-at-preserved
loop-at-preserved c =
    turn-pass c.loop-at.invariant c.loop-at-test.true c.if-page-limit.true _ c.place-end.ensures.0 _ c.parse_line.ensures.0 (sym c.unwrap_or-said.ensures ∙ c.in_default.is)

pub returns : goal.returns
returns c =
    turn_end c.loop-at.invariant _ _ (search rules)
    (elim c.loop-at-test.branch [ else-loop-at-test z ↦ inl z.loop-at-test.false | then-loop-at-test+else-page-limit z ↦ inr z.if-page-limit.false ])
