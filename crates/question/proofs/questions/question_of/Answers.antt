-- `question_of` meets its contract: by how many words stand behind the name.
use mathlib.Core.Path.{sym, ◌∙◌}
use Rattle.words.proofs.Reading.{some-more, no_more}
use Rattle.question.specs.Questions.{pair_asks, question_in, question_of, ticket_asks}
use Rattle.question.proofs.questions.question_of.Goals as goal

pub returns-in_err-name : goal.returns-in_err-name
unfolding question_of question_in
returns-in_err-name c = rw (c.in_err-name.ensures) c.from_residual.ensures

pub returns-in_default : goal.returns-in_default
unfolding question_of question_in
returns-in_default c = rw (c.in_ok-name.ensures.words, c.in_default.ensures) c.alone_asks.ensures

pub returns-in_err-ticket : goal.returns-in_err-ticket
unfolding question_of question_in ticket_asks
returns-in_err-ticket c = rw (c.in_ok-name.ensures.words, c.in-Some.ensures.words, c.in_default-next_word.ensures, sym (c.in_err-ticket.ensures)) c.from_residual-in_err-ticket.ensures

pub returns-in_default-next_word : goal.returns-in_default-next_word
unfolding question_of question_in
returns-in_default-next_word c = rw (c.in_ok-name.ensures.words, c.in-Some.ensures.words, c.in_default-next_word.ensures, sym c.in_ok-ticket.ensures) c.ticket_asks.ensures

pub returns-then-is_some : goal.returns-then-is_some
unfolding question_of question_in
returns-then-is_some c =
    let m = some-more c.in-Some-next_word.rest.now _ c.next_word-4.ensures (sym c.is_some.ensures ∙ c.if-is_some.true) in
    rw (c.in_ok-name.ensures.words, c.in-Some.ensures.words, c.in-Some-next_word.ensures.words, m.2)

pub returns-in_err-ticket-2 : goal.returns-in_err-ticket-2
unfolding question_of question_in pair_asks
returns-in_err-ticket-2 c =
    let m = no_more c.in-Some-next_word.rest.now _ c.next_word-4.ensures (sym c.is_some.ensures ∙ c.if-is_some.false) in
    rw (c.in_ok-name.ensures.words, c.in-Some.ensures.words, c.in-Some-next_word.ensures.words, m, sym (c.in_err-ticket-2.ensures)) c.from_residual-in_err-ticket-2.ensures

pub returns-in_err-ticket-3 : goal.returns-in_err-ticket-3
unfolding question_of question_in pair_asks
returns-in_err-ticket-3 c =
    let m = no_more c.in-Some-next_word.rest.now _ c.next_word-4.ensures (sym c.is_some.ensures ∙ c.if-is_some.false) in
    rw (c.in_ok-name.ensures.words, c.in-Some.ensures.words, c.in-Some-next_word.ensures.words, m, sym c.in_ok-ticket-2.ensures, sym (c.in_err-ticket-3.ensures)) c.from_residual-in_err-ticket-3.ensures

pub returns : goal.returns
unfolding question_of question_in
returns c =
    let m = no_more c.in-Some-next_word.rest.now _ c.next_word-4.ensures (sym c.is_some.ensures ∙ c.if-is_some.false) in
    rw (c.in_ok-name.ensures.words, c.in-Some.ensures.words, c.in-Some-next_word.ensures.words, m, sym c.in_ok-ticket-2.ensures, sym c.in_ok-ticket-3.ensures) c.pair_asks.ensures
