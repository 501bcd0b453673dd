-- `word_says` meets its contract: a number up to 65,535 goes into a ticket (`number-most`).
use mathlib.Core.Path.{sym, ◌∙◌}
use native.Mathlib.Omega.{arith}
use Rattle.words.proofs.Numbers.{number-most}
use Rattle.dance_text.proofs.word_says.Goals as goal

pub overflow_cast-result : goal.overflow_cast-result
overflow_cast-result c = omega (arith, number-most _ _ _ _ _ _ (sym c.number.ensures.0 ∙ c.in_ok-ticket-in-EndClaim.was))
