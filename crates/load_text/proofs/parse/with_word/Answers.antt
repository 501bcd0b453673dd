-- `parse::with_word` meets its contract: what the word says is put into the field.
use mathlib.Core.Path.{sym, ◌∙◌}
use Rattle.load_text.proofs.Fields.{with-said}
use Rattle.load_text.proofs.parse.with_word.Goals as goal

pub returns : goal.returns
returns c = rw c.in_ok-call.was (with-said _ _ _ _ _ (sym c.field_in.ensures ∙ c.in_ok-field_in.was) c.set.ensures)
