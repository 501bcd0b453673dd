use Rattle.numerals.proofs.Pages.{Laying}
use Rattle.format.specs.Format.{fields_of}
use Rattle.format.proofs.Rows.{left}
use Rattle.load_text.specs.Forms.{fields_form}
use Rattle.load_text.proofs.reports.put_field_words.Given as goal

-- The words of the fields are laid up to a place of the row.
abbrev pub invariant-loop-field : goal.invariant-loop-field
invariant-loop-field l = Laying l.fn.page (fields_form (fields_of l.edition l.kind)) l.page (fields_form (left l.edition l.kind l.field-index))
