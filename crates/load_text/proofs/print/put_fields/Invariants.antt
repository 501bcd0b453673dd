use Prim.Native.Nat.{◌+◌, ◌≤◌}
use lib.ListN.{length}
use Rattle.numerals.proofs.Pages.{Laying}
use Rattle.format.specs.Format.{fields_of}
use Rattle.format.proofs.Rows.{left}
use Rattle.load_text.specs.Lines.{fields_text, fields_most}
use Rattle.load_text.proofs.print.put_fields.Given as goal

-- The words of the fields are laid up to a place of the row, and are not long.
abbrev pub invariant-loop-field : goal.invariant-loop-field
invariant-loop-field l =
    let fs = fields_of l.edition l.call.kind in
    let ls = left l.edition l.call.kind l.field-index in
    Laying l.fn.page (fields_text fs l.call) l.page (fields_text ls l.call) × (length (fields_text fs l.call) + fields_most ls ≤ fields_most fs + length (fields_text ls l.call))
