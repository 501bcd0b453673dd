use Rattle.numerals.proofs.Pages.{Laying}
use Rattle.format.specs.Format.{widths}
use Rattle.format.specs.Calls.{values_of}
use Rattle.load.specs.Bytes.{field_bytes}
use Rattle.load.proofs.Fields.{bytes_left}
use Rattle.load.proofs.put_fields.Given as goal

-- The fields of the call are laid up to a place of its row.
abbrev pub invariant-loop-field : goal.invariant-loop-field
invariant-loop-field l =
    Laying l.fn.page (field_bytes (widths l.edition l.call.kind) (values_of l.edition l.call)) l.page (bytes_left l.edition l.call.kind l.field-index l.call)
