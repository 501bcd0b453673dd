-- A line is the kind's name, then its fields.
use Rattle.numerals.proofs.Pages.{lays_then}
use Rattle.load_text.specs.Lines.{line_of}
use Rattle.load_text.proofs.Lines.{line-brief}
use Rattle.load_text.proofs.print.put_call.Goals as goal

pub returns : goal.returns
unfolding line_of
returns c = record { laid = lays_then c.put_name.ensures c.put_fields.ensures.laid; brief = line-brief _ _ c.put_fields.ensures.brief }
