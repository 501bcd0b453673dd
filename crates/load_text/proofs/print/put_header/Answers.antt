-- A comment for edition 1, a line for any other.
use borrow.Author.Tests.{eq-eqb, ne_eqb}
use Rattle.numerals.proofs.Pages.{lays_then}
use Rattle.load_text.specs.Lines.{header_of}
use Rattle.load_text.proofs.print.put_header.Goals as goal

pub returns-then-edition-eq1 : goal.returns-then-edition-eq1
unfolding header_of
returns-then-edition-eq1 c = rw (eq-eqb _ 1 c.if-edition-eq1.true) c.bytes.ensures

pub returns-else-edition-eq1 : goal.returns-else-edition-eq1
unfolding header_of
returns-else-edition-eq1 c = rw (ne_eqb _ 1 c.if-edition-eq1.false) (lays_then c.bytes-else-edition-eq1.ensures c.column.ensures)
