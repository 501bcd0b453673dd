-- A form is the kind's name, then the words of its fields.
use Rattle.numerals.proofs.Pages.{lays_then}
use Rattle.load_text.specs.Forms.{kind_form}
use Rattle.load_text.proofs.reports.put_kind.Goals as goal

pub returns : goal.returns
unfolding kind_form
returns c = lays_then c.put_name.ensures c.put_field_words.ensures
