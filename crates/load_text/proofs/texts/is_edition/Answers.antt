-- `texts::is_edition` meets its contract: the words are compared byte by byte.
use mathlib.Core.Path.{sym}
use Rattle.load_text.proofs.Tables.{same-word}
use Rattle.load_text.proofs.texts.is_edition.Goals as goal

pub returns : goal.returns
returns c = sym (same-word _ _ _ (rw c.as_slice.ensures at c.eq.ensures))
