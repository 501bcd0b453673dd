use mathlib.Core.Path.{◌≡◌}
use Rattle.std.specs.Prelude.{Ok}
use Rattle.format.specs.Calls.{bare}
use Rattle.format.specs.Format.{fields_of}
use Rattle.format.proofs.Rows.{left}
use Rattle.words.specs.Parts.{words_in}
use Rattle.load_text.specs.Parsing.{filled_in}
use Rattle.load_text.proofs.parse.fill.Given as goal

-- The fields filled so far, with the words left, give the whole.
abbrev pub invariant-loop-field : goal.invariant-loop-field
invariant-loop-field l =
    filled_in (left l.edition l.kind l.field-index) (words_in l.rest) l.said ≡ filled_in (fields_of l.edition l.kind) (words_in l.words) (Ok (bare l.kind))
