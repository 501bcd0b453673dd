-- The listing of a load: its records are run (replay, Records), and each prints what it answers. Quotations are from document 01, "What the
-- program prints".
use Rattle.std.specs.Prelude.{Bool, cond, List, [], ◌∷◌, ◌++◌, ℕ, ◌+◌, leb, length}
use Rattle.numbers.specs.Numbers.{no_space_number}
use Rattle.rules.specs.Calls.{Model, Step}
use Rattle.format.specs.Records.{Record}
use Rattle.load.specs.Reading.{Walk, walk, open_number}
use Rattle.replay.specs.Records.{alone_in, step_of, ending, unrigged}
use Rattle.replay.specs.StopLine.{stop_or}
use Rattle.listing.specs.Lines.{header, answer_lines}

-- "one line for each record .. Each grant adds `on TICKET CLOCK`": the call's clock, which is the table's after it.
unfoldable pub entry_of : ℕ → Step → List ℕ
entry_of k s = answer_lines k s.model.clock s.answer

-- The lines from record k on, in table m: of the records rs, then the stop by what follows them (0: the load ends there).
unfoldable pub lines_from : Bool → ℕ → Model → List Record → ℕ → List ℕ
lines_from alone k m [] n = stop_or n k []
lines_from alone k m (r ∷ rs) n =
    let s = step_of alone m r in
    stop_or (ending k s.answer.number) k (entry_of k s ++ lines_from alone (k + 1) s.model rs n)

unfoldable pub lines_of : Bool → ℕ → Model → Walk → List ℕ
lines_of alone k m w = lines_from alone k m w.records w.stop

-- "The header, then one line for each record"; "RECORD is 0 for 14, 11 and an empty load", which are told before any record.
unfoldable pub listing_of : List ℕ → List ℕ
listing_of load = header ++ stop_or (open_number load) 0 (lines_of (alone_in load) 1 unrigged (walk load 1))

-- ── the player's call ──
-- "answers the count of bytes written, a stop line included"; "it answers 15 if the whole listing doesn't go in". What it leaves in the
-- buffer is `lent_out` of numerals/specs/Laid.
unfoldable pub answer_of : List ℕ → List ℕ → ℕ
answer_of text out = cond (leb (length text) (length out)) (length text) no_space_number
