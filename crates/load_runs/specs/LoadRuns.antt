-- Every load is a run: the calls that its records say are made one after the other of the table that its rig gave, and its listing prints
-- number, ticket, start and grants of their answers, between the rig's line and a stop line. So all that is promised of every list of calls
-- is promised of every listing, and of the table that a load leaves. proofs/LoadRuns has the theorem.
use Rattle.std.specs.Prelude.{◌≡◌, ◌⊎◌, ◌≢◌, List, [], ◌∷◌, ◌++◌, map, ℕ, ◌+◌, ◌≤◌, length}
use Rattle.numbers.specs.Numbers.{edition_number, overlong_number}
use Rattle.rules.specs.Calls.{clock_of, step, new}
use Rattle.rules.specs.Lists.{◌∈◌}
use Rattle.promises.specs.Ledger.{Turn, turns, table_after}
use Rattle.promises.specs.Runs.{Start, newly}
use Rattle.promises.specs.Promises.{Promises}
use Rattle.format.specs.Records.{Record}
use Rattle.load.specs.Reading.{walk}
use Rattle.replay.specs.Records.{says_call, alone_in, unrigged}
use Rattle.replay.specs.StopLine.{stop_or}
use Rattle.replay.specs.Replay.{replay_of}
use Rattle.listing.specs.Lines.{header, line_of, answer_lines}
use Rattle.listing.specs.Text.{listing_of}

-- What is printed of record k, by its call and the answer: "its number from 1, the answer (0 accepted), the ticket concerned, the start .. Each
-- grant adds `on TICKET CLOCK`".
abbrev pub turn_lines : ℕ → Turn → List ℕ
turn_lines k t = answer_lines k (clock_of t.call) t.answer

-- And of the records from k on.
unfoldable pub turns_lines : ℕ → List Turn → List ℕ
turns_lines k [] = []
turns_lines k (t ∷ ts) = turn_lines k t ++ turns_lines (k + 1) ts

-- The line by which the listing ends early, where it does.
abbrev pub stop_text : List ℕ → List ℕ
stop_text load = stop_or (replay_of load).stop (replay_of load).at []

-- A number that ends a listing behind the rig.
abbrev pub Ends : ℕ → Type 0
Ends n = (edition_number ≤ n) × (n ≤ overlong_number)

-- What the run of a load begins with: the table that its rig gave.
abbrev pub rig_start : List ℕ → Record → Start
rig_start load rig = newly rig.call.groups rig.call.pool (alone_in load)

-- A load whose rig is taken: the rig; the records behind it that were run, and those that were not.
pub record Ran (load : List ℕ) : Type 0 where
  pub rig : Record
  pub records : List Record
  pub rest : List Record
  pub read : (walk load 1).records ≡ rig ∷ (records ++ rest)
  pub taken : (new rig.call.groups rig.call.pool (alone_in load)).answer.number ≡ 0
  -- The listing is the header, the rig's line, the lines of the calls with their answers, and the stop line, where there is one.
  pub listing : listing_of load ≡ header ++ (line_of 1 0 0 0 ++ (turns_lines 2 (turns step (rig_start load rig).table (map says_call records)) ++ stop_text load))
  -- The table that the load leaves, of which questions are asked.
  pub left : (replay_of load).left ≡ table_after step (rig_start load rig).table (map says_call records)
  -- "Only 11 to 14 and a dark rig end the listing early": no call that was run is answered such a number; and all records were run, so that the
  -- stop, if any, is that of the load's bytes, or the next one is answered such a number, and that is the stop.
  pub none_ends : (t : Turn) → t ∈ turns step (rig_start load rig).table (map says_call records) → Ends t.answer.number → ⊥
  pub all_run : ((rest ≡ []) × ((replay_of load).stop ≡ (walk load 1).stop))
      ⊎ ((c : Record) × (cs : List Record) × (rest ≡ c ∷ cs) × (let n = (step (replay_of load).left (says_call c)).answer.number in Ends n × ((replay_of load).stop ≡ n)))
  -- "`stop NUMBER RECORD`, in place of that record's line": the rig is record 1.
  pub stop_at : (replay_of load).stop ≢ 0 → (replay_of load).at ≡ 2 + length records
  -- All that is promised of a run.
  pub promised : Promises (rig_start load rig) (map says_call records)

-- A load of which nothing was run: it does not open, its first record does not read, or its rig is dark.
pub record NotRun (load : List ℕ) : Type 0 where
  pub listing : listing_of load ≡ header ++ stop_text load
  pub left : (replay_of load).left ≡ unrigged

abbrev pub LoadRuns : Type 0
LoadRuns = (load : List ℕ) → Ran load ⊎ NotRun load
