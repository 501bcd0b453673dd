-- The table that a load leaves: its records are run one after the other, up to the load's end or to the record that ends it early.
-- That this is the run of its calls, of which the listing prints the answers, is said in `load_runs`.
use Rattle.std.specs.Prelude.{Bool, List, [], ◌∷◌, ℕ, zero, suc, ◌+◌, Some, None}
use Rattle.rules.specs.Calls.{Model}
use Rattle.numbers.specs.Refusals.{number_of}
use Rattle.format.specs.Records.{Record}
use Rattle.load.specs.Reading.{Walk, walk, open_number}
use Rattle.replay.specs.declared.Replayed.{Replayed}
use Rattle.replay.specs.Records.{alone_in, step_of, ending, unrigged}

-- The table that is left, and the number and the record of the stop: 0 and 0 for a load that is read to its end.
pub record Replay : Type 0 where
  pub left : Model
  pub stop : ℕ
  pub at : ℕ

abbrev pub stopped_at : ℕ → ℕ → Model → Replay
stopped_at n k m = record { left = m; stop = n; at = k }

-- A replay; or where a number is not 0 table m, stopped by it at record k.
abbrev pub stopped_or : ℕ → ℕ → Model → Replay → Replay
stopped_or zero k m r = r
stopped_or (suc n) k m r = stopped_at (suc n) k m

-- From record k on, in table m: the records rs, then the stop by what follows them (0: the load ends there). The record that ends the
-- load early leaves the table as it was before it.
unfoldable pub replay_from : Bool → ℕ → Model → List Record → ℕ → Replay
replay_from alone k m [] n = stopped_or n k m (stopped_at 0 0 m)
replay_from alone k m (r ∷ rs) n =
    let s = step_of alone m r in
    stopped_or (ending k s.answer.number) k m (replay_from alone (k + 1) s.model rs n)

unfoldable pub replay_in : Bool → ℕ → Model → Walk → Replay
replay_in alone k m w = replay_from alone k m w.records w.stop

-- A load that does not open leaves a table without groups.
unfoldable pub replay_of : List ℕ → Replay
replay_of load = stopped_or (open_number load) 0 unrigged (replay_in (alone_in load) 1 unrigged (walk load 1))

-- What the code's struct tells.
abbrev pub replay_told : Replayed → Replay
replay_told r = elim r.stop [ Some s ↦ stopped_at (number_of s.refusal) s.record r.table | None ↦ stopped_at 0 0 r.table ]
