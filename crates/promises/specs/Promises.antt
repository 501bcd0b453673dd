-- The theorems of a run of calls, in one place.
use Rattle.std.specs.Prelude.{List}
use Rattle.rules.specs.Calls.{Call, step}
use Rattle.promises.specs.Ledger.{table_after}
use Rattle.promises.specs.Runs.{Start}
use Rattle.promises.specs.Demand3.{Demand3}
use Rattle.promises.specs.NumbersTested.{NumbersTested}
use Rattle.promises.specs.Replies.{Replies}
use Rattle.promises.specs.LeastStart.{LeastStart}
use Rattle.promises.specs.StartsPacked.{StartsPacked}
use Rattle.promises.specs.PackedInTurn.{PackedInTurn}
use Rattle.promises.specs.PlansApart.{PlansApart}
use Rattle.promises.specs.WaitsExplained.{WaitsExplained}
use Rattle.promises.specs.ChainsTold.{ChainsTold}
use Rattle.promises.specs.NeverOvertaken.{NeverOvertaken}
use Rattle.promises.specs.StartsHold.{StartsHold}
use Rattle.promises.specs.GrantsDue.{GrantsDue}
use Rattle.promises.specs.PoolKept.{PoolKept}
use Rattle.promises.specs.SharesKept.{SharesKept}
use Rattle.promises.specs.TableKept.{TableKept}
use Rattle.promises.specs.WholeCalls.{WholeCalls}

-- Over the calls, by their answers and lookups; last of the table that they left, and of the next call.
pub record Promises (s : Start) (calls : List Call) : Type 0 where
  pub demand_3 : Demand3 s calls
  pub numbers_tested : NumbersTested s calls
  pub replies : Replies s calls
  pub least_start : LeastStart s calls
  pub starts_packed : StartsPacked s calls
  pub packed_in_turn : PackedInTurn s calls
  pub plans_apart : PlansApart s calls
  pub waits_explained : WaitsExplained s calls
  pub chains_told : ChainsTold s calls
  pub never_overtaken : NeverOvertaken s calls
  pub grants_due : GrantsDue s calls
  pub starts_hold : StartsHold s calls
  pub pool_kept : PoolKept s calls
  pub shares_kept : SharesKept s calls
  pub table_kept : TableKept s calls
  pub whole_calls : WholeCalls (table_after step s.table calls)
