-- All of it holds, of every start and every list of calls.
use mathlib.Core.List.{List}
use Rattle.rules.specs.Calls.{Call}
use Rattle.promises.specs.Runs.{Start, Begins}
use Rattle.promises.specs.Promises.{Promises}
use Rattle.promises.proofs.Demand3.{demand_3, whole-calls-after}
use Rattle.promises.proofs.NumbersTested.{numbers_tested}
use Rattle.promises.proofs.Replies.{replies}
use Rattle.promises.proofs.LeastStart.{least_start}
use Rattle.promises.proofs.StartsPacked.{starts_packed}
use Rattle.promises.proofs.PackedInTurn.{packed_in_turn}
use Rattle.promises.proofs.PlansApart.{plans_apart}
use Rattle.promises.proofs.WaitsExplained.{waits_explained}
use Rattle.promises.proofs.ChainsTold.{chains_told}
use Rattle.promises.proofs.NeverOvertaken.{never_overtaken}
use Rattle.promises.proofs.StartsHold.{starts_hold}
use Rattle.promises.proofs.GrantsDue.{grants_due}
use Rattle.promises.proofs.PoolKept.{pool_kept}
use Rattle.promises.proofs.SharesKept.{shares_kept}
use Rattle.promises.proofs.TableKept.{table_kept}

pub promises : (s : Start) → Begins s → (calls : List Call) → Promises s calls
promises s b calls = record {
  demand_3 = demand_3 s b calls;
  numbers_tested = numbers_tested s b calls;
  replies = replies s b calls;
  least_start = least_start s b calls;
  starts_packed = starts_packed s b calls;
  packed_in_turn = packed_in_turn s b calls;
  plans_apart = plans_apart s b calls;
  waits_explained = waits_explained s b calls;
  chains_told = chains_told s b calls;
  never_overtaken = never_overtaken s b calls;
  grants_due = grants_due s b calls;
  starts_hold = starts_hold s b calls;
  pool_kept = pool_kept s b calls;
  shares_kept = shares_kept s b calls;
  table_kept = table_kept s b calls;
  whole_calls = whole-calls-after s b calls;
}
