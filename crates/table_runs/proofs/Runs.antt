-- The theorems of `promises` hold of the code: a run's answers and tables are those of the rules.
use mathlib.Core.Path.{◌≡◌, refl, sym, ◌∙◌, ap, subst}
use mathlib.Core.List.{List, ◌∷◌}
use Prim.Native.Nat.{ℕ}
use Rattle.std.proofs.Common.{Result}
use Rattle.numbers.specs.declared.Refusal.{Refusal}
use Rattle.rules.specs.Calls.{Model, setting_of, Look, claims, releases, withdraws, moves_clock, declares, sets_grace, Call, timed, looks, sets_up, Answer, Step, step, new, StandingValues, CommonValues}
use Rattle.rules.specs.Calls as rules
use Rattle.rules.specs.Chains.{ChainValues, chain_of}
use Rattle.rules.proofs.Lookup.{look-answer, look-idle}
use Rattle.rules.proofs.Chains.{chain-answer}
use Rattle.promises.specs.Ledger.{Turn, Ledger, opening, turns, table_after}
use Rattle.promises.specs.Runs.{Telling, Told, tells, Start, Begins, by-new as begins-new, AtAnyTime, WhileNobodyOverruns, AtAnyLater, AtAnyCall}
use Rattle.promises.specs.Demand3.{Now, NoWaitPast, Next}
use Rattle.promises.specs.NumbersTested.{NumberTested}
use Rattle.promises.specs.Replies.{Replied}
use Rattle.promises.specs.LeastStart.{Least}
use Rattle.promises.specs.StartsPacked.{AllPacked}
use Rattle.promises.specs.PackedInTurn.{InTurn}
use Rattle.promises.specs.PlansApart.{Apart}
use Rattle.promises.specs.WaitsExplained.{Explained}
use Rattle.promises.specs.ChainsTold.{Chains, OnlyChains}
use Rattle.promises.specs.NeverOvertaken.{NotOvertaken}
use Rattle.promises.specs.GrantsDue.{Due}
use Rattle.promises.specs.PoolKept.{Kept}
use Rattle.promises.specs.SharesKept.{SharesNow, SharesNext}
use Rattle.promises.specs.WholeCalls.{WholeCalls}
use Rattle.promises.proofs.Demand3.{demand_3, whole-calls-after}
use Rattle.promises.proofs.NumbersTested.{numbers_tested, new-tested}
use Rattle.promises.proofs.Replies.{replies}
use Rattle.promises.proofs.LeastStart.{least_start}
use Rattle.promises.proofs.StartsPacked.{starts_packed}
use Rattle.promises.proofs.PackedInTurn.{packed_in_turn}
use Rattle.promises.proofs.PlansApart.{plans_apart}
use Rattle.promises.proofs.WaitsExplained.{waits_explained}
use Rattle.promises.proofs.ChainsTold.{chains_told}
use Rattle.promises.proofs.NeverOvertaken.{never_overtaken}
use Rattle.promises.proofs.StartsHold.{starts_hold}
use Rattle.promises.proofs.GrantsDue.{grants_due}
use Rattle.promises.proofs.PoolKept.{pool_kept}
use Rattle.promises.proofs.SharesKept.{shares_kept}
use Rattle.promises.proofs.TableKept.{table_kept}
use Rattle.table.specs.declared.Accepted.{Accepted}
use Rattle.table.specs.Outcomes.{answer_of}
use Rattle.table.specs.Valid.{Valid}
use Rattle.table_runs.specs.Runs.{looked, look_number, Place, Promised, Shows, Made, by_call, by-look, Run, done, then, Looks, BeganAs, by-new, CodeAtAnyTime, CodeWhileNobodyOverruns, CodeAtAnyLater, CodeAtAnyCall, CodeDemand3, CodeNumbersTested, CodeNewTested, CodeReplies, CodeLeastStart, CodeStartsPacked, CodePackedInTurn, CodePlansApart, CodeWaitsExplained, CodeChainsTold, CodeNeverOvertaken, CodeStartsHold, CodeGrantsDue, CodePoolKept, CodeSharesKept, CodeTables}
use Rattle.table.proofs.Promised.{step-valid}

-- ── what the contracts say ──
promised-is : (p : Place) (t : Model) (c : Call) (r : Result Accepted Refusal) (w : Model) → Promised p t c r w → (answer_of r ≡ (step t c).answer) × (w ≡ (step t c).model)
promised-is p t (timed u (claims ask)) r w h = h tt
promised-is p t (timed u (releases k)) r w h = h tt
promised-is p t (timed u (withdraws k)) r w h = h tt
promised-is p t (timed u moves_clock) r w h = h tt
promised-is p t (looks q) r w h = absurd h
promised-is p t (sets_up (declares c g n)) r w h = h tt
promised-is p t (sets_up (sets_grace n)) r w h = h tt

shows-is : {t : Model} → Valid t → (q : Look) (r : Telling q) → Shows t q r → (r ≡ tells t q) × (look_number q r ≡ (step t (looks q)).answer.number)
shows-is v (rules.at_ticket k) r h = let e = h.1 tt in (e.0, ap (λ (x : StandingValues). x.number) e.1)
shows-is v (rules.at_two j k) r h = let e = h.1 tt in (e.0, ap (λ (x : CommonValues). x.number) e.1)
shows-is v rules.at_pool r h = h.1 tt
shows-is {t} v (rules.at_chain k) r h =
    let e : r ≡ chain_of (setting_of t) k t.pending = h.1.1 ∙ (h.1.2 tt).0 in
    (e, ap (λ (x : ChainValues). x.number) e ∙ chain-answer t k v.settled.spaced.ascending)

-- ── one answer ──
looked-is : (m : Model) (q : Look) (n : ℕ) → n ≡ (step m (looks q)).answer.number → looked n ≡ (step m (looks q)).answer
looked-is m q n e = ap looked e ∙ look-answer m q

-- ── a run is the rules' run ──
made-is : {t u : Model} {c : Call} {a : Answer} → Valid t → Made t c a u → (a ≡ (step t c).answer) × (u ≡ (step t c).model) × Valid u
made-is {t} v (by_call p c r w h) =
    let e = promised-is p t c r w h in
    (e.0, e.1, subst Valid (sym e.1) (step-valid t c v))
made-is {t} v (by-look q r p) = (looked-is t q _ (shows-is v q r p).1, sym (look-idle t q), v)

run_is : {t u : Model} {cs : List Call} {ts : List Turn} → Valid t → Run t cs ts u → (ts ≡ turns step t cs) × (u ≡ table_after step t cs) × Valid u
unfolding turns table_after
run_is v done = (refl, refl, v)
run_is v (then {t} {u} {w} {c} {a} {cs} {ts} one p) =
    let m = made-is v one in
    let ih = run_is m.2 p in (
      ap (λ (x : Answer). record { call = c; answer = x } ∷ ts) m.0
          ∙ ap (λ (l : List Turn). record { call = c; answer = (step t c).answer } ∷ l) (ih.0 ∙ ap (λ (x : Model). turns step x cs) m.1),
      ih.1 ∙ ap (λ (x : Model). table_after step x cs) m.1,
      ih.2,
    )

-- What lookups show of a table is what the rules tell of it.
looks-are : (t m : Model) (shows : Told) → Valid t → t ≡ m → Looks t shows → shows ≡ tells m
looks-are t m shows v e h = λ i q. ((shows-is v q (shows q) (h q)).0 ∙ ap (λ (x : Model). tells x q) e) i

-- Such a start is one of those of `promises`.
began-is : {t : Model} {s : Start} → BeganAs t s → Begins s × (t ≡ s.table) × Valid t
began-is (by-new rig pool alone first p) =
    let q = p tt in (
      subst (λ (a : Answer). Begins (record { table = (new rig pool alone).model; ledger = opening rig pool alone a })) (sym q.1.0) (begins-new rig pool alone),
      q.0,
      q.1.1,
    )

-- The table after a run from a start, and the turns.
ran : {t u : Model} {s : Start} {cs : List Call} {ts : List Turn} → BeganAs t s → Run t cs ts u
    → Begins s × (ts ≡ turns step s.table cs) × (u ≡ table_after step s.table cs) × Valid u
ran {t} {u} {s} {cs} b p =
    let i = began-is b in
    let r = run_is i.2 p in
    (i.0, r.0 ∙ ap (λ (m : Model). turns step m cs) i.1, r.1 ∙ ap (λ (m : Model). table_after step m cs) i.1, r.2)

-- ── what holds of every run of the rules holds of every run of the code ──
pub any-time-of-code : (calls : List Call) (Q : Ledger → Told → Type 0) → ((s : Start) → Begins s → AtAnyTime step s calls Q) → CodeAtAnyTime calls Q
any-time-of-code calls Q h before rest e t s b ts u p shows k =
    let r = ran b p in
    rw (r.1, looks-are u _ shows r.3 r.2 k) (h s r.0 before rest e)

pub while-of-code : (calls : List Call) (Q : Ledger → Told → Type 0) → ((s : Start) → Begins s → WhileNobodyOverruns step s calls Q) → CodeWhileNobodyOverruns calls Q
while-of-code calls Q h before rest e t s b ts u p shows k =
    let r = ran b p in
    rw (r.1, looks-are u _ shows r.3 r.2 k) (h s r.0 before rest e)

pub any-later-of-code : (calls : List Call) (Q : Told → Told → Type 0) → ((s : Start) → Begins s → AtAnyLater step s calls Q) → CodeAtAnyLater calls Q
any-later-of-code calls Q h before between rest e t s b ts u p old k us w q new k' =
    let r = ran b p in
    let d = run_is r.3 q in
    rw (looks-are u _ old r.3 r.2 k, looks-are w _ new d.2 (d.1 ∙ ap (λ (x : Model). table_after step x between) r.2) k')
    (h s r.0 before between rest e)

pub any-call-of-code : (calls : List Call) (Q : Ledger → Turn → Told → Told → Type 0) → ((s : Start) → Begins s → AtAnyCall step s calls Q) → CodeAtAnyCall calls Q
any-call-of-code calls Q h before c rest e t s b ts u p a w one old new k k' =
    let r = ran b p in
    let d = made-is r.3 one in
    rw (
      r.1,
      d.0 ∙ ap (λ (x : Model). (step x c).answer) r.2,
      looks-are u _ old r.3 r.2 k,
      looks-are w _ new d.2 (d.1 ∙ ap (λ (x : Model). (step x c).model) r.2) k',
    )
    (h s r.0 before c rest e)

-- ── the theorems ──
pub code-demand-3 : (calls : List Call) → CodeDemand3 calls
code-demand-3 calls = record {
  at_any_time = any-time-of-code calls Now (λ s b. (demand_3 s b calls).at_any_time);
  no_wait_past = while-of-code calls NoWaitPast (λ s b. (demand_3 s b calls).no_wait_past);
  at_any_call = any-call-of-code calls Next (λ s b. (demand_3 s b calls).at_any_call);
}

pub code-numbers-tested : (calls : List Call) → CodeNumbersTested calls
code-numbers-tested calls = any-call-of-code calls NumberTested (λ s b. numbers_tested s b calls)

pub code-new-tested : CodeNewTested
code-new-tested rig pool alone r p = ap (λ (a : Answer). a.number) p.1.0 ∙ new-tested rig pool alone

pub code-replies : (calls : List Call) → CodeReplies calls
code-replies calls = any-call-of-code calls Replied (λ s b. replies s b calls)

pub code-least-start : (calls : List Call) → CodeLeastStart calls
code-least-start calls = any-call-of-code calls Least (λ s b. least_start s b calls)

pub code-starts-packed : (calls : List Call) → CodeStartsPacked calls
code-starts-packed calls = any-time-of-code calls AllPacked (λ s b. starts_packed s b calls)

pub code-packed-in-turn : (calls : List Call) → CodePackedInTurn calls
code-packed-in-turn calls = any-call-of-code calls InTurn (λ s b. packed_in_turn s b calls)

pub code-plans-apart : (calls : List Call) → CodePlansApart calls
code-plans-apart calls = any-time-of-code calls Apart (λ s b. plans_apart s b calls)

pub code-waits-explained : (calls : List Call) → CodeWaitsExplained calls
code-waits-explained calls = any-time-of-code calls Explained (λ s b. waits_explained s b calls)

pub code-chains-told : (calls : List Call) → CodeChainsTold calls
code-chains-told calls = record {
  at_any_time = any-time-of-code calls Chains (λ s b. (chains_told s b calls).at_any_time);
  no_other = any-time-of-code calls OnlyChains (λ s b. (chains_told s b calls).no_other);
}

pub code-never-overtaken : (calls : List Call) → CodeNeverOvertaken calls
code-never-overtaken calls = any-later-of-code calls NotOvertaken (λ s b. never_overtaken s b calls)

pub code-starts-hold : (calls : List Call) → CodeStartsHold calls
code-starts-hold calls before between rest e t s b ts u p old k us w q new k' =
    let r = ran b p in
    let d = run_is r.3 q in
    rw (
      r.1,
      d.0 ∙ ap (λ (x : Model). turns step x between) r.2,
      looks-are u _ old r.3 r.2 k,
      looks-are w _ new d.2 (d.1 ∙ ap (λ (x : Model). table_after step x between) r.2) k',
    )
    (starts_hold s r.0 calls before between rest e)

pub code-grants-due : (calls : List Call) → CodeGrantsDue calls
code-grants-due calls = any-call-of-code calls Due (λ s b. grants_due s b calls)

pub code-pool-kept : (calls : List Call) → CodePoolKept calls
code-pool-kept calls = any-time-of-code calls Kept (λ s b. pool_kept s b calls)

pub code-shares-kept : (calls : List Call) → CodeSharesKept calls
code-shares-kept calls = record {
  at_any_time = any-time-of-code calls SharesNow (λ s b. (shares_kept s b calls).at_any_time);
  at_any_call = any-call-of-code calls SharesNext (λ s b. (shares_kept s b calls).at_any_call);
}

pub code-tables : (calls : List Call) → CodeTables calls
code-tables calls = record {
  valid = λ t s b ts u p. (ran b p).3;
  kept = λ t s b ts u p. (let r = ran b p in rw (r.1, r.2) (table_kept s r.0 calls));
  whole = λ t s b ts u p. (let r = ran b p in subst WholeCalls (sym r.2) (whole-calls-after s r.0 calls));
  steps = λ t s b ts u p c a w one. (let d = made-is (ran b p).3 one in (d.0, d.1));
}
