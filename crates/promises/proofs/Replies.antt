-- Every call of a run replies as document 01 says.
use mathlib.Core.Path.{◌≡◌, refl, sym, ◌∙◌, ap}
use mathlib.Core.Bool.{false, ◌&&◌}
use mathlib.Core.List.{List, []}
use Prim.Native.Nat.{ℕ}
use lib.Dec.{eqb}
use Rattle.rules.specs.declared.Request.{Request}
use Rattle.rules.specs.declared.Setting.{Setting}
use Rattle.rules.specs.Invariants.{Invariant}
use Rattle.rules.specs.Pool.{free_units}
use Rattle.rules.specs.Calls as rules
use Rattle.rules.specs.Calls.{Model, setting_of, with_grace, declared, Look, Call, claim, is_timed, Step, unchanged, advance, plain, finish, admit, step}
use Rattle.rules.proofs.Bools.{clash}
use Rattle.rules.proofs.Calls.{Leaves, by-release, by-withdraw, by-clock, step-cases, unissued-none}
use Rattle.rules.proofs.Chains.{chain-none}
use Rattle.promises.specs.Ledger.{table_after, Ledger}
use Rattle.promises.specs.Runs.{tells_of, tells, Start, Begins}
use Rattle.promises.specs.Replies.{Replied, Replies}
use Rattle.promises.proofs.Demand3.{idle-refused, after-calls}

abbrev Reply : Ledger → Model → Call → Step → Type 0
Reply l m c s = Replied l (record { call = c; answer = s.answer }) (tells m) (tells s.model)

-- With nothing pending no lookup looks at the grace.
none-tells : (v w : Setting) → v.pool ≡ w.pool → (q : Look) → tells_of v [] q ≡ tells_of w [] q
none-tells v w e (rules.at_ticket k) = refl
none-tells v w e (rules.at_two j k) = refl
none-tells v w e rules.at_pool = ap (λ (n : ℕ). free_units n []) e
none-tells v w e (rules.at_chain k) = chain-none v k ∙ sym (chain-none w k)

grace-tells : (m : Model) (n : ℕ) → m.pending ≡ [] → (q : Look) → tells (with_grace m n) q ≡ tells m q
grace-tells m n e q = rw e (none-tells (setting_of (with_grace m n)) (setting_of m) refl q)

untimed : (l : Ledger) (m n : Model) (c : Call) (k : ℕ) → ((q : Look) → tells n q ≡ tells m q) → is_timed c && eqb k 0 ≡ false → Reply l m c (unchanged n k)
untimed l m n c k same z = record {
  three_plain = λ h _. clash h z;
  others_plain = λ h. record { ticket_is = refl; start_is = refl; contention_none = refl; bound_none = refl };
  others_still = λ h q. same q;
}

claimed : (l : Ledger) (m : Model) (t : ℕ) (ask : Request) → Reply l m (claim t ask) (admit (advance m t) ask)
unfolding admit finish
claimed l m t ask = record { three_plain = λ h n. clash refl n; others_plain = λ h. clash refl h; others_still = λ h. clash refl h }

left : (l : Ledger) {m : Model} {c : Call} {t k : ℕ} {q : Model} → Leaves m c t k q → Reply l m c (finish q (plain k t))
unfolding finish
left l (by-release t k) = record { three_plain = λ h n. record { ticket_is = refl; start_is = refl; contention_none = refl; bound_none = refl }; others_plain = λ h. clash refl h; others_still = λ h. clash refl h }
left l (by-withdraw t k) = record { three_plain = λ h n. record { ticket_is = refl; start_is = refl; contention_none = refl; bound_none = refl }; others_plain = λ h. clash refl h; others_still = λ h. clash refl h }
left l (by-clock t) = record { three_plain = λ h n. record { ticket_is = refl; start_is = refl; contention_none = refl; bound_none = refl }; others_plain = λ h. clash refl h; others_still = λ h. clash refl h }

reply-of : (l : Ledger) (m : Model) → Invariant m → (c : Call) → Reply l m c (step m c)
reply-of l m i =
    step-cases (Reply l m) m (λ c n z. untimed l m m c n (λ q. refl) (idle-refused c n z)) (λ t ask a. claimed l m t ask) (λ c t k q o v. left l v)
    (λ c r k d. untimed l m (declared m c r k) _ 0 (λ q. refl) refl)
    (λ n d. untimed l m (with_grace m n) _ 0 (grace-tells m n (unissued-none m i d.unissued)) refl)

pub replies : (s : Start) → Begins s → (calls : List Call) → Replies s calls
replies s b calls before c rest e = reply-of _ (table_after step s.table before) (after-calls s b before).inv c
