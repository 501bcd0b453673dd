-- The table has what the calls told it, after any number of them: rig, clock, pool, grace, shares, tickets issued, and of each pending claim what
-- was asked for, whether it is held, and since when. Planned starts alone, and the order of the claims in the list, are the table's own.
-- proofs/TableKept has the theorem.
use Rattle.std.specs.Prelude.{◌≡◌, true, List}
use Rattle.rules.specs.declared.Claim.{Claim}
use Rattle.rules.specs.Lists.{◌∈◌}
use Rattle.rules.specs.Claims.{on, at}
use Rattle.rules.specs.Calls.{Model, Call, step}
use Rattle.promises.specs.Ledger.{Steps, table_after, Entry, Ledger}
use Rattle.promises.specs.Runs.{Start, ledger_after}

pub record Has (c : Claim) (e : Entry) : Type 0 where
  pub ticket : c.ticket ≡ e.ticket
  pub groups : c.groups ≡ e.asked.groups
  pub length : c.length ≡ e.asked.length
  pub units : c.units ≡ e.asked.units
  pub client : c.client ≡ e.asked.client
  pub held : on c ≡ e.held
  pub grant : on c ≡ true → at c ≡ e.grant

pub record Keeps (l : Ledger) (m : Model) : Type 0 where
  pub rig : m.rig ≡ l.rig
  pub clock : m.clock ≡ l.clock
  pub pool : m.pool ≡ l.pool
  pub issued : m.issued ≡ l.issued
  pub grace : m.grace ≡ l.grace
  pub shares : m.shares ≡ l.shares
  pub every_entry : (e : Entry) → e ∈ l.claims → (c : Claim) × c ∈ m.pending × Has c e
  pub every_claim : (c : Claim) → c ∈ m.pending → (e : Entry) × e ∈ l.claims × Has c e

abbrev pub TableKeptOf : Steps → Start → List Call → Type 0
TableKeptOf step s calls = Keeps (ledger_after step s calls) (table_after step s.table calls)

abbrev pub TableKept : Start → List Call → Type 0
TableKept s calls = TableKeptOf step s calls
