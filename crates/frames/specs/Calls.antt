-- The calls of a frame table: in which order each is tested, and what it does. Quotations are from request P2. Everything computes on numerals.
use Rattle.std.specs.Prelude.{not, cond, List, [], ◌∷◌, ◌++◌, ℕ, zero, suc, length}
use Rattle.numbers.specs.Numbers.{dark_number}
use Rattle.groups.specs.Groups.{empty}
use Rattle.rules.specs.Lists.{keep}
use Rattle.rules.specs.Tests.{Test, first_number, dark, off_rig, full, ticketless, unknown, not_yet_on}
use Rattle.frames.specs.declared.Claim.{Claim}
use Rattle.frames.specs.Rows.{on, named, contention, row_for, turned, head_tickets, turned_on}

-- What a table means. The pending claims stand in ascending order of ticket.
pub record Model : Type 0 where
  pub rig : ℕ
  pub issued : ℕ
  pub pending : List Claim

-- A claim of groups, a release of a ticket. "There is no clock, length or withdrawal."
pub data Call : Type 0 where
  claim : ℕ → Call
  release : ℕ → Call

-- What a call answers: 0 or the refusal's number; "ticket, row .. and crowd"; "both name the grants".
pub record Answer : Type 0 where
  pub number : ℕ
  pub ticket : ℕ
  pub row : ℕ
  pub contention : ℕ
  pub grants : List ℕ

-- The table after a call, and its answer.
pub record Step : Type 0 where
  pub model : Model
  pub answer : Answer

-- "the other limits are those of the timed table, and 1, 2, 6, 7, 8 and 9 apply in that order"
unfoldable pub tests : Model → Call → List Test
tests m (claim g) = dark g ∷ off_rig m.rig g ∷ full (length m.pending) ∷ ticketless m.issued ∷ []
tests m (release k) = unknown (named k) m.pending ∷ not_yet_on (named k) on m.pending ∷ []

-- A refused call: the table handed in, its number, and nothing else.
abbrev pub unchanged : Model → ℕ → Step
unchanged m n = record { model = m; answer = record { number = n; ticket = 0; row = 0; contention = 0; grants = [] } }

-- A new claim, with the next ticket, in the row that it joins.
abbrev pub fresh : Model → ℕ → Claim
fresh m g = record { groups = g; ticket = suc m.issued; row = row_for g m.pending }

-- "A claim answers ticket, row .. and crowd"; in the head row it "goes on".
unfoldable pub admit : Model → ℕ → Step
admit m g =
    let w : Claim = fresh m g in
    record {
      model = record { rig = m.rig; issued = w.ticket; pending = m.pending ++ (w ∷ []) };
      answer = record { number = 0; ticket = w.ticket; row = w.row; contention = contention g m.pending; grants = head_tickets (w ∷ []) };
    }

-- The claims but that of ticket k.
unfoldable pub lacking : ℕ → List Claim → List Claim
lacking k ps = keep (λ c. not (named k c)) ps

-- A release takes away a claim that is on. It answers "its ticket, 0 and 0".
unfoldable pub remove : Model → ℕ → Step
remove m k =
    let rest : List Claim = lacking k m.pending in
    record {
      model = record { rig = m.rig; issued = m.issued; pending = turned rest };
      answer = record { number = 0; ticket = k; row = 0; contention = 0; grants = turned_on rest };
    }

unfoldable pub act : Model → Call → Step
act m (claim g) = admit m g
act m (release k) = remove m k

-- The call's own step, or the refusal.
abbrev pub unless : Model → ℕ → Step → Step
unless m zero s = s
unless m (suc n) s = unchanged m (suc n)

unfoldable pub step : Model → Call → Step
step m c = unless m (first_number (tests m c)) (act m c)

-- ── a new table, and lists of calls ──
abbrev pub blank : ℕ → Model
blank g = record { rig = g; issued = 0; pending = [] }

-- A rig without groups is refused (1), and gives a table without groups.
unfoldable pub new : ℕ → Step
new g = cond (empty g) (unchanged (blank 0) dark_number) (unchanged (blank g) 0)

-- The table after a list of calls, and their answers.
unfoldable pub after : Model → List Call → Model
after m [] = m
after m (c ∷ cs) = after (step m c).model cs

unfoldable pub answers : Model → List Call → List Answer
answers m [] = []
answers m (c ∷ cs) = (step m c).answer ∷ answers (step m c).model cs
