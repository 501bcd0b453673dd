-- What the calls of a frame table and their answers tell: which claims are pending, which are held, and how many head changes each has
-- seen. Nothing here looks into a table. Quotations are from request P2 and document 01, "A run of calls".
use Rattle.std.specs.Prelude.{Bool, true, false, not, ◌&&◌, cond, List, [], ◌∷◌, ◌++◌, map, ℕ, ◌+◌, ◌-◌, eqb, length}
use Rattle.rules.specs.Lists.{any, keep}
use Rattle.rules.specs.Tests.{Test, dark, off_rig, full, ticketless, unknown, not_yet_on}
use Rattle.frames.specs.Calls.{Model, Call, claim, release, Answer, Step}

-- A call with its answer.
pub record Turn : Type 0 where
  pub call : Call
  pub answer : Answer

-- How calls are run: from a table and a call to the table after it and its answer. The rules' own is `step`.
abbrev pub Steps : Type 0
Steps = Model → Call → Step

-- "Each call gets the table as the one before it left it"
unfoldable pub turns : Steps → Model → List Call → List Turn
turns step m [] = []
turns step m (c ∷ cs) = record { call = c; answer = (step m c).answer } ∷ turns step (step m c).model cs

-- The table that the last one left.
unfoldable pub table_after : Steps → Model → List Call → Model
table_after step m [] = m
table_after step m (c ∷ cs) = table_after step (step m c).model cs

abbrev pub accepted : Turn → Bool
accepted t = eqb t.answer.number 0

-- A pending claim: what its call asked for and was answered; whether it is held; and the head changes it has seen, up to the one that
-- granted it.
pub record Entry : Type 0 where
  pub ticket : ℕ
  pub groups : ℕ
  pub row : ℕ
  pub contention : ℕ
  pub held : Bool
  pub seen : ℕ

-- The count of claims accepted so far, and the pending claims.
pub record Ledger : Type 0 where
  pub issued : ℕ
  pub claims : List Entry

-- Before any call.
abbrev pub opening : Ledger
opening = record { issued = 0; claims = [] }

abbrev pub named : ℕ → Entry → Bool
named k e = eqb e.ticket k

-- "A claim is pending from the accepted call that issued its ticket until an accepted release .. takes it away": what an accepted call
-- issued, and what it leaves of the pending claims.
unfoldable pub issues : Call → Answer → List Entry
issues (claim g) a = record { ticket = a.ticket; groups = g; row = a.row; contention = a.contention; held = false; seen = 0 } ∷ []
issues (release k) a = []

unfoldable pub stay : Call → List Entry → List Entry
stay (claim g) l = l
stay (release k) l = keep (λ e. not (named k e)) l

-- The claims that an accepted call may grant.
abbrev pub pending_at : Ledger → Turn → List Entry
pending_at l t = stay t.call l.claims ++ issues t.call t.answer

-- A head change, "the next row becomes the head and all of it goes on", as calls and answers tell it: an accepted release whose answer names
-- grants. (The request does not say how it is told; this is our definition.)
abbrev pub releases : Call → Bool
releases (claim g) = false
releases (release k) = true

abbrev pub some : List ℕ → Bool
some [] = false
some (k ∷ ks) = true

abbrev pub head_change : Turn → Bool
head_change t = accepted t && (releases t.call && some t.answer.grants)

-- A claim that waits sees the head change, and is held "from the call whose answer names its ticket as granted, that call included".
unfoldable pub marked : Turn → Entry → Entry
marked t e = elim e.held [
  | true ↦ e
  | false ↦ record {
    ticket = e.ticket;
    groups = e.groups;
    row = e.row;
    contention = e.contention;
    held = any (λ k. eqb k e.ticket) t.answer.grants;
    seen = e.seen + cond (head_change t) 1 0;
  }
]

-- The row of a pending claim now: the one that it was told, less the head changes it has seen.
abbrev pub row_now : Entry → ℕ
row_now e = e.row - e.seen

-- What a call is tested for, by what the ledger tells: "1, 2, 6, 7, 8 and 9 apply in that order".
unfoldable pub tests_of : ℕ → Ledger → Call → List Test
tests_of rig l (claim g) = dark g ∷ off_rig rig g ∷ full (length l.claims) ∷ ticketless l.issued ∷ []
tests_of rig l (release k) = unknown (named k) l.claims ∷ not_yet_on (named k) (λ e. e.held) l.claims ∷ []

-- The ledger after a call.
abbrev pub noted : Ledger → Turn → Ledger
noted l t =
    cond (accepted t)
    (record { issued = l.issued + length (issues t.call t.answer); claims = map (marked t) (pending_at l t) })
    l

unfoldable pub noted_all : Ledger → List Turn → Ledger
noted_all l [] = l
noted_all l (t ∷ ts) = noted_all (noted l t) ts

-- The ledger after these calls.
abbrev pub ledger_of : List Turn → Ledger
ledger_of ts = noted_all opening ts
