-- Wrong frame tables, as steps run in place of the rules', each with a short list of calls at which the theorem is false of it; and a wrong
-- call for a new one.
-- proofs/Worthless has the proofs; each goes by the clause that is named here.
use Rattle.std.specs.Prelude.{not, List, [], ◌∷◌, ℕ, ◌+◌}
use Rattle.numbers.specs.Numbers.{dark_number, full_number}
use Rattle.rules.specs.Lists.{keep}
use Rattle.frames.specs.Rows.{on, contention}
use Rattle.frames.specs.Calls.{Call, claim, release, Answer, Step, unchanged, lacking, step, blank}
use Rattle.frame_promises.specs.Ledger.{Steps}
use Rattle.frame_promises.specs.BoundedWait.{BoundedWaitOf, NewTestedOf}

-- The theorem does not hold of these steps, this rig and these calls.
abbrev pub Refused : Steps → ℕ → List Call → Type 0
Refused step rig calls = BoundedWaitOf step rig calls → ⊥

-- An accepted claim's answer with another row, contention and grants.
abbrev pub answering : Answer → ℕ → ℕ → List ℕ → Answer
answering a r n gs = record { number = a.number; ticket = a.ticket; row = r; contention = n; grants = gs }

-- Every claim goes on at once.
unfoldable pub head_only : Steps
head_only m (claim g) = let s = step m (claim g) in record { model = s.model; answer = answering s.answer 0 s.answer.contention (s.answer.ticket ∷ []) }
head_only m (release k) = step m (release k)

-- Shut out by `holders_apart`: both claims have group 0.
abbrev pub HeadOnlyRefused : Type 0
HeadOnlyRefused = Refused head_only 0x1 (claim 0x1 ∷ claim 0x1 ∷ [])

-- Shut out by `row_behind` too, where the claim would fit there.
abbrev pub HeadFitsRefused : Type 0
HeadFitsRefused = Refused head_only 0x3 (claim 0x1 ∷ claim 0x2 ∷ [])

-- The head row never changes.
unfoldable pub never_turns : Steps
never_turns m (claim g) = step m (claim g)
never_turns m (release k) =
    let s = step m (release k) in
    record { model = record { rig = m.rig; issued = m.issued; pending = lacking k m.pending }; answer = answering s.answer 0 0 [] }

-- Shut out by `somebody_holds`: ticket 2 waits, and nobody holds.
abbrev pub NeverTurnsRefused : Type 0
NeverTurnsRefused = Refused never_turns 0x1 (claim 0x1 ∷ claim 0x1 ∷ release 1 ∷ [])

-- A claim joins the row after the one that is free.
unfoldable pub too_far : Steps
too_far m (claim g) = let s = step m (claim g) in record { model = s.model; answer = answering s.answer (s.answer.row + 1) s.answer.contention s.answer.grants }
too_far m (release k) = step m (release k)

-- Shut out by `row_bounded`: row 2 with contention 0.
abbrev pub TooFarRefused : Type 0
TooFarRefused = Refused too_far 0x3 (claim 0x1 ∷ claim 0x2 ∷ [])

-- Contention is counted without the head row.
unfoldable pub head_uncounted : Steps
head_uncounted m (claim g) =
    let s = step m (claim g) in
    record { model = s.model; answer = answering s.answer s.answer.row (contention g (keep (λ c. not (on c)) m.pending)) s.answer.grants }
head_uncounted m (release k) = step m (release k)

-- Shut out by `contention_counted`: the second claim is told 0.
abbrev pub HeadUncountedRefused : Type 0
HeadUncountedRefused = Refused head_uncounted 0x1 (claim 0x1 ∷ claim 0x1 ∷ [])

-- "turns every claim down"
unfoldable pub refuses_all : Steps
refuses_all m c = unchanged m full_number

-- Shut out by `number_tested`: places are free.
abbrev pub RefusesAllRefused : Type 0
RefusesAllRefused = Refused refuses_all 0x1 (claim 0x1 ∷ [])

-- A release answers row 1.
unfoldable pub tells_row : Steps
tells_row m (claim g) = step m (claim g)
tells_row m (release k) = let s = step m (release k) in record { model = s.model; answer = answering s.answer 1 s.answer.contention s.answer.grants }

-- Shut out by `release_plain`: a release answers its ticket, 0 and 0.
abbrev pub TellsRowRefused : Type 0
TellsRowRefused = Refused tells_row 0x1 (claim 0x1 ∷ release 1 ∷ [])

-- Every call answers the last ticket issued.
unfoldable pub last_ticket : Steps
last_ticket m c =
    let s = step m c in
    let a = s.answer in
    record { model = s.model; answer = record { number = a.number; ticket = s.model.issued; row = a.row; contention = a.contention; grants = a.grants } }

-- Shut out by `release_plain`: ticket 1 is released, and the answer says 2;
abbrev pub LastReleasedRefused : Type 0
LastReleasedRefused = Refused last_ticket 0x1 (claim 0x1 ∷ claim 0x1 ∷ release 1 ∷ [])

-- and by `refused_plain`: ticket 9 is unknown, and the answer says 1.
abbrev pub LastUnknownRefused : Type 0
LastUnknownRefused = Refused last_ticket 0x1 (claim 0x1 ∷ release 9 ∷ [])

-- A call for a new table that is never satisfied.
unfoldable pub rigless : ℕ → Step
rigless rig = unchanged (blank 0) dark_number

-- Shut out by its condition: a rig of group 0 is not dark.
abbrev pub NoRigRefused : Type 0
NoRigRefused = NewTestedOf rigless → ⊥

abbrev pub AllRefused : Type 0
AllRefused =
    HeadOnlyRefused × HeadFitsRefused × NeverTurnsRefused × TooFarRefused × HeadUncountedRefused × RefusesAllRefused
    × TellsRowRefused × LastReleasedRefused × LastUnknownRefused × NoRigRefused
