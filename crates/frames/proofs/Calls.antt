-- The calls of a frame table: what accepting one means, its cases, and that every call keeps the invariant.
-- A claim rests on `row-joins`; a release leaves no gap behind the head row, and `turned-cases` fills the head row again.
use mathlib.Core.Path.{◌≡◌, refl, sym, ◌∙◌, ap}
use mathlib.Core.Logic.{◌≢◌}
use mathlib.Core.Bool.{true, false, not, ◌&&◌}
use mathlib.Core.List.Memᴰ
use mathlib.Core.List.{List, [], ◌∷◌, ◌++◌, map}
use Prim.Native.Nat.{ℕ, zero, suc, ◌≤◌, ◌<◌}
use native.Mathlib.Omega.{arith}
use lib.ListN.{length}
use borrow.Author.Tests.{leb-false, eqb-true, eqb-false, eq-eqb, ne_eqb, not-true, not-false}
use Rattle.numbers.specs.Numbers.{most_pending, most_tickets}
use Rattle.groups.specs.Groups.{shares, empty, within}
use Rattle.groups.proofs.Groups.{shares-sym}
use Rattle.rules.specs.Lists.{◌∈◌, any, Ascends}
use Rattle.rules.specs.Tests.{first_number, dark, off_rig, full, ticketless, unknown, not_yet_on}
use Rattle.rules.proofs.Bools.{by-test, by_order, clash, and_i}
use Rattle.rules.proofs.Lists.{Each, here, none, any_some, any_none, keep-e, keep-i, snoc-each, snoc-each2, map-i, map_each, map-each2, ascends-keep, ascends-map, ascends-snoc, some_of}
use Rattle.rules.proofs.Tests.{passes}
use Rattle.frames.specs.declared.Claim.{Claim}
use Rattle.frames.specs.Rows.{on, named, row_for, nearer, turned}
use Rattle.frames.specs.Calls.{Model, Call, claim, release, Step, tests, unchanged, fresh, admit, lacking, remove, act, unless, step, blank, new, after}
use Rattle.frames.specs.Invariants.{ticket_of, RowsApart, NoGaps, Invariant}
use Rattle.frames.proofs.Rows.{taken_none, taken-some, row-joins, behind-head, turned-cases}

-- ── the tests ──
-- What the tests of an accepted claim say.
pub record Admissible (m : Model) (g : ℕ) : Type 0 where
  pub lit : empty g ≡ false
  pub inside : within g m.rig ≡ true
  pub room : length m.pending < most_pending
  pub spare : m.issued < most_tickets

-- A claim that no test refuses is such a claim.
pub admissible : (m : Model) (g : ℕ) → first_number (tests m (claim g)) ≡ 0 → Admissible m g
unfolding tests
admissible m g e =
    let a = passes (dark g) _ (omega arith) e in
    let b = passes (off_rig m.rig g) _ (omega arith) a.1 in
    let c = passes (full (length m.pending)) _ (omega arith) b.1 in
    let d = passes (ticketless m.issued) [] (omega arith) c.1 in
    record {
      lit = a.0;
      inside = not-false (within g m.rig) b.0;
      room = leb-false most_pending _ c.0;
      spare = leb-false most_tickets _ d.0;
    }

-- What those of an accepted release say: the ticket's claim is pending and on.
pub record Releasable (m : Model) (k : ℕ) : Type 0 where
  pub pending : any (named k) m.pending ≡ true
  pub held : (c : Claim) → c ∈ m.pending → c.ticket ≡ k → c.row ≡ 0

-- A release that no test refuses is such a release.
pub releasable : (m : Model) (k : ℕ) → first_number (tests m (release k)) ≡ 0 → Releasable m k
unfolding tests
releasable m k e =
    let a = passes (unknown (named k) m.pending) _ (omega arith) e in
    let b = passes (not_yet_on (named k) on m.pending) [] (omega arith) a.1 in
    record {
      pending = not-false (any (named k) m.pending) a.0;
      held = λ c i q.
          by-test (on c) (eqb-true c.row 0)
          (λ f. clash (and_i (named k c) _ (eq-eqb c.ticket k q) (ap not f)) (any_none (λ c. named k c && not (on c)) b.0 i));
    }

-- ── the cases of a call ──
-- What holds of a refusal, and of the call's own step where no test fails, holds of the call.
by_tests : (P : Step → Type 0) (m : Model) (n : ℕ) (s : Step) → ((j : ℕ) → P (unchanged m (suc j))) → (n ≡ 0 → P s) → P (unless m n s)
by_tests P m zero s h k = k refl
by_tests P m (suc n) s h k = h n

-- To show something of a call's step, show it of a refused call, of a claim and of a release.
pub step-cases : (P : Call → Step → Type 0) (m : Model)
    → ((c : Call) (n : ℕ) → n ≢ 0 → P c (unchanged m n))
    → ((g : ℕ) → Admissible m g → P (claim g) (admit m g))
    → ((k : ℕ) → Releasable m k → P (release k) (remove m k))
    → (c : Call) → P c (step m c)
unfolding step act
step-cases P m refused joins leaves c = by_tests (P c) m (first_number (tests m c)) (act m c) (λ j. refused c (suc j) (λ e. omega arith)) (accepted c)
  where
    accepted : (c : Call) → first_number (tests m c) ≡ 0 → P c (act m c)
    accepted (claim g) e = joins g (admissible m g e)
    accepted (release k) e = leaves k (releasable m k e)

-- The number of a call's answer is that of the first test that fails, 0 for none; and no call changes the rig.
pub step-number : (m : Model) (c : Call) → (step m c).answer.number ≡ first_number (tests m c)
unfolding step act admit remove
step-number m c = go (first_number (tests m c)) (accepted c)
  where
    go : (n : ℕ) → (act m c).answer.number ≡ 0 → (unless m n (act m c)).answer.number ≡ n
    go zero z = z
    go (suc n) z = refl

    accepted : (c : Call) → (act m c).answer.number ≡ 0
    accepted (claim g) = refl
    accepted (release k) = refl

pub step-rig : (m : Model) (c : Call) → (step m c).model.rig ≡ m.rig
unfolding admit remove
step-rig m = step-cases (λ c s. s.model.rig ≡ m.rig) m (λ c n z. refl) (λ g a. refl) (λ k a. refl)

-- To show something of a new table, show it of a refused one and of the others.
pub new-cases : (P : Step → Type 0) (g : ℕ) → (empty g ≡ true → P (unchanged (blank 0) 1)) → (empty g ≡ false → P (unchanged (blank g) 0)) → P (new g)
unfolding new
new-cases P g h k = by-test (empty g) (λ e. rw e (h e)) (λ e. rw e (k e))

-- ── what the invariant says of claims one by one ──
-- Two claims of one row share no group.
abbrev Apart : Claim → Claim → Type 0
Apart c d = c.ticket ≢ d.ticket → c.row ≡ d.row → shares c.groups d.groups ≡ true → ⊥

-- Row j has a claim;
abbrev HasRow : List Claim → ℕ → Type 0
HasRow ps j = (d : Claim) × d ∈ ps × (d.row ≡ j)

-- and every row up to that of c.
abbrev Reached : List Claim → Claim → Type 0
Reached ps c = (j : ℕ) → 0 ≤ j → j ≤ c.row → HasRow ps j

-- ── a claim ──
-- The claims with the new one.
abbrev pub joined : Model → ℕ → List Claim
joined m g = m.pending ++ (fresh m g ∷ [])

-- Its ticket is greater than all before it, so tickets still ascend.
pub join-ascending : (m : Model) (g : ℕ) → Invariant m → Ascends ticket_of (joined m g)
join-ascending m g i = ascends-snoc ticket_of m.pending (fresh m g) i.ascending (λ c k. omega (arith, (i.issued c k).1))

-- It shares no group with a claim of its row.
pub join_apart : (m : Model) (g : ℕ) → Invariant m → RowsApart (joined m g)
join_apart m g i =
    snoc-each2 Apart m.pending (fresh m g)
    i.apart
    (λ c ci _ e h. meets c ci e h)
    (λ d di _ e h. meets d di (sym e) (shares-sym d.groups g ∙ h))
    (λ n _ _. n refl)
  where
    meets : (c : Claim) → c ∈ m.pending → c.row ≡ row_for g m.pending → shares c.groups g ≡ true → ⊥
    meets c ci e h = clash h (taken_none g m.pending _ (row-joins g m.pending).free c ci e)

-- Every row before its own has a claim.
pub join-filled : (m : Model) (g : ℕ) → Invariant m → NoGaps 0 (joined m g)
join-filled m g i = snoc-each (Reached (joined m g)) m.pending (fresh m g) (λ c ci j a b. old (i.filled c ci j a b)) new
  where
    old : {j : ℕ} → HasRow m.pending j → HasRow (joined m g) j
    old x = (x.0, Memᴰ.append_left (fresh m g ∷ []) x.1, x.2)

    new : (j : ℕ) → 0 ≤ j → j ≤ row_for g m.pending → HasRow (joined m g) j
    new j a b =
        let r = row-joins g m.pending in
        by_order (row_for g m.pending) j
        (λ l. (fresh m g, Memᴰ.append_right m.pending here, omega arith))
        (λ l. by_order 1 j
        (λ q. let x = taken-some g m.pending j (r.first j q l) in old (x.0, x.1, x.3))
        (λ q. let x = some_of m.pending (λ e. omega (arith, r.when_empty e)) in old (i.filled x.0 x.1 j (omega arith) (omega arith))))

-- So an accepted claim keeps the invariant.
pub admit-invariant : (m : Model) (g : ℕ) → Invariant m → Invariant (admit m g).model
unfolding admit
admit-invariant m g i = record {
  ascending = join-ascending m g i;
  issued = snoc-each (λ (c : Claim). (1 ≤ c.ticket) × (c.ticket ≤ suc m.issued)) m.pending (fresh m g)
      (λ c k. ((i.issued c k).0, omega (arith, (i.issued c k).1))) (omega arith, omega arith);
  apart = join_apart m g i;
  filled = join-filled m g i;
}

-- ── a release ──
-- Only claims of other tickets stay,
pub lacking-e : (k : ℕ) (ps : List Claim) {c : Claim} → c ∈ lacking k ps → c ∈ ps × (c.ticket ≢ k)
unfolding lacking
lacking-e k ps {c} i =
    let r = keep-e (λ c. not (named k c)) ps i in
    (r.0, eqb-false c.ticket k (not-true (named k c) r.1))

-- and all of them do.
pub lacking-i : (k : ℕ) {ps : List Claim} {c : Claim} → c.ticket ≢ k → c ∈ ps → c ∈ lacking k ps
unfolding lacking
lacking-i k {ps} {c} n i = keep-i (λ c. not (named k c)) (ap not (ne_eqb c.ticket k n)) i

-- A released claim is on, so that no row behind the head row loses a claim.
pub lacking-filled : (m : Model) (k : ℕ) → Releasable m k → Invariant m → NoGaps 1 (lacking k m.pending)
lacking-filled m k r i c ci j a b =
    let x = i.filled c (lacking-e k m.pending ci).0 j (omega arith) b in
    (x.0, lacking-i k (λ e. omega (arith, r.held x.0 x.1 e, x.2)) x.1, x.2)

-- A head change keeps tickets,
pub turned-tickets : (P : ℕ → Type 0) (ps : List Claim) → Each (λ c. P c.ticket) ps → Each (λ c. P c.ticket) (turned ps)
turned-tickets P ps h = turned-cases (λ qs ks. Each (λ c. P c.ticket) qs) ps (λ e. h) (λ e. map_each (λ (c : Claim). P c.ticket) nearer ps h)

-- and their order.
pub turned-ascending : (ps : List Claim) → Ascends ticket_of ps → Ascends ticket_of (turned ps)
turned-ascending ps u = turned-cases (λ qs ks. Ascends ticket_of qs) ps (λ e. u) (λ e. ascends-map ticket_of ticket_of nearer ps (λ c. refl) u)

-- Claims that were in different rows still are.
pub turned_apart : (ps : List Claim) → RowsApart ps → RowsApart (turned ps)
turned_apart ps a =
    turned-cases (λ qs ks. RowsApart qs) ps (λ e. a)
    (λ e. map-each2 Apart nearer ps (λ c d ci di n q h. a c d ci di n (omega (arith, behind-head e ci, behind-head e di)) h))

-- Where only the head row may have emptied, a head change leaves no gap.
pub turned-filled : (ps : List Claim) → NoGaps 1 ps → NoGaps 0 (turned ps)
turned-filled ps f = turned-cases (λ qs ks. NoGaps 0 qs) ps stays moves
  where
    stays : any on ps ≡ true → NoGaps 0 ps
    stays e c ci j a b =
        by_order 1 j (λ l. f c ci j l b)
        (λ l. let x = any_some on ps e in (x.0, x.1, omega (arith, eqb-true x.0.row 0 x.2)))

    moves : any on ps ≡ false → NoGaps 0 (map nearer ps)
    moves e = map_each (Reached (map nearer ps)) nearer ps
        (λ c ci j a b. (let x = f c ci (suc j) (omega arith) (omega (arith, behind-head e ci)) in (nearer x.0, map-i nearer x.1, omega (arith, x.2))))

-- So an accepted release keeps the invariant.
pub remove-invariant : (m : Model) (k : ℕ) → Releasable m k → Invariant m → Invariant (remove m k).model
unfolding remove lacking
remove-invariant m k r i =
    let rest : List Claim = lacking k m.pending in
    record {
      ascending = turned-ascending rest (ascends-keep ticket_of (λ c. not (named k c)) m.pending i.ascending);
      issued = turned-tickets (λ n. (1 ≤ n) × (n ≤ m.issued)) rest (λ c ci. i.issued c (lacking-e k m.pending ci).0);
      apart = turned_apart rest (λ c d ci di. i.apart c d (lacking-e k m.pending ci).0 (lacking-e k m.pending di).0);
      filled = turned-filled rest (lacking-filled m k r i);
    }

-- ── every call keeps the invariant ──
pub step-invariant : (m : Model) (c : Call) → Invariant m → Invariant (step m c).model
step-invariant m c i = step-cases (λ d s. Invariant s.model) m (λ d n z. i) (λ g a. admit-invariant m g i) (λ k r. remove-invariant m k r i) c

-- A table without claims has it,
pub blank-invariant : (g : ℕ) → Invariant (blank g)
blank-invariant g = record { ascending = tt; issued = λ c i. none i; apart = λ c d i. none i; filled = λ c i. none i }

-- so a new one has,
pub new-invariant : (g : ℕ) → Invariant (new g).model
new-invariant g = new-cases (λ (s : Step). Invariant s.model) g (λ e. blank-invariant 0) (λ e. blank-invariant g)

-- and every table that calls make of one that has it.
pub after-invariant : (m : Model) (cs : List Call) → Invariant m → Invariant (after m cs)
unfolding after
after-invariant m [] i = i
after-invariant m (c ∷ cs) i = after-invariant (step m c).model cs (step-invariant m c i)
