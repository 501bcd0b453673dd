-- Request P2 holds of every rig and every list of calls. The table and the ledger are kept side by side, call by call, by one equation:
-- a pending claim is as many rows nearer to the head as its entry has seen head changes. The rest is the invariant of frame tables.
use mathlib.Core.Path.{◌≡◌, refl, sym, ◌∙◌, ap, subst}
use mathlib.Core.Logic.{◌≢◌}
use mathlib.Core.Bool.{Bool, true, false, not, ◌&&◌, cond}
use mathlib.Core.List.Memᴰ
use mathlib.Core.List.{List, [], ◌∷◌, ◌++◌, map, map-map, map-append, append-nil}
use Prim.Native.Nat.{ℕ, suc, ◌+◌, ◌-◌, ◌≤◌, ◌<◌}
use native.Mathlib.Omega.{arith}
use lib.Dec.{eqb}
use lib.ListN.{length, length-map}
use borrow.Author.Tests.{eqb-true, eqb-false, eq-eqb, ne_eqb}
use Rattle.groups.specs.Groups.{some_from, shares, empty, within}
use Rattle.groups.proofs.Groups.{within_none}
use Rattle.rules.specs.Lists.{◌∈◌, any, keep, Ascends}
use Rattle.rules.specs.Tests.{first_number}
use Rattle.rules.proofs.Bools.{by-test, by_order, both_ways, clash}
use Rattle.rules.proofs.Lists.{Each, here, none, any_false, any-cong, any-map, keep-e, keep-map, snoc-each, map-id, map-e, map-i, map_each, map-cong, ascends-unmap}
use Rattle.frames.specs.declared.Claim.{Claim}
use Rattle.frames.specs.Rows.{on, named, rival, contention, row_for, nearer, head_tickets}
use Rattle.frames.specs.Calls.{Model, Call, claim, release, Step, tests, unchanged, fresh, admit, lacking, remove, step, blank, new, after}
use Rattle.frames.specs.Invariants.{ticket_of, Invariant}
use Rattle.frames.proofs.Rows.{taken_none, taken-some, row-joins, row-bound, head-ascends, head-i, head-e, head-named, behind-head, turned-cases}
use Rattle.frames.proofs.Calls.{Admissible, Releasable, step-cases, step-number, new-cases, admit-invariant, remove-invariant, blank-invariant}
use Rattle.frame_promises.specs.Ledger.{Turn, Steps, turns, table_after, Entry, Ledger, opening, issues, stay, some, head_change, marked, row_now, tests_of, noted, noted_all, ledger_of}
use Rattle.frame_promises.specs.Ledger as entry
use Rattle.frame_promises.specs.BoundedWait.{Now, OfClaim, OfGrants, OfReply, Next, BoundedWaitOf, BoundedWait, NewNumber, NewTested}

-- The claim of the table that an entry tells of.
abbrev pub claim_of : Entry → Claim
claim_of e = record { groups = e.groups; ticket = e.ticket; row = e.row - e.seen }

-- What holds of an entry between calls.
pub record Kept (e : Entry) : Type 0 where
  pub bounded : e.row ≤ 1 + e.contention
  pub ahead : e.held ≡ false → e.seen < e.row
  pub reached : e.held ≡ true → e.seen ≡ e.row

-- The ledger and the table of a rig between calls. (A rig without groups gives the table of no groups, and what is within the one is
-- within the other.)
pub record Story (rig : ℕ) (l : Ledger) (m : Model) : Type 0 where
  pub inv : Invariant m
  pub rigged : (g : ℕ) → within g m.rig ≡ within g rig
  pub issued : m.issued ≡ l.issued
  pub pending : m.pending ≡ map claim_of l.claims
  pub kept : Each Kept l.claims

-- ── from the ledger to the table, and back ──
-- Where the claims ps are those of the entries es, each entry has its claim,
claim-in : {ps : List Claim} {es : List Entry} → ps ≡ map claim_of es → {e : Entry} → e ∈ es → claim_of e ∈ ps
claim-in q {e} i = subst (λ (l : List Claim). claim_of e ∈ l) (sym q) (map-i claim_of i)

-- and each claim its entry.
entry_of : {ps : List Claim} (es : List Entry) → ps ≡ map claim_of es → {c : Claim} → c ∈ ps → (e : Entry) × e ∈ es × (c ≡ claim_of e)
entry_of es q {c} i = map-e claim_of es (subst (λ (l : List Claim). c ∈ l) q i)

-- An entry that is held has its claim in the head row,
held-row : (e : Entry) → Kept e → e.held ≡ true → (claim_of e).row ≡ 0
held-row e k h = omega (arith, k.reached h)

-- and one whose claim is in the head row is held.
row-held : (e : Entry) → Kept e → (claim_of e).row ≡ 0 → e.held ≡ true
row-held e k z = by-test e.held (λ h. h) (λ h. absurd (omega (arith, k.ahead h)))

-- ── after any number of calls ──
-- What the request says then, of the ledger alone.
now_of : (rig : ℕ) (l : Ledger) (m : Model) → Story rig l m → Now l
now_of rig l m s = record {
  tickets_ascend =
      ascends-unmap (λ (e : Entry). e.ticket) ticket_of claim_of l.claims (λ e. refl)
      (subst (λ (ps : List Claim). Ascends ticket_of ps) s.pending s.inv.ascending);
  holders_apart = λ e f i j n p q.
      let row = held-row e (s.kept e i) p ∙ sym (held-row f (s.kept f j) q) in
      by-test (shares e.groups f.groups)
      (λ h. absurd (s.inv.apart (claim_of e) (claim_of f) (claim-in s.pending i) (claim-in s.pending j) n row h))
      (λ h. h);
  wait_bounded = λ e i h. omega (arith, (s.kept e i).ahead h, (s.kept e i).bounded);
  grant_bounded = λ e i h. omega (arith, (s.kept e i).reached h, (s.kept e i).bounded);
  row_ahead = λ e i. (s.kept e i).ahead;
  row_reached = λ e i. (s.kept e i).reached;
  somebody_holds = λ e i.
      let c = s.inv.filled (claim_of e) (claim-in s.pending i) 0 (omega arith) (omega arith) in
      let f = entry_of l.claims s.pending c.1 in
      (f.0, f.1, row-held f.0 (s.kept f.0 f.1) (sym (ap (λ (x : Claim). x.row) f.2) ∙ c.2));
}

-- ── what a call does to an entry ──
-- A claim that is d rows nearer to the head.
abbrev moved : ℕ → Claim → Claim
moved d c = record { groups = c.groups; ticket = c.ticket; row = c.row - d }

-- By no rows: as it was.
moved_none : (ps : List Claim) → map (moved 0) ps ≡ ps
moved_none ps = map-id (moved 0) ps (λ c i. ap (λ (r : ℕ). record { groups = c.groups; ticket = c.ticket; row = r }) (omega arith))

-- What a call makes of an entry that was not held.
abbrev waited : Turn → Entry → Entry
waited t e = record {
  ticket = e.ticket;
  groups = e.groups;
  row = e.row;
  contention = e.contention;
  held = any (λ k. eqb k e.ticket) t.answer.grants;
  seen = e.seen + cond (head_change t) 1 0;
}

-- To show something of an entry after a call, show it of one that was held and of one that was not.
marked-cases : (P : Entry → Type 0) (t : Turn) (e : Entry) → (e.held ≡ true → P e) → (e.held ≡ false → P (waited t e)) → P (marked t e)
unfolding marked
marked-cases P t e h k = by-test e.held (λ q. rw (q, marked) (h q)) (λ q. rw (q, marked) (k q))

-- What a call that moves claims by d rows says of an entry, so that the entry is in order after it: the call counts as d head changes, and
-- names an entry that was not held exactly if its claim is in the head row then.
record Markable (t : Turn) (d : ℕ) (e : Entry) : Type 0 where
  changes : cond (head_change t) 1 0 ≡ d
  bounded : e.row ≤ 1 + e.contention
  reached : e.held ≡ true → e.seen ≡ e.row
  near : e.held ≡ false → e.seen + d ≤ e.row
  named : e.held ≡ false → any (λ k. eqb k e.ticket) t.answer.grants ≡ on (moved d (claim_of e))

-- It is, and its claim has moved.
marked-kept : (t : Turn) (d : ℕ) (e : Entry) → Markable t d e → Kept (marked t e) × (claim_of (marked t e) ≡ moved d (claim_of e))
marked-kept t d e k =
    marked-cases (λ (x : Entry). Kept x × (claim_of x ≡ moved d (claim_of e))) t e
    (λ h. (record { bounded = k.bounded; ahead = λ f. clash h f; reached = k.reached }, row_is (omega (arith, k.reached h))))
    (λ h. (
      record {
        bounded = k.bounded;
        ahead = λ f.
            by_order e.row (e.seen + d)
            (λ l. absurd (eqb-false (e.row - e.seen - d) 0 (sym (k.named h) ∙ f) (omega arith)))
            (λ l. omega (arith, k.changes));
        reached = λ f. omega (arith, eqb-true (e.row - e.seen - d) 0 (sym (k.named h) ∙ f), k.near h, k.changes);
      },
      row_is (omega (arith, k.changes)),
    ))
  where
    row_is : {r : ℕ} → r ≡ e.row - e.seen - d → ◌≡◌ {A = Claim} (record { groups = e.groups; ticket = e.ticket; row = r }) (moved d (claim_of e))
    row_is q = ap (λ (x : ℕ). record { groups = e.groups; ticket = e.ticket; row = x }) q

-- An entry that was in order is as it was after a call that is no head change and does not name it.
still-markable : (t : Turn) (e : Entry) → head_change t ≡ false → Kept e → any (λ k. eqb k e.ticket) t.answer.grants ≡ false → Markable t 0 e
still-markable t e z k n = record {
  changes = rw z refl;
  bounded = k.bounded;
  reached = k.reached;
  near = λ h. omega (arith, k.ahead h);
  named = λ h. n ∙ sym (ne_eqb (e.row - e.seen - 0) 0 (λ q. omega (arith, k.ahead h)));
}

-- The ledger and the table after an accepted call that leaves the entries es, and moves their claims by d rows.
story-marked : (rig : ℕ) (n : Model) (j : ℕ) (t : Turn) (d : ℕ) (es : List Entry) → Invariant n → ((g : ℕ) → within g n.rig ≡ within g rig) → n.issued ≡ j
    → n.pending ≡ map (moved d) (map claim_of es) → Each (Markable t d) es → Story rig (record { issued = j; claims = map (marked t) es }) n
story-marked rig n j t d es i r is q h = record {
  inv = i;
  rigged = r;
  issued = is;
  pending = q ∙ map-map (moved d) claim_of es ∙ map-cong _ _ es (λ e m. sym (marked-kept t d e (h e m)).1) ∙ sym (map-map claim_of (marked t) es);
  kept = map_each Kept (marked t) es (λ e m. (marked-kept t d e (h e m)).0);
}

-- ── one call ──
-- What a call and its step have to tell of the ledger before it, so that ledger and table go on side by side.
abbrev pub StoryGoesOn : ℕ → Ledger → Call → Step → Type 0
StoryGoesOn rig l c s =
    let t : Turn = record { call = c; answer = s.answer } in
    Next rig l t × Story rig (noted l t) s.model

-- All of it but the number.
abbrev Does : ℕ → Ledger → Call → Step → Type 0
Does rig l c s =
    let t : Turn = record { call = c; answer = s.answer } in
    ((g : ℕ) → c ≡ claim g → s.answer.number ≡ 0 → OfClaim l g s.answer) × OfGrants l t × OfReply t × Story rig (noted l t) s.model

module _ (rig : ℕ) (l : Ledger) (m : Model) (s : Story rig l m) where
  -- A refused call changes nothing.
  does-refused : (c : Call) (n : ℕ) → n ≢ 0 → Does rig l c (unchanged m n)
  does-refused c n z = (
    λ g q e. absurd (z e),
    record { grants_ascend = tt; grants_pending = λ k i. none i; refused_none = λ e. refl; change_last = λ h. clash h (rw (ne_eqb n 0 z) refl) },
    record { release_plain = λ k q e. absurd (z e); refused_plain = λ e. record { ticket_is = refl; row_none = refl; contention_none = refl } },
    rw (ne_eqb n 0 z) s,
  )

  -- ── a claim ──
  module _ (g : ℕ) where
    -- The turn, and the entry that it adds.
    abbrev claim-turn : Turn
    claim-turn = record { call = claim g; answer = (admit m g).answer }

    abbrev new-entry : Entry
    new-entry = record { ticket = suc m.issued; groups = g; row = row_for g m.pending; contention = contention g m.pending; held = false; seen = 0 }

    -- It grants at most itself,
    only-itself : (k : ℕ) → k ∈ head_tickets (fresh m g ∷ []) → k ≡ suc m.issued
    only-itself k i = let r = head-e (fresh m g ∷ []) i in sym r.3 ∙ ap ticket_of (Memᴰ.eq_of_singleton r.1)

    -- so no claim that was pending,
    old-markable : (e : Entry) → e ∈ l.claims → Markable claim-turn 0 e
    unfolding admit
    old-markable e i =
        let old = s.inv.issued (claim_of e) (claim-in s.pending i) in
        still-markable claim-turn e refl (s.kept e i)
        (any_false (λ k. eqb k e.ticket) (head_tickets (fresh m g ∷ [])) (λ k j. ne_eqb k e.ticket (λ q. omega (arith, only-itself k j, old.1))))

    -- and itself exactly if it joins the head row.
    new-markable : Markable claim-turn 0 new-entry
    unfolding admit
    new-markable =
        let r : ℕ = row_for g m.pending in
        let same : r ≡ r - 0 - 0 = omega arith in
        record {
          changes = refl;
          bounded = row-bound g m.pending;
          reached = λ h. clash h refl;
          near = λ h. omega arith;
          named = λ h. head-named (fresh m g ∷ []) (λ c i. none i, tt) (fresh m g) here ∙ ap (λ (x : ℕ). eqb x 0) same;
        }

    -- The table with the new claim is the ledger with the new entry.
    joined_is : m.pending ++ (fresh m g ∷ []) ≡ map (moved 0) (map claim_of (l.claims ++ (new-entry ∷ [])))
    joined_is =
        let same : row_for g m.pending ≡ row_for g m.pending - 0 = omega arith in
        ap (λ (ps : List Claim). ps ++ (fresh m g ∷ [])) s.pending
        ∙ ap (λ (r : ℕ). map claim_of l.claims ++ (record { groups = g; ticket = suc m.issued; row = r } ∷ [])) same
        ∙ sym (map-append claim_of l.claims (new-entry ∷ []))
        ∙ sym (moved_none (map claim_of (l.claims ++ (new-entry ∷ []))))

    -- Contention counted in the table is contention counted in the ledger.
    contention-is : contention g m.pending ≡ length (keep (λ e. shares e.groups g) l.claims)
    unfolding contention
    contention-is =
        ap (λ (ps : List Claim). length (keep (rival g) ps)) s.pending ∙ ap length (keep-map (rival g) claim_of l.claims)
        ∙ length-map (keep (λ e. shares e.groups g) l.claims) claim_of

    -- A row of the table is a row of the ledger,
    free-row : (e : Entry) → e ∈ l.claims → row_now e ≡ row_for g m.pending → shares e.groups g ≡ false
    free-row e i q = taken_none g m.pending (row_for g m.pending) (row-joins g m.pending).free (claim_of e) (claim-in s.pending i) q

    -- and so are those before it.
    taken-row : (j : ℕ) → 1 ≤ j → j < row_for g m.pending → (e : Entry) × e ∈ l.claims × (row_now e ≡ j) × (shares e.groups g ≡ true)
    taken-row j a b =
        let c = taken-some g m.pending j ((row-joins g m.pending).first j a b) in
        let e = entry_of l.claims s.pending c.1 in
        (e.0, e.1, sym (ap (λ (x : Claim). x.row) e.2) ∙ c.3, sym (ap (rival g) e.2) ∙ c.2)

    -- The answer of a claim, by the ledger.
    claim-told : OfClaim l g (admit m g).answer
    unfolding admit
    claim-told = record {
      ticket_next = omega (arith, s.issued);
      contention_counted = contention-is;
      row_bounded = row-bound g m.pending;
      row_when_empty = λ e. (row-joins g m.pending).when_empty (s.pending ∙ ap (map claim_of) e);
      row_behind = λ e i. (row-joins g m.pending).behind (λ z. none (subst (λ (ps : List Claim). claim_of e ∈ ps) z (claim-in s.pending i)));
      row_free = free-row;
      row_first = taken-row;
    }

    -- A claim is no release.
    no-release : {A : Type 0} {k : ℕ} → claim g ≡ release k → A
    no-release e = let z : ◌≡◌ {A = ℕ} 0 1 = cc in absurd (omega arith)

    -- So with an accepted claim they go on side by side.
    does-claim : Admissible m g → Does rig l (claim g) (admit m g)
    unfolding admit issues stay
    does-claim a = (
      λ h q e. (let z : g ≡ h = cc in subst (λ (x : ℕ). OfClaim l x (admit m g).answer) z claim-told),
      record {
        grants_ascend = head-ascends (fresh m g ∷ []) (λ c i. none i, tt);
        grants_pending = λ k i. (new-entry, Memᴰ.append_right l.claims here, sym (only-itself k i), refl);
        refused_none = λ n. absurd (n refl);
        change_last = λ h. clash h refl;
      },
      record { release_plain = λ k q. no-release q; refused_plain = λ n. absurd (n refl) },
      story-marked rig (admit m g).model (l.issued + 1) claim-turn 0 (l.claims ++ (new-entry ∷ []))
          (admit-invariant m g s.inv) s.rigged (omega (arith, s.issued)) joined_is
          (snoc-each (Markable claim-turn 0) l.claims new-entry old-markable new-markable),
    )

  -- ── a release ──
  module _ (k : ℕ) (a : Releasable m k) where
    -- What it leaves of the table and of the ledger.
    abbrev rest : List Claim
    rest = lacking k m.pending

    abbrev staying : List Entry
    staying = keep (λ e. not (eqb e.ticket k)) l.claims

    abbrev left : List Entry
    left = staying ++ []

    -- The one is the claims of the other,
    rest-is : rest ≡ map claim_of left
    unfolding lacking
    rest-is =
        ap (keep (λ c. not (named k c))) s.pending ∙ keep-map (λ c. not (named k c)) claim_of l.claims
        ∙ ap (map claim_of) (sym (append-nil staying))

    -- and its entries are in order.
    left-kept : (e : Entry) → e ∈ left → Kept e
    left-kept e i = s.kept e (keep-e (λ e. not (eqb e.ticket k)) l.claims (subst (λ (es : List Entry). e ∈ es) (append-nil staying) i)).0

    -- The release's step and turn, where the claims qs are pending after it and the tickets ks are granted.
    abbrev leaves : List Claim → List ℕ → Step
    leaves qs ks = record {
      model = record { rig = m.rig; issued = m.issued; pending = qs };
      answer = record { number = 0; ticket = k; row = 0; contention = 0; grants = ks };
    }

    abbrev release-turn : List ℕ → Turn
    release-turn ks = record { call = release k; answer = (leaves [] ks).answer }

    -- An entry that waits, left by the release, with ticket j.
    abbrev Waiting : ℕ → Type 0
    Waiting j = (e : Entry) × e ∈ left × (e.ticket ≡ j) × (e.held ≡ false)

    -- A release is no claim.
    no-claim : {A : Type 0} {g : ℕ} → release k ≡ claim g → A
    no-claim e = let z : ◌≡◌ {A = ℕ} 0 1 = cc in absurd (omega arith)

    -- Such a step tells what is asked where its grants ascend and wait, nobody is held that was where there are any, and all that is left
    -- moves by d rows.
    does-left : (d : ℕ) (qs : List Claim) (ks : List ℕ) → Invariant (leaves qs ks).model → qs ≡ map (moved d) (map claim_of left)
        → Each (Markable (release-turn ks) d) left → Ascends (λ (j : ℕ). j) ks → Each Waiting ks
        → (some ks ≡ true → Each (λ e. e.held ≡ false) left) → Does rig l (release k) (leaves qs ks)
    unfolding issues stay
    does-left d qs ks i q h up waiting last = (
      λ g e _. no-claim e,
      record {
        grants_ascend = up;
        grants_pending = waiting;
        refused_none = λ n. absurd (n refl);
        change_last = λ z e j. last z e (subst (λ (es : List Entry). e ∈ es) (sym (append-nil staying)) j);
      },
      record {
        release_plain = λ j e _. record { ticket_is = cc; row_none = refl; contention_none = refl };
        refused_plain = λ n. absurd (n refl);
      },
      story-marked rig (leaves qs ks).model (l.issued + 0) (release-turn ks) d left i s.rigged (omega (arith, s.issued)) q h,
    )

    -- A claim is still in the head row: nothing moves.
    does-stay : Invariant (leaves rest []).model → Does rig l (release k) (leaves rest [])
    unfolding any
    does-stay i =
        does-left 0 rest [] i (rest-is ∙ sym (moved_none (map claim_of left)))
        (λ e j. still-markable (release-turn []) e refl (left-kept e j) refl) tt (λ j q. none q) (λ h. clash h refl)

    -- The head row has emptied: all moves by one row, and the new head row is granted.
    module _ (h : any on rest ≡ false) (i : Invariant (leaves (map nearer rest) []).model) where
      -- What is pending then.
      abbrev next : List Claim
      next = map nearer rest

      -- The claim of each entry was behind the head row,
      behind : {e : Entry} → e ∈ left → 1 ≤ (claim_of e).row
      behind j = behind-head h (claim-in rest-is j)

      -- and is among those that moved.
      next-in : {e : Entry} → e ∈ left → nearer (claim_of e) ∈ next
      next-in j = map-i nearer (claim-in rest-is j)

      -- Where an entry is left a claim stands in the new head row, so that the answer names grants: a head change.
      is-change : {e : Entry} → e ∈ left → some (head_tickets next) ≡ true
      is-change {e} j =
          let c = i.filled (nearer (claim_of e)) (next-in j) 0 (omega arith) (omega arith) in
          some_in (head_tickets next) (head-i c.2 c.1)
        where
          some_in : (ks : List ℕ) {j : ℕ} → j ∈ ks → some ks ≡ true
          some_in [] i = none i
          some_in (j ∷ ks) i = refl

      -- It names an entry exactly if its claim is in the new head row,
      next-markable : (e : Entry) → e ∈ left → Markable (release-turn (head_tickets next)) 1 e
      next-markable e j =
          let k = left-kept e j in
          record {
            changes = rw (is-change j) refl;
            bounded = k.bounded;
            reached = k.reached;
            near = λ o. omega (arith, behind j);
            named = λ o. head-named next i.ascending (nearer (claim_of e)) (next-in j);
          }

      -- all that is left waited,
      next-waits : (e : Entry) → e ∈ left → e.held ≡ false
      next-waits e j = by-test e.held (λ o. absurd (omega (arith, held-row e (left-kept e j) o, behind j))) (λ o. o)

      -- and so did each that it names.
      next-waiting : (j : ℕ) → j ∈ head_tickets next → Waiting j
      next-waiting j q =
          let c = head-e next q in
          let d = map-e nearer rest c.1 in
          let e = entry_of left rest-is d.1 in
          (e.0, e.1, sym (ap ticket_of (d.2 ∙ ap nearer e.2)) ∙ c.3, next-waits e.0 e.1)

      -- So it tells what is asked.
      does_move : Does rig l (release k) (leaves next (head_tickets next))
      does_move =
          does-left 1 next (head_tickets next) i (ap (map nearer) rest-is) next-markable (head-ascends next i.ascending) next-waiting (λ h. next-waits)

    -- So with an accepted release they go on side by side.
    does-release : Does rig l (release k) (remove m k)
    unfolding remove
    does-release =
        turned-cases (λ qs ks. Invariant (leaves qs []).model → Does rig l (release k) (leaves qs ks)) rest
        (λ h. does-stay) does_move (remove-invariant m k a s.inv)

  -- ── the number ──
  -- Some claim of the table passes where some entry of the ledger does.
  any_entry : (p : Claim → Bool) (q : Entry → Bool) → Each (λ e. p (claim_of e) ≡ q e) l.claims → any p m.pending ≡ any q l.claims
  any_entry p q h = ap (any p) s.pending ∙ any-map p claim_of l.claims ∙ any-cong (λ e. p (claim_of e)) q l.claims h

  -- An entry is held exactly if its claim is on,
  on-held : (e : Entry) → e ∈ l.claims → on (claim_of e) ≡ e.held
  on-held e i = both_ways (on (claim_of e)) e.held (λ z. row-held e (s.kept e i) (eqb-true _ _ z)) (λ h. eq-eqb _ _ (held-row e (s.kept e i) h))

  -- so the table's tests are the ledger's.
  tests-told : (c : Call) → tests m c ≡ tests_of rig l c
  unfolding tests tests_of
  tests-told (claim g) =
      let n : length m.pending ≡ length l.claims = ap length s.pending ∙ length-map l.claims claim_of in
      rw (s.rigged g, n, s.issued)
  tests-told (release k) =
      rw (
        any_entry (named k) (entry.named k) (λ e i. refl),
        any_entry (λ c. named k c && not (on c)) (λ e. entry.named k e && not e.held) (λ e i. ap (λ (b : Bool). named k (claim_of e) && not b) (on-held e i)),
      )

  -- So with every call of the rules.
  pub told : (c : Call) → StoryGoesOn rig l c (step m c)
  told c =
      let d = step-cases (Does rig l) m does-refused does-claim does-release c in
      (record { number_tested = step-number m c ∙ ap first_number (tests-told c); claim_answered = d.0; granted = d.1; replied = d.2 }, d.3)

-- ── the run ──
-- A new table, and the ledger before any call.
pub story-new : (rig : ℕ) → Story rig opening (new rig).model
unfolding empty some_from
story-new rig = new-cases (λ (s : Step). Story rig opening s.model) rig (λ e. blank-story 0 (λ g. within_none g 0 rig refl e)) (λ e. blank-story rig (λ g. refl))
  where
    blank-story : (r : ℕ) → ((g : ℕ) → within g r ≡ within g rig) → Story rig opening (blank r)
    blank-story r h = record { inv = blank-invariant r; rigged = h; issued = refl; pending = refl; kept = λ e i. none i }

-- Calls that are run by any `run` whose steps tell that.
module _ (run : Steps) (tells : (rig : ℕ) (l : Ledger) (m : Model) → Story rig l m → (c : Call) → StoryGoesOn rig l c (run m c)) where
  -- After a list of calls,
  pub story-after : (cs : List Call) (rig : ℕ) (l : Ledger) (m : Model) → Story rig l m → Story rig (noted_all l (turns run m cs)) (table_after run m cs)
  unfolding turns table_after noted_all
  story-after [] rig l m s = s
  story-after (c ∷ cs) rig l m s = story-after cs rig _ (run m c).model (tells rig l m s c).1

  -- and from a new table.
  pub story-of : (rig : ℕ) (cs : List Call) → Story rig (ledger_of (turns run (new rig).model cs)) (table_after run (new rig).model cs)
  story-of rig cs = story-after cs _ opening (new rig).model (story-new rig)

  -- So the request's words hold of every list of calls.
  pub bounded-wait-of : (rig : ℕ) (calls : List Call) → BoundedWaitOf run rig calls
  bounded-wait-of rig calls = record {
    at_any_time = λ before rest e. now_of _ _ _ (story-of rig before);
    at_any_call = λ before c rest e. (tells _ _ _ (story-of rig before) c).0;
  }

-- Request P2 of the rules, whole.
pub bounded-wait : (rig : ℕ) (calls : List Call) → BoundedWait rig calls
bounded-wait = bounded-wait-of step told

-- A new table's number.
pub new-tested : NewTested
unfolding first_number
new-tested rig = new-cases (λ (s : Step). NewNumber rig s.answer.number) rig (λ e. rw e) (λ e. rw e)

-- The rules' own name for the table after a list of calls.
pub table-after : (m : Model) (cs : List Call) → table_after step m cs ≡ after m cs
unfolding table_after after
table-after m [] = refl
table-after m (c ∷ cs) = table-after (step m c).model cs
