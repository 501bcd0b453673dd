-- A release: its tests by the place of the ticket's claim, what is left without that place, and the head change.
use Rattle.std.proofs.Common.{◌≡◌, ◌≢◌, refl, sym, ◌∙◌, ap, ℕ, zero, suc, ◌+◌, arith, Bool, true, false, not, ◌&&◌, List, [], ◌∷◌, ◌++◌, map, ◌≤◌, ◌<◌, nat_lt, length, get_or, set, take, drop, remove, position, append_assoc, append-nil, drop-cons, add-one, length-append}
use Rattle.std.specs.List.{list_any, filter, position_or_len}
use Rattle.std.proofs.Common.{Option, Some, None}
use Rattle.std.proofs.lemmas.List.Quantifiers.{position-Some}
use lib.ListN.{length-map, length-set, drop_of_length-le}
use borrow.Author.Tests.{eqb-true, eq-eqb, ne_eqb, lt-ltb}
use Rattle.rules.specs.Lists.{◌∈◌, any, keep, Ascends}
use Rattle.rules.specs.Tests.{first_number}
use Rattle.rules.proofs.Bools.{by-test, clash}
use Rattle.rules.proofs.Lists.{Each, here, there, any-i, any_false, ascends_same, keep-length}
use Rattle.frames.specs.declared.Claim.{Claim}
use Rattle.frames.proofs.Rows.{turned-cases}
use Rattle.frames.specs.Rows.{on, named, head_tickets, turned, turned_on, nearer}
use Rattle.frames.specs.Calls.{Model, release, tests, lacking}
use Rattle.frames.specs.Invariants.{ticket_of}
use Rattle.frames.specs.Vacant.{vacant}

-- ── tests ──
-- The test of a list by std's word and by ours.
pub any_is : {A : Type 0} (p : A → Bool) (l : List A) → list_any p l ≡ any p l
unfolding any
any_is p [] = refl
any_is p (x ∷ l) = by-test (p x) (λ e. rw e) (λ e. rw e (any_is p l))

-- The elements that pass a test by std's word and by ours.
pub kept_is : {A : Type 0} (p : A → Bool) (l : List A) → filter p l ≡ keep p l
unfolding keep
kept_is p [] = refl
kept_is p (x ∷ l) = by-test (p x) (λ e. rw (e, kept_is p l)) (λ e. rw (e, kept_is p l))

-- Without a ticket that no claim has they are all there.
lacking-none : (k : ℕ) (ps : List Claim) → Each (λ c. c.ticket ≢ k) ps → lacking k ps ≡ ps
unfolding lacking keep
lacking-none k [] h = refl
lacking-none k (c ∷ ps) h = rw (ne_eqb c.ticket k (h c here)) (ap (λ (l : List Claim). c ∷ l) (lacking-none k ps (λ d i. h d (there i))))

-- The element at a place.
get-in : (ps : List Claim) (i : ℕ) → i < length ps → get_or ps i vacant ∈ ps
get-in [] i h = absurd (omega arith)
get-in (c ∷ ps) zero h = here
get-in (c ∷ ps) (suc i) h = there (get-in ps i (omega arith))

-- Without the place of the ticket's claim the others are left.
pub removed-is : (k : ℕ) (ps : List Claim) (i : ℕ) → Ascends ticket_of ps → i < length ps → (get_or ps i vacant).ticket ≡ k → remove ps i ≡ lacking k ps
unfolding lacking keep
removed-is k [] i a h e = absurd (omega arith)
removed-is k (c ∷ ps) zero a h e = rw (eq-eqb c.ticket k e) (sym (lacking-none k ps (λ d j q. omega (arith, a.0 d j))))
removed-is k (c ∷ ps) (suc i) a h e =
    let l : i < length ps = omega arith in
    rw (ne_eqb c.ticket k (λ q. omega (arith, a.0 _ (get-in ps i l)))) (ap (λ (l : List Claim). c ∷ l) (removed-is k ps i a.1 l e))

-- A test that some element passes has a first one;
placed : {A : Type 0} (p : A → Bool) (l : List A) → any p l ≡ true → position_or_len p l < length l
unfolding any
placed p [] e = clash e refl
placed p (x ∷ l) e = by-test (p x) (λ q. rw q (omega arith)) (λ q. let h = placed p l (rw q at e) in rw q (omega (arith, h)))

-- where there is none, no element passes.
no-place : {A : Type 0} (p : A → Bool) (l : List A) → position p l ≡ None → any p l ≡ false
no-place p l e = by-test (any p l) (λ q. let h = placed p l q in let t : nat_lt (position_or_len p l) (length l) ≡ true = lt-ltb _ _ h in absurd (cc (rw t at e))) (λ q. q)

-- ── the tests of a release, by the place of its claim ──
module _ (m : Model) (k : ℕ) (a : Ascends ticket_of m.pending) (r : Option ℕ) (p : r ≡ position (named k) m.pending) where
  -- There is none.
  pub not-pending : r ≡ None → 8 ≡ first_number (tests m (release k))
  unfolding tests first_number
  not-pending e = rw (no-place (named k) m.pending (sym p ∙ e))

  -- There is one.
  module _ (i : ℕ) (e : r ≡ Some i) where
    found : (i < length m.pending) × (named k (get_or m.pending i vacant) ≡ true) × ((j : ℕ) → j < i → named k (get_or m.pending j vacant) ≡ false)
    found = position-Some (named k) m.pending i vacant (sym p ∙ e)

    pub in-range : i < length m.pending
    in-range = found.0

    -- Without it the others are left.
    pub left-is : (i < length m.pending) × (remove m.pending i ≡ lacking k m.pending)
    left-is = (found.0, removed-is k m.pending i a found.0 (eqb-true _ k found.1))

    -- The claim there is pending,
    pending : any (named k) m.pending ≡ true
    pending = any-i (named k) found.1 (get-in m.pending i found.0)

    module _ (c : Claim) (q : c ≡ get_or m.pending i vacant) where
      c-in : c ∈ m.pending
      c-in = rw q (get-in m.pending i found.0)

      c-named : named k c ≡ true
      c-named = rw q found.1

      -- and no other has its ticket. It waits,
      pub waits-there : on c ≡ false → 9 ≡ first_number (tests m (release k))
      unfolding tests first_number
      waits-there o =
          let w : any (λ d. named k d && not (on d)) m.pending ≡ true = any-i (λ d. named k d && not (on d)) (rw (c-named, o)) c-in in
          rw (pending, w)

      -- or is on.
      pub on-there : on c ≡ true → 0 ≡ first_number (tests m (release k))
      unfolding tests first_number
      on-there o =
          let w : any (λ d. named k d && not (on d)) m.pending ≡ false = any_false (λ d. named k d && not (on d)) m.pending other in
          rw (pending, w)
        where
          other : (d : Claim) → d ∈ m.pending → named k d && not (on d) ≡ false
          other d j = by-test (named k d)
              (λ z. let s = ascends_same ticket_of m.pending a d c j c-in (eqb-true d.ticket k z ∙ sym (eqb-true c.ticket k c-named)) in rw (z, s, o))
              (λ z. rw z)

-- ── head changes ──
-- Some claim is on: nothing changes,
pub stays_on : (ps : List Claim) → true ≡ list_any on ps → ps ≡ turned ps
stays_on ps e = turned-cases (λ qs ks. ps ≡ qs) ps (λ q. refl) (λ q. clash (sym (any_is on ps) ∙ sym e) q)

-- and nobody is granted.
pub none_granted : (ps : List Claim) (ks : List ℕ) → ks ≡ [] → true ≡ list_any on ps → ks ≡ turned_on ps
none_granted ps ks n e = n ∙ turned-cases (λ qs ks. [] ≡ ks) ps (λ q. refl) (λ q. clash (sym (any_is on ps) ∙ sym e) q)

-- None is: every claim comes a row nearer, and the new head row is granted.
moves-on : (ps : List Claim) → false ≡ list_any on ps → (turned ps ≡ map nearer ps) × (turned_on ps ≡ head_tickets (map nearer ps))
moves-on ps e = turned-cases (λ qs ks. (qs ≡ map nearer ps) × (ks ≡ head_tickets (map nearer ps))) ps (λ q. clash q (sym (any_is on ps) ∙ sym e)) (λ q. (refl, refl))

-- The first i claims have come nearer, and then the next.
abbrev moved : List Claim → ℕ → List Claim
moved ps i = map nearer (take i ps) ++ drop i ps

moved-here : (ps : List Claim) (i : ℕ) → i < length ps → get_or (moved ps i) i vacant ≡ get_or ps i vacant
moved-here [] i h = absurd (omega arith)
moved-here (c ∷ ps) zero h = refl
moved-here (c ∷ ps) (suc i) h = moved-here ps i (omega arith)

moved-next : (ps : List Claim) (i : ℕ) → i < length ps → set (moved ps i) i (nearer (get_or ps i vacant)) ≡ moved ps (suc i)
moved-next [] i h = absurd (omega arith)
moved-next (c ∷ ps) zero h = refl
moved-next (c ∷ ps) (suc i) h = ap (λ (l : List Claim). nearer c ∷ l) (moved-next ps i (omega arith))

-- The row as it is then.
pub record Moving (ps : List Claim) (i : ℕ) (l : List Claim) : Type 0 where
  pub is : l ≡ moved ps i
  pub keeps : length l ≡ length ps

pub moving-start : (ps : List Claim) → Moving ps 0 ps
moving-start ps = record { is = refl; keeps = refl }

pub moving-more : {ps l l' : List Claim} {i : ℕ} {d n : Claim} → Moving ps i l → i < length ps → d ≡ get_or l i vacant → n ≡ nearer d → l' ≡ set l i n → Moving ps (i + 1) l'
moving-more {ps} {l} {l'} {i} {d} {n} w h p e q =
    let g : get_or l i vacant ≡ get_or ps i vacant = ap (λ (x : List Claim). get_or x i vacant) w.is ∙ moved-here ps i h in
    record {
      is = rw add-one (q ∙ ap (set l i) (e ∙ ap nearer (p ∙ g)) ∙ ap (λ (x : List Claim). set x i (nearer (get_or ps i vacant))) w.is ∙ moved-next ps i h);
      keeps = ap length q ∙ length-set l i n ∙ w.keeps;
    }

-- All have.
moved-all : (ps : List Claim) (i : ℕ) → length ps ≤ i → moved ps i ≡ map nearer ps
moved-all [] zero h = refl
moved-all [] (suc i) h = refl
moved-all (c ∷ ps) zero h = absurd (omega arith)
moved-all (c ∷ ps) (suc i) h = ap (λ (l : List Claim). nearer c ∷ l) (moved-all ps i (omega arith))

pub moving-end : {ps l : List Claim} {i : ℕ} → Moving ps i l → length ps ≤ i → false ≡ list_any on ps → (l ≡ turned ps) × (head_tickets l ≡ turned_on ps)
moving-end {ps} {l} {i} w h e =
    let t = moves-on ps e in
    let q : l ≡ map nearer ps = w.is ∙ moved-all ps i h in
    (q ∙ sym t.0, ap head_tickets q ∙ sym t.1)

-- ── the tickets of the head row ──
-- Those found so far, and those of the claims behind.
abbrev pub Granting : List Claim → ℕ → List ℕ → Type 0
Granting ps i ks = ks ++ head_tickets (drop i ps) ≡ head_tickets ps

head-few : (ps : List Claim) → length (head_tickets ps) ≤ length ps
unfolding head_tickets
head-few ps = omega (arith, length-map (keep on ps) ticket_of, keep-length on ps)

module _ (ps : List Claim) (i : ℕ) (ks : List ℕ) (w : Granting ps i ks) (h : i < length ps) (c : Claim) (q : c ≡ get_or ps i vacant) where
  next : drop i ps ≡ c ∷ drop (i + 1) ps
  next = rw (q, add-one) (drop-cons ps i vacant h)

  -- A claim in the head row gives its ticket,
  pub grant-more : on c ≡ true → Granting ps (i + 1) (ks ++ c.ticket ∷ [])
  unfolding head_tickets keep
  grant-more o = append_assoc ks (c.ticket ∷ []) (head_tickets (drop (i + 1) ps)) ∙ (rw (next, o) at w)

  pub grant-few : on c ≡ true → length ps ≤ 64 → length ks < 64
  grant-few o f = omega (arith, ap length (grant-more o), length-append (ks ++ c.ticket ∷ []) (head_tickets (drop (i + 1) ps)), length-append ks (c.ticket ∷ []), head-few ps)

  -- and another does not.
  pub grant-none : on c ≡ false → Granting ps (i + 1) ks
  unfolding head_tickets keep
  grant-none o = rw (next, o) at w

pub grant-end : (ps : List Claim) (i : ℕ) (ks : List ℕ) → Granting ps i ks → length ps ≤ i → ks ≡ head_tickets ps
unfolding head_tickets keep
grant-end ps i ks w h =
    let z : drop i ps ≡ [] = drop_of_length-le ps h in
    sym (append-nil ks) ∙ (rw z at w)
