-- With client 1 alone a claim is tested as in document 01, in every table that a run without declarations makes.
use mathlib.Core.Path.{◌≡◌, refl, sym, ◌∙◌, ap, subst}
use mathlib.Core.Logic.{◌⊎◌, inl, inr, ◌≢◌}
use mathlib.Core.Bool.{true, false, not}
use mathlib.Core.List.{List, [], ◌∷◌}
use Prim.Native.Nat.{ℕ}
use native.Mathlib.Omega.{arith}
use Rattle.std.proofs.Common.{Option, is_some}
use lib.ListN.{length, length-map}
use borrow.Author.Tests.{le-ltb}
use Rattle.numbers.specs.Numbers.{over_number}
use Rattle.rules.specs.declared.Claim.{Claim}
use Rattle.rules.specs.declared.Request.{Request}
use Rattle.rules.specs.declared.Share.{Share}
use Rattle.rules.specs.Lists.{◌∈◌}
use Rattle.rules.specs.Shares.{share_of}
use Rattle.rules.specs.Tests.{first_number, late, backward, stranger, nothing_asked, off_rig, spots, bad_length, full, ticketless}
use Rattle.rules.specs.Calls.{Model, clients_of, full_to, over_of, Call, claim, tests, Step, plain, advance, finish, admit, step, new, after}
use Rattle.rules.specs.OneClient.{DeclaresNone, CallDeclaresNone, documented_tests, pooled_tests, Alone, TestsAsEver}
use Rattle.rules.proofs.Bools.{by-test, clash, same?}
use Rattle.rules.proofs.Lists.{none, snoc-each, map-e, map-i}
use Rattle.rules.proofs.Tests.{front, skipped, stops, swapped, never}
use Rattle.rules.proofs.Shares.{alone-full, alone-over, alone-stranger}
use Rattle.rules.proofs.NoUnits.{undrawn-dark}
use Rattle.rules.proofs.Calls.{Admissible, step-number, Leaves, leaves-old, step-cases, new-cases}
use Rattle.rules.proofs.Booking.{advance-clients, finish-clients, admit-clients, admit-shares, finish-shares, leaves-shares}

-- ── a table of client 1 alone ──
clients-own : (ps : List Claim) → ((c : Claim) → c ∈ ps → c.client ≡ 1) → (k : ℕ) → k ∈ clients_of ps → k ≡ 1
clients-own ps h k i = let r = map-e (λ (c : Claim). c.client) ps i in r.2 ∙ h r.0 r.1

module _ (m : Model) (a : Alone m) (t : ℕ) (ask : Request) where
  abbrev ks : List ℕ
  ks = clients_of m.pending

  known : ask.client ≡ 1 → (stranger (share_of m.shares ask.client)).fails ≡ false
  unfolding share_of
  known e = rw (e, a.declared)

  full_is : ask.client ≡ 1 → (full_to m ask.client).fails ≡ (full (length m.pending)).fails
  full_is e =
      rw (e, a.declared, sym (length-map m.pending (λ (c : Claim). c.client))) (alone-full ks (clients-own m.pending a.own))

  over-is : ask.client ≡ 1 → (full (length m.pending)).fails ≡ false → (over_of m ask.client).fails ≡ false
  over-is e h =
      rw (e, a.declared) (alone-over ks (clients-own m.pending a.own) (ap (λ n. (full n).fails) (length-map m.pending (λ (c : Claim). c.client)) ∙ h))

  tail : ask.client ≡ 1 → first_number (full_to m ask.client ∷ over_of m ask.client ∷ ticketless m.issued ∷ []) ≡ first_number (full (length m.pending) ∷ ticketless m.issued ∷ [])
  tail e =
      by-test (full (length m.pending)).fails
      (λ q. swapped (full_to m ask.client) (full (length m.pending)) _ (full_is e) refl ∙ stops (full (length m.pending)) _ _ q)
      (λ q. swapped (full_to m ask.client) (full (length m.pending)) _ (full_is e) refl ∙ front (full (length m.pending)) _ _ (skipped (over_of m ask.client) _ (over-is e q)))

  as-pooled : ask.client ≡ 1 → first_number (tests m (claim t ask)) ≡ first_number (pooled_tests m t ask)
  unfolding tests
  as-pooled e =
      front (late t) _ _ (front (backward m.clock t) _ _ (skipped (stranger (share_of m.shares ask.client)) _ (known e)
      ∙ front (nothing_asked ask.groups ask.units) _ _ (front (off_rig m.rig ask.groups) _ _ (front (spots m.pool ask.units) _ _ (front (bad_length ask.length) _ _ (tail e))))))

  -- All seven tests are document 01's.
  pub tests-documented : ask.client ≡ 1 → ask.units ≡ 0 → first_number (tests m (claim t ask)) ≡ first_number (documented_tests m t ask)
  tests-documented e z =
      as-pooled e
      ∙ front (late t) _ _ (front (backward m.clock t) _ _ (swapped (nothing_asked ask.groups ask.units) _ _ (undrawn-dark ask z) refl
      ∙ front _ _ _ (front (off_rig m.rig ask.groups) _ _ (skipped (spots m.pool ask.units) _ (le-ltb m.pool ask.units (omega arith))))))

  -- Any other client is a stranger.
  turned-away : ask.client ≢ 1 → first_number (tests m (claim t ask)) ≡ first_number (late t ∷ backward m.clock t ∷ stranger (share_of m.shares ask.client) ∷ [])
  unfolding tests
  turned-away ne =
      front (late t) _ _ (front (backward m.clock t) _ _ (stops (stranger (share_of m.shares ask.client)) _ []
      (ap (λ (ss : List (Option Share)). not (is_some (share_of ss ask.client))) a.declared ∙ ap not (alone-stranger ask.client ne))))

  first-not-over : (ask.client ≡ 1) ⊎ (ask.client ≢ 1) → first_number (tests m (claim t ask)) ≢ over_number
  first-not-over (inl e) q =
      never over_number (pooled_tests m t ask)
      (inr (λ z. omega arith), (inr (λ z. omega arith), (inr (λ z. omega arith), (inr (λ z. omega arith), (inr (λ z. omega arith), (inr (λ z. omega arith), (inr (λ z. omega arith), (inr (λ z. omega arith), λ z. omega arith))))))))
      (sym (as-pooled e) ∙ q)
  first-not-over (inr e) q =
      never over_number (late t ∷ backward m.clock t ∷ stranger (share_of m.shares ask.client) ∷ [])
      (inr (λ z. omega arith), (inr (λ z. omega arith), (inr (λ z. omega arith), λ z. omega arith))) (sym (turned-away e) ∙ q)

pub tests-as-ever : (m : Model) → Alone m → TestsAsEver m
tests-as-ever m a = record {
  pooled = λ t ask e. as-pooled m a t ask e;
  documented = λ t ask e z. tests-documented m a t ask e z;
  never_over = λ t ask q. first-not-over m a t ask (same? ask.client 1) (sym (step-number m (claim t ask)) ∙ q);
}

-- ── a run ──
step-alone : (m : Model) (c : Call) → ((step m c).answer.number ≡ 0 → CallDeclaresNone c) → Alone m → Alone (step m c).model
step-alone m c d a =
    step-cases (λ c s. (s.answer.number ≡ 0 → CallDeclaresNone c) → Alone s.model) m (λ c n z d. a)
    (λ t ask p d. record { declared = admit-shares m t ask ∙ a.declared; own = of-clients _ (admitted t ask p) })
    (λ c t k q o v d. record { declared = finish-shares q (plain k t) ∙ leaves-shares v ∙ a.declared; own = of-clients _ (left c t k q v) })
    (λ c r l e d. absurd (d refl)) (λ n e d. record { declared = a.declared; own = a.own }) c d
  where
    of-clients : (ps : List Claim) → ((k : ℕ) → k ∈ clients_of ps → k ≡ 1) → (c : Claim) → c ∈ ps → c.client ≡ 1
    of-clients ps h c i = h c.client (map-i (λ (c : Claim). c.client) i)

    one : (k : ℕ) → is_some (share_of m.shares k) ≡ true → (k ≡ 1) ⊎ (k ≢ 1) → k ≡ 1
    one k e (inl q) = q
    one k e (inr q) = clash e (ap (λ (ss : List (Option Share)). is_some (share_of ss k)) a.declared ∙ alone-stranger k q)

    admitted : (t : ℕ) (ask : Request) → Admissible m t ask → (k : ℕ) → k ∈ clients_of (admit (advance m t) ask).model.pending → k ≡ 1
    admitted t ask p k i =
        snoc-each (λ (k : ℕ). k ≡ 1) (clients_of m.pending) ask.client (clients-own m.pending a.own) (one ask.client p.known (same? ask.client 1))
        k (subst (λ (ks : List ℕ). k ∈ ks) (admit-clients m t ask) i)

    left : (c : Call) (t k : ℕ) (q : Model) → Leaves m c t k q → (j : ℕ) → j ∈ clients_of (finish q (plain k t)).model.pending → j ≡ 1
    left c t k q v j i =
        let r = map-e (λ (c : Claim). c.client) q.pending (subst (λ (ks : List ℕ). j ∈ ks) (finish-clients q (plain k t)) i) in
        let y = map-i (λ (c : Claim). c.client) (leaves-old v r.0 r.1) in
        r.2 ∙ clients-own m.pending a.own r.0.client (subst (λ (ks : List ℕ). r.0.client ∈ ks) (advance-clients m t) y)

pub after-alone : (m : Model) (cs : List Call) → DeclaresNone m cs → Alone m → Alone (after m cs)
unfolding after
after-alone m [] d a = a
after-alone m (c ∷ cs) d a = after-alone (step m c).model cs d.1 (step-alone m c d.0 a)

new-alone : (g k : ℕ) → Alone (new g k true).model
new-alone g k =
    new-cases (λ (s : Step). Alone s.model) g k true (λ e. record { declared = refl; own = λ c i. none i }) (λ e. record { declared = refl; own = λ c i. none i })

-- After any calls by which nobody is declared.
pub alone-as-ever : (g k : ℕ) (cs : List Call) → DeclaresNone (new g k true).model cs → TestsAsEver (after (new g k true).model cs)
alone-as-ever g k cs d = tests-as-ever _ (after-alone (new g k true).model cs d (new-alone g k))
