-- Blocking chains: every waiting claim has a link, so it has a chain (`chains`), and no other chain of true links begins with it (`chain-only`).
-- A chain is used through its equations `chain-on` and `chain-waits`, and by induction along it, `by_chain`.
use mathlib.Core.Path.{◌≡◌, refl, sym, ◌∙◌, ap, subst}
use mathlib.Core.Logic.{⊎_elim, ◌≢◌}
use mathlib.Core.Bool.{Bool, true, false, ◌&&◌}
use mathlib.Core.List.Memᴰ
use mathlib.Core.List.{List, [], ◌∷◌}
use Prim.Native.Nat.{ℕ, zero, suc, ◌≤◌, ◌<◌}
use native.Mathlib.Omega.{arith}
use lib.Dec.{leb, eqb}
use lib.ListN.{length, length-map}
use borrow.Author.Tests.{eqb-true, eqb-false, eq-eqb, ne_eqb, le-leb, lt-leb, leb-true}
use Rattle.numbers.specs.Numbers.{unknown_number, already_on_number}
use Rattle.rules.specs.declared.Claim.{Claim}
use Rattle.rules.specs.declared.Setting.{Setting}
use Rattle.rules.specs.Lists.{◌∈◌, sum, any, keep, Distinct}
use Rattle.rules.specs.Claims.{on, at, end_of}
use Rattle.rules.specs.Order.{meets}
use Rattle.rules.specs.Plans.{Ascending, HeldUp}
use Rattle.rules.specs.Invariants.{Settled, Invariant}
use Rattle.rules.specs.Tests.{first_number, named, unknown, already_on}
use Rattle.rules.specs.Calls.{Model, setting_of, at_chain, looks, tests, step}
use Rattle.rules.specs.Chains.{counts_as, links, link, chain_within, chain, ChainValues, chain_refused, chain_tickets, chain_of, TrueLink, TrueChain, adds, Chained}
use Rattle.rules.proofs.Bools.{and_l, and_r, and_i, clash, by-test}
use Rattle.rules.proofs.Lists.{Each, none, any-i, any_none, any_false, any_some, first-e, ascends-first, keep-lt, keep-length}
use Rattle.rules.proofs.Claims.{end-wait, end_ge}
use Rattle.rules.proofs.Order.{ascending-same}
use Rattle.rules.proofs.Lookup.{none_named, one-named, look-number}

-- ── links ──
pub links-e : (v : Setting) (ps : List Claim) (c w : Claim) → links v ps c w ≡ true → (end_of v c ≡ at w) × (meets c (counts_as ps w) ≡ true)
unfolding links
links-e v ps c w h = (eqb-true _ _ (and_l (eqb (end_of v c) (at w)) _ h), and_r (eqb (end_of v c) (at w)) _ h)

pub links-i : (v : Setting) (ps : List Claim) (c w : Claim) → end_of v c ≡ at w → meets c (counts_as ps w) ≡ true → links v ps c w ≡ true
unfolding links
links-i v ps c w e h = and_i (eqb (end_of v c) (at w)) _ (eq-eqb _ _ e) h

-- What holds a claim up is linked to.
held-up-links : (v : Setting) (ps : List Claim) (w : Claim) → HeldUp v ps w → (c : Claim) × c ∈ ps × (links v ps c w ≡ true)
unfolding counts_as
held-up-links v ps w h = (h.0, h.1, links-i v ps h.0 w h.3 h.2)

-- A chain ends at a claim that is on.
pub chain-on : (v : Setting) (ps : List Claim) (w : Claim) → on w ≡ true → chain v ps w ≡ w ∷ []
unfolding chain chain_within
chain-on v ps w o = rw (o, chain_within)

-- ── what lookup tells ──
pub chain-absent : (v : Setting) (k : ℕ) (ps : List Claim) → Each (λ c. c.ticket ≢ k) ps → chain_of v k ps ≡ chain_refused unknown_number
unfolding chain_of
chain-absent v k ps h = rw (none_named k ps h) refl

pub chain_held : (v : Setting) (ps : List Claim) → Ascending ps → (c : Claim) → c ∈ ps → on c ≡ true → chain_of v c.ticket ps ≡ chain_refused already_on_number
unfolding chain_of
chain_held v ps a c m o = rw (one-named ps a c m, o) refl

pub chain-told : (v : Setting) (ps : List Claim) → Ascending ps → (w : Claim) → w ∈ ps → on w ≡ false → chain_of v w.ticket ps ≡ chain_tickets (chain v ps w)
unfolding chain_of
chain-told v ps a w m o = rw (one-named ps a w m, o) refl

-- The three cases.
pub chain-cases : (P : ChainValues → Type 0) (v : Setting) (k : ℕ) (ps : List Claim) → Ascending ps
    → (Each (λ c. c.ticket ≢ k) ps → P (chain_refused unknown_number))
    → ((c : Claim) → c ∈ ps → c.ticket ≡ k → on c ≡ true → P (chain_refused already_on_number))
    → ((w : Claim) → w ∈ ps → w.ticket ≡ k → on w ≡ false → P (chain_tickets (chain v ps w)))
    → P (chain_of v k ps)
chain-cases P v k ps a f g h =
    by-test (any (named k) ps)
    (λ e.
    let r = any_some (named k) ps e in
    let q = eqb-true r.0.ticket k r.2 in
    subst (λ (j : ℕ). P (chain_of v j ps)) q
    (by-test (on r.0)
    (λ o. rw (chain_held v ps a r.0 r.1 o) (g r.0 r.1 q o))
    (λ o. rw (chain-told v ps a r.0 r.1 o) (h r.0 r.1 q o))))
    (λ e.
    let others : Each (λ c. c.ticket ≢ k) ps = λ c m. eqb-false c.ticket k (any_none (named k) e m) in
    rw (chain-absent v k ps others) (f others))

-- Its number is that of the tests of a withdrawal, 8 and 10.
pub chain-number : (v : Setting) (k : ℕ) (ps : List Claim) → Ascending ps → (chain_of v k ps).number ≡ first_number (unknown (named k) ps ∷ already_on (named k) on ps ∷ [])
unfolding first_number
chain-number v k ps a =
    chain-cases (λ r. r.number ≡ first_number (unknown (named k) ps ∷ already_on (named k) on ps ∷ [])) v k ps a
    (λ h. rw (any_false (named k) ps (λ c m. ne_eqb c.ticket k (h c m))) refl)
    (λ c m e o.
    let n = eq-eqb c.ticket k e in
    rw (any-i (named k) n m, any-i (λ d. named k d && on d) (and_i (named k c) _ n o) m) refl)
    (λ w m e o. rw (any-i (named k) (eq-eqb w.ticket k e) m, any_false (λ d. named k d && on d) ps (waits w m e o)) refl)
  where
    waits : (w : Claim) → w ∈ ps → w.ticket ≡ k → on w ≡ false → (d : Claim) → d ∈ ps → (named k d && on d) ≡ false
    waits w m e o d i =
        by-test (named k d)
        (λ n. rw n (ap on (ascending-same ps a d w i m (eqb-true d.ticket k n ∙ sym e)) ∙ o))
        (λ n. rw n refl)

-- So it is the number that this lookup answers as a call of a run.
pub chain-answer : (m : Model) (k : ℕ) → Ascending m.pending → (chain_of (setting_of m) k m.pending).number ≡ (step m (looks (at_chain k))).answer.number
unfolding tests
chain-answer m k a = chain-number (setting_of m) k m.pending a ∙ sym (look-number m (at_chain k))

-- With nothing pending every ticket is told 8.
pub chain-none : (v : Setting) (k : ℕ) → chain_of v k [] ≡ chain_refused unknown_number
chain-none v k = chain-absent v k [] (λ c i. none i)

-- ── in a settled table ──
module _ (k : ℕ) (v : Setting) (ps : List Claim) (settled : Settled k v ps) where
  -- Every waiting claim has a link.
  pub link-true : (w : Claim) → w ∈ ps → on w ≡ false → TrueLink v ps (link v ps w) w
  unfolding link
  link-true w m o =
      let h = held-up-links v ps w (settled.blocked w m o) in
      let r = first-e (λ c. links v ps c w) w h.2 h.1 in
      let e = links-e v ps (link v ps w) w r.1 in
      record {
        pending = r.0;
        ends = e.0;
        common = e.1;
        lowest = λ d i p q. ascends-first (λ (c : Claim). c.ticket) (λ c. links v ps c w) w settled.spaced.ascending (links-i v ps d w p q) i;
      }

  -- A claim starts before its end, so the link of w starts before w does.
  starts_first : (c : Claim) → c ∈ ps → at c < end_of v c
  starts_first c m =
      let l = (settled.spaced.proper c m).sane.long in
      by-test (on c) (λ o. omega (arith, end_ge v c o)) (λ o. omega (arith, end-wait v c o))

  pub link-sooner : (w : Claim) → w ∈ ps → on w ≡ false → at (link v ps w) < at w
  link-sooner w m o = let t = link-true w m o in omega (arith, starts_first (link v ps w) t.pending, t.ends)

  -- ── chains ──
  -- Numbers that are large enough give the same chain.
  enough : (i j : ℕ) (w : Claim) → w ∈ ps → at w < i → at w < j → chain_within i v ps w ≡ chain_within j v ps w
  unfolding chain_within
  enough zero j w m p q = absurd (omega arith)
  enough (suc i) zero w m p q = absurd (omega arith)
  enough (suc i) (suc j) w m p q =
      by-test (on w)
      (λ o. rw (o, chain_within))
      (λ o.
      let l = link-sooner w m o in
      rw (o, chain_within) (ap (λ (r : List Claim). w ∷ r) (enough i j (link v ps w) (link-true w m o).pending (omega arith) (omega arith))))

  -- The rule: a waiting claim, then the chain of its link.
  pub chain-waits : (w : Claim) → w ∈ ps → on w ≡ false → chain v ps w ≡ w ∷ chain v ps (link v ps w)
  unfolding chain chain_within
  chain-waits w m o =
      rw (o, chain_within) (ap (λ (r : List Claim). w ∷ r) (enough (at w) (suc (at (link v ps w))) (link v ps w) (link-true w m o).pending (link-sooner w m o) (omega arith)))

  -- Induction along the chain.
  pub by_chain : (P : Claim → List Claim → Type 0)
      → ((c : Claim) → c ∈ ps → on c ≡ true → P c (c ∷ []))
      → ((w c : Claim) → w ∈ ps → on w ≡ false → TrueLink v ps c w → P c (chain v ps c) → P w (w ∷ chain v ps c))
      → (w : Claim) → w ∈ ps → P w (chain v ps w)
  by_chain P h g w m = go (suc (at w)) w m (omega arith)
    where
      go : (j : ℕ) (w : Claim) → w ∈ ps → at w < j → P w (chain v ps w)
      go zero w m l = absurd (omega arith)
      go (suc j) w m l =
          by-test (on w)
          (λ o. rw (chain-on v ps w o) (h w m o))
          (λ o.
          let t = link-true w m o in
          let s = link-sooner w m o in
          rw (chain-waits w m o) (g w (link v ps w) m o t (go j (link v ps w) t.pending (omega arith))))

  -- ── what holds of it ──
  -- It begins with the claim, and each link is true.
  pub chain-true : (w : Claim) → w ∈ ps → (l : List Claim) × (chain v ps w ≡ w ∷ l) × TrueChain v ps (w ∷ l)
  chain-true =
      by_chain (λ w r. (l : List Claim) × (r ≡ w ∷ l) × TrueChain v ps (w ∷ l))
      (λ c m o. ([], refl, o))
      (λ w c m o t h. (c ∷ h.0, ap (λ (r : List Claim). w ∷ r) h.1, (o, t, h.2)))

  -- What its claims add is the end of its first.
  pub chain-adds : (w : Claim) → w ∈ ps → sum (adds v) (chain v ps w) ≡ end_of v w
  unfolding sum
  chain-adds =
      by_chain (λ w r. sum (adds v) r ≡ end_of v w)
      (λ c m o. rw o (omega arith))
      (λ w c m o t h. rw o (omega (arith, t.ends, end-wait v w o)))

  -- Its claims are pending, and end no later than its first. Those behind a waiting claim end by its start.
  Along : Claim → Claim → Type 0
  Along w c = c ∈ ps × (end_of v c ≤ end_of v w)

  chain-along : (w : Claim) → w ∈ ps → Each (Along w) (chain v ps w)
  unfolding Along
  chain-along =
      by_chain (λ w r. Each (Along w) r)
      (λ c m o x i. ⊎_elim (λ e. rw e (m, omega arith)) none (Memᴰ.cases_cons i))
      (λ w c m o t h x i.
      ⊎_elim (λ e. rw e (m, omega arith)) (λ j. ((h x j).0, omega (arith, (h x j).1, t.ends, end-wait v w o))) (Memᴰ.cases_cons i))

  pub chain-pending : (w : Claim) → w ∈ ps → Each (λ c. c ∈ ps) (chain v ps w)
  unfolding Along
  chain-pending w m c i = (chain-along w m c i).0

  pub chain-once : (w : Claim) → w ∈ ps → Distinct (λ (c : Claim). c.ticket) (chain v ps w)
  unfolding Along
  chain-once =
      by_chain (λ w r. Distinct (λ (c : Claim). c.ticket) r)
      (λ c m o. (λ x i. none i, tt))
      (λ w c m o t h. (other w c m o t, h))
    where
      other : (w c : Claim) → w ∈ ps → on w ≡ false → TrueLink v ps c w → (x : Claim) → x ∈ chain v ps c → w.ticket ≢ x.ticket
      other w c m o t x i e =
          let a = chain-along c t.pending x i in
          let same = ascending-same ps settled.spaced.ascending w x m a.0 e in
          omega (arith, ap (end_of v) same, a.1, t.ends, starts_first w m)

  -- No more claims are in it than end no later than its first.
  ends_by : Claim → Claim → Bool
  ends_by w c = leb (end_of v c) (end_of v w)

  chain-few : (w : Claim) → w ∈ ps → length (chain v ps w) ≤ length (keep (ends_by w) ps)
  unfolding ends_by
  chain-few =
      by_chain (λ w r. length r ≤ length (keep (ends_by w) ps))
      (λ c m o. omega (arith, keep-lt (λ x. false) (ends_by c) m refl (itself c) (λ x i q. clash q refl)))
      (λ w c m o t h.
      let l : end_of v c < end_of v w = omega (arith, t.ends, starts_first w m) in
      omega (arith, h, keep-lt (ends_by c) (ends_by w) m (lt-leb _ _ l) (itself w) (λ x i q. later c w x l q)))
    where
      itself : (w : Claim) → ends_by w w ≡ true
      itself w = le-leb (end_of v w) (end_of v w) (omega arith)

      later : (c w x : Claim) → end_of v c < end_of v w → ends_by c x ≡ true → ends_by w x ≡ true
      later c w x l q = le-leb (end_of v x) (end_of v w) (omega (arith, leb-true (end_of v x) (end_of v c) q))

  pub chain_length : (w : Claim) → w ∈ ps → length (chain v ps w) ≤ length ps
  chain_length w m = omega (arith, chain-few w m, keep-length (ends_by w) ps)

  -- All of it, of every waiting claim.
  pub chains : Chained v ps
  unfolding sum
  chains w m o =
      let r = chain-true w m in
      let e = r.1 in (
        r.0,
        e,
        record {
          linked = r.2;
          makes = omega (arith, rw (e, o) at (chain-adds w m), end-wait v w o);
          once = rw e at (chain-once w m);
          pending = rw e at (chain-pending w m);
          few = rw e at (chain_length w m);
        },
      )

  -- What lookup tells has no more tickets than there are pending claims.
  pub told-length : (j : ℕ) → length (chain_of v j ps).tickets ≤ length ps
  told-length j =
      chain-cases (λ r. length r.tickets ≤ length ps) v j ps settled.spaced.ascending
      (λ h. omega arith) (λ c m e o. omega arith) (λ w m e o. omega (arith, chain_length w m, length-map (chain v ps w) (λ (c : Claim). c.ticket)))

  -- A claim has one link, and one chain.
  pub link-only : (c d w : Claim) → TrueLink v ps c w → TrueLink v ps d w → c ≡ d
  link-only c d w s t =
      ascending-same ps settled.spaced.ascending c d s.pending t.pending
      (omega (arith, s.lowest d t.pending t.ends t.common, t.lowest c s.pending s.ends s.common))

  pub chain-only : (w : Claim) (l : List Claim) → w ∈ ps → TrueChain v ps (w ∷ l) → chain v ps w ≡ w ∷ l
  chain-only w [] m o = chain-on v ps w o
  chain-only w (c ∷ l) m t =
      let e = link-only (link v ps w) c w (link-true w m t.0) t.1 in
      chain-waits w m t.0 ∙ ap (λ (r : List Claim). w ∷ r) (ap (chain v ps) e ∙ chain-only c l t.1.pending t.2)

-- In every table that calls can make.
pub model-chained : (m : Model) → Invariant m → Chained (setting_of m) m.pending
model-chained m inv = chains m.issued (setting_of m) m.pending inv
