-- The chains of the rules (`model-chained`), said of the ledger; and that nothing else may be told.
use mathlib.Core.Path.{◌≡◌, refl, sym, ◌∙◌, ap, subst}
use mathlib.Core.Logic.{◌≢◌, ⊎_elim}
use mathlib.Core.List.Memᴰ
use mathlib.Core.List.{List, [], ◌∷◌, map}
use Prim.Native.Nat.{ℕ, ◌+◌}
use native.Mathlib.Omega.{arith}
use borrow.Author.Tests.{eqb-true, eqb-false}
use Rattle.rules.specs.declared.Claim.{Claim}
use Rattle.rules.specs.declared.Standing.TheVariants.{Waits}
use Rattle.rules.specs.Lists.{◌∈◌, any, Distinct}
use Rattle.rules.specs.Claims.{on, at}
use Rattle.rules.specs.Order.{meets}
use Rattle.rules.specs.Calls.{Model, setting_of, at_ticket, at_chain, Call, step}
use Rattle.rules.specs.Chains.{counts_as as claimCountsAs, chain_tickets, TrueLink, TrueChain, adds}
use Rattle.rules.proofs.Bools.{by-test, by_order}
use Rattle.rules.proofs.Lists.{here, there, none, any_none, any_some, ascends_same}
use Rattle.rules.proofs.Lookup.{lookup-holds}
use Rattle.rules.proofs.Chains.{chain-absent, chain_held, chain-told, model-chained}
use Rattle.promises.specs.Ledger.{Entry, promised, has_ticket, Ledger}
use Rattle.promises.specs.Runs.{Told, tells, Start, Begins, ledger_after, told_after}
use Rattle.promises.specs.Plan.{end_as, end_told}
use Rattle.promises.specs.WaitsExplained.{in_common}
use Rattle.promises.specs.Demand3.{Now}
use Rattle.promises.specs.ChainsTold.{counts_as, LinkTold, Followed, adds_as, adds_told, chain_of_entries, ChainTold, Chains, ChainsTold}
use Rattle.promises.proofs.Matching.{Match, m_nil, m-cons, match-sum, partner, partner-of}
use Rattle.promises.proofs.Demand3.{Tracks, Story, after-calls, demand_3}
use Rattle.promises.proofs.WaitsExplained.{common-is}
use Rattle.promises.proofs.Plan.{waits-once, waits-not-on, standing_on, standing-wait, told_is, waits-at, end-as, end_is}

-- ── the table's chains are the ledger's ──
tickets-are : {P : Type 0} {cs : List Claim} {es : List Entry} → Match (Tracks P) cs es → map (λ (c : Claim). c.ticket) cs ≡ map (λ (e : Entry). e.ticket) es
tickets-are m_nil = refl
tickets-are (m-cons r m) = rw (r.ticket, tickets-are m)

once_is : {P : Type 0} {cs : List Claim} {es : List Entry} → Match (Tracks P) cs es → Distinct (λ (c : Claim). c.ticket) cs → Distinct (λ (e : Entry). e.ticket) es
once_is m_nil d = tt
once_is (m-cons r m) d = (λ e i q. (let p = partner m i in d.0 p.0 p.1 (r.ticket ∙ q ∙ sym p.2.ticket)), once_is m d.1)

module _ (P : Type 0) (l : Ledger) (m : Model) (st : Story P l m) where
  -- What two claims have in common, one of them looking for its link.
  link-common : (c w : Claim) (e f : Entry) → Tracks P c e → Tracks P w f → meets c (claimCountsAs m.pending w) ≡ in_common e (counts_as l.claims f)
  unfolding claimCountsAs
  link-common c w e f r t = common-is P c w e f r t

  link-is : (c w : Claim) (e f : Entry) → c ∈ m.pending → Tracks P c e → e ∈ l.claims → Tracks P w f → TrueLink (setting_of m) m.pending c w → LinkTold l (tells m) f (at w) e
  link-is c w e f ci r ei t h = record {
    pending = ei;
    common = sym (link-common c w e f r t) ∙ h.common;
    ends = end_is P l m st c e ci r ∙ h.ends;
    lowest = λ d di less shared ends.
        let p = partner st.match di in
        omega (
          arith,
          h.lowest p.0 p.1 (sym (end_is P l m st p.0 d p.1 p.2) ∙ ends) (link-common p.0 w d f p.2 t ∙ shared),
          p.2.ticket,
          r.ticket,
          less,
        );
  }

  -- The entries of claims of the table.
  record Entries (cs : List Claim) : Type 0 where
    entries : List Entry
    pending : (e : Entry) → e ∈ entries → e ∈ l.claims
    match : Match (Tracks P) cs entries

  entries-of : (cs : List Claim) → ((c : Claim) → c ∈ cs → c ∈ m.pending) → Entries cs
  entries-of [] h = record { entries = []; pending = λ e i. none i; match = m_nil }
  entries-of (c ∷ cs) h =
      let p = partner-of st.match (h c here) in
      let r = entries-of cs (λ d i. h d (there i)) in
      record {
        entries = p.0 ∷ r.entries;
        pending = λ e i. ⊎_elim (λ q. subst (λ (x : Entry). x ∈ l.claims) (sym q) p.1) (r.pending e) (Memᴰ.cases_cons i);
        match = m-cons p.2 r.match;
      }

  followed-is : (w : Claim) (f : Entry) → w ∈ m.pending → Tracks P w f → {cs : List Claim} {es : List Entry} → Match (Tracks P) cs es
      → ((c : Claim) → c ∈ cs → c ∈ m.pending) → ((e : Entry) → e ∈ es → e ∈ l.claims) → TrueChain (setting_of m) m.pending (w ∷ cs) → Followed l (tells m) f es
  followed-is w f wi t m_nil hc he h = (at w + w.length, told_is P l m st w f wi t ∙ standing_on w h)
  followed-is w f wi t (m-cons {x} {y} r ma) hc he h = (
    at w,
    told_is P l m st w f wi t ∙ standing-wait w h.0,
    link-is x w y f (hc x here) r (he y here) t h.1,
    followed-is x y (hc x here) r ma (λ c i. hc c (there i)) (λ e i. he e (there i)) h.2,
  )

  adds-is : (c : Claim) (e : Entry) → c ∈ m.pending → Tracks P c e → adds (setting_of m) c ≡ adds_told l (tells m) e
  adds-is c e i r =
      by-test (on c)
      (λ o. rw o (sym (ap (adds_as l e) (told_is P l m st c e i r ∙ standing_on c o) ∙ sym (ap (end_as l e) (standing_on c o)) ∙ end-as P l m st c e r.length)))
      (λ o. rw o (r.length ∙ sym (ap (adds_as l e) (told_is P l m st c e i r ∙ standing-wait c o))))

  chain-of : (f : Entry) → f ∈ l.claims → (s : ℕ) → tells m (at_ticket f.ticket) ≡ Waits s → ChainTold l (tells m) f s
  chain-of f i s q =
      let b = partner st.match i in
      let o = waits-at P l m st b.0 f b.1 b.2 s q in
      let c = model-chained m st.inv b.0 b.1 o.0 in
      let x = c.2 in
      let r = entries-of c.0 (λ d j. x.pending d (there j)) in
      record {
        behind = r.entries;
        pending = r.pending;
        itself_first = ap (λ (k : ℕ). tells m (at_chain k)) (sym b.2.ticket)
            ∙ chain-told (setting_of m) m.pending st.inv.spaced.ascending b.0 b.1 o.0 ∙ ap chain_tickets c.1
            ∙ ap (λ (ks : List ℕ). record { number = 0; tickets = ks }) (tickets-are (m-cons b.2 r.match));
        followed = followed-is b.0 f b.1 b.2 r.match (λ d j. x.pending d (there j)) r.pending x.linked;
        makes = sym (match-sum (adds (setting_of m)) (adds_told l (tells m)) (λ d e j t. adds-is d e (x.pending d (there j)) t) r.match) ∙ x.makes ∙ o.1;
        once = once_is (m-cons b.2 r.match) x.once;
      }

  chains-of : Chains l (tells m)
  chains-of = record {
    waiting = chain-of;
    unknown = λ k h. chain-absent (setting_of m) k m.pending (λ c i q. (let p = partner-of st.match i in h p.0 p.1 (sym p.2.ticket ∙ q)));
    held = λ e i p q.
        let c = lookup-holds e.ticket p m.pending q in
        ap (λ (k : ℕ). tells m (at_chain k)) (sym c.2) ∙ chain_held (setting_of m) m.pending st.inv.spaced.ascending c.0 c.1 c.3;
  }

-- ── and no others ──
module _ (l : Ledger) (told other : Told) (now : Now l told) (same : (k : ℕ) → other (at_ticket k) ≡ told (at_ticket k)) where
  ends_same : (e : Entry) → end_told l other e ≡ end_told l told e
  ends_same e = ap (end_as l e) (same e.ticket)

  link-same : (f : Entry) (s : ℕ) (d e : Entry) → LinkTold l other f s d → LinkTold l told f s e → d ≡ e
  link-same f s d e p q =
      ascends_same (λ (x : Entry). x.ticket) l.claims now.tickets_ascend d e p.pending q.pending
      (by_order e.ticket d.ticket
      (λ h. by_order d.ticket e.ticket (λ k. omega arith) (λ k. absurd (p.lowest e q.pending k q.common (ends_same e ∙ q.ends))))
      (λ h. absurd (q.lowest d p.pending h p.common (sym (ends_same d) ∙ p.ends))))

  followed_same : (f : Entry) (ds es : List Entry) → Followed l other f ds → Followed l told f es → ds ≡ es
  followed_same f [] [] p q = refl
  followed_same f [] (e ∷ es) p q = absurd (waits-not-on q.0 p.0 (sym q.1 ∙ sym (same f.ticket) ∙ p.1))
  followed_same f (d ∷ ds) [] p q = absurd (waits-not-on p.0 q.0 (sym p.1 ∙ same f.ticket ∙ q.1))
  followed_same f (d ∷ ds) (e ∷ es) p q =
      let s : p.0 ≡ q.0 = waits-once p.0 q.0 (sym p.1 ∙ same f.ticket ∙ q.1) in
      let x : d ≡ e = link-same f q.0 d e (subst (λ (n : ℕ). LinkTold l other f n d) s p.2) q.2 in
      let y : ds ≡ es = followed_same e ds es (subst (λ (n : Entry). Followed l other n ds) x p.3) q.3 in
      cc (x, y)

  chain_same : Chains l told → Chains l other → (k : ℕ) → other (at_chain k) ≡ told (at_chain k)
  chain_same a b k =
      by-test (any (has_ticket k) l.claims)
      (λ h.
      let r = any_some (has_ticket k) l.claims h in
      let q = eqb-true r.0.ticket k r.2 in
      subst (λ (j : ℕ). other (at_chain j) ≡ told (at_chain j)) q (pending r.0 r.1))
      (λ h.
      let others : (e : Entry) → e ∈ l.claims → e.ticket ≢ k = λ e i. eqb-false e.ticket k (any_none (has_ticket k) h i) in
      b.unknown k others ∙ sym (a.unknown k others))
    where
      pending : (e : Entry) → e ∈ l.claims → other (at_chain e.ticket) ≡ told (at_chain e.ticket)
      pending e i =
          by-test e.held
          (λ h.
          let t = (now.lookup_agrees e.ticket).held e i refl h in
          b.held e i (promised e) (same e.ticket ∙ t) ∙ sym (a.held e i (promised e) t))
          (λ h.
          let w = (now.lookup_agrees e.ticket).waiting e i refl h in
          let x = b.waiting e i w.0 (same e.ticket ∙ w.1) in
          let y = a.waiting e i w.0 w.1 in
          x.itself_first ∙ ap (λ (es : List Entry). chain_of_entries (e ∷ es)) (followed_same e x.behind y.behind x.followed y.followed) ∙ sym y.itself_first)

pub chains_told : (s : Start) → Begins s → (calls : List Call) → ChainsTold s calls
chains_told s b calls = record {
  at_any_time = λ before rest e. chains-of _ _ _ (after-calls s b before);
  no_other = λ before rest e other same c k.
      chain_same (ledger_after step s before) (told_after step s before) other ((demand_3 s b calls).at_any_time before rest e) same (chains-of _ _ _ (after-calls s b before)) c k;
}
