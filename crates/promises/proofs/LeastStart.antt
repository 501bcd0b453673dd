-- The start of an accepted claim is the least that fits beside the others, as ledger and lookups tell them: what fits beside them in the table
-- that the first packing gave fits beside them after the call, and the other way round.
use mathlib.Core.Path.{◌≡◌, refl, sym, ◌∙◌, ap, subst}
use mathlib.Core.Logic.{inl, inr, ◌≢◌}
use mathlib.Core.Bool.{not}
use mathlib.Core.List.Memᴰ
use mathlib.Core.List.{List, [], ◌∷◌, ◌++◌}
use Prim.Native.Nat.{ℕ, suc, ◌≤◌}
use native.Mathlib.Omega.{arith}
use borrow.Author.Tests.{eq-eqb, ne_eqb}
use Rattle.groups.specs.Groups.{shares}
use Rattle.rules.specs.declared.Claim.{Claim}
use Rattle.rules.specs.declared.Request.{Request}
use Rattle.rules.specs.declared.Setting.{Setting}
use Rattle.rules.specs.Lists.{◌∈◌, keep}
use Rattle.rules.specs.Claims.{on, at, rival, end_of}
use Rattle.rules.specs.Granting.{goes, granted, grant}
use Rattle.rules.specs.Plans.{Room, Fits}
use Rattle.rules.specs.Pool.{used}
use Rattle.rules.specs.Tests.{named}
use Rattle.rules.specs.Invariants.{Invariant, Settled}
use Rattle.rules.specs.Calls.{Model, ruled, setting_of, Call, claim, standing, is_timed, is_look, Step, advance, plain, finish, join, admit, step}
use Rattle.rules.proofs.Bools.{clash, by-test}
use Rattle.rules.proofs.Lists.{map-e, map-i, keep_snoc, keep_all}
use Rattle.rules.proofs.Granting.{granted-cases, granted-ticket, goes-at, end-granted, granted-go, granted-stay, grant-uses}
use Rattle.rules.proofs.Calls.{Admissible, advance-packed, finish-invariant, advance-e, clock-accepted, Leaves, by-release, by-withdraw, by-clock, Idle, step-cases}
use Rattle.promises.specs.Ledger.{Turn, turns, table_after, Ledger, Entry, lacking, noted, noted_all, NoOverrun}
use Rattle.promises.specs.Runs.{tells, Start, Begins}
use Rattle.promises.specs.Plan.{end_told, planned_use}
use Rattle.promises.specs.WholeCalls.{ClaimCall}
use Rattle.promises.specs.LeastStart.{RoomTold, FitsBeside, LeastOf, Least, LeastStart}
use Rattle.promises.proofs.Matching.{Match, partner, partner-of}
use Rattle.promises.proofs.WholeCalls.{claim-whole, clocked-is}
use Rattle.promises.proofs.Demand3.{Tracks, Story, match-lacking, same-claim, story-after, after-calls}
use Rattle.promises.proofs.StartsPacked.{packed-of}
use Rattle.promises.proofs.Plan.{told_is, waits-at, end_is, use-is, standing-wait}

module _ (Q : Type 0) (l : Ledger) (m : Model) (i : Invariant m) (t : ℕ) (ask : Request) (a : Admissible m t ask) (st : Story Q l (admit (advance m t) ask).model) where
  abbrev n : Model
  n = (admit (advance m t) ask).model

  abbrev ps : List Claim
  ps = (advance m t).pending

  -- The ticket of the new claim.
  abbrev k : ℕ
  k = suc m.issued

  whole : ClaimCall step m t ask (admit (advance m t) ask)
  whole = claim-whole m i t ask a

  same-rules : setting_of n ≡ ruled m t
  unfolding admit finish join advance
  same-rules = refl

  next-ticket : (admit (advance m t) ask).answer.ticket ≡ k
  unfolding admit finish join advance
  next-ticket = refl

  -- The others after the call, and theirs in the ledger.
  all-is : n.pending ≡ grant (ruled m t) ps ++ (whole.new ∷ [])
  all-is =
      whole.others_same ∙ ap (λ (s : Step). s.model.pending ++ (whole.new ∷ [])) (clock-accepted m t a.clocked)
      ∙ ap (λ (x : List Claim). x ++ (whole.new ∷ [])) (clocked-is m i t)

  old : (c : Claim) → c ∈ ps → c.ticket ≢ k
  old c ci e = let z = advance-e m t ci in omega (arith, z.2, (i.spaced.proper z.0 z.1).issued)

  others-are : keep (λ c. not (named k c)) n.pending ≡ grant (ruled m t) ps
  unfolding grant
  others-are =
      ap (keep (λ c. not (named k c))) all-is
      ∙ keep_snoc (λ c. not (named k c)) (grant (ruled m t) ps) whole.new (rw (eq-eqb whole.new.ticket k (whole.ticket ∙ next-ticket)))
      ∙ keep_all (λ c. not (named k c)) (grant (ruled m t) ps) (λ d di.
      let r = map-e (granted (ruled m t) ps) ps di in
      rw (ne_eqb d.ticket k (λ e. old r.0 r.1 (sym (granted-ticket (ruled m t) ps r.0) ∙ sym (ap (λ (x : Claim). x.ticket) r.2) ∙ e))))

  matched : Match (Tracks Q) (grant (ruled m t) ps) (lacking k l.claims)
  matched = subst (λ (x : List Claim). Match (Tracks Q) x (lacking k l.claims)) others-are (match-lacking Q k st.match)

  pending : (d : Claim) → d ∈ grant (ruled m t) ps → d ∈ n.pending
  pending d di = subst (λ (x : List Claim). d ∈ x) (sym all-is) (Memᴰ.append_left _ di)

  -- ── a claim that the first packing gave, and its entry ──
  abbrev after : Claim → Claim
  after c = granted (ruled m t) ps c

  Of : Claim → Entry → Type 0
  Of c e = after c ∈ n.pending × Tracks Q (after c) e

  entry_of : (c : Claim) → c ∈ ps → (e : Entry) × e ∈ lacking k l.claims × Of c e
  unfolding grant Of
  entry_of c ci = let j = map-i (granted (ruled m t) ps) ci in let r = partner-of matched j in (r.0, r.1, (pending (after c) j, r.2))

  claim-of : (e : Entry) → e ∈ lacking k l.claims → (c : Claim) × c ∈ ps × Of c e
  unfolding grant Of
  claim-of e ei =
      let r = partner matched ei in
      let c = map-e (granted (ruled m t) ps) ps r.1 in
      (c.0, c.1, (subst (λ (x : Claim). x ∈ n.pending) c.2 (pending r.0 r.1), subst (λ (x : Claim). Tracks Q x e) c.2 r.2))

  end_same : (c : Claim) (e : Entry) → Of c e → end_told l (tells n) e ≡ end_of (ruled m t) c
  unfolding Of
  end_same c e r =
      end_is Q l n st (after c) e r.0 r.1 ∙ ap (λ (v : Setting). end_of v (after c)) same-rules
      ∙ granted-cases (λ (x : Claim). end_of (ruled m t) x ≡ end_of (ruled m t) c) (ruled m t) ps c (end-granted (ruled m t) ps c) (λ g. refl)

  shared_same : (c : Claim) (e : Entry) → Of c e → shares e.asked.groups ask.groups ≡ rival c whole.new
  unfolding Of
  shared_same c e r =
      ap (λ (g : ℕ). shares g ask.groups) (sym r.1.groups) ∙ ap (shares (after c).groups) (sym whole.groups)
      ∙ (granted-cases (λ (x : Claim). rival x whole.new ≡ rival c whole.new) (ruled m t) ps c (λ g. refl) (λ g. refl))

  -- Room in the plan as it is told, and in the table.
  room-told : (x : ℕ) → t ≤ x → (c : Claim) (e : Entry) → Of c e → Room (ruled m t) whole.new x c → RoomTold l (tells n) ask x e
  unfolding Of
  room-told x h c e r (inl z) = inl (omega (arith, end_same c e r))
  room-told x h c e r (inr z) =
      by-test (goes (ruled m t) ps c)
      (λ g. absurd (omega (arith, goes-at (ruled m t) ps c g, z.1, whole.length, a.long)))
      (λ g.
      let same : after c ≡ c = granted-stay (ruled m t) ps c g in
      inr (at c, told_is Q l n st (after c) e r.0 r.1 ∙ ap standing same ∙ standing-wait c z.0, omega (arith, z.1, whole.length)))

  room_of : (x : ℕ) → (c : Claim) (e : Entry) → Of c e → RoomTold l (tells n) ask x e → Room (ruled m t) whole.new x c
  unfolding Of
  room_of x c e r (inl z) = inl (omega (arith, end_same c e r))
  room_of x c e r (inr z) =
      let w = waits-at Q l n st (after c) e r.0 r.1 z.0 z.1 in
      by-test (goes (ruled m t) ps c)
      (λ g. clash (ap on (granted-go (ruled m t) ps c g)) w.0)
      (λ g.
      let same : after c ≡ c = granted-stay (ruled m t) ps c g in
      inr (sym (ap on same) ∙ w.0, omega (arith, ap at same, w.1, z.2, whole.length)))

  use-same : (y : ℕ) → t ≤ y → planned_use l (tells n) y (lacking k l.claims) ≡ used (ruled m t) y ps
  use-same y h =
      sym (use-is Q l n st y (grant (ruled m t) ps) (lacking k l.claims) pending matched) ∙ ap (λ (v : Setting). used v y (grant (ruled m t) ps)) same-rules
      ∙ grant-uses (ruled m t) ps y h

  pool-same : l.pool ≡ m.pool
  unfolding admit finish join advance
  pool-same = sym st.pool

  fits_told : (x : ℕ) → t ≤ x → Fits (ruled m t) ps whole.new x → FitsBeside l (tells n) (lacking k l.claims) ask x
  fits_told x h f = record {
    room = λ e ei z.
        let c = claim-of e ei in
        room-told x h c.0 e c.2 (f.room c.0 c.1 (sym (shared_same c.0 e c.2) ∙ z));
    spare = λ z y p q. omega (arith, f.spare (omega (arith, whole.units, z)) y p (omega (arith, whole.length, q)), use-same y (omega (arith, h, p)), whole.units, pool-same);
  }

  fits-of : (x : ℕ) → t ≤ x → FitsBeside l (tells n) (lacking k l.claims) ask x → Fits (ruled m t) ps whole.new x
  fits-of x h f = record {
    room = λ c ci z.
        let e = entry_of c ci in
        room_of x c e.0 e.2 (f.room e.0 e.1 (shared_same c e.0 e.2 ∙ z));
    spare = λ z y p q. omega (arith, f.spare (omega (arith, whole.units, z)) y p (omega (arith, whole.length, q)), use-same y (omega (arith, h, p)), whole.units, pool-same);
  }

  settled : Settled m.issued (setting_of n) (grant (ruled m t) ps)
  unfolding admit finish join advance
  settled = subst (Settled m.issued (ruled m t)) (clocked-is m i t) (finish-invariant (advance m t) (plain 0 t) (advance-packed m t i a.clocked.later).spaced)

  least-of : LeastOf l (tells n) t ask (admit (advance m t) ask).answer
  least-of = record {
    from_clock = whole.from_clock;
    fits = rw next-ticket (fits_told _ whole.from_clock whole.fits);
    least = λ x h f. whole.least x h (fits-of x h (rw next-ticket at f));
    others_packed = rw next-ticket (packed-of Q l n st (grant (ruled m t) ps) (lacking k l.claims) matched pending m.issued settled);
  }

-- Of a call and its step, where the ledger after it is that of the table after it.
abbrev LeastIn : Type 0 → Ledger → Model → Call → Step → Type 0
LeastIn P l m c s =
    let t : Turn = record { call = c; answer = s.answer } in
    Story (P × (NoOverrun l t × Unit {0})) (noted l t) s.model → Least l t (tells m) (tells s.model)

no-claim : {A : Type 0} {m : Model} {c : Call} {t k : ℕ} {q : Model} {u : ℕ} {ask : Request} → Leaves m c t k q → c ≡ claim u ask → A
no-claim (by-release t k) e = let z : ◌≡◌ {A = ℕ} 0 1 = cc in absurd (omega arith)
no-claim (by-withdraw t k) e = let z : ◌≡◌ {A = ℕ} 0 1 = cc in absurd (omega arith)
no-claim (by-clock t) e = let z : ◌≡◌ {A = ℕ} 0 1 = cc in absurd (omega arith)

idle : (c : Call) (k : ℕ) → Idle c k → (u : ℕ) (ask : Request) → c ≡ claim u ask → k ≡ 0 → ⊥
idle c k (inl e) u ask q z = clash e (ap is_look q)
idle c k (inr e) u ask q z = e z

least-in : (P : Type 0) (l : Ledger) (m : Model) → Invariant m → (c : Call) → LeastIn P l m c (step m c)
least-in P l m i =
    step-cases (LeastIn P l m) m
    (λ c k z st u ask q n. absurd (idle c k z u ask q n))
    (λ t ask a st u x q n. same-claim
    (λ v y. LeastOf (noted l (record { call = claim t ask; answer = (admit (advance m t) ask).answer })) (tells (admit (advance m t) ask).model) v y (admit (advance m t) ask).answer)
    t u ask x q (least-of _ _ m i t ask a st))
    (λ c t k q o v st u ask e n. no-claim v e)
    (λ c r k d st u ask e n. clash (ap is_timed e) refl)
    (λ k d st u ask e n. clash (ap is_timed e) refl)

pub least_start : (s : Start) → Begins s → (calls : List Call) → LeastStart s calls
unfolding turns table_after noted_all
least_start s b calls before c rest e =
    let st = after-calls s b before in
    least-in _ (noted_all s.ledger (turns step s.table before)) (table_after step s.table before) st.inv c
    (story-after (c ∷ []) _ _ _ st)
