-- Starts that packing gave are packed by ledger and lookups: those before it tell the turn, those after it the starts.
use mathlib.Core.Path.{◌≡◌, refl, sym, ◌∙◌, ap, subst}
use mathlib.Core.Logic.{inl, inr}
use mathlib.Core.Bool.{true, false, ◌||◌, cond}
use mathlib.Core.List.{List}
use Prim.Native.Nat.{ℕ, ◌≤◌}
use native.Mathlib.Omega.{arith}
use lib.Dec.{leb}
use borrow.Author.Tests.{le-leb}
use Rattle.groups.specs.Groups.{shares}
use Rattle.rules.specs.declared.Claim.{Claim}
use Rattle.rules.specs.declared.Phase.TheVariants.{On}
use Rattle.rules.specs.declared.Setting.{Setting}
use Rattle.rules.specs.declared.Standing.TheVariants.{Waits}
use Rattle.rules.specs.Lists.{◌∈◌, keep}
use Rattle.rules.specs.Claims.{on, at, with_phase, rival, end_of}
use Rattle.rules.specs.Order.{before}
use Rattle.rules.specs.Packing.{moved, ahead, MayStart, Packs}
use Rattle.rules.specs.Pool.{covers, units_at, used}
use Rattle.rules.specs.Calls.{Model, setting_of, at_ticket, standing, standing_of}
use Rattle.rules.proofs.Lists.{keep-e, keep-i, sum-map}
use Rattle.rules.proofs.Claims.{end-wait, end-no-overrun}
use Rattle.rules.proofs.Order.{precedes-before, before-precedes, precedes-conflicts}
use Rattle.rules.proofs.Packing.{moved-cases, moved_at, moved-phase, moved-ticket, moved-units}
use Rattle.rules.proofs.Lookup.{lookup-found}
use Rattle.promises.specs.Ledger.{Entry, Ledger}
use Rattle.promises.specs.Runs.{tells}
use Rattle.promises.specs.Plan.{end_as, end_told, begins_as, covers_told, planned_use, ahead_told}
use Rattle.promises.specs.WholeCalls.{Stays}
use Rattle.promises.specs.StartsPacked.{BehindTold, PackedBehind}
use Rattle.promises.specs.PackedInTurn.{start_after}
use Rattle.promises.proofs.Matching.{Match, match-sum, partner, partner-of}
use Rattle.promises.proofs.Demand3.{Tracks, Story}
use Rattle.promises.proofs.Plan.{standing-wait, begins-is, end-as, waits-at, ahead-match}

-- A claim x that packing gave, and d, which it is after the call.
module _ (v : Setting) (x d : Claim) (h : Stays v.clock x d) where
  stays-as : {A : Type 0} (f : Claim → A) → f (with_phase x (On v.clock)) ≡ f x → f d ≡ f x
  stays-as {A} f same = go h
    where
      go : Stays v.clock x d → f d ≡ f x
      go (inl e) = ap f e
      go (inr e) = ap f e.2 ∙ same

  stays-end : end_of v d ≡ end_of v x
  stays-end = go h
    where
      go : Stays v.clock x d → end_of v d ≡ end_of v x
      go (inl e) = ap (end_of v) e
      go (inr e) = ap (end_of v) e.2 ∙ omega (arith, end-no-overrun v (with_phase x (On v.clock)) refl (omega arith), end-wait v x e.0, e.1)

  -- Where it begins, for a time that is not below the clock.
  stays-begins : (y : ℕ) → v.clock ≤ y → leb (begins_as (standing d)) y ≡ (on x || leb (at x) y)
  stays-begins y l = go h
    where
      go : Stays v.clock x d → leb (begins_as (standing d)) y ≡ (on x || leb (at x) y)
      go (inl e) = ap (λ (c : Claim). leb (begins_as (standing c)) y) e ∙ begins-is x y
      go (inr e) = ap (λ (c : Claim). leb (begins_as (standing c)) y) e.2 ∙ le-leb 0 y (omega arith) ∙ rw (e.0, le-leb (at x) y (omega (arith, e.1)))

  -- And the start that it has.
  stays-start : on x ≡ false → start_after v.clock (standing d) ≡ at x
  stays-start o = go h
    where
      go : Stays v.clock x d → start_after v.clock (standing d) ≡ at x
      go (inl e) = ap (λ (c : Claim). start_after v.clock (standing c)) e ∙ ap (start_after v.clock) (standing-wait x o)
      go (inr e) = ap (λ (c : Claim). start_after v.clock (standing c)) e.2 ∙ sym e.1

-- Claims ps of the table m before a call, side by side with theirs in the ledger l: packed in turn at clock and grace of the table n after it, and
-- granted there or not.
module _ (P Q : Type 0) (l l' : Ledger) (m n : Model) (st : Story P l m) (st' : Story Q l' n) (ps : List Claim) (es : List Entry) (ma : Match (Tracks P) ps es)
    (inside : (c : Claim) → c ∈ ps → c ∈ m.pending) (starts : Claim → ℕ) (packs : Packs (setting_of n) ps starts)
    (stays : (x : Claim) → x ∈ ps → (d : Claim) × d ∈ n.pending × Stays n.clock (moved starts x) d) where
  abbrev v : Setting
  v = setting_of n

  -- One of them, as lookups then tell of it.
  module _ (x : Claim) (xi : x ∈ ps) (e : Entry) (r : Tracks P x e) where
    told-after : tells n (at_ticket e.ticket) ≡ standing (stays x xi).0
    told-after =
        let d = stays x xi in
        ap (λ (k : ℕ). standing_of k n.pending) (sym (stays-as v (moved starts x) d.0 d.2 (λ (c : Claim). c.ticket) refl ∙ moved-ticket starts x ∙ r.ticket))
        ∙ lookup-found n.pending st'.inv.spaced.ascending d.0 d.1

    end_after : end_told l' (tells n) e ≡ end_of v (moved starts x)
    end_after =
        let d = stays x xi in
        let long : (moved starts x).length ≡ x.length = moved-cases (λ (c : Claim). c.length ≡ x.length) starts x (λ _. refl) (λ _. refl) in
        ap (end_as l' e) told-after ∙ end-as Q l' n st' d.0 e (stays-as v (moved starts x) d.0 d.2 (λ (c : Claim). c.length) refl ∙ long ∙ r.length) ∙ stays-end v (moved starts x) d.0 d.2

    units-after : (y : ℕ) → n.clock ≤ y → units_at v y (moved starts x) ≡ cond (covers_told l' (tells n) y e) e.asked.units 0
    unfolding units_at covers
    units-after y h =
        let d = stays x xi in
        rw (end_after, told-after, stays-begins v (moved starts x) d.0 d.2 y h, moved-units starts x, r.units)

    start-after : on x ≡ false → start_after n.clock (tells n (at_ticket e.ticket)) ≡ starts x
    start-after o =
        let d = stays x xi in
        ap (start_after n.clock) told-after ∙ stays-start v (moved starts x) d.0 d.2 (moved-phase starts x ∙ o) ∙ moved_at starts x o

  -- One that waited, and its entry.
  module _ (w : Claim) (wi : w ∈ ps) (o : on w ≡ false) (f : Entry) (t : Tracks P w f) where
    abbrev qs : List Claim
    qs = keep (λ c. before c w) ps

    abbrev ahead_of : List Entry
    ahead_of = ahead_told (tells m) (at w) f.ticket es

    matched : Match (Tracks P) qs ahead_of
    matched = ahead-match P l m st w f (inside w wi) t inside ma

    kept : (c : Claim) → c ∈ qs → c ∈ ps × (before c w ≡ true)
    kept c i = keep-e (λ c. before c w) ps i

    shared_same : (c : Claim) (e : Entry) → Tracks P c e → shares e.asked.groups f.asked.groups ≡ rival c w
    shared_same c e r = rw (r.groups, t.groups)

    use-after : (y : ℕ) → n.clock ≤ y → used v y (ahead starts ps w) ≡ planned_use l' (tells n) y ahead_of
    unfolding used ahead
    use-after y h =
        sum-map (units_at v y) (moved starts) qs
        ∙ match-sum (λ c. units_at v y (moved starts c)) (λ e. cond (covers_told l' (tells n) y e) e.asked.units 0) (λ c e i r. units-after c (kept c i).0 e r y h) matched

    told_of : (x : ℕ) → MayStart v ps starts w x → BehindTold l' (tells n) ahead_of f x
    told_of x b = record {
      after = λ e i h.
          let c = partner matched i in
          let k = kept c.0 c.1 in
          let before = before-precedes (setting_of m) m.pending st.inv.spaced.fit c.0 w (st.inv.spaced.proper c.0 (inside c.0 k.0)).sane (inside c.0 k.0) (inside w wi) o k.1
          (sym (shared_same c.0 e c.2) ∙ h) in
          omega (arith, end_after c.0 k.0 e c.2, b.after c.0 k.0 before);
      spare = λ z y p q. omega (arith, b.spare (omega (arith, t.units, z)) y p (omega (arith, t.length, q)), use-after y (omega (arith, b.from_clock, p)), t.units, st'.pool);
    }

    of-told : (x : ℕ) → n.clock ≤ x → BehindTold l' (tells n) ahead_of f x → MayStart v ps starts w x
    of-told x low b = record {
      from_clock = low;
      after = λ c i h.
          let first = precedes-before c w (st.inv.spaced.proper c (inside c i)).sane h in
          let e = partner-of matched (keep-i (λ c. before c w) first i) in
          omega (arith, end_after c i e.0 e.2, b.after e.0 e.1 (shared_same c e.0 e.2 ∙ precedes-conflicts c w h));
      spare = λ z y p q. omega (arith, b.spare (omega (arith, t.units, z)) y p (omega (arith, t.length, q)), use-after y (omega (arith, low, p)), t.units, st'.pool);
    }

    packed_there : PackedBehind l' (tells n) ahead_of f (starts w)
    packed_there = record {
      from_clock = omega (arith, (packs w wi o).0.from_clock, st'.clock);
      behind = told_of (starts w) (packs w wi o).0;
      least = λ x h b. (packs w wi o).1 x (of-told x (omega (arith, h, st'.clock)) b);
    }

  pub packed-behind : (f : Entry) → f ∈ es → (s : ℕ) → tells m (at_ticket f.ticket) ≡ Waits s
      → PackedBehind l' (tells n) (ahead_told (tells m) s f.ticket es) f (start_after n.clock (tells n (at_ticket f.ticket)))
  packed-behind f i s w =
      let a = partner ma i in
      let b = waits-at P l m st a.0 f (inside a.0 a.1) a.2 s w in
      subst (PackedBehind l' (tells n) (ahead_told (tells m) s f.ticket es) f) (sym (start-after a.0 a.1 f a.2 b.0))
      (subst (λ (x : ℕ). PackedBehind l' (tells n) (ahead_told (tells m) x f.ticket es) f (starts a.0)) b.1 (packed_there a.0 a.1 b.0 f a.2))
