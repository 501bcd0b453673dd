-- The theorems refuse the wrong tables, by computation on a few calls.
use mathlib.Core.Path.{◌≡◌, refl, sym, ◌∙◌, ap, subst}
use mathlib.Core.Logic.{◌⊎◌, inl, inr, ⊎_elim}
use mathlib.Core.Bool.{Bool, true, false, ◌&&◌, cond}
use mathlib.Core.List.Memᴰ
use mathlib.Core.List.{List, [], ◌∷◌, map}
use Prim.Native.Nat.{ℕ, ◌+◌, ◌≤◌, ◌<◌}
use native.Mathlib.Omega.{arith}
use lib.Dec.{leb, ltb}
use lib.ListN.{length}
use borrow.Author.Tests.{le-ltb}
use Rattle.groups.specs.Groups.{some_from, lowest_from, common, shares, empty, within}
use Rattle.rules.specs.declared.Claim.{Claim}
use Rattle.rules.specs.declared.Phase.{Phase}
use Rattle.rules.specs.Lists.{◌∈◌, greatest, least, sum, all, any, keep, first_with}
use Rattle.rules.specs.Shares.{share_of, with_share, pending_of, unfilled, unfilled_by_others, reserved_in_all}
use Rattle.rules.specs.Claims.{on, at, held_until, end_of, remaining}
use Rattle.rules.specs.Order.{precedes, before}
use Rattle.rules.specs.Plans.{Ascending}
use Rattle.rules.specs.Pool.{covers, units_at, used, enough, spare, held_units, free_units}
use Rattle.rules.specs.Seeking.{seek}
use Rattle.rules.specs.Packing.{ready, start_for, moved, ahead, start_within, packed_start, pack}
use Rattle.rules.specs.Placing.{clear, fits, place, contention, start_bound}
use Rattle.rules.specs.Granting.{taken_before, truly_free, goes_within, goes, granted, grant, grants}
use Rattle.rules.specs.declared.Phase.TheVariants.{Waiting, On}
use Rattle.rules.specs.declared.Common.TheVariants.{Shared, Apart}
use Rattle.rules.specs.declared.Standing.TheVariants.{NotPending, Waits, Holds}
use Rattle.rules.specs.Tests.{first_number}
use Rattle.rules.specs.Chains.{counts_as, links, link, chain_within, chain, ChainValues, chain_of}
use Rattle.rules.specs.Calls.{Model, asking, releases, at_ticket, at_chain, Call, release, declare, clock, set_grace, lookup, tests, advance, finish, join, remove, admit, act, step, new, standing_of, common_of, value_at}
use Rattle.rules.proofs.Bools.{clash, by-test}
use Rattle.rules.proofs.Lists.{here, there, none}
use Rattle.promises.specs.Ledger.{Ledger, Entry, promised, turns, table_after, issues, stay, shares_by, grace_by, marked, noted_all, bound_on}
use Rattle.promises.specs.Runs.{Told, tells, Start, newly, ledger_after, told_after}
use Rattle.promises.specs.Plan.{end_told, Precedes}
use Rattle.promises.specs.NumbersTested.{tests_by}
use Rattle.promises.specs.WaitsExplained.{in_common}
use Rattle.promises.specs.ChainsTold.{LinkTold, Followed, ChainTold}
use Rattle.promises.specs.TableKept.{Has}
use Rattle.promises.specs.WholeCalls.{Stays}
use Rattle.promises.proofs.Plan.{waits-once, waits-not-on, precedes-of}
use Rattle.worthless.specs.Worthless.{claim, drawing, turns_all_down, one_fixed_start, untouched, echoes, invents_contention, invents_bound, cries_full, never_grants, tells_late, renews, names_backward, stops_granting, fidgets, mumbles, blurts, rigless, ignores_gaps, skips_packing, lone_drawer, crowds, shows_now, leaves_gaps, leaves_drawers, reverses, changes_turns, overdraws, keeps_units_back, last_first, loses_units, grants_all, puts_back, forgets_groups, pushes_in, hides_units, ignores_limits, stops_short, links_highest, links_anybody, disowns_holders, AllRefused}

-- Of what holds of each, in a list of two and of three.
module _ {A : Type 0} (P : A → Type 0) where
  of_two : (x y z : A) → P x → P y → z ∈ (x ∷ y ∷ []) → P z
  of_two x y z p q i = ⊎_elim (λ e. subst P (sym e) p) (λ j. subst P (sym (Memᴰ.eq_of_singleton j)) q) (Memᴰ.cases_cons i)

  of_three : (w x y z : A) → P w → P x → P y → z ∈ (w ∷ x ∷ y ∷ []) → P z
  of_three w x y z o p q i = ⊎_elim (λ e. subst P (sym e) o) (of_two x y z p q) (Memᴰ.cases_cons i)

-- What a lookup told is one thing.
waits-pending : (a : ℕ) → Waits a ≡ NotPending → ⊥
waits-pending a e = let z : ◌≡◌ {A = ℕ} 0 1 = cc in omega arith

-- A claim of units alone, and its entry; an entry of groups alone.
abbrev drawer : ℕ → Phase → ℕ → ℕ → Claim
drawer k p n u = record { groups = 0; phase = p; length = n; ticket = k; units = u; client = 1 }

abbrev drawer_entry : ℕ → ℕ → ℕ → Bool → Entry
drawer_entry k n s h = record { ticket = k; asked = record { groups = 0; length = n; units = 1; client = 1 }; first = s; held = h; grant = 0 }

abbrev entry : ℕ → ℕ → ℕ → ℕ → Bool → Entry
entry k g n s h = record { ticket = k; asked = asking g n; first = s; held = h; grant = 0 }

-- A unit or none, and one more, of two.
two-of-two : (b : Bool) → cond b 1 0 + 0 + 1 ≤ 2
two-of-two true = omega arith
two-of-two false = omega arith

-- One unit of n is held until x: from then on all are free.
all-free : (x n y : ℕ) → x ≤ y → cond (leb 0 y && ltb y x) 1 0 + 0 + n ≤ n
all-free x n y h = rw (le-ltb y x h) (by-test (leb 0 y) (λ p. rw p (omega arith)) (λ p. rw p (omega arith)))

-- Ticket 3 of the last case: it stays at 15, whatever start it was given.
abbrev later : Claim
later = drawer 3 (Waiting 20) 10 1

passed_over : (f : Claim → ℕ) (d : Claim) → d ∈ (drawer 1 (On 0) 20 1 ∷ drawer 3 (Waiting 15) 10 1 ∷ drawer 4 (On 5) 10 1 ∷ []) → Stays 5 (moved f later) d → f later ≤ 5 → ⊥
unfolding moved
passed_over f d = of_three (λ (y : Claim). Stays 5 (moved f later) y → f later ≤ 5 → ⊥) (drawer 1 (On 0) 20 1) (drawer 3 (Waiting 15) 10 1) (drawer 4 (On 5) 10 1) d
    (λ s l. ⊎_elim (λ e. (let z : ◌≡◌ {A = ℕ} 1 3 = ap (λ (c : Claim). c.ticket) e in omega arith)) (λ e. (let z : ◌≡◌ {A = ℕ} 1 3 = ap (λ (c : Claim). c.ticket) e.2 in omega arith)) s)
    (λ s l. ⊎_elim (λ e. (let z : 15 ≡ f later = ap at e in omega arith)) (λ e. clash (ap on e.2) refl) s)
    (λ s l. ⊎_elim (λ e. (let z : ◌≡◌ {A = ℕ} 4 3 = ap (λ (c : Claim). c.ticket) e in omega arith)) (λ e. (let z : ◌≡◌ {A = ℕ} 4 3 = ap (λ (c : Claim). c.ticket) e.2 in omega arith)) s)

-- In a table of two claims nobody precedes the second, where the first does not.
alone-first : (m : Model) (a b : Claim) → m.pending ≡ a ∷ b ∷ [] → a.ticket < b.ticket → precedes a b ≡ false → precedes b b ≡ false → (j : ℕ) → Precedes (tells m) j b.ticket → ⊥
alone-first m a b e l p q j h =
    let up : Ascending m.pending = subst Ascending (sym e) ((λ y i. rw (Memᴰ.eq_of_singleton i) l), (λ y i. none i, tt)) in
    let x = precedes-of m up h in
    let inside : (c : Claim) → c ∈ m.pending → c ∈ (a ∷ b ∷ []) = λ c i. subst (λ (y : List Claim). c ∈ y) e i in
    of_two (λ (y : Claim). y.ticket ≡ b.ticket → precedes x.one y ≡ true → ⊥) a b x.other (λ z. omega (arith, z))
    (λ _ z. of_two (λ (y : Claim). precedes y b ≡ true → ⊥) a b x.one (λ w. clash w p) (λ w. clash w q) (inside x.one x.one_in) z)
    (inside x.other x.other_in) x.other_is x.before

-- A chain told of two tickets: the second is that of a claim that is on, and the link to it is true.
record OfTwo (l : Ledger) (told : Told) (f : Entry) (k : ℕ) : Type 0 where
  start : ℕ
  waits : told (at_ticket f.ticket) ≡ Waits start
  next : Entry
  next_is : next.ticket ≡ k
  linked : LinkTold l told f start next
  end : ℕ
  holds : told (at_ticket k) ≡ Holds end

two-told : (l : Ledger) (told : Told) (f : Entry) (s k : ℕ) → told (at_chain f.ticket) ≡ record { number = 0; tickets = f.ticket ∷ k ∷ [] } → ChainTold l told f s → OfTwo l told f k
two-told l told f s k q c = go c.behind (ap (λ (r : ChainValues). r.tickets) (sym c.itself_first ∙ q)) c.followed
  where
    go : (es : List Entry) → f.ticket ∷ map (λ (e : Entry). e.ticket) es ≡ f.ticket ∷ k ∷ [] → Followed l told f es → OfTwo l told f k
    go [] e h = absurd (omega (arith, ap length e))
    go (x ∷ []) e h =
        let t : x.ticket ≡ k = cc in
        record { start = h.0; waits = h.1; next = x; next_is = t; linked = h.2; end = h.3.0; holds = subst (λ (j : ℕ). told (at_ticket j) ≡ Holds h.3.0) t h.3.1 }
    go (x ∷ (y ∷ es)) e h = absurd (omega (arith, ap length e))

pub all-refused : AllRefused
unfolding some_from lowest_from common shares empty within greatest least sum all any keep held_until end_of remaining precedes before covers units_at used enough spare held_units ready start_for moved ahead start_within packed_start pack clear fits seek place contention start_bound taken_before truly_free goes_within goes granted grant grants share_of pending_of unfilled unfilled_by_others first_number tests advance finish join remove admit act step new standing_of common_of turns table_after issues stay shares_by grace_by marked noted_all bound_on tests_by free_units value_at turns_all_down one_fixed_start untouched echoes invents_contention invents_bound cries_full never_grants tells_late renews names_backward stops_granting fidgets mumbles blurts rigless ignores_gaps skips_packing lone_drawer crowds shows_now leaves_gaps leaves_drawers reverses changes_turns overdraws keeps_units_back last_first loses_units grants_all puts_back forgets_groups pushes_in hides_units ignores_limits with_share reserved_in_all counts_as links link chain_within chain chain_of first_with stops_short links_highest links_anybody disowns_holders
all-refused = record {
  turns_down = λ d.
      let z : ◌≡◌ {A = ℕ} 3 0 = d [] (claim 0 0x1 10) [] refl in
      omega arith;
  fixed_start = λ d.
      let z : 1000 ≤ 0 = (d [] (claim 0 0x1 10) [] refl 0 _ refl refl).least 0 (omega arith) (record { room = λ e i. none i; spare = λ u. absurd (omega arith) }) in
      omega arith;
  fixed_start_late = λ d.
      let z : 1000 ≤ 0 = ((d.at_any_call [] (claim 0 0x1 10) [] refl).of_claim 0 _ refl refl).start_bounded refl in
      omega arith;
  untouched_table = λ d.
      let e : NotPending ≡ Holds 10 = ((d.at_any_time (claim 0 0x1 10 ∷ []) [] refl).lookup_agrees 1).held _ here refl refl in
      let z : ◌≡◌ {A = ℕ} 0 1 = cc in
      omega arith;
  echoed = λ d.
      let z : ◌≡◌ {A = ℕ} 1 2 = ((d.at_any_call (claim 0 0x1 10 ∷ []) (claim 0 0x1 10) [] refl).of_claim 0 _ refl refl).ticket_next in
      omega arith;
  invented_contention = λ d.
      let z : ◌≡◌ {A = ℕ} 1 0 = ((d.at_any_call [] (claim 0 0x1 10) [] refl).of_claim 0 _ refl refl).contention_counted in
      omega arith;
  invented_bound = λ d.
      let z : ◌≡◌ {A = ℕ} 1 0 = ((d.at_any_call [] (claim 0 0x1 10) [] refl).of_claim 0 _ refl refl).bound_counted in
      omega arith;
  full_with_places = λ d.
      let z : ◌≡◌ {A = ℕ} 6 0 = d (claim 0 0x1 10 ∷ []) (claim 0 0x1 10) [] refl in
      omega arith;
  full_below_guarantee = λ d. (d.at_any_call (claim 0 0x1 10 ∷ []) (claim 0 0x1 10) [] refl).never_full 0 _ refl (omega arith) refl;
  never_granted = λ d.
      let calls : List Call = claim 0 0x1 10 ∷ clock 1 ∷ [] in
      let held : (e : Entry) → e ∈ _ → e.held ≡ false = λ e i. ap (λ (x : Entry). x.held) (Memᴰ.eq_of_singleton i) in
      let z : 1 ≤ 0 = d.no_wait_past calls [] refl (λ _ e i. none i, (λ _ e i o. clash o (held e i), tt)) _ here refl in
      omega arith;
  told_late = λ d.
      ⊎_elim
      (λ h. (let z = waits-once 1010 10 h in omega arith)) (waits-not-on 1010 20)
      ((d.at_any_call (claim 0 0x1 10 ∷ []) (claim 0 0x1 10) [] refl).of_claim 0 _ refl refl).first_told;
  renewed = λ d.
      let r = (d.at_any_call (claim 0 0x1 10 ∷ []) (clock 5) [] refl).of_grants.grants_waited 1 here in
      clash (ap (λ (x : Entry). x.held) (Memᴰ.eq_of_singleton r.1)) r.3;
  granted_all = λ d. clash refl ((d.at_any_time (claim 0 0x1 10 ∷ claim 0 0x1 10 ∷ []) [] refl).holders_apart _ _ here (there here) (λ (e : ◌≡◌ {A = ℕ} 1 2). omega arith) refl refl);
  put_back = λ d.
      let z : 11 ≤ 10 = ((d.at_any_call (claim 0 0x1 10 ∷ claim 0 0x1 10 ∷ []) (clock 1) [] refl).never_raised
      (λ _ e. of_two (λ (x : Entry). x.held ≡ true → 1 ≤ promised x) (entry 1 0x1 10 0 true) (entry 2 0x1 10 10 false) e (λ _. omega arith) (λ h. clash h refl)) 2 10 refl).0 11 refl in
      omega arith;
  put_back_later = λ d.
      let z : 11 ≤ 10 = (d (claim 0 0x1 10 ∷ claim 0 0x1 10 ∷ []) (clock 1 ∷ []) [] refl
      (λ _ e. of_two (λ (x : Entry). x.held ≡ true → 1 ≤ promised x) (entry 1 0x1 10 0 true) (entry 2 0x1 10 10 false) e (λ _. omega arith) (λ h. clash h refl), tt)).not_raised 2 10 refl 11 refl in
      omega arith;
  groups_forgotten = λ d.
      let e : Apart ≡ Shared 0 = ((d.at_any_time (claim 0 0x1 10 ∷ claim 0 0x1 10 ∷ []) [] refl).common_agrees 1 2).pending (entry 1 0x1 10 0 true) (entry 2 0x1 10 10 false) here (there here) refl refl in
      let z : ◌≡◌ {A = ℕ} 0 1 = cc in
      omega arith;
  named_backward = λ d.
      let z : 3 < 2 = (d.at_any_call (claim 0 0x3 10 ∷ claim 0 0x1 10 ∷ claim 0 0x2 10 ∷ []) (release 5 1) [] refl).of_grants.grants_ascend.0 2 here in
      omega arith;
  granting_stopped = λ d.
      let calls : List Call = claim 0 0x1 5 ∷ claim 10 0x2 5 ∷ [] in
      let s : Start = newly 0x3 0 true in
      let e : Entry = entry 2 0x2 5 10 false in
      let r = d calls [] refl e (there here) 10 refl in
      of_two (λ (x : Entry). in_common x e ≡ true → end_told (ledger_after stops_granting s calls) (told_after stops_granting s calls) x ≡ 10 → ⊥) (entry 1 0x1 5 0 true) e r.0
      (λ h _. clash h refl) (λ _ (h : ◌≡◌ {A = ℕ} 15 10). omega arith) r.1 r.2 r.3;
  fidgeted = λ d.
      let z = waits-once 11 10 ((d (claim 0 0x1 10 ∷ claim 0 0x1 10 ∷ []) (lookup 1) [] refl).others_still refl (at_ticket 2)) in
      omega arith;
  mumbled = λ d.
      let z : ◌≡◌ {A = ℕ} 0 1 = ((d (claim 0 0x1 10 ∷ []) (release 4 1) [] refl).three_plain refl refl).ticket_is in
      omega arith;
  blurted = λ d.
      let z : ◌≡◌ {A = ℕ} 7 0 = ((d [] (release 4 9) [] refl).others_plain refl).ticket_is in
      omega arith;
  no_rig = λ d.
      let z : ◌≡◌ {A = ℕ} 1 0 = d 0x1 0 true in
      omega arith;
  gaps_ignored = λ d.
      let calls : List Call = claim 0 0x8 10 ∷ claim 0 0xC 10 ∷ claim 0 0x6 11 ∷ [] in
      let s : Start = newly 0xF 0 true in
      let all : List Call = claim 0 0x8 10 ∷ claim 0 0xC 10 ∷ claim 0 0x6 11 ∷ claim 0 0x3 20 ∷ [] in
      let z : 31 ≤ 0 = (d calls (claim 0 0x3 20) [] refl 0 _ refl refl).least 0 (omega arith) (record {
        room = λ e i. of_three
            (λ (x : Entry). shares x.asked.groups 0x3 ≡ true → (end_told (ledger_after ignores_gaps s all) (told_after ignores_gaps s all) x ≤ 0) ⊎ ((r : ℕ) × (told_after ignores_gaps s all (at_ticket x.ticket) ≡ Waits r) × (0 + 20 ≤ r)))
            (entry 1 0x8 10 0 true) (entry 2 0xC 10 10 false) (entry 3 0x6 11 20 false) e
            (λ h. clash h refl) (λ h. clash h refl) (λ h. inr (20, refl, omega arith)) i;
        spare = λ u. absurd (omega arith);
      }) in
      omega arith;
  pushed_in = λ d.
      let calls : List Call = claim 0 0x1 10 ∷ claim 0 0x1 10 ∷ [] in
      let all : List Call = claim 0 0x1 10 ∷ claim 0 0x1 10 ∷ claim 12 0x1 5 ∷ [] in
      let s : Start = newly 0x1 0 true in
      let one : Entry = entry 1 0x1 10 0 true in
      let due : 12 ≤ 12 = omega arith in
      let z : 17 ≤ 12 = ((d calls (claim 12 0x1 5) [] refl 12 _ refl refl).others_packed (entry 2 0x1 10 10 false) (there {y = one} here) 17 refl).least 12 (omega arith) (record {
        after = λ e i h. subst (λ (x : Entry). end_told (ledger_after pushes_in s all) (told_after pushes_in s all) x ≤ 12) (sym (Memᴰ.eq_of_singleton i)) due;
        spare = λ u. absurd (omega arith);
      }) in
      omega arith;
  packing_skipped = λ d.
      ⊎_elim
      (λ h. (let z = waits-once 25 20 h in omega arith)) (waits-not-on 25 23)
      ((d.at_any_call (claim 0 0x1 10 ∷ claim 0 0x3 10 ∷ []) (claim 15 0x2 3) [] refl).of_claim 15 _ refl refl).first_told;
  one_drawer = λ d.
      let z : 10 ≤ 0 = (d (drawing 0 10 1 ∷ []) (drawing 0 10 1) [] refl 0 _ refl refl).least 0 (omega arith) (record {
        room = λ e i h. clash h (ap (λ (x : Entry). shares x.asked.groups 0) (Memᴰ.eq_of_singleton i));
        spare = λ u y p q. two-of-two (leb 0 y && ltb y 10);
      }) in
      omega arith;
  crowded = λ d.
      let z : 24 ≤ 15 = (d (claim 0 0x1 10 ∷ claim 0 0x1 10 ∷ claim 0 0x1 10 ∷ clock 12 ∷ []) [] refl).ends_awaited _ (there here) 3
      (record { group = 0; start = 15; conflict = refl; waits = refl; sooner = inr (14, refl, omega arith) }) in
      omega arith;
  shown_now = λ d.
      let z : 17 ≤ 12 = (d (set_grace 5 ∷ claim 0 0x1 10 ∷ claim 0 0x1 10 ∷ clock 12 ∷ []) [] refl).ends_awaited _ here 2
      (record { group = 0; start = 12; conflict = refl; waits = refl; sooner = inl (10, refl) }) in
      omega arith;
  gaps_left = λ d.
      let calls : List Call = claim 0 0x1 10 ∷ claim 0 0x1 10 ∷ release 4 1 ∷ [] in
      let s : Start = newly 0x1 0 true in
      let e : Entry = entry 2 0x1 10 10 false in
      let r = d calls [] refl e here 10 refl in
      let z : ◌≡◌ {A = ℕ} 20 10 = subst (λ (x : Entry). end_told (ledger_after leaves_gaps s calls) (told_after leaves_gaps s calls) x ≡ 10) (Memᴰ.eq_of_singleton r.1) r.3 in
      omega arith;
  drawers_left = λ d.
      let f : Entry = record { ticket = 3; asked = record { groups = 0; length = 10; units = 2; client = 1 }; first = 20; held = false; grant = 0 } in
      let z : 20 ≤ 10 = (d (drawing 0 10 1 ∷ drawing 0 20 1 ∷ drawing 0 10 2 ∷ release 5 2 ∷ []) [] refl f (there {y = drawer_entry 1 10 0 true} here) 20 refl).least 10 (omega arith) (record {
        after = λ e i h. clash h (ap (λ (x : Entry). shares x.asked.groups 0) (Memᴰ.eq_of_singleton i));
        spare = λ u y p q. all-free 10 2 y p;
      }) in
      omega arith;
  reversed = λ d.
      let r =
      d (claim 0 0x1 10 ∷ claim 0 0x1 10 ∷ claim 0 0x1 10 ∷ []) (clock 0 ∷ []) [] refl 3 2
      (record { group = 0; start = 990; conflict = refl; waits = refl; sooner = inr (980, refl, omega arith) }) (waits-pending 990) (waits-pending 980) in
      ⊎_elim (λ h. waits-not-on 990 h.0 h.1) (λ h. omega (arith, waits-once 990 h.0 h.1, waits-once 980 r.start r.waits, h.2)) r.sooner;
  turns_changed = λ d.
      let z : 22 ≤ 12 = (d (drawing 0 10 1 ∷ drawing 0 10 1 ∷ drawing 0 10 1 ∷ []) (clock 12) [] refl refl (inl refl) (drawer_entry 2 10 10 false) (there {y = drawer_entry 1 10 0 true} here) 10 refl).least 12
      (omega arith) (record {
        after = λ e i h. clash h (ap (λ (x : Entry). shares x.asked.groups 0) (Memᴰ.eq_of_singleton i));
        spare = λ u y p q. all-free 12 1 y p;
      }) in
      omega arith;
  overdrawn = λ d.
      let z : 2 ≤ 1 = (d (drawing 0 10 1 ∷ drawing 0 10 1 ∷ []) [] refl).never_more in
      omega arith;
  overplanned = λ d.
      let z : 2 ≤ 1 = (d (drawing 0 10 1 ∷ drawing 0 10 1 ∷ []) [] refl).units_enough 0 (omega arith) in
      omega arith;
  units_kept_back = λ d.
      let z : 3 < 3 = d (drawing 0 10 2 ∷ []) (drawing 10 8 1) [] refl refl
      (record { ticket = 2; asked = record { groups = 0; length = 8; units = 1; client = 1 }; first = 10; held = false; grant = 0 }) (there here) refl
      (alone-first (table_after keeps_units_back (newly 0x1 3 true).table (drawing 0 10 2 ∷ drawing 10 8 1 ∷ [])) (drawer 1 (On 0) 10 2) (drawer 2 (Waiting 10) 8 1) refl (omega arith) refl refl) in
      omega arith;
  units_hidden = λ d.
      let z : ◌≡◌ {A = ℕ} 2 1 = (d (drawing 0 10 1 ∷ []) [] refl).free_and_held in
      omega arith;
  limit_ignored = λ d.
      let z : 1 ≤ 0 = (d.at_any_time (declare 1 0 0 ∷ claim 0 0x1 10 ∷ []) [] refl).within_limit 1 in
      omega arith;
  last_granted = λ d.
      let w : Claim = drawer 3 (Waiting 10) 10 1 in
      let z : 2 < 2 = (d.of_timed 10 (releases 1) refl).0.units_wanting w (there {y = drawer 2 (On 0) 5 1} (here {l = drawer 4 (On 10) 10 1 ∷ []})) refl refl
      (λ c. of_three (λ (x : Claim). precedes x w ≡ false) (drawer 2 (On 0) 5 1) w (drawer 4 (On 10) 10 1) c refl refl refl) in
      omega arith;
  last_packed = λ p.
      let d = (p.of_timed 5 (releases 2) refl).1 in
      let x = d.all_stay later (there {y = drawer 1 (On 0) 20 1} (there {y = drawer 2 (On 0) 20 1} (here {l = drawer 4 (Waiting 20) 10 1 ∷ []}))) (λ (e : ◌≡◌ {A = ℕ} 3 2). omega arith) in
      let z : d.starts later ≤ 5 = (d.packs later (there {y = drawer 1 (On 0) 20 1} (here {l = drawer 4 (Waiting 20) 10 1 ∷ []})) refl).1 5 (record {
        from_clock = omega arith;
        after = λ c i p. absurd (of_three (λ (y : Claim). precedes y later ≡ true → ⊥) (drawer 1 (On 0) 20 1) later (drawer 4 (Waiting 20) 10 1) c (λ q. clash q refl) (λ q. clash q refl) (λ q. clash q refl) i p);
        spare = λ u y p q. two-of-two (ltb y 20);
      }) in
      passed_over d.starts x.0 x.1 x.2 z;
  units_lost = λ d.
      let r = d.every_entry (drawer_entry 2 10 10 false) (there {y = drawer_entry 1 10 0 true} here) in
      of_two (λ (x : Claim). Has x (drawer_entry 2 10 10 false) → ⊥) (drawer 1 (On 0) 10 1) (drawer 2 (Waiting 10) 10 0) r.0
      (λ h. (let z : ◌≡◌ {A = ℕ} 1 2 = h.ticket in omega arith)) (λ h. (let z : ◌≡◌ {A = ℕ} 0 1 = h.units in omega arith)) r.1 r.2;
  holders_disowned = λ d.
      let z : ◌≡◌ {A = ℕ} 8 10 = ap (λ (r : ChainValues). r.number) ((d (claim 0 0x1 10 ∷ []) [] refl).held (entry 1 0x1 10 0 true) here 10 refl) in
      omega arith;
  stopped_short = λ d.
      let calls : List Call = claim 0 0x8 10 ∷ claim 0 0xC 10 ∷ claim 0 0x6 11 ∷ [] in
      let f : Entry = entry 3 0x6 11 20 false in
      let r = two-told (ledger_after step (newly 0xF 0 true) calls) (stops_short (table_after step (newly 0xF 0 true).table calls)) f 20 2 refl ((d calls [] refl).waiting f (there {y = entry 1 0x8 10 0 true} (there {y = entry 2 0xC 10 10 false} here)) 20 refl) in
      waits-not-on 10 r.end r.holds;
  highest_linked = λ d.
      let calls : List Call = claim 0 0x1 10 ∷ claim 0 0x2 10 ∷ claim 0 0x3 10 ∷ [] in
      let f : Entry = entry 3 0x3 10 10 false in
      let r = two-told (ledger_after step (newly 0x3 0 true) calls) (links_highest (table_after step (newly 0x3 0 true).table calls)) f 10 2 refl ((d calls [] refl).waiting f (there {y = entry 1 0x1 10 0 true} (there {y = entry 2 0x2 10 0 true} here)) 10 refl) in
      r.linked.lowest (entry 1 0x1 10 0 true) (here {l = entry 2 0x2 10 0 true ∷ f ∷ []}) (omega (arith, r.next_is)) refl (waits-once 10 r.start r.waits);
  anybody_linked = λ d.
      let calls : List Call = claim 0 0x1 10 ∷ claim 0 0x2 10 ∷ claim 0 0x2 10 ∷ [] in
      let f : Entry = entry 3 0x2 10 10 false in
      let r = two-told (ledger_after step (newly 0x3 0 true) calls) (links_anybody (table_after step (newly 0x3 0 true).table calls)) f 10 1 refl ((d calls [] refl).waiting f (there {y = entry 1 0x1 10 0 true} (there {y = entry 2 0x2 10 0 true} here)) 10 refl) in
      of_three (λ (x : Entry). x.ticket ≡ 1 → in_common x f ≡ true → ⊥) (entry 1 0x1 10 0 true) (entry 2 0x2 10 0 true) f r.next
      (λ _ h. clash h refl) (λ (e : ◌≡◌ {A = ℕ} 2 1) _. omega arith) (λ (e : ◌≡◌ {A = ℕ} 3 1) _. omega arith) r.linked.pending r.next_is r.linked.common;
}
