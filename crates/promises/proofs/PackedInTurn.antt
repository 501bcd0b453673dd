-- Packed in turn: the packing of whole calls (`FirstPacking`, `LeaveCall`), read in the ledger by the lookups before the call.
use mathlib.Core.Path.{◌≡◌, refl, sym, ◌∙◌, ap, subst}
use mathlib.Core.Logic.{inl, inr}
use mathlib.Core.Bool.{not}
use mathlib.Core.List.Memᴰ
use mathlib.Core.List.{List, [], ◌∷◌, ◌++◌}
use Prim.Native.Nat.{ℕ}
use lib.Dec.{eqb}
use borrow.Author.Tests.{not-true, eqb-false}
use Rattle.rules.specs.declared.Claim.{Claim}
use Rattle.rules.specs.declared.Request.{Request}
use Rattle.rules.specs.declared.Setting.{Setting}
use Rattle.rules.specs.declared.Standing.TheVariants.{Waits}
use Rattle.rules.specs.Lists.{◌∈◌, keep}
use Rattle.rules.specs.Order.{before}
use Rattle.rules.specs.Packing.{moved, Packs}
use Rattle.rules.specs.Plans.{NoOverrunAt}
use Rattle.rules.specs.Tests.{named}
use Rattle.rules.specs.Calls.{Model, ruled, setting_of, at_ticket, Call, claim, Step, advance, plain, finish, join, remove, admit, step}
use Rattle.rules.proofs.Bools.{clash}
use Rattle.rules.proofs.Lists.{map-i, keep-e}
use Rattle.rules.proofs.NoOverrun.{no-overrun-still}
use Rattle.rules.proofs.Calls.{Clocked, Admissible, Leaves, by-release, by-withdraw, by-clock, clock-accepted, step-cases}
use Rattle.promises.specs.Ledger.{Turn, Entry, Ledger, lacking, stay, noted, NoOverrun}
use Rattle.promises.specs.Runs.{tells, Start, Begins}
use Rattle.promises.specs.Plan.{ahead_told}
use Rattle.promises.specs.WholeCalls.{Stays}
use Rattle.promises.specs.StartsPacked.{PackedBehind}
use Rattle.promises.specs.PackedInTurn.{start_after, InTurn, PackedInTurn}
use Rattle.promises.proofs.WholeCalls.{claim-whole, leave-whole, first-packing, clock-whole}
use Rattle.promises.proofs.Demand3.{Story, match-lacking, no-overrun-of, idle-refused, told, after-calls}
use Rattle.promises.proofs.Packed.{packed-behind}

module _ (P : Type 0) (l : Ledger) (m : Model) (st : Story P l m) where
  Turned : Call → Step → Type 0
  Turned c s =
      let t : Turn = record { call = c; answer = s.answer } in
      Story (P × NoOverrun l t) (noted l t) s.model → InTurn l t (tells m) (tells s.model)

  -- Where all stay as the first packing put them, or granted there.
  packed-once : (Q : Type 0) (l' : Ledger) (n : Model) → Story Q l' n → ruled m n.clock ≡ setting_of n
      → ((x : Claim) → x ∈ (advance m n.clock).pending → (d : Claim) × d ∈ n.pending × Stays n.clock x d)
      → (f : Entry) → f ∈ l.claims → (s : ℕ) → tells m (at_ticket f.ticket) ≡ Waits s
      → PackedBehind l' (tells n) (ahead_told (tells m) s f.ticket l.claims) f (start_after n.clock (tells n (at_ticket f.ticket)))
  packed-once Q l' n st' e h =
      let p = first-packing m st.inv n.clock in
      packed-behind P Q l l' m n st st' m.pending l.claims st.match (λ c i. i) p.starts (subst (λ (v : Setting). Packs v m.pending p.starts) e p.packs)
      (λ x i. h (moved p.starts x) (subst (λ (ps : List Claim). moved p.starts x ∈ ps) (sym p.packed) (map-i (moved p.starts) i)))

  -- Where ticket k leaves, and the first packing moves nobody.
  abbrev left : List Claim → ℕ → List Claim
  left ps k = keep (λ c. not (named k c)) ps

  packed-again : (t k : ℕ) → Clocked m t → NoOverrunAt t m.pending → (Q : Type 0) (l' : Ledger) → (let n = (finish (remove (advance m t) k) (plain k t)).model in
      Story Q l' n → (f : Entry) → f ∈ lacking k l.claims → (s : ℕ) → tells m (at_ticket f.ticket) ≡ Waits s
      → PackedBehind l' (tells n) (ahead_told (tells m) s f.ticket (lacking k l.claims)) f (start_after t (tells n (at_ticket f.ticket))))
  unfolding finish remove advance
  packed-again t k o h Q l' st' =
      let n = (finish (remove (advance m t) k) (plain k t)).model in
      let w = leave-whole m st.inv t k o in
      let same : (advance m t).pending ≡ m.pending = no-overrun-still m.issued (setting_of m) (ruled m t) m.pending st.inv (record { later = o.later; same = refl }) h in
      packed-behind P Q l l' m n st st' (left m.pending k) (lacking k l.claims) (match-lacking P k st.match) (λ c i. (keep-e (λ c. not (named k c)) m.pending i).0) w.starts
      (subst (λ (ps : List Claim). Packs (ruled m t) (left ps k) w.starts) same w.packs)
      (λ x i.
      let r = keep-e (λ c. not (named k c)) m.pending i in
      w.all_stay x (subst (λ (ps : List Claim). x ∈ ps) (sym same) r.0) (eqb-false x.ticket k (not-true (eqb x.ticket k) r.1)))

  turned-claim : (t : ℕ) (ask : Request) → Admissible m t ask → Turned (claim t ask) (admit (advance m t) ask)
  unfolding Turned admit finish join advance stay
  turned-claim t ask a st' h z =
      let w = claim-whole m st.inv t ask a in
      packed-once _ _ (admit (advance m t) ask).model st' refl (λ x i.
      let d = (clock-whole m st.inv t).all_stay x i in
      (d.0, subst (λ (ps : List Claim). d.0 ∈ ps) (sym (w.others_same ∙ ap (λ (s : Step). s.model.pending ++ (w.new ∷ [])) (clock-accepted m t a.clocked))) (Memᴰ.append_left _ d.1), d.2))

  turned_left : (c : Call) (t k : ℕ) (q : Model) → Clocked m t → Leaves m c t k q → Turned c (finish q (plain k t))
  unfolding Turned stay finish advance
  turned_left c₀ t₀ k₀ q₀ o (by-release t k) st' h (inl e) = clash refl e
  turned_left c₀ t₀ k₀ q₀ o (by-release t k) st' h (inr e) = packed-again t k o (no-overrun-of P t m.pending l.claims st.match (e h)) _ _ st'
  turned_left c₀ t₀ k₀ q₀ o (by-withdraw t k) st' h (inl e) = clash refl e
  turned_left c₀ t₀ k₀ q₀ o (by-withdraw t k) st' h (inr e) = packed-again t k o (no-overrun-of P t m.pending l.claims st.match (e h)) _ _ st'
  turned_left c₀ t₀ k₀ q₀ o (by-clock t) st' h z = packed-once _ _ (finish (advance m t) (plain 0 t)).model st' refl (clock-whole m st.inv t).all_stay

  turned : (c : Call) → Turned c (step m c)
  unfolding Turned
  turned =
      step-cases Turned m (λ c n z st' h. clash h (idle-refused c n z)) turned-claim turned_left (λ c r k d st' h. clash h refl) (λ n d st' h. clash h refl)

pub packed_in_turn : (s : Start) → Begins s → (calls : List Call) → PackedInTurn s calls
unfolding Turned
packed_in_turn s b calls before c rest e =
    let st = after-calls s b before in
    turned _ _ _ st c (told _ _ _ st c).1
