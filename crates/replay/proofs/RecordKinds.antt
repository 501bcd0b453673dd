-- The records of a load say calls: a record has the length of its kind, so the format has that kind, and only the first is a rig.
use mathlib.Core.Path.{◌≡◌, refl, sym, ap, ◌∙◌, subst}
use mathlib.Core.Logic.{⊎_elim}
use mathlib.Core.Bool.{Bool, true, false, ◌||◌}
use mathlib.Core.List.Memᴰ
use mathlib.Core.List.{List}
use Prim.Native.Nat.{ℕ, zero, suc, ◌+◌, ◌<◌}
use native.Mathlib.Omega.{arith}
use lib.Dec.{eqb}
use lib.ListN.{length, drop}
use borrow.Author.Tests.{eqb-true, ne_eqb, not-true}
use Rattle.rules.specs.Lists.{◌∈◌}
use Rattle.format.specs.declared.Call.{Call}
use Rattle.format.specs.Records.{Record, record_of}
use Rattle.format.specs.Format.{rig_kind, claim_kind, release_kind, withdraw_kind, clock_kind, declaration_kind, grace_kind, format, has_kind}
use Rattle.load.specs.Answers.{one_record}
use Rattle.load.specs.Reading.{agree, kind_field, edition_of, item_at, walk}
use Rattle.format.proofs.Format.{either, all_rows, kind-tested}
use Rattle.format.proofs.Calls.{kind-of-call}
use Rattle.load.proofs.Reading.{stands, misfit-not, call-size, by-item, step-next, step_past, walk_call, walk_end, walk_refused}
use Rattle.replay.specs.Records.{says_call}
use Rattle.replay.specs.RecordKinds.{Says, says-claim, says-release, says-withdrawal, says-clock, says-declaration, says-grace, no_record, rig-first, RecordsSayCalls}

-- ── one record ──
-- The kinds of the format, in the order in which `says_call` asks for them.
abbrev listed : ℕ → Bool
listed k = eqb k rig_kind || (eqb k claim_kind || (eqb k release_kind || (eqb k withdraw_kind || (eqb k declaration_kind || (eqb k grace_kind || eqb k clock_kind)))))

kind-listed : (e k : ℕ) → has_kind e k ≡ true → listed k ≡ true
unfolding all_rows format
kind-listed e k h = kind-tested (λ e k fs. listed k) e k refl h

says : (r : Record) → listed r.call.kind ≡ true → eqb r.call.kind rig_kind ≡ false → Says r (says_call r)
unfolding says_call
says r l p1 =
    let k = r.call.kind in
    either (eqb k claim_kind) (λ p. rw p (says-claim (eqb-true k claim_kind p)))
    (λ p2. either (eqb k release_kind) (λ p. rw (p2, p) (says-release (eqb-true k release_kind p)))
    (λ p3. either (eqb k withdraw_kind) (λ p. rw (p2, p3, p) (says-withdrawal (eqb-true k withdraw_kind p)))
    (λ p4. either (eqb k declaration_kind) (λ p. rw (p2, p3, p4, p) (says-declaration (eqb-true k declaration_kind p)))
    (λ p6. either (eqb k grace_kind) (λ p. rw (p2, p3, p4, p6, p) (says-grace (eqb-true k grace_kind p)))
    (λ p8. rw (p2, p3, p4, p6, p8) (says-clock (eqb-true k clock_kind (rw (p1, p2, p3, p4, p6, p8) at l))))))))

agree_same : (a b : Bool) → agree a b ≡ true → a ≡ b
agree_same true b h = sym h
agree_same false b h = sym (not-true b h)

module _ (s : List ℕ) (at : ℕ) (c : Call) (next : ℕ) (h : item_at s at ≡ one_record c next) where
  -- It is a rig where it is the first.
  rig-at : eqb c.kind rig_kind ≡ eqb at 1
  rig-at =
      let r = stands s at c next h in
      let k = kind_field (drop at s) in
      let q : c.kind ≡ k = sym (ap (λ (x : Call). x.kind) r.call) ∙ kind-of-call (edition_of s) k _ in
      ap (λ (n : ℕ). eqb n rig_kind) q ∙ agree_same (eqb k rig_kind) (eqb at 1) (misfit-not _ _ _ _ _ r.fits).2

  says-behind : 1 < at → Says (record_of c) (says_call (record_of c))
  says-behind l = says (record_of c) (kind-listed (edition_of s) c.kind (call-size s at c next h).0) (rig-at ∙ ne_eqb at 1 (λ e. omega arith))

-- ── all of them ──
-- Those from a position behind the rig on; the load is at most j bytes longer.
all_say : (j : ℕ) (s : List ℕ) (at : ℕ) → length s < at + j → 1 < at → (r : Record) → r ∈ (walk s at).records → Says r (says_call r)
all_say zero s at l b r m = absurd (Memᴰ.not-nil (rw (walk_end s at (step_past s at (omega arith))) at m))
all_say (suc j) s at l b r m =
    by-item (item_at s at)
    (λ d n e.
    let q = (step-next s at d n e).0 in
    ⊎_elim
    (λ i. subst (λ (x : Record). Says x (says_call x)) (sym i) (says-behind s at d n e b))
    (all_say j s n (omega arith) (omega arith) r)
    (Memᴰ.cases_cons (rw (walk_call s at d n e) at m)))
    (λ e. absurd (Memᴰ.not-nil (rw (walk_end s at e) at m)))
    (λ n e. absurd (Memᴰ.not-nil (rw (walk_refused s at n e) at m)))

pub records-say-calls : RecordsSayCalls
records-say-calls s =
    by-item (item_at s 1)
    (λ c n e. rw (walk_call s 1 c n e) (rig-first (record_of c) (walk s n).records (eqb-true c.kind rig_kind (rig-at s 1 c n e)) (all_say (length s) s n (omega (arith, step-next s 1 c n e)) (step-next s 1 c n e).0)))
    (λ e. rw (walk_end s 1 e) no_record)
    (λ n e. rw (walk_refused s 1 n e) no_record)
