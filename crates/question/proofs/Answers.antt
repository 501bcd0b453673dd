-- Laws of what is answered: how long a text is, the table that a load leaves is the one asked about, and what goes into a buffer.
use mathlib.Core.Bool.{Bool, true, false, cond}
use mathlib.Core.List.{List, [], ◌∷◌}
use mathlib.Core.Path.{◌≡◌, refl, sym, ap, subst, ◌∙◌}
use Prim.Native.Nat.{ℕ, zero, suc, ◌+◌, ◌*◌, ◌≤◌, ◌<◌}
use native.Mathlib.Omega.{arith}
use Rattle.std.specs.Prelude.{Option, Some, None, Result, Ok, Err}
use native.Mathlib.Nat.{le_refl, add-le-add}
use lib.Dec.{leb, eqb}
use lib.ListN.{length, length-append}
use Rattle.numerals.specs.Digits.{decimal_of}
use Rattle.numerals.specs.Laid.{laid, space_number, lent_out, Put}
use Rattle.numerals.specs.Texts.{bytes}
use Rattle.numerals.proofs.Laying.{decimal-length, width_small, put-short, lent-all, lent_none, lent-known}
use Rattle.rules.specs.declared.Claim.{Claim}
use Rattle.rules.specs.declared.Setting.{Setting}
use Rattle.rules.specs.declared.Common.{Common}
use Rattle.rules.specs.declared.Common.TheVariants.{Unknown, Shared, Apart}
use Rattle.rules.specs.declared.Standing.{Standing}
use Rattle.rules.specs.declared.Standing.TheVariants.{NotPending, Waits, Holds}
use Rattle.rules.specs.Claims.{at, end_of}
use Rattle.rules.specs.Calls.{Model, setting_of, standing_of, common_of, free_of}
use Rattle.rules.specs.Invariants.{Invariant}
use Rattle.table.specs.Valid.{Valid}
use Rattle.replay.specs.Replay.{Replay, replay_of, replay_told}
use Rattle.replay.specs.declared.Replayed.{Replayed}
use Rattle.replay.proofs.StopLine.{stop-length}
use Rattle.question.specs.declared.questions.Question.{Question}
use Rattle.question.specs.declared.questions.Question.TheVariants.{Lookup, Why, Free}
use Rattle.question.specs.declared.questions.Question.TheVariants as question
use Rattle.question.specs.declared.AskError.{AskError}
use Rattle.question.specs.declared.AskError.TheVariants.{NoSuch, NoRoom}
use Rattle.question.specs.Questions.{question_of}
use Rattle.question.proofs.Told.{why-cases, left-told}
use Rattle.question.specs.Answers.{worded, standing_text, lookup_text, waits_text, holds_text, chain_text, is_on_text, why_text, tickets_text, absent_of, common_text, free_text, sentence_of, answer_text, text_from, text_of, asked_values, written_as, written, lent_values, asked_or, asked_of, answer_values, asked_out}

-- ── lengths ──
decimal-within : (v : ℕ) → length (decimal_of v) ≤ 20
decimal-within v = omega (arith, decimal-length v, width_small v)

worded-length : (w : List ℕ) (v : ℕ) → length (worded w v) ≤ length w + 20
unfolding worded
worded-length w v = simp length-append (add-le-add (omega arith) (decimal-within v))

standing-length : (s : Standing) → length (standing_text s) ≤ 41
standing-length NotPending = omega arith
standing-length (Waits s) = let h : length (standing_text (Waits s)) ≤ 34 = worded-length _ s in omega (arith, h)
standing-length (Holds e) = worded-length _ e

lookup-length : (k : ℕ) (s : Standing) → length (lookup_text k s) ≤ 68
unfolding lookup_text
lookup-length k s = simp length-append (add-le-add (worded-length _ k) (standing-length s))

waits-length : (k j s : ℕ) → length (waits_text k j s) ≤ 80
unfolding waits_text
waits-length k j s = simp length-append (add-le-add (add-le-add (add-le-add (decimal-within k) (worded-length _ j)) (worded-length _ s)) (le_refl _))

holds-length : (k e : ℕ) → length (holds_text k e) ≤ 53
unfolding holds_text
holds-length k e = simp length-append (add-le-add (decimal-within k) (worded-length _ e))

chain-text-length : (v : Setting) (l : List Claim) → length (chain_text v l) ≤ 80 * length l
chain-text-length v [] = omega arith
chain-text-length v (c ∷ []) = omega (arith, holds-length c.ticket (end_of v c))
chain-text-length v (w ∷ (c ∷ l)) =
    omega (arith, length-append (waits_text w.ticket c.ticket (at w)) (chain_text v (c ∷ l)), waits-length w.ticket c.ticket (at w), chain-text-length v (c ∷ l))

is-on-length : (k : ℕ) → length (is_on_text k) ≤ 33
unfolding is_on_text
is-on-length k = simp length-append (add-le-add (worded-length _ k) (le_refl _))

-- A chain is no longer than the list of pending claims, of which there are at most 64.
why-length : (m : Model) (k : ℕ) → Invariant m → length m.pending ≤ 64 → length (why_text (setting_of m) m.pending k) ≤ 5127
why-length m k inv few =
    why-cases (λ text. length text ≤ 5127) m k inv
    (omega (arith, lookup-length k NotPending))
    (omega (arith, is-on-length k))
    (λ l h. omega (arith, length-append (bytes "ticket ") (chain_text (setting_of m) l), chain-text-length (setting_of m) l))

tickets-length : (j k : ℕ) → length (tickets_text j k) ≤ 53
unfolding tickets_text
tickets-length j k = simp length-append (add-le-add (worded-length _ j) (worded-length _ k))

common-length : (j k : ℕ) (s : Standing) (c : Common) → length (common_text j k s c) ≤ 86
common-length j k s Unknown = omega (arith, lookup-length (absent_of j k s) NotPending)
common-length j k s (Shared g) = simp length-append (add-le-add (tickets-length j k) (worded-length _ g))
common-length j k s Apart = simp length-append (omega (arith, tickets-length j k))

free-length : (n k : ℕ) → length (free_text n k) ≤ 55
unfolding free_text
free-length n k = simp length-append (add-le-add (add-le-add (decimal-within n) (worded-length _ k)) (le_refl _))

sentence-length : (m : Model) (q : Question) → Invariant m → length m.pending ≤ 64 → length (sentence_of m q) ≤ 5127
sentence-length m (Lookup k) inv few = omega (arith, lookup-length k (standing_of k m.pending))
sentence-length m (Why k) inv few = why-length m k inv few
sentence-length m (question.Common j k) inv few = omega (arith, common-length j k (standing_of j m.pending) (common_of j k m.pending))
sentence-length m Free inv few = omega (arith, free-length (free_of m) m.pool)

-- What is printed goes into 5,175 bytes.
pub text-length : (r : Replay) (q : Question) → Valid r.left → length (text_from r q) ≤ 5175
unfolding answer_text
text-length r q v =
    simp length-append
    (add-le-add (stop-length r.stop r.at 47 [] (omega arith) (omega arith)) (add-le-add (sentence-length r.left q v.settled v.ranged.ranges.few) (le_refl 1)))

-- Laid from the start of a buffer it is counted in full.
pub laid-all : (l : Replayed) (q : Question) → Valid l.table → {o p : List ℕ} {n : ℕ} → Put o 0 (text_from (replay_told l) q) n p
    → (n ≡ length (text_from (replay_told l) q)) × (p ≡ laid o 0 (text_from (replay_told l) q))
laid-all l q v w = put-short (omega (arith, text-length (replay_told l) q (subst Valid (left-told l) v))) w

-- ── a lent buffer ──
module _ (text out : List ℕ) where
  -- The answer on a text for it; it becomes p.
  abbrev pub Writes : Result ℕ AskError → List ℕ → Type 0
  Writes r p = (r ≡ written text out) × ((p ≡ lent_out text out) × (asked_values r ≡ lent_values text out))

  -- The number of what is answered is document 01's, and the count that of the text.
  written-values : asked_values (written text out) ≡ lent_values text out
  unfolding written space_number lent_values
  written-values = go (leb (length text) (length out))
    where
      go : (b : Bool) → asked_values (written_as (cond b 0 15) (length text)) ≡ record { number = cond b 0 15; bytes = cond (eqb (cond b 0 15) 0) (length text) 0 }
      go true = refl
      go false = refl

  writes : (r : Result ℕ AskError) (p : List ℕ) → r ≡ written text out → p ≡ lent_out text out → Writes r p
  writes r p e l = (e, (l, ap asked_values e ∙ written-values))

  pub written_none : length out < length text → Writes (Err NoRoom) out
  unfolding written
  written_none h = let l = lent_none text out h in writes (Err NoRoom) out (rw l.0) l.1

  pub written_all : (p : List ℕ) (r : ℕ) → length text ≤ length out → (r ≡ length text) × (p ≡ laid out 0 text) → Writes (Ok r) p
  unfolding written
  written_all p r h e =
      let l = lent-all text out p h e.1 in
      writes (Ok r) p (rw l.0 (ap (λ (n : ℕ). Ok n) e.0)) l.1

-- A count that is answered is one of the buffer.
written_count : (k m n : ℕ) → written_as k m ≡ Ok n → (k ≡ 0) × (m ≡ n)
written_count zero m n e = (refl, cc)
written_count (suc k) m n e = absurd (cc)

pub written-within : (text out : List ℕ) (n : ℕ) → written text out ≡ Ok n → n ≤ length out
unfolding written
written-within text out n e =
    let a = written_count (space_number text out) (length text) n e in
    omega (arith, a.1, (lent-known text out a.0).0)

-- ── a call ──
module _ (load line out : List ℕ) where
  -- The answer to the line; the lent buffer becomes p.
  abbrev pub Answers : Result ℕ AskError → List ℕ → Type 0
  Answers r p = (r ≡ asked_of load line out) × ((p ≡ asked_out load line out) × (asked_values r ≡ answer_values load line out))

  pub asked-none : None ≡ question_of line → Answers (Err NoSuch) out
  unfolding asked_of asked_out answer_values
  asked-none e = rw (sym e) (refl, (refl, refl))

  module _ (q : Question) (e : Some q ≡ question_of line) where
    asked-some : (a : Result ℕ AskError) (p : List ℕ) → Writes (text_of load q) out a p → Answers a p
    unfolding asked_of asked_out answer_values
    asked-some a p w = rw (sym e) w

    module _ (l : Replay) (j : l ≡ replay_of load) where
      is-text : text_from l q ≡ text_of load q
      unfolding text_of
      is-text = rw j refl

      -- Its length is n.
      module _ (n : ℕ) (c : n ≡ length (text_from l q)) where
        pub asked-short : length out < n → Answers (Err NoRoom) out
        asked-short h =
            let e : length (text_of load q) ≡ n = ap length (sym is-text) ∙ sym c in
            asked-some _ _ (written_none (text_of load q) out (omega arith))

        pub asked-all : n ≤ length out → (r : ℕ) (p : List ℕ) → (r ≡ length (text_from l q)) × (p ≡ laid out 0 (text_from l q)) → Answers (Ok r) p
        asked-all h r p w =
            let e : length (text_of load q) ≡ n = ap length (sym is-text) ∙ sym c in
            asked-some _ _ (written_all (text_of load q) out p r (omega arith) (rw is-text at w))

pub asked-within : (load line out : List ℕ) (n : ℕ) → asked_of load line out ≡ Ok n → n ≤ length out
unfolding asked_of
asked-within load line out n e = go (question_of line) e
  where
    go : (q : Option Question) → asked_or (Err NoSuch) (λ text. written text out) load q ≡ Ok n → n ≤ length out
    go None e = absurd (cc)
    go (Some q) e = written-within (text_of load q) out n e
