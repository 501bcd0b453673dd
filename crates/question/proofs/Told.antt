-- Why a ticket waits, by claims and by what lookups tell of them: the same text, laid ticket by ticket. And the stop line.
use mathlib.Core.Bool.{true, false}
use mathlib.Core.List.{List, [], ◌∷◌, ◌++◌, map}
use mathlib.Core.Logic.{◌≢◌}
use mathlib.Core.Path.{◌≡◌, refl, sym, ap, ◌∙◌}
use Prim.Native.Nat.{ℕ, ◌+◌, ◌-◌, ◌≤◌, ◌<◌}
use native.Mathlib.Nat.{le_refl}
use native.Mathlib.Omega.{arith}
use lib.ListN.{length, take, drop, get_or}
use borrow.Author.Tests.{ne_eqb}
use Rattle.std.specs.Prelude.{Option, Some, None, Result, Ok, Err}
use Rattle.std.proofs.lemmas.List.{drop_all, take_all}
use Rattle.numbers.specs.declared.Refusal.{Refusal}
use Rattle.numbers.specs.Numbers.{unknown_number}
use Rattle.numbers.specs.Refusals.{number_of}
use Rattle.numerals.specs.Texts.{bytes}
use Rattle.numerals.proofs.Pages.{left_at}
use Rattle.rules.specs.declared.Claim.{Claim}
use Rattle.rules.specs.declared.Setting.{Setting}
use Rattle.rules.specs.declared.Standing.{Standing}
use Rattle.rules.specs.declared.Standing.TheVariants.{NotPending, Waits}
use Rattle.rules.specs.Lists.{◌∈◌, keep}
use Rattle.rules.specs.Claims.{on, at, end_of}
use Rattle.rules.specs.Plans.{Ascending}
use Rattle.rules.specs.Tests.{named}
use Rattle.rules.specs.Calls.{Model, setting_of, standing, standing_values, standing_of}
use Rattle.rules.specs.Chains.{ChainValues, chain, chain_from, chain_of, TrueChain}
use Rattle.rules.specs.Invariants.{Invariant}
use Rattle.rules.proofs.Bools.{by-test, clash}
use Rattle.rules.proofs.Lists.{Each, keep-e, here}
use Rattle.rules.proofs.Lookup.{lookup-found}
use Rattle.rules.proofs.Chains.{chain_length, model-chained}
use Rattle.table.specs.Outcomes.{chain_told}
use Rattle.table.specs.Valid.{Valid}
use Rattle.load.proofs.Answers.{number-some}
use Rattle.replay.specs.declared.Replayed.{Replayed}
use Rattle.replay.specs.declared.Stop.{Stop}
use Rattle.replay.specs.Replay.{replay_told}
use Rattle.replay.specs.StopLine.{stop_line, stop_or}
use Rattle.replay.proofs.StopLine.{stop-some}
use Rattle.question.specs.declared.questions.Question.{Question}
use Rattle.question.specs.Answers.{answer_text, text_from, lookup_text, waits_text, holds_text, chain_text, is_on_text, why_from, why_text}
use Rattle.question.specs.Told.{any_stop, start_told, tickets_told, unexplained, why_told, WhyTold}

-- ── the tickets of a chain ──
pub told_nothing : (start : ℕ → ℕ) (e : ℕ) (ks : List ℕ) → length ks < 1 → [] ≡ tickets_told start e ks
unfolding tickets_told
told_nothing start e [] h = refl
told_nothing start e (k ∷ ks) h = absurd (omega arith)

-- The first, and those behind it.
pub first_links : (ks : List ℕ) → 1 ≤ length ks → ks ≡ get_or ks 0 0 ∷ take (length ks - 1) (drop 1 ks)
first_links [] h = absurd (omega arith)
first_links (k ∷ ks) h = let e : length (k ∷ ks) - 1 ≡ length ks = omega arith in rw (e, take_all (length ks) ks (le_refl _)) refl

-- Ticket k, which starts at r, and the links of a list from place i on.
module _ (start : ℕ → ℕ) (e k : ℕ) (ks : List ℕ) (i : ℕ) where
  pub told_more : i < length ks → (r : ℕ) → r ≡ start k
      → tickets_told start e (k ∷ drop i ks) ≡ waits_text k (get_or ks i 0) r ++ tickets_told start r (get_or ks i 0 ∷ drop (i + 1) ks)
  unfolding tickets_told
  told_more h r q = rw (left_at ks i h, q) refl

  pub told-last : length ks ≤ i → tickets_told start e (k ∷ drop i ks) ≡ holds_text k e
  unfolding tickets_told
  told-last h = rw (drop_all _ _ h) refl

-- ── the claims of a chain ──
pub start-told : (ps : List Claim) (k : ℕ) (s : Standing) (r : ℕ) → s ≡ standing_of k ps → r ≡ (standing_values s).start → r ≡ start_told ps k
start-told ps k s r e q = q ∙ ap (λ (x : Standing). (standing_values x).start) e

module _ (v : Setting) (ps : List Claim) (a : Ascending ps) where
  start_is : (w : Claim) → w ∈ ps → on w ≡ false → start_told ps w.ticket ≡ at w
  start_is w m o =
      let e : standing w ≡ Waits (at w) = rw o refl in
      ap (λ (s : Standing). (standing_values s).start) (lookup-found ps a w m ∙ e)

  -- A chain of true links, whose first claim ends at e where it is on.
  chain-as : (e : ℕ) (w : Claim) (l : List Claim) → w ∈ ps → TrueChain v ps (w ∷ l) → (on w ≡ true → end_of v w ≡ e)
      → tickets_told (start_told ps) e (map (λ (c : Claim). c.ticket) (w ∷ l)) ≡ chain_text v (w ∷ l)
  unfolding tickets_told
  chain-as e w [] m t h = ap (holds_text w.ticket) (sym (h t))
  chain-as e w (c ∷ l) m t h =
      rw (start_is w m t.0) (ap (λ r. waits_text w.ticket c.ticket (at w) ++ r) (chain-as (at w) c l t.1.pending t.2 (λ o. t.1.ends)))

-- The three cases of the text.
pub why-cases : (P : List ℕ → Type 0) (m : Model) (k : ℕ) → Invariant m → P (lookup_text k NotPending) → P (is_on_text k)
    → ((l : List Claim) → length l ≤ length m.pending → P (bytes "ticket " ++ chain_text (setting_of m) l)) → P (why_text (setting_of m) m.pending k)
unfolding why_text
why-cases P m k inv f g h = go (keep (named k) m.pending) (λ c i. (keep-e (named k) m.pending i).0)
  where
    go : (cs : List Claim) → Each (λ c. c ∈ m.pending) cs → P (why_from (setting_of m) m.pending k cs)
    go [] i = f
    go (c ∷ cs) i =
        by-test (on c)
        (λ o. rw o g)
        (λ o. rw o (h (chain (setting_of m) m.pending c) (chain_length m.issued (setting_of m) m.pending inv c (i c here))))

pub why-told : WhyTold
unfolding why_text why_told chain_of unexplained
why-told m k inv = go (keep (named k) m.pending) (λ c i. (keep-e (named k) m.pending i).0)
  where
    go : (cs : List Claim) → Each (λ c. c ∈ m.pending) cs
        → let r = chain_from (setting_of m) m.pending cs in why_told m.pending k r.number r.tickets ≡ why_from (setting_of m) m.pending k cs
    go [] h = refl
    go (c ∷ cs) h =
        by-test (on c)
        (λ o. rw o refl)
        (λ o.
        let r = model-chained m inv c (h c here) o in
        rw (o, r.1) (ap (λ x. bytes "ticket " ++ x) (chain-as (setting_of m) m.pending inv.spaced.ascending 0 c r.0 (h c here) r.2.linked (λ q. clash q o))))

-- ── the text by what is told ──
module _ (m : Model) (k : ℕ) (v : Valid m) where
  told : (r : Result (List ℕ) Refusal) → chain_told r ≡ chain_of (setting_of m) k m.pending
      → why_told m.pending k (chain_told r).number (chain_told r).tickets ≡ why_text (setting_of m) m.pending k
  told r e = ap (λ (x : ChainValues). why_told m.pending k x.number x.tickets) e ∙ why-told m k v.settled

  pub told-chain : (ks : List ℕ) → chain_told (Ok ks) ≡ chain_of (setting_of m) k m.pending
      → bytes "ticket " ++ tickets_told (start_told m.pending) 0 ks ≡ why_text (setting_of m) m.pending k
  unfolding why_told
  told-chain ks e = told (Ok ks) e

  pub told_none : (f : Refusal) → chain_told (Err f) ≡ chain_of (setting_of m) k m.pending → unexplained k (number_of f) ≡ why_text (setting_of m) m.pending k
  unfolding why_told
  told_none f e =
      let z : number_of f ≢ 0 = λ i. omega (arith, number-some f) in
      rw (ne_eqb (number_of f) 0 z) at (told (Err f) e)

-- ── the text of a ticket that is told no chain ──
module _ (k n : ℕ) where
  pub told-unknown : n ≡ unknown_number → lookup_text k NotPending ≡ unexplained k n
  unfolding unexplained
  told-unknown e = rw e refl

  pub told-on : n ≢ unknown_number → is_on_text k ≡ unexplained k n
  unfolding unexplained
  told-on u = rw (ne_eqb n unknown_number u) refl

-- ── the stop line ──
stop-told : (s : Stop) → stop_line (number_of s.refusal) s.record ≡ stop_or (number_of s.refusal) s.record []
stop-told s = sym (stop-some (number_of s.refusal) s.record [] (λ e. omega (arith, number-some s.refusal)))

-- What a replay's struct tells, by its stop.
pub text-told : (r : Replayed) (q : Question) → any_stop r.stop ++ answer_text r.table q ≡ text_from (replay_told r) q
text-told r q = go r.stop
  where
    go : (s : Option Stop) → any_stop s ++ answer_text r.table q ≡ text_from (replay_told (record { table = r.table; stop = s })) q
    go None = refl
    go (Some s) = ap (λ l. l ++ answer_text r.table q) (stop-told s)

pub left-told : (r : Replayed) → r.table ≡ (replay_told r).left
left-told r = go r.stop
  where
    go : (s : Option Stop) → r.table ≡ (replay_told (record { table = r.table; stop = s })).left
    go None = refl
    go (Some s) = refl
