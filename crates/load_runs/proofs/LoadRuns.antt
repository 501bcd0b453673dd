-- A load is a run: record by record, listing, replay and the turns of the run go side by side.
use mathlib.Core.Path.{◌≡◌, refl, sym, ◌∙◌, ap, subst}
use mathlib.Core.Logic.{◌⊎◌, inl, inr, ⊎_elim, ◌≢◌}
use mathlib.Core.Bool.{Bool, false, ◌&&◌}
use mathlib.Core.List.Memᴰ
use mathlib.Core.List.{List, [], ◌∷◌, ◌++◌, map, append_assoc}
use Prim.Native.Nat.{ℕ, zero, suc, ◌+◌, ◌<◌}
use native.Mathlib.Omega.{arith}
use lib.Dec.{leb, eqb}
use lib.ListN.{length}
use borrow.Author.Tests.{le-leb, eq-eqb, ne_eqb, leb-true}
use Rattle.numbers.specs.Numbers.{dark_number, edition_number, overlong_number}
use Rattle.rules.specs.Lists.{◌∈◌}
use Rattle.rules.specs.Calls.{Model, Call as TableCall, Answer, Step, unchanged, advance, plain, finish, join, admit, step, blank, new}
use Rattle.rules.proofs.Bools.{by-test, and_l, and_r}
use Rattle.rules.proofs.Lists.{here, there, none}
use Rattle.rules.proofs.Calls.{leaves-clock, step-cases, new-cases}
use Rattle.promises.specs.Ledger.{Turn, turns, table_after}
use Rattle.promises.specs.Runs.{by-new}
use Rattle.promises.proofs.Promises.{promises}
use Rattle.format.specs.Records.{Record}
use Rattle.load.specs.Reading.{walk, open_number}
use Rattle.replay.specs.Records.{says_call, alone_in, step_of, ending, unrigged}
use Rattle.replay.specs.StopLine.{stop_or}
use Rattle.replay.specs.Replay.{replay_from, replay_in, replay_of}
use Rattle.replay.specs.RecordKinds.{Says, says-claim, says-release, says-withdrawal, says-clock, says-declaration, says-grace, RigThenCalls, no_record, rig-first}
use Rattle.replay.proofs.RecordKinds.{records-say-calls}
use Rattle.listing.specs.Lines.{header, line_of, on_lines}
use Rattle.listing.specs.Text.{entry_of, lines_from, lines_of, listing_of}
use Rattle.load_runs.specs.LoadRuns.{turn_lines, turns_lines, Ends, rig_start, Ran, NotRun, LoadRuns}

-- ── one record ──
-- What grants go by is the call's clock: where there are any it is the table's.
turn-entry : (k : ℕ) (m : Model) (c : TableCall) → entry_of k (step m c) ≡ turn_lines k (record { call = c; answer = (step m c).answer })
unfolding entry_of on_lines admit finish join advance
turn-entry k m =
    step-cases (λ c s. entry_of k s ≡ turn_lines k (record { call = c; answer = s.answer })) m (λ c n i. refl) (λ t ask a. refl)
    (λ c t j q o v. ap (λ (n : ℕ). line_of k 0 j t ++ on_lines n (finish q (plain j t)).answer.grants) ((leaves-clock v).0 ∙ sym (leaves-clock v).1))
    (λ c r l d. refl) (λ n d. refl)

-- Behind the rig a record ends the listing by its own number, where that is one that does.
ends-within : (k n : ℕ) → k ≢ 1 → ending k n ≢ 0 → Ends n × (ending k n ≡ n)
unfolding ending
ends-within k n h e =
    by-test (leb edition_number n && leb n overlong_number)
    (λ b. ((leb-true edition_number n (and_l _ _ b), leb-true n overlong_number (and_r (leb edition_number n) _ b)), rw b))
    (λ b. absurd (e (rw (b, ne_eqb k 1 h) (by-test (eqb n dark_number) (λ q. rw q) (λ q. rw q)))))

goes_on : (k n : ℕ) → ending k n ≡ 0 → Ends n → ⊥
unfolding ending
goes_on k n e h =
    let z : n ≡ 0 = rw (le-leb edition_number n h.0, le-leb n overlong_number h.1) at e in
    omega (arith, h.0)

-- ── the records behind the rig ──
record RanFrom (alone : Bool) (k : ℕ) (m : Model) (cs : List Record) (n : ℕ) : Type 0 where
  records : List Record
  rest : List Record
  read : cs ≡ records ++ rest
  lines : lines_from alone k m cs n ≡ turns_lines k (turns step m (map says_call records)) ++ stop_or (replay_from alone k m cs n).stop (replay_from alone k m cs n).at []
  left : (replay_from alone k m cs n).left ≡ table_after step m (map says_call records)
  none_ends : (t : Turn) → t ∈ turns step m (map says_call records) → Ends t.answer.number → ⊥
  all_run : ((rest ≡ []) × ((replay_from alone k m cs n).stop ≡ n))
      ⊎ ((c : Record) × (ds : List Record) × (rest ≡ c ∷ ds) × (let j = (step (replay_from alone k m cs n).left (says_call c)).answer.number in Ends j × ((replay_from alone k m cs n).stop ≡ j)))
  stop_at : (replay_from alone k m cs n).stop ≢ 0 → (replay_from alone k m cs n).at ≡ k + length records

says-no-rig : {c : Record} {t : TableCall} → Says c t → eqb c.call.kind 1 ≡ false
says-no-rig {c} (says-claim e) = ne_eqb c.call.kind 1 (λ q. omega arith)
says-no-rig {c} (says-release e) = ne_eqb c.call.kind 1 (λ q. omega arith)
says-no-rig {c} (says-withdrawal e) = ne_eqb c.call.kind 1 (λ q. omega arith)
says-no-rig {c} (says-clock e) = ne_eqb c.call.kind 1 (λ q. omega arith)
says-no-rig {c} (says-declaration e) = ne_eqb c.call.kind 1 (λ q. omega arith)
says-no-rig {c} (says-grace e) = ne_eqb c.call.kind 1 (λ q. omega arith)

ran-from : (alone : Bool) (k : ℕ) (m : Model) (cs : List Record) (n : ℕ) → 1 < k → ((c : Record) → c ∈ cs → Says c (says_call c)) → RanFrom alone k m cs n
unfolding lines_from replay_from turns_lines turns table_after step_of
ran-from alone k m [] zero l h =
    record { records = []; rest = []; read = refl; lines = refl; left = refl; none_ends = λ t i. none i; all_run = inl (refl, refl); stop_at = λ z. absurd (z refl) }
ran-from alone k m [] (suc n) l h =
    record { records = []; rest = []; read = refl; lines = refl; left = refl; none_ends = λ t i. none i; all_run = inl (refl, refl); stop_at = λ z. omega arith }
ran-from alone k m (c ∷ cs) n l h =
    let e : step_of alone m c ≡ step m (says_call c) = rw (says-no-rig (h c here)) in
    go (ending k (step m (says_call c)).answer.number) refl e (ran-from alone (k + 1) (step m (says_call c)).model cs n (omega arith) (λ d i. h d (there i)))
  where
    go : (j : ℕ) → j ≡ ending k (step m (says_call c)).answer.number → step_of alone m c ≡ step m (says_call c) → RanFrom alone (k + 1) (step m (says_call c)).model cs n → RanFrom alone k m (c ∷ cs) n
    go zero q e r = record {
      records = c ∷ r.records;
      rest = r.rest;
      read = ap (λ (x : List Record). c ∷ x) r.read;
      lines = rw (e, sym q)
          (let f = replay_from alone (k + 1) (step m (says_call c)).model cs n in
          let first : List ℕ = entry_of k (step m (says_call c)) in
          let later : List ℕ = turns_lines (k + 1) (turns step (step m (says_call c)).model (map says_call r.records)) in
          let stop : List ℕ = stop_or f.stop f.at [] in
          ap (λ (x : List ℕ). first ++ x) r.lines ∙ sym (append_assoc first later stop) ∙ ap (λ (x : List ℕ). (x ++ later) ++ stop) (turn-entry k m (says_call c)));
      left = rw (e, sym q) r.left;
      none_ends = λ t i f. ⊎_elim (λ j. goes_on k _ (sym q) (subst (λ (x : Turn). Ends x.answer.number) j f)) (λ j. r.none_ends t j f) (Memᴰ.cases_cons i);
      all_run = rw (e, sym q) r.all_run;
      stop_at = rw (e, sym q) (λ z. omega (arith, r.stop_at z));
    }
    go (suc j) q e r = record {
      records = [];
      rest = c ∷ cs;
      read = refl;
      lines = rw (e, sym q);
      left = rw (e, sym q);
      none_ends = λ t i. none i;
      all_run = inr (c, cs, refl, rw (e, sym q) (let x = ends-within k (step m (says_call c)).answer.number (λ z. omega arith) (λ z. omega (arith, q, z)) in (x.0, q ∙ x.1)));
      stop_at = rw (e, sym q) (λ z. omega arith);
    }

-- ── the whole ──
module _ (load : List ℕ) (opens : open_number load ≡ 0) where
  abbrev alone : Bool
  alone = alone_in load

  unread : (walk load 1).records ≡ [] → NotRun load
  unfolding listing_of lines_of lines_from replay_of replay_in replay_from
  unread e = go (walk load 1).stop refl
    where
      go : (n : ℕ) → n ≡ (walk load 1).stop → NotRun load
      go zero q = record { listing = rw (opens, e, sym q); left = rw (opens, e, sym q) }
      go (suc n) q = record { listing = rw (opens, e, sym q); left = rw (opens, e, sym q) }

  module _ (rig : Record) (cs : List Record) (e : (walk load 1).records ≡ rig ∷ cs) (k : rig.call.kind ≡ 1) (h : (c : Record) → c ∈ cs → Says c (says_call c)) where
    abbrev made : Step
    made = new rig.call.groups rig.call.pool (alone_in load)

    made-is : step_of (alone_in load) unrigged rig ≡ made
    unfolding step_of
    made-is = rw (eq-eqb rig.call.kind 1 k)

    dark-rig : made ≡ unchanged (blank 0 0 (alone_in load)) 1 → NotRun load
    unfolding listing_of lines_of lines_from replay_of replay_in replay_from ending
    dark-rig q = record { listing = rw (opens, e, made-is, q); left = rw (opens, e, made-is, q) }

    module _ (a : made.answer ≡ (unchanged unrigged 0).answer) where
      abbrev stop : ℕ
      stop = (walk load 1).stop

      lines_are : listing_of load ≡ header ++ (line_of 1 0 0 0 ++ lines_from (alone_in load) 2 made.model cs stop)
      unfolding listing_of lines_of lines_from ending entry_of on_lines
      lines_are = rw (opens, e, made-is, a) (ap (λ (x : List ℕ). header ++ x) (append_assoc (line_of 1 0 0 0) [] (lines_from (alone_in load) 2 made.model cs stop)))

      replay-is : replay_of load ≡ replay_from (alone_in load) 2 made.model cs stop
      unfolding replay_of replay_in replay_from ending
      replay-is = rw (opens, e, made-is, a)

      good-rig : Ran load
      good-rig =
          let r = ran-from (alone_in load) 2 made.model cs stop (omega arith) h in
          record {
            rig = rig;
            records = r.records;
            rest = r.rest;
            read = e ∙ ap (λ (x : List Record). rig ∷ x) r.read;
            taken = ap (λ (x : Answer). x.number) a;
            listing = lines_are ∙ ap (λ (x : List ℕ). header ++ (line_of 1 0 0 0 ++ x)) (rw replay-is r.lines);
            left = rw replay-is r.left;
            none_ends = r.none_ends;
            all_run = rw replay-is r.all_run;
            stop_at = rw replay-is r.stop_at;
            promised = promises (rig_start load rig) (by-new rig.call.groups rig.call.pool (alone_in load)) (map says_call r.records);
          }

    rigged : Ran load ⊎ NotRun load
    rigged =
        new-cases (λ (s : Step). made ≡ s → Ran load ⊎ NotRun load) rig.call.groups rig.call.pool (alone_in load)
        (λ d q. inr (dark-rig q)) (λ d q. inl (good-rig (ap (λ (s : Step). s.answer) q))) refl

run_of : (load : List ℕ) → (n : ℕ) → n ≡ open_number load → (cs : List Record) → (walk load 1).records ≡ cs → RigThenCalls cs → Ran load ⊎ NotRun load
unfolding listing_of replay_of
run_of load (suc n) o cs e r = inr (record { listing = rw (sym o); left = rw (sym o) })
run_of load zero o cs e no_record = inr (unread load (sym o) e)
run_of load zero o cs e (rig-first rig ds k h) = rigged load (sym o) rig ds e k h

pub load-runs : LoadRuns
load-runs load = run_of load (open_number load) refl (walk load 1).records refl (records-say-calls load)
