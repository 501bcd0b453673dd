-- The theorem of a run holds of the code: a run's answers and tables are those of the rules, of which frame_promises proves it.
use Rattle.std.proofs.Common.{◌≡◌, refl, sym, ◌∙◌, ap, subst, ℕ, List, ◌∷◌}
use Rattle.frames.specs.Calls.{Model, Call, claim, release, Answer, step, new}
use Rattle.frame_promises.specs.Ledger.{Turn, turns, table_after}
use Rattle.frame_promises.proofs.BoundedWait.{bounded-wait, new-tested}
use Rattle.frame_table.specs.Valid.{Valid}
use Rattle.frame_table.specs.Answers.{Answered, answer_of}
use Rattle.frame_table.proofs.Promised.{by_call, promised-valid, new-valid}
use Rattle.frame_runs.specs.Runs.{Promised, PromisedNew, Run, done, then, CodeBoundedWait, CodeNewTested, CodeTables}

-- ── one call ──
-- It is the rules' step.
made-is : (t u : Model) (c : Call) (r : Answered) → Promised t c r u → (answer_of r ≡ (step t c).answer) × (u ≡ (step t c).model)
made-is t u (claim g) r (b, p) =
    let e = p tt in
    (e.1 ∙ ap (λ (x : Model). (step x (claim g)).answer) b.before, sym b.after ∙ e.0 ∙ ap (λ (x : Model). (step x (claim g)).model) b.before)
made-is t u (release k) r (b, p) =
    let e = p tt in
    (e.1 ∙ ap (λ (x : Model). (step x (release k)).answer) b.before, sym b.after ∙ e.0 ∙ ap (λ (x : Model). (step x (release k)).model) b.before)

-- ── a run is the rules' run ──
-- Turn by turn.
run_is : {t v : Model} {cs : List Call} {ts : List Turn} → Run t cs ts v → (ts ≡ turns step t cs) × (v ≡ table_after step t cs)
unfolding turns table_after
run_is done = (refl, refl)
run_is (then {t} {u} {v} {c} {cs} {ts} r p q) =
    let m = made-is _ _ c r p in
    let ih = run_is q in (
      ap (λ (a : Answer). record { call = c; answer = a } ∷ ts) m.0
          ∙ ap (λ (l : List Turn). record { call = c; answer = (step t c).answer } ∷ l) (ih.0 ∙ ap (λ (x : Model). turns step x cs) m.1),
      ih.1 ∙ ap (λ (x : Model). table_after step x cs) m.1,
    )

-- A valid table stays so.
stays-valid : {t v : Model} {cs : List Call} {ts : List Turn} → Valid t → Run t cs ts v → Valid v
stays-valid h done = h
stays-valid h (then {t} {u} {v} {c} {cs} {ts} r p q) = stays-valid (subst Valid (sym (made-is _ _ c r p).1) (promised-valid h (by_call c))) q

-- From a new table: the turns, and the table that they left.
ran : (rig : ℕ) (cs : List Call) (first : Model × Answered) → PromisedNew rig first → (ts : List Turn) (t : Model) → Run first.0 cs ts t
    → (ts ≡ turns step (new rig).model cs) × (t ≡ table_after step (new rig).model cs)
ran rig cs first n ts t p =
    let m = (n tt).0 in
    let r = run_is p in
    (r.0 ∙ ap (λ (x : Model). turns step x cs) m, r.1 ∙ ap (λ (x : Model). table_after step x cs) m)

-- ── the theorem ──
-- So what holds of the rules holds of the code.
pub code-bounded-wait : (rig : ℕ) (calls : List Call) → CodeBoundedWait rig calls
code-bounded-wait rig calls = record {
  at_any_time = λ before rest e first n ts t p. rw (ran rig before first n ts t p).0 ((bounded-wait rig calls).at_any_time before rest e);
  at_any_call = λ before c rest e first n ts t p r u o.
      let a = ran rig before first n ts t p in
      let answer = (made-is _ _ c r o).0 ∙ ap (λ (x : Model). (step x c).answer) a.1 in
      rw (a.0, answer) ((bounded-wait rig calls).at_any_call before c rest e);
}

pub code-new-tested : CodeNewTested
code-new-tested rig r p = ap (λ (a : Answer). a.number) p.1 ∙ new-tested rig

pub code-tables : (rig : ℕ) (calls : List Call) → CodeTables rig calls
code-tables rig calls = record {
  valid = λ first n ts t p. stays-valid (subst Valid (sym (n tt).0) (new-valid rig)) p;
  steps = λ first n ts t p c r u o. made-is _ _ c r o;
}
