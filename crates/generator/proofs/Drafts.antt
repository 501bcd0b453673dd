-- The loop over the claims: what is laid so far, with what the claims left will lay, gives the whole load.
use mathlib.Core.Path.{◌≡◌, refl, ap, ◌∙◌}
use mathlib.Core.List.{List, [], ◌∷◌, ◌++◌}
use Prim.Native.Nat.{ℕ, suc, ◌+◌, ◌*◌, ◌^◌, ◌<◌}
use native.Mathlib.Omega.{arith}
use lib.ListN.{length}
use Rattle.numerals.specs.declared.page.Page.{Page}
use Rattle.numerals.specs.Pages.{Lays}
use Rattle.numerals.proofs.Pages.{Laying, laying-start, laying-more, laying-end}
use Rattle.rules.specs.Calls.{Model}
use Rattle.format.specs.Calls.{rig}
use Rattle.load.specs.Bytes.{records_bytes, load_bytes, calls_bytes, load_of}
use Rattle.load.proofs.Bytes.{calls-append}
use Rattle.lcg.specs.Draws.{state_in}
use Rattle.replay.specs.Records.{unrigged}
use Rattle.generator.specs.declared.Draft.{Draft}
use Rattle.generator.specs.Workload.{Batch, draws_from, batch_of, records_from, all_groups, after_record, workload_calls, workload_of}
use Rattle.generator.specs.Drafts.{RigLaid, Enters}
use Rattle.generator.proofs.Batches.{batch-clock}

-- What n claims lay from a state on, after a claim at clock t and in table m.
abbrev left : ℕ → ℕ → ℕ → Model → List ℕ
left n s t m = calls_bytes 1 (records_from n s t m)

none : (s t : ℕ) (m : Model) → left 0 s t m ≡ []
unfolding records_from records_bytes
none s t m = refl

more : (n s t : ℕ) (m : Model) → left (suc n) s t m ≡ calls_bytes 1 (batch_of t m (draws_from s)).records ++ left n (state_in 5 s) (batch_of t m (draws_from s)).clock (batch_of t m (draws_from s)).left
unfolding records_from
more n s t m = calls-append 1 (batch_of t m (draws_from s)).records _

whole : (seed count : ℕ) → workload_of seed count ≡ load_of 1 (rig all_groups ∷ []) ++ left count seed 0 (after_record unrigged (rig all_groups))
unfolding workload_of workload_calls load_bytes
whole seed count = ap (λ (r : List ℕ). 1 ∷ r) (calls-append 1 (rig all_groups ∷ []) (records_from count seed 0 (after_record unrigged (rig all_groups))))

-- As a draft says it, whose clock and table these are.
left-as : (xs : List ℕ) (n s : ℕ) (r : Draft) (t : ℕ) (m : Model) → r.clock ≡ t → r.table ≡ m → xs ++ left n s t m ≡ xs ++ left n s r.clock r.table
left-as xs n s r t m e f = rw (e, f) refl

pub record Drafting (seed count : ℕ) (o : Page) (n s : ℕ) (w : Draft) (p : Page) : Type 0 where
  pub early : w.clock + 7 * n < 2 ^ 63
  pub laying : Laying o (workload_of seed count) p (left n s w.clock w.table)

pub drafting-start : {o q : Page} {r : Draft} (seed count : ℕ) → length o.out.now < 2 ^ 64 → count < 2 ^ 32 → RigLaid o q r → Drafting seed count o count seed r q
drafting-start {r = r} seed count h c b =
    let e = b.clock in
    record {
      early = rw e (omega arith);
      laying = laying-more _ _ (laying-start h refl) (whole seed count ∙ left-as _ count seed r _ _ b.clock b.left) b.lays;
    }

pub drafting-step : {o p q : Page} {w r : Draft} (seed count n s : ℕ) → Drafting seed count o (suc n) s w p → Enters p w (batch_of w.clock w.table (draws_from s)) q r
    → Drafting seed count o n (state_in 5 s) r q
drafting-step {w = w} {r = r} seed count n s d e =
    let x : Batch = batch_of w.clock w.table (draws_from s) in
    let k : r.clock ≡ x.clock = e.clock in
    let f = d.early in
    let l = batch-clock w.clock w.table (draws_from s) in
    record {
      early = omega arith;
      laying = laying-more _ _ d.laying (more n s w.clock w.table ∙ left-as _ n (state_in 5 s) r _ _ e.clock e.left) e.lays;
    }

pub drafting-end : {o p : Page} (seed count s : ℕ) (w : Draft) → Drafting seed count o 0 s w p → Lays o (workload_of seed count) p
drafting-end seed count s w d = laying-end d.laying (none s w.clock w.table)
