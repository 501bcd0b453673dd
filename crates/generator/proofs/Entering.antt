-- The records of a batch laid on a page, and the table that they leave: what the code has after each call is what the batch says.
use mathlib.Core.Path.{◌≡◌, refl, sym, ap, ◌∙◌}
use mathlib.Core.Bool.{true}
use mathlib.Core.List.{[], ◌∷◌, append-nil}
use Prim.Native.Nat.{ℕ, ◌%◌, ◌^◌, ◌<◌}
use lib.ListN.{length}
use borrow.Author.Tests.{eq-eqb, ne_eqb}
use Rattle.std.specs.Prelude.{Some, None}
use Rattle.numerals.specs.declared.page.Page.{Page}
use Rattle.numerals.specs.Pages.{Lays}
use Rattle.numerals.proofs.Pages.{lays_then, lays_none}
use Rattle.groups.specs.Groups.{set_from}
use Rattle.rules.specs.declared.Request.{Request}
use Rattle.rules.specs.Calls.{Model, Step, step, asking, new, claim as claimCall, release as releaseCall}
use Rattle.format.specs.declared.Call.{Call}
use Rattle.format.specs.Calls.{rig, claim, release}
use Rattle.load.specs.Bytes.{records_bytes, load_bytes, call_bytes, calls_bytes}
use Rattle.load.proofs.Bytes.{calls-append}
use Rattle.replay.specs.Records.{unrigged}
use Rattle.generator.specs.declared.Draft.{Draft}
use Rattle.generator.specs.declared.Draws.{Draws}
use Rattle.generator.specs.Workload.{Batch, clock_for, groups_for, length_for, claim_batch, lowest_on, release_batch, followed_by, batch_of, all_groups}
use Rattle.generator.specs.Drafts.{Enters, RigLaid}
use Rattle.generator.proofs.Records.{claim-does, release-does, rig-does}

-- One record.
one-bytes : (c : Call) → calls_bytes 1 (c ∷ []) ≡ call_bytes 1 c
unfolding records_bytes
one-bytes c = append-nil (call_bytes 1 c)

lays_one : {p q : Page} (b c : Call) → b ≡ c → Lays p (call_bytes 1 b) q → Lays p (calls_bytes 1 (c ∷ [])) q
lays_one b c e l = rw (one-bytes c, sym e) l

module _ {p q : Page} (w : Draft) (b : Call) (m : Model) (l : Lays p (call_bytes 1 b) q) where
  -- A claim.
  pub claim-enters : (d : Draws) (t g n : ℕ) (ask : Request) → t ≡ clock_for w.clock d → g ≡ groups_for d → n ≡ length_for d → b ≡ claim t g n
      → ask ≡ asking g n → m ≡ (step w.table (claimCall t ask)).model
      → Enters p w (claim_batch w.clock w.table d) q (record { table = m; clock = t })
  claim-enters d t g n ask et eg en e a v = rw (← et, ← eg, ← en) (record {
    lays = lays_one b (claim t g n) e l;
    clock = refl;
    left = v ∙ ap (λ (x : Request). (step w.table (claimCall t x)).model) a ∙ ap (λ (s : Step). s.model) (sym (claim-does w.table t g n));
  })

  -- A release.
  pub release-enters : (k : ℕ) → lowest_on w.table ≡ Some k → b ≡ release w.clock k → m ≡ (step w.table (releaseCall w.clock k)).model
      → Enters p w (release_batch w.clock w.table) q (record { table = m; clock = w.clock })
  release-enters k o e v = rw o (record {
    lays = lays_one b (release w.clock k) e l;
    clock = refl;
    left = v ∙ ap (λ (s : Step). s.model) (sym (release-does w.table w.clock k));
  })

-- No release.
pub none-enters : (p : Page) (w : Draft) → length p.out.now < 2 ^ 64 → lowest_on w.table ≡ None → Enters p w (release_batch w.clock w.table) p w
unfolding records_bytes
none-enters p w h o = rw o (record { lays = lays_none p h; clock = refl; left = refl })

-- ── a batch ──
module _ {p q : Page} {w r : Draft} (d : Draws) (e : Enters p w (claim_batch w.clock w.table d) q r) where
  pub batch-even : (d.last % 2 ≡ 1 → ⊥) → Enters p w (batch_of w.clock w.table d) q r
  unfolding batch_of
  batch-even z = rw (ne_eqb (d.last % 2) 1 z) e

  pub batch-odd : {s : Page} {u : Draft} → d.last % 2 ≡ 1 → Enters q r (release_batch r.clock r.table) s u → Enters p w (batch_of w.clock w.table d) s u
  unfolding batch_of
  batch-odd {s} {u} odd f =
      let x : Batch = claim_batch w.clock w.table d in
      let y : Batch = release_batch r.clock r.table in
      let both : Enters p w (followed_by x y) s u = record {
        lays = rw (calls-append 1 x.records y.records) (lays_then e.lays f.lays);
        clock = f.clock;
        left = f.left;
      } in
      rw (eq-eqb (d.last % 2) 1 odd) (rw (e.clock, e.left) at both)

-- ── the beginning ──
all-groups : all_groups ≡ 18446744073709551615
unfolding set_from
all-groups = refl

pub rig-begins : {p q s : Page} (b : Call) (g : ℕ) (m : Model) → g ≡ 18446744073709551615 → Lays p (1 ∷ []) q → Lays q (call_bytes 1 b) s → b ≡ rig g
    → m ≡ (new g 0 true).model → RigLaid p s (record { table = m; clock = 0 })
unfolding load_bytes
rig-begins b g m k f l e v =
    let n : g ≡ all_groups = k ∙ sym all-groups in
    record {
      lays = lays_then f (lays_one b (rig all_groups) (e ∙ ap rig n) l);
      clock = refl;
      left = v ∙ ap (λ (x : ℕ). (new x 0 true).model) n ∙ ap (λ (x : Step). x.model) (sym (rig-does unrigged all_groups));
    }
