-- What the code has of a load while it lays it on a page: a `Draft`, and the bytes that are laid.
use Rattle.std.specs.Prelude.{List, [], ◌∷◌, ◌≡◌, ℕ, Result}
use Rattle.numbers.specs.declared.Refusal.{Refusal}
use Rattle.numerals.specs.declared.page.Page.{Page}
use Rattle.numerals.specs.Pages.{Lays}
use Rattle.load.specs.Answers.{written_values}
use Rattle.format.specs.Calls.{rig}
use Rattle.load.specs.Bytes.{calls_bytes, load_of}
use Rattle.replay.specs.Records.{unrigged}
use Rattle.generator.specs.declared.Draft.{Draft}
use Rattle.generator.specs.Workload.{Batch, after_record, all_groups, workload_answer, workload_out, workload_values}

-- Page p with draft w has become q with r: the records of a batch were laid, and the table and the clock are the batch's.
pub record Enters (p : Page) (w : Draft) (x : Batch) (q : Page) (r : Draft) : Type 0 where
  pub lays : Lays p (calls_bytes 1 x.records) q
  pub clock : r.clock ≡ x.clock
  pub left : r.table ≡ x.left

-- A draft of the rig alone.
pub record RigLaid (p q : Page) (r : Draft) : Type 0 where
  pub lays : Lays p (load_of 1 (rig all_groups ∷ [])) q
  pub clock : r.clock ≡ 0
  pub left : r.table ≡ after_record unrigged (rig all_groups)

-- The whole is answered, and stands in the lent buffer, as the public call promises.
pub record Answers (seed count : ℕ) (out : List ℕ) (r : Result ℕ Refusal) (q : List ℕ) : Type 0 where
  pub answer : r ≡ workload_answer seed count out
  pub buffer : q ≡ workload_out seed count out
  pub values : written_values r ≡ workload_values seed count out
