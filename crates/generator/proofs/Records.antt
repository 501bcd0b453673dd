-- The records of a workload: each by its fields, what it does to a table, its length, and that it can stand in a load.
use mathlib.Core.Path.{◌≡◌, refl, sym, ap, subst, ◌∙◌}
use mathlib.Core.Bool.{Bool, true, false}
use mathlib.Core.List.{List, [], ◌∷◌}
use Prim.Native.Nat.{ℕ, ◌+◌, ◌^◌, ◌<◌}
use native.Mathlib.Omega.{arith}
use lib.Dec.{eqb}
use lib.ListN.{length}
use Rattle.groups.proofs.Groups.{set-under}
use Rattle.rules.specs.Calls.{Model, Step, step, asking, new, claim as claimCall, release as releaseCall}
use Rattle.format.specs.declared.Call.{Call}
use Rattle.format.specs.Format.{format, has_in, has_kind, row_in, fields_of, defaults, default, field_widths, field_width, length_in, length_of, total}
use Rattle.format.specs.Calls.{numbers, made, with_value, bare, filled, call_of, rig, claim, release, Typed}
use Rattle.format.specs.Records.{record_of}
use Rattle.load.specs.Bytes.{call_bytes}
use Rattle.load.specs.Reading.{agree}
use Rattle.format.proofs.Calls.{kind-of-call, typed_call, call-keeps}
use Rattle.format.proofs.Records.{call-carried}
use Rattle.load.proofs.Bytes.{call_length}
use Rattle.load.proofs.Loads.{Sound}
use Rattle.replay.specs.Records.{says_call, step_of}
use Rattle.generator.specs.Workload.{all_groups}

-- ── by their fields ──
abbrev call_with : ℕ → ℕ → ℕ → ℕ → ℕ → Call
call_with k t g n j = record { kind = k; clock = t; groups = g; length = n; ticket = j; pool = 0; units = 0; client = 1; reserved = 0; limit = 0; grace = 0 }

pub record ByFields : Type 0 where
  pub bare : (k : ℕ) → bare k ≡ call_with k 0 0 0 0
  pub rig : (g : ℕ) → rig g ≡ call_with 1 0 g 0 0
  pub claim : (t g n : ℕ) → claim t g n ≡ call_with 2 t g n 0
  pub release : (t j : ℕ) → release t j ≡ call_with 3 t 0 0 j

pub by-fields : ByFields
unfolding format row_in fields_of defaults default numbers made with_value bare filled call_of
by-fields = record { bare = λ k. refl; rig = λ g. refl; claim = λ t g n. refl; release = λ t j. refl }

-- So the code makes them, from a bare call.
module _ (b : Call) where
  pub rig-is : (g : ℕ) → b ≡ bare 1
      → ◌≡◌ {A = Call} (record { kind = b.kind; clock = b.clock; groups = g; length = b.length; ticket = b.ticket; pool = b.pool; units = b.units; client = b.client; reserved = b.reserved; limit = b.limit; grace = b.grace }) (rig g)
  rig-is g e = rw (e ∙ by-fields.bare 1) (sym (by-fields.rig g))

  pub claim-is : (t g n : ℕ) → b ≡ bare 2
      → ◌≡◌ {A = Call} (record { kind = b.kind; clock = t; groups = g; length = n; ticket = b.ticket; pool = b.pool; units = b.units; client = b.client; reserved = b.reserved; limit = b.limit; grace = b.grace }) (claim t g n)
  claim-is t g n e = rw (e ∙ by-fields.bare 2) (sym (by-fields.claim t g n))

  pub release-is : (t j : ℕ) → b ≡ bare 3
      → ◌≡◌ {A = Call} (record { kind = b.kind; clock = t; groups = b.groups; length = b.length; ticket = j; pool = b.pool; units = b.units; client = b.client; reserved = b.reserved; limit = b.limit; grace = b.grace }) (release t j)
  release-is t j e = rw (e ∙ by-fields.bare 3) (sym (by-fields.release t j))

-- ── what they do ──
module _ (m : Model) where
  does : (c d : Call) (s : Step) → c ≡ d → step_of true m (record_of d) ≡ s → step_of true m (record_of c) ≡ s
  does c d s e f = ap (λ (x : Call). step_of true m (record_of x)) e ∙ f

  pub rig-does : (g : ℕ) → step_of true m (record_of (rig g)) ≡ new g 0 true
  unfolding step_of
  rig-does g = does (rig g) (call_with 1 0 g 0 0) _ (by-fields.rig g) refl

  pub claim-does : (t g n : ℕ) → step_of true m (record_of (claim t g n)) ≡ step m (claimCall t (asking g n))
  unfolding step_of says_call
  claim-does t g n = does (claim t g n) (call_with 2 t g n 0) _ (by-fields.claim t g n) refl

  pub release-does : (t j : ℕ) → step_of true m (record_of (release t j)) ≡ step m (releaseCall t j)
  unfolding step_of says_call
  release-does t j = does (release t j) (call_with 3 t 0 0 j) _ (by-fields.release t j) refl

-- ── in a load ──
-- A kind of edition 1 with so many fields, and its records of so many bytes behind their length.
record Shape (k count long : ℕ) : Type 0 where
  pub fields : length (fields_of 1 k) ≡ count
  pub kind : has_kind 1 k ≡ true
  pub size : length_of 1 k ≡ long

shapes : Shape 1 1 9 × Shape 2 3 21 × Shape 3 2 11
unfolding format has_in has_kind row_in fields_of field_widths field_width length_in length_of total
shapes = (record { fields = refl; kind = refl; size = refl }, record { fields = refl; kind = refl; size = refl }, record { fields = refl; kind = refl; size = refl })

module _ (k : ℕ) (vs : List ℕ) (n : ℕ) (s : Shape k (length vs) n) where
  long : length (call_bytes 1 (call_of 1 k vs)) ≡ 2 + n
  long =
      let e : length_of 1 (call_of 1 k vs).kind ≡ n = ap (length_of 1) (kind-of-call 1 k vs) ∙ s.size in
      call_length 1 (call_of 1 k vs) (ap (has_kind 1) (kind-of-call 1 k vs) ∙ s.kind) ∙ ap (λ (x : ℕ). 2 + x) e

  sound : (first : Bool) → agree (eqb k 1) first ≡ true → (t g l j : ℕ) → call_of 1 k vs ≡ call_with k t g l j → k < 2 ^ 8 → t < 2 ^ 64 → g < 2 ^ 64 → l < 2 ^ 32 → j < 2 ^ 16 → Sound 1 first (record_of (call_of 1 k vs))
  unfolding numbers field_widths
  sound first p t g l j e hk ht hg hl hj = record {
    place = ap (λ (x : ℕ). agree (eqb x 1) first) (kind-of-call 1 k vs) ∙ p;
    carried = call-carried 1 (call_of 1 k vs) ∙ call-keeps 1 k vs (sym s.fields) s.kind;
    typed = (subst Typed (sym e) (typed_call (call_with k t g l j) (hk, (ht, (hg, (hl, (hj, (omega arith, (omega arith, (omega arith, (omega arith, (omega arith, (omega arith, tt)))))))))))), tt);
  }

pub rig-length : (g : ℕ) → length (call_bytes 1 (rig g)) ≡ 11
rig-length g = long 1 (g ∷ []) 9 shapes.0

pub claim-length : (t g n : ℕ) → length (call_bytes 1 (claim t g n)) ≡ 23
claim-length t g n = long 2 (t ∷ g ∷ n ∷ []) 21 shapes.1

pub release_length : (t j : ℕ) → length (call_bytes 1 (release t j)) ≡ 13
release_length t j = long 3 (t ∷ j ∷ []) 11 shapes.2

pub rig-sound : Sound 1 true (record_of (rig all_groups))
rig-sound =
    sound 1 (all_groups ∷ []) 9 shapes.0 true refl 0 all_groups 0 0 (by-fields.rig all_groups) (omega arith) (omega arith) (set-under 64 0 (λ g. true)) (omega arith) (omega arith)

pub claim-sound : (t g n : ℕ) → t < 2 ^ 64 → g < 2 ^ 64 → n < 2 ^ 32 → Sound 1 false (record_of (claim t g n))
claim-sound t g n a b c = sound 2 (t ∷ g ∷ n ∷ []) 21 shapes.1 false refl t g n 0 (by-fields.claim t g n) (omega arith) a b c (omega arith)

pub release-sound : (t j : ℕ) → t < 2 ^ 64 → j < 2 ^ 16 → Sound 1 false (record_of (release t j))
release-sound t j a b = sound 3 (t ∷ j ∷ []) 11 shapes.2 false refl t 0 0 j (by-fields.release t j) (omega arith) a (omega arith) (omega arith) b
