-- Laws of the reader: what stands at a position, by cases; a walk without its count of items; what the tests of a load say.
use Prim.Native.Nat.{ℕ, zero, suc, ◌+◌, ◌-◌, ◌*◌, ◌/◌, ◌≤◌, ◌<◌}
use mathlib.Core.Bool.{true, false, not, ◌||◌}
use mathlib.Core.List.{List, [], ◌∷◌}
use mathlib.Core.Path.{◌≡◌, refl, sym, ap, ◌∙◌}
use native.Mathlib.Omega.{arith}
use native.Mathlib.Nat.{le-div_iff_mul-le, div-le_self}
use lib.Dec.{ltb, eqb}
use borrow.Author.Tests.{ltb-false, eqb-true, eqb-false, lt-ltb, le-ltb, eq-eqb, ne_eqb, not-false}
use lib.ListN.{length, take, drop, get_or, length-drop, drop_of_length-le}
use lib.Seq.{get_or-drop, drop-drop, take_all}
use Rattle.std.specs.Prelude.{Some, None, Ok, Err}
use Rattle.numbers.specs.declared.Refusal.{Refusal}
use Rattle.numbers.specs.declared.Refusal.TheVariants.{Short, Misfit}
use Rattle.numbers.specs.Numbers.{or_else}
use Rattle.numbers.specs.Refusals.{number_of}
use Rattle.format.specs.declared.Call.{Call}
use Rattle.format.specs.Format.{the_pool, the_units, format, defaults, default, known, has_kind, widths, length_of, length_with, least_length}
use Rattle.format.specs.Calls.{numbers, value_of, call_of}
use Rattle.format.specs.Records.{Record, record_of, records_of, calls_of, member_count}
use Rattle.load.specs.Bytes.{field_values, members_read, load_bytes}
use Rattle.load.specs.Answers.{refusal_of, Answer, one_record, the_end, item_values}
use Rattle.load.specs.Reading.{is_in_place, length_field, kind_field, short, misfit, call_in, count_in, read_at, edition_of, record_at, NoMembers, item_at, record_number, record_values, ItemValued, Edition1Bare, OlderClient1, open_number, Walk, ended, onto, walk_in, walk, unless_refused, reading, load_number, WalkOfCalls, ReadingTested}
use Rattle.format.proofs.Format.{neither, passed, either, has, all_rows, least-some}
use Rattle.format.proofs.Calls.{kind-of-call, older-lacks, older-call-client}
use Rattle.format.proofs.Records.{with_none, with-total, with-least}

-- ── what stands at a position ──
pub read-record : (e at : ℕ) (bs : List ℕ) → 2 + length_field bs ≤ length bs → misfit e at (length_field bs) (kind_field bs) (count_in e bs) ≡ false
    → read_at e at bs ≡ one_record (call_in e bs) (at + (2 + length_field bs))
unfolding read_at
read-record e at bs h m =
    let z : eqb (length bs) 0 ≡ false = ne_eqb (length bs) 0 (λ e. omega arith) in
    rw (z, le-ltb (length bs) (2 + length_field bs) h, m)

-- A record stands at a position.
pub record Stands (s : List ℕ) (at : ℕ) (c : Call) (next : ℕ) : Type 0 where
  pub whole : 2 + length_field (drop at s) ≤ length (drop at s)
  pub fits : misfit (edition_of s) at (length_field (drop at s)) (kind_field (drop at s)) (count_in (edition_of s) (drop at s)) ≡ false
  pub call : call_in (edition_of s) (drop at s) ≡ c
  pub behind : at + (2 + length_field (drop at s)) ≡ next

-- By what stands at a position: a record, nothing left at the end, and a refusal.
abbrev Known : List ℕ → ℕ → Answer → Type 0
Known s at (Ok (Some item)) = Stands s at item.call item.next
Known s at (Ok None) = drop at s ≡ []
Known s at (Err r) = Unit {0}

item-known : (s : List ℕ) (at : ℕ) → Known s at (item_at s at) × (item_values at (item_at s at) ≡ record_values s at)
unfolding item_at read_at record_number record_values
item-known s at =
    let bs = drop at s in
    either (eqb (length bs) 0)
    (λ p. rw p (nothing bs (eqb-true (length bs) 0 p), refl))
    (λ p. either (short bs)
    (λ q. rw (p, q) (tt, refl))
    (λ q. either (misfit (edition_of s) at (length_field bs) (kind_field bs) (count_in (edition_of s) bs))
    (λ r. rw (p, q, r) (tt, refl))
    (λ r. rw (p, q, r) (record { whole = ltb-false (length bs) (2 + length_field bs) q; fits = r; call = refl; behind = refl }, refl))))
  where
    nothing : (bs : List ℕ) → length bs ≡ 0 → bs ≡ []
    nothing [] h = refl
    nothing (b ∷ bs) h = absurd (omega arith)

pub item-valued : ItemValued
item-valued s at = (item-known s at).1

-- An item that stands there, with its values: what `record_at` promises.
pub with_values : (s : List ℕ) (at : ℕ) (r : Answer) → r ≡ item_at s at → (r ≡ item_at s at) × (item_values at r ≡ record_values s at)
with_values s at r e = (e, ap (item_values at) e ∙ item-valued s at)

pub stands : (s : List ℕ) (at : ℕ) (c : Call) (next : ℕ) → item_at s at ≡ one_record c next → Stands s at c next
stands s at c next h = rw h at (item-known s at).0

pub step_end : (s : List ℕ) (at : ℕ) → item_at s at ≡ the_end → drop at s ≡ []
step_end s at h = rw h at (item-known s at).0

-- A record is after its position and inside the load.
pub step-next : (s : List ℕ) (at : ℕ) (c : Call) (next : ℕ) → item_at s at ≡ one_record c next → (at < next) × (next ≤ length s)
step-next s at c next h =
    let r = stands s at c next h in
    let l = length-drop at s in
    (omega (arith, r.whole, r.behind), omega (arith, r.whole, r.behind))

pub step_past : (s : List ℕ) (at : ℕ) → length s ≤ at → item_at s at ≡ the_end
unfolding item_at read_at
step_past s at h = rw (drop_of_length-le s {i = at} h)

-- A record that fits has the length of its kind, and is in its place.
pub misfit-not : (e at n k count : ℕ) → misfit e at n k count ≡ false → (has_kind e k ≡ true) × (n ≡ length_with e k count) × (is_in_place k at ≡ true)
unfolding misfit
misfit-not e at n k count h =
    let a = neither (not (has_kind e k)) (not (eqb n (length_with e k count)) || not (is_in_place k at)) h in
    let b = neither (not (eqb n (length_with e k count))) (not (is_in_place k at)) a.1 in
    (not-false _ a.0, eqb-true n (length_with e k count) (not-false _ b.0), not-false _ b.1)

pub misfit-none : (e at k count : ℕ) → has_kind e k ≡ true → is_in_place k at ≡ true → misfit e at (length_with e k count) k count ≡ false
unfolding misfit
misfit-none e at k count h q = rw (h, eq-eqb (length_with e k count) (length_with e k count) refl, q)

-- A record of no bytes does not fit.
pub misfit-empty : (e at n k count : ℕ) → n ≡ 0 → misfit e at n k count ≡ true
misfit-empty e at n k count z =
    either (misfit e at n k count) (λ m. m) (λ m. let q = misfit-not e at n k count m in absurd (omega (arith, q.1, with-total e k count q.0)))

-- No kind so far has members.
pub no-members : NoMembers
unfolding member_count members_read
no-members s at c = refl

-- A field that no edition before `first` has reads as its default there.
older-reads : (f first : ℕ) → 0 < f → all_rows (λ e k fs. not (ltb e first) || not (has f fs)) format ≡ true
    → (s : List ℕ) (at : ℕ) (c : Call) (next : ℕ) → edition_of s < first → item_at s at ≡ one_record c next → value_of f c ≡ default f
older-reads f first z t s at c next l h = ap (value_of f) (sym (stands s at c next h).call) ∙ older-lacks f first z t (edition_of s) (kind_field (drop at s)) _ l

pub edition-1-bare : Edition1Bare
unfolding all_rows format has value_of numbers defaults default
edition-1-bare s at c next e h =
    (older-reads the_pool 2 (omega arith) refl s at c next (omega arith) h, older-reads the_units 2 (omega arith) refl s at c next (omega arith) h)

pub older-client-1 : OlderClient1
older-client-1 s at c next e h = ap (λ (x : Call). x.client) (sym (stands s at c next h).call) ∙ older-call-client (edition_of s) (kind_field (drop at s)) _ e

-- The tests as the code makes them at a position.
module _ (s : List ℕ) (at : ℕ) where
  pub step-short : at < length s → length s - at < 2 + length_field (drop at s) → ◌≡◌ {A = Answer} (Err Short) (item_at s at)
  unfolding item_at read_at
  step-short h k =
      let l = length-drop at s in
      rw (ne_eqb (length (drop at s)) 0 (λ e. omega arith), lt-ltb (length (drop at s)) (2 + length_field (drop at s)) (omega arith))

  module _ (n : ℕ) (e : n ≡ length_field (drop at s)) (h : 2 + n ≤ length s - at) where
    pub step-misfit : misfit (edition_of s) at n (get_or s (at + 2) 0) 0 ≡ true → ◌≡◌ {A = Answer} (Err Misfit) (item_at s at)
    unfolding item_at read_at member_count
    step-misfit m =
        let l = length-drop at s in
        let z = le-ltb (length (drop at s)) (2 + length_field (drop at s)) (omega arith) in
        rw (ne_eqb (length (drop at s)) 0 (λ z. omega arith), z, ← e, get_or-drop at s 2 0, m)

    pub step-record : (r : Call) → misfit (edition_of s) at n (get_or s (at + 2) 0) 0 ≡ false
        → r ≡ call_of (edition_of s) (get_or s (at + 2) 0) (field_values (widths (edition_of s) (get_or s (at + 2) 0)) (take (length s - (at + 3)) (drop (at + 3) s)))
        → one_record r (at + (2 + n)) ≡ item_at s at
    unfolding item_at member_count
    step-record r m p =
        let l = length-drop at s in
        let t = take_all (length s - (at + 3)) (drop (at + 3) s) (omega (arith, length-drop (at + 3) s)) in
        rw (read-record (edition_of s) at (drop at s) (omega arith) (rw (← e, get_or-drop at s 2 0) m), get_or-drop at s 2 0, drop-drop 3 at s, ← e, p, t)

-- ── walks ──
pub by-item : {P : Type 0} (x : Answer) → ((c : Call) (n : ℕ) → x ≡ one_record c n → P) → (x ≡ the_end → P) → ((r : Refusal) → x ≡ Err r → P) → P
by-item (Ok (Some item)) f g h = f item.call item.next refl
by-item (Ok None) f g h = g refl
by-item (Err r) f g h = h r refl

walk-in-same : (k j : ℕ) (s : List ℕ) (at : ℕ) → length s < at + k → length s < at + j → walk_in k s at ≡ walk_in j s at
unfolding walk_in
walk-in-same zero zero s at h g = refl
walk-in-same zero (suc j) s at h g = rw (step_past s at (omega arith))
walk-in-same (suc k) zero s at h g = rw (step_past s at (omega arith))
walk-in-same (suc k) (suc j) s at h g =
    by-item (item_at s at)
    (λ c n e. let q = step-next s at c n e in rw e (ap (onto (record_at s at c)) (walk-in-same k j s n (omega (arith, q.0)) (omega (arith, q.0)))))
    (λ e. rw e)
    (λ n e. rw e)

-- Three laws: nobody else counts the items.
pub walk-record : (s : List ℕ) (at : ℕ) (c : Call) (next : ℕ) → item_at s at ≡ one_record c next → walk s at ≡ onto (record_at s at c) (walk s next)
unfolding walk walk_in
walk-record s at c next e =
    let q = step-next s at c next e in
    rw e (ap (onto (record_at s at c)) (walk-in-same (length s) (suc (length s)) s next (omega (arith, q.0)) (omega (arith, q.0))))

-- Of a call without members, as all are so far.
pub walk_call : (s : List ℕ) (at : ℕ) (c : Call) (next : ℕ) → item_at s at ≡ one_record c next → walk s at ≡ onto (record_of c) (walk s next)
walk_call s at c next e = walk-record s at c next e ∙ ap (λ (r : Record). onto r (walk s next)) (no-members s at c)

pub walk_end : (s : List ℕ) (at : ℕ) → item_at s at ≡ the_end → walk s at ≡ ended 0
unfolding walk walk_in
walk_end s at e = rw e

pub walk_refused : (s : List ℕ) (at : ℕ) (r : Refusal) → item_at s at ≡ Err r → walk s at ≡ ended (number_of r)
unfolding walk walk_in
walk_refused s at r e = rw e

-- A record has the length of its kind and its members; its call tells both.
pub record-size : (s : List ℕ) (at : ℕ) (c : Call) (next : ℕ) → item_at s at ≡ one_record c next
    → (has_kind (edition_of s) c.kind ≡ true) × (at + (2 + length_with (edition_of s) c.kind (member_count (edition_of s) c)) ≡ next)
record-size s at c next h =
    let e = edition_of s in
    let r = stands s at c next h in
    let n = length_field (drop at s) in
    let k = kind_field (drop at s) in
    let f = misfit-not e at n k _ r.fits in
    let q : c.kind ≡ k = sym (ap (λ (x : Call). x.kind) r.call) ∙ kind-of-call e k _ in
    let l : length_with e c.kind (member_count e c) ≡ n = ap (λ (j : ℕ). length_with e j (member_count e c)) q ∙ sym (f.1 ∙ ap (λ (x : Call). length_with e k (member_count e x)) r.call) in
    (ap (has_kind e) q ∙ f.0, omega (arith, r.behind, l))

-- Of a call without members.
pub call-size : (s : List ℕ) (at : ℕ) (c : Call) (next : ℕ) → item_at s at ≡ one_record c next
    → (has_kind (edition_of s) c.kind ≡ true) × (at + (2 + length_of (edition_of s) c.kind) ≡ next)
unfolding member_count
call-size s at c next h = let z = record-size s at c next h in (z.0, omega (arith, z.1, with_none (edition_of s) c.kind))

walk-in-of-calls : (k : ℕ) (s : List ℕ) (at : ℕ) → (walk_in k s at).records ≡ records_of (calls_of (walk_in k s at).records)
unfolding walk_in
walk-in-of-calls zero s at = refl
walk-in-of-calls (suc k) s at =
    by-item (item_at s at)
    (λ c n e. rw (e, no-members s at c) (ap (λ (rs : List Record). record_of c ∷ rs) (walk-in-of-calls k s n)))
    (λ e. rw e)
    (λ n e. rw e)

pub walk_of-calls : WalkOfCalls
unfolding walk
walk_of-calls s at = walk-in-of-calls (suc (length s)) s at

walk-in-few : (k : ℕ) (s : List ℕ) (at : ℕ) → least_length * length (walk_in k s at).records ≤ length s - at
unfolding walk_in
walk-in-few zero s at = omega arith
walk-in-few (suc k) s at =
    by-item (item_at s at)
    (λ c n e. let z = record-size s at c n e in
    rw e (omega (arith, walk-in-few k s n, with-least (edition_of s) c.kind (member_count (edition_of s) c) z.0, z.1, (step-next s at c n e).1)))
    (λ e. rw e (omega arith))
    (λ n e. rw e (omega arith))

-- A load has no more records than its length has room for.
pub walk-few : (s : List ℕ) (at : ℕ) → length (walk s at).records ≤ length s / least_length
unfolding walk
walk-few s at = (le-div_iff_mul-le least-some).1 (omega (arith, walk-in-few (suc (length s)) s at))

pub walk-short : (s : List ℕ) (at : ℕ) → length (walk s at).records ≤ length s
walk-short s at = omega (arith, walk-few s at, div-le_self (length s) least_length)

-- ── the tests of a load ──
pub or-else : (k n : ℕ) → or_else k n ≡ 0 → (k ≡ 0) × (n ≡ 0)
or-else zero n h = (refl, h)
or-else (suc k) n h = absurd (omega arith)

pub reading-tested : ReadingTested
unfolding reading load_number
reading-tested s = go (open_number s) (walk s 1)
  where
    go : (k : ℕ) (w : Walk) → (unless_refused k ended w).stop ≡ or_else k w.stop
    go zero w = refl
    go (suc k) w = refl

pub load-parts : (s : List ℕ) → load_number s ≡ 0 → (open_number s ≡ 0) × ((walk s 1).stop ≡ 0)
unfolding load_number
load-parts s h = or-else (open_number s) (walk s 1).stop h

-- A load that opens has an edition, and is within its bound.
pub open-known : (s : List ℕ) → open_number s ≡ 0 → (0 < length s) × (known (edition_of s) ≡ true) × (length s ≤ 65536)
unfolding open_number
open-known s h =
    let a = passed (ltb 65536 (length s)) _ _ h in
    let b = passed (eqb (length s) 0) _ _ a.1 in
    let k = either (known (edition_of s)) (λ r. r) (λ r. absurd (omega (arith, rw r at b.1))) in
    (omega (arith, eqb-false (length s) 0 b.0), k, ltb-false 65536 (length s) a.0)

pub load-known : (s : List ℕ) → load_number s ≡ 0 → (0 < length s) × (known (edition_of s) ≡ true) × (length s ≤ 65536)
load-known s h = open-known s (load-parts s h).0

-- The number of a load that does not open is that of its refusal.
pub open-again : (s : List ℕ) → 0 < open_number s → number_of (refusal_of (open_number s)) ≡ open_number s
unfolding open_number refusal_of
open-again s =
    either (ltb 65536 (length s))
    (λ p. rw p (λ z. refl))
    (λ p. either (eqb (length s) 0)
    (λ q. rw (p, q) (λ z. refl))
    (λ q. either (known (edition_of s))
    (λ r. rw (p, q, r) (λ z. absurd (omega arith)))
    (λ r. rw (p, q, r) (λ z. refl))))

-- And the load of records opens.
pub opens : (e : ℕ) (rs : List Record) → known e ≡ true → length (load_bytes e rs) ≤ 65536 → open_number (load_bytes e rs) ≡ 0
unfolding load_bytes open_number
opens e rs k h = rw (le-ltb 65536 (length (load_bytes e rs)) h, ne_eqb (length (load_bytes e rs)) 0 (λ z. omega arith), k)
