-- Records that make a load: their bytes read as them, and what reads to its end is the bytes of what it reads as.
use Prim.Native.Nat.{ℕ, zero, suc, ◌+◌, ◌*◌, ◌≤◌, ◌<◌}
use mathlib.Core.Bool.{Bool, true, false, ◌&&◌, and-true, and-false}
use mathlib.Core.List.{List, [], ◌∷◌, ◌++◌, append_assoc}
use mathlib.Core.Path.{◌≡◌, refl, sym, ap, subst, ◌∙◌}
use native.Mathlib.Omega.{arith}
use lib.Dec.{eqb}
use borrow.Author.Tests.{ne_eqb}
use lib.ListN.{length, take, drop, length-append, length-drop, length-map, take-append-drop}
use lib.Seq.{drop_at, take-add, drop-cons, drop-drop}
use Rattle.numerals.specs.Digits.{digits}
use Rattle.numerals.proofs.BigEndian.{numeral-digits, digits-numeral}
use Rattle.format.specs.declared.Call.{Call}
use Rattle.format.specs.Format.{rig_kind, field_width, has_kind, fields_of, widths, total, member_widths, length_with}
use Rattle.format.specs.Calls.{call_of, values_of}
use Rattle.format.specs.Records.{Member, Record, member_count, TypedRecord, carries}
use Rattle.format.proofs.Calls.{kind-of-call, values-of-call, call-of-values, call-keeps, keeps-kind}
use Rattle.format.proofs.Records.{carries-parts, carried, with-total, with-bounded}
use Rattle.load.specs.Answers.{one_record}
use Rattle.load.proofs.Answers.{number-some}
use Rattle.load.specs.Bytes.{big, field_bytes, field_values, members_bytes, members_read, record_bytes, records_bytes, load_bytes}
use Rattle.load.specs.Reading.{agree, length_field, kind_field, misfit, call_in, count_in, read_at, edition_of, record_at, item_at, open_number, onto, walk_in, walk}
use Rattle.load.specs.RoundTrip.{Bytes}
use Rattle.load.proofs.Bytes.{Fit, bytes_drop, field-bytes-length, values-of-bytes, bytes-of-values, values-fit, values_length, typed-fits, fits-typed, members-of-bytes, bytes-of-members, members-typed, members-many, record-length}
use Rattle.load.proofs.Reading.{read-record, stands, step-next, step_end, step_past, misfit-not, misfit-none, by-item, walk-record, walk_end, open-known}

-- A record that may stand first, or after the first.
pub record Sound (e : ℕ) (first : Bool) (r : Record) : Type 0 where
  pub place : agree (eqb r.call.kind rig_kind) first ≡ true
  pub carried : carries e r ≡ true
  pub typed : TypedRecord r

-- Records that make a load, or its rest.
pub data Loadable (e : ℕ) : Bool → List Record → Type 0 where
  none : {first : Bool} → Loadable e first []
  one : {first : Bool} {r : Record} {rs : List Record} → Sound e first r → Loadable e false rs → Loadable e first (r ∷ rs)

carried-kind : (e : ℕ) (r : Record) → carries e r ≡ true → has_kind e r.call.kind ≡ true
carried-kind e r h = keeps-kind e r.call (carries-parts e r h).0

-- ── one record, there and back ──
module _ (e at : ℕ) (r : Record) (rest : List ℕ) (v : Sound e (eqb at 1) r) where
  -- Behind the kind byte stand the fields, and behind them the members.
  behind-kind : drop 3 (record_bytes e r ++ rest) ≡ field_bytes (widths e r.call.kind) (values_of e r.call) ++ (members_bytes r.members ++ rest)
  unfolding record_bytes digits
  behind-kind = append_assoc (field_bytes (widths e r.call.kind) (values_of e r.call)) (members_bytes r.members) rest

  call-reads : call_in e (record_bytes e r ++ rest) ≡ r.call
  unfolding record_bytes digits
  call-reads =
      let c = r.call in
      ap (λ bs. call_of e c.kind (field_values (widths e c.kind) bs)) behind-kind
      ∙ ap (call_of e c.kind) (values-of-bytes (typed-fits e c v.typed.0) (members_bytes r.members ++ rest))
      ∙ call-of-values e c (carries-parts e r v.carried).0

  members-read : members_read (member_count e r.call) (drop (total (widths e r.call.kind)) (drop 3 (record_bytes e r ++ rest))) ≡ r.members
  members-read =
      let ws = widths e r.call.kind in
      let vs = values_of e r.call in
      let d = drop_at (field_bytes ws vs) (members_bytes r.members ++ rest) (total ws) (field-bytes-length ws vs) in
      rw (behind-kind, d, ← (carries-parts e r v.carried).1) (members-of-bytes r.members v.typed.1 rest)

  record-reads : read_at e at (record_bytes e r ++ rest) ≡ one_record r.call (at + length (record_bytes e r))
  unfolding record_bytes digits
  record-reads =
      let c = r.call in
      let k = c.kind in
      let many = (carries-parts e r v.carried).1 in
      let whole = record_bytes e r ++ rest in
      let h = carried-kind e r v.carried in
      let l = record-length e r h in
      let b = ap (length_with e k) many in
      let n : length_field whole ≡ length_with e k (length r.members) = numeral-digits 2 (length_with e k (length r.members)) (omega (arith, b, with-bounded e c v.typed.0)) in
      let a = length-append (record_bytes e r) rest in
      let i : count_in e whole ≡ length r.members = ap (member_count e) call-reads ∙ sym many in
      let m : misfit e at (length_field whole) (kind_field whole) (count_in e whole) ≡ false = rw (n, i) (misfit-none e at k (length r.members) h v.place) in
      read-record e at whole (omega arith) m ∙ rw (n, call-reads, l)

-- Bytes that are a record.
abbrev values_read : ℕ → List ℕ → List ℕ
values_read e bs = field_values (widths e (kind_field bs)) (drop 3 bs)

abbrev record_in : ℕ → List ℕ → Record
record_in e bs = record { call = call_in e bs; members = members_read (count_in e bs) (drop (total (widths e (kind_field bs))) (drop 3 bs)) }

module _ (e at : ℕ) (bs : List ℕ) (s : Bytes bs) (h : 2 + length_field bs ≤ length bs) (m : misfit e at (length_field bs) (kind_field bs) (count_in e bs) ≡ false) where
  parts : let w = total (widths e (kind_field bs)) in
      let n = count_in e bs * total member_widths in
      (has_kind e (kind_field bs) ≡ true) × (length_field bs ≡ suc (w + n)) × (w + n ≤ length (drop 3 bs))
  parts =
      let q = misfit-not e at (length_field bs) (kind_field bs) (count_in e bs) m in
      let t = with-total e (kind_field bs) (count_in e bs) q.0 in
      (q.0, q.1 ∙ t, omega (arith, q.1, t, length-drop 3 bs))

  many : length (values_read e bs) ≡ length (fields_of e (kind_field bs))
  unfolding widths
  many = values_length (widths e (kind_field bs)) (drop 3 bs) ∙ length-map (fields_of e (kind_field bs)) field_width

  kind-is : (call_in e bs).kind ≡ kind_field bs
  kind-is = kind-of-call e (kind_field bs) (values_read e bs)

  values-are : values_of e (call_in e bs) ≡ values_read e bs
  values-are = values-of-call e (kind_field bs) (values_read e bs) many

  -- The members' bytes.
  members-room : count_in e bs * total member_widths ≤ length (drop (total (widths e (kind_field bs))) (drop 3 bs))
  members-room = omega (arith, length-drop (total (widths e (kind_field bs))) (drop 3 bs), parts.2)

  members-bytes : Bytes (drop (total (widths e (kind_field bs))) (drop 3 bs))
  members-bytes = bytes_drop (drop 3 bs) (total (widths e (kind_field bs))) (bytes_drop bs 3 s)

  written-again : record_bytes e (record_in e bs) ≡ take (2 + length_field bs) bs
  unfolding record_bytes
  written-again =
      let k = kind_field bs in
      let n = length_field bs in
      let w = total (widths e k) in
      let count = count_in e bs in
      let d = drop 3 bs in
      let ms = (record_in e bs).members in
      let jj = bytes-of-values (widths e k) d (omega (arith, parts.2)) (bytes_drop bs 3 s) in
      let mm = bytes-of-members count (drop w d) members-room members-bytes in
      let bb : big 2 (length_with e k count) ≡ take 2 bs = ap (big 2) (sym (misfit-not e at n k count m).1) ∙ digits-numeral 2 bs (omega (arith, parts.1)) s in
      let e2 : take n (drop 2 bs) ≡ k ∷ take (w + count * total member_widths) d = rw (parts.1, drop-cons bs 2 0 (omega (arith, parts.1))) in
      ap (λ (j : ℕ). big 2 (length_with e j (length ms)) ++ (j ∷ field_bytes (widths e j) (values_of e (call_in e bs)) ++ members_bytes ms)) kind-is
      ∙ rw (values-are, jj, members-many count (drop w d), mm, bb) (sym (take-add 2 n bs ∙ ap (λ r. take 2 bs ++ r) (e2 ∙ ap (λ r. k ∷ r) (take-add w (count * total member_widths) d))))

  sound-record : Sound e (eqb at 1) (record_in e bs)
  sound-record =
      let k = kind_field bs in
      let c = call_in e bs in
      let f = values-fit (widths e k) (drop 3 bs) (omega (arith, parts.2)) (bytes_drop bs 3 s) in
      let g : Fit (widths e c.kind) (values_of e c) = subst (λ (j : ℕ). Fit (widths e j) (values_of e c)) (sym kind-is) (rw values-are f) in
      let h = call-keeps e k (values_read e bs) many parts.0 in
      let b : c.kind < 256 = omega (arith, kind-is, s 2) in
      record {
        place = ap (λ (j : ℕ). agree (eqb j rig_kind) (eqb at 1)) kind-is ∙ (misfit-not e at (length_field bs) k (count_in e bs) m).2;
        carried = carried e c (record_in e bs).members h (members-many (count_in e bs) _);
        typed = (fits-typed e c b h g, members-typed (count_in e bs) _ members-room members-bytes);
      }

-- What stands at a position is that record.
record_is : (s : List ℕ) (at : ℕ) (c : Call) → call_in (edition_of s) (drop at s) ≡ c → record_at s at c ≡ record_in (edition_of s) (drop at s)
record_is s at c q =
    let e = edition_of s in
    let bs = drop at s in
    let k = kind-of-call e (kind_field bs) (values_read e bs) in
    let f : ℕ → Record = λ j. record { call = call_in e bs; members = members_read (count_in e bs) (drop (total (widths e j)) (drop 3 bs)) } in
    sym (ap (record_at s at) q) ∙ ap f k

-- ── the bytes of records read as them ──
walk-good : (e : ℕ) (s : List ℕ) (first : Bool) (cs : List Record) → Loadable e first cs
    → (at : ℕ) → eqb at 1 ≡ first → edition_of s ≡ e → 0 < at → drop at s ≡ records_bytes e cs → walk s at ≡ record { records = cs; stop = 0 }
unfolding records_bytes item_at
walk-good e s first cs Loadable.none at p q h d = walk_end s at (step_past s at (omega (arith, length-drop at s, ap length d)))
walk-good e s first rs (Loadable.one {r = r} {rs = qs} v g) at p q h d =
    let c = r.call in
    let n = at + length (record_bytes e r) in
    let u : Sound e (eqb at 1) r = rw p v in
    let x : item_at s at ≡ one_record c n = rw (q, d) (record-reads e at r (records_bytes e qs) u) in
    let y : record_at s at c ≡ r = ap (λ (ms : List Member). record { call = c; members = ms }) (rw (q, d) (members-read e at r (records_bytes e qs) u)) in
    let l = record-length e r (carried-kind e r v.carried) in
    let t : drop n s ≡ records_bytes e qs = sym (drop-drop (length (record_bytes e r)) at s) ∙ ap (drop (length (record_bytes e r))) d
    ∙ drop_at (record_bytes e r) (records_bytes e qs) (length (record_bytes e r)) refl in
    walk-record s at c n x ∙ ap (λ x. onto x (walk s n)) y ∙ ap (onto r) (walk-good e s false qs g n (ne_eqb n 1 (λ z. omega arith)) q (omega arith) t)

pub reads-back : (e : ℕ) (cs : List Record) → Loadable e true cs → walk (load_bytes e cs) 1 ≡ record { records = cs; stop = 0 }
unfolding load_bytes
reads-back e cs g = walk-good e (load_bytes e cs) true cs g 1 refl refl (omega arith) refl

-- ── what reads to its end is the bytes of its records ──
step-bytes : (s : List ℕ) (at : ℕ) (c : Call) (next : ℕ) → Bytes s → item_at s at ≡ one_record c next → drop at s ≡ record_bytes (edition_of s) (record_at s at c) ++ drop next s
step-bytes s at c next b h =
    let x = stands s at c next h in
    let bs = drop at s in
    let m = 2 + length_field (drop at s) in
    let w = written-again (edition_of s) at bs (bytes_drop s at b) x.whole x.fits in
    let t : record_bytes (edition_of s) (record_at s at c) ≡ take m bs = ap (record_bytes (edition_of s)) (record_is s at c x.call) ∙ w in
    let d : drop next s ≡ drop m bs = sym (ap (λ k. drop k s) x.behind) ∙ sym (drop-drop m at s) in
    rw (t, d) (sym (take-append-drop m bs))

walk-back : (k : ℕ) (s : List ℕ) (at : ℕ) → Bytes s → at ≤ length s → length s < at + k
    → (walk_in k s at).stop ≡ 0 → drop at s ≡ records_bytes (edition_of s) (walk_in k s at).records
unfolding walk_in records_bytes
walk-back zero s at b h f z = absurd (omega arith)
walk-back (suc k) s at b h f z =
    by-item (item_at s at)
    (λ c n q. let l = step-next s at c n q in rw q (step-bytes s at c n b q ∙ ap (λ r. record_bytes (edition_of s) (record_at s at c) ++ r) (walk-back k s n b l.1 (omega (arith, l.0)) (rw q at z))))
    (λ q. rw q (step_end s at q))
    (λ n q. absurd (omega (arith, number-some n, rw q at z)))

pub is_read : (s : List ℕ) → Bytes s → open_number s ≡ 0 → (walk s 1).stop ≡ 0 → s ≡ load_bytes (edition_of s) (walk s 1).records
unfolding walk load_bytes
is_read [] b o z = absurd (omega (arith, (open-known [] o).0))
is_read (e ∷ s) b o z = ap (λ r. e ∷ r) (walk-back (suc (length (e ∷ s))) (e ∷ s) 1 b (omega arith) (omega arith) z)

-- ── what is read makes a load ──
walk-loadable : (k : ℕ) (s : List ℕ) (at : ℕ) → Bytes s → Loadable (edition_of s) (eqb at 1) (walk_in k s at).records
unfolding walk_in
walk-loadable zero s at b = Loadable.none
walk-loadable (suc k) s at b =
    by-item (item_at s at)
    (λ c n q. let x = stands s at c n q in
    let z : eqb n 1 ≡ false = ne_eqb n 1 (λ e. omega (arith, x.behind)) in
    let v = sound-record (edition_of s) at (drop at s) (bytes_drop s at b) x.whole x.fits in
    rw q (Loadable.one (rw (← (record_is s at c x.call)) at v) (rw z at (walk-loadable k s n b))))
    (λ q. rw q Loadable.none)
    (λ n q. rw q Loadable.none)

pub read-loadable : (s : List ℕ) → Bytes s → Loadable (edition_of s) true (walk s 1).records
unfolding walk
read-loadable s b = walk-loadable (suc (length s)) s 1 b

-- ── one record more ──
abbrev pub none? : List Record → Bool
none? [] = true
none? (r ∷ rs) = false

pub loadable-more : (e : ℕ) (first : Bool) (rs : List Record) (r : Record) → Loadable e first rs → Sound e (first && none? rs) r → Loadable e first (rs ++ (r ∷ []))
loadable-more e first rs r Loadable.none v = Loadable.one (rw (and-true first) at v) Loadable.none
loadable-more e first rs r (Loadable.one {rs = ds} u g) v = Loadable.one u (loadable-more e false ds r g (rw (and-false first) at v))

-- And one of them, with those before it.
pub loadable-at : (e : ℕ) (first : Bool) (ds : List Record) (r : Record) (rs : List Record) → Loadable e first (ds ++ (r ∷ rs)) → Loadable e first ds × Sound e (first && none? ds) r
loadable-at e first [] r rs (Loadable.one v g) = (Loadable.none, rw (and-true first) v)
loadable-at e first (d ∷ ds) r rs (Loadable.one u g) = let q = loadable-at e false ds r rs g in (Loadable.one u q.0, rw (and-false first) q.1)

-- The load of the edition byte alone is the one with no records.
pub alone : (e : ℕ) (first : Bool) (rs : List Record) → Loadable e first rs → eqb (length (load_bytes e rs)) 1 ≡ none? rs
unfolding load_bytes records_bytes
alone e first rs Loadable.none = refl
alone e first rs (Loadable.one {r = d} {rs = ds} v g) =
    ne_eqb (length (load_bytes e (d ∷ ds))) 1 (λ z. omega (arith, length-append (record_bytes e d) (records_bytes e ds), record-length e d (carried-kind e d v.carried)))
