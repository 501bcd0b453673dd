-- Fields written at their widths and read at them, and the lengths of records and loads.
use Prim.Native.Nat.{ℕ, zero, suc, ◌+◌, ◌*◌, ◌^◌, ◌≤◌, ◌<◌}
use mathlib.Core.Bool.{true}
use mathlib.Core.List.{List, [], ◌∷◌, ◌++◌, map, append_assoc, append-nil}
use mathlib.Core.Path.{◌≡◌, refl, sym, ap, ◌∙◌}
use native.Mathlib.Omega.{arith}
use lib.Dec.{eqb}
use borrow.Author.Tests.{eqb-true}
use lib.ListN.{length, take, drop, get_or, length-append, length-drop}
use lib.Seq.{take_at, drop_at, take-add, get_or-drop}
use Rattle.numerals.proofs.BigEndian.{digits-length, numeral-digits, digits-numeral, numeral-below}
use Rattle.format.specs.declared.Call.{Call}
use Rattle.format.specs.Format.{field_widths, field_width, has_kind, fields_of, widths, total, length_of, member_widths, length_with}
use Rattle.format.specs.Calls.{numbers, value_of, values_in, values_of, keeps, Typed}
use Rattle.format.specs.Records.{Member, Record, record_of, member_values, TypedMembers}
use Rattle.load.specs.Bytes.{big, field_bytes, field_values, members_bytes, members_read, record_bytes, records_bytes, load_bytes, call_bytes, calls_bytes}
use Rattle.load.specs.Reading.{edition_of}
use Rattle.load.specs.RoundTrip.{Bytes}
use Rattle.format.proofs.Format.{either, has}
use Rattle.format.proofs.Calls.{keeps-none, default-typed}
use Rattle.format.proofs.Records.{with-total, with_none}

-- ── fields ──
-- Each value goes into its width.
pub data Fit : List ℕ → List ℕ → Type 0 where
  none : Fit [] []
  one : {w v : ℕ} {ws vs : List ℕ} → v < 256 ^ w → Fit ws vs → Fit (w ∷ ws) (v ∷ vs)

pub bytes_drop : (s : List ℕ) (n : ℕ) → Bytes s → Bytes (drop n s)
bytes_drop s n b i = rw (get_or-drop n s i 0) (b (n + i))

pub field-bytes-length : (ws vs : List ℕ) → length (field_bytes ws vs) ≡ total ws
unfolding field_bytes total
field-bytes-length [] vs = refl
field-bytes-length (w ∷ ws) vs = length-append (big w (get_or vs 0 0)) (field_bytes ws (drop 1 vs)) ∙ rw (digits-length 256 0 w (get_or vs 0 0), field-bytes-length ws (drop 1 vs))

pub values-of-bytes : {ws vs : List ℕ} → Fit ws vs → (rest : List ℕ) → field_values ws (field_bytes ws vs ++ rest) ≡ vs
unfolding field_values field_bytes
values-of-bytes Fit.none rest = refl
values-of-bytes (Fit.one {w} {v} {ws} {vs} h f) rest =
    let a = append_assoc (big w v) (field_bytes ws vs) rest in
    let t = take_at (big w v) (field_bytes ws vs ++ rest) w (digits-length 256 0 w v) in
    let d = drop_at (big w v) (field_bytes ws vs ++ rest) w (digits-length 256 0 w v) in
    rw (a, t, d, numeral-digits w v h, values-of-bytes f rest)

pub bytes-of-values : (ws bs : List ℕ) → total ws ≤ length bs → Bytes bs → field_bytes ws (field_values ws bs) ≡ take (total ws) bs
unfolding field_values field_bytes total
bytes-of-values [] bs h s = refl
bytes-of-values (w ∷ ws) bs h s =
    let l = length-drop w bs in
    let i = bytes-of-values ws (drop w bs) (omega arith) (bytes_drop bs w s) in
    rw (digits-numeral w bs (omega arith) s, i) (sym (take-add w (total ws) bs))

pub values-fit : (ws bs : List ℕ) → total ws ≤ length bs → Bytes bs → Fit ws (field_values ws bs)
unfolding total field_values
values-fit [] bs h s = Fit.none
values-fit (w ∷ ws) bs h s =
    let l = length-drop w bs in
    Fit.one (numeral-below w bs (omega arith) s) (values-fit ws (drop w bs) (omega arith) (bytes_drop bs w s))

pub values_length : (ws bs : List ℕ) → length (field_values ws bs) ≡ length ws
unfolding field_values
values_length [] bs = refl
values_length (w ∷ ws) bs = ap suc (values_length ws (drop w bs))

-- ── the values of a call ──
values-typed : (fs : List ℕ) (c : Call) → Typed c → Fit (map field_width fs) (values_in fs c)
values-typed [] c t = Fit.none
values-typed (f ∷ fs) c t = Fit.one (t f) (values-typed fs c t)

pub typed-fits : (e : ℕ) (c : Call) → Typed c → Fit (widths e c.kind) (values_of e c)
unfolding widths values_of
typed-fits e c t = values-typed (fields_of e c.kind) c t

fits-at : (fs : List ℕ) (c : Call) (f : ℕ) → Fit (map field_width fs) (values_in fs c) → has f fs ≡ true → value_of f c < 256 ^ field_width f
unfolding has
fits-at [] c f Fit.none h = let z : ◌≡◌ {A = ℕ} 0 1 = cc in absurd (omega arith)
fits-at (g ∷ fs) c f (Fit.one v r) h =
    either (eqb f g) (λ p. rw (eqb-true f g p) v) (λ p. fits-at fs c f r (rw p at h))

-- A call that an edition keeps whole is typed if its kind and values are.
pub fits-typed : (e : ℕ) (c : Call) → c.kind < 256 → keeps e c ≡ true → Fit (widths e c.kind) (values_of e c) → Typed c
unfolding widths values_of value_of numbers field_width field_widths
fits-typed e c k h t zero = k
fits-typed e c k h t (suc f) =
    either (has (suc f) (fields_of e c.kind))
    (λ p. fits-at (fields_of e c.kind) c (suc f) t p)
    (λ p. rw (keeps-none e c f h p) (default-typed (suc f)))

-- ── members ──
members-length : (ms : List Member) → length (members_bytes ms) ≡ length ms * total member_widths
unfolding members_bytes member_widths total field_width field_widths
members-length [] = refl
members-length (m ∷ ms) =
    length-append (field_bytes member_widths (member_values m)) (members_bytes ms)
    ∙ rw (field-bytes-length member_widths (member_values m), members-length ms) (omega arith)

pub members-of-bytes : (ms : List Member) → TypedMembers ms → (rest : List ℕ) → members_read (length ms) (members_bytes ms ++ rest) ≡ ms
unfolding members_read members_bytes member_widths
members-of-bytes [] t rest = refl
members-of-bytes (m ∷ ms) t rest =
    let bs = field_bytes member_widths (member_values m) in
    let f : Fit member_widths (member_values m) = Fit.one t.0 (Fit.one t.1 Fit.none) in
    let d = drop_at bs (members_bytes ms ++ rest) (total member_widths) (field-bytes-length member_widths (member_values m)) in
    rw (append_assoc bs (members_bytes ms) rest, values-of-bytes f (members_bytes ms ++ rest), d, members-of-bytes ms t.2 rest)

pub bytes-of-members : (n : ℕ) (bs : List ℕ) → n * total member_widths ≤ length bs → Bytes bs → members_bytes (members_read n bs) ≡ take (n * total member_widths) bs
unfolding members_read members_bytes member_widths total field_width field_widths field_values
bytes-of-members zero bs h s = refl
bytes-of-members (suc n) bs h s =
    let l = length-drop 12 bs in
    let m : suc n * 12 ≡ 12 + n * 12 = omega arith in
    rw (bytes-of-values member_widths bs (omega arith) s, bytes-of-members n (drop 12 bs) (omega arith) (bytes_drop bs 12 s), m)
    (sym (take-add 12 (n * 12) bs))

pub members-typed : (n : ℕ) (bs : List ℕ) → n * total member_widths ≤ length bs → Bytes bs → TypedMembers (members_read n bs)
unfolding members_read member_widths total field_width field_widths field_values
members-typed zero bs h s = tt
members-typed (suc n) bs h s =
    let l = length-drop 8 bs in
    let k = length-drop 12 bs in
    (numeral-below 8 bs (omega arith) s, numeral-below 4 (drop 8 bs) (omega arith) (bytes_drop bs 8 s), members-typed n (drop 12 bs) (omega arith) (bytes_drop bs 12 s))

pub members-many : (n : ℕ) (bs : List ℕ) → length (members_read n bs) ≡ n
unfolding members_read
members-many zero bs = refl
members-many (suc n) bs = ap suc (members-many n (drop (total member_widths) bs))

-- ── records ──
pub record-length : (e : ℕ) (r : Record) → has_kind e r.call.kind ≡ true → length (record_bytes e r) ≡ 2 + length_with e r.call.kind (length r.members)
unfolding record_bytes
record-length e r h =
    let t = with-total e r.call.kind (length r.members) h in
    simp (length-append, digits-length, field-bytes-length, members-length) (omega arith)

-- Of a call without members.
pub call-bytes : (e : ℕ) (c : Call) → call_bytes e c ≡ big 2 (length_of e c.kind) ++ (c.kind ∷ field_bytes (widths e c.kind) (values_of e c))
unfolding record_bytes members_bytes
call-bytes e c = rw (with_none e c.kind, append-nil (field_bytes (widths e c.kind) (values_of e c)))

pub call_length : (e : ℕ) (c : Call) → has_kind e c.kind ≡ true → length (call_bytes e c) ≡ 2 + length_of e c.kind
call_length e c h = record-length e (record_of c) h ∙ ap (λ (n : ℕ). 2 + n) (with_none e c.kind)

pub record-some : (e : ℕ) (r : Record) → 2 < length (record_bytes e r)
unfolding record_bytes
record-some e r = simp (length-append, digits-length) (omega arith)

-- ── loads ──
pub records-append : (e : ℕ) (rs qs : List Record) → records_bytes e (rs ++ qs) ≡ records_bytes e rs ++ records_bytes e qs
unfolding records_bytes
records-append e [] qs = refl
records-append e (r ∷ rs) qs = ap (λ t. record_bytes e r ++ t) (records-append e rs qs) ∙ sym (append_assoc (record_bytes e r) (records_bytes e rs) (records_bytes e qs))

pub calls-append : (e : ℕ) (cs ds : List Call) → calls_bytes e (cs ++ ds) ≡ calls_bytes e cs ++ calls_bytes e ds
unfolding records_bytes
calls-append e [] ds = refl
calls-append e (c ∷ cs) ds = ap (λ t. call_bytes e c ++ t) (calls-append e cs ds) ∙ sym (append_assoc (call_bytes e c) (calls_bytes e cs) (calls_bytes e ds))

-- One record more.
pub load-append : (e : ℕ) (rs : List Record) (r : Record) → load_bytes e (rs ++ (r ∷ [])) ≡ load_bytes e rs ++ record_bytes e r
unfolding load_bytes records_bytes
load-append e rs r = ap (λ t. e ∷ t) (records-append e rs (r ∷ []) ∙ ap (λ t. records_bytes e rs ++ t) (append-nil (record_bytes e r)))

pub load-longer : (e : ℕ) (rs qs : List Record) → length (load_bytes e rs) ≤ length (load_bytes e (rs ++ qs))
unfolding load_bytes
load-longer e rs qs = omega (arith, ap length (records-append e rs qs), length-append (records_bytes e rs) (records_bytes e qs))

pub load-edition : (e : ℕ) (rs : List Record) → edition_of (load_bytes e rs) ≡ e
unfolding load_bytes
load-edition e rs = refl
