-- What holds of every row of the format, by one test that is computed over the table; and the fields of a row, one after the other.
use Prim.Native.Nat.{ℕ, zero, suc, ◌+◌, ◌≤◌, ◌<◌}
use mathlib.Core.Bool.{Bool, true, false, not, ◌&&◌, ◌||◌, cond, false≢true, and-eq-true_iff}
use mathlib.Core.List.{List, [], ◌∷◌}
use mathlib.Core.Logic.{◌⊎◌, inl, inr, ⊎_elim}
use mathlib.Core.Path.{◌≡◌, refl, sym, ap, ◌∙◌}
use native.Mathlib.Omega.{arith}
use lib.Dec.{ltb, leb, eqb}
use borrow.Author.Tests.{ltb-true, ltb-false, lt-ltb, le-ltb, leb-true, eqb-true, eqb-false, eq-eqb, ne_eqb, not-true}
use native.Mathlib.Numerals.{add-one}
use lib.ListN.{length, drop, get_or, get_or-eq_default}
use lib.Seq.{drop-nil}
use Rattle.format.specs.Format.{rig_kind, Row, field_widths, field_count, field_width, format, known_in, known, is_row, has_in, has_kind, row_in, fields_of, widths, total, length_in, length_of, least_in, least_length}

-- ── computed tests ──
pub both : (a b : Bool) → (a && b) ≡ true → (a ≡ true) × (b ≡ true)
both a b h = (and-eq-true_iff a b).0 h

pub neither : (a b : Bool) → (a || b) ≡ false → (a ≡ false) × (b ≡ false)
neither true b h = absurd (false≢true (sym h))
neither false b h = (refl, h)

-- A number is 0 only behind the tests that refuse.
pub passed : (b : Bool) (k n : ℕ) → cond b (suc k) n ≡ 0 → (b ≡ false) × (n ≡ 0)
passed true k n h = absurd (omega arith)
passed false k n h = (refl, h)

pub either : {P : Type 0} (b : Bool) → (b ≡ true → P) → (b ≡ false → P) → P
either true f g = f refl
either false f g = g refl

-- A test that holds of all numbers below n.
unfoldable pub all_below : ℕ → (ℕ → Bool) → Bool
all_below zero f = true
all_below (suc n) f = f n && all_below n f

pub below-passes : (n : ℕ) (f : ℕ → Bool) → all_below n f ≡ true → (i : ℕ) → i < n → f i ≡ true
unfolding all_below
below-passes zero f h i l = absurd (omega arith)
below-passes (suc n) f h i l =
    let q = both (f n) (all_below n f) h in
    either (eqb i n) (λ p. rw (eqb-true i n p) q.0) (λ p. below-passes n f q.1 i (omega (arith, eqb-false i n p)))

-- ── rows ──
unfoldable pub has : ℕ → List ℕ → Bool
has f [] = false
has f (g ∷ gs) = eqb f g || has f gs

-- Each is a field, none is the kind byte, and no two are the same.
unfoldable pub proper : List ℕ → Bool
proper [] = true
proper (f ∷ fs) = (ltb 0 f && ltb f field_count) && (not (has f fs) && proper fs)

unfoldable pub all_rows : (ℕ → ℕ → List ℕ → Bool) → List Row → Bool
all_rows f [] = true
all_rows f (r ∷ rs) = f r.edition r.kind r.fields && all_rows f rs

-- A test of all rows holds of the one of an edition and kind, unless there is none.
row-passes : (f : ℕ → ℕ → List ℕ → Bool) (rs : List Row) (e k : ℕ) → all_rows f rs ≡ true
    → ((has_in rs e k ≡ false) × ((row_in rs e k).fields ≡ [])) ⊎ ((has_in rs e k ≡ true) × (f e k (row_in rs e k).fields ≡ true))
unfolding has_in row_in all_rows
row-passes f [] e k h = inl (refl, refl)
row-passes f (r ∷ rs) e k h =
    let t = both _ _ h in
    either (is_row e k r)
    (λ p. let q = both _ _ p in rw p (inr (refl, rw (← (eqb-true r.edition e q.0), ← (eqb-true r.kind k q.1)) t.0)))
    (λ p. rw p (row-passes f rs e k t.1))

-- A test that is computed over the table: of the fields of any edition and kind, unless there are none ..
pub tested : (f : ℕ → ℕ → List ℕ → Bool) (e k : ℕ) → all_rows f format ≡ true → (fields_of e k ≡ []) ⊎ (f e k (fields_of e k) ≡ true)
unfolding fields_of
tested f e k h = ⊎_elim (λ n. inl n.1) (λ t. inr t.1) (row-passes f format e k h)

-- .. and of a kind that the edition has.
pub kind-tested : (f : ℕ → ℕ → List ℕ → Bool) (e k : ℕ) → all_rows f format ≡ true → has_kind e k ≡ true → f e k (fields_of e k) ≡ true
unfolding has_kind fields_of
kind-tested f e k h c = ⊎_elim (λ n. absurd (false≢true (sym n.0 ∙ c))) (λ t. t.1) (row-passes f format e k h)

-- A kind that it lacks has no fields.
pub no_fields : (e k : ℕ) → has_kind e k ≡ false → fields_of e k ≡ []
unfolding has_kind fields_of all_rows
no_fields e k c = ⊎_elim (λ n. n.1) (λ t. absurd (false≢true (sym c ∙ t.0))) (row-passes (λ e k fs. true) format e k (all_true format))
  where
    all_true : (rs : List Row) → all_rows (λ e k fs. true) rs ≡ true
    all_true [] = refl
    all_true (r ∷ rs) = all_true rs

-- And one of its editions.
pub known-tested : (f : ℕ → Bool) → all_rows (λ e k fs. f e) format ≡ true → (e : ℕ) → known e ≡ true → f e ≡ true
unfolding known known_in all_rows
known-tested f h e k = go format h k
  where
    go : (rs : List Row) → all_rows (λ e k fs. f e) rs ≡ true → known_in rs e ≡ true → f e ≡ true
    go [] h k = absurd (false≢true k)
    go (r ∷ rs) h k =
        let t = both (f r.edition) _ h in
        either (eqb r.edition e) (λ p. ap f (sym (eqb-true r.edition e p)) ∙ t.0) (λ p. go rs t.1 (rw p at k))

pub fields-proper : (e k : ℕ) → proper (fields_of e k) ≡ true
unfolding all_rows format proper has field_widths
fields-proper e k = ⊎_elim (λ n. rw n) (λ t. t) (tested (λ e k fs. proper fs) e k refl)

-- A row of the code has a place behind them.
pub fields-few : (e k : ℕ) → length (fields_of e k) < 8
unfolding all_rows format
fields-few e k = ⊎_elim (λ n. rw n (omega arith)) (λ t. ltb-true (length (fields_of e k)) 8 t) (tested (λ e k fs. ltb (length fs) 8) e k refl)

-- ── lengths ──
pub length_none : (e k : ℕ) → has_kind e k ≡ false → length_of e k ≡ 0
unfolding length_of
length_none e k h = rw h

pub length-of : (e k : ℕ) → has_kind e k ≡ true → length_of e k ≡ length_in (fields_of e k)
unfolding length_of
length-of e k h = rw h

pub length-total : (e k : ℕ) → has_kind e k ≡ true → length_of e k ≡ suc (total (widths e k))
unfolding length_in widths total field_width field_widths
length-total e k h = omega (arith, length-of e k h)

-- Where a kind is, its records have a length.
pub has-length : (e k : ℕ) → has_kind e k ≡ ltb 0 (length_of e k)
has-length e k =
    either (has_kind e k) (λ h. h ∙ sym (lt-ltb 0 (length_of e k) (omega (arith, length-total e k h))))
    (λ h. h ∙ sym (le-ltb 0 (length_of e k) (omega (arith, length_none e k h))))

-- A length goes into two bytes.
pub length-bounded : (e k : ℕ) → length_of e k ≤ 65535
unfolding all_rows format length_in total field_width field_widths
length-bounded e k =
    either (has_kind e k)
    (λ h. let t = leb-true (length_in (fields_of e k)) 65535 (kind-tested (λ e k fs. leb (length_in fs) 65535) e k refl h) in omega (arith, t, length-of e k h))
    (λ h. omega (arith, length_none e k h))

pub least-some : 0 < least_length
unfolding least_length least_in format length_in total field_width field_widths
least-some = omega arith

pub length-least : (e k : ℕ) → has_kind e k ≡ true → least_length ≤ 2 + length_of e k
unfolding all_rows format length_in total field_width field_widths least_length least_in
length-least e k h =
    let t = leb-true least_length (2 + length_in (fields_of e k)) (kind-tested (λ e k fs. leb least_length (2 + length_in fs)) e k refl h) in
    omega (arith, t, length-of e k h)

-- ── the fields of a row, one after the other ──
pub proper-parts : (f : ℕ) (fs : List ℕ) → proper (f ∷ fs) ≡ true → (0 < f) × (f < field_count) × (has f fs ≡ false) × (proper fs ≡ true)
unfolding proper
proper-parts f fs p =
    let a = both (ltb 0 f && ltb f field_count) (not (has f fs) && proper fs) p in
    let b = both (ltb 0 f) (ltb f field_count) a.0 in
    let c = both (not (has f fs)) (proper fs) a.1 in
    (ltb-true 0 f b.0, ltb-true f field_count b.1, not-true (has f fs) c.0, c.1)

-- Whatever stands at a place is the number of a field or 0.
pub place-under : (fs : List ℕ) (i : ℕ) → proper fs ≡ true → get_or fs i 0 < field_count
unfolding field_widths
place-under [] i p = omega arith
place-under (f ∷ fs) zero p = (proper-parts f fs p).1
place-under (f ∷ fs) (suc i) p = place-under fs i (proper-parts f fs p).3

-- At place i a field, or none and the row's end.
pub rest_some : (fs : List ℕ) (i f : ℕ) → f ≡ get_or fs i 0 → (f ≡ 0 → ⊥) → (i < length fs) × (drop i fs ≡ f ∷ drop (i + 1) fs)
rest_some fs i f e h = let r = go fs i e in (r.0, rw add-one r.1)
  where
    go : (fs : List ℕ) (i : ℕ) → f ≡ get_or fs i 0 → (i < length fs) × (drop i fs ≡ f ∷ drop (suc i) fs)
    go [] i e = absurd (h e)
    go (g ∷ fs) zero e = (omega arith, rw e)
    go (g ∷ fs) (suc i) e = let r = go fs i e in (omega (arith, r.0), r.1)

pub rest-none : (fs : List ℕ) (i f : ℕ) → proper fs ≡ true → f ≡ get_or fs i 0 → f ≡ 0 → drop i fs ≡ []
rest-none [] i f p e z = drop-nil i
rest-none (g ∷ fs) zero f p e z = absurd (omega (arith, e, (proper-parts g fs p).0))
rest-none (g ∷ fs) (suc i) f p e z = rest-none fs i f (proper-parts g fs p).3 e z

-- ── the code's tables ──
-- The editions that there are have a rig.
pub known_is : (e : ℕ) → known e ≡ has_kind e rig_kind
unfolding known known_in has_kind has_in all_rows format
known_is e = either (known e) (λ p. p ∙ sym (known-tested (λ i. has_kind i rig_kind) rigs e p)) (λ p. p ∙ sym (go format p))
  where
    rigs : all_rows (λ e k fs. has_kind e rig_kind) format ≡ true
    rigs = refl

    go : (rs : List Row) → known_in rs e ≡ false → has_in rs e rig_kind ≡ false
    go [] p = refl
    go (r ∷ rs) p = let q = neither (eqb r.edition e) (known_in rs e) p in rw (q.0, go rs q.1)

-- What a match knows in its last arm: the number is none of its keys, here from the last to the first.
abbrev pub Unlisted : List ℕ → ℕ → Type 0
Unlisted [] n = Unit {0}
Unlisted (j ∷ js) n = Unlisted js n × (n ≡ j → ⊥)

pub unlisted : (js : List ℕ) (n : ℕ) → Unlisted js n → has n js ≡ false
unfolding has
unlisted [] n u = refl
unlisted (j ∷ js) n u = rw (ne_eqb n j u.1, unlisted js n u.0)

-- The keys of a match are all editions, or all kinds of an edition: there is no other.
pub no-edition : (e k : ℕ) (js : List ℕ) → all_rows (λ d j fs. has d js) format ≡ true → Unlisted js e → has_kind e k ≡ false
no-edition e k js t u = either (has_kind e k) (λ h. absurd (false≢true (sym (unlisted js e u) ∙ kind-tested (λ d j fs. has d js) e k t h))) (λ h. h)

pub no_kind : (e k : ℕ) (js : List ℕ) → all_rows (λ d j fs. not (eqb d e) || has j js) format ≡ true → Unlisted js k → has_kind e k ≡ false
no_kind e k js t u =
    either (has_kind e k)
    (λ h. let q = kind-tested (λ d j fs. not (eqb d e) || has j js) e k t h in absurd (false≢true (sym (unlisted js k u) ∙ rw (eq-eqb e e refl) at q)))
    (λ h. h)

-- The keys of a match are all fields.
pub no-such-field : (js : List ℕ) (f : ℕ) → all_below field_count (λ i. has i js) ≡ true → Unlisted js f → field_count ≤ f
no-such-field js f t u =
    either (ltb f field_count)
    (λ h. absurd (false≢true (sym (unlisted js f u) ∙ below-passes field_count (λ i. has i js) t f (ltb-true f field_count h))))
    (λ h. ltb-false f field_count h)

pub no-width : (f : ℕ) → field_count ≤ f → field_width f ≡ 0
unfolding field_width
no-width f h = get_or-eq_default field_widths 0 h

pub width-most : (f : ℕ) → field_width f ≤ 8
unfolding field_width field_widths all_below
width-most f =
    either (ltb f field_count) (λ h. leb-true (field_width f) 8 (below-passes field_count (λ i. leb (field_width i) 8) refl f (ltb-true f field_count h)))
    (λ h. omega (arith, no-width f (ltb-false f field_count h)))
