-- Calls and their values, there and back: by one induction over the fields of a row, given that they differ (`proper`).
use Prim.Native.Nat.{ℕ, zero, suc, ◌^◌, ◌≤◌, ◌<◌}
use mathlib.Core.Bool.{Bool, true, false, false≢true, not, ◌&&◌, ◌||◌}
use mathlib.Core.List.{List, [], ◌∷◌}
use mathlib.Core.Logic.{⊎_elim}
use mathlib.Core.Path.{◌≡◌, refl, sym, ap, subst, ◌∙◌}
use native.Mathlib.Omega.{arith}
use native.Mathlib.Nat.{one-le-pow}
use lib.Dec.{ltb, eqb}
use borrow.Author.Tests.{eqb-true, eqb-false, eq-eqb, ne_eqb, lt-ltb, not-true}
use lib.ListN.{length, drop, get_or, set, length-set, get_or-eq_default}
use lib.Seq.{get_or-set_same, get_or-set_other, set_out, ext_get_or}
use Rattle.format.specs.declared.Call.{Call}
use Rattle.format.specs.Format.{the_client, format, field_widths, field_count, field_width, defaults, default, has_kind, fields_of}
use Rattle.format.specs.Calls.{numbers, made, value_of, with_value, bare, filled, call_of, values_in, values_of, same_below, same, kept, keeps, Typed, OlderCallClient}
use Rattle.format.proofs.Format.{both, either, neither, has, all_rows, tested, proper, proper-parts, fields-proper}

-- ── one field ──
-- A list is made of what stands at its places.
listed : (ℕ → ℕ) → ℕ → List ℕ
listed f zero = []
listed f (suc n) = f 0 ∷ listed (λ i. f (suc i)) n

listed-is : (d : ℕ → ℕ) (xs : List ℕ) → listed (λ i. get_or xs i (d i)) (length xs) ≡ xs
unfolding listed
listed-is d [] = refl
listed-is d (x ∷ xs) = ap (λ r. x ∷ r) (listed-is (λ i. d (suc i)) xs)

-- What stands at a place of a list does not depend on what stands for nothing.
pub given_is : (ns : List ℕ) (f d : ℕ) → f < length ns → get_or ns f 0 ≡ get_or ns f d
given_is [] f d h = absurd (omega arith)
given_is (n ∷ ns) zero d h = refl
given_is (n ∷ ns) (suc f) d h = given_is ns f d (omega arith)

-- A call made of as many numbers as there are fields has them at their places.
numbers-made : (ns : List ℕ) → length ns ≡ field_count → numbers (made ns) ≡ ns
unfolding numbers made listed field_widths
numbers-made ns h = subst (λ (n : ℕ). listed (λ i. get_or ns i (default i)) n ≡ ns) h (listed-is default ns)

with-numbers : (f v : ℕ) (c : Call) → numbers (with_value f v c) ≡ set (numbers c) f v
unfolding with_value numbers field_widths
with-numbers f v c = numbers-made (set (numbers c) f v) (length-set (numbers c) f v)

pub value_same : (f v : ℕ) (c : Call) → f < field_count → value_of f (with_value f v c) ≡ v
unfolding value_of numbers field_widths
value_same f v c h = ap (λ (xs : List ℕ). get_or xs f 0) (with-numbers f v c) ∙ get_or-set_same (numbers c) f v 0 h

pub value-other : (f g v : ℕ) (c : Call) → eqb f g ≡ false → value_of f (with_value g v c) ≡ value_of f c
unfolding value_of
value-other f g v c h = ap (λ (xs : List ℕ). get_or xs f 0) (with-numbers g v c) ∙ get_or-set_other (numbers c) g f v 0 (eqb-false f g h)

pub no_value : (f : ℕ) (c : Call) → field_count ≤ f → (0 ≡ value_of f c) × (0 < 256 ^ field_width f)
unfolding value_of numbers field_widths
no_value f c h = (sym (get_or-eq_default (numbers c) 0 h), one-le-pow (field_width f) 256 (omega arith))

-- A value put into no field.
pub with_none : (f w : ℕ) (c : Call) → field_count ≤ f → c ≡ with_value f w c
unfolding with_value made numbers field_widths
with_none f w c h = ap made (sym (set_out (numbers c) f w h))

same-below : (n : ℕ) (c d : Call) → same_below n c d ≡ true → (f : ℕ) → f < n → value_of f c ≡ value_of f d
unfolding same_below
same-below zero c d h f l = absurd (omega arith)
same-below (suc n) c d h f l =
    let q = both (eqb (value_of n c) (value_of n d)) (same_below n c d) h in
    either (eqb f n) (λ p. rw (eqb-true f n p) (eqb-true (value_of n c) (value_of n d) q.0)) (λ p. same-below n c d q.1 f (omega (arith, eqb-false f n p)))

-- Two calls with the same values are one.
pub same-call : (c d : Call) → same c d ≡ true → c ≡ d
unfolding value_of made numbers field_widths
same-call c d h = ap made (ext_get_or 0 (numbers c) (numbers d) refl (same-below field_count c d h))

same_self : (n : ℕ) (c d : Call) → c ≡ d → same_below n c d ≡ true
unfolding same_below
same_self zero c d e = refl
same_self (suc n) c d e = rw (eq-eqb (value_of n c) (value_of n d) (ap (value_of n) e), same_self n c d e)

-- The same by the code's comparison, one field after the other.
abbrev pub each_same : Call → Call → Bool
each_same c d = eqb c.kind d.kind && (eqb c.clock d.clock && (eqb c.groups d.groups && (eqb c.length d.length && (eqb c.ticket d.ticket && (eqb c.pool d.pool && (eqb c.units d.units && (eqb c.client d.client && (eqb c.reserved d.reserved && (eqb c.limit d.limit && (eqb c.grace d.grace))))))))))

each-call : (c d : Call) → each_same c d ≡ true → c ≡ d
unfolding made numbers
each-call c d h =
    let q0 = both (eqb c.kind d.kind) _ h in
    let q1 = both (eqb c.clock d.clock) _ q0.1 in
    let q2 = both (eqb c.groups d.groups) _ q1.1 in
    let q3 = both (eqb c.length d.length) _ q2.1 in
    let q4 = both (eqb c.ticket d.ticket) _ q3.1 in
    let q5 = both (eqb c.pool d.pool) _ q4.1 in
    let q6 = both (eqb c.units d.units) _ q5.1 in
    let q7 = both (eqb c.client d.client) _ q6.1 in
    let q8 = both (eqb c.reserved d.reserved) _ q7.1 in
    let q9 = both (eqb c.limit d.limit) _ q8.1 in
    let n : numbers c ≡ numbers d = rw (eqb-true c.kind d.kind q0.0, eqb-true c.clock d.clock q1.0, eqb-true c.groups d.groups q2.0, eqb-true c.length d.length q3.0, eqb-true c.ticket d.ticket q4.0, eqb-true c.pool d.pool q5.0, eqb-true c.units d.units q6.0, eqb-true c.client d.client q7.0, eqb-true c.reserved d.reserved q8.0, eqb-true c.limit d.limit q9.0, eqb-true c.grace d.grace q9.1) in
    ap made n

each-self : (c : Call) → each_same c c ≡ true
each-self c = rw (eq-eqb c.kind c.kind refl, eq-eqb c.clock c.clock refl, eq-eqb c.groups c.groups refl, eq-eqb c.length c.length refl, eq-eqb c.ticket c.ticket refl, eq-eqb c.pool c.pool refl, eq-eqb c.units c.units refl, eq-eqb c.client c.client refl, eq-eqb c.reserved c.reserved refl, eq-eqb c.limit c.limit refl, eq-eqb c.grace c.grace refl)

pub each-same : (c d : Call) → each_same c d ≡ same c d
each-same c d =
    either (each_same c d)
    (λ p. p ∙ sym (same_self field_count c d (each-call c d p)))
    (λ p. p ∙ sym (either (same c d) (λ q. absurd (false≢true (sym p ∙ subst (λ (x : Call). each_same c x ≡ true) (same-call c d q) (each-self c)))) (λ q. q)))

-- ── the fields of a row ──
no-kind-byte : (fs : List ℕ) → proper fs ≡ true → has 0 fs ≡ false
unfolding has
no-kind-byte [] p = refl
no-kind-byte (f ∷ fs) p = let q = proper-parts f fs p in rw (ne_eqb 0 f (λ z. omega (arith, q.0)), no-kind-byte fs q.3)

-- A field that is not among them keeps its value.
pub filled-other : (fs vs : List ℕ) (c : Call) (f : ℕ) → has f fs ≡ false → value_of f (filled fs vs c) ≡ value_of f c
unfolding filled has
filled-other [] vs c f h = refl
filled-other (g ∷ fs) vs c f h =
    let q = neither (eqb f g) (has f fs) h in
    filled-other fs (drop 1 vs) (with_value g (get_or vs 0 0) c) f q.1 ∙ value-other f g (get_or vs 0 0) c q.0

-- Those among them have the values that were put in.
filled-values : (fs vs : List ℕ) (c : Call) → proper fs ≡ true → length vs ≡ length fs → values_in fs (filled fs vs c) ≡ vs
unfolding filled
filled-values [] [] c p l = refl
filled-values [] (v ∷ vs) c p l = absurd (omega arith)
filled-values (f ∷ fs) [] c p l = absurd (omega arith)
filled-values (f ∷ fs) (v ∷ vs) c p l =
    let d = with_value f v c in
    let q = proper-parts f fs p in
    rw (filled-other fs vs d f q.2, value_same f v c q.1, filled-values fs vs d q.3 (omega arith))

-- ── a call from its kind and values ──
module _ (e k : ℕ) (vs : List ℕ) where
  pub kind-of-call : (call_of e k vs).kind ≡ k
  unfolding call_of value_of numbers bare made
  kind-of-call = filled-other (fields_of e k) vs (bare k) 0 (no-kind-byte (fields_of e k) (fields-proper e k))

  module _ (l : length vs ≡ length (fields_of e k)) where
    pub values-of-call : values_of e (call_of e k vs) ≡ vs
    unfolding values_of call_of
    values-of-call = ap (λ (j : ℕ). values_in (fields_of e j) (call_of e k vs)) kind-of-call ∙ filled-values (fields_of e k) vs (bare k) (fields-proper e k) l

    kept-call : kept e (call_of e k vs) ≡ call_of e k vs
    unfolding kept
    kept-call = ap (λ (j : ℕ). call_of e j (values_of e (call_of e k vs))) kind-of-call ∙ ap (call_of e k) values-of-call

    pub call-keeps : has_kind e k ≡ true → keeps e (call_of e k vs) ≡ true
    unfolding keeps
    call-keeps h =
        let l : has_kind e (call_of e k vs).kind ≡ true = ap (has_kind e) kind-of-call ∙ h in
        rw (l, same_self field_count (kept e (call_of e k vs)) (call_of e k vs) kept-call)

pub keeps-kind : (e : ℕ) (c : Call) → keeps e c ≡ true → has_kind e c.kind ≡ true
unfolding keeps
keeps-kind e c h = (both _ _ h).0

pub call-of-values : (e : ℕ) (c : Call) → keeps e c ≡ true → call_of e c.kind (values_of e c) ≡ c
unfolding keeps kept
call-of-values e c h = same-call (kept e c) c (both (has_kind e c.kind) (same (kept e c) c) h).1

-- The fields that a kind lacks have their defaults, in a call of its values ..
pub lacked : (e k : ℕ) (vs : List ℕ) (f : ℕ) → 0 < f → has f (fields_of e k) ≡ false → value_of f (call_of e k vs) ≡ default f
unfolding call_of value_of numbers bare made defaults default
lacked e k vs zero h n = absurd (omega arith)
lacked e k vs (suc f) h n = filled-other (fields_of e k) vs (bare k) (suc f) n

-- .. so of a field that no edition before `first` has, in their calls ..
pub older-lacks : (f first : ℕ) → 0 < f → all_rows (λ e k fs. not (ltb e first) || not (has f fs)) format ≡ true
    → (e k : ℕ) (vs : List ℕ) → e < first → value_of f (call_of e k vs) ≡ default f
unfolding has
older-lacks f first z t e k vs l =
    let n : has f (fields_of e k) ≡ false = ⊎_elim (λ n. rw n) (λ p. not-true (has f (fields_of e k)) (rw (lt-ltb e first l) at p))
    (tested (λ e k fs. not (ltb e first) || not (has f fs)) e k t) in
    lacked e k vs f z n

pub older-call-client : OlderCallClient
unfolding all_rows format has value_of numbers defaults default
older-call-client e k vs l = older-lacks the_client 3 (omega arith) refl e k vs l

-- .. and in one that an edition keeps whole.
pub keeps-none : (e : ℕ) (c : Call) (f : ℕ) → keeps e c ≡ true → has (suc f) (fields_of e c.kind) ≡ false → value_of (suc f) c ≡ default (suc f)
keeps-none e c f h n = ap (value_of (suc f)) (sym (call-of-values e c h)) ∙ lacked e c.kind (values_of e c) (suc f) (omega arith) n

-- ── types ──
pub typed-with : (f v : ℕ) (c : Call) → f < field_count → v < 256 ^ field_width f → Typed c → Typed (with_value f v c)
typed-with f v c l h t g =
    either (eqb g f) (λ p. rw (eqb-true g f p, value_same f v c l) h) (λ p. rw (value-other g f v c p) (t g))

-- Each number goes into its width.
abbrev pub Within : List ℕ → List ℕ → Type 0
Within [] ws = Unit {0}
Within (v ∷ vs) [] = (v < 1) × Within vs []
Within (v ∷ vs) (w ∷ ws) = (v < 256 ^ w) × Within vs ws

within-at : (vs ws : List ℕ) → Within vs ws → (f : ℕ) → get_or vs f 0 < 256 ^ get_or ws f 0
within-at [] ws i f = one-le-pow (get_or ws f 0) 256 (omega arith)
within-at (v ∷ vs) [] i zero = i.0
within-at (v ∷ vs) [] i (suc f) = within-at vs [] i.1 f
within-at (v ∷ vs) (w ∷ ws) i zero = i.0
within-at (v ∷ vs) (w ∷ ws) i (suc f) = within-at vs ws i.1 f

pub typed_call : (c : Call) → Within (numbers c) field_widths → Typed c
unfolding value_of field_width
typed_call c i = within-at (numbers c) field_widths i

pub typed-bare : (k : ℕ) → k < 2 ^ 8 → Typed (bare k)
unfolding numbers bare made defaults default field_widths
typed-bare k h =
    typed_call (bare k) (h, (omega arith, (omega arith, (omega arith, (omega arith, (omega arith, (omega arith, (omega arith, (omega arith, (omega arith, (omega arith, tt)))))))))))

-- So do the defaults.
pub default-typed : (f : ℕ) → default f < 256 ^ field_width f
unfolding value_of numbers bare made defaults default
default-typed f = typed-bare 0 (omega arith) f
