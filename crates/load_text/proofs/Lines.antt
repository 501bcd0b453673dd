-- Laws of lines: hex digit by digit, and lengths, none of which is long.
use Prim.Native.Nat.{ℕ, zero, suc, ◌+◌, ◌-◌, ◌*◌, ◌/◌, ◌^◌, ◌≤◌, ◌<◌, min, max}
use mathlib.Core.Bool.{Bool, true, false, ◌&&◌, cond}
use mathlib.Core.List.{List, [], ◌∷◌, ◌++◌}
use mathlib.Core.Path.{◌≡◌, refl, ap}
use native.Mathlib.Nat.{pow-suc}
use native.Mathlib.Omega.{arith}
use lib.Dec.{ltb, leb, eqb}
use lib.ListN.{length, get_or, length-append}
use borrow.Author.Tests.{lt-ltb, le-ltb, lt-leb, le-leb, leb-true}
use Rattle.std.specs.Prelude.{Result, Ok, Err}
use Rattle.numbers.specs.declared.Refusal.{Refusal}
use Rattle.numbers.specs.declared.Refusal.TheVariants.{NoSpace}
use Rattle.numerals.specs.declared.page.Page.{Page}
use Rattle.numerals.specs.Digits.{digits, width_up_to, width_of, decimal_of, column}
use Rattle.numerals.specs.Laid.{space_number, lent_out}
use Rattle.numerals.specs.Pages.{Lays}
use Rattle.numerals.proofs.Laying.{decimal-length, pair-length, put-short, lent-all, lent_none, lent-known}
use Rattle.numerals.proofs.Pages.{lays_then, lays_as}
use Rattle.format.specs.declared.Call.{Call}
use Rattle.format.specs.declared.fields.Field.{Field}
use Rattle.format.specs.declared.fields.Field.TheVariants as field
use Rattle.format.specs.Records.{record_of}
use Rattle.format.specs.Format.{the_groups, field_number, field_widths, field_count, field_width, format, known, fields_of, has_kind, total, length_in, names, name_of}
use Rattle.format.specs.Calls.{value_of}
use Rattle.format.proofs.Format.{both, all_below, below-passes, all_rows, kind-tested, known-tested, no_fields, length-of, no-width}
use Rattle.load.specs.Answers.{refusal_of, written_values}
use Rattle.load.specs.Writing.{answered}
use Rattle.load.proofs.Bytes.{record-some, call_length}
use Rattle.numerals.specs.Texts.{line_feed}
use Rattle.words.proofs.Cases.{either, below}
use Rattle.load_text.specs.Lines.{glyph_of, hex_up_to, word_of, fields_text, line_of, word_most, fields_most, Brief, stop_line, header_of, printed, print_values}

-- ── hex ──
-- The digits in front of the lowest.
abbrev pub higher : ℕ → ℕ → List ℕ
higher k v = cond (ltb 0 k && leb 16 v) (hex_up_to (k - 1) (v / 16)) []

hex-split : (k v : ℕ) → higher k v ++ (glyph_of v ∷ []) ≡ hex_up_to k v
unfolding hex_up_to
hex-split zero v = refl
hex-split (suc k) v =
    let e : suc k - 1 ≡ k = omega arith in
    let z = lt-ltb 0 (suc k) (omega arith) in
    below v 16 (λ h. rw (z, lt-ltb v 16 h, lt-leb 16 v h)) (λ h. rw (z, le-ltb v 16 h, le-leb 16 v h, e))

module _ (k v : ℕ) where
  pub higher-some : 0 < k → 16 ≤ v → hex_up_to (k - 1) (v / 16) ≡ higher k v
  higher-some p q = rw (lt-ltb 0 k p, le-leb 16 v q)

  pub higher-one : k ≡ 0 → [] ≡ higher k v
  higher-one p = rw (le-ltb 0 k (omega arith))

  pub higher-small : v < 16 → [] ≡ higher k v
  higher-small q = below 0 k (λ p. rw (lt-ltb 0 k p, lt-leb 16 v q)) (λ p. rw (le-ltb 0 k p))

  pub hex-laid : (g : ℕ) → g ≡ glyph_of v → {a b d : Page} → Lays a (higher k v) b → Lays b (g ∷ []) d → Lays a (hex_up_to k v) d
  hex-laid g e p q = lays_as _ _ (rw e (hex-split k v)) (lays_then p q)

-- ── a field other than the groups ──
pub not-groups : (f : Field) → (f ≡ field.Groups → ⊥) → eqb (field_number f) the_groups ≡ false
not-groups field.Clock h = refl
not-groups field.Groups h = absurd (h refl)
not-groups field.Length h = refl
not-groups field.Ticket h = refl
not-groups field.Pool h = refl
not-groups field.Units h = refl
not-groups field.Client h = refl
not-groups field.Reserved h = refl
not-groups field.Limit h = refl
not-groups field.Grace h = refl

hex-length : (k v : ℕ) → length (hex_up_to k v) ≤ suc k
unfolding hex_up_to
hex-length zero v = omega arith
hex-length (suc k) v =
    let l = length-append (hex_up_to k (v / 16)) (glyph_of v ∷ []) in
    either (ltb v 16) (λ e. rw e (omega arith)) (λ e. rw e (omega (arith, hex-length k (v / 16))))

-- ── lengths ──
-- A number below 10 ^ n has at most n digits.
width_few : (k n v : ℕ) → 0 < n → v < 10 ^ n → width_up_to k v ≤ n
unfolding width_up_to
width_few zero n v h l = omega arith
width_few (suc k) zero v h l = absurd (omega arith)
width_few (suc k) (suc zero) v h l = rw (lt-ltb v 10 (omega arith)) (omega arith)
width_few (suc k) (suc (suc n)) v h l =
    either (ltb v 10) (λ e. rw e (omega arith))
    (λ e. rw e (omega (arith, width_few k (suc n) (v / 10) (omega arith) (omega (arith, pow-suc 10 (suc n))))))

-- A value that goes into a field's width.
value-few : (f : ℕ) → 256 ^ field_width f ≤ 10 ^ max 1 (min 20 (3 * field_width f))
unfolding all_below field_width field_widths
value-few f =
    below f field_count
    (λ h. leb-true _ _ (below-passes field_count (λ i. leb (256 ^ field_width i) (10 ^ max 1 (min 20 (3 * field_width i)))) refl f h))
    (λ h. rw (no-width f h) (omega arith))

word-length : (f v : ℕ) → v < 256 ^ field_width f → length (word_of f v) ≤ word_most f
unfolding word_of word_most width_of
word-length f v h =
    let n = max 1 (min 20 (3 * field_width f)) in
    let w = width_few 19 n v (omega arith) (omega (arith, value-few f)) in
    either (eqb f the_groups) (λ e. rw e (hex-length 15 v)) (λ e. rw e (omega (arith, decimal-length v, w)))

-- One field after the other: what is left of the bound.
pub fields-turn : (a b f : ℕ) (fs : List ℕ) (c : Call) → value_of f c < 256 ^ field_width f
    → a + fields_most (f ∷ fs) ≤ b + length (fields_text (f ∷ fs) c) → a + fields_most fs ≤ b + length (fields_text fs c)
unfolding fields_text fields_most
fields-turn a b f fs c h l = omega (arith, length-append (word_of f (value_of f c)) (fields_text fs c), word-length f (value_of f c) h)

-- A line with these fields is brief.
line-test : ℕ → List ℕ → Bool
line-test k fs =
    let n = length (get_or names k []) + fields_most fs in
    leb n 68 && leb n (3 * (2 + length_in fs))

pub line-brief : (e : ℕ) (c : Call) → length (fields_text (fields_of e c.kind) c) ≤ fields_most (fields_of e c.kind) → Brief e c
unfolding line_of name_of fields_text line-test fields_most word_most all_rows format length_in total field_width field_widths names
line-brief e c h = either (has_kind e k) some none
  where
    k : ℕ
    k = c.kind

    none : has_kind e k ≡ false → Brief e c
    none n = rw (n, no_fields e k n) (omega arith, omega (arith, record-some e (record_of c)))

    some : has_kind e k ≡ true → Brief e c
    some t =
        let fs = fields_of e k in
        let name = get_or names k [] in
        let n = length name + fields_most fs in
        let b = both (leb n 68) (leb n (3 * (2 + length_in fs))) (kind-tested (λ e k fs. line-test k fs) e k refl t) in
        let r = call_length e c t in
        let l : length (line_of e c) ≤ n = rw t (omega (arith, length-append name (fields_text fs c), h)) in
        (omega (arith, l, leb-true n 68 b.0), omega (arith, l, leb-true n (3 * (2 + length_in fs)) b.1, r, length-of e k t))

-- The header of an edition that there is has at most 12.
pub header-length : (e : ℕ) → known e ≡ true → length (header_of e) ≤ 12
unfolding all_rows format header_of column decimal_of width_of width_up_to digits
header-length e k = leb-true (length (header_of e)) 12 (known-tested (λ i. leb (length (header_of i)) 12) refl e k)

pub stop-length : (n k : ℕ) → length (stop_line n k) ≤ 49
unfolding stop_line
stop-length n k = omega (arith, pair-length n k line_feed)

-- ── what is answered ──
-- The answer on a text for a lent buffer o, which becomes p.
abbrev Prints : List ℕ → List ℕ → Result ℕ Refusal → List ℕ → Type 0
Prints text o r p = (r ≡ printed text o) × ((p ≡ lent_out text o) × (written_values r ≡ print_values text o))

pub print-none : (text o : List ℕ) → length o < length text → Prints text o (Err NoSpace) o
unfolding printed print_values refusal_of
print-none text o h = let l = lent_none text o h in (rw l.0 refl, (l.1, rw l.0 refl))

-- The text laid on a page over the buffer.
pub print-all : (text o : List ℕ) {a b : Page} → length text < 2 ^ 64 → length text ≤ length o → (a.out.now ≡ o) × (a.at ≡ 0) → Lays a text b → Prints text o (Ok b.at) b.out.now
unfolding printed print_values
print-all text o {a} {b} s h z w =
    let e = put-short s (rw (z.0, z.1) at w.put) in
    let l = lent-all text o b.out.now h e.1 in
    (rw l.0 (ap Ok e.0), (l.1, rw l.0 (ap (λ (n : ℕ). record { number = 0; length = n }) e.0)))

-- A text is counted by laying it on a page.
pub counted : (text : List ℕ) {a b : Page} → length text < 2 ^ 64 → a.at ≡ 0 → Lays a text b → b.at ≡ length text
counted text s z w = (put-short s (rw z at w.put)).0

-- A length that is answered is one of the buffer.
pub printed-within : (text o : List ℕ) (n : ℕ) → printed text o ≡ Ok n → n ≤ length o
unfolding printed
printed-within text o n e = go (space_number text o) refl e
  where
    go : (k : ℕ) → space_number text o ≡ k → answered k (length text) ≡ Ok n → n ≤ length o
    go zero q h = let m : length text ≡ n = cc in omega (arith, (lent-known text o q).0)
    go (suc k) q h = absurd (cc)
