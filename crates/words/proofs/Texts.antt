-- The lengths of reports, none of which is long.
use Prim.Native.Nat.{ℕ, zero, suc, ◌≤◌, ◌<◌, max}
use mathlib.Core.Bool.{true, false, false≢true, ◌&&◌, and-eq-true_iff}
use mathlib.Core.List.{List, [], ◌∷◌, ◌++◌, map}
use mathlib.Core.Path.{◌≡◌, refl, sym, ap, ◌∙◌}
use native.Mathlib.Omega.{arith}
use lib.Dec.{eqb, leb, ltb}
use lib.ListN.{length, get_or, replicate, length-append, length-replicate}
use borrow.Author.Tests.{leb-true, le-leb, lt-leb, lt-ltb, eqb-true, ne_eqb}
use Rattle.numerals.specs.Digits.{decimal_of}
use Rattle.numerals.specs.Laid.{Put}
use Rattle.numerals.specs.Texts.{bytes}
use Rattle.numerals.proofs.Laying.{width_small, decimal-length, put-short, lent-all}
use Rattle.std.specs.List.{list_any, list_all}
use Rattle.words.specs.Parts.{bytes_before, place_of, is}
use Rattle.words.specs.Reports.{reasons, reason_texts, reason_text, not_written, form_told, report_of, reported}
use Rattle.words.proofs.Cases.{either}

-- ── texts ──
-- A number that is none of these, as the last arm of a match has it.
abbrev pub Unlisted : List ℕ → ℕ → Type 0
Unlisted [] n = Unit {0}
Unlisted (j ∷ js) n = Unlisted js n × (n ≡ j → ⊥)

unlisted : (js : List ℕ) (n m : ℕ) → Unlisted js n → list_any (eqb m) js ≡ true → eqb m n ≡ false
unlisted [] n m u h = absurd (false≢true h)
unlisted (j ∷ js) n m u h =
    either (eqb m j) (λ e. ne_eqb m n (λ q. u.1 (sym q ∙ eqb-true m j e))) (λ e. unlisted js n m u.0 (rw e at h))

none-listed : (js ns : List ℕ) (n : ℕ) → Unlisted js n → list_all (λ m. list_any (eqb m) js) ns ≡ true → bytes_before (is n) ns ≡ length ns
unfolding bytes_before
none-listed js [] n u h = refl
none-listed js (m ∷ ns) n u h =
    let q = (and-eq-true_iff (list_any (eqb m) js) (list_all (λ m. list_any (eqb m) js) ns)).0 h in rw (unlisted js n m u q.0) (ap (λ (k : ℕ). suc k) (none-listed js ns n u q.1))

-- It has no text.
pub no_reason : (js : List ℕ) (n : ℕ) → Unlisted js n → list_all (λ m. list_any (eqb m) js) (map (λ r. r.number) reasons) ≡ true → not_written ≡ reason_text n
unfolding reason_text reason_texts reasons place_of
no_reason js n u h = rw (none-listed js (map (λ r. r.number) reasons) n u h)

-- ── reports ──
-- The length of the longest text of a table.
unfoldable longest : List (List ℕ) → ℕ
longest [] = 0
longest (t ∷ ts) = max (length t) (longest ts)

text-length : (ts : List (List ℕ)) (i : ℕ) → length (get_or ts i []) ≤ longest ts
unfolding longest
text-length [] i = omega arith
text-length (t ∷ ts) zero = omega arith
text-length (t ∷ ts) (suc i) = omega (arith, text-length ts i)

reason-length : (n : ℕ) → length (reason_text n) ≤ 28
unfolding reason_text reason_texts reasons longest
reason-length n = text-length reason_texts (place_of (is n) (map (λ r. r.number) reasons) 0)

form-length : (form : List ℕ) → length (form_told form) ≤ 66
unfolding form_told
form-length form =
    either (ltb 0 (length form) && leb (length form) 64)
    (λ t. rw t (omega (arith, leb-true (length form) 64 ((and-eq-true_iff (ltb 0 (length form)) (leb (length form) 64)).0 t).1)))
    (λ t. rw t (omega arith))

report-length : (line n : ℕ) (form : List ℕ) → length (report_of line n form) ≤ 122
unfolding report_of
report-length line n form =
    let a = length-append (decimal_of line) (bytes ": " ++ (reason_text n ++ (form_told form ++ bytes "\n"))) in
    let b = length-append (reason_text n) (form_told form ++ bytes "\n") in
    omega (arith, a, b, length-append (form_told form) (bytes "\n"), decimal-length line, width_small line, reason-length n, form-length form)

-- Laid over 128 bytes it goes in.
pub report-goes : (line n : ℕ) (form : List ℕ) {r : ℕ} {p : List ℕ} → Put (replicate 128 0) 0 (report_of line n form) r p
    → (record { text = p; length = r } ≡ reported line n form) × (r ≤ 128)
report-goes line n form {r} {p} w =
    let h = report-length line n form in
    let e = put-short (omega arith) w in
    let l = lent-all (report_of line n form) (replicate 128 0) p (omega (arith, length-replicate {A = ℕ} 128 0)) e.1 in
    (cc (e.0, l.1), omega (arith, e.0))

-- ── forms ──
-- A form that is told, and one that is left out.
module _ (form : List ℕ) where
  pub form-told : 0 < length form → length form ≤ 64 → form_told form ≡ bytes ": " ++ form
  unfolding form_told
  form-told h k = rw (lt-ltb 0 (length form) h, le-leb (length form) 64 k)

  pub form_empty : length form ≡ 0 → form_told form ≡ []
  unfolding form_told
  form_empty h = rw h

  pub form_long : 64 < length form → form_told form ≡ []
  unfolding form_told
  form_long h = rw (lt-ltb 0 (length form) (omega arith), lt-leb (length form) 64 h)
