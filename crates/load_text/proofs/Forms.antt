-- The forms of lines: as the code finds them, and for every line that wants one.
use Prim.Native.Nat.{ℕ, suc, ◌≤◌, ◌<◌}
use mathlib.Core.Bool.{Bool, true, false, not, ◌&&◌}
use mathlib.Core.List.{List, [], ◌++◌}
use mathlib.Core.Path.{◌≡◌, refl, sym, ap, ◌∙◌}
use native.Mathlib.Omega.{arith}
use lib.Dec.{eqb, leb, ltb}
use lib.ListN.{length, take, get_or, replicate, length-replicate}
use borrow.Author.Tests.{eqb-true, ltb-true, leb-true, not-true}
use Rattle.std.specs.Prelude.{Option, Some, None}
use Rattle.format.specs.Format.{format, has_kind, fields_of, names, name_of}
use Rattle.format.proofs.Format.{both, all_rows, kind-tested}
use Rattle.numerals.specs.declared.page.Page.{Page}
use Rattle.numerals.specs.Pages.{Lays}
use Rattle.numerals.proofs.Laying.{put-short, laid-first}
use Rattle.words.specs.Parts.{bytes_before, parts, words_in, chomped, said, line_at, first_said}
use Rattle.words.specs.declared.reports.Reported.{Reported}
use Rattle.words.specs.Reports.{form_for, reported, wants_form}
use Rattle.words.specs.Words.{is_word}
use Rattle.words.proofs.Cases.{either}
use Rattle.words.proofs.Names.{word_same}
use Rattle.load_text.specs.Forms.{field_words, field_word, fields_form, kind_form, edition_form, named_form, word_form, form_of, FormWords}
use Rattle.load_text.specs.Making.{heading}
use Rattle.load_text.specs.Parsing.{edition_word, kind_named}
use Rattle.load_text.proofs.Tables.{named-kind}

-- ── the table of forms ──
-- The form of a kind by its fields: as many words as the line needs, told as it is, the name first, which is not `edition`.
row-form : ℕ → List ℕ → List ℕ
row-form k fs = get_or names k [] ++ fields_form fs

form-test : ℕ → ℕ → List ℕ → Bool
form-test e k fs =
    (eqb (length (words_in (row-form k fs))) (suc (length fs)) && (ltb 0 (length (row-form k fs)) && leb (length (row-form k fs)) 64))
    && (is_word (first_said (row-form k fs)) (get_or names k []) && not (is_word (get_or names k []) edition_word))

-- What the test says of a kind.
pub record Formed (k : ℕ) (fs form : List ℕ) : Type 0 where
  pub count : length (words_in form) ≡ suc (length fs)
  pub size : (ltb 0 (length form) && leb (length form) 64) ≡ true
  pub first : first_said form ≡ get_or names k []
  pub apart : is_word (get_or names k []) edition_word ≡ false

row-formed : (e k : ℕ) (fs : List ℕ) → form-test e k fs ≡ true → Formed k fs (row-form k fs)
unfolding form-test
row-formed e k fs t =
    let form = row-form k fs in
    let name = get_or names k [] in
    let size = ltb 0 (length form) && leb (length form) 64 in
    let a = both (eqb (length (words_in form)) (suc (length fs)) && size) (is_word (first_said form) name && not (is_word name edition_word)) t in
    let b = both (eqb (length (words_in form)) (suc (length fs))) size a.0 in
    let c = both (is_word (first_said form) name) (not (is_word name edition_word)) a.1 in
    record {
      count = eqb-true (length (words_in form)) (suc (length fs)) b.0;
      size = b.1;
      first = word_same (first_said form) name c.0;
      apart = not-true (is_word name edition_word) c.1;
    }

forms-pass : all_rows form-test format ≡ true
unfolding form-test row-form all_rows format names fields_form field_word field_words is_word first_said said chomped bytes_before words_in parts
forms-pass = refl

pub formed : (e k : ℕ) → has_kind e k ≡ true → Formed k (fields_of e k) (kind_form e k)
unfolding kind_form name_of row-form
formed e k h = rw h (row-formed e k (fields_of e k) (kind-tested form-test e k forms-pass h))

pub form-size : {k : ℕ} {fs form : List ℕ} → Formed k fs form → (0 < length form) × (length form ≤ 64)
form-size {k} {fs} {form} f =
    let n = length form in
    let b = both (ltb 0 n) (leb n 64) f.size in
    (ltb-true 0 n b.0, leb-true n 64 b.1)

size_few : (e k : ℕ) → has_kind e k ≡ true → length (kind_form e k) ≤ 64
size_few e k h = (form-size (formed e k h)).1

pub form-words : FormWords
form-words e k h = ((formed e k h).count, size_few e k h)

-- ── as the code finds them ──
module _ (e : ℕ) (w : List ℕ) where
  pub edition-form : is_word w edition_word ≡ true → word_form e w ≡ edition_form
  unfolding word_form
  edition-form t = rw t

  pub word-form : is_word w edition_word ≡ false → word_form e w ≡ named_form e (kind_named e w)
  unfolding word_form
  word-form t = rw t

  form-few : length (word_form e w) ≤ 64
  form-few = either (is_word w edition_word) (λ t. rw (edition-form t) (omega arith)) (λ t. rw (word-form t) (go (kind_named e w) refl))
    where
      go : (k : Option ℕ) → kind_named e w ≡ k → length (named_form e k) ≤ 64
      go None q = omega arith
      go (Some k) q = size_few e k (named-kind e w k q).0

  -- A form goes into 64 bytes, and stands in the first of them.
  pub form-goes : {a b : Page} → (a.out.now ≡ replicate 64 0) × (a.at ≡ 0) → Lays a (word_form e w) b → (b.at ≤ 64) × (take b.at b.out.now ≡ word_form e w)
  form-goes {a} {b} z u =
      let q = put-short (omega (arith, form-few)) (rw (z.0, z.1) at u.put) in
      (omega (arith, q.0, form-few), ap (take b.at) q.1 ∙ laid-first (replicate 64 0) (word_form e w) b.at (sym q.0) (omega (arith, form-few, length-replicate {A = ℕ} 64 0)))

  -- So it is what is told.
  pub form-told : (line n : ℕ) (r : Reported) {a b : Page} (x : List ℕ) → (a.out.now ≡ replicate 64 0) × (a.at ≡ 0) → Lays a (word_form e w) b
      → r ≡ reported line n (take b.at x) → x ≡ b.out.now → r ≡ reported line n (word_form e w)
  form-told line n r {a} {b} x z u q i = q ∙ ap (λ (l : List ℕ). reported line n l) (ap (take b.at) i ∙ (form-goes z u).1)

module _ (text : List ℕ) (line n : ℕ) where
  pub no-form : wants_form n ≡ false → form_of text line n ≡ []
  unfolding form_of form_for
  no-form e = rw e

  pub form-is : wants_form n ≡ true → form_of text line n ≡ word_form (heading text).edition (first_said (line_at text line))
  unfolding form_of form_for
  form-is e = rw e

  -- The form in the edition of the heading, by the line's first word.
  pub form-found : wants_form n ≡ true → (e : ℕ) → e ≡ (heading text).edition → (w : List ℕ) → w ≡ first_said (line_at text line) → form_of text line n ≡ word_form e w
  form-found t e h w p = rw (form-is t, h, p)
