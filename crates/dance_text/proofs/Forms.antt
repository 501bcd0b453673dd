-- The forms of lines: as the code finds them, and for every line that wants one.
use Prim.Native.Nat.{ℕ, suc, ◌+◌, ◌-◌, ◌<◌}
use mathlib.Core.Bool.{Bool, true, false, false≢true}
use mathlib.Core.List.{List, [], ◌∷◌, map}
use mathlib.Core.Path.{◌≡◌, refl, sym, ap, ◌∙◌}
use native.Mathlib.Omega.{arith}
use lib.Dec.{ltb}
use lib.ListN.{length, get_or}
use Rattle.std.specs.Prelude.{Option, Some, None, Ok, Err}
use Rattle.numerals.specs.Texts.{bytes}
use Rattle.words.specs.declared.reasons.Reason.{Reason}
use Rattle.words.specs.declared.reasons.Reason.TheVariants.{Unknown}
use Rattle.words.specs.Parts.{bytes_before, parts, words_in, chomped, said, lines_in, line_at, first_said}
use Rattle.words.specs.Reasons.{reason_number}
use Rattle.words.specs.Reports.{BeginsWith, form_for, form_told, wants_form}
use Rattle.words.specs.Words.{is_word}
use Rattle.words.proofs.Cases.{either}
use Rattle.words.proofs.Names.{word_same}
use Rattle.words.proofs.Lines.{line-from-one}
use Rattle.dance_text.specs.declared.Call.{Call}
use Rattle.dance_text.specs.declared.Call.TheVariants.{Rig, Claim, Release}
use Rattle.dance_text.specs.declared.Mistake.{Mistake}
use Rattle.dance_text.specs.declared.Name.{Name}
use Rattle.dance_text.specs.declared.Name.TheVariants.{NewRig, NewClaim, EndClaim}
use Rattle.dance_text.specs.Forms.{named_form, form_of, word_form, FormsTold, FormWords}
use Rattle.dance_text.specs.Lines.{Line, call_named, named_says, call_said, line_says}
use Rattle.dance_text.specs.Shows.{said_in, calls_of, misplaced, line_number, survey_in, survey_of}
use Rattle.dance_text.proofs.Shows.{wrong-cases}

-- ── as the code finds them ──
module _ (text : List ℕ) (line n : ℕ) where
  pub no-form : wants_form n ≡ false → form_of text line n ≡ []
  unfolding form_of form_for
  no-form e = rw e

  form-is : wants_form n ≡ true → form_of text line n ≡ word_form (first_said (line_at text line))
  unfolding form_of form_for
  form-is e = rw e

  -- What the line's first word names has the form.
  pub form-found : wants_form n ≡ true → (w : List ℕ) → w ≡ first_said (line_at text line) → (k : Option Name) → k ≡ call_named w → form_of text line n ≡ named_form k
  unfolding word_form
  form-found e w p k c = form-is e ∙ ap named_form (sym (c ∙ ap call_named p))

-- ── every line that wants one ──
pub form-words : FormWords
unfolding words_in parts
form-words NewRig = (refl, omega arith)
form-words NewClaim = (refl, omega arith)
form-words EndClaim = (refl, omega arith)

-- The form of a word that names a call.
word-begins : (w : List ℕ) (n : Name) → call_named w ≡ Some n → BeginsWith w (word_form w)
unfolding word_form call_named is_word first_said form_told said chomped bytes_before words_in parts
word-begins w n e =
    either (is_word w (bytes "rig")) (λ t. let q = word_same w (bytes "rig") t in rw q (record { some = omega arith; first = refl; told = refl }))
    (λ t. either (is_word w (bytes "claim")) (λ u. let q = word_same w (bytes "claim") u in rw q (record { some = omega arith; first = refl; told = refl }))
    (λ u. either (is_word w (bytes "release")) (λ v. let q = word_same w (bytes "release") v in rw q (record { some = omega arith; first = refl; told = refl }))
    (λ v. let z : ◌≡◌ {A = Option Name} None (Some n) = rw (t, u, v) at e in absurd (cc))))

-- A line that has too few words, or too many, names a call.
abbrev Names : List ℕ → Type 0
Names w = (n : Name) × (call_named w ≡ Some n)

line-names : (l : List ℕ) (r : Reason) → line_says l ≡ Err r → wants_form (reason_number r) ≡ true → Names (first_said l)
unfolding line_says call_said first_said
line-names l r h e = go (words_in (said l)) h
  where
    by : (o : Option Name) (ws : List (List ℕ)) → named_says o ws ≡ Err r → (n : Name) × (o ≡ Some n)
    by None ws h = let z : Unknown ≡ r = cc in absurd (false≢true (rw (← z) at e))
    by (Some n) ws h = (n, refl)

    go : (ws : List (List ℕ)) → call_said ws ≡ Err r → Names (get_or ws 0 [])
    go [] h = absurd (cc)
    go (w ∷ ws) h = by (call_named w) ws h

-- No number of document 01 wants a form.
line-wrong : (begun : Bool) (l : Line) → wants_form (line_number begun l) ≡ true → (r : Reason) × (l ≡ Err r) × (reason_number r ≡ line_number begun l)
line-wrong begun (Ok None) e = absurd (false≢true e)
line-wrong begun (Ok (Some c)) e = absurd (false≢true (sym (go begun c) ∙ e))
  where
    go : (b : Bool) (c : Call) → wants_form (misplaced b c) ≡ false
    go true (Rig g) = refl
    go true (Claim g) = refl
    go true (Release k) = refl
    go false (Rig g) = refl
    go false (Claim g) = refl
    go false (Release k) = refl
line-wrong begun (Err r) e = (r, refl, refl)

-- So the line that is found after k others names one.
abbrev Found : ℕ → List (List ℕ) → Mistake → Type 0
Found k ts m = (k < m.line) × Names (first_said (get_or ts (m.line - (k + 1)) []))

survey-names : (k c : ℕ) (ts : List (List ℕ)) (m : Mistake) → survey_in k c (map line_says ts) ≡ Err m → wants_form m.number ≡ true → Found k ts m
unfolding survey_in
survey-names k c [] m = λ h e. absurd (cc)
survey-names k c (t ∷ ts) m =
    let l = line_says t in
    let b = ltb 0 c in
    wrong-cases (λ s. s ≡ Err m → wants_form m.number ≡ true → Found k (t ∷ ts) m) (line_number b l) (k + 1) (survey_in (k + 1) (c + length (calls_of l)) (map line_says ts))
    (λ z h e.
    let q : ◌≡◌ {A = Mistake} (record { line = k + 1; number = line_number b l }) m = cc in
    let a : m.line ≡ k + 1 = ap (λ (x : Mistake). x.line) (sym q) in
    let d : m.number ≡ line_number b l = ap (λ (x : Mistake). x.number) (sym q) in
    let o : m.line - (k + 1) ≡ 0 = omega arith in
    let r = line-wrong b l (rw d at e) in
    (omega arith, rw o (line-names t r.0 r.1 (rw r.2 (rw d at e)))))
    (λ z h e.
    let r = survey-names (k + 1) (c + length (calls_of l)) ts m h e in
    let q : m.line - (k + 1) ≡ suc (m.line - (k + 1 + 1)) = omega (arith, r.0) in
    (omega (arith, r.0), rw q r.1))

pub forms-told : FormsTold
unfolding survey_of said_in
forms-told text m h e =
    let r = survey-names 0 0 (lines_in text) m h e in
    let l = line-from-one text m.line r.0 in
    let c : Names (first_said (line_at text m.line)) = rw l r.1 in
    rw (form-is text m.line m.number e) (word-begins (first_said (line_at text m.line)) c.0 c.1)
