-- A line that `make` finds to have too few or too many words is told with its form.
use Prim.Native.Nat.{ℕ, zero, suc, ◌+◌, ◌-◌, ◌≤◌, ◌<◌}
use mathlib.Core.Bool.{true, false, not, ◌||◌, false≢true}
use mathlib.Core.List.{List, [], ◌∷◌, ◌++◌, map}
use mathlib.Core.Path.{◌≡◌, refl, sym, ap, ◌∙◌}
use native.Mathlib.Omega.{arith}
use lib.Dec.{eqb, ltb}
use lib.ListN.{length, get_or, drop}
use lib.Seq.{get_or-drop}
use borrow.Author.Tests.{eqb-true}
use Rattle.std.specs.Prelude.{Option, Some, None, Result, Ok, Err}
use Rattle.numbers.specs.Numbers.{most_bytes, or_else}
use Rattle.format.specs.declared.Call.{Call}
use Rattle.format.specs.Format.{known}
use Rattle.format.specs.Records.{record_of, carries}
use Rattle.load.specs.Bytes.{record_bytes}
use Rattle.load.specs.Reading.{is_in_place, edition_of, open_number, unless_refused}
use Rattle.load.specs.Writing.{room_number, grow_number}
use Rattle.words.specs.Parts.{bytes_before, parts, lines_in, words_in, chomped, said, line_at, first_said}
use Rattle.words.specs.declared.reasons.Reason.{Reason}
use Rattle.words.specs.declared.reasons.Reason.TheVariants.{Unknown}
use Rattle.words.specs.Reasons.{missing_reason, too_many_reason, reason_number}
use Rattle.words.specs.Reports.{BeginsWith, form_told, wants_form}
use Rattle.words.specs.Words.{is_word}
use Rattle.words.proofs.Cases.{either}
use Rattle.words.proofs.Lines.{line-from-one}
use Rattle.words.proofs.Names.{word_same}
use Rattle.words.proofs.Texts.{form-told}
use Rattle.load_text.specs.declared.parse.Head.{Head}
use Rattle.load_text.specs.declared.parse.Head.TheVariants.{Silent, Edition, Other}
use Rattle.load_text.specs.Answers.{Line, parsed_values}
use Rattle.load_text.specs.Forms.{word_form, FormsTold}
use Rattle.load_text.specs.Making.{wrong, Heading, headed, heading_in, heading, heading_number, said_in, calls_number, line_number, line_bytes, gathered, behind_heading, made_by}
use Rattle.load_text.specs.Parsing.{edition_word, head_in, head_says, kind_named, kind_says, call_said, line_says}
use Rattle.load_text.proofs.Forms.{edition-form, word-form, form-is, form-size, formed}
use Rattle.load_text.proofs.Tables.{named-by-name, named-kind}

-- ── words that begin a form ──
edition-begins : (e : ℕ) (w : List ℕ) → is_word w edition_word ≡ true → BeginsWith w (word_form e w)
unfolding first_said form_told said chomped bytes_before words_in parts
edition-begins e w t = rw (edition-form e w t, word_same w edition_word t) (record { some = omega arith; first = refl; told = refl })

kind-begins : (e : ℕ) (w : List ℕ) (k : ℕ) → kind_named e w ≡ Some k → BeginsWith w (word_form e w)
kind-begins e w k h =
    let n = named-by-name e w k h in
    let f = formed e k (named-kind e w k h).0 in
    let z = form-size f in
    let a : is_word w edition_word ≡ false = ap (λ (v : List ℕ). is_word v edition_word) n.0 ∙ f.apart in
    rw (word-form e w a, h) (record { some = n.1; first = f.first ∙ sym n.0; told = form-told _ z.0 z.1 })

-- ── numbers that want no form ──
wants-high : (n : ℕ) → wants_form n ≡ true → 102 ≤ n
wants-high n e = either (eqb n missing_reason) (λ t. omega (arith, eqb-true n missing_reason t)) (λ t. omega (arith, eqb-true n too_many_reason (rw t at e)))

-- A number that wants one is not of document 01: it is the first of two, where the second is.
wants-first : (a b : ℕ) → b < 102 → wants_form (or_else a b) ≡ true → or_else a b ≡ a
wants-first zero b h e = absurd (omega (arith, wants-high b e))
wants-first (suc a) b h e = refl

open-low : (s : List ℕ) → open_number s < 102
unfolding open_number
open-low s =
    either (ltb most_bytes (length s)) (λ t. rw t (omega arith))
    (λ t. rw t (either (eqb (length s) 0) (λ u. rw u (omega arith)) (λ u. rw u (either (known (edition_of s)) (λ v. rw v (omega arith)) (λ v. rw v (omega arith))))))

calls-low : (e n : ℕ) (cs : List Call) → calls_number e n cs < 102
unfolding grow_number room_number
calls-low e n [] = omega arith
calls-low e n (c ∷ cs) =
    let m = n + length (record_bytes e (record_of c)) in
    either (not (is_in_place c.kind n) || not (carries e (record_of c))) (λ t. rw t (omega arith))
    (λ t. rw t (either (ltb most_bytes m) (λ u. rw u (omega arith)) (λ u. rw u (omega arith))))

-- ── the line that is found ──
-- In the heading: it begins with `edition`.
head-names : (l : List ℕ) (r : Reason) → head_says l ≡ Err r → is_word (first_said l) edition_word ≡ true
unfolding head_says head_in first_said
head-names l r h = go (words_in (said l)) h
  where
    go : (ws : List (List ℕ)) → head_in ws ≡ Err r → is_word (get_or ws 0 []) edition_word ≡ true
    go [] h = absurd (cc)
    go (w ∷ ws) h = either (is_word w edition_word) (λ t. t) (λ t. let q : ◌≡◌ {A = Result Head Reason} (Ok Other) (Err r) = rw t at h in absurd (cc))

-- A line from k on, by its number.
abbrev line_from : ℕ → List (List ℕ) → ℕ → List ℕ
line_from k ts line = get_or ts (line - (k + 1)) []

later : (k : ℕ) (t : List ℕ) (ts : List (List ℕ)) (line : ℕ) → k + 1 < line → line_from (k + 1) ts line ≡ line_from k (t ∷ ts) line
later k t ts line h = let q : line - (k + 1) ≡ suc (line - (k + 1 + 1)) = omega arith in rw q

here : (k : ℕ) (t : List ℕ) (ts : List (List ℕ)) → line_from k (t ∷ ts) (k + 1) ≡ t
here k t ts = let q : (k + 1) - (k + 1) ≡ 0 = omega arith in rw q

abbrev InHeading : ℕ → List (List ℕ) → Heading → Type 0
InHeading k ts h = wants_form h.number ≡ true → (k < h.lines) × (is_word (first_said (line_from k ts h.lines)) edition_word ≡ true)

heading-names : (k : ℕ) (ts : List (List ℕ)) → InHeading k ts (heading_in k (map head_says ts))
unfolding heading_in
heading-names k [] = λ e. absurd (false≢true e)
heading-names k (t ∷ ts) = go (head_says t) refl (heading-names (k + 1) ts)
  where
    go : (h : Result Head Reason) → head_says t ≡ h → InHeading (k + 1) ts (heading_in (k + 1) (map head_says ts)) → InHeading k (t ∷ ts) (headed h (k + 1) (heading_in (k + 1) (map head_says ts)))
    go (Ok Silent) q r = λ e. let p = r e in (omega (arith, p.0), rw (← (later k t ts _ p.0)) p.1)
    go (Ok (Edition d)) q r = λ e. absurd (false≢true e)
    go (Ok Other) q r = λ e. absurd (false≢true e)
    go (Err x) q r = λ e. (omega arith, rw (here k t ts) (head-names t x q))

-- Behind it: it begins with the name of a kind.
abbrev IsNamed : ℕ → List ℕ → Type 0
IsNamed e w = (k : ℕ) × (kind_named e w ≡ Some k)

line-names : (e : ℕ) (l : List ℕ) (r : Reason) → line_says e l ≡ Err r → wants_form (reason_number r) ≡ true → IsNamed e (first_said l)
unfolding line_says call_said first_said
line-names e l r h i = go (words_in (said l)) h
  where
    named : (w : List ℕ) (k : Option ℕ) → kind_named e w ≡ k → (ws : List (List ℕ)) → kind_says e k ws ≡ Err r → IsNamed e w
    named w None q ws h = let z : Unknown ≡ r = cc in absurd (omega (arith, ap reason_number z, wants-high (reason_number r) i))
    named w (Some k) q ws h = (k, q)

    go : (ws : List (List ℕ)) → call_said e ws ≡ Err r → IsNamed e (get_or ws 0 [])
    go [] h = absurd (cc)
    go (w ∷ ws) h = named w (kind_named e w) refl ws h

says-bad : (p : Line) (n : ℕ) → n ≡ (parsed_values p).number → wants_form n ≡ true → (r : Reason) × (p ≡ Err r) × (n ≡ reason_number r)
says-bad (Ok None) n e i = absurd (omega (arith, wants-high n i))
says-bad (Ok (Some c)) n e i = absurd (omega (arith, wants-high n i))
says-bad (Err r) n e i = (r, refl, e)

module _ (line n : ℕ) (i : wants_form n ≡ true) where
  gathered-names : (e k : ℕ) (s : List ℕ) (ts : List (List ℕ)) → gathered e k s (map (line_says e) ts) ≡ wrong line n → (k < line) × IsNamed e (first_said (line_from k ts line))
  unfolding gathered line_number
  gathered-names e k s [] h = absurd (cc)
  gathered-names e k s (t ∷ ts) h = go (line_number e (length s) (line_says e t)) refl h (gathered-names e (k + 1) (s ++ line_bytes e (line_says e t)) ts)
    where
      p : Line
      p = line_says e t

      go : (m : ℕ) → line_number e (length s) p ≡ m → unless_refused m (wrong (k + 1)) (gathered e (k + 1) (s ++ line_bytes e p) (map (line_says e) ts)) ≡ wrong line n
          → (gathered e (k + 1) (s ++ line_bytes e p) (map (line_says e) ts) ≡ wrong line n → (k + 1 < line) × IsNamed e (first_said (line_from (k + 1) ts line)))
          → (k < line) × IsNamed e (first_said (line_from k (t ∷ ts) line))
      go zero q h r = let x = r h in (omega (arith, x.0), rw (← (later k t ts line x.0)) x.1)
      go (suc m) q h r =
          let a : line ≡ k + 1 = cc in
          let b : n ≡ suc m = cc in
          let c : or_else (parsed_values p).number (calls_number e (length s) (parsed_values p).calls) ≡ n = q ∙ sym b in
          let d = wants-first (parsed_values p).number (calls_number e (length s) (parsed_values p).calls) (calls-low e (length s) (parsed_values p).calls) (rw c i) in
          let x = says-bad p n (sym c ∙ d) i in
          (omega (arith, a), rw (a, here k t ts) (line-names e t x.0 x.1 (rw x.2 at i)))

-- ── every line that wants a form ──
named-begins : (e : ℕ) (w : List ℕ) → IsNamed e w → BeginsWith w (word_form e w)
named-begins e w h = kind-begins e w h.0 h.1

-- The line of a text among those after j others.
line_after : (text : List ℕ) (j line : ℕ) → j < line → line_at text line ≡ line_from j (drop j (lines_in text)) line
line_after text j line h =
    let q : line - 1 ≡ j + (line - (j + 1)) = omega arith in
    line-from-one text line (omega arith) ∙ ap (λ (i : ℕ). get_or (lines_in text) i []) q ∙ sym (get_or-drop j (lines_in text) (line - (j + 1)) [])

pub forms-told : FormsTold
unfolding made_by said_in heading_number heading
forms-told text line n h i = rw (form-is text line n i) (go (heading_number text) refl h)
  where
    e : ℕ
    e = (heading text).edition

    j : ℕ
    j = (heading text).lines

    go : (m : ℕ) → heading_number text ≡ m → unless_refused m (wrong j) (behind_heading (heading text) (said_in text)) ≡ wrong line n
        → BeginsWith (first_said (line_at text line)) (word_form e (first_said (line_at text line)))
    go zero q h =
        let r = gathered-names line n i e j (e ∷ []) (drop j (lines_in text)) h in
        named-begins e (first_said (line_at text line)) (rw (line_after text j line r.0) r.1)
    go (suc m) q h =
        let a : line ≡ j = cc in
        let b : n ≡ suc m = cc in
        let c : heading_number text ≡ n = q ∙ sym b in
        let d = wants-first (heading text).number (open_number (e ∷ [])) (open-low (e ∷ [])) (rw c i) in
        let r = heading-names 0 (lines_in text) (rw (← d, c) i) in
        edition-begins e (first_said (line_at text line)) (rw (a, line_after text 0 j r.0) r.1)
