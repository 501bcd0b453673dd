-- What is wrong with a text, line by line as the code finds it, and the count of its calls.
use Prim.Native.Nat.{ℕ, zero, suc, ◌+◌, ◌-◌, ◌≤◌, ◌<◌}
use mathlib.Core.List.{List, [], ◌∷◌, ◌++◌, map}
use mathlib.Core.Logic.{◌≢◌}
use mathlib.Core.Path.{◌≡◌, refl, sym, ap, ◌∙◌}
use native.Mathlib.Nat.{add-zero, zero-add}
use native.Mathlib.Omega.{arith}
use lib.Dec.{ltb}
use lib.ListN.{length, take, drop, length-append}
use Rattle.std.specs.Prelude.{Some, None, Result, Ok, Err}
use Rattle.words.specs.declared.reasons.Reason.{Reason}
use Rattle.words.specs.Parts.{is_feed, place_of, lines_in, FirstPart}
use Rattle.words.specs.Reasons.{reason_number}
use Rattle.words.proofs.Lines.{no_lines}
use Rattle.words.proofs.Numbers.{reason-some}
use Rattle.words.proofs.Parts.{lines_cut, lines_end}
use Rattle.dance_text.specs.declared.Call.{Call}
use Rattle.dance_text.specs.declared.Mistake.{Mistake}
use Rattle.dance_text.specs.Lines.{Line, line_says, line_values}
use Rattle.dance_text.specs.Shows.{Behind, said_in, calls_of, calls_in, line_number, wrong_or, survey_in, survey_of}

-- ── what a survey says ──
-- The first line that is wrong tells, or the rest does.
pub wrong-cases : (P : Result ℕ Mistake → Type 0) (n k : ℕ) (s : Result ℕ Mistake) → (n ≢ 0 → P (Err (record { line = k; number = n }))) → (n ≡ 0 → P s) → P (wrong_or n k s)
wrong-cases P zero k s f g = g refl
wrong-cases P (suc n) k s f g = f (λ z. omega arith)

-- Where no line is wrong, the calls of the lines left are added to those before them;
calls-in : (k c : ℕ) (ls : List Line) (n : ℕ) → survey_in k c ls ≡ Ok n → n ≡ c + length (calls_in ls)
unfolding survey_in calls_in
calls-in k c [] n = λ h. let e : c ≡ n = cc in omega arith
calls-in k c (l ∷ ls) n =
    wrong-cases (λ s. s ≡ Ok n → n ≡ c + length (calls_in (l ∷ ls))) (line_number (ltb 0 c) l) (k + 1) (survey_in (k + 1) (c + length (calls_of l)) ls)
    (λ w h. absurd (cc))
    (λ z h. omega (arith, calls-in (k + 1) (c + length (calls_of l)) ls n h, length-append (calls_of l) (calls_in ls)))

-- so all calls of a text are counted.
pub survey-calls : (text : List ℕ) (n : ℕ) → survey_of text ≡ Ok n → n ≡ length (calls_in (said_in text))
unfolding survey_of
survey-calls text n h = calls-in 0 0 (said_in text) n h ∙ zero-add _

-- A line that is wrong stands at 1 or later, after any lines, and its number is not 0;
wrong-in : (k c : ℕ) (ls : List Line) (m : Mistake) → survey_in k c ls ≡ Err m → (1 ≤ m.line) × (0 < m.number)
unfolding survey_in
wrong-in k c [] m = λ h. absurd (cc)
wrong-in k c (l ∷ ls) m =
    wrong-cases (λ s. s ≡ Err m → (1 ≤ m.line) × (0 < m.number)) (line_number (ltb 0 c) l) (k + 1) (survey_in (k + 1) (c + length (calls_of l)) ls)
    (λ w h.
    let e : ◌≡◌ {A = Mistake} (record { line = k + 1; number = line_number (ltb 0 c) l }) m = cc in
    let a : k + 1 ≡ m.line = ap (λ (x : Mistake). x.line) e in
    let b : line_number (ltb 0 c) l ≡ m.number = ap (λ (x : Mistake). x.number) e in
    (omega arith, omega arith))
    (λ z h. wrong-in (k + 1) (c + length (calls_of l)) ls m h)

-- and so in a text.
pub survey-wrong : (text : List ℕ) (m : Mistake) → survey_of text ≡ Err m → (1 ≤ m.line) × (0 < m.number)
unfolding survey_of
survey-wrong text m h = wrong-in 0 0 (said_in text) m h

-- ── calls from a place on ──
-- What the lines from a place on say.
abbrev pub said_from : List ℕ → ℕ → List Line
said_from text at = map line_says (lines_in (drop at text))

-- The calls of the line there, and those of the lines after it;
pub calls-cut : (text : List ℕ) (at j : ℕ) → at < length text → j ≡ place_of is_feed text at
    → calls_in (said_from text at) ≡ calls_of (line_says (take (j - at) (drop at text))) ++ calls_in (said_from text (j + 1))
unfolding calls_in
calls-cut text at j h e = rw (lines_cut text at j h e)

-- behind the last line none.
pub calls-end : (text : List ℕ) (at : ℕ) → length text ≤ at → calls_in (said_from text at) ≡ []
unfolding calls_in
calls-end text at h = rw (lines_end text at h)

-- ── the loop of a survey ──
-- Behind `line` lines that are not wrong, with so many calls: what the lines left come to is what the text does.
pub record Passing (text rest : List ℕ) (line calls : ℕ) : Type 0 where
  pub few : line + length rest ≤ length text
  pub fewer : calls ≤ line
  pub is : survey_in line calls (map line_says (lines_in rest)) ≡ survey_of text

-- Before the first line.
pub pass-start : (text : List ℕ) → Passing text text 0 0
unfolding survey_of said_in
pass-start text = record { few = omega arith; fewer = omega arith; is = refl }

module _ (text rest : List ℕ) (line calls : ℕ) (p : Passing text rest line calls) where
  -- Behind the last line: no line is wrong.
  pub pass-end : rest ≡ [] → Ok calls ≡ survey_of text
  unfolding survey_in
  pass-end h = rw (no_lines rest h) at p.is

  -- A line w, and what it is found to say behind the others, r.
  module _ (w behind : List ℕ) (f : FirstPart is_feed rest w behind) (r : Line) (b : Behind (ltb 0 calls) (line_says w) r) where
    -- What the text comes to by this line.
    on : wrong_or (line_number (ltb 0 calls) (line_says w)) (line + 1) (survey_in (line + 1) (calls + length (calls_of (line_says w))) (map line_says (lines_in behind))) ≡ survey_of text
    unfolding survey_in lines_in
    on = rw f.parts at p.is

    -- It is wrong,
    pub pass-wrong : (e : Reason) → r ≡ Err e → Err (record { line = line + 1; number = reason_number e }) ≡ survey_of text
    pass-wrong e h =
        let n : reason_number e ≡ line_number (ltb 0 calls) (line_says w) = ap (λ l. (line_values l).number) (sym h) ∙ b.number in
        wrong-cases (λ s. s ≡ survey_of text → ◌≡◌ {A = Result ℕ Mistake} (Err (record { line = line + 1; number = reason_number e })) (survey_of text))
        (line_number (ltb 0 calls) (line_says w)) (line + 1) _ (λ q k. rw n k) (λ q. absurd (omega (arith, n, reason-some e))) on

    -- or it is not, and the survey goes on with its calls.
    further : line_number (ltb 0 calls) (line_says w) ≡ 0 → (k : ℕ) → k ≡ calls + length (calls_of r) → length (calls_of r) ≤ 1 → Passing text behind (line + 1) k
    further z k e o =
        let s : k ≡ calls + length (calls_of (line_says w)) = e ∙ ap (λ l. calls + length (calls_of l)) (b.says z) in
        record { few = omega (arith, p.few, f.shorter); fewer = omega (arith, p.fewer); is = rw s (rw z at on) }

    pub pass-call : (c : Call) → r ≡ Ok (Some c) → Passing text behind (line + 1) (calls + 1)
    pass-call c h = further (sym b.number ∙ ap (λ l. (line_values l).number) h) (calls + 1) (rw h refl) (rw h (omega arith))

    pub pass-none : r ≡ Ok None → Passing text behind (line + 1) calls
    pass-none h = further (sym b.number ∙ ap (λ l. (line_values l).number) h) calls (rw h (sym (add-zero calls))) (rw h (omega arith))
