-- The heading of a text, line by line, as the code finds it.
use Prim.Native.Nat.{ℕ, ◌+◌, ◌≤◌}
use mathlib.Core.List.{List, [], map}
use mathlib.Core.Path.{◌≡◌, refl, sym, ap, ◌∙◌}
use native.Mathlib.Omega.{arith}
use lib.ListN.{length, drop}
use lib.Seq.{drop-drop}
use Rattle.std.specs.Prelude.{Ok, Err}
use Rattle.words.specs.declared.reasons.Reason.{Reason}
use Rattle.words.specs.Parts.{is_feed, lines_in, FirstPart}
use Rattle.words.specs.Reasons.{reason_number}
use Rattle.words.proofs.Lines.{no_lines}
use Rattle.words.proofs.Numbers.{reason-some}
use Rattle.load_text.specs.declared.Start.{Start}
use Rattle.load_text.specs.declared.parse.Head.TheVariants.{Silent, Edition, Other}
use Rattle.load_text.specs.Parsing.{head_says}
use Rattle.load_text.specs.Making.{Heading, no_heading, headed, heading_in, heading, Opens, Misread}

-- Behind `line` lines that say nothing.
pub record Heads (text rest : List ℕ) (line : ℕ) : Type 0 where
  pub few : line + length rest ≤ length text
  pub is : heading_in line (map head_says (lines_in rest)) ≡ heading text
  pub left : lines_in rest ≡ drop line (lines_in text)

pub heads-start : (text : List ℕ) → Heads text text 0
unfolding heading
heads-start text = record { few = omega arith; is = refl; left = refl }

opens : (text : List ℕ) (r : Start) (h : Heading) → h ≡ heading text → h.number ≡ 0 → r.edition ≡ h.edition → r.lines ≡ h.lines
    → r.lines + length r.rest.now ≤ length text → lines_in r.rest.now ≡ drop h.lines (lines_in text) → Opens text r
opens text r h q n e l f s = record {
  number = ap (λ (x : Heading). x.number) (sym q) ∙ n;
  edition = e ∙ ap (λ (x : Heading). x.edition) q;
  lines = l ∙ ap (λ (x : Heading). x.lines) q;
  few = f;
  rest = s ∙ ap (λ (x : Heading). drop x.lines (lines_in text)) q;
}

module _ (text rest : List ℕ) (line : ℕ) (t : Heads text rest line) where
  -- No line is a heading.
  without : no_heading ≡ heading text → (r : Start) → r.edition ≡ 1 → r.lines ≡ 0 → r.rest.now ≡ text → Opens text r
  without q r e l s = opens text r no_heading q refl e l (omega (arith, ap length s)) (ap lines_in s)

  pub heads-end : rest ≡ [] → (r : Start) → r.edition ≡ 1 → r.lines ≡ 0 → r.rest.now ≡ text → Opens text r
  unfolding heading_in
  heads-end h = without (rw (no_lines rest h) at t.is)

  -- A line w.
  module _ (w behind : List ℕ) (f : FirstPart is_feed rest w behind) where
    on : headed (head_says w) (line + 1) (heading_in (line + 1) (map head_says (lines_in behind))) ≡ heading text
    unfolding heading_in lines_in
    on = rw f.parts at t.is

    next : lines_in behind ≡ drop (line + 1) (lines_in text)
    unfolding lines_in
    next = sym (ap (drop 1) f.parts) ∙ ap (drop 1) t.left ∙ drop-drop 1 line (lines_in text)

    pub heads-on : head_says w ≡ Ok Silent → Heads text behind (line + 1)
    heads-on e = record { few = omega (arith, t.few, f.shorter); is = rw e at on; left = next }

    pub heads-other : head_says w ≡ Ok Other → (r : Start) → r.edition ≡ 1 → r.lines ≡ 0 → r.rest.now ≡ text → Opens text r
    heads-other e = without (rw e at on)

    pub heads-edition : (r : Start) → head_says w ≡ Ok (Edition r.edition) → r.lines ≡ line + 1 → r.rest.now ≡ behind → Opens text r
    heads-edition r e l s =
        opens text r (record { number = 0; edition = r.edition; lines = line + 1 }) (rw e at on) refl refl l (omega (arith, ap length s, l, t.few, f.shorter)) (ap lines_in s ∙ next)

    pub heads-misread : (r : Reason) → head_says w ≡ Err r → Misread text (record { line = line + 1; number = reason_number r })
    heads-misread r e =
        let q : ◌≡◌ {A = Heading} (record { number = reason_number r; edition = 1; lines = line + 1 }) (heading text) = rw e at on in
        record {
          some = reason-some r;
          number = ap (λ (x : Heading). x.number) q;
          edition = ap (λ (x : Heading). x.edition) q;
          line = ap (λ (x : Heading). x.lines) q;
        }
