-- The load of a text line by line: what a line adds, the loop over the lines, the copy into a lent buffer, and that the load reads as the
-- calls that the lines say.
use Prim.Native.Nat.{ℕ, zero, suc, ◌+◌, ◌^◌, ◌≤◌, ◌<◌}
use mathlib.Core.Bool.{not, ◌||◌}
use mathlib.Core.List.{List, [], ◌∷◌, ◌++◌, map, append-nil}
use mathlib.Core.Path.{◌≡◌, refl, sym, ap, ◌∙◌}
use native.Mathlib.Omega.{arith}
use borrow.Author.Tests.{lt-ltb}
use lib.ListN.{length, take, drop, replicate, length-replicate, length-append}
use lib.Seq.{take_at, append_snoc}
use Rattle.std.specs.Prelude.{Some, None, Ok, Err}
use Rattle.numbers.specs.declared.Refusal.{Refusal}
use Rattle.numbers.specs.Numbers.{or_else}
use Rattle.numbers.specs.Refusals.{number_of}
use Rattle.numerals.specs.declared.page.Page.{Page}
use Rattle.numerals.specs.Laid.{behind, laid, space_number, lent_out}
use Rattle.numerals.specs.Pages.{Lays}
use Rattle.numerals.proofs.Laying.{laid-length, laid-first, behind-small, lent-all, lent_none, lent-known}
use Rattle.numerals.proofs.Pages.{lays_then, lays_none}
use Rattle.format.specs.declared.Call.{Call}
use Rattle.words.specs.declared.reasons.Reason.{Reason}
use Rattle.words.specs.declared.reasons.Reason.TheVariants.{Refused}
use Rattle.words.specs.Answers.{value_unless}
use Rattle.words.specs.Parts.{is_feed, lines_in, FirstPart}
use Rattle.words.specs.Reasons.{reason_number}
use Rattle.words.proofs.Cases.{either, below}
use Rattle.words.proofs.Lines.{no_lines}
use Rattle.words.proofs.Numbers.{reason-some}
use Rattle.format.specs.Calls.{Typed}
use Rattle.format.specs.Records.{Record, record_of, records_of, carries}
use Rattle.load.specs.Bytes.{records_bytes, call_bytes}
use Rattle.load.specs.Reading.{is_in_place, edition_of, open_number, load_number, walk, unless_refused}
use Rattle.load.specs.Writing.{grown, room_number, grow_number, append_number, append_answer, append_out}
use Rattle.load.specs.RoundTrip.{Appended}
use Rattle.load.proofs.Reading.{or-else, open-known}
use Rattle.load.proofs.Writing.{append-grow}
use Rattle.load.proofs.RoundTrip.{written-reads, read-bounded}
use Rattle.load_text.specs.declared.Mistake.{Mistake}
use Rattle.load_text.specs.declared.Start.{Start}
use Rattle.load_text.specs.Answers.{Line, Made, a_call, nothing, mistake, made_values, parsed_values}
use Rattle.load_text.specs.Parsing.{line_says}
use Rattle.load_text.specs.Making.{Making, whole, wrong, heading, heading_number, said_in, Opens, Misread, line_number, line_bytes, gathered, made_by, answer_on, buffer_on, values_on, made_of, made_out, make_values, Adds, Gathers, calls_in, MadeReads}
use Rattle.load_text.proofs.Cases.{first-wrong, refused, not-refused}
use Rattle.load_text.proofs.Within.{says_typed}

-- ── what a line adds ──
-- A call that is taken leaves the load within its bound.
grow-small : (e n : ℕ) (c : Call) (room : ℕ) → grow_number e n (record_of c) room ≡ 0 → n + length (call_bytes e c) ≤ 65536
unfolding grow_number room_number
grow-small e n c room h =
    let w = n + length (call_bytes e c) in
    either (not (is_in_place c.kind n) || not (carries e (record_of c))) (λ a. absurd (omega (arith, rw a at h)))
    (λ a. below 65536 w (λ x. absurd (omega (arith, rw (a, lt-ltb 65536 w x) at h))) (λ x. x))

pub said-bytes : (e : ℕ) (c : Call) → line_bytes e (a_call c) ≡ call_bytes e c
unfolding line_bytes records_bytes
said-bytes e c = append-nil (call_bytes e c)

-- What is wrong with a line is its number.
line-wrong : (e n : ℕ) (r : Reason) → line_number e n (Err r) ≡ reason_number r
unfolding line_number
line-wrong e n r = first-wrong (reason_number r) 0 (reason-some r)

-- A record that is added leaves the load within its bound.
line-fits : (e n : ℕ) (p : Line) → line_number e n p ≡ 0 → n < 2 ^ 64 → n + length (line_bytes e p) < 2 ^ 64
unfolding line_number line_bytes records_bytes
line-fits e n (Ok None) z h = omega arith
line-fits e n (Ok (Some c)) z h = let l = grow-small e n c 65536 z in rw append-nil (omega arith)
line-fits e n (Err r) z h = absurd (omega (arith, (or-else (reason_number r) 0 z).0, reason-some r))

module _ (e : ℕ) (old : Page) where
  pub add_nothing : length old.out.now < 2 ^ 64 → Adds e old nothing (Ok tt) old
  unfolding line_number line_bytes records_bytes
  add_nothing h = (refl, lays_none old h)

  pub add-bad : (r : Reason) → Adds e old (Err r) (Err r) old
  add-bad r = (line-wrong e old.at r, refl)

  module _ (c : Call) where
    pub add-refused : (x : Refusal) → number_of x ≡ grow_number e old.at (record_of c) 65536 → Adds e old (a_call c) (Err (Refused x)) old
    unfolding line_number
    add-refused x g = (sym g, refl)

    pub add-taken : (new : Page) → 0 ≡ grow_number e old.at (record_of c) 65536 → Lays old (call_bytes e c) new → Adds e old (a_call c) (Ok tt) new
    unfolding line_number
    add-taken new g l = (sym g, rw said-bytes l)

-- ── the loop ──
-- A heading that is wrong, or whose edition there is not.
pub gather-misread : (text : List ℕ) (m : Mistake) → Misread text m → made_by text ≡ wrong m.line m.number
unfolding made_by heading_number
gather-misread text m s =
    let o = open_number ((heading text).edition ∷ []) in
    let q : or_else (heading text).number o ≡ m.number = ap (λ (k : ℕ). or_else k o) (sym s.number) ∙ first-wrong m.number o s.some in
    refused (wrong (heading text).lines) _ (or_else (heading text).number o) (λ z. omega (arith, q, s.some)) ∙ cc (q, s.line)

heading-is : (text : List ℕ) (r : Start) → Opens text r → heading_number text ≡ open_number (r.edition ∷ [])
unfolding heading_number
heading-is text r s = rw (s.number, ← s.edition)

pub gather-unknown : (text : List ℕ) (r : Start) → Opens text r → (x : Refusal) → number_of x ≡ open_number (r.edition ∷ []) → made_by text ≡ wrong r.lines (number_of x)
unfolding made_by
gather-unknown text r s x e =
    let q = heading-is text r s ∙ sym e in
    refused (wrong (heading text).lines) _ (heading_number text) (λ z. omega (arith, q, reason-some (Refused x))) ∙ cc (q, s.lines)

-- Behind `line` lines, with `rest` left of the text: `made` is laid behind the edition byte, and what is laid so far with the lines left makes
-- what the text makes.
pub record Turn (e : ℕ) (text rest : List ℕ) (old new : Page) (line : ℕ) : Type 0 where
  pub few : line + length rest ≤ length text
  pub made : List ℕ
  pub lays : Lays old made new
  pub long : new.at ≡ length (e ∷ made)
  pub is : gathered e line (e ∷ made) (map (line_says e) (lines_in rest)) ≡ made_by text

pub turn-start : (text : List ℕ) (r : Start) (p old : Page) → Opens text r → 0 ≡ open_number (r.edition ∷ []) → p.at ≡ 0 → Lays p (r.edition ∷ []) old
    → Turn r.edition text r.rest.now old old r.lines
unfolding made_by said_in
turn-start text r p old s z o l = record {
  few = s.few;
  made = [];
  lays = lays_none old (omega (arith, ap length l.put.is, laid-length p.out.now p.at (r.edition ∷ []), l.room));
  long = l.put.next ∙ ap (λ (k : ℕ). behind k 1) o ∙ behind-small 0 1 (omega arith);
  is = rw (heading-is text r s ∙ sym z, ← s.edition, s.rest, s.lines);
}

module _ (e : ℕ) (text rest : List ℕ) (old new : Page) (line : ℕ) (t : Turn e text rest old new line) where
  pub turn_end : rest ≡ [] → (o q : List ℕ) (p : Page) → (p.out.now ≡ o) × (p.at ≡ 0) → Lays p (e ∷ []) old → q ≡ new.out.now → Gathers text o (Ok new.at) q
  unfolding gathered
  turn_end h o q p z b i =
      let w : whole (e ∷ t.made) ≡ made_by text = rw (no_lines rest h) at t.is in
      (e ∷ t.made, sym w, sym t.long, i ∙ (rw (z.0, z.1) at (lays_then b t.lays).put.is))

  -- A line w.
  module _ (w behind : List ℕ) (f : FirstPart is_feed rest w behind) where
    on : made_by text ≡ unless_refused (line_number e (length (e ∷ t.made)) (line_says e w)) (wrong (line + 1)) (gathered e (line + 1) (e ∷ (t.made ++ line_bytes e (line_says e w))) (map (line_says e) (lines_in behind)))
    unfolding gathered lines_in
    on = sym t.is ∙ rw f.parts

    pub turn_more : (p : Page) → Adds e new (line_says e w) (Ok tt) p → Turn e text behind old p (line + 1)
    turn_more p x =
        let u = line_bytes e (line_says e w) in
        let z : line_number e (length (e ∷ t.made)) (line_says e w) ≡ 0 = rw t.long at x.0 in
        record {
          few = omega (arith, t.few, f.shorter);
          made = t.made ++ u;
          lays = lays_then t.lays x.1;
          long = x.1.put.next ∙ behind-small new.at (length u) (line-fits e new.at (line_says e w) x.0 (omega (arith, new.counted))) ∙ omega (arith, t.long, length-append t.made u);
          is = sym (rw z at on);
        }

    pub turn-wrong : (r : Reason) (p : Page) → Adds e new (line_says e w) (Err r) p → made_by text ≡ wrong (line + 1) (reason_number r)
    turn-wrong r p x =
        let m : line_number e (length (e ∷ t.made)) (line_says e w) ≡ reason_number r = rw t.long at x.0 in
        on ∙ refused (wrong (line + 1)) _ (line_number e (length (e ∷ t.made)) (line_says e w)) (λ q. omega (arith, m, q, reason-some r)) ∙ ap (wrong (line + 1)) m

-- ── a made load reads as its calls ──
whole-not : (k n : ℕ) (s : List ℕ) → wrong k n ≡ whole s → ⊥
whole-not k n s e = absurd (cc)

-- A call that the writer takes where there is room, taken.
append-more : (e : ℕ) (rs : List Record) (t : List ℕ) (c : Call) (room : ℕ) → Appended e rs (e ∷ t) → Typed c → grow_number e (length (e ∷ t)) (record_of c) room ≡ 0
    → Appended e (rs ++ (record_of c ∷ [])) (e ∷ (t ++ call_bytes e c))
unfolding append_answer append_out grown
append-more e rs t c room a h z =
    let s : List ℕ = e ∷ t in
    let r = record_of c in
    let w = (written-reads e rs s a).0 in
    let out : List ℕ = replicate room 0 in
    let g : append_number s r (length out) ≡ 0 = sym (append-grow s r (length out) 0 (sym w) refl) ∙ rw length-replicate z in
    let l : append_answer s r out ≡ Ok (length (grown s r)) = rw g in
    let f : take (length (grown s r)) (append_out s r out) ≡ s ++ call_bytes e c = rw g (take_at (grown s r) (drop (length (grown s r)) out) (length (grown s r)) refl) in
    rw f at (Appended.one r out (length (grown s r)) a (h, tt) l)

gathered-reads : (e k : ℕ) (ls : List (List ℕ)) (rs : List Record) (t u : List ℕ) → Appended e rs (e ∷ t) → gathered e k (e ∷ t) (map (line_says e) ls) ≡ whole u
    → Appended e (rs ++ records_of (calls_in (map (line_says e) ls))) u × (edition_of u ≡ e)
unfolding gathered calls_in line_number line_bytes records_bytes
gathered-reads e k [] rs t u a q = let i : e ∷ t ≡ u = cc in (rw (append-nil, ← i) a, ap edition_of (sym i))
gathered-reads e k (l ∷ ls) rs t u a q =
    let b = not-refused (wrong (k + 1)) _ (line_number e (length (e ∷ t)) (line_says e l)) (whole u) (λ n. whole-not (k + 1) n u) q in
    go (line_says e l) refl b.0 b.1 (λ ds r b. gathered-reads e (k + 1) ls ds r u b)
  where
    ps : List Line
    ps = map (line_says e) ls

    go : (p : Line) → line_says e l ≡ p → line_number e (length (e ∷ t)) p ≡ 0 → gathered e (k + 1) (e ∷ (t ++ line_bytes e p)) ps ≡ whole u
        → ((ds : List Record) (r : List ℕ) → Appended e ds (e ∷ r) → gathered e (k + 1) (e ∷ r) ps ≡ whole u → Appended e (ds ++ records_of (calls_in ps)) u × (edition_of u ≡ e))
        → Appended e (rs ++ records_of ((parsed_values p).calls ++ calls_in ps)) u × (edition_of u ≡ e)
    go (Ok None) i z q f = f rs t a (rw append-nil at q)
    go (Err r) i z q f = absurd (omega (arith, (or-else (reason_number r) _ z).0, reason-some r))
    go (Ok (Some c)) i z q f =
        rw (append_snoc rs (record_of c) (records_of (calls_in ps))) at (f (rs ++ (record_of c ∷ [])) (t ++ call_bytes e c) (append-more e rs t c 65536 a (says_typed e l c i) z) (rw (said-bytes e c) at q))

made_ends : (text s : List ℕ) → made_by text ≡ whole s → Appended (heading text).edition (records_of (calls_in (said_in text))) s × (edition_of s ≡ (heading text).edition)
unfolding made_by said_in heading_number
made_ends text s q =
    let h = heading text in
    let b = not-refused (wrong h.lines) _ (heading_number text) (whole s) (λ n. whole-not h.lines n s) q in
    gathered-reads h.edition h.lines (drop h.lines (lines_in text)) [] [] s (Appended.none (open-known _ (or-else h.number _ b.0).1).1) b.1

-- ── into a lent buffer ──
-- The answer on a text for a lent buffer, which becomes q.
abbrev pub Makes : List ℕ → List ℕ → Made → List ℕ → Type 0
Makes text out r q = (r ≡ made_of text out) × ((q ≡ made_out text out) × (made_values r ≡ make_values text out))

pub makes : (text out : List ℕ) (r : Made) (q : List ℕ) → (r ≡ made_of text out) × (q ≡ made_out text out) → Makes text out r q
unfolding made_of make_values
makes text out r q e = (e.0, (e.1, ap made_values e.0 ∙ on (made_by text)))
  where
    in_buffer : (k n : ℕ) → made_values (unless_refused k (mistake 0) (Ok n)) ≡ record { number = k; line = 0; length = value_unless k n }
    in_buffer zero n = refl
    in_buffer (suc k) n = refl

    on : (m : Making) → made_values (answer_on m out) ≡ values_on m out
    on (whole s) = in_buffer (space_number s out) (length s)
    on (wrong k n) = refl

module _ (text o : List ℕ) (n : ℕ) (p : List ℕ) (g : Gathers text o (Ok n) p) where
  pub gathered-small : n ≤ 65536
  gathered-small = omega (arith, g.2, read-bounded g.0 (written-reads _ _ g.0 (made_ends text g.0 g.1).0).0)

  pub make-none : (out : List ℕ) → length out < n → Makes text out (mistake 0 15) out
  unfolding made_of made_out
  make-none out h = let w = lent_none g.0 out (omega (arith, g.2)) in makes text out _ out (rw g.1 (rw w.0, w.1))

  pub make-all : (out : List ℕ) → 65536 ≡ length o → n ≤ length out → (q : List ℕ) → q ≡ laid out 0 (take n p) → Makes text out (Ok n) q
  unfolding made_of made_out
  make-all out r h q e =
      let f : take n p ≡ g.0 = ap (take n) g.3 ∙ laid-first o g.0 n g.2 (omega (arith, g.2, gathered-small)) in
      let w = lent-all g.0 out q (omega (arith, g.2)) (e ∙ ap (laid out 0) f) in
      makes text out _ q (rw g.1 (rw w.0 (ap Ok (sym g.2)), w.1))

-- A line that is wrong.
pub make-wrong : (text out : List ℕ) (m : Mistake) → made_by text ≡ wrong m.line m.number → Makes text out (Err m) out
unfolding made_of made_out
make-wrong text out m e = makes text out _ out (rw e (refl, refl))

pub made_reads : MadeReads
unfolding made_of made_out
made_reads text out n e = go (made_by text) refl e
  where
    go : (m : Making) → made_by text ≡ m → answer_on m out ≡ Ok n
        → (n ≤ length out) × (load_number (take n (buffer_on m out)) ≡ 0) × (walk (take n (buffer_on m out)) 1 ≡ record { records = records_of (calls_in (said_in text)); stop = 0 })
        × (edition_of (take n (buffer_on m out)) ≡ (heading text).edition)
    go (whole s) i e =
        let q = not-refused (mistake 0) (Ok (length s)) (space_number s out) (Ok n) (λ k c. absurd (cc)) e in
        let m : length s ≡ n = cc in
        let l = lent-known s out q.0 in
        let t : take n (lent_out s out) ≡ s = rw (← m) l.1 in
        let a = made_ends text s i in
        let w = written-reads _ _ s a.0 in
        (omega (arith, l.0), rw t w.0, rw t w.1, rw t a.1)
    go (wrong k j) i e = absurd (cc)
