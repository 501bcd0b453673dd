-- The line of a text that has a number, and the first word that it says, as the code finds them.
use Prim.Native.Nat.{ℕ, zero, suc, ◌+◌, ◌-◌, ◌≤◌, ◌<◌}
use mathlib.Core.Path.{◌≡◌, refl, sym, ap, subst, ◌∙◌}
use mathlib.Core.List.{List, [], ◌∷◌}
use native.Mathlib.Omega.{arith}
use lib.ListN.{length, get_or, take, drop, drop_of_length-le, length-take, length-drop}
use lib.Seq.{drop-drop, drop-nil, take-take, get_or-drop}
use Rattle.words.specs.Parts.{FirstPart, FirstWord, IsLast, IsPart, LiesIn, bytes_before, parts, is, is_feed, is_blank, is_full, hash, carriage_return, since, lines_in, words_in, chomped, said, first_said, line_at}
use Rattle.words.proofs.Cases.{either, below}
use Rattle.words.proofs.Parts.{before-length}

-- ── parts of parts ──
take-drop : (from n : ℕ) (l : List ℕ) (m : ℕ) → from + m ≤ n → take m (drop from (take n l)) ≡ take m (drop from l)
take-drop zero n l m h = take-take m n l (omega arith)
take-drop (suc from) zero l m h = absurd (omega arith)
take-drop (suc from) (suc n) [] m h = refl
take-drop (suc from) (suc n) (b ∷ l) m h = take-drop from n l m (omega arith)

-- A part of what stands before a place, and of what stands from a place on.
module _ (l : List ℕ) (from to : ℕ) (w : List ℕ) where
  pub part-before : (n : ℕ) → IsPart (take n l) from to w → IsPart l from to w
  part-before n p =
      let h = length-take n l in
      record {
        order = p.order;
        high = omega (arith, p.high, h);
        is = sym (take-drop from n l (to - from) (omega (arith, p.order, p.high, h))) ∙ p.is;
      }

  pub part-behind : (at : ℕ) → at ≤ length l → IsPart (drop at l) from to w → IsPart l (at + from) (at + to) w
  part-behind at h p =
      let n : (at + to) - (at + from) ≡ to - from = omega arith in
      record {
        order = omega (arith, p.order);
        high = omega (arith, p.high, length-drop at l);
        is = ap (λ (k : ℕ). take k (drop (at + from) l)) n ∙ ap (take (to - from)) (sym (drop-drop from at l)) ∙ p.is;
      }

-- The last bytes of a text, by how many stand before them.
module _ (l : List ℕ) where
  last_of : (m : ℕ) (w : List ℕ) → w ≡ drop m l → IsLast l w
  last_of m w e =
      let n : length w ≡ length l - m = ap length e ∙ length-drop m l in (
        omega (arith, n),
        below (length l) m (λ h. e ∙ drop_of_length-le l (omega (arith, h)) ∙ sym (drop_of_length-le l (omega (arith, n, h))))
            (λ h. let k : m ≡ length l - length w = omega (arith, n, h) in e ∙ ap (λ (i : ℕ). drop i l) k),
      )

  pub last_all : IsLast l l
  last_all = last_of 0 l refl

  -- Of these, those behind a first part.
  pub last-behind : (w part rest : List ℕ) → IsLast l w → FirstPart is_feed w part rest → IsLast l rest
  last-behind w part rest a f =
      let k = length l - length w in
      last_of (k + (length part + 1)) rest (f.behind ∙ ap (drop (length part + 1)) a.1 ∙ drop-drop (length part + 1) k l)

pub no_lines : (l : List ℕ) → l ≡ [] → lines_in l ≡ []
unfolding lines_in parts
no_lines l e = rw e

-- ── the line ──
-- A loop that passes line by line stands before line k: the lines left have the one that is looked for.
pub record Passes (text : List ℕ) (line : ℕ) (rest : List ℕ) (k : ℕ) : Type 0 where
  pub is : drop (line - k) (lines_in rest) ≡ drop (line - 1) (lines_in text)

module _ (text : List ℕ) (line : ℕ) (rest : List ℕ) (k : ℕ) (p : Passes text line rest k) where
  -- The text ends before it.
  pub pass-out : rest ≡ [] → lines_in rest ≡ drop (line - 1) (lines_in text)
  pass-out h = let e = no_lines rest h in e ∙ sym (drop-nil (line - k)) ∙ ap (drop (line - k)) (sym e) ∙ p.is

  -- A line is passed.
  pub pass-next : (w behind : List ℕ) → FirstPart is_feed rest w behind → k < line → Passes text line behind (k + 1)
  unfolding lines_in
  pass-next w behind f l =
      let s : line - k ≡ suc (line - (k + 1)) = omega arith in
      record { is = rw (f.parts, s) at p.is }

  -- It is there.
  pub pass-end : line ≤ k → lines_in rest ≡ drop (line - 1) (lines_in text)
  pass-end h = let z : line - k ≡ 0 = omega arith in rw z at p.is

-- Where the lines from it on begin.
module _ (text : List ℕ) (line : ℕ) (rest : List ℕ) (e : lines_in rest ≡ drop (line - 1) (lines_in text)) (z : line ≡ 0 → ⊥) where
  line_first : line_at text line ≡ get_or (lines_in rest) 0 []
  unfolding line_at
  line_first = go line z e
    where
      go : (n : ℕ) → (n ≡ 0 → ⊥) → lines_in rest ≡ drop (n - 1) (lines_in text) → get_or ([] ∷ lines_in text) n [] ≡ get_or (lines_in rest) 0 []
      go zero z e = absurd (z refl)
      go (suc n) z e =
          let a : suc n - 1 ≡ n = omega arith in
          let b : n + 0 ≡ n = omega arith in
          let f : lines_in rest ≡ drop n (lines_in text) = rw a at e in
          rw f (ap (λ (k : ℕ). get_or (lines_in text) k []) (sym b) ∙ sym (get_or-drop n (lines_in text) 0 []))

  -- It is the first of these,
  pub line-there : (w behind : List ℕ) → FirstPart is_feed rest w behind → line_at text line ≡ w
  unfolding lines_in
  line-there w behind f = line_first ∙ ap (λ (ls : List (List ℕ)). get_or ls 0 []) f.parts

  -- or there is none.
  pub line-none : rest ≡ [] → line_at text line ≡ []
  line-none h = line_first ∙ ap (λ (ls : List (List ℕ)). get_or ls 0 []) (no_lines rest h)

-- By its number from 1 on.
pub line-from-one : (text : List ℕ) (line : ℕ) → 0 < line → line_at text line ≡ get_or (lines_in text) (line - 1) []
unfolding line_at
line-from-one text zero h = absurd (omega arith)
line-from-one text (suc n) h = let e : suc n - 1 ≡ n = omega arith in rw e

pub no_line : (text : List ℕ) (line : ℕ) → line ≡ 0 → line_at text line ≡ []
unfolding line_at
no_line text line z = rw z

-- ── the first word ──
module _ (l : List ℕ) where
  pub first-is : (w behind : List ℕ) → FirstWord (said l) w behind → w ≡ first_said l
  unfolding first_said
  first-is w behind f = rw f.words

  pub first_none : words_in (said l) ≡ [] → [] ≡ first_said l
  unfolding first_said
  first_none e = rw e

  -- A part of what it says is one of the line.
  said-part : (from to : ℕ) (w : List ℕ) → IsPart (said l) from to w → IsPart l from to w
  unfolding said chomped
  said-part from to w p =
      let q = part-before (chomped l) from to w (bytes_before (is hash) (chomped l)) p in
      either (is carriage_return (get_or l (length l - 1) 0)) (λ e. part-before l from to w (length l - 1) (rw e at q)) (λ e. rw e at q)

  -- The first word stands before what is behind it.
  module _ (w behind : List ℕ) (f : FirstWord l w behind) where
    word-sizes : (length w ≡ bytes_before is_blank (since is_full l)) × (length behind + (bytes_before is_full l + length w) ≡ length l)
    word-sizes =
        let i = bytes_before is_full l in
        let m = bytes_before is_blank (drop i l) in
        let n = length-drop i l in
        let y = before-length is_blank (drop i l) in
        let a : length w ≡ m = omega (arith, ap length f.first, length-take m (drop i l), y) in
        (a, omega (arith, a, ap length f.behind, length-drop m (drop i l), n, before-length is_full l, y))

    word-part : IsPart l (length l - length behind - length w) (length l - length behind) w
    word-part =
        let i = bytes_before is_full l in
        let s = word-sizes in
        let o : length l - length behind - length w ≡ i = omega (arith, s.1) in
        let z : length l - length behind ≡ i + length w = omega (arith, s.1) in
        let c : i + length w - i ≡ bytes_before is_blank (drop i l) = omega (arith, s.0) in
        rw (o, z) (record { order = omega arith; high = omega (arith, s.1); is = rw c (sym f.first) })

  -- A line that is empty says no word.
  pub none_said : l ≡ [] → [] ≡ first_said l
  unfolding first_said said chomped bytes_before words_in parts
  none_said e = rw e

-- ── where it lies ──
from-there : (n s b w from : ℕ) → from ≡ n + s - b - w → b + w ≤ s → (from ≡ n + (s - b - w)) × (n + (s - b - w) + w ≡ n + (s - b))
from-there n s b w from e h = (omega arith, omega arith)

-- A part of the first part of a text, and of its last bytes.
part-of-first : (l part rest : List ℕ) → FirstPart is_feed l part rest → (from to : ℕ) (w : List ℕ) → IsPart part from to w → IsPart l from to w
part-of-first l part rest f from to w p = part-before l from to w (bytes_before is_feed l) (rw f.first at p)

part-of-last : (l last : List ℕ) → IsLast l last → (from to : ℕ) (w : List ℕ) → IsPart last from to w
    → IsPart l (length l - length last + from) (length l - length last + to) w
part-of-last l last a from to w p =
    let P : List ℕ → Type 0 = λ k. IsPart k from to w in
    part-behind l from to w (length l - length last) (omega arith) (subst P a.1 p)

-- The lines from one on are the last bytes of the text; in these lies the line, in it what it says, and in that its first word.
module _ (text : List ℕ) where
  module _ (rest l next s w behind : List ℕ) (a : IsLast text rest) (f : FirstPart is_feed rest l next) (e : s ≡ said l) (g : FirstWord s w behind) where
    pub first-there : (from : ℕ) → from ≡ length text - length rest + length s - length behind - length w → IsPart text from (from + length w) w
    first-there from h =
        let i = length s - length behind - length w in
        let j = length s - length behind in
        let P : List ℕ → Type 0 = λ k. IsPart k i j w in
        let q = said-part l i j w (subst P e (word-part s w behind g)) in
        let t = part-of-last text rest a i j w (part-of-first rest l next f i j w q) in
        let d = from-there (length text - length rest) (length s) (length behind) (length w) from h (omega (arith, (word-sizes s w behind g).1)) in
        rw (d.0, d.1) t

    pub first-lies : (p : ℕ × ℕ) (v : List ℕ) → w ≡ v → (from : ℕ) → from ≡ length text - length rest + length s - length behind - length w → LiesIn p text (p.0, from + p.1) v
    first-lies p v x from h =
        let t = first-there from h in
        let z : from + p.1 ≡ p.1 + from = omega arith in
        record {
          from = from;
          to = from + length w;
          part = record { order = t.order; high = t.high; is = t.is ∙ x };
          there = ap (λ (k : ℕ). (p.0, k)) z;
        }

  -- There is none.
  pub none-lies : (p : ℕ × ℕ) (v : List ℕ) → [] ≡ v → LiesIn p text p v
  none-lies p v h =
      let z : p.1 ≡ p.1 + 0 = omega arith in
      record { from = 0; to = 0; part = record { order = omega arith; high = omega arith; is = h }; there = ap (λ (k : ℕ). (p.0, k)) z }
