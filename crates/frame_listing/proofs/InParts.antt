-- A listing up to a limit, turn by turn (`on-turn`, `on-ended`, `on-full`); and that the parts of a listing are the listing.
-- Rests on the lines and calls from a place on (words/proofs/Parts, dance_text/proofs/Shows).
use mathlib.Core.Path.{◌≡◌, refl, sym, ap, ◌∙◌}
use mathlib.Core.Logic.{◌⊎◌, inl, inr, ⊎_elim}
use mathlib.Core.List.{List, [], ◌∷◌, ◌++◌, append_assoc, append-nil}
use Prim.Native.Nat.{ℕ, zero, suc, ◌+◌, ◌-◌, ◌^◌, ◌≤◌, ◌<◌}
use native.Mathlib.Omega.{arith}
use lib.Dec.{ltb}
use lib.ListN.{length, take, drop, length-take, length-drop}
use borrow.Author.Tests.{lt-ltb, le-ltb, le-leb, lt-leb}
use Rattle.numerals.specs.Laid.{behind, Put}
use Rattle.numerals.proofs.Laying.{laid-fits, behind-none, behind-under, put_as, put-short}
use Rattle.words.specs.Parts.{is_feed, place_of, lines_in}
use Rattle.words.proofs.Cases.{either, below}
use Rattle.words.proofs.Parts.{lines_cut, place-low, place-high}
use Rattle.std.specs.Prelude.{Some, None, Ok, Err}
use Rattle.dance_text.specs.Lines.{Line, line_says}
use Rattle.dance_text.specs.Shows.{said_in, calls_in, calls_of}
use Rattle.dance_text.proofs.Shows.{said_from, calls-cut, calls-end}
use Rattle.frame_listing.specs.declared.Part.{Part}
use Rattle.frame_listing.specs.Lines.{header, stop_line}
use Rattle.frame_listing.specs.Text.{step_of, stops, entry_of, lines_of, text_of}
use Rattle.frame_listing.specs.InParts.{Progress, called, heard, up_to, entry_room, part_room, progress, part_as, part_of, part_out, part_behind, start, first_part, next_part, Ready, Reached, left, joined, PartsMakeTheListing}

-- ── a turn ──
-- A line takes the place on, or to the text's end.
heard-at : (size : ℕ) (s : Progress) (l : Line) → ((heard size s l).at ≡ s.at) ⊎ ((heard size s l).at ≡ size)
unfolding called
heard-at size s (Ok None) = inl refl
heard-at size s (Ok (Some c)) =
    either (stops c (step_of s.table c).answer.number) (λ e. inr (rw e refl)) (λ e. inl (rw e refl))
heard-at size s (Err r) = inl refl

-- Behind the line that ends at place j, before it is heard, and then.
abbrev behind_line : Progress → ℕ → Progress
behind_line s j = record { laid = s.laid; at = j + 1; call = s.call; table = s.table }

abbrev turned : List ℕ → Progress → ℕ → Progress
turned text s j = heard (length text) (behind_line s j) (line_says (take (j - s.at) (drop s.at text)))

module _ (text : List ℕ) (limit : ℕ) where
  -- The listing from there on.
  abbrev pub from : Progress → Progress
  from s = up_to (length text) limit s (lines_in (drop s.at text))

  -- It ends with the text,
  ended : (s : Progress) (ls : List (List ℕ)) → length text ≤ s.at → up_to (length text) limit s ls ≡ s
  unfolding up_to
  ended s [] h = refl
  ended s (l ∷ ls) h = rw (le-ltb s.at (length text) h) refl

  pub on-ended : (s : Progress) → length text ≤ s.at → from s ≡ s
  on-ended s h = ended s (lines_in (drop s.at text)) h

  -- and where more is laid than the limit.
  full : (s : Progress) (ls : List (List ℕ)) → limit < behind 0 (length s.laid) → up_to (length text) limit s ls ≡ s
  unfolding up_to
  full s [] h = refl
  full s (l ∷ ls) h = either (ltb s.at (length text)) (λ e. rw (e, lt-leb (behind 0 (length s.laid)) limit h) refl) (λ e. rw e refl)

  pub on-full : (s : Progress) → limit < behind 0 (length s.laid) → from s ≡ s
  on-full s h = full s (lines_in (drop s.at text)) h

  -- A line: j is where it ends.
  module _ (s : Progress) (h : s.at < length text) (j : ℕ) (f : j ≡ place_of is_feed text s.at) where
    -- The place behind it, by its length.
    past : s.at + length (take (j - s.at) (drop s.at text)) + 1 ≡ j + 1
    past = simp (length-take, length-drop) (omega (arith, f, place-low is_feed text s.at, place-high is_feed text s.at))

    -- The lines left begin where the line ends; or none is looked at.
    lines_from : up_to (length text) limit (turned text s j) (lines_in (drop (j + 1) text)) ≡ from (turned text s j)
    lines_from =
        ⊎_elim
        (λ e. rw e refl)
        (λ e. ended (turned text s j) (lines_in (drop (j + 1) text)) (omega (arith, e)) ∙ sym (on-ended (turned text s j) (omega (arith, e))))
        (heard-at (length text) (behind_line s j) (line_says (take (j - s.at) (drop s.at text))))

    -- Where no more is laid than the limit, the line is listed.
    pub on-turn : behind 0 (length s.laid) ≤ limit → from s ≡ from (turned text s j)
    unfolding up_to
    on-turn l = rw (lines_cut text s.at j h f, lt-ltb s.at (length text) h, le-leb (behind 0 (length s.laid)) limit l, past) lines_from

    -- It takes the listing farther on in the text.
    turned-grows : s.at < (turned text s j).at
    turned-grows =
        ⊎_elim (λ e. omega (arith, e, f, place-low is_feed text s.at)) (λ e. omega (arith, e))
        (heard-at (length text) (behind_line s j) (line_says (take (j - s.at) (drop s.at text))))

    -- What is laid and what is left stay together the same.
    turned_left : (turned text s j).laid ++ left text (turned text s j) ≡ s.laid ++ left text s
    unfolding said_in called lines_of
    turned_left = rw (calls-cut text s.at j h f) (go (line_says (take (j - s.at) (drop s.at text))))
      where
        go : (l : Line) → (heard (length text) (behind_line s j) l).laid ++ left text (heard (length text) (behind_line s j) l)
            ≡ s.laid ++ lines_of s.call s.table (calls_of l ++ calls_in (said_from text (j + 1)))
        go (Ok None) = refl
        go (Ok (Some c)) =
            let t = step_of s.table c in
            either (stops c t.answer.number)
            (λ e. rw (e, calls-end text (length text) (omega arith)) (append-nil (s.laid ++ stop_line)))
            (λ e. rw e (append_assoc s.laid (entry_of s.call t.answer) (lines_of (s.call + 1) t.model (calls_in (said_from text (j + 1))))))
        go (Err r) = refl

  -- What every line keeps holds at the end, where the text has ended or more is laid than the limit.
  module _ (P : Progress → Type 0) (step : (s : Progress) (h : s.at < length text) → P s → P (turned text s (place_of is_feed text s.at))) where
    from-keeps : (n : ℕ) (s : Progress) → length text - s.at < n → P s → P (from s) × ((length text ≤ (from s).at) ⊎ (limit < behind 0 (length (from s).laid)))
    from-keeps zero s d p = absurd (omega arith)
    from-keeps (suc n) s d p =
        below s.at (length text)
        (λ h. below limit (behind 0 (length s.laid))
        (λ l. rw (on-full s l) (p, inr l))
        (λ l.
        let j = place_of is_feed text s.at in
        rw (on-turn s h j refl l) (from-keeps n (turned text s j) (omega (arith, turned-grows s h j refl)) (step s h p))))
        (λ e. rw (on-ended s e) (p, inl e))

-- ── the whole listing ──
-- Behind the text's end nothing is left.
left-none : (text : List ℕ) (s : Progress) → length text ≤ s.at → left text s ≡ []
unfolding said_in lines_of
left-none text s h = rw (calls-end text s.at h) refl

-- What is laid and what is left are the same as before;
from-left : (text : List ℕ) (limit : ℕ) (s : Progress)
    → ((from text limit s).laid ++ left text (from text limit s) ≡ s.laid ++ left text s)
    × ((length text ≤ (from text limit s).at) ⊎ (limit < behind 0 (length (from text limit s).laid)))
from-left text limit s =
    from-keeps text limit (λ v. v.laid ++ left text v ≡ s.laid ++ left text s)
    (λ v h e. turned_left text limit v h (place_of is_feed text v.at) refl ∙ e)
    (suc (length text - s.at)) s (omega arith) refl

-- without a limit nothing is left.
whole-laid : (text : List ℕ) → (from text 18446744073709551615 (progress header start)).laid ≡ text_of text
unfolding text_of
whole-laid text =
    let s = progress header start in
    let w = from-left text 18446744073709551615 s in
    let v = from text 18446744073709551615 s in
    ⊎_elim
    (λ e. sym (append-nil v.laid) ∙ ap (λ (xs : List ℕ). v.laid ++ xs) (sym (left-none text v e)) ∙ w.0)
    (λ e. absurd (omega (arith, e, behind-under 0 (length v.laid))))
    w.1

-- So the loop lays all of it.
pub whole-put : (text o : List ℕ) (p : Part) (r : Part) (q : List ℕ) → p ≡ start → Reached text o header p 18446744073709551615 r q → Put o 0 (text_of text) r.length q
whole-put text o p r q e w =
    let i : w.reached.laid ≡ text_of text =
    ap (λ (s : Progress). s.laid) w.is ∙ ap (λ (x : Part). (from text 18446744073709551615 (progress header x)).laid) e ∙ whole-laid text in
    put_as w.reached.laid (text_of text) i w.put

-- ── parts ──
module _ (text : List ℕ) (room : ℕ) (h : part_room ≤ room) where
  -- A part is a listing up to its limit.
  part-is : (xs : List ℕ) (p : Part) → part_behind text xs p room ≡ from text (room - entry_room) (progress xs p)
  unfolding part_behind
  part-is xs p = rw (le-ltb room part_room h) refl

  -- With what is left behind it, it is what was left.
  part_left : (xs : List ℕ) (p : Part) → (part_behind text xs p room).laid ++ left text (part_behind text xs p room) ≡ xs ++ left text (progress xs p)
  part_left xs p = rw (part-is xs p) (from-left text (room - entry_room) (progress xs p)).0

  -- A line is listed in any case.
  part-grows : (p : Part) → p.at < length text → p.at < (next_part text p room).at
  part-grows p l =
      let s = progress [] p in
      let j = place_of is_feed text p.at in
      let e = part-is [] p ∙ on-turn text (room - entry_room) s l j refl (omega (arith, behind-none 0 (omega arith))) in
      rw e
      (from-keeps text (room - entry_room) (λ v. p.at < v.at)
      (λ v k q. omega (arith, q, turned-grows text (room - entry_room) v k (place_of is_feed text v.at) refl))
      (suc (length text - (turned text s j).at)) (turned text s j) (omega arith) (turned-grows text (room - entry_room) s l j refl)).0

  -- The n parts behind a part are what is left, where no more than n bytes of the text are.
  parts-left : (n : ℕ) (s : Progress) → length text - s.at ≤ n → joined n text room s ≡ s.laid ++ left text s
  unfolding joined
  parts-left zero s d = sym (append-nil s.laid) ∙ ap (λ (xs : List ℕ). s.laid ++ xs) (sym (left-none text s (omega arith)))
  parts-left (suc n) s d =
      let p = part_of s in
      let f : length text - (next_part text p room).at ≤ n =
      below s.at (length text) (λ l. omega (arith, part-grows p l))
      (λ l. omega (arith, l, ap (λ (v : Progress). v.at) (part-is [] p ∙ on-ended text (room - entry_room) (progress [] p) l))) in
      ap (λ (xs : List ℕ). s.laid ++ xs) (parts-left n (next_part text p room) f ∙ part_left [] p)

-- ── what is answered ──
-- It ends farther on in the text than the part before it.
pub next_grows : (text out : List ℕ) (p r : Part) → part_room ≤ length out → p.at < length text → r ≡ part_of (next_part text p (length out)) → p.at < r.at
next_grows text out p r h l e = rw e (part-grows text (length out) h p l)

-- The answer with a part, and what the lent buffer becomes.
abbrev Lays : Progress → List ℕ → Part → List ℕ → Type 0
Lays s out r q = (r ≡ part_of s) × ((q ≡ part_out s out) × (Ready r × (r.length ≤ length out)))

-- A buffer that is too short,
pub part_none : (text xs : List ℕ) (p : Part) (out : List ℕ) → Ready p → length out < part_room
    → Lays (part_behind text xs p (length out)) out (record { length = 0; at = p.at; call = p.call; table = p.table }) out
unfolding part_behind
part_none text xs p out v h =
    rw (lt-ltb (length out) part_room h) (refl, (refl, (record { valid = v.valid; few = v.few }, omega arith)))

-- and one that is not.
pub part-laid : (text xs : List ℕ) (p : Part) (out : List ℕ) → part_room ≤ length out → length out < 2 ^ 64
    → (r : Part) (q : List ℕ) → Reached text out xs p (length out - entry_room) r q → Lays (part_behind text xs p (length out)) out r q
part-laid text xs p out h k r q w =
    let l : length w.reached.laid ≤ length out = omega (arith, w.short (omega arith)) in
    let z = put-short (omega arith) w.put in
    rw (part-is text (length out) h xs p, ← w.is)
    (w.answer ∙ ap (λ n. part_as n w.reached) z.0, (z.1 ∙ laid-fits out w.reached.laid l, (w.ready, omega (arith, z.0))))

-- ── the parts are the listing ──
pub parts-make-the-listing : PartsMakeTheListing
unfolding text_of
parts-make-the-listing text room h = record {
  whole = parts-left text room h (length text) (first_part text room) (omega arith) ∙ part_left text room h header start;
  first = part_left text room h header start;
  next = part_left text room h [];
  grows = part-grows text room h;
  ends = left-none text;
}
