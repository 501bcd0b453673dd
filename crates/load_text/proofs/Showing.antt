-- A turn of the loop over a load's records: a line, and the ways out.
use Prim.Native.Nat.{ℕ, ◌+◌, ◌*◌, ◌^◌, ◌≤◌, ◌<◌}
use mathlib.Core.List.{List, [], ◌++◌, append-nil}
use mathlib.Core.Path.{◌≡◌, refl, sym, ap, ◌∙◌}
use native.Mathlib.Omega.{arith}
use mathlib.Core.Bool.{true, false, ◌||◌}
use lib.Dec.{leb}
use borrow.Author.Tests.{leb-true, leb-false, lt-leb}
use lib.ListN.{length, length-append}
use Rattle.std.specs.Prelude.{Err}
use Rattle.numbers.specs.declared.Refusal.{Refusal}
use Rattle.numbers.specs.Refusals.{number_of}
use Rattle.numerals.specs.declared.page.Page.{Page}
use Rattle.numerals.specs.Pages.{Lays}
use Rattle.numerals.proofs.Pages.{lays_as, Laying, laying-start, laying-more, laying-end}
use Rattle.format.specs.declared.Call.{Call}
use Rattle.words.specs.declared.reasons.Reason.TheVariants.{Refused}
use Rattle.words.proofs.Cases.{either}
use Rattle.words.proofs.Numbers.{reason-some}
use Rattle.load.specs.Answers.{one_record, the_end}
use Rattle.load.specs.Reading.{edition_of, item_at, walk, open_number}
use Rattle.load.proofs.Reading.{walk_call, walk_end, walk_refused, step-next, call-size, open-known}
use Rattle.format.proofs.Format.{neither}
use Rattle.load.proofs.Bytes.{call_length}
use Rattle.load_text.specs.Lines.{line_of, Brief, stop_line, lines_of, rest_of, header_of, text_of}
use Rattle.load_text.proofs.Cases.{refused}
use Rattle.load_text.proofs.Lines.{stop-length, header-length}

-- the loop's invariant
pub record Turn (e : ℕ) (s : List ℕ) (old new : Page) (at k : ℕ) : Type 0 where
  pub inside : at ≤ 65536
  pub few : k ≤ at
  pub laying : Laying old (rest_of e 1 (walk s 1)) new (rest_of e k (walk s at))
  pub brief : length (rest_of e 1 (walk s 1)) + 3 ≤ 3 * at + length (rest_of e k (walk s at))

pub turn-start : (e : ℕ) (s : List ℕ) (old : Page) → length old.out.now < 2 ^ 64 → Turn e s old old 1 1
turn-start e s old h = record { inside = omega arith; few = omega arith; laying = laying-start h refl; brief = omega arith }

module _ (e : ℕ) (s : List ℕ) (old new : Page) (at k : ℕ) (t : Turn e s old new at k) where
  pub turn_end : item_at s at ≡ the_end → Lays old (rest_of e 1 (walk s 1)) new × (length (rest_of e 1 (walk s 1)) ≤ 196654)
  unfolding rest_of lines_of
  turn_end i = (laying-end t.laying (rw (walk_end s at i)), omega (arith, t.inside, rw (walk_end s at i) at t.brief))

  module _ (p : Page) where
    -- A line has at most three bytes for each byte of its record.
    pub turn_more : length s ≤ 65536 → edition_of s ≡ e → (c : Call) (next : ℕ) → item_at s at ≡ one_record c next → Lays new (line_of e c) p × Brief e c
        → Turn e s old p next (k + 1)
    unfolding rest_of lines_of
    turn_more l x c next i z =
        let j = step-next s at c next i in
        let w = walk_call s at c next i in
        let q = rw x at (call-size s at c next i) in
        let a = length-append (line_of e c) (rest_of e (k + 1) (walk s next)) in
        record {
          inside = omega (arith, j.1);
          few = omega (arith, j.0, t.few);
          laying = laying-more (line_of e c) _ t.laying (rw w) z.0;
          brief = omega (arith, rw w at t.brief, a, z.1.1, call_length e c q.0, q.1);
        }

    pub turn-refused : (x : Refusal) → item_at s at ≡ Err x → Lays new (stop_line (number_of x) k) p
        → Lays old (rest_of e 1 (walk s 1)) p × (length (rest_of e 1 (walk s 1)) ≤ 196654)
    unfolding rest_of lines_of
    turn-refused x i z =
        let r = refused (λ m. stop_line m k) [] (number_of x) (λ q. omega (arith, q, reason-some (Refused x))) in (
          laying-end (laying-more (stop_line (number_of x) k) [] t.laying (rw (walk_refused s at x i, r, append-nil)) z) refl,
          omega (arith, t.inside, rw (walk_refused s at x i, r) at t.brief, stop-length (number_of x) k),
        )

-- ── the whole ──
abbrev whole : List ℕ → List ℕ
whole s = header_of (edition_of s) ++ rest_of (edition_of s) 1 (walk s 1)

-- With its length, which is that of its parts.
abbrev pub Text : List ℕ → Page → Page → Type 0
Text s old new = Lays old (text_of s) new × (length (text_of s) ≤ 196666)

pub text-open : (s : List ℕ) (x : Refusal) → number_of x ≡ open_number s → {old new : Page} → Lays old (stop_line (number_of x) 0) new → Text s old new
unfolding text_of
text-open s x e w =
    let t : stop_line (number_of x) 0 ≡ text_of s = sym (refused (λ m. stop_line m 0) (whole s) (number_of x) (λ q. omega (arith, q, reason-some (Refused x)))) ∙ rw e in
    (lays_as _ _ t w, omega (arith, ap length t, stop-length (number_of x) 0))

pub text-read : (s : List ℕ) → 0 ≡ open_number s → {old new : Page} → Lays old (whole s) new → length (rest_of (edition_of s) 1 (walk s 1)) ≤ 196654 → Text s old new
unfolding text_of
text-read s e w l =
    let t : whole s ≡ text_of s = rw (sym e) in
    let h = header-length (edition_of s) (open-known s (sym e)).1 in
    (lays_as _ _ t w, omega (arith, ap length t, length-append (header_of (edition_of s)) (rest_of (edition_of s) 1 (walk s 1)), h, l))

-- A text of n bytes goes into room for any, or into as many bytes.
module _ (n room : ℕ) where
  pub text-counted : room < 196666 → leb n room ≡ (leb 196666 room || leb n room)
  text-counted h = rw (lt-leb 196666 room h)

  pub text-goes : (leb 196666 room || leb n room) ≡ true → n ≤ 196666 → n ≤ room
  text-goes h l = either (leb 196666 room) (λ e. omega (arith, leb-true 196666 room e)) (λ e. leb-true n room (rw e at h))

  pub text-stays : (leb 196666 room || leb n room) ≡ false → room < n
  text-stays h = leb-false n room (neither (leb 196666 room) (leb n room) h).1
