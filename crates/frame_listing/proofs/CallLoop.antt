-- A turn of the listing's loop: a line that says no call, a call, and the ways out; then what is answered.
-- Rests on the laws of a listing up to a limit (InParts) and on pieces laid one after the other (numerals/proofs/Laying).
use mathlib.Core.Path.{◌≡◌, refl, sym, ap, ◌∙◌, subst}
use mathlib.Core.Logic.{◌⊎◌, ⊎_elim}
use mathlib.Core.Bool.{Bool, true, false}
use mathlib.Core.List.{List, ◌++◌}
use Prim.Native.Nat.{ℕ, ◌+◌, ◌-◌, ◌^◌, ◌≤◌, ◌<◌}
use native.Mathlib.Omega.{arith}
use lib.Dec.{leb}
use lib.ListN.{length, take, drop, length-append}
use borrow.Author.Tests.{leb-true, leb-false}
use Rattle.numerals.specs.declared.page.Page.{Page}
use Rattle.numerals.specs.Laid.{behind, Put, space_number}
use Rattle.numerals.specs.Pages.{Lays}
use Rattle.numerals.proofs.Laying.{put_then, put-short, lent-all, lent_none}
use Rattle.frames.specs.Calls.{Model, Answer}
use Rattle.frame_table.specs.Valid.{Valid}
use Rattle.frame_table.proofs.Promised.{promised-valid, granted-few}
use Rattle.words.specs.Parts.{is_feed, place_of}
use Rattle.words.proofs.Parts.{place-low}
use Rattle.dance_text.specs.declared.Call.{Call}
use Rattle.dance_text.specs.Lines.{Line, line_says}
use Rattle.dance_text.specs.Shows.{survey_of}
use Rattle.std.specs.Result.{result_unwrap_or}
use Rattle.std.specs.Prelude.{Some, None, Ok, Err}
use Rattle.frame_listing.specs.Lines.{line_of, on_lines, stop_line}
use Rattle.frame_listing.specs.Text.{step_of, stops, entry_of, text_of, Listed, no_room, listed_of, listed_values, listing_values, listed_out}
use Rattle.frame_listing.specs.InParts.{Progress, called, heard, entry_room, Reached}
use Rattle.frame_listing.proofs.Calls.{promised}
use Rattle.frame_listing.proofs.Lines.{line-length, ons-length}
use Rattle.frame_listing.proofs.InParts.{from, on-ended, on-full, on-turn}

-- At a place of the text, before call k, with a table.
abbrev pub stand : List ℕ → Model → ℕ → ℕ → Progress
stand xs m at k = record { laid = xs; at = at; call = k; table = m }

-- ── a call ──
-- Of a valid table: no more are granted than there are places, so that its lines are no longer than that.
entry-short : (m : Model) (c : Call) (k : ℕ) → Valid m → length (entry_of k (step_of m c).answer) ≤ entry_room
unfolding entry_of
entry-short m c k v =
    let a = (step_of m c).answer in
    let l = line_of k a.number a.ticket a.row a.contention in
    omega (arith, length-append l (on_lines a.grants), line-length k a.number a.ticket a.row a.contention, ons-length a.grants, granted-few v (promised m c))

-- Where the listing stands behind it: the call stops,
called-stop : (m : Model) (c : Call) (size : ℕ) (xs : List ℕ) (at k : ℕ) → stops c (step_of m c).answer.number ≡ true
    → called size (stand xs m at k) c ≡ stand (xs ++ stop_line) (step_of m c).model size k
unfolding called
called-stop m c size xs at k t = rw t refl

-- or it does not.
called_on : (m : Model) (c : Call) (size : ℕ) (xs : List ℕ) (at k : ℕ) → stops c (step_of m c).answer.number ≡ false
    → called size (stand xs m at k) c ≡ stand (xs ++ entry_of k (step_of m c).answer) (step_of m c).model at (k + 1)
unfolding called
called_on m c size xs at k t = rw t refl

-- A line that says no call changes nothing; one that says a call is that call.
unheard : (size : ℕ) (s : Progress) (l : Line) → result_unwrap_or l None ≡ None → heard size s l ≡ s
unheard size s (Ok None) h = refl
unheard size s (Ok (Some c)) h = absurd (cc)
unheard size s (Err r) h = refl

heard_call : (size : ℕ) (s : Progress) (l : Line) (c : Call) → result_unwrap_or l None ≡ Some c → heard size s l ≡ called size s c
heard_call size s (Ok None) c h = absurd (cc)
heard_call size s (Ok (Some d)) c h = let e : d ≡ c = cc in rw e refl
heard_call size s (Err r) c h = absurd (cc)

-- ── the loop's invariant ──
-- Where the loop stands: at a place of the text, before call k, with a table and a page over a buffer that was o. `all` is laid on it; and
-- the listing from there on is that from the first place on.
pub record Turn (text o head : List ℕ) (limit : ℕ) (t₀ : Model) (at₀ k₀ : ℕ) (first page : Page) (t : Model) (at k : ℕ) : Type 0 where
  pub valid : Valid t
  pub few : k ≤ at + 1
  pub same : page.out.ghost_name ≡ first.out.ghost_name
  pub room : length o < 2 ^ 64
  pub all : List ℕ
  pub put : Put o 0 all page.at page.out.now
  pub on : from text limit (stand all t at k) ≡ from text limit (stand head t₀ at₀ k₀)
  pub short : limit < 18446744073709551615 → length all ≤ limit + entry_room

-- Before the first line.
pub turn-start : (text o head : List ℕ) (limit : ℕ) (t : Model) (at k : ℕ) (clean page : Page) → (clean.out.now ≡ o) × (clean.at ≡ 0) → Lays clean head page → length head ≤ 33
    → Valid t → k ≤ at + 1 → Turn text o head limit t at k page page t at k
turn-start text o head limit t at k clean page e w l v f =
    record {
      valid = v;
      few = f;
      same = refl;
      room = rw e.0 at w.room;
      all = head;
      put = rw e.1 at (rw e.0 at w.put);
      on = refl;
      short = λ z. omega arith;
    }

module _ {text o head : List ℕ} {limit : ℕ} {t₀ : Model} {at₀ k₀ : ℕ} {first page : Page} {t : Model} {at k : ℕ} (u : Turn text o head limit t₀ at₀ k₀ first page t at k) where
  -- The text has ended, or more is laid than the limit; the buffer is q.
  pub turn_end : (l : ℕ) (q : List ℕ) → q ≡ page.out.now → (length text ≤ at) ⊎ (limit < page.at)
      → Reached text o head (record { length = l; at = at₀; call = k₀; table = t₀ }) limit (record { length = page.at; at = at; call = k; table = t }) q
  turn_end l q z e = record {
    reached = stand u.all t at k;
    is = sym (⊎_elim (λ a. on-ended text limit (stand u.all t at k) a) (λ a. on-full text limit (stand u.all t at k) (rw u.put.next at a)) e) ∙ u.on;
    put = record { next = u.put.next; is = z ∙ u.put.is };
    answer = refl;
    ready = record { valid = u.valid; few = u.few };
    short = u.short;
  }

  -- A line: j is where it ends, l what it says; no more is laid than the limit.
  module _ (h : at < length text) (w : page.at ≤ limit) (j : ℕ) (f : j ≡ place_of is_feed text at) (l : Line) (e : l ≡ line_says (take (j - at) (drop at text))) where
    -- The listing from behind it on.
    onward : from text limit (heard (length text) (stand u.all t (j + 1) k) l) ≡ from text limit (stand head t₀ at₀ k₀)
    onward = rw e (sym (on-turn text limit (stand u.all t at k) h j f (rw u.put.next at w)) ∙ u.on)

    -- A line that says no call.
    pub turn-pass : result_unwrap_or l None ≡ None → Turn text o head limit t₀ at₀ k₀ first page t (j + 1) k
    turn-pass z = record {
      valid = u.valid;
      few = omega (arith, u.few, f, place-low is_feed text at);
      same = u.same;
      room = u.room;
      all = u.all;
      put = u.put;
      on = rw (unheard (length text) (stand u.all t (j + 1) k) l z) at onward;
      short = u.short;
    }

    -- A line that lays xs and leads to table s, place i and call m.
    turn-laid : (xs : List ℕ) (s : Model) (i m : ℕ) → heard (length text) (stand u.all t (j + 1) k) l ≡ stand (u.all ++ xs) s i m → Valid s → m ≤ i + 1
        → length xs ≤ entry_room → (next : Page) → Lays page xs next → Turn text o head limit t₀ at₀ k₀ first next s i m
    unfolding behind
    turn-laid xs s i m z v q d next g = record {
      valid = v;
      few = q;
      same = g.same ∙ u.same;
      room = u.room;
      all = u.all ++ xs;
      put = put_then o 0 u.all xs page.at next.at page.out.now next.out.now u.room u.put g.put;
      on = rw z at onward;
      short = λ y. omega (arith, u.put.next, length-append u.all xs);
    }

    -- A line that says a call, which is made: it gives an answer, and leads to table s.
    module _ (c : Call) (q : result_unwrap_or l None ≡ Some c) (a : Answer) (s : Model) (d : a ≡ (step_of t c).answer) (i : s ≡ (step_of t c).model) (b : Bool) (p : b ≡ stops c a.number) (next : Page) where
      stops-as : stops c (step_of t c).answer.number ≡ b
      stops-as = sym (p ∙ ap (λ (y : Answer). stops c y.number) d)

      next-valid : Valid s
      next-valid = subst Valid (sym i) (promised-valid u.valid (promised t c))

      -- It ends the listing,
      pub turn-stop : b ≡ true → Lays page stop_line next → Turn text o head limit t₀ at₀ k₀ first next s (length text) k
      turn-stop y z =
          turn-laid stop_line s (length text) k (rw i (heard_call (length text) (stand u.all t (j + 1) k) l c q ∙ called-stop t c (length text) u.all (j + 1) k (stops-as ∙ y))) next-valid
          (omega (arith, u.few)) (omega arith) next z

      -- or its lines are laid.
      pub turn-call : b ≡ false → Lays page (entry_of k a) next → Turn text o head limit t₀ at₀ k₀ first next s (j + 1) (k + 1)
      turn-call y z =
          turn-laid (entry_of k a) s (j + 1) (k + 1) (rw (d, i) (heard_call (length text) (stand u.all t (j + 1) k) l c q ∙ called_on t c (length text) u.all (j + 1) k (stops-as ∙ y))) next-valid
          (omega (arith, u.few, f, place-low is_feed text at)) (rw d (entry-short t c k u.valid)) next z

-- ── what is answered ──
-- The answer on a text for a lent buffer, which becomes p.
abbrev Lists : List ℕ → List ℕ → Listed → List ℕ → Type 0
Lists text out r p = (r ≡ listed_of text out) × ((p ≡ listed_out text out) × (listed_values r ≡ listing_values text out))

-- Where no line is wrong,
module _ (text out : List ℕ) (n : ℕ) (e : survey_of text ≡ Ok n) where
  -- the listing goes in,
  pub listed-all : leb (length (text_of text)) (length out) ≡ true → length out < 2 ^ 64 → (r : ℕ) (p : List ℕ) → Put out 0 (text_of text) r p → Lists text out (Ok r) p
  unfolding listed_of listing_values listed_out space_number
  listed-all b h r p w =
      let l = leb-true (length (text_of text)) (length out) b in
      let q = put-short (omega arith) w in
      let a = lent-all (text_of text) out p l q.1 in
      rw (e, b, q.0) (refl, (a.1, refl))

  -- or it does not.
  pub listed-none : leb (length (text_of text)) (length out) ≡ false → Lists text out no_room out
  unfolding listed_of listing_values listed_out space_number
  listed-none b =
      let a = lent_none (text_of text) out (leb-false (length (text_of text)) (length out) b) in
      rw (e, b) (refl, (a.1, refl))
