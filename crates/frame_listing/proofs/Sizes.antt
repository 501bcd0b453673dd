-- No listing is longer than its count of calls allows: a call's own line has 105 bytes at most, an `on` line 24, and over a show there are
-- no more `on` lines than calls (`granted-once` of the frame table).
use mathlib.Core.Path.{◌≡◌, sym}
use mathlib.Core.Bool.{true}
use mathlib.Core.List.{List, [], ◌∷◌}
use Prim.Native.Nat.{ℕ, ◌+◌, ◌*◌, ◌≤◌, ◌<◌}
use native.Mathlib.Omega.{arith}
use lib.Dec.{ltb, leb}
use lib.ListN.{length, length-append}
use borrow.Author.Tests.{le-leb, lt-leb}
use Rattle.numerals.specs.Laid.{behind, Put}
use Rattle.words.proofs.Cases.{either, below}
use Rattle.frames.specs.Calls.{Model, Answer, blank}
use Rattle.frame_table.proofs.Promised.{waiting, granted-once, none-waits}
use Rattle.dance_text.specs.declared.Call.{Call}
use Rattle.dance_text.specs.Shows.{said_in, calls_in}
use Rattle.frame_listing.specs.Lines.{line_of, on_lines}
use Rattle.frame_listing.specs.Text.{step_of, stops, entry_of, lines_of, text_of, room_for}
use Rattle.frame_listing.proofs.Lines.{line-length, ons-length}
use Rattle.frame_listing.proofs.Calls.{promised}

-- The lines of a call.
entry_length : (k : ℕ) (a : Answer) → length (entry_of k a) ≤ 105 + 24 * length a.grants
unfolding entry_of
entry_length k a =
    omega (arith, length-append (line_of k a.number a.ticket a.row a.contention) (on_lines a.grants), line-length k a.number a.ticket a.row a.contention, ons-length a.grants)

-- Those of calls: a stop line ends them, or each call has its own line, and those granted waited before or were claimed.
lines-length : (k : ℕ) (m : Model) (cs : List Call) → length (lines_of k m cs) ≤ 9 + 24 * waiting m + 129 * length cs
unfolding lines_of
lines-length k m [] = omega arith
lines-length k m (c ∷ cs) =
    let s = step_of m c in
    let rest = lines_of (k + 1) s.model cs in
    let h = lines-length (k + 1) s.model cs in
    either (stops c s.answer.number) (λ e. rw e (omega arith))
    (λ e. rw e (omega (arith, length-append (entry_of k s.answer) rest, entry_length k s.answer, granted-once (promised m c))))

-- So with the header, which has 33 bytes; before the first call nobody waits.
pub listing-bounded : (text : List ℕ) → length (text_of text) ≤ 42 + 129 * length (calls_in (said_in text))
unfolding text_of
listing-bounded text = omega (arith, lines-length 1 (blank 0) (calls_in (said_in text)), none-waits 0)

-- ── room ──
module _ (text : List ℕ) (room : ℕ) (h : room < 18446744073709551615) where
  -- Where the room is as much as that, the listing goes in.
  pub goes-surely : (n r : ℕ) → n ≡ length (calls_in (said_in text)) → r ≡ room_for n → r ≤ room → true ≡ leb (length (text_of text)) room
  unfolding room_for
  goes-surely n r e f l =
      either (ltb 100000000000000000 n)
      (λ q. absurd (omega (arith, rw q at f)))
      (λ q. sym (le-leb (length (text_of text)) room (omega (arith, rw q at f, listing-bounded text))))

  -- Counted, it stops at the greatest usize, and no room is as much.
  pub goes-counted : {o p : List ℕ} {r : ℕ} → Put o 0 (text_of text) r p → leb r room ≡ leb (length (text_of text)) room
  unfolding behind
  goes-counted {r = r} w =
      let n = length (text_of text) in
      below room n
      (λ l. rw (lt-leb n room l) (lt-leb r room (omega (arith, w.next))))
      (λ l. rw (le-leb n room l) (le-leb r room (omega (arith, w.next))))
