-- No listing is longer than its load's length allows: it has few records (`walk-few`), a record's line has 84 bytes at most, an `on` line 45,
-- and over a load there are no more `on` lines than tickets issued, one a record at most.
use mathlib.Core.Path.{◌≡◌, sym}
use mathlib.Core.Bool.{Bool, true, cond}
use mathlib.Core.List.{List, [], ◌∷◌, ◌++◌}
use Prim.Native.Nat.{ℕ, ◌+◌, ◌*◌, ◌/◌, ◌^◌, ◌≤◌, ◌<◌}
use native.Mathlib.Omega.{arith}
use native.Mathlib.Nat.{div-le_self}
use lib.Dec.{ltb, leb, eqb}
use borrow.Author.Tests.{le-leb, ltb-false}
use lib.ListN.{length, length-append}
use Rattle.rules.specs.Calls.{Model, Step}
use Rattle.table.proofs.Promised.{waiting, none-waits, granted-once, issues_few}
use Rattle.format.specs.Records.{Record}
use Rattle.format.specs.Format.{known, least_length}
use Rattle.load.specs.Reading.{edition_of, walk, open_number}
use Rattle.format.proofs.Format.{either}
use Rattle.load.proofs.Reading.{walk-few}
use Rattle.replay.specs.Records.{alone_in, step_of, ending, unrigged}
use Rattle.replay.proofs.Records.{record-promised}
use Rattle.replay.proofs.StopLine.{stop-length}
use Rattle.listing.specs.Lines.{line_of, on_lines}
use Rattle.listing.specs.Text.{entry_of, lines_from, lines_of, listing_of}
use Rattle.listing.specs.Room.{room_for}
use Rattle.listing.proofs.Lines.{line-length, ons-length}

-- ── lines ──
entry_length : (k : ℕ) (s : Step) → length (entry_of k s) ≤ 84 + 45 * length s.answer.grants
unfolding entry_of
entry_length k s =
    let a = s.answer in
    let t = s.model.clock in
    omega (arith, length-append (line_of k a.number a.ticket a.start) (on_lines t a.grants), line-length k a.number a.ticket a.start, ons-length t a.grants)

lines-length : (alone : Bool) (k : ℕ) (m : Model) (rs : List Record) (n : ℕ) → length (lines_from alone k m rs n) ≤ 47 + 45 * waiting m + 129 * length rs
unfolding lines_from
lines-length alone k m [] n = stop-length n k _ [] (omega arith) (omega arith)
lines-length alone k m (r ∷ rs) n =
    let s = step_of alone m r in
    let q = record-promised alone m r in
    let rest = lines_from alone (k + 1) s.model rs n in
    let l = length-append (entry_of k s) rest in
    stop-length (ending k s.answer.number) k _ (entry_of k s ++ rest)
    (omega (arith, l, entry_length k s, lines-length alone (k + 1) s.model rs n, granted-once q, issues_few q))
    (omega arith)

pub listing-bounded : (s : List ℕ) → length (listing_of s) ≤ room_for (length s)
unfolding listing_of lines_of room_for open_number
listing-bounded s =
    let rest = lines_from (alone_in s) 1 unrigged (walk s 1).records (walk s 1).stop in
    let c = walk-few s 1 in
    let l = lines-length (alone_in s) 1 unrigged (walk s 1).records (walk s 1).stop in
    let b : length rest ≤ 47 + 129 * (length s / least_length) = omega (arith, none-waits 0 0 true) in
    either (ltb 65536 (length s))
    (λ e. rw e (omega (arith, stop-length 14 0 47 [] (omega arith) (omega arith))))
    (λ e. rw e (omega (arith, stop-length (cond (eqb (length s) 0) 12 (cond (known (edition_of s)) 0 11)) 0 (47 + 129 * (length s / least_length)) rest b (omega arith))))

-- So its length is a usize.
pub listing-short : (s : List ℕ) → length (listing_of s) < 2 ^ 64
unfolding room_for
listing-short s =
    let h = listing-bounded s in
    either (ltb 65536 (length s))
    (λ e. omega (arith, rw e at h))
    (λ e. omega (arith, rw e at h, ltb-false 65536 (length s) e, div-le_self (length s) least_length))

-- Where the room is that much, the listing goes in.
pub goes-surely : (s : List ℕ) (n room : ℕ) → n ≡ room_for (length s) → n ≤ room → true ≡ leb (length (listing_of s)) room
goes-surely s n room e h = sym (le-leb (length (listing_of s)) room (omega (arith, listing-bounded s)))
