-- The writer's definitions as the code meets them: the tests in its order, the answer, and the pieces of a record.
use Prim.Native.Nat.{ℕ, zero, suc, ◌+◌, ◌≤◌, ◌<◌}
use mathlib.Core.Bool.{true, not, ◌||◌}
use mathlib.Core.List.{List}
use mathlib.Core.Path.{◌≡◌, refl, sym, ap, ◌∙◌}
use native.Mathlib.Omega.{arith}
use lib.Dec.{ltb}
use borrow.Author.Tests.{lt-ltb, le-ltb, ltb-false, not-false}
use lib.ListN.{length, length-append}
use Rattle.numerals.specs.Laid.{Put}
use Rattle.numerals.proofs.Laying.{laid-fits, put-short}
use Rattle.std.specs.Prelude.{Result, Ok, Err}
use Rattle.numbers.specs.declared.Refusal.{Refusal}
use Rattle.numbers.specs.Refusals.{number_of}
use Rattle.format.specs.Records.{Record, carries}
use Rattle.load.specs.Answers.{written_values}
use Rattle.load.proofs.Answers.{number-some, refusal-is}
use Rattle.load.specs.Bytes.{record_bytes}
use Rattle.load.specs.Reading.{is_in_place, edition_of, load_number}
use Rattle.load.specs.Writing.{grown, room_number, grow_number, append_number, answered, answered_values, lent, begun}
use Rattle.format.proofs.Format.{neither, passed}
use Rattle.load.proofs.Reading.{or-else}

-- ── the tests ──
-- By the length of the grown load and the room.
module _ (whole room g : ℕ) (s : room_number whole room ≡ g) where
  pub room-long : 65536 < whole → 14 ≡ g
  unfolding room_number
  room-long l = rw (lt-ltb 65536 whole l) at s

  pub room-short : whole ≤ 65536 → room < whole → 15 ≡ g
  unfolding room_number
  room-short l r = rw (le-ltb 65536 whole l, lt-ltb room whole r) at s

  pub room-good : whole ≤ 65536 → whole ≤ room → 0 ≡ g
  unfolding room_number
  room-good l r = rw (le-ltb 65536 whole l, le-ltb room whole r) at s

-- Of a load: t is its own number.
pub append-grow : (s : List ℕ) (r : Record) (room t : ℕ) → t ≡ load_number s → t ≡ 0 → grow_number (edition_of s) (length s) r room ≡ append_number s r room
unfolding append_number
append-grow s r room t z o = rw (sym z ∙ o)

-- A record that grows a load: what number 0 says, and what gives it.
pub record Grows (s : List ℕ) (r : Record) (room : ℕ) : Type 0 where
  pub place : is_in_place r.call.kind (length s) ≡ true
  pub carried : carries (edition_of s) r ≡ true
  pub bounded : length (grown s r) ≤ 65536
  pub goes_in : length (grown s r) ≤ room

grown-length : (s : List ℕ) (r : Record) → length s + length (record_bytes (edition_of s) r) ≡ length (grown s r)
unfolding grown
grown-length s r = sym (length-append s (record_bytes (edition_of s) r))

pub grow-known : (s : List ℕ) (r : Record) (room : ℕ) → grow_number (edition_of s) (length s) r room ≡ 0 → Grows s r room
unfolding grow_number room_number
grow-known s r room h =
    let a = passed (not (is_in_place r.call.kind (length s)) || not (carries (edition_of s) r)) _ _ (rw (grown-length s r) at h) in
    let n = neither (not (is_in_place r.call.kind (length s))) (not (carries (edition_of s) r)) a.0 in
    let b = passed (ltb 65536 (length (grown s r))) _ _ a.1 in
    let d = passed (ltb room (length (grown s r))) _ _ b.1 in
    record {
      place = not-false _ n.0;
      carried = not-false _ n.1;
      bounded = ltb-false 65536 (length (grown s r)) b.0;
      goes_in = ltb-false room (length (grown s r)) d.0;
    }

pub grows : (s : List ℕ) (r : Record) (room : ℕ) → Grows s r room → grow_number (edition_of s) (length s) r room ≡ 0
unfolding grow_number room_number
grows s r room g = rw (g.place, g.carried, grown-length s r, le-ltb 65536 (length (grown s r)) g.bounded, le-ltb room (length (grown s r)) g.goes_in)

-- What an accepted record knows.
pub append-parts : (s : List ℕ) (r : Record) (room : ℕ) → append_number s r room ≡ 0 → (load_number s ≡ 0) × (grow_number (edition_of s) (length s) r room ≡ 0)
unfolding append_number
append-parts s r room h = or-else (load_number s) (grow_number (edition_of s) (length s) r room) h

pub append-grows : (s : List ℕ) (r : Record) (room : ℕ) → append_number s r room ≡ 0 → Grows s r room
append-grows s r room h = grow-known s r room (append-parts s r room h).1

-- ── the answer and the buffer ──
-- k is the number, and g the load to be written.
abbrev pub Answers : List ℕ → List ℕ → ℕ → Result ℕ Refusal → List ℕ → Type 0
Answers g out k r p = (r ≡ answered k (length g)) × ((p ≡ lent k (begun g out) out) × (written_values r ≡ answered_values k (length g)))

pub refused : (g out : List ℕ) (k : ℕ) (r : Refusal) → number_of r ≡ k → Answers g out k (Err r) out
refused g out zero r p = absurd (omega (arith, number-some r))
refused g out (suc k) r p = (ap Err (refusal-is r (suc k) p), (refl, ap (λ (m : ℕ). record { number = m; length = 0 }) p))

-- A text g that goes in and is laid at the start.
pub accepted : (g out : List ℕ) (k : ℕ) (p : List ℕ) (r : ℕ) → k ≡ 0 → length g ≤ 65536 → length g ≤ length out → Put out 0 g r p → Answers g out k (Ok r) p
accepted g out k p r h b l w =
    let e = put-short (omega arith) w in
    rw h (ap Ok e.0, (e.1 ∙ laid-fits out g l, ap (λ (m : ℕ). written_values (Ok m)) e.0))

pub written : (s : List ℕ) (r : Record) (out : List ℕ) (k : ℕ) (p : List ℕ) (n : ℕ) → k ≡ 0 → Grows s r (length out) → Put out 0 (grown s r) n p → Answers (grown s r) out k (Ok n) p
written s r out k p n h g w = accepted (grown s r) out k p n h g.bounded g.goes_in w
