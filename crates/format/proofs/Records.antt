-- Records: what an edition that carries one knows, and how long it may be.
use Prim.Native.Nat.{ℕ, suc, ◌+◌, ◌*◌, ◌≤◌}
use mathlib.Core.Bool.{true, and-true}
use mathlib.Core.List.{List}
use mathlib.Core.Path.{◌≡◌}
use native.Mathlib.Omega.{arith}
use borrow.Author.Tests.{eqb-true, eq-eqb}
use lib.ListN.{length}
use Rattle.format.specs.declared.Call.{Call}
use Rattle.format.specs.Format.{has_kind, widths, total, length_of, member_widths, length_with, least_length}
use Rattle.format.specs.Calls.{keeps, Typed}
use Rattle.format.specs.Records.{Member, Record, member_count, carries, CallCarried}
use Rattle.format.proofs.Format.{both, length-total, length-least, length-bounded}

pub carries-parts : (e : ℕ) (r : Record) → carries e r ≡ true → (keeps e r.call ≡ true) × (length r.members ≡ member_count e r.call)
unfolding carries
carries-parts e r h = let q = both (keeps e r.call) _ h in (q.0, eqb-true (length r.members) (member_count e r.call) q.1)

pub carried : (e : ℕ) (c : Call) (ms : List Member) → keeps e c ≡ true → length ms ≡ member_count e c → carries e (record { call = c; members = ms }) ≡ true
unfolding carries
carried e c ms h l = rw (h, eq-eqb (length ms) (member_count e c) l)

pub call-carried : CallCarried
unfolding carries member_count
call-carried e c = and-true (keeps e c)

-- ── lengths ──
pub with_none : (e k : ℕ) → length_with e k 0 ≡ length_of e k
unfolding length_with
with_none e k = omega arith

pub with-total : (e k n : ℕ) → has_kind e k ≡ true → length_with e k n ≡ suc (total (widths e k) + n * total member_widths)
unfolding length_with
with-total e k n h = omega (arith, length-total e k h)

pub with-least : (e k n : ℕ) → has_kind e k ≡ true → least_length ≤ 2 + length_with e k n
unfolding length_with
with-least e k n h = omega (arith, length-least e k h)

-- With the members that its call asks for, the length of a record goes into two bytes.
pub with-bounded : (e : ℕ) (c : Call) → Typed c → length_with e c.kind (member_count e c) ≤ 65535
unfolding length_with member_count
with-bounded e c t = omega (arith, length-bounded e c.kind)
