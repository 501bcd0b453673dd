-- Shares are kept: the table's invariant `Booked`, read in the ledger.
use mathlib.Core.Path.{◌≡◌, refl, sym, subst}
use mathlib.Core.Logic.{◌≢◌}
use mathlib.Core.List.{List}
use Prim.Native.Nat.{◌<◌}
use native.Mathlib.Omega.{arith}
use Rattle.std.proofs.Common.{Option}
use lib.ListN.{length-map}
use Rattle.numbers.specs.Numbers.{full_number}
use Rattle.rules.specs.declared.Claim.{Claim}
use Rattle.rules.specs.declared.Share.{Share}
use Rattle.rules.specs.Shares.{reserved_of, share_of, pending_of}
use Rattle.rules.specs.Invariants.{Booked}
use Rattle.rules.specs.Calls.{Model, clients_of, Call, step}
use Rattle.rules.proofs.Booking.{below-never-full}
use Rattle.promises.specs.Ledger.{Entry, Ledger}
use Rattle.promises.specs.Runs.{tells, Start, Begins}
use Rattle.promises.specs.SharesKept.{askers, SharesNow, SharesNext, SharesKept}
use Rattle.promises.proofs.Matching.{Match, m_nil, m-cons}
use Rattle.promises.proofs.Demand3.{Tracks, Story, after-calls}

pub askers-are : (P : Type 0) {ps : List Claim} {l : List Entry} → Match (Tracks P) ps l → clients_of ps ≡ askers l
askers-are P m_nil = refl
askers-are P (m-cons r m) = rw (r.client, askers-are P m)

-- The invariant of the table is one of the ledger.
booked-of : (P : Type 0) (l : Ledger) (m : Model) → Story P l m → Booked l.shares (askers l.claims)
booked-of P l m s = subst (λ (ss : List (Option Share)). Booked ss (askers l.claims)) s.shares (subst (Booked m.shares) (askers-are P s.match) s.booked)

now_of : (P : Type 0) (l : Ledger) (m : Model) → Story P l m → SharesNow l (tells m)
now_of P l m s =
    let b = booked-of P l m s in
    record { within_limit = b.within; room_kept = omega (arith, b.room, length-map l.claims (λ (e : Entry). e.asked.client)) }

next_of : (P : Type 0) (l : Ledger) (m : Model) → Story P l m → (c : Call) → SharesNext l (record { call = c; answer = (step m c).answer }) (tells m) (tells (step m c).model)
next_of P l m s c = record {
  never_full = λ u ask e h.
      let below : pending_of (clients_of m.pending) ask.client < reserved_of (share_of m.shares ask.client) = rw (askers-are P s.match, s.shares) h in
      subst (λ (d : Call). (step m d).answer.number ≢ full_number) (sym e) (below-never-full m u ask below);
}

pub shares_kept : (s : Start) → Begins s → (calls : List Call) → SharesKept s calls
shares_kept s b calls = record {
  at_any_time = λ before rest e. now_of _ _ _ (after-calls s b before);
  at_any_call = λ before c rest e. next_of _ _ _ (after-calls s b before) c;
}
