-- Every call keeps the shares booked. Packing and granting leave each claim its client, so only a claim, a leave and a declaration matter.
use mathlib.Core.Path.{◌≡◌, refl, sym, ◌∙◌, ap, subst}
use mathlib.Core.Logic.{inl, inr, ◌≢◌}
use mathlib.Core.Bool.{false, not}
use mathlib.Core.List.{List, [], ◌∷◌, ◌++◌, map}
use Prim.Native.Nat.{ℕ, ◌<◌}
use native.Mathlib.Omega.{arith}
use lib.ListN.{length, length-map}
use Rattle.numbers.specs.Numbers.{full_number, most_pending}
use Rattle.rules.specs.declared.Claim.{Claim}
use Rattle.rules.specs.declared.Request.{Request}
use Rattle.rules.specs.declared.Reply.{Reply}
use Rattle.rules.specs.declared.Setting.{Setting}
use Rattle.rules.specs.Packing.{packed_start, moved, pack}
use Rattle.rules.specs.Granting.{granted, grant}
use Rattle.rules.specs.Shares.{reserved_of, share_of, pending_of, unfilled_by_others, with_share, share}
use Rattle.rules.specs.Tests.{full_for, named}
use Rattle.rules.specs.Calls.{Model, setting_of, clients_of, ruled, Call, claim, tests, advance, plain, finish, join, remove, admit, declared, step}
use Rattle.rules.specs.Invariants.{Invariant, Booked, IsBooked}
use Rattle.rules.proofs.Tests.{never}
use Rattle.rules.proofs.Packing.{moved-cases}
use Rattle.rules.proofs.Granting.{granted-cases}
use Rattle.rules.proofs.Shares.{claim-books, leaving-books, declare-books, claim-room, below-not-full}
use Rattle.rules.proofs.Calls.{Admissible, step-number, Declarable, placed, Leaves, by-release, by-withdraw, by-clock, unissued-none, step-cases}

-- ── each claim keeps its client ──
clients-map : (f : Claim → Claim) → ((c : Claim) → (f c).client ≡ c.client) → (ps : List Claim) → clients_of (map f ps) ≡ clients_of ps
clients-map f h [] = refl
clients-map f h (c ∷ ps) = rw (h c, clients-map f h ps)

clients-snoc : (ps : List Claim) (w : Claim) → clients_of (ps ++ (w ∷ [])) ≡ clients_of ps ++ (w.client ∷ [])
clients-snoc [] w = refl
clients-snoc (c ∷ ps) w = ap (λ (ks : List ℕ). c.client ∷ ks) (clients-snoc ps w)

pub pack-clients : (v : Setting) (ps : List Claim) → clients_of (pack v ps) ≡ clients_of ps
unfolding pack
pack-clients v ps =
    clients-map (moved (packed_start v ps)) (λ c. moved-cases (λ (x : Claim). x.client ≡ c.client) (packed_start v ps) c (λ q. refl) (λ q. refl)) ps

grant-clients : (v : Setting) (ps : List Claim) → clients_of (grant v ps) ≡ clients_of ps
unfolding grant
grant-clients v ps = clients-map (granted v ps) (λ c. granted-cases (λ (x : Claim). x.client ≡ c.client) v ps c (λ q. refl) (λ q. refl)) ps

pub advance-clients : (m : Model) (t : ℕ) → clients_of (advance m t).pending ≡ clients_of m.pending
unfolding advance
advance-clients m t = pack-clients (ruled m t) m.pending

pub finish-clients : (m : Model) (r : Reply) → clients_of (finish m r).model.pending ≡ clients_of m.pending
unfolding finish
finish-clients m r = grant-clients (setting_of m) (pack (setting_of m) m.pending) ∙ pack-clients (setting_of m) m.pending

-- ── the calls ──
pub advance-booked : (m : Model) (t : ℕ) → IsBooked m → IsBooked (advance m t)
unfolding advance
advance-booked m t b = subst (Booked m.shares) (sym (advance-clients m t)) b

pub finish-booked : (m : Model) (r : Reply) → IsBooked m → IsBooked (finish m r).model
unfolding finish
finish-booked m r b = subst (Booked m.shares) (sym (finish-clients m r)) b

pub remove-booked : (m : Model) (k : ℕ) → IsBooked m → IsBooked (remove m k)
unfolding remove
remove-booked m k b = leaving-books (λ c. c.client) (λ c. not (named k c)) m.pending m.shares b

pub leaves-booked : {m : Model} {c : Call} {t k : ℕ} {q : Model} → Leaves m c t k q → IsBooked (advance m t) → IsBooked q
leaves-booked {m} (by-release t k) b = remove-booked (advance m t) k b
leaves-booked {m} (by-withdraw t k) b = remove-booked (advance m t) k b
leaves-booked (by-clock t) b = b

pub finish-shares : (m : Model) (r : Reply) → (finish m r).model.shares ≡ m.shares
unfolding finish
finish-shares m r = refl

pub leaves-shares : {m : Model} {c : Call} {t k : ℕ} {q : Model} → Leaves m c t k q → q.shares ≡ m.shares
unfolding remove advance
leaves-shares (by-release t k) = refl
leaves-shares (by-withdraw t k) = refl
leaves-shares (by-clock t) = refl

-- What the test for 6 says, of the clients.
room_of : (m : Model) (t : ℕ) (ask : Request) → Admissible m t ask
    → (let ks = clients_of m.pending in
    (full_for (share_of m.shares ask.client) (pending_of ks ask.client) (length ks) (unfilled_by_others m.shares ks ask.client)).fails ≡ false)
room_of m t ask a =
    let ks = clients_of m.pending in
    ap (λ n. (full_for (share_of m.shares ask.client) (pending_of ks ask.client) n (unfilled_by_others m.shares ks ask.client)).fails)
    (length-map m.pending (λ c. c.client)) ∙ a.room

join-clients : (m : Model) (t : ℕ) (ask : Request)
    → clients_of (join (advance m t) (placed (advance m t) ask)).pending ≡ clients_of m.pending ++ (ask.client ∷ [])
unfolding join
join-clients m t ask =
    let q : Model = advance m t in
    clients-snoc q.pending (placed q ask) ∙ ap (λ (ks : List ℕ). ks ++ (ask.client ∷ [])) (advance-clients m t)

pub admit-clients : (m : Model) (t : ℕ) (ask : Request) → clients_of (admit (advance m t) ask).model.pending ≡ clients_of m.pending ++ (ask.client ∷ [])
unfolding admit
admit-clients m t ask = finish-clients (join (advance m t) (placed (advance m t) ask)) _ ∙ join-clients m t ask

pub admit-shares : (m : Model) (t : ℕ) (ask : Request) → (admit (advance m t) ask).model.shares ≡ m.shares
unfolding admit join advance finish
admit-shares m t ask = refl

pub join-booked : (m : Model) (t : ℕ) (ask : Request) → Admissible m t ask → IsBooked m → IsBooked (join (advance m t) (placed (advance m t) ask))
unfolding join advance
join-booked m t ask a b =
    subst (Booked m.shares) (sym (join-clients m t ask))
    (claim-books m.shares (clients_of m.pending) ask.client b a.known (room_of m t ask a) a.limited)

admit-booked : (m : Model) (t : ℕ) (ask : Request) → Admissible m t ask → IsBooked m → IsBooked (admit (advance m t) ask).model
unfolding admit
admit-booked m t ask a b = finish-booked (join (advance m t) (placed (advance m t) ask)) _ (join-booked m t ask a b)

pub declare-booked : (m : Model) → Invariant m → (c r l : ℕ) → Declarable m c r l → IsBooked m → IsBooked (declared m c r l)
declare-booked m i c r l d b =
    let e = ap clients_of (unissued-none m i d.unissued) in
    subst (Booked (with_share m.shares c (share r l))) (sym e) (declare-books m.shares c r l (subst (Booked m.shares) e b) d.client d.books)

pub step-booked : (m : Model) (c : Call) → Invariant m → IsBooked m → IsBooked (step m c).model
step-booked m c i b =
    step-cases (λ d s. IsBooked s.model) m (λ d n z. b) (λ t ask a. admit-booked m t ask a b)
    (λ d t k q o v. finish-booked q (plain k t) (leaves-booked v (advance-booked m t b)))
    (λ d r l e. declare-booked m i d r l e b) (λ n e. b) c

-- A claim that is accepted finds a place.
pub room-left : (m : Model) (t : ℕ) (ask : Request) → Admissible m t ask → IsBooked m → length m.pending < most_pending
room-left m t ask a b =
    omega (arith, claim-room m.shares (clients_of m.pending) ask.client b (room_of m t ask a), length-map m.pending (λ (c : Claim). c.client))

-- "A desk below its guarantee never meets 6."
pub below-never-full : (m : Model) (t : ℕ) (ask : Request) → pending_of (clients_of m.pending) ask.client < reserved_of (share_of m.shares ask.client)
    → (step m (claim t ask)).answer.number ≢ full_number
unfolding tests
below-never-full m t ask h e =
    let s = share_of m.shares ask.client in
    let ks = clients_of m.pending in
    never full_number (tests m (claim t ask)) (
      inr (λ z. omega arith),
      (
        inr (λ z. omega arith),
        (
          inr (λ z. omega arith),
          (
            inr (λ z. omega arith),
            (
              inr (λ z. omega arith),
              (
                inr (λ z. omega arith),
                (
                  inr (λ z. omega arith),
                  (inl (below-not-full s (pending_of ks ask.client) (length m.pending) (unfilled_by_others m.shares ks ask.client) h), (inr (λ z. omega arith), (inr (λ z. omega arith), λ z. omega arith))),
                ),
              ),
            ),
          ),
        ),
      ),
    )
    (sym (step-number m (claim t ask)) ∙ e)
