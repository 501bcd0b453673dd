-- Laws of shares: what Booked promises holds of a new table and after every call, and what it gives to a client.
-- A sum over the clients is split at one of them (`at-client`) or compared one by one.
use mathlib.Core.Path.{◌≡◌, refl, sym, ◌∙◌, ap, subst}
use mathlib.Core.Logic.{⊎_elim, ◌≢◌}
use mathlib.Core.Bool.{Bool, true, false, not, cond}
use mathlib.Core.List.{List, [], ◌∷◌, ◌++◌, map}
use Prim.Native.Nat.{ℕ, zero, suc, ◌+◌, ◌-◌, ◌≤◌, ◌<◌}
use native.Mathlib.Omega.{arith}
use Rattle.std.proofs.Common.{Option, Some, None, is_some}
use lib.Dec.{eqb, leb, ltb}
use lib.ListN.{length, get_or, replicate, length-append, length-set, get_or-eq_default}
use lib.Seq.{get_or-set_same, get_or-set_other}
use borrow.Author.Tests.{ltb-false, leb-true, leb-false, le-leb, le-ltb, lt-leb, eqb-false, eq-eqb, ne_eqb, not-true}
use Rattle.numbers.specs.Numbers.{most_pending}
use Rattle.rules.specs.declared.Share.{Share}
use Rattle.rules.specs.Lists.{◌∈◌, sum, keep}
use Rattle.rules.specs.Shares.{clients, share, reserved_of, limit_of, first_shares, share_of, with_share, pending_of, unfilled, unfilled_by_others, reserved_in_all, unfilled_in_all}
use Rattle.rules.specs.Tests.{no_client, full, full_for, over, overbooked}
use Rattle.rules.specs.Invariants.{Booked}
use Rattle.rules.proofs.Bools.{by-test, by_order, clash, and_i, or-fl, or-fr, same?}
use Rattle.rules.proofs.Lists.{here, there, none, sum-le, sum-zero, sum-cong, sum_both, keep-e, keep-length, keep_snoc, snoc-each, map-e, map-i}

-- ── clients 1 to 8 ──
-- To show something of the numbers 1 to 8, show it of each.
pub by-eight : (P : ℕ → Type 0) → P 1 → P 2 → P 3 → P 4 → P 5 → P 6 → P 7 → P 8 → (c : ℕ) → 1 ≤ c → c ≤ 8 → P c
by-eight P p1 p2 p3 p4 p5 p6 p7 p8 zero l h = absurd (omega arith)
by-eight P p1 p2 p3 p4 p5 p6 p7 p8 (suc zero) l h = p1
by-eight P p1 p2 p3 p4 p5 p6 p7 p8 (suc (suc zero)) l h = p2
by-eight P p1 p2 p3 p4 p5 p6 p7 p8 (suc (suc (suc zero))) l h = p3
by-eight P p1 p2 p3 p4 p5 p6 p7 p8 (suc (suc (suc (suc zero)))) l h = p4
by-eight P p1 p2 p3 p4 p5 p6 p7 p8 (suc (suc (suc (suc (suc zero))))) l h = p5
by-eight P p1 p2 p3 p4 p5 p6 p7 p8 (suc (suc (suc (suc (suc (suc zero)))))) l h = p6
by-eight P p1 p2 p3 p4 p5 p6 p7 p8 (suc (suc (suc (suc (suc (suc (suc zero))))))) l h = p7
by-eight P p1 p2 p3 p4 p5 p6 p7 p8 (suc (suc (suc (suc (suc (suc (suc (suc zero)))))))) l h = p8
by-eight P p1 p2 p3 p4 p5 p6 p7 p8 (suc (suc (suc (suc (suc (suc (suc (suc (suc n))))))))) l h = absurd (omega arith)

-- A number outside 1 to 8 has no share.
no-share : (ss : List (Option Share)) → length ss ≡ 8 → (c : ℕ) → (1 ≤ c → c ≤ 8 → ⊥) → share_of ss c ≡ None
unfolding share_of
no-share ss e zero h = refl
no-share ss e (suc n) h =
    by_order (length ss) n (get_or-eq_default ss None) (λ l. absurd (h (omega arith) (omega arith)))

-- To show something, show it where c has no share and where c is from 1 to 8.
in-range : (A : Type 0) (ss : List (Option Share)) → length ss ≡ 8 → (c : ℕ) → (share_of ss c ≡ None → A) → (1 ≤ c → c ≤ 8 → A) → A
in-range A ss e c h k =
    by_order 1 c
    (λ l. by_order c 8 (k l) (λ g. h (no-share ss e c (λ a b. omega arith))))
    (λ l. h (no-share ss e c (λ a b. omega arith)))

-- To show something of a declared client, show it of 1 to 8.
pub by-client : (P : ℕ → Type 0) → P 1 → P 2 → P 3 → P 4 → P 5 → P 6 → P 7 → P 8 → (ss : List (Option Share)) → length ss ≡ 8 → (c : ℕ) → is_some (share_of ss c) ≡ true → P c
by-client P p1 p2 p3 p4 p5 p6 p7 p8 ss e c d =
    in-range (P c) ss e c (λ q. clash d (ap is_some q)) (by-eight P p1 p2 p3 p4 p5 p6 p7 p8 c)

pub declared-range : (ss : List (Option Share)) → length ss ≡ 8 → (c : ℕ) → is_some (share_of ss c) ≡ true → (1 ≤ c) × (c ≤ 8)
declared-range ss e c d = in-range ((1 ≤ c) × (c ≤ 8)) ss e c (λ q. clash d (ap is_some q)) (λ l h. (l, h))

-- A sum over the clients, split at one.
at-client : (f : ℕ → ℕ) (c : ℕ) → 1 ≤ c → c ≤ 8 → sum f clients ≡ f c + sum f (keep (λ n. not (eqb n c)) clients)
unfolding sum keep
at-client f =
    by-eight (λ c. sum f clients ≡ f c + sum f (keep (λ n. not (eqb n c)) clients))
    (omega arith) (omega arith) (omega arith) (omega arith) (omega arith) (omega arith) (omega arith) (omega arith)

-- The sum over the others does not look at c.
other-than : (c n : ℕ) → n ∈ keep (λ n. not (eqb n c)) clients → n ≢ c
other-than c n m = eqb-false n c (not-true (eqb n c) (keep-e (λ (n : ℕ). not (eqb n c)) clients m).1)

others_same : (f g : ℕ → ℕ) (c : ℕ) → ((n : ℕ) → n ≢ c → f n ≡ g n) → sum f (keep (λ n. not (eqb n c)) clients) ≡ sum g (keep (λ n. not (eqb n c)) clients)
others_same f g c h = sum-cong f g (keep (λ n. not (eqb n c)) clients) (λ n m. h n (other-than c n m))

-- ── the first shares ──
all-none : (n i : ℕ) → get_or {A = Option Share} (replicate n None) i None ≡ None
all-none zero i = refl
all-none (suc n) zero = refl
all-none (suc n) (suc i) = all-none n i

first-other : (alone : Bool) (c : ℕ) → c ≢ 1 → share_of (first_shares alone) c ≡ None
unfolding share_of
first-other alone zero h = refl
first-other alone (suc zero) h = absurd (h refl)
first-other alone (suc (suc n)) h = all-none 7 n

-- What holds of the share of client 1, and where there is none, holds of every client's.
first-each : (alone : Bool) (P : Option Share → Type 0) → P (share_of (first_shares alone) 1) → P None → (c : ℕ) → P (share_of (first_shares alone) c)
first-each alone P h k c =
    ⊎_elim (λ e. subst (λ (n : ℕ). P (share_of (first_shares alone) n)) (sym e) h) (λ e. subst P (sym (first-other alone c e)) k) (same? c 1)

-- In a table with client 1 alone every other client is a stranger.
pub alone-stranger : (c : ℕ) → c ≢ 1 → is_some (share_of (first_shares true) c) ≡ false
alone-stranger c h = ap is_some (first-other true c h)

-- ── what clients have pending ──
-- No client has more pending than there are claims.
pub pending-few : (ks : List ℕ) (c : ℕ) → pending_of ks c ≤ length ks
unfolding pending_of
pending-few ks c = keep-length (λ k. eqb k c) ks

-- A claim more, in front or at the end, counts for its client alone.
pub pending-cons : (ks : List ℕ) (k c : ℕ) → pending_of (k ∷ ks) c ≡ cond (eqb k c) 1 0 + pending_of ks c
unfolding pending_of keep
pending-cons ks k c = by-test (eqb k c) (λ e. rw e (omega arith)) (λ e. rw e (omega arith))

pending-more : (ks : List ℕ) (c : ℕ) → pending_of (ks ++ (c ∷ [])) c ≡ pending_of ks c + 1
pending-more [] c = pending-cons [] c c ∙ rw (eq-eqb c c refl) (omega arith)
pending-more (k ∷ ks) c = omega (arith, pending-cons (ks ++ (c ∷ [])) k c, pending-cons ks k c, pending-more ks c)

pending_same : (ks : List ℕ) (c n : ℕ) → n ≢ c → pending_of (ks ++ (c ∷ [])) n ≡ pending_of ks n
unfolding pending_of
pending_same ks c n h = ap length (keep_snoc (λ k. eqb k n) ks c (ne_eqb c n (λ e. h (sym e))))

-- Taking claims away adds to no count.
pending-left : {A : Type 0} (f : A → ℕ) (p : A → Bool) (l : List A) (c : ℕ) → pending_of (map f (keep p l)) c ≤ pending_of (map f l) c
unfolding keep
pending-left f p [] c = omega arith
pending-left f p (x ∷ l) c =
    let ih = pending-left f p l c in
    let k = pending-cons (map f l) (f x) c in
    by-test (p x) (λ e. rw e (omega (arith, pending-cons (map f (keep p l)) (f x) c))) (λ e. rw e (omega arith))

-- Where all claims are one client's.
pending-one : (ks : List ℕ) (c : ℕ) → ((k : ℕ) → k ∈ ks → k ≡ c) → pending_of ks c ≡ length ks
unfolding pending_of keep
pending-one [] c h = refl
pending-one (k ∷ ks) c h = let ih = pending-one ks c (λ n m. h n (there m)) in rw (eq-eqb k c (h k here)) (ap suc ih)

-- All that is pending is some client's.
pending-all : (ss : List (Option Share)) → length ss ≡ 8 → (ks : List ℕ) → ((k : ℕ) → k ∈ ks → is_some (share_of ss k) ≡ true) → sum (pending_of ks) clients ≡ length ks
unfolding sum
pending-all ss e [] h = sum-zero (pending_of []) clients (λ c m. omega (arith, pending-few [] c))
pending-all ss e (k ∷ ks) h =
    let one = by-client (λ c. sum (λ n. cond (eqb c n) 1 0) clients ≡ 1) refl refl refl refl refl refl refl refl ss e k (h k here) in
    let both = sum_both (λ n. cond (eqb k n) 1 0) (pending_of ks) clients in
    let cons = sum-cong (pending_of (k ∷ ks)) (λ n. cond (eqb k n) 1 0 + pending_of ks n) clients (λ n m. pending-cons ks k n) in
    omega (arith, one, both, cons, pending-all ss e ks (λ n m. h n (there m)))

-- ── guarantees ──
-- The unfilled guarantees of a client and of the others.
unfilled-split : (ss : List (Option Share)) (ks : List ℕ) (c : ℕ) → 1 ≤ c → c ≤ 8 → unfilled_in_all ss ks ≡ unfilled ss ks c + unfilled_by_others ss ks c
unfolding unfilled_in_all unfilled_by_others
unfilled-split ss ks c = at-client (unfilled ss ks) c

-- No client's is above all.
unfilled-le : (ss : List (Option Share)) (ks : List ℕ) (c : ℕ) → length ss ≡ 8 → unfilled ss ks c ≤ unfilled_in_all ss ks
unfolding unfilled
unfilled-le ss ks c e =
    in-range _ ss e c (λ q. let z = ap reserved_of q in omega arith) (λ l h. omega (arith, unfilled-split ss ks c l h))

-- A claim of c fills no guarantee of the others.
others-after : (ss : List (Option Share)) (ks : List ℕ) (c : ℕ) → unfilled_by_others ss (ks ++ (c ∷ [])) c ≡ unfilled_by_others ss ks c
unfolding unfilled_by_others unfilled
others-after ss ks c =
    others_same (unfilled ss (ks ++ (c ∷ []))) (unfilled ss ks) c (λ n h. ap (λ (k : ℕ). reserved_of (share_of ss n) - k) (pending_same ks c n h))

-- Claims with the guarantees that they leave unfilled.
booked-sum : (ss : List (Option Share)) (ks : List ℕ) → length ss ≡ 8 → ((k : ℕ) → k ∈ ks → is_some (share_of ss k) ≡ true)
    → length ks + unfilled_in_all ss ks ≡ sum (λ c. pending_of ks c + unfilled ss ks c) clients
unfolding unfilled_in_all
booked-sum ss ks e h = omega (arith, pending-all ss e ks h, sum_both (pending_of ks) (unfilled ss ks) clients)

-- ── Booked ──
-- A new table.
pub first-booked : (alone : Bool) → Booked (first_shares alone) []
unfolding share_of pending_of unfilled unfilled_in_all sum keep
first-booked true = record {
  eight = refl;
  modest = first-each true (λ s. limit_of s ≤ most_pending) (omega arith) (omega arith);
  ordered = first-each true (λ s. reserved_of s ≤ limit_of s) (omega arith) (omega arith);
  known = λ k m. none m;
  within = λ c. omega arith;
  room = omega arith;
}
first-booked false = record {
  eight = refl;
  modest = first-each false (λ s. limit_of s ≤ most_pending) (omega arith) (omega arith);
  ordered = first-each false (λ s. reserved_of s ≤ limit_of s) (omega arith) (omega arith);
  known = λ k m. none m;
  within = λ c. omega arith;
  room = omega arith;
}

-- An accepted claim.
pub claim-books : (ss : List (Option Share)) (ks : List ℕ) (c : ℕ) → Booked ss ks → is_some (share_of ss c) ≡ true
    → (full_for (share_of ss c) (pending_of ks c) (length ks) (unfilled_by_others ss ks c)).fails ≡ false
    → (over (share_of ss c) (pending_of ks c)).fails ≡ false → Booked ss (ks ++ (c ∷ []))
unfolding unfilled
claim-books ss ks c b d f o =
    let more = pending-more ks c in
    let size : length (ks ++ (c ∷ [])) ≡ length ks + 1 = length-append ks (c ∷ []) in
    let less = leb-false (limit_of (share_of ss c)) (pending_of ks c) o in
    let others = others-after ss ks c in
    record {
      eight = b.eight;
      modest = b.modest;
      ordered = b.ordered;
      known = snoc-each (λ (k : ℕ). is_some (share_of ss k) ≡ true) ks c b.known d;
      within = λ n. ⊎_elim
          (λ e. subst (λ (k : ℕ). pending_of (ks ++ (c ∷ [])) k ≤ limit_of (share_of ss k)) (sym e) (omega arith))
          (λ e. omega (arith, pending_same ks c n e, b.within n)) (same? n c);
      room = in-range _ ss b.eight c
          (λ q. clash d (ap is_some q))
          (λ l h.
          let old = unfilled-split ss ks c l h in
          let new = unfilled-split ss (ks ++ (c ∷ [])) c l h in
          by-test (leb (reserved_of (share_of ss c)) (pending_of ks c))
          (λ e.
          let full = leb-false most_pending (length ks + unfilled_by_others ss ks c) (rw e at f) in
          let filled = leb-true (reserved_of (share_of ss c)) (pending_of ks c) e in
          omega (arith, size, more, others, new, full, filled))
          (λ e.
          let below = leb-false (reserved_of (share_of ss c)) (pending_of ks c) e in
          omega (arith, size, more, others, new, old, below, b.room)));
    }

-- Claims taken away.
pub leaving-books : {A : Type 0} (f : A → ℕ) (p : A → Bool) (l : List A) (ss : List (Option Share)) → Booked ss (map f l) → Booked ss (map f (keep p l))
unfolding unfilled
leaving-books f p l ss b =
    let old : (k : ℕ) → k ∈ map f (keep p l) → k ∈ map f l = λ k m.
    let r = map-e f (keep p l) m in
    subst (λ (n : ℕ). n ∈ map f l) (sym r.2) (map-i f (keep-e p l r.1).0) in
    let known : (k : ℕ) → k ∈ map f (keep p l) → is_some (share_of ss k) ≡ true = λ k m. b.known k (old k m) in
    record {
      eight = b.eight;
      modest = b.modest;
      ordered = b.ordered;
      known = known;
      within = λ c. omega (arith, b.within c, pending-left f p l c);
      room = omega (
        arith,
        b.room,
        booked-sum ss (map f l) b.eight b.known,
        booked-sum ss (map f (keep p l)) b.eight known,
        sum-le (λ c. pending_of (map f (keep p l)) c + unfilled ss (map f (keep p l)) c) (λ c. pending_of (map f l) c + unfilled ss (map f l) c) clients
            (λ c m. omega (arith, pending-left f p l c)),
      );
    }

-- ── declarations ──
-- From 1 to 8.
pub client-range : (c : ℕ) → (no_client c).fails ≡ false → (1 ≤ c) × (c ≤ 8)
client-range c e =
    let z = eqb-false c 0 (or-fl (eqb c 0) _ e) in
    (by_order 1 c (λ l. l) (λ l. absurd (z (omega arith))), ltb-false 8 c (or-fr (eqb c 0) _ e))

-- A number that is no client's has no share; that of a client is at its place.
pub no-client-share : (ss : List (Option Share)) → length ss ≡ 8 → (c : ℕ) → (no_client c).fails ≡ true → share_of ss c ≡ None
no-client-share ss e c n =
    in-range (share_of ss c ≡ None) ss e c (λ q. q)
    (λ l h. clash n (rw (ne_eqb c 0 (λ z. omega arith), le-ltb 8 c h)))

pub share-place : (ss : List (Option Share)) (c : ℕ) → 1 ≤ c → share_of ss c ≡ get_or ss (c - 1) None
unfolding share_of
share-place ss zero l = absurd (omega arith)
share-place ss (suc n) l = let q : suc n - 1 ≡ n = omega arith in rw q

-- The share of a client after a declaration: its own, and the others' as before.
pub share-set : (ss : List (Option Share)) → length ss ≡ 8 → (c : ℕ) (s : Share) → (no_client c).fails ≡ false → share_of (with_share ss c s) c ≡ Some s
unfolding share_of with_share
share-set ss e zero s h = absurd (omega (arith, (client-range zero h).0))
share-set ss e (suc n) s h =
    let q : suc n - 1 ≡ n = omega arith in
    rw q (get_or-set_same ss n (Some s) None (omega (arith, (client-range (suc n) h).1)))

pub share_other : (ss : List (Option Share)) (c d : ℕ) (s : Share) → 1 ≤ c → c ≢ d → share_of (with_share ss c s) d ≡ share_of ss d
unfolding share_of with_share
share_other ss c zero s l h = refl
share_other ss zero (suc m) s l h = absurd (omega arith)
share_other ss (suc n) (suc m) s l h =
    let q : suc n - 1 ≡ n = omega arith in
    rw q (get_or-set_other ss n m (Some s) None (λ e. h (ap suc (sym e))))

-- What holds of the declared share and of all that were there holds of all that are there now.
share-each : (P : Option Share → Type 0) (ss : List (Option Share)) → length ss ≡ 8 → (c : ℕ) (s : Share) → (no_client c).fails ≡ false → P (Some s) → ((d : ℕ) → P (share_of ss d))
    → (d : ℕ) → P (share_of (with_share ss c s) d)
share-each P ss e c s n h k d =
    ⊎_elim
    (λ q. subst (λ (x : ℕ). P (share_of (with_share ss c s) x)) q (subst P (sym (share-set ss e c s n)) h))
    (λ q. subst P (sym (share_other ss c d s (client-range c n).0 q)) (k d))
    (same? c d)

-- Before any claim all guarantees are unfilled.
pub unfilled-first : (ss : List (Option Share)) → unfilled_in_all ss [] ≡ reserved_in_all ss
unfolding unfilled_in_all reserved_in_all unfilled
unfilled-first ss = sum-cong (unfilled ss []) (λ c. reserved_of (share_of ss c)) clients (λ c m. omega (arith, pending-few [] c))

-- A declaration adds its guarantee to the others'.
reserved-after : (ss : List (Option Share)) → length ss ≡ 8 → (c r l : ℕ) → (no_client c).fails ≡ false → reserved_in_all (with_share ss c (share r l)) ≤ reserved_in_all ss + r
unfolding reserved_in_all
reserved-after ss e c r l n =
    let i = client-range c n in
    let others = others_same (λ d. reserved_of (share_of (with_share ss c (share r l)) d)) (λ d. reserved_of (share_of ss d)) c
    (λ d q. ap reserved_of (share_other ss c d (share r l) i.0 (λ z. q (sym z)))) in
    let own : reserved_of (share_of (with_share ss c (share r l)) c) ≡ r = ap reserved_of (share-set ss e c (share r l) n) in
    let new = at-client (λ d. reserved_of (share_of (with_share ss c (share r l)) d)) c i.0 i.1 in
    let old = at-client (λ d. reserved_of (share_of ss d)) c i.0 i.1 in
    omega (arith, others, own, new, old)

-- A declaration before any claim.
pub declare-books : (ss : List (Option Share)) (c r l : ℕ) → Booked ss [] → (no_client c).fails ≡ false
    → (overbooked (share_of ss c) (reserved_in_all ss) r l).fails ≡ false → Booked (with_share ss c (share r l)) []
unfolding with_share
declare-books ss c r l b n o =
    let o₁ = or-fr (ltb most_pending (reserved_in_all ss + r)) _ o in
    let o₂ = or-fr (ltb l r) _ o₁ in
    let few = ltb-false most_pending (reserved_in_all ss + r) (or-fl (ltb most_pending (reserved_in_all ss + r)) _ o) in
    let apart = ltb-false l r (or-fl (ltb l r) _ o₁) in
    let low = ltb-false most_pending l (or-fl (ltb most_pending l) _ o₂) in
    record {
      eight = length-set ss (c - 1) (Some (share r l)) ∙ b.eight;
      modest = share-each (λ s. limit_of s ≤ most_pending) ss b.eight c (share r l) n low b.modest;
      ordered = share-each (λ s. reserved_of s ≤ limit_of s) ss b.eight c (share r l) n apart b.ordered;
      known = λ k m. none m;
      within = λ d. omega (arith, pending-few [] d);
      room = omega (arith, few, unfilled-first (with_share ss c (share r l)), reserved-after ss b.eight c r l n);
    }

-- ── what Booked gives to a client ──
-- "A desk below its guarantee never meets 6": there is a place for it, and for any claim that is not refused with 6.
pub reserved-room : (ss : List (Option Share)) (ks : List ℕ) (c : ℕ) → Booked ss ks → pending_of ks c < reserved_of (share_of ss c) → length ks < most_pending
unfolding unfilled
reserved-room ss ks c b h = omega (arith, b.room, unfilled-le ss ks c b.eight)

pub claim-room : (ss : List (Option Share)) (ks : List ℕ) (c : ℕ) → Booked ss ks
    → (full_for (share_of ss c) (pending_of ks c) (length ks) (unfilled_by_others ss ks c)).fails ≡ false → length ks < most_pending
claim-room ss ks c b f =
    by-test (leb (reserved_of (share_of ss c)) (pending_of ks c))
    (λ e. omega (arith, leb-false most_pending (length ks + unfilled_by_others ss ks c) (rw e at f)))
    (λ e. reserved-room ss ks c b (leb-false (reserved_of (share_of ss c)) (pending_of ks c) e))

-- A full table is full for everybody.
pub full-for-all : (ss : List (Option Share)) (ks : List ℕ) (c : ℕ) → Booked ss ks → most_pending ≤ length ks
    → (full_for (share_of ss c) (pending_of ks c) (length ks) (unfilled_by_others ss ks c)).fails ≡ true
full-for-all ss ks c b h =
    and_i (leb (reserved_of (share_of ss c)) (pending_of ks c)) _
    (le-leb (reserved_of (share_of ss c)) (pending_of ks c) (by_order (reserved_of (share_of ss c)) (pending_of ks c) (λ l. l) (λ l. absurd (omega (arith, reserved-room ss ks c b l)))))
    (le-leb most_pending (length ks + unfilled_by_others ss ks c) (omega arith))

-- Of a client that has filled its guarantee the others leave unfilled what all do.
pub full-by-all : (ss : List (Option Share)) (ks : List ℕ) (c n : ℕ) → 1 ≤ c → c ≤ 8
    → (full_for (share_of ss c) (pending_of ks c) n (unfilled_in_all ss ks)).fails ≡ (full_for (share_of ss c) (pending_of ks c) n (unfilled_by_others ss ks c)).fails
unfolding unfilled
full-by-all ss ks c n l h =
    by-test (leb (reserved_of (share_of ss c)) (pending_of ks c))
    (λ e.
    let same : unfilled_in_all ss ks ≡ unfilled_by_others ss ks c = omega (arith, unfilled-split ss ks c l h, leb-true (reserved_of (share_of ss c)) (pending_of ks c) e) in
    rw same)
    (λ e. rw e)

-- Where a client has fewer claims pending than are reserved for it, it meets neither 6 nor 18.
pub below-not-full : (s : Option Share) (own pending unfilled : ℕ) → own < reserved_of s → (full_for s own pending unfilled).fails ≡ false
below-not-full s own pending unfilled h = rw (lt-leb (reserved_of s) own h)

pub below-not-over : (ss : List (Option Share)) (ks : List ℕ) (c : ℕ) → Booked ss ks → pending_of ks c < reserved_of (share_of ss c) → (over (share_of ss c) (pending_of ks c)).fails ≡ false
below-not-over ss ks c b h = lt-leb (limit_of (share_of ss c)) (pending_of ks c) (omega (arith, b.ordered c))

-- ── client 1 alone: 6 as in document 01, and 18 never ──
alone-unfilled : (ks : List ℕ) → unfilled_by_others (first_shares true) ks 1 ≡ 0
unfolding unfilled_by_others unfilled
alone-unfilled ks =
    sum-zero (unfilled (first_shares true) ks) (keep (λ n. not (eqb n 1)) clients)
    (λ n m. omega (arith, ap reserved_of (first-other true n (other-than 1 n m))))

pub alone-full : (ks : List ℕ) → ((k : ℕ) → k ∈ ks → k ≡ 1)
    → (full_for (share_of (first_shares true) 1) (pending_of ks 1) (length ks) (unfilled_by_others (first_shares true) ks 1)).fails ≡ (full (length ks)).fails
unfolding share_of
alone-full ks h =
    let z : length ks + unfilled_by_others (first_shares true) ks 1 ≡ length ks = omega (arith, alone-unfilled ks) in
    rw (pending-one ks 1 h, z) (by-test (leb 64 (length ks)) (λ e. rw e) (λ e. rw e))

pub alone-over : (ks : List ℕ) → ((k : ℕ) → k ∈ ks → k ≡ 1) → (full (length ks)).fails ≡ false
    → (over (share_of (first_shares true) 1) (pending_of ks 1)).fails ≡ false
unfolding share_of
alone-over ks h e = rw (pending-one ks 1 h) e
