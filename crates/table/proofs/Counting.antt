-- What clients have pending, counted in one pass, and the sum of what they leave unfilled: laws of the loops in `shares`.
use Rattle.std.proofs.Common.{Option, None}
use mathlib.Core.Path.{◌≡◌, refl, sym, ◌∙◌, ap}
use mathlib.Core.Logic.{⊎_elim, ◌≢◌}
use mathlib.Core.Bool.{Bool, true, false, cond}
use mathlib.Core.List.{List, [], ◌∷◌, map}
use Prim.Native.Nat.{ℕ, ◌+◌, ◌-◌, ◌≤◌, ◌<◌}
use native.Mathlib.Omega.{arith}
use native.Mathlib.Numerals.{add-one}
use lib.ListN.{length, drop, get_or, set, replicate, length-set}
use lib.Seq.{get_or-set_same, get_or-set_other}
use borrow.Author.Tests.{eq-eqb, ne_eqb}
use Rattle.numbers.specs.Numbers.{most_clients}
use Rattle.rules.specs.declared.Claim.{Claim}
use Rattle.rules.specs.declared.Share.{Share}
use Rattle.rules.specs.Lists.{sum}
use Rattle.rules.specs.Shares.{clients, reserved_of, share_of, pending_of, unfilled, unfilled_in_all}
use Rattle.rules.specs.Calls.{clients_of}
use Rattle.rules.proofs.Bools.{same?}
use Rattle.rules.proofs.Shares.{by-eight, pending-few, pending-cons}
use Rattle.table.specs.Counts.{pending_each, unfilled_each}

-- ── counting ──
-- Of the claims of all, those of the rest are still to be counted.
pub record Counting (all : List ℕ) (rest : List Claim) (each : List ℕ) : Type 0 where
  pub eight : length each ≡ most_clients
  pub sums : (c : ℕ) → 1 ≤ c → c ≤ most_clients → get_or each (c - 1) 0 + pending_of (clients_of rest) c ≡ pending_of all c

pub counting-start : (ps : List Claim) → Counting (clients_of ps) ps (replicate 8 0)
counting-start ps = record {
  eight = refl;
  sums = by-eight (λ c. get_or (replicate 8 0) (c - 1) 0 + pending_of (clients_of ps) c ≡ pending_of (clients_of ps) c)
      (omega arith) (omega arith) (omega arith) (omega arith) (omega arith) (omega arith) (omega arith) (omega arith);
}

module _ {all : List ℕ} {d : Claim} {rest : List Claim} {each : List ℕ} (h : Counting all (d ∷ rest) each) (low : 1 ≤ d.client) (high : d.client ≤ most_clients) where
  -- No count passes the number of claims.
  pub counting-small : get_or each (d.client - 1) 0 < 1 + length all
  counting-small = omega (arith, h.sums d.client low high, pending-few all d.client)

  pub counting_more : Counting all rest (set each (d.client - 1) (get_or each (d.client - 1) 0 + 1))
  counting_more = record {
    eight = length-set each (d.client - 1) _ ∙ h.eight;
    sums = λ c l u.
        let s = h.sums c l u in
        let k = pending-cons (clients_of rest) d.client c in
        ⊎_elim (λ e. own c e s) (λ ne. other c l ne s) (same? d.client c);
  }
    where
      own : (c : ℕ) → d.client ≡ c → get_or each (c - 1) 0 + pending_of (clients_of (d ∷ rest)) c ≡ pending_of all c
          → get_or (set each (d.client - 1) (get_or each (d.client - 1) 0 + 1)) (c - 1) 0 + pending_of (clients_of rest) c ≡ pending_of all c
      own c e s =
          let k : pending_of (clients_of (d ∷ rest)) c ≡ cond true 1 0 + pending_of (clients_of rest) c =
          pending-cons (clients_of rest) d.client c ∙ ap (λ (b : Bool). cond b 1 0 + pending_of (clients_of rest) c) (eq-eqb d.client c e) in
          let g = get_or-set_same each (d.client - 1) (get_or each (d.client - 1) 0 + 1) 0 (omega (arith, h.eight)) in
          let i : d.client - 1 ≡ c - 1 = omega arith in
          let w : get_or (set each (d.client - 1) (get_or each (d.client - 1) 0 + 1)) (c - 1) 0 ≡ get_or each (c - 1) 0 + 1 = rw (sym i) g in
          omega (arith, s, k, w)

      other : (c : ℕ) → 1 ≤ c → d.client ≢ c → get_or each (c - 1) 0 + pending_of (clients_of (d ∷ rest)) c ≡ pending_of all c
          → get_or (set each (d.client - 1) (get_or each (d.client - 1) 0 + 1)) (c - 1) 0 + pending_of (clients_of rest) c ≡ pending_of all c
      other c l ne s =
          let k : pending_of (clients_of (d ∷ rest)) c ≡ cond false 1 0 + pending_of (clients_of rest) c =
          pending-cons (clients_of rest) d.client c ∙ ap (λ (b : Bool). cond b 1 0 + pending_of (clients_of rest) c) (ne_eqb d.client c ne) in
          let g = get_or-set_other each (d.client - 1) (c - 1) (get_or each (d.client - 1) 0 + 1) 0 (λ e. ne (omega (arith, e))) in
          omega (arith, s, k, g)

-- Eight numbers, one for each client.
eight_are : (l : List ℕ) (f : ℕ → ℕ) → length l ≡ most_clients → ((c : ℕ) → 1 ≤ c → c ≤ most_clients → get_or l (c - 1) 0 ≡ f c) → l ≡ map f clients
eight_are [] f e h = absurd (omega arith)
eight_are (a ∷ []) f e h = absurd (omega arith)
eight_are (a ∷ b ∷ []) f e h = absurd (omega arith)
eight_are (a ∷ b ∷ c ∷ []) f e h = absurd (omega arith)
eight_are (a ∷ b ∷ c ∷ d ∷ []) f e h = absurd (omega arith)
eight_are (a ∷ b ∷ c ∷ d ∷ x ∷ []) f e h = absurd (omega arith)
eight_are (a ∷ b ∷ c ∷ d ∷ x ∷ y ∷ []) f e h = absurd (omega arith)
eight_are (a ∷ b ∷ c ∷ d ∷ x ∷ y ∷ z ∷ []) f e h = absurd (omega arith)
eight_are (a ∷ b ∷ c ∷ d ∷ x ∷ y ∷ z ∷ w ∷ []) f e h =
    let h1 : a ≡ f 1 = h 1 (omega arith) (omega arith) in
    let h2 : b ≡ f 2 = h 2 (omega arith) (omega arith) in
    let h3 : c ≡ f 3 = h 3 (omega arith) (omega arith) in
    let h4 : d ≡ f 4 = h 4 (omega arith) (omega arith) in
    let h5 : x ≡ f 5 = h 5 (omega arith) (omega arith) in
    let h6 : y ≡ f 6 = h 6 (omega arith) (omega arith) in
    let h7 : z ≡ f 7 = h 7 (omega arith) (omega arith) in
    let h8 : w ≡ f 8 = h 8 (omega arith) (omega arith) in
    rw (h1, h2, h3, h4, h5, h6, h7, h8)
eight_are (a ∷ b ∷ c ∷ d ∷ x ∷ y ∷ z ∷ w ∷ v ∷ l) f e h = absurd (omega arith)

pub counting-end : {all : List ℕ} {each : List ℕ} → Counting all [] each → each ≡ pending_each all
unfolding pending_each
counting-end {all} {each} h = eight_are each (pending_of all) h.eight (λ c l u. omega (arith, h.sums c l u, pending-few [] c))

-- What was counted for a client.
pub each_at : (ks : List ℕ) (c : ℕ) → 1 ≤ c → c ≤ most_clients → get_or (pending_each ks) (c - 1) 0 ≡ pending_of ks c
unfolding pending_each
each_at ks = by-eight (λ c. get_or (pending_each ks) (c - 1) 0 ≡ pending_of ks c) refl refl refl refl refl refl refl refl

-- ── sums over the clients ──
pub each-unfilled : (ss : List (Option Share)) (ks : List ℕ) → unfilled_each ss (pending_each ks) ≡ unfilled_in_all ss ks
unfolding unfilled_each pending_each unfilled_in_all unfilled sum
each-unfilled ss ks = refl

-- The sum from place i on.
abbrev pub sum_from : (ℕ → ℕ) → ℕ → ℕ
sum_from f i = sum f (drop i clients)

pub share-at : (ss : List (Option Share)) (i : ℕ) → share_of ss (i + 1) ≡ get_or ss i None
unfolding share_of
share-at ss i = rw (add-one i)

pub sum_step : (f : ℕ → ℕ) (i : ℕ) → i < most_clients → sum_from f i ≡ f (i + 1) + sum_from f (i + 1)
unfolding sum
sum_step f i h =
    let e : i + 1 - 1 ≡ i = omega arith in
    rw e at (by-eight (λ k. sum_from f (k - 1) ≡ f k + sum_from f k) refl refl refl refl refl refl refl refl (i + 1) (omega arith) (omega arith))

pub sum-end : (f : ℕ → ℕ) (i : ℕ) → most_clients ≤ i → i ≤ most_clients → sum_from f i ≡ 0
unfolding sum
sum-end f i l h = let e : i ≡ most_clients = omega arith in rw e

-- Of what is left unfilled, the sum from place i on is a place's and that of the rest.
abbrev pub unfilled_at : List (Option Share) → List ℕ → ℕ → ℕ
unfilled_at ss ns n = reserved_of (share_of ss n) - get_or ns (n - 1) 0

pub unfilled-step : (ss : List (Option Share)) (ns : List ℕ) (i : ℕ) → i < most_clients
    → sum_from (unfilled_at ss ns) i ≡ (reserved_of (get_or ss i None) - get_or ns i 0) + sum_from (unfilled_at ss ns) (i + 1)
unfilled-step ss ns i h =
    let e : i + 1 - 1 ≡ i = omega arith in
    rw (e, share-at ss i) at (sum_step (unfilled_at ss ns) i h)

-- And of what is reserved.
abbrev pub reserved_at : List (Option Share) → ℕ → ℕ
reserved_at ss n = reserved_of (share_of ss n)

pub reserved-step : (ss : List (Option Share)) (i : ℕ) → i < most_clients → sum_from (reserved_at ss) i ≡ reserved_of (get_or ss i None) + sum_from (reserved_at ss) (i + 1)
reserved-step ss i h = sum_step (reserved_at ss) i h ∙ ap (λ (s : Option Share). reserved_of s + sum_from (reserved_at ss) (i + 1)) (share-at ss i)
