-- Blocking chains: why a claim waits. "For a waiting ticket give the chain of tickets that explains its start, itself first. Each link goes to the
-- lowest ticket whose end equals this claim's start and which shares a group, or the pool, with it. The chain is followed link by link until it
-- reaches a claim that is on" (document 02, P7; the other quotations too). Ends are those of P6. proofs/Chains has the theorem (`chains`).
use Rattle.std.specs.Prelude.{◌≡◌, Bool, true, false, ◌&&◌, cond, List, [], ◌∷◌, map, ℕ, zero, suc, ◌≤◌, eqb, length}
use Rattle.numbers.specs.Numbers.{unknown_number, already_on_number}
use Rattle.rules.specs.declared.Claim.{Claim}
use Rattle.rules.specs.declared.Setting.{Setting}
use Rattle.rules.specs.Lists.{◌∈◌, sum, keep, first_with, Distinct}
use Rattle.rules.specs.Claims.{on, at, end_of}
use Rattle.rules.specs.Order.{meets}
use Rattle.rules.specs.Tests.{named}

-- ── links ──
-- Whom a waiting claim counts as in the search for its link: itself.
unfoldable pub counts_as : List Claim → Claim → Claim
counts_as ps w = w

-- Of a waiting claim w: c is one "whose end equals this claim's start and which shares a group, or the pool, with it".
unfoldable pub links : Setting → List Claim → Claim → Claim → Bool
links v ps c w = eqb (end_of v c) (at w) && meets c (counts_as ps w)

-- The link of w: "the lowest ticket" of those. The pending claims stand in ascending order of ticket, so it is the first. (There is one for every
-- waiting claim: proofs/Chains, `link-true`. Where there is none, w.)
unfoldable pub link : Setting → List Claim → Claim → Claim
link v ps w = first_with (λ c. links v ps c w) w ps

-- ── chains ──
-- The claim, then the chain of its link, until a claim that is on. The start falls from link to link: the first number bounds how many there
-- can be, and one more than w's start is enough (`chain-waits`).
unfoldable pub chain_within : ℕ → Setting → List Claim → Claim → List Claim
chain_within zero v ps w = []
chain_within (suc k) v ps w = w ∷ elim (on w) [ true ↦ [] | false ↦ chain_within k v ps (link v ps w) ]

unfoldable pub chain : Setting → List Claim → Claim → List Claim
chain v ps w = chain_within (suc (at w)) v ps w

-- ── what lookup tells ──
-- "Tickets that aren't pending answer 8, those on 10." In numbers: the refusal's, 0 for none; the tickets of the chain.
pub record ChainValues : Type 0 where
  pub number : ℕ
  pub tickets : List ℕ

abbrev pub chain_refused : ℕ → ChainValues
chain_refused n = record { number = n; tickets = [] }

abbrev pub chain_tickets : List Claim → ChainValues
chain_tickets l = record { number = 0; tickets = map (λ c. c.ticket) l }

-- Of the claims of a ticket, one or none.
abbrev pub chain_from : Setting → List Claim → List Claim → ChainValues
chain_from v ps [] = chain_refused unknown_number
chain_from v ps (c ∷ cs) = cond (on c) (chain_refused already_on_number) (chain_tickets (chain v ps c))

unfoldable pub chain_of : Setting → ℕ → List Claim → ChainValues
chain_of v k ps = chain_from v ps (keep (named k) ps)

-- ── what is said of chains ──
-- c is the link of w: pending, it has a group or the pool in common with w and ends as w starts, and no lower ticket does so.
pub record TrueLink (v : Setting) (ps : List Claim) (c w : Claim) : Type 0 where
  pub pending : c ∈ ps
  pub ends : end_of v c ≡ at w
  pub common : meets c (counts_as ps w) ≡ true
  pub lowest : (d : Claim) → d ∈ ps → end_of v d ≡ at w → meets d (counts_as ps w) ≡ true → c.ticket ≤ d.ticket

-- "Each link is true", from each waiting claim to the next; the last claim is on, and no other is.
abbrev pub TrueChain : Setting → List Claim → List Claim → Type 0
TrueChain v ps [] = ⊥
TrueChain v ps (c ∷ []) = on c ≡ true
TrueChain v ps (w ∷ (c ∷ l)) = (on w ≡ false) × TrueLink v ps c w × TrueChain v ps (c ∷ l)

-- What a claim adds to the start that it explains: its end where it is on, its length where it waits.
abbrev pub adds : Setting → Claim → ℕ
adds v c = cond (on c) (end_of v c) c.length

-- The chain of a waiting claim w is w and then l. "The end of the on claim plus the lengths of the waiting claims between make the start": w is
-- not counted. No ticket stands twice, so a chain is no longer than the list of pending claims, all of them claims of that list.
pub record Explains (v : Setting) (ps : List Claim) (w : Claim) (l : List Claim) : Type 0 where
  pub linked : TrueChain v ps (w ∷ l)
  pub makes : sum (adds v) l ≡ at w
  pub once : Distinct (λ (c : Claim). c.ticket) (w ∷ l)
  pub pending : (c : Claim) → c ∈ (w ∷ l) → c ∈ ps
  pub few : length (w ∷ l) ≤ length ps

-- "Every waiting claim has a chain", itself first.
abbrev pub Chained : Setting → List Claim → Type 0
Chained v ps = (w : Claim) → w ∈ ps → on w ≡ false → (l : List Claim) × (chain v ps w ≡ w ∷ l) × Explains v ps w l
