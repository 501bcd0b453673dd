-- What a word says goes into 64 bits, and the reason of one that says nothing is 101 or more.
use Prim.Native.Nat.{ℕ, zero, suc, ◌^◌, ◌<◌}
use mathlib.Core.Bool.{Bool, ◌&&◌, ◌||◌}
use mathlib.Core.List.{List, [], ◌∷◌}
use native.Mathlib.Omega.{arith}
use lib.Dec.{leb, ltb}
use native.Mathlib.Nat.{two-pow-succ}
use Rattle.groups.specs.Groups.{set_from, union, has}
use Rattle.std.specs.Prelude.{Result, Ok, Err}
use Rattle.words.specs.declared.reasons.Reason.{Reason}
use Rattle.words.specs.Parts.{until, since, is_dash, items_in}
use Rattle.words.specs.Reasons.{reason_number}
use Rattle.words.specs.Sets.{one_group_in, span, and_then, range_to, range_in, item_of_word, with_items, is_list, groups_in}
use Rattle.words.proofs.Cases.{either}
use Rattle.words.proofs.Numbers.{Under, number-under}

-- With a value up to `most`, or a reason from 101 on.
abbrev pub UnderReason : ℕ → Result ℕ Reason → Type 0
UnderReason most f = Under reason_number 101 most f

under-then : (a b : ℕ) (f : Result ℕ Reason) (k : ℕ → Result ℕ Reason) → UnderReason a f → ((v : ℕ) → UnderReason b (k v)) → UnderReason b (and_then f k)
under-then a b (Ok v) k h g = g v
under-then a b (Err r) k h g = h

set_below : (k g : ℕ) (p : ℕ → Bool) → set_from k g p < 2 ^ k
unfolding set_from
set_below zero g p = omega arith
set_below (suc k) g p =
    let h = set_below k (suc g) p in
    let t = two-pow-succ k in
    either (p g) (λ e. rw e (omega arith)) (λ e. rw e (omega arith))

abbrev pub InWord : Result ℕ Reason → Type 0
InWord f = UnderReason 18446744073709551615 f

union-in : (a b : ℕ) → InWord (Ok (union a b))
unfolding union
union-in a b = omega (arith, set_below 64 0 (λ g. has a g || has b g))

span-in : (low high : ℕ) → InWord (Ok (span low high))
unfolding span
span-in low high = omega (arith, set_below 64 0 (λ g. leb low g && leb g high))

pub group-under : (w : List ℕ) → UnderReason 63 (one_group_in w)
group-under w = number-under reason_number 101 10 _ _ _ w (omega arith) (omega arith)

pub item_in : (w : List ℕ) → InWord (item_of_word w)
unfolding item_of_word
item_in w = under-then 63 _ (one_group_in (until is_dash w)) (range_in (since is_dash w)) (group-under (until is_dash w)) (range (since is_dash w))
  where
    range : (l : List ℕ) (g : ℕ) → InWord (range_in l g)
    range [] g = span-in g g
    range (b ∷ l) g = under-then 63 _ (one_group_in l) (range_to g) (group-under l) (λ high. either (ltb high g) (λ e. rw e (omega arith)) (λ e. rw e (span-in g high)))

items-in : (s : ℕ) (ws : List (List ℕ)) → InWord (Ok s) → InWord (with_items s ws)
unfolding with_items
items-in s [] h = h
items-in s (w ∷ ws) h = under-then 18446744073709551615 _ (item_of_word w) (λ g. with_items (union s g) ws) (item_in w) (λ g. items-in (union s g) ws (union-in s g))

pub groups-in : (w : List ℕ) → InWord (groups_in w)
unfolding groups_in
groups-in w = either (is_list w) (λ e. rw e (items-in 0 (items_in w) (omega arith))) (λ e. rw e (number-under reason_number 101 16 _ _ _ w (omega arith) (omega arith)))
