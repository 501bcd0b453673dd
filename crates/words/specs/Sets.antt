-- Sets of groups as words: hex, or a list of groups and ranges.
use Rattle.std.specs.Prelude.{ℕ, Bool, not, ◌&&◌, cond, List, [], ◌∷◌, leb, ltb, Result, Ok, Err}
use Rattle.numbers.specs.Numbers.{or_else}
use Rattle.groups.specs.Groups.{set_where, union}
use Rattle.words.specs.declared.reasons.Reason.{Reason}
use Rattle.words.specs.declared.reasons.Reason.TheVariants.{NoGroups, TooLarge, Over63, Backward}
use Rattle.words.specs.Answers.{WordValues, value_unless}
use Rattle.words.specs.Parts.{until, since, none, is_dash, is_joint, items_in}
use Rattle.words.specs.Reasons.{no_groups_reason, too_large_reason, over63_reason, backward_reason}
use Rattle.words.specs.Words.{number_in, number_values}

-- One group, in decimal.
abbrev pub one_group_in : List ℕ → Result ℕ Reason
one_group_in w = number_in 10 63 NoGroups Over63 w

-- The groups from one to another.
unfoldable pub span : ℕ → ℕ → ℕ
span low high = set_where (λ g. leb low g && leb g high)

-- From a number that a word says; what is wrong stays so.
abbrev pub and_then : Result ℕ Reason → (ℕ → Result ℕ Reason) → Result ℕ Reason
and_then (Ok v) f = f v
and_then (Err r) f = Err r

-- The groups from one to another, which is not below it.
abbrev pub range_to : ℕ → ℕ → Result ℕ Reason
range_to low high = cond (ltb high low) (Err Backward) (Ok (span low high))

-- The groups from one on, by what stands after it from a dash on.
abbrev pub range_in : List ℕ → ℕ → Result ℕ Reason
range_in [] g = Ok (span g g)
range_in (b ∷ l) g = and_then (one_group_in l) (range_to g)

-- An item of a list: `5` or `5-7`.
unfoldable pub item_of_word : List ℕ → Result ℕ Reason
item_of_word w = and_then (one_group_in (until is_dash w)) (range_in (since is_dash w))

-- Groups, and those of the items of a list; the first that is wrong decides.
unfoldable pub with_items : ℕ → List (List ℕ) → Result ℕ Reason
with_items s [] = Ok s
with_items s (w ∷ ws) = and_then (item_of_word w) (λ g. with_items (union s g) ws)

unfoldable pub is_list : List ℕ → Bool
is_list w = not (none is_joint w)

-- A word with a comma or a dash is a list, any other a set in hex.
unfoldable pub groups_in : List ℕ → Result ℕ Reason
groups_in w = cond (is_list w) (with_items 0 (items_in w)) (number_in 16 18446744073709551615 NoGroups TooLarge w)

-- ── in numbers ──
-- By the bytes and the numbers of reasons alone. The groups that an item names: the one before its dash, and the one behind it, or the same where there is no dash.
abbrev pub group_values : List ℕ → WordValues
group_values w = number_values 10 63 no_groups_reason over63_reason w

abbrev pub first_group : List ℕ → WordValues
first_group w = group_values (until is_dash w)

abbrev pub behind_dash : List ℕ → WordValues → WordValues
behind_dash [] first = first
behind_dash (b ∷ l) first = group_values l

abbrev pub last_group : List ℕ → WordValues
last_group w = behind_dash (since is_dash w) (first_group w)

unfoldable pub item_number : List ℕ → ℕ
item_number w = or_else (first_group w).number (or_else (last_group w).number (cond (ltb (last_group w).value (first_group w).value) backward_reason 0))

-- The first item of a list that is wrong, and the groups of all with those before them.
unfoldable pub list_number : List (List ℕ) → ℕ
list_number [] = 0
list_number (w ∷ ws) = or_else (item_number w) (list_number ws)

unfoldable pub list_set : ℕ → List (List ℕ) → ℕ
list_set s [] = s
list_set s (w ∷ ws) = list_set (union s (span (first_group w).value (last_group w).value)) ws

-- A value, where a number is 0.
abbrev pub unless_wrong : ℕ → ℕ → WordValues
unless_wrong n v = record { number = n; value = value_unless n v }

-- The set that a word says.
unfoldable pub groups_values : List ℕ → WordValues
groups_values w =
    cond (is_list w) (unless_wrong (list_number (items_in w)) (list_set 0 (items_in w)))
    (number_values 16 18446744073709551615 no_groups_reason too_large_reason w)
