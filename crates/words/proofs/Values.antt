-- What words say in numbers: the values of each answer are those that their bytes give.
use Prim.Native.Nat.{ℕ, zero, suc, ◌<◌}
use mathlib.Core.Bool.{cond}
use mathlib.Core.List.{List, [], ◌∷◌}
use mathlib.Core.Path.{◌≡◌, refl, ap, ◌∙◌}
use native.Mathlib.Omega.{arith}
use lib.Dec.{leb, ltb}
use borrow.Author.Tests.{le-ltb}
use Rattle.numbers.specs.Numbers.{or_else}
use Rattle.groups.specs.Groups.{union}
use Rattle.std.specs.Prelude.{Result, Ok, Err}
use Rattle.words.specs.declared.reasons.Reason.{Reason}
use Rattle.words.specs.Answers.{WordValues, values_by, word_values}
use Rattle.words.specs.Parts.{until, since, is_dash, items_in}
use Rattle.words.specs.Reasons.{backward_reason, reason_number}
use Rattle.words.specs.Sets.{one_group_in, span, and_then, range_to, range_in, item_of_word, with_items, is_list, groups_in, first_group, behind_dash, last_group, item_number, list_number, list_set, unless_wrong, groups_values}
use Rattle.words.specs.Words.{is_number, value_in, number_in, number_values}
use Rattle.words.proofs.Cases.{either}
use Rattle.words.proofs.Numbers.{reason-some}

module _ {E : Type 0} where
  pub number-values : (told : E → ℕ) (base most : ℕ) (none large : E) (w : List ℕ)
      → values_by told (number_in base most none large w) ≡ number_values base most (told none) (told large) w
  unfolding number_in number_values
  number-values told base most none large w =
      either (is_number base w) (λ e. either (leb (value_in base 0 w) most) (λ l. rw (e, l) refl) (λ l. rw (e, l) refl)) (λ e. rw e refl)

  -- A number that a word says, with its values: what `number` promises.
  pub number-with-values : (base most : ℕ) (none large : E) (w : List ℕ) (f : Result ℕ E) → f ≡ number_in base most none large w
      → (f ≡ number_in base most none large w) × ((told : E → ℕ) → values_by told f ≡ number_values base most (told none) (told large) w)
  number-with-values base most none large w f e = (e, λ told. ap (values_by told) e ∙ number-values told base most none large w)

-- By the groups before and behind an item's dash.
abbrev range_values : WordValues → WordValues → WordValues
range_values a b = unless_wrong (or_else a.number (or_else b.number (cond (ltb b.value a.value) backward_reason 0))) (span a.value b.value)

-- A reason ends it.
stopped : (n m v : ℕ) → 0 < n → record { number = n; value = 0 } ≡ unless_wrong (or_else n m) v
stopped zero m v h = absurd (omega arith)
stopped (suc k) m v h = refl

range-values : (l : List ℕ) (x : Result ℕ Reason) → word_values (and_then x (range_in l)) ≡ range_values (word_values x) (behind_dash l (word_values x))
range-values l (Err r) = stopped (reason_number r) _ _ (reason-some r)
range-values [] (Ok v) = rw (le-ltb v v (omega arith))
range-values (b ∷ l) (Ok v) = go (one_group_in l) ∙ ap (range_values (word_values (Ok v))) (number-values reason_number _ _ _ _ l)
  where
    go : (x : Result ℕ Reason) → word_values (and_then x (range_to v)) ≡ range_values (word_values (Ok v)) (word_values x)
    go (Err r) = stopped (reason_number r) _ _ (reason-some r)
    go (Ok h) = either (ltb h v) (λ e. rw e) (λ e. rw e)

item-values : (w : List ℕ) → word_values (item_of_word w) ≡ unless_wrong (item_number w) (span (first_group w).value (last_group w).value)
unfolding item_of_word item_number
item-values w =
    range-values (since is_dash w) (one_group_in (until is_dash w))
    ∙ ap (λ (x : WordValues). range_values x (behind_dash (since is_dash w) x)) (number-values reason_number _ _ _ _ (until is_dash w))

list-values : (s : ℕ) (ws : List (List ℕ)) → word_values (with_items s ws) ≡ unless_wrong (list_number ws) (list_set s ws)
unfolding with_items list_number list_set
list-values s [] = refl
list-values s (w ∷ ws) = by (item_number w) (item_of_word w) (item-values w) (λ g. list-values (union s g) ws)
  where
    set : ℕ
    set = span (first_group w).value (last_group w).value

    -- By the number of the item.
    by : (n : ℕ) (x : Result ℕ Reason) → word_values x ≡ unless_wrong n set → ((g : ℕ) → word_values (with_items (union s g) ws) ≡ unless_wrong (list_number ws) (list_set (union s g) ws))
        → word_values (and_then x (λ g. with_items (union s g) ws)) ≡ unless_wrong (or_else n (list_number ws)) (list_set (union s set) ws)
    by zero (Ok v) e h = let q : v ≡ set = ap (λ (x : WordValues). x.value) e in rw (← q) (h v)
    by zero (Err r) e h = absurd (omega (arith, ap (λ (x : WordValues). x.number) e, reason-some r))
    by (suc k) (Ok v) e h = absurd (omega (arith, ap (λ (x : WordValues). x.number) e))
    by (suc k) (Err r) e h = ap (λ (m : ℕ). record { number = m; value = 0 }) (ap (λ (x : WordValues). x.number) e)

pub groups-values : (w : List ℕ) → word_values (groups_in w) ≡ groups_values w
unfolding groups_in groups_values
groups-values w = either (is_list w) (λ q. rw q (list-values 0 (items_in w))) (λ q. rw q (number-values reason_number _ _ _ _ w))

-- The set that a word says, with its values: what `groups_of` promises.
pub groups-with-values : (w : List ℕ) (f : Result ℕ Reason) → f ≡ groups_in w → (f ≡ groups_in w) × (word_values f ≡ groups_values w)
groups-with-values w f e = (e, ap word_values e ∙ groups-values w)
