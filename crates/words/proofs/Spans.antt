-- Laws of sets of groups as text: a list's items, a range, and the value of the groups from one to another.
use Prim.Native.Nat.{ℕ, zero, suc, ◌+◌, ◌-◌, ◌*◌, ◌^◌, ◌%◌, ◌≤◌, ◌<◌}
use mathlib.Core.Path.{◌≡◌, refl, sym, ap, ◌∙◌}
use mathlib.Core.Bool.{Bool, true, false, not, not-not, ◌&&◌}
use mathlib.Core.List.{List, []}
use native.Mathlib.Nat.{two-pow-succ, sub-zero}
use native.Mathlib.Numerals.{add-one}
use native.Mathlib.Omega.{arith}
use lib.Dec.{leb}
use lib.ListN.{length, take, drop, drop_of_length-le}
use lib.Seq.{drop-cons, take_all}
use lib.Pow.{pow_mono, pow_pos}
use borrow.Author.Tests.{le-leb, lt-leb}
use Rattle.groups.specs.Groups.{set_from, union}
use Rattle.std.specs.List.{list_any}
use Rattle.std.specs.Prelude.{Ok}
use Rattle.words.specs.declared.reasons.Reason.TheVariants.{NoGroups, TooLarge}
use Rattle.words.specs.Parts.{bytes_before, parts, is_comma, is_dash, is_joint, items_in, FirstPart}
use Rattle.words.specs.Sets.{span, one_group_in, and_then, range_to, item_of_word, with_items, is_list, groups_in}
use Rattle.words.specs.Words.{number_in}
use Rattle.words.proofs.Cases.{below}
use Rattle.words.proofs.Parts.{none_any}

-- ── the groups from one to another ──
module _ (low high : ℕ) where
  -- From group g on, where k groups reach past `high`.
  set_value : (k g : ℕ) → low ≤ high → suc high - g ≤ k → set_from k g (λ g. leb low g && leb g high) + 2 ^ (low - g) ≡ 2 ^ (suc high - g)
  unfolding set_from
  set_value zero g l h = let a : suc high - g ≡ 0 = omega arith in let b : low - g ≡ 0 = omega arith in rw (a, b)
  set_value (suc k) g l h =
      let s = set_value k (suc g) l (omega arith) in
      let up : g ≤ high → 2 ^ (suc high - g) ≡ 2 * 2 ^ (suc high - suc g) =
      (λ u. let a : suc high - g ≡ suc (suc high - suc g) = omega arith in rw a (omega (arith, two-pow-succ (suc high - suc g)))) in
      below g low
      (λ u. let a : low - g ≡ suc (low - suc g) = omega arith in rw (lt-leb low g u, a) (omega (arith, two-pow-succ (low - suc g), up (omega arith), s)))
      (λ u. let a : low - g ≡ 0 = omega arith in let b : low - suc g ≡ 0 = omega arith in let t = rw b at s in
      below high g
      (λ v. let d : suc high - g ≡ 0 = omega arith in let f : suc high - suc g ≡ 0 = omega arith in rw (le-leb low g u, lt-leb g high v, a, d) (omega (arith, rw f at t)))
      (λ v. rw (le-leb low g u, le-leb g high v, a) (omega (arith, up v, t))))

  -- The code's powers: a shift by at most 63 leaves nothing out.
  pub span-powers : low ≤ high → high ≤ 63
      → (1 * 2 ^ low % 18446744073709551616 ≡ 2 ^ low) × (1 * 2 ^ high % 18446744073709551616 ≡ 2 ^ high)
      × (0 < 2 ^ low) × (2 ^ low ≤ 2 ^ high) × (2 ^ high ≤ 9223372036854775808) × (span low high + 2 ^ low ≡ 2 ^ high + 2 ^ high)
  unfolding span
  span-powers h q =
      let o : 2 ^ low ≤ 2 ^ high = pow_mono h in
      let t : 2 ^ high ≤ 9223372036854775808 = pow_mono q in
      (omega arith, omega arith, pow_pos low, o, t, (simp sub-zero at (set_value 64 0 h (omega arith))) ∙ two-pow-succ high)

-- ── an item ──
module _ (w : List ℕ) where
  -- Without a dash, of one group.
  pub item-one : bytes_before is_dash w ≡ length w → item_of_word w ≡ and_then (one_group_in w) (λ g. Ok (span g g))
  unfolding item_of_word
  item-one e = let d : drop (length w) w ≡ [] = drop_of_length-le w (omega arith) in rw (e, take_all (length w) w (omega arith), d)

  -- With one, of the group before it to the one behind it.
  pub item-two : (i : ℕ) → i ≡ bytes_before is_dash w → i < length w
      → item_of_word w ≡ and_then (one_group_in (take i w)) (λ low. and_then (one_group_in (drop (i + 1) w)) (range_to low))
  unfolding item_of_word
  item-two i e h = rw (← e, drop-cons w i 0 h, add-one)

-- ── a list ──
pub items-on : (l part rest : List ℕ) → FirstPart is_comma l part rest → (s : ℕ) → with_items s (items_in l) ≡ and_then (item_of_word part) (λ g. with_items (union s g) (items_in rest))
unfolding with_items items_in
items-on l part rest p s = rw p.parts

pub items_end : (s : ℕ) → with_items s (items_in []) ≡ Ok s
unfolding with_items items_in parts
items_end s = refl

-- ── a word ──
-- As the library tests it: r is whether any byte is a comma or a dash.
module _ (w : List ℕ) (r : Bool) (e : r ≡ list_any is_joint w) where
  is-list : is_list w ≡ r
  unfolding is_list
  is-list = ap not (none_any is_joint w) ∙ not-not (list_any is_joint w) ∙ sym e

  pub list-of : r ≡ true → with_items 0 (items_in w) ≡ groups_in w
  unfolding groups_in
  list-of t = rw (is-list, t)

  pub hex-of : r ≡ false → number_in 16 18446744073709551615 NoGroups TooLarge w ≡ groups_in w
  unfolding groups_in
  hex-of t = rw (is-list, t)
