-- Sets of groups. Document 01: "Groups are numbered 0 to 63; a set of groups is a 64-bit number, group g standing for 2^g."
-- What is said here is said of the groups 0 to 63, one by one; that the code may work on all bits at once is proved.
use Rattle.std.specs.Prelude.{◌≡◌, Bool, true, false, not, ◌&&◌, ◌||◌, cond, ℕ, zero, suc, ◌+◌, ◌*◌, ◌/◌, ◌%◌, ◌^◌, ◌<◌, eqb, Option, Some, None, is_some}

-- Group g is in the set s.
abbrev pub has : ℕ → ℕ → Bool
has s g = eqb (s / 2 ^ g % 2) 1

-- The lowest of the k groups from g on that passes p, or none.
unfoldable pub lowest_from : ℕ → ℕ → (ℕ → Bool) → Option ℕ
lowest_from zero g p = None
lowest_from (suc k) g p = cond (p g) (Some g) (lowest_from k (suc g) p)

-- "the lowest common group number, or none": the first from group 0 up that is in both sets.
unfoldable pub common : ℕ → ℕ → Option ℕ
common a b = lowest_from 64 0 (λ g. has a g && has b g)

-- What these words say: a group that is in both sets, and no lower one is; none only where no group is. proofs/Groups has the theorem, of
-- any two sets.
pub record CommonLowest (a b : ℕ) : Type 0 where
  pub in_both : (g : ℕ) → common a b ≡ Some g → (g < 64) × (has a g ≡ true) × (has b g ≡ true)
  pub none_lower : (g : ℕ) → common a b ≡ Some g → (h : ℕ) → h < g → has a h ≡ true → has b h ≡ true → ⊥
  pub none_common : common a b ≡ None → (h : ℕ) → h < 64 → has a h ≡ true → has b h ≡ true → ⊥

-- "share a group": yes or no of that.
unfoldable pub shares : ℕ → ℕ → Bool
shares a b = is_some (common a b)

-- One of the k groups from g on passes p.
unfoldable pub some_from : ℕ → ℕ → (ℕ → Bool) → Bool
some_from zero g p = false
some_from (suc k) g p = p g || some_from k (suc g) p

-- One of the groups 0 to 63 passes p.
abbrev pub some_group : (ℕ → Bool) → Bool
some_group p = some_from 64 0 p

-- "no group in" the set.
unfoldable pub empty : ℕ → Bool
empty a = not (some_group (λ g. has a g))

-- No group of a is "outside" b.
unfoldable pub within : ℕ → ℕ → Bool
within a b = not (some_group (λ g. has a g && not (has b g)))

-- The set of those of the k groups from g on that pass p, group g standing for 1.
unfoldable pub set_from : ℕ → ℕ → (ℕ → Bool) → ℕ
set_from zero g p = 0
set_from (suc k) g p = cond (p g) 1 0 + 2 * set_from k (suc g) p

-- The set of the groups 0 to 63 that pass p.
abbrev pub set_where : (ℕ → Bool) → ℕ
set_where p = set_from 64 0 p

-- The groups of either set.
unfoldable pub union : ℕ → ℕ → ℕ
union a b = set_where (λ g. has a g || has b g)

-- The groups of a that are not in b.
unfoldable pub without : ℕ → ℕ → ℕ
without a b = set_where (λ g. has a g && not (has b g))

-- The set of group g alone; that of none where g is no group.
unfoldable pub only : ℕ → ℕ
only g = set_where (λ h. eqb h g)

-- The lowest group of a set, or none.
unfoldable pub lowest : ℕ → Option ℕ
lowest a = lowest_from 64 0 (has a)

-- The lowest group that is not in a set, or none.
unfoldable pub lowest_missing : ℕ → Option ℕ
lowest_missing a = lowest_from 64 0 (λ g. not (has a g))

-- A set without its lowest group: those of its groups that have another of them below.
unfoldable pub others : ℕ → ℕ
others a = set_where (λ g. has a g && some_from g 0 (has a))
