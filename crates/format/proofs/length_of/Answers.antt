-- `format::length_of` meets its contract: each length is that of the format's fields, computed, and there is no other.
use mathlib.Core.List.{[], ◌∷◌}
use mathlib.Core.Path.{refl, sym}
use Rattle.format.specs.Format.{format}
use Rattle.format.proofs.Format.{has, all_rows, no-edition, no_kind, length_none}
use Rattle.format.proofs.length_of.Goals as goal

pub returns-in_default-kind : goal.returns-in_default-kind
unfolding format all_rows has
returns-in_default-kind c = rw (c.in-1.is, length_none 1 _ (no_kind 1 _ (5 ∷ 4 ∷ 3 ∷ 2 ∷ 1 ∷ []) refl c.in_default-kind.in_default-kind-own.rest))

pub returns-in_default-kind-2 : goal.returns-in_default-kind-2
unfolding format all_rows has
returns-in_default-kind-2 c = rw (c.in-2.is, length_none 2 _ (no_kind 2 _ (5 ∷ 4 ∷ 3 ∷ 2 ∷ 1 ∷ []) refl c.in_default-kind-2.in_default-kind-2-own.rest))

pub returns-in_default-kind-3 : goal.returns-in_default-kind-3
unfolding format all_rows has
returns-in_default-kind-3 c = rw (c.in-3.is, length_none 3 _ (no_kind 3 _ (8 ∷ 6 ∷ 5 ∷ 4 ∷ 3 ∷ 2 ∷ 1 ∷ []) refl c.in_default-kind-3.in_default-kind-3-own.rest))

pub returns-in_default : goal.returns-in_default
unfolding format all_rows has
returns-in_default c = let a = c.args in sym (length_none a.edition a.kind (no-edition a.edition a.kind (3 ∷ 2 ∷ 1 ∷ []) refl c.in_default.in_default-own.rest))
