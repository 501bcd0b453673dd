-- `of_number` meets its contract: its keys are the kind byte's number and those of all fields.
use mathlib.Core.List.{[], ◌∷◌}
use mathlib.Core.Path.{refl}
use Rattle.format.specs.Format.{field_widths}
use Rattle.format.proofs.Format.{has, all_below, no-such-field}
use Rattle.format.proofs.fields.Field.of_number.Goals as goal

pub returns-in_default : goal.returns-in_default
unfolding field_widths all_below has
returns-in_default c = λ h. no-such-field (10 ∷ 9 ∷ 8 ∷ 7 ∷ 6 ∷ 5 ∷ 4 ∷ 3 ∷ 2 ∷ 1 ∷ 0 ∷ []) _ refl c.in_default.in_default-own.rest
