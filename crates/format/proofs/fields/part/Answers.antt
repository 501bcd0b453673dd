-- `format::fields::part` meets its contract: the numbers of a part are that part of the numbers.
use mathlib.Core.Path.{sym, ap, ◌∙◌}
use Rattle.std.proofs.Common.{◌-◌, take}
use Rattle.std.proofs.lemmas.List.{take-map, drop-map}
use Rattle.format.specs.Format.{field_number}
use Rattle.format.proofs.fields.part.Goals as goal

pub returns : goal.returns
returns c = let a = c.args in sym (take-map field_number (a.to - a.from) _) ∙ ap (take (a.to - a.from)) (sym (drop-map field_number a.from _))
