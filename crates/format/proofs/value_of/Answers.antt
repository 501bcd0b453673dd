-- `format::value_of` meets its contract: with no field of its number it is the kind, or there is none.
use native.Mathlib.Omega.{arith}
use Rattle.format.specs.Format.{field_widths}
use Rattle.format.proofs.Calls.{no_value}
use Rattle.format.proofs.value_of.Goals as goal

pub returns-in-None-2 : goal.returns-in-None-2
unfolding field_widths
returns-in-None-2 c = no_value c.args.field c.args.call (c.in-None-2.ensures (omega arith))
