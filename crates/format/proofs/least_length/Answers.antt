-- `format::least_length` meets its contract: the least is computed over the table.
use mathlib.Core.Path.{refl}
use native.Mathlib.Omega.{arith}
use Rattle.format.specs.Format.{least_length, least_in, format, length_in, total, field_width, field_widths}
use Rattle.format.proofs.least_length.Goals as goal

pub returns : goal.returns
unfolding least_length least_in format length_in total field_width field_widths
returns c = (refl, omega arith)
