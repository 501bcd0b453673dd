-- `numerals::number` meets its contract: the bytes that are there are those of the definition.
use Rattle.numerals.proofs.Numbers.{read_as}
use mathlib.Core.Path.{◌∙◌, ap}
use Prim.Native.Nat.{ℕ, ◌-◌, min}
use lib.ListN.{length}
use Rattle.numerals.proofs.number.Goals as goal

pub returns : goal.returns
returns c =
    let s = c.args.s.now in
    read_as s _ _ _ _ _ c.min-from.ensures (c.min-count.ensures ∙ ap (λ (k : ℕ). min k (length s - c.min-from.result)) c.min.ensures) c.value.ensures
