-- `numerals::put_bytes` meets its contract: what goes in is put in its place.
use Rattle.numerals.specs.Laid.{behind}
use mathlib.Core.Path.{sym, ◌∙◌}
use native.Mathlib.Omega.{arith}
use Prim.Native.Nat.{◌+◌, ◌-◌}
use mathlib.Core.Path.{◌≡◌}
use Rattle.numerals.proofs.Laying.{laid_out, laid-part}
use Rattle.numerals.proofs.put_bytes.Goals as goal
use Rattle.numerals.proofs.put_bytes.Goals.{then-at-out, else-at-out}

pub returns : goal.returns
unfolding behind
returns c =
    let at = c.args.at in (
      c.saturating_add.ensures,
      elim c.if-at-out.branch [
        | then-at-out w ↦ let k : at + w.min-count.result - at ≡ w.min-count.result = omega arith in w.out-is ∙ rw k (laid-part _ _ _ _ _ w.if-at-out.true w.min-count.ensures w.copy_from_slice.ensures.after)
        | else-at-out w ↦ w.out-is ∙ sym (laid_out _ _ _ w.if-at-out.false)
      ],
    )
