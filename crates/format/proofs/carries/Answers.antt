-- `format::carries` meets its contract: the kind, and all fields as the edition keeps them.
use mathlib.Core.Path.{sym, ap, ◌∙◌}
use Rattle.format.specs.Calls.{same, keeps}
use Rattle.format.specs.declared.Call.{Call}
use Rattle.format.proofs.Calls.{each-same}
use Rattle.format.proofs.Records.{call-carried}
use Rattle.format.proofs.carries.Goals as goal

pub returns-then-has_kind : goal.returns-then-has_kind
unfolding keeps
returns-then-has_kind c =
    let a = c.args in
    rw (call-carried a.edition a.call, sym c.if-has_kind.ensures) (c.eq.ensures ∙ each-same _ _ ∙ ap (λ (k : Call). same k a.call) c.kept.ensures)

pub returns-else-has_kind : goal.returns-else-has_kind
unfolding keeps
returns-else-has_kind c = let a = c.args in rw (call-carried a.edition a.call, sym c.if-has_kind.ensures) c.if-has_kind.false
