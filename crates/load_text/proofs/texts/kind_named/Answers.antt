-- `texts::kind_named` meets its contract: the names left have the one that is looked for.
use mathlib.Core.Path.{sym, ◌∙◌}
use native.Mathlib.Omega.{arith}
use Rattle.format.specs.Format.{names}
use Rattle.load_text.proofs.Tables.{same-word, looks-start, looks-on, looks-has, looks-lacks, looks-none}
use Rattle.load_text.proofs.texts.kind_named.Goals as goal

pub loop-kind-init : goal.loop-kind-init
loop-kind-init c = looks-start _

pub returns-then-has_kind : goal.returns-then-has_kind
unfolding names
returns-then-has_kind c =
    looks-has _ c.loop-kind.kind (omega arith) c.loop-kind.invariant (same-word _ _ _ (rw c.name.ensures at c.if-eq.ensures)) _ (sym c.has_kind.ensures ∙ c.if-has_kind.true)

pub returns-else-has_kind : goal.returns-else-has_kind
unfolding names
returns-else-has_kind c =
    looks-lacks _ c.loop-kind.kind (omega arith) c.loop-kind.invariant (same-word _ _ _ (rw c.name.ensures at c.if-eq.ensures)) _ (sym c.has_kind.ensures ∙ c.if-has_kind.false)

pub loop-kind-preserved : goal.loop-kind-preserved
unfolding names
loop-kind-preserved c = looks-on _ c.loop-kind.kind (omega arith) c.loop-kind.invariant (same-word _ _ _ (rw c.name.ensures at c.if-eq.ensures))

pub returns : goal.returns
unfolding names
returns c = looks-none _ _ _ (omega arith) c.loop-kind.invariant
