-- `sets::list` meets its contract: what is read so far, with the items left, gives the whole.
use mathlib.Core.Path.{refl, sym, ap, ◌∙◌}
use Rattle.std.proofs.lemmas.Result.{err_from_is_err_and}
use Rattle.words.specs.Parts.{items_in}
use Rattle.words.specs.Sets.{with_items}
use Rattle.words.proofs.Spans.{items-on, items_end}
use Rattle.words.proofs.sets.list.Goals as goal

pub loop-part-init : goal.loop-part-init
loop-part-init c = refl

pub returns-in_err-item : goal.returns-in_err-item
returns-in_err-item c =
    let p = err_from_is_err_and c.from_residual.result c.from_residual.ensures.1 in
    rw (p.1, p.2, ← c.loop-part.invariant, items-on _ _ _ c.in-Some.ensures c.loop-part.set, ← c.item.ensures, c.in_err-item.was)

pub loop-part-smaller : goal.loop-part-smaller
loop-part-smaller c = c.in-Some.ensures.shorter

pub loop-part-preserved : goal.loop-part-preserved
loop-part-preserved c =
    rw (c.union-set.ensures, ← c.loop-part.invariant, items-on _ _ _ c.in-Some.ensures c.loop-part.set, ← c.item.ensures, c.in_ok-item.was)

pub returns : goal.returns
returns c = sym (items_end c.loop-part.set) ∙ ap (λ l. with_items c.loop-part.set (items_in l)) (sym c.in_default.ensures) ∙ c.loop-part.invariant
