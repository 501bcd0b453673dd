use Rattle.std.proofs.Common.{[], ◌∷◌, sym, ◌∙◌, ap}
use Rattle.rules.specs.declared.Claim.{Claim}
use Rattle.table.proofs.Finding.{absent-kept, found-kept, no-first, no_second, both_found}
use Rattle.table.proofs.lookups.common.Goals as goal

pub returns-in_default : goal.returns-in_default
returns-in_default c = no-first _ _ _ (absent-kept _ _ (sym c.in_default.is ∙ c.find.ensures))

pub returns-in_default-find : goal.returns-in_default-find
returns-in_default-find c = no_second _ _ _ (absent-kept _ _ (sym c.in_default-find.is ∙ c.find-2.ensures))

pub returns-in-Some-common : goal.returns-in-Some-common
returns-in-Some-common c =
    let a = c.requires.ranged.ranges.ascending in
    both_found _ _ _ c.get.result c.get-2.result
    (found-kept _ _ _ a (sym c.in-Some.is ∙ c.find.ensures) ∙ ap (λ (x : Claim). x ∷ []) (sym c.get.ensures))
    (found-kept _ _ _ a (sym c.in-Some-find.is ∙ c.find-2.ensures) ∙ ap (λ (x : Claim). x ∷ []) (sym c.get-2.ensures)) _ (sym c.in-Some-common.is ∙ c.common.ensures)

pub returns-in-None : goal.returns-in-None
returns-in-None c =
    let a = c.requires.ranged.ranges.ascending in
    both_found _ _ _ c.get.result c.get-2.result
    (found-kept _ _ _ a (sym c.in-Some.is ∙ c.find.ensures) ∙ ap (λ (x : Claim). x ∷ []) (sym c.get.ensures))
    (found-kept _ _ _ a (sym c.in-Some-find.is ∙ c.find-2.ensures) ∙ ap (λ (x : Claim). x ∷ []) (sym c.get-2.ensures)) _ (sym c.in-None.is ∙ c.common.ensures)
