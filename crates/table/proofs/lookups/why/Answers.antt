use Rattle.std.proofs.Common.{ℕ, List, [], ◌∷◌, sym, ◌∙◌, ap}
use Rattle.rules.specs.declared.Claim.{Claim}
use Rattle.rules.specs.Chains.{ChainValues}
use Rattle.table.proofs.Finding.{absent-kept, found-place, found-kept, no-chain, held-chain, waiting-chain}
use Rattle.table.proofs.lookups.why.Goals as goal

pub returns-in_default : goal.returns-in_default
returns-in_default c = no-chain _ _ _ (absent-kept _ _ (sym c.in_default.is ∙ c.find.ensures))

pub returns-then-is_on : goal.returns-then-is_on
returns-then-is_on c =
    held-chain _ _ _ c.get.result (found-kept _ _ _ c.requires.ranged.ranges.ascending (sym c.in-Some.is ∙ c.find.ensures) ∙ ap (λ (x : Claim). x ∷ []) (sym c.get.ensures))
    (sym c.is_on.ensures ∙ c.if-is_on.true)

pub returns : goal.returns
returns c =
    let l : List ℕ → ChainValues = λ l. record { number = 0; tickets = l } in
    let ps = c.args.t.now.pending in
    ap l (rw (c.setting_of.ensures, sym c.get.ensures) at c.chain.ensures)
    ∙ waiting-chain _ _ _ c.get.result (found-kept _ _ _ c.requires.ranged.ranges.ascending (sym c.in-Some.is ∙ c.find.ensures) ∙ ap (λ (x : Claim). x ∷ []) (sym c.get.ensures))
    (sym c.is_on.ensures ∙ c.if-is_on.false)

pub chain-requires : goal.chain-requires
chain-requires c =
    let r = c.requires.ranged.ranges in
    rw c.setting_of.ensures (r, (_, c.requires.settled), found-place _ _ _ r.ascending (sym c.in-Some.is ∙ c.find.ensures))
