-- `admit` meets its contract: the row that is found is the one that the rules say, `row-none` and `row-some` of proofs/Gathering.
use Rattle.std.proofs.Common.{◌≡◌, sym, ◌∙◌, ap, ◌+◌, ℕ, List, [], ◌∷◌, ◌++◌}
use Rattle.rules.proofs.Bools.{clash}
use Rattle.frames.specs.declared.Claim.{Claim}
use Rattle.frames.specs.Rows.{row_for, head_tickets}
use Rattle.frame_table.specs.Parts.{RivalsOf}
use Rattle.frame_table.proofs.Gathering.{row-none, row-some}
use Rattle.frame_table.proofs.Steps.{admitted-valid, admitted-table, admitted-answer, grants-on, grants-none}
use Rattle.frame_table.proofs.Table.admit.Goals.{Joined-is_on, then-is_empty, else-is_empty, then-is_on, else-is_on}
use Rattle.frame_table.proofs.Table.admit.Goals as goal

-- The claims that share a group,
rivals : (c : Joined-is_on) → RivalsOf c.self.inside.pending c.args.groups c.gather-rivals.result
rivals c = rw (← c.as_slice.ensures.value) c.gather-rivals.ensures

-- the row,
row-is : (c : Joined-is_on) → c.if-is_empty.row ≡ row_for c.args.groups c.self.inside.pending
row-is c =
    elim c.if-is_empty.branch [
      | then-is_empty w ↦ w.row-is ∙ row-none _ _ (c.is_empty.ensures.0 w.if-is_empty.true)
      | else-is_empty w ↦ w.row-is ∙ row-some _ _ (λ e. clash (c.is_empty.ensures.1 e) w.if-is_empty.false) (rw (← c.self.view_is) at c.requires.room) _ (rivals c) _ w.free_row-row.ensures
    ]

-- and the grants.
grants-is : (c : Joined-is_on) → let w : Claim = record { groups = c.args.groups; ticket = c.self.inside.issued + 1; row = c.if-is_empty.row } in c.if-is_on.grants ≡ head_tickets (w ∷ [])
grants-is c =
    elim c.if-is_on.branch [
      | then-is_on w ↦ w.grants-is ∙ w.push-then-is_on.ensures ∙ ap (λ (l : List ℕ). l ++ (c.self.inside.issued + 1) ∷ []) c.new-grants.ensures ∙ grants-on _ (sym w.if-is_on.true ∙ c.is_on.ensures)
      | else-is_on w ↦ w.grants-is ∙ c.new-grants.ensures ∙ grants-none _ (sym w.if-is_on.false ∙ c.is_on.ensures)
    ]

pub returns-clause-table : goal.returns-clause-table
returns-clause-table c = admitted-table _ _ c.self.view_is c.self.invariant _ _ 0 c.requires _ [] (row-is c) c.push.ensures

pub returns-clause-answer : goal.returns-clause-answer
returns-clause-answer c = admitted-answer _ _ c.self.view_is c.self.invariant _ _ _ c.requires [] _ (row-is c) (rivals c).count (grants-is c)

pub invariant_of-self : goal.invariant_of-self
invariant_of-self c = admitted-valid _ _ c.self.view_is c.self.invariant _ _ 0 c.requires _ [] (row-is c) c.push.ensures
