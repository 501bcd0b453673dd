use mathlib.Core.Path.{ap, ◌∙◌}
use mathlib.Core.List.{List}
use Rattle.std.specs.List.{find}
use Rattle.std.specs.Option.{option_map}
use Rattle.rules.specs.declared.Claim.{Claim}
use Rattle.rules.specs.Claims.{on}
use Rattle.generator.proofs.Lowest.{lowest-is}
use Rattle.generator.proofs.lowest_on.Goals as goal

pub returns : goal.returns
returns c =
    c.first_on.ensures ∙ ap (λ (ps : List Claim). option_map (λ (x : Claim). x.ticket) (find on ps)) c.pending.ensures.claims
    ∙ lowest-is c.args.t.now c.pending.ensures.valid.settled.spaced.ascending
