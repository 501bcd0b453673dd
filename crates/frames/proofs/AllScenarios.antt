-- Every scenario of specs/Scenarios comes out as it says, by computation from the rules.
use mathlib.Core.Path.{◌≡◌, refl}
use mathlib.Core.List.{map}
use Rattle.groups.specs.Groups.{some_from, lowest_from, common, shares, empty, within}
use Rattle.rules.specs.Lists.{any, keep}
use Rattle.rules.specs.Tests.{first_number}
use Rattle.frames.specs.Rows.{contention, taken, row_from, row_for, turned, head_tickets, turned_on}
use Rattle.frames.specs.Calls.{tests, admit, lacking, remove, act, step, new, after, answers}
use Rattle.frames.specs.Scenarios.{scenarios, outcome}

pub all-scenarios : map outcome scenarios ≡ map (λ x. x.answers) scenarios
unfolding some_from lowest_from common shares empty within any keep first_number contention taken row_from row_for turned head_tickets turned_on tests admit lacking remove act step new after answers scenarios outcome
all-scenarios = refl
