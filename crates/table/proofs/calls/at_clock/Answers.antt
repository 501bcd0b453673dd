use Rattle.std.proofs.Common.{◌≡◌, sym, ◌∙◌}
use Rattle.rules.specs.Packing.{pack}
use Rattle.rules.specs.Calls.{ruled}
use Rattle.table.specs.Outcomes.{past_end}
use Rattle.table.specs.States.{model}
use Rattle.table.proofs.Finding.{any_is}
use Rattle.table.proofs.Ranged.{ranged-later}
use Rattle.table.proofs.Steps.{packed-is, idle-is, same-clock-idle, no-overrun-idle}
use Rattle.table.proofs.calls.at_clock.Goals.{then-t-clock, else-t-clock}
use Rattle.table.proofs.calls.at_clock.Goals as goal

pub pack-requires : goal.pack-requires
pack-requires c = rw c.setting_of-v.ensures (ranged-later (model c.args.t.now) c.args.clock c.requires.valid.ranged c.requires.later c.requires.early)

pub returns-then-packs : goal.returns-then-packs
returns-then-packs c =
    let m = model c.args.t.now in
    let e : c.pack.new.pending ≡ pack (ruled m c.args.clock) m.pending = rw c.setting_of-v.ensures at c.pack.ensures in
    rw e (packed-is m c.args.clock)

pub returns-else-packs : goal.returns-else-packs
returns-else-packs c =
    let m = model c.args.t.now in
    let x = c.args.clock in
    idle-is m x
    (elim c.if-t-clock.branch [
      | then-t-clock w ↦ no-overrun-idle m x c.requires.valid c.requires.later (sym c.if-packs.false ∙ w.packs-is ∙ w.anyone_overruns-packs.ensures ∙ any_is (past_end x) m.pending)
      | else-t-clock w ↦ same-clock-idle m x c.requires.valid w.if-t-clock.false
    ])
