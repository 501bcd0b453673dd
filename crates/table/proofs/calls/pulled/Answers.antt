use Rattle.std.proofs.Common.{◌≡◌, sym, ◌∙◌}
use Rattle.rules.specs.Packing.{pack}
use Rattle.rules.specs.Calls.{ruled}
use Rattle.table.specs.Outcomes.{waits}
use Rattle.table.specs.States.{model}
use Rattle.table.proofs.Finding.{any_is}
use Rattle.table.proofs.Ranged.{ranged-later}
use Rattle.table.proofs.Steps.{packed-is, idle-is, none-waits-idle}
use Rattle.table.proofs.calls.pulled.Goals as goal

pub pack-requires : goal.pack-requires
pack-requires c = rw c.setting_of-v.ensures (ranged-later (model c.args.t.now) c.args.clock c.requires.ranged c.requires.later c.requires.early)

pub returns-then-packs : goal.returns-then-packs
returns-then-packs c =
    let m = model c.args.t.now in
    let e : c.pack.new.pending ≡ pack (ruled m c.args.clock) m.pending = rw c.setting_of-v.ensures at c.pack.ensures in
    rw e (packed-is m c.args.clock)

pub returns-else-packs : goal.returns-else-packs
returns-else-packs c =
    let m = model c.args.t.now in
    idle-is m c.args.clock (none-waits-idle (ruled m c.args.clock) m.pending (sym c.if-packs.false ∙ c.anyone_waits-packs.ensures ∙ any_is waits m.pending))
