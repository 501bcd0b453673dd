use Rattle.std.proofs.Common.{◌≡◌, ap}
use Rattle.rules.specs.Granting.{grant, grants}
use Rattle.rules.specs.Calls.{Step, setting_of}
use Rattle.rules.proofs.OnePacking.{still-starts}
use Rattle.table.specs.States.{model}
use Rattle.table.proofs.Steps.{granted-is}
use Rattle.table.proofs.calls.finished.Goals as goal

pub grant-grants-requires : goal.grant-grants-requires
grant-grants-requires c = rw c.setting_of-v.ensures (c.requires.ranged.ranges, still-starts (model c.args.t.now) c.requires.still)

pub returns-clause-answer : goal.returns-clause-answer
returns-clause-answer c =
    let m = model c.args.t.now in
    let e : c.grant-grants.result ≡ grants (setting_of m) m.pending = rw c.setting_of-v.ensures at c.grant-grants.ensures.tickets in
    rw e (ap (λ (s : Step). s.answer) (granted-is m c.args.reply c.requires.still))

pub returns-clause-table : goal.returns-clause-table
returns-clause-table c =
    let m = model c.args.t.now in
    let e : c.grant-grants.new.pending ≡ grant (setting_of m) m.pending = rw c.setting_of-v.ensures at c.grant-grants.ensures.granted in
    rw e (ap (λ (s : Step). s.model) (granted-is m c.args.reply c.requires.still))
