-- A turn makes five draws and lays the batch of the state before them.
use mathlib.Core.Path.{◌≡◌, subst, sym}
use Prim.Native.Nat.{ℕ, suc, ◌+◌, ◌-◌}
use native.Mathlib.Omega.{arith}
use Rattle.generator.specs.declared.Draws.{Draws}
use Rattle.generator.specs.Workload.{batch_of}
use Rattle.generator.specs.Drafts.{Enters}
use Rattle.generator.proofs.Drafts.{Drafting, drafting-start, drafting-step, drafting-end}
use Rattle.generator.proofs.lay.Goals as goal

pub loop-init : goal.loop-init
loop-init c =
    let a = c.args in
    let e : a.count ≡ a.count - 0 = omega arith in
    subst (λ (n : ℕ). Drafting a.seed a.count a.page.now n a.seed c.begun-w.result c.begun-w.new.page) e
    (drafting-start a.seed a.count (omega arith) (omega arith) c.begun-w.ensures)

pub entered-requires : goal.entered-requires
entered-requires c = let e = c.loop.invariant.early in omega arith

pub loop-preserved : goal.loop-preserved
loop-preserved c =
    let a = c.args in
    let l = c.loop in
    let e : a.count - l.counter ≡ suc (a.count - (l.counter + 1)) = omega arith in
    let d = subst (λ (n : ℕ). Drafting a.seed a.count a.page.now n l.g.state l.w l.page) e l.invariant in
    let r = subst (λ (x : Draws). Enters l.page l.w (batch_of l.w.clock l.w.table x) c.entered.new.page c.entered.new.w) c.next_draws-d.ensures.0 c.entered.ensures in
    subst (λ (s : ℕ). Drafting a.seed a.count a.page.now (a.count - (l.counter + 1)) s c.entered.new.w c.entered.new.page) (sym c.next_draws-d.ensures.1)
    (drafting-step a.seed a.count (a.count - (l.counter + 1)) l.g.state d r)

pub returns : goal.returns
returns c =
    let a = c.args in
    let l = c.loop in
    let e : a.count - l.counter ≡ 0 = omega arith in
    drafting-end a.seed a.count l.g.state l.w (subst (λ (n : ℕ). Drafting a.seed a.count a.page.now n l.g.state l.w l.page) e l.invariant)
