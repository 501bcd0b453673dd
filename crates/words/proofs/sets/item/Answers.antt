-- `sets::item` meets its contract: one group, or the groups before and behind the dash.
use Prim.Native.Nat.{◌+◌, ◌-◌, ◌<◌}
use mathlib.Core.Path.{◌≡◌, sym, ap, ◌∙◌}
use native.Mathlib.Omega.{arith}
use lib.ListN.{length, take, drop, length-drop}
use lib.Seq.{take_all}
use borrow.Author.Tests.{lt-ltb, le-ltb}
use Rattle.std.proofs.Common.{rules, tests}
use Rattle.std.proofs.lemmas.Iterator.{YieldsList-from_slice}
use Rattle.std.proofs.lemmas.Iterator.Search.{position_from_yields_List}
use Rattle.std.proofs.lemmas.Result.{err_from_is_err_and}
use Rattle.std.specs.Prelude.{Ok}
use Rattle.words.specs.Parts.{bytes_before, is_dash}
use Rattle.words.proofs.Numbers.{number-most}
use Rattle.words.proofs.Parts.{found_at, found_none}
use Rattle.words.proofs.Spans.{item-one, item-two}
use Rattle.words.proofs.sets.item.Goals.{In_default, In-Some}
use Rattle.words.proofs.sets.item.Goals as goal

no_dash : (c : In_default) → bytes_before is_dash c.args.word.now ≡ length c.args.word.now
no_dash c =
    found_none is_dash _ _
    (position_from_yields_List is_dash _ _ c.position.result c.position.ensures.ran (YieldsList-from_slice c.args.word.now cc) (λ x b q k. search (rules, tests))) c.in_default.is

dash-at : (c : In-Some) → (c.in-Some.dash ≡ bytes_before is_dash c.args.word.now) × (c.in-Some.dash < length c.args.word.now)
dash-at c =
    found_at is_dash _ _
    (position_from_yields_List is_dash _ _ c.position.result c.position.ensures.ran (YieldsList-from_slice c.args.word.now cc) (λ x b q k. search (rules, tests))) _ c.in-Some.is

behind : (c : In-Some) → take (length c.args.word.now - (c.in-Some.dash + 1)) (drop (c.in-Some.dash + 1) c.args.word.now) ≡ drop (c.in-Some.dash + 1) c.args.word.now
behind c = take_all _ _ (omega (arith, length-drop (c.in-Some.dash + 1) c.args.word.now))

pub returns-in_err-only : goal.returns-in_err-only
returns-in_err-only c =
    let p = err_from_is_err_and c.from_residual.result c.from_residual.ensures.1 in
    rw (p.1, p.2, item-one _ (no_dash (goal.at.returns-in_err-only c).In_default), ← c.group.ensures, c.in_err-only.was)

pub span-requires : goal.span-requires
span-requires c = (omega arith, number-most _ _ _ _ _ _ (sym c.group.ensures ∙ c.in_ok-only.was))

pub returns-in_default : goal.returns-in_default
returns-in_default c =
    rw (item-one _ (no_dash (goal.at.returns-in_default c).In_default), ← c.group.ensures, c.in_ok-only.was) (ap (λ s. Ok s) c.span.ensures)

pub returns-in_err-low : goal.returns-in_err-low
returns-in_err-low c =
    let p = err_from_is_err_and c.from_residual-in_err-low.result c.from_residual-in_err-low.ensures.1 in
    let d = dash-at (goal.at.returns-in_err-low c).In-Some in
    rw (p.1, p.2, item-two _ _ d.0 d.1, ← c.group-2.ensures, c.in_err-low.was)

pub returns-in_err-high : goal.returns-in_err-high
returns-in_err-high c =
    let p = err_from_is_err_and c.from_residual-in_err-high.result c.from_residual-in_err-high.ensures.1 in
    let d = dash-at (goal.at.returns-in_err-high c).In-Some in
    let h = rw (behind (goal.at.returns-in_err-high c).In-Some) at c.group-3.ensures in
    rw (p.1, p.2, item-two _ _ d.0 d.1, ← c.group-2.ensures, c.in_ok-low.was, ← h, c.in_err-high.was)

pub returns-then-high-low : goal.returns-then-high-low
returns-then-high-low c =
    let d = dash-at (goal.at.returns-then-high-low c).In-Some in
    let h = rw (behind (goal.at.returns-then-high-low c).In-Some) at c.group-3.ensures in
    rw (item-two _ _ d.0 d.1, ← c.group-2.ensures, c.in_ok-low.was, ← h, c.in_ok-high.was, lt-ltb c.in_ok-high.high c.in_ok-low.low (omega arith))

pub span-requires-2 : goal.span-requires-2
span-requires-2 c = (omega arith, number-most _ _ _ _ _ _ (sym c.group-3.ensures ∙ c.in_ok-high.was))

pub returns : goal.returns
returns c =
    let d = dash-at (goal.at.returns c).In-Some in
    let h = rw (behind (goal.at.returns c).In-Some) at c.group-3.ensures in
    rw (item-two _ _ d.0 d.1, ← c.group-2.ensures, c.in_ok-low.was, ← h, c.in_ok-high.was, le-ltb c.in_ok-high.high c.in_ok-low.low (omega arith)) (ap (λ s. Ok s) c.span-2.ensures)
