-- `words::next_word` meets its contract: blanks, then a word (`first_word`).
use Prim.Native.Nat.{◌-◌}
use mathlib.Core.Path.{◌≡◌, ◌∙◌}
use native.Mathlib.Omega.{arith}
use lib.ListN.{length, take, drop, length-drop}
use lib.Seq.{take_all}
use Rattle.std.proofs.Common.{rules, tests}
use Rattle.std.proofs.lemmas.Iterator.{YieldsList-from_slice}
use Rattle.std.proofs.lemmas.Iterator.Search.{position_from_yields_List}
use Rattle.words.specs.Parts.{is_blank, is_full}
use Rattle.words.proofs.Parts.{before-found, found_at, found_none}
use Rattle.words.proofs.Reading.{first_word, no_word}
use Rattle.words.proofs.next_word.Goals as goal

pub returns-in_err-blanks : goal.returns-in_err-blanks
returns-in_err-blanks c =
    let e = position_from_yields_List is_full _ _ c.position.result c.position.ensures.ran (YieldsList-from_slice c.args.line.now cc) (λ x b q k. search (rules, tests)) in
    rw c.from_residual.ensures (no_word _ (found_none is_full _ _ e c.in_err-blanks.was))

pub returns : goal.returns
returns c =
    let i = c.in_ok-blanks.blanks in
    let l = c.args.line.now in
    let e = position_from_yields_List is_full _ _ c.position.result c.position.ensures.ran (YieldsList-from_slice c.args.line.now cc) (λ x b q k. search (rules, tests)) in
    let t : take (length l - i) (drop i l) ≡ drop i l = take_all _ _ (omega (arith, length-drop i l)) in
    let f = position_from_yields_List is_blank _ _ c.position-2.result c.position-2.ensures.ran (YieldsList-from_slice (take (length l - i) (drop i l)) cc) (λ x b q k. search (rules, tests)) in
    let n = found_at is_full l _ e i c.in_ok-blanks.was in
    let m = before-found is_blank (drop i l) _ (rw t at f) in
    rw (c.split_at.ensures.front, c.split_at.ensures.back, t) (first_word l i c.unwrap_or-size.result n.0 n.1 (rw t at c.unwrap_or-size.ensures ∙ m.0))
