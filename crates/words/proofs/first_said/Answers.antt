-- `words::first_said` meets its contract: the first word of the line that is there, or none, and where it lies.
use mathlib.Core.Path.{refl, sym, ap, ◌∙◌}
use Rattle.words.specs.Parts.{first_said}
use Rattle.words.proofs.Lines.{no_line, line-none, line-there, first-is, first_none, none_said, first-there, first-lies, none-lies}
use Rattle.words.proofs.first_said.Goals as goal

pub returns-then-line-eq0 : goal.returns-then-line-eq0
returns-then-line-eq0 c =
    let e = none_said _ (no_line c.args.text.now c.args.line c.if-line-eq0.true) in
    record { word = e; part = none-lies c.args.text.now _ _ e }

pub returns-in_default : goal.returns-in_default
returns-in_default c =
    let e = none_said _ (line-none c.args.text.now c.args.line _ c.from_line-rest.ensures.lines c.if-line-eq0.false c.in_default.ensures) in
    record { word = e; part = none-lies c.args.text.now _ _ e }

pub returns-in_default-next_word : goal.returns-in_default-next_word
returns-in_default-next_word c =
    let l = line-there c.args.text.now c.args.line _ c.from_line-rest.ensures.lines c.if-line-eq0.false _ _ c.in-Some.ensures in
    let e = first_none _ (rw c.said-said.ensures at c.in_default-next_word.ensures) ∙ ap first_said (sym l) in
    record { word = e; part = none-lies c.args.text.now _ _ e }

pub slice_bounds-result-end : goal.slice_bounds-result-end
slice_bounds-result-end c =
    (first-there c.args.text.now _ _ _ _ _ _ c.from_line-rest.ensures.last c.in-Some.ensures c.said-said.ensures c.in-Some-next_word.ensures _ refl).high

pub returns : goal.returns
returns c =
    let l = line-there c.args.text.now c.args.line _ c.from_line-rest.ensures.lines c.if-line-eq0.false _ _ c.in-Some.ensures in
    let e = first-is _ _ _ (rw c.said-said.ensures at c.in-Some-next_word.ensures) ∙ ap first_said (sym l) in
    record {
      word = (first-there c.args.text.now _ _ _ _ _ _ c.from_line-rest.ensures.last c.in-Some.ensures c.said-said.ensures c.in-Some-next_word.ensures _ refl).is ∙ e;
      part = first-lies c.args.text.now _ _ _ _ _ _ c.from_line-rest.ensures.last c.in-Some.ensures c.said-said.ensures c.in-Some-next_word.ensures _ _ e _ refl;
    }
