-- `sets::span` meets its contract: two powers of two, by `span-powers`.
use native.Mathlib.Omega.{arith}
use Rattle.words.proofs.Spans.{span-powers}
use Rattle.words.proofs.sets.span.Goals as goal

pub overflow_sub-result : goal.overflow_sub-result
overflow_sub-result c = let p = span-powers c.args.low c.args.high c.requires.0 c.requires.1 in omega arith

pub overflow_add-result : goal.overflow_add-result
overflow_add-result c = let p = span-powers c.args.low c.args.high c.requires.0 c.requires.1 in omega arith

pub returns : goal.returns
returns c = let p = span-powers c.args.low c.args.high c.requires.0 c.requires.1 in omega arith
