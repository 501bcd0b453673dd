-- `words::next_part` meets its contract: what stands before the byte that ends it (`first_part`).
use native.Mathlib.Omega.{arith}
use borrow.Author.Rules.{rules}
use Rattle.words.specs.Parts.{is}
use Rattle.words.proofs.Parts.{first_part, behind_end, behind-more}
use Rattle.words.proofs.next_part.Goals as goal

pub returns-in-empty : goal.returns-in-empty
returns-in-empty c =
    let n = c.before-2.ensures.0 in
    let s = c.split_at.ensures in
    let b = behind_end c.before-2.result c.args.text.now c.split_at.result.1.now s.back c.in-empty.len_below in
    first_part (is c.args.b) c.args.text.now (search rules) _ _ (rw n at s.front) (rw n at b)

pub returns-in-len1-up : goal.returns-in-len1-up
returns-in-len1-up c =
    let n = c.before-2.ensures.0 in
    let s = c.split_at.ensures in
    let b = behind-more c.before-2.result c.args.text.now c.split_at.result.1.now s.back in
    first_part (is c.args.b) c.args.text.now (omega (arith, s.back_len)) _ _ (rw n at s.front) (rw n at b)
