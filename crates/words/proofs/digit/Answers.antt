-- `words::digit` meets its contract: each range of bytes by its law.
use mathlib.Core.Path.{◌∙◌}
use native.Mathlib.Omega.{arith}
use Rattle.words.proofs.Numbers.{digit-ten, digit-upper, digit-lower, no_digit}
use Rattle.words.proofs.digit.Goals as goal

pub returns-in-48-to-57 : goal.returns-in-48-to-57
returns-in-48-to-57 c = (c.from.ensures ∙ digit-ten _ (omega arith) (omega arith), omega arith)

pub returns-in-65-to-70 : goal.returns-in-65-to-70
returns-in-65-to-70 c = (let e = digit-upper c.args.b (omega arith) (omega arith) in omega arith, omega arith)

pub returns-in-97-to-102 : goal.returns-in-97-to-102
returns-in-97-to-102 c = (let e = digit-lower c.args.b (omega arith) (omega arith) in omega arith, omega arith)

pub returns-in_default : goal.returns-in_default
returns-in_default c = (no_digit _ (λ h. omega arith) (λ h. omega arith) (λ h. omega arith), omega arith)

pub returns-in_default-2 : goal.returns-in_default-2
returns-in_default-2 c = (no_digit _ (λ h. omega arith) (λ h. omega arith) (λ h. omega arith), omega arith)

pub returns-in_default-3 : goal.returns-in_default-3
returns-in_default-3 c = (no_digit _ (λ h. omega arith) (λ h. omega arith) (λ h. omega arith), omega arith)

pub returns-in_default-4 : goal.returns-in_default-4
returns-in_default-4 c = (no_digit _ (λ h. omega arith) (λ h. omega arith) (λ h. omega arith), omega arith)
