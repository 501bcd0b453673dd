use mathlib.Core.Path.{ap}
use mathlib.Core.List.{List, ◌++◌}
use Prim.Native.Nat.{ℕ}
use native.Mathlib.Omega.{arith}
use lib.ListN.{drop, length-take}
use Rattle.generator.proofs.Answering.{own-length, answers-short, answers-copied}
use Rattle.generator.proofs.copied.Goals as goal

pub returns-then-out-n : goal.returns-then-out-n
returns-then-out-n c =
    answers-short _ _ _ c.requires _ (own-length _ _ c.requires c.lay_over-n.ensures (omega arith)).0 c.if-out-n.true

pub slice_bounds-own-end : goal.slice_bounds-own-end
slice_bounds-own-end c =
    let n = own-length _ _ c.requires c.lay_over-n.ensures (omega arith) in
    omega (arith, n.0, n.1, c.lay_over-n.auto.out)

pub slice_bounds-copy_from_slice-end-3 : goal.slice_bounds-copy_from_slice-end-3
slice_bounds-copy_from_slice-end-3 c =
    let n = own-length _ _ c.requires c.lay_over-n.ensures (omega arith) in
    simp length-take (omega (arith, n.0, n.1, c.lay_over-n.auto.out))

pub copy_from_slice-requires : goal.copy_from_slice-requires
copy_from_slice-requires c =
    let n = own-length _ _ c.requires c.lay_over-n.ensures (omega arith) in
    simp length-take (omega (arith, n.0, n.1, c.lay_over-n.auto.out))

pub returns : goal.returns
returns c =
    answers-copied _ _ c.requires c.lay_over-n.ensures (omega arith) _ _ c.if-out-n.false (ap (λ (l : List ℕ). l ++ drop c.lay_over-n.result c.args.out.now) c.copy_from_slice.ensures.after)
