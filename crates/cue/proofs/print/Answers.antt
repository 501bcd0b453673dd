-- The listing is a part of its buffer.
use mathlib.Core.Path.{sym}
use native.Mathlib.Omega.{arith}
use lib.Seq.{length-take-le}
use Rattle.listing.proofs.PlayersCall.{answer-within}
use Rattle.cue.proofs.print.Goals as goal

pub slice_bounds-out-end : goal.slice_bounds-out-end
slice_bounds-out-end g c =
    let l = c.belgwyth_listing-n in
    answer-within _ _ l.new.out _ l.ensures.answer l.auto.out (omega (arith, c.listing_buffer-out.ensures))

pub slice_bounds-write_output-end-2 : goal.slice_bounds-write_output-end-2
slice_bounds-write_output-end-2 g c =
    let l = c.belgwyth_listing-n in
    sym (length-take-le l.result l.new.out (answer-within _ _ l.new.out _ l.ensures.answer l.auto.out (omega (arith, c.listing_buffer-out.ensures))))
