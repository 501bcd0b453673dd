-- The header, then the number of a load that does not open, or its records; and the page lends the buffer no more.
use mathlib.Core.Path.{sym, ◌∙◌}
use borrow.Author.Rules.{rules}
use Rattle.numerals.specs.Pages.{Lays}
use Rattle.numerals.proofs.Laying.{put-short}
use Rattle.numerals.proofs.Pages.{lays_then, lays_as}
use Rattle.load.proofs.Reading.{open-known}
use Rattle.listing.specs.Text.{listing_of}
use Rattle.listing.proofs.Sizes.{listing-short}
use Rattle.listing.proofs.RecordLoop.{text-stopped, text-read}
use Rattle.listing.proofs.run.Goals.{in-Ok, in-Err}
use Rattle.listing.proofs.run.Goals as goal

pub put_records-requires : goal.put_records-requires
put_records-requires c = (open-known _ (sym c.in-Ok.ensures)).2

pub returns : goal.returns
returns c =
    let l : Lays c.new-page.result (listing_of c.args.load.now) c.match-check_open.page = elim c.match-check_open.branch [
      | in-Ok w ↦ rw w.page-is (lays_as _ _ (text-read _ w.in-Ok.ensures) (lays_then c.bytes.ensures w.put_records.ensures))
      | in-Err w ↦ rw w.page-is (lays_as _ _ (text-stopped _ _ w.in-Err.ensures) (lays_then c.bytes.ensures (rw w.from.ensures at w.put_stop.ensures)))
    ] in
    let n = c.new-page.ensures.clean in
    let s = l.same ∙ c.new-page.ensures.same in
    let p = put-short (listing-short _) (rw (n.0, n.1) at l.put) in
    (p.0, search rules ∙ p.1)
