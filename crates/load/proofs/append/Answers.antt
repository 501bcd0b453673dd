-- `load::append` meets its contract: the tests come first; then the load and the record are laid one after the other.
use mathlib.Core.Path.{sym, ◌∙◌}
use borrow.Author.Rules.{rules}
use lib.ListN.{length}
use Rattle.std.specs.Prelude.{Ok}
use Rattle.std.proofs.lemmas.Result.{err_from_is_err_and}
use Rattle.numerals.proofs.Pages.{lays_then}
use Rattle.format.specs.Records.{record_of}
use Rattle.load.specs.Writing.{grown, append_number, append_answer, append_values, append_out}
use Rattle.load.proofs.Reading.{load-known}
use Rattle.load.proofs.Writing.{append-parts, append-grows, Answers, refused, written}
use Rattle.load.proofs.append.Goals.{After-put_record}
use Rattle.load.proofs.append.Goals as goal

pub bounds-load-0 : goal.bounds-load-0
bounds-load-0 c = (load-known _ (append-parts _ _ _ (sym c.in_ok-check_append.ensures)).0).0

pub returns-in_err-check_append : goal.returns-in_err-check_append
unfolding append_answer append_out append_values
returns-in_err-check_append c =
    let a = c.args in
    let w = refused (grown a.load.now (record_of a.call)) a.out.now _ _ c.in_err-check_append.ensures in
    let p = err_from_is_err_and c.from_residual.result c.from_residual.ensures.1 in
    rw (p.1, p.2) (record { answer = w.0; buffer = w.1.0; values = w.1.1 })

-- Behind the tests the load and the record are laid, and the page lends the buffer no more.
laid_both : (c : After-put_record) → let a = c.args in
    Answers (grown a.load.now (record_of a.call)) a.out.now (append_number a.load.now (record_of a.call) (length a.out.now)) (Ok c.put_record.new.page.at) c.put_record.new.page.out.now
unfolding grown
laid_both c =
    let z = sym c.in_ok-check_append.ensures in
    let n = c.new-page.ensures.clean in
    let t = lays_then c.bytes.ensures c.put_record.ensures in
    written _ _ _ _ _ _ z (append-grows _ _ _ z) (rw (n.0, n.1) at t.put)

pub returns : goal.returns
unfolding append_answer append_out append_values
returns c =
    let w = laid_both (goal.at.returns c).After-put_record in
    let s = (lays_then c.bytes.ensures c.put_record.ensures).same ∙ c.new-page.ensures.same in
    record { answer = w.0; buffer = search rules ∙ w.1.0; values = w.1.1 }
