-- `load::put_record` meets its contract: length, kind and fields laid one after the other.
use Rattle.numerals.proofs.Pages.{lays_then}
use Rattle.load.proofs.Bytes.{call-bytes}
use Rattle.load.proofs.put_record.Goals as goal

pub returns : goal.returns
returns c = rw (call-bytes, ← c.length_of-length.ensures) (lays_then c.big.ensures (lays_then c.byte.ensures c.put_fields.ensures))
