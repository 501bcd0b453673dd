-- What `generator` promises of this seed and this count.
use Rattle.belgwyth.proofs.belgwyth_workload.Goals as goal

pub returns : goal.returns
returns c = c.belgwyth_workload.ensures
