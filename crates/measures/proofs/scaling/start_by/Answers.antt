use Rattle.measures.proofs.scaling.start_by.Goals as goal

pub returns : goal.returns
returns c = rw c.radius.ensures
