use Rattle.interfering.proofs.edges_by_rows.Goals as goal
use Rattle.interfering.proofs.Edges.{interferes, proper}

pub returns : goal.returns
returns c = λ classes nodes rows names. (interferes classes nodes rows names, proper classes nodes rows names)
