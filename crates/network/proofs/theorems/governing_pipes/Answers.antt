use Rattle.network.proofs.Gathered.{governing_pipes_of}
use Rattle.network.proofs.theorems.governing_pipes.Goals as goal

pub returns : goal.returns
returns c = governing_pipes_of
