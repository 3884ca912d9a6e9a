use Rattle.std.proofs.Common.{length}
use Rattle.writing.proofs.fields.+put_tens.Given as goal

abbrev pub decreases-put_tens : goal.decreases-put_tens
decreases-put_tens l = length l.front.now
