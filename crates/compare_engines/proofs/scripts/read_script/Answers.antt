use Rattle.compare_engines.proofs.Growing.{begun}
use Rattle.compare_engines.proofs.scripts.read_script.Goals as goal

pub loop-reader-init : goal.loop-reader-init
loop-reader-init c = let e = c.new-reader.ensures in begun c.args.text.now c.new-reader.result _ e.0 e.1 e.2 c.new.ensures.items
