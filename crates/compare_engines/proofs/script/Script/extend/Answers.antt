use Rattle.std.proofs.lemmas.List.{take_rest}
use Rattle.compare_engines.proofs.Growing.{extends}
use Rattle.compare_engines.proofs.script.Script.extend.Goals as goal

pub returns : goal.returns
returns c =
    let e = c.in_ok-order.ensures in
    extends _ c.obey.new.self c.args.reader.now c.next_order.new.reader c.go_on.new.reader c.in_ok-order.order _ _ e.0 e.1 e.2 e.3
    (take_rest c.args.reader.now.text.now c.args.reader.now.at) e.4 c.go_on.ensures.moved c.in_ok-obey.ensures
