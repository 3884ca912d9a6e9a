use Rattle.augmenting.proofs.Augmenting.{spelled_inside, spelled_once, spelled_takes, augments}
use Rattle.augmenting.proofs.augmenter.Augmenter.augment.Goals as goal

pub least_weight-amount-requires-clause-inside : goal.least_weight-amount-requires-clause-inside
least_weight-amount-requires-clause-inside g c =
    spelled_inside c.args.self.now.table.now c.args.source c.args.goal c.best_path.new.labels _ c.requires.source c.in_ok-best_path.ensures.answer

pub push-requires-clause-takes : goal.push-requires-clause-takes
push-requires-clause-takes g c =
    spelled_takes c.args.self.now.table.now c.args.source c.args.goal c.best_path.new.labels _ c.requires.source c.in_ok-best_path.ensures.answer c.args.most c.least_weight-amount.result c.least_weight-amount.ensures

pub push-requires-clause-once : goal.push-requires-clause-once
push-requires-clause-once g c =
    spelled_once c.args.self.now.table.now c.args.source c.args.goal c.best_path.new.labels _ c.requires.source c.in_ok-best_path.ensures.answer

pub returns-clause-answer : goal.returns-clause-answer
returns-clause-answer g c =
    augments c.args.self.now.table.now c.args.source c.args.goal c.best_path.new.labels _ c.requires.source c.in_ok-best_path.ensures.answer c.args.most c.least_weight-amount.result c.least_weight-amount.ensures
    c.requires.some _ c.push.ensures.flow
