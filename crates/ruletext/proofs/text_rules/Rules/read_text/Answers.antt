use Rattle.ruletext.proofs.Fitted.{text_fits}
use Rattle.ruletext.proofs.Admitted.{fit_counted}
use Rattle.ruletext.proofs.text_rules.Rules.read_text.Goals as goal

pub admit-requires : goal.admit-requires
admit-requires c =
    let q = c.in_ok-counts.ensures in
    (q.1, fit_counted c.in_ok-counts.counts _ q.1 (text_fits c.args.text.now _ q.0))
