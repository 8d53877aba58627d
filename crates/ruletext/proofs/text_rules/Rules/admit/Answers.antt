use Rattle.std.proofs.Common.{vec_items, subst}
use Rattle.roles.specs.Roles.{Admissible}
use Rattle.ruletext.proofs.Admitted.{base_is}
use Rattle.ruletext.proofs.text_rules.Rules.admit.Goals as goal

pub returns-in-None : goal.returns-in-None
returns-in-None c =
    let counts = c.args.counts in
    let same = base_is counts.individuals counts.classes counts.roles counts.statements (vec_items c.args.self.now.statements) _ _ c.as_slice.ensures.value c.new-base.ensures.statements c.requires.0.statements c.requires.1 in
    subst Admissible same c.in-None.ensures
