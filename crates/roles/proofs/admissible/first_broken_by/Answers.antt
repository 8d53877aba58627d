use Rattle.std.proofs.Common.{arith}
use Rattle.std.proofs.lemmas.Grind.{merely}
use Rattle.rules.specs.Formed.{all_formed}
use Rattle.roles.proofs.Searching.{numbers_few}
use Rattle.roles.proofs.Judging.{judged_after}
use Rattle.roles.proofs.admissible.first_broken_by.Goals as goal

pub invariant_of-judgement : goal.invariant_of-judgement
invariant_of-judgement g c =
    let base = c.args.rules.now.base in
    let few = numbers_few base.counts.classes base.counts.roles base.counts.few_classes base.counts.few_roles in
    record { judged = merely (judged_after _ _ _ _ (all_formed _ _ _ _ base.formed) _ _ _ _ _ _ c.mark.result c.requires.limit c.requires.capacity (omega (arith, few)) c.requires.empty c.mark.ensures.marking) }
