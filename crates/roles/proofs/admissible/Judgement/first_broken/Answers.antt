use Rattle.std.proofs.Common.{rules}
use Rattle.rules.specs.Formed.{all_formed}
use Rattle.roles.proofs.Finds.{serves_from_slice}
use Rattle.roles.proofs.Judging.{formed_item}
use Rattle.roles.proofs.admissible.Judgement.first_broken.Goals as goal

pub position-requires-clause-callable : goal.position-requires-clause-callable
position-requires-clause-callable g c =
    serves_from_slice _ c.iter.ensures.rest (λ x q k. search rules) (λ p x low is. let h = formed_item _ _ _ _ (all_formed _ _ _ _ c.args.self.now.base.formed) p x.now low is in search rules)
