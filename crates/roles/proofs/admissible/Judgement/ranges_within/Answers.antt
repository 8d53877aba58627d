use Rattle.std.proofs.Common.{ℕ, rules, refl, arith}
use borrow.Author.Tests.{tests}
use Rattle.std.proofs.lemmas.Iterator.{cases_from_all, YieldsList-from_range}
use Rattle.rules.specs.Formed.{all_formed}
use Rattle.roles.specs.Roles.{IsCovered}
use Rattle.roles.proofs.Finds.{all_below}
use Rattle.roles.proofs.Judging.{within_told}
use Rattle.roles.proofs.admissible.Judgement.ranges_within.Goals as goal

pub returns : goal.returns
returns g c =
    let base = c.args.self.now.base in
    let k = base.counts.classes in
    let P : ℕ → Type 0 = λ D. IsCovered base.statements.now c.args.role c.args.left c.args.right D in
    let all = all_below c.all.result k P (λ D. ¬ P D) (cases_from_all _ _ _ P (λ D. ¬ P D) c.all.ensures.ran (YieldsList-from_range 0 k k refl (omega arith)) (λ x q t. search (rules, tests)) (λ x q t. search (rules, tests))) in
    within_told _ _ _ _ (all_formed _ _ _ _ base.formed) _ _ _ _ all
