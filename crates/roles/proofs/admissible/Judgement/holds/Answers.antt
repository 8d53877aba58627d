use Rattle.std.proofs.Common.{ap, ◌∙◌}
use Rattle.std.proofs.lemmas.Bool.Decides.{Decides-at}
use Rattle.rules.specs.Formed.{all_formed}
use Rattle.roles.proofs.Deciding.{judged}
use Rattle.roles.proofs.admissible.Judgement.holds.Goals as goal

pub returns : goal.returns
returns g c =
    let base = c.args.self.now.base in
    let j = judged _ _ _ _ (all_formed _ _ _ _ base.formed) _ c.args.self.now.judged in
    Decides-at _ _ (c.has.ensures ∙ ap (g.S.MarkStore.held c.args.self.now.marks.now) c.number.ensures) (j.tells c.args.fact c.requires)
