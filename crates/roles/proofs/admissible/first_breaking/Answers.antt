use Rattle.std.proofs.Common.{◌≡◌, length, ap}
use Rattle.rules.specs.Refusals.{refusal}
use Rattle.rules.specs.declared.refusals.Reason.TheVariants.{StoreTooSmall}
use Rattle.wordtable.proofs.Masks.{cleared_none}
use Rattle.roles.proofs.Judging.{ready}
use Rattle.roles.proofs.admissible.first_breaking.Goals as goal

pub first_broken_by-requires-clause-empty : goal.first_broken_by-requires-clause-empty
first_broken_by-requires-clause-empty c =
    let counts = c.args.base.now.counts in
    let long : length c.over-table.result.words.now ≡ 129 = ap length c.over-table.ensures.memory in
    let h = ready c.over-table.result.words.now c.set_up.new.self.words.now _ _ _ _ _ (λ e. e ≡ refusal StoreTooSmall 0 0) c.set_up.result long counts.few_classes counts.few_roles c.bound.ensures c.set_up.ensures.made in
    cleared_none _ _ _ h.1
