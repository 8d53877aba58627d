use Rattle.std.proofs.Common.{◌≡◌, Some, None}
use Rattle.std.proofs.lemmas.Result.{err_from_is_err_and}
use Rattle.ruletext.specs.Reading.{contents}
use Rattle.survey.specs.declared.report.NoSurvey.TheVariants.{Full}
use Rattle.survey.proofs.Told.{facts_told}
use Rattle.survey.proofs.report.tell.Goals as goal

pub returns-in_err-facts : goal.returns-in_err-facts
returns-in_err-facts c =
    let p = err_from_is_err_and c.from_residual-in_err-facts.result c.from_residual-in_err-facts.ensures.1 in
    let none = c.in_err-facts.ensures.ok_part in
    let full : c.in_err-facts.field-0.0 ≡ Full = cc (rw none at c.in_err-facts.ensures.value) in
    let told = c.in_ok-counts.ensures in
    let new = c.new-base.ensures in
    rw (p.1, p.2, full)
    (told.0, facts_told c.args.input.now (contents c.judge.new.rules) told.0 c.in_ok-counts.counts told.1 _ _ c.as_slice.ensures.value new.statements _ _ _ new.individuals new.classes new.roles c.args.slots.now c.count_facts.new.slots None (rw none at c.count_facts.ensures))

pub returns : goal.returns
returns c =
    let some = c.in_ok-facts.ensures.ok_part in
    let told = c.in_ok-counts.ensures in
    let new = c.new-base.ensures in
    (told.0, told.1, facts_told c.args.input.now (contents c.judge.new.rules) told.0 c.in_ok-counts.counts told.1 _ _ c.as_slice.ensures.value new.statements _ _ _ new.individuals new.classes new.roles c.args.slots.now c.count_facts.new.slots (Some c.in_ok-facts.facts) (rw some at c.count_facts.ensures))
