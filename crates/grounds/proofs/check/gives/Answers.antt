use Rattle.std.proofs.Common.{◌≡◌, ◌+◌, ◌<◌, ◌≤◌, length, get_or, sym, ap, ◌∙◌, arith, ltb-true, ltb-false, Bool, subst}
use Rattle.calculus.specs.Tests.{Decides}
use Rattle.rules.specs.Formed.{all_formed}
use Rattle.std.proofs.lemmas.List.{get_or_default}
use Rattle.rules.specs.Places.{place}
use Rattle.grounds.specs.Given.{GivesHeld}
use Rattle.grounds.proofs.Ways.{by_no_statement, by_statement_at, by_no_place}
use Rattle.grounds.proofs.check.gives.Goals as goal

pub returns-in_default : goal.returns-in_default
returns-in_default g c =
    let b = c.args.base in
    let none : c.args.ground.place ≡ 0 = omega (arith, c.in_default.ensures) in
    by_no_statement b.counts.individuals b.counts.classes b.counts.roles b.statements.now (g.S.MarkStore.held c.args.store.now) (all_formed b.counts.individuals b.counts.classes b.counts.roles b.statements.now b.formed) (omega (arith, b.counted, b.counts.few_statements)) c.args.fact c.args.ground c.unplaced_gives.result none c.unplaced_gives.ensures

pub returns-in_default-get : goal.returns-in_default-get
returns-in_default-get g c =
    let b = c.args.base in
    let e : c.args.ground.place ≡ c.in-Some.p + 1 = omega (arith, c.in-Some.ensures) in
    let l : length b.statements.now ≤ c.from.result = ltb-false c.from.result (length b.statements.now) (sym c.in_default-get.ensures.lookup.0) in
    subst (λ (t : Bool). Decides t (GivesHeld b.counts.individuals b.counts.classes b.counts.roles b.statements.now (g.S.MarkStore.held c.args.store.now) c.args.ground c.args.fact)) (grind (arith, l, c.from.ensures))
    (by_no_place b.counts.individuals b.counts.classes b.counts.roles b.statements.now (g.S.MarkStore.held c.args.store.now) (all_formed b.counts.individuals b.counts.classes b.counts.roles b.statements.now b.formed) (omega (arith, b.counted, b.counts.few_statements)) c.args.fact c.args.ground c.in-Some.p e (omega (arith, l, c.from.ensures)))

pub returns : goal.returns
returns g c =
    let b = c.args.base in
    let p = c.in-Some.p in
    let e : c.args.ground.place ≡ p + 1 = omega (arith, c.in-Some.ensures) in
    let l : c.from.result < length b.statements.now = ltb-true c.from.result (length b.statements.now) (sym c.in-Some-get.ensures.lookup.0) in
    let q : place b.statements.now p ≡ c.in-Some-get.statement.now = get_or_default b.statements.now p _ _ (omega (arith, l, c.from.ensures)) ∙ ap (λ o. get_or b.statements.now o c.in-Some-get.statement.now) (sym c.from.ensures) ∙ sym c.in-Some-get.ensures.lookup.1 in
    by_statement_at b.counts.individuals b.counts.classes b.counts.roles b.statements.now (g.S.MarkStore.held c.args.store.now) (all_formed b.counts.individuals b.counts.classes b.counts.roles b.statements.now b.formed) (omega (arith, b.counted, b.counts.few_statements)) c.args.fact c.args.ground c.placed_gives.result p c.in-Some-get.statement.now (record { low = omega (arith, l, c.from.ensures); is = q }) e c.placed_gives.ensures
