use Rattle.std.proofs.Common.{sym, ◌∙◌, arith}
use Rattle.headers.proofs.Lines.{names_step, names_count, names_end, names_open, none_none, shorter}
use Rattle.headers.proofs.names.count_names.Goals as goal

pub loop-one-smaller : goal.loop-one-smaller
loop-one-smaller c =
    shorter c.loop-one.rest.now c.in-Some.one.now c.in-Some.after.now c.in-Some.ensures.0

pub loop-one-preserved : goal.loop-one-preserved
loop-one-preserved c =
    let f = c.in-Some.ensures in
    let i = c.loop-one.invariant in
    let n = names_step c.loop-one.rest.now c.in-Some.one.now c.in-Some.after.now f.0 f.1 (sym c.if-not-is_name.ensures) (sym c.if-is_in.ensures) in
    let k = names_count c.loop-one.rest.now c.in-Some.one.now c.in-Some.after.now f.0 f.1 in
    let s = shorter c.loop-one.rest.now c.in-Some.one.now c.in-Some.after.now f.0 in
    (i.0 ∙ n, omega (arith, i.1), omega (arith, i.2))

pub returns-then-rest-eq0 : goal.returns-then-rest-eq0
returns-then-rest-eq0 c =
    let i = c.loop-one.invariant in
    let n = c.in_default.ensures in
    (i.0 ∙ names_end c.loop-one.rest.now n c.if-rest-eq0.true, omega (arith, i.1, none_none c.loop-one.rest.now n))

pub returns-else-rest-eq0 : goal.returns-else-rest-eq0
returns-else-rest-eq0 c =
    c.loop-one.invariant.0 ∙ names_open c.loop-one.rest.now c.in_default.ensures c.if-rest-eq0.false
