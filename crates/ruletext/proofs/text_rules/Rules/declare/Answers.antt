use Rattle.std.proofs.Common.{arith}
use Rattle.std.proofs.lemmas.Result.{err_from_is_err_and}
use Rattle.reader.specs.Text.{words}
use Rattle.ruletext.specs.Reading.{contents}
use Rattle.ruletext.proofs.Given.{given}
use Rattle.ruletext.proofs.Declared.{d_not_two, d_no_name, d_before, d_full, d_put}
use Rattle.ruletext.proofs.text_rules.Rules.declare.Goals as goal

pub returns-then-last_word-ne2 : goal.returns-then-last_word-ne2
returns-then-last_word-ne2 c = d_not_two c.args.said.rest.line c.args.said.rest.word c.last_word.result (contents c.args.self.now) c.args.kind (words c.args.said.rest.here.now) c.args.said.second c.last_word.ensures c.if-last_word-ne2.true c.at.result c.at.ensures

pub returns-in_err-check_names : goal.returns-in_err-check_names
returns-in_err-check_names c =
    let p = err_from_is_err_and c.from_residual.result c.from_residual.ensures.1 in
    rw (p.1, p.2)
    (d_no_name c.args.said.rest.line c.args.said.rest.word c.last_word.result (contents c.args.self.now) c.args.kind (words c.args.said.rest.here.now) c.args.said.second c.last_word.ensures
    (omega arith) c.check_names.result c.check_names.ensures c.in_err-check_names.field-0.0 c.in_err-check_names.was)

pub returns-then-is_some : goal.returns-then-is_some
returns-then-is_some c =
    let q = rw (given c.next_word.result c.at-2.result c.in_ok-word.word c.in_ok-word.ensures.value) at c.next_word.ensures in
    d_before c.args.said.rest.line c.args.said.rest.word c.last_word.result (contents c.args.self.now) c.args.kind (words c.args.said.rest.here.now) c.args.said.second c.last_word.ensures
    (omega arith) c.check_names.result c.check_names.ensures tt c.in_ok-check_names.was
    c.in_ok-word.word.bytes.now _ q.taken c.in_ok-word.word.line c.in_ok-word.word.word q.in_line q.in_word
    c.names-names.result.now c.names-names.ensures c.find.result c.find.ensures c.is_some.result c.is_some.ensures
    c.if-is_some.true c.at-then-is_some.result c.at-then-is_some.ensures

pub returns-then-names-limit : goal.returns-then-names-limit
returns-then-names-limit c =
    let q = rw (given c.next_word.result c.at-2.result c.in_ok-word.word c.in_ok-word.ensures.value) at c.next_word.ensures in
    d_full c.args.said.rest.line c.args.said.rest.word c.last_word.result (contents c.args.self.now) c.args.kind (words c.args.said.rest.here.now) c.args.said.second c.last_word.ensures
    (omega arith) c.check_names.result c.check_names.ensures tt c.in_ok-check_names.was
    c.in_ok-word.word.bytes.now _ q.taken c.in_ok-word.word.line c.in_ok-word.word.word q.in_line q.in_word
    c.names-names.result.now c.names-names.ensures c.find.result c.find.ensures c.is_some.result c.is_some.ensures
    c.if-is_some.false c.limit.result c.limit.ensures c.if-names-limit.true c.at-then-names-limit.result c.at-then-names-limit.ensures

pub returns : goal.returns
returns c =
    let q = rw (given c.next_word.result c.at-2.result c.in_ok-word.word c.in_ok-word.ensures.value) at c.next_word.ensures in
    d_put c.args.said.rest.line c.args.said.rest.word c.last_word.result (contents c.args.self.now) c.args.kind (words c.args.said.rest.here.now) c.args.said.second c.last_word.ensures
    (omega arith) c.check_names.result c.check_names.ensures tt c.in_ok-check_names.was
    c.in_ok-word.word.bytes.now _ q.taken c.in_ok-word.word.line c.in_ok-word.word.word q.in_line q.in_word
    c.names-names.result.now c.names-names.ensures c.find.result c.find.ensures c.is_some.result c.is_some.ensures
    c.if-is_some.false c.limit.result c.limit.ensures c.if-names-limit.false _ c.put_name.ensures
