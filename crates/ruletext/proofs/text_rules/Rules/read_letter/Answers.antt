use Rattle.std.proofs.Common.{vec_items, ◌∙◌, arith}
use Rattle.std.proofs.lemmas.Result.{err_from_is_err_and, MatchResult-weaker}
use Rattle.reader.specs.Text.{words}
use Rattle.ruletext.specs.Reading.{contents}
use Rattle.ruletext.proofs.Given.{given, missing}
use Rattle.ruletext.proofs.Lined.{l_declares, l_unknown, l_refused, l_full, l_stated}
use Rattle.ruletext.proofs.text_rules.Rules.read_letter.Goals as goal

pub returns-in-Some : goal.returns-in-Some
returns-in-Some c =
    let same = l_declares c.args.said.rest.line (contents c.args.self.now) c.args.said.letter (words c.args.said.rest.here.now) c.kind_of.result c.kind_of.ensures c.in-Some.kind c.in-Some.is in
    MatchResult-weaker c.declare.result c.declare.ensures (λ x p. same ∙ p) (λ e p. same ∙ p)

pub returns-in_err-kinds : goal.returns-in_err-kinds
returns-in_err-kinds c =
    let p = err_from_is_err_and c.from_residual.result c.from_residual.ensures.1 in
    let r = missing c.field_kinds.result c.at.result c.in_err-kinds.field-0.0 c.in_err-kinds.ensures.value in
    rw (p.1, p.2) (l_unknown c.args.said.rest.line (contents c.args.self.now) c.args.said.letter (words c.args.said.rest.here.now) c.kind_of.result c.kind_of.ensures c.in_default.is c.field_kinds.result c.field_kinds.ensures r.none c.in_err-kinds.field-0.0 (r.is ∙ c.at.ensures))

pub returns-in_err-statement : goal.returns-in_err-statement
returns-in_err-statement c =
    let p = err_from_is_err_and c.from_residual-in_err-statement.result c.from_residual-in_err-statement.ensures.1 in
    rw (p.1, p.2)
    (l_refused c.args.said.rest.line (contents c.args.self.now) c.args.said.letter (words c.args.said.rest.here.now) c.kind_of.result c.kind_of.ensures c.in_default.is c.field_kinds.result c.field_kinds.ensures
    c.in_ok-kinds.kinds (given c.field_kinds.result c.at.result c.in_ok-kinds.kinds c.in_ok-kinds.ensures.value) c.stated.result c.stated.ensures c.in_err-statement.field-0.0 c.in_err-statement.was)

pub returns-then-len-ge384 : goal.returns-then-len-ge384
returns-then-len-ge384 c =
    l_full c.args.said.rest.line (contents c.args.self.now) c.args.said.letter (words c.args.said.rest.here.now) c.kind_of.result c.kind_of.ensures c.in_default.is c.field_kinds.result c.field_kinds.ensures
    c.in_ok-kinds.kinds (given c.field_kinds.result c.at.result c.in_ok-kinds.kinds c.in_ok-kinds.ensures.value) c.stated.result c.stated.ensures c.in_ok-statement.statement c.in_ok-statement.was
    (omega (arith, c.args.self.now.statements.ok.0, c.len.ensures, c.if-len-ge384.true)) c.at-then-len-ge384.result c.at-then-len-ge384.ensures

pub returns : goal.returns
returns c =
    l_stated c.args.said.rest.line (contents c.args.self.now) c.args.said.letter (words c.args.said.rest.here.now) c.kind_of.result c.kind_of.ensures c.in_default.is c.field_kinds.result c.field_kinds.ensures
    c.in_ok-kinds.kinds (given c.field_kinds.result c.at.result c.in_ok-kinds.kinds c.in_ok-kinds.ensures.value) c.stated.result c.stated.ensures c.in_ok-statement.statement c.in_ok-statement.was
    (omega (arith, c.args.self.now.statements.ok.0, c.len.ensures, c.if-len-ge384.false)) (vec_items c.push_reserved.new.self) c.push_reserved.ensures.items (vec_items c.push_reserved-2.new.self) c.push_reserved-2.ensures.items
