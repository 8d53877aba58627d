use Rattle.std.proofs.Common.{vec_items, vec_len, ◌∙◌}
use Rattle.std.proofs.lemmas.Result.{MatchResult-weaker}
use Rattle.ruletext.specs.Reading.{contents}
use Rattle.ruletext.proofs.Lined.{c_within, c_outside, long}
use Rattle.ruletext.proofs.text_rules.Rules.counts.Goals as goal

pub returns : goal.returns
returns c =
    let s = c.args.self.now in
    let i = long (vec_items s.individuals) c.len.result (vec_len s.individuals) c.len.ensures s.individuals.ok.0 in
    let k = long (vec_items s.classes) c.len-2.result (vec_len s.classes) c.len-2.ensures s.classes.ok.0 in
    let r = long (vec_items s.roles) c.len-3.result (vec_len s.roles) c.len-3.ensures s.roles.ok.0 in
    MatchResult-weaker c.new.result c.new.ensures
    (λ x p. (
      c_within (contents s) c.len.result c.len-2.result c.len-3.result c.len-4.result i k r (c.len-4.ensures ∙ s.statements.ok.0) p.0,
      record { individuals = p.1 ∙ i; classes = p.2 ∙ k; roles = p.3 ∙ r; statements = p.4 ∙ c.len-4.ensures ∙ s.statements.ok.0 },
    ))
    (λ e p. c_outside (contents s) c.len.result c.len-2.result c.len-3.result c.len-4.result i k r (c.len-4.ensures ∙ s.statements.ok.0) p.0 e p.1)
