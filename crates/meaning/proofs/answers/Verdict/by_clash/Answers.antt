use Rattle.std.proofs.Common.{sym, ap, subst}
use Rattle.meaning.specs.Answers.{verdict_for, VerdictRight}
use Rattle.meaning.specs.declared.answers.Verdict.TheVariants as verdict
use Rattle.meaning.proofs.Answered.{clash_means, clash_right, sound_right}
use Rattle.meaning.proofs.answers.Verdict.by_clash.Goals as goal

pub returns-then-found : goal.returns-then-found
returns-then-found c =
    let e = sym c.if-found.true in
    record { value = ap verdict_for e; right = subst (λ b. VerdictRight b verdict.Clash) e clash_right; clash = clash_means }

pub returns-else-found : goal.returns-else-found
returns-else-found c =
    let e = sym c.if-found.false in
    record { value = ap verdict_for e; right = subst (λ b. VerdictRight b verdict.Sound) e sound_right; clash = clash_means }
