use Rattle.std.proofs.Common.{◌≡◌, ℕ, true, List, length, ap, ◌∙◌}
use Rattle.rules.specs.Fits.{all_fit, if_passed, pass}
use Rattle.rules.specs.Formed.{passed_kept}
use Rattle.rules.specs.declared.counts.Counts.{Counts}
use Rattle.rules.specs.declared.statements.Statement.{Statement}
use Rattle.ruletext.specs.Outcome.{Contents}
use Rattle.ruletext.specs.Reading.{Counted}

-- The base has the statements that were read.
pub base_is : (n k r m : ℕ) (ss us ts : List Statement) → us ≡ ss → ts ≡ if_passed (pass n k r m us) us → m ≡ length ss → all_fit n k r ss ≡ true → ts ≡ ss
base_is n k r m ss us ts e h l f = h ∙ ap (λ (vs : List Statement). if_passed (pass n k r m vs) vs) e ∙ passed_kept n k r m ss l f

pub fit_counted : (c : Counts) (s : Contents) → Counted c s → all_fit (length s.individuals) (length s.classes) (length s.roles) s.statements ≡ true
    → all_fit c.individuals c.classes c.roles s.statements ≡ true
fit_counted c s h f = rw (h.individuals, h.classes, h.roles) f
