-- What is told of a text that is accepted: the facts of its own counts and statements.
use Rattle.std.proofs.Common.{◌≡◌, ℕ, List, length, Ok, Option, ◌∙◌, subst, arith}
use native.Mathlib.Decide.{dec_lt}
use Rattle.rules.specs.Fits.{if_passed, pass}
use Rattle.rules.specs.declared.counts.Counts.{Counts}
use Rattle.rules.specs.declared.statements.Statement.{Statement}
use Rattle.ruletext.specs.Outcome.{Contents, by_text}
use Rattle.ruletext.specs.Reading.{Counted}
use Rattle.ruletext.specs.Verdicts.{Judged}
use Rattle.ruletext.proofs.Fitted.{text_fits}
use Rattle.ruletext.proofs.Admitted.{base_is, fit_counted}
use Rattle.survey.specs.Facts.{FactsCounted, FactsOf}

judged_text : (input : List ℕ) (s : Contents) → Judged input (Ok s) → by_text input ≡ Ok s
judged_text input s j = elim (dec_lt 16384 (length input)) [
  | yes l ↦ let h = j.long l in let z : ◌≡◌ {A = ℕ} 0 1 = cc in absurd (omega arith)
  | no l ↦ (j.text (omega arith)).0
]

-- The counts and the statements of the base, n, k, r and ts, are those that were read.
pub facts_told : (input : List ℕ) (s : Contents) → Judged input (Ok s) → (c : Counts) → Counted c s → (us ts : List Statement) → us ≡ s.statements
    → ts ≡ if_passed (pass c.individuals c.classes c.roles c.statements us) us → (n k r : ℕ) → n ≡ c.individuals → k ≡ c.classes → r ≡ c.roles
    → (before slots : List (Option ℕ)) (o : Option ℕ) → FactsCounted n k r ts before slots o → FactsOf s before slots o
facts_told input s j c h us ts ue te n k r ne ke re before slots o f =
    let fit = fit_counted c s h (text_fits input s (judged_text input s j)) in
    let same : ts ≡ s.statements = base_is c.individuals c.classes c.roles c.statements s.statements us ts ue te h.statements fit in
    subst (λ (x : ℕ). FactsCounted x (length s.classes) (length s.roles) s.statements before slots o) (ne ∙ h.individuals)
    (subst (λ (x : ℕ). FactsCounted n x (length s.roles) s.statements before slots o) (ke ∙ h.classes)
    (subst (λ (x : ℕ). FactsCounted n k x s.statements before slots o) (re ∙ h.roles)
    (subst (λ (xs : List Statement). FactsCounted n k r xs before slots o) same f)))
