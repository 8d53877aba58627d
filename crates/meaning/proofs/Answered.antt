-- What the answers yes, no and clash mean.
use Rattle.std.proofs.Common.{◌≡◌, ℕ, suc, ◌<◌, Bool, true, false, T, ◌⊎◌, List, [], ◌∷◌, sym, refl, subst, inl, inr, arith}
use native.Mathlib.Decide.{ℕ_discrete}
use Rattle.rules.specs.Statements.{letter_of}
use Rattle.rules.specs.declared.statements.Statement.{Statement}
use Rattle.rules.specs.declared.statements.Statement.TheVariants.{Empty}
use Rattle.rules.specs.Places.{At, at_first, at_next}
use Rattle.calculus.specs.Steps.{by, rule_1, rule_4}
use Rattle.calculus.specs.declared.terms.First.TheVariants as first
use Rattle.calculus.specs.declared.terms.Fact.{Fact}
use Rattle.meaning.specs.Interpretations.{Interpretation, SatisfiesAll}
use Rattle.meaning.specs.Theorems.{is_in, Finished, Clash, Always, Countermodel, LeavesOut, YesMeans, NoMeans, ClashMeans}
use Rattle.meaning.specs.Answers.{AnswerRight, VerdictRight}
use Rattle.meaning.specs.declared.answers.Answer.TheVariants as answer
use Rattle.meaning.specs.declared.answers.Verdict.TheVariants as verdict
use Rattle.meaning.proofs.Tests.{decide}
use Rattle.meaning.proofs.Spelling.{field, is_empty, at_view}
use Rattle.meaning.proofs.Preserved.{soundness, clash_refuted}
use Rattle.meaning.proofs.Counter.{countermodels}

-- Some form-c statement has a class that passes the test, or none has.
abbrev Found : (ℕ → Bool) → List Statement → Type 0
Found f ss = (p : ℕ) × (A : ℕ) × At ss p (Empty A) × T (f A)

abbrev NotFound : (ℕ → Bool) → List Statement → Type 0
NotFound f ss = (p A : ℕ) → At ss p (Empty A) → ¬ T (f A)

here? : (f : ℕ → Bool) (s : Statement) → ((A : ℕ) × (s ≡ Empty A) × T (f A)) ⊎ ((A : ℕ) → s ≡ Empty A → ¬ T (f A))
here? f s = elim (ℕ_discrete (letter_of s) 99) [
  | yes e ↦
      let i = is_empty s e in
      elim (decide (f (field s 0))) [
        | inl m ↦ inl (field s 0, i, m)
        | inr m ↦ inr (λ B h g. let j : B ≡ field s 0 = cc in m (subst (λ x. T (f x)) j g))
      ]
  | no e ↦ inr (λ A h g. e (subst (λ x. letter_of x ≡ 99) (sym h) refl))
]

found? : (f : ℕ → Bool) (ss : List Statement) → Found f ss ⊎ NotFound f ss
found? f [] = inr (λ p A a m. omega (arith, a.low))
found? f (s ∷ ss) = elim (here? f s) [
  | inl h ↦ inl (0, h.0, subst (λ x. At (s ∷ ss) 0 x) h.1 (at_first s ss), h.2)
  | inr h ↦ elim (found? f ss) [
    | inl g ↦ inl (suc g.0, g.1, at_next s g.2, g.3)
    | inr g ↦ inr (λ p A a. at_view (¬ T (f A)) p a (λ e t. h A t) (λ q e b. g q A b))
  ]
]

module _ (n k r : ℕ) (ss : List Statement) (marked : Fact → Bool) (finished : Finished n k r ss marked) where
  counter : ¬ Clash ss marked → Countermodel n ss marked
  counter h = countermodels n k r ss finished.proper marked finished.done.closed h

  -- In a clash everything is marked.
  clash_all : (x C : ℕ) → x < n → C < k → Clash ss marked → T (marked (is_in x C))
  clash_all x C l m c = finished.done.closed.leads _ _ (by (rule_4 c.empty m)) (c.found, (finished.done.closed.leads _ _ (by (rule_1 l)) tt, tt))

  yes_all : (x C : ℕ) → x < n → T (marked (is_in x C)) → Always n ss x C
  yes_all x C l h I sat = (soundness n k r ss finished.proper (is_in x C) (finished.done.treed _ h) I sat).1 (I.individual x) (l, refl)

  leaves_out : (x C : ℕ) → x < n → C < k → ¬ T (marked (is_in x C)) → LeavesOut n ss x C
  leaves_out x C l m h =
      let c = counter (λ g. h (clash_all x C l m g)) in
      record { in_model = c.in_model; out = λ g. h ((c.exact x C l).0 g) }

  all_yes : (x C : ℕ) → x < n → C < k → Always n ss x C → T (marked (is_in x C))
  all_yes x C l m h = elim (decide (marked (is_in x C))) [
    | inl g ↦ g
    | inr g ↦ let o = leaves_out x C l m g in absurd (o.out (h o.in_model.model o.in_model.satisfied))
  ]

  refuted : Clash ss marked → (I : Interpretation n) → ¬ SatisfiesAll I ss
  refuted c I sat = clash_refuted n k r ss finished.proper I sat c.member c.empty (finished.done.treed _ c.found)

  -- A clash anywhere is a clash at the individual 0.
  clash : ((I : Interpretation n) → ¬ SatisfiesAll I ss) → Clash ss marked
  clash h = elim (found? (λ A. marked (is_in 0 A)) ss) [
    | inl g ↦ record { place = g.0; class = g.1; member = first.Individual 0; empty = g.2; found = g.3 }
    | inr g ↦
        let c = counter (λ e. g e.place e.class e.empty (clash_all 0 e.class finished.proper.some_individual (finished.proper.well_formed _ _ e.empty).0 e)) in
        absurd (h c.in_model.model c.in_model.satisfied)
  ]

pub yes_means : YesMeans
yes_means n k r ss marked finished x C l m = (yes_all n k r ss marked finished x C l, all_yes n k r ss marked finished x C l m)

pub no_means : NoMeans
no_means n k r ss marked finished x C l m = (leaves_out n k r ss marked finished x C l m, λ o h. o.out (yes_all n k r ss marked finished x C l h o.in_model.model o.in_model.satisfied))

pub clash_means : ClashMeans
clash_means n k r ss marked finished = (refuted n k r ss marked finished, clash n k r ss marked finished)

pub yes_right : AnswerRight true answer.Yes
yes_right n k r ss marked finished x C l m e = (yes_means n k r ss marked finished x C l m).0 (subst (λ b. T b) (sym e) tt)

pub no_right : AnswerRight false answer.No
no_right n k r ss marked finished x C l m e = (no_means n k r ss marked finished x C l m).0 (λ h. subst (λ b. T b) e h)

pub clash_right : VerdictRight true verdict.Clash
clash_right n k r ss marked finished d = (clash_means n k r ss marked finished).0 (d.out tt)

pub sound_right : VerdictRight false verdict.Sound
sound_right n k r ss marked finished d = (counter n k r ss marked finished (λ c. d.back c)).in_model
