-- A text has one outcome.
use Rattle.std.proofs.Common.{◌≡◌, ℕ, List, get_or, Ok, Err, Result, sym, ap, ◌∙◌, subst, inl, inr, arith}
use native.Mathlib.Decide.{dec_lt}
use Rattle.rules.specs.Refusals.{refusal as at}
use Rattle.rules.specs.declared.refusals.Refusal.{Refusal}
use Rattle.rules.specs.declared.refusals.Reason.TheVariants as because
use Rattle.rules.specs.declared.statements.Statement.{Statement}
use Rattle.roles.specs.Roles.{Admissible, Breaks, FirstBreaking}
use Rattle.ruletext.specs.Outcome.{Contents, by_text}
use Rattle.ruletext.specs.Means.{Means, Broken, BreaksAt, OneOutcome}

same_ok : (o : Result Contents Refusal) (s t : Contents) → o ≡ Ok s → o ≡ Ok t → s ≡ t
same_ok o s t p q = cc

never : (o : Result Contents Refusal) (s : Contents) (e : Refusal) → o ≡ Ok s → o ≡ Err e → ⊥
never o s e p q = let z : ◌≡◌ {A = ℕ} 0 1 = cc in omega arith

pub unbroken : (ss : List Statement) (p : ℕ) → Admissible ss → Breaks ss p → ⊥
unbroken ss p a b = b.broken (a p b.statement b.at)

pub one_place : (ss : List Statement) (p q : ℕ) → FirstBreaking ss p → FirstBreaking ss q → p ≡ q
one_place ss p q a b = elim (dec_lt p q) [
  | yes low ↦ absurd (b.none_before p low a.breaks)
  | no high ↦ elim (dec_lt q p) [ yes low ↦ absurd (a.none_before q low b.breaks) | no other ↦ omega arith ]
]

broken_admissible : (text : List ℕ) (s : Contents) (e : Refusal) → by_text text ≡ Ok s → Admissible s.statements → Broken text e → ⊥
broken_admissible text s e h a b =
    let same : b.contents ≡ s = same_ok (by_text text) b.contents s b.read h in
    let f : FirstBreaking s.statements b.breaks.place = subst (λ (t : Contents). FirstBreaking t.statements b.breaks.place) same b.breaks.first in
    unbroken s.statements b.breaks.place a f.breaks

same_broken : (s : Contents) (d e : Refusal) → BreaksAt s d → BreaksAt s e → d ≡ e
same_broken s d e a b =
    let p = one_place s.statements a.place b.place a.first b.first in
    a.is ∙ ap (λ (n : ℕ). at because.NotAdmissible (get_or s.lines n 0) 1) p ∙ sym b.is

two_refusals : (text : List ℕ) (d e : Refusal) → Means text (Err d) → Means text (Err e) → d ≡ e
two_refusals text d e (inl p) (inl q) = cc
two_refusals text d e (inl p) (inr b) = absurd (never (by_text text) b.contents d b.read p)
two_refusals text d e (inr a) (inl q) = absurd (never (by_text text) a.contents e a.read q)
two_refusals text d e (inr a) (inr b) =
    let same : a.contents ≡ b.contents = same_ok (by_text text) a.contents b.contents a.read b.read in
    same_broken b.contents d e (subst (λ (s : Contents). BreaksAt s d) same a.breaks) b.breaks

ok_err : (text : List ℕ) (s : Contents) (e : Refusal) → Means text (Ok s) → Means text (Err e) → ⊥
ok_err text s e p (inl q) = never (by_text text) s e p.0 q
ok_err text s e p (inr b) = broken_admissible text s e p.0 p.1 b

pub one_outcome : (text : List ℕ) → OneOutcome text
one_outcome text (Ok s) (Ok t) p q = ap Ok (same_ok (by_text text) s t p.0 q.0)
one_outcome text (Ok s) (Err e) p q = absurd (ok_err text s e p q)
one_outcome text (Err e) (Ok s) p q = absurd (ok_err text s e q p)
one_outcome text (Err d) (Err e) p q = ap Err (two_refusals text d e p q)
