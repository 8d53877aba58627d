-- A header has one outcome, and what is written is accepted.
use Rattle.std.proofs.Common.{◌≡◌, ℕ, List, Ok, Err, Result, sym, ap, ◌∙◌, subst, inl, inr, arith}
use Rattle.rules.specs.Refusals.{refusal}
use Rattle.rules.specs.declared.refusals.Refusal.{Refusal}
use Rattle.rules.specs.declared.refusals.Reason.TheVariants.{NotAdmissible}
use Rattle.roles.specs.Roles.{FirstBreaking}
use Rattle.headers.specs.Header.{Header, decode}
use Rattle.headers.proofs.Forward.{read_back}
use Rattle.headers.proofs.Backward.{only_one}
use Rattle.ruletext.proofs.One.{unbroken, one_place}
use Rattle.intake.specs.Outcomes.{HeaderMeans, Broken, OneHeaderOutcome, AcceptedBack, OnlyOneAccepted}

same_ok : (o : Result Header Refusal) (h i : Header) → o ≡ Ok h → o ≡ Ok i → h ≡ i
same_ok o h i p q = cc

never : (o : Result Header Refusal) (h : Header) (e : Refusal) → o ≡ Ok h → o ≡ Err e → ⊥
never o h e p q = let z : ◌≡◌ {A = ℕ} 0 1 = cc in omega arith

module _ (b : List ℕ) where
  broken_at : (h : Header) (e : Refusal) → decode b ≡ Ok h → (f : Broken b e) → FirstBreaking h.statements f.place
  broken_at h e d f = subst (λ (i : Header). FirstBreaking i.statements f.place) (same_ok (decode b) f.header h f.formed d) f.first

  two_refusals : (d e : Refusal) → HeaderMeans b (Err d) → HeaderMeans b (Err e) → d ≡ e
  two_refusals d e (inl p) (inl q) = cc
  two_refusals d e (inl p) (inr f) = absurd (never (decode b) f.header d f.formed p)
  two_refusals d e (inr f) (inl q) = absurd (never (decode b) f.header e f.formed q)
  two_refusals d e (inr f) (inr g) =
      let p = one_place g.header.statements f.place g.place (broken_at g.header d g.formed f) g.first in
      f.is ∙ ap (λ (n : ℕ). refusal NotAdmissible n 0) p ∙ sym g.is

  ok_err : (h : Header) (e : Refusal) → HeaderMeans b (Ok h) → HeaderMeans b (Err e) → ⊥
  ok_err h e p (inl q) = never (decode b) h e p.0 q
  ok_err h e p (inr f) = unbroken h.statements f.place p.1 (broken_at h e p.0 f).breaks

  pub one_header : OneHeaderOutcome b
  one_header (Ok h) (Ok i) p q = ap Ok (same_ok (decode b) h i p.0 q.0)
  one_header (Ok h) (Err e) p q = absurd (ok_err h e p q)
  one_header (Err e) (Ok h) p q = absurd (ok_err h e q p)
  one_header (Err d) (Err e) p q = ap Err (two_refusals d e p q)

pub accepted_back : AcceptedBack
accepted_back h p a = (read_back h p, a)

pub only_accepted : OnlyOneAccepted
only_accepted b c h y z p q = only_one b c h y z p.0 q.0
