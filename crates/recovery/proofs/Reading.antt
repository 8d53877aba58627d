-- The two parts of a recovery file.
use Rattle.std.proofs.Common.{◌≡◌, ℕ, ◌-◌, ◌%◌, Bool, true, false, cond, not, ◌&&◌, eqb, leb, List, length, take, drop, Some, None, sym, refl, ap, ◌∙◌, arith}
use Rattle.std.proofs.lemmas.Bool.{and_parts, and_from, eqb-true, eq-eqb, ne_eqb, cond-true, cond-false}
use Rattle.rules.specs.Refusals.{refusal}
use Rattle.rules.specs.declared.refusals.Reason.TheVariants.{WrongDirectory, WrongContent}
use Rattle.rules.specs.declared.refusals.Refusal.{Refusal}
use Rattle.headers.specs.Bytes.{even}
use Rattle.headers.specs.Header.{offset, end, part, starts, wrong_content}
use Rattle.headers.proofs.Rights.{part_is}
use Rattle.recovery.specs.Recovery.{recovery_refusal, CutRecovery}

three_pass : {X : Type 0} (a b c : Bool) (p q r : X) → a ≡ true → b ≡ true → cond (not a) (Some p) (cond (not b) (Some q) (cond (not c) (Some r) None)) ≡ cond c None (Some r)
three_pass true true true p q r e f = refl
three_pass true true false p q r e f = refl
three_pass false b c p q r e f = let z : ◌≡◌ {A = ℕ} 0 1 = cc in absurd (omega arith)
three_pass true false c p q r e f = let z : ◌≡◌ {A = ℕ} 0 1 = cc in absurd (omega arith)

module _ (b : List ℕ) (one two : ℕ) (t1 : starts b 0 16 ≡ true) (e1 : one ≡ end b 0) (t2 : starts b 1 one ≡ true) (e2 : two ≡ end b 1) (l : two ≡ length b) where
  o1 : offset b 0 ≡ 16
  o1 = eqb-true (offset b 0) 16 (and_parts (leb 8 (length b)) (eqb (offset b 0) 16) t1).1

  o2 : offset b 1 ≡ one
  o2 = eqb-true (offset b 1) one (and_parts (leb 16 (length b)) (eqb (offset b 1) one) t2).1

  entries_are : take (two - one) (drop one b) ≡ part b 1
  entries_are = part_is b 1 one two o2 e2

  refusal_is : recovery_refusal b ≡ cond (even 14 (part b 1)) None (wrong_content 2)
  refusal_is = three_pass (starts b 0 16) (starts b 1 (end b 0) && eqb (end b 1) (length b)) (even 14 (part b 1)) (refusal WrongDirectory 1 0) (refusal WrongDirectory 2 0) (refusal WrongContent 2 0) t1
      (and_from (starts b 1 (end b 0)) (eqb (end b 1) (length b)) (ap (starts b 1) (sym e1) ∙ t2) (eq-eqb (end b 1) (length b) (sym e2 ∙ l)))

  pub uneven : (e : Refusal) → e ≡ refusal WrongContent 2 0 → (length (take (two - one) (drop one b)) % 14 ≡ 0 → ⊥) → recovery_refusal b ≡ Some e
  uneven e is n = refusal_is ∙ (cond-false (even 14 (part b 1)) None (wrong_content 2) (ap (even 14) (sym entries_are) ∙ ne_eqb (length (take (two - one) (drop one b)) % 14) 0 n) ∙ ap Some (sym is))

  pub recovery_from : length (take (two - one) (drop one b)) % 14 ≡ 0 → CutRecovery b (take (one - 16) (drop 16 b)) (take (two - one) (drop one b))
  recovery_from n = record {
    right = refusal_is ∙ cond-true (even 14 (part b 1)) None (wrong_content 2) (ap (even 14) (sym entries_are) ∙ eq-eqb (length (take (two - one) (drop one b)) % 14) 0 n);
    header' = part_is b 0 16 one o1 e1;
    entries' = entries_are;
  }
