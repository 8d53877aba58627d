use Rattle.std.proofs.Common.{◌≡◌, ℕ, ◌+◌, ◌-◌, ◌*◌, ◌≤◌, Bool, true, false, cond, not, ◌&&◌, eqb, leb, List, length, take, drop, Some, None, Option, sym, refl, ap, ◌∙◌, arith}
use Rattle.std.proofs.lemmas.Bool.{and_parts, and_from, leb-true, eqb-true, eq-eqb}
use Rattle.rules.specs.declared.refusals.Refusal.{Refusal}
use Rattle.rules.specs.Refusals.{refusal}
use Rattle.rules.specs.declared.refusals.Reason.TheVariants.{WrongDirectory}
use Rattle.headers.specs.Views.{Parts, Cut}
use Rattle.headers.proofs.Tests.{four_pass}
use Rattle.headers.specs.Header.{offset, size, end, part, starts, wrong_directory, directory_refusal}

-- what a right directory says
pub record Right (b : List ℕ) : Type 0 where
  pub whole : 32 ≤ length b
  pub first : offset b 0 ≡ 32
  pub second : offset b 1 ≡ end b 0
  pub third : offset b 2 ≡ end b 1
  pub fourth : offset b 3 ≡ end b 2
  pub last : end b 3 ≡ length b

pub guard : {X : Type 0} (t : Bool) (e : X) (o : Option X) → cond (not t) (Some e) o ≡ None → (t ≡ true) × (o ≡ None)
guard true e o p = (refl, p)
guard false e o p = let z : ◌≡◌ {A = ℕ} 0 1 = cc in absurd (omega arith)

starts_is : (b : List ℕ) (i w : ℕ) → starts b i w ≡ true → (8 * i + 8 ≤ length b) × (offset b i ≡ w)
starts_is b i w e =
    let p = and_parts (leb (8 * i + 8) (length b)) (eqb (offset b i) w) e in
    (leb-true (8 * i + 8) (length b) p.0, eqb-true (offset b i) w p.1)

pub right_from : (b : List ℕ) → directory_refusal b ≡ None → Right b
right_from b e =
    let t4 : Bool = starts b 3 (end b 2) && eqb (end b 3) (length b) in
    let o4 : Option Refusal = cond (not t4) (wrong_directory 4) None in
    let o3 : Option Refusal = cond (not (starts b 2 (end b 1))) (wrong_directory 3) o4 in
    let o2 : Option Refusal = cond (not (starts b 1 (end b 0))) (wrong_directory 2) o3 in
    let g1 = guard (starts b 0 32) (refusal WrongDirectory 1 0) o2 e in
    let g2 = guard (starts b 1 (end b 0)) (refusal WrongDirectory 2 0) o3 g1.1 in
    let g3 = guard (starts b 2 (end b 1)) (refusal WrongDirectory 3 0) o4 g2.1 in
    let g4 = guard t4 (refusal WrongDirectory 4 0) None g3.1 in
    let l = and_parts (starts b 3 (end b 2)) (eqb (end b 3) (length b)) g4.0 in
    let s1 = starts_is b 0 32 g1.0 in
    let s2 = starts_is b 1 (end b 0) g2.0 in
    let s3 = starts_is b 2 (end b 1) g3.0 in
    let s4 = starts_is b 3 (end b 2) l.0 in
    record { whole = s4.0; first = s1.1; second = s2.1; third = s3.1; fourth = s4.1; last = eqb-true (end b 3) (length b) l.1 }

pub part_is : (b : List ℕ) (i from to : ℕ) → offset b i ≡ from → to ≡ end b i → take (to - from) (drop from b) ≡ part b i
part_is b i from to p q =
    let e : to - from ≡ size b i = omega arith in
    ap (λ n. take n (drop from b)) e ∙ ap (λ n. take (size b i) (drop n b)) (sym p)

-- the ends of the four parts of a right directory, found one after the other
module _ (b : List ℕ) (one two three four : ℕ) (s1 : starts b 0 32 ≡ true) (e1 : one ≡ end b 0) (s2 : starts b 1 one ≡ true) (e2 : two ≡ end b 1)
    (s3 : starts b 2 two ≡ true) (e3 : three ≡ end b 2) (s4 : starts b 3 three ≡ true) (e4 : four ≡ end b 3) (l : four ≡ length b) where
  all_right : directory_refusal b ≡ None
  all_right =
      four_pass (starts b 0 32) (starts b 1 (end b 0)) (starts b 2 (end b 1)) (starts b 3 (end b 2) && eqb (end b 3) (length b)) (refusal WrongDirectory 1 0) (refusal WrongDirectory 2 0) (refusal WrongDirectory 3 0) (refusal WrongDirectory 4 0)
      s1 (ap (starts b 1) (sym e1) ∙ s2) (ap (starts b 2) (sym e2) ∙ s3)
      (and_from (starts b 3 (end b 2)) (eqb (end b 3) (length b)) (ap (starts b 3) (sym e3) ∙ s4) (eq-eqb (end b 3) (length b) (sym e4 ∙ l)))

  pub cut_from : (p : Parts) → p.individuals.now ≡ take (one - 32) (drop 32 b) → p.classes.now ≡ take (two - one) (drop one b) → p.roles.now ≡ take (three - two) (drop two b) →
      p.statements.now ≡ take (four - three) (drop three b) → Cut b p
  cut_from p x c v s =
      let t = right_from b all_right in
      record {
        right = all_right;
        individuals = x ∙ part_is b 0 32 one t.first e1;
        classes = c ∙ part_is b 1 one two (t.second ∙ sym e1) e2;
        roles = v ∙ part_is b 2 two three (t.third ∙ sym e2) e3;
        statements = s ∙ part_is b 3 three four (t.fourth ∙ sym e3) e4;
      }
