-- Tests in a row, and what was found.
use Rattle.std.proofs.Common.{◌≡◌, ℕ, Bool, true, false, cond, not, Some, None, Option, MatchOption, refl, subst, arith}

-- four tests in a row that all pass
pub four_pass : {X : Type 0} (a b c d : Bool) (p q r s : X) → a ≡ true → b ≡ true → c ≡ true → d ≡ true → cond (not a) (Some p) (cond (not b) (Some q) (cond (not c) (Some r) (cond (not d) (Some s) None))) ≡ None
four_pass true true true true p q r s e f g h = refl
four_pass false b c d p q r s e f g h = let z : ◌≡◌ {A = ℕ} 0 1 = cc in absurd (omega arith)
four_pass true false c d p q r s e f g h = let z : ◌≡◌ {A = ℕ} 0 1 = cc in absurd (omega arith)
four_pass true true false d p q r s e f g h = let z : ◌≡◌ {A = ℕ} 0 1 = cc in absurd (omega arith)
four_pass true true true false p q r s e f g h = let z : ◌≡◌ {A = ℕ} 0 1 = cc in absurd (omega arith)

-- what is known of an option that has a value
pub found : {X : Type 0} (P : Type 0) (Q : X → Type 0) (o : Option X) (x : X) → o ≡ Some x → MatchOption o P Q → Q x
found P Q o x e h = subst (λ z. MatchOption z P Q) e h
