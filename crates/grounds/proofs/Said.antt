-- What the lines of a statement say of a ground.
use Rattle.std.proofs.Common.{◌≡◌, sym, subst, ◌∙◌, ℕ, ◌+◌, ◌<◌, Bool, true, false, T, List, length, drop, get_or, ⊎_elim, Option, Some}
use Rattle.std.proofs.lemmas.Option.{same_Some}
use Rattle.calculus.specs.Trees.{In}
use Rattle.calculus.specs.Tests.{Decides}
use Rattle.calculus.specs.declared.terms.Ground.{Ground}
use Rattle.calculus.specs.declared.terms.Fact.{Fact}
use Rattle.linetable.specs.Fitting.{in_at, in_next}
use Rattle.linetable.specs.declared.shapes.Key.{Key}
use Rattle.linetable.specs.declared.shapes.Line.{Line}
use Rattle.grounds.specs.Given.{LineGives, SaidGives}

module _ (n k r : ℕ) (held : ℕ → Bool) (f : Fact) (w : Ground) (p : ℕ) where
  module _ (on : Key) (said : List (Option Line)) where
    abbrev L : Line → Type 0
    L l = LineGives n k r held f w on p l

    -- Whatever gives is among the lines that are left.
    abbrev pub Left : List (Option Line) → Type 0
    Left rest = (l : Line) → In (Some l) said → L l → In (Some l) rest

    pub some_gives : (i : ℕ) (d : Option Line) (l : Line) (t : Bool) → i < length said → get_or said i d ≡ Some l → t ≡ true → Decides t (L l) → Decides true (SaidGives n k r held f w on p said)
    some_gives i d l t h e q m = record { out = λ u. record { line = l; among = subst (λ o. In o said) e (in_at said i d h); gives = m.out (subst T (sym q) tt) }; back = λ g. tt }

    pub passed : (i : ℕ) (d : Option Line) (l : Line) (t : Bool) → get_or said i d ≡ Some l → t ≡ false → Decides t (L l) → (q : Line) → get_or said i d ≡ Some q → L q → ⊥
    passed i d l t e z m q o g = let h : T false = subst T z (m.back (subst L (same_Some q l (sym o ∙ e)) g)) in h

    pub left_more : (i : ℕ) (d : Option Line) → i < length said → ((q : Line) → get_or said i d ≡ Some q → L q → ⊥) → Left (drop i said) → Left (drop (i + 1) said)
    left_more i d h not before l a g = ⊎_elim (λ e. absurd (not l e g)) (λ j. j) (in_next said i d (Some l) h (before l a g))
