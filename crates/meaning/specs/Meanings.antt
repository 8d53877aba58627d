-- What facts say in an interpretation. A first term stands for things: an individual for the thing that it is, and the
-- witness of j[A,V,B] for the things of B that some member of A has a V-pair to. A fact says that its terms stand for some
-- thing, and something of every thing that they stand for.
use Rattle.std.specs.Prelude.{◌≡◌, ℕ, ◌<◌, List}
use Rattle.rules.specs.declared.statements.Statement.{Statement}
use Rattle.rules.specs.declared.statements.Statement.TheVariants.{Requires}
use Rattle.calculus.specs.Places.{At}
use Rattle.roles.specs.Roles.{IsRange}
use Rattle.calculus.specs.declared.terms.First.{First}
use Rattle.calculus.specs.declared.terms.First.TheVariants as first
use Rattle.calculus.specs.declared.terms.Second.{Second}
use Rattle.calculus.specs.declared.terms.Second.TheVariants as second
use Rattle.calculus.specs.declared.terms.Fact.{Fact}
use Rattle.calculus.specs.declared.terms.Fact.TheVariants.{Instance, SelfPair, Pair}
use Rattle.meaning.specs.Interpretations.{Interpretation, InClass, InRole}

-- The statement at the place p is some j[A,V,B], d is in A, e is in B, and (d, e) is in V.
pub record Required {n : ℕ} (I : Interpretation n) (ss : List Statement) (p d e : ℕ) : Type 0 where
  pub A : ℕ
  pub V : ℕ
  pub B : ℕ
  pub at : At ss p (Requires A V B)
  pub from : InClass I A d
  pub pair : InRole I V d e
  pub to : InClass I B e

-- A first term stands for the thing e.
abbrev pub StandsFor : {n : ℕ} → Interpretation n → List Statement → First → ℕ → Type 0
StandsFor {n} I ss (first.Individual x) e = (x < n) × (e ≡ I.individual x)
StandsFor I ss (first.Witness p) e = (d : ℕ) × Required I ss p d e

-- It stands for some thing.
abbrev pub StandsForSome : {n : ℕ} → Interpretation n → List Statement → First → Type 0
StandsForSome I ss c = (e : ℕ) × StandsFor I ss c e

-- A second term describes the thing e: the individual is e, or e is in the class.
abbrev pub Describes : {n : ℕ} → Interpretation n → Second → ℕ → Type 0
Describes I (second.Individual x) e = e ≡ I.individual x
Describes I (second.Class C) e = InClass I C e

-- T(c,R,d): both stand for some thing, everything that c stands for has an R-pair to something that d stands for, and
-- everything that d stands for lies in every range of R.
pub record PairSays {n : ℕ} (I : Interpretation n) (ss : List Statement) (c : First) (R : ℕ) (d : First) : Type 0 where
  pub start : StandsForSome I ss c
  pub end : StandsForSome I ss d
  pub pairs : (s : ℕ) → StandsFor I ss c s → (t : ℕ) × InRole I R s t × StandsFor I ss d t
  pub ranges : (D t : ℕ) → IsRange ss R D → StandsFor I ss d t → InClass I D t

-- What a fact says.
abbrev pub Says : {n : ℕ} → Interpretation n → List Statement → Fact → Type 0
-- I(c,y): c stands for some thing, and each such thing is the individual y or is in the class y.
Says I ss (Instance c y) = StandsForSome I ss c × ((t : ℕ) → StandsFor I ss c t → Describes I y t)
-- S(c,R): c stands for some thing, and each such thing has an R-pair to itself.
Says I ss (SelfPair c R) = StandsForSome I ss c × ((t : ℕ) → StandsFor I ss c t → InRole I R t t)
-- T(c,R,d): as above.
Says I ss (Pair c R d) = PairSays I ss c R d
