-- From the fact and the ground of a line back to its given, one line for each line of the table.
use mathlib.Core.Path.{◌≡◌, refl, ap}
use Prim.Native.Nat.{ℕ}
use Rattle.rules.specs.declared.statements.Statement.{Statement}
use Rattle.rules.specs.declared.statements.Statement.TheVariants.{Member, Related, Empty, Universal, Only, Nominal, Subclass, Both, Reaches, Requires, SelfWithin, SelfPaired, Subrole, Chain, RoleBoth, Product, DomainRange}
use Rattle.calculus.specs.Numbers.{Inside}
use Rattle.calculus.specs.declared.terms.First.{First}
use Rattle.calculus.specs.declared.terms.Fact.{Fact}
use Rattle.calculus.specs.declared.terms.Fact.TheVariants.{Instance, Pair}
use Rattle.linetable.specs.Table.{key, lines, fill, finish, witness, Among, only, front, later, Fits, anyone, member, own, pair}
use Rattle.linetable.specs.declared.shapes.Key.{Key}
use Rattle.linetable.specs.declared.shapes.Line.{Line}
use Rattle.calculus.specs.TermNumbers.{first_at_its_number, second_at_its_number}
use Rattle.grounds.specs.Given.{given_of}

-- that is the given, and the term looped over is the fact's finish
pub record Back (n : ℕ) (on : Key) (l : Line) (g : Fact) (z : First) (f : Fact) : Type 0 where
  pub given : given_of n on l.pair l.told f (witness n l.told g) ≡ g
  pub second : fill g (finish f) l.second ≡ fill g z l.second
  pub conclusion : fill g (finish f) l.conclusion ≡ f

pub back : (n k r : ℕ) (s : Statement) (p : ℕ) {l : Line} {g : Fact} (z : First) → Among l (lines p s) → Fits (key s) l.pair g → Inside n k r g → Back n (key s) l g z (fill g z l.conclusion)
back n k r (Member y C) p z only member i = record { given = refl; second = refl; conclusion = refl }
back n k r (Related y R o) p z front member i = record { given = refl; second = refl; conclusion = refl }
back n k r (Related y R o) p z (later only) (member {x = x} {y = c}) i = record { given = ap (λ t. Instance t c) (first_at_its_number n x i.0); second = refl; conclusion = refl }
back n k r (Empty A) p z a f i = elim a [ ]
back n k r (Universal C) p z only (anyone {x = x} {y = y}) i = record { given = ap (λ t. Instance x t) (second_at_its_number n k y i.1); second = refl; conclusion = refl }
back n k r (Only A y) p z only member i = record { given = refl; second = refl; conclusion = refl }
back n k r (Nominal y C) p z only member i = record { given = refl; second = refl; conclusion = refl }
back n k r (Subclass A C) p z only member i = record { given = refl; second = refl; conclusion = refl }
back n k r (Both A B C) p z only member i = record { given = refl; second = refl; conclusion = refl }
back n k r (Reaches R A C) p z front (pair {x = x} {v = v}) i = record { given = ap (λ t. Pair x R t) (first_at_its_number n v i.2); second = refl; conclusion = refl }
back n k r (Reaches R A C) p z (later only) own i = record { given = refl; second = refl; conclusion = refl }
back n k r (Requires A R B) p z front member i = record { given = refl; second = refl; conclusion = refl }
back n k r (Requires A R B) p z (later only) (member {x = x} {y = c}) i = record { given = ap (λ t. Instance t c) (first_at_its_number n x i.0); second = refl; conclusion = refl }
back n k r (SelfWithin R C) p z only own i = record { given = refl; second = refl; conclusion = refl }
back n k r (SelfPaired A R) p z only member i = record { given = refl; second = refl; conclusion = refl }
back n k r (Subrole R Q) p z front pair i = record { given = refl; second = refl; conclusion = refl }
back n k r (Subrole R Q) p z (later only) own i = record { given = refl; second = refl; conclusion = refl }
back n k r (Chain R S Q) p z front (pair {x = x} {v = v}) i = record { given = ap (λ t. Pair x R t) (first_at_its_number n v i.2); second = refl; conclusion = refl }
back n k r (Chain R S Q) p z (later front) own i = record { given = refl; second = refl; conclusion = refl }
back n k r (Chain R S Q) p z (later (later front)) pair i = record { given = refl; second = refl; conclusion = refl }
back n k r (Chain R S Q) p z (later (later (later only))) own i = record { given = refl; second = refl; conclusion = refl }
back n k r (RoleBoth R S Q) p z front pair i = record { given = refl; second = refl; conclusion = refl }
back n k r (RoleBoth R S Q) p z (later only) own i = record { given = refl; second = refl; conclusion = refl }
back n k r (Product A B R) p z front member i = record { given = refl; second = refl; conclusion = refl }
back n k r (Product A B R) p z (later only) member i = record { given = refl; second = refl; conclusion = refl }
back n k r (DomainRange R C D) p z front (pair {x = x} {v = v}) i = record { given = ap (λ t. Pair x R t) (first_at_its_number n v i.2); second = refl; conclusion = refl }
back n k r (DomainRange R C D) p z (later front) own i = record { given = refl; second = refl; conclusion = refl }
back n k r (DomainRange R C D) p z (later (later front)) (pair {x = x} {v = v}) i = record { given = ap (λ t. Pair t R v) (first_at_its_number n x i.0); second = refl; conclusion = refl }
back n k r (DomainRange R C D) p z (later (later (later only))) own i = record { given = refl; second = refl; conclusion = refl }
