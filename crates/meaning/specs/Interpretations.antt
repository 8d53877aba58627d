-- What statements say of the world. An interpretation is one way that the world may be: some things, which are whole
-- numbers, with the thing that each individual is, the things that each class has and the pairs that each role has.
-- An interpretation satisfies a statement when what the statement says is so in it.
-- To read a line: (d : ℕ) → P says P of every number d, and (e : ℕ) × P that P is so of some number e; P → Q says Q wherever
-- P is so, P × Q both, ¬ P that P is not so, and d ≡ e that d and e are the same. T asks that a test comes out true.
use Rattle.std.specs.Prelude.{◌≡◌, ℕ, ◌<◌, ◌≤◌, Bool, T, List, length}
use Rattle.rules.specs.declared.statements.Statement.{Statement}
use Rattle.rules.specs.declared.statements.Statement.TheVariants.{Member, Related, Empty, Universal, Only, Nominal, Subclass, Both, Reaches, Requires, SelfWithin, SelfPaired, Subrole, Chain, RoleBoth, Product, DomainRange}
use Rattle.calculus.specs.Trees.{In}
use Rattle.calculus.specs.Places.{At}

-- An interpretation of a book with n individuals. A set of numbers is a test on them: which numbers are things, which are
-- in a class, which pairs are in a role.
pub record Interpretation (n : ℕ) : Type 0 where
  pub thing : ℕ → Bool
  pub individual : ℕ → ℕ
  pub class : ℕ → ℕ → Bool
  pub role : ℕ → ℕ → ℕ → Bool
  -- There is a thing, each individual is one, and classes and roles hold nothing else.
  pub some_thing : (d : ℕ) × T (thing d)
  pub individual_thing : (x : ℕ) → x < n → T (thing (individual x))
  pub class_things : (C d : ℕ) → T (class C d) → T (thing d)
  pub role_things : (R d e : ℕ) → T (role R d e) → T (thing d) × T (thing e)

-- The number d is a thing; it is in the class C; the pair (d, e) is in the role R.
abbrev pub Thing : {n : ℕ} → Interpretation n → ℕ → Type 0
Thing I d = T (I.thing d)

abbrev pub InClass : {n : ℕ} → Interpretation n → ℕ → ℕ → Type 0
InClass I C d = T (I.class C d)

abbrev pub InRole : {n : ℕ} → Interpretation n → ℕ → ℕ → ℕ → Type 0
InRole I R d e = T (I.role R d e)

abbrev pub Satisfies : {n : ℕ} → Interpretation n → Statement → Type 0
-- a: x is in C.
Satisfies I (Member x C) = InClass I C (I.individual x)
-- b: the pair (x, y) is in R.
Satisfies I (Related x R y) = InRole I R (I.individual x) (I.individual y)
-- c: A is empty.
Satisfies I (Empty A) = (d : ℕ) → ¬ InClass I A d
-- d: every thing is in C.
Satisfies I (Universal C) = (d : ℕ) → Thing I d → InClass I C d
-- e: each member of A is x.
Satisfies I (Only A x) = (d : ℕ) → InClass I A d → d ≡ I.individual x
-- f: x is in C.
Satisfies I (Nominal x C) = InClass I C (I.individual x)
-- g: each member of A is in C.
Satisfies I (Subclass A C) = (d : ℕ) → InClass I A d → InClass I C d
-- h: what is in A and in B is in C.
Satisfies I (Both A B C) = (d : ℕ) → InClass I A d → InClass I B d → InClass I C d
-- i: what has an R-pair into A is in C.
Satisfies I (Reaches R A C) = (d e : ℕ) → InRole I R d e → InClass I A e → InClass I C d
-- j: each member of A has an R-pair into B.
Satisfies I (Requires A R B) = (d : ℕ) → InClass I A d → (e : ℕ) × InRole I R d e × InClass I B e
-- k: what has an R-pair to itself is in C.
Satisfies I (SelfWithin R C) = (d : ℕ) → InRole I R d d → InClass I C d
-- l: each member of A has an R-pair to itself.
Satisfies I (SelfPaired A R) = (d : ℕ) → InClass I A d → InRole I R d d
-- m: each pair of R is in Q.
Satisfies I (Subrole R Q) = (d e : ℕ) → InRole I R d e → InRole I Q d e
-- n: (d, e) in R and (e, f) in S put (d, f) in Q.
Satisfies I (Chain R S Q) = (d e f : ℕ) → InRole I R d e → InRole I S e f → InRole I Q d f
-- o: each pair in R and in S is in Q.
Satisfies I (RoleBoth R S Q) = (d e : ℕ) → InRole I R d e → InRole I S d e → InRole I Q d e
-- p: each pair from A to B is in R.
Satisfies I (Product A B R) = (d e : ℕ) → InClass I A d → InClass I B e → InRole I R d e
-- q: each pair of R goes from C to D.
Satisfies I (DomainRange R C D) = (d e : ℕ) → InRole I R d e → InClass I C d × InClass I D e

-- An interpretation satisfies all the standing statements.
abbrev pub SatisfiesAll : {n : ℕ} → Interpretation n → List Statement → Type 0
SatisfiesAll I ss = (p : ℕ) (s : Statement) → At ss p s → Satisfies I s

-- An interpretation has at most m things: a list of at most m numbers holds every thing.
pub record AtMost {n : ℕ} (I : Interpretation n) (m : ℕ) : Type 0 where
  pub listed : List ℕ
  pub few : length listed ≤ m
  pub every : (d : ℕ) → Thing I d → In d listed
