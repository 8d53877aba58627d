-- The grounds that are no lines, one definition for each rule: what must be so for the rule to give the fact f by the ground
-- w from held facts. Rules 1, 2, 27, 28 and 29 have no statement; rule 4 has a statement of form c.
use Rattle.std.specs.Prelude.{◌≡◌, Bool, ◌⊎◌, ℕ, ◌+◌, ◌<◌}
use Rattle.rules.specs.declared.statements.Statement.{Statement}
use Rattle.rules.specs.declared.statements.Statement.TheVariants.{Empty}
use Rattle.calculus.specs.Terms.{first_at, second_at, ground_of, by_rule}
use Rattle.calculus.specs.declared.terms.First.TheVariants as first
use Rattle.calculus.specs.declared.terms.Second.TheVariants as second
use Rattle.calculus.specs.declared.terms.Ground.{Ground}
use Rattle.calculus.specs.declared.terms.Fact.{Fact}
use Rattle.calculus.specs.declared.terms.Fact.TheVariants.{Instance, SelfPair, Pair}
use Rattle.linetable.specs.Table.{key, lines, in_four}
use Rattle.grounds.specs.Given.{Held, SaidGives}

-- 1: f is I(x,x).
abbrev pub ByRule1 : ℕ → Fact → Ground → Type 0
ByRule1 n (Instance (first.Individual x) (second.Individual y)) w = (x < n) × (x ≡ y) × (w ≡ by_rule 1 0)
ByRule1 n (Instance (first.Individual x) (second.Class C)) w = ⊥
ByRule1 n (Instance (first.Witness p) y) w = ⊥
ByRule1 n (SelfPair x v) w = ⊥
ByRule1 n (Pair x v y) w = ⊥

-- 2: f is S(x,R), and T(x,R,x) is held.
abbrev pub ByRule2 : (n k r : ℕ) → (ℕ → Bool) → Fact → Ground → Type 0
ByRule2 n k r held (Instance x y) w = ⊥
ByRule2 n k r held (SelfPair (first.Individual x) v) w = (x < n) × Held n k r held (Pair (first.Individual x) v (first.Individual x)) × (w ≡ by_rule 2 0)
ByRule2 n k r held (SelfPair (first.Witness p) v) w = ⊥
ByRule2 n k r held (Pair x v y) w = ⊥

-- 27: f is I(x,z), and I(u,x) and I(u,z) are held.
abbrev pub ByRule27 : (n k r : ℕ) → (ℕ → Bool) → Fact → Ground → Type 0
ByRule27 n k r held (Instance (first.Individual x) z) w = (x < n) × Held n k r held (Instance (first_at n w.u) (second.Individual x)) × Held n k r held (Instance (first_at n w.u) z) × (w ≡ by_rule 27 w.u)
ByRule27 n k r held (Instance (first.Witness p) z) w = ⊥
ByRule27 n k r held (SelfPair x v) w = ⊥
ByRule27 n k r held (Pair x v y) w = ⊥

-- 28: f is I(x,z), and for the individual u I(x,u) and I(u,z) are held.
abbrev pub ByRule28 : (n k r : ℕ) → (ℕ → Bool) → Fact → Ground → Type 0
ByRule28 n k r held (Instance x z) w = (w.u < n) × Held n k r held (Instance x (second.Individual w.u)) × Held n k r held (Instance (first.Individual w.u) z) × (w ≡ by_rule 28 w.u)
ByRule28 n k r held (SelfPair x v) w = ⊥
ByRule28 n k r held (Pair x v y) w = ⊥

-- 29: f is T(x,R,y) for an individual y, and T(x,R,u) and I(u,y) are held.
abbrev pub ByRule29 : (n k r : ℕ) → (ℕ → Bool) → Fact → Ground → Type 0
ByRule29 n k r held (Instance x z) w = ⊥
ByRule29 n k r held (SelfPair x v) w = ⊥
ByRule29 n k r held (Pair x v (first.Individual y)) w = (y < n) × Held n k r held (Pair x v (first_at n w.u)) × Held n k r held (Instance (first_at n w.u) (second.Individual y)) × (w ≡ by_rule 29 w.u)
ByRule29 n k r held (Pair x v (first.Witness p)) w = ⊥

-- 4: with c[A] at the place p, f is I(x,C), and I(u,A) and I(x,w) are held.
abbrev pub ByRule4 : (n k r p A : ℕ) → (ℕ → Bool) → Fact → Ground → Type 0
ByRule4 n k r p A held (Instance x (second.Class C)) w = (C < k) × Held n k r held (Instance (first_at n w.u) (second.Class A)) × Held n k r held (Instance x (second_at n w.w)) × (w ≡ ground_of 4 (p + 1) w.u w.w)
ByRule4 n k r p A held (Instance x (second.Individual y)) w = ⊥
ByRule4 n k r p A held (SelfPair x v) w = ⊥
ByRule4 n k r p A held (Pair x v y) w = ⊥

-- The ground has no statement, and one of its rules gives the fact.
abbrev pub Unplaced : (n k r : ℕ) → (ℕ → Bool) → Fact → Ground → Type 0
Unplaced n k r held f w = ByRule1 n f w ⊎ (ByRule2 n k r held f w ⊎ (ByRule27 n k r held f w ⊎ (ByRule28 n k r held f w ⊎ ByRule29 n k r held f w)))

-- The statement at the place p gives the fact: by one of its lines, or, if it is of form c, by rule 4.
abbrev pub Placed : (n k r p : ℕ) → Statement → (ℕ → Bool) → Fact → Ground → Type 0
Placed n k r p s held f w = SaidGives n k r held f w (key s) p (in_four (lines p s)) ⊎ ((A : ℕ) × (s ≡ Empty A) × ByRule4 n k r p A held f w)
