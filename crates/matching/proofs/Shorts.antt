-- The entry of what a ground gives has numbers that fit its bytes.
use Rattle.std.proofs.Common.{ℕ, ◌<◌, ◌≤◌, List, length, arith, lit<}
use Rattle.rules.specs.Limits.{most_statements}
use Rattle.rules.specs.Places.{At}
use Rattle.rules.specs.declared.statements.Statement.{Statement}
use Rattle.calculus.specs.Trees.{All}
use Rattle.calculus.specs.Terms.{first_number, second_number, by_rule, by_statement}
use Rattle.calculus.specs.Steps.{Step}
use Rattle.calculus.specs.Steps.{rule_1, rule_2, rule_3, rule_4, rule_5a, rule_5e, rule_5f, rule_5g, rule_6, rule_7, rule_8, rule_9j, rule_9b, rule_10j, rule_10b, rule_11, rule_12, rule_13, rule_14, rule_15, rule_16, rule_17, rule_18, rule_19, rule_20, rule_21, rule_22, rule_23, rule_24, rule_25, rule_26, rule_27, rule_28, rule_29}
use Rattle.calculus.specs.Numbers.{Inside, FirstInside, SecondInside}
use Rattle.calculus.specs.TermNumbers.{first_low, second_low}
use Rattle.calculus.proofs.Contained.{step_inside}
use Rattle.calculus.specs.declared.terms.First.{First}
use Rattle.calculus.specs.declared.terms.Second.{Second}
use Rattle.calculus.specs.declared.terms.Ground.{Ground}
use Rattle.calculus.specs.declared.terms.Fact.{Fact}
use Rattle.calculus.specs.declared.terms.Fact.TheVariants.{Instance, SelfPair, Pair}
use Rattle.recovery.specs.EntryCuts.{EntryFits}
use Rattle.matching.specs.Complete.{entry_of}
use Rattle.matching.specs.Entries.{GivenFits}

-- a ground whose numbers fit an entry
record Short (why : Ground) : Type 0 where
  rule : why.rule < 256
  place : why.place < 65536
  u : why.u < 65536
  w : why.w < 65536

module _ (n k r : ℕ) (ss : List Statement) (nl : n ≤ 128) (kl : k ≤ 256) (few : length ss ≤ most_statements) where
  first_short : (x : First) → FirstInside n x → first_number n x < 65536
  first_short x i = let l = first_low n x i in omega arith

  second_short : (y : Second) → SecondInside n k y → second_number n y < 65536
  second_short y i = let l = second_low n k y i in omega arith

  -- a rule without a statement, and one with the statement at a place
  free : (rule u : ℕ) → rule < 256 → u < 65536 → Short (by_rule rule u)
  free rule u l m = record { rule = l; place = lit< tt; u = m; w = lit< tt }

  stated : (rule u : ℕ) → rule < 256 → u < 65536 → {p : ℕ} {s : Statement} → At ss p s → Short (by_statement rule p u)
  stated rule u l m a = record { rule = l; place = omega (arith, a.low); u = m; w = lit< tt }

  plain : (rule : ℕ) → rule < 256 → {p : ℕ} {s : Statement} → At ss p s → Short (by_statement rule p 0)
  plain rule l a = stated rule 0 l (lit< tt) a

  step_short : {why : Ground} {fs : List Fact} {f : Fact} → Step n k ss why fs f → All (Inside n k r) fs → Short why
  step_short (rule_1 l) h = free 1 0 (lit< tt) (lit< tt)
  step_short (rule_2 l) h = free 2 0 (lit< tt) (lit< tt)
  step_short (rule_3 a) h = stated 3 _ (lit< tt) (second_short _ h.0.1) a
  step_short (rule_4 a l) h = record { rule = lit< tt; place = omega (arith, a.low); u = first_short _ h.0.0; w = second_short _ h.1.0.1 }
  step_short (rule_5a a) h = plain 5 (lit< tt) a
  step_short (rule_5e a) h = plain 5 (lit< tt) a
  step_short (rule_5f a) h = plain 5 (lit< tt) a
  step_short (rule_5g a) h = plain 5 (lit< tt) a
  step_short (rule_6 a) h = plain 6 (lit< tt) a
  step_short (rule_7 a) h = stated 7 _ (lit< tt) (first_short _ h.0.2) a
  step_short (rule_8 a) h = plain 8 (lit< tt) a
  step_short (rule_9j a) h = plain 9 (lit< tt) a
  step_short (rule_9b a) h = plain 9 (lit< tt) a
  step_short (rule_10j a) h = stated 10 _ (lit< tt) (first_short _ h.0.0) a
  step_short (rule_10b a) h = stated 10 _ (lit< tt) (first_short _ h.0.0) a
  step_short (rule_11 a) h = plain 11 (lit< tt) a
  step_short (rule_12 a) h = plain 12 (lit< tt) a
  step_short (rule_13 a) h = plain 13 (lit< tt) a
  step_short (rule_14 a) h = plain 14 (lit< tt) a
  step_short (rule_15 a) h = stated 15 _ (lit< tt) (first_short _ h.0.2) a
  step_short (rule_16 a) h = plain 16 (lit< tt) a
  step_short (rule_17 a) h = plain 17 (lit< tt) a
  step_short (rule_18 a) h = plain 18 (lit< tt) a
  step_short (rule_19 a) h = plain 19 (lit< tt) a
  step_short (rule_20 a) h = plain 20 (lit< tt) a
  step_short (rule_21 a) h = plain 21 (lit< tt) a
  step_short (rule_22 a) h = plain 22 (lit< tt) a
  step_short (rule_23 a) h = stated 23 _ (lit< tt) (first_short _ h.0.2) a
  step_short (rule_24 a) h = plain 24 (lit< tt) a
  step_short (rule_25 a) h = stated 25 _ (lit< tt) (first_short _ h.0.0) a
  step_short (rule_26 a) h = plain 26 (lit< tt) a
  step_short (rule_27 l) h = free 27 _ (lit< tt) (first_short _ h.0.0)
  step_short (rule_28 l) h = free 28 _ (lit< tt) (omega arith)
  step_short (rule_29 l) h = free 29 _ (lit< tt) (first_short _ h.0.2)

  entry_short : r ≤ 32 → (f : Fact) (why : Ground) → Inside n k r f → Short why → EntryFits (entry_of n f why)
  entry_short rl (Instance x y) why i s = record { letter = lit< tt; rule = s.rule; first = first_short x i.0; role = lit< tt; second = second_short y i.1; place = s.place; u = s.u; w = s.w }
  entry_short rl (SelfPair x v) why i s = record { letter = lit< tt; rule = s.rule; first = first_short x i.0; role = omega (arith, i.1); second = lit< tt; place = s.place; u = s.u; w = s.w }
  entry_short rl (Pair x v y) why i s = record { letter = lit< tt; rule = s.rule; first = first_short x i.0; role = omega (arith, i.1); second = first_short y i.2; place = s.place; u = s.u; w = s.w }

pub given_fits : GivenFits
given_fits n k r ss nl kl rl few formed f why g =
    entry_short n k r ss nl kl few rl f why (step_inside n k r ss formed few g.step g.given) (step_short n k r ss nl kl few g.step g.given)
