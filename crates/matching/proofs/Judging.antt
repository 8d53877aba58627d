-- What the judge of entries says of an entry and of a store.
use Rattle.std.proofs.Common.{◌≡◌, ℕ, Bool, true, false, not, List, Option, Some, None, MatchOption, sym, ap, subst}
use borrow.Author.Tests.{both_ways}
use Rattle.std.specs.Bool.{then_some}
use Rattle.std.specs.Option.{is_some}
use Rattle.marks.specs.Trees.{Grounded, Missing}
use Rattle.rules.specs.declared.statements.Statement.{Statement}
use Rattle.calculus.specs.Numbers.{fact_number}
use Rattle.calculus.specs.Tests.{Decides}
use Rattle.calculus.specs.declared.terms.Ground.{Ground}
use Rattle.calculus.specs.declared.terms.Fact.{Fact}
use Rattle.grounds.specs.Given.{GivesHeld}
use Rattle.recovery.specs.declared.entry.Entry.{Entry}
use Rattle.matching.specs.Entries.{Tells}
use Rattle.matching.specs.Going.{GivenNumber, NoneGiven, Lacking}
use Rattle.matching.proofs.Told.{told_once}

module _ (n k r : ℕ) (ss : List Statement) (held : ℕ → Bool) (e : Entry) where
  pub given_if : (f : Fact) (why : Ground) (number : ℕ) → Tells n k r e f why → number ≡ fact_number n k r f → (b : Bool) → Decides b (GivesHeld n k r ss held why f) →
      (o : Option ℕ) → o ≡ then_some b number → MatchOption o (NoneGiven n k r ss held e) (λ m. GivenNumber n k r ss held e m)
  given_if f why number t is true d o h = rw h (record { fact = f; ground = why; tells = t; gives = d.out tt; numbered = is })
  given_if f why number t is false d o h =
      rw h (λ g because s given.
      let same = told_once n k r e g f because why s t in
      absurd (d.back (subst (GivesHeld n k r ss held why) same.0 (subst (λ (w : Ground). GivesHeld n k r ss held w g) same.1 given))))

-- nothing was found, or something
pub if_none : {X : Type 0} (P : Type 0) (Q : X → Type 0) (o : Option X) (b : Bool) → MatchOption o P Q → is_some o ≡ not b → b ≡ true → P
if_none P Q (Some x) b m e h = absurd (both_ways (not b) (ap not h) (sym e))
if_none P Q None b m e h = m

pub if_some : {X R : Type 0} (P : Type 0) (Q : X → Type 0) (o : Option X) (b : Bool) → MatchOption o P Q → is_some o ≡ not b → ((x : X) → Q x → R) → b ≡ false → R
if_some P Q (Some x) b m e found h = found x m
if_some P Q None b m e found h = absurd (both_ways (not b) (sym e) (ap not h))

pub lacking : {G : Type 0} (By : G → List ℕ → ℕ → Type 0) (held : ℕ → Bool) (why : G) (number : ℕ) → Missing (By why) held number → Lacking (Grounded By) held
lacking By held why number m = record {
  number = number;
  missing = record {
    follows = record { premises = m.follows.premises; step = record { given_by = why; takes = m.follows.step }; marked = m.follows.marked };
    absent = m.absent;
  };
}
