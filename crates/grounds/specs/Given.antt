-- A ground by the table of lines. From a fact and the witness u of a ground one finds the given that a line would have gone
-- from; then the line gives the fact by that ground if the given fits, it and the second fact are held, and the line's
-- conclusion and ground are the fact and the ground in question.
use Rattle.std.specs.Prelude.{◌≡◌, Bool, true, false, List, ℕ, Option, Some}
use Rattle.rules.specs.declared.statements.Statement.{Statement}
use Rattle.calculus.specs.Steps.{Gives}
use Rattle.calculus.specs.Terms.{first_at, second_at}
use Rattle.calculus.specs.Numbers.{fact_number, Inside}
use Rattle.calculus.specs.declared.terms.First.{First}
use Rattle.calculus.specs.declared.terms.Ground.{Ground}
use Rattle.calculus.specs.declared.terms.Fact.{Fact}
use Rattle.calculus.specs.declared.terms.Fact.TheVariants.{Instance, SelfPair, Pair}
use Rattle.calculus.specs.Trees.{In}
use Rattle.linetable.specs.Table.{fill, start, finish, ground_at, touches, suits}
use Rattle.linetable.specs.declared.shapes.Key.{Key}
use Rattle.linetable.specs.declared.shapes.Key.TheVariants.{Never, Anyone, Of, Role}
use Rattle.linetable.specs.declared.shapes.Told.{Told}
use Rattle.linetable.specs.declared.shapes.Told.TheVariants.{Untold, TellStart, TellFinish, TellSecond}
use Rattle.linetable.specs.declared.shapes.Line.{Line}

-- A fact is held: it is inside the book, and its number is in the set.
pub record Held (n k r : ℕ) (held : ℕ → Bool) (f : Fact) : Type 0 where
  pub inside : Inside n k r f
  pub is : held (fact_number n k r f) ≡ true

-- The ground gives the fact from held facts, by the book rules.
abbrev pub GivesHeld : (n k r : ℕ) → List Statement → (ℕ → Bool) → Ground → Fact → Type 0
GivesHeld n k r ss held why f = Gives n k ss (Held n k r held) why f

-- The given's start and finish: those of the fact, or the witness where the line tells it.
abbrev pub start_told : ℕ → Told → Fact → ℕ → First
start_told n Untold f u = start f
start_told n TellStart f u = first_at n u
start_told n TellFinish f u = start f
start_told n TellSecond f u = start f

abbrev pub finish_told : ℕ → Told → Fact → ℕ → First
finish_told n Untold f u = finish f
finish_told n TellStart f u = finish f
finish_told n TellFinish f u = first_at n u
finish_told n TellSecond f u = finish f

-- The given from which a line with that key leads to f, u being told.
abbrev pub given_of : ℕ → Key → Bool → Told → Fact → ℕ → Fact
given_of n Never pair t f u = f
given_of n Anyone pair t f u = Instance (start_told n t f u) (second_at n u)
given_of n (Of c) pair t f u = Instance (start_told n t f u) c
given_of n (Role R) true t f u = Pair (start_told n t f u) R (finish_told n t f u)
given_of n (Role R) false t f u = SelfPair (start_told n t f u) R

abbrev pub given_for : ℕ → Fact → Ground → Key → Line → Fact
given_for n f w on l = given_of n on l.pair l.told f w.u

-- The fact g is a given of the line, and held.
abbrev pub IsGiven : (n k r : ℕ) → (ℕ → Bool) → Key → Line → Fact → Type 0
IsGiven n k r held on l g = (touches on g ≡ true) × (suits l.pair g ≡ true) × Held n k r held g

-- The line leads to f by that ground, from held facts.
abbrev pub LineGives : (n k r : ℕ) → (ℕ → Bool) → Fact → Ground → Key → ℕ → Line → Type 0
LineGives n k r held f w on p l =
    IsGiven n k r held on l (given_for n f w on l) ×
    Held n k r held (fill (given_for n f w on l) (finish f) l.second) ×
    ((fill (given_for n f w on l) (finish f) l.conclusion ≡ f) × Inside n k r f) ×
    (ground_at n p l (given_for n f w on l) ≡ w)

-- Some line that a statement says does.
pub record SaidGives (n k r : ℕ) (held : ℕ → Bool) (f : Fact) (w : Ground) (on : Key) (p : ℕ) (said : List (Option Line)) : Type 0 where
  pub line : Line
  pub among : In (Some line) said
  pub gives : LineGives n k r held f w on p line
