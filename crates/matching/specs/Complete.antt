-- When a recovery file is complete for a header. A file's entries stand in order; each tells a fact and its ground: the rule,
-- the statement and the witnesses. An entry is good if its ground gives its fact from the facts of earlier entries, and no
-- earlier entry has that fact. A file is complete for a header if it repeats the header whole, all its entries are good by the
-- header's statements, and every fact with a proof tree from those statements has an entry.
-- Here n, k are the counts of individuals and classes, and ss the statements.
use Rattle.std.specs.Prelude.{◌≡◌, ℕ, List, [], ◌∷◌, ◌++◌, length, None}
use Rattle.rules.specs.declared.statements.Statement.{Statement}
use Rattle.marks.specs.Trees.{In}
use Rattle.calculus.specs.Terms.{first_number, second_number}
use Rattle.calculus.specs.Steps.{Gives, HasTree}
use Rattle.calculus.specs.declared.terms.Ground.{Ground}
use Rattle.calculus.specs.declared.terms.Fact.{Fact}
use Rattle.calculus.specs.declared.terms.Fact.TheVariants.{Instance, SelfPair, Pair}
use Rattle.headers.specs.Bytes.{cut}
use Rattle.headers.specs.Header.{Header, part}
use Rattle.recovery.specs.Begun.{entry_bytes}
use Rattle.recovery.specs.Recovery.{recovery_refusal}
use Rattle.recovery.specs.declared.entry.Entry.{Entry}

-- The entry of a fact and its ground. The letters are I, S and T, by their codes; fields that a fact does not use are 0.
abbrev pub entry_of : ℕ → Fact → Ground → Entry
entry_of n (Instance x y) why = record { letter = 73; rule = why.rule; first = first_number n x; role = 0; second = second_number n y; place = why.place; u = why.u; w = why.w }
entry_of n (SelfPair x v) why = record { letter = 83; rule = why.rule; first = first_number n x; role = v; second = 0; place = why.place; u = why.u; w = why.w }
entry_of n (Pair x v y) why = record { letter = 84; rule = why.rule; first = first_number n x; role = v; second = first_number n y; place = why.place; u = why.u; w = why.w }

-- Fourteen bytes are a good entry of the fact f after the facts `earlier`.
pub record Good (n k : ℕ) (ss : List Statement) (earlier : List Fact) (e : List ℕ) (f : Fact) : Type 0 where
  pub ground : Ground
  pub tells : e ≡ entry_bytes (entry_of n f ground)
  pub gives : Gives n k ss (λ g. In g earlier) ground f
  pub new : ¬ In f earlier

-- Entries that are all good, after the facts `earlier`, with the facts that stand at the end.
pub data AllGood (n k : ℕ) (ss : List Statement) : List Fact → List (List ℕ) → List Fact → Type 0 where
  none : {earlier : List Fact} → AllGood n k ss earlier [] earlier
  more : {earlier : List Fact} {e : List ℕ} {es : List (List ℕ)} {f : Fact} {fs : List Fact} → Good n k ss earlier e f → AllGood n k ss (earlier ++ (f ∷ [])) es fs → AllGood n k ss earlier (e ∷ es) fs

-- The entries of a file, fourteen bytes each.
abbrev pub entries_in : List ℕ → List (List ℕ)
entries_in file = cut 14 (part file 1)

-- The file is complete for the header in the bytes b, whose contents are h.
pub record Complete (b : List ℕ) (h : Header) (file : List ℕ) : Type 0 where
  pub formed : recovery_refusal file ≡ None
  pub repeats : part file 0 ≡ b
  pub facts : List Fact
  pub good : AllGood (length h.individuals) (length h.classes) h.statements [] (entries_in file) facts
  pub every : (f : Fact) → HasTree (length h.individuals) (length h.classes) h.statements f → In f facts
