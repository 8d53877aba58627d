-- The statements of a book stand in a row, at places that count from 0.
use Rattle.std.specs.Prelude.{◌≡◌, ℕ, zero, suc, ◌<◌, List, [], ◌∷◌, ◌++◌, length, slice_index_or, refl}
use Rattle.std.proofs.Common.{sym, ◌∙◌, arith, length-append}
use Rattle.rules.specs.declared.statements.Statement.{Statement}
use Rattle.rules.specs.declared.statements.Statement.TheVariants.{Member}

-- What stands at the place p; a[0,0] past the end.
abbrev pub place : List Statement → ℕ → Statement
place ss p = slice_index_or ss p (Member 0 0)

-- The statement s stands at the place p.
pub record At (ss : List Statement) (p : ℕ) (s : Statement) : Type 0 where
  pub low : p < length ss
  pub is : place ss p ≡ s

-- What follows is proved here, for other files to cite; a reader need not check it.

-- Something stands at each place below the length, and no two things at one.
pub at_place : (ss : List Statement) (p : ℕ) → p < length ss → At ss p (place ss p)
at_place ss p low = record { low = low; is = refl }

pub at_one : {ss : List Statement} {p : ℕ} {s t : Statement} → At ss p s → At ss p t → s ≡ t
at_one a b = sym a.is ∙ b.is

-- The first statement of a row, and the others one place further on.
pub at_first : (s : Statement) (ss : List Statement) → At (s ∷ ss) 0 s
at_first s ss = record { low = omega arith; is = refl }

pub at_next : {ss : List Statement} {p : ℕ} {s : Statement} (t : Statement) → At ss p s → At (t ∷ ss) (suc p) s
at_next t a = record { low = omega (arith, a.low); is = a.is }

pub at_before : {ss : List Statement} {p : ℕ} {s t : Statement} → At (t ∷ ss) (suc p) s → At ss p s
at_before a = record { low = omega (arith, a.low); is = a.is }

-- Statements added at the end leave the others where they are, and the first of them stands at the old length.
place_more : (ss ts : List Statement) (p : ℕ) → p < length ss → place (ss ++ ts) p ≡ place ss p
place_more [] ts p low = absurd (omega arith)
place_more (s ∷ ss) ts zero low = refl
place_more (s ∷ ss) ts (suc p) low = place_more ss ts p (omega arith)

pub at_more : {ss : List Statement} {p : ℕ} {s : Statement} (ts : List Statement) → At ss p s → At (ss ++ ts) p s
at_more {ss} {p} ts a = record { low = omega (arith, a.low, length-append ss ts); is = place_more ss ts p a.low ∙ a.is }

pub at_end : (ss : List Statement) (s : Statement) (ts : List Statement) → At (ss ++ (s ∷ ts)) (length ss) s
at_end [] s ts = at_first s ts
at_end (t ∷ ss) s ts = at_next t (at_end ss s ts)
