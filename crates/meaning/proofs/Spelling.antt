-- A statement with a known letter is known by its fields; a statement at a place of a longer row.
use Rattle.std.proofs.Common.{◌≡◌, ℕ, zero, suc, List, [], ◌∷◌, get_or, refl, arith}
use Rattle.rules.specs.Statements.{letter_of, fields_of}
use Rattle.rules.specs.declared.statements.Statement.{Statement}
use Rattle.rules.specs.declared.statements.Statement.TheVariants.{Empty, Requires}
use Rattle.rules.specs.Places.{At, at_before}

abbrev pub field : Statement → ℕ → ℕ
field s i = get_or ((fields_of s).first ∷ (fields_of s).second ∷ (fields_of s).third ∷ []) i 0

pub is_empty : (s : Statement) → letter_of s ≡ 99 → s ≡ Empty (field s 0)
is_empty s e = grind arith

pub is_requires : (s : Statement) → letter_of s ≡ 106 → s ≡ Requires (field s 0) (field s 1) (field s 2)
is_requires s e = grind arith

-- A statement at a place is the first, or one of those after it.
pub at_view : (P : Type 0) {t s : Statement} {ss : List Statement} (p : ℕ) → At (t ∷ ss) p s → (p ≡ 0 → t ≡ s → P) → ((q : ℕ) → p ≡ suc q → At ss q s → P) → P
at_view P zero a f g = f refl a.is
at_view P (suc q) a f g = g q refl (at_before a)
