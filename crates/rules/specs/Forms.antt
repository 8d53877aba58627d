-- The seventeen forms of statement. A letter from a to q names the form, and its fields are numbers of individuals,
-- classes and roles. A form has one to three fields; the others are not in use.
-- Here x, y are individuals, A to D classes, R, S, T roles:
--   a, f  x C      the individual x is in C
--   b     x R y    the pair (x, y) is in R
--   c     A        A is empty
--   d     C        every thing is in C
--   e     A x      each member of A is x
--   g     A C      each member of A is in C
--   h     A B C    what is in A and in B is in C
--   i     R A C    what has an R-pair into A is in C
--   j     A R B    each member of A has an R-pair into B
--   k     R C      what has an R-pair to itself is in C
--   l     A R      each member of A has an R-pair to itself
--   m     R T      each pair of R is in T
--   n     R S T    an R-pair and an S-pair that goes on from it make a T-pair
--   o     R S T    each pair in R and in S is in T
--   p     A B R    each pair from A to B is in R
--   q     R C D    each pair of R goes from C to D
use Rattle.std.specs.Prelude.{ℕ, ◌+◌, cond, List, [], ◌∷◌, Some, None, Option, ◌==◌}
use Rattle.rules.specs.declared.forms.Kind.{Kind}
use Rattle.rules.specs.declared.forms.Kind.TheVariants as k
use Rattle.rules.specs.declared.three.Three.{Three}

abbrev pub individual : Option Kind
individual = Some k.Individual

abbrev pub class : Option Kind
class = Some k.Class

abbrev pub role : Option Kind
role = Some k.Role

abbrev pub unused : Option Kind
unused = None

-- The kinds of a form's three fields.
abbrev pub FieldKinds : Type 0
FieldKinds = Three (Option Kind)

-- A form by the code of its letter (97 is a, 113 is q) and the kinds of its fields.
abbrev pub form : ℕ → Option Kind → Option Kind → Option Kind → ℕ × FieldKinds
form letter first second third = (letter, record { first = first; second = second; third = third })

abbrev pub forms : List (ℕ × FieldKinds)
forms =
    form 97 individual class unused ∷
    form 98 individual role individual ∷
    form 99 class unused unused ∷
    form 100 class unused unused ∷
    form 101 class individual unused ∷
    form 102 individual class unused ∷
    form 103 class class unused ∷
    form 104 class class class ∷
    form 105 role class class ∷
    form 106 class role class ∷
    form 107 role class unused ∷
    form 108 class role unused ∷
    form 109 role role unused ∷
    form 110 role role role ∷
    form 111 role role role ∷
    form 112 class class role ∷
    form 113 role class class ∷ []

abbrev pub look_up : List (ℕ × FieldKinds) → ℕ → Option FieldKinds
look_up [] letter = None
look_up (row ∷ rows) letter = cond (letter == row.0) (Some row.1) (look_up rows letter)

-- The kinds of the fields of the form with a letter, if there is such a form.
abbrev pub fields_of_form : ℕ → Option FieldKinds
fields_of_form letter = look_up forms letter

-- The same as a list of three.
abbrev pub in_order : FieldKinds → List (Option Kind)
in_order kinds = kinds.first ∷ kinds.second ∷ kinds.third ∷ []

-- How many of some fields are in use.
abbrev pub used : List (Option Kind) → ℕ
used [] = 0
used (None ∷ more) = used more
used (Some kind ∷ more) = 1 + used more
