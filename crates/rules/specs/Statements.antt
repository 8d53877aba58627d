-- How a statement is spelt: the letter of its form and three numbers, 0 for a field that its form does not use.
-- No two statements are spelt alike, and the spelling gives the statement back.
use Rattle.std.specs.Prelude.{◌≡◌, ℕ, cond, Some, None, Option, ◌==◌}
use Rattle.rules.specs.declared.statements.Statement.{Statement}
use Rattle.rules.specs.declared.statements.Statement.TheVariants as s
use Rattle.rules.specs.declared.three.Three.{Three}

-- The letters, by their codes: 97 is a, 113 is q.
abbrev pub letter_of : Statement → ℕ
letter_of (s.Member x y) = 97
letter_of (s.Related x y z) = 98
letter_of (s.Empty x) = 99
letter_of (s.Universal x) = 100
letter_of (s.Only x y) = 101
letter_of (s.Nominal x y) = 102
letter_of (s.Subclass x y) = 103
letter_of (s.Both x y z) = 104
letter_of (s.Reaches x y z) = 105
letter_of (s.Requires x y z) = 106
letter_of (s.SelfWithin x y) = 107
letter_of (s.SelfPaired x y) = 108
letter_of (s.Subrole x y) = 109
letter_of (s.Chain x y z) = 110
letter_of (s.RoleBoth x y z) = 111
letter_of (s.Product x y z) = 112
letter_of (s.DomainRange x y z) = 113

-- The three fields of a statement in order.
abbrev pub Fields : Type 0
Fields = Three ℕ

abbrev pub three : ℕ → ℕ → ℕ → Fields
three x y z = record { first = x; second = y; third = z }

-- The fields, 0 for one that the form does not use.
abbrev pub fields_of : Statement → Fields
fields_of (s.Member x y) = three x y 0
fields_of (s.Related x y z) = three x y z
fields_of (s.Empty x) = three x 0 0
fields_of (s.Universal x) = three x 0 0
fields_of (s.Only x y) = three x y 0
fields_of (s.Nominal x y) = three x y 0
fields_of (s.Subclass x y) = three x y 0
fields_of (s.Both x y z) = three x y z
fields_of (s.Reaches x y z) = three x y z
fields_of (s.Requires x y z) = three x y z
fields_of (s.SelfWithin x y) = three x y 0
fields_of (s.SelfPaired x y) = three x y 0
fields_of (s.Subrole x y) = three x y 0
fields_of (s.Chain x y z) = three x y z
fields_of (s.RoleBoth x y z) = three x y z
fields_of (s.Product x y z) = three x y z
fields_of (s.DomainRange x y z) = three x y z

-- The statement with a letter and three numbers, if the letter names a form.
abbrev pub statement_of : ℕ → ℕ → ℕ → ℕ → Option Statement
statement_of letter x y z =
    cond (letter == 97) (Some (s.Member x y)) (
    cond (letter == 98) (Some (s.Related x y z)) (
    cond (letter == 99) (Some (s.Empty x)) (
    cond (letter == 100) (Some (s.Universal x)) (
    cond (letter == 101) (Some (s.Only x y)) (
    cond (letter == 102) (Some (s.Nominal x y)) (
    cond (letter == 103) (Some (s.Subclass x y)) (
    cond (letter == 104) (Some (s.Both x y z)) (
    cond (letter == 105) (Some (s.Reaches x y z)) (
    cond (letter == 106) (Some (s.Requires x y z)) (
    cond (letter == 107) (Some (s.SelfWithin x y)) (
    cond (letter == 108) (Some (s.SelfPaired x y)) (
    cond (letter == 109) (Some (s.Subrole x y)) (
    cond (letter == 110) (Some (s.Chain x y z)) (
    cond (letter == 111) (Some (s.RoleBoth x y z)) (
    cond (letter == 112) (Some (s.Product x y z)) (
    cond (letter == 113) (Some (s.DomainRange x y z)) None))))))))))))))))

-- Letter and fields give every statement back, so they tell any two apart.
abbrev pub ToldApart : Type 0
ToldApart = (s : Statement) → statement_of (letter_of s) (fields_of s).first (fields_of s).second (fields_of s).third ≡ Some s
