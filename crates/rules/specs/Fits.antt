-- Well-formed statements. A book has n individuals, k classes and r roles. A field fits if it is below the count of its
-- kind, and a field that its form does not use fits if it is 0. A statement is well formed if its three fields fit.
use Rattle.std.specs.Prelude.{◌≡◌, ℕ, ◌+◌, ◌<◌, Bool, true, false, cond, not, ◌&&◌, List, [], ◌∷◌, length, is_some, Some, None, Option, ◌==◌, nat_lt}
use Rattle.rules.specs.Forms.{FieldKinds, fields_of_form}
use Rattle.rules.specs.Statements.{Fields, letter_of, fields_of}
use Rattle.rules.specs.Limits.{within_limits}
use Rattle.rules.specs.Refusals.{refusal}
use Rattle.rules.specs.declared.forms.Kind.{Kind}
use Rattle.rules.specs.declared.forms.Kind.TheVariants as kind
use Rattle.rules.specs.declared.refusals.Reason.TheVariants as reason
use Rattle.rules.specs.declared.refusals.Refusal.{Refusal}
use Rattle.rules.specs.declared.statements.Statement.{Statement}

-- How many names of a kind there are.
abbrev pub count : (n k r : ℕ) → Kind → ℕ
count n k r kind.Individual = n
count n k r kind.Class = k
count n k r kind.Role = r

-- A field fits: not in use, it is 0; of a kind, it is below the count of that kind.
abbrev pub FieldFits : (n k r : ℕ) → Option Kind → ℕ → Type 0
FieldFits n k r None field = field ≡ 0
FieldFits n k r (Some kind) field = field < count n k r kind

-- The same as a test.
abbrev pub field_fits : (n k r : ℕ) → Option Kind → ℕ → Bool
field_fits n k r None field = field == 0
field_fits n k r (Some kind) field = nat_lt field (count n k r kind)

-- The first of three tests that fails, counted from 1.
abbrev pub first_false : (a b c : Bool) → Option ℕ
first_false a b c = cond a (cond b (cond c None (Some 3)) (Some 2)) (Some 1)

-- The first of three fields that does not fit, counted from 1.
abbrev pub wrong_field : (n k r : ℕ) → FieldKinds → Fields → Option ℕ
wrong_field n k r kinds fields =
    first_false
    (field_fits n k r kinds.first fields.first)
    (field_fits n k r kinds.second fields.second)
    (field_fits n k r kinds.third fields.third)

-- Three fields fit the kinds that a form gives them; nothing fits where there is no form.
abbrev pub FormFits : (n k r : ℕ) → Option FieldKinds → Fields → Type 0
FormFits n k r None fields = ⊥
FormFits n k r (Some kinds) fields =
    FieldFits n k r kinds.first fields.first ×
    FieldFits n k r kinds.second fields.second ×
    FieldFits n k r kinds.third fields.third

-- A statement is well formed: its fields fit its form. So a[x,C] is well formed if x is below n and C below k.
abbrev pub WellFormed : (n k r : ℕ) → Statement → Type 0
WellFormed n k r s = FormFits n k r (fields_of_form (letter_of s)) (fields_of s)

-- The first wrong field by a form, and 0 where there is no form.
abbrev pub wrong_by_form : (n k r : ℕ) → Option FieldKinds → Fields → Option ℕ
wrong_by_form n k r None fields = Some 0
wrong_by_form n k r (Some kinds) fields = wrong_field n k r kinds fields

-- The first wrong field of a statement, if it has one.
unfoldable pub wrong_in : (n k r : ℕ) → Statement → Option ℕ
wrong_in n k r s = wrong_by_form n k r (fields_of_form (letter_of s)) (fields_of s)

-- The test of a statement, and of every statement of a row.
abbrev pub fits : (n k r : ℕ) → Statement → Bool
fits n k r s = not (is_some (wrong_in n k r s))

abbrev pub all_fit : (n k r : ℕ) → List Statement → Bool
all_fit n k r [] = true
all_fit n k r (s ∷ ss) = fits n k r s && all_fit n k r ss

-- The refusal of a wrong field at a place, and what comes after where there is none.
abbrev pub refuse_field : ℕ → Option ℕ → Option Refusal → Option Refusal
refuse_field place None rest = rest
refuse_field place (Some field) rest = Some (refusal reason.WrongField place field)

-- The refusal of the first statement with a wrong field, in a row that begins at a place.
abbrev pub statements_refusal : (n k r place : ℕ) → List Statement → Option Refusal
statements_refusal n k r place [] = None
statements_refusal n k r place (s ∷ ss) = refuse_field place (wrong_in n k r s) (statements_refusal n k r (place + 1) ss)

-- The refusal of counts and statements: first a count that leaves its limits, then the first wrong field.
unfoldable pub base_refusal : (n k r : ℕ) → List Statement → Option Refusal
base_refusal n k r ss =
    cond (within_limits n k r (length ss)) (statements_refusal n k r 0 ss) (Some (refusal reason.CountOutOfLimits 0 0))

-- The statements, if they pass a test; else none.
abbrev pub if_passed : Bool → List Statement → List Statement
if_passed true ss = ss
if_passed false ss = []

-- Whether statements are as many as they are said to be, and all well formed.
unfoldable pub pass : (n k r m : ℕ) → List Statement → Bool
pass n k r m ss = m == length ss && all_fit n k r ss
