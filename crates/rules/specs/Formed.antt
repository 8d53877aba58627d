-- What the tests of fields and statements tell.
--
-- These follow from the definitions and are proved here; a reader need not check them. Other crates cite them.
use Rattle.std.specs.Prelude.{◌≡◌, ℕ, zero, suc, ◌+◌, ◌<◌, Bool, true, false, cond, not, List, [], ◌∷◌, length, is_some, Some, None, Option, ◌==◌, refl}
use Rattle.std.proofs.Common.{ap, subst, ◌∙◌, arith, ltb-true, lt-ltb, eqb-true, eq-eqb}
use Rattle.std.proofs.lemmas.Bool.{and_parts, and_from, both_ways}
use Rattle.rules.specs.Forms.{FieldKinds, fields_of_form}
use Rattle.rules.specs.Statements.{Fields, letter_of, fields_of}
use Rattle.rules.specs.Limits.{within_limits}
use Rattle.rules.specs.Refusals.{refusal}
use Rattle.rules.specs.Fits.{count, FieldFits, field_fits, first_false, FormFits, WellFormed, wrong_by_form, wrong_in, fits, all_fit, refuse_field, statements_refusal, base_refusal, if_passed, pass}
use Rattle.rules.specs.Places.{place, At}
use Rattle.rules.specs.declared.forms.Kind.{Kind}
use Rattle.rules.specs.declared.refusals.Reason.TheVariants.{CountOutOfLimits}
use Rattle.rules.specs.declared.statements.Statement.{Statement}

-- Every standing statement is well formed.
abbrev pub AllWellFormed : (n k r : ℕ) → List Statement → Type 0
AllWellFormed n k r ss = (p : ℕ) (s : Statement) → At ss p s → WellFormed n k r s

pub field_out : (n k r : ℕ) (kind : Option Kind) (field : ℕ) → field_fits n k r kind field ≡ true → FieldFits n k r kind field
field_out n k r None field e = eqb-true field 0 e
field_out n k r (Some kind) field e = ltb-true field (count n k r kind) e

pub field_back : (n k r : ℕ) (kind : Option Kind) (field : ℕ) → FieldFits n k r kind field → field_fits n k r kind field ≡ true
field_back n k r None field h = eq-eqb field 0 h
field_back n k r (Some kind) field h = lt-ltb field (count n k r kind) h

three_out : (a b c : Bool) → not (is_some (first_false a b c)) ≡ true → (a ≡ true) × (b ≡ true) × (c ≡ true)
three_out true true true e = (refl, refl, refl)
three_out true true false e = absurd (both_ways false refl e)
three_out true false c e = absurd (both_ways false refl e)
three_out false b c e = absurd (both_ways false refl e)

three_back : (a b c : Bool) → a ≡ true → b ≡ true → c ≡ true → not (is_some (first_false a b c)) ≡ true
three_back true true true p q s = refl
three_back true true false p q s = s
three_back true false c p q s = q
three_back false b c p q s = p

form_out : (n k r : ℕ) (kinds : Option FieldKinds) (fields : Fields) → not (is_some (wrong_by_form n k r kinds fields)) ≡ true → FormFits n k r kinds fields
form_out n k r None fields e = both_ways false refl e
form_out n k r (Some kinds) fields e =
    let t = three_out (field_fits n k r kinds.first fields.first) (field_fits n k r kinds.second fields.second) (field_fits n k r kinds.third fields.third) e in
    (field_out n k r kinds.first fields.first t.0, field_out n k r kinds.second fields.second t.1, field_out n k r kinds.third fields.third t.2)

form_back : (n k r : ℕ) (kinds : Option FieldKinds) (fields : Fields) → FormFits n k r kinds fields → not (is_some (wrong_by_form n k r kinds fields)) ≡ true
form_back n k r None fields h = absurd h
form_back n k r (Some kinds) fields h =
    three_back _ _ _ (field_back n k r kinds.first fields.first h.0) (field_back n k r kinds.second fields.second h.1) (field_back n k r kinds.third fields.third h.2)

-- A statement that passes its test is well formed, and the other way round.
pub fits_formed : (n k r : ℕ) (s : Statement) → fits n k r s ≡ true → WellFormed n k r s
unfolding wrong_in
fits_formed n k r s e = form_out n k r (fields_of_form (letter_of s)) (fields_of s) e

pub formed_fits : (n k r : ℕ) (s : Statement) → WellFormed n k r s → fits n k r s ≡ true
unfolding wrong_in
formed_fits n k r s h = form_back n k r (fields_of_form (letter_of s)) (fields_of s) h

place_formed : (n k r : ℕ) (ss : List Statement) → all_fit n k r ss ≡ true → (p : ℕ) → p < length ss → WellFormed n k r (place ss p)
place_formed n k r [] e p low = absurd (omega arith)
place_formed n k r (s ∷ ss) e zero low = fits_formed n k r s (and_parts (fits n k r s) (all_fit n k r ss) e).0
place_formed n k r (s ∷ ss) e (suc p) low = place_formed n k r ss (and_parts (fits n k r s) (all_fit n k r ss) e).1 p (omega arith)

-- Statements that all pass their tests are all well formed, and the other way round.
pub all_formed : (n k r : ℕ) (ss : List Statement) → all_fit n k r ss ≡ true → AllWellFormed n k r ss
all_formed n k r ss e p s a = subst (WellFormed n k r) a.is (place_formed n k r ss e p a.low)

pub formed_all : (n k r : ℕ) (ss : List Statement) → AllWellFormed n k r ss → all_fit n k r ss ≡ true
formed_all n k r [] h = refl
formed_all n k r (s ∷ ss) h =
    and_from (fits n k r s) (all_fit n k r ss)
    (formed_fits n k r s (h 0 s (record { low = omega arith; is = refl })))
    (formed_all n k r ss (λ p t a. h (suc p) t (record { low = omega (arith, a.low); is = a.is })))

-- No wrong field is refused exactly if every statement passes its test.
refused_out : (n k r p : ℕ) (s : Statement) (ss : List Statement) (o : Option ℕ) → wrong_in n k r s ≡ o → refuse_field p o (statements_refusal n k r (p + 1) ss) ≡ None →
    (statements_refusal n k r (p + 1) ss ≡ None → all_fit n k r ss ≡ true) → all_fit n k r (s ∷ ss) ≡ true
refused_out n k r p s ss None w e h = and_from (fits n k r s) (all_fit n k r ss) (ap (λ (o : Option ℕ). not (is_some o)) w) (h e)
refused_out n k r p s ss (Some field) w e h = absurd (both_ways true (ap is_some e) refl)

pub unrefused_fit : (n k r p : ℕ) (ss : List Statement) → statements_refusal n k r p ss ≡ None → all_fit n k r ss ≡ true
unrefused_fit n k r p [] e = refl
unrefused_fit n k r p (s ∷ ss) e = refused_out n k r p s ss (wrong_in n k r s) refl e (unrefused_fit n k r (p + 1) ss)

fit_out : (o : Option ℕ) → not (is_some o) ≡ true → o ≡ None
fit_out None e = refl
fit_out (Some field) e = absurd (both_ways false refl e)

pub fit_unrefused : (n k r p : ℕ) (ss : List Statement) → all_fit n k r ss ≡ true → statements_refusal n k r p ss ≡ None
fit_unrefused n k r p [] e = refl
fit_unrefused n k r p (s ∷ ss) e =
    let t = and_parts (fits n k r s) (all_fit n k r ss) e in
    ap (λ (o : Option ℕ). refuse_field p o (statements_refusal n k r (p + 1) ss)) (fit_out (wrong_in n k r s) t.0) ∙ fit_unrefused n k r (p + 1) ss t.1

-- Counts and statements that are not refused are within the limits, and every statement is well formed.
pub record Accepted (n k r : ℕ) (ss : List Statement) : Type 0 where
  pub within : within_limits n k r (length ss) ≡ true
  pub fitting : all_fit n k r ss ≡ true

pub accepted_unrefused : (n k r : ℕ) (ss : List Statement) → Accepted n k r ss → base_refusal n k r ss ≡ None
unfolding base_refusal
accepted_unrefused n k r ss a =
    ap (λ (b : Bool). cond b (statements_refusal n k r 0 ss) (Some (refusal CountOutOfLimits 0 0))) a.within ∙ fit_unrefused n k r 0 ss a.fitting

pub unrefused_accepted : (n k r : ℕ) (ss : List Statement) → base_refusal n k r ss ≡ None → Accepted n k r ss
unfolding base_refusal
unrefused_accepted n k r ss e = by (within_limits n k r (length ss)) refl e where
  by : (b : Bool) → within_limits n k r (length ss) ≡ b → cond b (statements_refusal n k r 0 ss) (Some (refusal CountOutOfLimits 0 0)) ≡ None → Accepted n k r ss
  by true w h = record { within = w; fitting = unrefused_fit n k r 0 ss h }
  by false w h = absurd (both_ways true (ap is_some h) refl)

-- What passes is kept whole.
pub passed_kept : (n k r m : ℕ) (ss : List Statement) → m ≡ length ss → all_fit n k r ss ≡ true → if_passed (pass n k r m ss) ss ≡ ss
unfolding pass
passed_kept n k r m ss e f = ap (λ (b : Bool). if_passed b ss) (and_from (m == length ss) (all_fit n k r ss) (eq-eqb m (length ss) e) f)

-- So is what the check of counts and statements does not refuse.
pub accepted_kept : (n k r n' k' r' m : ℕ) (ss : List Statement) → base_refusal n k r ss ≡ None → n' ≡ n → k' ≡ k → r' ≡ r → m ≡ length ss →
    if_passed (pass n' k' r' m ss) ss ≡ ss
accepted_kept n k r n' k' r' m ss e i c v l =
    passed_kept n' k' r' m ss l
    (ap (λ (x : ℕ). all_fit x k' r' ss) i ∙ ap (λ (x : ℕ). all_fit n x r' ss) c ∙ ap (λ (x : ℕ). all_fit n k x ss) v ∙ (unrefused_accepted n k r ss e).fitting)
