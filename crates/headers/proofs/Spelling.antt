-- Records and statements: a record whose fields fit gives a statement that is spelt like it.
use Rattle.std.proofs.Common.{◌≡◌, ℕ, suc, ◌+◌, Bool, true, false, cond, eqb, List, [], ◌∷◌, ◌++◌, map, length, is_some, Some, None, Option, sym, refl, ap, ◌∙◌, subst, inl, inr}
use borrow.Author.Tests.{both_ways}
use Rattle.std.proofs.lemmas.Bool.{and_parts, eqb-true, cond-true, cond-false, cases_Bool}
use Rattle.rules.specs.Forms.{FieldKinds, fields_of_form}
use Rattle.rules.specs.Statements.{Fields, letter_of, fields_of, statement_of, three}
use Rattle.rules.specs.Fits.{field_fits, first_false, FormFits, wrong_by_form, wrong_in, refuse_field, statements_refusal}
use Rattle.rules.specs.Formed.{field_out}
use Rattle.rules.specs.declared.refusals.Refusal.{Refusal}
use Rattle.rules.specs.declared.statements.Statement.{Statement}
use Rattle.rules.specs.declared.statements.Statement.TheVariants as s
use Rattle.headers.specs.declared.record.Record.{Record}
use Rattle.headers.specs.Bytes.{two, joined, all, at as at_byte}
use Rattle.headers.specs.Records.{known_letter, is_record, record_in, record_bytes, stated, keep, stated_by, wrong_in_record, records_refusal}

-- A statement spelt like a record.
pub record Spells (letter : ℕ) (fields : Fields) (s : Statement) : Type 0 where
  pub letter' : letter_of s ≡ letter
  pub fields' : fields_of s ≡ fields

some_same : (x y : Statement) → ◌≡◌ {A = Option Statement} (Some x) (Some y) → x ≡ y
some_same x y e = cc

module _ (n k r letter a b c : ℕ) (fit : FormFits n k r (fields_of_form letter) (three a b c)) where
  abbrev Like : Statement → Type 0
  Like t = Spells letter (three a b c) t

  step : (code : ℕ) (t : Statement) (rest : Option Statement) → (letter ≡ code → Like t) → ((u : Statement) → rest ≡ Some u → Like u) → (u : Statement) → cond (eqb letter code) (Some t) rest ≡ Some u → Like u
  step code t rest here on u e =
      elim (cases_Bool (eqb letter code)) [
        | inl y ↦ subst (Spells letter (three a b c)) (some_same t u (sym (cond-true (eqb letter code) (Some t) rest y) ∙ e)) (here (eqb-true letter code y))
        | inr f ↦ on u (sym (cond-false (eqb letter code) (Some t) rest f) ∙ e)
      ]

  at : (code : ℕ) → letter ≡ code → FormFits n k r (fields_of_form code) (three a b c)
  at code l = subst (λ i. FormFits n k r (fields_of_form i) (three a b c)) l fit

  -- a form with three fields, with two, and with one
  full : (code : ℕ) (t : Statement) → letter ≡ code → letter_of t ≡ code → fields_of t ≡ three a b c → Like t
  full code t l e f = record { letter' = e ∙ sym l; fields' = f }

  pair : (code : ℕ) (t : Statement) → letter ≡ code → letter_of t ≡ code → fields_of t ≡ three a b 0 → c ≡ 0 → Like t
  pair code t l e f z = record { letter' = e ∙ sym l; fields' = f ∙ ap (three a b) (sym z) }

  one : (code : ℕ) (t : Statement) → letter ≡ code → letter_of t ≡ code → fields_of t ≡ three a 0 0 → b ≡ 0 → c ≡ 0 → Like t
  one code t l e f y z = record { letter' = e ∙ sym l; fields' = f ∙ (ap (λ i. three a i 0) (sym y) ∙ ap (three a b) (sym z)) }

  none_left : (u : Statement) → ◌≡◌ {A = Option Statement} None (Some u) → Like u
  none_left u e = absurd (both_ways false refl (ap is_some e))

  pub spells : (u : Statement) → statement_of letter a b c ≡ Some u → Like u
  spells =
      step 97 (s.Member a b) _ (λ l. pair 97 (s.Member a b) l refl refl (at 97 l).2)
      (step 98 (s.Related a b c) _ (λ l. full 98 (s.Related a b c) l refl refl)
      (step 99 (s.Empty a) _ (λ l. one 99 (s.Empty a) l refl refl (at 99 l).1 (at 99 l).2)
      (step 100 (s.Universal a) _ (λ l. one 100 (s.Universal a) l refl refl (at 100 l).1 (at 100 l).2)
      (step 101 (s.Only a b) _ (λ l. pair 101 (s.Only a b) l refl refl (at 101 l).2)
      (step 102 (s.Nominal a b) _ (λ l. pair 102 (s.Nominal a b) l refl refl (at 102 l).2)
      (step 103 (s.Subclass a b) _ (λ l. pair 103 (s.Subclass a b) l refl refl (at 103 l).2)
      (step 104 (s.Both a b c) _ (λ l. full 104 (s.Both a b c) l refl refl)
      (step 105 (s.Reaches a b c) _ (λ l. full 105 (s.Reaches a b c) l refl refl)
      (step 106 (s.Requires a b c) _ (λ l. full 106 (s.Requires a b c) l refl refl)
      (step 107 (s.SelfWithin a b) _ (λ l. pair 107 (s.SelfWithin a b) l refl refl (at 107 l).2)
      (step 108 (s.SelfPaired a b) _ (λ l. pair 108 (s.SelfPaired a b) l refl refl (at 108 l).2)
      (step 109 (s.Subrole a b) _ (λ l. pair 109 (s.Subrole a b) l refl refl (at 109 l).2)
      (step 110 (s.Chain a b c) _ (λ l. full 110 (s.Chain a b c) l refl refl)
      (step 111 (s.RoleBoth a b c) _ (λ l. full 111 (s.RoleBoth a b c) l refl refl)
      (step 112 (s.Product a b c) _ (λ l. full 112 (s.Product a b c) l refl refl)
      (step 113 (s.DomainRange a b c) None (λ l. full 113 (s.DomainRange a b c) l refl refl) none_left))))))))))))))))

-- a letter has a form exactly if it gives a statement
same_some : {X Y : Type 0} (t : Bool) (x : X) (y : Y) (o : Option X) (p : Option Y) → is_some o ≡ is_some p → is_some (cond t (Some x) o) ≡ is_some (cond t (Some y) p)
same_some true x y o p e = refl
same_some false x y o p e = e

given_is : (l a b c : ℕ) → is_some (statement_of l a b c) ≡ is_some (fields_of_form l)
given_is l a b c =
    same_some (eqb l 97) _ _ _ _ (same_some (eqb l 98) _ _ _ _ (same_some (eqb l 99) _ _ _ _ (same_some (eqb l 100) _ _ _ _ (same_some (eqb l 101) _ _ _ _
    (same_some (eqb l 102) _ _ _ _ (same_some (eqb l 103) _ _ _ _ (same_some (eqb l 104) _ _ _ _ (same_some (eqb l 105) _ _ _ _ (same_some (eqb l 106) _ _ _ _
    (same_some (eqb l 107) _ _ _ _ (same_some (eqb l 108) _ _ _ _ (same_some (eqb l 109) _ _ _ _ (same_some (eqb l 110) _ _ _ _ (same_some (eqb l 111) _ _ _ _
    (same_some (eqb l 112) _ _ _ _ (same_some (eqb l 113) _ _ _ _ refl))))))))))))))))

-- records with known letters give as many statements
known_given : (x : Record) → known_letter x.letter ≡ true → is_some (stated x) ≡ true
unfolding known_letter stated
known_given x e = given_is x.letter x.fields.first x.fields.second x.fields.third ∙ e

keep_length : (o : Option Statement) (us : List Statement) → is_some o ≡ true → length (keep o us) ≡ suc (length us)
keep_length None us e = absurd (both_ways false refl e)
keep_length (Some u) us e = refl

pub known_length : (cs : List (List ℕ)) → all is_record cs ≡ true → length (stated_by (map record_in cs)) ≡ length (map record_in cs)
known_length [] e = refl
known_length (c ∷ cs) e =
    let p = and_parts (is_record c) (all is_record cs) e in
    let q = and_parts (known_letter (record_in c).letter) (eqb (at_byte c 1) 0) p.0 in
    keep_length (stated (record_in c)) (stated_by (map record_in cs)) (known_given (record_in c) q.0) ∙ ap suc (known_length cs p.1)

-- no wrong field: the fields fit
first_none : (a b c : Bool) → first_false a b c ≡ None → (a ≡ true) × (b ≡ true) × (c ≡ true)
first_none true true true e = (refl, refl, refl)
first_none true true false e = absurd (both_ways true (ap is_some e) refl)
first_none true false c e = absurd (both_ways true (ap is_some e) refl)
first_none false b c e = absurd (both_ways true (ap is_some e) refl)

form_fits : (n k r : ℕ) (kinds : Option FieldKinds) (f : Fields) → wrong_by_form n k r kinds f ≡ None → FormFits n k r kinds f
form_fits n k r None f e = both_ways true (ap is_some e) refl
form_fits n k r (Some kinds) f e =
    let t = first_none (field_fits n k r kinds.first f.first) (field_fits n k r kinds.second f.second) (field_fits n k r kinds.third f.third) e in
    (field_out n k r kinds.first f.first t.0, field_out n k r kinds.second f.second t.1, field_out n k r kinds.third f.third t.2)

form_some : (n k r : ℕ) (kinds : Option FieldKinds) (f : Fields) → FormFits n k r kinds f → is_some kinds ≡ true
form_some n k r None f h = absurd h
form_some n k r (Some kinds) f h = refl

-- what a record gives
pub record Given (x : Record) : Type 0 where
  pub statement : Statement
  pub is : stated x ≡ Some statement
  pub like : Spells x.letter x.fields statement

given_by : (n k r : ℕ) (x : Record) (o : Option Statement) → stated x ≡ o → is_some o ≡ true → FormFits n k r (fields_of_form x.letter) x.fields → Given x
unfolding stated
given_by n k r x None e h fit = absurd (both_ways false refl h)
given_by n k r x (Some u) e h fit = record { statement = u; is = e; like = spells n k r x.letter x.fields.first x.fields.second x.fields.third fit u e }

pub given : (n k r : ℕ) (x : Record) → wrong_in_record n k r x ≡ None → Given x
unfolding stated wrong_in_record
given n k r x e =
    let fit = form_fits n k r (fields_of_form x.letter) x.fields e in
    given_by n k r x (stated x) refl (given_is x.letter x.fields.first x.fields.second x.fields.third ∙ form_some n k r (fields_of_form x.letter) x.fields fit) fit

same_wrong : (n k r : ℕ) (x : Record) (g : Given x) → wrong_in n k r g.statement ≡ wrong_in_record n k r x
unfolding wrong_in wrong_in_record
same_wrong n k r x g =
    ap (λ l. wrong_by_form n k r (fields_of_form l) (fields_of g.statement)) g.like.letter' ∙ ap (wrong_by_form n k r (fields_of_form x.letter)) g.like.fields'

-- the bytes of a record
abbrev pub raw_bytes : Record → List ℕ
raw_bytes x = x.letter ∷ 0 ∷ (two x.fields.first ++ (two x.fields.second ++ two x.fields.third))

same_bytes : (x : Record) (g : Given x) → record_bytes g.statement ≡ raw_bytes x
same_bytes x g =
    ap (λ l. l ∷ 0 ∷ (two (fields_of g.statement).first ++ (two (fields_of g.statement).second ++ two (fields_of g.statement).third))) g.like.letter'
    ∙ ap (λ (f : Fields). x.letter ∷ 0 ∷ (two f.first ++ (two f.second ++ two f.third))) g.like.fields'

unrefused : (p : ℕ) (o : Option ℕ) (rest : Option Refusal) → refuse_field p o rest ≡ None → (o ≡ None) × (rest ≡ None)
unrefused p None rest e = (refl, e)
unrefused p (Some i) rest e = absurd (both_ways true (ap is_some e) refl)

-- records that all fit: the statements that they give
pub record Rows (n k r p : ℕ) (xs : List Record) : Type 0 where
  pub size : length (stated_by xs) ≡ length xs
  pub fit : statements_refusal n k r p (stated_by xs) ≡ None
  pub bytes : joined record_bytes (stated_by xs) ≡ joined raw_bytes xs

pub rows : (n k r p : ℕ) (xs : List Record) → records_refusal n k r p xs ≡ None → Rows n k r p xs
rows n k r p [] e = record { size = refl; fit = refl; bytes = refl }
rows n k r p (x ∷ xs) e =
    let h = unrefused p (wrong_in_record n k r x) (records_refusal n k r (p + 1) xs) e in
    let g = given n k r x h.0 in
    let more = rows n k r (p + 1) xs h.1 in
    let list : stated_by (x ∷ xs) ≡ g.statement ∷ stated_by xs = ap (λ o. keep o (stated_by xs)) g.is in
    record {
      size = ap length list ∙ ap suc more.size;
      fit = ap (statements_refusal n k r p) list ∙ (ap (λ o. refuse_field p o (statements_refusal n k r (p + 1) (stated_by xs))) (same_wrong n k r x g ∙ h.0) ∙ more.fit);
      bytes = ap (joined record_bytes) list ∙ (ap (λ v. v ++ joined record_bytes (stated_by xs)) (same_bytes x g) ∙ ap (λ v. raw_bytes x ++ v) more.bytes);
    }

-- a statement as a record, and back
abbrev pub record_of : Statement → Record
record_of u = record { letter = letter_of u; fields = fields_of u }

pub told_apart : (u : Statement) → stated (record_of u) ≡ Some u
unfolding stated
told_apart (s.Member x y) = refl
told_apart (s.Related x y z) = refl
told_apart (s.Empty x) = refl
told_apart (s.Universal x) = refl
told_apart (s.Only x y) = refl
told_apart (s.Nominal x y) = refl
told_apart (s.Subclass x y) = refl
told_apart (s.Both x y z) = refl
told_apart (s.Reaches x y z) = refl
told_apart (s.Requires x y z) = refl
told_apart (s.SelfWithin x y) = refl
told_apart (s.SelfPaired x y) = refl
told_apart (s.Subrole x y) = refl
told_apart (s.Chain x y z) = refl
told_apart (s.RoleBoth x y z) = refl
told_apart (s.Product x y z) = refl
told_apart (s.DomainRange x y z) = refl

pub letter_known : (u : Statement) → known_letter (letter_of u) ≡ true
unfolding known_letter stated
letter_known u = sym (given_is (letter_of u) (fields_of u).first (fields_of u).second (fields_of u).third) ∙ ap is_some (told_apart u)

pub stated_back : (us : List Statement) → stated_by (map record_of us) ≡ us
stated_back [] = refl
stated_back (u ∷ us) = ap (λ o. keep o (stated_by (map record_of us))) (told_apart u) ∙ ap (λ v. u ∷ v) (stated_back us)

pub same_refusal : (n k r p : ℕ) (us : List Statement) → records_refusal n k r p (map record_of us) ≡ statements_refusal n k r p us
unfolding wrong_in wrong_in_record
same_refusal n k r p [] = refl
same_refusal n k r p (u ∷ us) = ap (refuse_field p (wrong_in n k r u)) (same_refusal n k r (p + 1) us)
