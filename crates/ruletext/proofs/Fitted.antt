-- Every statement that a text gives is well formed: its fields number declared names.
use Rattle.std.proofs.Common.{◌≡◌, ℕ, Bool, true, false, cond, eqb, List, [], ◌∷◌, length, get_or, Some, None, Ok, Option, refl, ap, ◌∙◌, subst, arith}
use Rattle.std.proofs.lemmas.Bool.{eqb-true, and_from}
use Rattle.rules.specs.Fits.{count, FieldFits, FormFits, WellFormed, all_fit}
use Rattle.rules.specs.Formed.{formed_fits}
use Rattle.rules.specs.Forms.{FieldKinds, fields_of_form, in_order}
use Rattle.rules.specs.Statements.{three, statement_of}
use Rattle.rules.specs.declared.forms.Kind.{Kind}
use Rattle.rules.specs.declared.forms.Kind.TheVariants.{Individual, Class, Role}
use Rattle.rules.specs.declared.statements.Statement.{Statement}
use Rattle.rules.specs.declared.statements.Statement.TheVariants as s
use Rattle.ruletext.specs.Outcome.{Contents, names, by_text}
use Rattle.ruletext.specs.Laws.{EachWith, FieldsCalled, StatedIn}
use Rattle.ruletext.proofs.Accepted.{orderly}

-- Fields that fit the form of a letter give a well-formed statement.
module _ (n k r letter x y z : ℕ) (t : Statement) (fit : FormFits n k r (fields_of_form letter) (three x y z)) where
  -- One line of the table of letters, by what the lines after it give.
  row : (code : ℕ) (u : Statement) → (FormFits n k r (fields_of_form code) (three x y z) → WellFormed n k r u) → {rest : Option Statement} → (rest ≡ Some t → WellFormed n k r t)
      → cond (eqb letter code) (Some u) rest ≡ Some t → WellFormed n k r t
  row code u f {rest} more h = by (eqb letter code) refl h where
    by : (b : Bool) → eqb letter code ≡ b → cond b (Some u) rest ≡ Some t → WellFormed n k r t
    by true e q =
        let here : FormFits n k r (fields_of_form code) (three x y z) = subst (λ (c : ℕ). FormFits n k r (fields_of_form c) (three x y z)) (eqb-true letter code e) fit in
        let same : u ≡ t = cc in
        subst (WellFormed n k r) same (f here)
    by false e q = more q

  pub formed_by_letter : statement_of letter x y z ≡ Some t → WellFormed n k r t
  formed_by_letter =
      row 97 (s.Member x y) (λ f. (f.0, f.1, refl))
      (row 98 (s.Related x y z) (λ f. f)
      (row 99 (s.Empty x) (λ f. (f.0, refl, refl))
      (row 100 (s.Universal x) (λ f. (f.0, refl, refl))
      (row 101 (s.Only x y) (λ f. (f.0, f.1, refl))
      (row 102 (s.Nominal x y) (λ f. (f.0, f.1, refl))
      (row 103 (s.Subclass x y) (λ f. (f.0, f.1, refl))
      (row 104 (s.Both x y z) (λ f. f)
      (row 105 (s.Reaches x y z) (λ f. f)
      (row 106 (s.Requires x y z) (λ f. f)
      (row 107 (s.SelfWithin x y) (λ f. (f.0, f.1, refl))
      (row 108 (s.SelfPaired x y) (λ f. (f.0, f.1, refl))
      (row 109 (s.Subrole x y) (λ f. (f.0, f.1, refl))
      (row 110 (s.Chain x y z) (λ f. f)
      (row 111 (s.RoleBoth x y z) (λ f. f)
      (row 112 (s.Product x y z) (λ f. f)
      (row 113 (s.DomainRange x y z) (λ f. f)
      (λ h. let w : ◌≡◌ {A = ℕ} 0 1 = cc in absurd (omega arith))))))))))))))))))

-- The counts of what was read.
module _ (c : Contents) where
  counted : (kind : Kind) → length (names c kind) ≡ count (length c.individuals) (length c.classes) (length c.roles) kind
  counted Individual = refl
  counted Class = refl
  counted Role = refl

  -- The first field with the rest.
  record First (kind : Option Kind) (kinds : List (Option Kind)) (fields : List ℕ) : Type 0 where
    field : ℕ
    others : List ℕ
    is : fields ≡ field ∷ others
    fits : FieldFits (length c.individuals) (length c.classes) (length c.roles) kind field
    words : List (List ℕ)
    rest : FieldsCalled c kinds others words

  first : (kind : Option Kind) (kinds : List (Option Kind)) (fields : List ℕ) (words : List (List ℕ)) → FieldsCalled c (kind ∷ kinds) fields words → First kind kinds fields
  first None kinds [] words h = absurd h
  first None kinds (i ∷ is) words h = record { field = i; others = is; is = refl; fits = h.0; words = words; rest = h.1 }
  first (Some kind) kinds [] words h = absurd h
  first (Some kind) kinds (i ∷ is) [] h = absurd h
  first (Some kind) kinds (i ∷ is) (w ∷ ws) h = record { field = i; others = is; is = refl; fits = let e = counted kind in let l = h.0.low in omega arith; words = ws; rest = h.1 }

  fields_fit : (kinds : FieldKinds) (fields : List ℕ) (words : List (List ℕ)) → FieldsCalled c (in_order kinds) fields words
      → FormFits (length c.individuals) (length c.classes) (length c.roles) (Some kinds) (three (get_or fields 0 0) (get_or fields 1 0) (get_or fields 2 0))
  fields_fit kinds fields words h =
      let a = first kinds.first (kinds.second ∷ kinds.third ∷ []) fields words h in
      let b = first kinds.second (kinds.third ∷ []) a.others a.words a.rest in
      let d = first kinds.third [] b.others b.words b.rest in
      let e : fields ≡ a.field ∷ b.field ∷ d.field ∷ d.others = a.is ∙ ap (λ (l : List ℕ). a.field ∷ l) (b.is ∙ ap (λ (l : List ℕ). b.field ∷ l) d.is) in
      rw e (a.fits, b.fits, d.fits)

  stated_fits : (text : List ℕ) (x : Statement) (line : ℕ) → StatedIn text c x line → WellFormed (length c.individuals) (length c.classes) (length c.roles) x
  stated_fits text x line h =
      formed_by_letter (length c.individuals) (length c.classes) (length c.roles) h.letter _ _ _ x (rw h.form (fields_fit h.kinds h.fields h.called h.names)) h.is

  all_stated_fit : (text : List ℕ) (xs : List Statement) (ls : List ℕ) → EachWith (StatedIn text c) xs ls → all_fit (length c.individuals) (length c.classes) (length c.roles) xs ≡ true
  all_stated_fit text [] [] h = refl
  all_stated_fit text [] (l ∷ ls) h = absurd h
  all_stated_fit text (x ∷ xs) [] h = absurd h
  all_stated_fit text (x ∷ xs) (l ∷ ls) h = and_from _ _ (formed_fits (length c.individuals) (length c.classes) (length c.roles) x (stated_fits text x l h.0)) (all_stated_fit text xs ls h.1)

pub text_fits : (text : List ℕ) (c : Contents) → by_text text ≡ Ok c → all_fit (length c.individuals) (length c.classes) (length c.roles) c.statements ≡ true
text_fits text c h = all_stated_fit c text c.statements c.lines (orderly text c h).stated
