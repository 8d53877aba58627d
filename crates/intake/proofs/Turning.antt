-- The header of a text: what is written is what the text gives, and it is in order.
use Rattle.std.proofs.Common.{◌≡◌, ℕ, Bool, true, false, not, List, [], ◌∷◌, map, length, Ok, vec_items, sym, refl, ap}
use lib.ListN.{length-map}
use Rattle.std.specs.Str.{bytes_eq}
use Rattle.std.proofs.lemmas.Slice.Eq.{bytes_eq-Decides}
use Rattle.std.proofs.lemmas.Bool.{and_from, or_from, not_from_false}
use Rattle.rules.specs.Formed.{accepted_unrefused}
use Rattle.rules.specs.declared.forms.Kind.{Kind}
use Rattle.rules.specs.declared.forms.Kind.TheVariants.{Individual, Class, Role}
use Rattle.rules.specs.declared.statements.Statement.{Statement}
use Rattle.reader.specs.Cut.{Each}
use Rattle.reader.specs.Text.{is_name}
use Rattle.reader.specs.declared.reader.Word.{Word}
use Rattle.headers.specs.Bytes.{all}
use Rattle.headers.specs.Names.{is_in, distinct}
use Rattle.headers.specs.Header.{listing}
use Rattle.headers.specs.Theorems.{Naming, Proper}
use Rattle.ruletext.specs.declared.text_rules.Rules.{Rules}
use Rattle.ruletext.specs.Outcome.{Name, Contents, by_text}
use Rattle.ruletext.specs.Laws.{DeclaredIn, Apart}
use Rattle.ruletext.specs.Reading.{spelt, contents}
use Rattle.ruletext.proofs.Accepted.{orderly}
use Rattle.ruletext.proofs.Fitted.{text_fits}
use Rattle.intake.specs.Texts.{spellings, worded, header_of, TextAccepted}
use Rattle.intake.proofs.One.{accepted_back}

-- The words are spelt as what has been read.
spelt_twice : (ws : List Word) → worded ws ≡ spellings (map spelt ws)
spelt_twice [] = refl
spelt_twice (w ∷ ws) = ap (λ (v : List (List ℕ)). w.bytes.now ∷ v) (spelt_twice ws)

-- What is handed to the writer is the header of what has been read.
pub listing_held : (rules : Rules) (xs ks vs : List Word) (ss : List Statement) → xs ≡ vec_items rules.individuals → ks ≡ vec_items rules.classes → vs ≡ vec_items rules.roles → ss ≡ vec_items rules.statements →
    listing (worded xs) (worded ks) (worded vs) ss ≡ header_of (contents rules)
listing_held rules xs ks vs ss ex ek ev es =
    let px = spelt_twice (vec_items rules.individuals) in
    let pk = spelt_twice (vec_items rules.classes) in
    let pv = spelt_twice (vec_items rules.roles) in
    rw (ex, ek, ev, es, px, pk, pv) refl

-- The names of an accepted text are names, and none stands twice.
all_named : (t : List ℕ) (k : Kind) (xs : List Name) → Each (DeclaredIn t k) xs → all is_name (spellings xs) ≡ true
all_named t k [] e = refl
all_named t k (x ∷ xs) e = and_from (is_name x.spelt) (all is_name (spellings xs)) (e.0.name) (all_named t k xs e.1)

unlike : (x : List ℕ) (y : List ℕ) → (y ≡ x → ⊥) → bytes_eq x y ≡ false
unlike x y h = by (bytes_eq x y) refl where
  by : (b : Bool) → bytes_eq x y ≡ b → b ≡ false
  by true e = absurd (h (sym ((bytes_eq-Decides x y).0 e)))
  by false e = refl

not_in : (x : List ℕ) (ys : List Name) → Each (λ (y : Name). y.spelt ≡ x → ⊥) ys → is_in x (spellings ys) ≡ false
not_in x [] e = refl
not_in x (y ∷ ys) e = or_from (bytes_eq x y.spelt) (is_in x (spellings ys)) (unlike x y.spelt e.0) (not_in x ys e.1)

all_apart : (xs : List Name) → Apart xs → distinct (spellings xs) ≡ true
all_apart [] a = refl
all_apart (x ∷ xs) a =
    and_from (not (is_in x.spelt (spellings xs))) (distinct (spellings xs)) (not_from_false (is_in x.spelt (spellings xs)) (not_in x.spelt xs a.0)) (all_apart xs a.1)

naming : (text : List ℕ) (k : Kind) (xs : List Name) → Each (DeclaredIn text k) xs → Apart xs → Naming (spellings xs)
naming text k xs d a = record { each = all_named text k xs d; once = all_apart xs a }

text_proper : (text : List ℕ) (s : Contents) → by_text text ≡ Ok s → Proper (header_of s)
text_proper text s e =
    let o = orderly text s e in
    let n : length (spellings s.individuals) ≡ length s.individuals = length-map s.individuals (λ (x : Name). x.spelt) in
    let k : length (spellings s.classes) ≡ length s.classes = length-map s.classes (λ (x : Name). x.spelt) in
    let r : length (spellings s.roles) ≡ length s.roles = length-map s.roles (λ (x : Name). x.spelt) in
    record {
      individuals = naming text Individual s.individuals (o.declared Individual) (o.apart Individual);
      classes = naming text Class s.classes (o.declared Class) (o.apart Class);
      roles = naming text Role s.roles (o.declared Role) (o.apart Role);
      fitting = rw (n, k, r) (accepted_unrefused (length s.individuals) (length s.classes) (length s.roles) s.statements (record { within = o.counts; fitting = text_fits text s e }));
    }

pub text_accepted : TextAccepted
text_accepted text s m = accepted_back (header_of s) (text_proper text s m.0) m.1
