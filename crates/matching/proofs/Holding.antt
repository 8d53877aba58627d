-- What the store holds, and the facts of the entries.
use Rattle.std.proofs.Common.{◌≡◌, ℕ, Bool, true, false, List, [], ◌∷◌, ◌++◌, map, sym, refl, ap, ◌∙◌, subst, inl, inr}
use borrow.Author.Tests.{both_ways}
use Rattle.std.proofs.lemmas.Bool.Decides.{eqb_tells}
use Rattle.std.proofs.lemmas.List.{map-append}
use Rattle.rules.specs.declared.statements.Statement.{Statement}
use Rattle.marks.specs.Sets.{joined}
use Rattle.marks.specs.SetLaws.{joined_here, joined_other}
use Rattle.marks.specs.Trees.{In, here, there}
use Rattle.calculus.specs.Trees.{all_more}
use Rattle.calculus.specs.Numbers.{fact_number, Inside}
use Rattle.calculus.proofs.Numbered.{same_fact}
use Rattle.calculus.specs.declared.terms.Ground.{Ground}
use Rattle.calculus.specs.declared.terms.Fact.{Fact}
use Rattle.grounds.specs.Given.{Held, GivesHeld}
use Rattle.recovery.specs.Begun.{entry_bytes}
use Rattle.recovery.specs.EntryCuts.{EntryFits}
use Rattle.recovery.specs.declared.entry.Entry.{Entry}
use Rattle.matching.specs.Complete.{Good}
use Rattle.matching.specs.Entries.{Tells}
use Rattle.matching.specs.Going.{GoodByHeld, BadByHeld}
use Rattle.matching.specs.Matched.{HoldsExactly}
use Rattle.matching.proofs.Told.{told_once}
use Rattle.matching.proofs.Goods.{in_front, in_last, in_either, Fine, Treed, tree_inside, good_tells}

in_map : {X : Type 0} (number : X → ℕ) {x : X} {xs : List X} → In x xs → In (number x) (map number xs)
in_map number here = here
in_map number (there i) = there (in_map number i)

pub record From {X : Type 0} (number : X → ℕ) (xs : List X) (m : ℕ) : Type 0 where
  pub it : X
  pub among : In it xs
  pub numbered : number it ≡ m

from_map : {X : Type 0} (number : X → ℕ) (xs : List X) {m : ℕ} → In m (map number xs) → From number xs m
from_map number [] i = elim i [ ]
from_map number (x ∷ xs) here = record { it = x; among = here; numbered = refl }
from_map number (x ∷ xs) (there i) = let f = from_map number xs i in record { it = f.it; among = there f.among; numbered = f.numbered }

pub holds_none : (n k r : ℕ) (held : ℕ → Bool) → ((x : ℕ) → held x ≡ false) → HoldsExactly n k r held []
holds_none n k r held e x = (λ h. absurd (both_ways (held x) (e x) h), λ i. elim i [ ])

pub holds_more : (n k r : ℕ) (held now : ℕ → Bool) (facts : List Fact) (f : Fact) → HoldsExactly n k r held facts → ((x : ℕ) → now x ≡ joined held (fact_number n k r f) x) →
    HoldsExactly n k r now (facts ++ (f ∷ []))
holds_more n k r held now facts f h is x =
    let number = fact_number n k r in
    let back : In x (map number facts ++ (number f ∷ [])) → now x ≡ true =
    λ i. elim (in_either (map number facts) i) [
      | inl j ↦ elim (eqb_tells x (number f)) [
        | inl same ↦ ap now same.1 ∙ is (number f) ∙ joined_here held (number f)
        | inr other ↦ is x ∙ joined_other held (number f) x other.1 ∙ (h x).1 j
      ]
      | inr e ↦ ap now e ∙ is (number f) ∙ joined_here held (number f)
    ] in
    let out : now x ≡ true → In x (map number facts ++ (number f ∷ [])) =
    λ t. elim (eqb_tells x (number f)) [
      | inl same ↦ subst (λ y. In y (map number facts ++ (number f ∷ []))) (sym same.1) (in_last (map number facts) (number f))
      | inr other ↦ in_front (number f ∷ []) ((h x).0 (sym (is x ∙ joined_other held (number f) x other.1) ∙ t))
    ] in
    (λ t. subst (In x) (sym (map-append number facts (f ∷ []))) (out t), λ i. back (subst (In x) (map-append number facts (f ∷ [])) i))

-- an entry tells a fact that its ground does not give from held ones: no fact makes it good
pub bad_ground : (n k r : ℕ) (ss : List Statement) (held : ℕ → Bool) (e : Entry) (f : Fact) (why : Ground) → Tells n k r e f why → ¬ GivesHeld n k r ss held why f → BadByHeld n k r ss held e
bad_ground n k r ss held e f why t refused g h =
    let o = told_once n k r e g f h.ground why h.tells t in
    refused (subst (GivesHeld n k r ss held why) o.0 (subst (λ (w : Ground). GivesHeld n k r ss held w g) o.1 h.gives))

module _ (n k r : ℕ) (ss : List Statement) (fine : Fine n k r ss) (held : ℕ → Bool) (facts : List Fact) (exact : HoldsExactly n k r held facts) (treed : Treed n k ss facts) where
  pub held_in : (f : Fact) → Inside n k r f → held (fact_number n k r f) ≡ true → In f facts
  held_in f i h =
      let s = from_map (fact_number n k r) facts ((exact (fact_number n k r f)).0 h) in
      subst (λ x. In x facts) (same_fact n k r s.it f (tree_inside n k r ss fine s.it (treed s.it s.among)) i s.numbered) s.among

  pub in_held : (f : Fact) → In f facts → held (fact_number n k r f) ≡ true
  in_held f i = (exact (fact_number n k r f)).1 (in_map (fact_number n k r) i)

  pub tree_of_held : (x : ℕ) → held x ≡ true → From (fact_number n k r) facts x
  tree_of_held x h = from_map (fact_number n k r) facts ((exact x).0 h)

  absent : (f : Fact) → held (fact_number n k r f) ≡ false → ¬ In f facts
  absent f e i = both_ways (held (fact_number n k r f)) e (in_held f i)

  pub good_from : (e : Entry) (f : Fact) → GoodByHeld n k r ss held e f → Good n k ss facts (entry_bytes e) f
  good_from e f g = record {
    ground = g.ground;
    tells = ap entry_bytes g.tells.is;
    gives = record { premises = g.gives.premises; step = g.gives.step; given = all_more (Held n k r held) (λ x. In x facts) (λ x h. held_in x h.inside h.is) g.gives.premises g.gives.given };
    new = absent f g.new;
  }

  not_held : (f : Fact) → Inside n k r f → ¬ In f facts → held (fact_number n k r f) ≡ false
  not_held f i no-in = by (held (fact_number n k r f)) refl where
    by : (b : Bool) → held (fact_number n k r f) ≡ b → b ≡ false
    by true e = absurd (no-in (held_in f i e))
    by false e = refl

  pub good_back : (e : Entry) (f : Fact) → EntryFits e → Good n k ss facts (entry_bytes e) f → GoodByHeld n k r ss held e f
  good_back e f fits g =
      let t = good_tells n k r ss fine e fits treed g in
      record {
        ground = g.ground;
        tells = t;
        gives = record { premises = g.gives.premises; step = g.gives.step; given = all_more (λ x. In x facts) (Held n k r held) (λ x i. record { inside = tree_inside n k r ss fine x (treed x i); is = in_held x i }) g.gives.premises g.gives.given };
        new = not_held f t.inside g.new;
      }
