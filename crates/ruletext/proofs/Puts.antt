use Rattle.std.proofs.Common.{◌≡◌, ℕ, ◌<◌, List, [], ◌∷◌, ◌++◌, map, length, ap, ◌∙◌, arith}
use Rattle.std.proofs.lemmas.List.{map_push}
use Rattle.rules.specs.declared.forms.Kind.{Kind}
use Rattle.rules.specs.declared.forms.Kind.TheVariants.{Individual, Class, Role}
use Rattle.reader.specs.declared.reader.Word.{Word}
use Rattle.rules.specs.Limits.{most}
use Rattle.ruletext.specs.Outcome.{Name, Contents, names, declared}
use Rattle.ruletext.specs.Reading.{spelt}

pub one_more : (ws vs : List Word) (w : Word) → ws ≡ vs ++ w ∷ [] → map spelt ws ≡ map spelt vs ++ spelt w ∷ []
one_more ws vs w e = ap (map spelt) e ∙ map_push spelt vs w

module _ (s : Contents) (l : List Name) (k : Kind) (n : Name) where
  pub put_individual : k ≡ Individual → l ≡ s.individuals ++ n ∷ [] → ◌≡◌ {A = Contents} (record { individuals = l; classes = s.classes; roles = s.roles; statements = s.statements; lines = s.lines }) (declared s k n)
  put_individual e h = rw (e, h)

  pub put_class : k ≡ Class → l ≡ s.classes ++ n ∷ [] → ◌≡◌ {A = Contents} (record { individuals = s.individuals; classes = l; roles = s.roles; statements = s.statements; lines = s.lines }) (declared s k n)
  put_class e h = rw (e, h)

  pub put_role : k ≡ Role → l ≡ s.roles ++ n ∷ [] → ◌≡◌ {A = Contents} (record { individuals = s.individuals; classes = s.classes; roles = l; statements = s.statements; lines = s.lines }) (declared s k n)
  put_role e h = rw (e, h)

module _ (s : Contents) (k : Kind) (n : ℕ) where
  pub room_individual : k ≡ Individual → length (names s k) < most k → n ≡ length s.individuals → n < 128
  room_individual e h q = let g : length s.individuals < 128 = rw e at h in omega arith

  pub room_class : k ≡ Class → length (names s k) < most k → n ≡ length s.classes → n < 256
  room_class e h q = let g : length s.classes < 256 = rw e at h in omega arith

  pub room_role : k ≡ Role → length (names s k) < most k → n ≡ length s.roles → n < 32
  room_role e h q = let g : length s.roles < 32 = rw e at h in omega arith
