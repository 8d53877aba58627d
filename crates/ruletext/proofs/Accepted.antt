use Rattle.std.proofs.Common.{◌≡◌, ℕ, zero, suc, ◌+◌, ◌-◌, ◌<◌, ◌≤◌, Bool, true, false, cond, eqb, ltb, List, [], ◌∷◌, ◌++◌, length, get_or, drop, is_some, Some, None, Ok, Err, Option, Result, sym, refl, ap, ◌∙◌, subst, arith, length-append}
use Rattle.std.specs.Str.{bytes_eq}
use Rattle.std.proofs.lemmas.Slice.Eq.{bytes_eq-Decides}
use Rattle.std.proofs.lemmas.Bool.{eqb-true}
use Rattle.std.proofs.lemmas.List.Quantifiers.{position-Some}
use Rattle.std.proofs.lemmas.List.Sums.{fails_before_first}
use Rattle.std.specs.List.{position_or_len}
use Rattle.rules.specs.Forms.{FieldKinds, fields_of_form, in_order, used}
use Rattle.rules.specs.Limits.{most, most_statements, within_limits}
use Rattle.rules.specs.Refusals.{refusal as at}
use Rattle.rules.specs.Statements.{statement_of}
use Rattle.rules.specs.declared.counts.Counts.{Counts}
use Rattle.rules.specs.declared.forms.Kind.{Kind}
use Rattle.rules.specs.declared.forms.Kind.TheVariants.{Individual, Class, Role}
use Rattle.rules.specs.declared.refusals.Refusal.{Refusal}
use Rattle.rules.specs.declared.refusals.Reason.TheVariants as because
use Rattle.rules.specs.declared.statements.Statement.{Statement}
use Rattle.reader.specs.Text.{lines, words, proper, is_name}
use Rattle.ruletext.specs.Outcome.{Name, Contents, names, found, nothing, declared, added, check, then, known, all_names, numbers, new_name, declares, declared_kind, stating, by_form, by_kind, by_letter, by_words, by_line, by_lines, counted, by_text}
use Rattle.ruletext.specs.Means.{Means}
use Rattle.ruletext.specs.Reading.{Counted}
use Rattle.std.specs.Result.{MatchResult, OnOk}
use Rattle.reader.specs.Cut.{Each}
use Rattle.ruletext.specs.Laws.{EachWith, words_of, DeclaredIn, Called, FieldsCalled, StatedIn, Apart, Orderly}

-- What a text that is not refused says of the checks before it.
check_ok : {X : Type 0} (b : Bool) (e : Refusal) (r : Result X Refusal) (t : X) → check b e r ≡ Ok t → (b ≡ true) × (r ≡ Ok t)
check_ok true e r t h = (refl, h)
check_ok false e r t h = let z : ◌≡◌ {A = ℕ} 0 1 = cc in absurd (omega arith)

then_ok : {X Y : Type 0} (r : Result X Refusal) (f : X → Result Y Refusal) (t : Y) → then r f ≡ Ok t → (x : X) × (r ≡ Ok x) × (f x ≡ Ok t)
then_ok (Ok x) f t h = (x, refl, h)
then_ok (Err e) f t h = let z : ◌≡◌ {A = ℕ} 0 1 = cc in absurd (omega arith)

known_ok : {X : Type 0} (o : Option X) (e : Refusal) (x : X) → known o e ≡ Ok x → o ≡ Some x
known_ok None e x h = let z : ◌≡◌ {A = ℕ} 0 1 = cc in absurd (omega arith)
known_ok (Some y) e x h = let q : y ≡ x = cc in ap Some q

ok_same : {X : Type 0} (x y : X) → ◌≡◌ {A = Result X Refusal} (Ok x) (Ok y) → x ≡ y
ok_same x y h = cc

-- Lists.
each_push : {X : Type 0} (P : X → Type 0) (xs : List X) (x : X) → Each P xs → P x → Each P (xs ++ x ∷ [])
each_push P [] x h p = (p, tt)
each_push P (y ∷ ys) x h p = (h.0, each_push P ys x h.1 p)

with_push : {X : Type 0} (P : X → ℕ → Type 0) (xs : List X) (ns : List ℕ) (x : X) (n : ℕ) → EachWith P xs ns → P x n → EachWith P (xs ++ x ∷ []) (ns ++ n ∷ [])
with_push P [] [] x n h p = (p, tt)
with_push P [] (m ∷ ms) x n h p = absurd h
with_push P (y ∷ ys) [] x n h p = absurd h
with_push P (y ∷ ys) (m ∷ ms) x n h p = (h.0, with_push P ys ms x n h.1 p)

with_map : {X : Type 0} (P Q : X → ℕ → Type 0) → ((x : X) (n : ℕ) → P x n → Q x n) → (xs : List X) (ns : List ℕ) → EachWith P xs ns → EachWith Q xs ns
with_map P Q f [] [] h = tt
with_map P Q f [] (n ∷ ns) h = h
with_map P Q f (x ∷ xs) [] h = h
with_map P Q f (x ∷ xs) (n ∷ ns) h = (f x n h.0, with_map P Q f xs ns h.1)

get_d_front : {X : Type 0} (xs : List X) (y d : X) (i : ℕ) → i < length xs → get_or (xs ++ y ∷ []) i d ≡ get_or xs i d
get_d_front [] y d i lt = absurd (omega arith)
get_d_front (x ∷ xs) y d zero lt = refl
get_d_front (x ∷ xs) y d (suc i) lt = get_d_front xs y d i (omega arith)

drop_head : (xs : List (List ℕ)) (m : ℕ) (y : List ℕ) (ys : List (List ℕ)) → drop m xs ≡ y ∷ ys → (get_or xs m [] ≡ y) × (drop (suc m) xs ≡ ys)
drop_head [] zero y ys h = let z : ◌≡◌ {A = ℕ} 0 1 = cc in absurd (omega arith)
drop_head [] (suc m) y ys h = let z : ◌≡◌ {A = ℕ} 0 1 = cc in absurd (omega arith)
drop_head (x ∷ xs) zero y ys h = (cc, cc)
drop_head (x ∷ xs) (suc m) y ys h = drop_head xs m y ys h

one_word : (xs : List (List ℕ)) → length xs ≡ 0 → xs ≡ []
one_word [] h = refl
one_word (x ∷ xs) h = absurd (omega arith)

-- Names.
differ : (xs ys : List ℕ) → bytes_eq xs ys ≡ false → xs ≡ ys → ⊥
differ xs ys h e = let q = (bytes_eq-Decides xs ys).1 e in let z : ◌≡◌ {A = ℕ} 0 1 = cc in omega arith

abbrev blank : Name
blank = record { spelt = []; line = 0; word = 0 }

each_at : (P : Name → Type 0) (ns : List Name) → ((k : ℕ) → k < length ns → P (get_or ns k blank)) → Each P ns
each_at P [] h = tt
each_at P (n ∷ ns) h = (h 0 (omega arith), each_at P ns (λ k lt. h (suc k) (omega arith)))

nowhere : (n m : ℕ) → cond (ltb n m) (Some n) None ≡ None → m ≤ n
nowhere n m e = grind arith

found_none : (x : List ℕ) (ns : List Name) → found x ns ≡ None → Each (λ y. y.spelt ≡ x → ⊥) ns
found_none x ns e =
    let test : Name → Bool = λ y. bytes_eq y.spelt x in
    let past = nowhere (position_or_len test ns) (length ns) e in
    each_at (λ y. y.spelt ≡ x → ⊥) ns (λ k lt. differ (get_or ns k blank).spelt x (fails_before_first test ns k blank (omega arith)))

not_some : (o : Option ℕ) → cond (is_some o) false true ≡ true → o ≡ None
not_some None h = refl
not_some (Some i) h = let z : ◌≡◌ {A = ℕ} 0 1 = cc in absurd (omega arith)

apart_push : (xs : List Name) (n : Name) → Apart xs → Each (λ y. y.spelt ≡ n.spelt → ⊥) xs → Apart (xs ++ n ∷ [])
apart_push [] n h f = (tt, tt)
apart_push (x ∷ xs) n h f = (each_push (λ y. y.spelt ≡ x.spelt → ⊥) xs n h.0 (λ e. f.0 (sym e)), apart_push xs n h.1 f.1)

called : (s : Contents) (k : Kind) (x : List ℕ) (i : ℕ) → found x (names s k) ≡ Some i → Called s k i x
called s k x i h =
    let p = position-Some (λ y. bytes_eq y.spelt x) (names s k) i blank h in
    record { low = p.0; is = (bytes_eq-Decides (get_or (names s k) i blank).spelt x).0 p.1 }

-- Fields.
fields_called : (line w : ℕ) (s : Contents) (ks : List (Option Kind)) (xs : List (List ℕ)) (is : List ℕ) → numbers line w s ks xs ≡ Ok is → length xs ≡ used ks → FieldsCalled s ks is xs
unfolding numbers
fields_called line w s [] [] is e l = subst (λ (js : List ℕ). FieldsCalled s [] js []) (ok_same [] is e) tt
fields_called line w s [] (x ∷ xs) is e l = absurd (omega arith)
fields_called line w s (None ∷ ks) xs is e l =
    let q = then_ok (numbers line w s ks xs) _ is e in
    subst (λ (js : List ℕ). FieldsCalled s (None ∷ ks) js xs) (ok_same (0 ∷ q.0) is q.2) (refl, fields_called line w s ks xs q.0 q.1 l)
fields_called line w s (Some k ∷ ks) [] is e l = let z : ◌≡◌ {A = ℕ} 0 1 = cc in absurd (omega arith)
fields_called line w s (Some k ∷ ks) (x ∷ xs) is e l =
    let p = then_ok (known (found x (names s k)) (at because.NotDeclared line w)) _ is e in
    let q = then_ok (numbers line (w + 1) s ks xs) _ is p.2 in
    subst (λ (js : List ℕ). FieldsCalled s (Some k ∷ ks) js (x ∷ xs)) (ok_same (p.0 ∷ q.0) is q.2)
    (called s k x p.0 (known_ok (found x (names s k)) _ p.0 p.1), fields_called line (w + 1) s ks xs q.0 q.1 (omega arith))

-- Names that stand keep their numbers as more are read.
abbrev Grown : Contents → Contents → Type 0
Grown s t = (k : Kind) (i : ℕ) (x : List ℕ) → Called s k i x → Called t k i x

fields_grown : (s t : Contents) → Grown s t → (ks : List (Option Kind)) (is : List ℕ) (xs : List (List ℕ)) → FieldsCalled s ks is xs → FieldsCalled t ks is xs
fields_grown s t g [] [] [] h = tt
fields_grown s t g [] [] (x ∷ xs) h = h
fields_grown s t g [] (i ∷ is) xs h = h
fields_grown s t g (None ∷ ks) [] xs h = h
fields_grown s t g (None ∷ ks) (i ∷ is) xs h = (h.0, fields_grown s t g ks is xs h.1)
fields_grown s t g (Some k ∷ ks) [] xs h = h
fields_grown s t g (Some k ∷ ks) (i ∷ is) [] h = h
fields_grown s t g (Some k ∷ ks) (i ∷ is) (x ∷ xs) h = (g k i x h.0, fields_grown s t g ks is xs h.1)

stated_grown : (text : List ℕ) (s t : Contents) → Grown s t → (x : Statement) (n : ℕ) → StatedIn text s x n → StatedIn text t x n
stated_grown text s t g x n h = record {
  letter = h.letter;
  fields = h.fields;
  called = h.called;
  kinds = h.kinds;
  form = h.form;
  is = h.is;
  line = h.line;
  names = fields_grown s t g (in_order h.kinds) h.fields h.called h.names;
}

front_called : (ns : List Name) (n : Name) (i : ℕ) (x : List ℕ) → i < length ns → (get_or ns i blank).spelt ≡ x → (i < length (ns ++ n ∷ [])) × ((get_or (ns ++ n ∷ []) i blank).spelt ≡ x)
front_called ns n i x lt e = (rw length-append (omega arith), ap (λ (m : Name). m.spelt) (get_d_front ns n blank i lt) ∙ e)

declared_grown : (s : Contents) (k : Kind) (n : Name) → Grown s (declared s k n)
declared_grown s Individual n Individual i x h = let p = front_called s.individuals n i x h.low h.is in record { low = p.0; is = p.1 }
declared_grown s Individual n Class i x h = record { low = h.low; is = h.is }
declared_grown s Individual n Role i x h = record { low = h.low; is = h.is }
declared_grown s Class n Individual i x h = record { low = h.low; is = h.is }
declared_grown s Class n Class i x h = let p = front_called s.classes n i x h.low h.is in record { low = p.0; is = p.1 }
declared_grown s Class n Role i x h = record { low = h.low; is = h.is }
declared_grown s Role n Individual i x h = record { low = h.low; is = h.is }
declared_grown s Role n Class i x h = record { low = h.low; is = h.is }
declared_grown s Role n Role i x h = let p = front_called s.roles n i x h.low h.is in record { low = p.0; is = p.1 }

added_grown : (s : Contents) (y : Statement) (l : ℕ) → Grown s (added s y l)
added_grown s y l Individual i x h = record { low = h.low; is = h.is }
added_grown s y l Class i x h = record { low = h.low; is = h.is }
added_grown s y l Role i x h = record { low = h.low; is = h.is }

-- What every line keeps.
record Kept (text : List ℕ) (s : Contents) : Type 0 where
  apart : (k : Kind) → Apart (names s k)
  told : (k : Kind) → Each (DeclaredIn text k) (names s k)
  stated : EachWith (StatedIn text s) s.statements s.lines

-- A fact of the names of each kind, after one more name that has it.
over_kinds : (P : Kind → List Name → Type 0) (s : Contents) (k : Kind) (n : Name) → ((j : Kind) → P j (names s j)) → P k (names s k ++ n ∷ []) → (j : Kind) → P j (names (declared s k n) j)
over_kinds P s Individual n h p Individual = p
over_kinds P s Individual n h p Class = h Class
over_kinds P s Individual n h p Role = h Role
over_kinds P s Class n h p Individual = h Individual
over_kinds P s Class n h p Class = p
over_kinds P s Class n h p Role = h Role
over_kinds P s Role n h p Individual = h Individual
over_kinds P s Role n h p Class = h Class
over_kinds P s Role n h p Role = p

same_stated : (P : List Statement → List ℕ → Type 0) (s : Contents) (k : Kind) (n : Name) → P s.statements s.lines → P (declared s k n).statements (declared s k n).lines
same_stated P s Individual n h = h
same_stated P s Class n h = h
same_stated P s Role n h = h

kept_declared : (text : List ℕ) (s : Contents) (k : Kind) (n : Name) → Kept text s → Each (λ y. y.spelt ≡ n.spelt → ⊥) (names s k) → DeclaredIn text k n → Kept text (declared s k n)
kept_declared text s k n h new said = record {
  apart = over_kinds (λ j ns. Apart ns) s k n h.apart (apart_push (names s k) n (h.apart k) new);
  told = over_kinds (λ j ns. Each (DeclaredIn text j) ns) s k n h.told (each_push (DeclaredIn text k) (names s k) n (h.told k) said);
  stated = same_stated (EachWith (StatedIn text (declared s k n))) s k n (with_map (StatedIn text s) (StatedIn text (declared s k n)) (stated_grown text s (declared s k n) (declared_grown s k n)) s.statements s.lines h.stated);
}

same_added : (s : Contents) (y : Statement) (l : ℕ) (k : Kind) → names (added s y l) k ≡ names s k
same_added s y l Individual = refl
same_added s y l Class = refl
same_added s y l Role = refl

kept_added : (text : List ℕ) (s : Contents) (y : Statement) (l : ℕ) → Kept text s → StatedIn text s y l → Kept text (added s y l)
kept_added text s y l h said = record {
  apart = λ k. rw (same_added s y l k) (h.apart k);
  told = λ k. rw (same_added s y l k) (h.told k);
  stated = with_map (StatedIn text s) (StatedIn text (added s y l)) (stated_grown text s (added s y l) (added_grown s y l)) (s.statements ++ y ∷ []) (s.lines ++ l ∷ []) (with_push (StatedIn text s) s.statements s.lines y l h.stated said);
}

-- One line, whose words are a letter and some more.
module _ (text : List ℕ) (line : ℕ) (s : Contents) (h : Kept text s) (b : ℕ) where
  kept_new : (k : Kind) → declared_kind b ≡ Some k → (xs : List (List ℕ)) → words_of text line ≡ (b ∷ []) ∷ xs → length xs ≡ 1 → (u : Unit {0}) → all_names line 2 xs ≡ Ok u → (t : Contents) → new_name line s k xs ≡ Ok t → Kept text t
  unfolding new_name all_names
  kept_new k ke [] w l u a t e = absurd (omega arith)
  kept_new k ke (x ∷ xs) w l u a t e =
      let p = check_ok (cond (is_some (found x (names s k))) false true) _ _ t e in
      let q = check_ok (ltb (length (names s k)) (most k)) _ _ t p.1 in
      let n : Name = record { spelt = x; line = line; word = 2 } in
      let v : declared s k n ≡ t = ok_same (declared s k n) t q.1 in
      let bare : xs ≡ [] = one_word xs (omega arith) in
      subst (Kept text) v
      (kept_declared text s k n h (found_none x (names s k) (not_some (found x (names s k)) p.0))
      (record { letter = b; kind = ke; line = w ∙ ap (λ (ys : List (List ℕ)). (b ∷ []) ∷ x ∷ ys) bare; word = refl; name = (check_ok (is_name x) _ _ u a).0 }))

  kept_declares : (k : Kind) → declared_kind b ≡ Some k → (xs : List (List ℕ)) → words_of text line ≡ (b ∷ []) ∷ xs → (t : Contents) → declares line s k xs ≡ Ok t → Kept text t
  unfolding declares
  kept_declares k ke xs w t e =
      let p = check_ok (eqb (length xs) 1) _ _ t e in
      let q = then_ok (all_names line 2 xs) _ t p.1 in
      kept_new k ke xs w (eqb-true (length xs) 1 p.0) q.0 q.1 t q.2

  kept_stating : (ks : FieldKinds) → fields_of_form b ≡ Some ks → (xs : List (List ℕ)) → words_of text line ≡ (b ∷ []) ∷ xs → (y : Statement) → stating line s b (in_order ks) xs ≡ Ok y → StatedIn text s y line
  unfolding stating
  kept_stating ks ke xs w y e =
      let p = check_ok (eqb (length xs) (used (in_order ks))) _ _ y e in
      let q = then_ok (all_names line 2 xs) _ y p.1 in
      let r = then_ok (numbers line 2 s (in_order ks) xs) _ y q.2 in
      let is = r.0 in
      let o = known_ok (statement_of b (get_or is 0 0) (get_or is 1 0) (get_or is 2 0)) _ y r.2 in
      (record { letter = b; fields = is; called = xs; kinds = ks; form = ke; is = o; line = w; names = fields_called line 2 s (in_order ks) xs is r.1 (eqb-true (length xs) (used (in_order ks)) p.0) })

  kept_form : (f : Option FieldKinds) → fields_of_form b ≡ f → (xs : List (List ℕ)) → words_of text line ≡ (b ∷ []) ∷ xs → (t : Contents) → by_form line s b f xs ≡ Ok t → Kept text t
  kept_form None fe xs w t e = let z : ◌≡◌ {A = ℕ} 0 1 = cc in absurd (omega arith)
  kept_form (Some ks) fe xs w t e =
      let q = then_ok (stating line s b (in_order ks) xs) _ t e in
      let u = check_ok (ltb (length s.statements) most_statements) _ _ t q.2 in
      subst (Kept text) (ok_same (added s q.0 line) t u.1) (kept_added text s q.0 line h (kept_stating ks fe xs w q.0 q.1))

  kept_kind : (o : Option Kind) → declared_kind b ≡ o → (xs : List (List ℕ)) → words_of text line ≡ (b ∷ []) ∷ xs → (t : Contents) → by_kind line s b o xs ≡ Ok t → Kept text t
  kept_kind (Some k) oe xs w t e = kept_declares k oe xs w t e
  kept_kind None oe xs w t e = kept_form (fields_of_form b) refl xs w t e

kept_words : (text : List ℕ) (line : ℕ) (s : Contents) (xs : List (List ℕ)) → words_of text line ≡ xs → (t : Contents) → Kept text s → by_words line s xs ≡ Ok t → Kept text t
unfolding by_letter
kept_words text line s [] w t h e = subst (Kept text) (ok_same s t e) h
kept_words text line s ([] ∷ xs) w t h e = let z : ◌≡◌ {A = ℕ} 0 1 = cc in absurd (omega arith)
kept_words text line s ((b ∷ []) ∷ xs) w t h e = kept_kind text line s h b (declared_kind b) refl xs w t e
kept_words text line s ((b ∷ c ∷ more) ∷ xs) w t h e = let z : ◌≡◌ {A = ℕ} 0 1 = cc in absurd (omega arith)

kept_line : (text : List ℕ) (line : ℕ) (s : Contents) (bytes : List ℕ) → get_or (lines text) (line - 1) [] ≡ bytes → (t : Contents) → Kept text s → by_line line s bytes ≡ Ok t → Kept text t
unfolding by_line
kept_line text line s bytes w t h e = kept_words text line s (words bytes) (ap words w) t h (check_ok (proper bytes) _ _ t e).1

kept_lines : (text : List ℕ) (m : ℕ) (s : Contents) (ls : List (List ℕ)) → drop m (lines text) ≡ ls → (t : Contents) → Kept text s → by_lines (m + 1) s ls ≡ Ok t → Kept text t
unfolding by_lines
kept_lines text m s [] d t h e = subst (Kept text) (ok_same s t e) h
kept_lines text m s (l ∷ ls) d t h e =
    let q = then_ok (by_line (m + 1) s l) _ t e in
    let p = drop_head (lines text) m l ls d in
    let back : m + 1 - 1 ≡ m = omega arith in
    let on : m + 1 ≡ suc m = omega arith in
    let here : get_or (lines text) (m + 1 - 1) [] ≡ l = ap (λ (i : ℕ). get_or (lines text) i []) back ∙ p.0 in
    let next : drop (m + 1) (lines text) ≡ ls = ap (λ (i : ℕ). drop i (lines text)) on ∙ p.1 in
    kept_lines text (m + 1) q.0 ls next t (kept_line text (m + 1) s l here q.0 h q.1) q.2

no_names : (text : List ℕ) (k : Kind) → Apart (names nothing k) × Each (DeclaredIn text k) (names nothing k)
no_names text Individual = (tt, tt)
no_names text Class = (tt, tt)
no_names text Role = (tt, tt)

pub orderly : (text : List ℕ) (s : Contents) → by_text text ≡ Ok s → Orderly text s
orderly text s e =
    let q = then_ok (by_lines 1 nothing (lines text)) counted s e in
    let k = kept_lines text 0 nothing (lines text) refl q.0 (record { apart = λ k. (no_names text k).0; told = λ k. (no_names text k).1; stated = tt }) q.1 in
    let p = check_ok (within_limits (length q.0.individuals) (length q.0.classes) (length q.0.roles) (length q.0.statements)) _ _ s q.2 in
    subst (Orderly text) (ok_same q.0 s p.1) (record { counts = p.0; apart = k.apart; declared = k.told; stated = k.stated })

-- The same, where the text may be refused instead.
pub orderly_if : (text : List ℕ) (s : Contents) (r : Result Counts Refusal) → MatchResult r (λ c. Means text (Ok s) × Counted c s) (λ e. Means text (Err e)) → OnOk r (Orderly text s)
orderly_if text s (Ok c) h = orderly text s h.0.0
orderly_if text s (Err e) h = tt
