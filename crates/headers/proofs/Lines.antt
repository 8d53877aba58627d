use Rattle.std.proofs.Common.{◌≡◌, ℕ, zero, suc, ◌+◌, ◌<◌, Bool, true, false, not, ◌&&◌, eqb, List, [], ◌∷◌, ◌++◌, length, get_or, take, drop, Some, None, sym, refl, ap, ◌∙◌, inl, inr, suc-le-suc, zero-le, arith, length-append, take-append-drop}
use Rattle.std.specs.Str.{bytes_eq}
use Rattle.std.specs.Cmp.Lexicographic.{pointwise}
use Rattle.std.proofs.lemmas.Slice.Eq.{slice_eq-Decides, bytes_eq-Decides}
use Rattle.std.proofs.lemmas.Bool.Decides.{same_from_decides, Decides-eqb}
use Rattle.std.proofs.lemmas.List.{drop_more}
use Rattle.std.proofs.lemmas.List.Quantifiers.{position-Some}
use Rattle.std.proofs.lemmas.Iterator.Adapters.{position_from-zero}
use Rattle.std.proofs.lemmas.Option.{none-some}
use Rattle.std.specs.List.{position, position_from}
use Rattle.std.proofs.lemmas.Bool.{cond-true, cond-false, eqb-true, cases_Bool}
use Rattle.reader.specs.Text.{is_name}
use Rattle.headers.specs.Bytes.{all}
use Rattle.headers.specs.Names.{lines, ended, is_in, distinct, are_names, on_first}

-- no byte is a line end
abbrev pub Free : List ℕ → Type 0
Free [] = Unit {0}
Free (b ∷ bs) = (eqb b 10 ≡ false) × Free bs

free_from : (i : ℕ) (xs : List ℕ) → ((k : ℕ) → k < i → eqb (get_or xs k 0) 10 ≡ false) → Free (take i xs)
free_from zero xs h = tt
free_from (suc i) [] h = tt
free_from (suc i) (x ∷ xs) h = (h 0 (suc-le-suc zero-le), free_from i xs (λ k l. h (suc k) (suc-le-suc l)))

is_end : ℕ → Bool
is_end b = eqb b 10

none_from : (i : ℕ) (xs : List ℕ) → position_from is_end i xs ≡ None → lines xs ≡ []
unfolding is_end
none_from i [] e = refl
none_from i (x ∷ xs) e =
    elim (cases_Bool (eqb x 10)) [
      | inl t ↦ absurd (none-some i (sym e ∙ cond-true (eqb x 10) (Some i) (position_from is_end (i + 1) xs) t))
      | inr f ↦ cond-false (eqb x 10) ([] ∷ lines xs) (on_first x (lines xs)) f ∙ ap (on_first x) (none_from (i + 1) xs (sym (cond-false (eqb x 10) (Some i) (position_from is_end (i + 1) xs) f) ∙ e))
    ]

pub lines_line : (x rest : List ℕ) → Free x → lines (x ++ (10 ∷ rest)) ≡ x ∷ lines rest
lines_line [] rest f = refl
lines_line (b ∷ bs) rest f =
    cond-false (eqb b 10) ([] ∷ lines (bs ++ (10 ∷ rest))) (on_first b (lines (bs ++ (10 ∷ rest)))) f.0 ∙ ap (on_first b) (lines_line bs rest f.1)

split_at : (xs : List ℕ) (i : ℕ) → i < length xs → get_or xs i 0 ≡ 10 → xs ≡ take i xs ++ (10 ∷ drop (i + 1) xs)
split_at xs i h e = sym (take-append-drop i xs) ∙ ap (λ t. take i xs ++ t) (drop_more xs i 0 h ∙ ap (λ y. y ∷ drop (i + 1) xs) e)

-- the first line ends where the first line end stands
pub no_line : (xs : List ℕ) → position (λ b. eqb b 10) xs ≡ None → lines xs ≡ []
unfolding is_end
no_line xs e = none_from 0 xs (sym (position_from-zero is_end xs) ∙ e)

pub first_line : (xs : List ℕ) (i : ℕ) → position (λ b. eqb b 10) xs ≡ Some i → (xs ≡ take i xs ++ (10 ∷ drop (i + 1) xs)) × (lines xs ≡ take i xs ∷ lines (drop (i + 1) xs))
first_line xs i e =
    let p = position-Some (λ b. eqb b 10) xs i 0 e in
    let s = split_at xs i p.0 (eqb-true (get_or xs i 0) 10 p.1) in
    (s, ap lines s ∙ lines_line (take i xs) (drop (i + 1) xs) (free_from i xs p.2))

pub ended_after : (l : ℕ) (x rest : List ℕ) → ended l (x ++ (10 ∷ rest)) ≡ ended 10 rest
ended_after l [] rest = refl
ended_after l (b ∷ bs) rest = ended_after b bs rest

pub shorter : (b x rest : List ℕ) → b ≡ x ++ (10 ∷ rest) → length rest < length b
shorter b x rest e = omega (arith, ap length e, length-append x (10 ∷ rest))

-- what `==` says of two names
pub same_bytes : (x y : List ℕ) (b : Bool) → b ≡ pointwise eqb x y → b ≡ bytes_eq x y
same_bytes x y b e = sym (same_from_decides (bytes_eq x y) b (bytes_eq-Decides x y) (slice_eq-Decides Decides-eqb x y b e))

-- a part of names, one line on
module _ (b x rest : List ℕ) (p : b ≡ x ++ (10 ∷ rest)) (q : lines b ≡ x ∷ lines rest) where
  names_at : are_names b ≡ (ended 10 rest && ((is_name x && all is_name (lines rest)) && (not (is_in x (lines rest)) && distinct (lines rest))))
  names_at = let e : ended 10 b ≡ ended 10 rest = ap (ended 10) p ∙ ended_after 10 x rest in
      let a = ap (all is_name) q in let d = ap distinct q in
      ap (λ t. t && (all is_name (lines b) && distinct (lines b))) e ∙ (ap (λ t. ended 10 rest && (t && distinct (lines b))) a ∙ ap (λ t. ended 10 rest && (all is_name (x ∷ lines rest) && t)) d)

  pub names_step : is_name x ≡ true → is_in x (lines rest) ≡ false → are_names b ≡ are_names rest
  names_step u v = names_at ∙ (ap (λ t. ended 10 rest && ((t && all is_name (lines rest)) && (not (is_in x (lines rest)) && distinct (lines rest)))) u ∙ ap (λ t. ended 10 rest && (all is_name (lines rest) && (not t && distinct (lines rest)))) v)

  pub names_count : length (lines b) ≡ length (lines rest) + 1
  names_count = omega (arith, ap length q)

nil_cons : (x : List ℕ) (xs : List (List ℕ)) → x ∷ xs ≡ [] → ⊥
nil_cons x xs e = let z : ◌≡◌ {A = ℕ} 0 1 = cc in omega arith

on_first_nil : (b : ℕ) (ls : List (List ℕ)) → on_first b ls ≡ [] → ls ≡ []
on_first_nil b [] e = refl
on_first_nil b (x ∷ xs) e = absurd (nil_cons (b ∷ x) xs e)

-- a part with no line has no end in its first byte
unended_head : (b : ℕ) (bs : List ℕ) → lines (b ∷ bs) ≡ [] → (eqb b 10 ≡ false) × (lines bs ≡ [])
unended_head b bs e =
    elim (cases_Bool (eqb b 10)) [
      | inl t ↦ absurd (nil_cons [] (lines bs) (sym (cond-true (eqb b 10) ([] ∷ lines bs) (on_first b (lines bs)) t) ∙ e))
      | inr f ↦ (f, on_first_nil b (lines bs) (sym (cond-false (eqb b 10) ([] ∷ lines bs) (on_first b (lines bs)) f) ∙ e))
    ]

pub unended : (l b : ℕ) (bs : List ℕ) → lines (b ∷ bs) ≡ [] → ended l (b ∷ bs) ≡ false
unended l b [] e = (unended_head b [] e).0
unended l b (y ∷ ys) e = unended b y ys (unended_head b (y ∷ ys) e).1

pub names_end : (b : List ℕ) → lines b ≡ [] → length b ≡ 0 → are_names b ≡ true
names_end [] e h = refl
names_end (x ∷ xs) e h = absurd (omega arith)

pub names_open : (b : List ℕ) → lines b ≡ [] → (length b ≡ 0 → ⊥) → are_names b ≡ false
names_open [] e h = absurd (h refl)
names_open (x ∷ xs) e h = ap (λ t. t && (all is_name (lines (x ∷ xs)) && distinct (lines (x ∷ xs)))) (unended 10 x xs e)

pub none_none : (b : List ℕ) → lines b ≡ [] → length (lines b) ≡ 0
none_none b e = ap length e
