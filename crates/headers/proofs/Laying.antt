use Rattle.std.proofs.Common.{◌≡◌, ℕ, ◌+◌, ◌*◌, ◌<◌, ◌≤◌, true, false, ltb, leb, List, [], ◌∷◌, ◌++◌, length, get_or, take, drop, Ok, Err, Result, sym, refl, ap, ◌∙◌, subst, append_assoc, arith, length-append, length-drop, take-append-drop, length-take, MatchResult}
use Rattle.std.proofs.lemmas.List.{drop-drop, take_at, drop_at, take_more, append-nil}
use Rattle.rules.specs.declared.statements.Statement.{Statement}
use Rattle.headers.specs.Bytes.{joined}
use Rattle.headers.specs.Records.{record_bytes}
use Rattle.std.proofs.lemmas.Bool.{and_parts, leb-true}
use Rattle.rules.specs.declared.refusals.Refusal.{Refusal}
use Rattle.headers.specs.Header.{directory, file_of}
use Rattle.headers.specs.Output.{laid, fits, too_short, Wrote, Kept}

pub laid_none : (o : List ℕ) (at : ℕ) → laid o at [] ≡ o
laid_none o at = let e : at + 0 ≡ at = omega arith in ap (λ k. take at o ++ drop k o) e ∙ take-append-drop at o

pub laid_front : (o f : List ℕ) → laid o 0 f ≡ f ++ drop (length f) o
laid_front o f = let e : 0 + length f ≡ length f = omega arith in ap (λ k. f ++ drop k o) e

pub laid_laid : (o : List ℕ) (at m : ℕ) (a b : List ℕ) → m ≡ at + length a → at + length a + length b ≤ length o → laid (laid o at a) m b ≡ laid o at (a ++ b)
laid_laid o at m a b e h =
    let f : List ℕ = take at o ++ a in
    let t : List ℕ = drop (at + length a) o in
    let l : length (take at o ++ a) ≡ m = omega (arith, length-append (take at o) a, length-take at o) in
    let i : laid o at a ≡ f ++ t = sym (append_assoc (take at o) a t) in
    let x : take m (laid o at a) ≡ f = ap (take m) i ∙ take_at f t m l in
    let y : drop m (laid o at a) ≡ t = ap (drop m) i ∙ drop_at f t m l in
    let z : drop (m + length b) (laid o at a) ≡ drop (at + length (a ++ b)) o =
    sym (drop-drop (length b) m (laid o at a)) ∙ (ap (drop (length b)) y ∙ (drop-drop (length b) (at + length a) o ∙ ap (λ k. drop k o) (omega (arith, length-append a b)))) in
    ap (λ v. v ++ (b ++ drop (m + length b) (laid o at a))) x ∙ (ap (λ v. f ++ (b ++ v)) z
    ∙ (append_assoc (take at o) a (b ++ drop (at + length (a ++ b)) o) ∙ ap (λ v. take at o ++ v) (sym (append_assoc a b (drop (at + length (a ++ b)) o)))))

-- the same, with the room told by the place after both
pub laid_on : (o : List ℕ) (at m : ℕ) (a b : List ℕ) → m ≡ at + length a → m + length b ≤ length o → laid (laid o at a) m b ≡ laid o at (a ++ b)
laid_on o at m a b e h = laid_laid o at m a b e (omega (arith, e, h))

pub laid_length : (o : List ℕ) (at : ℕ) (a : List ℕ) → at + length a ≤ length o → length (laid o at a) ≡ length o
laid_length o at a h = omega (arith, length-append (take at o) (a ++ drop (at + length a) o), length-append a (drop (at + length a) o), length-take at o, length-drop (at + length a) o)

-- the bytes of some elements, one after the other
joined_append : {X : Type 0} (f : X → List ℕ) (xs ys : List X) → joined f (xs ++ ys) ≡ joined f xs ++ joined f ys
joined_append f [] ys = refl
joined_append f (x ∷ xs) ys = ap (λ v. f x ++ v) (joined_append f xs ys) ∙ sym (append_assoc (f x) (joined f xs) (joined f ys))

pub prefix_length : {X : Type 0} (f : X → List ℕ) (xs : List X) (k : ℕ) → length (joined f (take k xs)) ≤ length (joined f xs)
prefix_length f xs k =
    omega (arith, ap (λ v. length (joined f v)) (take-append-drop k xs), ap length (joined_append f (take k xs) (drop k xs)), length-append (joined f (take k xs)) (joined f (drop k xs)))

module _ {X : Type 0} (f : X → List ℕ) (xs : List X) (i : ℕ) (d : X) (l : i < length xs) where
  joined_next : joined f (take (i + 1) xs) ≡ joined f (take i xs) ++ f (get_or xs i d)
  joined_next = ap (joined f) (take_more xs i d l) ∙ (joined_append f (take i xs) (get_or xs i d ∷ []) ∙ ap (λ v. joined f (take i xs) ++ v) (append-nil (f (get_or xs i d))))

  pub next_size : length (joined f (take (i + 1) xs)) ≡ length (joined f (take i xs)) + length (f (get_or xs i d))
  next_size = ap length joined_next ∙ length-append (joined f (take i xs)) (f (get_or xs i d))

  -- one element more
  pub joined_more : (o out : List ℕ) (at to : ℕ) → at + length (joined f xs) ≤ length o → out ≡ laid o at (joined f (take i xs)) → to ≡ at + length (joined f (take i xs)) →
      laid out to (f (get_or xs i d)) ≡ laid o at (joined f (take (i + 1) xs))
  joined_more o out at to h e m =
      ap (λ v. laid v to (f (get_or xs i d))) e
      ∙ (laid_laid o at to (joined f (take i xs)) (f (get_or xs i d)) m (omega (arith, next_size, prefix_length f xs (i + 1), h))
      ∙ ap (laid o at) (sym joined_next))

pub joined_length : (ss : List Statement) → length (joined record_bytes ss) ≡ 8 * length ss
joined_length [] = refl
joined_length (s ∷ ss) = omega (arith, length-append (record_bytes s) (joined record_bytes ss), joined_length ss)

pub records_more : (o out : List ℕ) (at i : ℕ) (ss : List Statement) (d : Statement) → i < length ss → at + 8 * length ss ≤ length o → out ≡ laid o at (joined record_bytes (take i ss)) →
    laid out (at + 8 * i) (record_bytes (get_or ss i d)) ≡ laid o at (joined record_bytes (take (i + 1) ss))
records_more o out at i ss d l h e =
    joined_more record_bytes ss i d l o out at (at + 8 * i) (omega (arith, joined_length ss, h)) e (omega (arith, joined_length (take i ss), length-take i ss, l))

pub laid_two : (o p q : List ℕ) (at m : ℕ) (a b : List ℕ) → p ≡ laid o at a → q ≡ laid p m b → m ≡ at + length a → m + length b ≤ length o → q ≡ laid o at (a ++ b)
laid_two o p q at m a b e f i h = f ∙ (ap (λ v. laid v m b) e ∙ laid_laid o at m a b i (omega arith))

pub laid_four : (o o1 o2 o3 o4 : List ℕ) (at m1 m2 m3 : ℕ) (a b c d : List ℕ) → o1 ≡ laid o at a → o2 ≡ laid o1 m1 b → o3 ≡ laid o2 m2 c → o4 ≡ laid o3 m3 d →
    m1 ≡ at + length a → m2 ≡ m1 + length b → m3 ≡ m2 + length c → m3 + length d ≤ length o → o4 ≡ laid o at (a ++ (b ++ (c ++ d)))
laid_four o o1 o2 o3 o4 at m1 m2 m3 a b c d e1 e2 e3 e4 i1 i2 i3 h =
    let l1 = length-append a b in let l2 = length-append (a ++ b) c in
    let h2 : m1 + length b ≤ length o = omega arith in
    let f2 = laid_two o o1 o2 at m1 a b e1 e2 i1 h2 in
    let j2 : m2 ≡ at + length (a ++ b) = omega arith in let h3 : m2 + length c ≤ length o = omega arith in
    let f3 = laid_two o o2 o3 at m2 (a ++ b) c f2 e3 j2 h3 in
    let j3 : m3 ≡ at + length ((a ++ b) ++ c) = omega arith in
    let f4 = laid_two o o3 o4 at m3 ((a ++ b) ++ c) d f3 e4 j3 h in
    f4 ∙ ap (laid o at) (append_assoc (a ++ b) c d ∙ append_assoc a b (c ++ d))

-- a header written by its directory, and then its four parts, of lengths l, m and n
module _ (x c v : List ℕ) (ss : List Statement) (l m n : ℕ) (el : l ≡ length x) (em : m ≡ length c) (en : n ≡ length v) where
  header_length : length (file_of x c v (joined record_bytes ss)) ≡ 32 + l + m + n + 8 * length ss
  header_length = omega (arith, length-append (directory (length x) (length c) (length v) (length (joined record_bytes ss))) (x ++ (c ++ (v ++ joined record_bytes ss))), length-append x (c ++ (v ++ joined record_bytes ss)), length-append c (v ++ joined record_bytes ss), length-append v (joined record_bytes ss), joined_length ss, el, em, en)

  pub wrote : (o p q : List ℕ) (size : ℕ) → size ≡ 32 + l + m + n + 8 * length ss → fits o size ≡ true → p ≡ laid o 0 (directory l m n (8 * length ss)) →
      q ≡ laid p 32 (x ++ (c ++ (v ++ joined record_bytes ss))) → Wrote o q (file_of x c v (joined record_bytes ss)) size
  wrote o p q size e room f g =
      let s : size ≡ length (file_of x c v (joined record_bytes ss)) = e ∙ sym header_length in
      let h = leb-true size (length o) (and_parts (leb size (length o)) (ltb size 4294967296) room).0 in
      let d : List ℕ = directory (length x) (length c) (length v) (length (joined record_bytes ss)) in
      let f2 : p ≡ laid o 0 (directory (length x) (length c) (length v) (length (joined record_bytes ss))) = rw (sym el, sym em, sym en, joined_length ss) f in
      let t = laid_two o p q 0 32 d (x ++ (c ++ (v ++ joined record_bytes ss))) f2 g refl (omega (arith, s, h, length-append d (x ++ (c ++ (v ++ joined record_bytes ss))))) in
      record { room = ap (fits o) (sym s) ∙ room; size = s; bytes = t ∙ laid_front o (file_of x c v (joined record_bytes ss)) }

  pub kept : (o q : List ℕ) (e : Refusal) → fits o (32 + l + m + n + 8 * length ss) ≡ false → e ≡ too_short → q ≡ o → Kept o q (file_of x c v (joined record_bytes ss)) e
  kept o q e room is same = record { room = ap (fits o) header_length ∙ room; refused = is; bytes = same }

-- the same of a file that is equal
pub written_as : (t : Result ℕ Refusal) (o p f g : List ℕ) → f ≡ g → MatchResult t (λ n. Wrote o p f n) (λ e. Kept o p f e) → MatchResult t (λ n. Wrote o p g n) (λ e. Kept o p g e)
written_as (Ok n) o p f g e h = subst (λ z. Wrote o p z n) e h
written_as (Err y) o p f g e h = subst (λ z. Kept o p z y) e h
