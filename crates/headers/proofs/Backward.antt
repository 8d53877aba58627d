-- encode (decode b) is b
use Rattle.std.proofs.Common.{◌≡◌, ℕ, zero, suc, ◌+◌, ◌*◌, ◌/◌, ◌%◌, ◌<◌, ◌≤◌, true, false, cond, not, ◌&&◌, eqb, List, [], ◌∷◌, ◌++◌, map, length, take, drop, Some, None, Ok, Option, Result, sym, refl, ap, ◌∙◌, subst, inl, inr, append_assoc, arith, lit<, length-drop, take-append-drop, length-take}
use Rattle.std.proofs.lemmas.List.{drop_more, get_or-drop, get_or-take, drop-drop, take_all, get_or_past}
use Rattle.std.proofs.lemmas.Bool.{and_parts, eqb-true, cond-true, cond-false, cases_Bool, cases_lt, true≢false}
use Rattle.rules.specs.Formed.{unrefused_fit, accepted_unrefused}
use Rattle.rules.specs.Limits.{within_limits}
use Rattle.rules.specs.Refusals.{refusal}
use Rattle.rules.specs.declared.refusals.Reason.TheVariants.{WrongContent, CountOutOfLimits}
use Rattle.rules.specs.declared.refusals.Refusal.{Refusal}
use Rattle.rules.specs.declared.statements.Statement.{Statement}
use Rattle.reader.specs.Text.{is_name}
use Rattle.headers.specs.declared.record.Record.{Record}
use Rattle.headers.specs.Bytes.{at, long, two, four, slice, pieces, cut, even, all, joined}
use Rattle.headers.specs.Names.{distinct, lines, line, ended, on_first, are_names}
use Rattle.headers.specs.Records.{known_letter, is_record, record_in, record_bytes, records_refusal}
use Rattle.headers.specs.Header.{Header, offset, size, part, directory_refusal, are_records, records_in, statements_in, wrong_content, content_refusal, judgement, holding, refuse, judged, of_parts, pair, directory, file_of, encode, renamed, Named}
use Rattle.headers.specs.Theorems.{Bytes, Naming, Proper, OneFile, OnlyOne, AcceptedProper}
use Rattle.headers.proofs.Rights.{Right, right_from, guard}
use Rattle.headers.proofs.Lines.{unended}
use Rattle.headers.proofs.Spelling.{raw_bytes, rows}

-- names ------------------------------------------------------------------------------------------------------------

joined_on_first : (y : ℕ) (ls : List (List ℕ)) → (ls ≡ [] → ⊥) → joined line (on_first y ls) ≡ y ∷ joined line ls
joined_on_first y [] h = absurd (h refl)
joined_on_first y (x ∷ xs) h = refl

some_line : (y : ℕ) (ys : List ℕ) → eqb y 10 ≡ false → ended y ys ≡ true → lines ys ≡ [] → ⊥
some_line y [] f e h = true≢false (sym e ∙ f)
some_line y (z ∷ zs) f e h = true≢false (sym e ∙ unended y z zs h)

pub joined_lines : (l : ℕ) (b : List ℕ) → ended l b ≡ true → joined line (lines b) ≡ b
joined_lines l [] e = refl
joined_lines l (y ∷ ys) e =
    elim (cases_Bool (eqb y 10)) [
      | inl t ↦ ap (joined line) (cond-true (eqb y 10) ([] ∷ lines ys) (on_first y (lines ys)) t) ∙ (ap (λ v. 10 ∷ v) (joined_lines y ys e) ∙ ap (λ v. v ∷ ys) (sym (eqb-true y 10 t)))
      | inr f ↦ ap (joined line) (cond-false (eqb y 10) ([] ∷ lines ys) (on_first y (lines ys)) f) ∙ (joined_on_first y (lines ys) (some_line y ys f e) ∙ ap (λ v. y ∷ v) (joined_lines y ys e))
    ]

-- lists of bytes, byte by byte -------------------------------------------------------------------------------------

-- n bytes from the place k on
abbrev listed : ℕ → ℕ → List ℕ → List ℕ
listed k zero b = []
listed k (suc n) b = at b k ∷ listed (k + 1) n b

slice_listed : (n k : ℕ) (b : List ℕ) → k + n ≤ length b → slice b k n ≡ listed k n b
slice_listed zero k b h = refl
slice_listed (suc n) k b h =
    let l : k < length b = omega arith in
    let m : k + 1 + n ≤ length b = omega arith in
    ap (take (suc n)) (drop_more b k 0 l) ∙ ap (λ v. at b k ∷ v) (slice_listed n (k + 1) b m)

-- records ----------------------------------------------------------------------------------------------------------

two_wide : (x y : ℕ) → x < 256 → y < 256 → two (x * 256 + y) ≡ x ∷ y ∷ []
two_wide x y p q =
    let e : (x * 256 + y) / 256 % 256 ≡ x = omega arith in
    let f : (x * 256 + y) % 256 ≡ y = omega arith in
    ap (λ v. v ∷ (x * 256 + y) % 256 ∷ []) e ∙ ap (λ v. x ∷ v ∷ []) f

eight : (c0 c1 c2 c3 c4 c5 c6 c7 : ℕ) → c1 ≡ 0 → c2 < 256 → c3 < 256 → c4 < 256 → c5 < 256 → c6 < 256 → c7 < 256 →
    raw_bytes (record_in (c0 ∷ c1 ∷ c2 ∷ c3 ∷ c4 ∷ c5 ∷ c6 ∷ c7 ∷ [])) ≡ c0 ∷ c1 ∷ c2 ∷ c3 ∷ c4 ∷ c5 ∷ c6 ∷ c7 ∷ []
eight c0 c1 c2 c3 c4 c5 c6 c7 z p2 p3 p4 p5 p6 p7 =
    let e1 = two_wide c2 c3 p2 p3 in let e2 = two_wide c4 c5 p4 p5 in let e3 = two_wide c6 c7 p6 p7 in
    ap (λ (v : List ℕ). c0 ∷ 0 ∷ (v ++ (two (c4 * 256 + c5) ++ two (c6 * 256 + c7)))) e1
    ∙ (ap (λ (v : List ℕ). c0 ∷ 0 ∷ c2 ∷ c3 ∷ (v ++ two (c6 * 256 + c7))) e2
    ∙ (ap (λ (v : List ℕ). c0 ∷ 0 ∷ c2 ∷ c3 ∷ c4 ∷ c5 ∷ v) e3
    ∙ ap (λ v. c0 ∷ v ∷ c2 ∷ c3 ∷ c4 ∷ c5 ∷ c6 ∷ c7 ∷ []) (sym z)))

record_back : (b : List ℕ) → 8 ≤ length b → Bytes b → is_record (take 8 b) ≡ true → raw_bytes (record_in (take 8 b)) ≡ take 8 b
record_back b h y e =
    let s : take 8 b ≡ listed 0 8 b = slice_listed 8 0 b h in
    let z : at b 1 ≡ 0 = sym (get_or-take 8 b 1 0 (lit< tt)) ∙ eqb-true (at (take 8 b) 1) 0 (and_parts (known_letter (at (take 8 b) 0)) (eqb (at (take 8 b) 1) 0) e).1 in
    ap (λ (v : List ℕ). raw_bytes (record_in v)) s ∙ (eight (at b 0) (at b 1) (at b 2) (at b 3) (at b 4) (at b 5) (at b 6) (at b 7) z (y 2) (y 3) (y 4) (y 5) (y 6) (y 7) ∙ sym s)

drop_bytes : (n : ℕ) (b : List ℕ) → Bytes b → Bytes (drop n b)
drop_bytes n b y k = rw get_or-drop (y (n + k))

joined_records : (n : ℕ) (b : List ℕ) → length b ≡ 8 * n → Bytes b → all is_record (pieces 8 n b) ≡ true → joined raw_bytes (map record_in (pieces 8 n b)) ≡ b
joined_records zero [] h y e = refl
joined_records zero (x ∷ xs) h y e = absurd (omega arith)
joined_records (suc n) b h y e =
    let p = and_parts (is_record (take 8 b)) (all is_record (pieces 8 n (drop 8 b))) e in
    let l : 8 ≤ length b = omega arith in
    let m : length (drop 8 b) ≡ 8 * n = simp length-drop (omega arith) in
    ap (λ v. v ++ joined raw_bytes (map record_in (pieces 8 n (drop 8 b)))) (record_back b l y p.0)
    ∙ (ap (λ v. take 8 b ++ v) (joined_records n (drop 8 b) m (drop_bytes 8 b y) p.1) ∙ take-append-drop 8 b)

pub records_back : (b : List ℕ) → Bytes b → are_records b ≡ true → joined raw_bytes (records_in b) ≡ b
records_back b y e =
    let p = and_parts (even 8 b) (all is_record (cut 8 b)) e in
    let q = eqb-true (length b % 8) 0 p.0 in
    let l : length b ≡ 8 * (length b / 8) = omega arith in
    joined_records (length b / 8) b l y p.1

-- the file ---------------------------------------------------------------------------------------------------------

four_of : (x y z w : ℕ) → x < 256 → y < 256 → z < 256 → w < 256 → four (x * 16777216 + y * 65536 + z * 256 + w) ≡ x ∷ y ∷ z ∷ w ∷ []
four_of x y z w p q s t =
    let n : ℕ = x * 16777216 + y * 65536 + z * 256 + w in
    let e1 : (x * 16777216 + y * 65536 + z * 256 + w) / 16777216 % 256 ≡ x = omega arith in
    let e2 : (x * 16777216 + y * 65536 + z * 256 + w) / 65536 % 256 ≡ y = omega arith in
    let e3 : (x * 16777216 + y * 65536 + z * 256 + w) / 256 % 256 ≡ z = omega arith in
    let e4 : (x * 16777216 + y * 65536 + z * 256 + w) % 256 ≡ w = omega arith in
    cc

glue : (b : List ℕ) (k m n : ℕ) → n ≡ k + m → slice b k m ++ drop n b ≡ drop k b
glue b k m n e = ap (λ v. slice b k m ++ drop v b) e ∙ (ap (λ v. take m (drop k b) ++ v) (sym (drop-drop m k b)) ∙ take-append-drop m (drop k b))

four_long : (b : List ℕ) (k : ℕ) → Bytes b → k + 4 ≤ length b → four (long b k) ≡ slice b k 4
four_long b k y h =
    let e2 : k + 1 + 1 ≡ k + 2 = omega arith in
    let e3 : k + 1 + 1 + 1 ≡ k + 3 = omega arith in
    let l = slice_listed 4 k b h in
    let f = four_of (at b k) (at b (k + 1)) (at b (k + 2)) (at b (k + 3)) (y k) (y (k + 1)) (y (k + 2)) (y (k + 3)) in
    f ∙ (ap (λ v. at b k ∷ at b (k + 1) ∷ at b v ∷ at b (k + 3) ∷ []) (sym e2) ∙ (ap (λ v. at b k ∷ at b (k + 1) ∷ at b (k + 1 + 1) ∷ at b v ∷ []) (sym e3) ∙ sym l))

pair_glue : (b : List ℕ) (k from len : ℕ) → Bytes b → from ≡ long b k → len ≡ long b (k + 4) → k + 8 ≤ length b → pair from len ++ drop (k + 8) b ≡ drop k b
pair_glue b k from len y p q h =
    let h1 : k + 4 ≤ length b = omega arith in
    let h2 : k + 4 + 4 ≤ length b = omega arith in
    let h3 : k + 8 ≡ k + 4 + 4 = omega arith in
    let f = ap four p ∙ four_long b k y h1 in
    let g = ap four q ∙ four_long b (k + 4) y h2 in
    append_assoc (four from) (four len) (drop (k + 8) b)
    ∙ (ap (λ v. four from ++ (v ++ drop (k + 8) b)) g
    ∙ (ap (λ v. four from ++ v) (glue b (k + 4) 4 (k + 8) h3)
    ∙ (ap (λ v. v ++ drop (k + 4) b) f ∙ glue b k 4 (k + 4) refl)))

slice_length : (b : List ℕ) (o s : ℕ) → o + s ≤ length b → length (slice b o s) ≡ s
slice_length b o s h = simp (length-take, length-drop) (omega arith)

slice_end : (b : List ℕ) (o s : ℕ) → o + s ≡ length b → slice b o s ≡ drop o b
slice_end b o s h = take_all s (drop o b) (simp length-drop (omega arith))

-- the bytes after the directory are the four parts
tail_back : (b : List ℕ) → Right b → part b 0 ++ (part b 1 ++ (part b 2 ++ part b 3)) ≡ drop 32 b
tail_back b t =
    ap (λ v. part b 0 ++ (part b 1 ++ (part b 2 ++ v))) (slice_end b (offset b 3) (size b 3) t.last)
    ∙ (ap (λ v. part b 0 ++ (part b 1 ++ v)) (glue b (offset b 2) (size b 2) (offset b 3) t.fourth)
    ∙ (ap (λ v. part b 0 ++ v) (glue b (offset b 1) (size b 1) (offset b 2) t.third)
    ∙ (glue b (offset b 0) (size b 0) (offset b 1) t.second ∙ ap (λ v. drop v b) t.first)))

-- the directory of those parts is the file's
front_back : (b : List ℕ) (x c v s : ℕ) → Bytes b → Right b → x ≡ size b 0 → c ≡ size b 1 → v ≡ size b 2 → s ≡ size b 3 → directory x c v s ++ drop 32 b ≡ b
front_back b x c v s y t p q u w =
    let o0 : 32 ≡ long b 0 = sym t.first in
    let o1 : 32 + x ≡ long b 8 = omega (arith, t.second, t.first, p) in
    let o2 : 32 + x + c ≡ long b 16 = omega (arith, t.third, o1, q) in
    let o3 : 32 + x + c + v ≡ long b 24 = omega (arith, t.fourth, o2, u) in
    let h = t.whole in
    let g1 = pair_glue b 24 (32 + x + c + v) s y o3 w h in
    let h2 : 24 ≤ length b = omega arith in let h3 : 16 ≤ length b = omega arith in let h4 : 8 ≤ length b = omega arith in
    let g2 = pair_glue b 16 (32 + x + c) v y o2 u h2 in
    let g3 = pair_glue b 8 (32 + x) c y o1 q h3 in
    let g4 = pair_glue b 0 32 x y o0 p h4 in
    append_assoc (pair 32 x) (pair (32 + x) c ++ (pair (32 + x + c) v ++ pair (32 + x + c + v) s)) (drop 32 b)
    ∙ (ap (λ z. pair 32 x ++ z) (append_assoc (pair (32 + x) c) (pair (32 + x + c) v ++ pair (32 + x + c + v) s) (drop 32 b)
    ∙ (ap (λ z. pair (32 + x) c ++ z) (append_assoc (pair (32 + x + c) v) (pair (32 + x + c + v) s) (drop 32 b)
    ∙ (ap (λ z. pair (32 + x + c) v ++ z) g1 ∙ g2)) ∙ g3)) ∙ g4)

pub file_back : (b : List ℕ) → Bytes b → Right b → file_of (part b 0) (part b 1) (part b 2) (part b 3) ≡ b
file_back b y t =
    let l3 : offset b 3 + size b 3 ≤ length b = omega (arith, t.last) in
    let l2 : offset b 2 + size b 2 ≤ length b = omega (arith, t.fourth) in
    let l1 : offset b 1 + size b 1 ≤ length b = omega (arith, t.third) in
    let l0 : offset b 0 + size b 0 ≤ length b = omega (arith, t.second) in
    ap (λ z. directory (length (part b 0)) (length (part b 1)) (length (part b 2)) (length (part b 3)) ++ z) (tail_back b t)
    ∙ front_back b (length (part b 0)) (length (part b 1)) (length (part b 2)) (length (part b 3)) y t
    (slice_length b (offset b 0) (size b 0) l0) (slice_length b (offset b 1) (size b 1) l1) (slice_length b (offset b 2) (size b 2) l2) (slice_length b (offset b 3) (size b 3) l3)

-- the theorem ------------------------------------------------------------------------------------------------------

refuse_ok : {X : Type 0} (o : Option Refusal) (t : Result X Refusal) (x : X) → refuse o t ≡ Ok x → (o ≡ None) × (t ≡ Ok x)
refuse_ok None t x e = (refl, e)
refuse_ok (Some f) t x e = let z : ◌≡◌ {A = ℕ} 0 1 = cc in absurd (omega arith)

ok_same : {X : Type 0} (x y : X) → ◌≡◌ {A = Result X Refusal} (Ok x) (Ok y) → x ≡ y
ok_same x y e = cc

-- judged right: within the limits, and no field is refused
pub record Passed (n k r m : ℕ) (xs : List Record) : Type 0 where
  pub within : within_limits n k r m ≡ true
  pub fields : records_refusal n k r 0 xs ≡ None

pub passed : (n k r m : ℕ) (xs : List Record) → judgement n k r m xs ≡ None → Passed n k r m xs
passed n k r m xs e =
    elim (cases_Bool (within_limits n k r m)) [
      | inl t ↦ record { within = t; fields = sym (cond-true (within_limits n k r m) (records_refusal n k r 0 xs) (Some (refusal CountOutOfLimits 0 0)) t) ∙ e }
      | inr f ↦ (let g = sym (cond-false (within_limits n k r m) (records_refusal n k r 0 xs) (Some (refusal CountOutOfLimits 0 0)) f) ∙ e in let z : ◌≡◌ {A = ℕ} 0 1 = cc in absurd (omega arith))
    ]

pub record FourRight (x c v s : List ℕ) : Type 0 where
  pub individuals : are_names x ≡ true
  pub classes : are_names c ≡ true
  pub roles : are_names v ≡ true
  pub statements : are_records s ≡ true

pub four_right : (x c v s : List ℕ) → content_refusal x c v s ≡ None → FourRight x c v s
four_right x c v s e =
    let o4 : Option Refusal = cond (not (are_records s)) (wrong_content 4) None in
    let o3 : Option Refusal = cond (not (are_names v)) (wrong_content 3) o4 in
    let o2 : Option Refusal = cond (not (are_names c)) (wrong_content 2) o3 in
    let g1 = guard (are_names x) (refusal WrongContent 1 0) o2 e in
    let g2 = guard (are_names c) (refusal WrongContent 2 0) o3 g1.1 in
    let g3 = guard (are_names v) (refusal WrongContent 3 0) o4 g2.1 in
    let g4 = guard (are_records s) (refusal WrongContent 4 0) None g3.1 in
    record { individuals = g1.0; classes = g2.0; roles = g3.0; statements = g4.0 }

names_back : (x : List ℕ) → are_names x ≡ true → joined line (lines x) ≡ x
names_back x e = joined_lines 10 x (and_parts (ended 10 x) _ e).0

take_bytes : (n : ℕ) (b : List ℕ) → Bytes b → Bytes (take n b)
take_bytes n b y k =
    elim (cases_lt k n) [
      | inl l ↦ (let q : k < n = l in rw get_or-take (y k))
      | inr l ↦ (let q : length (take n b) ≤ k = simp length-take (omega arith) in rw get_or_past (lit< tt))
    ]

part_bytes : (b : List ℕ) (i : ℕ) → Bytes b → Bytes (part b i)
part_bytes b i y = take_bytes (size b i) (drop (offset b i) b) (drop_bytes (offset b i) b y)

-- what an accepted file says of its four parts
pub record Read (x c v s : List ℕ) (h : Header) : Type 0 where
  pub right : FourRight x c v s
  pub pass : Passed (length (lines x)) (length (lines c)) (length (lines v)) (length (records_in s)) (records_in s)
  pub holds : holding x c v s ≡ h

read_from : (x c v s : List ℕ) (h : Header) → of_parts x c v s ≡ Ok h → Read x c v s h
read_from x c v s h e =
    let p = refuse_ok (content_refusal x c v s) (judged x c v s) h e in
    let j = refuse_ok (judgement (length (lines x)) (length (lines c)) (length (lines v)) (length (records_in s)) (records_in s)) (Ok (holding x c v s)) h p.1 in
    record {
      right = four_right x c v s p.0;
      pass = passed (length (lines x)) (length (lines c)) (length (lines v)) (length (records_in s)) (records_in s) j.0;
      holds = ok_same (holding x c v s) h j.1;
    }

parts_back : (x c v s : List ℕ) (h : Header) → Bytes s → Read x c v s h → encode h ≡ file_of x c v s
parts_back x c v s h y d =
    let n0 = names_back x d.right.individuals in
    let n1 = names_back c d.right.classes in
    let n2 = names_back v d.right.roles in
    let n3 = (rows (length (lines x)) (length (lines c)) (length (lines v)) 0 (records_in s) d.pass.fields).bytes ∙ records_back s y d.right.statements in
    ap encode (sym d.holds) ∙ rw (n0, n1, n2, n3) refl

pub one_file : OneFile
one_file b h y e =
    let d = refuse_ok (directory_refusal b) (of_parts (part b 0) (part b 1) (part b 2) (part b 3)) h e in
    parts_back (part b 0) (part b 1) (part b 2) (part b 3) h (part_bytes b 3 y) (read_from (part b 0) (part b 1) (part b 2) (part b 3) h d.1) ∙ file_back b y (right_from b d.0)

pub only_one : OnlyOne
only_one b c h y z p q = sym (one_file b h y p) ∙ one_file c h z q

-- what is accepted is in order ----------------------------------------------------------------------------------------

naming : (x : List ℕ) → are_names x ≡ true → Naming (lines x)
naming x e =
    let p = and_parts (ended 10 x) (all is_name (lines x) && distinct (lines x)) e in
    let q = and_parts (all is_name (lines x)) (distinct (lines x)) p.1 in
    record { each = q.0; once = q.1 }

parts_proper : (x c v s : List ℕ) (h : Header) → Read x c v s h → Proper h
parts_proper x c v s h d =
    let w = rows (length (lines x)) (length (lines c)) (length (lines v)) 0 (records_in s) d.pass.fields in
    let t : Proper (holding x c v s) = record {
      individuals = naming x d.right.individuals;
      classes = naming c d.right.classes;
      roles = naming v d.right.roles;
      fitting = accepted_unrefused (length (lines x)) (length (lines c)) (length (lines v)) (statements_in s) (record {
        within = ap (within_limits (length (lines x)) (length (lines c)) (length (lines v))) w.size ∙ d.pass.within;
        fitting = unrefused_fit (length (lines x)) (length (lines c)) (length (lines v)) 0 (statements_in s) w.fit;
      });
    } in
    subst Proper d.holds t

pub accepted_proper : AcceptedProper
accepted_proper b h e =
    let d = refuse_ok (directory_refusal b) (of_parts (part b 0) (part b 1) (part b 2) (part b 3)) h e in
    parts_proper (part b 0) (part b 1) (part b 2) (part b 3) h (read_from (part b 0) (part b 1) (part b 2) (part b 3) h d.1)

pub named_from : (x c v s : List ℕ) → content_refusal x c v s ≡ None → Named x c v
named_from x c v s e =
    let f = four_right x c v s e in
    record { individuals = f.individuals; classes = f.classes; roles = f.roles }

-- parts of names, as they stand, are the names' encoding
pub renamed_is : (x c v : List ℕ) (ss : List Statement) → Named x c v → file_of x c v (joined record_bytes ss) ≡ encode (renamed x c v ss)
renamed_is x c v ss p =
    ap (λ a. file_of a c v (joined record_bytes ss)) (sym (names_back x p.individuals))
    ∙ (ap (λ a. file_of (joined line (lines x)) a v (joined record_bytes ss)) (sym (names_back c p.classes))
    ∙ ap (λ a. file_of (joined line (lines x)) (joined line (lines c)) a (joined record_bytes ss)) (sym (names_back v p.roles)))
