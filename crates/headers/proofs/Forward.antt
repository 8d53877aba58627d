-- decode (encode h) is h
use Rattle.std.proofs.Common.{◌≡◌, ℕ, ◌+◌, ◌*◌, ◌/◌, ◌%◌, ◌<◌, ◌≤◌, Bool, true, false, cond, ◌&&◌, eqb, leb, List, [], ◌∷◌, ◌++◌, map, length, take, drop, Some, None, Ok, Option, sym, refl, ap, ◌∙◌, inl, inr, append_assoc, arith, length-append}
use lib.ListN.{length-map}
use Rattle.std.proofs.lemmas.List.{take_at, drop_at, append-nil}
use Rattle.std.proofs.lemmas.Bool.{and_parts, and_from, eqb-true, eq-eqb, leb-true, le-leb, cases_Bool, true≢false}
use Rattle.rules.specs.Forms.{FieldKinds, fields_of_form}
use Rattle.rules.specs.Fits.{FieldFits, FormFits, fits, all_fit}
use Rattle.rules.specs.Formed.{Accepted, fits_formed, fit_unrefused, unrefused_accepted}
use Rattle.rules.specs.Limits.{within_limits}
use Rattle.rules.specs.Refusals.{refusal}
use Rattle.rules.specs.Statements.{Fields, letter_of, fields_of, three}
use Rattle.rules.specs.declared.forms.Kind.{Kind}
use Rattle.rules.specs.declared.forms.Kind.TheVariants as kind
use Rattle.rules.specs.declared.refusals.Reason.TheVariants.{WrongDirectory, WrongContent, CountOutOfLimits}
use Rattle.rules.specs.declared.statements.Statement.{Statement}
use Rattle.reader.specs.Text as text
use Rattle.reader.specs.Text.{name_byte, is_name}
use Rattle.headers.specs.declared.record.Record.{Record}
use Rattle.headers.specs.Bytes.{slice, pieces, cut, even, all, joined}
use Rattle.headers.specs.Names.{distinct, lines, line, ended, are_names}
use Rattle.headers.specs.Records.{known_letter, is_record, record_in, record_bytes, records_refusal}
use Rattle.headers.specs.Header.{Header, offset, size, end, part, starts, directory_refusal, are_records, records_in, judgement, holding, refuse, judged, of_parts, decode, directory, file_of}
use Rattle.headers.specs.Theorems.{Naming, Proper, ReadBack}
use Rattle.headers.proofs.Tests.{four_pass}
use Rattle.headers.proofs.Rights.{Right}
use Rattle.headers.proofs.Lines.{Free, lines_line, ended_after}
use Rattle.headers.proofs.Spelling.{record_of, letter_known, stated_back, same_refusal}

-- names ------------------------------------------------------------------------------------------------------------

byte_free : (b : ℕ) → name_byte b ≡ true → eqb b 10 ≡ false
byte_free b e =
    elim (cases_Bool (eqb b 10)) [
      | inl t ↦ absurd (true≢false (sym e ∙ ap name_byte (eqb-true b 10 t)))
      | inr f ↦ f
    ]

name_free : (x : List ℕ) → text.all name_byte x ≡ true → Free x
unfolding text.all
name_free [] e = tt
name_free (b ∷ bs) e = let p = and_parts (name_byte b) (text.all name_byte bs) e in (byte_free b p.0, name_free bs p.1)

name_free_of_end : (x : List ℕ) → is_name x ≡ true → Free x
name_free_of_end x e = name_free x (and_parts (leb 1 (length x) && leb (length x) 24) (text.all name_byte x) e).1

name_short : (x : List ℕ) → is_name x ≡ true → length x ≤ 24
name_short x e = leb-true (length x) 24 (and_parts (leb 1 (length x)) (leb (length x) 24) (and_parts (leb 1 (length x) && leb (length x) 24) (text.all name_byte x) e).0).1

lines_joined : (ns : List (List ℕ)) → all is_name ns ≡ true → lines (joined line ns) ≡ ns
lines_joined [] e = refl
lines_joined (x ∷ xs) e =
    let p = and_parts (is_name x) (all is_name xs) e in
    ap lines (append_assoc x (10 ∷ []) (joined line xs)) ∙ (lines_line x (joined line xs) (name_free_of_end x p.0) ∙ ap (λ v. x ∷ v) (lines_joined xs p.1))

ended_joined : (ns : List (List ℕ)) → ended 10 (joined line ns) ≡ true
ended_joined [] = refl
ended_joined (x ∷ xs) = ap (ended 10) (append_assoc x (10 ∷ []) (joined line xs)) ∙ (ended_after 10 x (joined line xs) ∙ ended_joined xs)

names_right : (ns : List (List ℕ)) → Naming ns → are_names (joined line ns) ≡ true
names_right ns p =
    let l = lines_joined ns p.each in
    and_from (ended 10 (joined line ns)) _ (ended_joined ns)
    (and_from (all is_name (lines (joined line ns))) (distinct (lines (joined line ns))) (ap (all is_name) l ∙ p.each) (ap distinct l ∙ p.once))

names_length : (ns : List (List ℕ)) → all is_name ns ≡ true → length (joined line ns) ≤ 25 * length ns
names_length [] e = omega arith
names_length (x ∷ xs) e =
    let p = and_parts (is_name x) (all is_name xs) e in
    let a = name_short x p.0 in
    let i = names_length xs p.1 in
    omega (arith, length-append (line x) (joined line xs), length-append x (10 ∷ []))

-- records ----------------------------------------------------------------------------------------------------------

records_length : (ss : List Statement) → length (joined record_bytes ss) ≡ 8 * length ss
records_length [] = refl
records_length (s ∷ ss) = omega (arith, length-append (record_bytes s) (joined record_bytes ss), records_length ss)

pieces_joined : (ss : List Statement) → pieces 8 (length ss) (joined record_bytes ss) ≡ map record_bytes ss
pieces_joined [] = refl
pieces_joined (s ∷ ss) = ap (λ v. record_bytes s ∷ v) (pieces_joined ss)

cut_joined : (ss : List Statement) → cut 8 (joined record_bytes ss) ≡ map record_bytes ss
cut_joined ss =
    let l : length (joined record_bytes ss) / 8 ≡ length ss = omega (arith, records_length ss) in
    ap (λ n. pieces 8 n (joined record_bytes ss)) l ∙ pieces_joined ss

all_records : (ss : List Statement) → all is_record (map record_bytes ss) ≡ true
all_records [] = refl
all_records (s ∷ ss) =
    and_from (is_record (record_bytes s)) (all is_record (map record_bytes ss)) (and_from (known_letter (letter_of s)) true (letter_known s) refl) (all_records ss)

records_right : (ss : List Statement) → are_records (joined record_bytes ss) ≡ true
records_right ss =
    let l : length (joined record_bytes ss) % 8 ≡ 0 = omega (arith, records_length ss) in
    and_from (even 8 (joined record_bytes ss)) _ (eq-eqb (length (joined record_bytes ss) % 8) 0 l) (ap (all is_record) (cut_joined ss) ∙ all_records ss)

-- the fields fit 16 bits
pub record Small (f : Fields) : Type 0 where
  pub first : f.first < 65536
  pub second : f.second < 65536
  pub third : f.third < 65536

abbrev Smalls : List Statement → Type 0
Smalls [] = Unit {0}
Smalls (s ∷ ss) = Small (fields_of s) × Smalls ss

halves : (n : ℕ) → n < 65536 → n / 256 % 256 * 256 + n % 256 ≡ n
halves n h = omega arith

fields_same : (l : ℕ) (f : Fields) → Small f → ◌≡◌ {A = Record} (record { letter = l; fields = three (f.first / 256 % 256 * 256 + f.first % 256) (f.second / 256 % 256 * 256 + f.second % 256) (f.third / 256 % 256 * 256 + f.third % 256) }) (record { letter = l; fields = f })
fields_same l f p =
    let a = halves f.first p.first in let b = halves f.second p.second in let c = halves f.third p.third in
    rw (a, b, c) refl

record_same : (s : Statement) → Small (fields_of s) → record_in (record_bytes s) ≡ record_of s
record_same s p = fields_same (letter_of s) (fields_of s) p

map_same : (ss : List Statement) → Smalls ss → map record_in (map record_bytes ss) ≡ map record_of ss
map_same [] p = refl
map_same (s ∷ ss) p = ap (λ (v : Record). v ∷ map record_in (map record_bytes ss)) (record_same s p.0) ∙ ap (λ (v : List Record). record_of s ∷ v) (map_same ss p.1)

records_joined : (ss : List Statement) → Smalls ss → records_in (joined record_bytes ss) ≡ map record_of ss
records_joined ss p = ap (map record_in) (cut_joined ss) ∙ map_same ss p

-- counts within their limits keep the fields small -------------------------------------------------------------------

pub record Limited (n k r m : ℕ) : Type 0 where
  pub individuals : n ≤ 128
  pub classes : k ≤ 256
  pub roles : r ≤ 32
  pub statements : m ≤ 384

limited : (n k r m : ℕ) → within_limits n k r m ≡ true → Limited n k r m
limited n k r m t =
    let p = and_parts (leb 1 n && leb n 128) ((leb 1 k && leb k 256) && (leb r 32 && leb m 384)) t in
    let q = and_parts (leb 1 k && leb k 256) (leb r 32 && leb m 384) p.1 in
    let u = and_parts (leb r 32) (leb m 384) q.1 in
    record {
      individuals = leb-true n 128 (and_parts (leb 1 n) (leb n 128) p.0).1;
      classes = leb-true k 256 (and_parts (leb 1 k) (leb k 256) q.0).1;
      roles = leb-true r 32 u.0;
      statements = leb-true m 384 u.1;
    }

field_small : (n k r m : ℕ) (x : Option Kind) (f : ℕ) → Limited n k r m → FieldFits n k r x f → f < 65536
field_small n k r m None f l h = omega (arith, h)
field_small n k r m (Some kind.Individual) f l h = omega (arith, h, l.individuals)
field_small n k r m (Some kind.Class) f l h = omega (arith, h, l.classes)
field_small n k r m (Some kind.Role) f l h = omega (arith, h, l.roles)

form_small : (n k r m : ℕ) (x : Option FieldKinds) (f : Fields) → Limited n k r m → FormFits n k r x f → Small f
form_small n k r m None f l h = absurd h
form_small n k r m (Some x) f l h = record {
  first = field_small n k r m x.first f.first l h.0;
  second = field_small n k r m x.second f.second l h.1;
  third = field_small n k r m x.third f.third l h.2;
}

smalls : (n k r m : ℕ) (ss : List Statement) → Limited n k r m → all_fit n k r ss ≡ true → Smalls ss
smalls n k r m [] l e = tt
smalls n k r m (s ∷ ss) l e =
    let p = and_parts (fits n k r s) (all_fit n k r ss) e in
    (form_small n k r m (fields_of_form (letter_of s)) (fields_of s) l (fits_formed n k r s p.0), smalls n k r m ss l p.1)

-- the file ---------------------------------------------------------------------------------------------------------

quarters : (n : ℕ) → n < 4294967296 → n / 16777216 % 256 * 16777216 + n / 65536 % 256 * 65536 + n / 256 % 256 * 256 + n % 256 ≡ n
quarters n h =
    let e1 : n / 65536 ≡ n / 256 / 256 = omega arith in
    let e2 : n / 16777216 ≡ n / 65536 / 256 = omega arith in
    rw (e2, e1) (omega arith)

right_to : (b : List ℕ) → Right b → directory_refusal b ≡ None
right_to b t =
    let h3 = t.whole in
    let h2 : 24 ≤ length b = omega arith in let h1 : 16 ≤ length b = omega arith in let h0 : 8 ≤ length b = omega arith in
    four_pass (starts b 0 32) (starts b 1 (end b 0)) (starts b 2 (end b 1)) (starts b 3 (end b 2) && eqb (end b 3) (length b)) (refusal WrongDirectory 1 0) (refusal WrongDirectory 2 0) (refusal WrongDirectory 3 0) (refusal WrongDirectory 4 0)
    (and_from (leb 8 (length b)) (eqb (offset b 0) 32) (le-leb 8 (length b) h0) (eq-eqb (offset b 0) 32 t.first))
    (and_from (leb 16 (length b)) (eqb (offset b 1) (end b 0)) (le-leb 16 (length b) h1) (eq-eqb (offset b 1) (end b 0) t.second))
    (and_from (leb 24 (length b)) (eqb (offset b 2) (end b 1)) (le-leb 24 (length b) h2) (eq-eqb (offset b 2) (end b 1) t.third))
    (and_from (starts b 3 (end b 2)) (eqb (end b 3) (length b)) (and_from (leb 32 (length b)) (eqb (offset b 3) (end b 2)) (le-leb 32 (length b) h3) (eq-eqb (offset b 3) (end b 2) t.fourth)) (eq-eqb (end b 3) (length b) t.last))

slice_at : (b p q t : List ℕ) (o n : ℕ) → b ≡ p ++ (q ++ t) → length p ≡ o → length q ≡ n → slice b o n ≡ q
slice_at b p q t o n e h l = ap (λ v. take n (drop o v)) e ∙ (ap (take n) (drop_at p (q ++ t) o h) ∙ take_at q t n l)

regroup : (f x c v s : List ℕ) → f ++ (x ++ (c ++ (v ++ s))) ≡ (((f ++ x) ++ c) ++ v) ++ (s ++ [])
regroup f x c v s = simp (append_assoc, append-nil)

module _ (x c v s : List ℕ) (h : 32 + length x + length c + length v + length s < 4294967296) where
  file_length : length (file_of x c v s) ≡ 32 + length x + length c + length v + length s
  file_length = omega (arith, length-append (directory (length x) (length c) (length v) (length s)) (x ++ (c ++ (v ++ s))), length-append x (c ++ (v ++ s)), length-append c (v ++ s), length-append v s)

  o1 : offset (file_of x c v s) 1 ≡ 32 + length x
  o1 = quarters (32 + length x) (omega arith)

  o2 : offset (file_of x c v s) 2 ≡ 32 + length x + length c
  o2 = quarters (32 + length x + length c) (omega arith)

  o3 : offset (file_of x c v s) 3 ≡ 32 + length x + length c + length v
  o3 = quarters (32 + length x + length c + length v) (omega arith)

  s0 : size (file_of x c v s) 0 ≡ length x
  s0 = quarters (length x) (omega arith)

  s1 : size (file_of x c v s) 1 ≡ length c
  s1 = quarters (length c) (omega arith)

  s2 : size (file_of x c v s) 2 ≡ length v
  s2 = quarters (length v) (omega arith)

  s3 : size (file_of x c v s) 3 ≡ length s
  s3 = quarters (length s) (omega arith)

  pub file_right : Right (file_of x c v s)
  file_right = record {
    whole = omega (arith, file_length);
    first = refl;
    second = o1 ∙ ap (λ n. 32 + n) (sym s0);
    third = o2 ∙ cc (o1, s1);
    fourth = o3 ∙ cc (o2, s2);
    last = omega (arith, o3, s3, file_length);
  }

  abbrev front : List ℕ
  front = directory (length x) (length c) (length v) (length s)

  pub part0 : part (file_of x c v s) 0 ≡ x
  part0 = ap (slice (file_of x c v s) 32) s0 ∙ slice_at (file_of x c v s) front x (c ++ (v ++ s)) 32 (length x) refl refl refl

  pub part1 : part (file_of x c v s) 1 ≡ c
  part1 = ap (slice (file_of x c v s) (offset (file_of x c v s) 1)) s1 ∙ (ap (λ o. slice (file_of x c v s) o (length c)) o1
      ∙ slice_at (file_of x c v s) (front ++ x) c (v ++ s) (32 + length x) (length c) (sym (append_assoc front x (c ++ (v ++ s)))) (length-append front x) refl)

  pub part2 : part (file_of x c v s) 2 ≡ v
  part2 = ap (slice (file_of x c v s) (offset (file_of x c v s) 2)) s2 ∙ (ap (λ o. slice (file_of x c v s) o (length v)) o2
      ∙ slice_at (file_of x c v s) ((front ++ x) ++ c) v s (32 + length x + length c) (length v) (simp append_assoc) (omega (arith, length-append (front ++ x) c, length-append front x)) refl)

  pub part3 : part (file_of x c v s) 3 ≡ s
  part3 = ap (slice (file_of x c v s) (offset (file_of x c v s) 3)) s3 ∙ (ap (λ o. slice (file_of x c v s) o (length s)) o3
      ∙ slice_at (file_of x c v s) (((front ++ x) ++ c) ++ v) s [] (32 + length x + length c + length v) (length s) (regroup front x c v s) (omega (arith, length-append ((front ++ x) ++ c) v, length-append (front ++ x) c, length-append front x)) refl)

  pub file_decodes : decode (file_of x c v s) ≡ of_parts x c v s
  file_decodes = ap (λ o. refuse o (of_parts (part (file_of x c v s) 0) (part (file_of x c v s) 1) (part (file_of x c v s) 2) (part (file_of x c v s) 3))) (right_to (file_of x c v s) file_right)
      ∙ (ap (λ a. of_parts a (part (file_of x c v s) 1) (part (file_of x c v s) 2) (part (file_of x c v s) 3)) part0
      ∙ (ap (λ a. of_parts x a (part (file_of x c v s) 2) (part (file_of x c v s) 3)) part1
      ∙ (ap (λ a. of_parts x c a (part (file_of x c v s) 3)) part2 ∙ ap (of_parts x c v) part3)))

-- the theorem ------------------------------------------------------------------------------------------------------

judged_passes : (n k r m : ℕ) (ss : List Statement) → m ≡ length ss → Accepted n k r ss → judgement n k r m (map record_of ss) ≡ None
judged_passes n k r m ss e a =
    ap (λ i. judgement n k r i (map record_of ss)) e
    ∙ (ap (λ (b : Bool). cond b (records_refusal n k r 0 (map record_of ss)) (Some (refusal CountOutOfLimits 0 0))) a.within
    ∙ (same_refusal n k r 0 ss ∙ fit_unrefused n k r 0 ss a.fitting))

-- the parts of a header in order are judged right
parts_right : (h : Header) (x c v s : List ℕ) → Proper h → lines x ≡ h.individuals → lines c ≡ h.classes → lines v ≡ h.roles → records_in s ≡ map record_of h.statements → judged x c v s ≡ Ok h
parts_right h x c v s p nx nc nv ns =
    let a = unrefused_accepted (length h.individuals) (length h.classes) (length h.roles) h.statements p.fitting in
    let same : holding x c v s ≡ h = rw (nx, nc, nv, ns, stated_back h.statements) refl in
    let counted : judgement (length (lines x)) (length (lines c)) (length (lines v)) (length (records_in s)) (records_in s) ≡ None =
    rw (nx, nc, nv, ns) (judged_passes (length h.individuals) (length h.classes) (length h.roles) (length (map record_of h.statements)) h.statements (length-map h.statements record_of) a) in
    ap (λ o. refuse o (Ok (holding x c v s))) counted ∙ ap Ok same

pub read_back : ReadBack
read_back h p =
    let x : List ℕ = joined line h.individuals in
    let c : List ℕ = joined line h.classes in
    let v : List ℕ = joined line h.roles in
    let s : List ℕ = joined record_bytes h.statements in
    let a = unrefused_accepted (length h.individuals) (length h.classes) (length h.roles) h.statements p.fitting in
    let l = limited (length h.individuals) (length h.classes) (length h.roles) (length h.statements) a.within in
    let lx = names_length h.individuals p.individuals.each in
    let lc = names_length h.classes p.classes.each in
    let lv = names_length h.roles p.roles.each in
    let small : 32 + length (joined line h.individuals) + length (joined line h.classes) + length (joined line h.roles) + length (joined record_bytes h.statements) < 4294967296
    = omega (arith, lx, lc, lv, records_length h.statements, l.individuals, l.classes, l.roles, l.statements) in
    let f = four_pass (are_names x) (are_names c) (are_names v) (are_records s) (refusal WrongContent 1 0) (refusal WrongContent 2 0) (refusal WrongContent 3 0) (refusal WrongContent 4 0) (names_right h.individuals p.individuals) (names_right h.classes p.classes) (names_right h.roles p.roles) (records_right h.statements) in
    let nx = lines_joined h.individuals p.individuals.each in
    let nc = lines_joined h.classes p.classes.each in
    let nv = lines_joined h.roles p.roles.each in
    let ns = records_joined h.statements (smalls (length h.individuals) (length h.classes) (length h.roles) (length h.statements) h.statements l a.fitting) in
    file_decodes x c v s small ∙ (ap (λ o. refuse o (judged x c v s)) f ∙ parts_right h x c v s p nx nc nv ns)
