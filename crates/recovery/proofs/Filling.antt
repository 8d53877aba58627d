-- A recovery file, from its pieces.
use Rattle.std.proofs.Common.{◌≡◌, ℕ, ◌+◌, ◌-◌, ◌*◌, ◌<◌, ◌≤◌, true, false, ◌&&◌, ltb, leb, List, [], ◌∷◌, ◌++◌, length, get_or, take, drop, replicate, Ok, Err, Result, sym, refl, ap, ◌∙◌, append_assoc, arith, length-append, length-take, MatchResult}
use Rattle.std.proofs.lemmas.List.{drop_at}
use Rattle.std.proofs.lemmas.Bool.{and_parts, and_from, leb-true, le-leb, ltb-true, lt-ltb, cond-true, true≢false}
use Rattle.rules.specs.declared.refusals.Refusal.{Refusal}
use Rattle.headers.specs.Bytes.{joined}
use Rattle.headers.specs.Output.{laid, fits, too_short, Wrote, Kept}
use Rattle.headers.proofs.Laying.{laid_two, laid_front, laid_length, joined_more}
use Rattle.recovery.specs.declared.entry.Entry.{Entry}
use Rattle.recovery.specs.Begun.{entry_bytes, two_pairs, begun_bytes, recovery_bytes, begun_at, begun_output, no_room, stands, closed_length, closed_output, Added, Unadded}

pub joined_length : (es : List Entry) → length (joined entry_bytes es) ≡ 14 * length es
joined_length [] = refl
joined_length (e ∷ es) = omega (arith, length-append (entry_bytes e) (joined entry_bytes es), joined_length es)

-- one entry more
pub entries_more : (o out : List ℕ) (at i : ℕ) (es : List Entry) (d : Entry) → i < length es → at + 14 * length es ≤ length o → out ≡ laid o at (joined entry_bytes (take i es)) →
    laid out (at + 14 * i) (entry_bytes (get_or es i d)) ≡ laid o at (joined entry_bytes (take (i + 1) es))
entries_more o out at i es d l h e =
    joined_more entry_bytes es i d l o out at (at + 14 * i) (omega (arith, joined_length es, h)) e (omega (arith, joined_length (take i es), length-take i es, l))

-- the front written over
pub laid_over : (o z p t : List ℕ) → length p ≡ length z → laid (laid o 0 (z ++ t)) 0 p ≡ laid o 0 (p ++ t)
laid_over o z p t e =
    let q : List ℕ = drop (length (z ++ t)) o in
    let i : laid o 0 (z ++ t) ≡ z ++ (t ++ q) = laid_front o (z ++ t) ∙ append_assoc z t q in
    let n : length (p ++ t) ≡ length (z ++ t) = omega (arith, length-append p t, length-append z t) in
    let d : drop (length p) (laid o 0 (z ++ t)) ≡ t ++ q = ap (drop (length p)) i ∙ drop_at z (t ++ q) (length p) (sym e) in
    laid_front (laid o 0 (z ++ t)) p ∙ (ap (λ v. p ++ v) d ∙ (sym (append_assoc p t q) ∙ (ap (λ k. (p ++ t) ++ drop k o) (sym n) ∙ sym (laid_front o (p ++ t)))))

-- a begun file with its entries, closed
pub closed : (o b f g h : List ℕ) (es : List Entry) (size : ℕ) → 16 + length h + 14 * length es ≤ length o → b ≡ laid o 0 (begun_bytes h) → f ≡ laid b (16 + length h) (joined entry_bytes es) →
    size ≡ 14 * length es → g ≡ laid f 0 (two_pairs (length h) size) → g ≡ laid o 0 (recovery_bytes h es)
closed o b f g h es size l e1 e2 k e3 =
    let n = joined_length es in
    let w : f ≡ laid o 0 (begun_bytes h ++ joined entry_bytes es) = laid_two o b f 0 (16 + length h) (begun_bytes h) (joined entry_bytes es) e1 e2 (omega (arith, length-append (replicate 16 0) h)) (omega arith) in
    let x : f ≡ laid o 0 (replicate 16 0 ++ (h ++ joined entry_bytes es)) = w ∙ ap (laid o 0) (append_assoc (replicate 16 0) h (joined entry_bytes es)) in
    e3 ∙ (ap (λ s. laid f 0 (two_pairs (length h) s)) (k ∙ sym n)
    ∙ (ap (λ v. laid v 0 (two_pairs (length h) (length (joined entry_bytes es)))) x
    ∙ laid_over o (replicate 16 0) (two_pairs (length h) (length (joined entry_bytes es))) (h ++ joined entry_bytes es) refl))

pub recovery_length : (h : List ℕ) (es : List Entry) → length (recovery_bytes h es) ≡ 16 + length h + 14 * length es
recovery_length h es = omega (arith, length-append (two_pairs (length h) (length (joined entry_bytes es))) (h ++ joined entry_bytes es), length-append h (joined entry_bytes es), joined_length es)

-- so many bytes fit an output and 32 bits
pub fits_parts : (o : List ℕ) (n : ℕ) → fits o n ≡ true → (n ≤ length o) × (n < 4294967296)
fits_parts o n e = let p = and_parts (leb n (length o)) (ltb n 4294967296) e in (leb-true n (length o) p.0, ltb-true n 4294967296 p.1)

pub fits_from : (o : List ℕ) (n : ℕ) → n ≤ length o → n < 4294967296 → fits o n ≡ true
fits_from o n h s = and_from (leb n (length o)) (ltb n 4294967296) (le-leb n (length o) h) (lt-ltb n 4294967296 s)

pub stands_from : (o : List ℕ) (at header : ℕ) → at ≤ length o → at < 4294967296 → 16 + header ≤ at → stands o at header ≡ true
stands_from o at header h s l =
    and_from (fits o at) (leb header at && leb 16 (at - header)) (fits_from o at h s) (and_from (leb header at) (leb 16 (at - header)) (le-leb header at (omega (arith, l))) (le-leb 16 (at - header) (omega (arith, l))))

cases_ok : {T E : Type 0} (t : Result T E) (P : Type 0) (Q : E → Type 0) → MatchResult t (λ _. P) Q → ((e : E) → Q e → ⊥) → P
cases_ok (Ok x) P Q h n = h
cases_ok (Err e) P Q h n = absurd (n e h)

-- a file that finds room is begun
module _ (o h : List ℕ) (es : List Entry) (pre : fits o (16 + length h + 14 * length es) ≡ true) where
  begins : fits o (length h + 16) ≡ true
  begins = let p = fits_parts o (16 + length h + 14 * length es) pre in fits_from o (length h + 16) (omega (arith, p.0)) (omega (arith, p.1))

  pub begun_bytes_are : (b : List ℕ) → b ≡ begun_output (fits o (length h + 16)) o h → b ≡ laid o 0 (begun_bytes h)
  begun_bytes_are b e = e ∙ cond-true (fits o (length h + 16)) (laid o 0 (begun_bytes h)) o begins

  pub begun_at_is : (at : ℕ) → at ≡ begun_at (fits o (length h + 16)) (length h) → at ≡ 16 + length h
  begun_at_is at e = e ∙ cond-true (fits o (length h + 16)) (16 + length h) no_room begins

  -- with i entries put
  module _ (b f : List ℕ) (i at : ℕ) (eb : b ≡ laid o 0 (begun_bytes h)) (li : i ≤ length es) (ea : at ≡ 16 + length h + 14 * i) (ef : f ≡ laid b (16 + length h) (joined entry_bytes (take i es))) where
    room : 16 + length h + 14 * length es ≤ length o
    room = (fits_parts o (16 + length h + 14 * length es) pre).0

    small : 16 + length h + 14 * length es < 4294967296
    small = (fits_parts o (16 + length h + 14 * length es) pre).1

    begun_length : length b ≡ length o
    begun_length = ap length eb ∙ laid_length o 0 (begun_bytes h) (omega (arith, room, length-append (replicate 16 0) h))

    file_length : length f ≡ length o
    file_length = ap length ef ∙ (laid_length b (16 + length h) (joined entry_bytes (take i es)) (omega (arith, room, li, begun_length, joined_length (take i es), length-take i es)) ∙ begun_length)

    pub put_more : {T : Type 0} (q : List ℕ) (next : ℕ) (d : Entry) (t : Result T Refusal) (R : Refusal → Type 0) → i < length es → MatchResult t (λ _. Added f q at next (get_or es i d)) (λ e. Unadded f at e × R e) →
        (next ≡ 16 + length h + 14 * (i + 1)) × (q ≡ laid b (16 + length h) (joined entry_bytes (take (i + 1) es)))
    put_more q next d t R l c =
        let fit = fits_from f (at + 14) (omega (arith, room, file_length, ea, l)) (omega (arith, small, ea, l)) in
        let a = cases_ok t (Added f q at next (get_or es i d)) (λ e. Unadded f at e × R e) c (λ e u. true≢false (sym fit ∙ u.0.room)) in
        (omega (arith, a.next', ea), a.bytes ∙ (ap (λ k. laid f k (entry_bytes (get_or es i d))) ea ∙ entries_more b f (16 + length h) i es d l (omega (arith, room, begun_length)) ef))

    pub standing : (header : ℕ) → header ≡ length h → stands f at header ≡ true
    standing header e = stands_from f at header (omega (arith, room, file_length, ea, li)) (omega (arith, small, ea, li)) (omega (arith, ea, e))

-- closed after all entries
pub closed_size : (f : List ℕ) (at header n : ℕ) → stands f at header ≡ true → n ≡ closed_length (stands f at header) at → n ≡ at
closed_size f at header n s e = e ∙ cond-true (stands f at header) at 0 s

pub closed_bytes : (f g : List ℕ) (at header : ℕ) → stands f at header ≡ true → g ≡ closed_output (stands f at header) f at header → g ≡ laid f 0 (two_pairs header (at - (16 + header)))
closed_bytes f g at header s e = e ∙ cond-true (stands f at header) (laid f 0 (two_pairs header (at - (16 + header)))) f s

-- written, or refused
module _ (o h : List ℕ) (es : List Entry) where
  pub wrote : (q : List ℕ) (n : ℕ) → n ≡ 16 + length h + 14 * length es → fits o (16 + length h + 14 * length es) ≡ true → q ≡ laid o 0 (recovery_bytes h es) → Wrote o q (recovery_bytes h es) n
  wrote q n e l f = record {
    room = ap (fits o) (recovery_length h es) ∙ l;
    size = e ∙ sym (recovery_length h es);
    bytes = f ∙ laid_front o (recovery_bytes h es);
  }

  pub kept : (e : Refusal) → e ≡ too_short → fits o (16 + length h + 14 * length es) ≡ false → Kept o o (recovery_bytes h es) e
  kept e is l = record { room = ap (fits o) (recovery_length h es) ∙ l; refused = is; bytes = refl }
