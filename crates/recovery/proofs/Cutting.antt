-- Fourteen bytes as an entry, and an entry by its bytes.
use Rattle.std.proofs.Common.{◌≡◌, ℕ, zero, suc, ◌+◌, ◌*◌, ◌/◌, ◌%◌, ◌<◌, ◌≤◌, List, [], ◌∷◌, ◌++◌, length, drop, sym, refl, ap, ◌∙◌, arith}
use Rattle.std.proofs.lemmas.List.{drop_more}
use Rattle.headers.specs.Bytes.{at, wide, two}
use Rattle.headers.specs.Theorems.{Bytes}
use Rattle.recovery.specs.declared.entry.Entry.{Entry}
use Rattle.recovery.specs.Begun.{entry_bytes}
use Rattle.recovery.specs.EntryCuts.{EntryFits, EntryCut}

-- n bytes from the place k on
abbrev listed : ℕ → ℕ → List ℕ → List ℕ
listed k zero b = []
listed k (suc n) b = at b k ∷ listed (k + 1) n b

drop_listed : (n k : ℕ) (b : List ℕ) → k + n ≤ length b → drop k b ≡ listed k n b ++ drop (k + n) b
drop_listed zero k b h = let e : k ≡ k + 0 = omega arith in ap (λ i. drop i b) e
drop_listed (suc n) k b h =
    let l : k < length b = omega arith in
    let m : k + 1 + n ≤ length b = omega arith in
    let e : k + 1 + n ≡ k + suc n = omega arith in
    drop_more b k 0 l ∙ ap (λ v. at b k ∷ v) (drop_listed n (k + 1) b m ∙ ap (λ i. listed (k + 1) n b ++ drop i b) e)

two_wide : (x y : ℕ) → x < 256 → y < 256 → two (x * 256 + y) ≡ x ∷ y ∷ []
two_wide x y p q =
    let e : (x * 256 + y) / 256 % 256 ≡ x = omega arith in
    let f : (x * 256 + y) % 256 ≡ y = omega arith in
    cc

abbrev made : (letter rule first role second place u w : ℕ) → Entry
made letter rule first role second place u w = record { letter = letter; rule = rule; first = first; role = role; second = second; place = place; u = u; w = w }

-- the entry that fourteen bytes give
abbrev entry_in : List ℕ → Entry
entry_in b = made (at b 0) (at b 1) (wide b 2) (wide b 4) (wide b 6) (wide b 8) (wide b 10) (wide b 12)

spelt : (b : List ℕ) → Bytes b → entry_bytes (entry_in b) ≡ listed 0 14 b
spelt b y =
    let e1 = two_wide (at b 2) (at b 3) (y 2) (y 3) in let e2 = two_wide (at b 4) (at b 5) (y 4) (y 5) in
    let e3 = two_wide (at b 6) (at b 7) (y 6) (y 7) in let e4 = two_wide (at b 8) (at b 9) (y 8) (y 9) in
    let e5 = two_wide (at b 10) (at b 11) (y 10) (y 11) in let e6 = two_wide (at b 12) (at b 13) (y 12) (y 13) in
    cc

wide_fits : (x y : ℕ) → x < 256 → y < 256 → x * 256 + y < 65536
wide_fits x y p q = omega arith

cut_off : (b : List ℕ) → Bytes b → 14 ≤ length b → EntryCut b (entry_in b) (drop 14 b)
cut_off b y h = record {
  is = drop_listed 14 0 b h ∙ ap (λ v. v ++ drop 14 b) (sym (spelt b y));
  fits = record {
    letter = y 0;
    rule = y 1;
    first = wide_fits (at b 2) (at b 3) (y 2) (y 3);
    role = wide_fits (at b 4) (at b 5) (y 4) (y 5);
    second = wide_fits (at b 6) (at b 7) (y 6) (y 7);
    place = wide_fits (at b 8) (at b 9) (y 8) (y 9);
    u = wide_fits (at b 10) (at b 11) (y 10) (y 11);
    w = wide_fits (at b 12) (at b 13) (y 12) (y 13);
  };
}

pub cut_made : (b rest : List ℕ) (first role second place u w : ℕ) → Bytes b → 14 ≤ length b → first ≡ wide b 2 → role ≡ wide b 4 → second ≡ wide b 6 → place ≡ wide b 8 → u ≡ wide b 10 → w ≡ wide b 12 →
    rest ≡ drop 14 b → EntryCut b (made (at b 0) (at b 1) first role second place u w) rest
cut_made b rest first role second place u w y h e1 e2 e3 e4 e5 e6 e7 = rw (e1, e2, e3, e4, e5, e6, e7) (cut_off b y h)

-- entries with the same bytes are the same
two_same : (x y : ℕ) → x < 65536 → y < 65536 → x / 256 % 256 ≡ y / 256 % 256 → x % 256 ≡ y % 256 → x ≡ y
two_same x y p q e f = omega arith

pub entry_same : (e d : Entry) → EntryFits e → EntryFits d → entry_bytes e ≡ entry_bytes d → e ≡ d
entry_same e d p q h =
    let l : e.letter ≡ d.letter = cc in
    let r : e.rule ≡ d.rule = cc in
    let a = two_same e.first d.first p.first q.first (cc) (cc) in
    let b = two_same e.role d.role p.role q.role (cc) (cc) in
    let c = two_same e.second d.second p.second q.second (cc) (cc) in
    let f = two_same e.place d.place p.place q.place (cc) (cc) in
    let u = two_same e.u d.u p.u q.u (cc) (cc) in
    let w = two_same e.w d.w p.w q.w (cc) (cc) in
    let i : e ≡ made e.letter e.rule e.first e.role e.second e.place e.u e.w = refl in
    let j : d ≡ made d.letter d.rule d.first d.role d.second d.place d.u d.w = refl in
    cc
