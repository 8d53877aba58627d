use Rattle.std.proofs.Common.{◌≡◌, ℕ, zero, suc, ◌+◌, ◌-◌, ◌<◌, ◌≤◌, Bool, true, false, cond, not, eqb, nat_lt, List, [], ◌∷◌, length, get_or, take, drop, position, Some, None, Option, unwrap_or, sym, refl, ap, ◌∙◌, arith, add-zero, add-one, length-drop, length-take, get_or-drop, take_all, drop-cons}
use Rattle.std.proofs.lemmas.List.{drop_all}
use Rattle.std.proofs.lemmas.List.Quantifiers.{position-Some}
use Rattle.std.proofs.lemmas.List.Sums.{fails_before_first}
use Rattle.std.proofs.lemmas.Bool.{eqb-true}
use Rattle.std.specs.List.{position_or_len}
use Rattle.reader.specs.Text.{lines, onto, pieces, filled, words}

-- None of the first n bytes passes a test.
abbrev NonePass : (ℕ → Bool) → List ℕ → ℕ → Type 0
NonePass test xs n = (k : ℕ) → k < n → test (get_or xs k 0) ≡ false

nowhere : (n m : ℕ) → cond (nat_lt n m) (Some n) None ≡ None → m ≤ n
nowhere n m e = grind arith

none_pass : (test : ℕ → Bool) (xs : List ℕ) → position test xs ≡ None → NonePass test xs (length xs)
none_pass test xs e k lt = fails_before_first test xs k 0 (let h = nowhere (position_or_len test xs) (length xs) e in omega arith)

-- A text with no cut is one piece; and the first cut ends the first piece.
one_piece : (cut : ℕ) (xs : List ℕ) → NonePass (λ b. eqb b cut) xs (length xs) → pieces cut xs ≡ xs ∷ []
unfolding pieces onto
one_piece cut [] h = refl
one_piece cut (x ∷ xs) h = rw (h 0 (omega arith), one_piece cut xs (λ k lt. h (suc k) (omega arith)))

first_piece : (cut : ℕ) (xs : List ℕ) (i : ℕ) → i < length xs → NonePass (λ b. eqb b cut) xs i → eqb (get_or xs i 0) cut ≡ true
    → pieces cut xs ≡ take i xs ∷ pieces cut (drop (suc i) xs)
unfolding pieces onto
first_piece cut [] i lt h e = absurd (omega arith)
first_piece cut (x ∷ xs) zero lt h e = rw e
first_piece cut (x ∷ xs) (suc i) lt h e = rw (h 0 (omega arith), first_piece cut xs i (omega arith) (λ k lt. h (suc k) (omega arith)) e)

pub uncut : (cut : ℕ) (xs : List ℕ) → position (λ b. eqb b cut) xs ≡ None → pieces cut xs ≡ xs ∷ []
uncut cut xs e = one_piece cut xs (none_pass (λ b. eqb b cut) xs e)

cut_at : (cut : ℕ) (xs : List ℕ) (i : ℕ) → position (λ b. eqb b cut) xs ≡ Some i → pieces cut xs ≡ take i xs ∷ pieces cut (drop (i + 1) xs)
cut_at cut xs i e = let h = position-Some (λ b. eqb b cut) xs i 0 e in rw add-one (first_piece cut xs i h.0 h.2 h.1)

to_end : (xs : List ℕ) (n : ℕ) → take (length xs - n) (drop n xs) ≡ drop n xs
to_end xs n = take_all (length xs - n) (drop n xs) (simp length-drop (omega arith))

-- The first line ends at the first newline, and what is cut off after it has the other lines.
pub line_cut : (xs : List ℕ) (i : ℕ) → position (λ b. eqb b 10) xs ≡ Some i → lines xs ≡ take i xs ∷ lines (take (length xs - (i + 1)) (drop (i + 1) xs))
line_cut xs i e = rw (to_end xs (i + 1)) (cut_at 10 xs i e)

-- Spaces at the front change nothing.
pub words_none : words [] ≡ []
unfolding words filled pieces
words_none = refl

words_space : (xs : List ℕ) → words (32 ∷ xs) ≡ words xs
unfolding words filled pieces
words_space xs = refl

words_skip : (xs : List ℕ) (i : ℕ) → i ≤ length xs → NonePass (λ b. not (eqb b 32)) xs i → words xs ≡ words (drop i xs)
words_skip xs zero le h = refl
words_skip [] (suc i) le h = absurd (omega arith)
words_skip (x ∷ xs) (suc i) le h =
    let space : x ≡ 32 = eqb-true x 32 (grind (arith, h 0 (omega arith))) in
    ap (λ (b : ℕ). words (b ∷ xs)) space ∙ words_space xs ∙ words_skip xs i (omega arith) (λ k lt. h (suc k) (omega arith))

pub words_over : (xs : List ℕ) → position (λ b. not (eqb b 32)) xs ≡ None → words xs ≡ []
words_over xs e = words_skip xs (length xs) (omega arith) (none_pass (λ b. not (eqb b 32)) xs e) ∙ ap words (drop_all (length xs) xs (omega arith)) ∙ words_none

filled_head : (p : List ℕ) (ps : List (List ℕ)) → 0 < length p → filled (p ∷ ps) ≡ p ∷ filled ps
unfolding filled
filled_head [] ps h = absurd (omega arith)
filled_head (b ∷ bs) ps h = refl

-- A text that begins with no space begins with a word, up to the first space or to its end.
word_to : (ys : List ℕ) (r : ℕ) → 0 < r → r < length ys → get_or ys r 0 ≡ 32 → pieces 32 ys ≡ take r ys ∷ pieces 32 (drop (r + 1) ys) → words ys ≡ take r ys ∷ words (drop r ys)
unfolding words
word_to ys r pos lt space e =
    let rest : words (drop r ys) ≡ words (drop (r + 1) ys) = rw (add-one, drop-cons ys r 0, space) (words_space (drop (suc r) ys)) in
    ap filled e ∙ filled_head (take r ys) _ (simp length-take (omega arith)) ∙ ap (λ (ws : List (List ℕ)). take r ys ∷ ws) (sym rest)

word_all : (ys : List ℕ) → 0 < length ys → pieces 32 ys ≡ ys ∷ [] → words ys ≡ take (length ys) ys ∷ words (drop (length ys) ys)
unfolding words filled
word_all ys some e = ap filled e ∙ filled_head ys [] some ∙ sym (rw (take_all (length ys) ys (omega arith), drop_all (length ys) ys (omega arith)) (ap (λ (ws : List (List ℕ)). ys ∷ ws) words_none))

-- The first word of xs is the first r bytes of what is left of xs after its first spaces.
pub record FirstWord (xs ys : List ℕ) (r : ℕ) : Type 0 where
  pub some : 0 < r
  pub is : words xs ≡ take r ys ∷ words (drop r ys)

first_word : (ys : List ℕ) (o : Option ℕ) → position (λ b. eqb b 32) ys ≡ o → 0 < length ys → eqb (get_or ys 0 0) 32 ≡ false → FirstWord ys ys (unwrap_or o (length ys))
first_word ys None e some bare = record { some = some; is = word_all ys some (uncut 32 ys e) }
first_word ys (Some zero) e some bare = let h = position-Some (λ b. eqb b 32) ys zero 0 e in absurd (grind (arith, h.1, bare))
first_word ys (Some (suc r)) e some bare =
    let h = position-Some (λ b. eqb b 32) ys (suc r) 0 e in
    record { some = omega arith; is = word_to ys (suc r) (omega arith) h.0 (eqb-true (get_or ys (suc r) 0) 32 h.1) (cut_at 32 ys (suc r) e) }

pub words_found : (xs : List ℕ) (from : ℕ) → position (λ b. not (eqb b 32)) xs ≡ Some from → (ys : List ℕ) → ys ≡ drop from xs
    → (o : Option ℕ) → o ≡ position (λ b. eqb b 32) ys → (r : ℕ) → r ≡ unwrap_or o (length ys) → FirstWord xs ys r
words_found xs from e ys ye o oe r re =
    let h = position-Some (λ b. not (eqb b 32)) xs from 0 e in
    let low : from < length xs = h.0 in
    let head : get_or ys 0 0 ≡ get_or xs from 0 = rw ye (get_or-drop from xs 0 0 ∙ ap (λ (k : ℕ). get_or xs k 0) (add-zero from)) in
    let some : 0 < length ys = rw (ye, length-drop) (omega arith) in
    let w = first_word ys o (sym oe) some (rw head (grind (arith, h.1))) in
    record { some = rw re w.some; is = words_skip xs from (omega arith) h.2 ∙ ap words (sym ye) ∙ rw re w.is }

-- No more words than bytes.
one_more_word : (b : ℕ) (ps : List (List ℕ)) → length (filled (onto b ps)) ≤ length (filled ps) + 1
unfolding filled onto
one_more_word b [] = omega arith
one_more_word b ([] ∷ more) = omega arith
one_more_word b ((c ∷ cs) ∷ more) = omega arith

filled_at : (t : Bool) (b : ℕ) (ps : List (List ℕ)) → length (filled (cond t ([] ∷ ps) (onto b ps))) ≤ length (filled ps) + 1
unfolding filled
filled_at true b ps = omega arith
filled_at false b ps = one_more_word b ps

pub few_words : (xs : List ℕ) → length (words xs) ≤ length xs
unfolding words filled pieces
few_words [] = omega arith
few_words (b ∷ bs) = let h = few_words bs in let g = filled_at (eqb b 32) b (pieces 32 bs) in omega arith
