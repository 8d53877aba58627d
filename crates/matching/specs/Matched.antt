-- What match answers, case by case. It takes the bytes b of a header, the bytes of a file and a store, which has the limit F
-- and takes P numbers; `unchanged` says that the store is as it was, and `after` is its set when match has answered.
-- The header is judged first, then the file's directory and the length of its entries, then the store's limit. Then the
-- store is cleared, the file's first part is compared with the header, and the entries are judged one by one, the fact of
-- each good one being put into the store.
use Rattle.std.specs.Prelude.{◌≡◌, ℕ, ◌+◌, ◌<◌, ◌≤◌, Bool, true, ◌⊎◌, ◌↔◌, List, [], ◌∷◌, ◌++◌, map, length, Some, None, Ok, Err, Result}
use Rattle.rules.specs.Refusals.{refusal}
use Rattle.rules.specs.declared.refusals.Reason.TheVariants.{StoreTooSmall}
use Rattle.rules.specs.declared.refusals.Refusal.{Refusal}
use Rattle.rules.specs.declared.statements.Statement.{Statement}
use Rattle.marks.specs.Trees.{In}
use Rattle.calculus.specs.Steps.{HasTree}
use Rattle.calculus.specs.Numbers.{fact_number, fact_limit}
use Rattle.calculus.specs.declared.terms.Fact.{Fact}
use Rattle.headers.specs.Header.{Header, part}
use Rattle.recovery.specs.Recovery.{recovery_refusal}
use Rattle.intake.specs.Outcomes.{HeaderMeans}
use Rattle.matching.specs.Complete.{Good, AllGood, entries_in, Complete}
use Rattle.recovery.specs.declared.entries.Verdict.{Verdict}
use Rattle.recovery.specs.declared.entries.Verdict.TheVariants.{Yes, No}

-- The set of a store is the numbers of these facts, and no others.
abbrev pub HoldsExactly : (n k r : ℕ) → (ℕ → Bool) → List Fact → Type 0
HoldsExactly n k r held facts = (x : ℕ) → (held x ≡ true) ↔ In x (map (fact_number n k r) facts)

-- Some fact with a proof tree is not among these.
pub record Lacks (n k : ℕ) (ss : List Statement) (facts : List Fact) : Type 0 where
  pub fact : Fact
  pub tree : HasTree n k ss fact
  pub absent : ¬ In fact facts

-- 15: the store's limit is too low, or the store is full.
abbrev pub too_small : Refusal
too_small = refusal StoreTooSmall 0 0

-- The entries in front are all good, the store has room for their facts, and it holds these and no others.
pub record Entered (n k r : ℕ) (ss : List Statement) (P : ℕ) (after : ℕ → Bool) (front : List (List ℕ)) (facts : List Fact) : Type 0 where
  pub good : AllGood n k ss [] front facts
  pub room : length facts ≤ P
  pub held : HoldsExactly n k r after facts

-- The entry e comes right after the entries in front.
pub record Next (es front : List (List ℕ)) (e : List ℕ) : Type 0 where
  pub rest : List (List ℕ)
  pub is : es ≡ front ++ (e ∷ rest)

-- The entries es, by the counts n, k and r and the statements ss, put into a store that was cleared.
pub data WentOver (n k r : ℕ) (ss : List Statement) (es : List (List ℕ)) (P : ℕ) (after : ℕ → Bool) : Result Verdict Refusal → Type 0 where
  -- No at the place of an entry: it is bad, whatever its fact.
  bad_entry : {front : List (List ℕ)} {e : List ℕ} {facts : List Fact} {p : ℕ} →
      Entered n k r ss P after front facts → Next es front e → ((f : Fact) → ¬ Good n k ss facts e f) → p ≡ length front + 1 → WentOver n k r ss es P after (Ok (No p))
  -- Refused by 15: an entry is good, and those in front of it have as many facts as the store takes.
  no_room : {front : List (List ℕ)} {e : List ℕ} {facts : List Fact} {f : Fact} →
      Entered n k r ss P after front facts → Next es front e → Good n k ss facts e f → length facts ≡ P → WentOver n k r ss es P after (Err too_small)
  -- No at one more than there are entries: they are all good, and a fact is missing.
  fact_missing : {facts : List Fact} {p : ℕ} → Entered n k r ss P after es facts → Lacks n k ss facts → p ≡ length es + 1 → WentOver n k r ss es P after (Ok (No p))
  -- Yes: they are all good, and every fact with a proof tree has one.
  all_there : {facts : List Fact} → Entered n k r ss P after es facts → ((f : Fact) → HasTree n k ss f → In f facts) → WentOver n k r ss es P after (Ok Yes)

-- The file, with a header b that is accepted, whose counts are n, k and r and whose statements are ss.
pub data Compared (b : List ℕ) (n k r : ℕ) (ss : List Statement) (file : List ℕ) (F P : ℕ) (unchanged : Type 0) (after : ℕ → Bool) : Result Verdict Refusal → Type 0 where
  -- The file is refused by 13 or 14.
  file_refused : {e : Refusal} → recovery_refusal file ≡ Some e → unchanged → Compared b n k r ss file F P unchanged after (Err e)
  -- Refused by 15: the store's limit is below that of the header's book.
  limit_low : recovery_refusal file ≡ None → F < fact_limit n k r → unchanged → Compared b n k r ss file F P unchanged after (Err too_small)
  -- No at 0: the file's first part is not the header.
  other_header : recovery_refusal file ≡ None → fact_limit n k r ≤ F → ¬ (part file 0 ≡ b) → HoldsExactly n k r after [] → Compared b n k r ss file F P unchanged after (Ok (No 0))
  -- The entries decide.
  by_entries : {o : Result Verdict Refusal} → recovery_refusal file ≡ None → fact_limit n k r ≤ F → part file 0 ≡ b → WentOver n k r ss (entries_in file) P after o → Compared b n k r ss file F P unchanged after o

-- The same with a header of these contents.
abbrev pub ComparedWith : List ℕ → Header → List ℕ → (F P : ℕ) → Type 0 → (ℕ → Bool) → Result Verdict Refusal → Type 0
ComparedWith b h file F P unchanged after o = Compared b (length h.individuals) (length h.classes) (length h.roles) h.statements file F P unchanged after o

-- What match answers for any bytes.
pub data Matched (b file : List ℕ) (F P : ℕ) (unchanged : Type 0) (after : ℕ → Bool) : Result Verdict Refusal → Type 0 where
  -- The header is refused, by 13, 14, 8, 7 or 9.
  header_refused : {e : Refusal} → HeaderMeans b (Err e) → unchanged → Matched b file F P unchanged after (Err e)
  -- The header is accepted, with the contents h.
  header_accepted : {h : Header} {o : Result Verdict Refusal} → HeaderMeans b (Ok h) → ComparedWith b h file F P unchanged after o → Matched b file F P unchanged after o

-- There is one answer: the bytes, the limit and the capacity leave match no choice.
abbrev pub OneAnswer : (b file : List ℕ) (F P : ℕ) → Type 0
OneAnswer b file F P =
    (one other : ℕ → Bool) (o p : Result Verdict Refusal) → Matched b file F P (Unit {0}) one o → Matched b file F P (Unit {0}) other p → o ≡ p

-- The promise, for every header that is accepted and whatever bytes stand in the file. An answer is yes exactly if the file
-- is complete for the header. A complete file is never refused but for its store: by 15, and only if the limit is below that
-- of the header's book, or the store takes fewer numbers than the file has entries.
abbrev pub Promise : (b file : List ℕ) (F P : ℕ) → Result Verdict Refusal → Type 0
Promise b file F P (Ok v) = (h : Header) → HeaderMeans b (Ok h) → (v ≡ Yes) ↔ Complete b h file
Promise b file F P (Err e) =
    (h : Header) → HeaderMeans b (Ok h) → Complete b h file →
    (e ≡ too_small) × ((F < fact_limit (length h.individuals) (length h.classes) (length h.roles)) ⊎ (P < length (entries_in file)))
