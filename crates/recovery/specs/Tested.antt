-- A judge of entries that goes by tests: `good seen e` tests whether e is good after the entries `seen`, `full seen` whether
-- there is no room for another, and `whole seen` whether no fact is missing. The tests stay, and `seen` grows by each entry
-- that is kept. Then the answer and the entries that are kept are these, and no others.
use Rattle.std.specs.Prelude.{◌≡◌, ℕ, ◌+◌, Bool, true, false, cond, List, [], ◌∷◌, ◌++◌, Ok, Err, Result}
use Rattle.rules.specs.declared.refusals.Refusal.{Refusal}
use Rattle.recovery.specs.Begun.{entry_bytes}
use Rattle.recovery.specs.Entries.{no_room_left, Gone}
use Rattle.recovery.specs.declared.entries.Judged.{Judged}
use Rattle.recovery.specs.declared.entries.Judged.TheVariants as k
use Rattle.recovery.specs.declared.entries.Verdict.{Verdict}
use Rattle.recovery.specs.declared.entries.Verdict.TheVariants as v

-- What a judge says of an entry.
abbrev pub judged : Bool → Bool → Judged
judged good full = cond good (cond full k.Full k.Good) k.Bad

-- The entries that are kept after that.
abbrev pub kept_with : Judged → List (List ℕ) → List ℕ → List (List ℕ)
kept_with k.Good seen e = seen ++ (e ∷ [])
kept_with k.Bad seen e = seen
kept_with k.Full seen e = seen

-- The answer.
abbrev pub verdict : (List (List ℕ) → List ℕ → Bool) → (List (List ℕ) → Bool) → (List (List ℕ) → Bool) → List (List ℕ) → ℕ → List (List ℕ) → Result Verdict Refusal
verdict good full whole seen place [] = Ok (cond (whole seen) v.Yes (v.No place))
verdict good full whole seen place (e ∷ es) =
    cond (good seen e)
    (cond (full seen) (Err no_room_left) (verdict good full whole (seen ++ (e ∷ [])) (place + 1) es))
    (Ok (v.No place))

-- The entries that are kept then: those before the first that is bad or finds no room.
abbrev pub kept_of : (List (List ℕ) → List ℕ → Bool) → (List (List ℕ) → Bool) → List (List ℕ) → List (List ℕ) → List (List ℕ)
kept_of good full seen [] = seen
kept_of good full seen (e ∷ es) = cond (good seen e) (cond (full seen) seen (kept_of good full (seen ++ (e ∷ [])) es)) seen

-- The tests of two judges are the same.
abbrev pub SameTests : {J : Type 0} (good : J → List (List ℕ) → List ℕ → Bool) (full whole : J → List (List ℕ) → Bool) → J → J → Type 0
SameTests good full whole j i = (good i ≡ good j) × (full i ≡ full j) × (whole i ≡ whole j)

-- What going over entries answers, whatever the tests are that judges of this kind go by.
abbrev pub TestsTell : Type 0 → Type 0
TestsTell J =
    (seen : J → List (List ℕ)) (good : J → List (List ℕ) → List ℕ → Bool) (full whole : J → List (List ℕ) → Bool)
    (left : List (List ℕ)) (place : ℕ) (j i : J) (o : Result Verdict Refusal) →
    Gone (λ j e. good j (seen j) (entry_bytes e) ≡ true) (λ j. full j (seen j) ≡ true) (λ j. whole j (seen j) ≡ true) (λ j. whole j (seen j) ≡ false)
    (λ j e i. (seen i ≡ seen j ++ (entry_bytes e ∷ [])) × SameTests good full whole j i) (λ j i. (seen i ≡ seen j) × SameTests good full whole j i) left place j i o →
    (o ≡ verdict (good j) (full j) (whole j) (seen j) place left) × (seen i ≡ kept_of (good j) (full j) (seen j) left)
