-- Going over the entries of a recovery file, in order, with a keeper of entries:
--   at the first bad entry         no, with its place, from 1
--   a good entry finds no room     refusal 15
--   after the last entry           yes; or no at the next place if a fact is missing
-- A keeper stands somehow, and that changes as it keeps entries: `good j e` says whether the entry e is good where the keeper
-- stands as j, `full j` that there is no room to keep another, `whole j` that no fact is missing and `lacks j` that one is.
-- `keeps j e i` says that j has become i by keeping e, and `alike j i` that i stands as j did.
use Rattle.std.specs.Prelude.{◌≡◌, ℕ, ◌+◌, List, [], ◌∷◌, Ok, Err, Result}
use Rattle.rules.specs.Refusals.{refusal}
use Rattle.rules.specs.declared.refusals.Reason.TheVariants.{StoreTooSmall}
use Rattle.rules.specs.declared.refusals.Refusal.{Refusal}
use Rattle.recovery.specs.Begun.{entry_bytes}
use Rattle.recovery.specs.EntryCuts.{EntryFits}
use Rattle.recovery.specs.declared.entry.Entry.{Entry}
use Rattle.recovery.specs.declared.entries.Judged.{Judged}
use Rattle.recovery.specs.declared.entries.Judged.TheVariants as k
use Rattle.recovery.specs.declared.entries.Verdict.{Verdict}
use Rattle.recovery.specs.declared.entries.Verdict.TheVariants as v

-- What a keeper says of an entry, and how it stands then.
abbrev pub Judges : (good full keeps alike : Type 0) → Judged → Type 0
Judges good full keeps alike k.Good = good × ¬ full × keeps
Judges good full keeps alike k.Bad = ¬ good × alike
Judges good full keeps alike k.Full = good × full × alike

abbrev pub no_room_left : Refusal
no_room_left = refusal StoreTooSmall 0 0

-- The entry e comes first, and the entries `after` follow.
pub record Comes (left : List (List ℕ)) (e : Entry) (after : List (List ℕ)) : Type 0 where
  pub is : left ≡ entry_bytes e ∷ after
  pub fits : EntryFits e

-- Going over the entries that are left, of which the first has this place: how the keeper stands before and at the end, and
-- the answer.
pub data Gone {J : Type 0} (good : J → Entry → Type 0) (full whole lacks : J → Type 0) (keeps : J → Entry → J → Type 0) (alike : J → J → Type 0) : List (List ℕ) → ℕ → J → J → Result Verdict Refusal → Type 0 where
  -- A bad entry comes.
  at_bad : {left after : List (List ℕ)} {place : ℕ} {j i : J} {e : Entry} → Comes left e after → ¬ good j e → alike j i → Gone good full whole lacks keeps alike left place j i (Ok (v.No place))
  -- A good entry comes, and finds no room.
  at_full : {left after : List (List ℕ)} {place : ℕ} {j i : J} {e : Entry} → Comes left e after → good j e → full j → alike j i → Gone good full whole lacks keeps alike left place j i (Err no_room_left)
  -- A good entry comes and is kept, and the others decide.
  past_good : {left after : List (List ℕ)} {place : ℕ} {j i l : J} {e : Entry} {o : Result Verdict Refusal} →
      Comes left e after → good j e → ¬ full j → keeps j e i → Gone good full whole lacks keeps alike after (place + 1) i l o → Gone good full whole lacks keeps alike left place j l o
  -- No entry is left, and a fact is missing, or none is.
  at_lack : {place : ℕ} {j : J} → lacks j → Gone good full whole lacks keeps alike [] place j j (Ok (v.No place))
  at_end : {place : ℕ} {j : J} → whole j → Gone good full whole lacks keeps alike [] place j j (Ok v.Yes)
