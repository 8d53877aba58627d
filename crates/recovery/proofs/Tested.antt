-- A judge that goes by tests.
use Rattle.std.proofs.Common.{◌≡◌, ℕ, ◌+◌, List, Result, refl, ◌∙◌}
use Rattle.std.proofs.lemmas.Bool.{false_from_ne_true}
use Rattle.rules.specs.declared.refusals.Refusal.{Refusal}
use Rattle.recovery.specs.declared.entry.Entry.{Entry}
use Rattle.recovery.specs.declared.entries.Verdict.{Verdict}
use Rattle.recovery.specs.Entries.{Gone, at_bad, at_full, past_good, at_lack, at_end}
use Rattle.recovery.specs.Tested.{TestsTell}

pub tests_tell : {J : Type 0} → TestsTell J
tests_tell seen good full whole left place j i o (at_bad comes bad same) = rw comes.is (rw (false_from_ne_true _ bad) (refl, same.0))
tests_tell seen good full whole left place j i o (at_full comes is room same) = rw comes.is (rw (is, room) (refl, same.0))
tests_tell seen good full whole left place j i o (past_good {after = after} {i = k} comes is free kept others) =
    let later = tests_tell seen good full whole after (place + 1) k i o others in
    rw comes.is (rw (is, false_from_ne_true _ free) (rw (kept.0, kept.1.0, kept.1.1, kept.1.2) at later))
tests_tell seen good full whole left place j i o (at_lack lacks) = rw lacks (refl, refl)
tests_tell seen good full whole left place j i o (at_end is) = rw is (refl, refl)

module _ {J : Type 0} {good : J → Entry → Type 0} {full whole lacks : J → Type 0} where
  -- what is said of how a keeper stands may be weakened
  pub gone_weaker : {keeps keeps' : J → Entry → J → Type 0} {alike alike' : J → J → Type 0} → ((j : J) (e : Entry) (i : J) → keeps j e i → keeps' j e i) → ((j i : J) → alike j i → alike' j i) →
      (left : List (List ℕ)) (place : ℕ) (j i : J) (o : Result Verdict Refusal) → Gone good full whole lacks keeps alike left place j i o → Gone good full whole lacks keeps' alike' left place j i o
  gone_weaker k a left place j i o (at_bad comes bad same) = at_bad comes bad (a j i same)
  gone_weaker k a left place j i o (at_full comes is room same) = at_full comes is room (a j i same)
  gone_weaker k a left place j l o (past_good {after = after} {i = i} comes is free kept others) = past_good comes is free (k j _ i kept) (gone_weaker k a after (place + 1) i l o others)
  gone_weaker k a left place j i o (at_lack is) = at_lack is
  gone_weaker k a left place j i o (at_end is) = at_end is

  -- what stays at each entry stays to the end
  pub stays_gone : {N : Type 0} {keeps : J → Entry → J → Type 0} {alike : J → J → Type 0} (name : J → N) → ((j : J) (e : Entry) (i : J) → keeps j e i → name i ≡ name j) → ((j i : J) → alike j i → name i ≡ name j) →
      (left : List (List ℕ)) (place : ℕ) (j i : J) (o : Result Verdict Refusal) → Gone good full whole lacks keeps alike left place j i o → name i ≡ name j
  stays_gone name k a left place j i o (at_bad comes bad same) = a j i same
  stays_gone name k a left place j i o (at_full comes is room same) = a j i same
  stays_gone name k a left place j l o (past_good {after = after} {i = i} comes is free kept others) = stays_gone name k a after (place + 1) i l o others ∙ k j _ i kept
  stays_gone name k a left place j i o (at_lack is) = refl
  stays_gone name k a left place j i o (at_end is) = refl
