-- Entries, one by one.
use Rattle.std.proofs.Common.{◌≡◌, ℕ, ◌+◌, ◌<◌, List, ◌∷◌, length, get_or, drop, sym, ap, ◌∙◌}
use Rattle.std.proofs.lemmas.List.{drop_more}
use Rattle.recovery.specs.Begun.{entry_bytes}
use Rattle.recovery.specs.EntryCuts.{EntryFits}
use Rattle.recovery.specs.Entries.{Comes}
use Rattle.recovery.specs.declared.entry.Entry.{Entry}

pub comes : (xs : List (List ℕ)) (i : ℕ) (d : List ℕ) (e : Entry) → i < length xs → entry_bytes e ≡ get_or xs i d → EntryFits e → Comes (drop i xs) e (drop (i + 1) xs)
comes xs i d e l p f = record { is = drop_more xs i d l ∙ ap (λ v. v ∷ drop (i + 1) xs) (sym p); fits = f }
