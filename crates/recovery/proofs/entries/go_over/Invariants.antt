use Rattle.std.proofs.Common.{◌+◌, drop, Result}
use Rattle.rules.specs.declared.refusals.Refusal.{Refusal}
use Rattle.recovery.specs.Entries.{Gone}
use Rattle.recovery.specs.declared.entries.Verdict.{Verdict}
use Rattle.recovery.proofs.entries.go_over.Given as goal

-- What going over the entries that are left gives, going over all of them from the start gives too.
abbrev pub invariant-loop-i : goal.invariant-loop-i
invariant-loop-i g l =
    let k = g.K.Keeper in (j : _) (o : Result Verdict Refusal) → Gone k.good k.full k.whole k.lacks k.keeps k.alike (drop l.i l.records) (l.i + 1) l.keeper j o → Gone k.good k.full k.whole k.lacks k.keeps k.alike l.records 1 l.initial.keeper j o
