use Rattle.std.proofs.Common.{◌≡◌, ◌+◌, ◌≤◌, length}
use Rattle.headers.specs.Names.{are_names, lines}
use Rattle.headers.proofs.names.count_names.Given as goal

abbrev pub invariant-loop-one : goal.invariant-loop-one
invariant-loop-one l = (are_names l.part ≡ are_names l.rest) × (length (lines l.part) ≡ l.n + length (lines l.rest)) × (l.n + length l.rest ≤ length l.part)

abbrev pub decreases-loop-one : goal.decreases-loop-one
decreases-loop-one l = length l.rest
