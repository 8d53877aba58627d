use Rattle.std.proofs.Common.{◌≡◌, ◌≤◌, ◌++◌, length, take, drop}
use Rattle.headers.proofs.Copying.{given_by}
use Rattle.headers.proofs.statements.copy_statements.Given as goal

abbrev pub invariant-loop-bytes : goal.invariant-loop-bytes
invariant-loop-bytes l =
    let all = given_by l.records in
    (drop l.count all ≡ given_by (drop l.bytes-index l.records))
    × (l.count ≤ length all)
    × (l.count ≤ length l.initial.memory)
    × (l.memory ≡ take l.count all ++ drop l.count l.initial.memory)
