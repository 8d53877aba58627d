use Rattle.std.proofs.Common.{◌≡◌, take}
use Rattle.headers.specs.Bytes.{joined}
use Rattle.headers.specs.Records.{record_bytes}
use Rattle.headers.specs.Output.{laid}
use Rattle.headers.proofs.output.put_records.Given as goal

abbrev pub invariant-loop-i : goal.invariant-loop-i
invariant-loop-i l = l.out ≡ laid l.initial.out l.at (joined record_bytes (take l.i l.statements))
