use Rattle.std.proofs.Common.{◌≡◌, drop}
use Rattle.headers.specs.Bytes.{all}
use Rattle.headers.specs.Records.{is_record}
use Rattle.headers.proofs.statements.are_records.Given as goal

abbrev pub invariant-loop-bytes : goal.invariant-loop-bytes
invariant-loop-bytes l = all is_record l.records ≡ all is_record (drop l.bytes-index l.records)
