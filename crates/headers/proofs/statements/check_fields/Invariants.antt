use Rattle.std.proofs.Common.{◌≡◌, map, drop}
use Rattle.headers.specs.Records.{record_in, records_refusal}
use Rattle.headers.proofs.statements.check_fields.Given as goal

abbrev pub invariant-loop-place : goal.invariant-loop-place
invariant-loop-place l =
    let refused = records_refusal l.counts.individuals l.counts.classes l.counts.roles in
    refused 0 (map record_in l.records) ≡ refused l.place (map record_in (drop l.place l.records))
