-- Records, one by one.
use Rattle.std.proofs.Common.{◌≡◌, ℕ, zero, suc, ◌/◌, List, length, drop, Some, None, Option, refl, ap, ◌∙◌}
use lib.ListN.{length-map}
use Rattle.rules.specs.Forms.{FieldKinds, fields_of_form}
use Rattle.rules.specs.Fits.{wrong_field, wrong_by_form}
use Rattle.headers.specs.declared.record.Record.{Record}
use Rattle.headers.specs.Bytes.{pieces, cut}
use Rattle.headers.specs.Records.{record_in, wrong_in_record}
use Rattle.headers.specs.Header.{records_in}

length_pieces : (size n : ℕ) (b : List ℕ) → length (pieces size n b) ≡ n
length_pieces size zero b = refl
length_pieces size (suc n) b = ap suc (length_pieces size n (drop size b))

pub length_records : (s : List ℕ) → length (records_in s) ≡ length s / 8
length_records s = length-map (cut 8 s) record_in ∙ length_pieces 8 (length s / 8) s

-- the first wrong field of a record, by the form of its letter
module _ (n k r letter : ℕ) (x : Record) (l : letter ≡ x.letter) where
  pub by_form : (kinds : FieldKinds) (wrong : Option ℕ) → Some kinds ≡ fields_of_form letter → wrong ≡ wrong_field n k r kinds x.fields → wrong ≡ wrong_in_record n k r x
  unfolding wrong_in_record
  by_form kinds wrong f w = w ∙ ap (λ (o : Option FieldKinds). wrong_by_form n k r o x.fields) (f ∙ ap fields_of_form l)

  pub no_form : None ≡ fields_of_form letter → Some 0 ≡ wrong_in_record n k r x
  unfolding wrong_in_record
  no_form f = ap (λ (o : Option FieldKinds). wrong_by_form n k r o x.fields) (f ∙ ap fields_of_form l)
