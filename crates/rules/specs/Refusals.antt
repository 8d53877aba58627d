-- The refusals. People are told a refusal by its number and the layer where it arises; with them come a place (a line, a
-- part of a file, or the place of a statement) and a word or field, both 0 where there is none.
use Rattle.std.specs.Prelude.{ℕ}
use Rattle.rules.specs.declared.refusals.Reason.{Reason}
use Rattle.rules.specs.declared.refusals.Reason.TheVariants as r
use Rattle.rules.specs.declared.refusals.Layer.{Layer}
use Rattle.rules.specs.declared.refusals.Layer.TheVariants as l
use Rattle.rules.specs.declared.refusals.Refusal.{Refusal}

abbrev pub number_of : Reason → ℕ
number_of r.ImproperLine = 1
number_of r.UnknownLetter = 2
number_of r.WrongWordCount = 3
number_of r.NotAName = 4
number_of r.DeclaredBefore = 5
number_of r.NotDeclared = 6
number_of r.WrongField = 7
number_of r.CountOutOfLimits = 8
number_of r.NotAdmissible = 9
number_of r.NoSuchPlace = 10
number_of r.NotReady = 11
number_of r.NoSuchNumber = 12
number_of r.WrongDirectory = 13
number_of r.WrongContent = 14
number_of r.StoreTooSmall = 15
number_of r.OutputTooShort = 16
number_of r.OtherDeclarations = 17

abbrev pub layer_of : Reason → Layer
layer_of r.ImproperLine = l.Line
layer_of r.UnknownLetter = l.Line
layer_of r.WrongWordCount = l.Line
layer_of r.NotAName = l.Line
layer_of r.DeclaredBefore = l.Line
layer_of r.NotDeclared = l.Line
layer_of r.WrongField = l.Statement
layer_of r.CountOutOfLimits = l.Book
layer_of r.NotAdmissible = l.Book
layer_of r.NoSuchPlace = l.Book
layer_of r.NotReady = l.Book
layer_of r.NoSuchNumber = l.Book
layer_of r.WrongDirectory = l.File
layer_of r.WrongContent = l.File
layer_of r.StoreTooSmall = l.Store
layer_of r.OutputTooShort = l.Output
layer_of r.OtherDeclarations = l.File

-- A refusal for a reason, with a place and a word or field.
abbrev pub refusal : Reason → ℕ → ℕ → Refusal
refusal reason place item = record { reason = reason; place = place; item = item }
