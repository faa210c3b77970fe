-- The refusals' numbers.
use Rattle.std.specs.Prelude.{ℕ, Result, Ok, Err}
use Rattle.numbers.specs.declared.refusal.Refusal.{Refusal}
use Rattle.numbers.specs.declared.refusal.Refusal.TheVariants.{TooShort, TooLong, AccessCode, ArrivalPort, Clock, Output, Tables, Map, Setting, LocalFull, LocalAddress, NoLivePath, FileLength, FileKind, FilePlace, SignatureWord, FileBody, Room, AnnouncePart, AnnounceTooLong, ListFull, SurveyFull}

abbrev pub number_of : Refusal → ℕ
number_of TooShort = 1
number_of TooLong = 2
number_of AccessCode = 3
number_of ArrivalPort = 4
number_of Clock = 5
number_of Output = 6
number_of Tables = 7
number_of Map = 8
number_of Setting = 9
number_of LocalFull = 10
number_of LocalAddress = 11
number_of NoLivePath = 12
number_of FileLength = 20
number_of FileKind = 21
number_of FilePlace = 22
number_of SignatureWord = 23
number_of FileBody = 24
number_of Room = 25
number_of AnnouncePart = 26
number_of AnnounceTooLong = 27
number_of ListFull = 28
number_of SurveyFull = 29

-- of what a call returns: the refusal's number, or 0
abbrev pub refused_number : {A : Type 0} → Result A Refusal → ℕ
refused_number (Ok x) = 0
refused_number (Err refusal) = number_of refusal

-- a writing: refusal 0 and the length, or a refusal's number and 0
pub record Written : Type 0 where
  pub refusal : ℕ
  pub length : ℕ

abbrev pub written_as : Result ℕ Refusal → Written
written_as (Ok length) = record { refusal = 0; length = length }
written_as (Err refusal) = record { refusal = number_of refusal; length = 0 }
