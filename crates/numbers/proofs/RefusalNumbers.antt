-- A refusal's number is none: 0 is a call that was not refused.
use Rattle.std.proofs.Common.{◌≡◌}
use Rattle.numbers.specs.declared.refusal.Refusal.{Refusal}
use Rattle.numbers.specs.declared.refusal.Refusal.TheVariants.{TooShort, TooLong, AccessCode, ArrivalPort, Clock, Output, Tables, Map, Setting, LocalFull, LocalAddress, NoLivePath, FileLength, FileKind, FilePlace, SignatureWord, FileBody, Room, AnnouncePart, AnnounceTooLong, ListFull, SurveyFull}
use Rattle.numbers.specs.Refusals.{number_of}

pub some_number : (r : Refusal) → number_of r ≡ 0 → ⊥
some_number TooShort e = cc
some_number TooLong e = cc
some_number AccessCode e = cc
some_number ArrivalPort e = cc
some_number Clock e = cc
some_number Output e = cc
some_number Tables e = cc
some_number Map e = cc
some_number Setting e = cc
some_number LocalFull e = cc
some_number LocalAddress e = cc
some_number NoLivePath e = cc
some_number FileLength e = cc
some_number FileKind e = cc
some_number FilePlace e = cc
some_number SignatureWord e = cc
some_number FileBody e = cc
some_number Room e = cc
some_number AnnouncePart e = cc
some_number AnnounceTooLong e = cc
some_number ListFull e = cc
some_number SurveyFull e = cc
