-- Every form is lawful.
use Rattle.codes.specs.Form.{Form, byte, mark, number_in, octets_in, given, field, ◌&◌, many, firsts_of, slot, that, as_record, code}
use Rattle.codes.proofs.Law.{Lawful}
use Rattle.codes.proofs.Single.{byte_lawful, mark_lawful, number_lawful, octets_lawful, given_lawful}
use Rattle.codes.proofs.Joint.{both_lawful, that_lawful, as_lawful}
use Rattle.codes.proofs.Many.{many_lawful}
use Rattle.codes.proofs.First.{first_lawful}
use Rattle.codes.proofs.Slots.{slot_lawful}

pub lawful : {A : Type 0} (f : Form A) → Lawful (code f)
lawful byte = byte_lawful
lawful mark = mark_lawful
lawful (number_in n) = number_lawful n
lawful (octets_in n) = octets_lawful n
lawful (given v) = given_lawful v
lawful (field name f) = lawful f
lawful (f & g) = both_lawful (lawful f) (lawful g)
lawful (many n spare f) = many_lawful n spare (lawful f)
lawful (firsts_of m n l spare f) = first_lawful m n l spare (code f) (lawful f)
lawful (slot f) = slot_lawful (lawful f)
lawful (that rule f) = that_lawful rule (lawful f)
lawful (as_record to from same there f) = as_lawful to from (lawful f) same there
