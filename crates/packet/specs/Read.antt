-- Document 01, "Packet layout" and refusals 1, 2 and 3, as document 02's Wish 11 amends them: reading a packet. "Callers of the packet reader say which size
-- they mean": the arrival port's, or 500.
use Rattle.std.specs.Prelude.{ℕ, Bool, not, List, [], eqb, ltb, length, drop, get_or, replicate, Result, Ok, Err}
use Rattle.octets.specs.Index.{◌and◌}
use Rattle.octets.specs.Part.{part}
use Rattle.octets.specs.Choice.{◌then◌otherwise◌}
use Rattle.octets.specs.Listed.{Test, ◌gives◌otherwise◌, first_of}
pub use Rattle.numbers.specs.Numbers.{longest_packet}
use Rattle.numbers.specs.Numbers.{is_size}
use Rattle.numbers.specs.Refusals.{number_of}
use Rattle.numbers.specs.declared.refusal.Refusal.{Refusal}
use Rattle.packet.specs.Header.{access_code, type_two}
use Rattle.packet.specs.Places.{address_width, hops_at, address_at, second_address_at, type_one_context_at, type_two_context_at, type_one_start, type_two_start}
use Rattle.packet.specs.declared.Parts.{Parts}

-- byte 0: the header
abbrev pub header_of : List ℕ → ℕ
header_of p = get_or p 0 0

-- sixteen bytes of zeros: what the relay address of type 1 reads as
abbrev pub no_address : List ℕ
no_address = replicate address_width 0

-- bytes 1, 2..17, 18: hops, destination, context
unfoldable pub type_one_parts : List ℕ → Parts
type_one_parts p =
    record {
      header = header_of p;
      hops = get_or p hops_at 0;
      relay = no_address;
      destination = part p address_at address_width;
      context = get_or p type_one_context_at 0;
    }

-- bytes 1, 2..17, 18..33, 34: hops, relay address, destination, context
unfoldable pub type_two_parts : List ℕ → Parts
type_two_parts p =
    record {
      header = header_of p;
      hops = get_or p hops_at 0;
      relay = part p address_at address_width;
      destination = part p second_address_at address_width;
      context = get_or p type_two_context_at 0;
    }

unfoldable pub parts_of : List ℕ → Parts
parts_of p = type_two (header_of p) then type_two_parts p otherwise type_one_parts p

-- where the payload starts, by the header: 35 or 19
unfoldable pub payload_start : ℕ → ℕ
payload_start header = type_two header then type_two_start otherwise type_one_start

-- the payload: all bytes from there on, none where the packet is shorter
unfoldable pub payload : List ℕ → List ℕ
payload p = drop (payload_start (header_of p)) p

-- ---- the refusals of a packet that is read against a size. Wish 11: "9 also for a size outside the range, first in the reader"; then 1, 2, 3, 1, and
-- "refusal 2 means longer than that"
unfoldable pub reading_rows : ℕ → List ℕ → List (Test ℕ)
reading_rows size p =
    not (is_size size) gives 9 otherwise
    ltb (length p) type_one_start gives 1 otherwise
    ltb size (length p) gives 2 otherwise
    access_code (header_of p) gives 3 otherwise
    type_two (header_of p) and ltb (length p) type_two_start gives 1 otherwise
    []

-- the refusal's number, or 0
unfoldable pub reading_refusal : ℕ → List ℕ → ℕ
reading_refusal size p = first_of (reading_rows size p) 0

-- the packet reads
unfoldable pub reads : ℕ → List ℕ → Bool
reads size p = eqb (reading_refusal size p) 0

-- a refused reading gives parts of zeros beside its number
abbrev pub no_parts : Parts
no_parts = record { header = 0; hops = 0; relay = no_address; destination = no_address; context = 0 }

-- a reading: refusal 0 and the parts, or a refusal's number and parts of zeros
pub record Reading : Type 0 where
  pub refusal : ℕ
  pub parts : Parts

abbrev pub read_as : Result Parts Refusal → Reading
read_as (Ok parts) = record { refusal = 0; parts = parts }
read_as (Err refusal) = record { refusal = number_of refusal; parts = no_parts }

unfoldable pub reading : ℕ → List ℕ → Reading
reading size p =
    record { refusal = reading_refusal size p; parts = reads size p then parts_of p otherwise no_parts }
