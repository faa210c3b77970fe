-- Document 01, "Packet layout": the bits of the header byte (003).
use Rattle.std.specs.Prelude.{ℕ, ◌/◌, ◌%◌, Bool, eqb}

-- bit 7: access code
unfoldable pub access_code : ℕ → Bool
access_code header = eqb (header / 128 % 2) 1

-- bit 6: type 2
unfoldable pub type_two : ℕ → Bool
type_two header = eqb (header / 64 % 2) 1

-- bit 5: context flag
unfoldable pub context_flag : ℕ → Bool
context_flag header = eqb (header / 32 % 2) 1

-- bit 4: transport
unfoldable pub transport : ℕ → Bool
transport header = eqb (header / 16 % 2) 1

-- bits 3-2: destination kind (0 single, 1 group, 2 plain, 3 link)
unfoldable pub destination_kind : ℕ → ℕ
destination_kind header = header / 4 % 4

abbrev pub of_kind_single : ℕ → Bool
of_kind_single header = eqb (destination_kind header) 0

abbrev pub of_kind_link : ℕ → Bool
of_kind_link header = eqb (destination_kind header) 3

-- bits 1-0: packet kind (0 data, 1 announce, 2 link request, 3 proof)
unfoldable pub packet_kind : ℕ → ℕ
packet_kind header = header % 4

abbrev pub is_data : ℕ → Bool
is_data header = eqb (packet_kind header) 0

abbrev pub is_announce : ℕ → Bool
is_announce header = eqb (packet_kind header) 1

abbrev pub is_link_request : ℕ → Bool
is_link_request header = eqb (packet_kind header) 2

abbrev pub is_proof : ℕ → Bool
is_proof header = eqb (packet_kind header) 3
