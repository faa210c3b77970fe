-- A port's size, which an edition has as today, or lacks: then it is a fresh port's, whose bytes are put in behind what the file has of a port.
use Prim.Native.Nat.{ℕ, ◌+◌, ◌≤◌, zero-le}
use native.Mathlib.Nat.{le_refl}
use native.Mathlib.Omega.{arith}
use mathlib.Core.List.{List, ◌∷◌, ◌++◌}
use mathlib.Core.Path.{◌≡◌, refl, sym, ap, ◌∙◌}
use lib.Dec.{lit<}
use lib.ListN.{length, drop, length-append, length-drop}
use Rattle.octets.specs.Index.{◌and◌}
use Rattle.octets.specs.Choice.{◌then◌otherwise◌}
use Rattle.octets.specs.Part.{part}
use Rattle.octets.specs.BigEndian.{big_endian}
use Rattle.octets.proofs.BigEndian.{big_endian_length}
use Rattle.codes.specs.Form.{Form, byte, mark, number_in, given, code}
use Rattle.codes.specs.Codes.{mark_of}
use Rattle.codes.proofs.Forms.{lawful}
use Rattle.codes.proofs.Same.{Same}
use Rattle.octets.proofs.Part.{part_front}
use Rattle.recording.proofs.Sums.{part_last}
use Rattle.numbers.specs.Numbers.{longest_packet, is_size}
use Rattle.rules.specs.Relay.{fresh_port}
use Rattle.rules.specs.Refusals.{port_ok}
use Rattle.tables.specs.Forms.{size_width, port_form_of, port_form}
use Rattle.tables.specs.Places.{port_width}
use Rattle.tables.specs.Fields.{port_size_at}
use Rattle.tables.specs.Records.{port_bytes}
use Rattle.editions.proofs.Alike.{Alike, same_alike, given_alike, both_alike, field_alike, that_alike, record_alike}

pub data SizeBrought : Form ℕ → Type 1 where
  size_there : SizeBrought (number_in size_width)
  size_fresh : SizeBrought (given longest_packet)

pub size_within : {s : Form ℕ} → SizeBrought s → (code s).width ≤ size_width
size_within size_there = le_refl size_width
size_within size_fresh = zero-le

fresh_bytes : port_bytes fresh_port ≡ 0 ∷ 0 ∷ big_endian size_width longest_packet
unfolding port_bytes mark_of ◌then◌otherwise◌
fresh_bytes = refl

pub fresh_good : (code port_form).Good fresh_port
unfolding port_ok is_size ◌and◌
fresh_good = ((tt, (lit< tt, lit< tt)), refl)

-- what the file has of a port, and behind it what it lacks
module _ (s : Form ℕ) (b : List ℕ) (long : length b ≡ (code (port_form_of s)).width) where
  abbrev filled : List ℕ
  filled = b ++ drop (code (port_form_of s)).width (port_bytes fresh_port)

  fresh_length : length (port_bytes fresh_port) ≡ port_width
  unfolding port_bytes
  fresh_length = (lawful port_form).wide fresh_port

  pub filled_length : SizeBrought s → length filled ≡ port_width
  filled_length h =
      length-append b (drop (code (port_form_of s)).width (port_bytes fresh_port))
      ∙ ap (λ (k : ℕ). length b + k) (length-drop (code (port_form_of s)).width (port_bytes fresh_port))
      ∙ omega (arith, long, fresh_length, size_within h)

  there : (k n : ℕ) → k + n ≤ (code (port_form_of s)).width → Same n b k filled k
  there k n l = sym (part_front b (drop (code (port_form_of s)).width (port_bytes fresh_port)) k n (omega (arith, long, l)))

filled_size : {s : Form ℕ} → SizeBrought s → (b : List ℕ) (long : length b ≡ (code (port_form_of s)).width)
    → Alike s (number_in size_width) b port_size_at (filled s b long) port_size_at
filled_size size_there b long = same_alike (number_in size_width) (there (number_in size_width) b long port_size_at size_width (le_refl port_width))
filled_size size_fresh b long =
    given_alike longest_packet (number_in size_width) (lit< tt)
    (ap (λ (r : List ℕ). part (b ++ drop port_size_at r) port_size_at size_width) fresh_bytes
    ∙ part_last b (big_endian size_width longest_packet) port_size_at size_width long (big_endian_length size_width longest_packet))

pub filled_alike : {s : Form ℕ} → SizeBrought s → (b : List ℕ) (long : length b ≡ (code (port_form_of s)).width)
    → Alike (port_form_of s) port_form b 0 (filled s b long) 0
filled_alike {s} h b long =
    that_alike (record_alike
    (both_alike (field_alike (same_alike mark (there s b long 0 1 (omega arith))))
    (both_alike (field_alike (same_alike byte (there s b long 1 1 (omega arith)))) (field_alike (filled_size h b long)))))
