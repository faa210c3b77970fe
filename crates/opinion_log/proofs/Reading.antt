-- The small laws of reading an entry's bytes.
use Prim.Native.Nat.{ℕ, ◌+◌, ◌%◌, ◌≤◌, ◌<◌, min}
use Rattle.std.proofs.Common.{⊎_elim}
use Rattle.std.proofs.lemmas.Bool.{cases_lt}
use native.Mathlib.Omega.{arith}
use mathlib.Core.List.{List}
use mathlib.Core.Path.{◌≡◌, sym, ap, ◌∙◌}
use lib.ListN.{length, get_or, drop, length-drop, get_or-map}
use lib.Seq.{take_all}
use Rattle.octets.specs.Part.{part}
use Rattle.octets.specs.Bytes.{Bytes}
use Rattle.octets.proofs.Part.{part_length, part_at}
use Rattle.octets.proofs.Bytes.{part_bytes}
use Rattle.octets.proofs.BigEndian.{number_lt}
use Rattle.numbers.specs.Numbers.{clock_limit, port_count, longest_packet}
use Rattle.rules.specs.Renumbering.{image}
use Rattle.rules.proofs.Images.{image_port}
use Rattle.opinion_log.specs.Log.{body_at, entry_width, clock_in, images_in, clock_at, clock_width}

pub clock_small : (e : List ℕ) → Bytes e → length e ≡ entry_width → clock_in e < clock_limit
clock_small e b h = number_lt (part e clock_at clock_width) clock_width (part_bytes e clock_at clock_width b) (part_length e clock_at clock_width (omega arith))

-- a body has no more bytes than the longest packet
pub part_least : (e : List ℕ) (n m : ℕ) → length e ≡ entry_width → m ≡ min n longest_packet → part e body_at m ≡ part e body_at n
unfolding part
part_least e n m h l =
    let few : length (drop body_at e) ≡ longest_packet = length-drop body_at e ∙ omega arith in
    ⊎_elim (λ (k : n < longest_packet). ap (λ (i : ℕ). part e body_at i) (omega arith))
    (λ (k : longest_packet ≤ n). take_all m (drop body_at e) (omega arith) ∙ sym (take_all n (drop body_at e) (omega arith)))
    (cases_lt n longest_packet)

pub image_at : (e : List ℕ) (port : ℕ) → port < port_count → get_or e (body_at + port) 0 % port_count ≡ image (images_in e) port
image_at e port l =
    ap (λ (x : ℕ). x % port_count) (sym (part_at e body_at port_count port l))
    ∙ sym (get_or-map (λ (x : ℕ). x % port_count) (part e body_at port_count) port 0)
    ∙ sym (image_port (images_in e) port l)
