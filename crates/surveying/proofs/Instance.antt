-- The theorems on numbers, recordings and a relay: a fraction; seventeen recordings of which one is refused; a start by a relay that knows a path.
use Rattle.std.proofs.Common.{◌≡◌, ℕ, ◌-◌, ◌≤◌, true, List, [], ◌∷◌, ◌++◌, get_or, set, replicate, refl, ◌∙◌, arith, lit≤}
use Prim.Native.Nat.{◌∣◌}
use Rattle.octets.specs.Index.{◌and◌, all_below}
use Rattle.octets.specs.Choice.{◌then◌otherwise◌, ◌or◌}
use Rattle.octets.specs.Listed.{first_of}
use Rattle.octets.specs.Part.{part, joined}
use Rattle.octets.specs.BigEndian.{number_from, number}
use Rattle.text.specs.Numerals.{numeral_within, numeral}
use Rattle.text.specs.Words.{spaced, words_line}
use Rattle.numbers.specs.Numbers.{path_count, local_count}
use Rattle.rules.specs.Relay.{no_port, empty, used, Relay, with_locals}
use Rattle.rules.specs.View.{is_local}
use Rattle.rules.specs.Refusals.{tables_ok}
use Rattle.rules.proofs.Unfolding.{rules}
use Rattle.rules.proofs.Outcomes.{relay_of as relay_at, known_path}
use Rattle.tables.specs.Places.{address_width}
use Rattle.tables.specs.Layout.{relay_of}
use Rattle.tables.specs.Shape.{is_byte, is_bytes, notes_shaped, path_shaped, shaped}
use Rattle.recording.specs.Shape.{kind_of, edition_of, count_of, sum_below, running_place, offsets_right, end_right}
use Rattle.recording.specs.Reader.{length_wrong, kind_wrong, places_wrong, words_wrong, file_rows, file_refusal}
use Rattle.surveying.specs.Counts.{Answered}
use Rattle.surveying.specs.Fraction.{greatest_up_to, divides_both, greatest_common_divisor, lowest_terms, share}
use Rattle.surveying.specs.Start.{start_of, StartsAs}
use Rattle.surveying.specs.Lines.{recording_line}
use Rattle.surveying.specs.Survey.{recording_limit, read_of, total, refused_lines, last_line, survey}
use Rattle.surveying.proofs.FractionLaws.{lowest_terms_lem}
use Rattle.surveying.proofs.RefusedLaws.{refused_adds_nothing, late_unread}
use Rattle.surveying.proofs.Started.{starts_as}

-- ---- 12 of 18 packets: the greatest common divisor is 6, and the share 2/3, which no other number shortens
pub divisor : greatest_common_divisor 12 18 ≡ 6
unfolding greatest_common_divisor greatest_up_to divides_both ◌and◌ ◌then◌otherwise◌
divisor = refl

pub two_thirds : share 12 18 ≡ record { above = 2; below = 3 }
unfolding share lowest_terms greatest_common_divisor greatest_up_to divides_both ◌and◌ ◌then◌otherwise◌
two_thirds = refl

pub no_shorter : (c : ℕ) → c ∣ 2 → c ∣ 3 → c ≤ 1
unfolding lowest_terms greatest_common_divisor greatest_up_to divides_both ◌and◌ ◌then◌otherwise◌
no_shorter = lowest_terms_lem 12 18 (lit≤ tt)

-- ---- recordings without entries, and one of kind 2
abbrev quiet : List ℕ
quiet = 1 ∷ 1 ∷ 0 ∷ 0 ∷ []

abbrev other : List ℕ
other = 2 ∷ 1 ∷ 0 ∷ 0 ∷ []

quiet_taken : file_refusal quiet ≡ 0
unfolding file_refusal file_rows length_wrong kind_wrong places_wrong words_wrong kind_of edition_of count_of sum_below running_place offsets_right end_right
    number number_from part first_of all_below ◌and◌ ◌or◌ ◌then◌otherwise◌
quiet_taken = refl

other_refused : file_refusal other ≡ 21
unfolding file_refusal file_rows length_wrong kind_wrong places_wrong words_wrong kind_of edition_of count_of sum_below running_place offsets_right end_right
    number number_from part first_of all_below ◌and◌ ◌or◌ ◌then◌otherwise◌
other_refused = refl

abbrev sixteen : List (List ℕ)
sixteen = quiet ∷ other ∷ replicate (recording_limit - 2) quiet

-- `recording 2 refused 21`, `recording 17 refused 29`: the 17th, of kind 2 too, is not read
pub told : refused_lines 1 (read_of (sixteen ++ (other ∷ []))) ++ last_line (sixteen ++ (other ∷ [])) ≡ recording_line 2 21 ++ recording_line 17 29
unfolding refused_lines read_of last_line file_refusal file_rows length_wrong kind_wrong places_wrong words_wrong kind_of edition_of count_of sum_below running_place
    offsets_right end_right number number_from part first_of all_below ◌and◌ ◌or◌ ◌then◌otherwise◌ words_line spaced joined numeral numeral_within
told = refl

pub not_read : (settings : List ℕ) → survey settings (sixteen ++ (other ∷ [])) ≡ survey settings (sixteen ++ (quiet ∷ []))
not_read settings = late_unread settings other quiet sixteen [] [] refl

pub nothing_added : (quantity : Answered → ℕ) (start : List ℕ) → total quantity start (quiet ∷ other ∷ []) ≡ total quantity start (quiet ∷ [])
nothing_added quantity start =
    refused_adds_nothing quantity start (quiet ∷ []) [] other (λ e. let zero : ◌≡◌ {A = ℕ} 0 21 = cc (other_refused) in omega arith) (lit≤ tt)

-- ---- a relay of two ports that holds a path at clock 2,000, and a local address in its fourth place
abbrev guest : List ℕ
guest = replicate address_width 0x0b

abbrev site : Relay
site = with_locals (set (replicate local_count empty) 3 (used guest)) (relay_at 2000 (used known_path ∷ []) [] [] [])

site_shaped : shaped site ≡ true
unfolding rules shaped is_bytes is_byte path_shaped notes_shaped
site_shaped = refl

site_ok : tables_ok site ≡ true
unfolding rules
site_ok = refl

abbrev start : Relay
start = relay_of (start_of site)

starts : StartsAs site start
starts = starts_as site site_shaped site_ok

-- the clock and the path are gone, and the ports and the address are there
pub site_clock : site.clock ≡ 2000
unfolding with_locals
site_clock = refl

pub start_clock : start.clock ≡ 0
start_clock = starts.clock

pub start_paths : start.paths ≡ replicate path_count empty
unfolding rules
start_paths = starts.paths

pub start_port : (get_or start.ports 2 no_port).on ≡ true
unfolding rules
start_port = λ i. (get_or (starts.ports i) 2 no_port).on

pub start_guest : is_local start guest ≡ true
unfolding rules
start_guest = starts.locals guest ∙ refl
