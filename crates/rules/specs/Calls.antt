-- The calls: what each answers, and the relay, tally and output after it. A refusal changes nothing.
use Rattle.std.specs.Prelude.{ℕ, ◌+◌, ◌%◌, ◌^◌, Bool, false, not, List, [], ◌∷◌, eqb, leb, length, set}
use Rattle.octets.specs.Choice.{◌then◌otherwise◌, ◌or◌}
use Rattle.octets.specs.Listed.{Test, ◌gives◌otherwise◌, first_of}
use Rattle.numbers.specs.Numbers.{port_count, local_count, mode_count, is_size}
use Rattle.rules.specs.Relay.{empty, used, make_port, make_rate_settings, Relay, with_clock, with_rate, with_ports, with_locals}
use Rattle.rules.specs.View.{View, view_at, is_local, local_place}
use Rattle.rules.specs.Renumbering.{image, one_to_one, renumbered}
use Rattle.rules.specs.Refusals.{rate_settings_ok, tables_ok, clock_bad, packet_refusal, empty_local}
use Rattle.rules.specs.Arrival.{Arrival}
use Rattle.rules.specs.Tests.{is_there}
use Rattle.rules.specs.Judging.{Plan, plan, verdict, output_after}
use Rattle.rules.specs.Writes.{note_path, enact}
use Rattle.rules.specs.declared.Verdict.{Verdict}
use Rattle.rules.specs.declared.Verdict.TheVariants.{Drop, Deliver, Forward, Spread, Kept}
use Rattle.rules.specs.declared.Answer.{Answer}
use Rattle.rules.specs.declared.Answer.TheVariants.{Refused, Judged}
use Rattle.rules.specs.declared.Tally.{Tally}
use Rattle.notes.specs.declared.Note.{Note}
use Rattle.notes.specs.declared.Note.TheVariants.{Unresponsive}

-- ---- the tally: total and the five answers, each modulo 2^32
unfoldable pub new_tally : Tally
new_tally = record { total = 0; dropped = 0; delivered = 0; forwarded = 0; spread = 0; kept = 0 }

-- one more, modulo 2^32
unfoldable pub up : ℕ → ℕ
up counter = (counter + 1) % 2 ^ 32

unfoldable pub counted : Verdict → Tally → Tally
counted (Drop reason) t =
    record { total = up t.total; dropped = up t.dropped; delivered = t.delivered; forwarded = t.forwarded; spread = t.spread; kept = t.kept }
counted Deliver t =
    record { total = up t.total; dropped = t.dropped; delivered = up t.delivered; forwarded = t.forwarded; spread = t.spread; kept = t.kept }
counted (Forward port length) t =
    record { total = up t.total; dropped = t.dropped; delivered = t.delivered; forwarded = up t.forwarded; spread = t.spread; kept = t.kept }
counted (Spread ports length) t =
    record { total = up t.total; dropped = t.dropped; delivered = t.delivered; forwarded = t.forwarded; spread = up t.spread; kept = t.kept }
counted Kept t =
    record { total = up t.total; dropped = t.dropped; delivered = t.delivered; forwarded = t.forwarded; spread = t.spread; kept = up t.kept }

-- ---- a packet
pub record Judgement : Type 0 where
  pub answer : Answer
  pub relay : Relay
  pub tally : Tally
  pub output : List ℕ

-- an accepted packet is judged by what the relay shows at the packet's clock
unfoldable pub judged : Arrival → Plan → View → Relay → Tally → List ℕ → Judgement
judged a todo v r t output =
    record {
      answer = Judged (verdict v a todo);
      relay = enact v a todo r;
      tally = counted (verdict v a todo) t;
      output = output_after v a todo output;
    }

unfoldable pub judge : Arrival → Relay → Tally → List ℕ → Judgement
judge a r t output = judged a (plan (view_at a.clock r) a) (view_at a.clock r) r t output

unfoldable pub packet_call : Arrival → Relay → Tally → List ℕ → Judgement
packet_call a r t output =
    eqb (packet_refusal r a (length output)) 0
    then judge a r t output
    otherwise record { answer = Refused (packet_refusal r a (length output)); relay = r; tally = t; output = output }

-- ---- the other calls return a refusal's number alone, or 0
pub record Setting : Type 0 where
  pub refusal : ℕ
  pub relay : Relay

unfoldable pub settled : ℕ → Relay → Relay → Setting
settled refusal before after = record { refusal = refusal; relay = eqb refusal 0 then after otherwise before }

-- ---- what each call on the tables is
pub data TableCall : Type 0 where
  sets_port : (port : ℕ) (on : Bool) (mode size : ℕ) → TableCall
  sets_rate : (target grace penalty : ℕ) → TableCall
  adds : (address : List ℕ) → TableCall
  removes : (address : List ℕ) → TableCall
  renumbers : (images : List ℕ) → TableCall
  notes_path : (note : Note) (destination : List ℕ) (clock : ℕ) → TableCall

-- wish 6: "Let the host mark a destination's live path unresponsive."
abbrev pub marks : List ℕ → ℕ → TableCall
marks destination clock = notes_path Unresponsive destination clock

pub record TableRule : Type 0 where
  -- the rows below row 7
  pub rows : Relay → List (Test ℕ)
  -- the relay after it, where no row refuses
  pub after : Relay → Relay
  -- the same call with its ports by their new numbers; a map stays as given
  pub renamed : List ℕ → TableCall
  -- the addresses that it is given
  pub addresses : List (List ℕ)
  -- whether it may renumber
  pub moves_ports : Bool

unfoldable pub rule_of : TableCall → TableRule
-- setting a port on or off, its mode and its size: 9; wish 11: "9 also for a size outside the range"
rule_of (sets_port port on mode size) =
    record {
      rows = λ r. leb port_count port or leb mode_count mode or not (is_size size) gives 9 otherwise [];
      after = λ r. with_ports (set r.ports port (make_port on mode size)) r;
      renamed = λ m. sets_port (image m port) on mode size;
      addresses = [];
      moves_ports = false;
    }
-- wish 5, setting target interval, grace and penalty: "9 also for settings over these"
rule_of (sets_rate target grace penalty) =
    record {
      rows = λ r. not (rate_settings_ok (make_rate_settings target grace penalty)) gives 9 otherwise [];
      after = λ r. with_rate (make_rate_settings target grace penalty) r;
      renamed = λ m. sets_rate target grace penalty;
      addresses = [];
      moves_ports = false;
    }
-- a new local address goes in the lowest empty place: 11, 10 (11 before 10)
rule_of (adds address) =
    record {
      rows = λ r. is_local r address gives 11 otherwise leb local_count (empty_local r) gives 10 otherwise [];
      after = λ r. with_locals (set r.locals (empty_local r) (used address)) r;
      renamed = λ m. adds address;
      addresses = address ∷ [];
      moves_ports = false;
    }
-- removing one empties its place: 11
rule_of (removes address) =
    record {
      rows = λ r. not (is_local r address) gives 11 otherwise [];
      after = λ r. with_locals (set r.locals (local_place r address) empty) r;
      renamed = λ m. removes address;
      addresses = address ∷ [];
      moves_ports = false;
    }
-- renumbering: 8
rule_of (renumbers images) =
    record {
      rows = λ r. not (one_to_one images) gives 8 otherwise [];
      after = λ r. renumbered images r;
      renamed = λ m. renumbers images;
      addresses = [];
      moves_ports = one_to_one images;
    }
-- wish 6, marking a destination's live path unresponsive: 5, and "12, marking with no live path, after 5". "An accepted mark sets the last clock."
rule_of (notes_path note destination clock) =
    record {
      rows = λ r. clock_bad r clock gives 5 otherwise not (is_there ((view_at clock r).path destination)) gives 12 otherwise [];
      after = λ r. with_clock clock (note_path note destination clock r);
      renamed = λ m. notes_path note destination clock;
      addresses = destination ∷ [];
      moves_ports = false;
    }

-- row 7 comes first
unfoldable pub table_refusal : TableCall → Relay → ℕ
table_refusal c r = first_of (not (tables_ok r) gives 7 otherwise (rule_of c).rows r) 0

unfoldable pub settle : TableCall → Relay → Setting
settle c r = settled (table_refusal c r) r ((rule_of c).after r)
