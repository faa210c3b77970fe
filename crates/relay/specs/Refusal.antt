-- A packet call's refusal, on the bytes that its caller lends.
-- For the contracts of helpers: not part of what a reader must believe.
use Rattle.std.specs.Prelude.{◌≡◌, ℕ, Bool, List}
use Rattle.octets.specs.Choice.{◌then◌otherwise◌}
use Rattle.rules.specs.Refusals.{refusal_by}
use Rattle.tables.specs.Layout.{relay_of, well_formed}
use Rattle.plan.specs.declared.Arrived.{Arrived}

-- 7 6 4 5 1 2 3 1, or 0, with an output of `room` bytes
unfoldable pub packet_refusal_on : List ℕ → ℕ → ℕ → List ℕ → ℕ → ℕ
packet_refusal_on packet port clock t room =
    well_formed t
    then refusal_by (relay_of t) packet port clock room
    otherwise 7

-- no refusal: the packet came as m says
pub record Accepts (packet : List ℕ) (arrival now : ℕ) (word : Bool) (t : List ℕ) (room : ℕ) (m : Arrived) : Type 0 where
  pub none : packet_refusal_on packet arrival now t room ≡ 0
  pub port : m.port ≡ arrival
  pub clock : m.clock ≡ now
  pub signed : m.signed ≡ word
