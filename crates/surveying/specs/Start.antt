-- Document 02, Wish 14: "each from a fresh relay with the same settings and local addresses". The settings are those of a relay that was saved: of it own
-- address, ports, announce rate and local addresses count, and the rest is fresh.
use Rattle.std.specs.Prelude.{◌≡◌, ℕ, List, [], ◌∷◌, ◌++◌, slice_index_or}
use Rattle.octets.specs.Index.{list_of}
use Rattle.numbers.specs.Numbers.{port_count}
use Rattle.rules.specs.Relay.{Port, no_port, Slot, empty, used, Relay, fresh}
use Rattle.rules.specs.View.{is_local}
use Rattle.rules.specs.Calls.{TableCall, sets_port, sets_rate, adds}
use Rattle.tables.specs.Layout.{bytes_of}
use Rattle.tables.specs.Called.{call_on}

-- ---- the calls that set a fresh relay as another is set
-- a port: on or off, its mode and its size
unfoldable pub port_call : Relay → ℕ → TableCall
port_call r i =
    let port : Port = slice_index_or r.ports i no_port in
    sets_port i port.on port.mode port.size

-- the announce rate
unfoldable pub rate_call : Relay → TableCall
rate_call r = sets_rate r.rate.target r.rate.grace r.rate.penalty

-- the local addresses, from the lowest place on. Of two equal ones, which a saved relay may have, the second is refused
unfoldable pub local_calls : List (Slot (List ℕ)) → List TableCall
local_calls [] = []
local_calls (empty ∷ slots) = local_calls slots
local_calls (used address ∷ slots) = adds address ∷ local_calls slots

unfoldable pub setting_calls : Relay → List TableCall
setting_calls r = list_of (port_call r) port_count ++ (rate_call r ∷ local_calls r.locals)

-- the tables after calls on them, each on what the one before left
unfoldable pub tables_after : List TableCall → List ℕ → List ℕ
tables_after [] tables = tables
tables_after (c ∷ cs) tables = tables_after cs (call_on tables c).tables

-- the tables that every recording is replayed over, each with tally 0
unfoldable pub start_of : Relay → List ℕ
start_of r = tables_after (setting_calls r) (bytes_of (fresh r.own))

-- ---- what these tables hold: own address, ports, announce rate and local addresses of r, and all else of a fresh relay, clock 0 too. The addresses may
-- lie in other places (StartLaws, starts_as)
pub record StartsAs (r start : Relay) : Type 0 where
  pub own : start.own ≡ r.own
  pub ports : start.ports ≡ r.ports
  pub rate : start.rate ≡ r.rate
  pub locals : (address : List ℕ) → is_local start address ≡ is_local r address
  pub clock : start.clock ≡ 0
  pub paths : start.paths ≡ (fresh r.own).paths
  pub links : start.links ≡ (fresh r.own).links
  pub returns : start.returns ≡ (fresh r.own).returns
  pub hashes : start.hashes ≡ (fresh r.own).hashes
