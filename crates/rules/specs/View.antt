-- What judging a packet reads of a relay, at a clock, and nothing else. A record that isn't live counts as no record; of two live records
-- of one key the lower place counts. Cases 6.2 and 6.3 alone read expired records: document 02's Wish 10 has them told apart.
use Rattle.std.specs.Prelude.{ℕ, zero, suc, Bool, not, List, ltb, get_or}
use Rattle.octets.specs.Index.{◌and◌}
use Rattle.octets.specs.Choice.{◌then◌otherwise◌, same}
use Rattle.numbers.specs.Numbers.{port_count, local_count, path_count, link_count, return_count, hash_count, live}
use Rattle.rules.specs.Relay.{no_port, Slot, empty, used, Path, Return, Remembered, Relay, lowest, lowest_free}
use Rattle.rules.specs.Blobs.{greatest}
use Rattle.rules.specs.declared.Link.{Link}
use Rattle.rules.specs.declared.RateSettings.{RateSettings}

-- ---- ports and local addresses
-- one of the sixteen, and on
unfoldable pub port_on : Relay → ℕ → Bool
port_on r port = ltb port port_count and (get_or r.ports port no_port).on

unfoldable pub port_mode : Relay → ℕ → ℕ
port_mode r port = (get_or r.ports port no_port).mode

unfoldable pub port_size : Relay → ℕ → ℕ
port_size r port = (get_or r.ports port no_port).size

-- the lowest place of a local address, or 16
unfoldable pub local_place : Relay → List ℕ → ℕ
local_place r address = lowest (same address) local_count r.locals

unfoldable pub is_local : Relay → List ℕ → Bool
is_local r address = ltb (local_place r address) local_count

-- ---- the live record of a key
unfoldable pub is_live_path : ℕ → List ℕ → Path → Bool
is_live_path clock destination p = same p.destination destination and live clock p.expiry

unfoldable pub is_live_link : ℕ → List ℕ → Link → Bool
is_live_link clock id l = same l.id id and live clock l.expiry

unfoldable pub is_live_return : ℕ → List ℕ → Return → Bool
is_live_return clock key t = same t.key key and live clock t.expiry

unfoldable pub is_live_hash : ℕ → List ℕ → Remembered → Bool
is_live_hash clock hash m = same m.hash hash and live clock m.expiry

-- where the lowest one lies, or the number of places
unfoldable pub path_place : ℕ → Relay → List ℕ → ℕ
path_place clock r destination = lowest (is_live_path clock destination) path_count r.paths

unfoldable pub link_place : ℕ → Relay → List ℕ → ℕ
link_place clock r id = lowest (is_live_link clock id) link_count r.links

unfoldable pub return_place : ℕ → Relay → List ℕ → ℕ
return_place clock r key = lowest (is_live_return clock key) return_count r.returns.slots

unfoldable pub hash_place : ℕ → Relay → List ℕ → ℕ
hash_place clock r hash = lowest (is_live_hash clock hash) hash_count r.hashes.slots

-- the lowest slot empty or expired, or the number of places
unfoldable pub free_path : ℕ → Relay → ℕ
free_path clock r = lowest_free (λ p. live clock p.expiry) path_count r.paths

unfoldable pub free_link : ℕ → Relay → ℕ
free_link clock r = lowest_free (λ l. live clock l.expiry) link_count r.links

-- ---- Wish 10: "only expired path records lying in their slots, with the greatest expiry"
-- a used record of the destination that isn't live
unfoldable pub is_expired_path : ℕ → List ℕ → Path → Bool
is_expired_path clock destination p = same p.destination destination and not (live clock p.expiry)

-- the expiry of a path that passes the test, or none
unfoldable pub expiry_if : (Path → Bool) → Slot Path → Slot ℕ
expiry_if test empty = empty
expiry_if test (used p) = test p then used p.expiry otherwise empty

-- the later of two times, either of which may be none
unfoldable pub later : Slot ℕ → Slot ℕ → Slot ℕ
later empty t = t
later (used s) empty = used s
later (used s) (used t) = used (greatest s t)

-- the latest of the times f 0, f 1, .., f (n - 1), or none
unfoldable pub latest : (ℕ → Slot ℕ) → ℕ → Slot ℕ
latest f zero = empty
latest f (suc n) = later (latest f n) (f n)

-- the greatest expiry of the destination's expired records, or none where there are none
unfoldable pub expired_path : ℕ → Relay → List ℕ → Slot ℕ
expired_path clock r destination = latest (λ i. expiry_if (is_expired_path clock destination) (get_or r.paths i empty)) path_count

-- ---- the view
pub record View : Type 0 where
  pub own : List ℕ
  pub rate : RateSettings
  pub on : ℕ → Bool
  pub mode : ℕ → ℕ
  pub size : ℕ → ℕ
  pub local : List ℕ → Bool
  pub remembered : List ℕ → Bool
  pub path : List ℕ → Slot Path
  pub expired : List ℕ → Slot ℕ
  pub link : List ℕ → Slot Link
  pub return : List ℕ → Slot Return
  pub room_for_path : Bool
  pub room_for_link : Bool

unfoldable pub view_at : ℕ → Relay → View
view_at clock r =
    record {
      own = r.own;
      rate = r.rate;
      on = port_on r;
      mode = port_mode r;
      size = port_size r;
      local = is_local r;
      remembered = λ hash. ltb (hash_place clock r hash) hash_count;
      path = λ destination. get_or r.paths (path_place clock r destination) empty;
      expired = expired_path clock r;
      link = λ id. get_or r.links (link_place clock r id) empty;
      return = λ key. get_or r.returns.slots (return_place clock r key) empty;
      room_for_path = ltb (free_path clock r) path_count;
      room_for_link = ltb (free_link clock r) link_count;
    }
