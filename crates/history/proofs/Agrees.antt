-- What is known from a list of calls agrees with a relay's tables: table by table, each key's newest record is what is found under it, from a clock on. And
-- each call has taken at most one slot of a table and one place of a ring, so that while under 64 are listed there is room, and no ring has turned.
use Prim.Native.Nat.{ℕ, suc, ◌≤◌, ◌<◌}
use native.Mathlib.Decide.{dec_lt}
use native.Mathlib.Nat.{le_refl}
use native.Mathlib.Omega.{arith}
use mathlib.Core.Bool.{Bool, true, false}
use mathlib.Core.List.{List}
use mathlib.Core.Path.{◌≡◌, refl, sym, ap, ◌∙◌}
use lib.Dec.{eqb, ltb}
use lib.ListN.{length, get_or, replicate, get_or-replicate, length-replicate, get_or-eq_default}
use borrow.Author.Tests.{lt-ltb, le-ltb, ltb-true}
use Rattle.octets.specs.Index.{◌and◌}
use Rattle.octets.specs.Choice.{◌then◌otherwise◌, same}
use Rattle.octets.proofs.Index.{and_no, and_yes, first_cong}
use Rattle.octets.proofs.Choice.{then_false, same_sym}
use Rattle.numbers.specs.Numbers.{port_count, local_count, path_count, link_count, return_count, hash_count, live}
use Rattle.rules.specs.Relay.{Port, fresh_port, no_port, fresh, Slot, empty, used, make_remembered, Path, Return, Remembered, Ring, Relay, holds, lowest, with_clock, with_rate, with_ports, with_locals, with_paths, with_links, with_returns, with_hashes}
use Rattle.rules.specs.View.{view_at, port_on, port_mode, port_size, is_local, local_place, is_live_path, is_live_link, is_live_return, is_live_hash, path_place, link_place, return_place, hash_place, free_path, free_link}
use Rattle.rules.specs.Refusals.{port_ok}
use Rattle.rules.specs.Tests.{is_there}
use Rattle.rules.specs.declared.Link.{Link}
use Rattle.rules.specs.declared.RateSettings.{RateSettings}
use Rattle.rules.proofs.Tables.{table_length}
use Rattle.rules.proofs.Valid.{Valid}
use Rattle.history.specs.Known.{Known, fresh_known, only_if, seen_at, now_under, now_path, now_link, now_return, now_until, now_clock, now_rate, now_port, now_local}
use Rattle.history.specs.Opinion.{list_limit}
use Rattle.history.proofs.Looking.{Kind, of_key, Tells, tells_fresh, found_there}
use Rattle.history.proofs.Taken.{taken, taken_fresh, room, unturned_fresh}
use Rattle.history.proofs.Holding.{InTable, InRing, table_later, ring_later, table_more, ring_more}
use Rattle.history.proofs.Coarse.{unexpired}

-- ---- the tables
abbrev expiring : {A : Type 0} → (A → List ℕ) → (A → ℕ) → ℕ → Kind A
expiring key expiry count =
    record {
      key = key;
      alive = λ clock x. live clock (expiry x);
      count = count;
      fades = λ now clock l x h. let m : clock < expiry x = ltb-true _ _ h in lt-ltb now (expiry x) (omega arith);
    }

abbrev pub path_kind : Kind Path
path_kind = expiring (λ p. p.destination) (λ p. p.expiry) path_count

abbrev pub link_kind : Kind Link
link_kind = expiring (λ l. l.id) (λ l. l.expiry) link_count

abbrev pub return_kind : Kind Return
return_kind = expiring (λ t. t.key) (λ t. t.expiry) return_count

abbrev pub hash_kind : Kind Remembered
hash_kind = expiring (λ m. m.hash) (λ m. m.expiry) hash_count

-- a local address never ends
abbrev pub local_kind : Kind (List ℕ)
local_kind = record { key = λ x. x; alive = λ clock x. true; count = local_count; fades = λ now clock l x h. h }

-- what is known of hashes and local addresses, as their tables would hold it
abbrev pub hashes_of : (List ℕ → ℕ) → List ℕ → Slot Remembered
hashes_of until hash = used (make_remembered hash (until hash))

abbrev pub locals_of : (List ℕ → Bool) → List ℕ → Slot (List ℕ)
locals_of local address = local address then used address otherwise empty

-- all are counted
pub record AmongLocals (slots : List (Slot (List ℕ))) (local : List ℕ → Bool) (count : ℕ) : Type 0 where
  pub tells : Tells local_kind 0 slots (locals_of local)
  pub counted : taken slots ≡ count

pub record Agrees (now n : ℕ) (k : Known) (r : Relay) : Type 0 where
  pub own : r.own ≡ k.own
  pub clock : r.clock ≡ k.clock
  pub rate : r.rate ≡ k.rate
  pub ports : (port : ℕ) → get_or r.ports port no_port ≡ k.port port
  pub locals : AmongLocals r.locals k.local k.locals
  pub paths : InTable path_kind now n r.paths k.path
  pub links : InTable link_kind now n r.links k.link
  pub returns : InRing return_kind now n r.returns k.return
  pub hashes : InRing hash_kind now n r.hashes (hashes_of k.until)

-- ---- whether a record counts
only_there : {A : Type 0} (test : A → Bool) (x : A) → is_there (only_if test (used x)) ≡ test x
unfolding only_if is_there ◌then◌otherwise◌
only_there test x = go (test x)
  where
    go : (b : Bool) → is_there (b then used x otherwise empty) ≡ b
    go true = refl
    go false = refl

local_there : (local : Bool) (address : List ℕ) → is_there (only_if (local_kind.alive 0) (local then used address otherwise empty)) ≡ local
unfolding only_if is_there ◌then◌otherwise◌
local_there true address = refl
local_there false address = refl

-- the rules compare the other way round
pub local_test : (address : List ℕ) (s : Slot (List ℕ)) → holds (same address) s ≡ holds (of_key local_kind 0 address) s
unfolding holds ◌and◌
local_test address empty = refl
local_test address (used x) = same_sym address x ∙ go (same x address)
  where
    go : (b : Bool) → b ≡ (b and true)
    go true = refl
    go false = refl

module _ {now n : ℕ} {k : Known} {r : Relay} (h : Agrees now n k r) where
  pub agrees_later : {later : ℕ} → now ≤ later → Agrees later n k r
  agrees_later l =
      record {
        own = h.own;
        clock = h.clock;
        rate = h.rate;
        ports = h.ports;
        locals = h.locals;
        paths = table_later l h.paths;
        links = table_later l h.links;
        returns = ring_later l h.returns;
        hashes = ring_later l h.hashes;
      }

  pub agrees_more : Agrees now (suc n) k r
  agrees_more =
      record {
        own = h.own;
        clock = h.clock;
        rate = h.rate;
        ports = h.ports;
        locals = h.locals;
        paths = table_more h.paths;
        links = table_more h.links;
        returns = ring_more h.returns;
        hashes = ring_more h.hashes;
      }

  -- ---- what is read of both is the same, while under 64 calls are listed
  module _ (valid : Valid r) where
    pub sixteen : length r.ports ≡ port_count
    sixteen = table_length port_ok port_count r.ports valid.ports

    pub on_agrees : (port : ℕ) → port_on r port ≡ (k.port port).on
    unfolding port_on
    on_agrees port = go (dec_lt port port_count)
      where
        go : Dec (port < port_count) → (ltb port port_count and (get_or r.ports port no_port).on) ≡ (k.port port).on
        go (yes l) = and_yes _ (lt-ltb port port_count l) ∙ ap (λ (p : Port). p.on) (h.ports port)
        go (no l) =
            and_no _ (le-ltb port port_count (omega arith))
            ∙ ap (λ (p : Port). p.on) (sym (get_or-eq_default r.ports no_port {n = port} (omega (arith, sixteen))) ∙ h.ports port)

  pub local_agrees : (address : List ℕ) → is_local r address ≡ k.local address
  unfolding is_local local_place lowest
  local_agrees address =
      ap (λ (i : ℕ). ltb i local_count) (first_cong _ _ local_count (λ i l. local_test address (get_or r.locals i empty)))
      ∙ found_there (of_key local_kind 0 address) local_count r.locals h.locals.tells.size
      ∙ ap is_there (h.locals.tells.told 0 (le_refl 0) address)
      ∙ local_there (k.local address) address

  hash_agrees : (clock : ℕ) → now ≤ clock → (hash : List ℕ) → (view_at clock r).remembered hash ≡ live clock (k.until hash)
  unfolding view_at hash_place is_live_hash
  hash_agrees clock m hash =
      found_there (of_key hash_kind clock hash) hash_count r.hashes.slots h.hashes.tells.size
      ∙ ap is_there (h.hashes.tells.told clock m hash)
      ∙ only_there (hash_kind.alive clock) (make_remembered hash (k.until hash))

  module _ (valid : Valid r) (under : n < list_limit) where
    path_room : (clock : ℕ) → ltb (free_path clock r) path_count ≡ true
    unfolding free_path
    path_room clock = lt-ltb _ _ (room _ path_count r.paths h.paths.tells.size (omega (arith, h.paths.few)))

    link_room : (clock : ℕ) → ltb (free_link clock r) link_count ≡ true
    unfolding free_link
    link_room clock = lt-ltb _ _ (room _ link_count r.links h.links.tells.size (omega (arith, h.links.few)))

    pub seen_agrees : (clock : ℕ) → now ≤ clock → unexpired (view_at clock r) ≡ seen_at clock k
    unfolding unexpired view_at seen_at port_mode port_size path_place link_place return_place is_live_path is_live_link is_live_return
    seen_agrees clock m = λ i.
        record {
          own = h.own i;
          rate = h.rate i;
          on = λ port. on_agrees valid port i;
          mode = λ port. (h.ports port i).mode;
          size = λ port. (h.ports port i).size;
          local = λ address. local_agrees address i;
          remembered = λ hash. hash_agrees clock m hash i;
          path = λ destination. h.paths.tells.told clock m destination i;
          expired = λ destination. empty;
          link = λ id. h.links.tells.told clock m id i;
          return = λ key. h.returns.tells.told clock m key i;
          room_for_path = path_room clock i;
          room_for_link = link_room clock i;
        }

-- ---- one thing known anew, and one part of the relay written
pub agree : {now n : ℕ} {k : Known} {r : Relay} → r.own ≡ k.own → r.clock ≡ k.clock → r.rate ≡ k.rate
    → ((port : ℕ) → get_or r.ports port no_port ≡ k.port port) → AmongLocals r.locals k.local k.locals
    → InTable path_kind now n r.paths k.path → InTable link_kind now n r.links k.link → InRing return_kind now n r.returns k.return
    → InRing hash_kind now n r.hashes (hashes_of k.until) → Agrees now n k r
agree own clock rate ports locals paths links returns hashes =
    record {
      own = own;
      clock = clock;
      rate = rate;
      ports = ports;
      locals = locals;
      paths = paths;
      links = links;
      returns = returns;
      hashes = hashes;
    }

module _ {now n : ℕ} {k : Known} {r : Relay} (h : Agrees now n k r) where
  pub paths_agree : (d : List ℕ) (s : Slot Path) {paths : List (Slot Path)} → InTable path_kind now n paths (now_under d s k.path)
      → Agrees now n (now_path d s k) (with_paths paths r)
  unfolding now_path with_paths
  paths_agree d s t = agree h.own h.clock h.rate h.ports h.locals t h.links h.returns h.hashes

  pub links_agree : (d : List ℕ) (s : Slot Link) {links : List (Slot Link)} → InTable link_kind now n links (now_under d s k.link)
      → Agrees now n (now_link d s k) (with_links links r)
  unfolding now_link with_links
  links_agree d s t = agree h.own h.clock h.rate h.ports h.locals h.paths t h.returns h.hashes

  pub returns_agree : (d : List ℕ) (s : Slot Return) {returns : Ring Return} → InRing return_kind now n returns (now_under d s k.return)
      → Agrees now n (now_return d s k) (with_returns returns r)
  unfolding now_return with_returns
  returns_agree d s t = agree h.own h.clock h.rate h.ports h.locals h.paths h.links t h.hashes

  pub hashes_agree : (d : List ℕ) (time : ℕ) {hashes : Ring Remembered} → InRing hash_kind now n hashes (hashes_of (now_under d time k.until))
      → Agrees now n (now_until d time k) (with_hashes hashes r)
  unfolding now_until with_hashes
  hashes_agree d time t = agree h.own h.clock h.rate h.ports h.locals h.paths h.links h.returns t

  pub clock_agrees : (clock : ℕ) → Agrees now n (now_clock clock k) (with_clock clock r)
  unfolding now_clock with_clock
  clock_agrees clock = agree h.own refl h.rate h.ports h.locals h.paths h.links h.returns h.hashes

  pub rate_agrees : (rate : RateSettings) → Agrees now n (now_rate rate k) (with_rate rate r)
  unfolding now_rate with_rate
  rate_agrees rate = agree h.own h.clock refl h.ports h.locals h.paths h.links h.returns h.hashes

  pub port_agrees : (port : ℕ) (new : Port) (ports : List Port) → ((p : ℕ) → get_or ports p no_port ≡ (eqb p port then new otherwise k.port p))
      → Agrees now n (now_port port new k) (with_ports ports r)
  unfolding now_port with_ports
  port_agrees port new ports t = agree h.own h.clock h.rate t h.locals h.paths h.links h.returns h.hashes

  pub locals_agree : (address : List ℕ) (new : Bool) {count : ℕ} {locals : List (Slot (List ℕ))} → AmongLocals locals (now_under address new k.local) count
      → Agrees now n (now_local address new count k) (with_locals locals r)
  unfolding now_local with_locals
  locals_agree address new t = agree h.own h.clock h.rate h.ports t h.paths h.links h.returns h.hashes

-- ---- a fresh relay
all_off : (n i : ℕ) → get_or (replicate n fresh_port) i no_port ≡ fresh_port
all_off n i = go (dec_lt i n)
  where
    go : Dec (i < n) → get_or (replicate n fresh_port) i no_port ≡ fresh_port
    go (yes l) = get_or-replicate n i fresh_port no_port l
    go (no l) = get_or-eq_default (replicate n fresh_port) no_port (rw length-replicate (omega arith))

-- a hash that is remembered until 0 is never live
never : (clock : ℕ) (hash : List ℕ) → only_if (hash_kind.alive clock) (hashes_of (λ hash. 0) hash) ≡ empty
unfolding only_if
never clock hash = then_false _ _ (le-ltb clock 0 (omega arith))

pub fresh_agrees : (own : List ℕ) → Agrees 0 0 (fresh_known own) (fresh own)
unfolding fresh_known fresh ◌then◌otherwise◌ only_if
fresh_agrees own =
    agree refl refl refl (all_off port_count)
    (record { tells = tells_fresh _ (λ _ _. refl); counted = taken_fresh (List ℕ) local_count })
    (record { tells = tells_fresh _ (λ _ _. refl); few = omega (arith, taken_fresh Path path_count) })
    (record { tells = tells_fresh _ (λ _ _. refl); few = omega (arith, taken_fresh Link link_count) })
    (record { tells = tells_fresh _ (λ _ _. refl); unturned = unturned_fresh return_count })
    (record { tells = tells_fresh _ never; unturned = unturned_fresh hash_count })
