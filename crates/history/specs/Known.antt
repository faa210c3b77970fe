-- Document 02, wish 13: "a slow engine that keeps the list of accepted calls since fresh .. and works out each answer from it with no tables, slots or rings".
-- What is known from such a list. Nothing lies in a place here, and nothing but local addresses is counted: of each key the newest record is known. It counts
-- while it is live; an older one never counts again, not even where it would have lived longer. `Slot` is for a record or none, as everywhere in the rules.
use Rattle.std.specs.Prelude.{ℕ, Bool, true, false, List, eqb}
use Rattle.octets.specs.Choice.{◌then◌otherwise◌, same}
use Rattle.numbers.specs.Numbers.{live}
use Rattle.rules.specs.Relay.{Port, fresh_port, no_rate_settings, Slot, empty, used, Path, Return}
use Rattle.rules.specs.View.{View}
use Rattle.rules.specs.Renumbering.{rename_slot}
use Rattle.rules.specs.declared.Link.{Link}
use Rattle.rules.specs.declared.RateSettings.{RateSettings}

pub record Known : Type 0 where
  pub own : List ℕ
  -- the last accepted clock
  pub clock : ℕ
  pub rate : RateSettings
  -- each port's settings
  pub port : ℕ → Port
  -- whether an address is local, and how many are
  pub local : List ℕ → Bool
  pub locals : ℕ
  -- until when a packet hash is remembered; 0 for one that never was
  pub until : List ℕ → ℕ
  -- the newest path of a destination, the newest link of an id and the newest return record of a key, live or not
  pub path : List ℕ → Slot Path
  pub link : List ℕ → Slot Link
  pub return : List ℕ → Slot Return

abbrev pub make_known : List ℕ → ℕ → RateSettings → (ℕ → Port) → (List ℕ → Bool) → ℕ → (List ℕ → ℕ) → (List ℕ → Slot Path) → (List ℕ → Slot Link)
    → (List ℕ → Slot Return) → Known
make_known own clock rate port local locals until path link return =
    record {
      own = own;
      clock = clock;
      rate = rate;
      port = port;
      local = local;
      locals = locals;
      until = until;
      path = path;
      link = link;
      return = return;
    }

-- a fresh relay has its own address, all ports off and boundary, clock 0, and knows nothing; wish 11: sizes 500
unfoldable pub fresh_known : List ℕ → Known
fresh_known own =
    make_known own 0 no_rate_settings (λ port. fresh_port) (λ address. false) 0 (λ hash. 0) (λ destination. empty) (λ id. empty) (λ key. empty)

-- ---- what judging a packet reads of it, at the packet's clock
-- a record that isn't live counts as no record
unfoldable pub only_if : {A : Type 0} → (A → Bool) → Slot A → Slot A
only_if test empty = empty
only_if test (used x) = test x then used x otherwise empty

-- while under 64 calls are listed, there is room for one more path and one more link. Whether an ended path still lies in a slot nobody knows here: "having no
-- slots, for 6.2 and 6.3 it need only say 6.2 or 6.3", and it says 6.2
unfoldable pub seen_at : ℕ → Known → View
seen_at clock k =
    record {
      own = k.own;
      rate = k.rate;
      on = λ port. (k.port port).on;
      mode = λ port. (k.port port).mode;
      size = λ port. (k.port port).size;
      local = k.local;
      remembered = λ hash. live clock (k.until hash);
      path = λ destination. only_if (λ p. live clock p.expiry) (k.path destination);
      expired = λ destination. empty;
      link = λ id. only_if (λ l. live clock l.expiry) (k.link id);
      return = λ key. only_if (λ t. live clock t.expiry) (k.return key);
      room_for_path = true;
      room_for_link = true;
    }

-- ---- one thing known anew
-- under one key it is now this, and under every other what it was
unfoldable pub now_under : {A : Type 0} → List ℕ → A → (List ℕ → A) → List ℕ → A
now_under key new before k = same key k then new otherwise before k

unfoldable pub now_path : List ℕ → Slot Path → Known → Known
now_path destination new k =
    make_known k.own k.clock k.rate k.port k.local k.locals k.until (now_under destination new k.path) k.link k.return

unfoldable pub now_link : List ℕ → Slot Link → Known → Known
now_link id new k =
    make_known k.own k.clock k.rate k.port k.local k.locals k.until k.path (now_under id new k.link) k.return

unfoldable pub now_return : List ℕ → Slot Return → Known → Known
now_return key new k =
    make_known k.own k.clock k.rate k.port k.local k.locals k.until k.path k.link (now_under key new k.return)

unfoldable pub now_until : List ℕ → ℕ → Known → Known
now_until hash time k =
    make_known k.own k.clock k.rate k.port k.local k.locals (now_under hash time k.until) k.path k.link k.return

unfoldable pub now_clock : ℕ → Known → Known
now_clock clock k = make_known k.own clock k.rate k.port k.local k.locals k.until k.path k.link k.return

unfoldable pub now_rate : RateSettings → Known → Known
now_rate rate k = make_known k.own k.clock rate k.port k.local k.locals k.until k.path k.link k.return

unfoldable pub now_port : ℕ → Port → Known → Known
now_port port new k =
    make_known k.own k.clock k.rate (λ p. eqb p port then new otherwise k.port p) k.local k.locals k.until k.path k.link k.return

unfoldable pub now_local : List ℕ → Bool → ℕ → Known → Known
now_local address new locals k =
    make_known k.own k.clock k.rate k.port (now_under address new k.local) locals k.until k.path k.link k.return

-- a destination's path with some fields changed
unfoldable pub change_path : List ℕ → (Path → Path) → Known → Known
change_path destination change k = now_path destination (rename_slot change (k.path destination)) k
