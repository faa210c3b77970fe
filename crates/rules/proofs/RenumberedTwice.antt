-- A relay renumbered by one map and then by another is renumbered by the composed map.
use Prim.Native.Nat.{ℕ}
use mathlib.Core.Bool.{true}
use mathlib.Core.List.{List}
use mathlib.Core.Path.{◌≡◌}
use lib.ListN.{length}
use Rattle.rules.specs.Relay.{Path, Return, Relay}
use Rattle.rules.specs.Renumbering.{one_to_one, rename_path, rename_link, rename_return, renumbered, composed}
use Rattle.rules.specs.declared.Link.{Link}
use Rattle.rules.proofs.Images.{image_composed}
use Rattle.rules.proofs.MovedPorts.{moved_twice}
use Rattle.rules.proofs.SlotsRenamed.{slots_twice}
use Rattle.numbers.specs.Numbers.{port_count}

module _ (one two : List ℕ) (ok-one : one_to_one one ≡ true) (ok-two : one_to_one two ≡ true) where
  path_twice : (p : Path) → rename_path two (rename_path one p) ≡ rename_path (composed one two) p
  unfolding rename_path
  path_twice p = λ i.
      record {
        destination = p.destination;
        port = image_composed one two ok-one ok-two p.port i;
        hops = p.hops;
        next_hop = p.next_hop;
        expiry = p.expiry;
        rate = p.rate;
        notes = p.notes;
        blobs = p.blobs;
      }

  link_twice : (l : Link) → rename_link two (rename_link one l) ≡ rename_link (composed one two) l
  unfolding rename_link
  link_twice l = λ i.
      record {
        id = l.id;
        asking = image_composed one two ok-one ok-two l.asking i;
        answering = image_composed one two ok-one ok-two l.answering i;
        taken = l.taken;
        remaining = l.remaining;
        proved = l.proved;
        expiry = l.expiry;
      }

  return_twice : (t : Return) → rename_return two (rename_return one t) ≡ rename_return (composed one two) t
  unfolding rename_return
  return_twice t = λ i.
      record {
        key = t.key;
        arrival = image_composed one two ok-one ok-two t.arrival i;
        leaving = image_composed one two ok-one ok-two t.leaving i;
        expiry = t.expiry;
      }

  pub renumbered_twice : (r : Relay) → length r.ports ≡ port_count → renumbered two (renumbered one r) ≡ renumbered (composed one two) r
  unfolding renumbered
  renumbered_twice r sixteen = λ i.
      record {
        own = r.own;
        clock = r.clock;
        rate = r.rate;
        ports = moved_twice one two r.ports ok-one ok-two sixteen i;
        locals = r.locals;
        paths = slots_twice (rename_path one) (rename_path two) (rename_path (composed one two)) path_twice r.paths i;
        links = slots_twice (rename_link one) (rename_link two) (rename_link (composed one two)) link_twice r.links i;
        returns = record {
          slots = slots_twice (rename_return one) (rename_return two) (rename_return (composed one two)) return_twice r.returns.slots i;
          next = r.returns.next;
        };
        hashes = r.hashes;
      }
