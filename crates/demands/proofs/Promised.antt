-- The run over the bytes is made of what the functions promise: what each call does is the definition that its function's `ensures` cites. A save's reply
-- names the relay and the tally that are saved: as bytes in the room it is that definition.
use Prim.Native.Nat.{ℕ}
use mathlib.Core.Bool.{Bool}
use mathlib.Core.List.{List}
use mathlib.Core.Path.{◌≡◌, refl}
use lib.Dec.{eqb}
use lib.ListN.{length}
use Rattle.octets.proofs.Choice.{then_ap}
use Rattle.rules.specs.Arrival.{Arrival}
use Rattle.rules.specs.Run.{packet, asks, port_setting, rate_setting, adding, removing, renumbering, marking, saved, unsaved, save_reply}
use Rattle.rules.specs.Questions.{Question}
use Rattle.rules.specs.declared.Tally.{Tally}
use Rattle.tables.specs.Layout.{relay_of}
use Rattle.tables.specs.Asked.{tell_on}
use Rattle.settings.specs.Calls.{set_port_on, set_rate_on, add_local_on, remove_local_on, mark_on}
use Rattle.renumbering.specs.Calls.{renumber_on}
use Rattle.relay.specs.Promise.{packet_on}
use Rattle.saved.specs.Save.{save_refusal, save_on}
use Rattle.saved.specs.Load.{load_on}
use Rattle.saved.specs.Format.{saving, loading, in_room}
use Rattle.demands.specs.Bytes.{of_packet, of_called, of_asked, of_save, of_loaded, perform_on}

module _ (tables : List ℕ) (tally : Tally) where
  pub packet_promised : (a : Arrival) (output : List ℕ)
      → perform_on (packet a output) tables tally ≡ of_packet (packet_on a.bytes a.port a.clock a.signed tables tally output)
  unfolding perform_on
  packet_promised a output = refl

  pub port_promised : (port : ℕ) (on : Bool) (mode size : ℕ)
      → perform_on (port_setting port on mode size) tables tally ≡ of_called tally (set_port_on tables port on mode size)
  unfolding perform_on
  port_promised port on mode size = refl

  pub rate_promised : (target grace penalty : ℕ)
      → perform_on (rate_setting target grace penalty) tables tally ≡ of_called tally (set_rate_on tables target grace penalty)
  unfolding perform_on
  rate_promised target grace penalty = refl

  pub adding_promised : (address : List ℕ) → perform_on (adding address) tables tally ≡ of_called tally (add_local_on tables address)
  unfolding perform_on
  adding_promised address = refl

  pub removing_promised : (address : List ℕ) → perform_on (removing address) tables tally ≡ of_called tally (remove_local_on tables address)
  unfolding perform_on
  removing_promised address = refl

  pub renumbering_promised : (images : List ℕ) → perform_on (renumbering images) tables tally ≡ of_called tally (renumber_on tables images)
  unfolding perform_on
  renumbering_promised images = refl

  pub marking_promised : (destination : List ℕ) (clock : ℕ)
      → perform_on (marking destination clock) tables tally ≡ of_called tally (mark_on tables destination clock)
  unfolding perform_on
  marking_promised destination clock = refl

  pub question_promised : (q : Question) → perform_on (asks q) tables tally ≡ of_asked tables tally (tell_on tables q)
  unfolding perform_on
  question_promised q = refl

  pub save_promised : (room : List ℕ) → in_room (perform_on (saving room) tables tally).reply ≡ save_on tables tally room
  unfolding perform_on of_save save_reply save_on in_room
  save_promised room =
      then_ap in_room (eqb (save_refusal tables (length room)) 0) (saved (relay_of tables) tally room) (unsaved (save_refusal tables (length room)) room)

  pub save_reads : (room : List ℕ) → ((perform_on (saving room) tables tally).tables ≡ tables) × ((perform_on (saving room) tables tally).tally ≡ tally)
  unfolding perform_on of_save
  save_reads room = (refl, refl)

  pub load_promised : (file : List ℕ) → perform_on (loading file) tables tally ≡ of_loaded (load_on file tables tally)
  unfolding perform_on
  load_promised file = refl
