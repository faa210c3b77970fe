-- A renamed question to a renumbered relay: what is told is what was told, renamed.
use Prim.Native.Nat.{ℕ}
use mathlib.Core.Bool.{Bool, true, false}
use mathlib.Core.List.{List}
use mathlib.Core.Path.{◌≡◌, refl, sym, ap, ap₂, ◌∙◌}
use lib.Dec.{eqb, leb}
use lib.ListN.{length, get_or}
use borrow.Author.Tests.{eqb-true}
use Rattle.octets.specs.Choice.{◌then◌otherwise◌}
use Rattle.octets.specs.Listed.{first_of}
use Rattle.octets.proofs.Choice.{then_ap}
use Rattle.octets.proofs.Index.{and_left, and_right}
use Rattle.numbers.specs.Numbers.{port_count, return_count, live}
use Rattle.rules.specs.Relay.{Port, no_port, Slot, empty, used, Relay}
use Rattle.rules.specs.View.{View, view_at}
use Rattle.rules.specs.Renumbering.{image, one_to_one, rename_path, rename_link, rename_return, rename_slot, renumbered}
use Rattle.rules.specs.Refusals.{table_ok, tables_ok, packet_rows, packet_refusal, refusal_by}
use Rattle.rules.specs.Arrival.{Arrival}
use Rattle.rules.specs.Judging.{Plan, dropped, delivered, follows, plan}
use Rattle.rules.specs.Questions.{Question, port_settings, rate_settings, local_at, path_at, link_at, live_path, live_returns, live_hashes, the_last_clock, whether_word_matters, Told, refused, none, a_port, an_address, a_path, a_link, a_number, yes_or_no, told_of, count_of, came_with, of_test, word_matters, row_seven, question_rule, question_refusal, tell, rename_told}
use Rattle.rules.specs.Run.{rename_arrival}
use Rattle.rules.proofs.Images.{image_leb, source_image}
use Rattle.rules.proofs.MovedPorts.{moved_at}
use Rattle.rules.proofs.SlotsRenamed.{slot_renamed, holds_at}
use Rattle.rules.proofs.Counting.{count_cong}
use Rattle.rules.proofs.ViewRenamed.{on_image, size_image, path_renamed, view_renamed}
use Rattle.rules.proofs.PlanRenamed.{rename_plan, plan_renamed}

-- a relay that row 7 doesn't name has sixteen ports
pub sixteen_ports : (r : Relay) → tables_ok r ≡ true → length r.ports ≡ port_count
unfolding tables_ok table_ok
sixteen_ports r fine = eqb-true (length r.ports) port_count (and_left _ _ (and_left _ _ (and_right _ _ (and_right _ _ fine))))

-- what a renamed slot holds, told
told_renamed : {A : Type 0} (m : List ℕ) (rename : A → A) (tells : A → Told) → ((x : A) → rename_told m (tells x) ≡ tells (rename x))
    → (slot : Slot A) → told_of tells (rename_slot rename slot) ≡ rename_told m (told_of tells slot)
unfolding told_of rename_slot rename_told
told_renamed m rename tells law empty = refl
told_renamed m rename tells law (used x) = sym (law x)

-- an address has no port
address_stays : (m : List ℕ) (slot : Slot (List ℕ)) → told_of an_address slot ≡ rename_told m (told_of an_address slot)
unfolding told_of rename_told
address_stays m empty = refl
address_stays m (used address) = refl

same_test : (m : List ℕ) (n : ℕ) (todo : Plan) → of_test n (rename_plan m todo) ≡ of_test n todo
unfolding of_test rename_plan
same_test m n (dropped reason) = refl
same_test m n delivered = refl
same_test m n (follows w) = refl

module _ (m : List ℕ) (ok : one_to_one m ≡ true) (r : Relay) (fine : tables_ok r ≡ true) (fine' : tables_ok (renumbered m r) ≡ true) where
  pub packet_refusal_renamed : (a : Arrival) (room : ℕ) → packet_refusal (renumbered m r) (rename_arrival m a) room ≡ packet_refusal r a room
  unfolding refusal_by packet_rows rename_arrival renumbered
  packet_refusal_renamed a room =
      let sixteen = sixteen_ports r fine in
      rw (fine, fine', on_image m a.clock r sixteen ok a.port, size_image m a.clock r sixteen ok a.port)

  word_matters_renamed : (a : Arrival) → word_matters (renumbered m r) (rename_arrival m a) ≡ word_matters r a
  unfolding word_matters rename_arrival
  word_matters_renamed a =
      ap (λ (v : View). of_test 9 (plan v (rename_arrival m a))) (view_renamed m a.clock r (sixteen_ports r fine))
      ∙ ap (of_test 9) (plan_renamed m ok (view_at a.clock r) a)
      ∙ same_test m 9 (plan (view_at a.clock r) a)

  port_renamed : (port : ℕ) → get_or (renumbered m r).ports (image m port) no_port ≡ get_or r.ports port no_port
  unfolding renumbered
  port_renamed port =
      moved_at m r.ports (sixteen_ports r fine) (image m port)
      ∙ ap (λ (k : ℕ). get_or r.ports k no_port) (source_image m ok port)

  row_renamed : row_seven (renumbered m r) ≡ row_seven r
  unfolding row_seven first_of ◌then◌otherwise◌
  row_renamed = rw (fine, fine')

  refusal_renamed : (q : Question) → question_refusal ((question_rule q).renamed m) (renumbered m r) ≡ question_refusal q r
  unfolding question_refusal question_rule rename_arrival
  refusal_renamed (port_settings port) = row_renamed
  refusal_renamed rate_settings = row_renamed
  refusal_renamed (local_at place) = row_renamed
  refusal_renamed (path_at place) = row_renamed
  refusal_renamed (link_at place) = row_renamed
  refusal_renamed (live_path destination clock) = row_renamed
  refusal_renamed (live_returns clock) = row_renamed
  refusal_renamed (live_hashes clock) = row_renamed
  refusal_renamed the_last_clock = row_renamed
  refusal_renamed (whether_word_matters bytes port clock room) = packet_refusal_renamed (came_with bytes port clock false) room

  answer_renamed : (q : Question) → (question_rule ((question_rule q).renamed m)).answer (renumbered m r) ≡ rename_told m ((question_rule q).answer r)
  unfolding question_rule rename_told renumbered rename_arrival rename_return count_of
  answer_renamed (port_settings port) =
      ap₂ (λ (b : Bool) (p : Port). b then none otherwise a_port p) (image_leb m ok port) (port_renamed port)
      ∙ sym (then_ap (rename_told m) (leb port_count port) none (a_port (get_or r.ports port no_port)))
  answer_renamed rate_settings = refl
  answer_renamed (local_at place) = address_stays m (get_or r.locals place empty)
  answer_renamed (path_at place) =
      ap (told_of a_path) (slot_renamed (rename_path m) r.paths place) ∙ told_renamed m (rename_path m) a_path (λ x. refl) (get_or r.paths place empty)
  answer_renamed (link_at place) =
      ap (told_of a_link) (slot_renamed (rename_link m) r.links place) ∙ told_renamed m (rename_link m) a_link (λ x. refl) (get_or r.links place empty)
  answer_renamed (live_path destination clock) =
      ap (told_of a_path) (path_renamed m clock r destination)
      ∙ told_renamed m (rename_path m) a_path (λ x. refl) ((view_at clock r).path destination)
  answer_renamed (live_returns clock) =
      ap a_number (count_cong _ _ return_count (λ i l. holds_at (rename_return m) (λ t. live clock t.expiry) (λ x. refl) r.returns.slots i))
  answer_renamed (live_hashes clock) = refl
  answer_renamed the_last_clock = refl
  answer_renamed (whether_word_matters bytes port clock room) = ap yes_or_no (word_matters_renamed (came_with bytes port clock false))

  pub tell_renamed : (q : Question) → tell ((question_rule q).renamed m) (renumbered m r) ≡ rename_told m (tell q r)
  unfolding tell rename_told
  tell_renamed q =
      ap₂ (λ (n : ℕ) (x : Told). eqb n 0 then x otherwise refused n) (refusal_renamed q) (answer_renamed q)
      ∙ sym (then_ap (rename_told m) (eqb (question_refusal q r) 0) ((question_rule q).answer r) (refused (question_refusal q r)))
