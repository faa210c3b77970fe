-- Names to unfold definitions by: to unfold one of these is to unfold all that its line names, so that a closed call computes.
use Rattle.sha256.specs.Constants.{K, initial_hash}
use Rattle.sha256.specs.Padding.{padding, padded}
use Rattle.sha256.specs.Compression.{expanded_word, W, T₁, T₂, after_round, after_rounds, intermediate_hash, compressed}
use Rattle.sha256.specs.Sha256.{hash_after, sha256_of}
use Rattle.octets.specs.Index.{◌and◌, all_below, first, list_of}
use Rattle.octets.specs.Choice.{◌then◌otherwise◌, ◌or◌, same}
use Rattle.octets.specs.Part.{part, patch}
use Rattle.octets.specs.BigEndian.{number_from, number}
use Rattle.packet.specs.Header.{access_code, type_two, context_flag, destination_kind, packet_kind}
use Rattle.packet.specs.Read.{type_one_parts, type_two_parts, parts_of, payload_start, payload, reading_rows, reading_refusal, reads, reading}
use Rattle.packet.specs.Write.{addresses, packet_of}
use Rattle.packet.specs.Hash.{hashed_part, packet_hash, link_id}
use Rattle.packet.specs.Announce.{keys_of, name_hash_of, blob_of, emission_of, ratchet_length, least_announce, identity_hash, announced_destination}
use Rattle.octets.specs.Listed.{first_of, any_holds, valued}
use Rattle.octets.proofs.Listed.{told}
use Rattle.numbers.specs.Numbers.{is_size, path_lifetime}
use Rattle.rules.specs.Relay.{fresh, with_clock, with_rate, with_ports, with_locals, with_paths, with_links, with_returns, with_hashes, holds, lowest, free, lowest_free}
use Rattle.rules.specs.View.{port_on, port_mode, port_size, local_place, is_local, is_live_path, is_live_link, is_live_return, is_live_hash, path_place, link_place, return_place, hash_place, free_path, free_link, is_expired_path, expiry_if, later, latest, expired_path, view_at}
use Rattle.rules.specs.Blobs.{held, is_among, greatest, greatest_emission, one_blob, add_blob, store_blob}
use Rattle.rules.specs.Refusals.{time_ok, rate_settings_ok, rate_entry_ok, port_ok, path_ok, link_ok, return_ok, hash_ok, slot_ok, all, table_ok, tables_ok, packet_rows, refusal_by, empty_local}
use Rattle.rules.specs.Renumbering.{image, differs_before, one_to_one, preimage, moved_ports, rename_path, rename_link, rename_return, rename_slot, renumbered}
use Rattle.rules.specs.Arrival.{is_link_proof}
use Rattle.rules.specs.Exempt.{exempt_context, exempt}
use Rattle.rules.specs.Rate.{one_more, violated, rated, entry_accepted, entry_revived, entry_dropped}
use Rattle.rules.specs.Ways.{no_path, path_way, link_way, return_way, way_on}
use Rattle.rules.specs.Tests.{not_ours, is_marked, for_marked_path, tested_as_duplicate, duplicate, type_two_proof, type_two_of_kind_link, announce_not_single, announce_too_short, announce_of_another, request_of_kind_link, request_too_short, link_proof_length, form_tests, bad_form, failing, own_announce, delivered_here, too_many_hops, no_way_on, why_blocked, is_there, follows_proved_link, already_known, from_answering_side, from_asking_side, wrong_side, not_signed, revives, of_known, known_tests, leaving_port, port_off, too_long_for_port, no_room}
use Rattle.rules.specs.Answers.{set_below, port_set}
use Rattle.rules.specs.Outgoing.{rewritten, spread_header, spread_packet, spread_ports, path_packet, carried_packet, outgoing, exceeds}
use Rattle.rules.specs.Judging.{early_tests, onward_tests, onward_plan, plan, spread_verdict, way_verdict, verdict, leaves, output_after}
use Rattle.rules.specs.Writes.{put_next, remembers_plan, already_live, remembers, remember, announced_blobs, announced_rate, announced_path, announced_place, put_path, limit_path, noted_slot, note_path, return_key, return_record, emptied_if, emptied_where, put_return, empty_return, link_record, put_link, renewed_link, renew_link, write_way, write_drop, write_plan, stamp, enact}
use Rattle.rules.specs.Calls.{new_tally, up, counted, judged, judge, packet_call, settled, rule_of, table_refusal, settle}
use Rattle.rules.specs.Questions.{told_of, count_below, count_of, of_test, word_matters, row_seven, question_rule, question_refusal, tell}
use Rattle.rules.specs.Saved.{save_refusal, load_refusal}
use Rattle.rules.specs.Run.{of_judgement, of_setting, of_told, save_reply, of_said, perform, replies, relay_after, tally_after}

-- SHA-256
unfoldable pub hashing : Unit {0}
unfolding K initial_hash padding padded expanded_word W T₁ T₂ after_round after_rounds intermediate_hash compressed hash_after sha256_of
hashing = tt

-- lists of bytes
unfoldable pub lists : Unit {0}
unfolding ◌and◌ all_below first list_of ◌then◌otherwise◌ ◌or◌ same part patch number_from number first_of any_holds valued told
lists = tt

-- packets
unfoldable pub layout : Unit {0}
unfolding access_code type_two context_flag destination_kind packet_kind type_one_parts type_two_parts parts_of payload_start payload
    is_size reading_rows reading_refusal reads reading addresses packet_of hashed_part packet_hash link_id keys_of name_hash_of blob_of emission_of ratchet_length
    least_announce identity_hash announced_destination
layout = tt

-- the relay, and what is read of it
unfoldable pub tables : Unit {0}
unfolding path_lifetime fresh with_clock with_rate with_ports with_locals with_paths with_links with_returns with_hashes holds lowest free lowest_free
    port_on port_mode port_size local_place is_local is_live_path is_live_link is_live_return is_live_hash path_place link_place return_place hash_place free_path free_link
    is_expired_path expiry_if later latest expired_path view_at held is_among greatest greatest_emission one_blob add_blob store_blob
tables = tt

-- refusals and renumbering
unfoldable pub refusals : Unit {0}
unfolding time_ok rate_settings_ok rate_entry_ok port_ok path_ok link_ok return_ok hash_ok slot_ok all table_ok tables_ok packet_rows refusal_by empty_local
    image differs_before one_to_one preimage moved_ports rename_path rename_link rename_return rename_slot renumbered
refusals = tt

-- the tests
unfoldable pub tests : Unit {0}
unfolding exempt_context exempt is_link_proof no_path path_way link_way return_way way_on not_ours is_marked for_marked_path tested_as_duplicate duplicate
    type_two_proof type_two_of_kind_link announce_not_single announce_too_short announce_of_another request_of_kind_link request_too_short link_proof_length form_tests bad_form
    failing own_announce
    delivered_here too_many_hops no_way_on why_blocked is_there follows_proved_link already_known from_answering_side from_asking_side wrong_side not_signed
    revives of_known one_more violated rated known_tests leaving_port port_off too_long_for_port no_room
tests = tt

-- answers and the bytes that leave
unfoldable pub answers : Unit {0}
unfolding set_below port_set rewritten spread_header spread_packet spread_ports path_packet carried_packet outgoing exceeds
    early_tests onward_tests onward_plan plan spread_verdict way_verdict verdict leaves output_after
answers = tt

-- what is written
unfoldable pub writes : Unit {0}
unfolding put_next remembers_plan already_live remembers remember announced_blobs entry_accepted entry_revived entry_dropped announced_rate announced_path
    announced_place put_path limit_path noted_slot note_path return_key return_record emptied_if emptied_where put_return empty_return link_record
    put_link renewed_link renew_link write_way write_drop write_plan stamp enact
writes = tt

-- the calls
unfoldable pub calls : Unit {0}
unfolding new_tally up counted judged judge packet_call settled rule_of table_refusal settle of_judgement of_setting of_told save_refusal save_reply
    load_refusal of_said perform replies relay_after tally_after
calls = tt

-- the questions
unfoldable pub questions : Unit {0}
unfolding told_of count_below count_of of_test word_matters row_seven question_rule question_refusal tell
questions = tt

-- all of them but SHA-256
unfoldable pub rules : Unit {0}
unfolding lists layout tables refusals tests answers writes calls questions
rules = tt
