-- For proofs by computation: who unfolds `computing` unfolds every definition of document 01. Assumes nothing.
use Rattle.numbers.specs.Bytes.{be_from, be, bytes_be, part, number_at, patch}
use Rattle.protocol.specs.Below.{all_below, any_below, count_below, first_below, each_below, keep, around, walked}
use Rattle.protocol.specs.Layout.{between, good_k, good_slots, good_blocks, good_disk, good_geometry, block_size, slot_place, entry_place, block_place, card_length, disk_place, disk_length, block_at, disk_block, header_bytes, geometry_of, version_of, zero_from, good_header}
use Rattle.protocol.specs.Entry.{entry_bytes, entry_in, entry_at, in_use, is_modified, has_log_role, was_modified, allowed_flags, is_unused, good_entry, log_flags, switched, undone_flags, undone}
use Rattle.protocol.specs.Ring.{head_of, tail_of, slot_at, window_length, window_slots, window_of, window_number, window_has, in_window, used_at, undoable_at, settled_block, role_free_at, is_settled, entry_for, find_entry, cached, current_of, contents}
use Rattle.protocol.specs.Check.{refuse, ◌or_else◌, header_fits, card_fits, disk_fits, window_number_fits, ring_fits, good_entry_at, entries_fit, alike, apart, apart_before, entries_apart, fit_refusal, disk_refusal, damage_refusal, card_refusal, choice_byte_fits, choice_fits, choice_refusal}
use Rattle.protocol.specs.Store.{is_on, stored_on, made_on, flat, chosen, landed, made, units, words, sectors, entry_store, word_store, slot_store, head_store, tail_store, single, stores_of, answer_of, after_on}
use Rattle.protocol.specs.Format.{outcome_of, format_refusal, formatted, after_format, entry_refusal, decoded, encoded}
use Rattle.protocol.specs.Search.{current_is, previous_is, taken_by, is_free, unused_at, search_start, free_blocks, unused_entries}
use Rattle.protocol.specs.Map.{word, map_by, is_marked, map_of, same_map, map_refusal, make_refusal}
use Rattle.protocol.specs.Commit.{number_of, uncached_at, new_block, entry_found, old_block, over_modified, log_entry, data_of, head_after, block_runs, switch_runs, commit_runs, count_fits, data_fits, number_fits, numbers_fit, numbers_differ, new_number, numbers_apart, room_for, save_refusal, commit_refusal, commit_work}
use Rattle.protocol.specs.Recency.{stands_at, stands_in, is_arranged, table_refusal, ascending, without, to_front, all_to_front, turned}
use Rattle.protocol.specs.Load.{pair_refusal, block_refusal, clean_entry, load_runs, load_refusal, load_work, table_after_load, write_back, evict_runs, evict_refusal, evict_work}
use Rattle.protocol.specs.Room.{is_among, is_victim, from_last, victims, missing, victim_number, evictions, room_runs, room_left, enough_victims, room_refusal, room_work, table_after_save}
use Rattle.protocol.specs.Recover.{same_bytes, if_changing, undo_runs, recover_runs, recover_refusal, recover_work}
use Rattle.protocol.specs.Upgrade.{version_store, upgrade_runs, upgrade_refusal, upgrade_work}
use Rattle.protocol.specs.History.{work_of, answer_to, after, run, answers, fresh, place_among, replaced, reckoned, with_row, with_cut, with_puts, saved_numbers, saved_bytes, finished_row, reckon, reckon_all}
use Rattle.protocol.specs.Table.{one_taken}
use Rattle.protocol.specs.Example.{first_byte}

unfoldable pub computing : Unit {0}
unfolding be_from be bytes_be part number_at patch all_below any_below count_below first_below each_below keep around walked between good_k good_slots good_blocks good_disk good_geometry block_size slot_place entry_place block_place card_length disk_place disk_length block_at disk_block header_bytes geometry_of version_of zero_from good_header entry_bytes entry_in entry_at in_use is_modified has_log_role was_modified allowed_flags is_unused good_entry log_flags switched undone_flags undone head_of tail_of slot_at window_length window_slots window_of window_number window_has in_window used_at undoable_at settled_block role_free_at is_settled entry_for find_entry cached current_of contents refuse ◌or_else◌ header_fits card_fits disk_fits window_number_fits ring_fits good_entry_at entries_fit alike apart apart_before entries_apart fit_refusal disk_refusal damage_refusal card_refusal choice_byte_fits choice_fits choice_refusal is_on stored_on made_on flat chosen landed made units words sectors entry_store word_store slot_store head_store tail_store single stores_of answer_of after_on outcome_of format_refusal formatted after_format entry_refusal decoded encoded current_is previous_is taken_by is_free unused_at search_start free_blocks unused_entries word map_by is_marked map_of same_map map_refusal make_refusal number_of uncached_at new_block entry_found old_block over_modified log_entry data_of head_after block_runs switch_runs commit_runs count_fits data_fits number_fits numbers_fit numbers_differ new_number numbers_apart room_for save_refusal commit_refusal commit_work stands_at stands_in is_arranged table_refusal ascending without to_front all_to_front turned pair_refusal block_refusal clean_entry load_runs load_refusal load_work table_after_load write_back evict_runs evict_refusal evict_work is_among is_victim from_last victims missing victim_number evictions room_runs room_left enough_victims room_refusal room_work table_after_save same_bytes if_changing undo_runs recover_runs recover_refusal recover_work version_store upgrade_runs upgrade_refusal upgrade_work work_of answer_to after run answers fresh place_among replaced reckoned with_row with_cut with_puts saved_numbers saved_bytes finished_row reckon reckon_all one_taken first_byte
computing = tt
