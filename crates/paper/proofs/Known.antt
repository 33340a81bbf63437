-- The known answers, by computation.
use mathlib.Core.Path.{refl}
use native.Mathlib.Omega.{arith}
use borrow.Author.Tests.{le-leb, lt-leb}
use lib.Ieee.{Float, of_bits}
use lib.ListN.{length}
use Rattle.lent.specs.Number.{number, value, digit, bytes, numbers, int16, widened}
use Rattle.lent.specs.Lists.{table, every, those, threes}
use Rattle.lent.specs.Least.{least}
use Rattle.lent.specs.Greatest.{greatest}
use Rattle.lent.specs.Part.{place_in}
use Rattle.lent.specs.Write.{write, zeros, pad}
use Rattle.lent.specs.Same.{same}
use Rattle.whole.specs.Number.{exactly, whole_float, whole_of}
use Rattle.whole.specs.Length.{length_of, is_whole, size_of}
use Rattle.paper.specs.Sizes.{word_at, counter_of, type_of, boot_bytes, shaped, in_range}
use Rattle.paper.specs.Index.{row_run, empty, in_data, bad_at, above_at, shares, sharer, shared_at, index_of, open_of, slots_of}
use Rattle.paper.specs.Entry.{kind_of, magic_of, position_of, version_one, fields_of, entry_bytes}
use Rattle.paper.specs.Scan.{classes_of, starts_of, rule1, rule2, rule3, rule4, rule5, rule6, rising, ruled_of, class_at, class_end, class_in, class_of, data_of}
use Rattle.paper.specs.Look.{listed_of, listed_out, found_of, show_of, read_of}
use Rattle.paper.specs.Store.{free_at, free_place, empty_slot, save_of, keep_of, clear_of, data_from, writes_of}
use Rattle.paper.specs.Step.{agrees, stands}
use Rattle.paper.specs.Gaps.{left_at, gaps_zero, gaps_of}
use Rattle.paper.specs.Find.{takes_at, find_turns, find_of, report_of, report_out}
use Rattle.paper.specs.Link.{head_of, index_end, took_link, more_of, shifted, element_after, elements_of, row_after, took_row, begin_of, take_of, take_row, finish_of}
use Rattle.paper.specs.Convert.{boot_as, scan_as, entry_as, entries_as, records_as, other_magic, wide_run, convert_of, converted_out, joined}
use Rattle.paper.specs.Lister.{digits, lines_text, list_text, printed}
use Rattle.paper.specs.Known.{Refusals, Answers, Boot, OldBoot, Entries, Kinds, scan13, scan15, Scans, Rules, Index, Places, file, File, old_file, OldFile, InBytes, Edges, Conversions, Parts, Agrees, Stands, Renewed, UsedNumber, OldRun, Gaps, Finds, Links, Zeros, Prints}

pub refusals : Refusals
refusals =
    record {
      too_short = refl;
      old-form = refl;
      unknown_form = refl;
      out_of_range = refl;
      past_end = refl;
      bad_entry = refl;
      above_use = refl;
      shared_record = refl;
      no_such_slot = refl;
      empty-slot = refl;
      bad_scan = refl;
      no_empty_slot = refl;
      no_room = refl;
      disagrees = refl;
      differs = refl;
      bad_blank = refl;
      too_small = refl;
      not_version_one = refl;
      not_convertible = refl;
      not_all_came = refl;
    }

pub answers : Answers
answers =
    record {
      opens = refl;
      not_opened = refl;
      scans = refl;
      not_listed = refl;
      part = refl;
      no_part = refl;
      accepted = refl;
      not_taken = refl;
      yes = refl;
      no = refl;
      not_asked = refl;
      wrote = refl;
      saved = refl;
      cleared = refl;
      not_stepped = refl;
      saved_confirms = refl;
      cleared_confirms = refl;
      wrote_does_not = refl;
      refused_does_not = refl;
    }

pub boot : Boot
unfolding number value digit bytes numbers table word_at counter_of type_of boot_bytes
boot =
    record {
      reads = refl;
      version = refl;
      written = refl;
    }

pub old_boots : OldBoot
unfolding number value widened word_at counter_of type_of
old_boots =
    record {
      reads = refl;
      all_ones = refl;
      greatest = refl;
      least = refl;
      current = refl;
    }

pub entries : Entries
unfolding number value digit bytes numbers table int16 widened zeros word_at kind_of magic_of position_of version_one fields_of entry_bytes
entries =
    record {
      fields = refl;
      old_fields = refl;
      no_magic = refl;
      magic_1 = refl;
      magic_2 = refl;
      magic_3 = refl;
      magic_258 = refl;
      current_one = refl;
      written = refl;
      greatest = refl;
      least = refl;
      minus_one = refl;
    }

pub kinds : (a b : Float) → Kinds a b
unfolding kind_of
kinds a b =
    record {
      mode_255 = refl;
      mode_256 = refl;
      mode_304 = refl;
      mode_305 = refl;
      mode_511 = refl;
      mode_512 = refl;
      mode_560 = refl;
      mode_561 = refl;
      other = refl;
      continuum = refl;
      spectral = refl;
    }

pub scans : Scans
unfolding number value int16 table every exactly whole_float whole_of of_bits length_of is_whole size_of classes_of starts_of rule1 rule2 rule3 rule4 rule5 rule6 rising ruled_of class_at class_end class_in class_of data_of scan13 scan15
scans =
    record {
      starts = refl;
      count = refl;
      keeps_13 = refl;
      keeps_15 = refl;
      data_13 = refl;
      data_15 = refl;
      classes_13 = refl;
      classes_15 = refl;
    }

pub files : File
unfolding number value int16 table every those least write exactly whole_float whole_of of_bits length_of is_whole size_of word_at counter_of type_of shaped in_range empty in_data bad_at above_at shares sharer shared_at open_of slots_of kind_of version_one fields_of classes_of starts_of rule1 rule2 rule3 rule4 rule5 rule6 rising ruled_of threes listed_of listed_out found_of show_of read_of scan13 scan15 file
files =
    record {
      long = refl;
      opens = refl;
      lists = refl;
      lines = refl;
      no_room = refl;
      show_1 = refl;
      show_2 = refl;
      show_3 = refl;
      show_4 = refl;
      show_0 = refl;
      show_5 = refl;
      read_1 = refl;
      read_2 = refl;
      read_3 = refl;
      read_4 = refl;
      entry_1 = refl;
      entry_2 = refl;
      entry_4 = refl;
    }

pub rules : Rules
unfolding number value int16 table every exactly whole_float whole_of of_bits length_of is_whole size_of classes_of starts_of rule1 rule2 rule3 rule4 rule5 rule6 rising ruled_of write scan13
rules =
    record {
      one_255 = refl;
      one_256 = refl;
      one_most = refl;
      one_more = refl;
      one_read = refl;
      one_none = refl;
      two_12 = refl;
      two_16 = refl;
      two_negative = refl;
      three_first = refl;
      three_second = refl;
      three_equal = refl;
      three_last = refl;
      three_negative = refl;
      four_multiple = refl;
      four_low = refl;
      four_least = refl;
      four_sum = refl;
      four_high = refl;
      four_whole = refl;
      five_multiple = refl;
      five_high = refl;
      five_none = refl;
      five_whole = refl;
      six = refl;
      six_read = refl;
    }

pub indexes : Index
unfolding least empty in_data bad_at above_at shares sharer shared_at index_of
indexes =
    record {
      all_records = refl;
      apart = refl;
      index_record = refl;
      past_d = refl;
      turned = refl;
      first_none = refl;
      last_none = refl;
      above = refl;
      bad_above = refl;
      at_the_end = refl;
      at_the_front = refl;
      within = refl;
      around = refl;
      six_first = refl;
      seven_next = refl;
    }

pub places : Places
unfolding least empty shares sharer free_at free_place empty_slot
places =
    record {
      one = refl;
      two = refl;
      none = refl;
      at_the_end = refl;
      no_more = refl;
      empty = refl;
      last_empty = refl;
      none_empty = refl;
    }

pub agreeing : Agrees
unfolding number value same word_at counter_of type_of shaped in_range table every data_from writes_of boot_bytes numbers bytes digit zeros pad entry_bytes write agrees scan13 scan15 file
agreeing =
    record {
      yes = refl;
      last_step = refl;
      lowest = refl;
      other-scan = refl;
      other_length = refl;
      other_boot = refl;
      bad_boot = refl;
      no_file = refl;
      no-scan = refl;
      slot_0 = refl;
      slot_5 = refl;
      in_the_index = refl;
      past_the_room = refl;
      too_many = refl;
      clear = refl;
      clear_too_many = refl;
      third = refl;
      third_too_many = refl;
      save_lowers = refl;
      save_lowers_too_many = refl;
    }

pub old_files : OldFile
unfolding number value int16 widened same table every those least write exactly whole_float whole_of of_bits length_of is_whole size_of word_at counter_of type_of shaped in_range empty in_data bad_at above_at shares sharer shared_at open_of slots_of kind_of magic_of position_of version_one fields_of classes_of starts_of rule1 rule2 rule3 rule4 rule5 rule6 rising ruled_of threes listed_of listed_out found_of show_of read_of save_of keep_of clear_of agrees scan13 scan15 old_file
old_files =
    record {
      long = refl;
      opens = refl;
      lists = refl;
      lines = refl;
      show_1 = refl;
      show_2 = refl;
      read_1 = refl;
      read_2 = refl;
      read_3 = refl;
      read_4 = refl;
      eighteen_first = refl;
      magic = refl;
      position = refl;
      minus_d = refl;
      minus_first = refl;
      minus_above = refl;
      shared = refl;
      no_save = refl;
      no_keep = refl;
      no_clear = refl;
      before_4 = refl;
      after_1 = refl;
      no_step = refl;
    }

pub in_bytes : InBytes
unfolding digit bytes numbers table zeros pad empty boot_bytes boot_as scan_as entry_as
in_bytes =
    record {
      boot_old = refl;
      boot_current = refl;
      scan_old = refl;
      scan_current = refl;
      padded = refl;
      empty_old = refl;
      empty_current = refl;
    }

pub edges : Edges
unfolding least wide_run
edges =
    record {
      most = refl;
      d = refl;
      counter = refl;
      type_1 = refl;
      already = refl;
      narrow = refl;
      first = refl;
      last = refl;
    }

pub conversions : Conversions
unfolding number value widened digit bytes numbers table zeros pad least write word_at counter_of type_of boot_bytes shaped in_range empty in_data bad_at above_at shares sharer shared_at magic_of position_of version_one other_magic wide_run boot_as scan_as entry_as entries_as records_as convert_of converted_out joined scan13 scan15 file old_file
conversions =
    record {
      magic_1 = refl;
      accepted = refl;
      short = refl;
      short_already = refl;
      already = refl;
      already_current = refl;
      shared = refl;
      type_1 = refl;
      counter = refl;
      untouched = refl;
      to_current = refl;
      to_old = refl;
      rest = refl;
    }

pub standing : Stands
unfolding number value same digit bytes numbers table zeros pad entry_bytes stands scan13 scan15 file
standing =
    record {
      yes = refl;
      padding = refl;
      other_byte = refl;
      other_entry = refl;
      other_place = refl;
      not_cleared = refl;
      cleared = refl;
    }

pub parts : Parts
unfolding place_in
parts =
    record {
      bytes = refl;
      place = refl;
      to_the_end = refl;
      past_the_end = refl;
      empty = refl;
      refused = refl;
      no_bytes = refl;
    }

pub renewed : Renewed
unfolding number value greatest word_at empty scan13 scan15 file
renewed =
    record {
      blank = refl;
      raised = refl;
      as_it_was = refl;
      cleared = refl;
      all_ones = refl;
    }

pub used_number : UsedNumber
unfolding number value digit bytes numbers int16 table every least greatest write zeros pad exactly whole_float whole_of of_bits length_of is_whole size_of word_at counter_of type_of boot_bytes shaped in_range empty in_data bad_at above_at shares sharer shared_at classes_of starts_of rule1 rule2 rule3 rule4 rule5 rule6 rising ruled_of entry_bytes free_at free_place data_from writes_of save_of clear_of scan13 scan15 file
used_number =
    record {
      highest_3 = refl;
      above_use = refl;
      last_alone = refl;
      first_alone = refl;
      gap = refl;
      none = refl;
      saved_4 = refl;
      saved_2 = refl;
      cleared_3 = refl;
      lowers_3 = refl;
      lowers_1 = refl;
      taken_3 = refl;
      never_3 = refl;
      lowered_2 = refl;
      lowered_0 = refl;
      three = refl;
      two = refl;
      of_a_save = refl;
      third_is = refl;
    }

pub old_run : OldRun
unfolding number value digit bytes numbers int16 table every least greatest write zeros pad same exactly whole_float whole_of of_bits length_of is_whole size_of word_at counter_of type_of boot_bytes shaped in_range empty in_data bad_at above_at shares sharer shared_at classes_of starts_of rule1 rule2 rule3 rule4 rule5 rule6 rising ruled_of entry_bytes data_from writes_of clear_of agrees stands scan13 scan15 file
old_run =
    record {
      nothing = refl;
      one = refl;
      three = refl;
      cleared = (refl, refl);
      refused = (refl, refl);
      total = refl;
      first_zeros = refl;
      then_zeros = refl;
      no_more = refl;
      all_data = refl;
      counts = refl;
      in_the_index = refl;
      past_the_room = refl;
      one_past = refl;
      beyond = refl;
      not_looked_at = refl;
      zeros_stand = refl;
      not_zeros = refl;
      not_all = refl;
    }

pub gaps : Gaps
unfolding number value digit bytes numbers least write zeros pad same exactly whole_float whole_of of_bits word_at counter_of type_of boot_bytes shaped in_range empty in_data bad_at above_at shares sharer shared_at left_at gaps_zero gaps_of scan13 scan15 file
gaps =
    record {
      listed = refl;
      zeros = refl;
      last_byte = refl;
      left = refl;
      beyond = refl;
      refused = refl;
    }

pub finds : Finds
unfolding number value int16 widened table every write exactly whole_float whole_of of_bits length_of is_whole size_of word_at counter_of type_of shaped in_range classes_of starts_of rule1 rule2 rule3 rule4 rule5 rule6 rising ruled_of threes takes_at find_turns find_of report_of report_out scan13 scan15 file old_file
finds =
    record {
      found = refl;
      lines = refl;
      word = refl;
      one_record = refl;
      two_records = refl;
      next_record = refl;
      last_record = refl;
      to_the_end = refl;
      past_the_end = refl;
      junk = refl;
      in_the_index = refl;
      old = refl;
      no_room = (refl, refl);
      short = refl;
      version_2 = refl;
      range = refl;
      cut = refl;
      no_data = refl;
      one_data_record = refl;
    }

pub links : Links
unfolding number value widened table least write word_at counter_of type_of shaped in_range row_run empty in_data bad_at above_at shares sharer shared_at head_of index_end took_link more_of shifted element_after elements_of row_after took_row begin_of take_of take_row finish_of
links =
    record {
      head_last = refl;
      head_all = refl;
      head_short = refl;
      end = refl;
      no_end = refl;
      byte_30 = refl;
      byte_31 = refl;
      past_byte_31 = refl;
      version_2 = refl;
      to_the_end = refl;
      more = refl;
      more_wraps = refl;
      more_old = refl;
      four_bytes = refl;
      minus_two = refl;
      places = refl;
      places_old = refl;
      cut_first = refl;
      cut_then = refl;
      cut_last = refl;
      cut_old = refl;
      no_row = refl;
      elements = refl;
      no_elements = refl;
      row = refl;
      row_of_a_piece = refl;
      begins = refl;
      begins_not = refl;
      no_link = refl;
      takes = refl;
      takes_not = refl;
      link_stays = refl;
      takes_row = refl;
      takes_no_row = refl;
      small = refl;
      short = refl;
      no_boot = refl;
      past_length = refl;
      unknown = refl;
      not_all = refl;
      opens = refl;
      shared = refl;
    }

pub zeroed : Zeros
zeroed =
    record {
      write_none = refl;
      job = refl;
      entry = refl;
    }

pub prints : Prints
unfolding number value those least word_at counter_of type_of shaped in_range empty in_data bad_at above_at shares sharer shared_at open_of slots_of digits lines_text list_text printed scan13 scan15 file
prints =
    record {
      zero = refl;
      nine = refl;
      ten = refl;
      more = refl;
      most = refl;
      at_most = λ f e. rw (le-leb (length f) 65536 (omega arith)) refl;
      longer = λ f e. rw (lt-leb (length f) 65536 (omega arith)) refl;
      lists = refl;
      refuses = refl;
    }
