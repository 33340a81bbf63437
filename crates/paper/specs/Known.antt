-- Known answers: numbers and bytes of 01 and 02 written out, each against one definition; `at_most` alone names another, the list that is printed.
use Rattle.std.specs.Prelude.{ℕ, ◌+◌, ◌-◌, ◌≡◌, Bool, true, false, List, [], ◌∷◌, ◌++◌, Float, pos, negsuc, length, take, drop, get_or, replicate, Ok, Err}
use Rattle.std.specs.Float.{binary32, binary64}
use Rattle.std.specs.Float.Ieee.{of_bits}
use Rattle.lent.specs.Number.{int16}
use Rattle.lent.specs.Lists.{table}
use Rattle.lent.specs.Write.{write}
use Rattle.lent.specs.Checks.{clear, fires, fired}
use Rattle.paper.specs.declared.sizes.Sizes.{Sizes}
use Rattle.paper.specs.declared.sizes.Run.{Run}
use Rattle.paper.specs.declared.refusal.Refusal.TheVariants.{TooShort, OldForm, UnknownForm, OutOfRange, PastEnd, BadEntry, AboveUse, SharedRecord, NoSuchSlot, EmptySlot, BadScan, NoEmptySlot, NoRoom, Disagrees, Differs, BadBlank, TooSmall, NotVersionOne, NotConvertible, NotAllCame}
use Rattle.paper.specs.Answers.{Opened, taken_in}
use Rattle.paper.specs.declared.entry.Kind.TheVariants.{Spectral, Continuum, Other}
use Rattle.paper.specs.declared.entry.Entry.{Entry}
use Rattle.paper.specs.declared.job.Job.{Job}
use Rattle.paper.specs.declared.job.Step.TheVariants as step
use Rattle.paper.specs.declared.link.Link.{Link}
use Rattle.paper.specs.Refusals.{Says, refuses, opened_says, listed_says, span_says, taken_says, asked_says, step_says, kind_says}
use Rattle.paper.specs.Sizes.{sizes_of, version_of, word_at, boot_bytes}
use Rattle.paper.specs.Index.{index_of, open_of}
use Rattle.paper.specs.Entry.{kind_of, magic_of, version_one, fields_of, no_entry, entry_bytes}
use Rattle.paper.specs.Scan.{classes_of, starts_of, rule1, ruled_of, class_of, data_of, part_of, span_place}
use Rattle.paper.specs.Look.{listed_of, listed_out, found_of, show_of, read_of, fields_in}
use Rattle.paper.specs.Store.{blank_sizes, free_place, empty_slot, highest, many_of, no_job, save_of, keep_of, clear_of, used_after, sizes_after, lowered, total_of, writes_of, job_in}
use Rattle.paper.specs.Step.{agrees, no_write, stands, is_confirmed}
use Rattle.paper.specs.Gaps.{gaps_of}
use Rattle.paper.specs.Find.{report_of, report_out}
use Rattle.paper.specs.Link.{head_of, index_end, headed, took_link, more_of, shifted, number_at, element_after, elements_of, row_after, took_row, begin_of, take_of, take_row, finish_of, fresh_link, link_in}
use Rattle.paper.specs.Convert.{Carried, boot_as, scan_as, entry_as, wide_run, form_checks, convert_of, converted_out, joined}
use Rattle.paper.specs.Lister.{decimal, printed, list_text}

-- ---- what answers say

abbrev pub says : ℕ → List ℕ → Says
says n vs = record { number = n; values = vs }

-- the table of refusals: number, and "slot or reason where shown, else 0"
pub record Refusals : Type 0 where
  pub too_short : refuses TooShort ≡ says 1 (0 ∷ [])
  pub old-form : refuses OldForm ≡ says 2 (0 ∷ [])
  pub unknown_form : refuses UnknownForm ≡ says 3 (0 ∷ [])
  pub out_of_range : refuses OutOfRange ≡ says 4 (0 ∷ [])
  pub past_end : refuses PastEnd ≡ says 5 (0 ∷ [])
  pub bad_entry : refuses (BadEntry 31) ≡ says 6 (31 ∷ [])
  pub above_use : refuses (AboveUse 32) ≡ says 7 (32 ∷ [])
  pub shared_record : refuses (SharedRecord 33) ≡ says 8 (33 ∷ [])
  pub no_such_slot : refuses NoSuchSlot ≡ says 9 (0 ∷ [])
  pub empty-slot : refuses EmptySlot ≡ says 10 (0 ∷ [])
  pub bad_scan : refuses (BadScan 6) ≡ says 11 (6 ∷ [])
  pub no_empty_slot : refuses NoEmptySlot ≡ says 12 (0 ∷ [])
  pub no_room : refuses NoRoom ≡ says 13 (0 ∷ [])
  pub disagrees : refuses Disagrees ≡ says 14 (0 ∷ [])
  pub differs : refuses Differs ≡ says 15 (0 ∷ [])
  pub bad_blank : refuses BadBlank ≡ says 16 (0 ∷ [])
  pub too_small : refuses TooSmall ≡ says 17 (0 ∷ [])
  pub not_version_one : refuses NotVersionOne ≡ says 18 (0 ∷ [])
  pub not_convertible : refuses NotConvertible ≡ says 19 (0 ∷ [])
  pub not_all_came : refuses NotAllCame ≡ says 20 (0 ∷ [])

-- sizes with every number its own
abbrev pub some_sizes : Sizes
some_sizes = record { n = 16909060; d = 84281096; l = 151653132; m = 219025168; u = 286397204; counter = 353769240; kind = 421141276; version = 488513312 }

-- and what is accepted: 0, and the values
pub record Answers : Type 0 where
  pub opens : opened_says (Ok some_sizes) ≡ says 0 (16909060 ∷ 84281096 ∷ 151653132 ∷ 219025168 ∷ 286397204 ∷ 353769240 ∷ 421141276 ∷ 488513312 ∷ [])
  pub not_opened : opened_says (Err (BadEntry 3)) ≡ says 6 (3 ∷ [])
  pub scans : listed_says (Ok 2) ≡ says 0 (2 ∷ [])
  pub not_listed : listed_says (Err TooSmall) ≡ says 17 (0 ∷ [])
  pub part : span_says (Ok (3, 5)) ≡ says 0 (3 ∷ 5 ∷ [])
  pub no_part : span_says (Err (BadScan 4)) ≡ says 11 (4 ∷ [])
  pub accepted : taken_says (Ok tt) ≡ says 0 []
  pub not_taken : taken_says (Err NoRoom) ≡ says 13 (0 ∷ [])
  pub yes : asked_says (Ok true) ≡ says 0 (1 ∷ [])
  pub no : asked_says (Ok false) ≡ says 0 (0 ∷ [])
  pub not_asked : asked_says (Err (SharedRecord 5)) ≡ says 8 (5 ∷ [])
  pub wrote : step_says (Ok (step.Wrote 7 3)) ≡ says 0 (0 ∷ 7 ∷ 3 ∷ [])
  pub saved : step_says (Ok (step.Saved 0 4)) ≡ says 0 (1 ∷ 0 ∷ 4 ∷ [])
  pub cleared : step_says (Ok (step.Cleared 0 2)) ≡ says 0 (2 ∷ 0 ∷ 2 ∷ [])
  pub not_stepped : step_says (Err Differs) ≡ says 15 (0 ∷ [])
  -- Saved and Cleared alone confirm
  pub saved_confirms : is_confirmed (Ok (step.Saved 0 4)) ≡ true
  pub cleared_confirms : is_confirmed (Ok (step.Cleared 0 2)) ≡ true
  pub wrote_does_not : is_confirmed (Ok (step.Wrote 7 3)) ≡ false
  pub refused_does_not : is_confirmed (Err Differs) ≡ false

-- ---- the bootstrap in bytes

-- 32 bytes, no two alike
abbrev pub bytes32 : List ℕ
bytes32 = 1 ∷ 2 ∷ 3 ∷ 4 ∷ 5 ∷ 6 ∷ 7 ∷ 8 ∷ 9 ∷ 10 ∷ 11 ∷ 12 ∷ 13 ∷ 14 ∷ 15 ∷ 16 ∷ 17 ∷ 18 ∷ 19 ∷ 20 ∷ 21 ∷ 22 ∷ 23 ∷ 24 ∷ 25 ∷ 26 ∷ 27 ∷ 28 ∷ 29 ∷ 30 ∷ 31 ∷ 32 ∷ []

pub record Boot : Type 0 where
  pub reads : sizes_of bytes32 ≡ some_sizes
  pub version : version_of bytes32 ≡ 488513312
  pub written : boot_bytes some_sizes ≡ 1 ∷ 2 ∷ 3 ∷ 4 ∷ 5 ∷ 6 ∷ 7 ∷ 8 ∷ 9 ∷ 10 ∷ 11 ∷ 12 ∷ 13 ∷ 14 ∷ 15 ∷ 16 ∷ 17 ∷ 18 ∷ 19 ∷ 20 ∷ 21 ∷ 22 ∷ 23 ∷ 24 ∷ 25 ∷ 26 ∷ 27 ∷ 28 ∷ 0 ∷ 0 ∷ 0 ∷ 1 ∷ []

-- 02: "six 16-bit words (N, D, L, M, U, counter)", the type 0; what stands in bytes 12 to 27 is none of them
pub record OldBoot : Type 0 where
  pub reads : sizes_of (take 28 bytes32 ++ (0 ∷ 0 ∷ 0 ∷ 0 ∷ [])) ≡ record { n = 258; d = 772; l = 1286; m = 1800; u = 2314; counter = 2828; kind = 0; version = 0 }
  -- all ones: each word -1, the counter plain bits
  pub all_ones : sizes_of (replicate 28 255 ++ (0 ∷ 0 ∷ 0 ∷ 0 ∷ []))
      ≡ record { n = 4294967295; d = 4294967295; l = 4294967295; m = 4294967295; u = 4294967295; counter = 65535; kind = 0; version = 0 }
  pub greatest : word_at 0 (9 ∷ 9 ∷ 127 ∷ 255 ∷ []) 0 1 ≡ 32767
  pub least : word_at 0 (9 ∷ 9 ∷ 128 ∷ 0 ∷ []) 0 1 ≡ 4294934528
  pub current : word_at 1 (9 ∷ 9 ∷ 9 ∷ 9 ∷ 255 ∷ 255 ∷ 128 ∷ 0 ∷ []) 0 1 ≡ 4294934528

-- ---- an entry in bytes

-- bytes 8 to 61, no two alike
abbrev pub bytes54 : List ℕ
bytes54 = 9 ∷ 10 ∷ 11 ∷ 12 ∷ 13 ∷ 14 ∷ 15 ∷ 16 ∷ 17 ∷ 18 ∷ 19 ∷ 20 ∷ 21 ∷ 22 ∷ 23 ∷ 24 ∷ 25 ∷ 26 ∷ 27 ∷ 28 ∷ 29 ∷ 30 ∷ 31 ∷ 32 ∷ 33 ∷ 34 ∷ 35 ∷ 36 ∷ 37 ∷ 38 ∷ 39 ∷ 40 ∷ 41 ∷ 42 ∷ 43 ∷ 44 ∷ 45 ∷ 46 ∷ 47 ∷ 48 ∷ 49 ∷ 50 ∷ 51 ∷ 52 ∷ 53 ∷ 54 ∷ 55 ∷ 56 ∷ 57 ∷ 58 ∷ 59 ∷ 60 ∷ 61 ∷ 62 ∷ []

-- an entry after two other bytes
abbrev pub bytes64 : List ℕ
bytes64 = 201 ∷ 202 ∷ 1 ∷ 2 ∷ 3 ∷ 4 ∷ 5 ∷ 6 ∷ 7 ∷ 8 ∷ bytes54

abbrev pub entry_is : Entry
entry_is =
    record {
      first = 16909060;
      last = 84281096;
      horizontal = 151653132;
      vertical = 219025168;
      source = 17 ∷ 18 ∷ 19 ∷ 20 ∷ 21 ∷ 22 ∷ 23 ∷ 24 ∷ 25 ∷ 26 ∷ 27 ∷ 28 ∷ 29 ∷ 30 ∷ 31 ∷ 32 ∷ [];
      scan = 555885348;
      field4 = 623257384;
      field8 = 2966230773313449776;
      lst = 825373492;
      date = 892745528;
      mode = pos 14650;
      number = pos 15164;
      position = pos 15678;
      magic = pos 0;
      kind = Other (of_bits binary32 623257384) (of_bits binary64 2966230773313449776);
    }

-- the same bytes in the old form: first, last, magic number and position code are bytes 0 to 7
abbrev pub old_entry_is : Entry
old_entry_is =
    record {
      first = 258;
      last = 772;
      horizontal = 151653132;
      vertical = 219025168;
      source = 17 ∷ 18 ∷ 19 ∷ 20 ∷ 21 ∷ 22 ∷ 23 ∷ 24 ∷ 25 ∷ 26 ∷ 27 ∷ 28 ∷ 29 ∷ 30 ∷ 31 ∷ 32 ∷ [];
      scan = 555885348;
      field4 = 623257384;
      field8 = 2966230773313449776;
      lst = 825373492;
      date = 892745528;
      mode = pos 14650;
      number = pos 15164;
      position = pos 1800;
      magic = pos 1286;
      kind = Other (of_bits binary32 623257384) (of_bits binary64 2966230773313449776);
    }

pub record Entries : Type 0 where
  pub fields : fields_of 1 bytes64 2 ≡ entry_is
  pub old_fields : fields_of 0 bytes64 2 ≡ old_entry_is
  pub no_magic : magic_of 1 bytes64 2 ≡ 0
  -- "Magic 2 is a version 1 scan"
  pub magic_1 : version_one 0 (0 ∷ 0 ∷ 0 ∷ 0 ∷ 0 ∷ 1 ∷ []) 0 ≡ false
  pub magic_2 : version_one 0 (0 ∷ 0 ∷ 0 ∷ 0 ∷ 0 ∷ 2 ∷ []) 0 ≡ true
  pub magic_3 : version_one 0 (0 ∷ 0 ∷ 0 ∷ 0 ∷ 0 ∷ 3 ∷ []) 0 ≡ false
  pub magic_258 : version_one 0 (0 ∷ 0 ∷ 0 ∷ 0 ∷ 1 ∷ 2 ∷ []) 0 ≡ false
  pub current_one : version_one 1 (0 ∷ 0 ∷ 0 ∷ 0 ∷ 0 ∷ 3 ∷ []) 0 ≡ true
  pub written : entry_bytes (record { n = 2; d = 0; l = 512; m = 64; u = 0; counter = 0; kind = 0; version = 1 }) (record { first = 16909060; last = 84281096 }) bytes54 ≡ 1 ∷ 2 ∷ 3 ∷ 4 ∷ 5 ∷ 6 ∷ 7 ∷ 8 ∷ (bytes54 ++ (0 ∷ 0 ∷ []))
  -- "integers two's complement"
  pub greatest : int16 32767 ≡ pos 32767
  pub least : int16 32768 ≡ negsuc 32767
  pub minus_one : int16 65535 ≡ negsuc 0

-- "Mode 256 to 304 is continuum with type code 0 to 48, and 512 to 560 is spectral line with the same codes"
pub record Kinds (a b : Float) : Type 0 where
  pub mode_255 : kind_of 255 a b ≡ Other a b
  pub mode_256 : kind_of 256 a b ≡ Continuum 0 a b
  pub mode_304 : kind_of 304 a b ≡ Continuum 48 a b
  pub mode_305 : kind_of 305 a b ≡ Other a b
  pub mode_511 : kind_of 511 a b ≡ Other a b
  pub mode_512 : kind_of 512 a b ≡ Spectral 0 a b
  pub mode_560 : kind_of 560 a b ≡ Spectral 48 a b
  pub mode_561 : kind_of 561 a b ≡ Other a b
  pub other : kind_says (Other a b) ≡ record { number = 0; code = 0; single = a; double = b }
  pub continuum : kind_says (Continuum 7 a b) ≡ record { number = 1; code = 7; single = a; double = b }
  pub spectral : kind_says (Spectral 7 a b) ≡ record { number = 2; code = 7; single = a; double = b }

-- ---- scans

-- 13 classes, unused starts that are not judged, HEADLEN 296 and DATALEN 12
unfoldable pub scan13 : List ℕ
scan13 = 0 ∷ 13 ∷ 0 ∷ 5 ∷ 0 ∷ 21 ∷ 0 ∷ 24 ∷ 0 ∷ 25 ∷ 0 ∷ 27 ∷ 0 ∷ 28 ∷ 0 ∷ 29 ∷ 0 ∷ 30 ∷ 0 ∷ 31 ∷ 0 ∷ 32 ∷ 0 ∷ 33 ∷ 0 ∷ 34 ∷ 0 ∷ 36 ∷ 255 ∷ 254 ∷ 255 ∷ 254 ∷ 64 ∷ 114 ∷ 128 ∷ 0 ∷ 0 ∷ 0 ∷ 0 ∷ 0 ∷ 64 ∷ 40 ∷ 0 ∷ 0 ∷ 0 ∷ 0 ∷ 0 ∷ 0 ∷ replicate 260 0

-- 15 classes, HEADLEN 304 and DATALEN 8
unfoldable pub scan15 : List ℕ
scan15 = 0 ∷ 15 ∷ 0 ∷ 5 ∷ 0 ∷ 22 ∷ 0 ∷ 23 ∷ 0 ∷ 24 ∷ 0 ∷ 25 ∷ 0 ∷ 26 ∷ 0 ∷ 27 ∷ 0 ∷ 28 ∷ 0 ∷ 29 ∷ 0 ∷ 30 ∷ 0 ∷ 31 ∷ 0 ∷ 32 ∷ 0 ∷ 33 ∷ 0 ∷ 34 ∷ 0 ∷ 37 ∷ 64 ∷ 115 ∷ 0 ∷ 0 ∷ 0 ∷ 0 ∷ 0 ∷ 0 ∷ 64 ∷ 32 ∷ 0 ∷ 0 ∷ 0 ∷ 0 ∷ 0 ∷ 0 ∷ replicate 264 0

pub record Scans : Type 0 where
  pub starts : starts_of bytes32 ≡ pos 772 ∷ pos 1286 ∷ pos 1800 ∷ pos 2314 ∷ pos 2828 ∷ pos 3342 ∷ pos 3856 ∷ pos 4370 ∷ pos 4884 ∷ pos 5398 ∷ pos 5912 ∷ pos 6426 ∷ pos 6940 ∷ pos 7454 ∷ pos 7968 ∷ []
  pub count : classes_of bytes32 ≡ 258
  pub keeps_13 : ruled_of scan13 true ≡ Ok (296, 12)
  pub keeps_15 : ruled_of scan15 true ≡ Ok (304, 8)
  pub data_13 : data_of scan13 ≡ Ok (296, 308)
  pub data_15 : data_of scan15 ≡ Ok (304, 312)
  -- class 0, 1 and on, to one past the last
  pub classes_13 : table 15 (class_of scan13) ≡ Ok (0, 0) ∷ Ok (32, 160) ∷ Ok (160, 184) ∷ Ok (184, 192) ∷ Ok (192, 208) ∷ Ok (208, 216) ∷ Ok (216, 224) ∷ Ok (224, 232) ∷ Ok (232, 240) ∷ Ok (240, 248) ∷ Ok (248, 256) ∷ Ok (256, 264) ∷ Ok (264, 280) ∷ Ok (280, 296) ∷ Ok (0, 0) ∷ []
  pub classes_15 : table 17 (class_of scan15) ≡ Ok (0, 0) ∷ Ok (32, 168) ∷ Ok (168, 176) ∷ Ok (176, 184) ∷ Ok (184, 192) ∷ Ok (192, 200) ∷ Ok (200, 208) ∷ Ok (208, 216) ∷ Ok (216, 224) ∷ Ok (224, 232) ∷ Ok (232, 240) ∷ Ok (240, 248) ∷ Ok (248, 256) ∷ Ok (256, 264) ∷ Ok (264, 288) ∷ Ok (288, 304) ∷ Ok (0, 0) ∷ []

-- a scan of 13 classes with other bytes at a place
abbrev pub with_bytes : ℕ → List ℕ → List ℕ
with_bytes at bytes = write scan13 at bytes

-- a double of which all but the first three bytes are 0
abbrev pub double : ℕ → ℕ → ℕ → List ℕ
double a b c = a ∷ b ∷ c ∷ 0 ∷ 0 ∷ 0 ∷ 0 ∷ 0 ∷ []

-- each rule, just kept and just broken; scan13 has 308 bytes, HEADLEN 296, its last start is 36, DATALEN 12
pub record Rules : Type 0 where
  pub one_255 : rule1 255 false ≡ false
  pub one_256 : rule1 256 true ≡ true
  pub one_most : rule1 65536 true ≡ true
  pub one_more : rule1 65537 true ≡ false
  pub one_read : rule1 65537 false ≡ true
  pub one_none : ruled_of [] false ≡ Err 1
  pub two_12 : ruled_of (with_bytes 0 (0 ∷ 12 ∷ [])) true ≡ Err 2
  pub two_16 : ruled_of (with_bytes 0 (0 ∷ 16 ∷ [])) true ≡ Err 2
  pub two_negative : ruled_of (with_bytes 0 (128 ∷ 13 ∷ [])) true ≡ Err 2
  pub three_first : ruled_of (with_bytes 2 (0 ∷ 6 ∷ [])) true ≡ Err 3
  pub three_second : ruled_of (with_bytes 4 (0 ∷ 20 ∷ [])) true ≡ Err 3
  pub three_equal : ruled_of (with_bytes 26 (0 ∷ 33 ∷ [])) true ≡ Err 3
  pub three_last : ruled_of (with_bytes 26 (0 ∷ 34 ∷ [])) true ≡ Err 3
  pub three_negative : ruled_of (with_bytes 26 (255 ∷ 255 ∷ [])) true ≡ Err 3
  -- HEADLEN 292, 280, 288, 304 and 312, and no whole number
  pub four_multiple : ruled_of (with_bytes 32 (double 64 114 64)) true ≡ Err 4
  pub four_low : ruled_of (with_bytes 32 (double 64 113 128)) true ≡ Err 4
  pub four_least : ruled_of (with_bytes 32 (double 64 114 0)) false ≡ Ok (288, 12)
  pub four_sum : ruled_of (with_bytes 32 (double 64 115 0)) true ≡ Err 5
  pub four_high : ruled_of (with_bytes 32 (double 64 115 128)) true ≡ Err 4
  pub four_whole : ruled_of (with_bytes 32 (double 192 114 128)) true ≡ Err 4
  -- DATALEN 10, 16, 8 and 0, and no whole number
  pub five_multiple : ruled_of (with_bytes 40 (double 64 36 0)) true ≡ Err 5
  pub five_high : ruled_of (with_bytes 40 (double 64 48 0)) true ≡ Err 5
  pub five_none : ruled_of (with_bytes 40 (double 0 0 0)) false ≡ Ok (296, 0)
  pub five_whole : ruled_of (with_bytes 40 (double 128 0 0)) true ≡ Err 5
  pub six : ruled_of (with_bytes 40 (double 64 32 0)) true ≡ Err 6
  pub six_read : ruled_of (with_bytes 40 (double 64 32 0)) false ≡ Ok (296, 8)

-- ---- an index: N 2, N+D 10, capacity 4

abbrev pub runs : List Run → ℕ → Run
runs rs s = get_or rs (s - 1) (record { first = 0; last = 0 })

abbrev pub run : ℕ → ℕ → Run
run a b = record { first = a; last = b }

abbrev pub used : ℕ → Sizes
used u = record { n = 2; d = 8; l = 512; m = 128; u = u; counter = 0; kind = 0; version = 1 }

-- what is judged of slots 1, 2 and 3 where the first so many are in use
abbrev pub index : ℕ → Run → Run → Run → Opened
index u a b c = index_of (used u) (runs (a ∷ b ∷ c ∷ []))

pub record Index : Type 0 where
  pub all_records : index 3 (run 3 10) (run 0 0) (run 0 0) ≡ Ok (used 3)
  pub apart : index 3 (run 6 8) (run 3 5) (run 9 10) ≡ Ok (used 3)
  pub index_record : index 3 (run 3 3) (run 2 10) (run 0 0) ≡ Err (BadEntry 2)
  pub past_d : index 3 (run 3 3) (run 4 11) (run 0 0) ≡ Err (BadEntry 2)
  pub turned : index 3 (run 3 3) (run 5 4) (run 0 0) ≡ Err (BadEntry 2)
  pub first_none : index 3 (run 0 5) (run 0 0) (run 0 0) ≡ Err (BadEntry 1)
  pub last_none : index 3 (run 0 0) (run 0 0) (run 5 0) ≡ Err (BadEntry 3)
  pub above : index 2 (run 0 0) (run 0 0) (run 3 3) ≡ Err (AboveUse 3)
  pub bad_above : index 2 (run 0 0) (run 0 0) (run 0 1) ≡ Err (AboveUse 3)
  pub at_the_end : index 3 (run 3 5) (run 6 6) (run 5 5) ≡ Err (SharedRecord 3)
  pub at_the_front : index 3 (run 6 8) (run 3 6) (run 0 0) ≡ Err (SharedRecord 2)
  pub within : index 3 (run 3 9) (run 10 10) (run 5 6) ≡ Err (SharedRecord 3)
  pub around : index 3 (run 5 6) (run 3 9) (run 0 0) ≡ Err (SharedRecord 2)
  pub six_first : index 2 (run 3 4) (run 4 11) (run 3 3) ≡ Err (BadEntry 2)
  pub seven_next : index 2 (run 3 4) (run 4 5) (run 3 3) ≡ Err (AboveUse 3)

-- the lowest place for k records between records 3-4 and 7-8 of a room of 10; the lowest empty slot
abbrev pub place : ℕ → ℕ
place k = free_place (used 2) 5631 (runs (run 7 8 ∷ run 3 4 ∷ [])) k

pub record Places : Type 0 where
  pub one : place 1 ≡ 5
  pub two : place 2 ≡ 5
  pub none : place 3 ≡ 0
  pub at_the_end : free_place (used 2) 5120 (runs (run 3 4 ∷ run 5 8 ∷ [])) 2 ≡ 9
  pub no_more : free_place (used 2) 5119 (runs (run 3 4 ∷ run 5 8 ∷ [])) 2 ≡ 0
  pub empty : empty_slot (used 2) (runs (run 3 4 ∷ run 0 0 ∷ run 5 5 ∷ [])) ≡ 2
  pub last_empty : empty_slot (used 2) (runs (run 3 4 ∷ run 6 6 ∷ run 5 5 ∷ [])) ≡ 4
  pub none_empty : empty_slot (used 2) (runs (run 3 4 ∷ run 6 6 ∷ run 5 5 ∷ run 7 7 ∷ [])) ≡ 0

-- ---- a file

-- N 2, D 3, L 512, M 128, U 4, counter all ones, type 1: slot 1 in record 4, slot 2 in record 3, slot 3 in record 5, which holds no scan, slot 4 empty; a
-- byte after word 8, and one after an entry's byte 61
abbrev pub file_boot : List ℕ
file_boot =
    0 ∷ 0 ∷ 0 ∷ 2 ∷ 0 ∷ 0 ∷ 0 ∷ 3 ∷ 0 ∷ 0 ∷ 2 ∷ 0 ∷ 0 ∷ 0 ∷ 0 ∷ 128 ∷ 0 ∷ 0 ∷ 0 ∷ 4 ∷ 255 ∷ 255 ∷ 255 ∷ 255 ∷ 0 ∷ 0 ∷ 0 ∷ 1 ∷ 0 ∷ 0 ∷ 0 ∷ 1 ∷ 77
    ∷ replicate 479 0

abbrev pub file_index : List ℕ
file_index =
    (0 ∷ 0 ∷ 0 ∷ 4 ∷ 0 ∷ 0 ∷ 0 ∷ 4 ∷ (bytes54 ++ (78 ∷ replicate 65 0)))
    ++ ((0 ∷ 0 ∷ 0 ∷ 3 ∷ 0 ∷ 0 ∷ 0 ∷ 3 ∷ replicate 120 5) ++ ((0 ∷ 0 ∷ 0 ∷ 5 ∷ 0 ∷ 0 ∷ 0 ∷ 5 ∷ replicate 120 0) ++ replicate 128 0))

unfoldable pub file : List ℕ
file = file_boot ++ (file_index ++ (scan15 ++ (replicate 200 0 ++ (scan13 ++ (replicate 204 0 ++ replicate 512 0)))))

abbrev pub file_sizes : Sizes
file_sizes = record { n = 2; d = 3; l = 512; m = 128; u = 4; counter = 4294967295; kind = 1; version = 1 }

pub record File : Type 0 where
  pub long : length file ≡ 2560
  -- "Entry U itself may be empty"
  pub opens : open_of file ≡ Ok file_sizes
  -- "slot, first and last as three 32-bit numbers per scan in slot order, and no further element"
  pub lists : listed_of file (replicate 11 9) ≡ Ok 3
  pub lines : listed_out file (replicate 11 9) ≡ 1 ∷ 4 ∷ 4 ∷ 2 ∷ 3 ∷ 3 ∷ 3 ∷ 5 ∷ 5 ∷ 9 ∷ 9 ∷ []
  pub no_room : listed_of file (replicate 8 9) ≡ Err TooSmall
  pub show_1 : show_of file 1 ≡ Ok (1536, 2048)
  pub show_2 : show_of file 2 ≡ Ok (1024, 1536)
  pub show_3 : show_of file 3 ≡ Ok (2048, 2560)
  pub show_4 : show_of file 4 ≡ Err EmptySlot
  pub show_0 : show_of file 0 ≡ Err NoSuchSlot
  pub show_5 : show_of file 5 ≡ Err NoSuchSlot
  pub read_1 : read_of file 1 ≡ Ok (1536, 1844)
  pub read_2 : read_of file 2 ≡ Ok (1024, 1336)
  pub read_3 : read_of file 3 ≡ Err (BadScan 2)
  pub read_4 : read_of file 4 ≡ Err EmptySlot
  pub entry_1 : (fields_in (found_of file 1)).source ≡ 17 ∷ 18 ∷ 19 ∷ 20 ∷ 21 ∷ 22 ∷ 23 ∷ 24 ∷ 25 ∷ 26 ∷ 27 ∷ 28 ∷ 29 ∷ 30 ∷ 31 ∷ 32 ∷ []
  pub entry_2 : (fields_in (found_of file 2)).last ≡ 3
  pub entry_4 : taken_in (found_of file 4) ≡ Err EmptySlot

-- the part that a span names, of five bytes, and where it begins
pub record Parts : Type 0 where
  pub bytes : part_of (4 ∷ 5 ∷ 6 ∷ 7 ∷ 8 ∷ []) (Ok (1, 3)) ≡ 5 ∷ 6 ∷ []
  pub place : span_place (4 ∷ 5 ∷ 6 ∷ 7 ∷ 8 ∷ []) (Ok (1, 3)) ≡ 1
  pub to_the_end : span_place (4 ∷ 5 ∷ 6 ∷ 7 ∷ 8 ∷ []) (Ok (4, 9)) ≡ 4
  pub past_the_end : span_place (4 ∷ 5 ∷ 6 ∷ 7 ∷ 8 ∷ []) (Ok (5, 9)) ≡ 0
  pub empty : span_place (4 ∷ 5 ∷ 6 ∷ 7 ∷ 8 ∷ []) (Ok (3, 3)) ≡ 0
  pub refused : span_place (4 ∷ 5 ∷ 6 ∷ 7 ∷ 8 ∷ []) (Err EmptySlot) ≡ 0
  pub no_bytes : part_of (4 ∷ 5 ∷ 6 ∷ 7 ∷ 8 ∷ []) (Err EmptySlot) ≡ []

-- ---- job and file

-- a save of scan13 to slot 4 of that file, at its only place, with these numbers
abbrev pub job_with : ℕ → ℕ → ℕ → ℕ → ℕ → Job
job_with slot size span first written =
    record { saves = true; slot = slot; size = size; span = span; first = first; written = written; lowers = false; old = 0; many = 0; boot = take 32 file_boot; about = bytes54 }

-- a clear of that slot, which does not lower U or does
abbrev pub clears_with : Bool → ℕ → ℕ → List ℕ → Job
clears_with lowers slot written boot =
    record { saves = false; slot = slot; size = 0; span = 2560; first = 0; written = written; lowers = lowers; old = 0; many = 0; boot = boot; about = [] }

abbrev pub clear_with : ℕ → ℕ → List ℕ → Job
clear_with slot written boot = clears_with false slot written boot

-- the same save as if it lowered U
abbrev pub job_lowers : ℕ → Job
job_lowers written =
    record { saves = true; slot = 4; size = 308; span = 2560; first = 5; written = written; lowers = true; old = 0; many = 0; boot = take 32 file_boot; about = bytes54 }

-- "A step checks 14 first": each cause by itself
pub record Agrees : Type 0 where
  pub yes : agrees file scan13 (job_with 4 308 2560 5 0) ≡ true
  pub last_step : agrees file scan13 (job_with 4 308 2560 5 3) ≡ true
  pub lowest : agrees file scan13 (job_with 1 308 2560 3 0) ≡ true
  pub other-scan : agrees file (0 ∷ scan13) (job_with 4 308 2560 5 0) ≡ false
  pub other_length : agrees file scan13 (job_with 4 308 2561 5 0) ≡ false
  pub other_boot : agrees file [] (clear_with 4 0 (1 ∷ drop 1 (take 32 file_boot))) ≡ false
  pub bad_boot : agrees (write file 31 (2 ∷ [])) [] (clear_with 4 0 (take 31 file_boot ++ (2 ∷ []))) ≡ false
  pub no_file : agrees [] [] (record { saves = false; slot = 0; size = 0; span = 0; first = 0; written = 0; lowers = false; old = 0; many = 0; boot = []; about = [] }) ≡ false
  pub no-scan : agrees file [] (job_with 4 0 2560 5 0) ≡ false
  pub slot_0 : agrees file scan13 (job_with 0 308 2560 5 0) ≡ false
  pub slot_5 : agrees file scan13 (job_with 5 308 2560 5 0) ≡ false
  pub in_the_index : agrees file scan13 (job_with 4 308 2560 2 0) ≡ false
  pub past_the_room : agrees file scan13 (job_with 4 308 2560 6 0) ≡ false
  pub too_many : agrees file scan13 (job_with 4 308 2560 5 4) ≡ false
  pub clear : agrees file [] (clear_with 4 2 (take 32 file_boot)) ≡ true
  pub clear_too_many : agrees file [] (clear_with 4 3 (take 32 file_boot)) ≡ false
  -- 02, 2026-04: "gets a third write"; "of a save 0 and 1 are not told apart"
  pub third : agrees file [] (clears_with true 4 3 (take 32 file_boot)) ≡ true
  pub third_too_many : agrees file [] (clears_with true 4 4 (take 32 file_boot)) ≡ false
  pub save_lowers : agrees file scan13 (job_lowers 3) ≡ true
  pub save_lowers_too_many : agrees file scan13 (job_lowers 4) ≡ false

-- record 5 is slot 3's: 512 zeros, and an entry of zeros from byte 8 on
abbrev pub confirming : List ℕ → ℕ → ℕ → Job
confirming about size first = record { saves = true; slot = 3; size = size; span = 2560; first = first; written = 3; lowers = false; old = 0; many = 0; boot = []; about = about }

-- "compares the entry's M bytes and the k records, padding included"
pub record Stands : Type 0 where
  pub yes : stands file (replicate 512 0) (confirming (replicate 54 0) 512 5) file_sizes ≡ true
  pub padding : stands file (replicate 511 0) (confirming (replicate 54 0) 511 5) file_sizes ≡ true
  pub other_byte : stands file (replicate 511 0 ++ (1 ∷ [])) (confirming (replicate 54 0) 512 5) file_sizes ≡ false
  pub other_entry : stands file (replicate 512 0) (confirming (replicate 53 0 ++ (1 ∷ [])) 512 5) file_sizes ≡ false
  pub other_place : stands file (replicate 512 0) (confirming (replicate 54 0) 512 4) file_sizes ≡ false
  pub not_cleared : stands file [] (clear_with 3 2 []) file_sizes ≡ false
  pub cleared : stands file [] (clear_with 4 2 []) file_sizes ≡ true

-- ---- an old file

-- the same sizes and scans: bytes 12 to 27 and those after word 8 are not judged; magic numbers 2, 1 and 2, and of the empty slot 3; the position code -3
abbrev pub old_boot : List ℕ
old_boot = 0 ∷ 2 ∷ 0 ∷ 3 ∷ 2 ∷ 0 ∷ 0 ∷ 128 ∷ 0 ∷ 4 ∷ 255 ∷ 255 ∷ (replicate 16 99 ++ (0 ∷ 0 ∷ 0 ∷ 0 ∷ replicate 480 77))

abbrev pub old_index : List ℕ
old_index =
    (0 ∷ 4 ∷ 0 ∷ 4 ∷ 0 ∷ 2 ∷ 255 ∷ 253 ∷ (take 52 bytes54 ++ replicate 68 78))
    ++ ((0 ∷ 3 ∷ 0 ∷ 3 ∷ 0 ∷ 1 ∷ replicate 122 5) ++ ((0 ∷ 5 ∷ 0 ∷ 5 ∷ 0 ∷ 2 ∷ replicate 122 0) ++ (0 ∷ 0 ∷ 0 ∷ 0 ∷ 0 ∷ 3 ∷ replicate 122 0)))

unfoldable pub old_file : List ℕ
old_file = old_boot ++ (old_index ++ (scan15 ++ (replicate 200 0 ++ (scan13 ++ (replicate 204 0 ++ replicate 512 0)))))

pub record OldFile : Type 0 where
  pub long : length old_file ≡ 2560
  pub opens : open_of old_file ≡ Ok (record { n = 2; d = 3; l = 512; m = 128; u = 4; counter = 65535; kind = 0; version = 0 })
  pub lists : listed_of old_file (replicate 11 9) ≡ Ok 3
  pub lines : listed_out old_file (replicate 11 9) ≡ 1 ∷ 4 ∷ 4 ∷ 2 ∷ 3 ∷ 3 ∷ 3 ∷ 5 ∷ 5 ∷ 9 ∷ 9 ∷ []
  pub show_1 : show_of old_file 1 ≡ Ok (1536, 2048)
  pub show_2 : show_of old_file 2 ≡ Ok (1024, 1536)
  pub read_1 : read_of old_file 1 ≡ Ok (1536, 1844)
  -- "any other is listed and shown, but not read"; 18 stands after 10 and before 11
  pub read_2 : read_of old_file 2 ≡ Err NotVersionOne
  pub read_3 : read_of old_file 3 ≡ Err (BadScan 2)
  pub read_4 : read_of old_file 4 ≡ Err EmptySlot
  pub eighteen_first : read_of (write old_file 773 (1 ∷ [])) 3 ≡ Err NotVersionOne
  pub magic : (fields_in (found_of old_file 1)).magic ≡ pos 2
  pub position : (fields_in (found_of old_file 1)).position ≡ negsuc 2
  -- -1 for D, for the first record of slot 1, and above U
  pub minus_d : open_of (write old_file 2 (255 ∷ 255 ∷ [])) ≡ Err OutOfRange
  pub minus_first : open_of (write old_file 512 (255 ∷ 255 ∷ [])) ≡ Err (BadEntry 1)
  pub minus_above : open_of (write (write old_file 9 (3 ∷ [])) 896 (128 ∷ 0 ∷ [])) ≡ Err (AboveUse 4)
  pub shared : open_of (write old_file 641 (4 ∷ 0 ∷ 4 ∷ [])) ≡ Err (SharedRecord 2)
  -- "2 now means a save, keep or clear on an old file and keeps its place": after 1 and before 4
  pub no_save : taken_says (taken_in (save_of old_file 4 scan13 bytes54)) ≡ says 2 (0 ∷ [])
  pub no_keep : taken_says (taken_in (keep_of old_file scan13 bytes54)) ≡ says 2 (0 ∷ [])
  pub no_clear : taken_says (taken_in (clear_of old_file 1)) ≡ says 2 (0 ∷ [])
  pub before_4 : taken_says (taken_in (clear_of (write old_file 2 (255 ∷ 255 ∷ [])) 1)) ≡ says 2 (0 ∷ [])
  pub after_1 : taken_says (taken_in (clear_of (take 511 old_file) 1)) ≡ says 1 (0 ∷ [])
  -- "a step on an old file gets 14", whatever the job expects
  pub no_step : agrees old_file [] (clear_with 1 0 (take 32 old_boot)) ≡ false

-- ---- to the other form

-- what an entry says, each byte its own
abbrev pub carried_is : ℕ → ℕ → ℕ → Carried
carried_is first last position = record { run = record { first = first; last = last }; position = position; middle = take 52 bytes54 }

pub record InBytes : Type 0 where
  -- "six words"; "words 1 to 8"
  pub boot_old : boot_as 0 (record { n = 258; d = 772; l = 1286; m = 1800; u = 2314; counter = 2828; kind = 0; version = 1 }) ≡ take 12 bytes32
  pub boot_current : boot_as 1 (record { n = 16909060; d = 84281096; l = 151653132; m = 219025168; u = 286397204; counter = 353769240; kind = 0; version = 0 })
      ≡ take 24 bytes32 ++ (0 ∷ 0 ∷ 0 ∷ 0 ∷ 0 ∷ 0 ∷ 0 ∷ 1 ∷ [])
  -- "first, last, 2, position code, bytes 8 to 59"; "first, last, bytes 8 to 59, position code at 60"
  pub scan_old : scan_as 0 (carried_is 258 772 1800) ≡ 1 ∷ 2 ∷ 3 ∷ 4 ∷ 0 ∷ 2 ∷ 7 ∷ 8 ∷ take 52 bytes54
  pub scan_current : scan_as 1 (carried_is 16909060 84281096 15678) ≡ 1 ∷ 2 ∷ 3 ∷ 4 ∷ 5 ∷ 6 ∷ 7 ∷ 8 ∷ bytes54
  -- zeros after it, and nothing else where it is empty
  pub padded : entry_as 1 65 (carried_is 16909060 84281096 15678) ≡ 1 ∷ 2 ∷ 3 ∷ 4 ∷ 5 ∷ 6 ∷ 7 ∷ 8 ∷ (bytes54 ++ (0 ∷ 0 ∷ 0 ∷ []))
  pub empty_old : entry_as 0 64 (carried_is 0 0 1800) ≡ replicate 64 0
  pub empty_current : entry_as 1 64 (carried_is 0 0 1800) ≡ replicate 64 0

-- sizes that the old form holds, but for D and the counter
abbrev pub going_with : ℕ → ℕ → ℕ → Sizes
going_with d counter kind = record { n = 2; d = d; l = 512; m = 64; u = 0; counter = counter; kind = kind; version = 1 }

-- "D, a first or a last above 32,767 or a counter above 65,535 when going old", each at its edge; "is of type 1"; "already in the wanted form"
pub record Edges : Type 0 where
  pub most : fired (form_checks 0 [] (going_with 32767 65535 0)) ≡ clear
  pub d : fired (form_checks 0 [] (going_with 32768 65535 0)) ≡ fires NotConvertible
  pub counter : fired (form_checks 0 [] (going_with 32767 65536 0)) ≡ fires NotConvertible
  pub type_1 : fired (form_checks 0 [] (going_with 32767 65535 1)) ≡ fires NotConvertible
  pub already : fired (form_checks 1 [] (going_with 32767 65535 0)) ≡ fires NotConvertible
  pub narrow : wide_run (λ s. record { first = 32767; last = 32767 }) 1 ≡ false
  pub first : wide_run (λ s. record { first = 32768; last = 32767 }) 1 ≡ true
  pub last : wide_run (λ s. record { first = 32767; last = 32768 }) 1 ≡ true

-- the old file with magic 2 at each scan, and the current one with type 0 and a counter of 16 bits
abbrev pub old_twos : List ℕ
old_twos = write old_file 645 (2 ∷ [])

abbrev pub small_file : List ℕ
small_file = write file 20 (0 ∷ 0 ∷ 255 ∷ 255 ∷ 0 ∷ 0 ∷ 0 ∷ 0 ∷ [])

pub record Conversions : Type 0 where
  -- "Old to new needs magic 2 at each scan": slot 2's is 1; that of the empty slot 4 is 3, and is not asked
  pub magic_1 : convert_of 1 old_file (replicate 1024 88) ≡ Err NotConvertible
  pub accepted : convert_of 1 old_twos (replicate 1024 88) ≡ Ok tt
  -- "17 for a second buffer under N x L bytes", before 19 and "also for a file already in the wanted form"
  pub short : convert_of 1 old_file (replicate 1023 88) ≡ Err TooSmall
  pub short_already : convert_of 0 old_file (replicate 1023 88) ≡ Err TooSmall
  pub already : convert_of 0 old_twos (replicate 1024 88) ≡ Err NotConvertible
  pub already_current : convert_of 1 small_file (replicate 1024 88) ≡ Err NotConvertible
  -- open's own before both
  pub shared : convert_of 0 (write old_file 641 (4 ∷ 0 ∷ 4 ∷ [])) [] ≡ Err (SharedRecord 2)
  -- type 1, and a counter of 32 bits
  pub type_1 : convert_of 0 (write small_file 27 (1 ∷ [])) (replicate 1024 88) ≡ Err NotConvertible
  pub counter : convert_of 0 (write small_file 21 (1 ∷ [])) (replicate 1024 88) ≡ Err NotConvertible
  pub untouched : converted_out 0 old_twos (replicate 1024 88) ≡ replicate 1024 88
  -- "Convert the bootstrap and index into a second lent buffer, N records, the rest of that buffer untouched"
  pub to_current : converted_out 1 old_twos (replicate 1026 88)
      ≡ 0 ∷ 0 ∷ 0 ∷ 2 ∷ 0 ∷ 0 ∷ 0 ∷ 3 ∷ 0 ∷ 0 ∷ 2 ∷ 0 ∷ 0 ∷ 0 ∷ 0 ∷ 128 ∷ 0 ∷ 0 ∷ 0 ∷ 4 ∷ 0 ∷ 0 ∷ 255 ∷ 255 ∷ 0 ∷ 0 ∷ 0 ∷ 0 ∷ 0 ∷ 0 ∷ 0 ∷ 1
      ∷ (replicate 480 0 ++ (0 ∷ 0 ∷ 0 ∷ 4 ∷ 0 ∷ 0 ∷ 0 ∷ 4 ∷ (take 52 bytes54 ++ (255 ∷ 253 ∷ (replicate 66 0
      ++ (0 ∷ 0 ∷ 0 ∷ 3 ∷ 0 ∷ 0 ∷ 0 ∷ 3 ∷ (replicate 54 5 ++ (replicate 66 0 ++ (0 ∷ 0 ∷ 0 ∷ 5 ∷ 0 ∷ 0 ∷ 0 ∷ 5 ∷ (replicate 120 0 ++ (replicate 128 0 ++ (88 ∷ 88 ∷ []))))))))))))
  pub to_old : converted_out 0 small_file (replicate 1026 88)
      ≡ 0 ∷ 2 ∷ 0 ∷ 3 ∷ 2 ∷ 0 ∷ 0 ∷ 128 ∷ 0 ∷ 4 ∷ 255 ∷ 255
      ∷ (replicate 500 0 ++ (0 ∷ 4 ∷ 0 ∷ 4 ∷ 0 ∷ 2 ∷ 61 ∷ 62 ∷ (take 52 bytes54 ++ (replicate 68 0
      ++ (0 ∷ 3 ∷ 0 ∷ 3 ∷ 0 ∷ 2 ∷ 5 ∷ 5 ∷ (replicate 52 5 ++ (replicate 68 0 ++ (0 ∷ 5 ∷ 0 ∷ 5 ∷ 0 ∷ 2 ∷ (replicate 122 0 ++ (replicate 128 0 ++ (88 ∷ 88 ∷ [])))))))))))
  -- "the data section being the same": the file's own bytes from N x L on
  pub rest : drop 1024 (joined old_twos (converted_out 1 old_twos (replicate 1024 88))) ≡ drop 1024 old_twos

-- ---- the counter and record 1

abbrev pub save_job : Job
save_job = record { saves = true; slot = 5; size = 1000; span = 0; first = 40; written = 0; lowers = false; old = 0; many = 0; boot = []; about = [] }

abbrev pub clear_job : ℕ → Job
clear_job slot = record { saves = false; slot = slot; size = 0; span = 0; first = 0; written = 0; lowers = false; old = 0; many = 0; boot = []; about = [] }

pub record Renewed : Type 0 where
  -- "D = U = counter = type = 0"
  pub blank : blank_sizes 3 512 64 ≡ record { n = 3; d = 0; l = 512; m = 64; u = 0; counter = 0; kind = 0; version = 1 }
  -- D = 40 + 2 - 1 - 3, U = 5, the counter one higher, in a file without scans
  pub raised : sizes_after [] (record { n = 3; d = 9; l = 512; m = 64; u = 4; counter = 7; kind = 1; version = 1 }) save_job ≡ record { n = 3; d = 38; l = 512; m = 64; u = 5; counter = 8; kind = 1; version = 1 }
  pub as_it_was : sizes_after [] (record { n = 3; d = 90; l = 512; m = 64; u = 6; counter = 7; kind = 0; version = 1 }) save_job ≡ record { n = 3; d = 90; l = 512; m = 64; u = 5; counter = 8; kind = 0; version = 1 }
  pub cleared : sizes_after [] (record { n = 3; d = 9; l = 512; m = 64; u = 4; counter = 7; kind = 0; version = 1 }) (clear_job 2) ≡ record { n = 3; d = 9; l = 512; m = 64; u = 2; counter = 8; kind = 0; version = 1 }
  -- "after all ones comes zero"
  pub all_ones : sizes_after file file_sizes (clear_job 3) ≡ record { n = 2; d = 3; l = 512; m = 128; u = 3; counter = 0; kind = 1; version = 1 }

-- 02, 2026-04: the used number. That file has scans in slots 1 to 3 and a U of 4, which is too high
pub record UsedNumber : Type 0 where
  pub highest_3 : highest file file_sizes ≡ 3
  -- "also above U"; an entry with one of the two numbers is not empty
  pub above_use : highest file (record { n = 2; d = 3; l = 512; m = 128; u = 1; counter = 0; kind = 1; version = 1 }) ≡ 3
  pub last_alone : highest (write file 903 (7 ∷ [])) file_sizes ≡ 4
  pub first_alone : highest (write file 899 (7 ∷ [])) file_sizes ≡ 4
  pub gap : highest (write file 768 (replicate 8 0)) file_sizes ≡ 2
  pub none : highest (write file 512 (replicate 512 0)) file_sizes ≡ 0
  -- "the one being saved or cleared counted"
  pub saved_4 : used_after file file_sizes (job_with 4 308 2560 5 0) ≡ 4
  pub saved_2 : used_after file file_sizes (job_with 2 308 2560 5 0) ≡ 3
  pub cleared_3 : used_after (write file 768 (replicate 8 0)) file_sizes (clear_with 3 0 []) ≡ 3
  -- "A clear of that highest slot"; never a save
  pub lowers_3 : (job_in (clear_of file 3)).lowers ≡ true
  pub lowers_1 : (job_in (clear_of file 1)).lowers ≡ false
  pub taken_3 : (job_in (save_of (write file 768 (replicate 8 0)) 3 scan13 bytes54)).slot ≡ 3
  pub never_3 : (job_in (save_of (write file 768 (replicate 8 0)) 3 scan13 bytes54)).lowers ≡ false
  -- "record 1 again with U lowered to what is left, or 0; its counter isn't raised twice"
  pub lowered_2 : lowered (write file 768 (replicate 8 0)) file_sizes ≡ record { n = 2; d = 3; l = 512; m = 128; u = 2; counter = 4294967295; kind = 1; version = 1 }
  pub lowered_0 : lowered (write file 512 (replicate 512 0)) file_sizes ≡ record { n = 2; d = 3; l = 512; m = 128; u = 0; counter = 4294967295; kind = 1; version = 1 }
  -- "a third write", and none of a save
  pub three : total_of file_sizes (clears_with true 3 0 []) ≡ 3
  pub two : total_of file_sizes (clear_with 3 0 []) ≡ 2
  pub of_a_save : total_of file_sizes (job_lowers 0) ≡ 3
  pub third_is : get_or (writes_of file file_sizes (clears_with true 3 0 []) []) 2 no_write ≡ record { at = 0; bytes = boot_bytes (record { n = 2; d = 3; l = 512; m = 128; u = 3; counter = 4294967295; kind = 1; version = 1 }); record_no = 1 }

-- 02, 2026-05: the old run. In that file record 3 is slot 2's, record 4 slot 1's, and record 5, of zeros, slot 3's

-- a clear of its empty slot 4, with this old run
abbrev pub gone_with : ℕ → ℕ → ℕ → Job
gone_with old many written =
    record { saves = false; slot = 4; size = 0; span = 2560; first = 0; written = written; lowers = true; old = old; many = many; boot = take 32 file_boot; about = [] }

pub record OldRun : Type 0 where
  -- "(0, 0 where the slot held nothing)"
  pub nothing : many_of (record { first = 0; last = 0 }) ≡ 0
  pub one : many_of (record { first = 4; last = 4 }) ≡ 1
  pub three : many_of (record { first = 7; last = 9 }) ≡ 3
  pub cleared : ((job_in (clear_of file 1)).old ≡ 4) × ((job_in (clear_of file 1)).many ≡ 1)
  pub refused : ((job_in (clear_of file 4)).old ≡ 0) × ((job_in (clear_of file 4)).many ≡ 0)
  -- "its writes grow by the run's length": data, record 1, entry, the lowered U and then zeros, "lowest first"
  pub total : total_of file_sizes (gone_with 3 2 0) ≡ 5
  pub first_zeros : get_or (writes_of file file_sizes (gone_with 3 2 0) []) 3 no_write ≡ record { at = 1024; bytes = replicate 512 0; record_no = 3 }
  pub then_zeros : get_or (writes_of file file_sizes (gone_with 3 2 0) []) 4 no_write ≡ record { at = 1536; bytes = replicate 512 0; record_no = 4 }
  pub no_more : get_or (writes_of file file_sizes (gone_with 3 2 0) []) 5 no_write ≡ no_write
  -- 14 "also where a record of the old run lies outside N+1 to the room"
  pub all_data : agrees file [] (gone_with 3 3 6) ≡ true
  pub counts : agrees file [] (gone_with 3 3 7) ≡ false
  pub in_the_index : agrees file [] (gone_with 2 1 0) ≡ false
  pub past_the_room : agrees file [] (gone_with 3 4 0) ≡ false
  pub one_past : agrees file [] (gone_with 6 1 0) ≡ false
  pub beyond : agrees file [] (gone_with 18446744073709551615 2 0) ≡ false
  pub not_looked_at : agrees file [] (gone_with 18446744073709551615 0 0) ≡ true
  -- "and also requires the zeros, else 15"
  pub zeros_stand : stands file [] (gone_with 5 1 4) file_sizes ≡ true
  pub not_zeros : stands file [] (gone_with 4 1 4) file_sizes ≡ false
  pub not_all : stands file [] (gone_with 4 2 5) file_sizes ≡ false

-- "whether every data record in no listed scan is all zeros": all three are listed, then record 5 is not, then record 3
pub record Gaps : Type 0 where
  pub listed : gaps_of file ≡ Ok true
  pub zeros : gaps_of (write file 768 (replicate 8 0)) ≡ Ok true
  pub last_byte : gaps_of (write (write file 768 (replicate 8 0)) 2559 (1 ∷ [])) ≡ Ok false
  pub left : gaps_of (write file 640 (replicate 8 0)) ≡ Ok false
  -- a record past N+D is none
  pub beyond : gaps_of (file ++ replicate 512 7) ≡ Ok true
  pub refused : gaps_of [] ≡ Err TooShort

-- ---- scans without an index

-- that file with other bytes in its first scan, in record 3, and in its second, in record 4
abbrev pub first_with : ℕ → List ℕ → List ℕ
first_with at bytes = write file (1024 + at) bytes

abbrev pub second_with : ℕ → List ℕ → List ℕ
second_with at bytes = write file (1536 + at) bytes

-- 02, 2026-06: "the first record, the last by HEADLEN + DATALEN and class 1's third word, SCAN"; record 5 holds no scan
pub record Finds : Type 0 where
  pub found : report_of file (replicate 6 9) ≡ Ok 2
  pub lines : report_out file (replicate 8 9) ≡ 3 ∷ 3 ∷ 0 ∷ 4 ∷ 4 ∷ 0 ∷ 9 ∷ 9 ∷ []
  -- bytes 48 to 55 of the run
  pub word : report_out (first_with 48 (1 ∷ 2 ∷ 3 ∷ 4 ∷ 5 ∷ 6 ∷ 7 ∷ 8 ∷ 9 ∷ [])) (replicate 6 9) ≡ 3 ∷ 3 ∷ 72623859790382856 ∷ 4 ∷ 4 ∷ 0 ∷ []
  -- DATALEN 208, 304 + 208 being 512, and 256: "go on after the last"
  pub one_record : report_out (first_with 40 (double 64 106 0)) (replicate 6 9) ≡ 3 ∷ 3 ∷ 0 ∷ 4 ∷ 4 ∷ 0 ∷ []
  pub two_records : report_out (first_with 40 (double 64 112 0)) (replicate 6 9) ≡ 3 ∷ 4 ∷ 0 ∷ 9 ∷ 9 ∷ 9 ∷ []
  -- "where not, go to the next record": 12 classes in the first; and a scan in the last data record
  pub next_record : report_out (first_with 1 (12 ∷ [])) (replicate 6 9) ≡ 4 ∷ 4 ∷ 0 ∷ 9 ∷ 9 ∷ 9 ∷ []
  pub last_record : report_out (write file 2048 scan13) (replicate 9 9) ≡ 3 ∷ 3 ∷ 0 ∷ 4 ∷ 4 ∷ 0 ∷ 5 ∷ 5 ∷ 0 ∷ []
  -- "the run to the end of the data section": DATALEN 728, 296 + 728 being 1,024, and 732, with a record more lent
  pub to_the_end : report_out (second_with 40 (double 64 134 192)) (replicate 6 9) ≡ 3 ∷ 3 ∷ 0 ∷ 4 ∷ 5 ∷ 0 ∷ []
  pub past_the_end : report_out (second_with 40 (double 64 134 224) ++ replicate 512 0) (replicate 6 9) ≡ 3 ∷ 3 ∷ 0 ∷ 9 ∷ 9 ∷ 9 ∷ []
  -- "From record N+1 on", whatever the index holds: junk, and a scan
  pub junk : report_out (write file 512 (replicate 512 255)) (replicate 6 9) ≡ 3 ∷ 3 ∷ 0 ∷ 4 ∷ 4 ∷ 0 ∷ []
  pub in_the_index : report_out (write file 512 scan13) (replicate 6 9) ≡ 3 ∷ 3 ∷ 0 ∷ 4 ∷ 4 ∷ 0 ∷ []
  -- both forms; the first scan's magic number is 1
  pub old : report_out old_file (replicate 6 9) ≡ 3 ∷ 3 ∷ 0 ∷ 4 ∷ 4 ∷ 0 ∷ []
  -- "Refusals: 1 to 5, then 17"
  pub no_room : (report_of file (replicate 5 9) ≡ Err TooSmall) × (report_out file (replicate 5 9) ≡ replicate 5 9)
  pub short : report_of (take 511 file) [] ≡ Err TooShort
  pub version_2 : report_of (write file 31 (2 ∷ [])) [] ≡ Err UnknownForm
  pub range : report_of (write file 3 (1 ∷ [])) [] ≡ Err OutOfRange
  pub cut : report_of (take 2559 file) [] ≡ Err PastEnd
  -- D is 0, and 1
  pub no_data : report_of (write file 7 (0 ∷ [])) [] ≡ Ok 0
  pub one_data_record : report_out (write file 7 (1 ∷ [])) (replicate 6 9) ≡ 3 ∷ 3 ∷ 0 ∷ 9 ∷ 9 ∷ 9 ∷ []

-- ---- the slow link

-- N 2, L 512, M 64, so 8 slots, in either form
abbrev pub eight_slots : ℕ → Sizes
eight_slots v = record { n = 2; d = 0; l = 512; m = 64; u = 0; counter = 0; kind = 0; version = v }

-- a link for that file, of 2,560 bytes and with an index to byte 1,024, whose bootstrap stands in it; and one that was given this length
abbrev pub link_at : ℕ → ℕ → Link
link_at came ends = record { span = 2560; came = came; ends = ends; boot = take 32 file_boot }

abbrev pub link_of : ℕ → ℕ → Link
link_of span came = record { span = span; came = came; ends = 0; boot = take 32 file_boot }

-- a row with the runs of its four slots, and nines up to 8,192
abbrev pub link-row : List ℕ
link-row = 4 ∷ 4 ∷ 3 ∷ 3 ∷ 5 ∷ 5 ∷ 0 ∷ 0 ∷ replicate 8184 9

-- 02, 2026-07: what a piece leaves in link and row, and what finish says
pub record Links : Type 0 where
  -- the bootstrap's bytes of a piece: its last one; all of a short piece; none where the length is refused
  pub head_last : head_of (link_of 512 31) (7 ∷ 7 ∷ 7 ∷ []) ≡ 1
  pub head_all : head_of (link_of 512 0) (7 ∷ 7 ∷ 7 ∷ []) ≡ 3
  pub head_short : head_of (link_of 511 0) (7 ∷ 7 ∷ 7 ∷ []) ≡ 0
  -- where the index ends, "over the given length"
  pub end : index_end 2560 file_sizes ≡ 1024
  pub no_end : index_end 2559 file_sizes ≡ 0
  -- that is known with byte 31 and not before
  pub byte_30 : took_link (link_at 30 0) (0 ∷ []) ≡ link_at 31 0
  pub byte_31 : headed (link_at 31 0) (1 ∷ 8 ∷ 8 ∷ []) ≡ link_at 32 1024
  pub past_byte_31 : took_link (link_at 31 0) (1 ∷ 8 ∷ 8 ∷ []) ≡ link_at 34 1024
  pub version_2 : took_link (link_at 31 0) (2 ∷ 8 ∷ 8 ∷ []) ≡ record { span = 2560; came = 32; ends = 0; boot = write (take 32 file_boot) 31 (2 ∷ []) }
  -- "bytes past N x L" count for nothing
  pub to_the_end : took_link (link_at 1022 1024) (8 ∷ 8 ∷ 8 ∷ []) ≡ link_at 1024 1024
  -- one byte more of a number, in either form; what stood before it goes
  pub more : more_of 1 305419896 154 ≡ 878082202
  pub more_wraps : more_of 1 4294967295 254 ≡ 4294967294
  pub more_old : more_of 0 305419896 154 ≡ 30874
  pub four_bytes : shifted 1 4294967295 (1 ∷ 2 ∷ 3 ∷ 4 ∷ []) ≡ 16909060
  pub minus_two : shifted 0 5 (255 ∷ 254 ∷ []) ≡ 4294967294
  -- first and last of slot 1, and of slot 2
  pub places : table 4 (number_at (eight_slots 1)) ≡ 512 ∷ 516 ∷ 576 ∷ 580 ∷ []
  pub places_old : table 4 (number_at (eight_slots 0)) ≡ 512 ∷ 514 ∷ 576 ∷ 578 ∷ []
  -- a number that is cut in two: bytes 510 to 513 come, then 514 to 518, which are its other two and three of the next number's
  pub cut_first : element_after (eight_slots 1) 510 (9 ∷ 9 ∷ 1 ∷ 2 ∷ []) (7 ∷ 8 ∷ []) 0 ≡ 459010
  pub cut_then : element_after (eight_slots 1) 514 (3 ∷ 4 ∷ 5 ∷ 6 ∷ 7 ∷ []) (459010 ∷ 8 ∷ []) 0 ≡ 16909060
  pub cut_last : element_after (eight_slots 1) 514 (3 ∷ 4 ∷ 5 ∷ 6 ∷ 7 ∷ []) (459010 ∷ 8 ∷ []) 1 ≡ 134546951
  pub cut_old : element_after (eight_slots 0) 513 (254 ∷ 9 ∷ 9 ∷ []) (255 ∷ []) 0 ≡ 4294967294
  pub no_row : element_after (eight_slots 0) 512 (1 ∷ []) [] 0 ≡ 1
  -- 16 elements; none where N is 1
  pub elements : elements_of (eight_slots 1) ≡ 16
  pub no_elements : elements_of (record { n = 1; d = 0; l = 512; m = 64; u = 0; counter = 0; kind = 0; version = 1 }) ≡ 0
  -- of one slot; "elements past" the index's are not touched
  pub row : row_after (record { n = 2; d = 0; l = 512; m = 512; u = 0; counter = 0; kind = 0; version = 1 }) 508 (8 ∷ 8 ∷ 8 ∷ 8 ∷ 0 ∷ 0 ∷ 0 ∷ 3 ∷ 0 ∷ 0 ∷ 0 ∷ 4 ∷ 8 ∷ []) (9 ∷ 9 ∷ 5 ∷ 6 ∷ []) ≡ 3 ∷ 4 ∷ 5 ∷ 6 ∷ []
  pub row_of_a_piece : took_row (link_at 511 1024) (8 ∷ 0 ∷ 0 ∷ 0 ∷ 4 ∷ []) (replicate 10 9) ≡ 4 ∷ replicate 9 9
  -- "17 at any call lent a shorter row": a link of zeros, the link as it was, and the row as it was
  pub begins : begin_of 700 (replicate 8192 9) ≡ Ok (record { span = 700; came = 0; ends = 0; boot = replicate 32 0 })
  pub begins_not : begin_of 700 (replicate 8191 9) ≡ Err TooSmall
  pub no_link : link_in (fresh_link 0) (begin_of 700 (replicate 8191 9)) ≡ record { span = 0; came = 0; ends = 0; boot = replicate 32 0 }
  pub takes : take_of (link_at 1022 1024) (8 ∷ []) (replicate 8193 9) ≡ Ok (link_at 1023 1024)
  pub takes_not : take_of (link_at 1022 1024) (8 ∷ []) (replicate 8191 9) ≡ Err TooSmall
  pub link_stays : link_in (link_at 1022 1024) (take_of (link_at 1022 1024) (8 ∷ []) (replicate 8191 9)) ≡ link_at 1022 1024
  pub takes_row : take_row (link_at 511 1024) (8 ∷ 0 ∷ 0 ∷ 0 ∷ 4 ∷ []) (replicate 8192 9) ≡ 4 ∷ replicate 8191 9
  pub takes_no_row : take_row (link_at 511 1024) (8 ∷ 0 ∷ 0 ∷ 0 ∷ 4 ∷ []) (replicate 10 9) ≡ replicate 10 9
  -- "Finish: 17; length < 512: 1; fewer than 32 bytes came: 20; the bootstrap's own; fewer than N x L came: 20; then 6 to 8"
  pub small : finish_of (link_of 511 31) (replicate 8191 9) ≡ Err TooSmall
  pub short : finish_of (link_of 511 31) link-row ≡ Err TooShort
  pub no_boot : finish_of (link_of 512 31) link-row ≡ Err NotAllCame
  pub past_length : finish_of (link_of 2559 32) link-row ≡ Err PastEnd
  pub unknown : finish_of (record { span = 2560; came = 32; ends = 0; boot = write (take 32 file_boot) 31 (2 ∷ []) }) link-row ≡ Err UnknownForm
  pub not_all : finish_of (link_at 1023 1024) (replicate 8192 9) ≡ Err NotAllCame
  pub opens : finish_of (link_at 1024 1024) link-row ≡ Ok file_sizes
  pub shared : finish_of (link_at 1024 1024) (4 ∷ 4 ∷ 3 ∷ 4 ∷ drop 4 link-row) ≡ Err (SharedRecord 2)

-- ---- zeros

pub record Zeros : Type 0 where
  -- "writes nothing (record 0)"
  pub write_none : no_write ≡ record { at = 0; bytes = []; record_no = 0 }
  pub job : no_job ≡ record { saves = false; slot = 0; size = 0; span = 0; first = 0; written = 0; lowers = false; old = 0; many = 0; boot = replicate 32 0; about = replicate 54 0 }
  pub entry : no_entry ≡ record { first = 0; last = 0; horizontal = 0; vertical = 0; source = replicate 16 0; scan = 0; field4 = 0; field8 = 0; lst = 0; date = 0; mode = pos 0; number = pos 0; position = pos 0; magic = pos 0; kind = Other (of_bits binary32 0) (of_bits binary64 0) }

-- ---- the lister

-- "reads one file of at most 65,536 bytes .. for a longer input it prints `too long`"
pub record Prints : Type 0 where
  -- 0, 9, 10 and 1307 in decimal
  pub zero : decimal 0 ≡ 48 ∷ []
  pub nine : decimal 9 ≡ 57 ∷ []
  pub ten : decimal 10 ≡ 49 ∷ 48 ∷ []
  pub more : decimal 1307 ≡ 49 ∷ 51 ∷ 48 ∷ 55 ∷ []
  pub most : decimal 18446744073709551615 ≡ 49 ∷ 56 ∷ 52 ∷ 52 ∷ 54 ∷ 55 ∷ 52 ∷ 52 ∷ 48 ∷ 55 ∷ 51 ∷ 55 ∷ 48 ∷ 57 ∷ 53 ∷ 53 ∷ 49 ∷ 54 ∷ 49 ∷ 53 ∷ []
  pub at_most : (f : List ℕ) → length f ≡ 65536 → printed f ≡ list_text f
  pub longer : (f : List ℕ) → length f ≡ 65537 → printed f ≡ 116 ∷ 111 ∷ 111 ∷ 32 ∷ 108 ∷ 111 ∷ 110 ∷ 103 ∷ 10 ∷ []
  -- "slots 4 used 4 scans 3", "1 4 4", "2 3 3", "3 5 5"
  pub lists : printed file ≡ 115 ∷ 108 ∷ 111 ∷ 116 ∷ 115 ∷ 32 ∷ 52 ∷ 32 ∷ 117 ∷ 115 ∷ 101 ∷ 100 ∷ 32 ∷ 52 ∷ 32 ∷ 115 ∷ 99 ∷ 97 ∷ 110 ∷ 115 ∷ 32 ∷ 51 ∷ 10 ∷ 49 ∷ 32 ∷ 52 ∷ 32 ∷ 52 ∷ 10 ∷ 50 ∷ 32 ∷ 51 ∷ 32 ∷ 51 ∷ 10 ∷ 51 ∷ 32 ∷ 53 ∷ 32 ∷ 53 ∷ 10 ∷ []
  -- "refused 1 slot 0"
  pub refuses : printed [] ≡ 114 ∷ 101 ∷ 102 ∷ 117 ∷ 115 ∷ 101 ∷ 100 ∷ 32 ∷ 49 ∷ 32 ∷ 115 ∷ 108 ∷ 111 ∷ 116 ∷ 32 ∷ 48 ∷ 10 ∷ []
