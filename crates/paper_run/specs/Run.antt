-- 01, "Numbers to hold us to": what the paper says of its run, line by line.
use Rattle.std.specs.Prelude.{ℕ, ◌+◌, ◌≡◌, true, false, length, take, drop, replicate, Ok, Err}
use mathlib.Core.List.{List, [], ◌∷◌, Memᴰ}
use Rattle.lent.specs.Part.{part}
use Rattle.lent.specs.Write.{write}
use Rattle.paper.specs.declared.sizes.Sizes.{Sizes}
use Rattle.paper.specs.Answers.{Opened, taken_in}
use Rattle.paper.specs.declared.refusal.Refusal.TheVariants.{BadEntry, Disagrees, Differs, NotAllCame}
use Rattle.paper.specs.declared.job.Step.TheVariants.{Wrote, Saved, Cleared}
use Rattle.paper.specs.Refusals.{taken_says}
use Rattle.paper.specs.Sizes.{sizes_of, capacity_of, room_of}
use Rattle.paper.specs.Index.{run_of, shown_of, open_of}
use Rattle.paper.specs.Scan.{headlen, datalen, Rule, ruled_of, part_of}
use Rattle.paper.specs.Look.{list_of, read_of}
use Rattle.paper.specs.Store.{records_for, many_of, blank_of, save_of, job_in}
use Rattle.paper.specs.Step.{step_answer}
use Rattle.paper.specs.Gaps.{gaps_of, GapsZero}
use Rattle.paper.specs.Find.{report_out}
use Rattle.paper.specs.Lister.{list_text}
use Rattle.paper_run.specs.Scans.{scan1, scan2, scan3, scan4, scan5}
use Rattle.paper_run.specs.Files.{job_after, saving, saved, clearing, cleared, about, lent, file0, file1, file2, file3, file4, file5, broken, over_link}

-- "slots 16 used 9 scans 2", "1 7 8" and "9 6 6", each with its newline
abbrev pub three_lines : List ℕ
three_lines =
    115 ∷ 108 ∷ 111 ∷ 116 ∷ 115 ∷ 32 ∷ 49 ∷ 54 ∷ 32 ∷ 117 ∷ 115 ∷ 101 ∷ 100 ∷ 32 ∷ 57 ∷ 32 ∷ 115 ∷ 99 ∷ 97 ∷ 110 ∷ 115 ∷ 32 ∷ 50 ∷ 10
    ∷ 49 ∷ 32 ∷ 55 ∷ 32 ∷ 56 ∷ 10
    ∷ 57 ∷ 32 ∷ 54 ∷ 32 ∷ 54 ∷ 10 ∷ []

-- "refused 6 slot 3", and "refused 1 slot 0" for an empty file
abbrev pub refused_slot : List ℕ
refused_slot = 114 ∷ 101 ∷ 102 ∷ 117 ∷ 115 ∷ 101 ∷ 100 ∷ 32 ∷ 54 ∷ 32 ∷ 115 ∷ 108 ∷ 111 ∷ 116 ∷ 32 ∷ 51 ∷ 10 ∷ []

abbrev pub refused_short : List ℕ
refused_short = 114 ∷ 101 ∷ 102 ∷ 117 ∷ 115 ∷ 101 ∷ 100 ∷ 32 ∷ 49 ∷ 32 ∷ 115 ∷ 108 ∷ 111 ∷ 116 ∷ 32 ∷ 48 ∷ 10 ∷ []

pub record Run : Type 0 where
  -- "blank 4,096 bytes .. (capacity 16, room 8)"
  pub blanked : blank_of lent 3 512 64 ≡ Ok tt
  pub capacity : capacity_of (sizes_of file0) ≡ 16
  pub room : room_of (sizes_of file0) (length file0) ≡ 8
  -- "records written 4, 5, 1, 2, Saved at step 5"
  pub first_save : saving 5 file0 1 scan1 ≡ Ok (Wrote 4 1) ∷ Ok (Wrote 5 2) ∷ Ok (Wrote 1 3) ∷ Ok (Wrote 2 4) ∷ Ok (Saved 0 4) ∷ []
  -- "records 6, 1, 3"
  pub second_save : saving 4 file1 9 scan2 ≡ Ok (Wrote 6 1) ∷ Ok (Wrote 1 2) ∷ Ok (Wrote 3 3) ∷ Ok (Saved 0 3) ∷ []
  -- "7, 8, 1, 2"; 02, 2026-05: "the third save then ends with 4 and 5"
  pub third_save : saving 7 file2 1 scan3 ≡ Ok (Wrote 7 1) ∷ Ok (Wrote 8 2) ∷ Ok (Wrote 1 3) ∷ Ok (Wrote 2 4) ∷ Ok (Wrote 4 5) ∷ Ok (Wrote 5 6) ∷ Ok (Saved 0 6) ∷ []
  -- "The lister then prints exactly"
  pub text : list_text file3 ≡ three_lines
  -- "A file refused prints one line"
  pub text_slot : list_text broken ≡ refused_slot
  pub text_short : list_text [] ≡ refused_short
  -- "A read answers the first HEADLEN + DATALEN bytes of the entry's records"
  pub read_1 : part_of file3 (read_of file3 1) ≡ scan3
  pub read_9 : part_of file3 (read_of file3 9) ≡ scan2
  -- "Next, 1,024 bytes to slot 2 take 4 and 5"
  pub fourth_save : saving 5 file3 2 scan4 ≡ Ok (Wrote 4 1) ∷ Ok (Wrote 5 2) ∷ Ok (Wrote 1 3) ∷ Ok (Wrote 2 4) ∷ Ok (Saved 0 4) ∷ []
  -- "then 512 bytes to slot 3 get 13"
  pub no_room : (taken_says (taken_in (save_of file4 3 scan5 about))).number ≡ 13

-- 02, 2026-04, on the file that the lister printed: scans in slots 1 and 9, U 9, and a counter of 3
pub record Lowered : Type 0 where
  -- "A clear of that highest slot gets a third write", and then one for the record that it clears
  pub highest_clear : clearing 5 file3 9 ≡ Ok (Wrote 1 1) ∷ Ok (Wrote 3 2) ∷ Ok (Wrote 1 3) ∷ Ok (Wrote 6 4) ∷ Ok (Cleared 0 4) ∷ []
  -- "U lowered to what is left .. its counter isn't raised twice"
  pub lowered : sizes_of file5 ≡ record { n = 3; d = 5; l = 512; m = 64; u = 1; counter = 4; kind = 0; version = 1 }
  -- "or 0"
  pub last_clear : clearing 6 file5 1 ≡ Ok (Wrote 1 1) ∷ Ok (Wrote 2 2) ∷ Ok (Wrote 1 3) ∷ Ok (Wrote 7 4) ∷ Ok (Wrote 8 5) ∷ Ok (Cleared 0 5) ∷ []
  pub none_left : sizes_of (cleared 6 file5 1) ≡ record { n = 3; d = 5; l = 512; m = 64; u = 0; counter = 5; kind = 0; version = 1 }
  -- any other clear: two writes, and then the zeros
  pub other_clear : clearing 5 file3 1 ≡ Ok (Wrote 1 1) ∷ Ok (Wrote 2 2) ∷ Ok (Wrote 7 3) ∷ Ok (Wrote 8 4) ∷ Ok (Cleared 0 4) ∷ []
  pub still_9 : (sizes_of (cleared 5 file3 1)).u ≡ 9
  -- "Open still accepts a U too high, as after a cut": after the index write U is 9 yet, and the next save sets it right
  pub cut : open_of (cleared 2 file3 9) ≡ Ok (record { n = 3; d = 5; l = 512; m = 64; u = 9; counter = 4; kind = 0; version = 1 })
  pub mended : (sizes_of (saved 4 (cleared 2 file3 9) 3 scan2)).u ≡ 3

-- 02, 2026-05: the old run and the question of the gaps. The third save takes records 7 and 8 and gives up 4 and 5
pub record Zeroed : Type 0 where
  -- "whether every data record in no listed scan is all zeros": no data record yet; then each is listed; then 4 and 5 are zeros
  pub none_yet : gaps_of file0 ≡ Ok true
  pub all_listed : gaps_of file2 ≡ Ok true
  pub zeros : gaps_of file3 ≡ Ok true
  -- "After a cut some may be left": the new scan's records while its entry is not written, then 4 and 5, then 5 alone
  pub cut_before : gaps_of (saved 3 file2 1 scan3) ≡ Ok false
  pub cut_after : gaps_of (saved 4 file2 1 scan3) ≡ Ok false
  pub cut_between : gaps_of (saved 5 file2 1 scan3) ≡ Ok false
  pub cut_at_the_end : gaps_of (saved 6 file2 1 scan3) ≡ Ok true
  -- what a cut left no later job zeroes: a clear of slot 1 that is cut before record 5, and then one of slot 9 that is confirmed
  pub cut_clear : gaps_of (cleared 3 file2 1) ≡ Ok false
  pub not_mended : gaps_of (cleared 5 (cleared 3 file2 1) 9) ≡ Ok false
  -- "A confirmed replacement stepped again once a later save's data stand in its zeroed records gets 15"
  pub stepped_again : step_answer (saved 1 file3 2 scan4) scan3 (job_after 7 file2 scan3 (job_in (save_of file2 1 scan3 about))) ≡ Err Differs

pub record ZeroedPast : Type 0 where
  -- a cut before record 1: records 7 and 8 have the new scan, and N+D is 6 still. They are no data records, so nobody asks about them
  pub past_the_data : (sizes_of (saved 2 file2 1 scan3)).d ≡ 3
  pub scan_past : part 3072 4072 (saved 2 file2 1 scan3) ≡ scan3
  pub cut_first : gaps_of (saved 2 file2 1 scan3) ≡ Ok true
  -- and, once that save has written its record 1, 14: the job's 32 bytes are no longer the file's
  pub stepped_later : step_answer (saved 3 file3 2 scan4) scan3 (job_after 7 file2 scan3 (job_in (save_of file2 1 scan3 about))) ≡ Err Disagrees

-- 02, 2026-06: the scans that are found. That file opens, its free records are zeros, and its scans keep the rules and fill their records: "the reported runs
-- are the listed ones, each once, in record order". The bytes of their words are all 1, 2 or 3
pub record Found : Type 0 where
  pub listed : report_out file3 (replicate 7 0) ≡ 6 ∷ 6 ∷ 144680345676153346 ∷ 7 ∷ 8 ∷ 217020518514230019 ∷ 0 ∷ []
  -- "its index pages full of junk and a good record 1"
  pub lost : report_out (write file3 512 (replicate 1024 165)) (replicate 6 0) ≡ 6 ∷ 6 ∷ 144680345676153346 ∷ 7 ∷ 8 ∷ 217020518514230019 ∷ []
  -- after a cut the old scan is left in records 4 and 5, and is found too
  pub left : report_out (saved 4 file2 1 scan3) (replicate 9 0) ≡ 4 ∷ 5 ∷ 72340172838076673 ∷ 6 ∷ 6 ∷ 144680345676153346 ∷ 7 ∷ 8 ∷ 217020518514230019 ∷ []

abbrev pub sizes3 : Sizes
sizes3 = record { n = 3; d = 5; l = 512; m = 64; u = 9; counter = 3; kind = 0; version = 1 }

-- "On a file that opens, whose free records are all zeros and whose scans all obey the rules and fill exactly their records": the premises, as `FindsListed` in
-- `demands` asks for them
pub record FoundPremises : Type 0 where
  pub opens : open_of file3 ≡ Ok sizes3
  pub free : GapsZero file3 sizes3
  pub obey : (s : ℕ) → Memᴰ s (list_of file3) → (n : ℕ) → Rule (shown_of file3 sizes3 s) false n
  pub fill : (s : ℕ) → Memᴰ s (list_of file3)
      → records_for sizes3 (headlen (shown_of file3 sizes3 s) + datalen (shown_of file3 sizes3 s)) ≡ many_of (run_of file3 sizes3 s)

-- after a cut the new scan is found once record 1 has it in the data section; but before that it lies past N+D, in records 7 and 8, and is not found
pub record FoundCut : Type 0 where
  pub reached : report_out (saved 3 file2 1 scan3) (replicate 9 0) ≡ 4 ∷ 5 ∷ 72340172838076673 ∷ 6 ∷ 6 ∷ 144680345676153346 ∷ 7 ∷ 8 ∷ 217020518514230019 ∷ []
  pub not_past : report_out (saved 2 file2 1 scan3) (replicate 9 0) ≡ 4 ∷ 5 ∷ 72340172838076673 ∷ 6 ∷ 6 ∷ 144680345676153346 ∷ 0 ∷ 0 ∷ 0 ∷ []

-- 02, 2026-07: that file over the slow link, cut in its bootstrap, after 14 bytes, and in slot 9's first number, which is bytes 1,024 to 1,027. Its index ends
-- after 1,536
abbrev pub opened3 : Opened
opened3 = Ok (record { n = 3; d = 5; l = 512; m = 64; u = 9; counter = 3; kind = 0; version = 1 })

pub record Linked : Type 0 where
  -- "The answer equals that of open on the whole file"
  pub opens : open_of file3 ≡ opened3
  pub linked : over_link (take 14 file3 ∷ part 14 1026 file3 ∷ drop 1026 file3 ∷ []) ≡ opened3
  -- "20 if .. fewer than 32 bytes came, or if .. fewer than N x L came"
  pub bootstrap_cut : over_link (take 14 file3 ∷ []) ≡ Err NotAllCame
  pub number_cut : over_link (take 14 file3 ∷ part 14 1026 file3 ∷ []) ≡ Err NotAllCame
  pub byte_short : over_link (take 14 file3 ∷ part 14 1026 file3 ∷ part 1026 1535 file3 ∷ []) ≡ Err NotAllCame
  -- "Bytes past the index are passed over", and need not come
  pub index_alone : over_link (take 14 file3 ∷ part 14 1026 file3 ∷ part 1026 1536 file3 ∷ []) ≡ opened3
  -- the entry of slot 3 names record 1; cut in its first number
  pub broken_entry : over_link (take 14 broken ∷ part 14 642 broken ∷ drop 642 broken ∷ []) ≡ Err (BadEntry 3)

-- the scans keep the rules
pub record Kept : Type 0 where
  pub first : ruled_of scan1 true ≡ Ok (256, 744)
  pub second : ruled_of scan2 true ≡ Ok (256, 256)
  pub third : ruled_of scan3 true ≡ Ok (256, 744)
  pub fourth : ruled_of scan4 true ≡ Ok (256, 768)
  pub fifth : ruled_of scan5 true ≡ Ok (256, 256)
