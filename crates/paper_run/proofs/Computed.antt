-- The paper's run, by computation.
use Rattle.std.specs.Prelude.{Ok}
use Prim.Native.Nat.{ℕ, ◌+◌}
use mathlib.Core.Path.{◌≡◌, refl, sym, ◌∙◌, subst}
use mathlib.Core.Bool.{true, false}
use mathlib.Core.List.{List, [], ◌∷◌, Memᴰ}
use mathlib.Core.Logic.{⊎_elim}
use lib.Ieee.{of_bits}
use Rattle.lent.specs.Number.{number, value, digit, bytes, numbers, int16, widened}
use Rattle.lent.specs.Lists.{table, every, those, threes}
use Rattle.lent.specs.Least.{least}
use Rattle.lent.specs.Greatest.{greatest}
use Rattle.lent.specs.Write.{write, zeros, pad}
use Rattle.lent.specs.Same.{same}
use Rattle.whole.specs.Number.{exactly, whole_float, whole_of}
use Rattle.whole.specs.Length.{length_of, is_whole, size_of}
use Rattle.paper.specs.Sizes.{word_at, counter_of, type_of, boot_bytes, shaped, in_range}
use Rattle.paper.specs.Index.{run_of, shown_of, row_run, empty, in_data, bad_at, above_at, shares, sharer, shared_at, open_of, slots_of}
use Rattle.paper.specs.Entry.{version_one, entry_bytes}
use Rattle.paper.specs.Scan.{headlen, datalen, Rule, classes_of, starts_of, rule1, rule2, rule3, rule4, rule5, rule6, rising, ruled_of}
use Rattle.paper.specs.Look.{list_of, read_of}
use Rattle.paper.specs.Store.{records_for, many_of, blank_file, blank_of, free_at, free_place, save_of, clear_of, data_from, writes_of}
use Rattle.paper.specs.Step.{agrees, step_file, step_job, stands, step_answer}
use Rattle.paper.specs.Gaps.{left_at, gaps_zero, gaps_of, GapsZero}
use Rattle.paper.specs.Find.{takes_at, find_turns, find_of, report_out}
use Rattle.paper.specs.Link.{head_of, index_end, took_link, more_of, shifted, element_after, elements_of, row_after, took_row, begin_of, take_of, take_row, finish_of}
use Rattle.paper.specs.Lister.{digits, lines_text, list_text}
use Rattle.paper.proofs.Rules.{keeps-lengths}
use Rattle.paper.proofs.Rules as rules
use Rattle.paper.proofs.Reasons.{kept_rule}
use Rattle.paper.proofs.Gaps.{gaps-true}
use Rattle.paper_run.specs.Scans.{preamble, double, scan_of}
use Rattle.paper_run.specs.Files.{file0, file1, file2, file3, file4, file5, broken}
use Rattle.paper_run.specs.Run.{sizes3, Run, Lowered, Zeroed, ZeroedPast, Found, FoundPremises, FoundCut, Linked, Kept}

pub kept : Kept
unfolding number value int16 table every exactly whole_float whole_of of_bits length_of is_whole size_of classes_of starts_of rule1 rule2 rule3 rule4 rule5 rule6 rising ruled_of preamble double scan_of
kept = record { first = refl; second = refl; third = refl; fourth = refl; fifth = refl }

pub run : Run
unfolding number value digit bytes numbers int16 table every those least greatest write zeros pad same exactly whole_float whole_of of_bits length_of is_whole size_of word_at counter_of type_of boot_bytes shaped in_range empty in_data bad_at above_at shares sharer shared_at open_of slots_of version_one entry_bytes classes_of starts_of rule1 rule2 rule3 rule4 rule5 rule6 rising ruled_of read_of blank_file blank_of free_at free_place save_of data_from writes_of agrees step_file step_job stands step_answer digits lines_text list_text preamble double scan_of file0 file1 file2 file3 file4 broken
run =
    record {
      blanked = refl;
      capacity = refl;
      room = refl;
      first_save = refl;
      second_save = refl;
      third_save = refl;
      text = refl;
      text_slot = refl;
      text_short = refl;
      read_1 = refl;
      read_9 = refl;
      fourth_save = refl;
      no_room = refl;
    }

pub lowered : Lowered
unfolding number value digit bytes numbers int16 table every least greatest write zeros pad same exactly whole_float whole_of of_bits length_of is_whole size_of word_at counter_of type_of boot_bytes shaped in_range empty in_data bad_at above_at shares sharer shared_at open_of version_one entry_bytes classes_of starts_of rule1 rule2 rule3 rule4 rule5 rule6 rising ruled_of blank_file free_at free_place save_of clear_of data_from writes_of agrees step_file step_job stands step_answer preamble double scan_of file0 file1 file2 file3 file5
lowered =
    record {
      highest_clear = refl;
      lowered = refl;
      last_clear = refl;
      none_left = refl;
      other_clear = refl;
      still_9 = refl;
      cut = refl;
      mended = refl;
    }

pub zeroed : Zeroed
unfolding number value digit bytes numbers int16 table every least greatest write zeros pad same exactly whole_float whole_of of_bits length_of is_whole size_of word_at counter_of type_of boot_bytes shaped in_range empty in_data bad_at above_at shares sharer shared_at open_of version_one entry_bytes classes_of starts_of rule1 rule2 rule3 rule4 rule5 rule6 rising ruled_of blank_file free_at free_place save_of clear_of data_from writes_of agrees step_file step_job stands step_answer left_at gaps_zero gaps_of preamble double scan_of file0 file1 file2 file3
zeroed =
    record {
      none_yet = refl;
      all_listed = refl;
      zeros = refl;
      cut_before = refl;
      cut_after = refl;
      cut_between = refl;
      cut_at_the_end = refl;
      cut_clear = refl;
      not_mended = refl;
      stepped_again = refl;
    }

pub zeroed_past : ZeroedPast
unfolding number value digit bytes numbers int16 table every least greatest write zeros pad same exactly whole_float whole_of of_bits length_of is_whole size_of word_at counter_of type_of boot_bytes shaped in_range empty in_data bad_at above_at shares sharer shared_at open_of version_one entry_bytes classes_of starts_of rule1 rule2 rule3 rule4 rule5 rule6 rising ruled_of blank_file free_at free_place save_of clear_of data_from writes_of agrees step_file step_job stands step_answer left_at gaps_zero gaps_of preamble double scan_of file0 file1 file2 file3
zeroed_past = record { past_the_data = refl; scan_past = refl; cut_first = refl; stepped_later = refl }

-- the finds' three premises: the file opens, and what is listed and shown is computed; the laws say what that means
record Listing : Type 0 where
  opens : open_of file3 ≡ Ok sizes3
  free : gaps_zero file3 sizes3 ≡ true
  slots : list_of file3 ≡ 1 ∷ 9 ∷ []
  first : ruled_of (shown_of file3 sizes3 1) false ≡ Ok (256, 744)
  ninth : ruled_of (shown_of file3 sizes3 9) false ≡ Ok (256, 256)
  first-many : many_of (run_of file3 sizes3 1) ≡ 2
  ninth-many : many_of (run_of file3 sizes3 9) ≡ 1

listing : Listing
unfolding number value digit bytes numbers int16 table every those least greatest write zeros pad same exactly whole_float whole_of of_bits length_of is_whole size_of word_at counter_of type_of boot_bytes shaped in_range empty in_data bad_at above_at shares sharer shared_at open_of slots_of version_one entry_bytes classes_of starts_of rule1 rule2 rule3 rule4 rule5 rule6 rising ruled_of blank_file free_at free_place save_of data_from writes_of agrees step_file step_job stands step_answer left_at gaps_zero preamble double scan_of file0 file1 file2 file3
listing = record { opens = refl; free = refl; slots = refl; first = refl; ninth = refl; first-many = refl; ninth-many = refl }

-- what holds of slots 1 and 9 holds of every slot listed
each-listed : (P : ℕ → Type 0) → P 1 → P 9 → (s : ℕ) → Memᴰ s (list_of file3) → P s
each-listed P a b s m =
    let in_two : Memᴰ s (1 ∷ 9 ∷ []) = subst (λ (xs : List ℕ). Memᴰ s xs) listing.slots m in
    ⊎_elim (λ (e : s ≡ 1). subst P (sym e) a)
    (λ (h : Memᴰ s (9 ∷ [])). ⊎_elim (λ (e : s ≡ 9). subst P (sym e) b) (λ (k : Memᴰ s []). absurd (mathlib.Core.List.Memᴰ.not-nil k)) (mathlib.Core.List.Memᴰ.cases_cons h))
    (mathlib.Core.List.Memᴰ.cases_cons in_two)

obeyed : (s : ℕ) → Memᴰ s (list_of file3) → (n : ℕ) → Rule (shown_of file3 sizes3 s) false n
obeyed = each-listed (λ (s : ℕ). (n : ℕ) → Rule (shown_of file3 sizes3 s) false n) (kept_rule (rules.kept listing.first)) (kept_rule (rules.kept listing.ninth))

-- a scan has as many records as its lengths take
abbrev Filled : ℕ → Type 0
Filled s = records_for sizes3 (headlen (shown_of file3 sizes3 s) + datalen (shown_of file3 sizes3 s)) ≡ many_of (run_of file3 sizes3 s)

fills : (s head rest many : ℕ) → ruled_of (shown_of file3 sizes3 s) false ≡ Ok (head, rest) → records_for sizes3 (head + rest) ≡ many
    → many_of (run_of file3 sizes3 s) ≡ many → Filled s
fills s head rest many e a b =
    let q = keeps-lengths e in
    rw (q.head_is, q.rest_is) (a ∙ sym b)

filled : (s : ℕ) → Memᴰ s (list_of file3) → Filled s
filled = each-listed Filled (fills 1 256 744 2 listing.first refl listing.first-many) (fills 9 256 256 1 listing.ninth refl listing.ninth-many)

freed : GapsZero file3 sizes3
freed = gaps-true file3 sizes3 listing.free

pub found : Found
unfolding number value digit bytes numbers int16 table every least greatest write zeros pad same threes exactly whole_float whole_of of_bits length_of is_whole size_of word_at counter_of type_of boot_bytes shaped in_range empty in_data bad_at above_at shares sharer shared_at open_of version_one entry_bytes classes_of starts_of rule1 rule2 rule3 rule4 rule5 rule6 rising ruled_of blank_file free_at free_place save_of data_from writes_of agrees step_file step_job stands step_answer takes_at find_turns find_of report_out preamble double scan_of file0 file1 file2 file3
found =
    record {
      listed = refl;
      lost = refl;
      left = refl;
    }

pub found_premises : FoundPremises
found_premises = record { opens = listing.opens; free = freed; obey = obeyed; fill = filled }

pub found_cut : FoundCut
unfolding number value digit bytes numbers int16 table every least greatest write zeros pad same threes exactly whole_float whole_of of_bits length_of is_whole size_of word_at counter_of type_of boot_bytes shaped in_range empty in_data bad_at above_at shares sharer shared_at open_of version_one entry_bytes classes_of starts_of rule1 rule2 rule3 rule4 rule5 rule6 rising ruled_of blank_file free_at free_place save_of data_from writes_of agrees step_file step_job stands step_answer takes_at find_turns find_of report_out preamble double scan_of file0 file1 file2 file3
found_cut = record { reached = refl; not_past = refl }

pub linked : Linked
unfolding number value digit bytes numbers int16 widened table every least greatest write zeros pad same exactly whole_float whole_of of_bits length_of is_whole size_of word_at counter_of type_of boot_bytes shaped in_range row_run empty in_data bad_at above_at shares sharer shared_at open_of version_one entry_bytes classes_of starts_of rule1 rule2 rule3 rule4 rule5 rule6 rising ruled_of blank_file free_at free_place save_of data_from writes_of agrees step_file step_job stands step_answer head_of index_end took_link more_of shifted element_after elements_of row_after took_row begin_of take_of take_row finish_of preamble double scan_of file0 file1 file2 file3 broken
linked =
    record {
      opens = refl;
      linked = refl;
      bootstrap_cut = refl;
      number_cut = refl;
      byte_short = refl;
      index_alone = refl;
      broken_entry = refl;
    }
