-- Demand 1: every refusal of every call leaves every lent byte as it was, and hands back what 01 says.
use Rattle.std.specs.Prelude.{ℕ, ◌≤◌, ◌≡◌, false, List, [], pos, length, replicate, Err}
use Rattle.std.specs.Float.{binary32, binary64}
use Rattle.std.specs.Float.Ieee.{of_bits}
use Rattle.paper.specs.declared.refusal.Refusal.{Refusal}
use Rattle.paper.specs.declared.refusal.Refusal.TheVariants.{TooShort, Disagrees}
use Rattle.paper.specs.declared.entry.Entry.{Entry}
use Rattle.paper.specs.declared.job.Job.{Job}
use Rattle.paper.specs.declared.link.Link.{Link}
use Rattle.paper.specs.Refusals.{number_of, kind_says}
use Rattle.paper.specs.Scan.{part_of, class_of, data_of}
use Rattle.paper.specs.Look.{listed_of, listed_out, found_of, show_of, read_of, fields_in}
use Rattle.paper.specs.Store.{blank_of, blank_file, save_of, keep_of, clear_of, job_in}
use Rattle.paper.specs.Step.{step_file, step_job, step_answer}
use Rattle.paper.specs.Find.{report_of, report_out}
use Rattle.paper.specs.Convert.{convert_of, converted_out}
use Rattle.paper.specs.Link.{fresh_link, begin_of, take_of, take_row, finish_of, link_in}
use Rattle.paper.specs.Answers.{taken_in}

-- "a job of zeros"
pub record ZeroJob (j : Job) : Type 0 where
  pub saves : j.saves ≡ false
  pub slot : j.slot ≡ 0
  pub size : j.size ≡ 0
  pub span : j.span ≡ 0
  pub first : j.first ≡ 0
  pub written : j.written ≡ 0
  pub lowers : j.lowers ≡ false
  pub old : j.old ≡ 0
  pub many : j.many ≡ 0
  pub boot : j.boot ≡ replicate 32 0
  pub about : j.about ≡ replicate 54 0

-- 2026-07: "a link of zeros"
pub record ZeroLink (k : Link) : Type 0 where
  pub span : k.span ≡ 0
  pub came : k.came ≡ 0
  pub ends : k.ends ≡ 0
  pub boot : k.boot ≡ replicate 32 0

-- an entry of zeros
pub record ZeroEntry (e : Entry) : Type 0 where
  pub first : e.first ≡ 0
  pub last : e.last ≡ 0
  pub horizontal : e.horizontal ≡ 0
  pub vertical : e.vertical ≡ 0
  pub source : e.source ≡ replicate 16 0
  pub scan : e.scan ≡ 0
  pub field4 : e.field4 ≡ 0
  pub field8 : e.field8 ≡ 0
  pub lst : e.lst ≡ 0
  pub date : e.date ≡ 0
  pub mode : e.mode ≡ pos 0
  pub number : e.number ≡ pos 0
  pub position : e.position ≡ pos 0
  pub magic : e.magic ≡ pos 0
  pub kind : kind_says e.kind ≡ record { number = 0; code = 0; single = of_bits binary32 0; double = of_bits binary64 0 }

-- Six calls write to what is lent: blank and step to the file, list and find to what is lent for the answer, a conversion to its second buffer, a link's take to
-- its row. The others only answer.
pub record Untouched : Type 0 where
  -- "writes nothing"
  pub blank : (f : List ℕ) (n l m : ℕ) (r : Refusal) → blank_of f n l m ≡ Err r → blank_file f n l m ≡ f
  pub list : (f out : List ℕ) (r : Refusal) → listed_of f out ≡ Err r → listed_out f out ≡ out
  pub find : (f out : List ℕ) (r : Refusal) → report_of f out ≡ Err r → report_out f out ≡ out
  pub convert : (v : ℕ) (f out : List ℕ) (r : Refusal) → convert_of v f out ≡ Err r → converted_out v f out ≡ out
  -- "A refused step hands back the job as it was"
  pub step-job : (f scan : List ℕ) (j : Job) (r : Refusal) → step_answer f scan j ≡ Err r → (step_file f scan j ≡ f) × (step_job f scan j ≡ j)
  -- "a refused save, keep or clear hands back a job of zeros"
  pub save_scan : (f : List ℕ) (slot : ℕ) (scan about : List ℕ) (r : Refusal) → taken_in (save_of f slot scan about) ≡ Err r
      → ZeroJob (job_in (save_of f slot scan about))
  pub keep_scan : (f scan about : List ℕ) (r : Refusal) → taken_in (keep_of f scan about) ≡ Err r → ZeroJob (job_in (keep_of f scan about))
  pub clear_slot : (f : List ℕ) (slot : ℕ) (r : Refusal) → taken_in (clear_of f slot) ≡ Err r → ZeroJob (job_in (clear_of f slot))
  -- which no file takes
  pub no-job : (f scan : List ℕ) (j : Job) → ZeroJob j → step_answer f scan j ≡ Err Disagrees
  -- 02, 2026-07: "17 at any call lent a shorter row, the state staying as it was": "begin then hands back a link of zeros", "take the link as it was"
  pub link_begin : (len : ℕ) (row : List ℕ) (r : Refusal) → taken_in (begin_of len row) ≡ Err r → ZeroLink (link_in (fresh_link 0) (begin_of len row))
  pub link_take : (k : Link) (p row : List ℕ) (r : Refusal) → taken_in (take_of k p row) ≡ Err r → (link_in k (take_of k p row) ≡ k) × (take_row k p row ≡ row)
  -- "a judging of length 0, so finish answers 1"
  pub no_link : (k : Link) (row : List ℕ) → ZeroLink k → 8192 ≤ length row → finish_of k row ≡ Err TooShort
  -- an entry of zeros, and the empty part
  pub entry : (f : List ℕ) (s : ℕ) (r : Refusal) → taken_in (found_of f s) ≡ Err r → ZeroEntry (fields_in (found_of f s))
  pub show : (f : List ℕ) (s : ℕ) (r : Refusal) → show_of f s ≡ Err r → part_of f (show_of f s) ≡ []
  pub read : (f : List ℕ) (s : ℕ) (r : Refusal) → read_of f s ≡ Err r → part_of f (read_of f s) ≡ []
  pub class : (s : List ℕ) (n : ℕ) (r : Refusal) → class_of s n ≡ Err r → part_of s (class_of s n) ≡ []
  pub rest : (s : List ℕ) (r : Refusal) → data_of s ≡ Err r → part_of s (data_of s) ≡ []
  -- "Every refusal returns its number": one of the table's
  pub numbered : (r : Refusal) → (1 ≤ number_of r) × (number_of r ≤ 20)
