-- Demand 3 rests on it: "Each step writes at most one record", and its answer names that record. Whoever makes just this record durable has made the whole step durable.
use Rattle.std.specs.Prelude.{ℕ, ◌+◌, ◌≤◌, ◌<◌, ◌≡◌, true, List, length, take, get_or, Ok}
use Rattle.paper.specs.declared.sizes.Sizes.{Sizes}
use Rattle.paper.specs.declared.job.Job.{Job}
use Rattle.paper.specs.declared.job.Step.TheVariants.{Wrote}
use Rattle.paper.specs.Sizes.{sizes_of, start_of}
use Rattle.paper.specs.Store.{writes_of}
use Rattle.paper.specs.Step.{is_confirmed, write_at, step_file, step_job, step_answer}

-- byte b lies before record r, or after it
abbrev pub Beside : Sizes → ℕ → ℕ → Type 0
Beside z r b = start_of z r ≤ b → start_of z r + z.l ≤ b

-- g is f but for record r, which is a record of f
pub record ButRecord (f g : List ℕ) (z : Sizes) (r : ℕ) : Type 0 where
  pub low : 1 ≤ r
  pub inside : start_of z r + z.l ≤ length f
  pub others : (b : ℕ) → Beside z r b → get_or g b 0 ≡ get_or f b 0
  pub long : length g ≡ length f

-- r is the record of the write at the job's place in its list, which has such a write, and the count is one higher
pub record Named (f scan : List ℕ) (j : Job) (r count : ℕ) : Type 0 where
  pub listed : j.written < length (writes_of f (sizes_of f) j scan)
  pub record_is : r ≡ (write_at f (sizes_of f) scan j).record_no
  pub counts : count ≡ j.written + 1

-- k is j with this count and these 32 bytes, and every other field as it was
pub record Renewed (j k : Job) (count : ℕ) (head : List ℕ) : Type 0 where
  pub saves : k.saves ≡ j.saves
  pub lowers : k.lowers ≡ j.lowers
  pub slot : k.slot ≡ j.slot
  pub size : k.size ≡ j.size
  pub span : k.span ≡ j.span
  pub first : k.first ≡ j.first
  pub written : k.written ≡ count
  pub old : k.old ≡ j.old
  pub many : k.many ≡ j.many
  pub boot : k.boot ≡ head
  pub about : k.about ≡ j.about

-- For every file, scan and job, hand-made ones too. What a refused step leaves is `Untouched` step-job.
pub record OneRecord : Type 0 where
  -- a step that wrote: one record, the one that it names; the job's 54 bytes are such
  pub wrote : (f scan : List ℕ) (j : Job) → length j.about ≡ 54 → (r count : ℕ) → step_answer f scan j ≡ Ok (Wrote r count)
      → ButRecord f (step_file f scan j) (sizes_of f) r
  pub named : (f scan : List ℕ) (j : Job) (r count : ℕ) → step_answer f scan j ≡ Ok (Wrote r count) → Named f scan j r count
  -- the job that it hands back: the count, and the first 32 bytes of the file as the step left it
  pub job : (f scan : List ℕ) (j : Job) (r count : ℕ) → step_answer f scan j ≡ Ok (Wrote r count)
      → Renewed j (step_job f scan j) count (take 32 (step_file f scan j))
  -- a step that confirmed: nothing is written, and the job is as it was
  pub confirmed : (f scan : List ℕ) (j : Job) → is_confirmed (step_answer f scan j) ≡ true → (step_file f scan j ≡ f) × (step_job f scan j ≡ j)
