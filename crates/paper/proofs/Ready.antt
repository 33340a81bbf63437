-- A job just begun on a file that opens: the file after any number of its writes opens, and what its slots then show.
use Prim.Native.Nat.{ℕ, zero, suc, ◌+◌, ◌-◌, ◌*◌, ◌≤◌, ◌<◌, max}
use mathlib.Core.Path.{◌≡◌, refl, sym, ◌∙◌, ap, subst}
use mathlib.Core.Bool.{Bool, true, false}
use mathlib.Core.List.{List}
use mathlib.Core.Logic.{◌≢◌, ⊎_elim}
use native.Mathlib.Omega.{arith}
use native.Mathlib.Nat.{mod-lt, zero-mul}
use lib.ListN.{length, take, get_or}
use lib.Seq.{take_all}
use Rattle.lent.proofs.Lists.{lt-or-ge, same_or}
use Rattle.lent.proofs.Writes.{length-zeros, write-nothing}
use Rattle.lent.specs.Part.{part, Alike}
use Rattle.lent.specs.Write.{write, zeros}
use Rattle.lent.proofs.Parts.{part_same, part_none, part_in, alike-after}
use Rattle.paper.specs.declared.sizes.Sizes.{Sizes}
use Rattle.paper.specs.declared.sizes.Run.{Run}
use Rattle.paper.specs.declared.job.Job.{Job}
use Rattle.paper.specs.Sizes.{sizes_of, boot_bytes, renewed, capacity_of, start_of, home_of}
use Rattle.paper.specs.Index.{run_of, Full, shown_of, entry_at, Lies, Sound}
use Rattle.paper.specs.Entry.{entry_bytes}
use Rattle.paper.specs.Store.{Write, perform, count_of, padded_of, highest, data_writes, counter_after, sizes_after, entry_after, sizes_write, boot_write, entry_write, lowers_of, lowered, many_of, data_from, zero_writes, change_of, total_of, writes_of}
use Rattle.paper.specs.Step.{no_write, rows_at}
use Rattle.paper.proofs.Sizing.{head-long}
use Rattle.paper.proofs.Opening.{apart-all, lies-past}
use Rattle.paper.proofs.Writes.{change-plain, change-lowers, change-most, length-data, length-rows, writes-data, writes_old, writes-boot, writes-entry, writes_lower, writes-past}
use Rattle.paper.proofs.Encoding.{stated_by, length-boot}
use Rattle.paper.proofs.Frame.{Frame, Kept, kept_refl, kept_then, frame-kept, frame-sound}
use Rattle.paper.proofs.Free.{performs, performs-suc, Every, every_take, Free, frame-refl, frame-writes, data-free, data-all, room_in, rows_in, used-room, OldLies, scan-lies}
use Rattle.paper.proofs.Used.{highest-le, highest-full, highest-above, highest-is, highest-kept}
use Rattle.paper.proofs.Bootstrap.{Covers, covers_more, covers_kept, boot-kept, boot-renewed, boot-length}
use Rattle.paper.proofs.IndexLaw.{Alone, index-sound, index-length, run-new, run-other, shown-new, shown-other, entry_new, entry_other}

-- what makes a job's writes safe on the file f: the data records are free, record 1's new D and U leave every scan in, the entry names records that no
-- other slot has, which then hold the padded scan, and where U is not lowered at the end, the entry is a scan's or a higher slot has one; the old run is
-- that of the slot's present scan, none of whose records is in the new one; and the records that D takes in are all the entry's
pub record Ready (z : Sizes) (f scan : List ℕ) (j : Job) : Type 0 where
  pub sound : Sound f z
  pub current : z.version ≡ 1
  pub low : 1 ≤ j.slot
  pub high : j.slot ≤ capacity_of z
  pub free : Every (Free z f) (data_writes z j scan)
  pub covers : Covers z (run_of f z) (length f) (sizes_after f z j).d (sizes_after f z j).u
  pub entry : length (entry_after z j) ≡ z.m
  pub lies : Lies (sizes_after f z j) (stated_by (entry_after z j))
  pub alone : Alone z (run_of f z) j.slot (stated_by (entry_after z j))
  pub from : start_of z (stated_by (entry_after z j)).first ≡ start_of z j.first
  pub to : (stated_by (entry_after z j)).last * z.l ≡ start_of z j.first + count_of z j * z.l
  pub settles : lowers_of j ≡ false → (stated_by (entry_after z j)).first + (stated_by (entry_after z j)).last ≡ 0 → j.slot < highest f z
  pub gives : rows_at (performs f (data_writes z j scan)) z j.first (count_of z j) ≡ padded_of z j scan
  pub old-is : j.old ≡ (run_of f z j.slot).first
  pub many_is : j.many ≡ many_of (run_of f z j.slot)
  pub old_apart : (r : ℕ) → z.n < r → (run_of f z j.slot).first ≤ r → r ≤ (run_of f z j.slot).last → (stated_by (entry_after z j)).first ≤ r
      → r ≤ (stated_by (entry_after z j)).last → ⊥
  pub near : (r : ℕ) → z.n + z.d < r → r ≤ z.n + (sizes_after f z j).d → ((stated_by (entry_after z j)).first ≤ r) × (r ≤ (stated_by (entry_after z j)).last)

-- the file after the first i writes, each as the file that stands when its turn comes has it
unfoldable pub file_at : List ℕ → List ℕ → Job → ℕ → List ℕ
file_at f scan j zero = f
file_at f scan j (suc i) = perform (file_at f scan j i) (get_or (writes_of (file_at f scan j i) (sizes_of (file_at f scan j i)) j scan) i no_write)

pub file-start : (f scan : List ℕ) (j : Job) → file_at f scan j 0 ≡ f
unfolding file_at
file-start f scan j = refl

-- each write takes it one on
pub file-next : (f scan : List ℕ) (j : Job) (i : ℕ) (y : Sizes) (w : Write) → sizes_of (file_at f scan j i) ≡ y → get_or (writes_of (file_at f scan j i) y j scan) i no_write ≡ w
    → file_at f scan j (suc i) ≡ perform (file_at f scan j i) w
unfolding file_at
file-next f scan j i y w e h = ap (λ (x : Sizes). perform (file_at f scan j i) (get_or (writes_of (file_at f scan j i) x j scan) i no_write)) e ∙ ap (perform (file_at f scan j i)) h

-- writes to free records from place p on, one after the other: the sizes stay, so each is as the list of them has it
stretch : (f scan : List ℕ) (j : Job) (p : ℕ) {g : List ℕ} (y : Sizes) (ws : List Write) → file_at f scan j p ≡ g → Sound g y → Every (Free y g) ws
    → ((x : List ℕ) (m : ℕ) → m < length ws → get_or (writes_of x y j scan) (p + m) no_write ≡ get_or ws m no_write) → (m : ℕ) → m ≤ length ws
    → file_at f scan j (p + m) ≡ performs g (take m ws)
stretch f scan j p y ws a S F w zero h = ap (file_at f scan j) (omega arith) ∙ a
stretch f scan j p {g} y ws a S F w (suc m) h =
    let e = stretch f scan j p y ws a S F w m (omega arith) in
    let r : sizes_of (file_at f scan j (p + m)) ≡ y = rw e (frame-sound S (frame-writes y g g (take m ws) (frame-refl y g) (every_take (Free y g) m ws F))).booted.reads in
    ap (file_at f scan j) (omega arith) ∙ file-next f scan j (p + m) y (get_or ws m no_write) r (w (file_at f scan j (p + m)) m (omega arith))
    ∙ ap (λ (x : List ℕ). perform x (get_or ws m no_write)) e ∙ sym (performs-suc g ws m no_write (omega arith))

-- once record 1 is written, its D and counter stay
pub record Late (f : List ℕ) (z : Sizes) (j : Job) (g : List ℕ) : Type 0 where
  pub u : ℕ
  pub sound : Sound g (renewed z (sizes_after f z j).d u (counter_after z))
  pub len : length g ≡ length f

-- after any number of writes the file opens, with z's sizes but for D, U and the counter, and is as long as it was
pub record Along (z : Sizes) (f g : List ℕ) : Type 0 where
  pub d : ℕ
  pub u : ℕ
  pub c : ℕ
  pub sound : Sound g (renewed z d u c)
  pub len : length g ≡ length f

module _ {z : Sizes} {f scan : List ℕ} {j : Job} (Y : Ready z f scan j) where
  abbrev K : ℕ
  K = count_of z j

  abbrev z' : Sizes
  z' = sizes_after f z j

  used : j.slot ≤ z'.u
  used = omega arith

  abbrev ds : List Write
  ds = data_writes z j scan

  abbrev E : List ℕ
  E = entry_after z j

  -- ---- data records: any of the first i

  frame : (i : ℕ) → Frame z f (performs f (take i ds))
  frame i = frame-writes z f f (take i ds) (frame-refl z f) (every_take (Free z f) i ds Y.free)

  rows : (i : ℕ) → i ≤ K → file_at f scan j i ≡ performs f (take i ds)
  rows i h =
      let n = length-rows f z j scan in
      ap (file_at f scan j) (omega arith)
      ∙ stretch f scan j 0 z ds (file-start f scan j) Y.sound Y.free
      (λ g m k. ap (λ (x : ℕ). get_or (writes_of g z j scan) x no_write) (omega arith) ∙ writes-data g z j scan m (omega arith)) i (omega arith)

  pub rows_frame : (i : ℕ) → i ≤ count_of z j → Frame z f (file_at f scan j i)
  rows_frame i h = rw (rows i h) (frame i)

  pub rows-sound : (i : ℕ) → i ≤ count_of z j → Sound (file_at f scan j i) z
  rows-sound i h = frame-sound Y.sound (rows_frame i h)

  pub rows-kept : (i : ℕ) → i ≤ count_of z j → Kept z f (file_at f scan j i)
  rows-kept i h = frame-kept Y.sound (rows_frame i h)

  -- ---- record 1

  -- all data records are written
  full : Sound (file_at f scan j K) z
  full = rows-sound K (omega arith)

  boot-file : file_at f scan j (suc K) ≡ write (file_at f scan j K) 0 (boot_bytes z')
  boot-file =
      file-next f scan j K z (boot_write (file_at f scan j K) z j) full.booted.reads (writes-boot (file_at f scan j K) z j scan K refl)
      ∙ ap (λ (u : ℕ). write (file_at f scan j K) 0 (boot_bytes (renewed z z'.d (max u j.slot) z'.counter))) (highest-kept (rows-kept K (omega arith)))

  covers : Covers z (run_of (file_at f scan j K) z) (length (file_at f scan j K)) z'.d z'.u
  covers = covers_kept (rows-kept K (omega arith)) (rows_frame K (omega arith)).len Y.covers

  counts : z'.counter < 4294967296
  counts = mod-lt (z.counter + 1) (omega arith)

  pub boot-sound : Sound (file_at f scan j (suc (count_of z j))) (sizes_after f z j)
  boot-sound = rw boot-file (boot-renewed full covers Y.current z'.counter counts)

  pub boot-keeps : Kept z f (file_at f scan j (suc (count_of z j)))
  boot-keeps = kept_then (rows-kept K (omega arith)) (rw boot-file (boot-kept full covers Y.current z'.counter counts))

  pub boot-len : length (file_at f scan j (suc (count_of z j))) ≡ length f
  boot-len = rw boot-file (boot-length full covers Y.current z'.counter counts ∙ (rows_frame K (omega arith)).len)

  -- ---- the slot's entry

  abbrev G : List ℕ
  G = file_at f scan j (suc K)

  abbrev H : List ℕ
  H = file_at f scan j (suc (suc K))

  entry-file : H ≡ write G (home_of z j.slot) E
  unfolding entry_bytes
  entry-file = file-next f scan j (suc K) z' (entry_write z j) boot-sound.booted.reads (writes-entry G z' j scan (suc K) (omega arith))

  alone : Alone z (run_of G z) j.slot (stated_by E)
  alone t q a b ne n x y = subst (λ (r : Run). r.first ≤ q → q ≤ r.last → ⊥) (sym (boot-keeps.runs t a b)) (Y.alone t q a b ne n x y)

  pub end-sound : Sound (file_at f scan j (suc (suc (count_of z j)))) (sizes_after f z j)
  end-sound = rw entry-file (index-sound boot-sound Y.current j.slot Y.low used E Y.entry Y.lies alone)

  pub end-len : length (file_at f scan j (suc (suc (count_of z j)))) ≡ length f
  end-len = rw entry-file (index-length boot-sound Y.current j.slot Y.low used E Y.entry Y.lies alone ∙ boot-len)

  -- the job's slot has the entry, and shows the padded scan
  pub end-run : run_of (file_at f scan j (suc (suc (count_of z j)))) z j.slot ≡ stated_by (entry_after z j)
  end-run = rw entry-file (run-new boot-sound Y.current j.slot Y.low used E Y.entry Y.lies alone)

  pub end-entry : entry_at (file_at f scan j (suc (suc (count_of z j)))) z j.slot ≡ entry_after z j
  end-entry = rw entry-file (entry_new boot-sound Y.current j.slot Y.low used E Y.entry Y.lies alone)

  all-rows : file_at f scan j K ≡ performs f ds
  all-rows = rows K (omega arith) ∙ ap (performs f) (take_all K ds (omega (arith, length-rows f z j scan)))

  -- record 1 lies before the data
  data-same : Alike (performs f ds) G (start_of z (stated_by E).first) ((stated_by E).last * z.l)
  data-same i lo hi =
      rw (← all-rows, boot-file)
      (alike-after (file_at f scan j K) 0 (boot_bytes z') (omega arith) 32 (suc i) (omega (arith, length-boot z')) i
      (omega (arith, lies-past boot-sound.booted Y.lies i lo hi, head-long z Y.sound.booted.ranged.shape)) (omega arith))

  pub end-shown : shown_of (file_at f scan j (suc (suc (count_of z j)))) z j.slot ≡ padded_of z j scan
  end-shown =
      rw entry-file
      (shown-new boot-sound Y.current j.slot Y.low used E Y.entry Y.lies alone
      ∙ part_same (performs f ds) G (start_of z (stated_by E).first) ((stated_by E).last * z.l) (boot-len ∙ sym (rw all-rows at (rows_frame K (omega arith)).len)) data-same
      ∙ rw (Y.from, Y.to) Y.gives)

  -- the others what they had
  pub end-runs : (t : ℕ) → 1 ≤ t → t ≤ capacity_of z → t ≢ j.slot → run_of (file_at f scan j (suc (suc (count_of z j)))) z t ≡ run_of f z t
  end-runs t a b ne =
      rw entry-file (run-other boot-sound Y.current j.slot Y.low used E Y.entry Y.lies alone t a ne) ∙ boot-keeps.runs t a b

  pub end-others : (t : ℕ) → 1 ≤ t → t ≤ capacity_of z → t ≢ j.slot → shown_of (file_at f scan j (suc (suc (count_of z j)))) z t ≡ shown_of f z t
  end-others t a b ne =
      rw entry-file (shown-other boot-sound Y.current j.slot Y.low used E Y.entry Y.lies alone t a b ne ∙ boot-keeps.shown t a b)

  pub end-entries : (t : ℕ) → 1 ≤ t → t ≤ capacity_of z → t ≢ j.slot → entry_at (file_at f scan j (suc (suc (count_of z j)))) z t ≡ entry_at f z t
  end-entries t a b ne =
      rw entry-file (entry_other boot-sound Y.current j.slot Y.low used E Y.entry Y.lies alone t a ne ∙ boot-keeps.entries t a b)

  -- ---- the lowered U, where there is one, and then no more

  -- the highest slot with a scan, where U is not lowered at the end
  stays-top : lowers_of j ≡ false → highest H z ≡ z'.u
  stays-top t =
      let top : ℕ = highest f z in
      highest-is H z z'.u (omega (arith, highest-le f z, Y.high))
      (λ h.
      ⊎_elim
      (λ (l : j.slot < top).
      let e : z'.u ≡ top = omega arith in
      rw e (subst (λ (r : Run). Full r) (sym (end-runs top (omega arith) (highest-le f z) (λ q. omega arith))) (highest-full f z (omega arith))))
      (λ (l : top ≤ j.slot).
      let e : z'.u ≡ j.slot = omega arith in
      rw e (subst (λ (r : Run). Full r) (sym end-run) (full-or (λ q. omega (arith, Y.settles t q)))))
      (lt-or-ge j.slot top))
      (λ s a b. subst (λ (r : Run). r.first + r.last ≡ 0) (sym (end-runs s (omega arith) b (λ q. omega arith))) (highest-above f z s (omega arith) b))
    where
      full-or : ((stated_by E).first + (stated_by E).last ≡ 0 → ⊥) → Full (stated_by E)
      full-or never = ⊎_elim (λ (h : Full (stated_by E)). h) (λ (h : (stated_by E).first + (stated_by E).last ≤ 0). absurd (never (omega arith))) (lt-or-ge 0 ((stated_by E).first + (stated_by E).last))

  -- the file after the change shows what it did after the entry, and its U is the highest slot with a scan
  record Settled (g : List ℕ) : Type 0 where
    sound : Sound g (renewed z z'.d (highest g z) z'.counter)
    kept : Kept z H g
    len : length g ≡ length f

  abbrev C : ℕ
  C = change_of z j

  abbrev T : ℕ
  T = total_of z j

  lower-file : lowers_of j ≡ true → file_at f scan j (suc (suc (suc K))) ≡ write H 0 (boot_bytes (lowered H z'))
  lower-file t =
      file-next f scan j (suc (suc K)) z' (sizes_write (lowered H z')) end-sound.booted.reads (writes_lower H z' j scan (suc (suc K)) (omega arith) t)

  lower-covers : Covers z' (run_of H z') (length H) z'.d (highest H z)
  lower-covers = covers_more end-sound (omega arith) (omega arith) (used-room end-sound.booted) (highest-le H z)

  settled : (t : Bool) → lowers_of j ≡ t → Settled (file_at f scan j C)
  settled true t =
      let e : C ≡ suc (suc (suc K)) = omega (arith, change-lowers z j t) in
      let k = boot-kept end-sound lower-covers Y.current z'.counter counts in
      let k' : Kept z H (write H 0 (boot_bytes (lowered H z'))) = record { runs = k.runs; shown = k.shown; entries = k.entries } in
      subst Settled (sym (ap (file_at f scan j) e ∙ lower-file t))
      (record {
        sound = rw (highest-kept k') (boot-renewed end-sound lower-covers Y.current z'.counter counts);
        kept = k';
        len = boot-length end-sound lower-covers Y.current z'.counter counts ∙ end-len;
      })
  settled false t =
      let e : C ≡ suc (suc K) = omega (arith, change-plain z j t) in
      subst Settled (sym (ap (file_at f scan j) e))
      (record { sound = rw (stays-top t) end-sound; kept = kept_refl z H; len = end-len })

  -- ---- zeros over the old run

  abbrev B : List ℕ
  B = file_at f scan j C

  base : Settled B
  base = settled (lowers_of j) refl

  abbrev y : Sizes
  y = renewed z z'.d (highest B z) z'.counter

  abbrev os : List Write
  os = zero_writes y j

  old-lies : 0 < j.many → OldLies z j.old j.many
  old-lies h = rw (Y.old-is, Y.many_is) (scan-lies Y.sound.laid j.slot Y.low Y.high (rw Y.many_is at h))

  -- the records that the entry has given up: no slot has them now
  old-nobody : (s r : ℕ) → 1 ≤ s → s ≤ capacity_of z → j.old ≤ r → r < j.old + j.many → (run_of B z s).first ≤ r → r ≤ (run_of B z s).last → ⊥
  old-nobody s r a b lo hi p q =
      let o = old-lies (omega arith) in
      let n : z.n < r = omega (arith, o.past) in
      let x : (run_of f z j.slot).first ≤ r = omega (arith, Y.old-is) in
      let w : r ≤ (run_of f z j.slot).last = omega (arith, Y.old-is, Y.many_is, o.past) in
      let e = base.kept.runs s a b in
      ⊎_elim
      (λ (h : s ≡ j.slot).
      let i : run_of B z s ≡ stated_by E = e ∙ ap (run_of H z) h ∙ end-run in
      Y.old_apart r n x w (omega (arith, ap (λ (v : Run). v.first) i)) (omega (arith, ap (λ (v : Run). v.last) i)))
      (λ (h : s ≢ j.slot).
      let i : run_of B z s ≡ run_of f z s = e ∙ end-runs s a b h in
      apart-all Y.sound.laid s j.slot r a b Y.low Y.high h n (omega (arith, ap (λ (v : Run). v.first) i)) (omega (arith, ap (λ (v : Run). v.last) i)) x w)
      (same_or s j.slot)

  old-free : Every (Free y B) os
  unfolding data_from
  old-free = free j.many refl
    where
      free : (k : ℕ) → j.many ≡ k → Every (Free y B) (data_from y j.old k (zeros (k * z.l)))
      free zero e = tt
      free (suc k) e =
          let o = old-lies (omega arith) in
          data-free y B (suc k) j.old (zeros (suc k * z.l)) (length-zeros (suc k * z.l)) o.past
          (λ q a b. rw base.len (room_in z (length f) q (omega (arith, o.within, used-room Y.sound.booted))))
          (λ s q a b lo hi. old-nobody s q a (omega (arith, highest-le B z)) lo (omega arith))

  old-frame : (m : ℕ) → Frame y B (performs B (take m os))
  old-frame m = frame-writes y B B (take m os) (frame-refl y B) (every_take (Free y B) m os old-free)

  length-old : length os ≡ j.many
  length-old = length-data y j.old j.many (zeros (j.many * z.l))

  old-file : (m : ℕ) → m ≤ j.many → file_at f scan j (C + m) ≡ performs B (take m os)
  old-file m h = stretch f scan j C y os refl base.sound old-free (λ g i k. writes_old g y j scan (C + i) i refl) m (omega (arith, length-old))

  -- wherever it is stopped the file is settled
  framed : {g : List ℕ} → Frame y B g → Settled g
  framed {g} F =
      let k = frame-kept base.sound F in
      let k' : Kept z B g = record { runs = k.runs; shown = k.shown; entries = k.entries } in
      record { sound = rw (highest-kept k') (frame-sound base.sound F); kept = kept_then base.kept k'; len = F.len ∙ base.len }

  old-settled : (i : ℕ) → C ≤ i → i ≤ T → Settled (file_at f scan j i)
  old-settled i a b =
      let e : i ≡ C + (i - C) = omega arith in
      subst Settled (sym (ap (file_at f scan j) e ∙ old-file (i - C) (omega arith))) (framed (old-frame (i - C)))

  -- ---- past the last write the file stays

  stays : (m : ℕ) → file_at f scan j (m + T) ≡ file_at f scan j T
  stays zero = ap (file_at f scan j) (omega arith)
  stays (suc m) =
      let e = stays m in
      let x : Sizes = renewed z z'.d (highest (file_at f scan j T) z) z'.counter in
      let r : sizes_of (file_at f scan j (m + T)) ≡ x = rw e (old-settled T (omega arith) (omega arith)).sound.booted.reads in
      ap (file_at f scan j) (omega arith)
      ∙ file-next f scan j (m + T) x no_write r (writes-past (file_at f scan j (m + T)) x j scan (m + T) (omega arith)) ∙ write-nothing _ 0 ∙ e

  pub end_stays : (i : ℕ) → total_of z j ≤ i → file_at f scan j i ≡ file_at f scan j (total_of z j)
  end_stays i h = ap (file_at f scan j) (omega arith) ∙ stays (i - T)

  -- all of the old run is zeros
  pub end-zeros : (i : ℕ) → total_of z j ≤ i → rows_at (file_at f scan j i) z j.old j.many ≡ zeros (j.many * z.l)
  unfolding zeros
  end-zeros i h = rw (end_stays i h ∙ old-file j.many (omega arith) ∙ ap (performs B) (take_all j.many os (omega (arith, length-old)))) (done j.many refl)
    where
      done : (k : ℕ) → j.many ≡ k → rows_at (performs B (data_from y j.old k (zeros (k * z.l)))) z j.old k ≡ zeros (k * z.l)
      done zero e = part_none (start_of z j.old) (start_of z j.old + 0 * z.l) _ (omega (arith, zero-mul z.l)) ∙ sym (ap zeros (zero-mul z.l))
      done (suc k) e =
          let o = old-lies (omega arith) in
          let n = length-zeros (suc k * z.l) in
          let fits : start_of z j.old + suc k * z.l ≤ length B =
          omega (arith, base.len, rows_in z (length f) j.old (suc k) (omega (arith, o.past)) (omega (arith, o.within, used-room Y.sound.booted))) in
          ap (part (start_of z j.old) (start_of z j.old + suc k * z.l)) (data-all y (suc k) B j.old (zeros (suc k * z.l)) n (omega (arith, o.past)) fits)
          ∙ ap (λ (x : ℕ). part (start_of z j.old) (start_of z j.old + x) (write B (start_of z j.old) (zeros (suc k * z.l)))) (sym n)
          ∙ part_in B (start_of z j.old) (zeros (suc k * z.l)) (omega (arith, fits))

  ended : (i : ℕ) → C ≤ i → Settled (file_at f scan j i)
  ended i h =
      ⊎_elim (λ (a : i < T). old-settled i h (omega arith)) (λ (a : T ≤ i). rw (end_stays i a) (old-settled T (omega arith) (omega arith))) (lt-or-ge i T)

  -- so once the change is made U is the highest slot with a scan
  pub last-sound : (i : ℕ) → change_of z j ≤ i → Sound (file_at f scan j i) (renewed z (sizes_after f z j).d (highest (file_at f scan j i) z) (counter_after z))
  last-sound i h = (ended i h).sound

  -- the entry or what is after it
  after-entry : (P : List ℕ → Type 0) → P H → ((i : ℕ) → C ≤ i → P (file_at f scan j i)) → (i : ℕ) → K + 2 ≤ i → P (file_at f scan j i)
  after-entry P h l i k =
      ⊎_elim (λ (a : i < C). let e : i ≡ suc (suc K) = omega (arith, change-most z j) in rw e h) (λ (a : C ≤ i). l i a) (lt-or-ge i C)

  -- from the entry on the file shows the same
  pub end-keeps : (i : ℕ) → count_of z j + 2 ≤ i → Kept z (file_at f scan j (suc (suc (count_of z j)))) (file_at f scan j i)
  end-keeps = after-entry (Kept z H) (kept_refl z H) (λ i h. (ended i h).kept)

  -- the padded scan, at the records that the job names
  pub end-rows : (i : ℕ) → count_of z j + 2 ≤ i → rows_at (file_at f scan j i) z j.first (count_of z j) ≡ padded_of z j scan
  end-rows i h =
      let g : List ℕ = file_at f scan j i in
      let k = end-keeps i h in
      ap (λ (a : ℕ). part a (start_of z j.first + K * z.l) g) (sym Y.from)
      ∙ ap (λ (b : ℕ). part (start_of z (stated_by E).first) b g) (sym Y.to)
      ∙ ap (λ (r : Run). part (start_of z r.first) (r.last * z.l) g) (sym (k.runs j.slot Y.low Y.high ∙ end-run))
      ∙ k.shown j.slot Y.low Y.high ∙ end-shown

  -- and that is the U that record 1 first had, where no third write lowers it
  pub last-used : (i : ℕ) → count_of z j + 2 ≤ i → lowers_of j ≡ false → highest (file_at f scan j i) z ≡ (sizes_after f z j).u
  last-used i h t = highest-kept (end-keeps i h) ∙ stays-top t

  -- ---- after any number of writes

  -- from record 1 on
  pub once-booted : (i : ℕ) → count_of z j < i → Late f z j (file_at f scan j i)
  once-booted i h =
      ⊎_elim
      (λ (k : i < K + 2). let e : i ≡ suc K = omega arith in rw e (record { u = z'.u; sound = boot-sound; len = boot-len }))
      (after-entry (Late f z j) (record { u = z'.u; sound = end-sound; len = end-len })
      (λ n k. record { u = highest (file_at f scan j n) z; sound = (ended n k).sound; len = (ended n k).len }) i)
      (lt-or-ge i (K + 2))

  pub along : (i : ℕ) → Along z f (file_at f scan j i)
  along i =
      ⊎_elim
      (λ (h : K < i). let l = once-booted i h in record { d = z'.d; u = l.u; c = z'.counter; sound = l.sound; len = l.len })
      (λ (h : i ≤ K). record { d = z.d; u = z.u; c = z.counter; sound = rows-sound i h; len = (rows_frame i h).len })
      (lt-or-ge K i)
