use Rattle.paper.proofs.Opening.{change-sound}
use Rattle.store.proofs.Rooms.{opens-long, bare-above, lowers-is, old-there}
use Rattle.store.proofs.begin.clear_job.Goals as goal

pub head-b-requires : goal.head-b-requires
head-b-requires c = opens-long c.args.file.bytes.now c.requires.opens

pub highest_to-top-requires : goal.highest_to-top-requires
highest_to-top-requires c = let h = c.requires in record { bare = bare-above _ _ _ h; s_bound = h.slotted.high }

pub run_at-old-requires : goal.run_at-old-requires
run_at-old-requires c = let h = c.requires.slotted in (h.low, h.high)

pub returns : goal.returns
returns c = rw (c.head-b.ensures, lowers-is _ _ _ c.requires _ c.highest_to-top.ensures, c.many.ensures, old-there c.args.file.bytes.now c.requires.opens c.args.slot c.run_at-old.ensures)
