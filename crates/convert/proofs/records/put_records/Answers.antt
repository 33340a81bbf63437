use Rattle.convert.proofs.Recording.{all_records}
use Rattle.convert.proofs.records.put_records.Goals as goal

pub returns : goal.returns
returns c = all_records _ _ _ _ c.requires _ c.capacity-cap.ensures _ _ _ c.put_boot.ensures c.put_entries.ensures c.zero_to.ensures
