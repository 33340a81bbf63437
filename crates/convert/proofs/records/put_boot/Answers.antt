use mathlib.Core.Path.{ap}
use native.Mathlib.Omega.{arith}
use Rattle.convert.specs.Form.{form_number}
use Rattle.convert.proofs.Recording.{boot_old, boot_current}
use Rattle.convert.proofs.records.put_boot.Goals as goal

pub returns-in-Old : goal.returns-in-Old
returns-in-Old c = boot_old _ _ _ _ _ c.put_padded.ensures (ap form_number c.in-Old.is) c.old_bytes.ensures

pub returns-in-Current : goal.returns-in-Current
returns-in-Current c = boot_current _ _ _ _ _ c.put_padded-in-Current.ensures (omega (arith, ap form_number c.in-Current.is)) c.boot_bytes.ensures
