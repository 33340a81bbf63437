-- The number of a form: the version of the files that have it.
use Rattle.std.specs.Prelude.{ℕ}
use Rattle.convert.specs.declared.form.Form.{Form}
use Rattle.convert.specs.declared.form.Form.TheVariants.{Old, Current}

abbrev pub form_number : Form → ℕ
form_number Old = 0
form_number Current = 1
