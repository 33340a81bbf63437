use Rattle.look.proofs.Fielding.{kind-bits, kind-same, source-end, entry-is}
use lib.Ieee.{binary32, binary64, of_bits}
use mir.Facts.{to_z-of_z}
use mathlib.Core.Path.{◌∙◌, ap}
use mir.Syntax.{w16}
use Rattle.look.proofs.fields.fields.Goals as goal

pub returns : goal.returns
returns c =
    let a = c.args in
    entry-is a.version a.file.now a.at
    c.word.ensures
    c.word-2.ensures
    c.word32.ensures
    c.word32-2.ensures
    (c.source.ensures ∙ source-end a.file.now a.at)
    c.word32-3.ensures
    c.word32-field4.ensures
    c.word64-field8.ensures
    c.word32-4.ensures
    c.word32-5.ensures
    (to_z-of_z {w = w16} (record { sfits = c.int16.type_inv }) ∙ c.int16.ensures)
    (to_z-of_z {w = w16} (record { sfits = c.int16-2.type_inv }) ∙ c.int16-2.ensures)
    (to_z-of_z {w = w16} (record { sfits = c.position.type_inv }) ∙ c.position.ensures)
    (to_z-of_z {w = w16} (record { sfits = c.magic.type_inv }) ∙ c.magic.ensures)
    (c.kind.ensures
    ∙ kind-same c.word16-mode.ensures (c.f32_from_bits_with_nan.ensures ∙ ap (of_bits binary32) c.word32-field4.ensures) (c.f64_from_bits_with_nan.ensures ∙ ap (of_bits binary64) c.word64-field8.ensures)
    ∙ kind-bits _ _ _)
