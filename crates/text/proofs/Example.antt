-- The worked fields and arguments of specs/Example, computed. Assumes nothing.
use mathlib.Core.Path.{refl}
use Rattle.protocol.proofs.Computing.{computing}
use Rattle.text.specs.Text.{row, decimal_mark, number_mark, number_field, plain_mark, plain_field, glyph, hex_mark, hex_field}
use Rattle.text.specs.Text.{shown, place_mark, byte_mark, list_mark, list_line}
use Rattle.text.specs.Text.{is_digit, digit_at, value_from, is_number, parsed}
use Rattle.text.specs.Example.{Fields, Arguments}

pub fields : Fields
unfolding computing row decimal_mark number_mark number_field plain_mark plain_field glyph hex_mark hex_field shown place_mark byte_mark list_mark list_line
fields = record { number = refl; none = refl; thousand = refl; most = refl; plain = refl; entry = refl; line = refl }

pub arguments : Arguments
unfolding computing is_digit digit_at value_from is_number parsed
arguments = record { read = refl; empty = refl; letter = refl; most = refl; past = refl }
