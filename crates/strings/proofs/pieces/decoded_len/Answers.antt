use mathlib.Core.Path.{◌∙◌, sym}
use Rattle.strings.proofs.PieceLaws.{encode_length}
use Rattle.strings.specs.Pieces.{decoded_len}
use Rattle.strings.proofs.pieces.decoded_len.Goals as goal

pub returns-in-Nothing : goal.returns-in-Nothing
unfolding decoded_len
returns-in-Nothing c = rw c.in-Nothing.is

pub returns-in-Ascii : goal.returns-in-Ascii
unfolding decoded_len
returns-in-Ascii c = rw c.in-Ascii.is

pub returns-in-Utf8 : goal.returns-in-Utf8
unfolding decoded_len
returns-in-Utf8 c = rw c.in-Utf8.is (c.encoded_len.ensures ∙ sym (encode_length c.in-Utf8.c))
