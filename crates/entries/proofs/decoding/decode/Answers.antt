use Rattle.entries.proofs.decoding.decode.Goals as goal

pub decode_byte_string-requires : goal.decode_byte_string-requires
decode_byte_string-requires c = (rw c.if-bytes.true at c.requires.0, c.requires.1)

pub returns-then-bytes : goal.returns-then-bytes
returns-then-bytes c = rw c.if-bytes.true c.decode_byte_string.ensures

pub decode_string-requires : goal.decode_string-requires
decode_string-requires c = (rw c.if-bytes.false at c.requires.0, c.requires.1)

pub returns : goal.returns
returns c = rw c.if-bytes.false c.decode_string.ensures
