use Rattle.entries.proofs.named.read_named.Goals as goal

pub returns-then-bytes : goal.returns-then-bytes
returns-then-bytes c = rw c.if-bytes.true c.byte_string_no_base64.ensures

pub returns : goal.returns
returns c = rw c.if-bytes.false c.string.ensures
