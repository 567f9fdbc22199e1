use Rattle.pieces.proofs.finish.ends_in.Goals as goal

pub returns-in-Slash : goal.returns-in-Slash
returns-in-Slash c = rw (c.in-Slash.is, c.eof.ensures)

pub returns-in-Block : goal.returns-in-Block
returns-in-Block c = rw (c.in-Block.is, c.unclosed_block_comment.ensures)
