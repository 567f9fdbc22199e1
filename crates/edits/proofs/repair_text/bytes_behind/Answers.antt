use Rattle.text.proofs.Lists.{tail_part}
use Rattle.edits.proofs.CutLaws.{behind_read}
use Rattle.edits.proofs.repair_text.bytes_behind.Goals as goal

pub returns : goal.returns
returns c = behind_read c.args.word.now c.args.text.now c.args.k _ (tail_part c.args.text.now c.args.k) _ _ c.bytes.ensures.value c.bytes.ensures.buf_after
