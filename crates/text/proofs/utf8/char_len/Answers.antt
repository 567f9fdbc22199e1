use Prim.Native.Nat.{◌<◌}
use mathlib.Core.Path.{sym}
use lib.ListN.{length}
use borrow.Author.Rules.{rules}
use Rattle.text.proofs.Utf8Laws.{char_len_ascii, char_len_at, char_len_nil}
use Rattle.text.proofs.utf8.char_len.Goals as goal

pub returns-then-s-eq0 : goal.returns-then-s-eq0
returns-then-s-eq0 c = sym (char_len_nil c.args.s.now c.if-s-eq0.true)

pub returns-then-a-lt128 : goal.returns-then-a-lt128
returns-then-a-lt128 c = sym (char_len_ascii c.args.s.now (search rules) c.if-a-lt128.true)

pub returns : goal.returns
returns c = let h : 0 < length c.args.s.now = search rules in cc (char_len_at c.args.s.now h)
