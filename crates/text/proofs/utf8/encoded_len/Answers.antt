use borrow.Author.Tests.{le-ltb, lt-ltb}
use Rattle.text.specs.Utf8.{encoded_len}
use Rattle.text.proofs.utf8.encoded_len.Goals as goal

pub returns-then-c-lt128 : goal.returns-then-c-lt128
unfolding encoded_len
returns-then-c-lt128 c = simp (lt-ltb _ _ c.if-c-lt128.true)

pub returns-then-c-lt2048 : goal.returns-then-c-lt2048
unfolding encoded_len
returns-then-c-lt2048 c = simp (le-ltb _ _ c.if-c-lt128.false, lt-ltb _ _ c.if-c-lt2048.true)

pub returns-then-c-lt65536 : goal.returns-then-c-lt65536
unfolding encoded_len
returns-then-c-lt65536 c = simp (le-ltb _ _ c.if-c-lt128.false, le-ltb _ _ c.if-c-lt2048.false, lt-ltb _ _ c.if-c-lt65536.true)

pub returns : goal.returns
unfolding encoded_len
returns c = simp (le-ltb _ _ c.if-c-lt128.false, le-ltb _ _ c.if-c-lt2048.false, le-ltb _ _ c.if-c-lt65536.false)
