use native.Mathlib.Omega.{arith}
use lib.ListN.{length-set}
use Rattle.text.proofs.Utf8Agree.{put_1, put_2, put_3, put_4, encoded_len_1, encoded_len_2, encoded_len_3, encoded_len_4}
use Rattle.text.proofs.utf8.put.Goals as goal

pub bounds-out-0 : goal.bounds-out-0
bounds-out-0 c = omega (arith, encoded_len_1 c.args.c c.if-c-lt128.true)

pub returns-then-c-lt128 : goal.returns-then-c-lt128
returns-then-c-lt128 c = put_1 c.args.c c.args.out.now c.if-c-lt128.true c.requires.1

pub bounds-out-0-then-c-lt2048 : goal.bounds-out-0-then-c-lt2048
bounds-out-0-then-c-lt2048 c = omega (arith, encoded_len_2 c.args.c c.if-c-lt128.false c.if-c-lt2048.true)

pub bounds-out-1 : goal.bounds-out-1
bounds-out-1 c = simp length-set (omega (arith, encoded_len_2 c.args.c c.if-c-lt128.false c.if-c-lt2048.true))

pub returns-then-c-lt2048 : goal.returns-then-c-lt2048
returns-then-c-lt2048 c = put_2 c.args.c c.args.out.now c.if-c-lt128.false c.if-c-lt2048.true c.requires.1

pub bounds-out-0-then-c-lt65536 : goal.bounds-out-0-then-c-lt65536
bounds-out-0-then-c-lt65536 c = omega (arith, encoded_len_3 c.args.c c.if-c-lt2048.false c.if-c-lt65536.true)

pub bounds-out-1-then-c-lt65536 : goal.bounds-out-1-then-c-lt65536
bounds-out-1-then-c-lt65536 c = simp length-set (omega (arith, encoded_len_3 c.args.c c.if-c-lt2048.false c.if-c-lt65536.true))

pub bounds-out-2 : goal.bounds-out-2
bounds-out-2 c = simp length-set (omega (arith, encoded_len_3 c.args.c c.if-c-lt2048.false c.if-c-lt65536.true))

pub returns-then-c-lt65536 : goal.returns-then-c-lt65536
returns-then-c-lt65536 c = put_3 c.args.c c.args.out.now c.if-c-lt2048.false c.if-c-lt65536.true c.requires.1

pub bounds-out-0-2 : goal.bounds-out-0-2
bounds-out-0-2 c = omega (arith, encoded_len_4 c.args.c c.if-c-lt65536.false)

pub bounds-out-1-2 : goal.bounds-out-1-2
bounds-out-1-2 c = simp length-set (omega (arith, encoded_len_4 c.args.c c.if-c-lt65536.false))

pub bounds-out-2-2 : goal.bounds-out-2-2
bounds-out-2-2 c = simp length-set (omega (arith, encoded_len_4 c.args.c c.if-c-lt65536.false))

pub bounds-out-3 : goal.bounds-out-3
bounds-out-3 c = simp length-set (omega (arith, encoded_len_4 c.args.c c.if-c-lt65536.false))

pub returns : goal.returns
returns c = put_4 c.args.c c.args.out.now c.if-c-lt65536.false c.requires.1
