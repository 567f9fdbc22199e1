use Prim.Native.Nat.{◌≤◌}
use mathlib.Core.Bool.{true}
use mathlib.Core.Path.{◌∙◌, ◌≡◌}
use lib.ListN.{length}
use Rattle.strings.proofs.Writes.{put_point}
use Rattle.text.specs.Utf8.{encode, scalar}
use Rattle.strings.proofs.decode.put.Goals as goal

pub returns-in-Utf8 : goal.returns-in-Utf8
returns-in-Utf8 c = let p : scalar c.in-Utf8.c ≡ true = rw c.in-Utf8.is at c.requires.0 in
    let h : length (encode c.in-Utf8.c) ≤ length c.args.out.now = rw c.in-Utf8.is at c.requires.1 in
    rw c.in-Utf8.is (c.encode.ensures.1 ∙ put_point c.in-Utf8.c c.args.out.now p h)
