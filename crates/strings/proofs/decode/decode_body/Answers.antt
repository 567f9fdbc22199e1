use Prim.Native.Nat.{◌-◌, ◌+◌}
use native.Mathlib.Omega.{arith}
use mathlib.Core.Path.{◌≡◌, ◌∙◌, sym}
use lib.ListN.{length, drop, length-drop, take}
use lib.Seq.{length-take-le}
use Rattle.strings.proofs.Decodings.{all_written, backslash_room, decoded_backslash, decoded_end, decoded_plain, decoded_quote, decoded_spoilt, go_on, plain_room}
use Rattle.strings.proofs.PieceLaws.{decoded_length, fine_writable}
use Rattle.strings.specs.Pieces.{bytes_of}
use Rattle.text.proofs.Lists.{tail_part}
use Rattle.strings.proofs.decode.decode_body.Goals as goal

pub returns-in-Quote : goal.returns-in-Quote
returns-in-Quote c = all_written c.loop-at.invariant.1 (decoded_quote c.args.m c.args.s.now c.loop-at.at c.loop-at-test.true (simp tail_part at (sym c.in-Quote.is ∙ c.next_piece-p.ensures)))

pub overflow_add-next : goal.overflow_add-next
overflow_add-next c = omega (arith, (plain_room c.loop-at.invariant.1 c.loop-at-test.true c.in-Plain.k (simp tail_part at (sym c.in-Plain.is ∙ c.next_piece-p.ensures))).1)

pub slice_bounds-copy-end : goal.slice_bounds-copy-end
slice_bounds-copy-end c = omega (arith, (plain_room c.loop-at.invariant.1 c.loop-at-test.true c.in-Plain.k (simp tail_part at (sym c.in-Plain.is ∙ c.next_piece-p.ensures))).1)

pub copy-requires : goal.copy-requires
copy-requires c = omega (arith, (plain_room c.loop-at.invariant.1 c.loop-at-test.true c.in-Plain.k (simp tail_part at (sym c.in-Plain.is ∙ c.next_piece-p.ensures))).2, c.loop-at.invariant.0, length-drop c.loop-at.n c.loop-at.out)

pub loop-at-smaller-in-Plain : goal.loop-at-smaller-in-Plain
loop-at-smaller-in-Plain c = let z = plain_room c.loop-at.invariant.1 c.loop-at-test.true c.in-Plain.k (simp tail_part at (sym c.in-Plain.is ∙ c.next_piece-p.ensures)) in omega (arith, z.0, z.1)

pub loop-at-preserved-in-Plain : goal.loop-at-preserved-in-Plain
loop-at-preserved-in-Plain c = let z = plain_room c.loop-at.invariant.1 c.loop-at-test.true c.in-Plain.k (simp tail_part at (sym c.in-Plain.is ∙ c.next_piece-p.ensures)) in
    let e : c.loop-at.at + c.in-Plain.k - c.loop-at.at ≡ c.in-Plain.k = omega arith in
    let l : length (take c.in-Plain.k (drop c.loop-at.at c.args.s.now)) ≡ c.in-Plain.k = length-take-le c.in-Plain.k (drop c.loop-at.at c.args.s.now) (omega (arith, z.1, length-drop c.loop-at.at c.args.s.now)) in
    let g = go_on c.loop-at.invariant.1 (take c.in-Plain.k (drop c.loop-at.at c.args.s.now)) c.copy.new.out c.in-Plain.k z.1 (decoded_plain c.args.m c.args.s.now c.loop-at.at c.loop-at-test.true c.in-Plain.k (simp tail_part at (sym c.in-Plain.is ∙ c.next_piece-p.ensures))) (omega (arith, l, z.2)) (simp (e, tail_part) at c.copy.ensures) in
    (c.out-1.given.1 ∙ c.loop-at.invariant.0, rw l at g)

pub put-requires : goal.put-requires
put-requires c = let z = backslash_room c.loop-at.invariant.1 c.loop-at-test.true c.in-Backslash.k c.in-Backslash.d (simp tail_part at (sym c.in-Backslash.is ∙ c.next_piece-p.ensures)) in (fine_writable c.in-Backslash.d z.3, simp tail_part (omega (arith, z.2, c.loop-at.invariant.0, length-drop c.loop-at.n c.loop-at.out)))

pub overflow_add-at : goal.overflow_add-at
overflow_add-at c = omega (arith, (backslash_room c.loop-at.invariant.1 c.loop-at-test.true c.in-Backslash.k c.in-Backslash.d (simp tail_part at (sym c.in-Backslash.is ∙ c.next_piece-p.ensures))).1)

pub overflow_add-n-in-Backslash : goal.overflow_add-n-in-Backslash
overflow_add-n-in-Backslash c = omega (arith, (backslash_room c.loop-at.invariant.1 c.loop-at-test.true c.in-Backslash.k c.in-Backslash.d (simp tail_part at (sym c.in-Backslash.is ∙ c.next_piece-p.ensures))).2, c.loop-at.invariant.0, c.decoded_len-n.ensures, decoded_length c.in-Backslash.d)

pub loop-at-smaller : goal.loop-at-smaller
loop-at-smaller c = let z = backslash_room c.loop-at.invariant.1 c.loop-at-test.true c.in-Backslash.k c.in-Backslash.d (simp tail_part at (sym c.in-Backslash.is ∙ c.next_piece-p.ensures)) in omega (arith, z.0, z.1)

pub loop-at-preserved : goal.loop-at-preserved
loop-at-preserved c = let z = backslash_room c.loop-at.invariant.1 c.loop-at-test.true c.in-Backslash.k c.in-Backslash.d (simp tail_part at (sym c.in-Backslash.is ∙ c.next_piece-p.ensures)) in
    let l : length (bytes_of c.in-Backslash.d) ≡ c.decoded_len-n.result = sym (c.decoded_len-n.ensures ∙ decoded_length c.in-Backslash.d) in
    let g = go_on c.loop-at.invariant.1 (bytes_of c.in-Backslash.d) c.put.new.out c.in-Backslash.k z.1 (decoded_backslash c.args.m c.args.s.now c.loop-at.at c.loop-at-test.true c.in-Backslash.k c.in-Backslash.d (simp tail_part at (sym c.in-Backslash.is ∙ c.next_piece-p.ensures))) z.2 (simp tail_part at c.put.ensures) in
    (c.out-in-Backslash-1.given.1 ∙ c.loop-at.invariant.0, rw l at g)

pub returns-in-Refused : goal.returns-in-Refused
returns-in-Refused c = let e = simp tail_part at c.next_piece-p.ensures in all_written c.loop-at.invariant.1 (decoded_spoilt c.args.m c.args.s.now c.loop-at.at c.loop-at-test.true c.in-Refused.field-0 (simp tail_part at (sym c.in-Refused.is ∙ c.next_piece-p.ensures)))

pub returns : goal.returns
returns c = all_written c.loop-at.invariant.1 (decoded_end c.args.m c.args.s.now c.loop-at.at (omega (arith, c.loop-at-test.false)))
