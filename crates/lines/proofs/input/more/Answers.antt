use Prim.Native.Nat.{ℕ, ◌-◌, ◌≤◌}
use native.Mathlib.Omega.{arith}
use mathlib.Core.List.{List}
use mathlib.Core.Path.{◌≡◌, refl, ◌∙◌}
use lib.ListN.{length}
use Rattle.lines.proofs.InputLaws.{room_true, room_false, moved_front, moved_length, moved_whole}
use Rattle.lines.proofs.input.more.Goals as goal

pub returns-then-to-from : goal.returns-then-to-from
returns-then-to-from c = (λ t. absurd (omega (arith, (room_true _ _ _ t).0)), λ f. (c.ended.ensures, refl))

pub returns-then-buf-to : goal.returns-then-buf-to
returns-then-buf-to c = (λ t. absurd (omega (arith, (room_true _ _ _ t).1)), λ f. (c.ended-then-buf-to.ensures, refl))

pub returns : goal.returns
returns c =
    let s : List ℕ = c.args.buf.now in
    let from : ℕ = c.args.from in
    let to : ℕ = c.args.to in
    let front = moved_front s c.shift.new.buf from to c.shift.ensures (omega arith) (omega arith) in
    let size : length c.shift.new.buf ≡ length s = moved_length s c.shift.new.buf from to c.shift.ensures (omega arith) (omega arith) in (
      λ t. let z = c.read_behind.ensures.0 (omega (arith, size, (room_true from to (length s) t).2)) in (z.0, z.1, z.2, z.3, z.4 ∙ front),
      λ f.
          let full : length s ≤ to - from = room_false from to (length s) (omega arith) (omega arith) f in
          let z = c.read_behind.ensures.1 (omega (arith, size, full)) in
          (z.0, z.1 ∙ moved_whole s c.shift.new.buf from to c.shift.ensures (omega arith) (omega arith) full),
    )
