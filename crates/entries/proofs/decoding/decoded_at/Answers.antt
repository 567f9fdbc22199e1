use Rattle.std.proofs.Common.{Err}
use Prim.Native.Nat.{ℕ}
use native.Mathlib.Omega.{arith}
use mathlib.Core.List.{List, ◌++◌}
use mathlib.Core.Path.{◌∙◌, ap, refl, sym}
use lib.ListN.{drop}
use borrow.Author.Tests.{le-ltb, lt-ltb}
use Rattle.entries.proofs.LiteralLaws.{read_found, refused_inside}
use Rattle.entries.specs.Named.{literal_decoded}
use Rattle.text.proofs.Lists.{tail_part}
use Rattle.entries.proofs.decoding.decoded_at.Goals as goal

pub returns-then-out-l : goal.returns-then-out-l
returns-then-out-l c =
    record {
      result_value = rw (read_found c.args.bytes c.args.text.now c.args.place _ _ c.read_named-read.ensures c.in-Ok.is, lt-ltb _ _ c.if-out-l.true) (ap Err c.no_room.ensures);
      out_after = refl;
    }

pub decode-requires : goal.decode-requires
decode-requires c = (sym c.read_named-read.ensures ∙ c.in-Ok.is, c.if-out-l.false)

pub placed_behind-requires : goal.placed_behind-requires
placed_behind-requires c = omega (arith, refused_inside c.args.bytes c.args.text.now c.args.place c.requires _ (read_found c.args.bytes c.args.text.now c.args.place _ _ c.read_named-read.ensures c.in-Err.is))

pub returns-else-out-l : goal.returns-else-out-l
returns-else-out-l c =
    record {
      result_value = rw (read_found c.args.bytes c.args.text.now c.args.place _ _ c.read_named-read.ensures c.in-Ok.is, le-ltb _ _ c.if-out-l.false);
      out_after = c.decode.ensures ∙ ap (λ (s : List ℕ). literal_decoded c.args.bytes s ++ drop c.in-Ok.l.decoded c.args.out.now) (tail_part c.args.text.now c.args.place);
    }

pub returns-in-Err : goal.returns-in-Err
returns-in-Err c =
    record {
      result_value = rw (read_found c.args.bytes c.args.text.now c.args.place _ _ c.read_named-read.ensures c.in-Err.is) (ap Err c.placed_behind.ensures);
      out_after = refl;
    }
