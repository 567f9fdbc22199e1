use Prim.Native.Nat.{◌-◌}
use mathlib.Core.Path.{sym, ◌∙◌}
use lib.ListN.{length}
use Rattle.arrivals.proofs.AnyLaws.{last_piece, last_end, last_none, last_room, last_held}
use Rattle.arrivals.proofs.arrive_any.last_of.Goals as goal

pub returns-then-is_end : goal.returns-then-is_end
returns-then-is_end c =
    record {
      value = last_end c.args.word.now (length c.args.text.now - c.args.k) (sym (last_room c.args.word.now c.args.text.now c.args.k _ c.bytes.ensures.value) ∙ c.in_default.is) (sym c.is_end.ensures ∙ c.if-is_end.true);
      text_after = last_held c.args.word.now c.args.text.now c.args.k _ c.bytes.ensures.buf_after;
    }

pub returns-in-Some : goal.returns-in-Some
returns-in-Some c =
    record {
      value = last_piece c.args.word.now (length c.args.text.now - c.args.k) c.in-Some.n (sym (last_room c.args.word.now c.args.text.now c.args.k _ c.bytes.ensures.value) ∙ c.in-Some.is);
      text_after = last_held c.args.word.now c.args.text.now c.args.k _ c.bytes.ensures.buf_after;
    }

pub returns : goal.returns
returns c =
    record {
      value = last_none c.args.word.now (length c.args.text.now - c.args.k) (sym (last_room c.args.word.now c.args.text.now c.args.k _ c.bytes.ensures.value) ∙ c.in_default.is) (sym c.is_end.ensures ∙ c.if-is_end.false);
      text_after = last_held c.args.word.now c.args.text.now c.args.k _ c.bytes.ensures.buf_after;
    }
