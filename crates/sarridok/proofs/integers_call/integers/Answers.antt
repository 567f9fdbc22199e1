use Rattle.std.proofs.Common.{Err}
use native.Mathlib.Omega.{arith}
use mathlib.Core.Path.{◌≡◌, ◌∙◌, ap, sym}
use lib.ListN.{length}
use Rattle.sarridok.proofs.IntegersLaws.{all_refused, all_written, by_codes, by-count, by-item, by_judged, by_magnitudes, by-room}
use borrow.Author.Rules.{rules}
use Rattle.sarridok.proofs.integers_call.integers.Goals as goal

pub returns-in_err-judge : goal.returns-in_err-judge
returns-in_err-judge c =
    let e : c.from_residual.result ≡ Err c.in_err-judge.field-0.0 = search rules in
    let z = all_refused c.args.text.now c.args.tape.now c.args.count c.args.items.now c.args.magnitudes.now c.args.codes.now _ (by_judged c.args.text.now c.args.tape.now c.args.count c.args.items.now (length c.args.magnitudes.now) (length c.args.codes.now) _ (sym c.in_err-judge.ensures)) in
    record {
      answer = e ∙ z.0;
      magnitudes = z.1.0;
      codes = z.1.1;
    }

pub returns-then-room-count : goal.returns-then-room-count
returns-then-room-count c =
    let z = all_refused c.args.text.now c.args.tape.now c.args.count c.args.items.now c.args.magnitudes.now c.args.codes.now _ (by-count c.args.text.now c.args.tape.now c.args.count c.args.items.now (length c.args.magnitudes.now) (length c.args.codes.now) (sym c.in_ok-judge.ensures) (omega (arith, c.room.ensures, c.if-room-count.true))) in
    record {
      answer = ap Err c.not_in_order.ensures ∙ z.0;
      magnitudes = z.1.0;
      codes = z.1.1;
    }

pub judge_items-requires : goal.judge_items-requires
judge_items-requires c = ((sym c.in_ok-judge.ensures), (omega (arith, c.room.ensures, c.if-room-count.false)))

pub returns-in_err-judge_items : goal.returns-in_err-judge_items
returns-in_err-judge_items c =
    let e : c.from_residual-in_err-judge_items.result ≡ Err c.in_err-judge_items.field-0.0 = search rules in
    let z = all_refused c.args.text.now c.args.tape.now c.args.count c.args.items.now c.args.magnitudes.now c.args.codes.now _ (by-item c.args.text.now c.args.tape.now c.args.count c.args.items.now (length c.args.magnitudes.now) (length c.args.codes.now) (sym c.in_ok-judge.ensures) (omega (arith, c.room.ensures, c.if-room-count.false)) _ (sym c.in_err-judge_items.ensures)) in
    record {
      answer = e ∙ z.0;
      magnitudes = z.1.0;
      codes = z.1.1;
    }

pub returns-then-magnitudes-items : goal.returns-then-magnitudes-items
returns-then-magnitudes-items c =
    let z = all_refused c.args.text.now c.args.tape.now c.args.count c.args.items.now c.args.magnitudes.now c.args.codes.now _ (by_magnitudes c.args.text.now c.args.tape.now c.args.count c.args.items.now (length c.args.magnitudes.now) (length c.args.codes.now) (sym c.in_ok-judge.ensures) (omega (arith, c.room.ensures, c.if-room-count.false)) (sym c.in_ok-judge_items.ensures) c.if-magnitudes-items.true) in
    record {
      answer = ap Err c.no_room.ensures ∙ z.0;
      magnitudes = z.1.0;
      codes = z.1.1;
    }

pub returns-then-codes-items : goal.returns-then-codes-items
returns-then-codes-items c =
    let z = all_refused c.args.text.now c.args.tape.now c.args.count c.args.items.now c.args.magnitudes.now c.args.codes.now _ (by_codes c.args.text.now c.args.tape.now c.args.count c.args.items.now (length c.args.magnitudes.now) (length c.args.codes.now) (sym c.in_ok-judge.ensures) (omega (arith, c.room.ensures, c.if-room-count.false)) (sym c.in_ok-judge_items.ensures) c.if-codes-items.true) in
    record {
      answer = ap Err c.no_room-then-codes-items.ensures ∙ z.0;
      magnitudes = z.1.0;
      codes = z.1.1;
    }

pub write_items-requires : goal.write_items-requires
write_items-requires c = ((sym c.in_ok-judge.ensures), (omega (arith, c.room.ensures, c.if-room-count.false)), (sym c.in_ok-judge_items.ensures), c.if-magnitudes-items.false, c.if-codes-items.false)

pub returns : goal.returns
returns c =
    let z = all_written c.args.text.now c.args.tape.now c.args.count c.args.items.now c.args.magnitudes.now c.args.codes.now _ _ _ (sym c.in_ok-judge_items.ensures) (by-room c.args.text.now c.args.tape.now c.args.count c.args.items.now (length c.args.magnitudes.now) (length c.args.codes.now) (sym c.in_ok-judge.ensures) (omega (arith, c.room.ensures, c.if-room-count.false)) (sym c.in_ok-judge_items.ensures) c.if-magnitudes-items.false c.if-codes-items.false) c.write_items.ensures.magnitudes c.write_items.ensures.codes in
    record {
      answer = z.0;
      magnitudes = z.1.0;
      codes = z.1.1;
    }
