use native.Mathlib.Omega.{arith}
use Rattle.std.proofs.Common.{Err}
use mathlib.Core.Path.{◌≡◌, ◌∙◌, refl, sym}
use lib.ListN.{length}
use Rattle.text.proofs.JudgeLaws.{fit_short}
use Rattle.rows.specs.Rows.{entries_of}
use Rattle.rows.specs.Order.{in_order}
use Rattle.rows.proofs.RowLaws.{length_entries}
use Rattle.rows.proofs.OrderLaws.{in_order_short}
use Rattle.grammar.specs.Kinds.{kinds_of}
use Rattle.grammar.proofs.Refusals.{accepted_higher}
use Rattle.fields.specs.Names.{name_at}
use Rattle.fields.proofs.NamedAccepted.{named_plain}
use Rattle.sarridok.proofs.WalkFront.{walk_unread, walk_28, walk_23, walk_23_order, walk_23_raws, walk_22, walk_judged, refused_meets, accepted_meets}
use borrow.Author.Rules.{rules}
use Rattle.sarridok.proofs.walk_call.walk.Goals as goal

pub returns-in_err-judge : goal.returns-in_err-judge
returns-in_err-judge c =
    let e : c.from_residual.result ≡ Err c.in_err-judge.field-0.0 = search rules in
    let z = refused_meets c.args.text.now c.args.tape.now c.args.count c.args.limit c.args.links.now _ _ refl (walk_unread c.args.text.now c.args.tape.now c.args.count c.args.limit (length c.args.links.now) _ (sym c.in_err-judge.ensures)) in
    record {
      answer = e ∙ z.0;
      left = z.1;
    }

pub returns-then-limit-gt128 : goal.returns-then-limit-gt128
returns-then-limit-gt128 c =
    let z = refused_meets c.args.text.now c.args.tape.now c.args.count c.args.limit c.args.links.now _ _ c.unfit.ensures (walk_28 c.args.text.now c.args.tape.now c.args.count c.args.limit (length c.args.links.now) (sym c.in_ok-judge.ensures) (omega arith)) in
    record {
      answer = z.0;
      left = z.1;
    }

pub returns-then-room-count : goal.returns-then-room-count
returns-then-room-count c =
    let z = refused_meets c.args.text.now c.args.tape.now c.args.count c.args.limit c.args.links.now _ _ c.not_in_order.ensures (walk_23 c.args.text.now c.args.tape.now c.args.count c.args.limit (length c.args.links.now) (sym c.in_ok-judge.ensures) (omega arith) (omega (arith, c.room.ensures))) in
    record {
      answer = z.0;
      left = z.1;
    }

pub returns-then-not-in_order : goal.returns-then-not-in_order
returns-then-not-in_order c =
    let z = refused_meets c.args.text.now c.args.tape.now c.args.count c.args.limit c.args.links.now _ _ c.not_in_order-then-not-in_order.ensures (walk_23_order c.args.text.now c.args.tape.now c.args.count c.args.limit (length c.args.links.now) (sym c.in_ok-judge.ensures) (omega arith) (omega (arith, c.room.ensures)) (sym c.in_order.ensures ∙ c.if-not-in_order.true)) in
    record {
      answer = z.0;
      left = z.1;
    }

pub raws_fit-requires : goal.raws_fit-requires
raws_fit-requires c = (omega (arith, c.room.ensures), (sym c.in_order.ensures ∙ c.if-not-in_order.false))

pub returns-then-not-raws_fit : goal.returns-then-not-raws_fit
returns-then-not-raws_fit c =
    let z = refused_meets c.args.text.now c.args.tape.now c.args.count c.args.limit c.args.links.now _ _ c.not_in_order-then-not-raws_fit.ensures (walk_23_raws c.args.text.now c.args.tape.now c.args.count c.args.limit (length c.args.links.now) (sym c.in_ok-judge.ensures) (omega arith) (omega (arith, c.room.ensures)) (sym c.in_order.ensures ∙ c.if-not-in_order.false) (sym c.raws_fit.ensures ∙ c.if-not-raws_fit.true)) in
    record {
      answer = z.0;
      left = z.1;
    }

pub returns-then-links-count : goal.returns-then-links-count
returns-then-links-count c =
    let z = refused_meets c.args.text.now c.args.tape.now c.args.count c.args.limit c.args.links.now _ _ c.no_room.ensures (walk_22 c.args.text.now c.args.tape.now c.args.count c.args.limit (length c.args.links.now) (sym c.in_ok-judge.ensures) (omega arith) (omega (arith, c.room.ensures)) (sym c.in_order.ensures ∙ c.if-not-in_order.false) (sym c.raws_fit.ensures ∙ c.if-not-raws_fit.false) (omega arith)) in
    record {
      answer = z.0;
      left = z.1;
    }

pub judge-requires-2 : goal.judge-requires-2
unfolding in_order
judge-requires-2 c = (omega (arith, c.room.ensures), omega arith, omega (arith, in_order_short (entries_of c.args.count c.args.tape.now) 0 (length c.args.text.now) (sym c.in_order.ensures ∙ c.if-not-in_order.false), length_entries c.args.count c.args.tape.now, fit_short c.args.text.now (sym c.in_ok-judge.ensures)), (sym c.in_order.ensures ∙ c.if-not-in_order.false), (sym c.raws_fit.ensures ∙ c.if-not-raws_fit.false))

pub returns-in_err-judge-2 : goal.returns-in_err-judge-2
returns-in_err-judge-2 c =
    let e : c.from_residual-in_err-judge-2.result ≡ Err c.in_err-judge-2.field-0.0 = search rules in
    let z = refused_meets c.args.text.now c.args.tape.now c.args.count c.args.limit c.args.links.now _ _ refl (walk_judged c.args.text.now c.args.tape.now c.args.count c.args.limit (length c.args.links.now) (sym c.in_ok-judge.ensures) (omega arith) (omega (arith, c.room.ensures)) (sym c.in_order.ensures ∙ c.if-not-in_order.false) (sym c.raws_fit.ensures ∙ c.if-not-raws_fit.false) (omega arith) _ (c.in_err-judge-2.ensures)) in
    record {
      answer = e ∙ z.0;
      left = z.1;
    }

pub join-requires : goal.join-requires
unfolding in_order
join-requires c = (omega (arith, c.room.ensures), omega arith, omega (arith, in_order_short (entries_of c.args.count c.args.tape.now) 0 (length c.args.text.now) (sym c.in_order.ensures ∙ c.if-not-in_order.false), length_entries c.args.count c.args.tape.now, fit_short c.args.text.now (sym c.in_ok-judge.ensures)), accepted_higher (kinds_of (entries_of c.args.count c.args.tape.now)) c.args.limit 128 (omega arith) (named_plain (name_at c.args.text.now c.args.tape.now) (kinds_of (entries_of c.args.count c.args.tape.now)) c.args.limit (sym c.in_ok-judge-2.ensures)))

pub returns : goal.returns
returns c =
    let z = accepted_meets c.args.text.now c.args.tape.now c.args.count c.args.limit c.args.links.now _ c.join.ensures (walk_judged c.args.text.now c.args.tape.now c.args.count c.args.limit (length c.args.links.now) (sym c.in_ok-judge.ensures) (omega arith) (omega (arith, c.room.ensures)) (sym c.in_order.ensures ∙ c.if-not-in_order.false) (sym c.raws_fit.ensures ∙ c.if-not-raws_fit.false) (omega arith) _ (c.in_ok-judge-2.ensures)) in
    record {
      answer = z.0;
      left = z.1;
    }
