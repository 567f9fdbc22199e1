use Rattle.std.proofs.Common.{Err}
use mathlib.Core.Path.{◌≡◌, ◌∙◌, sym}
use borrow.Author.Rules.{rules}
use Rattle.entries.proofs.NamedLaws.{named_within}
use Rattle.sarridok.proofs.ContentsLaws.{decoded_named, decoded_unjudged, decoded_unnamed, out_named, out_refused}
use Rattle.sarridok.proofs.decoded_call.decoded.Goals as goal

pub returns-in_err-judge : goal.returns-in_err-judge
returns-in_err-judge c =
    let e : c.from_residual.result ≡ Err c.in_err-judge.field-0.0 = search rules in
    record {
      result_value = e ∙ sym (decoded_unjudged c.args.text.now c.args.tape.now c.args.count c.args.entry _ (sym c.in_err-judge.ensures) _);
      out_after = sym (out_refused c.args.text.now c.args.tape.now c.args.count c.args.entry _ _ (decoded_unjudged c.args.text.now c.args.tape.now c.args.count c.args.entry _ (sym c.in_err-judge.ensures) _));
    }

pub decoded_at-requires : goal.decoded_at-requires
decoded_at-requires c = named_within c.args.text.now c.args.tape.now c.args.count c.args.entry _ (sym c.in_ok-bytes.ensures)

pub returns : goal.returns
returns c =
    record {
      result_value = c.decoded_at.ensures.result_value ∙ sym (decoded_named c.args.text.now c.args.tape.now c.args.count c.args.entry _ _ (sym c.in_ok-judge.ensures) (sym c.in_ok-bytes.ensures) _);
      out_after = c.decoded_at.ensures.out_after ∙ sym (out_named c.args.text.now c.args.tape.now c.args.count c.args.entry _ _ (sym c.in_ok-judge.ensures) (sym c.in_ok-bytes.ensures) _ _ c.decoded_at.ensures.result_value);
    }

pub returns-in_err-bytes : goal.returns-in_err-bytes
returns-in_err-bytes c =
    let e : c.from_residual-in_err-bytes.result ≡ Err c.in_err-bytes.field-0.0 = search rules in
    record {
      result_value = e ∙ sym (decoded_unnamed c.args.text.now c.args.tape.now c.args.count c.args.entry _ (sym c.in_ok-judge.ensures) (sym c.in_err-bytes.ensures) _);
      out_after = sym (out_refused c.args.text.now c.args.tape.now c.args.count c.args.entry _ _ (decoded_unnamed c.args.text.now c.args.tape.now c.args.count c.args.entry _ (sym c.in_ok-judge.ensures) (sym c.in_err-bytes.ensures) _));
    }
