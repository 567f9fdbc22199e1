use Rattle.std.proofs.Common.{Err}
use mathlib.Core.Path.{◌≡◌, ◌∙◌, sym}
use borrow.Author.Rules.{rules}
use Rattle.entries.proofs.NamedLaws.{named_within}
use Rattle.sarridok.proofs.ContentsLaws.{contents_named, contents_unjudged, contents_unnamed}
use Rattle.sarridok.proofs.contents_call.contents.Goals as goal

pub returns-in_err-judge : goal.returns-in_err-judge
returns-in_err-judge c =
    let e : c.from_residual.result ≡ Err c.in_err-judge.field-0.0 = search rules in
    rw e (sym (contents_unjudged c.args.text.now c.args.tape.now c.args.count c.args.entry _ (sym c.in_err-judge.ensures)))

pub contents_at-requires : goal.contents_at-requires
contents_at-requires c = named_within c.args.text.now c.args.tape.now c.args.count c.args.entry _ (sym c.in_ok-bytes.ensures)

pub returns : goal.returns
returns c = c.contents_at.ensures ∙ sym (contents_named c.args.text.now c.args.tape.now c.args.count c.args.entry _ _ (sym c.in_ok-judge.ensures) (sym c.in_ok-bytes.ensures))

pub returns-in_err-bytes : goal.returns-in_err-bytes
returns-in_err-bytes c =
    let e : c.from_residual-in_err-bytes.result ≡ Err c.in_err-bytes.field-0.0 = search rules in
    rw e (sym (contents_unnamed c.args.text.now c.args.tape.now c.args.count c.args.entry _ (sym c.in_ok-judge.ensures) (sym c.in_err-bytes.ensures)))
