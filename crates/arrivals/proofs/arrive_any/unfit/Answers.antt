use mathlib.Core.Path.{sym, ap, ◌∙◌}
use Rattle.lines.specs.Out.{put}
use Rattle.show.specs.Answers.{refused_text}
use Rattle.text.specs.declared.refusal.Refusal.{Refusal}
use Rattle.arrivals.specs.Any.{unfit_text}
use Rattle.arrivals.specs.declared.arrive_any.Last.{Last}
use Rattle.arrivals.proofs.arrive_any.unfit.Goals as goal

pub returns-in-Piece : goal.returns-in-Piece
returns-in-Piece c =
    c.refused.ensures ∙ ap (λ (x : Refusal). put (c.args.o.now, c.args.at) (refused_text x)) c.not_in_order.ensures
    ∙ sym (ap (λ (x : Last). put (c.args.o.now, c.args.at) (unfit_text x)) c.in-Piece.is)

pub returns-in-End : goal.returns-in-End
returns-in-End c =
    c.refused-in-End.ensures ∙ ap (λ (x : Refusal). put (c.args.o.now, c.args.at) (refused_text x)) c.not_in_order-in-End.ensures
    ∙ sym (ap (λ (x : Last). put (c.args.o.now, c.args.at) (unfit_text x)) c.in-End.is)

pub returns-in-Bad : goal.returns-in-Bad
returns-in-Bad c = c.bad.ensures ∙ sym (ap (λ (x : Last). put (c.args.o.now, c.args.at) (unfit_text x)) c.in-Bad.is)
