use mathlib.Core.Bool.{not}
use mathlib.Core.Path.{ap}
use Rattle.pieces.proofs.AnswerLaws.{fit_there, not_ordered, nothing_there, piece_there, state_refused}
use Rattle.pieces.proofs.piece.piece.Goals as goal

pub returns-then-not-fits : goal.returns-then-not-fits
returns-then-not-fits c =
    let a = c.args in
    not_ordered a.state a.buffer.now a.n a.tape.now c.fits.result c.fits.ensures (ap not c.if-not-fits.true) c.not_in_order.result c.not_in_order.ensures

pub returns-then-refusal-ne0 : goal.returns-then-refusal-ne0
returns-then-refusal-ne0 c =
    let a = c.args in
    state_refused a.state a.buffer.now a.n a.tape.now c.fits.result c.fits.ensures (ap not c.if-not-fits.false) c.if-refusal-ne0.true

pub returns-then-n-eq0 : goal.returns-then-n-eq0
returns-then-n-eq0 c =
    let a = c.args in
    nothing_there a.state a.buffer.now a.n a.tape.now c.fits.result c.fits.ensures (ap not c.if-not-fits.false) c.if-refusal-ne0.false c.if-n-eq0.true

pub take_piece-requires : goal.take_piece-requires
take_piece-requires c =
    let a = c.args in
    fit_there a.state a.buffer.now a.n a.tape.now c.fits.result c.fits.ensures (ap not c.if-not-fits.false) c.if-refusal-ne0.false c.if-n-eq0.false

pub returns : goal.returns
returns c =
    let a = c.args in
    piece_there a.state a.buffer.now a.n a.tape.now c.fits.result c.fits.ensures (ap not c.if-not-fits.false) c.if-refusal-ne0.false c.if-n-eq0.false c.take_piece.result c.take_piece.new.buffer c.take_piece.new.tape c.take_piece.ensures
