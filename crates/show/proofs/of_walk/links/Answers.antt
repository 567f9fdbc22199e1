use native.Mathlib.Omega.{arith}
use mathlib.Core.Path.{refl}
use lib.ListN.{get_or, drop}
use Rattle.lines.specs.Ascii.{ascii}
use Rattle.lines.specs.Decimal.{word_of}
use Rattle.lines.proofs.OutLaws.{then}
use Rattle.show.specs.Walks.{words_text, links_text}
use Rattle.show.proofs.ShownLaws.{put_turn, put_done, words_front, words_end}
use borrow.Author.Rules.{rules}
use Rattle.show.proofs.of_walk.links.Goals as goal

pub loop-n-init : goal.loop-n-init
loop-n-init c = (refl, refl)

pub loop-n-preserved : goal.loop-n-preserved
loop-n-preserved c = (
  search rules,
  put_turn (c.loop-n.o, c.loop-n.to) _ (words_text (drop c.loop-n.n-index c.args.s.now)) _ (word_of (get_or c.args.s.now c.loop-n.n-index 0)) _
      (words_front c.args.s.now c.loop-n.n-index (omega arith)) c.link-to.ensures c.loop-n.invariant.1,
)

pub returns : goal.returns
unfolding links_text
returns c = then (c.args.o.now, c.args.at) _ _ (ascii "ok") (words_text c.args.s.now) c.bytes-to.ensures
    (put_done (c.loop-n.o, c.loop-n.to) _ (words_text (drop c.loop-n.n-index c.args.s.now)) (words_end c.args.s.now c.loop-n.n-index (omega arith)) c.loop-n.invariant.1)
