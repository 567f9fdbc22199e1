use mathlib.Core.Path.{◌∙◌}
use Rattle.arrivals.proofs.AnyLaws.{over_no_text, kept_fits, held_fits, over_state, over_unfit, over_no_state}
use native.Mathlib.Omega.{arith}
use Rattle.arrivals.proofs.arrive_any.over_state.Goals as goal

pub returns-in_default : goal.returns-in_default
returns-in_default c = over_no_text c.args.room c.args.words.now c.args.text.now c.args.tape.now _ _ c.behind-two.ensures c.word.ensures _ _ c.bytes.ensures.value c.bytes.ensures.buf_after (c.args.o.now, c.args.at) _ c.in_default.is c.bad.ensures

pub last_of-last-requires : goal.last_of-last-requires
last_of-last-requires c = omega (arith, c.bytes.auto.buf, kept_fits c.args.room c.args.words.now c.args.text.now c.args.tape.now _ _ c.behind-two.ensures c.word.ensures _ _ c.bytes.ensures.value c.bytes.ensures.buf_after (c.args.o.now, c.args.at) (c.args.o.now, c.args.at) c.in-Some.k c.in-Some.is)

pub lent-requires : goal.lent-requires
lent-requires c = held_fits c.args.room c.args.words.now c.args.text.now c.args.tape.now _ _ c.behind-two.ensures c.word.ensures _ _ c.bytes.ensures.value c.bytes.ensures.buf_after (c.args.o.now, c.args.at) (c.args.o.now, c.args.at) c.in-Some.k c.in-Some.is _ c.behind.ensures c.bytes.auto.buf _ c.last_of-last.ensures.value c.last_of-last.new.text c.last_of-last.auto.text

pub shape_of-text-in-State : goal.shape_of-text-in-State
shape_of-text-in-State c = c.lent.auto.text ∙ c.last_of-last.auto.text ∙ c.bytes.auto.buf

pub returns-in-State : goal.returns-in-State
returns-in-State c = over_state c.args.room c.args.words.now c.args.text.now c.args.tape.now _ _ c.behind-two.ensures c.word.ensures _ _ c.bytes.ensures.value c.bytes.ensures.buf_after (c.args.o.now, c.args.at) _ c.in-Some.k c.in-Some.is _ c.behind.ensures c.bytes.auto.buf _ c.last_of-last.ensures.value _ c.word-2.ensures _ c.spoken-spoken.ensures c.in-State.s c.in-State.is c.last_of-last.new.text c.spoken-spoken.new.tape c.last_of-last.ensures.text_after c.spoken-spoken.auto.tape c.lent.ensures

pub returns-in-Unfit : goal.returns-in-Unfit
returns-in-Unfit c = over_unfit c.args.room c.args.words.now c.args.text.now c.args.tape.now _ _ c.behind-two.ensures c.word.ensures _ _ c.bytes.ensures.value c.bytes.ensures.buf_after (c.args.o.now, c.args.at) _ c.in-Some.k c.in-Some.is _ c.behind.ensures c.bytes.auto.buf _ c.last_of-last.ensures.value _ c.word-2.ensures _ c.spoken-spoken.ensures c.in-Unfit.is c.unfit.ensures

pub returns-in-Bad : goal.returns-in-Bad
returns-in-Bad c = over_no_state c.args.room c.args.words.now c.args.text.now c.args.tape.now _ _ c.behind-two.ensures c.word.ensures _ _ c.bytes.ensures.value c.bytes.ensures.buf_after (c.args.o.now, c.args.at) _ c.in-Some.k c.in-Some.is _ c.behind.ensures c.bytes.auto.buf _ c.last_of-last.ensures.value _ c.word-2.ensures _ c.spoken-spoken.ensures c.in-Bad.is c.bad-in-Bad.ensures
