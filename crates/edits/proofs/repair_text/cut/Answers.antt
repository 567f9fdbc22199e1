use mathlib.Core.Path.{refl, sym, ap, ◌∙◌}
use Prim.Native.Nat.{◌+◌}
use native.Mathlib.Omega.{arith}
use lib.ListN.{length, take}
use Rattle.edits.specs.Repairs.{cut_line}
use Rattle.edits.proofs.LineLaws.{answered}
use Rattle.edits.proofs.CutLaws.{cut_1, cut_2, cut_3, cut_4, cut_5, cut_fits, made_there, cut_made}
use Rattle.edits.proofs.repair_text.cut.Goals as goal

pub returns-then-b-a : goal.returns-then-b-a
returns-then-b-a c = answered (cut_line c.args.word.now c.args.a c.args.b (take c.args.n c.args.text.now) c.args.text.now c.args.tape.now c.args.aside.now) _ (c.args.o.now, c.args.at) _ (cut_1 c.args.word.now c.args.text.now c.args.n c.args.a c.args.b c.args.tape.now c.args.aside.now c.requires c.if-b-a.true) (c.bad.ensures, refl, refl, refl)

pub returns-then-n-b : goal.returns-then-n-b
returns-then-n-b c = answered (cut_line c.args.word.now c.args.a c.args.b (take c.args.n c.args.text.now) c.args.text.now c.args.tape.now c.args.aside.now) _ (c.args.o.now, c.args.at) _ (cut_2 c.args.word.now c.args.text.now c.args.n c.args.a c.args.b c.args.tape.now c.args.aside.now c.requires c.if-n-b.true) (c.bad-then-n-b.ensures, refl, refl, refl)

pub overflow_sub-text : goal.overflow_sub-text
overflow_sub-text c = omega (arith, c.requires)

pub returns-then-text-n : goal.returns-then-text-n
returns-then-text-n c = answered (cut_line c.args.word.now c.args.a c.args.b (take c.args.n c.args.text.now) c.args.text.now c.args.tape.now c.args.aside.now) _ (c.args.o.now, c.args.at) _ (cut_3 c.args.word.now c.args.text.now c.args.n c.args.a c.args.b c.args.tape.now c.args.aside.now c.requires c.if-text-n.true) (c.bad-then-text-n.ensures, refl, refl, refl)

pub overflow_add-first : goal.overflow_add-first
overflow_add-first c = omega (arith, c.if-b-a.false, c.if-n-b.false, c.if-text-n.false, c.requires)

pub bytes_behind-requires : goal.bytes_behind-requires
bytes_behind-requires c = omega (arith, c.if-b-a.false, c.if-n-b.false, c.if-text-n.false, c.requires)

pub returns-in_default : goal.returns-in_default
returns-in_default c = answered (cut_line c.args.word.now c.args.a c.args.b (take c.args.n c.args.text.now) c.args.text.now c.args.tape.now c.args.aside.now) _ (c.args.o.now, c.args.at) _ (cut_4 c.args.word.now c.args.text.now c.args.n c.args.a c.args.b c.args.tape.now c.args.aside.now c.requires c.if-b-a.false c.if-n-b.false c.if-text-n.false (sym c.bytes_behind.ensures.0 ∙ c.in_default.is)) (c.bad-in_default.ensures, c.bytes_behind.ensures.1, refl, refl)

pub overflow_add-end : goal.overflow_add-end
overflow_add-end c = omega (arith, cut_fits c.args.word.now c.args.text.now (c.args.n + c.args.a) c.in-Some.k (omega (arith, c.if-b-a.false, c.if-n-b.false, c.if-text-n.false, c.requires)) (sym c.bytes_behind.ensures.0 ∙ c.in-Some.is), ap length c.bytes_behind.ensures.1, c.if-b-a.false, c.if-n-b.false, c.if-text-n.false, c.requires)

pub overflow_sub-text-2 : goal.overflow_sub-text-2
overflow_sub-text-2 c = omega (arith, cut_fits c.args.word.now c.args.text.now (c.args.n + c.args.a) c.in-Some.k (omega (arith, c.if-b-a.false, c.if-n-b.false, c.if-text-n.false, c.requires)) (sym c.bytes_behind.ensures.0 ∙ c.in-Some.is), ap length c.bytes_behind.ensures.1, c.if-b-a.false, c.if-n-b.false, c.if-text-n.false, c.requires)

pub returns-then-text-end : goal.returns-then-text-end
returns-then-text-end c = answered (cut_line c.args.word.now c.args.a c.args.b (take c.args.n c.args.text.now) c.args.text.now c.args.tape.now c.args.aside.now) _ (c.args.o.now, c.args.at) _ (cut_5 c.args.word.now c.args.text.now c.args.n c.args.a c.args.b c.args.tape.now c.args.aside.now c.requires c.if-b-a.false c.if-n-b.false c.if-text-n.false c.in-Some.k (sym c.bytes_behind.ensures.0 ∙ c.in-Some.is) (omega (arith, cut_fits c.args.word.now c.args.text.now (c.args.n + c.args.a) c.in-Some.k (omega (arith, c.if-b-a.false, c.if-n-b.false, c.if-text-n.false, c.requires)) (sym c.bytes_behind.ensures.0 ∙ c.in-Some.is), ap length c.bytes_behind.ensures.1, c.if-b-a.false, c.if-n-b.false, c.if-text-n.false, c.requires, c.if-text-end.true))) (c.bad-then-text-end.ensures, c.bytes_behind.ensures.1, refl, refl)

pub make-requires : goal.make-requires
make-requires c = (c.if-b-a.false, c.if-n-b.false, omega (arith, cut_fits c.args.word.now c.args.text.now (c.args.n + c.args.a) c.in-Some.k (omega (arith, c.if-b-a.false, c.if-n-b.false, c.if-text-n.false, c.requires)) (sym c.bytes_behind.ensures.0 ∙ c.in-Some.is), ap length c.bytes_behind.ensures.1, c.if-b-a.false, c.if-n-b.false, c.if-text-n.false, c.requires, c.if-text-end.false))

pub overflow_add-end-2 : goal.overflow_add-end-2
overflow_add-end-2 c = omega (arith, cut_fits c.args.word.now c.args.text.now (c.args.n + c.args.a) c.in-Some.k (omega (arith, c.if-b-a.false, c.if-n-b.false, c.if-text-n.false, c.requires)) (sym c.bytes_behind.ensures.0 ∙ c.in-Some.is), ap length c.bytes_behind.ensures.1, c.if-b-a.false, c.if-n-b.false, c.if-text-n.false, c.requires, c.if-text-end.false)

pub returns : goal.returns
returns c = cut_made c.args.word.now c.args.text.now c.args.n c.args.a c.args.b c.args.tape.now c.args.aside.now c.requires c.if-b-a.false c.if-n-b.false c.if-text-n.false c.in-Some.k (sym c.bytes_behind.ensures.0 ∙ c.in-Some.is) (omega (arith, cut_fits c.args.word.now c.args.text.now (c.args.n + c.args.a) c.in-Some.k (omega (arith, c.if-b-a.false, c.if-n-b.false, c.if-text-n.false, c.requires)) (sym c.bytes_behind.ensures.0 ∙ c.in-Some.is), ap length c.bytes_behind.ensures.1, c.if-b-a.false, c.if-n-b.false, c.if-text-n.false, c.requires, c.if-text-end.false)) _ (made_there c.args.word.now c.args.text.now c.args.n c.args.a c.args.b c.args.tape.now c.args.aside.now c.requires c.if-b-a.false c.if-n-b.false c.if-text-n.false c.in-Some.k (sym c.bytes_behind.ensures.0 ∙ c.in-Some.is) (omega (arith, cut_fits c.args.word.now c.args.text.now (c.args.n + c.args.a) c.in-Some.k (omega (arith, c.if-b-a.false, c.if-n-b.false, c.if-text-n.false, c.requires)) (sym c.bytes_behind.ensures.0 ∙ c.in-Some.is), ap length c.bytes_behind.ensures.1, c.if-b-a.false, c.if-n-b.false, c.if-text-n.false, c.requires, c.if-text-end.false)) _ _ c.bytes_behind.ensures.1 c.make.ensures) (c.args.o.now, c.args.at) _ _ _ c.edit.ensures
