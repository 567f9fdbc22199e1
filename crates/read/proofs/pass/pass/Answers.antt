use Rattle.std.proofs.Common.{Ok, Err}
use Prim.Native.Nat.{ℕ}
use native.Mathlib.Omega.{arith}
use mathlib.Core.Bool.{cond}
use mathlib.Core.Path.{◌∙◌, ◌≡◌, ap, refl}
use Rattle.reading.proofs.Steps.{from_end}
use Rattle.reading.specs.Owed.{quiet_byte}
use Rattle.reading.specs.Readings.{read_from}
use Rattle.read.proofs.PassLaws.{left_broken, left_complete, left_entry, left_full}
use Rattle.read.proofs.ReadSteps.{blanks_broken, blanks_complete, blanks_entry, blanks_within, plain_within, refuse_within, step_plain, step_refuse, step_stop, step_token, step_within}
use Rattle.rows.specs.Rows.{written}
use Rattle.rows.specs.declared.Entry.{Entry}
use Rattle.text.specs.declared.refusal.Refusal.{Refusal}
use Rattle.tokens.proofs.RonLaws.{laws}
use Rattle.tokens.specs.Ron.{ron_token}
use Rattle.read.proofs.pass.pass.Goals as goal

pub returns-then-text-front : goal.returns-then-text-front
returns-then-text-front c = let w = left_complete c.args.on c.args.n c.args.from (read_from ron_token c.args.text.now c.args.from) c.args.tape.now c.loop-i.i c.loop-i.at c.loop-i.before (read_from ron_token c.args.text.now c.loop-i.at) c.loop-i.tape c.loop-i.invariant.2 c.requires.2 c.loop-i-test.true (blanks_complete c.args.text.now c.loop-i.at c.behind_blanks-front.result c.behind_blanks-front.ensures (from_end ron_token quiet_byte laws c.args.text.now c.behind_blanks-front.result c.if-text-front.true)) in (c.told.ensures ∙ w.answer, w.rows)

pub overflow_add-end : goal.overflow_add-end
overflow_add-end c = let w = plain_within c.args.text.now c.behind_blanks-front.result _ c.plain-p.ensures c.if-p-gt0.true in omega (arith, w.0, c.requires.0)

pub entry_of-requires : goal.entry_of-requires
entry_of-requires c = let w = plain_within c.args.text.now c.behind_blanks-front.result _ c.plain-p.ensures c.if-p-gt0.true in (omega (arith, c.behind_blanks-front.ensures), omega (arith, w.0, c.requires.0), omega (arith, w.0, c.requires.0), omega (arith, w.1, c.requires.0))

pub loop-i-preserved-then-p-gt0 : goal.loop-i-preserved-then-p-gt0
loop-i-preserved-then-p-gt0 c = let w = plain_within c.args.text.now c.behind_blanks-front.result _ c.plain-p.ensures c.if-p-gt0.true in (w.0, c.put.auto.tape ∙ c.loop-i.invariant.1, left_entry c.args.on c.args.n c.args.from (read_from ron_token c.args.text.now c.args.from) c.args.tape.now c.loop-i.i c.loop-i.at c.loop-i.before (read_from ron_token c.args.text.now c.loop-i.at) c.loop-i.tape c.loop-i.invariant.2 _ _ _ c.loop-i-test.true (blanks_entry c.args.text.now c.loop-i.at c.behind_blanks-front.result c.behind_blanks-front.ensures _ _ (omega arith) (step_plain c.args.text.now c.behind_blanks-front.result _ c.plain-p.ensures c.if-p-gt0.true)) (c.put.ensures ∙ ap (λ (e : Entry). cond c.args.on (written c.loop-i.tape c.loop-i.i e) c.loop-i.tape) c.entry_of.ensures))

pub overflow_add-start : goal.overflow_add-start
overflow_add-start c = let w = step_within c.args.text.now c.behind_blanks-front.result _ c.next_token-found.ensures _ _ c.in-Token.is in omega (arith, w.0, w.1, c.requires.0)

pub overflow_add-end-in-Token : goal.overflow_add-end-in-Token
overflow_add-end-in-Token c = let w = step_within c.args.text.now c.behind_blanks-front.result _ c.next_token-found.ensures _ _ c.in-Token.is in omega (arith, w.0, w.1, c.requires.0)

pub entry_of-requires-in-Token : goal.entry_of-requires-in-Token
entry_of-requires-in-Token c = let w = step_within c.args.text.now c.behind_blanks-front.result _ c.next_token-found.ensures _ _ c.in-Token.is in (omega (arith, c.behind_blanks-front.ensures), omega (arith, w.0, w.1, c.requires.0), omega (arith, w.0, w.1, c.requires.0), omega (arith, w.2, c.requires.0))

pub loop-i-preserved : goal.loop-i-preserved
loop-i-preserved c = let w = step_within c.args.text.now c.behind_blanks-front.result _ c.next_token-found.ensures _ _ c.in-Token.is in (w.1, c.put-in-Token.auto.tape ∙ c.loop-i.invariant.1, left_entry c.args.on c.args.n c.args.from (read_from ron_token c.args.text.now c.args.from) c.args.tape.now c.loop-i.i c.loop-i.at c.loop-i.before (read_from ron_token c.args.text.now c.loop-i.at) c.loop-i.tape c.loop-i.invariant.2 _ _ _ c.loop-i-test.true (blanks_entry c.args.text.now c.loop-i.at c.behind_blanks-front.result c.behind_blanks-front.ensures _ _ refl (step_token c.args.text.now c.behind_blanks-front.result _ c.next_token-found.ensures _ _ c.in-Token.is)) (c.put-in-Token.ensures ∙ ap (λ (e : Entry). cond c.args.on (written c.loop-i.tape c.loop-i.i e) c.loop-i.tape) c.entry_of-in-Token.ensures))

pub returns-in-End : goal.returns-in-End
returns-in-End c = let w = left_complete c.args.on c.args.n c.args.from (read_from ron_token c.args.text.now c.args.from) c.args.tape.now c.loop-i.i c.loop-i.at c.loop-i.before (read_from ron_token c.args.text.now c.loop-i.at) c.loop-i.tape c.loop-i.invariant.2 c.requires.2 c.loop-i-test.true (blanks_complete c.args.text.now c.loop-i.at c.behind_blanks-front.result c.behind_blanks-front.ensures (step_stop c.args.text.now c.behind_blanks-front.result _ c.next_token-found.ensures c.in-End.is)) in (c.told-in-End.ensures ∙ w.answer, w.rows)

pub placed_behind-requires : goal.placed_behind-requires
placed_behind-requires c = let f = blanks_within c.args.text.now c.loop-i.at c.behind_blanks-front.result c.behind_blanks-front.ensures c.loop-i.invariant.0 in let w = refuse_within c.args.text.now c.behind_blanks-front.result _ c.next_token-found.ensures _ c.in-Refused.is in omega (arith, w, f, c.requires.0)

pub returns-in-Refused : goal.returns-in-Refused
returns-in-Refused c = let w = left_broken c.args.on c.args.n c.args.from (read_from ron_token c.args.text.now c.args.from) c.args.tape.now c.loop-i.i c.loop-i.at c.loop-i.before (read_from ron_token c.args.text.now c.loop-i.at) c.loop-i.tape c.loop-i.invariant.2 c.requires.2 _ c.loop-i-test.true (blanks_broken c.args.text.now c.loop-i.at c.behind_blanks-front.result c.behind_blanks-front.ensures _ (step_refuse c.args.text.now c.behind_blanks-front.result _ c.next_token-found.ensures _ c.in-Refused.is)) in (c.told-in-Refused.ensures ∙ ap (λ (d : Refusal). record { count = c.loop-i.i; end = c.loop-i.at; before = c.loop-i.before; ending = Err d }) c.placed_behind.ensures ∙ w.answer, w.rows)

pub returns : goal.returns
returns c = let w = left_full c.args.on c.args.n c.args.from (read_from ron_token c.args.text.now c.args.from) c.args.tape.now c.loop-i.i c.loop-i.at c.loop-i.before (read_from ron_token c.args.text.now c.loop-i.at) c.loop-i.tape c.loop-i.invariant.2 c.requires.2 c.loop-i-test.false in let z : c.args.n ≡ c.loop-i.i = omega arith in (c.told-2.ensures ∙ ap (λ (k : ℕ). record { count = k; end = c.loop-i.at; before = c.loop-i.before; ending = Ok tt }) z ∙ w.answer, w.rows)
