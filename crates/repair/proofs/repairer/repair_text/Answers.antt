use Rattle.std.proofs.Common.{Err}
use native.Mathlib.Omega.{arith}
use mathlib.Core.Path.{◌≡◌, ◌∙◌, ap, sym}
use borrow.Author.Rules.{rules}
use lib.ListN.{length}
use Rattle.repair.proofs.Checks.{fits_true}
use Rattle.repair.proofs.Finding.{behind_movable, cut_inside, few_new, found_is, from_is, join_behind, join_le, kept_early, kept_is, kept_le, resume_inside}
use Rattle.repair.proofs.Finishing.{out_done, out_refused, out_unfit}
use Rattle.read.proofs.PassLaws.{few_entries}
use Rattle.repair.proofs.repairer.repair_text.Goals as goal

pub returns-then-not-repair_fits : goal.returns-then-not-repair_fits
returns-then-not-repair_fits c = let w = out_unfit c.args.tape.now c.args.count c.args.old_len c.args.a c.args.b c.args.text.now (sym c.repair_fits.ensures ∙ c.if-not-repair_fits.true) in (ap Err c.not_in_order.ensures ∙ w.0, w.1)

pub overflow_sub-e : goal.overflow_sub-e
overflow_sub-e c = let fit = fits_true c.args.tape.now c.args.count c.args.old_len c.args.a c.args.b (length c.args.text.now) (sym c.repair_fits.ensures ∙ c.if-not-repair_fits.false) in fit.cuts.in_old

pub overflow_sub-e-2 : goal.overflow_sub-e-2
overflow_sub-e-2 c = let fit = fits_true c.args.tape.now c.args.count c.args.old_len c.args.a c.args.b (length c.args.text.now) (sym c.repair_fits.ensures ∙ c.if-not-repair_fits.false) in omega (arith, fit.cuts.in_old, fit.cuts.lengths)

pub slice_bounds-last_quiet-end : goal.slice_bounds-last_quiet-end
slice_bounds-last_quiet-end c = let fit = fits_true c.args.tape.now c.args.count c.args.old_len c.args.a c.args.b (length c.args.text.now) (sym c.repair_fits.ensures ∙ c.if-not-repair_fits.false) in omega (arith, cut_inside c.args.tape.now c.args.count c.args.old_len c.args.a c.args.b c.args.text.now fit)

pub ends_before-j-requires : goal.ends_before-j-requires
ends_before-j-requires c = let fit = fits_true c.args.tape.now c.args.count c.args.old_len c.args.a c.args.b (length c.args.text.now) (sym c.repair_fits.ensures ∙ c.if-not-repair_fits.false) in (fit.room, (c.args.old_len, fit.sorted))

pub resume_at-from-requires : goal.resume_at-from-requires
resume_at-from-requires c = let fit = fits_true c.args.tape.now c.args.count c.args.old_len c.args.a c.args.b (length c.args.text.now) (sym c.repair_fits.ensures ∙ c.if-not-repair_fits.false) in let ej = kept_is c.args.tape.now c.args.count c.args.old_len c.args.a c.args.b c.args.text.now fit _ _ c.last_quiet-q.ensures c.ends_before-j.ensures in omega (arith, ej, kept_le c.args.tape.now c.args.count c.args.old_len c.args.a c.args.b c.args.text.now fit, fit.room)

pub find_join-requires : goal.find_join-requires
find_join-requires c = let fit = fits_true c.args.tape.now c.args.count c.args.old_len c.args.a c.args.b (length c.args.text.now) (sym c.repair_fits.ensures ∙ c.if-not-repair_fits.false) in let ej = kept_is c.args.tape.now c.args.count c.args.old_len c.args.a c.args.b c.args.text.now fit _ _ c.last_quiet-q.ensures c.ends_before-j.ensures in let ep = from_is c.args.tape.now c.args.count c.args.old_len c.args.a c.args.b c.args.text.now fit _ _ ej c.resume_at-from.ensures in (c.requires, omega (arith, ep, resume_inside c.args.tape.now c.args.count c.args.old_len c.args.a c.args.b c.args.text.now fit), fit.room, omega (arith, fit.cuts.in_old, fit.cuts.lengths), kept_early c.args.tape.now c.args.count c.args.old_len c.args.a c.args.b c.args.text.now fit _ ej)

pub overflow_sub-f : goal.overflow_sub-f
overflow_sub-f c = let fit = fits_true c.args.tape.now c.args.count c.args.old_len c.args.a c.args.b (length c.args.text.now) (sym c.repair_fits.ensures ∙ c.if-not-repair_fits.false) in let ej = kept_is c.args.tape.now c.args.count c.args.old_len c.args.a c.args.b c.args.text.now fit _ _ c.last_quiet-q.ensures c.ends_before-j.ensures in let ep = from_is c.args.tape.now c.args.count c.args.old_len c.args.a c.args.b c.args.text.now fit _ _ ej c.resume_at-from.ensures in let es = sym (found_is c.args.tape.now c.args.count c.args.old_len c.args.a c.args.b c.args.text.now fit _ _ ep c.find_join.ensures) ∙ c.in_ok-n.was in omega (arith, ej, join_behind c.args.tape.now c.args.count c.args.old_len c.args.a c.args.b c.args.text.now fit _ _ es)

pub overflow_sub-m : goal.overflow_sub-m
overflow_sub-m c = let fit = fits_true c.args.tape.now c.args.count c.args.old_len c.args.a c.args.b (length c.args.text.now) (sym c.repair_fits.ensures ∙ c.if-not-repair_fits.false) in let ej = kept_is c.args.tape.now c.args.count c.args.old_len c.args.a c.args.b c.args.text.now fit _ _ c.last_quiet-q.ensures c.ends_before-j.ensures in let ep = from_is c.args.tape.now c.args.count c.args.old_len c.args.a c.args.b c.args.text.now fit _ _ ej c.resume_at-from.ensures in let es = sym (found_is c.args.tape.now c.args.count c.args.old_len c.args.a c.args.b c.args.text.now fit _ _ ep c.find_join.ensures) ∙ c.in_ok-n.was in join_le c.args.tape.now c.args.count c.args.old_len c.args.a c.args.b c.args.text.now fit _ _ es

pub finish-requires : goal.finish-requires
finish-requires c = let fit = fits_true c.args.tape.now c.args.count c.args.old_len c.args.a c.args.b (length c.args.text.now) (sym c.repair_fits.ensures ∙ c.if-not-repair_fits.false) in let ej = kept_is c.args.tape.now c.args.count c.args.old_len c.args.a c.args.b c.args.text.now fit _ _ c.last_quiet-q.ensures c.ends_before-j.ensures in let ep = from_is c.args.tape.now c.args.count c.args.old_len c.args.a c.args.b c.args.text.now fit _ _ ej c.resume_at-from.ensures in let es = sym (found_is c.args.tape.now c.args.count c.args.old_len c.args.a c.args.b c.args.text.now fit _ _ ep c.find_join.ensures) ∙ c.in_ok-n.was in let few = few_new c.args.tape.now c.args.count c.args.old_len c.args.a c.args.b c.args.text.now fit _ _ es _ ep in let less = few_entries c.args.text.now c.resume_at-from.result in (c.requires, omega (arith, ep, resume_inside c.args.tape.now c.args.count c.args.old_len c.args.a c.args.b c.args.text.now fit), few, omega (arith, ej, fit.room, join_behind c.args.tape.now c.args.count c.args.old_len c.args.a c.args.b c.args.text.now fit _ _ es, join_le c.args.tape.now c.args.count c.args.old_len c.args.a c.args.b c.args.text.now fit _ _ es), omega (arith, few, less, c.requires), behind_movable c.args.tape.now c.args.count c.args.old_len c.args.a c.args.b c.args.text.now fit _ _ es c.requires _ ej)

pub returns-in_err-n : goal.returns-in_err-n
returns-in_err-n c = let fit = fits_true c.args.tape.now c.args.count c.args.old_len c.args.a c.args.b (length c.args.text.now) (sym c.repair_fits.ensures ∙ c.if-not-repair_fits.false) in let ej = kept_is c.args.tape.now c.args.count c.args.old_len c.args.a c.args.b c.args.text.now fit _ _ c.last_quiet-q.ensures c.ends_before-j.ensures in let ep = from_is c.args.tape.now c.args.count c.args.old_len c.args.a c.args.b c.args.text.now fit _ _ ej c.resume_at-from.ensures in let es = sym (found_is c.args.tape.now c.args.count c.args.old_len c.args.a c.args.b c.args.text.now fit _ _ ep c.find_join.ensures) ∙ c.in_err-n.was in let x : c.from_residual.result ≡ Err c.in_err-n.field-0.0 = search rules in rw x (out_refused c.args.tape.now c.args.count c.args.old_len c.args.a c.args.b c.args.text.now (sym c.repair_fits.ensures ∙ c.if-not-repair_fits.false) _ es)

pub returns : goal.returns
returns c = let fit = fits_true c.args.tape.now c.args.count c.args.old_len c.args.a c.args.b (length c.args.text.now) (sym c.repair_fits.ensures ∙ c.if-not-repair_fits.false) in let ej = kept_is c.args.tape.now c.args.count c.args.old_len c.args.a c.args.b c.args.text.now fit _ _ c.last_quiet-q.ensures c.ends_before-j.ensures in let ep = from_is c.args.tape.now c.args.count c.args.old_len c.args.a c.args.b c.args.text.now fit _ _ ej c.resume_at-from.ensures in let es = sym (found_is c.args.tape.now c.args.count c.args.old_len c.args.a c.args.b c.args.text.now fit _ _ ep c.find_join.ensures) ∙ c.in_ok-n.was in out_done c.args.tape.now c.args.count c.args.old_len c.args.a c.args.b c.args.text.now (sym c.repair_fits.ensures ∙ c.if-not-repair_fits.false) _ _ es c.requires _ _ ej ep _ _ c.finish.ensures
