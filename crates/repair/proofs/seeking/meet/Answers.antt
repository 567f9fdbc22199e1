use native.Mathlib.Omega.{arith}
use mathlib.Core.Path.{◌∙◌, ap, sym}
use Rattle.repair.proofs.Searching.{meet_at, meet_gapped, meet_none, meet_past, seek_is, seek_le}
use Rattle.repair.specs.Repair.{no_entry}
use Rattle.rows.proofs.RowLaws.{entries_at, length_entries}
use Rattle.rows.specs.Rows.{entries_of}
use Rattle.rows.specs.declared.Entry.{Entry}
use Rattle.repair.proofs.seeking.meet.Goals as goal

pub seek-k-requires : goal.seek-k-requires
seek-k-requires c = (c.requires.0, omega (arith, c.requires.1 (omega (arith, c.if-start-e.false)), seek_le (entries_of c.args.count c.args.tape.now) c.args.b c.args.e c.args.start, length_entries c.args.count c.args.tape.now))

pub returns-then-count-k : goal.returns-then-count-k
returns-then-count-k c = meet_none (entries_of c.args.count c.args.tape.now) c.args.b c.args.e c.args.i c.args.gap c.args.start _ (omega (arith, c.if-start-e.false)) (c.seek-k.ensures ∙ seek_is (entries_of c.args.count c.args.tape.now) c.args.b c.args.e c.args.i c.args.start (omega (arith, c.if-start-e.false)) (c.requires.1 (omega (arith, c.if-start-e.false)))) (omega (arith, c.if-count-k.true, length_entries c.args.count c.args.tape.now))

pub returns-then-wide-q : goal.returns-then-wide-q
returns-then-wide-q c = meet_past (entries_of c.args.count c.args.tape.now) c.args.b c.args.e c.args.i c.args.gap c.args.start _ (omega (arith, c.if-start-e.false)) (c.seek-k.ensures ∙ seek_is (entries_of c.args.count c.args.tape.now) c.args.b c.args.e c.args.i c.args.start (omega (arith, c.if-start-e.false)) (c.requires.1 (omega (arith, c.if-start-e.false)))) (omega (arith, c.if-count-k.false, length_entries c.args.count c.args.tape.now)) (λ w. c.if-wide-q.true (c.wide.ensures ∙ sym (ap (λ (x : Entry). x.start) (entries_at c.args.count c.seek-k.result c.args.tape.now no_entry (omega (arith, c.if-count-k.false)) ∙ sym c.entry-old.ensures)) ∙ w))

pub returns-then-wide-gap : goal.returns-then-wide-gap
returns-then-wide-gap c = meet_gapped (entries_of c.args.count c.args.tape.now) c.args.b c.args.e c.args.i c.args.gap c.args.start _ (omega (arith, c.if-start-e.false)) (c.seek-k.ensures ∙ seek_is (entries_of c.args.count c.args.tape.now) c.args.b c.args.e c.args.i c.args.start (omega (arith, c.if-start-e.false)) (c.requires.1 (omega (arith, c.if-start-e.false)))) (omega (arith, c.if-count-k.false, length_entries c.args.count c.args.tape.now)) (ap (λ (x : Entry). x.start) (entries_at c.args.count c.seek-k.result c.args.tape.now no_entry (omega (arith, c.if-count-k.false)) ∙ sym c.entry-old.ensures) ∙ sym c.wide.ensures ∙ c.if-wide-q.false) (λ w. c.if-wide-gap.true (c.wide-2.ensures ∙ sym (ap (λ (x : Entry). x.gap) (entries_at c.args.count c.seek-k.result c.args.tape.now no_entry (omega (arith, c.if-count-k.false)) ∙ sym c.entry-old.ensures)) ∙ w))

pub returns : goal.returns
returns c = meet_at (entries_of c.args.count c.args.tape.now) c.args.b c.args.e c.args.i c.args.gap c.args.start _ (omega (arith, c.if-start-e.false)) (c.seek-k.ensures ∙ seek_is (entries_of c.args.count c.args.tape.now) c.args.b c.args.e c.args.i c.args.start (omega (arith, c.if-start-e.false)) (c.requires.1 (omega (arith, c.if-start-e.false)))) (omega (arith, c.if-count-k.false, length_entries c.args.count c.args.tape.now)) (ap (λ (x : Entry). x.start) (entries_at c.args.count c.seek-k.result c.args.tape.now no_entry (omega (arith, c.if-count-k.false)) ∙ sym c.entry-old.ensures) ∙ sym c.wide.ensures ∙ c.if-wide-q.false) (ap (λ (x : Entry). x.gap) (entries_at c.args.count c.seek-k.result c.args.tape.now no_entry (omega (arith, c.if-count-k.false)) ∙ sym c.entry-old.ensures) ∙ sym c.wide-2.ensures ∙ c.if-wide-gap.false)
