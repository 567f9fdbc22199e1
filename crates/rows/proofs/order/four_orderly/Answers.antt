use mathlib.Core.Path.{◌∙◌, ap, ap₂, sym}
use Rattle.rows.specs.Order.{four_orderly, orderly}
use Rattle.rows.specs.declared.Entry.{Entry}
use Rattle.rows.proofs.order.four_orderly.Goals as goal

pub returns-then-not-is_orderly : goal.returns-then-not-is_orderly
unfolding four_orderly
returns-then-not-is_orderly c = rw (ap (orderly c.args.at) (sym c.entry-a.ensures) ∙ sym c.is_orderly.ensures ∙ c.if-not-is_orderly.true)

pub returns-then-not-is_orderly-2 : goal.returns-then-not-is_orderly-2
unfolding four_orderly
returns-then-not-is_orderly-2 c = rw (ap (orderly c.args.at) (sym c.entry-a.ensures) ∙ sym c.is_orderly.ensures ∙ c.if-not-is_orderly.false, ap₂ (λ (x y : Entry). orderly x.end y) (sym c.entry-a.ensures) (sym c.entry-b.ensures) ∙ sym c.is_orderly-2.ensures ∙ c.if-not-is_orderly-2.true)

pub returns-then-not-is_orderly-3 : goal.returns-then-not-is_orderly-3
unfolding four_orderly
returns-then-not-is_orderly-3 c = rw (ap (orderly c.args.at) (sym c.entry-a.ensures) ∙ sym c.is_orderly.ensures ∙ c.if-not-is_orderly.false, ap₂ (λ (x y : Entry). orderly x.end y) (sym c.entry-a.ensures) (sym c.entry-b.ensures) ∙ sym c.is_orderly-2.ensures ∙ c.if-not-is_orderly-2.false, ap₂ (λ (x y : Entry). orderly x.end y) (sym c.entry-b.ensures) (sym c.entry-c.ensures) ∙ sym c.is_orderly-3.ensures ∙ c.if-not-is_orderly-3.true)

pub returns : goal.returns
unfolding four_orderly
returns c = rw (ap (orderly c.args.at) (sym c.entry-a.ensures) ∙ sym c.is_orderly.ensures ∙ c.if-not-is_orderly.false, ap₂ (λ (x y : Entry). orderly x.end y) (sym c.entry-a.ensures) (sym c.entry-b.ensures) ∙ sym c.is_orderly-2.ensures ∙ c.if-not-is_orderly-2.false, ap₂ (λ (x y : Entry). orderly x.end y) (sym c.entry-b.ensures) (sym c.entry-c.ensures) ∙ sym c.is_orderly-3.ensures ∙ c.if-not-is_orderly-3.false) (c.is_orderly-4.ensures ∙ sym (ap₂ (λ (x y : Entry). orderly x.end y) (sym c.entry-c.ensures) (sym c.entry-d.ensures)))
