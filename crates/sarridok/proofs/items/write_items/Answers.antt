use native.Mathlib.Omega.{arith}
use mathlib.Core.Path.{◌∙◌, refl, sym}
use Rattle.sarridok.specs.declared.items.Coded.{Coded}
use Rattle.sarridok.proofs.ItemLaws.{all_stored, never_refused, turn}
use borrow.Author.Rules.{rules}
use Rattle.sarridok.proofs.items.write_items.Goals as goal

pub loop-k-init : goal.loop-k-init
loop-k-init c = (refl, refl, refl, refl)

pub returns-in_default : goal.returns-in_default
returns-in_default c = absurd (never_refused c.args.text.now c.args.tape.now c.args.count c.args.items.now c.requires.2 c.loop-k.k _ c.loop-k-test.true (sym c.in_default.is ∙ c.item_at-read.ensures))

pub loop-k-preserved : goal.loop-k-preserved
loop-k-preserved c =
    let reads = sym c.in-Ok.is ∙ c.item_at-read.ensures in (
      search rules,
      search rules,
      turn c.args.text.now c.args.tape.now c.args.count c.args.items.now c.requires.2 (λ (v : Coded). v.magnitude) c.loop-k.k c.args.magnitudes.now _ _ c.loop-k-test.true c.requires.3 reads c.loop-k.invariant.2,
      turn c.args.text.now c.args.tape.now c.args.count c.args.items.now c.requires.2 (λ (v : Coded). v.code) c.loop-k.k c.args.codes.now _ _ c.loop-k-test.true c.requires.4 reads c.loop-k.invariant.3,
    )

pub returns : goal.returns
returns c =
    record {
      magnitudes = all_stored c.args.text.now c.args.tape.now c.args.count c.args.items.now c.requires.2 (λ (v : Coded). v.magnitude) c.loop-k.k c.args.magnitudes.now _ (omega arith) c.loop-k-test.false c.loop-k.invariant.2;
      codes = all_stored c.args.text.now c.args.tape.now c.args.count c.args.items.now c.requires.2 (λ (v : Coded). v.code) c.loop-k.k c.args.codes.now _ (omega arith) c.loop-k-test.false c.loop-k.invariant.3;
    }
