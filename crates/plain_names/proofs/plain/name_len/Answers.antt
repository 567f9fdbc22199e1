use mathlib.Core.Bool.{not}
use mathlib.Core.Path.{◌∙◌}
use Rattle.std.proofs.Common.{rules, tests}
use Rattle.std.proofs.lemmas.Iterator.{YieldsList-from_slice}
use Rattle.std.proofs.lemmas.Iterator.Search.{position_from_yields_List}
use Rattle.text.proofs.RunPlaces.{run_place}
use Rattle.text.specs.Classes.{ascii_next}
use Rattle.plain_names.proofs.plain.name_len.Goals as goal

pub returns : goal.returns
returns c =
    let found = position_from_yields_List (λ b. not (ascii_next b)) _ _ c.position.result c.position.ensures.ran (YieldsList-from_slice c.args.s.now cc) (λ x b q k. search (rules, tests)) in
    c.unwrap_or.ensures ∙ run_place ascii_next c.args.s.now c.position.result found
