use mathlib.Core.Bool.{not}
use mathlib.Core.Path.{◌∙◌, ap, sym}
use Rattle.settled.proofs.CodeLaws.{stops_hash, stops_raw, stops_slash, stops_wide}
use Rattle.settled.proofs.bytes.is_stop.Goals as goal

pub returns-then-b-ge128 : goal.returns-then-b-ge128
returns-then-b-ge128 c = sym (stops_wide _ c.if-b-ge128.true)

pub returns-then-b-eq35 : goal.returns-then-b-eq35
returns-then-b-eq35 c = sym (stops_hash _ c.if-b-ge128.false c.if-b-eq35.true)

pub returns-then-b-eq92 : goal.returns-then-b-eq92
returns-then-b-eq92 c = sym (stops_slash _ c.if-b-ge128.false c.if-b-eq35.false c.if-b-eq92.true)

pub returns-then-is_ascii_raw : goal.returns-then-is_ascii_raw
returns-then-is_ascii_raw c = sym (stops_raw _ c.if-b-ge128.false c.if-b-eq35.false c.if-b-eq92.false ∙ ap not (sym c.is_ascii_raw.ensures ∙ c.if-is_ascii_raw.true))

pub returns : goal.returns
returns c = sym (stops_raw _ c.if-b-ge128.false c.if-b-eq35.false c.if-b-eq92.false ∙ ap not (sym c.is_ascii_raw.ensures ∙ c.if-is_ascii_raw.false))
