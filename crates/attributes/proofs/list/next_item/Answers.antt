use mathlib.Core.List.{List}
use Prim.Native.Nat.{◌-◌, ℕ}
use native.Mathlib.Omega.{arith}
use mathlib.Core.Path.{◌∙◌, ap, sym}
use Rattle.attributes.proofs.ListLaws.{identifier_by, identifier_fits}
use Rattle.attributes.specs.Extensions.{extension_of}
use Rattle.attributes.specs.List.{by_extension_name}
use Rattle.names.specs.declared.Identifier.TheVariants.{Missing, Name, RawName}
use Rattle.text.proofs.Lists.{tail_part}
use Rattle.attributes.proofs.list.next_item.Goals as goal

pub overflow_sub-letters : goal.overflow_sub-letters
overflow_sub-letters c = omega (arith, (identifier_fits c.args.t.now (RawName _) (sym c.in-RawName.is ∙ c.identifier-name.ensures)).0)

pub slice_bounds-from_ident-count : goal.slice_bounds-from_ident-count
slice_bounds-from_ident-count c = omega (arith, (identifier_fits c.args.t.now (RawName _) (sym c.in-RawName.is ∙ c.identifier-name.ensures)).0, (identifier_fits c.args.t.now (RawName _) (sym c.in-RawName.is ∙ c.identifier-name.ensures)).1)

pub slice_bounds-from_ident-start : goal.slice_bounds-from_ident-start
slice_bounds-from_ident-start c = omega (arith, (identifier_fits c.args.t.now (RawName _) (sym c.in-RawName.is ∙ c.identifier-name.ensures)).0, (identifier_fits c.args.t.now (RawName _) (sym c.in-RawName.is ∙ c.identifier-name.ensures)).1)

pub returns-in-Missing : goal.returns-in-Missing
returns-in-Missing c = identifier_by c.args.t.now Missing (sym c.in-Missing.is ∙ c.identifier-name.ensures)

pub returns-in-Name : goal.returns-in-Name
returns-in-Name c = c.by_named.ensures ∙ ap (by_extension_name c.args.t.now c.in-Name.n) c.from_ident.ensures ∙ identifier_by c.args.t.now (Name _) (sym c.in-Name.is ∙ c.identifier-name.ensures)

pub returns-in-RawName : goal.returns-in-RawName
returns-in-RawName c = c.by_named-in-RawName.ensures ∙ ap (by_extension_name c.args.t.now c.in-RawName.n) (c.from_ident-in-RawName.ensures ∙ ap (λ (x : List ℕ). extension_of x (c.in-RawName.n - 2)) (tail_part c.args.t.now 2)) ∙ identifier_by c.args.t.now (RawName _) (sym c.in-RawName.is ∙ c.identifier-name.ensures)
