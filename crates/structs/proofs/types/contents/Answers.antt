use native.Mathlib.Omega.{arith}
use mathlib.Core.Path.{◌≡◌}
use lib.ListN.{drop, length}
use Rattle.names.specs.Identifiers.{skip_identifier_of}
use Rattle.names.specs.declared.Identifier.{Identifier}
use Rattle.structs.proofs.TypeLaws.{NameFits, name_at}
use Rattle.structs.specs.Structs.{inside_brackets}
use Rattle.text.proofs.Lists.{on_part}
use Rattle.names.specs.declared.Identifier.TheVariants as name
use Rattle.structs.proofs.types.contents.Goals as goal

pub overflow_add-at : goal.overflow_add-at
overflow_add-at c =
    let name_is : (x : Identifier) → c.skip_identifier-name.result ≡ x → skip_identifier_of (drop (c.args.at) (c.args.s.now)) ≡ x = λ x e. on_part skip_identifier_of (c.args.s.now) (c.args.at) _ x c.skip_identifier-name.ensures e in
    let within : (x : Identifier) → c.skip_identifier-name.result ≡ x → NameFits (length (c.args.s.now)) (c.args.at) x = λ x e. name_at (c.args.s.now) (c.args.at) x c.requires (name_is x e) in
    let f = within (name.Name _) c.in-Name.is in omega arith

pub behind_name-requires : goal.behind_name-requires
behind_name-requires c =
    let name_is : (x : Identifier) → c.skip_identifier-name.result ≡ x → skip_identifier_of (drop (c.args.at) (c.args.s.now)) ≡ x = λ x e. on_part skip_identifier_of (c.args.s.now) (c.args.at) _ x c.skip_identifier-name.ensures e in
    let within : (x : Identifier) → c.skip_identifier-name.result ≡ x → NameFits (length (c.args.s.now)) (c.args.at) x = λ x e. name_at (c.args.s.now) (c.args.at) x c.requires (name_is x e) in
    within (name.Name _) c.in-Name.is

pub overflow_add-at-in-RawName : goal.overflow_add-at-in-RawName
overflow_add-at-in-RawName c =
    let name_is : (x : Identifier) → c.skip_identifier-name.result ≡ x → skip_identifier_of (drop (c.args.at) (c.args.s.now)) ≡ x = λ x e. on_part skip_identifier_of (c.args.s.now) (c.args.at) _ x c.skip_identifier-name.ensures e in
    let within : (x : Identifier) → c.skip_identifier-name.result ≡ x → NameFits (length (c.args.s.now)) (c.args.at) x = λ x e. name_at (c.args.s.now) (c.args.at) x c.requires (name_is x e) in
    let f = within (name.RawName _) c.in-RawName.is in omega arith

pub behind_name-requires-in-RawName : goal.behind_name-requires-in-RawName
behind_name-requires-in-RawName c =
    let name_is : (x : Identifier) → c.skip_identifier-name.result ≡ x → skip_identifier_of (drop (c.args.at) (c.args.s.now)) ≡ x = λ x e. on_part skip_identifier_of (c.args.s.now) (c.args.at) _ x c.skip_identifier-name.ensures e in
    let within : (x : Identifier) → c.skip_identifier-name.result ≡ x → NameFits (length (c.args.s.now)) (c.args.at) x = λ x e. name_at (c.args.s.now) (c.args.at) x c.requires (name_is x e) in
    within (name.RawName _) c.in-RawName.is

pub returns-in-Missing : goal.returns-in-Missing
unfolding inside_brackets
returns-in-Missing c =
    let name_is : (x : Identifier) → c.skip_identifier-name.result ≡ x → skip_identifier_of (drop (c.args.at) (c.args.s.now)) ≡ x = λ x e. on_part skip_identifier_of (c.args.s.now) (c.args.at) _ x c.skip_identifier-name.ensures e in
    rw (name_is name.Missing c.in-Missing.is) c.undecided.ensures

pub returns-in-Name : goal.returns-in-Name
unfolding inside_brackets
returns-in-Name c =
    let name_is : (x : Identifier) → c.skip_identifier-name.result ≡ x → skip_identifier_of (drop (c.args.at) (c.args.s.now)) ≡ x = λ x e. on_part skip_identifier_of (c.args.s.now) (c.args.at) _ x c.skip_identifier-name.ensures e in
    rw (name_is (name.Name _) c.in-Name.is) c.behind_name.ensures

pub returns-in-RawName : goal.returns-in-RawName
unfolding inside_brackets
returns-in-RawName c =
    let name_is : (x : Identifier) → c.skip_identifier-name.result ≡ x → skip_identifier_of (drop (c.args.at) (c.args.s.now)) ≡ x = λ x e. on_part skip_identifier_of (c.args.s.now) (c.args.at) _ x c.skip_identifier-name.ensures e in
    rw (name_is (name.RawName _) c.in-RawName.is) c.behind_name-in-RawName.ensures
