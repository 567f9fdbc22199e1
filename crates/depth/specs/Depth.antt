-- How deep entries are nested (document 01, module 10): "Depth counts open brackets."
use Rattle.std.specs.Prelude.{ℕ, max, List, [], ◌∷◌}
use Rattle.grammar.specs.declared.kinds.Kind.{Kind}
use Rattle.grammar.specs.Kinds.{side_of}
use Rattle.grammar.specs.Refused.{open_behind}

-- The most brackets that are open at once, where d are open before the entries.
unfoldable pub deepest_from : List Kind → ℕ → ℕ
deepest_from [] d = d
deepest_from (k ∷ ks) d = max d (deepest_from ks (open_behind (side_of k) d))

-- The same over all the entries of a document: 0 where it has no bracket.
abbrev pub deepest_of : List Kind → ℕ
deepest_of ks = deepest_from ks 0
