-- A quoted word as its bytes, so that the programs' words can be read here.
use Rattle.std.specs.Prelude.{ℕ, List, [], ◌∷◌}
use Prim.Native.Char.{code}
use Prim.Native.String.{String, [] as none, ◌∷◌ as then}

-- the code points of a text, which for ASCII are its bytes
abbrev pub ascii : String → List ℕ
ascii none = []
ascii (then c s) = code c ∷ ascii s
