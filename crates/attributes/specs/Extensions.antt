-- The extensions (document 01, module 7): "`unwrap_newtypes`, `implicit_some`, `unwrap_variant_newtypes`, `explicit_struct_names` ..; detail adds 1, 2, 4,
-- 8, each at most once."
use Rattle.std.specs.Prelude.{Some, None, Option, ℕ, ◌+◌, ◌/◌, ◌%◌, Bool, false, cond, List, [], ◌∷◌, length, eqb}
use Rattle.attributes.specs.declared.extensions.Extension.{Extension}
use Rattle.attributes.specs.declared.extensions.Extension.TheVariants.{UnwrapNewtypes, ImplicitSome, UnwrapVariantNewtypes, ExplicitStructNames}
use Rattle.text.specs.Words.{starts_with}

-- An extension's name.
abbrev pub name_of : Extension → List ℕ
name_of UnwrapNewtypes = 0x75 ∷ 0x6e ∷ 0x77 ∷ 0x72 ∷ 0x61 ∷ 0x70 ∷ 0x5f ∷ 0x6e ∷ 0x65 ∷ 0x77 ∷ 0x74 ∷ 0x79 ∷ 0x70 ∷ 0x65 ∷ 0x73 ∷ []
name_of ImplicitSome = 0x69 ∷ 0x6d ∷ 0x70 ∷ 0x6c ∷ 0x69 ∷ 0x63 ∷ 0x69 ∷ 0x74 ∷ 0x5f ∷ 0x73 ∷ 0x6f ∷ 0x6d ∷ 0x65 ∷ []
name_of UnwrapVariantNewtypes =
    0x75 ∷ 0x6e ∷ 0x77 ∷ 0x72 ∷ 0x61 ∷ 0x70 ∷ 0x5f ∷ 0x76 ∷ 0x61 ∷ 0x72 ∷ 0x69 ∷ 0x61 ∷ 0x6e ∷ 0x74 ∷ 0x5f
    ∷ 0x6e ∷ 0x65 ∷ 0x77 ∷ 0x74 ∷ 0x79 ∷ 0x70 ∷ 0x65 ∷ 0x73 ∷ []
name_of ExplicitStructNames =
    0x65 ∷ 0x78 ∷ 0x70 ∷ 0x6c ∷ 0x69 ∷ 0x63 ∷ 0x69 ∷ 0x74 ∷ 0x5f ∷ 0x73 ∷ 0x74 ∷ 0x72 ∷ 0x75 ∷ 0x63 ∷ 0x74 ∷ 0x5f
    ∷ 0x6e ∷ 0x61 ∷ 0x6d ∷ 0x65 ∷ 0x73 ∷ []

-- The name of n bytes at the front is the word.
unfoldable pub is_word : (word t : List ℕ) → ℕ → Bool
is_word word t n = cond (eqb n (length word)) (starts_with word t) false

-- The first of the extensions with the name of n bytes at the front.
unfoldable pub first_named : List Extension → List ℕ → ℕ → Option Extension
first_named [] t n = None
first_named (e ∷ es) t n = let rest = first_named es t n in cond (is_word (name_of e) t n) (Some e) rest

-- The four.
abbrev pub extensions : List Extension
extensions = UnwrapNewtypes ∷ ImplicitSome ∷ UnwrapVariantNewtypes ∷ ExplicitStructNames ∷ []

-- The extension with the name of n bytes at the front.
unfoldable pub extension_of : List ℕ → ℕ → Option Extension
extension_of t n = first_named extensions t n

-- What an extension adds.
abbrev pub adds_of : Extension → ℕ
adds_of UnwrapNewtypes = 1
adds_of ImplicitSome = 2
adds_of UnwrapVariantNewtypes = 4
adds_of ExplicitStructNames = 8

-- The sum with the extension, which is added where it is not in it.
unfoldable pub added_to : Extension → ℕ → ℕ
added_to e sum = cond (eqb (sum / adds_of e % 2) 1) sum (sum + adds_of e)
