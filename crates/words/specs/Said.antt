-- What a line's words say: each is a number, a list of numbers or bytes in hex, or the line is no case.
use Rattle.std.specs.Prelude.{ℕ, List, Option, Some, None}
use Rattle.words.specs.Hex.{hex_in, pairs}
use Rattle.words.specs.Numbers.{numbers_in, numbers_of}

-- By a word that should be a number: what goes on with it, or what is said of a line that is no case.
abbrev pub by_number : {A : Type 0} → Option ℕ → A → (ℕ → A) → A
by_number (Some n) bad own = own n
by_number None bad own = bad

-- The same of a number of a tape.
abbrev pub by_small : {A : Type 0} → Option ℕ → A → (ℕ → A) → A
by_small (Some n) bad own = own n
by_small None bad own = bad

-- The same by what a word in hex was found to be.
abbrev pub by_hex : {A : Type 0} → Option ℕ → A → A → A
by_hex (Some n) bad own = own
by_hex None bad own = bad

-- By a word in hex: what goes on with its bytes, where there is room for them.
abbrev pub by_bytes : {A : Type 0} → List ℕ → ℕ → A → (List ℕ → A) → A
by_bytes word room bad own = by_hex (hex_in word room) bad (own (pairs word))

-- The same by what a list of numbers was found to be.
abbrev pub by_list : {A : Type 0} → Option ℕ → A → A → A
by_list (Some n) bad own = own
by_list None bad own = bad

-- By a list of numbers: what goes on with these, where there is room for them.
abbrev pub by_numbers : {A : Type 0} → List ℕ → ℕ → A → (List ℕ → A) → A
by_numbers word room bad own = by_list (numbers_in word room) bad (own (numbers_of word))
