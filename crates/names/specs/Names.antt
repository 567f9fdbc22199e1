-- Names and raw names (document 01, module 1; CR 5), told by encoded characters and Unicode's own classes.
-- That the definitions which compute them (Characters.antt, Identifiers.antt) agree with these, over any bytes, is proved in proofs/Agree.antt.
use Rattle.std.specs.Prelude.{ℕ, ◌+◌, ◌<◌, Bool, true, ◌||◌, List, [], ◌∷◌, ◌++◌, ◌≡◌, eqb, length}
use Rattle.text.specs.Classes.{one_of}
use Rattle.text.specs.Utf8.{Scalar, encode}
use Rattle.xid.specs.Xid.{xid_continue, xid_start}

-- A run of characters of the class, each encoded.
pub data Run (p : ℕ → Bool) : List ℕ → Type 0 where
  none : Run p []
  more : (c : ℕ) {t : List ℕ} → Scalar c → p c ≡ true → Run p t → Run p (encode c ++ t)

-- No character of the class stands at the front.
abbrev pub Ends : (ℕ → Bool) → List ℕ → Type 0
Ends p s = (c : ℕ) (t : List ℕ) → Scalar c → p c ≡ true → s ≡ encode c ++ t → ⊥

-- A name's first character is `_` or of XID_Start.
abbrev pub starts_name : ℕ → Bool
starts_name c = eqb c 0x5f || xid_start c

-- A raw name's characters are `.`, `+`, `-` and those of XID_Continue.
abbrev pub in_raw_name : ℕ → Bool
in_raw_name c = one_of (0x2e ∷ 0x2b ∷ 0x2d ∷ []) c || xid_continue c

-- A name of n bytes at the front: a first character, then as many of XID_Continue as stand there.
pub record IsName (s : List ℕ) (n : ℕ) : Type 0 where
  pub first : ℕ
  pub next : List ℕ
  pub rest : List ℕ
  pub split : s ≡ (encode first ++ next) ++ rest
  pub size : n ≡ length (encode first ++ next)
  pub scalar : Scalar first
  pub starts : starts_name first ≡ true
  pub goes-on : Run xid_continue next
  pub ends : Ends xid_continue rest

-- A raw name of n bytes at the front: `r#`, then at least one of its characters, and as many as stand there.
pub record IsRawName (s : List ℕ) (n : ℕ) : Type 0 where
  pub next : List ℕ
  pub rest : List ℕ
  pub split : s ≡ 0x72 ∷ 0x23 ∷ (next ++ rest)
  pub size : n ≡ 2 + length next
  pub some : 0 < length next
  pub goes-on : Run in_raw_name next
  pub ends : Ends in_raw_name rest
