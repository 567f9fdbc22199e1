-- What a repair keeps (document 01, "Repair"): "Kept before: the old entries with a quiet byte at or behind their end and before a. Kept behind: the largest k
-- such that the last k new entries start at or behind the new bytes' end and are the last k old ones, moved by the change of length." Document 02, CR 6: "an
-- entry kept behind must agree in its gap as well".
use Rattle.std.specs.Prelude.{ℕ, zero, suc, ◌+◌, ◌-◌, ◌≤◌, ◌≡◌, Bool, true, false, cond, ◌&&◌, ◌||◌, List, [], ◌∷◌, ltb, leb, eqb, length, drop, take}
use Rattle.rows.specs.declared.Entry.{Entry}

-- The new text is the old one with its bytes from a to b replaced by others, which end at e.
pub record Replaced (old new : List ℕ) (a b e : ℕ) : Type 0 where
  pub cut : a ≤ b
  pub bytes : a ≤ e
  pub in_old : b ≤ length old
  pub in_new : e ≤ length new
  pub front : take a new ≡ take a old
  pub back : drop e new ≡ drop b old

-- ---- kept before

-- One of the bytes is quiet.
unfoldable pub any_quiet : (ℕ → Bool) → List ℕ → Bool
any_quiet quiet [] = false
any_quiet quiet (b ∷ s) = quiet b || any_quiet quiet s

-- How many entries meet a test.
unfoldable pub count_of : (Entry → Bool) → List Entry → ℕ
count_of p [] = 0
count_of p (e ∷ es) = let rest = count_of p es in cond (p e) (suc rest) rest

-- How many of the old entries are kept before a cut at a.
unfoldable pub kept_before : (ℕ → Bool) → List ℕ → ℕ → List Entry → ℕ
kept_before quiet text a old = count_of (λ e. any_quiet quiet (drop e.end (take a text))) old

-- How many bytes reach to the last quiet one, and it with them; 0 where none is quiet.
unfoldable pub last_quiet : (ℕ → Bool) → List ℕ → ℕ
last_quiet quiet [] = 0
last_quiet quiet (b ∷ s) = let rest = last_quiet quiet s in cond (ltb 0 rest) (suc rest) (cond (quiet b) 1 0)

-- ---- kept behind, where the old text has o bytes, the new one n, and the new bytes end at e

-- The new entry x is the old entry y moved by the change of length: told without a difference, which would be cut off at 0.
unfoldable pub is_moved : ℕ → ℕ → Entry → Entry → Bool
is_moved o n y x =
    eqb x.kind y.kind
    && (eqb (x.start + o) (y.start + n) && (eqb (x.end + o) (y.end + n) && (eqb x.detail y.detail && eqb x.gap y.gap)))

-- The new entries are the old ones, moved.
unfoldable pub are_moved : List Entry → List Entry → ℕ → ℕ → Bool
are_moved [] [] o n = true
are_moved [] (x ∷ xs) o n = false
are_moved (y ∷ ys) [] o n = false
are_moved (y ∷ ys) (x ∷ xs) o n = is_moved o n y x && are_moved ys xs o n

-- Each entry starts at e or behind it.
unfoldable pub all_behind : ℕ → List Entry → Bool
all_behind e [] = true
all_behind e (x ∷ xs) = leb e x.start && all_behind e xs

-- The last k entries.
abbrev pub last_of : ℕ → List Entry → List Entry
last_of k es = drop (length es - k) es

-- The last k new entries start at e or behind it, and are the last k old ones, moved.
unfoldable pub are_kept : ℕ → ℕ → ℕ → List Entry → List Entry → ℕ → Bool
are_kept o n e old new k = leb k (length old) && (leb k (length new) && (all_behind e (last_of k new) && are_moved (last_of k old) (last_of k new) o n))

-- The largest number up to m that meets a test, and 0 where none does.
unfoldable pub largest : (ℕ → Bool) → ℕ → ℕ
largest p zero = 0
largest p (suc m) = let less = largest p m in cond (p (suc m)) (suc m) less

-- How many entries are kept behind.
unfoldable pub kept_behind : ℕ → ℕ → ℕ → List Entry → List Entry → ℕ
kept_behind o n e old new = largest (are_kept o n e old new) (length old)

-- ---- what document 01 counted before entries had a gap

-- The new entry x is the old entry y moved, whatever stands in front of it.
pub record MovedThere (o n : ℕ) (y x : Entry) : Type 0 where
  pub kind : x.kind ≡ y.kind
  pub start : x.start + o ≡ y.start + n
  pub end : x.end + o ≡ y.end + n
  pub detail : x.detail ≡ y.detail

-- The new entries are the old ones so.
pub data AllThere (o n : ℕ) : List Entry → List Entry → Type 0 where
  none : AllThere o n [] []
  more : {y x : Entry} {ys xs : List Entry} → MovedThere o n y x → AllThere o n ys xs → AllThere o n (y ∷ ys) (x ∷ xs)

-- Document 01's k: the last k new entries start at e or behind it, and are the last k old ones so.
pub record KeptThere (o n e : ℕ) (old new : List Entry) (k : ℕ) : Type 0 where
  pub few_old : k ≤ length old
  pub few_new : k ≤ length new
  pub late : all_behind e (last_of k new) ≡ true
  pub there : AllThere o n (last_of k old) (last_of k new)
