-- The counts of document 01: kept before, and the largest k kept behind. Assumes nothing.
use Prim.Native.Nat.{◌+◌, ◌-◌, ◌<◌, ◌≤◌, suc, zero, ℕ}
use native.Mathlib.Nat.{le_of_suc-le-suc, not-suc-le-zero}
use native.Mathlib.Omega.{arith}
use mathlib.Core.Bool.{Bool, ◌&&◌, false, true}
use mathlib.Core.List.{List, [], ◌++◌, ◌∷◌, append-nil}
use mathlib.Core.Path.{◌∙◌, ◌≡◌, ap, ap₂, refl, subst, sym}
use lib.Dec.{leb, ltb}
use lib.ListN.{get_or-append, drop, drop_of_length-le, get_or, length, length-append, take}
use lib.Seq.{drop-append_seam, drop-cons}
use borrow.Author.Tests.{le-leb, le-ltb, leb-true, lt-ltb}
use Rattle.reading.proofs.Joins.{test_moved}
use Rattle.reading.proofs.QuietLaws.{quiet_behind}
use Rattle.reading.specs.Kept.{all_behind, any_quiet, are_kept, are_moved, count_of, is_moved, kept_before, kept_behind, largest, last_of, last_quiet}
use Rattle.rows.specs.declared.Entry.{Entry}
use Rattle.text.proofs.Choices.{and_true, cond_cases, either, lt_or_le}

-- ---- a property of each entry

abbrev pub All : (Entry → Type 0) → List Entry → Type 0
All P [] = Unit {0}
All P (e ∷ es) = P e × All P es

abbrev pub no_entry : Entry
no_entry = record { kind = 0; start = 0; end = 0; detail = 0; gap = 0 }

pub all-at : (P : Entry → Type 0) (es : List Entry) (i : ℕ) → All P es → i < length es → P (get_or es i no_entry)
all-at P [] i a h = absurd (not-suc-le-zero h)
all-at P (e ∷ es) zero a h = a.0
all-at P (e ∷ es) (suc i) a h = all-at P es i a.1 (le_of_suc-le-suc h)

pub all_of : (P : Entry → Type 0) (es : List Entry) → ((i : ℕ) → i < length es → P (get_or es i no_entry)) → All P es
all_of P [] f = tt
all_of P (e ∷ es) f = (f 0 (omega arith), all_of P es (λ i h. f (suc i) (omega arith)))

pub all_append : (P : Entry → Type 0) (xs ys : List Entry) → All P xs → All P ys → All P (xs ++ ys)
all_append P [] ys a b = b
all_append P (x ∷ xs) ys a b = (a.0, all_append P xs ys a.1 b)

-- ---- kept before

count_none : (p : Entry → Bool) (ys : List Entry) → All (λ e. p e ≡ false) ys → count_of p ys ≡ 0
unfolding count_of
count_none p [] a = refl
count_none p (y ∷ ys) a = rw a.0 (count_none p ys a.1)

count_split : (p : Entry → Bool) (xs ys : List Entry) → All (λ e. p e ≡ true) xs → All (λ e. p e ≡ false) ys → count_of p (xs ++ ys) ≡ length xs
unfolding count_of
count_split p [] ys a b = count_none p ys b
count_split p (x ∷ xs) ys a b = rw a.0 (ap suc (count_split p xs ys a.1 b))

pub map_all : (P Q : Entry → Type 0) (es : List Entry) → ((e : Entry) → P e → Q e) → All P es → All Q es
map_all P Q [] f a = tt
map_all P Q (e ∷ es) f a = (f e a.0, map_all P Q es f a.1)

-- those that end before the last quiet byte's end, and no others
pub kept-before : (quiet : ℕ → Bool) (text : List ℕ) (a : ℕ) (xs ys : List Entry)
    → All (λ e. e.end < last_quiet quiet (take a text)) xs → All (λ e. last_quiet quiet (take a text) ≤ e.end) ys
    → kept_before quiet text a (xs ++ ys) ≡ length xs
unfolding kept_before
kept-before quiet text a xs ys early late =
    let q : ℕ = last_quiet quiet (take a text) in
    let p : Entry → Bool = λ e. any_quiet quiet (drop e.end (take a text)) in
    let is : (e : Entry) → p e ≡ ltb e.end q = λ e. quiet_behind quiet (take a text) e.end in
    count_split p xs ys
    (map_all (λ e. e.end < q) (λ e. p e ≡ true) xs (λ e h. is e ∙ lt-ltb e.end q h) early)
    (map_all (λ e. q ≤ e.end) (λ e. p e ≡ false) ys (λ e h. is e ∙ le-ltb e.end q h) late)

-- ---- the largest number that meets a test

module _ (p : ℕ → Bool) where
  pub largest_le : (m : ℕ) → largest p m ≤ m
  unfolding largest
  largest_le zero = omega arith
  largest_le (suc m) =
      let h = largest_le m in
      cond_cases (λ (n : ℕ). n ≤ suc m) (p (suc m)) (suc m) (largest p m) (λ e. omega arith) (λ e. omega arith)

  pub largest_holds : (m : ℕ) → p 0 ≡ true → p (largest p m) ≡ true
  unfolding largest
  largest_holds zero z = z
  largest_holds (suc m) z = cond_cases (λ (n : ℕ). p n ≡ true) (p (suc m)) (suc m) (largest p m) (λ e. e) (λ e. largest_holds m z)

  pub largest_most : (m j : ℕ) → j ≤ m → p j ≡ true → j ≤ largest p m
  unfolding largest
  largest_most zero j h e = h
  largest_most (suc m) j h e =
      cond_cases (λ (n : ℕ). j ≤ n) (p (suc m)) (suc m) (largest p m) (λ t. h)
      (λ f. either (lt_or_le m j)
      (λ l. let z : j ≡ suc m = omega arith in let w : ◌≡◌ {A = Bool} true false = sym e ∙ ap p z ∙ f in let y : ◌≡◌ {A = ℕ} 0 1 = cc in absurd (omega arith))
      (λ l. largest_most m j l e))

-- ---- kept behind

module _ (o n e : ℕ) (old new : List Entry) where
  -- what `are_kept` says
  pub record Behind (k : ℕ) : Type 0 where
    pub in-old : k ≤ length old
    pub in-new : k ≤ length new
    pub late : all_behind e (last_of k new) ≡ true
    pub all_moved : are_moved (last_of k old) (last_of k new) o n ≡ true

  pub kept_test : (k : ℕ) → Behind k → are_kept o n e old new k ≡ true
  unfolding are_kept
  kept_test k b = simp (le-leb k (length old) b.in-old, le-leb k (length new) b.in-new, b.late, b.all_moved)

  pub test_kept : (k : ℕ) → are_kept o n e old new k ≡ true → Behind k
  unfolding are_kept
  test_kept k h =
      let a = and_true (leb k (length old)) (leb k (length new) && (all_behind e (last_of k new) && are_moved (last_of k old) (last_of k new) o n)) h in
      let b = and_true (leb k (length new)) (all_behind e (last_of k new) && are_moved (last_of k old) (last_of k new) o n) a.1 in
      let c = and_true (all_behind e (last_of k new)) (are_moved (last_of k old) (last_of k new) o n) b.1 in
      record { in-old = leb-true k (length old) a.0; in-new = leb-true k (length new) b.0; late = c.0; all_moved = c.1 }

  none_behind : Behind 0
  unfolding all_behind are_moved
  none_behind =
      let z : (es : List Entry) → last_of 0 es ≡ [] = λ es. drop_of_length-le es {i = length es - 0} (omega arith) in
      record { in-old = omega arith; in-new = omega arith; late = rw (z new); all_moved = rw (z old, z new) }

  -- the count is the largest such k
  pub kept_behind_holds : Behind (kept_behind o n e old new)
  unfolding kept_behind
  kept_behind_holds = test_kept (kept_behind o n e old new) (largest_holds (are_kept o n e old new) (length old) (kept_test 0 none_behind))

  pub kept_behind_most : (j : ℕ) → Behind j → j ≤ kept_behind o n e old new
  unfolding kept_behind
  kept_behind_most j b = largest_most (are_kept o n e old new) (length old) j b.in-old (kept_test j b)

  -- so it is any k that is such and that none exceeds
  pub kept_behind_is : (k : ℕ) → Behind k → ((j : ℕ) → Behind j → j ≤ k) → kept_behind o n e old new ≡ k
  kept_behind_is k b most = omega (arith, kept_behind_most k b, most (kept_behind o n e old new) kept_behind_holds)

-- ---- the sentence shown with the count: it reaches from the first new entry that starts where a moved old entry starts, and whose gap agrees

-- x is no new entry, at e or behind it, that starts where a moved old entry does, and behind the same gap
abbrev pub Apart : ℕ → ℕ → ℕ → List Entry → Entry → Type 0
Apart o n e old x = e ≤ x.start → All (λ y. x.start + o ≡ y.start + n → x.gap ≡ y.gap → ⊥) old

last_back : (xs ys : List Entry) (k : ℕ) → length ys ≡ k → last_of k (xs ++ ys) ≡ ys
last_back xs ys k h =
    let l = length-append xs ys in
    let m : length (xs ++ ys) - k ≡ length xs = omega arith in
    ap (λ (z : ℕ). drop z (xs ++ ys)) m ∙ drop-append_seam xs ys

moved_length : (ys xs : List Entry) (o n : ℕ) → are_moved ys xs o n ≡ true → length ys ≡ length xs
unfolding are_moved
moved_length [] [] o n h = refl
moved_length [] (x ∷ xs) o n h = let z : ◌≡◌ {A = ℕ} 0 1 = cc in absurd (omega arith)
moved_length (y ∷ ys) [] o n h = let z : ◌≡◌ {A = ℕ} 0 1 = cc in absurd (omega arith)
moved_length (y ∷ ys) (x ∷ xs) o n h = ap suc (moved_length ys xs o n (and_true (is_moved o n y x) (are_moved ys xs o n) h).1)

module _ (o n e : ℕ) (os ns kept mv : List Entry) (apart : All (Apart o n e (os ++ kept)) ns) (meet : are_moved kept mv o n ≡ true) where
  abbrev old : List Entry
  old = os ++ kept

  abbrev new : List Entry
  new = ns ++ mv

  -- more than those would begin at an entry that is apart
  clash : (j : ℕ) → Behind o n e old new j → length kept < j → ⊥
  unfolding all_behind are_moved
  clash j b h =
      let i : ℕ = length new - j in
      let m : ℕ = length old - j in
      let ln = length-append ns mv in
      let lm : length kept ≡ length mv = moved_length kept mv o n meet in
      let inNs : i < length ns = omega (arith, b.in-new) in
      let in_new : i < length new = omega (arith, b.in-new) in
      let in_old : m < length old = omega (arith, b.in-old) in
      let x : Entry = get_or new i no_entry in
      let y : Entry = get_or old m no_entry in
      let dx : drop i new ≡ x ∷ drop (suc i) new = drop-cons new i no_entry in_new in
      let dy : drop m old ≡ y ∷ drop (suc m) old = drop-cons old m no_entry in_old in
      let late : leb e x.start && all_behind e (drop (suc i) new) ≡ true = sym (ap (all_behind e) dx) ∙ b.late in
      let mvd : is_moved o n y x && are_moved (drop (suc m) old) (drop (suc i) new) o n ≡ true =
      sym (ap₂ (λ (ys xs : List Entry). are_moved ys xs o n) dy dx) ∙ b.all_moved in
      let le = leb-true e x.start (and_true (leb e x.start) (all_behind e (drop (suc i) new)) late).0 in
      let at = test_moved o n y x (and_true (is_moved o n y x) (are_moved (drop (suc m) old) (drop (suc i) new) o n) mvd).0 in
      let ax : Apart o n e old x = subst (Apart o n e old) (sym (get_or-append ns mv no_entry i inNs)) (all-at (Apart o n e old) ns i apart inNs) in
      all-at (λ y. x.start + o ≡ y.start + n → x.gap ≡ y.gap → ⊥) old m (ax le) in_old at.start_moved at.gap_same

  pub kept-behind : all_behind e mv ≡ true → kept_behind o n e old new ≡ length kept
  kept-behind late =
      let lm : length kept ≡ length mv = moved_length kept mv o n meet in
      let lo = length-append os kept in
      let ln = length-append ns mv in
      let dn : last_of (length kept) new ≡ mv = last_back ns mv (length kept) (sym lm) in
      let dk : last_of (length kept) old ≡ kept = last_back os kept (length kept) refl in
      kept_behind_is o n e old new (length kept)
      (record {
        in-old = omega arith;
        in-new = omega arith;
        late = ap (all_behind e) dn ∙ late;
        all_moved = ap₂ (λ (ys xs : List Entry). are_moved ys xs o n) dk dn ∙ meet;
      })
      (λ j b. either (lt_or_le (length kept) j) (λ l. absurd (clash j b l)) (λ l. l))

-- and where no new entry does, none is kept
pub none_kept : (o n e : ℕ) (old new : List Entry) → All (Apart o n e old) new → kept_behind o n e old new ≡ 0
unfolding are_moved all_behind
none_kept o n e old new apart =
    let z : old ++ [] ≡ old = append-nil old in
    let w : new ++ [] ≡ new = append-nil new in
    sym (ap₂ (kept_behind o n e) z w)
    ∙ kept-behind o n e old new [] [] (subst (λ (l : List Entry). All (Apart o n e l) new) (sym z) apart) refl refl
