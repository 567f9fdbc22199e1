-- Nothing is given too early: the last entry given is sealed by what has come. Assumes nothing.
use Prim.Native.Nat.{◌+◌, ◌-◌, ◌<◌, ◌≤◌, suc, zero, ℕ}
use native.Mathlib.Omega.{arith}
use mathlib.Core.Bool.{Bool, ◌&&◌, ◌||◌, cond, false, true}
use mathlib.Core.List.{List, [], ◌++◌, ◌∷◌, append_assoc, append-nil}
use mathlib.Core.Path.{◌∙◌, ◌≡◌, ap, refl, subst, sym}
use lib.Dec.{eqb}
use lib.ListN.{get_or-append, drop, get_or, length, length-append, length-drop}
use lib.Seq.{drop-append-le}
use borrow.Author.Tests.{eqb-true}
use Rattle.text.proofs.Choices.{and_true, bool_cases, either, or_true}
use Rattle.text.specs.declared.refusal.Refusal.{Refusal}
use Rattle.rows.specs.declared.Entry.{Entry}
use Rattle.reading.proofs.Stable.{ends_grow}
use Rattle.reading.proofs.Steps.{first}
use Rattle.reading.specs.Kept.{any_quiet}
use Rattle.reading.specs.Readings.{Reading, end_of, entries, read_part, ◌▸◌}
use Rattle.reading.specs.Readings.Reading.{entry}
use Rattle.reading.specs.Tokens.{Answer, Token, reach}
use Rattle.reading.specs.Tokens.Answer.{refuse, stop, token}
use Rattle.arriving.proofs.Decides.{stays}
use Rattle.arriving.proofs.Fronts.{front_le}
use Rattle.arriving.proofs.Ruled.{Holds, begins, sealed_at, step_holds}
use Rattle.arriving.proofs.Timely.{last_byte, ends_in}
use Rattle.arriving.specs.Arrivals.{Coming, Passing, behind, by_answer, by_passing, decided, is_refused, left_at, looks, piece, spoilt, step, taken, up_to}
use Rattle.arriving.specs.Arrivals.Coming.{going, halted, shut}
use Rattle.arriving.specs.Arrivals.Passing.{halt, pass}
use Rattle.arriving.specs.Owing.{Owes, Reader}
use Rattle.arriving.specs.Rule.{sealed_in}

-- ---- the last of a list, where there is one

abbrev pub LastIs : (Entry → Type 0) → List Entry → Type 0
LastIs P [] = Unit {0}
LastIs P (e ∷ []) = P e
LastIs P (e ∷ f ∷ es) = LastIs P (f ∷ es)

last_append : (P : Entry → Type 0) (gs es : List Entry) → LastIs P gs → LastIs P es → LastIs P (gs ++ es)
last_append P [] es g h = h
last_append P (e ∷ []) [] g h = g
last_append P (e ∷ []) (f ∷ es) g h = h
last_append P (e ∷ f ∷ gs) es g h = last_append P (f ∷ gs) es g h

last_map : (P Q : Entry → Type 0) → ((e : Entry) → P e → Q e) → (es : List Entry) → LastIs P es → LastIs Q es
last_map P Q f [] h = tt
last_map P Q f (e ∷ []) h = f e h
last_map P Q f (e ∷ g ∷ es) h = last_map P Q f (g ∷ es) h

last_ends : (es : List Entry) (at : ℕ) → LastIs (λ e. e.end ≡ end_of at es) es
unfolding end_of
last_ends [] at = tt
last_ends (e ∷ []) at = refl
last_ends (e ∷ f ∷ es) at = last_ends (f ∷ es) e.end

-- a fact that an entry gives, for its last
last_of : (P : Entry → Type 0) (es : List Entry) (at : ℕ) → ((e : Entry) → e.end ≡ end_of at es → 0 < length es → P e) → LastIs P es
last_of P [] at f = tt
last_of P (e ∷ es) at f = last_map (λ (x : Entry). x.end ≡ end_of at (e ∷ es)) P (λ x h. f x h (omega arith)) (e ∷ es) (last_ends (e ∷ es) at)

any_more : (q : ℕ → Bool) (x y : List ℕ) → any_quiet q x ≡ true → any_quiet q (x ++ y) ≡ true
unfolding any_quiet
any_more q [] y h = let z : ◌≡◌ {A = ℕ} 0 1 = cc in absurd (omega arith)
any_more q (a ∷ x) y h =
    either (bool_cases (q a)) (λ t. rw t) (λ t. let g : any_quiet q x ≡ true = rw t at h in rw t (any_more q x y g))

any_last : (q : ℕ → Bool) (x : List ℕ) (b : ℕ) → q b ≡ true → any_quiet q (x ++ b ∷ []) ≡ true
unfolding any_quiet
any_last q [] b h = rw h
any_last q (a ∷ x) b h = rw (any_last q x b h) (or_true (q a))

-- the reading is not refused
abbrev pub NotShut : Coming → Type 0
NotShut (going at rest) = Unit {0}
NotShut (shut d) = ⊥
NotShut (halted d) = Unit {0}

module _ (R : Reader) (O : Owes R) (bar : ℕ → List ℕ → ℕ → Passing) where
  -- sealed by the text so far
  abbrev pub Sealed : List ℕ → Entry → Type 0
  Sealed text e = (sealed_in R 0 text e ≡ true) × (0 < e.end) × (e.end ≤ length text)

  -- and by every text that goes on
  sealed_more : (text v : List ℕ) (e : Entry) → Sealed text e → Sealed (text ++ v) e
  unfolding sealed_in
  sealed_more text v e h =
      let split : drop (e.end - 0) (text ++ v) ≡ drop (e.end - 0) text ++ v = drop-append-le (e.end - 0) text v (omega (arith, h.2)) in
      let same : get_or (text ++ v) (e.end - 0 - 1) 0 ≡ get_or text (e.end - 0 - 1) 0 = get_or-append text v 0 (e.end - 0 - 1) (omega (arith, h.1, h.2)) in (
        either (bool_cases (any_quiet R.decides (drop (e.end - 0) text)))
            (λ t. rw (split, any_more R.decides (drop (e.end - 0) text) v t))
            (λ t. let c : R.closes (get_or text (e.end - 0 - 1) 0) ≡ true = rw t at h.0 in rw (same, c) (or_true (any_quiet R.decides (drop (e.end - 0) (text ++ v))))),
        h.1,
        omega (arith, h.2, length-append text v),
      )

  -- ---- what a byte gives
  module _ (at : ℕ) (u : List ℕ) (b : ℕ) where
    by_closed : (e : Entry) → R.closes b ≡ true → e.end ≡ at + length (u ++ b ∷ []) → sealed_in R at (u ++ b ∷ []) e ≡ true
    unfolding sealed_in
    by_closed e c h =
        let i : e.end - at - 1 ≡ length u = omega (arith, length-append u (b ∷ [])) in
        rw (i, last_byte u b, c) (or_true (any_quiet R.decides (drop (e.end - at) (u ++ b ∷ []))))

    by_decider : (e : Entry) → R.decides b ≡ true → e.end ≤ at + length u → sealed_in R at (u ++ b ∷ []) e ≡ true
    unfolding sealed_in
    by_decider e d h =
        let split : drop (e.end - at) (u ++ b ∷ []) ≡ drop (e.end - at) u ++ b ∷ [] = drop-append-le (e.end - at) u (b ∷ []) (omega arith) in
        rw (split, any_last R.decides (drop (e.end - at) u) b d)

    -- what is spoilt is shut
    spoilt_shut : (to : ℕ) (left : List ℕ) → spoilt R left ≡ true → NotShut (left_at R to left) → ⊥
    unfolding spoilt left_at
    spoilt_shut to left h =
        let both = and_true (R.settles left) (is_refused (R.tok left)) h in
        rw both.0 (go (R.tok left) both.1)
      where
        go : (a : Answer) → is_refused a ≡ true → NotShut (by_answer a to left) → ⊥
        go (refuse d) e n = n
        go (token t) e n = let z : ◌≡◌ {A = ℕ} 0 1 = cc in omega arith
        go stop e n = let z : ◌≡◌ {A = ℕ} 0 1 = cc in omega arith

    abbrev Going : List Entry → Type 0
    Going es = NotShut (left_at R (end_of at es) (drop (end_of at es - at) (u ++ b ∷ [])))

    decided_sealed : Going (decided R at (u ++ b ∷ []) b) → LastIs (λ e. sealed_in R at (u ++ b ∷ []) e ≡ true) (decided R at (u ++ b ∷ []) b)
    unfolding decided
    decided_sealed =
        let s : List ℕ = u ++ b ∷ [] in
        let r : Reading = read_part R.tok at s in
        let P : Entry → Type 0 = λ e. sealed_in R at s e ≡ true in
        let k : ℕ = end_of at (entries r) - at in
        either (bool_cases (R.closes b && eqb (end_of at (entries r)) (at + length s)))
        (λ t. let both = and_true (R.closes b) (eqb (end_of at (entries r)) (at + length s)) t in
        rw t (λ go. last_of P (entries r) at (λ e h n. by_closed e both.0 (h ∙ eqb-true (end_of at (entries r)) (at + length s) both.1))))
        (λ t. rw t (either (bool_cases (R.decides b))
        (λ d. let n : ℕ = at + length s - 1 in
        rw d (λ go. last_of P (up_to n r) at (λ e h m. by_decider e d (omega (arith, h, front_le n at r (omega (arith, length-append u (b ∷ []))), length-append u (b ∷ []))))))
        (λ d. rw d (either (bool_cases (R.stops b && spoilt R (drop k s)))
        (λ f. rw f (λ go. absurd (spoilt_shut (end_of at (entries r)) (drop k s) (and_true (R.stops b) (spoilt R (drop k s)) f).1 go)))
        (λ f. rw f (λ go. tt))))))

  -- an entry ends behind where its reading begins
  grown : (es : List Entry) (at : ℕ) (s : List ℕ) (r : Reading) → read_part R.tok at s ≡ es ▸ r → 0 < length es → at < end_of at es
  unfolding end_of
  grown [] at s r h p = absurd (omega arith)
  grown (e ∷ es) at s r h p =
      let f = first R.tok R.stops O.laws at s e (es ▸ r) h in
      let t : Token = f.this in
      let q : e.end ≡ at + reach t = ap (λ (z : Entry). z.end) f.entry_is in
      let far = ends_grow R.tok R.stops O.laws es (at + reach t) (drop (reach t) s) r (sym f.rest_is) in
      subst (λ (k : ℕ). at < end_of k es) (sym q) (omega (arith, O.laws.grows s t f.answer))

  both_last : (P Q : Entry → Type 0) (es : List Entry) → LastIs P es → LastIs Q es → LastIs (λ e. P e × Q e) es
  both_last P Q [] h g = tt
  both_last P Q (e ∷ []) h g = (h, g)
  both_last P Q (e ∷ f ∷ es) h g = both_last P Q (f ∷ es) h g

  behind_sealed : (text : List ℕ) (at : ℕ) (rest : List ℕ) (b : ℕ) → Holds R O bar text (going at rest)
      → NotShut (behind R at (rest ++ b ∷ []) (decided R at (rest ++ b ∷ []) b)).next → LastIs (Sealed (text ++ b ∷ [])) (decided R at (rest ++ b ∷ []) b)
  behind_sealed text at rest b h go =
      let s : List ℕ = rest ++ b ∷ [] in
      let es : List Entry = decided R at s b in
      let to : ℕ = end_of at es in
      let r : Reading = read_part R.tok to (drop (to - at) s ++ []) in
      let here : read_part R.tok at s ≡ es ▸ r = stays R O at rest [] b in
      let whole : s ≡ drop at (text ++ b ∷ []) = ap (λ (w : List ℕ). w ++ b ∷ []) h.0 ∙ sym (drop-append-le at text (b ∷ []) h.1) in
      let lr : length rest ≡ length text - at = ap length h.0 ∙ length-drop at text in
      let high : to ≤ at + length s = ends_in R O es at s r here in
      let there : LastIs (λ e. (at < e.end) × (e.end ≤ length (text ++ b ∷ []))) es =
      last_of (λ e. (at < e.end) × (e.end ≤ length (text ++ b ∷ []))) es at
      (λ e q n. (omega (arith, q, grown es at s r here n), omega (arith, q, high, h.1, lr, length-append rest (b ∷ []), length-append text (b ∷ [])))) in
      last_map (λ e. (sealed_in R at s e ≡ true) × ((at < e.end) × (e.end ≤ length (text ++ b ∷ [])))) (Sealed (text ++ b ∷ []))
      (λ e q. (sym (sealed_at R O bar (text ++ b ∷ []) at s e whole q.1.0) ∙ q.0, omega (arith, q.1.0), q.1.1))
      es (both_last (λ e. sealed_in R at s e ≡ true) (λ e. (at < e.end) × (e.end ≤ length (text ++ b ∷ []))) es (decided_sealed at rest b go) there)

  taken_sealed : (text : List ℕ) (at : ℕ) (rest : List ℕ) (b : ℕ) → Holds R O bar text (going at rest)
      → NotShut (taken R at (rest ++ b ∷ []) b).next → LastIs (Sealed (text ++ b ∷ [])) (taken R at (rest ++ b ∷ []) b).entries
  taken_sealed text at rest b h = either (bool_cases (looks R (rest ++ b ∷ []) b)) (λ t. rw t (behind_sealed text at rest b h)) (λ t. rw t (λ go. tt))

  step_sealed : (text : List ℕ) (a : Coming) (b : ℕ) → Holds R O bar text a → NotShut (step R bar a b).next → LastIs (Sealed (text ++ b ∷ [])) (step R bar a b).entries
  step_sealed text (shut d) b h n = tt
  step_sealed text (halted d) b h n = tt
  step_sealed text (going at rest) b h n = go (bar at rest b) n
    where
      go : (p : Passing) → NotShut (by_passing p (taken R at (rest ++ b ∷ []) b)).next → LastIs (Sealed (text ++ b ∷ [])) (by_passing p (taken R at (rest ++ b ∷ []) b)).entries
      go pass n = taken_sealed text at rest b h n
      go (halt d) n = tt

  shut_stays : (s : List ℕ) (d : Refusal) → (piece R bar (shut d) s).next ≡ shut d
  unfolding piece
  shut_stays [] d = refl
  shut_stays (b ∷ s) d = shut_stays s d

  open_before : (s : List ℕ) (a : Coming) → NotShut (piece R bar a s).next → NotShut a
  open_before s (going at rest) h = tt
  open_before s (halted d) h = tt
  open_before s (shut d) h = subst NotShut (shut_stays s d) h

  piece_sealed : (s text : List ℕ) (a : Coming) (gs : List Entry) → Holds R O bar text a → NotShut (piece R bar a s).next → LastIs (Sealed text) gs
      → LastIs (Sealed (text ++ s)) (gs ++ (piece R bar a s).entries)
  unfolding piece
  piece_sealed [] text a gs h n g = rw (append-nil text, append-nil gs) g
  piece_sealed (b ∷ s) text a gs h n g =
      let k = step R bar a b in
      let more : LastIs (Sealed (text ++ b ∷ [])) (gs ++ k.entries) =
      last_append (Sealed (text ++ b ∷ [])) gs k.entries (last_map (Sealed text) (Sealed (text ++ b ∷ [])) (sealed_more text (b ∷ [])) gs g)
      (step_sealed text a b h (open_before s k.next n)) in
      let ih = piece_sealed s (text ++ b ∷ []) k.next (gs ++ k.entries) (step_holds R O bar text a b h) n more in
      subst (λ (t : List ℕ). LastIs (Sealed t) (gs ++ (k.entries ++ (piece R bar k.next s).entries))) (append_assoc text (b ∷ []) s)
      (subst (LastIs (Sealed ((text ++ b ∷ []) ++ s))) (append_assoc gs k.entries (piece R bar k.next s).entries) ih)

  -- document 02: where the reading is not refused, an entry is given only if a deciding byte stands at or behind its end, or an entry that its last byte closes is
  -- given with it
  pub given_sealed : (text : List ℕ) → NotShut (piece R bar (going 0 []) text).next → LastIs (Sealed text) (piece R bar (going 0 []) text).entries
  given_sealed text n = piece_sealed text [] (going 0 []) [] (begins R O bar) n tt
