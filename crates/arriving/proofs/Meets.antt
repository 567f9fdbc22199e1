-- Two arrivals that stand at the same byte, told from two beginnings, and that differ in no token to come: what bytes give is the same in both. Assumes nothing.
use Prim.Native.Nat.{ℕ, suc, ◌+◌, ◌-◌, ◌<◌, ◌≤◌}
use native.Mathlib.Nat.{sub_self}
use native.Mathlib.Omega.{arith}
use mathlib.Core.Bool.{Bool, true, false, cond, ◌&&◌}
use mathlib.Core.List.{List, [], ◌++◌, ◌∷◌, append_assoc, append-nil}
use mathlib.Core.Path.{◌≡◌, ap, ap₂, refl, subst, sym, ◌∙◌}
use lib.Dec.{eqb, leb}
use lib.ListN.{drop, length, length-append}
use borrow.Author.Tests.{eq-eqb, ne_eqb, le-leb, lt-leb}
use Rattle.text.proofs.Choices.{bool_cases, either, lt_or_le}
use Rattle.text.specs.Refusals.{placed_behind}
use Rattle.text.specs.declared.refusal.Refusal.{Refusal}
use Rattle.rows.specs.declared.Entry.{Entry}
use Rattle.reading.proofs.Stable.{ends_grow}
use Rattle.reading.proofs.Steps.{drop_on, first, not_broken, not_complete, read_refuse, read_stop, read_token}
use Rattle.reading.specs.Kept.{AllThere, MovedThere}
use Rattle.reading.specs.Kept.AllThere.{none, more}
use Rattle.reading.specs.Readings.{Reading, end_of, entries, place, placed, read_part, ◌▸◌}
use Rattle.reading.specs.Readings.Reading.{broken, complete, entry}
use Rattle.reading.specs.Tokens.{Answer, Token, Tokens, reach, tokens}
use Rattle.reading.specs.Tokens.Answer.{refuse, stop, token}
use Rattle.reading.specs.Tokens.Tokens.{done, fault, next}
use Rattle.arriving.proofs.Decides.{stays}
use Rattle.arriving.proofs.Fronts.{all_entries, last_of}
use Rattle.arriving.specs.Arrivals.{Coming, Given, Passing, behind, by_answer, by_passing, decided, ended, is_refused, left_at, looks, piece, spoilt, step, taken, up_to}
use Rattle.arriving.specs.Arrivals.Coming.{going, halted, shut}
use Rattle.arriving.specs.Arrivals.Passing.{halt, pass}
use Rattle.arriving.specs.Owing.{Owes, Reader}

-- ---- numbers that differ by the same

leb_meets : (o n a b a' b' : ℕ) → a' + o ≡ a + n → b' + o ≡ b + n → leb a b ≡ leb a' b'
leb_meets o n a b a' b' h g =
    either (lt_or_le b a) (λ l. lt-leb a b l ∙ sym (lt-leb a' b' (omega arith))) (λ l. le-leb a b l ∙ sym (le-leb a' b' (omega arith)))

eqb_meets : (o n a b a' b' : ℕ) → a' + o ≡ a + n → b' + o ≡ b + n → eqb a b ≡ eqb a' b'
eqb_meets o n a b a' b' h g =
    either (lt_or_le b a) (λ l. ne_eqb a b (λ e. omega arith) ∙ sym (ne_eqb a' b' (λ e. omega arith)))
    (λ l. either (lt_or_le a b) (λ k. ne_eqb a b (λ e. omega arith) ∙ sym (ne_eqb a' b' (λ e. omega arith)))
    (λ k. eq-eqb a b (omega arith) ∙ sym (eq-eqb a' b' (omega arith))))

-- ---- what was told from two beginnings

-- a refusal
pub record RefusalThere (o n : ℕ) (y x : Refusal) : Type 0 where
  pub number : x.number ≡ y.number
  pub reason : x.reason ≡ y.reason
  pub place : x.place + o ≡ y.place + n

-- a reading
pub data ReadThere (o n : ℕ) : Reading → Reading → Type 0 where
  completes : ReadThere o n complete complete
  breaks : (y x : Refusal) → RefusalThere o n y x → ReadThere o n (broken y) (broken x)
  enters : (y x : Entry) (r r' : Reading) → MovedThere o n y x → ReadThere o n r r' → ReadThere o n (entry y r) (entry x r')

refusal_placed : (o n a a' : ℕ) (d : Refusal) → a' + o ≡ a + n → RefusalThere o n (placed_behind a d) (placed_behind a' d)
refusal_placed o n a a' d h = record { number = refl; reason = refl; place = omega arith }

pub place_there : (o n : ℕ) (ts : Tokens) (a a' : ℕ) → a' + o ≡ a + n → ReadThere o n (place a ts) (place a' ts)
unfolding place
place_there o n done a a' h = completes
place_there o n (fault d) a a' h = breaks (placed_behind a d) (placed_behind a' d) (refusal_placed o n a a' d h)
place_there o n (next t ts) a a' h =
    enters (placed a t) (placed a' t) (place (a + reach t) ts) (place (a' + reach t) ts)
    (record { kind = refl; start = omega arith; end = omega arith; detail = refl })
    (place_there o n ts (a + reach t) (a' + reach t) (omega arith))

module _ (o n : ℕ) where
  entries_there : {r r' : Reading} → ReadThere o n r r' → AllThere o n (entries r) (entries r')
  unfolding entries
  entries_there completes = none
  entries_there (breaks y x h) = none
  entries_there (enters y x r r' m h) = more m (entries_there h)

  up_there : (k k' : ℕ) → k' + o ≡ k + n → {r r' : Reading} → ReadThere o n r r' → AllThere o n (up_to k r) (up_to k' r')
  unfolding up_to
  up_there k k' q completes = none
  up_there k k' q (breaks y x h) = none
  up_there k k' q (enters y x r r' m h) =
      let t : leb y.end k ≡ leb x.end k' = leb_meets o n y.end k x.end k' m.end q in
      either (bool_cases (leb x.end k')) (λ c. rw (t, c) (more m (up_there k k' q h))) (λ c. rw (t, c) none)

  end_there : (es es' : List Entry) (a a' : ℕ) → a' + o ≡ a + n → AllThere o n es es' → end_of a' es' + o ≡ end_of a es + n
  unfolding end_of
  end_there [] [] a a' h none = h
  end_there [] (x ∷ xs) a a' h m = elim m [ ]
  end_there (y ∷ ys) [] a a' h m = elim m [ ]
  end_there (y ∷ ys) (x ∷ xs) a a' h (more m t) = end_there ys xs y.end x.end m.end t

  pub there_append : (es es' fs fs' : List Entry) → AllThere o n es es' → AllThere o n fs fs' → AllThere o n (es ++ fs) (es' ++ fs')
  there_append [] [] fs fs' none h = h
  there_append [] (x ∷ xs) fs fs' m h = elim m [ ]
  there_append (y ∷ ys) [] fs fs' m h = elim m [ ]
  there_append (y ∷ ys) (x ∷ xs) fs fs' (more m t) h = more m (there_append ys xs fs fs' t h)

-- whether a byte is taken
pub data PassThere (o n : ℕ) : Passing → Passing → Type 0 where
  passes : PassThere o n pass pass
  halts : (y x : Refusal) → RefusalThere o n y x → PassThere o n (halt y) (halt x)

-- an answer told d bytes further on
abbrev pub later_answer : ℕ → Answer → Answer
later_answer d (token t) = token (record { gap = d + t.gap; len = t.len; kind = t.kind; detail = t.detail })
later_answer d stop = stop
later_answer d (refuse r) = refuse (placed_behind d r)

module _ (R : Reader) (bar : ℕ → List ℕ → ℕ → Passing) where
  -- y and x have the same tokens to come, x with d bytes more in front of them
  pub record Alike (d : ℕ) (y x : List ℕ) : Type 0 where
    pub long : length x ≡ d + length y
    pub answers : (v : List ℕ) → R.tok (x ++ v) ≡ later_answer d (R.tok (y ++ v))
    pub behind_them : (v : List ℕ) (t : Token) → R.tok (y ++ v) ≡ token t → drop (d + reach t) (x ++ v) ≡ drop (reach t) (y ++ v)
    pub settle : (v : List ℕ) → R.settles (y ++ v) ≡ R.settles (x ++ v)
    pub at_once : (v : List ℕ) → R.once (y ++ v) ≡ R.once (x ++ v)
    pub bars : (v : List ℕ) (b o n at at' : ℕ) → at' + d + o ≡ at + n → PassThere o n (bar at (y ++ v) b) (bar at' (x ++ v) b)

  -- where they go on alike
  pub alike_on : (d : ℕ) (y x u : List ℕ) → Alike d y x → Alike d (y ++ u) (x ++ u)
  alike_on d y x u k =
      let ya : (v : List ℕ) → y ++ u ++ v ≡ y ++ (u ++ v) = append_assoc y u in
      let xa : (v : List ℕ) → x ++ u ++ v ≡ x ++ (u ++ v) = append_assoc x u in
      record {
        long = omega (arith, k.long, length-append x u, length-append y u);
        answers = λ v. ap R.tok (xa v) ∙ k.answers (u ++ v) ∙ ap (λ (s : List ℕ). later_answer d (R.tok s)) (sym (ya v));
        behind_them = λ v t h. ap (drop (d + reach t)) (xa v) ∙ k.behind_them (u ++ v) t (ap R.tok (sym (ya v)) ∙ h) ∙ ap (drop (reach t)) (sym (ya v));
        settle = λ v. ap R.settles (ya v) ∙ k.settle (u ++ v) ∙ ap R.settles (sym (xa v));
        at_once = λ v. ap R.once (ya v) ∙ k.at_once (u ++ v) ∙ ap R.once (sym (xa v));
        bars = λ v b o n at at' h. subst (λ (s : List ℕ). PassThere o n (bar at s b) (bar at' (x ++ u ++ v) b)) (sym (ya v))
            (subst (λ (s : List ℕ). PassThere o n (bar at (y ++ (u ++ v)) b) (bar at' s b)) (sym (xa v)) (k.bars (u ++ v) b o n at at' h));
      }

  -- what stands between two bytes
  pub data ComingThere (o n : ℕ) : Coming → Coming → Type 0 where
    goes : (d : ℕ) (y x : List ℕ) (at at' : ℕ) → Alike d y x → at' + d + o ≡ at + n → ComingThere o n (going at y) (going at' x)
    shuts : (y x : Refusal) → RefusalThere o n y x → ComingThere o n (shut y) (shut x)
    stays_halted : (y x : Refusal) → RefusalThere o n y x → ComingThere o n (halted y) (halted x)

  -- what bytes give
  pub record GivenThere (o n : ℕ) (y x : Given) : Type 0 where
    pub entries_are : AllThere o n y.entries x.entries
    pub next_is : ComingThere o n y.next x.next
    pub bytes_are : y.bytes ≡ x.bytes

  module _ (O : Owes R) (moves : (s : List ℕ) (b o n at at' : ℕ) → at' + o ≡ at + n → PassThere o n (bar at s b) (bar at' s b)) where
    -- the same bytes from another beginning
    answer_same : (a : Answer) → a ≡ later_answer 0 a
    answer_same (token t) = ap (λ (g : ℕ). token (record { gap = g; len = t.len; kind = t.kind; detail = t.detail })) (omega arith)
    answer_same stop = refl
    answer_same (refuse r) = ap (λ (p : ℕ). refuse (record { number = r.number; reason = r.reason; place = p })) (omega arith)

    pub alike_same : (s : List ℕ) → Alike 0 s s
    alike_same s = record {
      long = omega arith;
      answers = λ v. answer_same (R.tok (s ++ v));
      behind_them = λ v t h. (let e : 0 + reach t ≡ reach t = omega arith in ap (λ (k : ℕ). drop k (s ++ v)) e);
      settle = λ v. refl;
      at_once = λ v. refl;
      bars = λ v b o n at at' h. moves (s ++ v) b o n at at' (omega arith);
    }

    module _ (o n d : ℕ) (y x : List ℕ) (k : Alike d y x) (at at' : ℕ) (h : at' + d + o ≡ at + n) (v : List ℕ) where
      -- ---- the reading
      pub read_there : ReadThere o n (read_part R.tok at (y ++ v)) (read_part R.tok at' (x ++ v))
      read_there = go (R.tok (y ++ v)) refl
        where
          go : (a : Answer) → R.tok (y ++ v) ≡ a → ReadThere o n (read_part R.tok at (y ++ v)) (read_part R.tok at' (x ++ v))
          go stop q =
              rw (read_stop R.tok R.stops O.laws at (y ++ v) q, read_stop R.tok R.stops O.laws at' (x ++ v) (k.answers v ∙ ap (later_answer d) q)) completes
          go (refuse r) q =
              rw (read_refuse R.tok R.stops O.laws at (y ++ v) r q, read_refuse R.tok R.stops O.laws at' (x ++ v) (placed_behind d r) (k.answers v ∙ ap (later_answer d) q))
              (breaks (placed_behind at r) (placed_behind at' (placed_behind d r)) (record { number = refl; reason = refl; place = omega arith }))
          go (token t) q =
              let t' : Token = record { gap = d + t.gap; len = t.len; kind = t.kind; detail = t.detail } in
              let far : reach t' ≡ d + reach t = omega arith in
              let gone : drop (reach t') (x ++ v) ≡ drop (reach t) (y ++ v) = ap (λ (i : ℕ). drop i (x ++ v)) far ∙ k.behind_them v t q in
              rw (read_token R.tok R.stops O.laws at (y ++ v) t q, read_token R.tok R.stops O.laws at' (x ++ v) t' (k.answers v ∙ ap (later_answer d) q), gone)
              (enters (placed at t) (placed at' t') (read_part R.tok (at + reach t) (drop (reach t) (y ++ v))) (read_part R.tok (at' + reach t') (drop (reach t) (y ++ v)))
              (record { kind = refl; start = omega arith; end = omega arith; detail = refl })
              (place_there o n (tokens R.tok (drop (reach t) (y ++ v))) (at + reach t) (at' + reach t') (omega arith)))

      -- where its entries end
      ends_there : (es es' : List Entry) → AllThere o n es es' → 0 < length es → end_of at' es' + o ≡ end_of at es + n
      unfolding end_of
      ends_there [] [] none p = absurd (omega arith)
      ends_there [] (f ∷ fs) m p = elim m [ ]
      ends_there (e ∷ es) [] m p = elim m [ ]
      ends_there (e ∷ es) (f ∷ fs) (more m t) p = end_there o n es fs e.end f.end m.end t

      -- and what stands behind them
      drop_there : (es es' : List Entry) (r : Reading) → read_part R.tok at (y ++ v) ≡ es ▸ r → AllThere o n es es' → 0 < length es
          → drop (end_of at es - at) (y ++ v) ≡ drop (end_of at' es' - at') (x ++ v)
      unfolding end_of
      drop_there [] es' r q t p = absurd (omega arith)
      drop_there (e ∷ es) es' r q t p =
          let f = first R.tok R.stops O.laws at (y ++ v) e (es ▸ r) q in
          let u : Token = f.this in
          let z : e.end ≡ at + reach u = ap (λ (w : Entry). w.end) f.entry_is in
          let far : at + reach u ≤ end_of (at + reach u) es = ends_grow R.tok R.stops O.laws es (at + reach u) (drop (reach u) (y ++ v)) r (sym f.rest_is) in
          let end : end_of e.end es ≡ end_of (at + reach u) es = ap (λ (i : ℕ). end_of i es) z in
          let both = ends_there (e ∷ es) es' t p in
          let j : ℕ = end_of e.end es - e.end in
          sym (drop_on (reach u) j (end_of e.end es - at) (y ++ v) (omega arith))
          ∙ ap (drop j) (sym (k.behind_them v u f.answer))
          ∙ drop_on (d + reach u) j (end_of at' es' - at') (x ++ v) (omega arith)

    -- ---- one byte
    module _ (o n d : ℕ) (y x : List ℕ) (k : Alike d y x) (at at' : ℕ) (h : at' + d + o ≡ at + n) (b : ℕ) where
      abbrev ys : List ℕ
      ys = y ++ b ∷ []

      abbrev xs : List ℕ
      xs = x ++ b ∷ []

      abbrev ry : Reading
      ry = read_part R.tok at (y ++ b ∷ [])

      abbrev rx : Reading
      rx = read_part R.tok at' (x ++ b ∷ [])

      both_read : ReadThere o n (read_part R.tok at (y ++ b ∷ [])) (read_part R.tok at' (x ++ b ∷ []))
      both_read = read_there o n d y x k at at' h (b ∷ [])

      lens : at' + length (x ++ b ∷ []) + o ≡ at + length (y ++ b ∷ []) + n
      lens = omega (arith, k.long, length-append x (b ∷ []), length-append y (b ∷ []))

      -- the last entry ends with the byte in both, or in neither
      ends_with : (es es' : List Entry) → AllThere o n es es' → eqb (end_of at es) (at + length (y ++ b ∷ [])) ≡ eqb (end_of at' es') (at' + length (x ++ b ∷ []))
      unfolding end_of
      ends_with [] [] none =
          ne_eqb at (at + length (y ++ b ∷ [])) (λ e. omega (arith, length-append y (b ∷ [])))
          ∙ sym (ne_eqb at' (at' + length (x ++ b ∷ [])) (λ e. omega (arith, length-append x (b ∷ []))))
      ends_with [] (f ∷ fs) m = elim m [ ]
      ends_with (e ∷ es) [] m = elim m [ ]
      ends_with (e ∷ es) (f ∷ fs) (more m t) =
          eqb_meets o n (end_of e.end es) (at + length (y ++ b ∷ [])) (end_of f.end fs) (at' + length (x ++ b ∷ []))
          (end_there o n es fs e.end f.end m.end t) lens

      refused_same : (a : Answer) → is_refused a ≡ is_refused (later_answer d a)
      refused_same (token t) = refl
      refused_same stop = refl
      refused_same (refuse r) = refl

      -- what is behind the entries is refused for good in both, or in neither
      spoilt_there : (es es' : List Entry) (r : Reading) → read_part R.tok at (y ++ b ∷ []) ≡ es ▸ r → AllThere o n es es'
          → spoilt R (drop (end_of at es - at) (y ++ b ∷ [])) ≡ spoilt R (drop (end_of at' es' - at') (x ++ b ∷ []))
      unfolding end_of spoilt
      spoilt_there [] [] r q none =
          rw (sub_self at, sub_self at') (ap₂ ◌&&◌ (k.settle (b ∷ [])) (refused_same (R.tok (y ++ b ∷ [])) ∙ ap is_refused (sym (k.answers (b ∷ [])))))
      spoilt_there [] (f ∷ fs) r q m = elim m [ ]
      spoilt_there (e ∷ es) [] r q m = elim m [ ]
      spoilt_there (e ∷ es) (f ∷ fs) r q (more m t) =
          ap (spoilt R) (drop_there o n d y x k at at' h (b ∷ []) (e ∷ es) (f ∷ fs) r q (more m t) (omega arith))

      decided_there : AllThere o n (decided R at (y ++ b ∷ []) b) (decided R at' (x ++ b ∷ []) b)
      unfolding decided
      decided_there =
          let all : AllThere o n (entries ry) (entries rx) = entries_there o n both_read in
          let c : eqb (end_of at (entries ry)) (at + length ys) ≡ eqb (end_of at' (entries rx)) (at' + length xs) = ends_with (entries ry) (entries rx) all in
          let z : spoilt R (drop (end_of at (entries ry) - at) ys) ≡ spoilt R (drop (end_of at' (entries rx) - at') xs) =
          spoilt_there (entries ry) (entries rx) (last_of ry) (all_entries ry) all in
          let up : AllThere o n (up_to (at + length ys - 1) ry) (up_to (at' + length xs - 1) rx) =
          up_there o n (at + length ys - 1) (at' + length xs - 1) (omega (arith, lens, length-append x (b ∷ []), length-append y (b ∷ []))) both_read in
          rw (c, z) (pick (R.closes b && eqb (end_of at' (entries rx)) (at' + length xs)) (entries ry) (entries rx) all
          (pick (R.decides b) (up_to (at + length ys - 1) ry) (up_to (at' + length xs - 1) rx) up
          (pick (R.stops b && spoilt R (drop (end_of at' (entries rx) - at') xs)) (entries ry) (entries rx) all none)))
        where
          pick : (t : Bool) (es es' : List Entry) → AllThere o n es es' → {fs fs' : List Entry} → AllThere o n fs fs' → AllThere o n (cond t es fs) (cond t es' fs')
          pick true es es' a g = a
          pick false es es' a g = g

    -- ---- what is left
    left_there : (o n d : ℕ) (y x : List ℕ) → Alike d y x → (at at' : ℕ) → at' + d + o ≡ at + n → ComingThere o n (left_at R at y) (left_at R at' x)
    unfolding left_at
    left_there o n d y x k at at' h =
        let s : R.settles y ≡ R.settles x = ap R.settles (sym (append-nil y)) ∙ k.settle [] ∙ ap R.settles (append-nil x) in
        let t : R.tok x ≡ later_answer d (R.tok y) = ap R.tok (sym (append-nil x)) ∙ k.answers [] ∙ ap (λ (w : List ℕ). later_answer d (R.tok w)) (append-nil y) in
        either (bool_cases (R.settles x)) (λ c. rw (s, c, t) (go (R.tok y))) (λ c. rw (s, c) (goes d y x at at' k h))
      where
        go : (a : Answer) → ComingThere o n (by_answer a at y) (by_answer (later_answer d a) at' x)
        go (token u) = goes d y x at at' k h
        go stop = goes d y x at at' k h
        go (refuse r) = shuts (placed_behind at r) (placed_behind at' (placed_behind d r)) (record { number = refl; reason = refl; place = omega arith })

    module _ (o n d : ℕ) (y x : List ℕ) (k : Alike d y x) (at at' : ℕ) (h : at' + d + o ≡ at + n) (b : ℕ) where
      behind_there : (es es' : List Entry) (r : Reading) → read_part R.tok at (y ++ b ∷ []) ≡ es ▸ r → AllThere o n es es'
          → GivenThere o n (behind R at (y ++ b ∷ []) es) (behind R at' (x ++ b ∷ []) es')
      unfolding end_of
      behind_there [] [] r q none = record {
        entries_are = none;
        next_is = rw (sub_self at, sub_self at') (left_there o n d (y ++ b ∷ []) (x ++ b ∷ []) (alike_on d y x (b ∷ []) k) at at' h);
        bytes_are = refl;
      }
      behind_there [] (f ∷ fs) r q m = elim m [ ]
      behind_there (e ∷ es) [] r q m = elim m [ ]
      behind_there (e ∷ es) (f ∷ fs) r q (more m t) =
          let left : List ℕ = drop (end_of f.end fs - at') (x ++ b ∷ []) in
          let same : drop (end_of e.end es - at) (y ++ b ∷ []) ≡ left = drop_there o n d y x k at at' h (b ∷ []) (e ∷ es) (f ∷ fs) r q (more m t) (omega arith) in
          let ends = end_there o n es fs e.end f.end m.end t in
          record {
            entries_are = more m t;
            next_is = rw same (left_there o n 0 left left (alike_same left) (end_of e.end es) (end_of f.end fs) (omega arith));
            bytes_are = refl;
          }

      taken_there : GivenThere o n (taken R at (y ++ b ∷ []) b) (taken R at' (x ++ b ∷ []) b)
      unfolding looks
      taken_there =
          let es : List Entry = decided R at (y ++ b ∷ []) b in
          let es' : List Entry = decided R at' (x ++ b ∷ []) b in
          let all : AllThere o n es es' = decided_there o n d y x k at at' h b in
          let same : looks R (y ++ b ∷ []) b ≡ looks R (x ++ b ∷ []) b = rw (k.at_once (b ∷ [])) in
          let r : Reading = read_part R.tok (end_of at es) (drop (end_of at es - at) (y ++ b ∷ []) ++ []) in
          rw same (pick (looks R (x ++ b ∷ []) b) (behind_there es es' r (stays R O at y [] b) all) (record {
            entries_are = none;
            next_is = goes d (y ++ b ∷ []) (x ++ b ∷ []) at at' (alike_on d y x (b ∷ []) k) h;
            bytes_are = refl;
          }))
        where
          pick : (t : Bool) {g g' : Given} → GivenThere o n g g' → {f f' : Given} → GivenThere o n f f' → GivenThere o n (cond t g f) (cond t g' f')
          pick true a c = a
          pick false a c = c

      by_passing_there : {p p' : Passing} → PassThere o n p p' → GivenThere o n (by_passing p (taken R at (y ++ b ∷ []) b)) (by_passing p' (taken R at' (x ++ b ∷ []) b))
      by_passing_there passes = taken_there
      by_passing_there (halts u w m) = record { entries_are = none; next_is = stays_halted u w m; bytes_are = refl }

    going_there : (o n d : ℕ) (y x : List ℕ) → Alike d y x → (at at' b : ℕ) → at' + d + o ≡ at + n → GivenThere o n (step R bar (going at y) b) (step R bar (going at' x) b)
    going_there o n d y x k at at' b h =
        by_passing_there o n d y x k at at' h b
        (subst (λ (s : List ℕ). PassThere o n (bar at s b) (bar at' x b)) (append-nil y)
        (subst (λ (s : List ℕ). PassThere o n (bar at (y ++ []) b) (bar at' s b)) (append-nil x) (k.bars [] b o n at at' h)))

    step_there : (o n : ℕ) {c c' : Coming} (b : ℕ) → ComingThere o n c c' → GivenThere o n (step R bar c b) (step R bar c' b)
    step_there o n b (goes d y x at at' k h) = going_there o n d y x k at at' b h
    step_there o n b (shuts y x m) = record { entries_are = none; next_is = shuts y x m; bytes_are = refl }
    step_there o n b (stays_halted y x m) = record { entries_are = none; next_is = stays_halted y x m; bytes_are = refl }

    -- ---- a piece, and the end
    pub piece_there : (o n : ℕ) (s : List ℕ) (c c' : Coming) → ComingThere o n c c' → GivenThere o n (piece R bar c s) (piece R bar c' s)
    unfolding piece
    piece_there o n [] c c' m = record { entries_are = none; next_is = m; bytes_are = refl }
    piece_there o n (b ∷ s) c c' m =
        let g : Given = step R bar c b in
        let g' : Given = step R bar c' b in
        let k = step_there o n b m in
        let ih = piece_there o n s g.next g'.next k.next_is in
        record {
          entries_are = there_append o n g.entries g'.entries (piece R bar g.next s).entries (piece R bar g'.next s).entries k.entries_are ih.entries_are;
          next_is = ih.next_is;
          bytes_are = ap₂ ◌+◌ k.bytes_are ih.bytes_are;
        }

    pub ended_there : (o n : ℕ) {c c' : Coming} → ComingThere o n c c' → ReadThere o n (ended R c) (ended R c')
    ended_there o n (goes d y x at at' k h) =
        subst (λ (s : List ℕ). ReadThere o n (read_part R.tok at s) (read_part R.tok at' x)) (append-nil y)
        (subst (λ (s : List ℕ). ReadThere o n (read_part R.tok at (y ++ [])) (read_part R.tok at' s)) (append-nil x) (read_there o n d y x k at at' h []))
    ended_there o n (shuts y x m) = breaks y x m
    ended_there o n (stays_halted y x m) = breaks y x m
