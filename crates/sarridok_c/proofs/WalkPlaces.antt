-- The numbers of walk are low: an entry's number is no higher than the count, and entries in order within a text are no more than its bytes. Assumes nothing.
use Rattle.std.proofs.Common.{Ok, Err, Some, None, Option}
use Rattle.text.specs.Refusals.{Told}
use Prim.Native.Nat.{ℕ, ◌+◌, ◌≤◌}
use native.Mathlib.Omega.{arith}
use mathlib.Core.Bool.{◌&&◌}
use mathlib.Core.List.{List, [], ◌∷◌}
use mathlib.Core.Path.{◌≡◌, refl}
use lib.Dec.{ltb}
use lib.ListN.{length}
use Rattle.text.proofs.Choices.{and_true, cond_cases}
use Rattle.rows.proofs.OrderLaws.{in_order_short}
use Rattle.rows.specs.Order.{in_order}
use Rattle.rows.specs.Rows.{entries_of, room_of}
use Rattle.rows.specs.declared.Entry.{Entry}
use Rattle.grammar.specs.Kinds.{kinds_of}
use Rattle.grammar.specs.Steps.{step_of}
use Rattle.grammar.specs.Walk.{by_move, check, ended, finish, popped, walk_of as verdict_of}
use Rattle.grammar.specs.declared.kinds.Kind.{Kind}
use Rattle.grammar.specs.declared.states.Frame.{Frame}
use Rattle.grammar.specs.declared.states.Frame.TheVariants.{Top, Square, Tuple, Struct, Key, Pair}
use Rattle.grammar.specs.declared.states.Want.{Want}
use Rattle.grammar.specs.declared.states.Want.TheVariants.{Start, Must, Item, First, FirstName, Named, Behind, Field, FieldName}
use Rattle.grammar.specs.declared.states.Move.{Move}
use Rattle.grammar.specs.declared.states.Move.TheVariants.{Stay, Push, Pop, Bad}
use Rattle.fields.specs.Fields.{again_of, by_again, named_walk}
use Rattle.fields.specs.Names.{name_at, raws_fit}
use Rattle.fields.proofs.Beginnings.{found_inside}
use Rattle.given.proofs.Both.{both}
use Rattle.sarridok.specs.Walked.{behind_walk_front, walk_of}
use Rattle.sarridok_c.specs.Whole.{done_parts}
use Rattle.sarridok_c.proofs.Unpacking.{Low, behind-judged}

-- ---- a verdict names an entry, or the count

abbrev Within : ℕ → Told Unit → Type 0
Within m (Ok tt) = Unit {0}
Within m (Err r) = r.place ≤ m

end_within : (f : Frame) (i m : ℕ) → i ≤ m → Within m (ended f i)
end_within Top i m h = tt
end_within Square i m h = h
end_within Tuple i m h = h
end_within Struct i m h = h
end_within Key i m h = h
end_within Pair i m h = h

finish_within : (w : Want) (f : Frame) (i m : ℕ) → i ≤ m → Within m (finish w f i)
finish_within Start f i m h = h
finish_within Must f i m h = h
finish_within Item f i m h = h
finish_within First f i m h = h
finish_within FirstName f i m h = h
finish_within Named f i m h = end_within f i m h
finish_within Behind f i m h = end_within f i m h
finish_within Field f i m h = h
finish_within FieldName f i m h = h

popped_within : (σ : List Frame) (on : Frame → List Frame → Told Unit) (i m : ℕ) → i ≤ m → ((g : Frame) (τ : List Frame) → Within m (on g τ)) → Within m (popped σ on i)
popped_within [] on i m h f = h
popped_within (g ∷ σ) on i m h f = f g σ

move_within : (v : Move) (limit : ℕ) (f : Frame) (σ : List Frame) (i m : ℕ) (on : Want → Frame → List Frame → Told Unit) → i ≤ m
    → ((w : Want) (g : Frame) (τ : List Frame) → Within m (on w g τ)) → Within m (by_move v limit f σ i on)
move_within (Stay w g) limit f σ i m on h k = k w g σ
move_within (Push w g) limit f σ i m on h k = both (Within m) (ltb (length σ) limit) (k w g (f ∷ σ)) h
move_within Pop limit f σ i m on h k = popped_within σ (λ g τ. on Behind g τ) i m h (k Behind)
move_within Bad limit f σ i m on h k = h

check_within : (ks : List Kind) (limit : ℕ) (w : Want) (f : Frame) (σ : List Frame) (i m : ℕ) → i + length ks ≤ m → Within m (check ks limit w f σ i)
unfolding check
check_within [] limit w f σ i m h = finish_within w f i m (omega arith)
check_within (k ∷ ks) limit w f σ i m h = move_within (step_of w k f) limit f σ i m _ (omega arith) (λ w' g τ. check_within ks limit w' g τ (i + 1) m (omega arith))

-- ---- the walk

kinds_many : (es : List Entry) → length (kinds_of es) ≡ length es
unfolding kinds_of
kinds_many [] = refl
kinds_many (e ∷ es) = let h = kinds_many es in omega arith

judged_low : (v : Told Unit) → Within 65536 v → Low done_parts v
judged_low (Ok tt) h = (omega arith, omega arith)
judged_low (Err r) h = omega arith

-- with the names of fields too
again_within : (a : Option ℕ) (v : Told Unit) (m : ℕ) → ((j : ℕ) → a ≡ Some j → j ≤ m) → Within m v → Within m (by_again a v)
again_within None v m h w = w
again_within (Some j) (Ok tt) m h w = h j refl
again_within (Some j) (Err r) m h w = both (Within m) (ltb j r.place) (h j refl) w

named_within : (nm : ℕ → List ℕ) (ks : List Kind) (limit m : ℕ) → length ks ≤ m → Within m (named_walk nm ks limit)
named_within nm ks limit m h =
    again_within (again_of nm ks) (verdict_of ks limit) m (λ j e. omega (arith, found_inside nm ks j e)) (check_within ks limit Start Top [] 0 m (omega arith))

pub walk_low : (text tape : List ℕ) (count limit links : ℕ) → Low done_parts (walk_of text tape count limit links)
unfolding walk_of behind_walk_front in_order
walk_low text tape count limit links =
    let es = entries_of count tape in
    let nm = name_at text tape in
    behind-judged done_parts text _ λ l.
    both (Low done_parts) (ltb 128 limit) (omega arith)
    (both (Low done_parts) (ltb (room_of (length tape)) count) (omega arith)
    (cond_cases (Low done_parts) (in_order es (length text) && raws_fit text es) _ _
    (λ e. both (Low done_parts) (ltb links count) (omega arith)
    (judged_low (named_walk nm (kinds_of es) limit)
    (named_within nm (kinds_of es) limit 65536 (omega (arith, kinds_many es, in_order_short es 0 (length text) (and_true (in_order es (length text)) (raws_fit text es) e).0, l)))))
    (λ e. omega arith)))
