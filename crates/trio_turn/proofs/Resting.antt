-- What the calls of a seat owe, over plain views.
use Rattle.trio_turn.proofs.Words.{◌<◌, ◌∙◌, ◌∷◌, ◌≡◌, ◌≢◌, Entry, GrewBy, Idle, InTurn, Learns, Library, List, Mark, None, Option, Origin, Some, Spent, Stage, View, Waiting, [], ap, arith, carries, counted_at, held, is_resting, length, made_by, nat_tests, own_begun, own_number, refl, rest, staged, subst, sym, true, ℕ}
use Rattle.std.proofs.Common.{IsSome, IfSome}
use lib.ListN.{get_elem?}

-- an option that has a value has this one
pub some_of : {A : Type 0} (o : Option A) → IsSome o → (x : A) × (o ≡ Some x)
some_of (Some x) h = (x, refl)
some_of None h = absurd (cc h)

-- what holds of the value of an option that has one
pub of_some : {A : Type 0} (P : A → Type 0) (o : Option A) (x : A) → o ≡ Some x → IfSome o P → P x
of_some P o x is h = subst (λ o. IfSome o P) is h

pub one_library : (ps : List Library) → length ps ≡ 1 → (p : Library) × (ps ≡ p ∷ [])
one_library [] e = absurd (omega arith)
one_library (p ∷ []) e = (p, refl)
one_library (p ∷ q ∷ ps) e = absurd (omega arith)

module _ {T : Type 0} where
  -- a seat that has a value is in its turn with its ticket
  pub in_turn : (ticket : ℕ) (st : Stage T) (x : T) → is_resting ticket st ≡ true → held st ≡ Some x → (st ≡ InTurn ticket x) × (ticket < 18446744073709551615)
  in_turn ticket Idle x r h = absurd (cc h)
  in_turn ticket (Waiting t) x r h = absurd (cc h)
  in_turn ticket (InTurn t y) x r h =
      let same : t ≡ ticket = grind (arith, nat_tests) in let less : t < 18446744073709551615 = grind (arith, nat_tests) in
      let value : y ≡ x = cc h in (λ i. InTurn (same i) (value i), omega arith)
  in_turn ticket Spent x r h = absurd (cc h)

  pub at_rest : (ticket : ℕ) (st : Stage T) → is_resting ticket st ≡ true → held st ≡ None → st ≡ Idle
  at_rest ticket Idle r h = refl
  at_rest ticket (Waiting t) r h = absurd (cc r)
  at_rest ticket (InTurn t y) r h = absurd (cc h)
  at_rest ticket Spent r h = absurd (cc r)

module _ {T : Type 0} (first : T → Origin) (log : T → List Entry) (begun : T → ℕ → Mark) where
  -- what counting asks, where the seat gives
  pub may_count : (ticket : ℕ) (v : View T) (x y : T) → is_resting ticket v.stage ≡ true → length v.libraries ≡ 1 → held v.stage ≡ Some x
      → GrewBy (own_number v.libraries) (log x) (log y) → first y ≡ first x → ((l : ℕ) → l ≢ own_number v.libraries → begun y l ≡ begun x l)
      → (t : ℕ) × (z : T) × (p : Library) × (v.stage ≡ InTurn t z) × (v.libraries ≡ p ∷ []) × (first y ≡ first z) × GrewBy p.number (log z) (log y) × ((k : ℕ) → k ≢ p.number → begun y k ≡ begun z k)
  may_count ticket v x y rests stands has grew origin marks = let i = in_turn ticket v.stage x rests has in let o = one_library v.libraries stands in
      let is : own_number v.libraries ≡ o.0.number = ap own_number o.1 in (
        ticket,
        x,
        o.0,
        i.0,
        o.1,
        origin,
        subst (λ l. GrewBy l (log x) (log y)) is grew,
        λ k other. marks k (λ e. other (e ∙ is)),
      )

  -- what passing on asks, where the seat gives
  pub may_pass : (ticket : ℕ) (v w : View T) (x y : T) (cs ds : List (ℕ × Option T)) → is_resting ticket v.stage ≡ true → held v.stage ≡ Some x → cs ≡ carries v.stage
      → w ≡ counted_at y log begun v v.stage → ds ≡ (0, Some y) ∷ rest cs
      → (z : T) × (w.stage ≡ InTurn ticket z) × (ds ≡ (0, Some z) ∷ [])
  may_pass ticket v w x y cs ds rests has slot counted is = let i = in_turn ticket v.stage x rests has in (
    y,
    ap (λ (u : View T). u.stage) (counted ∙ ap (counted_at y log begun v) i.0),
    is ∙ ap (λ (c : List (ℕ × Option T)). (0, Some y) ∷ rest c) (slot ∙ ap carries i.0),
  )

  -- what the value that was taken is to the seat
  pub learned : (v : View T) (x : T) → length v.libraries ≡ 1 → Learns first log begun v x → (made_by (own_number v.libraries) (log x) ≡ made_by (own_number v.libraries) v.seen) × (begun x (own_number v.libraries) ≡ own_begun v.libraries)
  learned v x stands l = let o = one_library v.libraries stands in let k = l.each_library 0 o.0 (ap (λ ps. get_elem? ps 0) o.1) in (
    subst (λ n. made_by n (log x) ≡ made_by n v.seen) (sym (ap own_number o.1)) k.0,
    ap (begun x) (ap own_number o.1) ∙ (sym k.1 ∙ sym (ap own_begun o.1)),
  )

  abbrev slot_value : List (ℕ × Option T) → Option T
  slot_value [] = None
  slot_value ((k, y) ∷ cs) = y

  -- what the seat knows of the value that it found in the slot
  pub took : (v u : View T) (st : Stage T) (x y : T) (r : Option T) (cs ds es : List (ℕ × Option T)) → u ≡ staged v st → length v.libraries ≡ 1
      → cs ≡ (0, Some x) ∷ ds → cs ≡ (0, r) ∷ es → r ≡ Some y → Learns first log begun u x
      → (made_by (own_number v.libraries) (log y) ≡ made_by (own_number v.libraries) v.seen) × (begun y (own_number v.libraries) ≡ own_begun v.libraries)
  took v u st x y r cs ds es is stands one two found l =
      let same : Some x ≡ Some y = sym (ap slot_value one) ∙ (ap slot_value two ∙ found) in
      let xy : x ≡ y = cc same in
      subst (λ z. (made_by (own_number v.libraries) (log z) ≡ made_by (own_number v.libraries) v.seen) × (begun z (own_number v.libraries) ≡ own_begun v.libraries)) xy
      (learned (staged v st) x stands (subst (λ z. Learns first log begun z x) is l))
