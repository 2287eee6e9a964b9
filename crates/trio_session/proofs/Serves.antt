-- What serves a need, after a grant and after a new index.
use Rattle.trio_session.proofs.Words.{◌++◌, ◌||◌, ◌∙◌, ◌∷◌, ◌≡◌, AfterGrant, Bool, DeskSeen, GrantKind, Hold, HoldParts, In-find, In-right, IsFreshLease, IsTrue, Lease, LentFile, LibNo, LibOut, List, MadeFile, None, Ok, Option, Read, SameBut, SessionSeen, Shown, Sizes, Some, TellsGrant, ToHold, Told, Write, [], ap, eq-eqb, eqb, false, find, inl, is_some, made_file, open_kind, option_map, option_or, refl, serves, subst, true, with_lease, ℕ}
use Rattle.trio_nodes.specs.declared.grant.GrantKind.TheVariants.{Read as ToRead, Write as ToWrite}
use Rattle.trio_desk.specs.Out.{kind_lent}
use Rattle.trio_session.specs.Asked.{FitsAsk}
use Rattle.trio_session.proofs.Desks.{same_but, told_lent}

-- a test that the last element passes finds one
find-push : {X : Type 0} (p : X → Bool) (xs : List X) (x : X) → p x ≡ true → (y : X) × (find p (xs ++ x ∷ []) ≡ Some y)
find-push p xs x e = In-find p (xs ++ x ∷ []) x (In-right x xs (x ∷ []) (inl refl)) e

or-true : (b : Bool) → (b || true) ≡ true
or-true true = refl
or-true false = refl

or_some : {X : Type 0} (o : Option X) (x : X) → is_some (option_or o (Some x)) ≡ true
or_some None x = refl
or_some (Some y) x = refl

-- a new lease on a file serves a need of its kind
pub serves-with_lease : (s : SessionSeen) (lease : Lease) (lib : LibNo) (ino : ℕ) (sizes : Sizes) (out : LibOut) → IsFreshLease lib ino sizes out lease
    → IsTrue (serves (with_lease s lease) ino (kind_lent lease))
serves-with_lease s (Write f) lib ino sizes out fresh =
    let there = find-push (λ (g : LentFile). eqb g.stands.ino ino) s.parcel.writes f (eq-eqb f.stands.ino ino (ap (λ (g : Shown). g.ino) fresh.is.as_lent ∙ fresh.is.ino)) in
    ap (λ o. is_some (option_or (option_map (λ (m : MadeFile). m.kind) (made_file s ino)) (option_map (λ (f : Shown). f.kind) (option_map (λ (g : LentFile). g.stands) o)))) there.1
    ∙ or_some (option_map (λ (m : MadeFile). m.kind) (made_file s ino)) there.0.stands.kind
serves-with_lease s (Read f) lib ino sizes out fresh =
    let there = find-push (λ (g : Shown). eqb g.ino ino) s.reads f (eq-eqb f.ino ino fresh.is.1) in
    ap (λ o. is_some (open_kind s ino) || is_some o) there.1 ∙ or-true (is_some (open_kind s ino))
serves-with_lease s (Hold h) lib ino sizes out fresh =
    let there = find-push (λ (k : HoldParts). eqb k.ino ino) s.parcel.holds h (eq-eqb h.ino ino fresh.is.1) in
    ap (λ o. is_some (made_file s ino) || is_some o) there.1 ∙ or-true (is_some (made_file s ino))

-- room and indexes change nothing of what serves
pub serves-but : (s s' : SessionSeen) (ino : ℕ) (kind : GrantKind) → SameBut s s' → serves s' ino kind ≡ serves s ino kind
serves-but s s' ino ToRead but = ap (λ (x : SessionSeen). serves x ino ToRead) but.same
serves-but s s' ino ToWrite but = ap (λ (x : SessionSeen). serves x ino ToWrite) but.same
serves-but s s' ino ToHold but = ap (λ (x : SessionSeen). serves x ino ToHold) but.same

-- what was asked is served where a grant was given
pub serves-granted : (d d' : DeskSeen) (s t : SessionSeen) (ino : ℕ) (kind : GrantKind) (told : Told) → TellsGrant d ino kind told d' → AfterGrant s (Ok tt) t told → IsTrue (serves t ino kind)
serves-granted d d' s t ino kind told tells after =
    let by = told_lent s t told after in
    let fits = subst (FitsAsk d ino kind) by.1 tells.fits in
    serves-but (with_lease s by.0) t ino kind (same_but (with_lease s by.0) t by.2)
    ∙ subst (λ (k : GrantKind). IsTrue (serves (with_lease s by.0) ino k)) fits.1 (serves-with_lease s by.0 d.lib ino d.sizes d.out fits.0)
