-- Giving a read lease back keeps what holds of a state.
use Rattle.trio_laws.proofs.Words.{AllPairs-filter, Back, Bool, CtlAnswer, GrantKind, HasLentBlocks, Image, In, In-filter, In-list_any, IsFit, Kept, LentIsListed, List, MayBothStand, None, OpenGrant, Option, Row, Sheet, Some, State, Step, Verifies, [], and_parts, and_right, ap, arith, cond, covered, eqb, false, false≢true, filter, filter-In, flat_map, given_back, guard_in, has_parent_grant, inl, inr, is_among, is_read, is_write, list_any, list_any-In, not, not-false, not_from_false, refl, row_at, settled, settled_body, sheet_numbers, subst, sym, true, ℕ, ◌&&◌, ◌++◌, ◌∙◌, ◌∷◌, ◌≡◌}

flat_filter_step : {X Y : Type 0} (f : X → List Y) (p : X → Bool) (x : X) (xs : List X) (b : Bool) → (b ≡ false → f x ≡ []) → flat_map f (filter p xs) ≡ flat_map f xs → flat_map f (cond b (x ∷ filter p xs) (filter p xs)) ≡ f x ++ flat_map f xs
flat_filter_step f p x xs true h ih = ap (λ l. f x ++ l) ih
flat_filter_step f p x xs false h ih = ih ∙ ap (λ l. l ++ flat_map f xs) (sym (h refl))

flat_filter : {X Y : Type 0} (f : X → List Y) (p : X → Bool) (xs : List X) → ((x : X) → In x xs → p x ≡ false → f x ≡ []) → flat_map f (filter p xs) ≡ flat_map f xs
flat_filter f p [] h = refl
flat_filter f p (x ∷ xs) h = flat_filter_step f p x xs (p x) (h x (inl refl)) (flat_filter f p xs (λ y i. h y (inr i)))

no_sheets : (xs : List Sheet) → sheet_numbers xs ≡ [] → xs ≡ []
no_sheets [] e = refl
no_sheets (x ∷ xs) e = absurd cc

read_bare : (g : OpenGrant) → is_read g.kind ≡ true → sheet_numbers g.checkpoint ≡ sheet_numbers (covered g.kind g.of (guard_in g.body) g.index g.blocks) → g.checkpoint ≡ []
read_bare g r e = search (arith, no_sheets, false≢true)

write_unread : (t : GrantKind) → is_write t ≡ true → is_read t ≡ false
write_unread t e = search (arith, false≢true)

module _ (s : State) (k : Kept s) (lib ino : ℕ) where
  abbrev stays : OpenGrant → Bool
  stays g = not (eqb g.lib lib && eqb g.ino ino && is_read g.kind)

  pub settled_back : settled (given_back s lib ino) ≡ settled s
  settled_back = search (arith, flat_filter, and_parts, not-false, read_bare)

  write_stays : (g : OpenGrant) → is_write g.kind ≡ true → stays g ≡ true
  write_stays g w =
      not_from_false (eqb g.lib lib && eqb g.ino ino && is_read g.kind) (and_right (eqb g.lib lib && eqb g.ino ino) (is_read g.kind) (write_unread g.kind w))

  any_writes : (p : OpenGrant → Bool) → ((g : OpenGrant) → p g ≡ true → is_write g.kind ≡ true) → list_any p s.open_grants ≡ true → list_any p (filter stays s.open_grants) ≡ true
  any_writes p w e = search (arith, list_any-In, In-list_any, In-filter, write_stays)

  parent_back : (l : ℕ) (r : Option Row) → has_parent_grant s l r ≡ true → has_parent_grant (given_back s lib ino) l r ≡ true
  parent_back l None e = e
  parent_back l (Some r) e =
      any_writes (λ (g : OpenGrant). eqb g.lib l && eqb g.ino r.parent && is_write g.kind) (λ g t. (and_parts (eqb g.lib l && eqb g.ino r.parent) (is_write g.kind) t).1) e

  pub given_back_kept : Kept (given_back s lib ino)
  given_back_kept = record {
    fit = (let P : Image → Type 0 = λ x. IsFit x.core in subst P (sym settled_back) k.fit);
    verifies = (let P : Image → Type 0 = λ x. Verifies x in subst P (sym settled_back) k.verifies);
    live = λ g i. k.live g (filter-In stays g s.open_grants i).0;
    apart = AllPairs-filter MayBothStand stays s.open_grants k.apart;
    bodies = λ g i. k.bodies g (filter-In stays g s.open_grants i).0 ∙ ap (λ x. settled_body x g.ino) (sym settled_back);
    held = λ g i w. parent_back g.lib (row_at s.home g.ino) (k.held g (filter-In stays g s.open_grants i).0 w);
    lent = λ g i w. (let P : Image → Type 0 = λ x. LentIsListed x g in subst P (sym settled_back) (k.lent g (filter-In stays g s.open_grants i).0 w));
    checkpoints = λ g i. k.checkpoints g (filter-In stays g s.open_grants i).0;
    guarded = λ g i w d t. (let P : Image → Type 0 = λ x. HasLentBlocks x g in subst P (sym settled_back) (k.guarded g (filter-In stays g s.open_grants i).0 w d t));
    absent = λ p gone c. elim (k.absent p gone c) [
      | inl lent ↦
          inl (any_writes (λ (g : OpenGrant). is_write g.kind && is_among p (sheet_numbers (g.index ++ g.blocks))) (λ g t. (and_parts (is_write g.kind) (is_among p (sheet_numbers (g.index ++ g.blocks))) t).0) lent)
      | inr out ↦ inr out
    ];
    pages_placed = k.pages_placed;
    out_free = k.out_free;
    numbers_placed = k.numbers_placed;
    numbers_free = k.numbers_free;
  }

-- a step of giving back
pub back_kept : (s s' : State) (lib ino : ℕ) (answer : CtlAnswer) → Kept s → Step s (Back lib ino) answer s' → Kept s'
back_kept s s' lib ino answer k step =
    let K : State → Type 0 = λ x. Kept x in
    elim step [
      | inl does ↦ subst K (sym does.1) (given_back_kept s k lib ino)
      | inr none ↦ subst K (sym none.2) k
    ]
