-- What was just granted may be handed in or given back. Cited by tests alone.
use Rattle.trio_ctl.proofs.Words.{◌++◌, ◌∙◌, ◌∷◌, ◌≡◌, Back, Bundle, Chain, Comes, Core, CtlAnswer, Denied, Done, GivenTo, Grant, GrantFault, GrantKind, Granted, HasGrant, In, In-cases, In-right, IsFit, IsSomeAnd, Kept, LentFile, List, Location, NoGrantMemory, NoMemory, NoParent, None, NotGranted, NotLive, OpenGrant, Option, Read, ReadLent, Row, Sheet, Shown, Some, State, Step, WasLent, WasLentAs, Write, WriteLent, Written, [], ap, block_sheets, bundle_sheets, flat_map, flat_map-In, grant_fault, granted_to, index_sheets, inl, inr, lease_of, length, lent_sheet, map, opened, refl, row_at, settled, settled_chain, sheet_numbers, sheets_in, sheets_of, sheets_untouched, shown_of, subst, sym, untouched, written_in, ℕ}
use Rattle.std.specs.Prelude.{Result, Ok, Err}
use Rattle.trio_nodes.specs.declared.answers.GrantFault.TheVariants.{Busy as BusyGrant}

-- a lease alone, as a bundle
abbrev pub lease_alone : LentFile → Bundle
lease_alone f = record { writes = written_in f.stands ∷ []; holds = []; pages = []; numbers = [] }

full_sheet : (core : Core) (chain : Result Chain Location) (x : Sheet) → IsFit core → In x (index_sheets core chain ++ block_sheets core chain) → length x.bytes ≡ 4096
full_sheet core (Err p) x fit i = absurd i
full_sheet core (Ok c) x fit i =
    elim (In-cases x (sheets_of core c.index) (sheets_of core c.blocks) i) [
      | inl a ↦ fit.full x.page x.bytes (sheets_in core c.index x a).1
      | inr b ↦ fit.full x.page x.bytes (sheets_in core c.blocks x b).1
    ]

-- the pages of the bundle are those that the grant lent
lent_alone : (g : OpenGrant) (x : Sheet) → In x (bundle_sheets (lease_alone (lease_of g))) → In x (g.index ++ g.blocks)
lent_alone g x i =
    let sheets : Written → List Sheet = λ w. w.index ++ w.blocks in
    let lent : Written = written_in (lease_of g).stands in
    elim (In-cases x (flat_map sheets (lent ∷ [])) [] i) [
      | inl there ↦
          let w = flat_map-In sheets x (lent ∷ []) there in
          elim w.1 [
            | inl is ↦
                let at : In x (map lent_sheet (map untouched g.index) ++ map lent_sheet (map untouched g.blocks)) = subst (λ (v : Written). In x (sheets v)) is w.2 in
                subst (In x) (ap (λ xs. xs ++ map lent_sheet (map untouched g.blocks)) (sheets_untouched g.index) ∙ ap (λ xs. g.index ++ xs) (sheets_untouched g.blocks)) at
            | inr none ↦ absurd none
          ]
      | inr none ↦ absurd none
    ]

-- after the grant the lease may be handed in, and the libraries are as many
pub granted_is_given : (s s' : State) (ino : ℕ) (f : LentFile) → Kept s → Step s (Grant 1 ino Write) (Granted 0) s'
    → IsSomeAnd (row_at s.home ino) (λ r. WriteLent f ≡ WriteLent (lease_of (opened s 1 ino Write r)))
    → GivenTo s' 1 (lease_alone f) × (s'.creds ≡ s.creds)
granted_is_given s s' ino f kept step lease =
    elim step [
      | inl does ↦ by (grant_fault s 1 ino Write) (row_at s.home ino) does lease
      | inr none ↦ let wrong : Granted 0 ≡ NoMemory = none.1 in absurd (cc wrong)
    ]
  where
    by : (fault : Option GrantFault) (row : Option Row) → Comes (granted_to s 1 ino Write fault row) (Granted 0) s'
        → IsSomeAnd row (λ r. WriteLent f ≡ WriteLent (lease_of (opened s 1 ino Write r)))
        → GivenTo s' 1 (lease_alone f) × (s'.creds ≡ s.creds)
    by (Some fault) row c l = let wrong : Granted 0 ≡ NotGranted fault = c.0 in absurd (cc wrong)
    by None None c l = let wrong : Granted 0 ≡ Done = c.0 in absurd (cc wrong)
    by None (Some r) c l =
        let g : OpenGrant = opened s 1 ino Write r in
        let is : f ≡ lease_of g = cc l in
        let stands : In g s'.open_grants = subst (λ (t : State). In g t.open_grants) (sym c.1) (In-right g s.open_grants (g ∷ []) (inl refl)) in
        let lent : WasLent s' 1 (written_in (lease_of g).stands) = record {
          grant = g;
          is_open = stands;
          lib = refl;
          kind = refl;
          ino = refl;
          of = refl;
          index = ap sheet_numbers (sheets_untouched g.index);
          blocks = ap sheet_numbers (sheets_untouched g.blocks);
        } in
        let given : GivenTo s' 1 (lease_alone (lease_of g)) = record {
          writes = λ w i. elim i [ inl same ↦ subst (WasLent s' 1) (sym same) lent | inr none ↦ absurd none ];
          holds = λ n i. absurd i;
          pages = λ n i. absurd i;
          numbers = λ n i. absurd i;
          full = λ x i. full_sheet (settled s).core (settled_chain (settled s) r.kind ino) x kept.fit (lent_alone g x i);
          writes_once = refl;
          holds_once = refl;
          pages_once = refl;
          numbers_once = refl;
        } in
        (subst (λ (h : LentFile). GivenTo s' 1 (lease_alone h)) (sym is) given, ap (λ (t : State). t.creds) c.1)

-- ---- what a grant and its end leave

-- the libraries stay as they are
pub creds_kept : (s : State) (lib ino : ℕ) (kind : GrantKind) (answer : CtlAnswer) (s' : State) → Step s (Grant lib ino kind) answer s' → s'.creds ≡ s.creds
creds_kept s lib ino kind answer s' (inr none) = ap (λ (t : State). t.creds) none.2
creds_kept s lib ino kind answer s' (inl does) = ap (λ (t : State). t.creds) does.1 ∙ by (grant_fault s lib ino kind) (row_at s.home ino)
  where
    by : (fault : Option GrantFault) (row : Option Row) → (granted_to s lib ino kind fault row).after.creds ≡ s.creds
    by None None = refl
    by None (Some r) = refl
    by (Some (BusyGrant who)) row = refl
    by (Some NotLive) row = refl
    by (Some (Denied n)) row = refl
    by (Some NoParent) row = refl
    by (Some NoGrantMemory) row = refl

pub creds_after_back : (s : State) (lib ino : ℕ) (answer : CtlAnswer) (s' : State) → Step s (Back lib ino) answer s' → s'.creds ≡ s.creds
creds_after_back s lib ino answer s' (inr none) = ap (λ (t : State). t.creds) none.2
creds_after_back s lib ino answer s' (inl does) = ap (λ (t : State). t.creds) does.1

-- a file that was just lent for reading may be given back
pub read_is_open : (s s' : State) (ino : ℕ) (f : Shown) → Step s (Grant 1 ino Read) (Granted 0) s'
    → IsSomeAnd (row_at s.home ino) (λ r. ReadLent f ≡ ReadLent (shown_of (opened s 1 ino Read r)))
    → HasGrant s' f.lib.0 f.ino Read
read_is_open s s' ino f step lease =
    elim step [
      | inl does ↦ by (grant_fault s 1 ino Read) (row_at s.home ino) does lease
      | inr none ↦ let wrong : Granted 0 ≡ NoMemory = none.1 in absurd (cc wrong)
    ]
  where
    by : (fault : Option GrantFault) (row : Option Row) → Comes (granted_to s 1 ino Read fault row) (Granted 0) s'
        → IsSomeAnd row (λ r. ReadLent f ≡ ReadLent (shown_of (opened s 1 ino Read r)))
        → HasGrant s' f.lib.0 f.ino Read
    by (Some fault) row c l = let wrong : Granted 0 ≡ NotGranted fault = c.0 in absurd (cc wrong)
    by None None c l = let wrong : Granted 0 ≡ Done = c.0 in absurd (cc wrong)
    by None (Some r) c l =
        let g : OpenGrant = opened s 1 ino Read r in
        let is : f ≡ shown_of g = cc l in
        let stands : In g s'.open_grants = subst (λ (t : State). In g t.open_grants) (sym c.1) (In-right g s.open_grants (g ∷ []) (inl refl)) in
        let has : HasGrant s' (shown_of g).lib.0 (shown_of g).ino Read = record { grant = g; is_open = stands; lib = refl; kind = refl; ino = refl } in
        subst (λ (x : Shown). HasGrant s' x.lib.0 x.ino Read) (sym is) has

-- and shows what it was lent
pub granted_is_lent : (s s' : State) (ino : ℕ) (f : LentFile) → Step s (Grant 1 ino Write) (Granted 0) s'
    → IsSomeAnd (row_at s.home ino) (λ r. WriteLent f ≡ WriteLent (lease_of (opened s 1 ino Write r)))
    → WasLentAs s' 1 f
granted_is_lent s s' ino f step lease =
    elim step [
      | inl does ↦ by (grant_fault s 1 ino Write) (row_at s.home ino) does lease
      | inr none ↦ let wrong : Granted 0 ≡ NoMemory = none.1 in absurd (cc wrong)
    ]
  where
    by : (fault : Option GrantFault) (row : Option Row) → Comes (granted_to s 1 ino Write fault row) (Granted 0) s'
        → IsSomeAnd row (λ r. WriteLent f ≡ WriteLent (lease_of (opened s 1 ino Write r)))
        → WasLentAs s' 1 f
    by (Some fault) row c l = let wrong : Granted 0 ≡ NotGranted fault = c.0 in absurd (cc wrong)
    by None None c l = let wrong : Granted 0 ≡ Done = c.0 in absurd (cc wrong)
    by None (Some r) c l =
        let g : OpenGrant = opened s 1 ino Write r in
        let is : f ≡ lease_of g = cc l in
        record {
          grant = g;
          is_open = subst (λ (t : State). In g t.open_grants) (sym c.1) (In-right g s.open_grants (g ∷ []) (inl refl));
          lib = refl;
          kind = refl;
          ino = ap (λ (x : LentFile). x.stands.ino) (sym is);
          lent = ap (λ (x : LentFile). x.lent) is;
        }
