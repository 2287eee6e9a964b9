-- A change of mode of the controller is the step that the definitions say.
use Rattle.trio_ctl.proofs.Words.{if◌then◌else◌, ◌*◌, ◌+◌, ◌-◌, ◌<◌, ◌||◌, ◌∙◌, ◌∷◌, ◌≡◌, ◌≢◌, ◌≤◌, ◌⊎◌, BadMode, Bool, Checkpointed, Creds, Entries, HaveKinds, Holder, In, In-map, IsControlled, IsSomeAnd, IsStored, Kept, Keyed, LibNo, List, ModeFault, None, NotOwner, OpenGrant, Opened, Option, Outcome, Outline, Row, Shown, Some, State, Step, Store, Superblock, [], all_back, ap, are_new, are_new-first, arith, body_by_row, body_in_slot, body_stands, checkpoint_at, creds_of, eq-eqb, false, filter, find, find-In, get_or, get_or-set_other, grant_under, grants_in, holder, holder_of, image_with_mode, inl, inr, is_back, is_core, is_some, keyed, length, length-set, live_met, logged, map, met_numbered, mode_excluding, mode_fault, moded_to, nat_lt, ne_eqb, not, option_and_then, option_map, option_map_or, page_at, page_count, plain, refl, row_at, row_with_mode, settled, settled_body, slice_index_or, slice_set, state_of, stays_around, step_kept, subst, superblock_at_home, superblock_fits, sym, true, with_body_in, with_checkpoint, with_mode_in, ℕ}
use Rattle.std.proofs.Common.{slice_get}
use Rattle.std.specs.Prelude.{◌==◌, IsTrue}
use Rattle.trio_nodes.specs.declared.answers.ModeFault.TheVariants.{Busy}
use Rattle.trio_grants.specs.declared.grant.Grant.{Grant}
use Rattle.trio_layout.specs.Accept.{with_body_at}
use Rattle.trio_layout.specs.Mode.{body_put, body_with_mode}
use Rattle.trio_state.specs.Step.{ModeSet, SetMode}
use Rattle.trio_laws.proofs.Modes.{MayChange, may_change}
use Rattle.trio_ctl.proofs.LeasesBack.{all_back_is, find-fused}
use Rattle.trio_ctl.proofs.Told.{step_told, told_kept, told_open}
use Rattle.trio_open.specs.inner.Modes.{is_around, mode_denial, with_mode_at, with_row_mode}

-- ---- the first grant around a file that stays

first_filtered : (p : OpenGrant → Bool) (gs : List OpenGrant) → slice_get (filter p gs) 0 ≡ find p gs
first_filtered p [] = refl
first_filtered p (g ∷ gs) = by (p g) (first_filtered p gs)
  where
    by : (t : Bool) → slice_get (filter p gs) 0 ≡ find p gs → slice_get (if t then g ∷ filter p gs else filter p gs) 0 ≡ (if t then Some g else find p gs)
    by true again = refl
    by false again = again

find_map : {X Y : Type 0} (p : Y → Bool) (f : X → Y) (xs : List X) → find p (map f xs) ≡ option_map f (find (λ x. p (f x)) xs)
find_map p f [] = refl
find_map p f (x ∷ xs) = by (p (f x)) (find_map p f xs)
  where
    by : (t : Bool) → find p (map f xs) ≡ option_map f (find (λ x. p (f x)) xs) → (if t then Some (f x) else find p (map f xs)) ≡ option_map f (if t then Some x else find (λ x. p (f x)) xs)
    by true again = refl
    by false again = again

-- the grant under the key of one of the files
under_key : (files : List Opened) → are_new [] (map (λ (o : Opened). o.key) files) ≡ true → (o : Opened) → In o files → grant_under o.key (map keyed files) ≡ Some (keyed o).1
under_key [] once o i = absurd i
under_key (x ∷ xs) once o i =
    let first = are_new-first x.key (map (λ (o : Opened). o.key) xs) once in
    let at : Bool → Option Grant = λ t. option_map (λ (y : Keyed). y.1) (if t then Some (keyed x) else find (λ (y : Keyed). y.0 == o.key) (map keyed xs)) in
    elim i [
      | inl same ↦ ap at (eq-eqb x.key o.key (ap (λ (y : Opened). y.key) (sym same))) ∙ ap (λ (y : Opened). Some (keyed y).1) (sym same)
      | inr later ↦
          (let other : x.key ≢ o.key = λ e. first.0 (subst (λ n. In n (map (λ (y : Opened). y.key) xs)) (sym e) (In-map (λ (y : Opened). y.key) o xs later)) in
          ap at (ne_eqb x.key o.key other) ∙ under_key xs first.1 o later)
    ]

-- ---- why a mode isn't changed

abbrev denial_by : Bool → Bool → Option ModeFault → Option ModeFault
denial_by other big rest = if other then Some NotOwner else (if big then Some BadMode else rest)

denied_by : (other big : Bool) (rest : Option ModeFault) (fault : ModeFault) → denial_by other big None ≡ Some fault → (denial_by other big rest ≡ Some fault) × ((fault ≡ NotOwner) ⊎ (fault ≡ BadMode))
denied_by true big rest fault e = (e, inl (let same : Some NotOwner ≡ Some fault = e in sym (cc same)))
denied_by false true rest fault e = (e, inr (let same : Some BadMode ≡ Some fault = e in sym (cc same)))
denied_by false false rest fault e = absurd cc

undenied_by : (other big : Bool) (rest : Option ModeFault) → denial_by other big None ≡ None → denial_by other big rest ≡ rest
undenied_by true big rest e = absurd cc
undenied_by false true rest e = absurd cc
undenied_by false false rest e = refl

-- the first grant that refuses it, as it is told
pub busy_told : (o : Option OpenGrant) (who : Holder) → option_map holder_of o ≡ Some who → option_map (λ g. Busy (holder_of g)) o ≡ Some (Busy who)
busy_told None who e = absurd cc
busy_told (Some g) who e = ap (option_map Busy) e

pub none_told : (o : Option OpenGrant) → option_map holder_of o ≡ None → option_map (λ g. Busy (holder_of g)) o ≡ None
none_told None e = refl
none_told (Some g) e = absurd cc

-- what refuses a change before any grant does, refuses it whatever grants are open
plain_by : (other big : Bool) (rest rest' : Option ModeFault) (fault : ModeFault) → (rest ≡ Some fault → ⊥) → denial_by other big rest ≡ Some fault → denial_by other big rest' ≡ Some fault
plain_by true big rest rest' fault none e = e
plain_by false true rest rest' fault none e = e
plain_by false false rest rest' fault none e = absurd (none e)

module _ (s : State) (lib : LibNo) (ino mode : ℕ) (back : List Shown) where
  abbrev other_than : Row → Bool
  other_than r = ino == 1 || not ((creds_of s lib.0).uid == 0 || (creds_of s lib.0).uid == r.uid)

  abbrev stays : OpenGrant → Bool
  stays g = not (is_back lib.0 back g)

  abbrev left : State
  left = record s { open_grants = filter stays s.open_grants; entries = s.entries + length back }

  abbrev busy : Option OpenGrant → Option ModeFault
  busy o = option_map (λ g. Busy (holder_of g)) o

  -- once the leases are back
  at_back : (o : Option Row) → mode_fault (all_back s lib back) lib.0 ino mode o ≡ mode_fault left lib.0 ino mode o
  at_back o = ap (λ (t : State). mode_fault t lib.0 ino mode o) (all_back_is s lib back)

  pub denied_back : (r : Row) (fault : ModeFault) → mode_denial s lib.0 ino mode r ≡ Some fault → mode_fault (all_back s lib back) lib.0 ino mode (Some r) ≡ Some fault
  denied_back r fault e = at_back (Some r) ∙ (denied_by (other_than r) (nat_lt 511 mode) (busy (mode_excluding left ino r)) fault e).0

  pub free_back : (r : Row) → mode_denial s lib.0 ino mode r ≡ None → mode_fault (all_back s lib back) lib.0 ino mode (Some r) ≡ busy (find (stays_around lib.0 ino r.parent back) s.open_grants)
  free_back r may =
      at_back (Some r)
      ∙ undenied_by (other_than r) (nat_lt 511 mode) (busy (mode_excluding left ino r)) may
      ∙ ap busy (first_filtered (is_around ino r.parent) (filter stays s.open_grants) ∙ find-fused (is_around ino r.parent) stays s.open_grants)

  -- a fault that names no grant is one before the leases are back, too
  pub plain_fault : (o : Option Row) (fault : ModeFault) → ((holder : Holder) → fault ≡ Busy holder → ⊥) → mode_fault (all_back s lib back) lib.0 ino mode o ≡ Some fault → mode_fault s lib.0 ino mode o ≡ Some fault
  plain_fault None fault plain e = e
  plain_fault (Some r) fault plain e =
      plain_by (other_than r) (nat_lt 511 mode) (busy (mode_excluding left ino r)) (busy (mode_excluding s ino r)) fault (none (mode_excluding left ino r)) (sym (at_back (Some r)) ∙ e)
    where
      none : (o : Option OpenGrant) → busy o ≡ Some fault → ⊥
      none None e = cc e
      none (Some g) e = plain (holder_of g) (let is : Some (Busy (holder_of g)) ≡ Some fault = e in sym (cc is))

-- a page that is there on a core page
core_there : (t : Bool) (o : Option (List ℕ)) (bytes : List ℕ) → (if t then o else None) ≡ Some bytes → t ≡ true
core_there true o bytes e = refl
core_there false o bytes e = absurd cc

module _ (s : Store) (first : ℕ) (table : List Keyed) (files : List Opened) (creds : List Creds) (entries : Entries) (begun : List (Option Outline)) (k : IsControlled s first table files creds entries begun) where
  abbrev st : State
  st = state_of s first (grants_in files) creds entries.made

  abbrev cs : List (Option Checkpointed)
  cs = s.checkpoints.items

  kept_now : Kept st
  kept_now = k.stored.kept

  -- the first open grant around a file that stays is that of the first file
  open_found : (lib ino parent : ℕ) (back : List Shown) → find (stays_around lib ino parent back) st.open_grants ≡ option_map (λ (o : Opened). with_checkpoint cs o.grant) (find (λ (o : Opened). stays_around lib ino parent back o.grant) files)
  open_found lib ino parent back =
      find_map (stays_around lib ino parent back) (with_checkpoint cs) (grants_in files)
      ∙ ap (option_map (with_checkpoint cs)) (find_map (λ (g : OpenGrant). stays_around lib ino parent back g) (λ (o : Opened). o.grant) files)
      ∙ twice (find (λ (o : Opened). stays_around lib ino parent back o.grant) files)
    where
      twice : (o : Option Opened) → option_map (with_checkpoint cs) (option_map (λ (o : Opened). o.grant) o) ≡ option_map (λ (o : Opened). with_checkpoint cs o.grant) o
      twice None = refl
      twice (Some o) = refl

  -- the first grant around a file that stays, in the table and among the open grants
  pub holder_around : (lib ino parent : ℕ) (back : List Shown) (key : ℕ) → option_map (λ (o : Opened). o.key) (find (λ (o : Opened). stays_around lib ino parent back o.grant) files) ≡ Some key
      → option_map holder (grant_under key table) ≡ option_map holder_of (find (stays_around lib ino parent back) st.open_grants)
  holder_around lib ino parent back key e = by (find (λ (o : Opened). stays_around lib ino parent back o.grant) files) refl e
    where
      by : (o : Option Opened) → find (λ (o : Opened). stays_around lib ino parent back o.grant) files ≡ o → option_map (λ (o : Opened). o.key) o ≡ Some key → option_map holder (grant_under key table) ≡ option_map holder_of (find (stays_around lib ino parent back) st.open_grants)
      by None f e = absurd cc
      by (Some o) f e =
          let same : o.key ≡ key = cc e in
          ap (λ t. option_map holder (grant_under key t)) k.grants
          ∙ ap (λ n. option_map holder (grant_under n (map keyed files))) (sym same)
          ∙ ap (option_map holder) (under_key files k.keys_once o (find-In (λ (o : Opened). stays_around lib ino parent back o.grant) files o f).0)
          ∙ sym (ap (option_map holder_of) (open_found lib ino parent back ∙ ap (option_map (λ (o : Opened). with_checkpoint cs o.grant)) f))

  pub nobody_around : (lib ino parent : ℕ) (back : List Shown) → option_map (λ (o : Opened). o.key) (find (λ (o : Opened). stays_around lib ino parent back o.grant) files) ≡ None
      → None ≡ option_map holder_of (find (stays_around lib ino parent back) st.open_grants)
  nobody_around lib ino parent back e =
      sym (ap (option_map holder_of) (open_found lib ino parent back) ∙ ap (λ o. option_map holder_of (option_map (λ (o : Opened). with_checkpoint cs o.grant) o)) (unmapped (find (λ (o : Opened). stays_around lib ino parent back o.grant) files) e))
    where
      unmapped : (o : Option Opened) → option_map (λ (o : Opened). o.key) o ≡ None → o ≡ None
      unmapped None e = refl
      unmapped (Some o) e = absurd cc

  module _ (lib ino mode : ℕ) (r : Row) (row : row_at st.home ino ≡ Some r) (none : mode_fault st lib ino mode (Some r) ≡ None) where
    abbrev change : MayChange st lib ino mode r
    change = may_change st lib ino mode r none

    -- the number of the file is in the table
    pub live_within : (0 < ino) × (ino < length s.rows)
    live_within =
        let m = live_met st kept_now ino r row in
        let b = met_numbered (settled st).core plain kept_now.fit kept_now.verifies.sound m.met m.stands in
        let q : (0 < ino) × (ino ≤ length s.rows - 1) = subst (λ (n : ℕ). (0 < n) × (n ≤ length s.rows - 1)) m.number b in
        let low = q.0 in
        let high = q.1 in
        (low, omega (arith, low, high))

    pub slot_within : r.slot < 16
    slot_within = (body_stands st ino r kept_now row change.other).0

    abbrev bytes : List ℕ
    bytes = (body_stands st ino r kept_now row change.other).1.0

    -- its directory is at home
    at_home : slice_get s.home.pages r.page ≡ Some (Some bytes)
    at_home =
        let b = body_stands st ino r kept_now row change.other in
        elim b.2 [
          | inl bare ↦ bare.1 ∙ ap Some b.1.1
          | inr lent ↦ absurd ((change.free lent.0 lent.1).1 lent.3)
        ]

    page_is : get_or s.home.pages r.page None ≡ Some bytes
    page_is = page_at s.home.pages r.page ∙ ap (option_and_then (λ x. x)) at_home

    pub page_there : is_some (slice_index_or s.home.pages r.page None) ≡ true
    page_there = ap is_some page_is

    -- its body, as it stands at home
    body_home : settled_body st.home ino ≡ body_in_slot r.slot bytes
    body_home =
        let core : is_core st.home.core.range r.page ≡ true = core_there (is_core st.home.core.range r.page) (get_or (settled st).core.pages r.page None) bytes (body_stands st ino r kept_now row change.other).1.1 in
        ap (λ (b : Bool). if b then s.root else body_by_row st.home.core (row_at st.home ino)) (ne_eqb ino 1 change.other)
        ∙ ap (body_by_row st.home.core) row
        ∙ ap (λ (b : Bool). option_map_or (body_in_slot r.slot) (if b then get_or s.home.pages r.page None else None) []) core
        ∙ ap (λ (o : Option (List ℕ)). option_map_or (body_in_slot r.slot) o []) page_is

    pages_are : with_mode_at r.page r.slot mode s.home.pages ≡ body_put (row_at st.home ino) (body_with_mode mode (settled_body st.home ino)) s.home.pages
    pages_are =
        ap (λ (o : Option (List ℕ)). slice_set s.home.pages r.page (option_map (with_mode_in r.slot mode) o)) page_is
        ∙ sym (ap (λ (o : Option (List ℕ)). slice_set s.home.pages r.page (option_map (with_body_in r.slot (body_with_mode mode (body_in_slot r.slot bytes))) o)) page_is)
        ∙ sym (ap (λ b. with_body_at r.page r.slot (body_with_mode mode b) s.home.pages) body_home)
        ∙ sym (ap (λ o. body_put o (body_with_mode mode (settled_body st.home ino)) s.home.pages) row)

    module _ (s' : Store) (entries' : Entries) (pages : s'.home.pages ≡ with_mode_at r.page r.slot mode s.home.pages)
        (rest : s' ≡ record s { home = s'.home; rows = slice_set s.rows ino (Some (with_row_mode mode r)) }) (next : entries' ≡ record entries { made = entries.made + 1 }) where
      abbrev after : State
      after = state_of s' first (grants_in files) creds entries'.made

      abbrev put : List (Option (List ℕ))
      put = with_mode_at r.page r.slot mode s.home.pages

      abbrev moded : List (Option Row)
      moded = slice_set s.rows ino (Some (with_row_mode mode r))

      long : length put ≡ length s.home.pages
      long = length-set s.home.pages r.page (option_map (with_mode_in r.slot mode) (slice_index_or s.home.pages r.page None))

      rows_long : length moded ≡ length s.rows
      rows_long = length-set s.rows ino (Some (with_row_mode mode r))

      pub after_is : after ≡ logged (record st { home = image_with_mode st.home ino mode })
      after_is =
          let S : Store → List (Option (List ℕ)) → ℕ → ℕ → ℕ → State = λ (t : Store) ps e n made. record {
            home = record { core = record { pages = ps; root = t.root; range = record { first = first; end = e }; inodes = n - 1 }; rows = t.rows; owners = t.owners };
            open_grants = map (with_checkpoint t.checkpoints.items) (grants_in files);
            pages_out = t.allotments.pages;
            numbers_out = t.allotments.numbers;
            creds = creds;
            entries = made;
          } in
          let T : List (Option Row) → Store = λ rs. record s { home = s'.home; rows = rs } in
          let to : moded ≡ slice_set s.rows ino (row_with_mode mode (row_at st.home ino)) = sym (ap (λ o. slice_set s.rows ino (row_with_mode mode o)) row) in
          ap (λ (t : Store). S t s'.home.pages (length s'.home.pages) (length t.rows) entries'.made) rest
          ∙ ap (λ ps. S (T moded) ps (length ps) (length moded) entries'.made) pages
          ∙ ap (λ n. S (T moded) put n (length moded) entries'.made) long
          ∙ ap (λ n. S (T moded) put (length s.home.pages) n entries'.made) rows_long
          ∙ ap (λ (n : Entries). S (T moded) put (length s.home.pages) (length s.rows) n.made) next
          ∙ ap (λ ps. S (T moded) ps (length s.home.pages) (length s.rows) (entries.made + 1)) pages_are
          ∙ ap (λ rs. S (T rs) (body_put (row_at st.home ino) (body_with_mode mode (settled_body st.home ino)) s.home.pages) (length s.home.pages) (length s.rows) (entries.made + 1)) to

      moded_step : Step st (SetMode lib ino mode) ModeSet after
      moded_step =
          let f : mode_fault st lib ino mode (row_at st.home ino) ≡ None = ap (mode_fault st lib ino mode) row ∙ none in
          let out = ap (moded_to st ino mode) f in
          inl (ap (λ (x : Outcome). x.answer) (sym out), after_is ∙ ap (λ (x : Outcome). x.after) (sym out))

      same_superblock : superblock_at_home s' first ≡ superblock_at_home s first
      same_superblock =
          let S : List ℕ → ℕ → ℕ → Superblock = λ root e n. record { pages = e; inodes = n - 1; first_owner = 1 + page_count (32 * (n - 1)); first_core = first; root = root } in
          ap (λ (t : Store). S t.root (length s'.home.pages) (length t.rows)) rest ∙ ap (λ ps. S s.root (length ps) (length moded)) pages ∙ ap (λ e. S s.root e (length moded)) long ∙ ap (S s.root (length s.home.pages)) rows_long

      same_checkpoints : (n : ℕ) → checkpoint_at s'.checkpoints.items n ≡ checkpoint_at s.checkpoints.items n
      same_checkpoints n = ap (λ (t : Store). checkpoint_at t.checkpoints.items n) rest

      moded_stored : IsStored s' first (grants_in files) creds entries'.made
      moded_stored = record {
        fits = subst (λ (x : Superblock). IsTrue (superblock_fits x)) (sym same_superblock) k.stored.fits;
        places = ap (λ (t : Store). length t.checkpoints.items) rest ∙ k.stored.places ∙ sym (ap (λ (t : Store). length t.rows) rest ∙ rows_long);
        of_grant = λ n c e. k.stored.of_grant n c (sym (same_checkpoints n) ∙ e);
        covers = λ g i kind. (let q = k.stored.covers g i kind in (q.0, same_checkpoints g.ino ∙ q.1, q.2));
        kept = step_kept st after (SetMode lib ino mode) ModeSet kept_now tt moded_step;
      }

      -- the file of each grant is another
      other_file : (o : Opened) → In o files → o.grant.ino ≢ ino
      other_file o i = (change.free (with_checkpoint cs o.grant) (In-map (with_checkpoint cs) o.grant (grants_in files) (In-map (λ (o : Opened). o.grant) o files i))).0

      moded_kinds : HaveKinds moded files
      moded_kinds o i = subst (λ (x : Option Row). IsSomeAnd x (λ (r : Row). r.kind ≡ o.grant.of)) (sym (get_or-set_other s.rows ino o.grant.ino (Some (with_row_mode mode r)) None (other_file o i))) (k.kinds o i)

      pub moded_controlled : IsControlled s' first table files creds entries' begun
      moded_controlled = record {
        stored = moded_stored;
        no_zero = ap (λ (t : Store). get_or t.allotments.numbers 0 None) rest ∙ k.no_zero;
        some_libraries = k.some_libraries;
        few_libraries = k.few_libraries;
        grants = k.grants;
        keys_once = k.keys_once;
        earlier = λ o i. (let e = k.earlier o i in let more = ap (λ (n : Entries). n.made) next in omega (arith, e, more));
        placed = k.placed;
        promised = ap (λ (n : Entries). n.promised) next ∙ k.promised;
        kinds = subst (λ (t : Store). HaveKinds t.rows files) (sym rest) moded_kinds;
        told = told_kept s'.rows s'.checkpoints.items (grants_in files) (step_told st (told_open s.rows cs (grants_in files) k.told) (SetMode lib ino mode) ModeSet after kept_now tt moded_step);
      }
