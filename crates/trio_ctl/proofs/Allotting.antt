-- What an allotment gives, by what the controller keeps.
use Rattle.trio_ctl.proofs.Words.{◌&&◌, ◌*◌, ◌++◌, ◌+◌, ◌-◌, ◌<◌, ◌==◌, ◌∙◌, ◌≡◌, ◌≤◌, ◌⊎◌, Allot, AllotFault, Creds, CtlAnswer, Entries, HaveKinds, HoldsAreTold, In, In-left, IsControlled, IsStored, Kept, Keyed, LibNo, List, NoFreeInodes, NoFreePages, None, Opened, Option, OutByNumber, Outcome, Outline, Pages, Row, Some, State, Step, Store, Superblock, Write, allot_fault_answer, allots, and_parts, ap, arith, checkpoint_at, count_from, count_up, drop, eqb-true, false, false≢true, filter-In, free_is_low, free_pages, free_unlisted, grants_in, inl, inr, is_among, is_among-In, is_among-not, is_core, is_free_number, is_lent, is_out, is_write, le-leb, le-ltb, length, length-without, lent_met, lib_at, lib_at-others, list_any-In, logged, logged_kept, lt-ltb, map, not-true, page_count, plain, refl, row_of, settled, sheet_numbers, slice_get, slice_get-get_or, slice_index, slice_index_or, state_of, step_kept, subst, suc, superblock_at_home, superblock_fits, survey, sym, tables_of, tabulated-length, take, take-append-drop, true, with_checkpoint, without_pages, write_is, zero, ℕ}
use Rattle.std.proofs.Common.{IsSome}
use Rattle.std.specs.Prelude.{IsTrue, not}
use Rattle.trio_tables.specs.Free.{free_numbers}
use Rattle.trio_allot.specs.Free.{FreeAreHome, RefusesBoth}
use Rattle.trio_state.specs.Step.{Given, NoInodes, NoPages, allot_outcome}
use Rattle.trio_allot.specs.Out.{outs_with, raised_by}

module _ (s : Store) (first : ℕ) (table : List Keyed) (files : List Opened) (creds : List Creds) (entries : Entries) (begun : List (Option Outline)) (k : IsControlled s first table files creds entries begun) where
  abbrev now : State
  now = state_of s first (grants_in files) creds entries.made

  abbrev pages : List (Option (List ℕ))
  pages = s.home.pages

  abbrev rows : List (Option Row)
  rows = s.rows

  abbrev owners : List ℕ
  owners = s.owners

  abbrev outs : OutByNumber
  outs = s.allotments

  kept_now : Kept now
  kept_now = k.stored.kept

  pub owners_long : length owners ≡ length pages
  owners_long = ap length kept_now.verifies.owners ∙ tabulated-length _ (length pages)

  abbrev inodes : ℕ
  inodes = length rows - 1

  pub rows_long : length rows ≡ inodes + 1
  rows_long = ap length kept_now.verifies.rows ∙ tabulated-length (row_of (settled now).core (survey (settled now).core plain)) (inodes + 1)

  -- each page and each number has its place among what is out
  pub pages_placed : length outs.pages ≡ length owners
  pages_placed = kept_now.pages_placed ∙ sym owners_long

  pub numbers_placed : length outs.numbers ≡ length rows
  numbers_placed = kept_now.numbers_placed ∙ sym rows_long

  -- each free page is at home
  pub free_home : FreeAreHome owners outs.pages pages
  free_home p below free = by_page (slice_index_or pages p None) refl
    where
      owner_zero : slice_index owners p ≡ 0
      owner_zero = eqb-true (slice_index owners p) 0 (and_parts (slice_index owners p == 0) (not (is_out outs.pages p)) free).0

      stays : is_out outs.pages p ≡ false
      stays = not-true (is_out outs.pages p) (and_parts (slice_index owners p == 0) (not (is_out outs.pages p)) free).1

      by_page : (o : Option (List ℕ)) → slice_index_or pages p None ≡ o → IsSome o
      by_page (Some bytes) e = refl
      by_page None e =
          let lt : p < length pages = omega (arith, below, owners_long) in
          let low = free_is_low (settled now).core plain kept_now.fit kept_now.verifies.sound (settled now) (tables_of now kept_now) p owner_zero lt in
          let gone : slice_get pages p ≡ Some None = slice_get-get_or pages p None lt ∙ ap Some e in
          let core : is_core (settled now).core.range p ≡ true = rw (le-leb first p low, lt-ltb p (length pages) lt) refl in
          absurd (elim (kept_now.absent p gone core) [
            | inl lent ↦ lent_free lent
            | inr out ↦ false≢true (sym stays ∙ out)
          ])
        where
          lent_free : is_lent now.open_grants p ≡ true → ⊥
          lent_free lent =
              let q = list_any-In (λ g. is_write g.kind && is_among p (sheet_numbers (g.index ++ g.blocks))) now.open_grants lent in
              let parts = and_parts (is_write q.0.kind) (is_among p (sheet_numbers (q.0.index ++ q.0.blocks))) q.2 in
              let kind : q.0.kind ≡ Write = write_is q.0.kind parts.0 in
              let l = kept_now.lent q.0 q.1 kind in
              free_unlisted (settled now).core plain kept_now.fit kept_now.verifies.sound (settled now) (tables_of now kept_now) p owner_zero l.met l.stands
              (lent_met now kept_now q.0 q.1 kind p (is_among-In p (sheet_numbers (q.0.index ++ q.0.blocks)) parts.1))

  -- nothing went out
  pub still : (s' : Store) → s' ≡ record s { home = s'.home; allotments = s'.allotments } → s'.home ≡ s.home → s'.allotments ≡ s.allotments → s' ≡ s
  still s' rest home none =
      rest
      ∙ ap (λ (h : Pages). record s { home = h; allotments = s'.allotments }) home
      ∙ ap (λ (o : OutByNumber). record s { allotments = o }) none

  pub unchanged_controlled : (s' : Store) → s' ≡ s → IsControlled s' first table files creds entries begun
  unchanged_controlled s' same = subst (λ (t : Store). IsControlled t first table files creds entries begun) (sym same) k

  -- one entry more, and nothing else has changed
  pub logged_controlled : (s' : Store) (entries' : Entries) → s' ≡ s → entries' ≡ record entries { made = entries.made + 1 } → IsControlled s' first table files creds entries' begun
  logged_controlled s' entries' same next =
      subst (λ (t : Store). IsControlled t first table files creds entries' begun) (sym same)
      (subst (λ (n : Entries). IsControlled s first table files creds n begun) (sym next) (record {
        stored = record { fits = k.stored.fits; places = k.stored.places; of_grant = k.stored.of_grant; covers = k.stored.covers; kept = logged_kept now kept_now };
        no_zero = k.no_zero;
        some_libraries = k.some_libraries;
        few_libraries = k.few_libraries;
        grants = k.grants;
        keys_once = k.keys_once;
        earlier = λ o i. (let e = k.earlier o i in omega (arith, e));
        placed = k.placed;
        promised = k.promised;
        kinds = k.kinds;
        told = k.told;
      }))

  pub logged_is : (s' : Store) (entries' : Entries) → s' ≡ s → entries' ≡ record entries { made = entries.made + 1 } → state_of s' first (grants_in files) creds entries'.made ≡ logged now
  logged_is s' entries' same next =
      ap (λ (t : Store). state_of t first (grants_in files) creds entries'.made) same
      ∙ ap (λ (n : Entries). state_of s first (grants_in files) creds n.made) next

  module _ (lib : LibNo) (wanted many : ℕ) where
    abbrev ps : List ℕ
    ps = free_pages owners outs.pages

    abbrev ns : List ℕ
    ns = free_numbers rows outs.numbers

    by_outcome : (answer : CtlAnswer) (after : State) (o : Outcome) → allot_outcome now lib.0 wanted many ≡ o → answer ≡ o.answer → after ≡ o.after → Step now (Allot lib.0 wanted many) answer after
    by_outcome answer after o is told then' = inl (told ∙ ap (λ (x : Outcome). x.answer) (sym is), then' ∙ ap (λ (x : Outcome). x.after) (sym is))

    -- ---- too little is free

    no_pages_step : (w f : ℕ) → RefusesBoth wanted many (length ps) (length ns) (NoFreePages w f) → Step now (Allot lib.0 wanted many) (NoPages w f) (logged now)
    no_pages_step w f why =
        let few = lt-ltb (length ps) wanted why.2 in
        by_outcome (NoPages w f) (logged now) (record { answer = NoPages wanted (length ps); after = logged now })
        (rw few refl) (rw (why.0, why.1) refl) refl

    no_inodes_step : (w f : ℕ) → RefusesBoth wanted many (length ps) (length ns) (NoFreeInodes w f) → Step now (Allot lib.0 wanted many) (NoInodes w f) (logged now)
    no_inodes_step w f why =
        let enough = le-ltb (length ps) wanted why.2 in
        let few = lt-ltb (length ns) many why.3 in
        by_outcome (NoInodes w f) (logged now) (record { answer = NoInodes many (length ns); after = logged now })
        (rw (enough, few) refl) (rw (why.0, why.1) refl) refl

    -- all but want of memory makes an entry
    pub refused_step : (fault : AllotFault) → ((w : ℕ) × (f : ℕ) × (fault ≡ NoFreePages w f)) ⊎ ((w : ℕ) × (f : ℕ) × (fault ≡ NoFreeInodes w f)) → RefusesBoth wanted many (length ps) (length ns) fault
        → Step now (Allot lib.0 wanted many) (allot_fault_answer fault) (logged now)
    refused_step fault (inl is) why =
        subst (λ (x : AllotFault). Step now (Allot lib.0 wanted many) (allot_fault_answer x) (logged now)) (sym is.2)
        (no_pages_step is.0 is.1 (subst (RefusesBoth wanted many (length ps) (length ns)) is.2 why))
    refused_step fault (inr is) why =
        subst (λ (x : AllotFault). Step now (Allot lib.0 wanted many) (allot_fault_answer x) (logged now)) (sym is.2)
        (no_inodes_step is.0 is.1 (subst (RefusesBoth wanted many (length ps) (length ns)) is.2 why))

    -- ---- given

    module _ (s' : Store) (entries' : Entries) (enough_pages : wanted ≤ length ps) (enough_numbers : many ≤ length ns)
        (rest : s' ≡ record s { home = s'.home; allotments = s'.allotments })
        (gone : s'.home.pages ≡ without_pages (take wanted ps) pages) (given : s'.allotments ≡ outs_with outs lib (take wanted ps) (take many ns)) (next : entries' ≡ record entries { made = entries.made + 1 }) where
      abbrev after : State
      after = state_of s' first (grants_in files) creds entries'.made

      long : length s'.home.pages ≡ length pages
      long = ap length gone ∙ length-without (take wanted ps) pages

      after_is : after ≡ allots now lib.0 (take wanted ps) (take many ns)
      after_is =
          let S : Store → List (Option (List ℕ)) → ℕ → OutByNumber → ℕ → State = λ (t : Store) ps' e (os : OutByNumber) n. record {
            home = record { core = record { pages = ps'; root = t.root; range = record { first = first; end = e }; inodes = length t.rows - 1 }; rows = t.rows; owners = t.owners };
            open_grants = map (with_checkpoint t.checkpoints.items) (grants_in files);
            pages_out = os.pages;
            numbers_out = os.numbers;
            creds = creds;
            entries = n;
          } in
          let away : List (Option (List ℕ)) = without_pages (take wanted ps) pages in
          ap (λ (t : Store). S t s'.home.pages (length s'.home.pages) s'.allotments entries'.made) rest
          ∙ ap (λ x. S s x (length s'.home.pages) s'.allotments entries'.made) gone
          ∙ ap (λ x. S s away x s'.allotments entries'.made) long
          ∙ ap (λ (x : OutByNumber). S s away (length pages) x entries'.made) given
          ∙ ap (λ (n : Entries). S s away (length pages) (outs_with outs lib (take wanted ps) (take many ns)) n.made) next

      pub given_step : Step now (Allot lib.0 wanted many) (Given (take wanted ps) (take many ns)) after
      given_step =
          let e = le-ltb (length ps) wanted enough_pages in
          let e' = le-ltb (length ns) many enough_numbers in
          by_outcome (Given (take wanted ps) (take many ns)) after (record { answer = Given (take wanted ps) (take many ns); after = allots now lib.0 (take wanted ps) (take many ns) })
          (rw (e, e') refl) refl after_is

      same_superblock : superblock_at_home s' first ≡ superblock_at_home s first
      same_superblock =
          let S : Store → ℕ → Superblock = λ (t : Store) e. record { pages = e; inodes = length t.rows - 1; first_owner = 1 + page_count (32 * (length t.rows - 1)); first_core = first; root = t.root } in
          ap (λ (t : Store). S t (length s'.home.pages)) rest ∙ ap (S s) long

      same_checkpoints : (n : ℕ) → checkpoint_at s'.checkpoints.items n ≡ checkpoint_at s.checkpoints.items n
      same_checkpoints n = ap (λ (t : Store). checkpoint_at t.checkpoints.items n) rest

      given_stored : IsStored s' first (grants_in files) creds entries'.made
      given_stored = record {
        fits = subst (λ (x : Superblock). IsTrue (superblock_fits x)) (sym same_superblock) k.stored.fits;
        places = ap (λ (t : Store). length t.checkpoints.items) rest ∙ k.stored.places ∙ sym (ap (λ (t : Store). length t.rows) rest);
        of_grant = λ n c e. k.stored.of_grant n c (sym (same_checkpoints n) ∙ e);
        covers = λ g i kind. (let q = k.stored.covers g i kind in (q.0, same_checkpoints g.ino ∙ q.1, q.2));
        kept = step_kept now after (Allot lib.0 wanted many) (Given (take wanted ps) (take many ns)) kept_now tt given_step;
      }

      pub given_controlled : IsControlled s' first table files creds entries' begun
      given_controlled = record {
        stored = given_stored;
        no_zero =
            ap (λ (o : OutByNumber). lib_at o.numbers 0) given
            ∙ lib_at-others (Some lib) (take many ns) 0 outs.numbers (is_among-not 0 (take many ns) not_zero)
            ∙ k.no_zero;
        some_libraries = k.some_libraries;
        few_libraries = k.few_libraries;
        grants = k.grants;
        keys_once = k.keys_once;
        earlier = λ o i. (let e = k.earlier o i in let more = ap (λ (n : Entries). n.made) next in omega (arith, e, more));
        placed = k.placed;
        promised = ap (λ (n : Entries). n.promised) next ∙ k.promised;
        kinds = subst (λ (t : Store). HaveKinds t.rows files) (sym rest) k.kinds;
        told = subst (λ (t : Store). HoldsAreTold t.rows (grants_in files)) (sym rest) k.told;
      }
        where
          not_zero : In 0 (take many ns) → ⊥
          not_zero i =
              let all = subst (In 0) (take-append-drop many ns) (In-left 0 (take many ns) (drop many ns) i) in
              let c = filter-In (is_free_number rows outs.numbers) 0 (count_up 1 (length rows - 1)) all in
              let low = (count_from 1 (length rows - 1) 0 c.0).0 in
              omega (arith, low)

-- a count that was raised so often hasn't fallen
pub raised_by_above : (k n : ℕ) → n ≤ raised_by k n
raised_by_above zero n = omega arith
raised_by_above (suc k) n = omega (arith, raised_by_above k n)
