-- A bundle that is rolled back in the store: its end is that of a refusal.
use Rattle.trio_ctl.proofs.Words.{AreOutTo, Bool, Bundle, Checkpointed, Creds, Ends, Image, In, IsStored, IsTrue, LibNo, List, None, OpenGrant, Option, OutByNumber, Row, Some, State, Store, Write, Written, [], all_below, ap, are_new, bundle_pages, checkpoint_at, checkpoint_at-others, checkpoints_of, closed_unparted, false, filter-In, grants_after, grants_staying, guard_in, if◌then◌else◌, is_among, is_in_bundle, is_some, is_written, length, length-with_all, length-with_pages, lent_part, map, map-In, not_among, option_map_or, outs_after, refl, refused_image, settled, settled_body, sheet_numbers, slice_get, state_of, subst, superblock_fits, sym, true, with_all, with_all-read, with_checkpoint, with_pages, within_some, written_covered, written_numbers, ℕ, ◌++◌, ◌+◌, ◌-◌, ◌<◌, ◌∙◌, ◌≡◌}
use Rattle.std.specs.Prelude.{not}
use Rattle.trio_lists.proofs.Members.{flat_map-same}
use Rattle.trio_state.specs.Bundles.{uncovered, uncovered_of}
use Rattle.trio_laws.proofs.PutBack.{refused_away, refused_settles}
use Rattle.trio_laws.proofs.Refusing.{refused_kept}
use Rattle.trio_laws.proofs.Uncovered.{uncovered-lent}
use Rattle.trio_commit.specs.Handed.{body_before, lent_uncovered}
use Rattle.trio_ctl.proofs.StoredFacts.{HandedBundle, Checkpoints, checkpoints_same, covered_all, covered_from, covered_within, handed_within, out_to, sized, stays_unwritten, staying_same, unwritten_from, unwritten_stays}

-- what `roll_back` requires of a store
pub record CanRollBack (s : Store) (lib : LibNo) (b : Bundle) : Type 0 where
  pub allotted : AreOutTo s.allotments lib b
  pub once : IsTrue (are_new [] (written_numbers b))
  pub within : IsTrue (all_below (length s.home.pages) (bundle_pages b))
  pub covered : IsTrue (all_below (length s.home.pages) (sheet_numbers (written_covered s.checkpoints.items b)))

-- what it leaves
pub record RollsBack (s s' : Store) (b : Bundle) : Type 0 where
  pub home : s'.home ≡ record s.home {
    pages = with_pages (lent_uncovered s.checkpoints.items b ++ b.pages) (with_pages (written_covered s.checkpoints.items b) s.home.pages);
  }
  pub checkpoints : s'.checkpoints.items ≡ with_all None (written_numbers b) s.checkpoints.items
  pub allotments : s'.allotments ≡ outs_after s.allotments (sheet_numbers b.pages) b.numbers
  pub root : s'.root ≡ s.root
  pub rows : s'.rows ≡ s.rows
  pub owners : s'.owners ≡ s.owners

-- the bundle has come to the end of a refusal, and the store is kept
pub record RolledBack (s s' : Store) (first_core : ℕ) (grants : List OpenGrant) (creds : List Creds) (entries lib : ℕ) (b : Bundle) : Type 0 where
  pub ends : Ends (state_of s first_core grants creds entries) lib b (refused_image (settled (state_of s first_core grants creds entries)) b) (state_of s' first_core (grants_staying lib b grants) creds (entries + 1))
  pub stored : IsStored s' first_core (grants_staying lib b grants) creds (entries + 1)

module _ (e : HandedBundle) where
  abbrev s : Store
  s = e.store

  abbrev b : Bundle
  b = e.bundle

  abbrev now : State
  now = state_of e.store e.first_core e.grants e.creds e.entries

  abbrev cs : Checkpoints
  cs = e.store.checkpoints.items

  -- each bundle that was given can be rolled back
  pub can_roll_back : CanRollBack e.store e.lib e.bundle
  can_roll_back = record {
    allotted = out_to s e.first_core e.grants e.creds e.entries e.stored e.lib b e.given;
    once = e.given.writes_once;
    within = handed_within s e.first_core e.grants e.creds e.entries e.stored e.lib b e.given;
    covered = covered_within s e.first_core e.grants e.creds e.entries e.stored e.lib b e.given;
  }

  -- the checkpoint of a written file has the settled body
  before : (w : Written) → In w e.bundle.writes → body_before e.store.checkpoints.items w ≡ settled_body (settled now) w.ino
  before w i =
      let v = e.given.writes w i in
      let g = map-In (with_checkpoint cs) v.grant e.grants v.is_open in
      let kind : g.0.kind ≡ Write = ap (λ (x : OpenGrant). x.kind) (sym g.2) ∙ v.kind in
      let ino : g.0.ino ≡ w.ino = ap (λ (x : OpenGrant). x.ino) (sym g.2) ∙ v.ino in
      let c = e.stored.covers g.0 g.1 kind in
      ap (λ o. option_map_or (λ (c : Checkpointed). c.body) o w.body) (ap (checkpoint_at cs) (sym ino) ∙ c.1)
      ∙ c.2.body
      ∙ ap (λ (x : OpenGrant). x.body) (sym g.2)
      ∙ e.stored.kept.bodies v.grant v.is_open
      ∙ ap (settled_body (settled now)) v.ino

  -- so what no checkpoint covers is the same by the checkpoints' bodies as by the settled ones
  uncovered_same : uncovered (settled now) b ≡ lent_uncovered cs b
  uncovered_same =
      uncovered-lent now e.stored.kept e.lib.0 b e.given
      ∙ flat_map-same (λ (w : Written). uncovered_of w.kind (guard_in (settled_body (settled now) w.ino)) w.blocks) (λ (w : Written). uncovered_of w.kind (guard_in (body_before cs w)) w.blocks) b.writes
      (λ w i. ap (λ body. uncovered_of w.kind (guard_in body) w.blocks) (sym (before w i)))

  module _ (s' : Store) (is : RollsBack e.store s' e.bundle) where
    abbrev after : State
    after = state_of s' e.first_core (grants_staying e.lib.0 e.bundle e.grants) e.creds (e.entries + 1)

    -- the checkpoint of a grant that stays is as it was
    stays_at : (g : OpenGrant) → In g (grants_staying e.lib.0 b e.grants) → checkpoint_at s'.checkpoints.items g.ino ≡ checkpoint_at cs g.ino
    stays_at g i =
        ap (λ xs. checkpoint_at xs g.ino) is.checkpoints
        ∙ checkpoint_at-others (written_numbers b) g.ino cs
        (not_among g.ino (written_numbers b)
        (λ j.
        let w = map-In (λ (w : Written). w.ino) g.ino b.writes j in
        stays_unwritten s e.first_core e.grants e.creds e.entries e.stored e.lib b e.given g i w.0 w.1 (sym w.2)))

    grants_same : after.open_grants ≡ grants_after now e.lib.0 b
    grants_same =
        checkpoints_same cs s'.checkpoints.items (grants_staying e.lib.0 b e.grants) (λ g i w. stays_at g i)
        ∙ staying_same s e.first_core e.grants e.creds e.entries e.stored e.lib b e.given

    pages_are : s'.home.pages ≡ with_pages (uncovered (settled now) b ++ b.pages) (with_pages (written_covered cs b) s.home.pages)
    pages_are =
        ap (λ h. h.pages) is.home
        ∙ ap (λ xs. with_pages (xs ++ b.pages) (with_pages (written_covered cs b) s.home.pages)) (sym uncovered_same)

    count : length s'.home.pages ≡ length s.home.pages
    count = ap length pages_are ∙ length-with_pages (uncovered (settled now) b ++ b.pages) (with_pages (written_covered cs b) s.home.pages) ∙ length-with_pages (written_covered cs b) s.home.pages

    settles : settled after ≡ refused_image (settled now) b
    settles =
        let J : List (Option (List ℕ)) → List ℕ → ℕ → List (Option Row) → List ℕ → Image =
        λ pages root end rows owners. record { core = record { pages = pages; root = root; range = record { first = e.first_core; end = end }; inodes = length rows - 1 }; rows = rows; owners = owners } in
        let pages : with_pages (checkpoints_of after.open_grants) s'.home.pages ≡ (refused_image (settled now) b).core.pages =
        ap (λ gs. with_pages (checkpoints_of gs) s'.home.pages) grants_same
        ∙ ap (with_pages (checkpoints_of (grants_after now e.lib.0 b))) pages_are
        ∙ refused_settles now e.stored.kept e.lib.0 b e.given (written_covered cs b) (covered_from s e.first_core e.grants e.creds e.entries e.stored e.lib b e.given) (covered_all s e.first_core e.grants e.creds e.entries e.stored e.lib b e.given) in
        ap (λ ps. J ps s'.root (length s'.home.pages) s'.rows s'.owners) pages
        ∙ ap (λ x. J (refused_image (settled now) b).core.pages x (length s'.home.pages) s'.rows s'.owners) is.root
        ∙ ap (λ x. J (refused_image (settled now) b).core.pages s.root x s'.rows s'.owners) count
        ∙ ap (λ x. J (refused_image (settled now) b).core.pages s.root (length s.home.pages) x s'.owners) is.rows
        ∙ ap (J (refused_image (settled now) b).core.pages s.root (length s.home.pages) s.rows) is.owners

    ends : Ends now e.lib.0 b (refused_image (settled now) b) after
    ends = record {
      settles = settles;
      grants = ap (map lent_part) grants_same;
      pages = ap (λ (o : OutByNumber). o.pages) is.allotments;
      numbers = ap (λ (o : OutByNumber). o.numbers) is.allotments;
      creds = refl;
      entries = refl;
      away = λ p gone other.
          ap (λ ps. slice_get ps p) pages_are
          ∙ refused_away now e.stored.kept e.lib.0 b e.given (written_covered cs b) (covered_from s e.first_core e.grants e.creds e.entries e.stored e.lib b e.given) (covered_all s e.first_core e.grants e.creds e.entries e.stored e.lib b e.given) p gone other;
    }

    -- a checkpoint that is left is that of an unwritten file, as it was
    left : (n : ℕ) (c : Checkpointed) → checkpoint_at s'.checkpoints.items n ≡ Some c → (checkpoint_at cs n ≡ Some c) × (is_written b n ≡ false)
    left n c at = by (is_among n (written_numbers b)) refl
      where
        here : checkpoint_at (with_all None (written_numbers b) cs) n ≡ Some c
        here = ap (λ xs. checkpoint_at xs n) (sym is.checkpoints) ∙ at

        below : n < length cs
        below = subst (λ m. n < m) (length-with_all None (written_numbers b) cs) (within_some (with_all None (written_numbers b) cs) n (ap is_some here))

        by : (t : Bool) → is_among n (written_numbers b) ≡ t → (checkpoint_at cs n ≡ Some c) × (is_written b n ≡ false)
        by true t =
            let none : None ≡ Some c = sym (with_all-read None None (written_numbers b) n cs below ∙ ap (λ (x : Bool). if x then None else checkpoint_at cs n) t) ∙ here in
            absurd (cc none)
        by false t = (sym (checkpoint_at-others (written_numbers b) n cs t) ∙ here, unwritten_from b n t)

    pub rolled_back : RolledBack e.store s' e.first_core e.grants e.creds e.entries e.lib.0 e.bundle
    rolled_back = record {
      ends = ends;
      stored = record {
        fits =
            subst (λ n. IsTrue (superblock_fits (sized e.first_core n (length s'.rows)))) (sym count)
            (subst (λ n. IsTrue (superblock_fits (sized e.first_core (length s.home.pages) n))) (ap length (sym is.rows)) e.stored.fits);
        places = ap length is.checkpoints ∙ length-with_all None (written_numbers b) cs ∙ e.stored.places ∙ ap length (sym is.rows);
        of_grant = λ n c at.
            let l = left n c at in
            let g = e.stored.of_grant n c l.0 in
            (g.0, unwritten_stays s e.first_core e.grants e.creds e.entries e.stored e.lib b e.given g.0 g.1 g.2 (ap (is_written b) g.3 ∙ l.1), g.2, g.3);
        covers = λ g i w.
            let c = e.stored.covers g (filter-In (λ g. not (is_in_bundle e.lib.0 b g)) g e.grants i).0 w in
            (c.0, stays_at g i ∙ c.1, c.2);
        kept = refused_kept now after e.stored.kept e.lib.0 b e.given (closed_unparted now e.lib.0 b e.closed) ends;
      };
    }
