-- What follows of a store, its open grants, and a bundle that was given to its library.
use Rattle.trio_ctl.proofs.Words.{AreOutTo, Bool, Bundle, Checkpointed, Core, Creds, GivenTo, GrantKind, In, In-cases, In-filter, In-flat, In-is_among, In-map, IsStored, IsTrue, LibNo, List, None, OpenGrant, Option, Sheet, State, Store, Superblock, Unwritten, Write, Written, [], all_below, and_from, and_parts, ap, arith, both_ways, bundle_pages, bundle_sheets, cases_Bool, checkpoint_at, covered_at, covered_pages, eq-eqb, eqb-true, false, filter-In, filter-map, find, find-In, flat_map, flat_map-In, grants_after, grants_staying, guard_in, if◌then◌else◌, in_numbers, inl, inr, is_among, is_core, is_hold, is_in_bundle, is_some, is_write, is_written, leb, length, lent_met, listed_is_core, ltb, ltb-true, map, map-In, map-append, not-true, option_map_or, page_count, parted_hold, refl, settled, sheet_numbers, some_of, state_of, subst, sym, true, with_checkpoint, within_some, written_covered, written_numbers, ℕ, ◌&&◌, ◌*◌, ◌++◌, ◌+◌, ◌-◌, ◌<◌, ◌==◌, ◌||◌, ◌∙◌, ◌∷◌, ◌≡◌}
use Rattle.std.specs.Prelude.{not}
use Rattle.std.proofs.lemmas.Bool.{or_left}
use Rattle.trio_laws.proofs.Bundles.{outside_unwritten, written_from}
use Rattle.trio_laws.proofs.Ended.{bundle_write}
use Rattle.trio_laws.proofs.StateFacts.{covered_write}
use Rattle.trio_commit.proofs.Cells.{below_from}

-- A bundle that was given to its library and is closed, in a state that is kept in a store.
pub record HandedBundle : Type 0 where
  pub store : Store
  pub first_core : ℕ
  pub grants : List OpenGrant
  pub creds : List Creds
  pub entries : ℕ
  pub lib : LibNo
  pub bundle : Bundle
  pub stored : IsStored store first_core grants creds entries
  pub given : GivenTo (state_of store first_core grants creds entries) lib.0 bundle
  pub closed : parted_hold (state_of store first_core grants creds entries) lib.0 bundle ≡ None

abbrev pub Checkpoints : Type 0
Checkpoints = List (Option Checkpointed)

-- the sizes of a superblock, whose root doesn't count
abbrev pub sized : ℕ → ℕ → ℕ → Superblock
sized first_core pages rows = record { pages = pages; inodes = rows - 1; first_owner = 1 + page_count (32 * (rows - 1)); first_core = first_core; root = [] }

pub unwritten_from : (b : Bundle) (n : ℕ) → is_among n (written_numbers b) ≡ false → is_written b n ≡ false
unwritten_from b n e =
    elim (cases_Bool (is_written b n)) [
      | inr un ↦ un
      | inl written ↦
          let w = some_of (find (λ (w : Written). w.ino == n) b.writes) written in
          let q = find-In (λ (w : Written). w.ino == n) b.writes w.0 w.1 in
          let i : In n (written_numbers b) = subst (λ m. In m (written_numbers b)) (eqb-true w.0.ino n q.1) (In-map (λ (z : Written). z.ino) w.0 b.writes q.0) in
          absurd (both_ways (is_among n (written_numbers b)) e (In-is_among n (written_numbers b) i))
    ]

write_checkpoint : (cs : Checkpoints) (h : OpenGrant) (kind : GrantKind) → kind ≡ Write → (if is_write kind then covered_at cs h.ino else []) ≡ covered_at cs h.ino
write_checkpoint cs h kind e = ap (λ t. if is_write t then covered_at cs h.ino else []) e

checkpoint_same : (cs now : Checkpoints) (g : OpenGrant) (b : Bool) → is_write g.kind ≡ b → (b ≡ true → checkpoint_at now g.ino ≡ checkpoint_at cs g.ino) → with_checkpoint now g ≡ with_checkpoint cs g
checkpoint_same cs now g true e h =
    ap (λ o. record g { checkpoint = if is_write g.kind then option_map_or covered_pages o [] else [] }) (h refl)
checkpoint_same cs now g false e h =
    ap (λ (t : Bool). record g { checkpoint = if t then covered_at now g.ino else [] }) e
    ∙ sym (ap (λ (t : Bool). record g { checkpoint = if t then covered_at cs g.ino else [] }) e)

-- the same checkpoints of some grants
pub checkpoints_same : (cs now : Checkpoints) (grants : List OpenGrant) → ((g : OpenGrant) → In g grants → is_write g.kind ≡ true → checkpoint_at now g.ino ≡ checkpoint_at cs g.ino) → map (with_checkpoint now) grants ≡ map (with_checkpoint cs) grants
checkpoints_same cs now [] h = refl
checkpoints_same cs now (g ∷ grants) h =
    ap (λ x. x ∷ map (with_checkpoint now) grants) (checkpoint_same cs now g (is_write g.kind) refl (h g (inl refl)))
    ∙ ap (λ l. with_checkpoint cs g ∷ l) (checkpoints_same cs now grants (λ x i. h x (inr i)))

module _ (s : Store) (first_core : ℕ) (grants : List OpenGrant) (creds : List Creds) (entries : ℕ) (k : IsStored s first_core grants creds entries) where
  abbrev now : State
  now = state_of s first_core grants creds entries

  abbrev cs : Checkpoints
  cs = s.checkpoints.items

  pub open_grant : (h : OpenGrant) → In h grants → In (with_checkpoint cs h) now.open_grants
  open_grant h i = In-map (with_checkpoint cs) h grants i

  -- the checkpoint of an open write grant is the store's
  pub covered_here : (g : OpenGrant) → In g now.open_grants → g.kind ≡ Write → g.checkpoint ≡ covered_at cs g.ino
  covered_here g i kind =
      let r = map-In (with_checkpoint cs) g grants i in
      let h : OpenGrant = r.0 in
      let same : h.kind ≡ Write = ap (λ (x : OpenGrant). x.kind) (sym r.2) ∙ kind in
      ap (λ (x : OpenGrant). x.checkpoint) r.2 ∙ write_checkpoint cs h h.kind same ∙ ap (λ (x : OpenGrant). covered_at cs x.ino) (sym r.2)

  -- a page that is lent has its place
  pub lent_within : (g : OpenGrant) (p : ℕ) → In g now.open_grants → g.kind ≡ Write → In p (sheet_numbers (g.index ++ g.blocks)) → p < length s.home.pages
  lent_within g p i w a =
      let core : Core = (settled now).core in
      let l = k.kept.lent g i w in
      let c : is_core core.range p ≡ true = listed_is_core core l.met l.file p l.read (lent_met now k.kept g i w p a) in
      ltb-true p (length s.home.pages) (and_parts (leb first_core p) (ltb p (length s.home.pages)) c).1

  module _ (lib : LibNo) (b : Bundle) (given : GivenTo now lib.0 b) where
    -- what the bundle has by allotment is out to its library
    pub out_to : AreOutTo s.allotments lib b
    out_to = record { pages = given.pages; numbers = given.numbers }

    allotted_within : (n : ℕ) → In n (sheet_numbers b.pages) → n < length s.home.pages
    allotted_within n i =
        let below : n < length s.allotments.pages = within_some s.allotments.pages n (ap is_some (given.pages n i)) in
        let placed = k.kept.pages_placed in
        omega (arith, below, placed)

    sheet_within : (x : Sheet) → In x (bundle_sheets b) → x.page < length s.home.pages
    sheet_within x i =
        elim (In-cases x (flat_map (λ (w : Written). w.index ++ w.blocks) b.writes) b.pages i) [
          | inl j ↦
              let r = flat_map-In (λ (w : Written). w.index ++ w.blocks) x b.writes j in
              let w : Written = r.0 in
              let y = given.writes w r.1 in
              let same : sheet_numbers (w.index ++ w.blocks) ≡ sheet_numbers (y.grant.index ++ y.grant.blocks) =
              map-append (λ (z : Sheet). z.page) w.index w.blocks
              ∙ ap (λ l. l ++ sheet_numbers w.blocks) y.index
              ∙ ap (λ l. sheet_numbers y.grant.index ++ l) y.blocks
              ∙ sym (map-append (λ (z : Sheet). z.page) y.grant.index y.grant.blocks) in
              lent_within y.grant x.page y.is_open y.kind (subst (λ l. In x.page l) same (in_numbers (w.index ++ w.blocks) x x.page r.2 refl))
          | inr j ↦ allotted_within x.page (in_numbers b.pages x x.page j refl)
        ]

    -- the pages of the bundle have their places
    pub page_within : (p : ℕ) → In p (bundle_pages b) → p < length s.home.pages
    page_within p i =
        let r = map-In (λ (x : Sheet). x.page) p (bundle_sheets b) i in
        subst (λ n. n < length s.home.pages) (sym r.2) (sheet_within r.0 r.1)

    pub handed_within : IsTrue (all_below (length s.home.pages) (bundle_pages b))
    handed_within = below_from (length s.home.pages) (bundle_pages b) page_within

    -- what the checkpoints of the written files cover is that of the bundle's grants
    pub covered_from : (x : Sheet) → In x (written_covered cs b) → (g : OpenGrant) × In g now.open_grants × IsTrue (is_in_bundle lib.0 b g) × In x g.checkpoint
    covered_from x i =
        let r = flat_map-In (covered_at cs) x (written_numbers b) i in
        let q = map-In (λ (w : Written). w.ino) r.0 b.writes r.1 in
        let y = given.writes q.0 q.1 in
        let ino : y.grant.ino ≡ r.0 = y.ino ∙ sym q.2 in
        let own : is_in_bundle lib.0 b y.grant ≡ true =
        ap (λ (n : ℕ). is_in_bundle n b y.grant) (sym y.lib)
        ∙ write_own y.grant y.kind (ap (is_written b) ino ∙ written_from b r.0 r.1) in
        (y.grant, y.is_open, own, subst (λ (l : List Sheet). In x l) (ap (covered_at cs) (sym ino) ∙ sym (covered_here y.grant y.is_open y.kind)) r.2)
      where
        write_own : (g : OpenGrant) → g.kind ≡ Write → is_written b g.ino ≡ true → is_in_bundle g.lib b g ≡ true
        write_own g kind t =
            and_from (g.lib == g.lib) ((is_write g.kind && is_written b g.ino) || (is_hold g.kind && is_among g.ino b.holds)) (eq-eqb g.lib g.lib refl)
            (or_left (is_write g.kind && is_written b g.ino) (is_hold g.kind && is_among g.ino b.holds) (and_from (is_write g.kind) (is_written b g.ino) (ap is_write kind) t))

    pub covered_all : (g : OpenGrant) (x : Sheet) → In g now.open_grants → IsTrue (is_in_bundle lib.0 b g) → In x g.checkpoint → In x (written_covered cs b)
    covered_all g x i own a =
        let c = covered_write g.kind g.of (guard_in g.body) g.index g.blocks x.page (subst (λ l. In x.page l) (k.kept.checkpoints g i) (in_numbers g.checkpoint x x.page a refl)) in
        let w = bundle_write now k.kept lib.0 b given g i c.0 own in
        let y = given.writes w.0 w.1 in
        let ino : g.ino ≡ w.0.ino = ap (λ (z : OpenGrant). z.ino) (sym w.2) ∙ y.ino in
        let n : In g.ino (written_numbers b) = subst (λ m. In m (written_numbers b)) (sym ino) (In-map (λ (z : Written). z.ino) w.0 b.writes w.1) in
        In-flat (covered_at cs) g.ino x (written_numbers b) n (subst (λ (l : List Sheet). In x l) (covered_here g i c.0) a)

    -- and has its places
    pub covered_within : IsTrue (all_below (length s.home.pages) (sheet_numbers (written_covered cs b)))
    covered_within =
        below_from (length s.home.pages) (sheet_numbers (written_covered cs b))
        (λ p i.
        let r = map-In (λ (x : Sheet). x.page) p (written_covered cs b) i in
        let g = covered_from r.0 r.1 in
        let c = covered_write g.0.kind g.0.of (guard_in g.0.body) g.0.index g.0.blocks p (subst (λ l. In p l) (k.kept.checkpoints g.0 g.1) (in_numbers g.0.checkpoint r.0 p g.3 r.2)) in
        lent_within g.0 p g.1 c.0 c.1)

    -- a grant that stays isn't on a written file
    pub stays_unwritten : (g : OpenGrant) → In g (grants_staying lib.0 b grants) → Unwritten b g.ino
    stays_unwritten g i =
        let f = filter-In (λ g. not (is_in_bundle lib.0 b g)) g grants i in
        outside_unwritten now k.kept lib.0 b given (with_checkpoint cs g) (open_grant g f.0) (not-true (is_in_bundle lib.0 b g) f.1)

    -- the grants that stay, by the state and by what is kept of them
    pub staying_same : map (with_checkpoint cs) (grants_staying lib.0 b grants) ≡ grants_after now lib.0 b
    staying_same = sym (filter-map (with_checkpoint cs) (λ g. not (is_in_bundle lib.0 b g)) grants)

    -- a write grant on an unwritten file stays
    pub unwritten_stays : (g : OpenGrant) → In g grants → g.kind ≡ Write → is_written b g.ino ≡ false → In g (grants_staying lib.0 b grants)
    unwritten_stays g i kind un =
        In-filter (λ g. not (is_in_bundle lib.0 b g)) g grants i
        (elim (cases_Bool (is_in_bundle lib.0 b g)) [
          | inr out ↦ ap not out
          | inl own ↦
              let w = bundle_write now k.kept lib.0 b given (with_checkpoint cs g) (open_grant g i) kind own in
              let ino : w.0.ino ≡ g.ino = sym (given.writes w.0 w.1).ino ∙ ap (λ (z : OpenGrant). z.ino) w.2 in
              absurd (both_ways (is_written b g.ino) un (written_from b g.ino (subst (λ n. In n (written_numbers b)) ino (In-map (λ (z : Written). z.ino) w.0 b.writes w.1))))
        ])
