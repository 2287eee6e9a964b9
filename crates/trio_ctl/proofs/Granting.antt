-- A write grant of the controller is the step that the definitions say.
use Rattle.trio_ctl.proofs.Words.{AllBelow, Bool, Busy, Chain, Checkpointed, Core, CoreRange, CoversLent, Creds, Denied, Entries, Grant, GrantFault, GrantKind, Granted, HaveKinds, Hold, Holder, HoldsAreTold, In, In-cases, In-find, In-flat, In-left, In-map, In-right, IsControlled, IsLendable, IsSomeAnd, IsStored, Kept, Keyed, LibNo, List, NoParent, None, NotGranted, NotLive, OnErr, OpenGrant, Opened, Option, Outcome, Outline, Read, Row, Sheet, Some, State, Step, Store, Superblock, TableGrant, Write, [], and_from, ap, are_new, arith, begun_among, block_sheets, body_by_row, body_in_slot, body_of, body_stands, chain_in, chain_of, checkpoint_at, checkpoint_settled, core_of, covered_at, covered_pages, covers_blocks, creds_of, denial, denied_or, eq-eqb, eqb-true, excludes_kind, excluding, false, false≢true, filter, find, find-In, first_with, get_or, get_or-set_other, get_or-set_same, grant_fault, grant_fault_answer, grant_on, grant_under, granted_to, grants_in, guard_in, has_parent_grant, holder, holder_of, if◌then◌else◌, index_sheets, inl, inr, is_among, is_core, is_read, is_some, is_write, keyed, lease_of, lendable_is_home, length, length-set, length-without, lib_at, list_all-each, list_any, logged, logged_kept, map, map-In, map-append, not, opened, opens, option_and_then, option_map, option_map_or, page_at, page_count, page_from, page_of, reads_among, refl, result_then, result_then-Ok, row_at, row_in, settled, settled_body, settled_chain, sheet_numbers, sheets_all, sheets_of, slice_set, state_of, step_kept, subst, suc, superblock_at_home, superblock_fits, sym, there_or, true, with_checkpoint, with_core_pages, without_checkpoint, without_pages, write_is, zero, ℕ, ◌&&◌, ◌*◌, ◌++◌, ◌+◌, ◌-◌, ◌<◌, ◌||◌, ◌∙◌, ◌∷◌, ◌≡◌, ◌≢◌, ◌⊎◌}
use Rattle.std.proofs.Common.{slice_get}
use Rattle.std.specs.Prelude.{◌==◌, Ok, Err, Result, IsTrue}
use Rattle.std.proofs.lemmas.List.Elements.{All-cons}
use Rattle.trio_rights.specs.May.{denier}
use Rattle.trio_rights.specs.declared.rights.Need.TheVariants.{Read as ToRead, Write as ToWrite}
use Rattle.trio_nodes.specs.declared.answers.GrantFault.TheVariants.{NoMemory}
use Rattle.trio_grants.specs.Grants.{excludes, is_grant}
use Rattle.trio_layout.specs.Core.{nowhere}
use Rattle.trio_lists.proofs.Marked.{are_new-push}
use Rattle.trio_state.specs.Grants.{lent_pages, lent_sheets, told_children}
use Rattle.trio_nodes.specs.GrantKinds.{same_kind}
use Rattle.trio_layout.specs.Pages.{covered_of}
use Rattle.trio_state.specs.State.{covered}
use Rattle.trio_laws.proofs.Standing.{lent_place}
use Rattle.trio_surveys.proofs.Local.{chain_follows}
use Rattle.trio_ctl.specs.Answers.{Admits}
use Rattle.trio_ctl.specs.inner.Lending.{StandsSomewhere, body_standing, page_on, page_standing}
use Rattle.trio_ctl.proofs.Told.{parent_told, told_more}
use Rattle.trio_open.proofs.LendLemmas.{same_chain, sheets_same}
use Rattle.trio_ctl.proofs.StoredFacts.{Checkpoints, checkpoints_same}

-- ---- who excludes

first_excluding : (cs : Checkpoints) (lib : LibNo) (ino : ℕ) (kind : GrantKind) (files : List Opened)
    → option_map holder (first_with (excludes lib ino kind) (map keyed files)) ≡ option_map holder_of (slice_get (filter (λ (g : OpenGrant). g.ino == ino && excludes_kind kind g.kind (g.lib == lib.0)) (map (with_checkpoint cs) (grants_in files))) 0)
first_excluding cs lib ino kind [] = refl
first_excluding cs lib ino kind (o ∷ os) =
    by (o.grant.ino == ino && excludes_kind kind o.grant.kind (o.grant.lib == lib.0)) (first_with (excludes lib ino kind) (map keyed os)) (filter (λ (g : OpenGrant). g.ino == ino && excludes_kind kind g.kind (g.lib == lib.0)) (map (with_checkpoint cs) (grants_in os)))
    (first_excluding cs lib ino kind os)
  where
    by : (b : Bool) (x : Option TableGrant) (ys : List OpenGrant) → option_map holder x ≡ option_map holder_of (slice_get ys 0) → option_map holder (if b then Some (keyed o).1 else x) ≡ option_map holder_of (slice_get (if b then with_checkpoint cs o.grant ∷ ys else ys) 0)
    by true x ys e = refl
    by false x ys e = e

map_busy : (o : Option OpenGrant) (who : Holder) → option_map holder_of o ≡ Some who → option_map (λ g. Busy (holder_of g)) o ≡ Some (Busy who)
map_busy None who e = absurd cc
map_busy (Some g) who e = ap (option_map Busy) e

map_none : (o : Option OpenGrant) → option_map holder_of o ≡ None → o ≡ None
map_none None e = refl
map_none (Some g) e = absurd cc

no_holder : (o : Option TableGrant) → o ≡ None → option_map holder o ≡ None
no_holder o e = ap (option_map holder) e

-- a write grant excludes each kind
excludes_beside : (kind other : GrantKind) (own : Bool) → other ≡ Write → excludes_kind kind other own ≡ true
excludes_beside Read other own e = ap (λ (k : GrantKind). excludes_kind Read k own) e
excludes_beside Write other own e = refl
excludes_beside Hold other own e = refl

-- where no grant excludes one, no write grant is on the file
not_written : (lib : LibNo) (ino : ℕ) (kind : GrantKind) (files : List Opened) → first_with (excludes lib ino kind) (map keyed files) ≡ None → (o : Opened) → In o files → o.grant.kind ≡ Write → o.grant.ino ≢ ino
not_written lib ino kind [] none o i write = absurd i
not_written lib ino kind (f ∷ fs) none o i write =
    by (λ later j. not_written lib ino kind fs later o j write) (f.grant.ino == ino && excludes_kind kind f.grant.kind (f.grant.lib == lib.0)) refl none i
  where
    by : (first_with (excludes lib ino kind) (map keyed fs) ≡ None → In o fs → o.grant.ino ≢ ino) → (b : Bool) → (f.grant.ino == ino && excludes_kind kind f.grant.kind (f.grant.lib == lib.0)) ≡ b → (if b then Some (keyed f).1 else first_with (excludes lib ino kind) (map keyed fs)) ≡ None → In o (f ∷ fs) → o.grant.ino ≢ ino
    by again true test none i = absurd cc
    by again false test none (inl here) = λ e.
        let number = eq-eqb f.grant.ino ino (ap (λ (x : Opened). x.grant.ino) (sym here) ∙ e) in
        let excluded = excludes_beside kind f.grant.kind (f.grant.lib == lib.0) (ap (λ (x : Opened). x.grant.kind) (sym here) ∙ write) in
        false≢true (sym test ∙ and_from (f.grant.ino == ino) (excludes_kind kind f.grant.kind (f.grant.lib == lib.0)) number excluded)
    by again false test none (inr later) = again none later

-- ---- why a grant is refused

none_denies : (o : Option ℕ) → option_map Denied o ≡ None → o ≡ None
none_denies None e = refl
none_denies (Some n) e = absurd cc

abbrev unless_parent : Bool → Option GrantFault
unless_parent b = if b then None else Some NoParent

has_parent : (b : Bool) → unless_parent b ≡ None → b ≡ true
has_parent true e = refl
has_parent false e = absurd cc

abbrev busy_by : State → ℕ → ℕ → GrantKind → Option GrantFault
busy_by s lib ino kind = option_map (λ g. Busy (holder_of g)) (slice_get (excluding s lib ino kind) 0)

fault_is : (s : State) (lib ino : ℕ) (kind : GrantKind) (r : Row) → row_at s.home ino ≡ Some r → denial s lib ino kind ≡ None
    → grant_fault s lib ino kind ≡ option_map (λ g. Busy (holder_of g)) (slice_get (excluding s lib ino kind) 0)
fault_is s lib ino kind r row may = by kind may
  where
    live : (rest : Option GrantFault) → (if not (is_some (row_at s.home ino)) then Some NotLive else rest) ≡ rest
    live rest = ap (λ (o : Option Row). if not (is_some o) then Some NotLive else rest) row

    by : (kind : GrantKind) → denial s lib ino kind ≡ None → grant_fault s lib ino kind ≡ busy_by s lib ino kind
    by Read may =
        live (denied_or (denier s.home.rows (creds_of s lib) ino ToRead) (busy_by s lib ino Read))
        ∙ ap (λ d. denied_or d (busy_by s lib ino Read)) (none_denies (denier s.home.rows (creds_of s lib) ino ToRead) may)
    by Write may =
        live (denied_or (denier s.home.rows (creds_of s lib) ino ToWrite) (busy_by s lib ino Write))
        ∙ ap (λ d. denied_or d (busy_by s lib ino Write)) (none_denies (denier s.home.rows (creds_of s lib) ino ToWrite) may)
    by Hold may =
        let parent : Bool = has_parent_grant s lib (row_at s.home ino) in
        live (if not parent then Some NoParent else busy_by s lib ino Hold)
        ∙ ap (λ (b : Bool). if not b then Some NoParent else busy_by s lib ino Hold) (has_parent parent may)

-- a denial is that of a number, or of a hold without its parent's grant; it is the fault of the grant
denied_is : (s : State) (lib ino : ℕ) (kind : GrantKind) (r : Row) (fault : GrantFault) → row_at s.home ino ≡ Some r → denial s lib ino kind ≡ Some fault
    → (grant_fault s lib ino kind ≡ Some fault) × (((n : ℕ) × (fault ≡ Denied n)) ⊎ (fault ≡ NoParent))
denied_is s lib ino kind r fault row denies = by kind denies
  where
    live : (rest : Option GrantFault) → (if not (is_some (row_at s.home ino)) then Some NotLive else rest) ≡ rest
    live rest = ap (λ (o : Option Row). if not (is_some o) then Some NotLive else rest) row

    of_number : (o : Option ℕ) (other : Option GrantFault) → option_map Denied o ≡ Some fault → (denied_or o other ≡ Some fault) × (((n : ℕ) × (fault ≡ Denied n)) ⊎ (fault ≡ NoParent))
    of_number None other e = absurd cc
    of_number (Some n) other e = (e, inl (n, (let same : Some (Denied n) ≡ Some fault = e in sym (cc same))))

    of_parent : (b : Bool) (other : Option GrantFault) → unless_parent b ≡ Some fault → ((if not b then Some NoParent else other) ≡ Some fault) × (((n : ℕ) × (fault ≡ Denied n)) ⊎ (fault ≡ NoParent))
    of_parent true other e = absurd cc
    of_parent false other e = (e, inr (let same : Some NoParent ≡ Some fault = e in sym (cc same)))

    by : (kind : GrantKind) → denial s lib ino kind ≡ Some fault → (grant_fault s lib ino kind ≡ Some fault) × (((n : ℕ) × (fault ≡ Denied n)) ⊎ (fault ≡ NoParent))
    by Read e = (let q = of_number (denier s.home.rows (creds_of s lib) ino ToRead) (busy_by s lib ino Read) e in (live (denied_or (denier s.home.rows (creds_of s lib) ino ToRead) (busy_by s lib ino Read)) ∙ q.0, q.1))
    by Write e = (let q = of_number (denier s.home.rows (creds_of s lib) ino ToWrite) (busy_by s lib ino Write) e in (live (denied_or (denier s.home.rows (creds_of s lib) ino ToWrite) (busy_by s lib ino Write)) ∙ q.0, q.1))
    by Hold e =
        let other : Option GrantFault = busy_by s lib ino Hold in
        let parent : Bool = has_parent_grant s lib (row_at s.home ino) in
        let q = of_parent parent other e in
        (live (if not parent then Some NoParent else other) ∙ q.0, q.1)

-- a denial that is logged, or for which there is no memory, is a step
pub denied_step : (s : State) (lib ino : ℕ) (kind : GrantKind) (r : Row) (fault told : GrantFault) (s' : State) → row_at s.home ino ≡ Some r → denial s lib ino kind ≡ Some fault
    → ((told ≡ fault) × (s' ≡ logged s)) ⊎ ((told ≡ NoMemory) × (s' ≡ s)) → Step s (Grant lib ino kind) (grant_fault_answer told) s'
denied_step s lib ino kind r fault told s' row denies (inr none) = inr (refl, ap grant_fault_answer none.0, none.1)
denied_step s lib ino kind r fault told s' row denies (inl logs) =
    let q = denied_is s lib ino kind r fault row denies in
    elim q.1 [
      | inl n ↦
          let f : grant_fault s lib ino kind ≡ Some (Denied n.0) = q.0 ∙ ap Some n.1 in
          let o = ap (λ x. granted_to s lib ino kind x (row_at s.home ino)) f in
          inl (ap grant_fault_answer (logs.0 ∙ n.1) ∙ ap (λ (x : Outcome). x.answer) (sym o), logs.1 ∙ ap (λ (x : Outcome). x.after) (sym o))
      | inr p ↦
          let f : grant_fault s lib ino kind ≡ Some NoParent = q.0 ∙ ap Some p in
          let o = ap (λ x. granted_to s lib ino kind x (row_at s.home ino)) f in
          inl (ap grant_fault_answer (logs.0 ∙ p) ∙ ap (λ (x : Outcome). x.answer) (sym o), logs.1 ∙ ap (λ (x : Outcome). x.after) (sym o))
    ]

abbrev reads_with : List OpenGrant → OpenGrant → Bool → ℕ
reads_with gs g t = length (if t then g ∷ filter (λ (h : OpenGrant). is_read h.kind) gs else filter (λ (h : OpenGrant). is_read h.kind) gs)

-- the reads among some grants and one more
reads_last : (gs : List OpenGrant) (g : OpenGrant) → reads_among gs + (if is_read g.kind then 1 else 0) ≡ reads_among (gs ++ g ∷ [])
reads_last [] g = by (is_read g.kind)
  where
    by : (t : Bool) → 0 + (if t then 1 else 0) ≡ reads_with [] g t
    by true = refl
    by false = refl
reads_last (h ∷ gs) g = by (is_read h.kind) (reads_last gs g)
  where
    by : (t : Bool) → reads_among gs + (if is_read g.kind then 1 else 0) ≡ reads_among (gs ++ g ∷ []) → reads_with gs h t + (if is_read g.kind then 1 else 0) ≡ reads_with (gs ++ g ∷ []) h t
    by true again = omega (arith, again)
    by false again = again

-- the row of a live file has its place
pub row_below : (rows : List (Option Row)) (n : ℕ) (r : Row) → get_or rows n None ≡ Some r → n < length rows
row_below [] n r e = absurd cc
row_below (x ∷ rows) zero r e = omega arith
row_below (x ∷ rows) (suc n) r e = (let l = row_below rows n r e in omega (arith, l))

module _ (s : Store) (first : ℕ) (table : List Keyed) (files : List Opened) (creds : List Creds) (entries : Entries) (begun : List (Option Outline)) (k : IsControlled s first table files creds entries begun) where
  abbrev st : State
  st = state_of s first (grants_in files) creds entries.made

  abbrev cs : Checkpoints
  cs = s.checkpoints.items

  abbrev pages : List (Option (List ℕ))
  pages = s.home.pages

  abbrev rows : List (Option Row)
  rows = s.rows

  pub kept_now : Kept st
  kept_now = k.stored.kept

  abbrev core : Core
  core = (settled st).core

  abbrev range : CoreRange
  range = record { first = first; end = length s.home.pages }

  table_excluding : (lib : LibNo) (ino : ℕ) (kind : GrantKind) → option_map holder (first_with (excludes lib ino kind) table) ≡ option_map holder_of (slice_get (excluding st lib.0 ino kind) 0)
  table_excluding lib ino kind = ap (λ t. option_map holder (first_with (excludes lib ino kind) t)) k.grants ∙ first_excluding cs lib ino kind files

  -- the library's write grant on a file, in the table and among the open grants
  pub parent_granted : (lib : LibNo) (r : Row) → is_some (first_with (is_grant lib r.parent Write) table) ≡ has_parent_grant st lib.0 (Some r)
  parent_granted lib r = ap (λ t. is_some (first_with (is_grant lib r.parent Write) t)) k.grants ∙ each files
    where
      by : (o : Opened) (os : List Opened) (t : Bool) → is_some (first_with (is_grant lib r.parent Write) (map keyed os)) ≡ list_any (λ (g : OpenGrant). g.lib == lib.0 && g.ino == r.parent && is_write g.kind) (map (with_checkpoint cs) (grants_in os))
          → is_some (if t then Some (keyed o).1 else first_with (is_grant lib r.parent Write) (map keyed os)) ≡ (t || list_any (λ (g : OpenGrant). g.lib == lib.0 && g.ino == r.parent && is_write g.kind) (map (with_checkpoint cs) (grants_in os)))
      by o os true again = refl
      by o os false again = again

      same : (kind : GrantKind) → same_kind kind Write ≡ is_write kind
      same Read = refl
      same Write = refl
      same Hold = refl

      each : (os : List Opened) → is_some (first_with (is_grant lib r.parent Write) (map keyed os)) ≡ list_any (λ (g : OpenGrant). g.lib == lib.0 && g.ino == r.parent && is_write g.kind) (map (with_checkpoint cs) (grants_in os))
      each [] = refl
      each (o ∷ os) =
          by o os (o.grant.lib == lib.0 && o.grant.ino == r.parent && same_kind o.grant.kind Write) (each os)
          ∙ ap (λ (t : Bool). (o.grant.lib == lib.0 && o.grant.ino == r.parent && t) || list_any (λ (g : OpenGrant). g.lib == lib.0 && g.ino == r.parent && is_write g.kind) (map (with_checkpoint cs) (grants_in os))) (same o.grant.kind)

  -- an open grant excludes the one asked
  busy_step : (kind : GrantKind) (lib : LibNo) (ino : ℕ) (r : Row) (who : Holder) → row_at st.home ino ≡ Some r → denial st lib.0 ino kind ≡ None
      → option_map holder (first_with (excludes lib ino kind) table) ≡ Some who → Step st (Grant lib.0 ino kind) (NotGranted (Busy who)) st
  busy_step kind lib ino r who row may answer =
      let fault = fault_is st lib.0 ino kind r row may ∙ map_busy (slice_get (excluding st lib.0 ino kind) 0) who (sym (table_excluding lib ino kind) ∙ answer) in
      inl (rw fault (refl, refl))

  -- the grant isn't admitted
  pub refused_step : (kind : GrantKind) (lib : LibNo) (ino : ℕ) (r : Row) (fault : GrantFault) → row_at st.home ino ≡ Some r → denial st lib.0 ino kind ≡ None
      → Admits (excludes lib ino kind) table (Err fault) → Step st (Grant lib.0 ino kind) (grant_fault_answer fault) st
  refused_step kind lib ino r (Busy who) row may answer = busy_step kind lib ino r who row may answer
  refused_step kind lib ino r NoMemory row may answer = inr (refl, refl, refl)
  refused_step kind lib ino r NotLive row may answer = absurd answer
  refused_step kind lib ino r (Denied n) row may answer = absurd answer
  refused_step kind lib ino r NoParent row may answer = absurd answer

  -- no grant excludes it, and it isn't denied
  no_fault : (kind : GrantKind) (lib : LibNo) (ino : ℕ) (r : Row) → row_at st.home ino ≡ Some r → denial st lib.0 ino kind ≡ None → first_with (excludes lib ino kind) table ≡ None → grant_fault st lib.0 ino kind ≡ None
  no_fault kind lib ino r row may free =
      let none = map_none (slice_get (excluding st lib.0 ino kind) 0) (sym (table_excluding lib ino kind) ∙ no_holder (first_with (excludes lib ino kind) table) free) in
      fault_is st lib.0 ino kind r row may ∙ ap (option_map (λ g. Busy (holder_of g))) none

  -- ---- the pages of a file that is to be lent

  module _ (kind : GrantKind) (lib : LibNo) (ino : ℕ) (r : Row) (row : row_at st.home ino ≡ Some r) (free : first_with (excludes lib ino kind) table ≡ None) where
    no_file : (g : OpenGrant) → In g (grants_in files) → g.kind ≡ Write → g.ino ≢ ino
    no_file g i write =
        let o = map-In (λ (o : Opened). o.grant) g files i in
        subst (λ (h : OpenGrant). h.ino ≢ ino) (sym o.2) (not_written lib ino kind files (ap (first_with (excludes lib ino kind)) (sym k.grants) ∙ free) o.0 o.1 (ap (λ (h : OpenGrant). h.kind) (sym o.2) ∙ write))

    no_grant : (g : OpenGrant) → In g st.open_grants → g.kind ≡ Write → g.ino ≢ ino
    no_grant g i write =
        let h = map-In (with_checkpoint cs) g (grants_in files) i in
        subst (λ (x : OpenGrant). x.ino ≢ ino) (sym h.2) (no_file h.0 h.1 (ap (λ (x : OpenGrant). x.kind) (sym h.2) ∙ write))

    abbrev home : (c : Chain) × (settled_chain (settled st) r.kind ino ≡ Ok c) × ((p : ℕ) → In p (c.index ++ c.blocks) → (bytes : List ℕ) × (slice_get pages p ≡ Some (Some bytes)) × (page_of core p ≡ Some bytes) × (is_core range p ≡ true)) × (are_new [] (c.index ++ c.blocks) ≡ true) × (length (settled_body (settled st) ino) ≡ 64)
    home = lendable_is_home st ino r kept_now row no_grant

    pub chain : Chain
    chain = home.0

    -- the chain reads the same at home
    page_same : (p : ℕ) → In p (home.0.index ++ home.0.blocks) → page_of (core_of pages range) p ≡ page_of core p
    page_same p i = (let h = home.2 p i in page_from (core_of pages range) p h.0 h.3 h.1 ∙ sym h.2)

    pub chain_home : (body : List ℕ) → body ≡ settled_body (settled st) ino → chain_in (core_of pages range) r.kind body ≡ Ok chain
    unfolding chain
    chain_home body is =
        let read = result_then-Ok (chain_of core) (there_or nowhere (body_of r.kind range (settled_body (settled st) ino))) home.0 home.1 in
        ap (λ b. result_then (chain_of (core_of pages range)) (there_or nowhere (body_of r.kind range b))) is
        ∙ ap (result_then (chain_of (core_of pages range))) read.1
        ∙ chain_follows core (core_of pages range) refl _ _ _ home.0 read.2 (λ p i. page_same p (In-left p home.0.index home.0.blocks i))

    pub lendable : (body : List ℕ) (x : Chain) → body ≡ settled_body (settled st) ino → chain_in (core_of pages range) r.kind body ≡ Ok x → IsLendable (core_of pages range) x
    unfolding chain
    lendable body x is read =
        let same : chain ≡ x = same_chain chain x (chain_in (core_of pages range) r.kind body) (sym (chain_home body is)) read in
        subst (IsLendable (core_of pages range)) same (record {
          there = list_all-each (λ p. is_some (page_of (core_of pages range) p)) (home.0.index ++ home.0.blocks) (λ p i. ap is_some (page_same p i ∙ (home.2 p i).2));
          once = home.3;
        })

    pub grant_made : (body : List ℕ) → body ≡ settled_body (settled st) ino → grant_on (core_of pages range) lib.0 ino kind r.kind entries.made body chain ≡ record (opened st lib.0 ino kind r) { parent = 0; children = 0 }
    unfolding chain
    grant_made body is =
        let c = home.0 in
        let index : sheets_of (core_of pages range) c.index ≡ index_sheets core (settled_chain (settled st) r.kind ino) =
        sheets_same (core_of pages range) core c.index (λ p i. page_same p (In-left p c.index c.blocks i)) ∙ ap (index_sheets core) (sym home.1) in
        let blocks : sheets_of (core_of pages range) c.blocks ≡ block_sheets core (settled_chain (settled st) r.kind ino) =
        sheets_same (core_of pages range) core c.blocks (λ p i. page_same p (In-right p c.index c.blocks i)) ∙ ap (block_sheets core) (sym home.1) in
        let G : List ℕ → List Sheet → List Sheet → OpenGrant = λ b xs ys. record { lib = lib.0; ino = ino; kind = kind; of = r.kind; entry = entries.made; body = b; index = lent_sheets kind xs; blocks = lent_sheets kind ys; parent = 0; children = 0; checkpoint = covered kind r.kind (guard_in b) (lent_sheets kind xs) (lent_sheets kind ys) } in
        ap (λ b. G b (sheets_of (core_of pages range) c.index) (sheets_of (core_of pages range) c.blocks)) is
        ∙ ap (λ xs. G (settled_body (settled st) ino) xs (sheets_of (core_of pages range) c.blocks)) index
        ∙ ap (G (settled_body (settled st) ino) (index_sheets core (settled_chain (settled st) r.kind ino))) blocks

    lent_are : (body : List ℕ) → lent_pages (grant_on (core_of pages range) lib.0 ino Write r.kind entries.made body chain) ≡ chain.index ++ chain.blocks
    unfolding chain
    lent_are body =
        let c = home.0 in
        let some : (p : ℕ) → In p (c.index ++ c.blocks) → (bytes : List ℕ) × (page_of (core_of pages range) p ≡ Some bytes) = λ p i. ((home.2 p i).0, page_same p i ∙ (home.2 p i).2) in
        map-append (λ (x : Sheet). x.page) (sheets_of (core_of pages range) c.index) (sheets_of (core_of pages range) c.blocks)
        ∙ ap (λ l. l ++ sheet_numbers (sheets_of (core_of pages range) c.blocks)) (sheets_all (core_of pages range) c.index (λ p i. some p (In-left p c.index c.blocks i)))
        ∙ ap (λ l. c.index ++ l) (sheets_all (core_of pages range) c.blocks (λ p i. some p (In-right p c.index c.blocks i)))

  -- ---- one grant more

  module _ (kind : GrantKind) (lib : LibNo) (ino key : ℕ) (file : Opened) (table' : List Keyed) (files' : List Opened)
      (new_keyed : keyed file ≡ (key, record { lib = lib; ino = ino; kind = kind; entry = entries.made })) (more : files' ≡ files ++ file ∷ []) where
    pub table_is : (AllBelow entries.made table → table' ≡ table ++ (key, record { lib = lib; ino = ino; kind = kind; entry = entries.made }) ∷ []) → table' ≡ map keyed files'
    table_is put =
        put (subst (AllBelow entries.made) (sym k.grants) (all_below files k.earlier))
        ∙ ap (λ l. l ++ (key, record { lib = lib; ino = ino; kind = kind; entry = entries.made }) ∷ []) k.grants
        ∙ ap (λ x. map keyed files ++ x ∷ []) (sym new_keyed)
        ∙ sym (map-append keyed files (file ∷ []))
        ∙ ap (map keyed) (sym more)
      where
        all_below : (fs : List Opened) → ((o : Opened) → In o fs → o.grant.entry < entries.made) → AllBelow entries.made (map keyed fs)
        all_below [] h = λ i d lt. absurd (omega arith)
        all_below (f ∷ fs) h = All-cons (λ x. x.1.entry < entries.made) (keyed f) (map keyed fs) (h f (inl refl)) (all_below fs (λ o i. h o (inr i)))

    pub keys_once_more : grant_under key table ≡ None → are_new [] (map (λ (o : Opened). o.key) files') ≡ true
    keys_once_more unused =
        ap (are_new []) keys_are ∙ are_new-push [] (map (λ (o : Opened). o.key) files) key
        ∙ ap (λ b. b && not (is_among key (map (λ (o : Opened). o.key) files))) k.keys_once
        ∙ ap not (none_under files (ap (grant_under key) (sym k.grants) ∙ unused))
      where
        none_under : (fs : List Opened) → grant_under key (map keyed fs) ≡ None → is_among key (map (λ o. o.key) fs) ≡ false
        none_under [] none = refl
        none_under (f ∷ fs) none = by (λ rest. none_under fs rest) (f.key == key) none
          where
            by : (grant_under key (map keyed fs) ≡ None → is_among key (map (λ (o : Opened). o.key) fs) ≡ false) → (b : Bool) → option_map (λ (x : Keyed). x.1) (if b then Some (keyed f) else find (λ (x : Keyed). x.0 == key) (map keyed fs)) ≡ None → (b || is_among key (map (λ o. o.key) fs)) ≡ false
            by again true none = absurd cc
            by again false none = again none

        keys_are : map (λ (o : Opened). o.key) files' ≡ map (λ (o : Opened). o.key) files ++ key ∷ []
        keys_are = ap (map (λ (o : Opened). o.key)) more ∙ map-append (λ (o : Opened). o.key) files (file ∷ []) ∙ ap (λ n. map (λ (o : Opened). o.key) files ++ n ∷ []) (ap (λ (x : Keyed). x.0) new_keyed)

    -- an open grant is an earlier one, or the new one
    pub by_file : (o : Opened) → In o files' → In o files ⊎ (o ≡ file)
    by_file o i =
        elim (In-cases o files (file ∷ []) (subst (In o) more i)) [
          | inl old ↦ inl old
          | inr one ↦ elim one [
            | inl same ↦ inr same
            | inr none ↦ absurd none
          ]
        ]

    pub all_earlier : (entries' : ℕ) → entries' ≡ entries.made + 1 → (o : Opened) → In o files' → o.grant.entry < entries'
    all_earlier entries' next o i =
        elim (by_file o i) [
          | inl old ↦ (let e = k.earlier o old in omega (arith, e, next))
          | inr same ↦
              let e : o.grant.entry ≡ entries.made = ap (λ (x : Opened). x.grant.entry) same ∙ ap (λ (x : Keyed). x.1.entry) new_keyed in
              omega (arith, e, next)
        ]

    pub all_kinds : (r : Row) → row_at st.home ino ≡ Some r → file.grant.of ≡ r.kind → (o : Opened) → In o files' → IsSomeAnd (row_in rows o.grant.ino) (λ r. r.kind ≡ o.grant.of)
    all_kinds r row of o i =
        elim (by_file o i) [
          | inl old ↦ k.kinds o old
          | inr same ↦
              let number : o.grant.ino ≡ ino = ap (λ (x : Opened). x.grant.ino) same ∙ ap (λ (x : Keyed). x.1.ino) new_keyed in
              subst (λ (x : Option Row). IsSomeAnd x (λ r. r.kind ≡ o.grant.of)) (sym (ap (row_in rows) number ∙ row)) (sym of ∙ ap (λ (x : Opened). x.grant.of) (sym same))
        ]

    pub all_told : (r : Row) → row_at st.home ino ≡ Some r → (file.grant.kind ≡ Hold → file.grant.parent ≡ r.parent) → HoldsAreTold rows (grants_in files')
    all_told r row parent =
        let number : file.grant.ino ≡ ino = ap (λ (x : Keyed). x.1.ino) new_keyed in
        subst (HoldsAreTold rows) (sym (ap grants_in more ∙ map-append (λ (o : Opened). o.grant) files (file ∷ [])))
        (told_more rows (grants_in files) file.grant k.told
        (λ hold. subst (λ (x : Option Row). IsSomeAnd x (λ r. file.grant.parent ≡ r.parent)) (sym (ap (row_in rows) number ∙ row)) (parent hold)))

    pub reads_more : (promised : ℕ) → promised ≡ (if is_read kind then entries.promised + 1 else entries.promised) → promised ≡ reads_among (grants_in files') + begun_among begun
    reads_more promised is =
        let of_kind : is_read file.grant.kind ≡ is_read kind = ap (λ (x : Keyed). is_read x.1.kind) new_keyed in
        let next = is ∙ by (is_read kind) (entries.promised) refl ∙ ap (λ (t : Bool). entries.promised + (if t then 1 else 0)) (sym of_kind) in
        let reads = reads_last (grants_in files) file.grant ∙ sym (ap reads_among (ap grants_in more ∙ map-append (λ (o : Opened). o.grant) files (file ∷ []))) in
        added promised entries.promised (if is_read file.grant.kind then 1 else 0) (reads_among (grants_in files)) (reads_among (grants_in files')) (begun_among begun) next k.promised reads
      where
        added : (p q e r r' b : ℕ) → p ≡ q + e → q ≡ r + b → r + e ≡ r' → p ≡ r' + b
        added p q e r r' b next was more = omega (arith, next, was, more)

        by : (t : Bool) (n : ℕ) → entries.promised ≡ n → (if t then n + 1 else n) ≡ n + (if t then 1 else 0)
        by true n e = refl
        by false n e = omega arith

  -- ---- a file that is lent for writing

  module _ (lib : LibNo) (ino : ℕ) (r : Row) (row : row_at st.home ino ≡ Some r) (free : first_with (excludes lib ino Write) table ≡ None) where
    abbrev listed : Chain
    listed = chain Write lib ino r row free

    -- the file is lent, and its checkpoint kept
    module _ (key : ℕ) (body : List ℕ) (is : body ≡ settled_body (settled st) ino) (file : Opened) (checkpoint : Checkpointed) (s' : Store) (table' : List Keyed) (files' : List Opened) (entries' : Entries)
        (made : file ≡ record { key = key; grant = without_checkpoint (grant_on (core_of pages range) lib.0 ino Write r.kind entries.made body (chain Write lib ino r row free)) })
        (covers : covered_pages checkpoint ≡ covered_of file.grant.of (guard_in file.grant.body) file.grant.index file.grant.blocks)
        (gone : s'.home.pages ≡ without_pages ((chain Write lib ino r row free).index ++ (chain Write lib ino r row free).blocks) pages)
        (rest : s' ≡ record s { home = s'.home; checkpoints = s'.checkpoints })
        (kept_aside : s'.checkpoints.items ≡ slice_set cs ino (Some checkpoint))
        (more : files' ≡ files ++ file ∷ []) (next : entries' ≡ record entries { made = entries.made + 1 }) where
      abbrev new : OpenGrant
      new = opened st lib.0 ino Write r

      grant_is : file.grant ≡ without_checkpoint new
      grant_is = ap (λ (o : Opened). o.grant) made ∙ ap without_checkpoint (grant_made Write lib ino r row free body is)

      pub lease_made : lease_of file.grant ≡ lease_of new
      lease_made = ap lease_of grant_is

      counted : entries'.made ≡ entries.made + 1
      counted = ap (λ (n : Entries). n.made) next

      placed : ino < length cs
      placed = (let l = row_below rows ino r row in omega (arith, l, k.stored.places))

      here : checkpoint_at s'.checkpoints.items ino ≡ Some checkpoint
      here = ap (λ l. checkpoint_at l ino) kept_aside ∙ get_or-set_same cs ino (Some checkpoint) None placed

      elsewhere : (n : ℕ) → n ≢ ino → checkpoint_at s'.checkpoints.items n ≡ checkpoint_at cs n
      elsewhere n other = ap (λ l. checkpoint_at l n) kept_aside ∙ get_or-set_other cs ino n (Some checkpoint) None other

      grant_covers : with_checkpoint s'.checkpoints.items file.grant ≡ new
      grant_covers =
          let C : OpenGrant → List Sheet → OpenGrant = λ g sheets. record g { checkpoint = sheets } in
          ap (with_checkpoint s'.checkpoints.items) grant_is
          ∙ ap (λ (o : Option Checkpointed). C new (option_map_or covered_pages o [])) here
          ∙ ap (C new) (covers ∙ ap (λ (g : OpenGrant). covered_of g.of (guard_in g.body) g.index g.blocks) grant_is)

      grants_are : grants_in files' ≡ grants_in files ++ file.grant ∷ []
      grants_are = ap grants_in more ∙ map-append (λ (o : Opened). o.grant) files (file ∷ [])

      open_are : map (with_checkpoint s'.checkpoints.items) (grants_in files') ≡ st.open_grants ++ new ∷ []
      open_are =
          ap (map (with_checkpoint s'.checkpoints.items)) grants_are
          ∙ map-append (with_checkpoint s'.checkpoints.items) (grants_in files) (file.grant ∷ [])
          ∙ ap (λ l. l ++ with_checkpoint s'.checkpoints.items file.grant ∷ []) (checkpoints_same cs s'.checkpoints.items (grants_in files) (λ g i w. elsewhere g.ino (no_file Write lib ino r row free g i (write_is g.kind w))))
          ∙ ap (λ g. st.open_grants ++ g ∷ []) grant_covers

      many : length s'.home.pages ≡ length pages
      many = ap length gone ∙ length-without (listed.index ++ listed.blocks) pages

      pub after_is : state_of s' first (grants_in files') creds entries'.made ≡ opens st new
      after_is =
          let S : Store → List (Option (List ℕ)) → ℕ → List OpenGrant → ℕ → State = λ (t : Store) ps e gs n. record {
            home = record { core = record { pages = ps; root = t.root; range = record { first = first; end = e }; inodes = length t.rows - 1 }; rows = t.rows; owners = t.owners };
            open_grants = gs;
            pages_out = t.allotments.pages;
            numbers_out = t.allotments.numbers;
            creds = creds;
            entries = n;
          } in
          let lent : listed.index ++ listed.blocks ≡ lent_pages new = sym (lent_are Write lib ino r row free body) ∙ ap lent_pages (grant_made Write lib ino r row free body is) in
          let away : List (Option (List ℕ)) = without_pages (lent_pages new) pages in
          ap (λ (t : Store). S t s'.home.pages (length s'.home.pages) (map (with_checkpoint s'.checkpoints.items) (grants_in files')) entries'.made) rest
          ∙ ap (λ ps. S s ps (length s'.home.pages) (map (with_checkpoint s'.checkpoints.items) (grants_in files')) entries'.made) (gone ∙ ap (λ l. without_pages l pages) lent)
          ∙ ap (λ e. S s away e (map (with_checkpoint s'.checkpoints.items) (grants_in files')) entries'.made) many
          ∙ ap (λ gs. S s away (length pages) gs entries'.made) open_are
          ∙ ap (S s away (length pages) (st.open_grants ++ new ∷ [])) counted

      pub granted_step : denial st lib.0 ino Write ≡ None → Step st (Grant lib.0 ino Write) (Granted 0) (state_of s' first (grants_in files') creds entries'.made)
      granted_step may = (let fault = no_fault Write lib ino r row may free in inl (rw (fault, row) (refl, after_is)))

      new_keyed : keyed file ≡ (key, record { lib = lib; ino = ino; kind = Write; entry = entries.made })
      new_keyed = ap keyed made

      file_ino : file.grant.ino ≡ ino
      file_ino = ap (λ (o : Opened). o.grant.ino) made

      file_kind : file.grant.kind ≡ Write
      file_kind = ap (λ (o : Opened). o.grant.kind) made

      -- an open grant is an earlier one, or the new one
      by_open : (g : OpenGrant) → In g (grants_in files') → In g (grants_in files) ⊎ (g ≡ file.grant)
      by_open g i =
          elim (In-cases g (grants_in files) (file.grant ∷ []) (subst (In g) grants_are i)) [
            | inl old ↦ inl old
            | inr one ↦ elim one [
              | inl same ↦ inr same
              | inr none ↦ absurd none
            ]
          ]

      of_old : (g : OpenGrant) → In g (grants_in files) → In g (grants_in files')
      of_old g i = subst (In g) (sym grants_are) (In-left g (grants_in files) (file.grant ∷ []) i)

      of_new : In file.grant (grants_in files')
      of_new = subst (In file.grant) (sym grants_are) (In-right file.grant (grants_in files) (file.grant ∷ []) (inl refl))

      same_superblock : superblock_at_home s' first ≡ superblock_at_home s first
      same_superblock =
          let S : Store → ℕ → Superblock = λ (t : Store) e. record { pages = e; inodes = length t.rows - 1; first_owner = 1 + page_count (32 * (length t.rows - 1)); first_core = first; root = t.root } in
          ap (λ (t : Store). S t (length s'.home.pages)) rest ∙ ap (S s) many

      no_hold : Write ≡ Hold → ⊥
      no_hold e = absurd cc

      granted_stored : CoversLent file.grant checkpoint → Kept (state_of s' first (grants_in files') creds entries'.made) → IsStored s' first (grants_in files') creds entries'.made
      granted_stored lent kept = record {
        fits = subst (λ (x : Superblock). IsTrue (superblock_fits x)) (sym same_superblock) k.stored.fits;
        places = ap length kept_aside ∙ length-set cs ino (Some checkpoint) ∙ k.stored.places ∙ sym (ap (λ (t : Store). length t.rows) rest);
        of_grant = λ n c e. by_number n c e (n == ino) refl;
        covers = λ g i kind. elim (by_open g i) [
          | inl old ↦
              let q = k.stored.covers g old kind in
              (q.0, elsewhere g.ino (no_file Write lib ino r row free g old kind) ∙ q.1, q.2)
          | inr same ↦ (checkpoint, ap (checkpoint_at s'.checkpoints.items) (ap (λ (x : OpenGrant). x.ino) same ∙ file_ino) ∙ here, subst (λ (x : OpenGrant). CoversLent x checkpoint) (sym same) lent)
        ];
        kept = kept;
      }
        where
          by_number : (n : ℕ) (c : Checkpointed) → checkpoint_at s'.checkpoints.items n ≡ Some c → (t : Bool) → (n == ino) ≡ t → (g : OpenGrant) × In g (grants_in files') × (g.kind ≡ Write) × (g.ino ≡ n)
          by_number n c e true same = (file.grant, of_new, file_kind, file_ino ∙ sym (eqb-true n ino same))
          by_number n c e false other =
              let q = k.stored.of_grant n c (sym (elsewhere n (λ same. false≢true (sym other ∙ eq-eqb n ino same))) ∙ e) in
              (q.0, of_old q.0 q.1, q.2, q.3)

      -- what the controller keeps then
      pub granted_controlled : denial st lib.0 ino Write ≡ None
          → (AllBelow entries.made table → table' ≡ table ++ (key, record { lib = lib; ino = ino; kind = Write; entry = entries.made }) ∷ [])
          → grant_under key table ≡ None → CoversLent file.grant checkpoint → IsControlled s' first table' files' creds entries' begun
      granted_controlled may put unused lent = record {
        stored = granted_stored lent (step_kept st (state_of s' first (grants_in files') creds entries'.made) (Grant lib.0 ino Write) (Granted 0) kept_now tt (granted_step may));
        no_zero = ap (λ (t : Store). lib_at t.allotments.numbers 0) rest ∙ k.no_zero;
        some_libraries = k.some_libraries;
        few_libraries = k.few_libraries;
        grants = table_is Write lib ino key file table' files' new_keyed more put;
        keys_once = keys_once_more Write lib ino key file table' files' new_keyed more unused;
        earlier = all_earlier Write lib ino key file table' files' new_keyed more entries'.made counted;
        placed = k.placed;
        promised = reads_more Write lib ino key file table' files' new_keyed more entries'.promised (ap (λ (n : Entries). n.promised) next);
        kinds = subst (λ (t : Store). HaveKinds t.rows files') (sym rest) (all_kinds Write lib ino key file table' files' new_keyed more r row (ap (λ (o : Opened). o.grant.of) made));
        told = subst (λ (t : Store). HoldsAreTold t.rows (grants_in files')) (sym rest) (all_told Write lib ino key file table' files' new_keyed more r row (λ hold. absurd (no_hold (sym file_kind ∙ hold))));
      }

  -- ---- a file that stays at home: it is copied, or held

  module _ (kind : GrantKind) (plain : is_write kind ≡ false) (lib : LibNo) (ino : ℕ) (r : Row) (row : row_at st.home ino ≡ Some r) (free : first_with (excludes lib ino kind) table ≡ None)
      (key : ℕ) (file : Opened) (s' : Store) (table' : List Keyed) (files' : List Opened) (entries' : Entries)
      (made : file ≡ record { key = key; grant = opened st lib.0 ino kind r })
      (same_pages : s'.home.pages ≡ pages) (rest : s' ≡ record s { home = s'.home })
      (more : files' ≡ files ++ file ∷ []) (counted : entries'.made ≡ entries.made + 1) where
    abbrev given : OpenGrant
    given = opened st lib.0 ino kind r

    bare : given.checkpoint ≡ []
    bare = by kind plain
      where
        by : (kind : GrantKind) → is_write kind ≡ false → covered kind r.kind (guard_in given.body) given.index given.blocks ≡ []
        by Read e = refl
        by Hold e = refl
        by Write e = absurd (false≢true (sym e))

    no_pages : lent_pages given ≡ []
    no_pages = ap (λ (t : Bool). if t then sheet_numbers (given.index ++ given.blocks) else []) plain

    uncovered_new : with_checkpoint cs file.grant ≡ given
    uncovered_new =
        ap (λ (o : Opened). with_checkpoint cs o.grant) made
        ∙ ap (λ (t : Bool). record given { checkpoint = if t then covered_at cs ino else [] }) plain
        ∙ ap (λ (xs : List Sheet). record given { checkpoint = xs }) (sym bare)

    opens_one : map (with_checkpoint cs) (grants_in files') ≡ st.open_grants ++ given ∷ []
    opens_one =
        ap (λ fs. map (with_checkpoint cs) (grants_in fs)) more
        ∙ ap (map (with_checkpoint cs)) (map-append (λ (o : Opened). o.grant) files (file ∷ []))
        ∙ map-append (with_checkpoint cs) (grants_in files) (file.grant ∷ [])
        ∙ ap (λ g. st.open_grants ++ g ∷ []) uncovered_new

    -- the store is as it was, but for the count of looks
    still : (P : Store → Type 0) → ((looked : ℕ) → P (record s { home = record { pages = pages; looked = looked } })) → P s'
    still P h =
        subst P (sym rest)
        (subst (λ ps. P (record s { home = record { pages = ps; looked = s'.home.looked } })) (sym same_pages) (h s'.home.looked))

    opens_it : state_of s' first (grants_in files') creds entries'.made ≡ opens st given
    opens_it =
        let S : List OpenGrant → List ℕ → ℕ → State = λ gs gone n. record st { home = with_core_pages st.home (without_pages gone pages); open_grants = gs; entries = n } in
        still (λ t. state_of t first (grants_in files') creds entries'.made ≡ S (map (with_checkpoint cs) (grants_in files')) [] entries'.made) (λ looked. refl)
        ∙ ap (λ gs. S gs [] entries'.made) opens_one
        ∙ ap (λ gone. S (st.open_grants ++ given ∷ []) gone entries'.made) (sym no_pages)
        ∙ ap (S (st.open_grants ++ given ∷ []) (lent_pages given)) counted

    pub plain_step : (told : ℕ) → told ≡ told_children st.home ino kind → denial st lib.0 ino kind ≡ None → Step st (Grant lib.0 ino kind) (Granted told) (state_of s' first (grants_in files') creds entries'.made)
    plain_step told children may = (let fault = no_fault kind lib ino r row may free in inl (rw (fault, row) (ap Granted children, opens_it)))

    keyed_new : keyed file ≡ (key, record { lib = lib; ino = ino; kind = kind; entry = entries.made })
    keyed_new = ap keyed made

    stored_plain : Kept (state_of s' first (grants_in files') creds entries'.made) → IsStored s' first (grants_in files') creds entries'.made
    stored_plain kept = record {
      fits = still (λ t. IsTrue (superblock_fits (superblock_at_home t first))) (λ looked. k.stored.fits);
      places = still (λ t. length t.checkpoints.items ≡ length t.rows) (λ looked. k.stored.places);
      of_grant = still (λ t. (n : ℕ) (c : Checkpointed) → checkpoint_at t.checkpoints.items n ≡ Some c → (g : OpenGrant) × In g (grants_in files') × (g.kind ≡ Write) × (g.ino ≡ n)) (λ looked n c e. let q = k.stored.of_grant n c e in (q.0, was_open q.0 q.1, q.2, q.3));
      covers = still (λ t. (g : OpenGrant) → In g (grants_in files') → g.kind ≡ Write → (c : Checkpointed) × (checkpoint_at t.checkpoints.items g.ino ≡ Some c) × CoversLent g c) (λ looked g i write. k.stored.covers g (write_was_open g i write) write);
      kept = kept;
    }
      where
        was_open : (g : OpenGrant) → In g (grants_in files) → In g (grants_in files')
        was_open g i = subst (λ fs. In g (grants_in fs)) (sym more) (subst (In g) (sym (map-append (λ (o : Opened). o.grant) files (file ∷ []))) (In-left g (grants_in files) (file.grant ∷ []) i))

        write_was_open : (g : OpenGrant) → In g (grants_in files') → g.kind ≡ Write → In g (grants_in files)
        write_was_open g i write =
            elim (In-cases g (grants_in files) (file.grant ∷ []) (subst (In g) (ap grants_in more ∙ map-append (λ (o : Opened). o.grant) files (file ∷ [])) i)) [
              | inl old ↦ old
              | inr one ↦ elim one [
                | inl same ↦
                    let kind_is : g.kind ≡ kind = ap (λ (x : OpenGrant). x.kind) same ∙ ap (λ (o : Opened). o.grant.kind) made in
                    absurd (false≢true (sym plain ∙ ap is_write (sym kind_is ∙ write)))
                | inr none ↦ absurd none
              ]
            ]

    pub plain_controlled : (told : ℕ) → told ≡ told_children st.home ino kind → denial st lib.0 ino kind ≡ None
        → (AllBelow entries.made table → table' ≡ table ++ (key, record { lib = lib; ino = ino; kind = kind; entry = entries.made }) ∷ [])
        → grant_under key table ≡ None → entries'.promised ≡ (if is_read kind then entries.promised + 1 else entries.promised) → IsControlled s' first table' files' creds entries' begun
    plain_controlled told children may put unused promise = record {
      stored = stored_plain (step_kept st (state_of s' first (grants_in files') creds entries'.made) (Grant lib.0 ino kind) (Granted told) kept_now tt (plain_step told children may));
      no_zero = still (λ t. lib_at t.allotments.numbers 0 ≡ None) (λ looked. k.no_zero);
      some_libraries = k.some_libraries;
      few_libraries = k.few_libraries;
      grants = table_is kind lib ino key file table' files' keyed_new more put;
      keys_once = keys_once_more kind lib ino key file table' files' keyed_new more unused;
      earlier = all_earlier kind lib ino key file table' files' keyed_new more entries'.made counted;
      placed = k.placed;
      promised = reads_more kind lib ino key file table' files' keyed_new more entries'.promised promise;
      kinds = still (λ t. HaveKinds t.rows files') (λ looked. all_kinds kind lib ino key file table' files' keyed_new more r row (ap (λ (o : Opened). o.grant.of) made));
      told = still (λ t. HoldsAreTold t.rows (grants_in files')) (λ looked. all_told kind lib ino key file table' files' keyed_new more r row (λ hold. ap (λ (o : Opened). o.grant.parent) made ∙ parent_told r kind (sym (ap (λ (o : Opened). o.grant.kind) made) ∙ hold)));
    }

  -- ---- the settled body

  page_on_there : (page : ℕ) (sheets : List Sheet) → In page (sheet_numbers sheets) → (x : Sheet) × In x sheets × (x.page ≡ page) × (page_on page sheets ≡ Some x.bytes)
  page_on_there page sheets i =
      let x = map-In (λ (x : Sheet). x.page) page sheets i in
      let f = In-find (λ (x : Sheet). x.page == page) sheets x.0 x.1 (eq-eqb x.0.page page (sym x.2)) in
      let g = find-In (λ (x : Sheet). x.page == page) sheets f.0 f.1 in
      (f.0, g.0, eqb-true f.0.page page g.1, ap (option_map (λ (x : Sheet). x.bytes)) f.1)

  -- the page of a live file's place, as it is settled
  standing_page : (ino : ℕ) (r : Row) → row_at st.home ino ≡ Some r → ino ≢ 1 → page_standing s r ≡ page_of core r.page
  standing_page ino r row other = by_parent (checkpoint_at cs r.parent) refl
    where
      by_parent : (o : Option Checkpointed) → checkpoint_at cs r.parent ≡ o → option_map_or (λ c. page_on r.page c.blocks) o (get_or pages r.page None) ≡ page_of core r.page
      by_parent None none =
          elim (body_stands st ino r kept_now row other).2 [
            | inl bare ↦ page_at pages r.page ∙ ap (option_and_then (λ x. x)) bare.1
            | inr lent ↦
                let h = map-In (with_checkpoint cs) lent.0 (grants_in files) lent.1 in
                let number : h.0.ino ≡ r.parent = sym (ap (λ (g : OpenGrant). g.ino) h.2) ∙ lent.3 in
                let q = k.stored.covers h.0 h.1 (sym (ap (λ (g : OpenGrant). g.kind) h.2) ∙ lent.2) in
                absurd (none_some q.0 (sym none ∙ sym (ap (checkpoint_at cs) number) ∙ q.1))
          ]
        where
          none_some : (c : Checkpointed) → None ≡ Some c → ⊥
          none_some c e = absurd cc
      by_parent (Some c) there =
          let h = k.stored.of_grant r.parent c there in
          let g : OpenGrant = with_checkpoint cs h.0 in
          let i : In g st.open_grants = In-map (with_checkpoint cs) h.0 (grants_in files) h.1 in
          let q = k.stored.covers h.0 h.1 h.2 in
          let same : q.0 ≡ c = some_same q.0 c (sym q.1 ∙ ap (checkpoint_at cs) h.3 ∙ there) in
          let place = lent_place st kept_now ino r row other g i h.2 h.3 in
          let blocks : sheet_numbers c.blocks ≡ sheet_numbers h.0.blocks = ap (λ (x : Checkpointed). sheet_numbers x.blocks) (sym same) ∙ q.2.blocks ∙ ap (λ kind. if covers_blocks kind (guard_in h.0.body) then sheet_numbers h.0.blocks else []) place.0 in
          let p = page_on_there r.page c.blocks (subst (In r.page) (sym blocks) place.1) in
          let covered : In p.0 g.checkpoint = subst (λ l. In p.0 l) (sym (covers_here h.0 c h.2 (ap (checkpoint_at cs) h.3 ∙ there))) (In-right p.0 c.index c.blocks p.1) in
          p.3 ∙ sym (ap (page_of core) (sym p.2) ∙ checkpoint_settled st kept_now p.0 (In-flat (λ (g : OpenGrant). g.checkpoint) g p.0 st.open_grants i covered))
        where
          some_same : (a b : Checkpointed) → Some a ≡ Some b → a ≡ b
          some_same a b e = cc

          covers_here : (h : OpenGrant) (c : Checkpointed) → h.kind ≡ Write → checkpoint_at cs h.ino ≡ Some c → (with_checkpoint cs h).checkpoint ≡ covered_pages c
          covers_here h c kind e = ap (λ t. if is_write t then covered_at cs h.ino else []) kind ∙ ap (λ (o : Option Checkpointed). option_map_or covered_pages o []) e

  pub stands_somewhere : (ino : ℕ) (r : Row) → row_at st.home ino ≡ Some r → ino ≢ 1 → StandsSomewhere s r
  stands_somewhere ino r row other =
      let b = body_stands st ino r kept_now row other in
      record { slot = b.0; there = ap is_some (standing_page ino r row other ∙ b.1.1) }

  pub body_is : (ino : ℕ) (r : Row) → row_at st.home ino ≡ Some r → (if ino == 1 then s.root else body_standing s r) ≡ settled_body (settled st) ino
  body_is ino r row = by (ino == 1) refl
    where
      by : (b : Bool) → (ino == 1) ≡ b → (if b then s.root else body_standing s r) ≡ (if b then s.root else body_by_row core (row_at st.home ino))
      by true e = refl
      by false e =
          ap (λ o. option_map_or (body_in_slot r.slot) o []) (standing_page ino r row (λ one. false≢true (sym e ∙ eq-eqb ino 1 one)))
          ∙ sym (ap (body_by_row core) row)

  -- nothing has changed but the count of looks
  pub controlled_still : (s' : Store) (table' : List Keyed) (files' : List Opened) → s' ≡ record s { home = s'.home } → s'.home.pages ≡ s.home.pages → table' ≡ table → files' ≡ files → IsControlled s' first table' files' creds entries begun
  controlled_still s' table' files' rest same_pages same_table same_files =
      let H : List (Option (List ℕ)) → Store = λ ps. record s { home = record { pages = ps; looked = s'.home.looked } } in
      subst (λ (t : Store). IsControlled t first table' files' creds entries begun) (sym rest)
      (subst (λ ps. IsControlled (H ps) first table' files' creds entries begun) (sym same_pages)
      (subst (λ t. IsControlled (H s.home.pages) first t files' creds entries begun) (sym same_table)
      (subst (λ fs. IsControlled (H s.home.pages) first table fs creds entries begun) (sym same_files) (looked_at s'.home.looked))))
    where
      looked_at : (n : ℕ) → IsControlled (record s { home = record { pages = s.home.pages; looked = n } }) first table files creds entries begun
      looked_at n = record {
        stored = record { fits = k.stored.fits; places = k.stored.places; of_grant = k.stored.of_grant; covers = k.stored.covers; kept = k.stored.kept };
        no_zero = k.no_zero;
        some_libraries = k.some_libraries;
        few_libraries = k.few_libraries;
        grants = k.grants;
        keys_once = k.keys_once;
        earlier = k.earlier;
        placed = k.placed;
        promised = k.promised;
        kinds = k.kinds;
        told = k.told;
      }

pub kept_either : (s t : State) (P Q : Type 0) → Kept s → (P × (t ≡ logged s)) ⊎ (Q × (t ≡ s)) → Kept t
kept_either s t P Q k (inl l) = subst Kept (sym l.1) (logged_kept s k)
kept_either s t P Q k (inr r) = subst Kept (sym r.1) k

-- what is so whatever a call answered is so where it is refused
pub where_refused : {A F P : Type 0} (r : Result A F) → P → OnErr r P
where_refused (Ok x) so = tt
where_refused (Err fault) so = so
