-- What the controller gives is new to the library that gets it.
use Rattle.trio_ctl.proofs.Words.{if◌then◌else◌, ◌&&◌, ◌++◌, ◌+◌, ◌-◌, ◌<◌, ◌==◌, ◌∙◌, ◌∷◌, ◌≡◌, ◌≢◌, ◌≤◌, Bool, Busy, Chain, GrantFault, GrantKind, Hold, HoldParts, In, In-cases, In-filter, In-left, IsFreshLease, IsWellLent, Kept, LentPage, LibNo, List, Location, NoParent, None, NotLive, OpenGrant, Option, Read, Result, Row, Sheet, Shown, Some, State, Write, [], and_from, and_parts, ap, append-nil, are_new, arith, block_sheets, both_ways, cases_Bool, cond, count_from, count_up, denied_by, denied_or, eq-eqb, excludes_kind, excluding, false, false≢true, files_out, filter, filter-In, flat_map, flat_map-In, free_numbers, free_unlisted, grant_fault, grants_of, hold_numbers, hold_of, holder_of, index_sheets, inl, inr, is_among, is_among-not, is_core, is_hold, is_out, is_read, is_some, is_write, lacks_parent, le-leb, length, lent_by, lent_file, lent_met, lent_numbers, lent_sheet, lt-ltb, ltb-false, map, map-In, map-append, map-map, met_at, nat_le, nat_lt, node_by, node_is, not, not-true, not_from_false, numbers_of_file, numbers_to, opened, option_map, out_of, owner_of, pages_are, pages_of, pages_out, plain, refl, row_at, settled, settled_body, settled_chain, sheet_numbers, sheets_untouched, shown_of, sizes_of, slice_get, slice_index, states_are_trees, subst, suc, survey, sym, tables, tabulated-get, tabulated-length, take, true, untouched, write_is, writer_of, zero, ℕ}
use Rattle.trio_lists.proofs.New.{are_new-beside, are_new-fewer, are_new-take}
use Rattle.trio_state.specs.Allotments.{free_pages}
use Rattle.trio_laws.proofs.Allots.{number_free, page_free}
use Rattle.trio_ctl.proofs.DeskGiven.{behind}
use Rattle.trio_ctl.proofs.DeskOuts.{numbers_to-In}
use Rattle.trio_ctl.proofs.WellLent.{good_body, numbers_are, well_lent}

-- ---- grants

denied_none : (d : Option ℕ) (o : Option GrantFault) → denied_or d o ≡ None → o ≡ None
denied_none None o e = e
denied_none (Some n) o e = absurd cc

map_none : {X Y : Type 0} (f : X → Y) (o : Option X) → option_map f o ≡ None → o ≡ None
map_none f None e = refl
map_none f (Some x) e = absurd cc

no_first : {X : Type 0} (xs : List X) (x : X) → slice_get xs 0 ≡ None → In x xs → ⊥
no_first [] x e i = i
no_first (y ∷ ys) x e i = absurd cc

past_live : (live : Bool) (o : Option GrantFault) → live ≡ true → cond (not live) (Some NotLive) o ≡ None → o ≡ None
past_live true o l e = e
past_live false o l e = absurd (false≢true l)

past_parent : (lacks : Bool) (o : Option GrantFault) → cond lacks (Some NoParent) o ≡ None → o ≡ None
past_parent true o e = absurd cc
past_parent false o e = e

-- a grant of any kind is excluded by each of the same library
own_excludes : (kind there : GrantKind) → excludes_kind kind there true ≡ true
own_excludes Read Read = refl
own_excludes Read Write = refl
own_excludes Read Hold = refl
own_excludes Write there = refl
own_excludes Hold there = refl

-- and by each that writes
write_excludes : (kind there : GrantKind) (own : Bool) → there ≡ Write → excludes_kind kind there own ≡ true
write_excludes Read there own e = ap (λ t. excludes_kind Read t own) e
write_excludes Write there own e = refl
write_excludes Hold there own e = refl

-- a grant is given only where no grant on the file excludes it
none_excludes : (s : State) (lib ino : ℕ) (kind : GrantKind) (r : Row) → row_at s.home ino ≡ Some r → grant_fault s lib ino kind ≡ None → (h : OpenGrant) → In h s.open_grants → excludes_kind kind h.kind (h.lib == lib) ≡ true → h.ino ≡ ino → ⊥
none_excludes s lib ino kind r row none h i excludes e =
    let busy : Option GrantFault = option_map (λ (g : OpenGrant). Busy (holder_of g)) (slice_get (excluding s lib ino kind) 0) in
    let rest : Option GrantFault = cond (lacks_parent s lib ino kind) (Some NoParent) busy in
    let asked : denied_or (denied_by s lib ino kind) rest ≡ None = past_live (is_some (row_at s.home ino)) (denied_or (denied_by s lib ino kind) rest) (ap is_some row) none in
    no_first (excluding s lib ino kind) h
    (map_none (λ (g : OpenGrant). Busy (holder_of g)) (slice_get (excluding s lib ino kind) 0)
    (past_parent (lacks_parent s lib ino kind) busy (denied_none (denied_by s lib ino kind) rest asked)))
    (In-filter (λ (g : OpenGrant). g.ino == ino && excludes_kind kind g.kind (g.lib == lib)) h s.open_grants i
    (and_from (h.ino == ino) (excludes_kind kind h.kind (h.lib == lib)) (eq-eqb h.ino ino e) excludes))

none_open : (s : State) (lib ino : ℕ) (kind : GrantKind) (r : Row) → row_at s.home ino ≡ Some r → grant_fault s lib ino kind ≡ None → (h : OpenGrant) → In h s.open_grants → h.lib ≡ lib → h.ino ≡ ino → ⊥
none_open s lib ino kind r row none h i l e = none_excludes s lib ino kind r row none h i (ap (excludes_kind kind h.kind) (eq-eqb h.lib lib l) ∙ own_excludes kind h.kind) e

none_writes : (s : State) (lib ino : ℕ) (kind : GrantKind) (r : Row) → row_at s.home ino ≡ Some r → grant_fault s lib ino kind ≡ None → (h : OpenGrant) → In h s.open_grants → h.kind ≡ Write → h.ino ≡ ino → ⊥
none_writes s lib ino kind r row none h i w e = none_excludes s lib ino kind r row none h i (write_excludes kind h.kind (h.lib == lib) w) e

-- none that is seen of the library's grants of a kind is on the file
none_seen : {Y : Type 0} (v : OpenGrant → Y) (number : Y → ℕ) (is_kind : GrantKind → Bool) (s : State) (lib : LibNo) (ino : ℕ) → ((g : OpenGrant) → number (v g) ≡ g.ino)
    → ((h : OpenGrant) → In h s.open_grants → h.lib ≡ lib.0 → h.ino ≡ ino → ⊥) → In ino (map number (map v (grants_of is_kind lib s.open_grants))) → ⊥
none_seen v number is_kind s lib ino numbered none i =
    let m = map-In number ino (map v (grants_of is_kind lib s.open_grants)) i in
    let w = behind v is_kind s lib m.0 m.1 in
    none w.grant w.is_open w.lib (sym (numbered w.grant) ∙ sym (ap number w.is) ∙ sym m.2)

-- nothing is out to the library on the file
none_out : (s : State) (lib : LibNo) (ino : ℕ) → ((h : OpenGrant) → In h s.open_grants → h.lib ≡ lib.0 → h.ino ≡ ino → ⊥) → In ino (files_out (out_of s lib)) → ⊥
none_out s lib ino none i =
    let out = out_of s lib in
    let writes = map (λ (w : Shown). w.ino) out.writes in
    let reads = map (λ (r : Shown). r.ino) out.reads in
    elim (In-cases ino (writes ++ reads) (hold_numbers out.holds) i) [
      | inl a ↦ elim (In-cases ino writes reads a) [
        | inl w ↦ none_seen shown_of (λ (w : Shown). w.ino) is_write s lib ino (λ g. refl) none w
        | inr r ↦ none_seen shown_of (λ (w : Shown). w.ino) is_read s lib ino (λ g. refl) none r
      ]
      | inr h ↦ none_seen hold_of (λ (h : HoldParts). h.ino) is_hold s lib ino (λ g. refl) none h
    ]

-- the pages that a grant lent, by its lease
shown_numbers : (g : OpenGrant) → numbers_of_file (shown_of g) ≡ sheet_numbers (g.index ++ g.blocks)
shown_numbers g =
    ap (λ ns. ns ++ lent_numbers (map untouched g.blocks)) (untouched_numbers g.index) ∙ ap (λ ns. sheet_numbers g.index ++ ns) (untouched_numbers g.blocks)
    ∙ sym (map-append (λ (x : Sheet). x.page) g.index g.blocks)
  where
    untouched_numbers : (xs : List Sheet) → lent_numbers (map untouched xs) ≡ sheet_numbers xs
    untouched_numbers xs = map-map (λ (p : LentPage). p.no.0) untouched xs

module _ (s : State) (lib : LibNo) (ino : ℕ) (kind : GrantKind) (r : Row) (k : Kept s) (row : row_at s.home ino ≡ Some r) (none : grant_fault s lib.0 ino kind ≡ None) where
  abbrev chain : Result Chain Location
  chain = settled_chain (settled s) r.kind ino

  -- a lease of the file's pages
  module _ (f : Shown) (of : f.kind ≡ r.kind) (body : f.body ≡ settled_body (settled s) ino) (index : map lent_sheet f.index ≡ index_sheets (settled s).core chain) (blocks : map lent_sheet f.blocks ≡ block_sheets (settled s).core chain) where
    well : IsWellLent (sizes_of s) f
    well = well_lent s k ino r row (none_writes s lib.0 ino kind r row none) f of body index blocks

    -- its pages are none that are out to be written
    apart : (n : ℕ) → In n (numbers_of_file f) → In n (pages_out (out_of s lib)) → ⊥
    apart n i j =
        let core = (settled s).core in
        let file = met_at (settled s) k.fit k.verifies ino r row in
        let own : In n (file.file.chain.index ++ file.file.chain.blocks) = subst (λ ns. In n ns) (numbers_are s k ino r row (none_writes s lib.0 ino kind r row none) f of body index blocks) i in
        let listed : In n (pages_of core file.met) = subst (λ ns. In n ns) (sym (pages_are core file.met file.file file.read)) own in
        elim (In-cases n (flat_map numbers_of_file (out_of s lib).writes) (out_of s lib).pages j) [
          | inl lent ↦
              (let w = flat_map-In numbers_of_file n (out_of s lib).writes lent in
              let b = behind shown_of is_write s lib w.0 w.1 in
              let there : In n (sheet_numbers (b.grant.index ++ b.grant.blocks)) = subst (λ ns. In n ns) (ap numbers_of_file b.is ∙ shown_numbers b.grant) w.2 in
              none_writes s lib.0 ino kind r row none b.grant b.is_open (write_is b.grant.kind b.kind) (lent_file s k file.met n b.grant file.stands listed b.is_open (write_is b.grant.kind b.kind) there ∙ file.number))
          | inr given ↦
              free_unlisted core plain k.fit k.verifies.sound (settled s) (tables s k) n (k.out_free n (ap is_some (numbers_to-In s.pages_out lib.0 n given))) file.met file.stands listed
        ]

pub fresh_lease : (s : State) (lib : LibNo) (ino : ℕ) (kind : GrantKind) (r : Row) → Kept s → row_at s.home ino ≡ Some r → grant_fault s lib.0 ino kind ≡ None → IsFreshLease lib ino (sizes_of s) (out_of s lib) (lent_by (opened s lib.0 ino kind r))
fresh_lease s lib ino Write r k row none =
    let f : Shown = shown_of (opened s lib.0 ino Write r) in
    let core = (settled s).core in
    let chain = settled_chain (settled s) r.kind ino in
    record {
      is = record {
        lib = refl;
        ino = refl;
        as_lent = refl;
        well = well s lib ino Write r k row none f refl refl (sheets_untouched (index_sheets core chain)) (sheets_untouched (block_sheets core chain));
        apart = apart s lib ino Write r k row none f refl refl (sheets_untouched (index_sheets core chain)) (sheets_untouched (block_sheets core chain));
      };
      new = none_out s lib ino (none_open s lib.0 ino Write r row none);
    }
fresh_lease s lib ino Read r k row none =
    let f : Shown = shown_of (opened s lib.0 ino Read r) in
    let core = (settled s).core in
    let chain = settled_chain (settled s) r.kind ino in
    record {
      is = (refl, refl, well s lib ino Read r k row none f refl refl (sheets_untouched (index_sheets core chain)) (sheets_untouched (block_sheets core chain)));
      new = none_out s lib ino (none_open s lib.0 ino Read r row none);
    }
fresh_lease s lib ino Hold r k row none = record {
  is = (refl, refl, good_body s k ino r row);
  new = none_out s lib ino (none_open s lib.0 ino Hold r row none);
}

-- ---- allotments

pub take-In : (n : ℕ) (xs : List ℕ) (x : ℕ) → In x (take n xs) → In x xs
take-In zero xs x i = absurd i
take-In (suc n) [] x i = i
take-In (suc n) (y ∷ ys) x (inl e) = inl e
take-In (suc n) (y ∷ ys) x (inr i) = inr (take-In n ys x i)

filter_new : (p : ℕ → Bool) (seen xs : List ℕ) → are_new seen xs ≡ true → are_new seen (filter p xs) ≡ true
filter_new p seen [] h = refl
filter_new p seen (x ∷ xs) h =
    let parts = and_parts (not (is_among x seen)) (are_new (seen ++ x ∷ []) xs) h in
    elim (cases_Bool (p x)) [
      | inl t ↦ rw t (and_from (not (is_among x seen)) (are_new (seen ++ x ∷ []) (filter p xs)) parts.0 (filter_new p (seen ++ x ∷ []) xs parts.1))
      | inr f ↦ rw f (filter_new p seen xs (are_new-fewer seen (seen ++ x ∷ []) xs (λ m i. In-left m seen (x ∷ []) i) parts.1))
    ]

count_new : (from n : ℕ) (seen : List ℕ) → ((x : ℕ) → In x seen → x < from) → are_new seen (count_up from n) ≡ true
count_new from zero seen below = refl
count_new from (suc n) seen below =
    let new : is_among from seen ≡ false = is_among-not from seen (λ i. let l = below from i in absurd (omega (arith, l))) in
    and_from (not (is_among from seen)) (are_new (seen ++ from ∷ []) (count_up (suc from) n)) (not_from_false (is_among from seen) new)
    (count_new (suc from) n (seen ++ from ∷ [])
    (λ x i. elim (In-cases x seen (from ∷ []) i) [
      | inl a ↦ (let l = below x a in omega (arith, l))
      | inr b ↦ elim b [ inl e ↦ omega (arith, e) | inr k ↦ absurd k ]
    ]))

-- numbers that may go out: each has its place, none is out to the library, and none stands twice
pub record MayGoOut (outs : List (Option LibNo)) (lib : ℕ) (ns : List ℕ) : Type 0 where
  pub placed : (n : ℕ) → In n ns → n < length outs
  pub new : are_new (numbers_to outs lib) ns ≡ true

-- the first of what is counted up and isn't out
free_may : (outs : List (Option LibNo)) (lib : ℕ) (test : ℕ → Bool) (from n count : ℕ) → from + n ≤ length outs → MayGoOut outs lib (take count (filter (λ x. test x && not (is_out outs x)) (count_up from n)))
free_may outs lib test from n count fits =
    let free : List ℕ = filter (λ x. test x && not (is_out outs x)) (count_up from n) in
    let member : (x : ℕ) → In x (take count free) → In x (count_up from n) × ((test x && not (is_out outs x)) ≡ true) =
    λ x i. filter-In (λ y. test y && not (is_out outs y)) x (count_up from n) (take-In count free x i) in
    let once : are_new [] (take count free) ≡ true = are_new-take count [] free (filter_new (λ x. test x && not (is_out outs x)) [] (count_up from n) (count_new from n [] (λ x i. absurd i))) in
    record {
      placed = λ x i. (let lt = (count_from from n x (member x i).0).1 in omega (arith, lt, fits));
      new =
          ap (λ l. are_new l (take count free)) (sym (append-nil (numbers_to outs lib)))
          ∙ are_new-beside (numbers_to outs lib) [] (take count free) once
          (λ x i j. both_ways (is_out outs x) (not-true (is_out outs x) (and_parts (test x) (not (is_out outs x)) (member x i).1).1) (ap is_some (numbers_to-In outs lib x j)));
    }

pub pages_may : (s : State) (lib : LibNo) (count : ℕ) → Kept s → MayGoOut s.pages_out lib.0 (take count (free_pages s))
pages_may s lib count k =
    let long : length s.home.owners ≡ s.home.core.range.end = ap length k.verifies.owners ∙ tabulated-length _ s.home.core.range.end in
    let placed = k.pages_placed in
    free_may s.pages_out lib.0 (λ n. slice_index s.home.owners n == 0) 0 (length s.home.owners - 0) count (omega (arith, long, placed))

pub numbers_may : (s : State) (lib : LibNo) (many : ℕ) → Kept s → MayGoOut s.numbers_out lib.0 (take many (free_numbers s))
numbers_may s lib many k =
    let long : length s.home.rows ≡ s.home.core.inodes + 1 = ap length k.verifies.rows ∙ tabulated-length _ (s.home.core.inodes + 1) in
    let placed = k.numbers_placed in
    free_may s.numbers_out lib.0 (λ n. not (is_some (row_at s.home n))) 1 (length s.home.rows - 1) many (omega (arith, long, placed))

-- what may go out lies on core pages, and has no number of the root
module _ (s : State) (lib : LibNo) (k : Kept s) where
  -- a page that nobody owns is a core page
  free_core : (n : ℕ) → n < length s.home.owners → slice_index s.home.owners n ≡ 0 → is_core s.home.core.range n ≡ true
  free_core n lt free =
      let range = s.home.core.range in
      let owner : ℕ → ℕ = λ page. if nat_lt page range.first then 0xFFFFFFFF else owner_of (settled s).core (survey (settled s).core plain) page in
      let long : length s.home.owners ≡ range.end = ap length k.verifies.owners ∙ tabulated-length owner range.end in
      let below : n < range.end = omega (arith, lt, long) in
      let at : owner n ≡ 0 = sym (tabulated-get owner range.end n 0 below) ∙ ap (λ (l : List ℕ). slice_index l n) (sym k.verifies.owners) ∙ free in
      elim (cases_Bool (nat_lt n range.first)) [
        | inl low ↦
            (let wrong : 0xFFFFFFFF ≡ 0 = sym (ap (λ t. if t then 0xFFFFFFFF else owner_of (settled s).core (survey (settled s).core plain) n) low) ∙ at in
            absurd (omega (arith, wrong)))
        | inr high ↦
            (let from = ltb-false n range.first high in
            and_from (nat_le range.first n) (nat_lt n range.end) (le-leb range.first n from) (lt-ltb n range.end below))
      ]

  -- the root is live
  root_live : row_at s.home 1 ≡ None → ⊥
  root_live dead =
      let r = (states_are_trees s k).root in
      let wrong : None ≡ Some r.0 = sym (ap (node_by (settled s) 1 (writer_of s 1)) dead) ∙ sym (node_is s k 1) ∙ r.1 in
      cc wrong

  module _ (count : ℕ) where
    abbrev ps : List ℕ
    ps = take count (free_pages s)

    pub pages_core : (n : ℕ) → In n ps → is_core s.home.core.range n ≡ true
    pages_core n i =
        let f = filter-In (λ x. slice_index s.home.owners x == 0 && not (is_out s.pages_out x)) n (count_up 0 (length s.home.owners - 0)) (take-In count (free_pages s) n i) in
        let b = (count_from 0 (length s.home.owners - 0) n f.0).1 in
        free_core n (omega (arith, b)) (page_free s lib.0 count 0 n i).0

    -- and no grant lent one of them for writing
    pub pages_new : are_new (pages_out (out_of s lib)) ps ≡ true
    pages_new = are_new-beside (flat_map numbers_of_file (out_of s lib).writes) (out_of s lib).pages ps (pages_may s lib count k).new lent
      where
        lent : (n : ℕ) → In n ps → In n (flat_map numbers_of_file (out_of s lib).writes) → ⊥
        lent n i j =
            let w = flat_map-In numbers_of_file n (out_of s lib).writes j in
            let b = behind shown_of is_write s lib w.0 w.1 in
            let kind = write_is b.grant.kind b.kind in
            let there : In n (sheet_numbers (b.grant.index ++ b.grant.blocks)) = subst (λ ns. In n ns) (ap numbers_of_file b.is ∙ shown_numbers b.grant) w.2 in
            let l = k.lent b.grant b.is_open kind in
            free_unlisted (settled s).core plain k.fit k.verifies.sound (settled s) (tables s k) n (page_free s lib.0 count 0 n i).0 l.met l.stands (lent_met s k b.grant b.is_open kind n there)

  pub numbers_range : (many n : ℕ) → In n (take many (free_numbers s)) → (2 ≤ n) × (n ≤ s.home.core.inodes)
  numbers_range many n i =
      let f = filter-In (λ x. not (is_some (row_at s.home x)) && not (is_out s.numbers_out x)) n (count_up 1 (length s.home.rows - 1)) (take-In many (free_numbers s) n i) in
      let b = count_from 1 (length s.home.rows - 1) n f.0 in
      let low = b.0 in
      let high = b.1 in
      let long : length s.home.rows ≡ s.home.core.inodes + 1 = ap length k.verifies.rows ∙ tabulated-length _ (s.home.core.inodes + 1) in
      let dead = (number_free s lib.0 0 many n i).0 in
      let other : n ≢ 1 = λ one. root_live (ap (row_at s.home) (sym one) ∙ dead) in
      (omega (arith, low, other), omega (arith, high, long))

  -- and nothing is out on one of them: what is out is live
  pub numbers_unlent : (many n : ℕ) → In n (take many (free_numbers s)) → In n (files_out (out_of s lib)) → ⊥
  numbers_unlent many n i =
      none_out s lib n (λ h o l e.
      both_ways (is_some (row_at s.home h.ino)) (ap is_some (ap (row_at s.home) e ∙ (number_free s lib.0 0 many n i).0)) (k.live h o))
