-- What a look-up finds.
use Rattle.trio_walk.proofs.Words.{◌%◌, ◌/◌, ◌<◌, ◌||◌, ◌∙◌, ◌≡◌, ◌⊎◌, AboveIsOpen, ArePossible, Bool, Case, Creds, Denied, DeskSeen, Directory, EntryPart, Err, HoldParts, In, In-right, IsAmong, IsDirectory, IsLeaseIn, IsLive, IsMet, IsTree, IsView, IsWellLent, Kind, Link, List, Lists, LooksUp, MadeFile, MayLookIn, MayWalk, Met, Need, Node, Nodes, None, NotDir, NotFound, Ok, Option, Place, Regular, Result, Rights, Room, Row, SessionSeen, Shown, Shows, Some, ToRead, [], ap, arith, batch_nodes, block_shown, body_in_slot, cond, dir_pages, enter, enter_node, entries_shown, entry_in, entry_node, entry_shown, eqb, eqb-true, every_number, false, false≢true, find-In, find_named, find_named-Child, get_or, in_hand, inl, ino_numbers, inr, is_directory, is_some, kind_shown, lacks, lent_files, made_file, map-In, mapped, met_of, ne_eqb, node_at, not, number_shown, open_kind, option_and_then, option_map, option_map_or, option_or, or-true, parcel_case, permits, place_at, place_of, place_shown, read_file, refl, rights_at, rights_in, rights_of, slice_get-get_or, slot_bytes, slot_of, slot_with, slots_of, slots_shown, some_one, subst, sym, tree_stays_through, true, ℕ}
use Rattle.std.specs.Prelude.{IsSome}
use Rattle.trio_lists.proofs.Members.{option_and_then-Some}
use Rattle.trio_nodes.specs.declared.call.Reply.{Reply}
use Rattle.trio_laws.proofs.session.Sees as sees
use Rattle.trio_laws.proofs.session.Spares.{shown_spares}
use Rattle.trio_walk.specs.Walks.{FindsEntry}
use Rattle.trio_walk.specs.inner.Steps.{met_in}
use Rattle.trio_walk.proofs.Denials.{above_child, new_number, placed_same, rights_kept}
use Rattle.trio_walk.proofs.Listing.{SeesIn, block_of_entry, entry_of_block, lease_sees, shown_listed}
use Rattle.trio_walk.proofs.Opened.{IsSeenBy, dir_seen, read_seen}
use Rattle.trio_walk.proofs.Slots.{spot}

-- indexes, look-ups and room change nothing of what a session may
pub may_but : (desk : DeskSeen) (s : SessionSeen) (i : List ℕ) (k : ℕ) (r : Room) → MayWalk desk s → MayWalk desk (record s { indexed = i; finds = k; room = r })
may_but desk s i k r may = record {
  on = record { lib = may.on.lib; creds = may.on.creds; out = may.on.out; writes = may.on.writes; reads = may.on.reads; core = may.on.core };
  comes = may.comes;
  order = may.order;
  alone = may.alone;
  kinds = may.kinds;
  sees = λ d e nodes rows p. (let o = may.sees d e nodes rows p in record { rights = o.rights; named = o.named; entries = o.entries; made = o.made });
  numbers = may.numbers;
  beside = may.beside;
  own = may.own;
  pages = may.pages;
  made = may.made;
  held = may.held;
}

-- a directory that is entered is a node that gives what is needed
pub entered_node : (creds : Creds) (need : Need) (n k : ℕ) (o : Option Node) → enter_node creds need n o ≡ Ok k → (x : Node) × (o ≡ Some x) × (x.kind ≡ Directory) × (lacks creds need x ≡ false)
entered_node creds need n k None h = (let wrong : Err NotFound ≡ Ok k = h in absurd (cc wrong))
entered_node creds need n k (Some x) h = by x.kind refl (lacks creds need x) refl h
  where
    by : (kind : Kind) → x.kind ≡ kind → (b : Bool) → lacks creds need x ≡ b → enter_node creds need n (Some x) ≡ Ok k → (y : Node) × (Some x ≡ Some y) × (y.kind ≡ Directory) × (lacks creds need y ≡ false)
    by Regular e b l q =
        let wrong : Err NotDir ≡ Ok k = sym (ap (λ z. cond {A = Result ℕ Reply} (not (is_directory z)) (Err NotDir) (cond {A = Result ℕ Reply} (lacks creds need x) (Err Denied) (Ok n))) e) ∙ q in absurd (cc wrong)
    by Link e b l q =
        let wrong : Err NotDir ≡ Ok k = sym (ap (λ z. cond {A = Result ℕ Reply} (not (is_directory z)) (Err NotDir) (cond {A = Result ℕ Reply} (lacks creds need x) (Err Denied) (Ok n))) e) ∙ q in absurd (cc wrong)
    by Directory e true l q =
        let wrong : Err Denied ≡ Ok k =
        sym (ap (λ z. cond {A = Result ℕ Reply} (not (is_directory z)) (Err NotDir) (cond {A = Result ℕ Reply} (lacks creds need x) (Err Denied) (Ok n))) e
        ∙ ap (λ z. cond {A = Result ℕ Reply} z (Err Denied) (Ok n)) l) ∙ q in absurd (cc wrong)
    by Directory e false l q = (x, refl, e, l)

-- what is seen in a directory that a session has, and the files that it made there
pub record SeesHere (s : SessionSeen) (d : ℕ) (now : Nodes) : Type 0 where
  pub sees : SeesIn s d now
  pub made :
      (place : Place) (e : EntryPart) → place.slot < 16 → entry_shown s d place ≡ Some e
      → In e.ino (ino_numbers s.parcel.inodes) → is_some (made_file s e.ino) ≡ true

-- ---- the nodes that are shown

module _ (desk : DeskSeen) (s : SessionSeen) (may : MayWalk desk s) (nodes : Nodes) (rows : List (Option Row)) (p : ArePossible desk s.parcel s.reads nodes rows) where
  abbrev now : Nodes
  now = batch_nodes desk.creds s.calls nodes

  abbrev c : Case
  c = parcel_case desk.sizes desk.creds rows s.parcel

  pub tree_now : IsTree (batch_nodes desk.creds s.calls nodes)
  tree_now = tree_stays_through nodes desk.creds s.calls p.tree (may.comes nodes rows p).0

  shows : Shows (parcel_case desk.sizes desk.creds rows s.parcel) nodes (batch_nodes desk.creds s.calls nodes)
  shows = (may.comes nodes rows p).1

  among : IsAmong (parcel_case desk.sizes desk.creds rows s.parcel) nodes
  among = may.order.among nodes rows p

  pub rights_now : (n : ℕ) (x y : Node) → node_at nodes n ≡ Some x → node_at (batch_nodes desk.creds s.calls nodes) n ≡ Some y → rights_of y ≡ rights_of x
  rights_now n x y e f = rights_kept x y ((shown_spares c nodes now p.tree tree_now among shows).0 n x y e f)

  pub view : IsView desk (in_hand s) (in_hand s) nodes (batch_nodes desk.creds s.calls nodes) rows
  view = record { order = may.order; more = λ ns rs q. q; shows = record { possible = p; tree = tree_now; shows = shows } }

  -- no node has the number 0
  pub not_zero : (n : ℕ) (y : Node) → node_at (batch_nodes desk.creds s.calls nodes) n ≡ Some y → n ≡ 0 → ⊥
  not_zero n y e z = (let wrong : None ≡ Some y = sym tree_now.none ∙ ap (node_at now) (sym z) ∙ e in cc wrong)

  -- a file that was made isn't live at the desk
  pub made_new : (n : ℕ) → is_some (made_file s n) ≡ true → node_at nodes n ≡ None
  made_new n t = by (made_file s n) refl t
    where
      by : (o : Option MadeFile) → made_file s n ≡ o → is_some (made_file s n) ≡ true → node_at nodes n ≡ None
      by None e q = absurd (false≢true (sym (ap is_some e) ∙ q))
      by (Some m) e q =
          let f = find-In (λ (x : MadeFile). eqb x.ino n) s.made m e in
          ap (node_at nodes) (sym (eqb-true m.ino n f.1)) ∙ p.none m.ino (may.made m f.0)

  -- ---- a directory that is read

  module _ (d : ℕ) (f : Shown) (closed : open_kind s d ≡ None) (is : read_file s d ≡ Some f) (dir : f.kind ≡ Directory) where
    lease : In f s.reads × (eqb f.ino d ≡ true)
    lease = find-In (λ (x : Shown). eqb x.ino d) s.reads f is

    number : f.ino ≡ d
    number = eqb-true f.ino d lease.1

    lease_in : IsLeaseIn (in_hand s) f
    lease_in = In-right f (lent_files s.parcel.writes) s.reads lease.0

    well : IsWellLent desk.sizes f
    well = may.on.reads f lease.0

    seen : IsSeenBy s d (dir_pages f)
    seen = read_seen s d f closed is dir

    read_sees : SeesHere s d (batch_nodes desk.creds s.calls nodes)
    read_sees = record {
      sees =
          lease_sees desk.sizes f dir well s d seen now tree_now
          (subst (λ k. Lists now k (entries_shown desk.sizes f)) number (sees.sees_lent desk (in_hand s) (in_hand s) nodes now rows f view lease_in (may.alone f lease.0) well))
          (λ l x i e. sees.sees_entry_rights desk (in_hand s) (in_hand s) nodes now rows f l x view lease_in well i e);
      made = λ place e lt entry i.
          let b = block_of_entry s d place e entry in
          let l = shown_listed desk.sizes f dir well s d seen place e b.0 lt b.1 entry in
          let x = entry_node desk.sizes f well rows (λ k j. p.places f k lease_in j) nodes (p.agrees.files f lease_in) l.0 l.1 in
          let none : node_at nodes l.0.entry.ino ≡ None = ap (λ (y : EntryPart). node_at nodes y.ino) l.2 ∙ p.none e.ino i in
          let wrong : Some x.0 ≡ None = sym x.1 ∙ none in absurd (cc wrong);
    }

  -- a directory that the session has
  pub sees_here : (d : ℕ) → kind_shown s d ≡ Some Directory → SeesHere s d (batch_nodes desk.creds s.calls nodes)
  sees_here d h = by (open_kind s d) refl
    where
      kind_by : (o : Option Kind) → open_kind s d ≡ o → option_or o (option_map (λ (x : Shown). x.kind) (read_file s d)) ≡ Some Directory
      kind_by o e = sym (ap (λ q. option_or q (option_map (λ (x : Shown). x.kind) (read_file s d))) e) ∙ h

      by_read : open_kind s d ≡ None → (o : Option Shown) → read_file s d ≡ o → SeesHere s d (batch_nodes desk.creds s.calls nodes)
      by_read closed None e = (let wrong : None ≡ Some Directory = sym (ap (option_map (λ (x : Shown). x.kind)) e) ∙ kind_by None closed in absurd (cc wrong))
      by_read closed (Some f) e = (let same : Some f.kind ≡ Some Directory = sym (ap (option_map (λ (x : Shown). x.kind)) e) ∙ kind_by None closed in read_sees d f closed e (cc same))

      by : (o : Option Kind) → open_kind s d ≡ o → SeesHere s d (batch_nodes desk.creds s.calls nodes)
      by (Some Directory) e = (let o = may.sees d e nodes rows p in record { sees = record { named = o.named; entries = o.entries }; made = o.made })
      by (Some Regular) e = (let wrong : Some Regular ≡ Some Directory = kind_by (Some Regular) e in absurd (cc wrong))
      by (Some Link) e = (let wrong : Some Link ≡ Some Directory = kind_by (Some Link) e in absurd (cc wrong))
      by None e = by_read e (read_file s d) refl

  -- ---- a child of a directory that may be looked in

  module _ (d : ℕ) (gives : enter (batch_nodes desk.creds s.calls nodes) desk.creds ToRead d ≡ Ok d) (above : (is_some (made_file s d) ≡ true) ⊎ AboveIsOpen nodes desk.creds d) where
    entered : (x : Node) × (node_at (batch_nodes desk.creds s.calls nodes) d ≡ Some x) × (x.kind ≡ Directory) × (lacks desk.creds ToRead x ≡ false)
    entered = entered_node desk.creds ToRead d d (node_at now d) gives

    some_dir : d ≡ 0 → ⊥
    some_dir z = not_zero d entered.0 entered.1 z

    module _ (n : ℕ) (y : Node) (at : node_at (batch_nodes desk.creds s.calls nodes) n ≡ Some y) (parent : y.parent ≡ d) (numbered : In n (ino_numbers s.parcel.inodes) → is_some (made_file s n) ≡ true) where
      pub not_root : n ≡ 1 → ⊥
      not_root z =
          let r = tree_now.root in
          let same : y ≡ r.0 = some_one (node_at now n) y r.0 at (ap (node_at now) z ∙ r.1) in
          some_dir (sym parent ∙ ap (λ (q : Node). q.parent) same ∙ r.3)

      dir_there : (x : Node) → node_at nodes n ≡ Some x → x.parent ≡ d → (o : Option Node) → node_at nodes d ≡ o → IsDirectory o → AboveIsOpen nodes desk.creds n
      dir_there x e same None h k = absurd k
      dir_there x e same (Some z) h k =
          let open_above : AboveIsOpen nodes desk.creds d =
          elim above [ inl m ↦ (let wrong : Some z ≡ None = sym h ∙ made_new d m in absurd (cc wrong)) | inr a ↦ a ] in
          let rights : rights_of entered.0 ≡ rights_of z = rights_now d z entered.0 h entered.1 in
          let reads : lacks desk.creds ToRead z ≡ false = ap (λ (r : Rights). not (permits desk.creds r.kind r.mode r.uid r.gid ToRead)) (sym rights) ∙ entered.3 in
          above_child nodes desk.creds d n z x some_dir h e same reads open_above

      above_it : (x : Node) → node_at nodes n ≡ Some x → AboveIsOpen nodes desk.creds n
      above_it x e =
          elim (placed_same c nodes now p.tree tree_now among shows n x y e at) [
            | inr held ↦
                let h = map-In (λ (k : HoldParts). k.ino) n s.parcel.holds held in
                subst (λ k. AboveIsOpen nodes desk.creds k) (sym h.2) (may.held h.0 nodes rows h.1 p)
            | inl stays ↦
                let same : x.parent ≡ d = sym stays ∙ parent in
                dir_there x e same (node_at nodes d) refl (subst (λ k. IsDirectory (node_at nodes k)) same (p.tree.parents n x e not_root))
          ]

      pub child_lives : (is_some (made_file s n) ≡ true) ⊎ IsLive nodes desk.creds n y
      child_lives = by (node_at nodes n) refl
        where
          by : (o : Option Node) → node_at nodes n ≡ o → (is_some (made_file s n) ≡ true) ⊎ IsLive nodes desk.creds n y
          by None e = inl (numbered (new_number c nodes now p.tree tree_now among shows n y e at))
          by (Some x) e = inr (record { node = x; there = e; same = rights_now n x y e at; above = above_it x e })

-- ---- look-ups

-- the parts of what is met
pub record MetBy (s : SessionSeen) (d : ℕ) (name : List ℕ) (m : Met) : Type 0 where
  pub place : Place
  pub at : place_shown s d name ≡ Some place
  pub entry : EntryPart
  pub says : entry_shown s d place ≡ Some entry
  pub page : List ℕ
  pub block : block_shown s d place.block ≡ Some page
  pub is : met_of place.slot entry page ≡ m

pub met_by : (s : SessionSeen) (d : ℕ) (name : List ℕ) (m : Met) → met_in s d name ≡ Some m → MetBy s d name m
met_by s d name m h =
    let a = option_and_then-Some (λ (p : Place). option_and_then (λ e. option_map (met_of p.slot e) (block_shown s d p.block)) (entry_shown s d p)) (place_shown s d name) m h in
    let b = option_and_then-Some (λ e. option_map (met_of a.0.slot e) (block_shown s d a.0.block)) (entry_shown s d a.0) m a.2 in
    let q = mapped (met_of a.0.slot b.0) (block_shown s d a.0.block) m b.2 in
    record { place = a.0; at = a.1; entry = b.0; says = b.1; page = q.0; block = q.1; is = q.2 }

-- where a name stands there is an entry
pub entry_there : (s : SessionSeen) (d : ℕ) (name : List ℕ) (p : Place) → kind_shown s d ≡ Some Directory → place_shown s d name ≡ Some p → (e : EntryPart) × (entry_shown s d p ≡ Some e)
entry_there s d name p dir h =
    let q = dir_seen s d dir in
    let x = mapped place_at (slot_with name (slots_of every_number q.0)) p (sym (q.1.place name) ∙ h) in
    let sp = spot q.0 name x.0 x.1 in
    let block : block_shown s d (x.0 / 16) ≡ Some (get_or q.0 (x.0 / 16) []) = q.1.block (x.0 / 16) ∙ slice_get-get_or q.0 (x.0 / 16) [] sp.block in
    (sp.entry, subst (λ (z : Place). entry_shown s d z ≡ Some sp.entry) x.2 (entry_of_block s d (place_at x.0) (get_or q.0 (x.0 / 16) []) block ∙ ap entry_in sp.says))

-- only a directory has names
listed_directory : (k : Option Kind) (slots : List (Option (List ℕ))) (name : List ℕ) (p : Place) → place_of k slots name ≡ Some p → k ≡ Some Directory
listed_directory (Some Directory) slots name p h = refl
listed_directory (Some Regular) slots name p h = absurd cc
listed_directory (Some Link) slots name p h = absurd cc
listed_directory None slots name p h = absurd cc

-- so the slot of a name that stands in a directory has an entry
pub there_entry : (s : SessionSeen) (d : ℕ) (name : List ℕ) (p : Place) (page : List ℕ) → place_shown s d name ≡ Some p → block_shown s d p.block ≡ Some page → IsSome (entry_in (slot_of every_number (slot_bytes p.slot page)))
there_entry s d name p page h block =
    let by = listed_directory (kind_shown s d) (slots_shown s d) name p h in
    let x = entry_there s d name p by h in
    let says : entry_in (slot_of every_number (slot_bytes p.slot page)) ≡ Some x.0 =
    sym (ap (option_and_then (λ bytes. entry_in (slot_of every_number (slot_bytes p.slot bytes)))) block) ∙ x.1 in
    subst IsSome (sym says) refl

-- what is met is an entry that a slot shows
pub finds_entry : (s : SessionSeen) (d : ℕ) (name : List ℕ) → kind_shown s d ≡ Some Directory → (o : Option Met) → met_in s d name ≡ o → FindsEntry s d name o
finds_entry s d name dir (Some m) h =
    let b = met_by s d name m h in
    (b.place, b.entry, b.at, b.says, sym (ap (λ (z : Met). z.ino) b.is), sym (ap (λ (z : Met). z.kind) b.is))
finds_entry s d name dir None h = by (place_shown s d name) refl
  where
    by : (o : Option Place) → place_shown s d name ≡ o → place_shown s d name ≡ None
    by None e = e
    by (Some p) e =
        let x = entry_there s d name p dir e in
        let b = block_of_entry s d p x.0 x.1 in
        let met : met_in s d name ≡ Some (met_of p.slot x.0 b.0) =
        ap (option_and_then (λ (z : Place). option_and_then (λ y. option_map (met_of z.slot y) (block_shown s d z.block)) (entry_shown s d z))) e
        ∙ ap (option_and_then (λ y. option_map (met_of p.slot y) (block_shown s d p.block))) x.1
        ∙ ap (option_map (met_of p.slot x.0)) b.1 in
        let wrong : None ≡ Some (met_of p.slot x.0 b.0) = sym h ∙ met in absurd (cc wrong)

-- a name stands in one of 16 slots of a block
pub slot_small : (s : SessionSeen) (d : ℕ) (name : List ℕ) (p : Place) → kind_shown s d ≡ Some Directory → place_shown s d name ≡ Some p → p.slot < 16
slot_small s d name p dir h =
    let by : option_map place_at (slot_with name (slots_shown s d)) ≡ Some p = sym (ap (λ k. place_of k (slots_shown s d) name) dir) ∙ h in
    let q = mapped place_at (slot_with name (slots_shown s d)) p by in
    let small : q.0 % 16 < 16 = omega arith in
    subst (λ (z : Place). z.slot < 16) q.2 small

module _ (desk : DeskSeen) (s : SessionSeen) (may : MayWalk desk s) (d : ℕ) (dir : kind_shown s d ≡ Some Directory) (list : MayLookIn desk s d) (name : List ℕ) (k : ℕ) where
  abbrev after : SessionSeen
  after = record s { finds = k }

  module _ (nodes : Nodes) (rows : List (Option Row)) (p : ArePossible desk s.parcel s.reads nodes rows) where
    abbrev nw : Nodes
    nw = batch_nodes desk.creds s.calls nodes

    here : SeesHere s d (batch_nodes desk.creds s.calls nodes)
    here = sees_here desk s may nodes rows p d dir

    named_by : (o : Option Place) → place_shown s d name ≡ o → find_named (batch_nodes desk.creds s.calls nodes) d name ≡ option_map (number_shown s d) o
    named_by o e = here.sees.named name ∙ ap (option_map (number_shown s d)) e

    -- no number is 0
    no_entry : (q : Place) → place_shown s d name ≡ Some q → entry_shown s d q ≡ None → ⊥
    no_entry q e none =
        let zero : find_named nw d name ≡ Some 0 = named_by (Some q) e ∙ ap (λ o. Some (option_map_or (λ (x : EntryPart). x.ino) o 0)) none in
        let child = find_named-Child nw d name 0 zero in
        not_zero desk s may nodes rows p 0 child.node child.at refl

    missed : met_in s d name ≡ None → find_named (batch_nodes desk.creds s.calls nodes) d name ≡ None
    missed h = by (place_shown s d name) refl
      where
        by_entry : (q : Place) → place_shown s d name ≡ Some q → (o : Option EntryPart) → entry_shown s d q ≡ o → find_named (batch_nodes desk.creds s.calls nodes) d name ≡ None
        by_entry q e None f = absurd (no_entry q e f)
        by_entry q e (Some x) f =
            let b = block_of_entry s d q x f in
            let met : met_in s d name ≡ Some (met_of q.slot x b.0) =
            ap (option_and_then (λ (z : Place). option_and_then (λ y. option_map (met_of z.slot y) (block_shown s d z.block)) (entry_shown s d z))) e
            ∙ ap (option_and_then (λ y. option_map (met_of q.slot y) (block_shown s d q.block))) f
            ∙ ap (option_map (met_of q.slot x)) b.1 in
            let wrong : None ≡ Some (met_of q.slot x b.0) = sym h ∙ met in absurd (cc wrong)

        by : (o : Option Place) → place_shown s d name ≡ o → find_named (batch_nodes desk.creds s.calls nodes) d name ≡ None
        by None e = named_by None e
        by (Some q) e = by_entry q e (entry_shown s d q) refl

    found : (m : Met) → MetBy s d name m → (shown : Bool) → IsMet shown (record s { finds = k }) nodes (batch_nodes desk.creds s.calls nodes) desk.creds m × (find_named (batch_nodes desk.creds s.calls nodes) d name ≡ Some m.ino)
    found m b shown =
        let lt = slot_small s d name b.place dir b.at in
        let rights = here.sees.entries b.place b.entry b.page lt b.block b.says in
        let x = mapped rights_of (node_at nw b.entry.ino) (rights_in b.entry.kind (body_in_slot b.place.slot b.page)) rights in
        let named : find_named nw d name ≡ Some b.entry.ino = named_by (Some b.place) b.at ∙ ap (λ o. Some (option_map_or (λ (z : EntryPart). z.ino) o 0)) b.says in
        let child = find_named-Child nw d name b.entry.ino named in
        let same : child.node ≡ x.0 = some_one (node_at nw b.entry.ino) child.node x.0 child.at x.1 in
        let parent : x.0.parent ≡ d = ap (λ (z : Node). z.parent) (sym same) ∙ child.parent in
        let gives = list.gives nodes rows p in
        let above = list.above nodes rows p in
        let numbered = here.made b.place b.entry lt b.says in
        let lives = child_lives desk s may nodes rows p d gives above b.entry.ino x.0 x.1 parent numbered in
        let no_root : eqb b.entry.ino 1 ≡ false = ne_eqb b.entry.ino 1 (not_root desk s may nodes rows p d gives above b.entry.ino x.0 x.1 parent numbered) in
        let met : IsMet shown (record s { finds = k }) nodes nw desk.creds (met_of b.place.slot b.entry b.page) = record {
          after = x.0;
          there_now = x.1;
          kind = ap (λ (r : Rights). r.kind) x.2;
          rights = (ap (λ (r : Rights). r.mode) x.2, ap (λ (r : Rights). r.uid) x.2, ap (λ (r : Rights). r.gid) x.2);
          known = ap (λ q. shown || not q) no_root ∙ or-true shown;
          live = lives;
        } in (
          subst (λ (z : Met). IsMet shown (record s { finds = k }) nodes nw desk.creds z) b.is met,
          named ∙ ap (λ (z : Met). Some z.ino) b.is,
        )

  pub looked_up : (o : Option Met) → met_in s d name ≡ o → LooksUp desk (record s { finds = k }) d name o
  looked_up None e = λ nodes rows p. missed nodes rows p e
  looked_up (Some m) e =
      let b = met_by s d name m e in (
        λ shown. record {
          root = λ none. (let wrong : Some (rights_at (body_in_slot b.place.slot b.page)) ≡ None = ap (λ (z : Met). z.rights) b.is ∙ none in absurd (cc wrong));
          met = λ nodes rows p. (found nodes rows p m b shown).0;
        },
        λ nodes rows p. (found nodes rows p m b true).1,
      )
