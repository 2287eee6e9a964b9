-- A directory that is taken for reading is had, and what the session shows of it is so in the nodes.
use Rattle.trio_calls_dir.proofs.Words.{◌++◌, ◌||◌, ◌∙◌, ◌∷◌, ◌≡◌, ArePossible, Bool, DeskSeen, Directory, EntryPart, HasRights, In, In-right, IsView, Kind, List, MayCall, Nodes, None, Ok, Option, Read, Row, SessionSeen, Shown, Some, [], ap, batch_nodes, body_in, body_shown, cond, count_in, entry_count, eqb, eqb-true, false, false≢true, filter, find-In, in_hand, is_some, kind_shown, length, map-append, map-map, names_here, node_at, open_kind, option_map, option_or, read_file, refl, rights_in, sees_directory, serves, shows_calls, slots_shown, subst, suc, sym, true, view_calls, ℕ}
use Rattle.std.proofs.Common.{map}
use Rattle.std.specs.Ordering.{is_le, nat_cmp}
use Rattle.std.specs.Cmp.Lexicographic.{slice_cmp}
use Rattle.std.proofs.lemmas.List.{length-map}
use Rattle.std.proofs.lemmas.List.Elements.{filter_map-append}
use Rattle.trio_lists.specs.Lists.{gathered, gathered_below}
use Rattle.trio_lists.specs.Sorting.{inserted_by_name, sorted_by_name}
use Rattle.trio_lists.proofs.Members.{both-Ok}
use Rattle.trio_layout.specs.Entries.{Listed, entries_on, slot_entries}
use Rattle.trio_lease.specs.declared.parts.LentPage.{LentPage}
use Rattle.trio_nodes.specs.Nodes.{entry_name, names_in}
use Rattle.trio_desk.specs.Contents.{entries_shown}
use Rattle.trio_desk.specs.Ready.{lent_files}
use Rattle.trio_laws.specs.session.DirCalls.{name_and_kind}
use Rattle.trio_laws.specs.session.Sees.{Lists}
use Rattle.trio_laws.proofs.session.DirNames.{names_in_order}
use Rattle.trio_laws.proofs.session.LentFiles.{lent_gathers}
use Rattle.trio_laws.proofs.session.Sees.{sees_lease, sees_lent}
use Rattle.trio_session.specs.Seen.{pages_shown}
use Rattle.trio_edit_laws.proofs.directories.Slotted.{length-present, page_parts, parts_of, present, slots_of-parts}
use Rattle.trio_session.proofs.Shows.{body_shown-open, body_shown-read}
use Rattle.trio_edit_laws.proofs.Had.{pages_shown-lent}
use Rattle.trio_session.specs.Deeds.{slots_of_page}

-- ---- what is had

-- a directory that is open, or is lent for reading
pub data IsReadBy (s : SessionSeen) (dir : ℕ) : Type 0 where
  AsOpen : open_kind s dir ≡ Some Directory → IsReadBy s dir
  AsLent : (f : Shown) → open_kind s dir ≡ None → read_file s dir ≡ Some f → f.kind ≡ Directory → IsReadBy s dir

pub read_by : (s : SessionSeen) (dir : ℕ) → serves s dir Read ≡ true → kind_shown s dir ≡ Some Directory → IsReadBy s dir
read_by s dir served kind = by_open (open_kind s dir) refl
  where
    by_read : (o : Option Shown) → open_kind s dir ≡ None → read_file s dir ≡ o → IsReadBy s dir
    by_read (Some f) none e =
        let is : Some f.kind ≡ Some Directory =
        sym (ap (λ (q : Option Kind). option_or q (option_map (λ (g : Shown). g.kind) (read_file s dir))) none ∙ ap (option_map (λ (g : Shown). g.kind)) e) ∙ kind in
        AsLent f none e (cc is)
    by_read None none e = absurd (false≢true (sym (ap (λ (q : Option Kind). is_some q || is_some (read_file s dir)) none ∙ ap is_some e) ∙ served))

    by_open : (o : Option Kind) → open_kind s dir ≡ o → IsReadBy s dir
    by_open (Some k) e =
        let is : Some k ≡ Some Directory = sym (ap (λ (q : Option Kind). option_or q (option_map (λ (g : Shown). g.kind) (read_file s dir))) e) ∙ kind in AsOpen (e ∙ is)
    by_open None e = by_read (read_file s dir) e refl

-- ---- names

length-inserted : {X : Type 0} (name : X → List ℕ) (x : X) (ys : List X) → length (inserted_by_name name x ys) ≡ suc (length ys)
length-inserted name x [] = refl
length-inserted name x (y ∷ ys) = by (is_le (slice_cmp nat_cmp (name x) (name y))) (length-inserted name x ys)
  where
    by : (b : Bool) → length (inserted_by_name name x ys) ≡ suc (length ys) → length (cond b (x ∷ (y ∷ ys)) (y ∷ inserted_by_name name x ys)) ≡ suc (suc (length ys))
    by true e = refl
    by false e = ap suc e

pub length-sorted_by_name : {X : Type 0} (name : X → List ℕ) (xs : List X) → length (sorted_by_name name xs) ≡ length xs
length-sorted_by_name name [] = refl
length-sorted_by_name name (x ∷ xs) = length-inserted name x (sorted_by_name name xs) ∙ ap suc (length-sorted_by_name name xs)

-- as many names as entries
length-names : (s : SessionSeen) (dir : ℕ) → length (names_here s dir) ≡ entry_count (slots_shown s dir)
length-names s dir =
    let parts = parts_of (pages_shown s dir) in
    length-sorted_by_name entry_name (map (λ (e : EntryPart). (e.name, e.kind)) (present parts))
    ∙ length-map (present parts) (λ (e : EntryPart). (e.name, e.kind))
    ∙ sym (length-present parts)
    ∙ ap (λ l. length (filter is_some l)) (sym (slots_of-parts (pages_shown s dir)))

-- the entries of a lease's blocks are those in their slots
lent_parts : (inodes : ℕ) (blocks : List LentPage) (ls : List Listed) → gathered (λ (p : LentPage). entries_on inodes p.no.0 p.page) blocks ≡ Ok ls
    → present (parts_of (map (λ (p : LentPage). p.page) blocks)) ≡ map (λ (l : Listed). l.entry) ls
unfolding entries_on
lent_parts inodes [] ls e = (let none : [] ≡ ls = cc e in ap (map (λ (l : Listed). l.entry)) none)
lent_parts inodes (p ∷ ps) ls e =
    let b = both-Ok (entries_on inodes p.no.0 p.page) (gathered (λ (q : LentPage). entries_on inodes q.no.0 q.page) ps) ls e in
    let here : gathered_below (slot_entries inodes p.no.0 p.page) 16 ≡ Ok b.0 = b.2 in
    let rest : List (List ℕ) = map (λ (q : LentPage). q.page) ps in
    filter_map-append (λ o. o) (slots_of_page p.page) (parts_of rest)
    ∙ ap (λ l. l ++ present (parts_of rest)) (page_parts inodes p.no.0 p.page 16 b.0 here)
    ∙ ap (λ l. map (λ (l : Listed). l.entry) b.0 ++ l) (lent_parts inodes ps b.1 b.3)
    ∙ sym (map-append (λ (l : Listed). l.entry) b.0 b.1)
    ∙ ap (map (λ (l : Listed). l.entry)) b.4

-- ---- in the nodes that are shown

-- a directory that is had, by its body and its slots
pub record IsAsHad (s : SessionSeen) (dir' : ℕ) (body : List ℕ) (now : Nodes) : Type 0 where
  pub rights : HasRights (rights_in Directory body) (node_at now dir')
  pub names : names_in now dir' ≡ names_here s dir'
  pub count : count_in now dir' ≡ length (names_here s dir')

module _ (desk : DeskSeen) (s : SessionSeen) (may : MayCall desk s) (dir : ℕ) (nodes : Nodes) (rows : List (Option Row)) (p : ArePossible desk s.parcel s.reads nodes rows) where
  open_here : open_kind s dir ≡ Some Directory → IsAsHad s dir (body_in s dir) (batch_nodes desk.creds s.calls nodes)
  open_here o =
      let now : Nodes = batch_nodes desk.creds s.calls nodes in
      let v = sees_directory desk s dir nodes now rows may.edits o (shows_calls desk s may nodes rows p) in
      record { rights = v.rights; names = v.names; count = v.count ∙ sym (length-names s dir) }

  module _ (f : Shown) (none : open_kind s dir ≡ None) (there : read_file s dir ≡ Some f) (is : f.kind ≡ Directory) where
    among : In f s.reads
    among = (find-In (λ (g : Shown). eqb g.ino dir) s.reads f there).0

    number : f.ino ≡ dir
    number = eqb-true f.ino dir (find-In (λ (g : Shown). eqb g.ino dir) s.reads f there).1

    abbrev entries : List Listed
    entries = entries_shown desk.sizes f

    lent_here : IsAsHad s dir f.body (batch_nodes desk.creds s.calls nodes)
    lent_here =
        let now : Nodes = batch_nodes desk.creds s.calls nodes in
        let v : IsView desk (in_hand s) (in_hand s) nodes now rows = view_calls desk s may nodes rows p in
        let well = may.edits.on.reads f among in
        let file = sees_lease desk (in_hand s) (in_hand s) nodes now rows f v (In-right f (lent_files s.parcel.writes) s.reads among) (may.edits.alone f among) in
        let lists : Lists now f.ino entries = sees_lent desk (in_hand s) (in_hand s) nodes now rows f v (In-right f (lent_files s.parcel.writes) s.reads among) (may.edits.alone f among) well in
        let parts : present (parts_of (pages_shown s dir)) ≡ map (λ (l : Listed). l.entry) entries =
        ap (λ ps. present (parts_of ps)) (pages_shown-lent s dir f none there)
        ∙ lent_parts desk.sizes.inodes f.blocks entries (lent_gathers desk.sizes f well (record { ino = f.ino; kind = f.kind; parent = 0; page = 0; slot = 0; body = f.body }) refl refl is) in
        let names : names_here s dir ≡ sorted_by_name entry_name (map name_and_kind entries) =
        ap (λ l. sorted_by_name entry_name (map (λ (e : EntryPart). (e.name, e.kind)) l)) parts
        ∙ ap (sorted_by_name entry_name) (map-map (λ (e : EntryPart). (e.name, e.kind)) (λ (l : Listed). l.entry) entries) in
        record {
          rights = subst (λ k. HasRights (rights_in k f.body) (node_at now dir)) is (subst (λ n. HasRights (rights_in f.kind f.body) (node_at now n)) number file.rights);
          names = ap (names_in now) (sym number) ∙ names_in_order now f.ino entries v.shows.tree lists ∙ sym names;
          count = ap (count_in now) (sym number) ∙ lists.count
              ∙ sym (ap (λ (l : List (List ℕ × Kind)). length l) names ∙ length-sorted_by_name entry_name (map name_and_kind entries) ∙ length-map entries name_and_kind);
        }

  -- what is had of a directory that is taken for reading
  pub had_here : serves s dir Read ≡ true → kind_shown s dir ≡ Some Directory → (body : List ℕ) → body_shown s dir ≡ Some body → IsAsHad s dir body (batch_nodes desk.creds s.calls nodes)
  had_here served kind body b =
      let now : Nodes = batch_nodes desk.creds s.calls nodes in
      elim (read_by s dir served kind) [
        | AsOpen o ↦
            (let same : Some (body_in s dir) ≡ Some body = sym (body_shown-open s dir Directory o) ∙ b in
            subst (λ x. IsAsHad s dir x (batch_nodes desk.creds s.calls nodes)) (let e : body_in s dir ≡ body = cc same in e) (open_here o))
        | AsLent f none there is ↦
            (let same : Some f.body ≡ Some body = sym (body_shown-read s dir f none there) ∙ b in
            subst (λ x. IsAsHad s dir x (batch_nodes desk.creds s.calls nodes)) (let e : f.body ≡ body = cc same in e) (lent_here f none there is))
      ]
