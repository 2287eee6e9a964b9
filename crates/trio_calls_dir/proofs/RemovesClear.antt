-- A file that is had goes with its slot, where it has no entries.
use Rattle.trio_calls_dir.proofs.Words.{◌+◌, ◌<◌, ◌∙◌, ◌∷◌, ◌≡◌, ArePossible, Ask, Bool, Call, Changes, ComesBy, ComesInto, ComesTo, Creds, DeskSeen, Directory, DoesCall, Done, Err, Goes, HoldParts, InAllShown, IsAlike, IsDir, IsDirectory, IsDone, IsRefusedAs, IsReplied, IsTree, Kind, LacksMemory, LeavesCleared, List, MadeFile, MatchResult, MayCall, MayShow, Met, Node, Nodes, None, NotDir, NotEmpty, Ok, Option, Path, Regular, Replied, Reply, Result, Rmdir, Room, Row, SessionSeen, Some, StaysTree, Stop, Target, Told, Unlink, [], alike_room, alike_then, ap, applied, arith, batch_nodes, cases_eq, clear, clear_leaves, cond, count_in, dir_of, edited, entry_count, eqb, eqb-true, false, false≢true, find-In, find_named, find_named-Child, held_file, in_hand, inl, inr, is_directory, is_done, is_in, is_some, length, ltb, made_by, made_file, may_alike, name_of, node_at, not, noted, number_made, open_kind, option_map, option_or, place_shown, refl, refused_at_entry, removing, rights_of, sees_directory, shown_by, slots_shown, some_one, subst, suc, sym, true, try_ends, walk_into, wants_of, with_node, write_paths, written_file, zero, ℕ, Link, is_directory-false, kind_cases, ◌⊎◌}
use Rattle.trio_walk.proofs.Ways.{passes_by}
use Rattle.std.proofs.Common.{ltb-false}
use Rattle.std.specs.Prelude.{count_by}
use Rattle.std.proofs.lemmas.List.Sums.{sum_by-cons}
use Rattle.trio_onetree.proofs.Children.{child-counts}
use Rattle.trio_onetree.proofs.TreePut.{tree_without}
use Rattle.trio_laws.proofs.session.DirCalls.{removes_entry}
use Rattle.trio_session.specs.Seen.{children_shown, made_children}
use Rattle.trio_edit_laws.proofs.directories.Cleared.{clear_shows}
use Rattle.trio_calls_dir.specs.declared.replies.Replied as replied
use Rattle.trio_calls_dir.proofs.Possible.{possible_clear}
use Rattle.trio_calls_dir.proofs.EditDone.{as_done, may_done}
use Rattle.trio_calls_dir.proofs.Ends.{lacks, refused_goes}
use Rattle.trio_calls_dir.proofs.RemovesCount.{held_count}
use Rattle.trio_calls_dir.proofs.RemovesTake.{MayClear}
use Rattle.trio_calls_dir.proofs.Then.{edited_alike}

-- ---- entries that are counted

-- where some are counted there is one
counted_one : (p : Option Node → Bool) (xs : Nodes) → 0 < count_by p xs → (n : ℕ) × (p (node_at xs n) ≡ true)
counted_one p [] l = absurd (omega (arith, l))
counted_one p (x ∷ xs) l = by (counted_one p xs) (p x) refl
  where
    by : (0 < count_by p xs → (n : ℕ) × (p (node_at xs n) ≡ true)) → (b : Bool) → p x ≡ b → (n : ℕ) × (p (node_at (x ∷ xs) n) ≡ true)
    by later true e = (0, e)
    by later false e =
        let c : count_by p (x ∷ xs) ≡ cond (p x) 1 0 + count_by p xs = sum_by-cons (λ y. cond (p y) 1 0) x xs in
        let here : ◌≡◌ {A = ℕ} (cond (p x) 1 0) 0 = ap (λ t. cond t 1 0) e in
        let rest = later (omega (arith, l, c, here)) in (suc rest.0, rest.1)

pub above_none : (k : ℕ) → (k ≡ 0 → ⊥) → 0 < k
above_none zero not0 = absurd (not0 refl)
above_none (suc k) not0 = omega arith

-- a number above 0
some_above : (k : ℕ) → 0 < k → ltb 0 k ≡ true
some_above k some = by (ltb 0 k) refl
  where
    by : (b : Bool) → ltb 0 k ≡ b → b ≡ true
    by true e = refl
    by false e = (let none = ltb-false 0 k e in absurd (omega (arith, none, some)))

-- what is no directory has no entries
file_leaf : (nodes : Nodes) → IsTree nodes → (n : ℕ) (x : Node) → node_at nodes n ≡ Some x → is_directory x.kind ≡ false → (m : ℕ) (z : Node) → node_at nodes m ≡ Some z → z.parent ≡ n → ⊥
file_leaf nodes tree n x at kind m z there parent =
    elim (cases_eq m 1) [
      | inl one ↦
          let r = tree.root in
          let same : z ≡ r.0 = some_one (node_at nodes 1) z r.0 (ap (node_at nodes) (sym one) ∙ there) r.1 in
          let low : n ≡ 0 = sym parent ∙ ap (λ (q : Node). q.parent) same ∙ r.3 in
          let wrong : None ≡ Some x = sym tree.none ∙ ap (node_at nodes) (sym low) ∙ at in cc wrong
      | inr other ↦
          let is : IsDirectory (node_at nodes n) = subst (λ k. IsDirectory (node_at nodes k)) parent (tree.parents m z there other) in
          let directory : x.kind ≡ Directory = subst IsDirectory at is in
          is_directory-false x.kind kind directory
    ]

-- ---- what the call does to the file

does_remove : (desk : DeskSeen) (kind : Kind) (path : Path) (now : Nodes) (dir n : ℕ) (x : Node) → ComesInto now desk.creds (removing (is_directory kind) path) path dir → find_named now dir (name_of path) ≡ Some n
    → node_at now n ≡ Some x → x.kind ≡ kind → (kind ≡ Directory → count_in now n ≡ 0) → DoesCall desk (record { call = removing (is_directory kind) path; reply = IsReplied IsDone; made = 0 }) now (with_node now n None)
does_remove desk Directory path now dir n x comes found at is none =
    removes_entry desk (record { call = Rmdir path; reply = IsReplied IsDone; made = 0 }) now path dir n (rights_of x) 0 comes refl found (ap (option_map rights_of) at) (none refl)
    (ap (λ k. cond {A = Option Reply} (not (is_directory k)) (Some NotDir) None) is) refl refl
does_remove desk Regular path now dir n x comes found at is none =
    removes_entry desk (record { call = Unlink path; reply = IsReplied IsDone; made = 0 }) now path dir n (rights_of x) (count_in now n) comes refl found (ap (option_map rights_of) at) refl
    (ap (λ k. cond {A = Option Reply} (is_directory k) (Some IsDir) None) is) refl refl
does_remove desk Link path now dir n x comes found at is none =
    removes_entry desk (record { call = Unlink path; reply = IsReplied IsDone; made = 0 }) now path dir n (rights_of x) (count_in now n) comes refl found (ap (option_map rights_of) at) refl
    (ap (λ k. cond {A = Option Reply} (is_directory k) (Some IsDir) None) is) refl refl

-- one with entries isn't removed
refuses_full : (desk : DeskSeen) (path : Path) (now : Nodes) (dir n count : ℕ) (x : Node) → ComesInto now desk.creds (Rmdir path) path dir → find_named now dir (name_of path) ≡ Some n
    → node_at now n ≡ Some x → x.kind ≡ Directory → count_in now n ≡ count → 0 < count → IsRefusedAs desk (Rmdir path) NotEmpty now
refuses_full desk path now dir n count x comes found at is many some =
    refused_at_entry desk (record { call = Rmdir path; reply = NotEmpty; made = 0 }) now path dir n (rights_of x) count comes found (ap (option_map rights_of) at) many
    (ap (λ k. cond {A = Option Reply} (not (is_directory k)) (Some NotDir) (cond (ltb 0 count) (Some NotEmpty) None)) is ∙ ap (λ b. cond {A = Option Reply} b (Some NotEmpty) None) (some_above count some)) refl

leaves_kind : (of_dirs : Bool) (path : Path) (creds : Creds) (t : Target) (s : SessionSeen) → edited creds (removing of_dirs path) t s ≡ clear t.dir (name_of path) s
leaves_kind true path creds t s = refl
leaves_kind false path creds t s = refl

made_none : (of_dirs : Bool) (path : Path) (s : SessionSeen) → ◌≡◌ {A = ℕ} 0 (made_by (removing of_dirs path) s)
made_none true path s = refl
made_none false path s = refl

wants_kind : (of_dirs : Bool) (path : Path) (now : Nodes) (creds : Creds) (t : Target) (s : SessionSeen) → wants_of now creds (removing of_dirs path) t s ≡ []
wants_kind true path now creds t s = by (is_done (applied now creds (Rmdir path) 0).reply)
  where
    by : (b : Bool) → cond {A = List Ask} b [] [] ≡ []
    by true = refl
    by false = refl
wants_kind false path now creds t s = by (is_done (applied now creds (Unlink path) 0).reply)
  where
    by : (b : Bool) → cond {A = List Ask} b [] [] ≡ []
    by true = refl
    by false = refl

comes_kind : (of_dirs : Bool) (path : Path) (now : Nodes) (creds : Creds) (t : Target) → walk_into now creds (write_paths (removing of_dirs path)) (dir_of path) ≡ Ok t.dir → ComesTo t now creds (removing of_dirs path)
comes_kind true path now creds t e = e
comes_kind false path now creds t e = e

module _ (desk : DeskSeen) (s : SessionSeen) (call : Call) (path : Path) (dir : ℕ) (file : Met) (m : MayClear desk s call path dir file) where
  abbrev shown_at : Nodes → Nodes
  shown_at nodes = batch_nodes desk.creds s.calls nodes

  shown_now : InAllShown desk s (λ now. (nodes : Nodes) × (rows : List (Option Row)) × MayShow desk (in_hand s) (in_hand s) nodes now rows)
  shown_now nodes rows p = (nodes, rows, shown_by desk (in_hand s) (in_hand s) s.calls nodes rows (λ n q z. z) m.may.comes p)

  -- a file that was made has the kind that was met
  made_kind : (f : MadeFile) → made_file s file.ino ≡ Some f → InAllShown desk s (λ now. f.kind ≡ file.kind)
  made_kind f e nodes rows p =
      let x = m.node nodes rows p in
      let opens : open_kind s file.ino ≡ Some f.kind = ap (λ (o : Option MadeFile). option_or (option_map (λ (z : MadeFile). z.kind) o) (option_map (λ z. z.kind) (written_file s file.ino))) e in
      let same : Some x.0.kind ≡ Some f.kind = sym (ap (option_map (λ (z : Node). z.kind)) x.1) ∙ m.walks.kinds file.ino f.kind opens nodes rows p in
      let is : x.0.kind ≡ f.kind = cc same in sym is ∙ x.2

  module _ (k : ℕ) (children : children_shown s file.ino ≡ Some k) where
    -- of a held file the hold tells how many entries it has
    held_has : made_file s file.ino ≡ None → InAllShown desk s (λ now. count_in now file.ino ≡ k)
    held_has none nodes rows p = by (held_file s file.ino) refl
      where
        by : (o : Option HoldParts) → held_file s file.ino ≡ o → count_in (shown_at nodes) file.ino ≡ k
        by None e =
            let wrong : None ≡ Some k =
            sym (ap (λ (q : Option MadeFile). option_or (option_map (made_children s) q) (option_map (λ (h : HoldParts). h.children) (held_file s file.ino))) none
            ∙ ap (λ (q : Option HoldParts). option_map (λ (h : HoldParts). h.children) q) e) ∙ children in absurd (cc wrong)
        by (Some h) e =
            let i = find-In (λ (z : HoldParts). eqb z.ino file.ino) s.parcel.holds h e in
            let same : Some h.children ≡ Some k =
            sym (ap (λ (q : Option MadeFile). option_or (option_map (made_children s) q) (option_map (λ (z : HoldParts). z.children) (held_file s file.ino))) none
            ∙ ap (λ (q : Option HoldParts). option_map (λ (z : HoldParts). z.children) q) e) ∙ children in
            let v = shown_now nodes rows p in
            let is : h.children ≡ k = cc same in
            ap (count_in (shown_at nodes)) (sym (eqb-true h.ino file.ino i.1))
            ∙ held_count desk (in_hand s) (in_hand s) v.0 (shown_at nodes) v.1 h (record { order = m.may.edits.order; more = λ n q z. z; shows = v.2 }) i.0
            ∙ is

    made_has : (f : MadeFile) → made_file s file.ino ≡ Some f → made_children s f ≡ k
    made_has f e =
        let same : Some (made_children s f) ≡ Some k =
        sym (ap (λ (q : Option MadeFile). option_or (option_map (made_children s) q) (option_map (λ (h : HoldParts). h.children) (held_file s file.ino))) e) ∙ children in cc same

    -- so many entries a directory has
    dir_has : file.kind ≡ Directory → InAllShown desk s (λ now. count_in now file.ino ≡ k)
    dir_has is nodes rows p = by (made_file s file.ino) refl
      where
        by : (o : Option MadeFile) → made_file s file.ino ≡ o → count_in (shown_at nodes) file.ino ≡ k
        by None e = held_has e nodes rows p
        by (Some f) e =
            let kind : f.kind ≡ Directory = made_kind f e nodes rows p ∙ is in
            let number : f.ino ≡ file.ino = eqb-true f.ino file.ino (find-In (λ (z : MadeFile). eqb z.ino file.ino) s.made f e).1 in
            let opens : open_kind s file.ino ≡ Some Directory =
            ap (λ (o : Option MadeFile). option_or (option_map (λ (z : MadeFile). z.kind) o) (option_map (λ z. z.kind) (written_file s file.ino))) e ∙ ap Some kind in
            let v = shown_now nodes rows p in
            (sees_directory desk s file.ino v.0 (shown_at nodes) v.1 m.may.edits opens v.2).count
            ∙ ap (λ n. entry_count (slots_shown s n)) (sym number)
            ∙ sym (ap (λ q. cond (is_directory q) (entry_count (slots_shown s f.ino)) 0) kind)
            ∙ made_has f e

    -- and any other file none
    file_has : is_directory file.kind ≡ false → 0 < k → InAllShown desk s (λ now. ⊥)
    file_has is some nodes rows p = by (made_file s file.ino) refl
      where
        by : (o : Option MadeFile) → made_file s file.ino ≡ o → ⊥
        by None e =
            let many = held_has e nodes rows p in
            let x = m.node nodes rows p in
            let one = counted_one (is_in file.ino) (shown_at nodes) (subst (λ n. 0 < n) (sym many) some) in
            let v = shown_now nodes rows p in
            child one.0 (node_at (shown_at nodes) one.0) refl one.1 v.2.tree x
          where
            child : (n : ℕ) (o : Option Node) → node_at (shown_at nodes) n ≡ o → is_in file.ino (node_at (shown_at nodes) n) ≡ true → IsTree (shown_at nodes)
                → (x : Node) × (node_at (shown_at nodes) file.ino ≡ Some x) × (x.kind ≡ file.kind) → ⊥
            child n None at t tree x = false≢true (sym (ap (is_in file.ino) at) ∙ t)
            child n (Some z) at t tree x =
                file_leaf (shown_at nodes) tree file.ino x.0 x.1 (ap is_directory x.2 ∙ is) n z at (eqb-true z.parent file.ino (sym (ap (is_in file.ino) at) ∙ t))
        by (Some f) e =
            let kind : is_directory f.kind ≡ false = ap is_directory (made_kind f e nodes rows p) ∙ is in
            let none : ◌≡◌ {A = ℕ} 0 k = sym (ap (λ q. cond q (entry_count (slots_shown s f.ino)) 0) kind) ∙ made_has f e in
            omega (arith, none, some)

    -- a file that has entries isn't removed
    full : 0 < k → InAllShown desk s (IsRefusedAs desk call NotEmpty)
    full some nodes rows p = by (kind_cases file.kind)
      where
        by : (file.kind ≡ Directory) ⊎ (is_directory file.kind ≡ false) → IsRefusedAs desk call NotEmpty (shown_at nodes)
        by (inr is) = absurd (file_has is some nodes rows p)
        by (inl is) =
            let call_is : call ≡ Rmdir path = m.call ∙ ap (λ q. removing (is_directory q) path) is in
            let x = m.node nodes rows p in
            subst (λ (c : Call). IsRefusedAs desk c NotEmpty (shown_at nodes)) (sym call_is)
            (refuses_full desk path (shown_at nodes) dir file.ino k x.0 (subst (λ (c : Call). ComesInto (shown_at nodes) desk.creds c path dir) call_is (m.comes nodes rows p)) (m.named nodes rows p) x.1 (x.2 ∙ is)
            (dir_has is nodes rows p) some)

  -- ---- one without entries

  module _ (children : children_shown s file.ino ≡ Some 0) where
    leaf : InAllShown desk s (λ now. (n : ℕ) (z : Node) → node_at now n ≡ Some z → z.parent ≡ file.ino → ⊥)
    leaf nodes rows p n z at parent = by (kind_cases file.kind)
      where
        by : (file.kind ≡ Directory) ⊎ (is_directory file.kind ≡ false) → ⊥
        by (inl is) =
            let none = dir_has 0 children is nodes rows p in
            let some = child-counts (shown_at nodes) file.ino n z at parent in omega (arith, none, some)
        by (inr is) =
            let x = m.node nodes rows p in
            file_leaf (shown_at nodes) (shown_now nodes rows p).2.tree file.ino x.0 x.1 (ap is_directory x.2 ∙ is) n z at parent

    -- the root isn't removed
    not_root : InAllShown desk s (λ now. file.ino ≡ 1 → ⊥)
    not_root nodes rows p one =
        let tree : IsTree (shown_at nodes) = (shown_now nodes rows p).2.tree in
        let c = find_named-Child (shown_at nodes) dir (name_of path) file.ino (m.named nodes rows p) in
        let r = tree.root in
        let same : c.node ≡ r.0 = some_one (node_at (shown_at nodes) 1) c.node r.0 (ap (node_at (shown_at nodes)) (sym one) ∙ c.at) r.1 in
        let low : dir ≡ 0 = sym c.parent ∙ ap (λ (q : Node). q.parent) same ∙ r.3 in
        let has = m.walks.kinds dir Directory m.opens.directory nodes rows p in
        let wrong : None ≡ Some Directory = sym (ap (option_map (λ (q : Node). q.kind)) (ap (node_at (shown_at nodes)) low ∙ tree.none)) ∙ has in cc wrong

    does : InAllShown desk s (λ now. DoesCall desk (record { call = call; reply = IsReplied IsDone; made = 0 }) now (with_node now file.ino None))
    does nodes rows p =
        let x = m.node nodes rows p in
        subst (λ (c : Call). DoesCall desk (record { call = c; reply = IsReplied IsDone; made = 0 }) (shown_at nodes) (with_node (shown_at nodes) file.ino None)) (sym m.call)
        (does_remove desk file.kind path (shown_at nodes) dir file.ino x.0 (subst (λ (c : Call). ComesInto (shown_at nodes) desk.creds c path dir) m.call (m.comes nodes rows p)) (m.named nodes rows p) x.1 x.2
        (λ is. dir_has 0 children is nodes rows p))

    stays : StaysTree desk s (clear dir (name_of path) s) (λ nodes. with_node nodes m.entry.ino None)
    stays nodes nodes' rows shows =
        let p = possible_clear desk s dir (name_of path) m.place m.there nodes rows shows.possible in
        let was = m.may.comes nodes rows p in
        tree_without nodes' shows.tree m.entry.ino (λ one. not_root nodes rows p (m.number ∙ one))
        (λ n z at parent. leaf nodes rows p n z (was.1.each n ∙ sym (shows.shows.each n) ∙ at) (parent ∙ sym m.number))

    changes : Changes desk s (clear dir (name_of path) s) (λ nodes. with_node nodes m.entry.ino None)
    changes = clear_shows desk s dir m.place m.entry (name_of path) m.may.edits m.opens m.there m.says (ap (children_shown s) (sym m.number) ∙ children) stays

    left : LeavesCleared s (clear dir (name_of path) s) dir m.place m.entry.ino
    left = clear_leaves desk s dir m.place m.entry (name_of path) m.may.edits m.opens m.there m.says

    calls_are : (clear dir (name_of path) s).calls ≡ s.calls
    calls_are = ap (λ (q : SessionSeen). q.calls) left.files.same

    -- with its note the session may go on
    may_noted : MayCall desk (noted call (IsReplied IsDone) 0 (clear dir (name_of path) s))
    may_noted =
        may_done desk s (clear dir (name_of path) s) call (λ nodes. with_node nodes m.entry.ino None) m.may changes calls_are left.files.pages left.numbers left.files.inodes
        (λ nodes rows p. subst (λ n. DoesCall desk (as_done call) (shown_at nodes) (with_node (shown_at nodes) n None)) m.number (does nodes rows p))

-- ---- the end of the try

pub room_kept : (s s' : SessionSeen) (room : Room) → s' ≡ record s { room = room } → s' ≡ record s { room = s'.room }
room_kept s s' room e = e ∙ ap (λ (r : Room). record s { room = r }) (sym (ap (λ (q : SessionSeen). q.room) e))

pub room_after : (s s1 s2 : SessionSeen) (room : Room) → s1 ≡ record s { room = room } → length s1.calls < s1.room.calls → s2.room.calls ≡ s1.room.calls → length s.calls < s2.room.calls
room_after s s1 s2 room first less same =
    subst (λ n. length s.calls < n) (sym same) (subst (λ (cs : List Done). length cs < s1.room.calls) (ap (λ (q : SessionSeen). q.calls) first) less)

-- a slot that is cleared once there is room for the call
pub cleared_alike : (s s1 s2 : SessionSeen) (room : Room) (dir : ℕ) (path : Path) (name : List ℕ) → s1 ≡ record s { room = room } → name ≡ name_of path → s2 ≡ record (clear dir name s1) { room = s2.room }
    → IsAlike (clear dir (name_of path) s) s2
cleared_alike s s1 s2 room dir path name first is kept =
    alike_then (clear dir (name_of path) s) (clear dir (name_of path) s1) s2
    (edited_alike s.creds (Unlink path) (record { dir = dir; new_dir = 0; ino = 0 }) s s1 (alike_room s s1 (room_kept s s1 room first)))
    (alike_room (clear dir (name_of path) s1) s2 (subst (λ (z : List ℕ). s2 ≡ record (clear dir z s1) { room = s2.room }) is kept))

module _ {D : Type 0} (called : D → Ask → Told → D → Type 0) (seen : D → DeskSeen) (d : D) (s : SessionSeen) (call : Call) (path : Path) (dir : ℕ) (file : Met) (m : MayClear (seen d) s call path dir file) where
  module _ (children : children_shown s file.ino ≡ Some 0) (s3 : SessionSeen) (near : IsAlike (clear dir (name_of path) s) s3) (room : length s.calls < s3.room.calls) where
    abbrev target : Target
    target = record { dir = dir; new_dir = 0; ino = 0 }

    calls3 : s3.calls ≡ s.calls
    calls3 = ap (λ (q : SessionSeen). q.calls) near ∙ calls_are (seen d) s call path dir file m children

    back3 : (nodes : Nodes) (rows : List (Option Row)) → ArePossible (seen d) s3.parcel s3.reads nodes rows → ArePossible (seen d) s.parcel s.reads nodes rows
    back3 nodes rows p =
        (changes (seen d) s call path dir file m children).becomes.more nodes rows (subst (λ (q : SessionSeen). ArePossible (seen d) q.parcel q.reads nodes rows) near p)

    over3 : (P : Nodes → Type 0) → InAllShown (seen d) s P → InAllShown (seen d) s3 P
    over3 P h nodes rows p = subst (λ (cs : List Done). P (batch_nodes (seen d).creds cs nodes)) (sym calls3) (h nodes rows (back3 nodes rows p))

    done_goes : Goes called seen d s call (λ now. []) (Replied (IsReplied IsDone)) 0 d s3
    done_goes = let creds : Creds = (seen d).creds in record {
      target = target;
      given = [];
      last = [];
      passes = passes_by called seen d s s3 calls3 back3;
      ends = refl;
      leaves = subst (λ (q : SessionSeen). IsAlike q s3) (sym (ap (λ (c : Call). edited creds c target s) m.call ∙ leaves_kind (is_directory file.kind) path creds target s)) near;
      numbered = made_none (is_directory file.kind) path s ∙ sym (ap (λ (c : Call). made_by c s) m.call);
      comes =
          over3 (λ now. ComesBy (Replied (IsReplied IsDone)) target now (seen d).creds call)
          (λ nodes rows p h.
          let now : Nodes = batch_nodes (seen d).creds s.calls nodes in
          subst (λ (c : Call). ComesTo target now creds c) (sym m.call)
          (comes_kind (is_directory file.kind) path now creds target (subst (λ (c : Call). walk_into now creds (write_paths c) (dir_of path) ≡ Ok dir) m.call (m.comes nodes rows p).into)));
      asks = λ nodes rows p.
          let now : Nodes = batch_nodes creds s3.calls nodes in
          ap (λ (c : Call). wants_of now creds c target s) m.call ∙ wants_kind (is_directory file.kind) path now creds target s;
      after = (
        may_alike (seen d) (noted call (IsReplied IsDone) 0 (clear dir (name_of path) s)) (noted call (IsReplied IsDone) 0 s3) (ap (noted call (IsReplied IsDone) 0) near)
            (may_noted (seen d) s call path dir file m children),
        subst (λ (cs : List Done). length cs < s3.room.calls) (sym calls3) room,
        tt,
        λ n. absurd n,
      );
    }

  pub there_some : is_some (place_shown s dir (name_of path)) ≡ true
  there_some = ap is_some m.there

  pub cleared_goes : children_shown s file.ino ≡ Some 0 → (s3 : SessionSeen) (result : Result replied.Replied Stop)
      → MatchResult result
      (λ r. (r ≡ record { reply = IsReplied IsDone; made = 0 }) × IsAlike (clear dir (name_of path) s) s3 × (length s.calls < s3.room.calls))
      (λ stop. (stop ≡ LacksMemory) × (s3 ≡ record s { room = s3.room }))
      → Goes called seen d s call (λ now. []) (try_ends result) (number_made result) d s3
  cleared_goes children s3 (Ok r) e = subst (λ (x : replied.Replied). Goes called seen d s call (λ now. []) (Replied x.reply) x.made d s3) (sym e.0) (done_goes children s3 e.1 e.2)
  cleared_goes children s3 (Err stop) e = subst (λ x. Goes called seen d s call (λ now. []) (try_ends (Err x)) 0 d s3) (sym e.0) (lacks called seen d s s3 call (λ now. []) m.may e.1)

  pub full_goes : (k : ℕ) → children_shown s file.ino ≡ Some k → 0 < k → (s3 : SessionSeen) → s3 ≡ record s { room = s3.room } → (result : Result replied.Replied Stop)
      → MatchResult result (λ r. (r ≡ record { reply = NotEmpty; made = 0 }) × (length s3.calls < s3.room.calls)) (λ stop. stop ≡ LacksMemory)
      → Goes called seen d s call (λ now. []) (try_ends result) (number_made result) d s3
  full_goes k children some s3 kept result ends =
      refused_goes called seen d s s3 call (λ now. []) m.may kept (λ nodes rows p. refl) NotEmpty tt (full (seen d) s call path dir file m k children some) result ends
