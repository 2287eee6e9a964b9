-- What a session sees of the nodes that it shows.
use Rattle.trio_laws.proofs.Words.{◌&&◌, ◌++◌, ◌∙◌, ◌≡◌, ArePossible, Body, Bundle, Case, DeskSeen, FileRead, HasFile, HasRights, HasRightsOf, Held, In, In-find, In-flat, In-is_among, In-left, In-map, InHand, IsAmong, IsForeign, IsInOrder, IsTree, IsView, IsWellLent, Kind, LentFile, List, Listed, MayShow, Met, Naming, Node, Nodes, None, Ok, Option, Rights, Row, Said, Sheet, Shown, Shows, Some, Written, [], and_parts, ap, are_new, arith, bare_file, body_at, body_of, bundle_core, bundle_of, bundle_sheets, bytes_eq, bytes_eq-Decides, bytes_listed, bytes_now, bytes_read, bytes_shown, case_in_hand, children_in, cond, core_in_hand, each_new, entries_in, entries_shown, entry_in, entry_keeps_rights, entry_of_node, eq-eqb, eqb, eqb-true, false, false_from_ne_true, false≢true, file_keeps_rights, file_within, find, find-In, find_named, find_named-Child, flat_map, has_rights, is_among, is_among-In, is_in, is_place_of, is_some, is_written, judged_entries, judged_files, length-map, lent_files, lent_numbers, lent_sheet, list_all, list_all-In, map, map-In, map-append, map-map, met_in, naming_of, namings_in, node_at, node_left, node_says, numbers, numbers-flat, option_and_then, option_map, placed, plain, read_in_hand, refl, rights_in, rights_of, row_in, row_says, same_met, some_of, some_one, subst, sym, true, within_from, written_at, written_in, written_met, ℕ, Bool, guard_now, is_directory, with_judged}
use Rattle.trio_laws.proofs.session.Counts.{count_numbers}
use Rattle.trio_laws.proofs.judgement.JudgedFacts.{written_body_at, written_ino, written_ino_at, written_kind_at}
use Rattle.trio_onetree.proofs.Children.{Child, Child-find_named}
use Rattle.trio_laws.specs.session.Sees.{IsLeaseIn, IsLeftAlone, Lists, SeesEntryRights, SeesJudged, SeesLease, SeesLent, SeesMade, SeesRoot, SeesUntouched, SeesWritten, UntouchedReads}
use Rattle.trio_laws.proofs.session.Again.{hand_files_once, said_alike}
use Rattle.trio_laws.proofs.session.FileEdits.{bare_at, body_stands, written_among}
use Rattle.trio_laws.proofs.session.Edges.{node_row}
use Rattle.trio_laws.proofs.session.LentFiles.{lent_bytes, lent_entries_are, lent_file, lent_file-body, lent_file-chain, lent_numbers_new, lent_reads, lent_sheets}
use Rattle.trio_laws.proofs.session.Listed.{listed_as}
use Rattle.trio_laws.proofs.session.Namings.{naming_is}
use Rattle.trio_laws.proofs.session.Ruled.{case_with, naming_once, owning_parts}
use Rattle.trio_laws.proofs.session.Spares.{shown_spares}
use Rattle.trio_laws.proofs.session.Stands.{Read, judged_there, written_alike}
use Rattle.trio_laws.proofs.session.Starts.{judged_once, start_judged, start_to}
use Rattle.trio_laws.proofs.session.TakenHold.{held_by}
use Rattle.trio_laws.proofs.session.LentNodes.{entry_node, has_entry, mapped}
use Rattle.trio_laws.proofs.session.Others.{IsSpared, file_on}

-- the rights of two nodes, by their parts
rights_same : (x y : Node) → HasRightsOf x (Some y) → rights_of y ≡ rights_of x
rights_same x y r = search arith

-- what a directory shows of a number, by what it lists and by the rights
entry_same : (d : ℕ) (one two : Option Node) → entry_in d one ≡ entry_in d two → ((x y : Node) → one ≡ Some x → two ≡ Some y → rights_of x ≡ rights_of y) → entry_of_node d one ≡ entry_of_node d two
entry_same d one two e rights = search arith

-- a directory lists just what its nodes say
lists_by : (nodes : Nodes) → IsTree nodes → (d : ℕ) (entries : List Listed)
    → ((l : Listed) → In l entries → (x : Node) × (node_at nodes l.entry.ino ≡ Some x) × (x.parent ≡ d) × (x.name ≡ l.entry.name) × (x.kind ≡ l.entry.kind))
    → ((n : ℕ) (x : Node) → node_at nodes n ≡ Some x → x.parent ≡ d → (l : Listed) × In l entries × (l.entry.ino ≡ n) × (l.entry.name ≡ x.name))
    → are_new [] (map (λ l. l.entry.ino) entries) ≡ true
    → Lists nodes d entries
lists_by nodes tree d entries each only new = record {
  each = each;
  only = λ n x e at. let q = only n x e at in (q.0, q.1, q.2);
  named = λ name. by name (find (λ l. bytes_eq l.entry.name name) entries) refl;
  count = count_numbers (is_in d) refl nodes (map (λ l. l.entry.ino) entries) new
      (λ n i.
      let l = map-In (λ (l : Listed). l.entry.ino) n entries i in
      let x = each l.0 l.1 in
      ap (λ k. is_in d (node_at nodes k)) l.2 ∙ ap (is_in d) x.1 ∙ eq-eqb x.0.parent d x.2)
      (λ n e. inside n (node_at nodes n) refl e)
      ∙ length-map entries (λ (l : Listed). l.entry.ino);
}
  where
    inside : (n : ℕ) (q : Option Node) → node_at nodes n ≡ q → is_in d (node_at nodes n) ≡ true → In n (map (λ (l : Listed). l.entry.ino) entries)
    inside n None t e = absurd (false≢true (sym (ap (is_in d) t) ∙ e))
    inside n (Some x) t e =
        let l = only n x t (eqb-true x.parent d (sym (ap (is_in d) t) ∙ e)) in
        subst (λ k. In k (map (λ (l : Listed). l.entry.ino) entries)) l.2 (In-map (λ (l : Listed). l.entry.ino) l.0 entries l.1)

    missing : (name : List ℕ) → find (λ (l : Listed). bytes_eq l.entry.name name) entries ≡ None → (o : Option ℕ) → find_named nodes d name ≡ o → find_named nodes d name ≡ None
    missing name none None e = e
    missing name none (Some n) e =
        let c = find_named-Child nodes d name n e in
        let l = only n c.node c.at c.parent in
        let r = In-find (λ (l : Listed). bytes_eq l.entry.name name) entries l.0 l.1 ((bytes_eq-Decides l.0.entry.name name).1 (l.3 ∙ c.name)) in
        let wrong : None ≡ Some r.0 = sym none ∙ r.1 in absurd (cc wrong)

    by : (name : List ℕ) (o : Option Listed) → find (λ (l : Listed). bytes_eq l.entry.name name) entries ≡ o → find_named nodes d name ≡ option_map (λ (l : Listed). l.entry.ino) (find (λ (l : Listed). bytes_eq l.entry.name name) entries)
    by name None e = missing name e (find_named nodes d name) refl ∙ sym (ap (option_map (λ (l : Listed). l.entry.ino)) e)
    by name (Some l) e =
        let f = find-In (λ (l : Listed). bytes_eq l.entry.name name) entries l e in
        let x = each l f.0 in
        let child : Child nodes d name l.entry.ino = record { node = x.0; at = x.1; parent = x.2; name = x.3 ∙ (bytes_eq-Decides l.entry.name name).0 f.1 } in
        Child-find_named nodes tree.names d name l.entry.ino child ∙ sym (ap (option_map (λ (l : Listed). l.entry.ino)) e)

-- the bytes of a node that the bundle has bytes of
bytes_with : (bytes : List ℕ) (g : Option Bool) (x : Node) → (with_judged (Some bytes) g x).bytes ≡ bytes
bytes_with bytes None x = refl
bytes_with bytes (Some guarded) x = refl

module _ (desk : DeskSeen) (h h' : InHand) (nodes nodes' : Nodes) (rows : List (Option Row)) (v : IsView desk h h' nodes nodes' rows) where
  abbrev b : Bundle
  b = bundle_of h.parcel

  abbrev lent : List Held
  lent = map held_by h.parcel.holds

  abbrev c : Case
  c = case_with desk.sizes desk.creds rows b lent

  abbrev o : IsInOrder desk h
  o = v.order

  abbrev may : MayShow desk h h' nodes nodes' rows
  may = v.shows

  less : ArePossible desk h.parcel h.back nodes rows
  less = v.more nodes rows may.possible

  abbrev s : Shows c nodes nodes'
  s = may.shows

  abbrev tree : IsTree nodes
  tree = may.possible.tree

  a : IsAmong c nodes
  a = o.among nodes rows less

  kept_rights : (n : ℕ) (x y : Node) → node_at nodes n ≡ Some x → node_at nodes' n ≡ Some y → rights_of y ≡ rights_of x
  kept_rights n x y e t = rights_same x y ((shown_spares c nodes nodes' tree may.tree a s).0 n x y e t)

  root_seen : HasRights desk.root (node_at nodes' 1)
  root_seen = search (arith, mapped, kept_rights)

  -- ---- a lease whose file was left alone

  module _ (f : Shown) (i : IsLeaseIn h' f) where
    has : HasFile desk.sizes nodes f
    has = may.possible.agrees.files f i

    node : (x : Node) × (node_at nodes f.ino ≡ Some x) × (rights_of x ≡ rights_in f.kind f.body)
    node = mapped rights_of (node_at nodes f.ino) (rights_in f.kind f.body) has.rights

    module _ (alone : IsLeftAlone h f.ino) where
      foreign : IsForeign c f.ino
      foreign = (λ j. alone.0 (subst (λ l. In f.ino l) (map-map (λ (x : Written). x.ino) (λ (x : LentFile). written_in x.stands) h.parcel.writes) j), alone.1)

      spared : IsSpared nodes nodes' f.ino
      spared =
          let q = (shown_spares c nodes nodes' tree may.tree a s).1 f.ino node.0 node.1 foreign in
          record {
            rights = λ x e.
                let one : node.0 ≡ x = some_one (node_at nodes f.ino) node.0 x node.1 e in
                subst (λ (z : Node). HasRightsOf z (node_at nodes' f.ino)) one q.0;
            content = q.2;
          }

      listed_alike : (n : ℕ) → entry_of_node f.ino (node_at nodes' n) ≡ entry_of_node f.ino (node_at nodes n)
      listed_alike n =
          let q = (shown_spares c nodes nodes' tree may.tree a s).1 f.ino node.0 node.1 foreign in
          entry_same f.ino (node_at nodes' n) (node_at nodes n) (q.2.entries n) (λ x y e t. kept_rights n y x t e)

      lease_seen : HasFile desk.sizes nodes' f
      lease_seen = file_on nodes nodes' desk.sizes f spared listed_alike has

    -- ---- its entries

    module _ (well : IsWellLent desk.sizes f) where
      abbrev as_met : Met
      as_met = record { ino = f.ino; kind = f.kind; parent = 0; page = 0; slot = 0; body = f.body }

      placed_here : (l : Listed) → In l (entries_shown desk.sizes f) → is_place_of f.ino l.page l.slot (row_in rows l.entry.ino) ≡ true
      placed_here l j = may.possible.places f l i j

      pub entry_rights : (l : Listed) (x : Node) → In l (entries_shown desk.sizes f) → node_at nodes' l.entry.ino ≡ Some x → rights_of x ≡ rights_in l.entry.kind l.body
      entry_rights l x j e = let y = entry_node desk.sizes f well rows placed_here nodes has l j in kept_rights l.entry.ino y.0 x y.1 e ∙ y.4

      pub lent_seen : IsLeftAlone h f.ino → Lists nodes' f.ino (entries_shown desk.sizes f)
      lent_seen alone =
          lists_by nodes' may.tree f.ino (entries_shown desk.sizes f)
          (λ l j. let x = entry_node desk.sizes f well rows placed_here nodes' (lease_seen alone) l j in (x.0, x.1, x.2, x.3, ap (λ (z : Rights). z.kind) x.4))
          (λ n x e at. has_entry desk.sizes f nodes' may.tree (lease_seen alone) n x e at)
          (ap (λ l. are_new [] (map (λ (z : Listed). z.entry.ino) l)) (sym (lent_entries_are desk.sizes f well as_met refl refl))
          ∙ lent_numbers_new desk.sizes f well as_met refl refl rows (λ l j. placed_here l (subst (λ z. In l z) (lent_entries_are desk.sizes f well as_met refl refl) j)))

  -- ---- judged directories

  files_new : are_new [] (map (λ (w : Written). w.ino) b.writes) ≡ true
  files_new = hand_files_once desk h o

  entries_new : are_new [] (numbers (judged_entries c)) ≡ true
  entries_new = (owning_parts c s.owning).entries_once

  module _ (m : Met) (file : FileRead) (i : In m (judged_files c)) (reads : file_within (bundle_core c) m ≡ Ok file) where
    naming : (l : Listed) → In l file.entries → naming_of c l.entry.ino ≡ Some (record { directory = m.ino; listed = l })
    naming l j =
        naming_once c entries_new (record { directory = m.ino; listed = l })
        (In-flat (λ (x : Met). namings_in x.ino (file_within (bundle_core c) x)) m (record { directory = m.ino; listed = l }) (judged_files c) i
        (subst (λ r. In (record { directory = m.ino; listed = l }) (namings_in m.ino r)) (sym reads)
        (In-map (λ (l : Listed). record { directory = m.ino; listed = l }) l file.entries j)))

    judged_each : (l : Listed) → In l file.entries → (x : Node) × (node_at nodes' l.entry.ino ≡ Some x) × (x.parent ≡ m.ino) × (x.name ≡ l.entry.name) × (x.kind ≡ l.entry.kind)
    judged_each l j =
        let x = listed_as c nodes nodes' tree may.tree a s (record { directory = m.ino; listed = l }) l.entry.ino (naming l j) in
        (x.node, x.there, x.parent, x.name, x.kind)

    judged_only : (n : ℕ) (x : Node) → node_at nodes' n ≡ Some x → x.parent ≡ m.ino → (l : Listed) × In l file.entries × (l.entry.ino ≡ n) × (l.entry.name ≡ x.name)
    judged_only n x e at =
        let there : is_some (naming_of c n) ≡ true = s.whole n x e (In-is_among x.parent (numbers (judged_files c)) (subst (λ k. In k (numbers (judged_files c))) (sym at) (In-map (λ (y : Met). y.ino) m (judged_files c) i))) in
        let g = some_of (naming_of c n) there in
        let k = naming_is c n g.0 g.1 in
        let y = listed_as c nodes nodes' tree may.tree a s g.0 n g.1 in
        let one : y.node ≡ x = some_one (node_at nodes' n) y.node x y.there e in
        let directory : k.judged_by.ino ≡ m.ino = sym k.directory ∙ sym y.parent ∙ ap (λ (z : Node). z.parent) one ∙ at in
        let same : k.judged_by ≡ m = same_met (judged_files c) k.judged_by m (judged_once c files_new) k.among i directory in
        let files : Ok k.file ≡ Ok file = sym k.read ∙ ap (file_within (bundle_core c)) same ∙ reads in
        let file' : k.file ≡ file = cc files in
        (g.0.listed, subst (λ (z : FileRead). In g.0.listed z.entries) file' k.entry, k.number, sym y.name ∙ ap (λ (z : Node). z.name) one)

    numbers_new : are_new [] (map (λ (l : Listed). l.entry.ino) file.entries) ≡ true
    numbers_new =
        let each : are_new [] (flat_map (λ (x : Met). numbers (entries_in c x)) (judged_files c)) ≡ true = ap (are_new []) (sym (numbers-flat (entries_in c) (judged_files c))) ∙ entries_new in
        ap (are_new []) (sym (map-map (λ (x : Met). x.ino) (met_in plain m.ino) file.entries))
        ∙ ap (λ r. are_new [] (numbers (children_in plain m.ino r))) (sym reads)
        ∙ each_new (λ (x : Met). numbers (entries_in c x)) (judged_files c) m each i

    judged_made : (l : Listed) → In l file.entries → In l.entry.ino b.numbers → HasRights (rights_in l.entry.kind l.body) (node_at nodes' l.entry.ino)
    judged_made l j k = search (arith, naming, less)

    judged_seen : Lists nodes' m.ino file.entries
    judged_seen = lists_by nodes' may.tree m.ino file.entries judged_each judged_only numbers_new

  -- ---- written files

  module _ (f : LentFile) (file : FileRead) (i : In f h.parcel.writes) (number : f.stands.ino ≡ f.lent.ino) (kind : f.stands.kind ≡ f.lent.kind) (reads : read_in_hand desk h (bare_file f.stands) ≡ Ok file) where
    abbrev here : Met
    here = written_met c (written_in f.stands)

    here_in : In here (judged_files c)
    here_in = start_judged c here (start_to c (written_in f.stands) (In-map (λ (x : LentFile). written_in x.stands) f h.parcel.writes i))

    here_reads : file_within (bundle_core c) here ≡ Ok file
    here_reads =
        ap (file_within (bundle_core c)) (sym (bare_at (written_in f.stands) (row_in rows f.stands.ino)))
        ∙ written_alike (bundle_core c) (bare_file f.stands) (row_in rows f.stands.ino) None
        ∙ reads

    was : (x : Node) × (node_at nodes f.stands.ino ≡ Some x) × (rights_of x ≡ rights_in f.lent.kind f.lent.body)
    was =
        let has = less.agrees.files f.lent (In-left f.lent (lent_files h.parcel.writes) h.back (In-map (λ (x : LentFile). x.lent) f h.parcel.writes i)) in
        let x = mapped rights_of (node_at nodes f.lent.ino) (rights_in f.lent.kind f.lent.body) has.rights in
        (x.0, ap (node_at nodes) number ∙ x.1, x.2)

    unheld : is_among f.stands.ino b.holds ≡ false
    unheld =
        false_from_ne_true (is_among f.stands.ino b.holds)
        (λ t. a.apart f.stands.ino (is_among-In f.stands.ino b.holds t) (In-map (λ (w : Written). w.ino) (written_in f.stands) b.writes (In-map (λ (x : LentFile). written_in x.stands) f h.parcel.writes i)))

    bytes_have : bytes_now c f.stands.ino ≡ bytes_read (bundle_core c) f.stands.kind (Ok file)
    bytes_have =
        let there : find (λ (x : Met). eqb x.ino f.stands.ino) (judged_files c) ≡ Some here =
        (let r = In-find (λ (x : Met). eqb x.ino f.stands.ino) (judged_files c) here here_in (eq-eqb here.ino f.stands.ino (written_ino_at (written_in f.stands) (row_in rows f.stands.ino))) in
        let q = find-In (λ (x : Met). eqb x.ino f.stands.ino) (judged_files c) r.0 r.1 in
        r.1 ∙ ap Some (same_met (judged_files c) r.0 here (judged_once c files_new) q.0 here_in (eqb-true r.0.ino f.stands.ino q.1 ∙ sym (written_ino_at (written_in f.stands) (row_in rows f.stands.ino))))) in
        ap (option_and_then (λ (m : Met). bytes_read (bundle_core c) m.kind (file_within (bundle_core c) m))) there
        ∙ ap (bytes_read (bundle_core c) here.kind) here_reads
        ∙ ap (λ k. bytes_read (bundle_core c) k (Ok file)) (written_kind_at (written_in f.stands) (row_in rows f.stands.ino))

    -- the node that is shown
    now : (y : Node) × (node_at nodes' f.stands.ino ≡ Some (with_judged (bytes_now c f.stands.ino) (guard_now c f.stands.ino) y))
    now =
        let at : node_at nodes' f.stands.ino ≡ option_map (with_judged (bytes_now c f.stands.ino) (guard_now c f.stands.ino)) (node_left c f.stands.ino (naming_of c f.stands.ino) (Some was.0)) =
        s.each f.stands.ino ∙ ap (λ q. option_map (with_judged (bytes_now c f.stands.ino) (guard_now c f.stands.ino)) (node_left c f.stands.ino (naming_of c f.stands.ino) q)) was.1 in
        by (naming_of c f.stands.ino) at
      where
        by : (q : Option Naming) → node_at nodes' f.stands.ino ≡ option_map (with_judged (bytes_now c f.stands.ino) (guard_now c f.stands.ino)) (node_left c f.stands.ino q (Some was.0)) → (y : Node) × (node_at nodes' f.stands.ino ≡ Some (with_judged (bytes_now c f.stands.ino) (guard_now c f.stands.ino) y))
        by (Some g) e = (placed g was.0, e)
        by None e = (was.0, e ∙ ap (λ t. option_map (with_judged (bytes_now c f.stands.ino) (guard_now c f.stands.ino)) (cond t None (Some was.0))) unheld)

    written_bytes : is_directory f.stands.kind ≡ false → option_map (λ x. x.bytes) (node_at nodes' f.stands.ino) ≡ Some (bytes_listed (core_in_hand desk h) file)
    written_bytes t =
        let have : bytes_now c f.stands.ino ≡ Some (bytes_listed (core_in_hand desk h) file) =
        bytes_have ∙ ap (λ d. cond d None (Some (bytes_listed (core_in_hand desk h) file))) t in
        ap (option_map (λ (x : Node). x.bytes)) now.1
        ∙ ap (λ q. Some (with_judged q (guard_now c f.stands.ino) now.0).bytes) have
        ∙ ap Some (bytes_with (bytes_listed (core_in_hand desk h) file) (guard_now c f.stands.ino) now.0)

    written_rights : HasRights (rights_in f.stands.kind f.stands.body) (node_at nodes' f.stands.ino)
    written_rights =
        let x : Node = was.0 in
        let y : Node = with_judged (bytes_now c f.stands.ino) (guard_now c f.stands.ino) now.0 in
        let r = node_row c nodes nodes' tree may.tree a s f.stands.ino x was.1 in
        let said : row_says r.0 ≡ node_says x = said_alike rows nodes f.stands.ino r.0 x a.same r.1 was.1 in
        let keeps : file_keeps_rights c here (Ok file) ≡ true =
        ap (file_keeps_rights c here) (sym here_reads) ∙ list_all-In (λ m. file_keeps_rights c m (file_within (bundle_core c) m)) here (judged_files c) (and_parts (list_all (entry_keeps_rights c) (judged_entries c)) _ s.rights).1 here_in in
        let is : here.ino ≡ f.stands.ino = written_ino_at (written_in f.stands) (row_in rows f.stands.ino) in
        let there : is_written b f.stands.ino ≡ true =
        written_among b.writes f.stands.ino ∙ In-is_among f.stands.ino (map (λ (w : Written). w.ino) b.writes) (In-map (λ (w : Written). w.ino) (written_in f.stands) b.writes (In-map (λ (x : LentFile). written_in x.stands) f h.parcel.writes i)) in
        let has : has_rights (Some r.0) file.body ≡ true = search arith in
        let p = and_parts (eqb r.0.mode.0 file.body.mode.0 && eqb r.0.uid file.body.uid) (eqb r.0.gid file.body.gid) has in
        let q = and_parts (eqb r.0.mode.0 file.body.mode.0) (eqb r.0.uid file.body.uid) p.0 in
        let stands : body_at f.stands.body ≡ file.body =
        body_stands here.kind desk.sizes.range f.stands.body file.body (ap (body_of here.kind desk.sizes.range) (sym (written_body_at (written_in f.stands) (row_in rows f.stands.ino))) ∙ (within_from (bundle_core c) here file here_reads).body) in
        let mode : x.mode.0 ≡ (body_at f.stands.body).mode.0 = sym (ap (λ (z : Said). z.rights.mode.0) said) ∙ eqb-true r.0.mode.0 file.body.mode.0 q.0 ∙ sym (ap (λ (z : Body). z.mode.0) stands) in
        let uid : x.uid ≡ (body_at f.stands.body).uid = sym (ap (λ (z : Said). z.rights.uid) said) ∙ eqb-true r.0.uid file.body.uid q.1 ∙ sym (ap (λ (z : Body). z.uid) stands) in
        let gid : x.gid ≡ (body_at f.stands.body).gid = sym (ap (λ (z : Said). z.rights.gid) said) ∙ eqb-true r.0.gid file.body.gid p.1 ∙ sym (ap (λ (z : Body). z.gid) stands) in
        let of : x.kind ≡ f.stands.kind = ap (λ (z : Rights). z.kind) was.2 ∙ sym kind in
        let by : Kind → ℕ → ℕ → ℕ → Rights = λ k m u g. record { kind = k; mode = record { 0 = m }; uid = u; gid = g } in
        let body : Body = body_at f.stands.body in
        let all : rights_of x ≡ rights_in f.stands.kind f.stands.body =
        ap (λ k. by k x.mode.0 x.uid x.gid) of ∙ ap (λ m. by f.stands.kind m x.uid x.gid) mode ∙ ap (λ u. by f.stands.kind body.mode.0 u x.gid) uid ∙ ap (by f.stands.kind body.mode.0 body.uid) gid in
        ap (option_map rights_of) now.1 ∙ ap Some (kept_rights f.stands.ino x y was.1 now.1 ∙ all)

-- ---- files that are untouched

module _ (desk : DeskSeen) (h : InHand) (f : LentFile) (o : IsInOrder desk h) (i : In f h.parcel.writes) (same : f.stands ≡ f.lent) (well : IsWellLent desk.sizes f.lent) where
  untouched_in : (x : Sheet) → In x (lent_sheets f.lent) → In x (bundle_sheets (bundle_of h.parcel))
  untouched_in x j =
      let w : List Sheet = flat_map (λ (w : Written). w.index ++ w.blocks) (bundle_of h.parcel).writes in
      let k : In x (map lent_sheet f.stands.index ++ map lent_sheet f.stands.blocks) =
      subst (λ (z : Shown). In x (map lent_sheet z.index ++ map lent_sheet z.blocks)) (sym same) (subst (λ l. In x l) (map-append lent_sheet f.lent.index f.lent.blocks) j) in
      In-left x w (bundle_of h.parcel).pages
      (In-flat (λ (w : Written). w.index ++ w.blocks) (written_in f.stands) x (bundle_of h.parcel).writes (In-map (λ (y : LentFile). written_in y.stands) f h.parcel.writes i) k)

  bare_kind : (written_at (bare_file f.stands) None).kind ≡ f.lent.kind
  bare_kind = ap (λ (z : Shown). z.kind) same

  bare_body : (written_at (bare_file f.stands) None).body ≡ f.lent.body
  bare_body = ap (λ (z : Shown). z.body) same

  untouched_reads_here :
      (file : FileRead) × (read_in_hand desk h (bare_file f.stands) ≡ Ok file)
      × (file.body ≡ body_at f.lent.body)
      × (file.chain ≡ record { index = lent_numbers f.lent.index; blocks = lent_numbers f.lent.blocks })
      × (file.entries ≡ entries_shown desk.sizes f.lent)
      × (is_directory f.lent.kind ≡ false → bytes_listed (core_in_hand desk h) file ≡ bytes_shown f.lent)
  untouched_reads_here =
      let m : Met = written_at (bare_file f.stands) None in
      let sheets : List Sheet = bundle_sheets (bundle_of h.parcel) in (
        lent_file desk.sizes f.lent well,
        lent_reads desk.sizes f.lent well m bare_kind bare_body sheets o.pages untouched_in,
        lent_file-body desk.sizes f.lent well,
        lent_file-chain desk.sizes f.lent well,
        lent_entries_are desk.sizes f.lent well m bare_kind bare_body,
        λ t.
            let read : Some (bytes_listed (core_in_hand desk h) (lent_file desk.sizes f.lent well)) ≡ Some (bytes_shown f.lent) = lent_bytes desk.sizes f.lent well m bare_kind bare_body sheets o.pages untouched_in in cc read,
      )

-- ---- the laws

pub untouched_reads : UntouchedReads
untouched_reads desk h f o i same well = untouched_reads_here desk h f o i same well

pub sees_untouched : SeesUntouched
sees_untouched desk h h' nodes nodes' rows f v i same well =
    let c : Case = case_in_hand desk rows h in
    let m : Met = written_met c (written_in f.stands) in
    let r = untouched_reads_here desk h f v.order i same well in
    let number : m.ino ≡ f.lent.ino = written_ino c (written_in f.stands) ∙ ap (λ (z : Shown). z.ino) same in
    let judged : In m (judged_files c) = start_judged c m (start_to c (written_in f.stands) (In-map (λ (x : LentFile). written_in x.stands) f h.parcel.writes i)) in
    let reads : file_within (bundle_core c) m ≡ Ok r.0 = here_reads desk h h' nodes nodes' rows v f r.0 i (ap (λ (z : Shown). z.ino) same) (ap (λ (z : Shown). z.kind) same) r.1 in
    subst (λ n. Lists nodes' n (entries_shown desk.sizes f.lent)) number
    (subst (λ l. Lists nodes' m.ino l) r.4 (judged_seen desk h h' nodes nodes' rows v m r.0 judged reads))

pub sees_root : SeesRoot
sees_root desk h h' nodes nodes' rows v = root_seen desk h h' nodes nodes' rows v

pub sees_lease : SeesLease
sees_lease desk h h' nodes nodes' rows f v i alone = lease_seen desk h h' nodes nodes' rows v f i alone

pub sees_entry_rights : SeesEntryRights
sees_entry_rights desk h h' nodes nodes' rows f l x v i well j e = entry_rights desk h h' nodes nodes' rows v f i well l x j e

pub sees_lent : SeesLent
sees_lent desk h h' nodes nodes' rows f v i alone well = lent_seen desk h h' nodes nodes' rows v f i well alone

pub sees_judged : SeesJudged
sees_judged desk h h' nodes nodes' rows m file v i reads =
    let x = judged_there desk.sizes desk.creds rows [] (bundle_of h.parcel) (map held_by h.parcel.holds) m i in
    let same : x.0.ino ≡ m.ino = ap (λ (z : Read). z.ino) x.2 in
    subst (λ n. Lists nodes' n file.entries) same (judged_seen desk h h' nodes nodes' rows v x.0 file x.1 (ap (λ (z : Read). z.reads) x.2 ∙ reads))

pub sees_made : SeesMade
sees_made desk h h' nodes nodes' rows m file l v i reads j k =
    let x = judged_there desk.sizes desk.creds rows [] (bundle_of h.parcel) (map held_by h.parcel.holds) m i in
    judged_made desk h h' nodes nodes' rows v x.0 file x.1 (ap (λ (z : Read). z.reads) x.2 ∙ reads) l j k

pub sees_written : SeesWritten
sees_written desk h h' nodes nodes' rows f file v i number kind reads =
    (written_rights desk h h' nodes nodes' rows v f file i number kind reads, written_bytes desk h h' nodes nodes' rows v f file i number kind reads)
