-- What is known of a case that shows nodes: its files read, each number is judged and named once, and what is new has no node.
use Rattle.trio_edit_laws.proofs.Words.{◌∙◌, ◌≡◌, Case, DeskSeen, FileRead, In, In-find, In-flat, In-left, In-map, InHand, IsAmong, IsTree, IsView, List, Listed, Met, Naming, Nodes, None, Ok, Ok-one, Option, Row, Shows, Some, Written, [], and_parts, ap, are_new, arith, bundle_core, bytes_now, bytes_read, case_in_hand, entries_in, eq-eqb, eqb, eqb-true, file_within, find, find-In, flat_map-In, fronts_listed, hand_files_once, inl, inr, is_ok, is_ok-Ok, judged_once, list_all-In, map, met_in, naming_of, naming_once, namings, namings_in, new_dead, new_entries, new_entry, node_at, numbers, option_and_then, owning_parts, plain, refl, row_in, same_met, some_of, start_from, subst, sym, true, written_files, written_ino, ℕ, Core, Kind, Result, Location, Err, is_directory, cond, take, pages_bytes, guard_now, guard_in, with_judged, Node, option_map}
use Rattle.trio_layout.specs.JudgedFiles.{judged_files}
use Rattle.trio_edit_laws.proofs.session.Closed.{entry_read, judged_closed}
use Rattle.trio_laws.proofs.session.Ruled.{IsOwned}

-- ---- bytes

found_in : (z : Case) → are_new [] (numbers (judged_files z)) ≡ true → (m : Met) → In m (judged_files z) → find (λ (x : Met). eqb x.ino m.ino) (judged_files z) ≡ Some m
found_in z new m i =
    let r = In-find (λ (x : Met). eqb x.ino m.ino) (judged_files z) m i (eq-eqb m.ino m.ino refl) in
    let f = find-In (λ (x : Met). eqb x.ino m.ino) (judged_files z) r.0 r.1 in
    r.1 ∙ ap Some (same_met (judged_files z) r.0 m new f.0 i (eqb-true r.0.ino m.ino f.1))

pub bytes_in : (z : Case) → are_new [] (numbers (judged_files z)) ≡ true → (m : Met) (k : ℕ) → In m (judged_files z) → m.ino ≡ k → bytes_now z k ≡ bytes_read (bundle_core z) m.kind (file_within (bundle_core z) m)
bytes_in z new m k i e =
    ap (bytes_now z) (sym e) ∙ ap (option_and_then (λ m. bytes_read (bundle_core z) m.kind (file_within (bundle_core z) m))) (found_in z new m i)

none_found : (z : Case) (k : ℕ) → ((m : Met) → In m (judged_files z) → m.ino ≡ k → ⊥) → find (λ (m : Met). eqb m.ino k) (judged_files z) ≡ None
none_found z k out = by (find (λ (m : Met). eqb m.ino k) (judged_files z)) refl
  where
    by : (o : Option Met) → find (λ (m : Met). eqb m.ino k) (judged_files z) ≡ o → o ≡ None
    by None h = refl
    by (Some m) h = let f = find-In (λ (x : Met). eqb x.ino k) (judged_files z) m h in absurd (out m f.0 (eqb-true m.ino k f.1))

pub bytes_none : (z : Case) (k : ℕ) → ((m : Met) → In m (judged_files z) → m.ino ≡ k → ⊥) → bytes_now z k ≡ None
bytes_none z k out = ap (option_and_then (λ m. bytes_read (bundle_core z) m.kind (file_within (bundle_core z) m))) (none_found z k out)

-- a file's bytes go by whether it is a directory
pub bytes_kind : (core : Core) (k k' : Kind) (r : Result FileRead Location) → is_directory k ≡ is_directory k' → bytes_read core k r ≡ bytes_read core k' r
bytes_kind core k k' (Ok f) e = ap (λ t. cond t None (Some (take f.body.size (pages_bytes core f.chain.blocks)))) e
bytes_kind core k k' (Err place) e = refl

-- ---- guards

pub guard_judged : (z : Case) → are_new [] (numbers (judged_files z)) ≡ true → (m : Met) (k : ℕ) → In m (judged_files z) → m.ino ≡ k → guard_now z k ≡ Some (guard_in m.body)
guard_judged z new m k i e = ap (guard_now z) (sym e) ∙ ap (option_map (λ (m : Met). guard_in m.body)) (found_in z new m i)

-- ---- bytes and guards

-- what a case makes of a node in its place
abbrev pub judged_data : Case → ℕ → Node → Node
judged_data z k = with_judged (bytes_now z k) (guard_now z k)

pub data_none : (z : Case) (k : ℕ) → ((m : Met) → In m (judged_files z) → m.ino ≡ k → ⊥) → judged_data z k ≡ with_judged None None
data_none z k out = ap (λ o. with_judged o (guard_now z k)) (bytes_none z k out) ∙ ap (λ o. with_judged None (option_map (λ (m : Met). guard_in m.body) o)) (none_found z k out)

-- ---- a case that shows nodes

-- a case stands among trees, shows one in the place of the other, and has each written file once
pub record IsShown (c : Case) (nodes nodes' : Nodes) : Type 0 where
  pub tree : IsTree nodes
  pub tree' : IsTree nodes'
  pub among : IsAmong c nodes
  pub shows : Shows c nodes nodes'
  pub once : are_new [] (map (λ (w : Written). w.ino) c.bundle.writes) ≡ true

module _ {c : Case} {nodes nodes' : Nodes} (v : IsShown c nodes nodes') where
  pub reads_before : (y : Met) → In y (judged_files (c)) → (f : FileRead) × (file_within (bundle_core (c)) y ≡ Ok f)
  reads_before y i = search (arith, is_ok-Ok, list_all-In, is_ok, and_parts)

  pub owned : IsOwned c
  owned = owning_parts c v.shows.owning

  pub written_live : (k : ℕ) → In k (map (λ (w : Written). w.ino) c.bundle.writes) → In k c.bundle.numbers → ⊥
  written_live k i j =
      let r = some_of (row_in c.rows k) (v.among.written k i) in new_dead c nodes nodes' v.tree v.tree' v.among v.shows k r.0 r.1 j

  -- a number that is new has no node
  pub no_node : (k : ℕ) → In k c.bundle.numbers → node_at nodes k ≡ None
  no_node k i = search arith

  pub one_before : (x y : Met) → In x (judged_files c) → In y (judged_files c) → x.ino ≡ y.ino → x ≡ y
  one_before x y i j e = same_met (judged_files c) x y (judged_once c v.once) i j e

  pub closed_before : (x e : Met) → In x (judged_files c) → In e (entries_in c x) → In e.ino c.bundle.numbers → In e (judged_files c)
  closed_before = judged_closed c v.once written_live owned.entries_once

  pub entries_of : (y : Met) (i : In y (judged_files c)) (l : Listed) → In l (reads_before y i).0.entries → In (met_in plain y.ino l) (entries_in c y)
  entries_of y i l j = search (arith, reads_before, In-map)

  pub naming_in : (y : Met) (i : In y (judged_files c)) (l : Listed) → In l (reads_before y i).0.entries → In (record { directory = y.ino; listed = l }) (namings c)
  naming_in y i l j =
      let f = reads_before y i in
      let e : Naming = record { directory = y.ino; listed = l } in
      In-flat (λ (m : Met). namings_in m.ino (file_within (bundle_core c) m)) y e (judged_files c) i
      (subst (λ r. In e (namings_in y.ino r)) (sym f.1) (In-map (λ (l : Listed). record { directory = y.ino; listed = l }) l f.0.entries j))

  pub named_before : (e : Naming) → In e (namings c) → naming_of c e.listed.entry.ino ≡ Some e
  named_before e i = naming_once c owned.entries_once e i

  -- an entry that is read names its number
  pub entry_named : (y : Met) (f : FileRead) (l : Listed) → In y (judged_files c) → file_within (bundle_core c) y ≡ Ok f → In l f.entries → naming_of c l.entry.ino ≡ Some (record { directory = y.ino; listed = l })
  entry_named y f l j e i =
      let g = reads_before y j in
      let same : f ≡ g.0 = Ok-one (file_within (bundle_core c) y) f g.0 e g.1 in
      named_before (record { directory = y.ino; listed = l }) (naming_in y j l (subst (λ (z : FileRead). In l z.entries) same i))

  -- a number that is new and judged is listed, so it isn't 0
  pub judged_listed : (y : Met) → In y (judged_files c) → In y.ino c.bundle.numbers → (x : Met) × In x (judged_files c) × In y (entries_in c x)
  unfolding judged_files
  judged_listed y i new =
      elim (fronts_listed (new_entries c) (written_files c) c.inodes y i) [
        | inl start ↦
            let w = start_from c y start in
            absurd (written_live y.ino (subst (λ z. In z (map (λ (w : Written). w.ino) c.bundle.writes)) (sym (ap (λ (m : Met). m.ino) w.2 ∙ written_ino c w.0)) (In-map (λ (w : Written). w.ino) w.0 c.bundle.writes w.1)) new)
        | inr kid ↦
            let q = flat_map-In (new_entries c) y _ kid in
            (q.0, In-left q.0 _ _ q.1, (new_entry c q.0 y q.2).0)
      ]

  pub root_dead : In 1 c.bundle.numbers → ⊥
  root_dead i =
      let wrong : None ≡ Some v.tree.root.0 = sym (no_node 1 i) ∙ v.tree.root.1 in cc wrong

  -- a file that is judged and new is named
  pub unnamed_unjudged : (n : ℕ) (m : Met) → In m (judged_files c) → m.ino ≡ n → In n c.bundle.numbers → naming_of c n ≡ None → ⊥
  unnamed_unjudged n m i same new free =
      let z = judged_listed m i (subst (λ q. In q c.bundle.numbers) (sym same) new) in
      let q = entry_read c z.0 m z.2 in
      let number : q.2.entry.ino ≡ n = sym (ap (λ (w : Met). w.ino) q.4) ∙ same in
      let wrong : None ≡ Some (record { directory = z.0.ino; listed = q.2 }) = sym free ∙ ap (naming_of c) (sym number) ∙ entry_named z.0 q.0 q.2 z.1 q.1 q.3 in cc wrong

  -- a number that is new and that nothing names has neither bytes nor guard
  pub data_unnamed : (n : ℕ) → In n c.bundle.numbers → naming_of (c) n ≡ None → judged_data c n ≡ with_judged None None
  data_unnamed n new free = data_none c n (λ m i t. unnamed_unjudged n m i t new free)

-- what is in hand, where it is viewed
pub seen : (desk : DeskSeen) (h h' : InHand) (nodes nodes' : Nodes) (rows : List (Option Row)) → IsView desk h h' nodes nodes' rows → IsShown (case_in_hand desk rows h) nodes nodes'
seen desk h h' nodes nodes' rows q =
    let p = q.more nodes rows q.shows.possible in
    record { tree = p.tree; tree' = q.shows.tree; among = q.order.among nodes rows p; shows = q.shows.shows; once = hand_files_once desk h q.order }
