-- A bundle in whose directories the file of one number is listed anew, elsewhere or not at all: which files it judges then, that rules I1,
-- I2 and I4 hold of it, and which nodes it shows.
use Rattle.trio_edit_laws.proofs.Words.{◌&&◌, ◌++◌, ◌∙◌, ◌∷◌, ◌≡◌, ◌⊎◌, Body, Bool, Bundle, Case, Creds, Directory, FileRead, Held, In, In-flat, In-is_among, In-left, In-map, IsDirectory, IsEmptyFile, IsTree, Kind, List, Listed, Met, Naming, Node, Nodes, None, Ok, Option, Path, Regular, Row, Sheet, Shows, Sizes, Some, Up, Written, [], and_from, and_parts, ap, are_new, arith, both_ways, bundle_core, bundle_pages, bytes_now, bytes_read, case_with, cases_Bool, cases_eq, children_in, cond, each_new, entries_in, entry_in_grammar, entry_is_own, entry_keeps_rights, eq-eqb, eqb, eqb-true, false, false_from_ne_true, file_keeps_rights, file_within, find-In, flat_map-In, fronts_keep, fronts_listed, gathered_new, has_rights, inl, inr, is_among, is_among-In, is_ok, is_some, is_written, judged_entries, judged_once, judged_pages, list_all, list_all-In, list_all-each, made_by, map, map-In, map-map, meets_grammar, meets_owning, meets_rights, met_in, naming_is, naming_of, naming_once, namings, namings_in, new_entries, new_entry, node_at, node_left, node_now, numbers, numbers-flat, one_of, option_map, pages_bytes, pages_in, pages_within, plain, refl, row_in, some_one, start_from, start_judged, subst, suc, sym, true, with_bytes, written_among, written_files, written_ino, zero, ℕ, is_directory, guard_in, guard_now, with_judged}
use Rattle.std.specs.Prelude.{take}
use Rattle.trio_layout.specs.JudgedFiles.{judged_files}
use Rattle.trio_laws.proofs.session.Climbing.{way_of}
use Rattle.trio_edit_laws.proofs.session.Closed.{entry_above, entry_read, judged_closed}
use Rattle.trio_laws.proofs.session.Edges.{listed_now, unlisted_now}
use Rattle.trio_edit_laws.proofs.session.Judged.{IsShown, bytes_in, bytes_kind, judged_data, data_none, data_unnamed, guard_judged, closed_before, entries_of, judged_listed, named_before, naming_in, no_node, one_before, owned, reads_before, root_dead, unnamed_unjudged, written_live}
use Rattle.trio_laws.proofs.session.Namings.{judged_named, met_of}
use Rattle.trio_laws.proofs.session.Ruled.{naming_from}

-- the file that an entry lists
abbrev pub met_at : Naming → Met
met_at e = met_in plain e.directory e.listed

module _ (sizes : Sizes) (creds : Creds) (rows : List (Option Row)) (b : Bundle) (ws' : List Written) (ps' : List Sheet) (lent : List Held) (n : ℕ) (now : Option Naming) where
  abbrev pub b' : Bundle
  b' = record { writes = ws'; holds = b.holds; pages = ps'; numbers = b.numbers }

  abbrev pub c : Case
  c = case_with sizes creds rows b lent

  abbrev pub c' : Case
  c' = case_with sizes creds rows b' lent

  -- a judged file reads as before, but that the number is listed anew
  pub record Rereads (y : Met) (f : FileRead) : Type 0 where
    pub then : FileRead
    pub read : file_within (bundle_core c') y ≡ Ok then
    pub body : then.body ≡ f.body
    pub chain : then.chain ≡ f.chain
    pub from : (l : Listed) → In l then.entries → (In l f.entries × (l.entry.ino ≡ n → ⊥)) ⊎ (now ≡ Some (record { directory = y.ino; listed = l }))
    pub to : (l : Listed) → In l f.entries → (l.entry.ino ≡ n → ⊥) → In l then.entries
    pub come : (l : Listed) → now ≡ Some (record { directory = y.ino; listed = l }) → In l then.entries
    pub once : are_new [] (map (λ (l : Listed). l.entry.ino) then.entries) ≡ true
    pub bytes :
        bytes_read (bundle_core c') y.kind (Ok then)
        ≡ bytes_read (bundle_core c) y.kind (Ok f)

  -- the file that was made was judged before, and reads the same where it is listed now
  pub record IsTaken (e : Naming) : Type 0 where
    pub was : Met
    pub judged : In was (judged_files c)
    pub number : was.ino ≡ n
    pub kind : is_directory was.kind ≡ is_directory e.listed.entry.kind
    pub guard : guard_in was.body ≡ guard_in e.listed.body
    pub reads :
        file_within (bundle_core c') (met_at e)
        ≡ file_within (bundle_core c') was

  -- or it is new, and empty
  pub record IsBare (e : Naming) : Type 0 where
    pub unnamed : naming_of c n ≡ None
    pub file : FileRead
    pub read : file_within (bundle_core c') (met_at e) ≡ Ok file
    pub empty : IsEmptyFile file
    pub uid : file.body.uid ≡ creds.uid
    pub gid : file.body.gid ≡ creds.gid

  pub record IsNamedAnew (nodes nodes' after : Nodes) : Type 0 where
    pub starts : written_files c' ≡ written_files c
    pub writes : map (λ (w : Written). w.ino) ws' ≡ map (λ (w : Written). w.ino) b.writes
    pub written : (k : ℕ) → is_written b' k ≡ is_written b k
    pub pages : bundle_pages b' ≡ bundle_pages b
    pub number : (e : Naming) → now ≡ Some e → e.listed.entry.ino ≡ n
    pub reads : (y : Met) (f : FileRead) → In y (judged_files c) → file_within (bundle_core c) y ≡ Ok f → Rereads y f
    pub lister : (e : Naming) → now ≡ Some e → (y : Met) × In y (judged_files c) × (y.ino ≡ e.directory)
    pub file : (e : Naming) → now ≡ Some e → In n b.numbers → IsTaken e ⊎ IsBare e
    pub grammar : (e : Naming) → now ≡ Some e → entry_in_grammar c (met_at e) ≡ true
    pub own : (e : Naming) → now ≡ Some e → entry_is_own c (met_at e) ≡ true
    pub rights : (e : Naming) → now ≡ Some e → entry_keeps_rights c (met_at e) ≡ true
    pub here : node_at after n ≡ option_map (judged_data c n) (node_left c n now (node_at nodes n))
    pub there : (k : ℕ) → (k ≡ n → ⊥) → node_at after k ≡ node_at nodes' k
    pub none : now ≡ None → node_at after n ≡ None
    pub tree : IsTree after

  module _ (nodes nodes' after : Nodes) (v : IsShown c nodes nodes') (g : IsNamedAnew nodes nodes' after) where
    pub again : (y : Met) (i : In y (judged_files c)) → Rereads y (reads_before v y i).0
    again y i = g.reads y (reads_before v y i).0 i (reads_before v y i).1

    -- ---- the judged files

    abbrev pub Old : Met → Type 0
    Old y = In y (judged_files c) × (In n b.numbers → y.ino ≡ n → ⊥)

    abbrev pub New : Met → Type 0
    New x = (e : Naming) × (now ≡ Some e) × In n b.numbers × (x ≡ met_at e)

    new_number : (x : Met) → New x → x.ino ≡ n
    new_number x w = ap (λ (m : Met). m.ino) w.3 ∙ g.number w.0 w.1

    -- a file that is judged then reads as one that was judged before, or is the new one
    pub record Source (x : Met) : Type 0 where
      pub was : Met
      pub judged : In was (judged_files c)
      pub number : was.ino ≡ x.ino
      pub kind : is_directory was.kind ≡ is_directory x.kind
      pub guard : guard_in was.body ≡ guard_in x.body
      pub reads :
          file_within (bundle_core c') x
          ≡ file_within (bundle_core c') was

    pub record Begun (x : Met) : Type 0 where
      pub entry : Naming
      pub is_now : now ≡ Some entry
      pub new : In n b.numbers
      pub is : x ≡ met_at entry
      pub bare : IsBare entry

    source : (x : Met) → New x ⊎ Old x → Source x ⊎ Begun x
    source x (inr o) = inl (record { was = x; judged = o.0; number = refl; kind = refl; guard = refl; reads = refl })
    source x (inl w) =
        elim (g.file w.0 w.1 w.2) [
          | inl t ↦ inl (record {
            was = t.was;
            judged = t.judged;
            number = t.number ∙ sym (new_number x w);
            kind = t.kind ∙ sym (ap (λ (m : Met). is_directory m.kind) w.3);
            guard = t.guard ∙ sym (ap (λ (m : Met). guard_in m.body) w.3);
            reads = ap (file_within (bundle_core c')) w.3 ∙ t.reads;
          })
          | inr t ↦ inr (record { entry = w.0; is_now = w.1; new = w.2; is = w.3; bare = t })
        ]

    -- the entries of a file that is judged then
    entry_then : (x : Met) → New x ⊎ Old x → (e : Naming) → In e (namings_in x.ino (file_within (bundle_core c') x)) → (In e (namings c) × (e.listed.entry.ino ≡ n → ⊥)) ⊎ (now ≡ Some e)
    entry_then x j e i =
        elim (source x j) [
          | inl q ↦
              let r = again q.was q.judged in
              let k = naming_from x.ino (Ok r.then) e (subst (λ z. In e (namings_in x.ino z)) (q.reads ∙ r.read) i) in
              let same : r.then ≡ k.0 = (let t : Ok r.then ≡ Ok k.0 = k.1 in cc t) in
              let is : e ≡ record { directory = q.was.ino; listed = k.2 } = k.4 ∙ ap (λ d. record { directory = d; listed = k.2 }) (sym q.number) in
              elim (r.from k.2 (subst (λ (z : FileRead). In k.2 z.entries) (sym same) k.3)) [
                | inl old ↦ inl (subst (λ z. In z (namings c)) (sym is) (naming_in v q.was q.judged k.2 old.0), λ t. old.1 (sym (ap (λ (z : Naming). z.listed.entry.ino) is) ∙ t))
                | inr come ↦ inr (come ∙ ap Some (sym is))
              ]
          | inr q ↦
              let k = naming_from x.ino (Ok q.bare.file) e (subst (λ z. In e (namings_in x.ino z)) (ap (file_within (bundle_core c')) q.is ∙ q.bare.read) i) in
              let same : q.bare.file ≡ k.0 = (let t : Ok q.bare.file ≡ Ok k.0 = k.1 in cc t) in
              absurd (subst (λ l. In k.2 l) (ap (λ (z : FileRead). z.entries) (sym same) ∙ q.bare.empty.2) k.3)
        ]

    met_entry : (x e : Met) → In e (entries_in c' x) → (k : Naming) × In k (namings_in x.ino (file_within (bundle_core c') x)) × (k.directory ≡ x.ino) × (e ≡ met_at k)
    met_entry x e i =
        let q = entry_read c' x e i in (
          record { directory = x.ino; listed = q.2 },
          subst (λ r. In (record { directory = x.ino; listed = q.2 }) (namings_in x.ino r)) (sym q.1) (In-map (λ (l : Listed). record { directory = x.ino; listed = l }) q.2 q.0.entries q.3),
          refl,
          q.4,
        )

    naming_entry : (x : Met) (k : Naming) → In k (namings c) → k.directory ≡ x.ino → (y : Met) × In y (judged_files c) × (y.ino ≡ k.directory) × In (met_at k) (entries_in c y)
    naming_entry x k i e =
        let q = flat_map-In (λ (m : Met). namings_in m.ino (file_within (bundle_core c) m)) k (judged_files c) i in
        let f = reads_before v q.0 q.1 in
        let l = naming_from q.0.ino (Ok f.0) k (subst (λ r. In k (namings_in q.0.ino r)) f.1 q.2) in
        let same : f.0 ≡ l.0 = (let t : Ok f.0 ≡ Ok l.0 = l.1 in cc t) in (
          q.0,
          q.1,
          sym (ap (λ (z : Naming). z.directory) l.4),
          subst (λ z. In z (entries_in c q.0)) (sym (ap met_at l.4)) (entries_of v q.0 q.1 l.2 (subst (λ (z : FileRead). In l.2 z.entries) (sym same) l.3)),
        )

    pub judged_from : (x : Met) → In x (judged_files c') → New x ⊎ Old x
    unfolding judged_files
    judged_from x i =
        fronts_keep (new_entries c') (written_files c') (λ y. New y ⊎ Old y) begins goes sizes.inodes x i
      where
        begins : (y : Met) → In y (written_files c') → New y ⊎ Old y
        begins y j =
            let k = subst (λ l. In y l) g.starts j in
            let w = start_from c y k in
            let live : In y.ino (map (λ (w : Written). w.ino) b.writes) = subst (λ z. In z (map (λ (w : Written). w.ino) b.writes)) (sym (ap (λ (m : Met). m.ino) w.2 ∙ written_ino c w.0)) (In-map (λ (w : Written). w.ino) w.0 b.writes w.1) in
            inr (start_judged c y k, λ new e. written_live v n (subst (λ z. In z (map (λ (w : Written). w.ino) b.writes)) e live) new)

        goes : (y m : Met) → New y ⊎ Old y → In m (new_entries c' y) → New m ⊎ Old m
        goes y m j i =
            let new = new_entry c' y m i in
            let k = met_entry y m new.0 in
            elim (entry_then y j k.0 k.1) [
              | inr come ↦ inl (k.0, come, subst (λ z. In z b.numbers) (ap (λ (z : Met). z.ino) k.3 ∙ g.number k.0 come) new.1, k.3)
              | inl old ↦
                  let q = naming_entry y k.0 old.0 k.2 in
                  inr (
                    closed_before v q.0 m q.1 (subst (λ z. In z (entries_in c q.0)) (sym k.3) q.3) new.1,
                    λ t e. old.1 (sym (ap (λ (z : Met). z.ino) k.3) ∙ e),
                  )
            ]

    -- ---- every entry has its own number

    entries_new : are_new [] (numbers (judged_entries c')) ≡ true
    entries_new =
        ap (are_new []) (numbers-flat (entries_in c') (judged_files c'))
        ∙ gathered_new (λ (m : Met). m.ino) (λ m. numbers (entries_in c' m)) (judged_files c') (judged_once c' (ap (are_new []) g.writes ∙ v.once))
        (λ m i. each m (judged_from m i)) (λ m x p i j d e. cross m x p (judged_from m i) (judged_from x j) d e)
      where
        each : (x : Met) → New x ⊎ Old x → are_new [] (numbers (entries_in c' x)) ≡ true
        each x j =
            elim (source x j) [
              | inl q ↦
                  let r = again q.was q.judged in
                  ap (λ z. are_new [] (numbers (children_in plain x.ino z))) (q.reads ∙ r.read)
                  ∙ ap (are_new []) (map-map (λ (m : Met). m.ino) (met_in plain x.ino) r.then.entries) ∙ r.once
              | inr q ↦
                  ap (λ z. are_new [] (numbers (children_in plain x.ino z))) (ap (file_within (bundle_core c')) q.is ∙ q.bare.read)
                  ∙ ap (λ l. are_new [] (numbers (map (met_in plain x.ino) l))) q.bare.empty.2
            ]

        cross : (m x : Met) (p : ℕ) → New m ⊎ Old m → New x ⊎ Old x → In p (numbers (entries_in c' m)) → In p (numbers (entries_in c' x)) → m.ino ≡ x.ino
        cross m x p i j d e =
            let u = map-In (λ (z : Met). z.ino) p (entries_in c' m) d in
            let v = map-In (λ (z : Met). z.ino) p (entries_in c' x) e in
            let k = met_entry m u.0 u.1 in
            let l = met_entry x v.0 v.1 in
            let number : k.0.listed.entry.ino ≡ l.0.listed.entry.ino = sym (ap (λ (z : Met). z.ino) k.3) ∙ sym u.2 ∙ v.2 ∙ ap (λ (z : Met). z.ino) l.3 in
            let two : k.0 ≡ l.0 = both_of k.0 l.0 number (entry_then m i k.0 k.1) (entry_then x j l.0 l.1) in
            sym k.2 ∙ ap (λ (z : Naming). z.directory) two ∙ l.2
          where
            both_of : (k l : Naming) → k.listed.entry.ino ≡ l.listed.entry.ino → (In k (namings c) × (k.listed.entry.ino ≡ n → ⊥)) ⊎ (now ≡ Some k) → (In l (namings c) × (l.listed.entry.ino ≡ n → ⊥)) ⊎ (now ≡ Some l) → k ≡ l
            both_of k l e (inl p) (inl q) =
                some_one (naming_of c k.listed.entry.ino) k l (named_before v k p.0) (ap (naming_of c) e ∙ named_before v l q.0)
            both_of k l e (inl p) (inr q) = absurd (p.1 (e ∙ g.number l q))
            both_of k l e (inr p) (inl q) = absurd (q.1 (sym e ∙ g.number k p))
            both_of k l e (inr p) (inr q) = some_one now k l p q

    closed_then : (x e : Met) → In x (judged_files c') → In e (entries_in c' x) → In e.ino b.numbers → In e (judged_files c')
    closed_then =
        judged_closed c' (ap (are_new []) g.writes ∙ v.once) (λ k i j. written_live v k (subst (λ l. In k l) g.writes i) j) entries_new

    -- ---- each of the files is met

    -- what the entry makes of the node is there, in the directory
    node_here : (e : Naming) → now ≡ Some e → (x : Node) × (node_at after n ≡ Some x) × (x.parent ≡ e.directory)
    node_here e t = search arith

    -- nothing lies in a file that is gone
    not_in_gone : (k : ℕ) (x : Node) → node_at after k ≡ Some x → x.parent ≡ n → node_at after n ≡ None → (n ≡ 0 → ⊥) → ⊥
    not_in_gone k x at e gone some = search (arith, cases_eq, some_one)

    -- a directory that was judged, and in which there is a node then, is judged then
    pub record Image (y : Met) : Type 0 where
      pub to : Met
      pub is : New to ⊎ Old to
      pub number : to.ino ≡ y.ino
      pub reads :
          file_within (bundle_core c') to
          ≡ file_within (bundle_core c') y

    image : (y : Met) → In y (judged_files c) → (k : ℕ) (x : Node) → node_at after k ≡ Some x → x.parent ≡ y.ino → Image y
    image y i k x at p =
        elim (cases_Bool (is_among n b.numbers)) [
          | inr free ↦ record { to = y; is = inr (i, λ new e. both_ways (is_among n b.numbers) free (In-is_among n b.numbers new)); number = refl; reads = refl }
          | inl made ↦
              let new : In n b.numbers = is_among-In n b.numbers made in
              elim (cases_eq y.ino n) [
                | inr d ↦ record { to = y; is = inr (i, λ t e. d e); number = refl; reads = refl }
                | inl same ↦ by now refl new same
              ]
        ]
      where
        by : (o : Option Naming) → now ≡ o → In n b.numbers → y.ino ≡ n → Image y
        by None t new same =
            let z = judged_listed v y i (subst (λ q. In q b.numbers) (sym same) new) in
            absurd (not_in_gone k x at (p ∙ same) (g.none t) (λ zero. entry_above c z.0 y z.2 (same ∙ zero)))
        by (Some e) t new same =
            elim (g.file e t new) [
              | inl taken ↦ record {
                to = met_at e;
                is = inl (e, t, new, refl);
                number = g.number e t ∙ sym same;
                reads = taken.reads ∙ ap (file_within (bundle_core c')) (one_before v taken.was y taken.judged i (taken.number ∙ sym same));
              }
              | inr bare ↦ absurd (unnamed_unjudged v n y i same new bare.unnamed)
            ]

    -- the directory that lists a file then, and the file's node in it
    pub record Hangs (x : Met) : Type 0 where
      pub in' : Met
      pub judged : In in' (judged_files c)
      pub listed : Listed
      pub entry : In listed (again in' judged).then.entries
      pub is : x ≡ met_in plain in'.ino listed
      pub new : In x.ino b.numbers
      pub node : Node
      pub at : node_at after x.ino ≡ Some node
      pub parent : node.parent ≡ in'.ino

    hangs : (x : Met) → New x ⊎ Old x → In x (written_files c) ⊎ Hangs x
    unfolding judged_files
    hangs x (inl w) =
        let y = g.lister w.0 w.1 in
        let e : Naming = w.0 in
        let is : e ≡ record { directory = y.0.ino; listed = e.listed } = ap (λ d. record { directory = d; listed = e.listed }) (sym y.2) in
        let node = node_here w.0 w.1 in
        inr (record {
          in' = y.0;
          judged = y.1;
          listed = e.listed;
          entry = (again y.0 y.1).come e.listed (w.1 ∙ ap Some is);
          is = w.3 ∙ ap (λ d. met_in plain d e.listed) (sym y.2);
          new = subst (λ q. In q b.numbers) (sym (new_number x w)) w.2;
          node = node.0;
          at = ap (node_at after) (new_number x w) ∙ node.1;
          parent = node.2 ∙ sym y.2;
        })
    hangs x (inr o) =
        elim (fronts_listed (new_entries c) (written_files c) sizes.inodes x o.0) [
          | inl start ↦ inl start
          | inr kid ↦
              let q = flat_map-In (new_entries c) x _ kid in
              let i : In q.0 (judged_files c) = In-left q.0 _ _ q.1 in
              let e = new_entry c q.0 x q.2 in
              let l = entry_read c q.0 x e.0 in
              let f = reads_before v q.0 i in
              let one : l.0 ≡ f.0 = (let w : Ok l.0 ≡ Ok f.0 = sym l.1 ∙ f.1 in cc w) in
              let j : In l.2 f.0.entries = subst (λ (w : FileRead). In l.2 w.entries) one l.3 in
              let number : x.ino ≡ l.2.entry.ino = ap (λ (w : Met). w.ino) l.4 in
              let other : x.ino ≡ n → ⊥ = λ t. o.1 (subst (λ z. In z b.numbers) t e.1) t in
              let named : naming_of c x.ino ≡ Some (record { directory = q.0.ino; listed = l.2 }) =
              ap (naming_of c) number ∙ named_before v (record { directory = q.0.ino; listed = l.2 }) (naming_in v q.0 i l.2 j) in
              let node = listed_now c nodes nodes' v.tree v.tree' v.among v.shows x.ino (record { directory = q.0.ino; listed = l.2 }) named in
              inr (record {
                in' = q.0;
                judged = i;
                listed = l.2;
                entry = (again q.0 i).to l.2 j (λ t. other (number ∙ t));
                is = l.4;
                new = e.1;
                node = node.0;
                at = g.there x.ino other ∙ node.1;
                parent = node.2;
              })
        ]

    -- a file that hangs in one that is met is met
    hung_met : (x : Met) (h : Hangs x) (m : Image h.in') → In m.to (judged_files c') → In x (judged_files c')
    hung_met x h m there =
        let r = again h.in' h.judged in
        let i : In (met_in plain m.to.ino h.listed) (entries_in c' m.to) =
        subst (λ z. In (met_in plain m.to.ino h.listed) (children_in plain m.to.ino z)) (sym (m.reads ∙ r.read)) (In-map (met_in plain m.to.ino) h.listed r.then.entries h.entry) in
        let is : x ≡ met_in plain m.to.ino h.listed = h.is ∙ ap (λ d. met_in plain d h.listed) (sym m.number) in
        closed_then m.to x there (subst (λ z. In z (entries_in c' m.to)) (sym is) i) h.new

    met_by_way : (names : Path) (x : Met) → New x ⊎ Old x → Up after x.ino names → In x (judged_files c')
    met_by_way [] x j up =
        elim (hangs x j) [
          | inl start ↦ start_judged c' x (subst (λ l. In x l) (sym g.starts) start)
          | inr h ↦ absurd (root_dead v (subst (λ z. In z b.numbers) up h.new))
        ]
    met_by_way (name ∷ names) x j w =
        elim (hangs x j) [
          | inl start ↦ start_judged c' x (subst (λ l. In x l) (sym g.starts) start)
          | inr h ↦
              let same : w.0 ≡ h.node = some_one (node_at after x.ino) w.0 h.node w.1 h.at in
              let m = image h.in' h.judged x.ino h.node h.at h.parent in
              let up : Up after m.to.ino names = subst (λ k. Up after k names) (ap (λ (z : Node). z.parent) same ∙ h.parent ∙ sym m.number) w.3 in
              hung_met x h m (met_by_way names m.to m.is up)
        ]

    pub judged_to : (x : Met) → New x ⊎ Old x → In x (judged_files c')
    judged_to x j =
        elim (hangs x j) [
          | inl start ↦ start_judged c' x (subst (λ l. In x l) (sym g.starts) start)
          | inr h ↦ let w = way_of after g.tree x.ino h.node h.at in met_by_way w.0 x j w.1
        ]

    -- ---- entries by number

    naming_to : (x : Met) → New x ⊎ Old x → (e : Naming) → In e (namings_in x.ino (file_within (bundle_core c') x)) → In e (namings c')
    naming_to x j e i = In-flat (λ (m : Met). namings_in m.ino (file_within (bundle_core c') m)) x e (judged_files c') (judged_to x j) i

    naming_all : (e : Naming) → In e (namings c') → (In e (namings c) × (e.listed.entry.ino ≡ n → ⊥)) ⊎ (now ≡ Some e)
    naming_all e i =
        let q = flat_map-In (λ (m : Met). namings_in m.ino (file_within (bundle_core c') m)) e (judged_files c') i in
        entry_then q.0 (judged_from q.0 q.1) e q.2

    naming_by : (e : Naming) → In e (namings c') → naming_of c' e.listed.entry.ino ≡ Some e
    naming_by e i = naming_once c' entries_new e i

    -- an entry that is read stands among the namings then
    naming_read : (y : Met) (i : In y (judged_files c)) (m : Image y) (l : Listed) → In l (again y i).then.entries → In (record { directory = y.ino; listed = l }) (namings c')
    naming_read y i m l j =
        let r = again y i in
        let e : Naming = record { directory = m.to.ino; listed = l } in
        subst (λ d. In (record { directory = d; listed = l }) (namings c')) m.number
        (naming_to m.to m.is e (subst (λ z. In e (namings_in m.to.ino z)) (sym (m.reads ∙ r.read)) (In-map (λ (l : Listed). record { directory = m.to.ino; listed = l }) l r.then.entries j)))

    pub named_here : naming_of c' n ≡ now
    named_here = by now refl
      where
        by : (o : Option Naming) → now ≡ o → naming_of c' n ≡ o
        by (Some e) t =
            let y = g.lister e t in
            let is : e ≡ record { directory = y.0.ino; listed = e.listed } = ap (λ d. record { directory = d; listed = e.listed }) (sym y.2) in
            let node = node_here e t in
            let m = image y.0 y.1 n node.0 node.1 (node.2 ∙ sym y.2) in
            let i = naming_read y.0 y.1 m e.listed ((again y.0 y.1).come e.listed (t ∙ ap Some is)) in
            ap (naming_of c') (sym (g.number e t)) ∙ naming_by (record { directory = y.0.ino; listed = e.listed }) i ∙ ap Some (sym is)
        by None t = still (naming_of c' n) refl
          where
            still : (o : Option Naming) → naming_of c' n ≡ o → naming_of c' n ≡ None
            still None h = h
            still (Some e) h =
                let f = find-In (λ (x : Naming). eqb x.listed.entry.ino n) (namings c') e h in
                elim (naming_all e f.0) [
                  | inl old ↦ absurd (old.1 (eqb-true e.listed.entry.ino n f.1))
                  | inr come ↦ absurd (let wrong : None ≡ Some e = sym t ∙ come in cc wrong)
                ]

    pub named_else : (k : ℕ) → (k ≡ n → ⊥) → naming_of c' k ≡ naming_of c k
    named_else k d = by (naming_of c k) refl
      where
        still : (o : Option Naming) → naming_of c' k ≡ o → naming_of c k ≡ None → naming_of c' k ≡ None
        still None h none = h
        still (Some e) h none =
            let f = find-In (λ (x : Naming). eqb x.listed.entry.ino k) (namings c') e h in
            let number : e.listed.entry.ino ≡ k = eqb-true e.listed.entry.ino k f.1 in
            elim (naming_all e f.0) [
              | inl old ↦
                  let wrong : None ≡ Some e = sym none ∙ ap (naming_of c) (sym number) ∙ named_before v e old.0 in absurd (cc wrong)
              | inr come ↦ absurd (d (sym number ∙ g.number e come))
            ]

        by : (o : Option Naming) → naming_of c k ≡ o → naming_of c' k ≡ naming_of c k
        by None h = still (naming_of c' k) refl h ∙ sym h
        by (Some e) h =
            let q = naming_is c k e h in
            let f = reads_before v q.judged_by q.among in
            let one : q.file ≡ f.0 = (let w : Ok q.file ≡ Ok f.0 = sym q.read ∙ f.1 in cc w) in
            let i : In e.listed f.0.entries = subst (λ (w : FileRead). In e.listed w.entries) one q.entry in
            let r = again q.judged_by q.among in
            let node = listed_now c nodes nodes' v.tree v.tree' v.among v.shows k e h in
            let m = image q.judged_by q.among k node.0 (g.there k d ∙ node.1) (node.2 ∙ q.directory) in
            let j = naming_read q.judged_by q.among m e.listed (r.to e.listed i (λ t. d (sym q.number ∙ t))) in
            let is : record { directory = q.judged_by.ino; listed = e.listed } ≡ e = ap (λ d. record { directory = d; listed = e.listed }) (sym q.directory) in
            ap (naming_of c') (sym q.number) ∙ naming_by (record { directory = q.judged_by.ino; listed = e.listed }) j ∙ ap Some is ∙ sym h

    -- ---- bytes

    once_then : are_new [] (numbers (judged_files c')) ≡ true
    once_then = judged_once c' (ap (are_new []) g.writes ∙ v.once)

    -- a file that reads as one before has its bytes
    bytes_source : (x : Met) (j : New x ⊎ Old x) (q : Source x) → bytes_now c' x.ino ≡ bytes_now c x.ino
    bytes_source x j q =
        let r = again q.was q.judged in
        let f = reads_before v q.was q.judged in
        bytes_in c' once_then x x.ino (judged_to x j) refl
        ∙ bytes_kind (bundle_core c') x.kind q.was.kind (file_within (bundle_core c') x) (sym q.kind)
        ∙ ap (bytes_read (bundle_core c') q.was.kind) (q.reads ∙ r.read)
        ∙ r.bytes
        ∙ ap (bytes_read (bundle_core c) q.was.kind) (sym f.1)
        ∙ sym (bytes_in c (judged_once c v.once) q.was x.ino q.judged q.number)

    -- and its guard
    data_source : (x : Met) (j : New x ⊎ Old x) (q : Source x) → judged_data c' x.ino ≡ judged_data c x.ino
    data_source x j q =
        let guard : guard_now c' x.ino ≡ guard_now c x.ino =
        guard_judged c' once_then x x.ino (judged_to x j) refl ∙ ap Some (sym q.guard) ∙ sym (guard_judged c (judged_once c v.once) q.was x.ino q.judged q.number) in
        ap (λ o. with_judged o (guard_now c' x.ino)) (bytes_source x j q) ∙ ap (with_judged (bytes_now c x.ino)) guard

    -- so does every number but that of a new file
    data_then : (k : ℕ) → (now ≡ None → k ≡ n → ⊥) → (judged_data c' k ≡ judged_data c k) ⊎ ((x : Met) × Begun x × (k ≡ n))
    data_then k ok =
        elim (cases_Bool (is_among k (numbers (judged_files c')))) [
          | inl t ↦
              let m = map-In (λ (z : Met). z.ino) k (judged_files c') (is_among-In k (numbers (judged_files c')) t) in
              let j = judged_from m.0 m.1 in
              elim (source m.0 j) [
                | inl q ↦ inl (ap (judged_data c') m.2 ∙ data_source m.0 j q ∙ ap (judged_data c) (sym m.2))
                | inr q ↦ inr (m.0, q, m.2 ∙ ap (λ (z : Met). z.ino) q.is ∙ g.number q.entry q.is_now)
              ]
          | inr t ↦
              let out' : (m : Met) → In m (judged_files c') → m.ino ≡ k → ⊥ =
              λ m i e. both_ways (is_among k (numbers (judged_files c'))) t (In-is_among k (numbers (judged_files c')) (subst (λ z. In z (numbers (judged_files c'))) e (In-map (λ (z : Met). z.ino) m (judged_files c') i))) in
              inl (data_none c' k out' ∙ sym (data_none c k (λ m i e. out m i e out')))
        ]
      where
        out : (m : Met) → In m (judged_files c) → m.ino ≡ k → ((m : Met) → In m (judged_files c') → m.ino ≡ k → ⊥) → ⊥
        out m i e none =
            elim (cases_Bool (is_among n b.numbers)) [
              | inr free ↦ none m (judged_to m (inr (i, λ new t. both_ways (is_among n b.numbers) free (In-is_among n b.numbers new)))) e
              | inl made ↦
                  elim (cases_eq m.ino n) [
                    | inr d ↦ none m (judged_to m (inr (i, λ new t. d t))) e
                    | inl same ↦ by now refl (is_among-In n b.numbers made) (sym e ∙ same)
                  ]
            ]
          where
            by : (o : Option Naming) → now ≡ o → In n b.numbers → k ≡ n → ⊥
            by None t new same = ok t same
            by (Some x) t new same = none (met_at x) (judged_to (met_at x) (inl (x, t, new, refl))) (g.number x t ∙ sym same)

    -- ---- nodes

    -- a file that is new was none before, and is as its slot says
    begun_now : (x : Met) (q : Begun x) → node_at after n ≡ node_now c' n (node_at nodes n)
    begun_now x q =
        let e : Naming = q.entry in
        let dead : node_at nodes n ≡ None = no_node v n q.new in
        let was : judged_data c n ≡ with_judged None None = data_unnamed v n q.new q.bare.unnamed in
        let is : bytes_now c' n ≡ bytes_read (bundle_core c') e.listed.entry.kind (Ok q.bare.file) =
        bytes_in c' once_then (met_at e) n (judged_to (met_at e) (inl (e, q.is_now, q.new, refl))) (g.number e q.is_now)
        ∙ ap (bytes_read (bundle_core c') e.listed.entry.kind) q.bare.read in
        let guard : guard_now c' n ≡ Some (guard_in e.listed.body) = guard_judged c' once_then (met_at e) n (judged_to (met_at e) (inl (e, q.is_now, q.new, refl))) (g.number e q.is_now) in
        g.here
        ∙ ap (λ z. option_map z (node_left c n now (node_at nodes n))) was
        ∙ ap (λ z. option_map (with_judged None None) (node_left c n now z)) dead
        ∙ ap (λ z. option_map (with_judged None None) (node_left c n z None)) q.is_now
        ∙ no_bytes (is_directory e.listed.entry.kind)
        ∙ ap (λ z. option_map (with_judged z (Some (guard_in e.listed.body))) (Some (made_by e))) (sym is)
        ∙ ap (λ z. option_map (with_judged (bytes_now c' n) z) (Some (made_by e))) (sym guard)
        ∙ ap (λ z. option_map (judged_data c' n) (node_left c' n z None)) (sym (named_here ∙ q.is_now))
        ∙ ap (λ z. option_map (judged_data c' n) (node_left c' n (naming_of c' n) z)) (sym dead)
      where
        taken_none : (k : ℕ) → take {A = ℕ} k [] ≡ []
        taken_none zero = refl
        taken_none (suc k) = refl

        no_bytes : (t : Bool) → Some (made_by q.entry)
            ≡ option_map (with_judged (cond t None (Some (take q.bare.file.body.size (pages_bytes (bundle_core c') q.bare.file.chain.blocks)))) (Some (guard_in q.entry.listed.body))) (Some (made_by q.entry))
        no_bytes true = refl
        no_bytes false =
            ap (λ l. Some (record (made_by q.entry) { bytes = l }))
            (sym (ap (λ l. take q.bare.file.body.size (pages_bytes (bundle_core c') l)) q.bare.empty.1 ∙ taken_none q.bare.file.body.size))

    each : (k : ℕ) → node_at after k ≡ node_now c' k (node_at nodes k)
    each k =
        elim (cases_eq k n) [
          | inl e ↦ subst (λ z. node_at after z ≡ node_now c' z (node_at nodes z)) (sym e) (by now refl)
          | inr d ↦
              elim (data_then k (λ t e. d e)) [
                | inl same ↦
                    g.there k d ∙ v.shows.each k
                    ∙ ap (λ q. option_map (judged_data c k) (node_left c k q (node_at nodes k))) (sym (named_else k d))
                    ∙ ap (λ q. option_map q (node_left c' k (naming_of c' k) (node_at nodes k))) (sym same)
                | inr q ↦ absurd (d q.2)
              ]
        ]
      where
        by : (o : Option Naming) → now ≡ o → node_at after n ≡ node_now c' n (node_at nodes n)
        by None t =
            let gone : node_left c n None (node_at nodes n) ≡ None = left (node_left c n None (node_at nodes n)) (sym (g.none t) ∙ g.here ∙ ap (λ q. option_map (judged_data c n) (node_left c n q (node_at nodes n))) t) in
            g.none t
            ∙ ap (option_map (judged_data c' n)) (sym gone)
            ∙ ap (λ q. option_map (judged_data c' n) (node_left c' n q (node_at nodes n))) (sym (named_here ∙ t))
          where
            left : (o : Option Node) → None ≡ option_map (judged_data c n) o → o ≡ None
            left None e = refl
            left (Some x) e = absurd (let wrong : None ≡ Some (judged_data c n x) = e in cc wrong)
        by (Some e) t =
            elim (data_then n (λ w h. (let wrong : None ≡ Some e = sym w ∙ t in cc wrong))) [
              | inl same ↦
                  g.here
                  ∙ ap (λ q. option_map (judged_data c n) (node_left c n q (node_at nodes n))) (sym named_here)
                  ∙ ap (λ q. option_map q (node_left c' n (naming_of c' n) (node_at nodes n))) (sym same)
              | inr q ↦ begun_now q.0 q.1
            ]

    whole : (k : ℕ) (x : Node) → node_at after k ≡ Some x → is_among x.parent (numbers (judged_files c')) ≡ true → is_some (naming_of c' k) ≡ true
    whole k x at t =
        elim (cases_eq k n) [
          | inl e ↦ subst (λ z. is_some (naming_of c' z) ≡ true) (sym e) (ap is_some named_here ∙ by now refl (ap (node_at after) (sym e) ∙ at))
          | inr d ↦
              let m = map-In (λ (z : Met). z.ino) x.parent (judged_files c') (is_among-In x.parent (numbers (judged_files c')) t) in
              let was : node_at nodes' k ≡ Some x = sym (g.there k d) ∙ at in
              elim (source m.0 (judged_from m.0 m.1)) [
                | inl q ↦
                    let i : In x.parent (numbers (judged_files c)) =
                    subst (λ z. In z (numbers (judged_files c))) (q.number ∙ sym m.2) (In-map (λ (z : Met). z.ino) q.was (judged_files c) q.judged) in
                    ap is_some (named_else k d) ∙ v.shows.whole k x was (In-is_among x.parent (numbers (judged_files c)) i)
                | inr q ↦
                    let number : x.parent ≡ n = m.2 ∙ ap (λ (z : Met). z.ino) q.is ∙ g.number q.entry q.is_now in
                    absurd (empty k x was number q.new q.bare.unnamed (node_here q.entry q.is_now).0 (node_here q.entry q.is_now).1)
              ]
        ]
      where
        by : (o : Option Naming) → now ≡ o → node_at after n ≡ Some x → is_some o ≡ true
        by (Some e) h there = refl
        by None h there = absurd (let wrong : None ≡ Some x = sym (g.none h) ∙ there in cc wrong)

        -- before, nothing lay in a file that is new
        empty : (k : ℕ) (x : Node) → node_at nodes' k ≡ Some x → x.parent ≡ n → In n b.numbers → naming_of c n ≡ None → (y : Node) → node_at after n ≡ Some y → ⊥
        empty k x at e new free y there =
            let none : node_at nodes' n ≡ None =
            unlisted_now c nodes nodes' v.tree v.tree' v.among v.shows n free
            ∙ ap (λ o. option_map (judged_data c n) (cond (is_among n b.holds) None o)) (no_node v n new)
            ∙ nothing (is_among n b.holds) in
            elim (cases_eq k 1) [
              | inl one ↦
                  let top : x ≡ v.tree'.root.0 = some_one (node_at nodes' 1) x v.tree'.root.0 (ap (node_at nodes') (sym one) ∙ at) v.tree'.root.1 in
                  let zero : n ≡ 0 = sym e ∙ ap (λ (z : Node). z.parent) top ∙ v.tree'.root.3 in
                  (let wrong : None ≡ Some y = sym g.tree.none ∙ ap (node_at after) (sym zero) ∙ there in cc wrong)
              | inr d ↦ subst IsDirectory (ap (node_at nodes') e ∙ none) (v.tree'.parents k x at d)
            ]
          where
            nothing : (t : Bool) → option_map (judged_data c n) (cond t None None) ≡ None
            nothing true = refl
            nothing false = refl

    -- ---- rules

    entry_all : (e : Met) → In e (judged_entries c') → In e (judged_entries c) ⊎ ((k : Naming) × (now ≡ Some k) × (e ≡ met_at k))
    unfolding met_of
    entry_all e i =
        let k = map-In met_of e (namings c') (subst (λ l. In e l) (judged_named c') i) in
        elim (naming_all k.0 k.1) [
          | inl old ↦ inl (subst (λ l. In e l) (sym (judged_named c)) (subst (λ z. In z (map met_of (namings c))) (sym k.2) (In-map met_of k.0 (namings c) old.0)))
          | inr come ↦ inr (k.0, come, k.2)
        ]

    grammar_met : meets_grammar c' ≡ true
    grammar_met =
        and_from (list_all (λ m. is_ok (file_within (bundle_core c') m)) (judged_files c')) (list_all (entry_in_grammar c') (judged_entries c'))
        (list_all-each (λ m. is_ok (file_within (bundle_core c') m)) (judged_files c')
        (λ m i. elim (source m (judged_from m i)) [
          | inl q ↦ ap is_ok (q.reads ∙ (again q.was q.judged).read)
          | inr q ↦ ap is_ok (ap (file_within (bundle_core c')) q.is ∙ q.bare.read)
        ]))
        (list_all-each (entry_in_grammar c') (judged_entries c')
        (λ e i. elim (entry_all e i) [
          | inl old ↦
              list_all-In (entry_in_grammar c) e (judged_entries c) (and_parts (list_all (λ m. is_ok (file_within (bundle_core c) m)) (judged_files c)) (list_all (entry_in_grammar c) (judged_entries c)) v.shows.grammar).1 old
          | inr come ↦ ap (entry_in_grammar c) come.2 ∙ g.grammar come.0 come.1
        ]))

    -- a page that a file lists then one listed before
    pub page_from : (x : Met) (q : Source x) (p : ℕ) → In p (pages_within c' x) → In p (pages_within c q.was)
    page_from x q p i =
        let r = again q.was q.judged in
        let f = reads_before v q.was q.judged in
        subst (λ z. In p (pages_in z)) (sym f.1) (subst (λ z. In p (z.index ++ z.blocks)) r.chain (subst (λ z. In p (pages_in z)) (q.reads ∙ r.read) i))

    pages_none : (x : Met) (q : Begun x) → pages_within c' x ≡ []
    pages_none x q = search arith

    page_source : (x : Met) (p : ℕ) → In x (judged_files c') → In p (pages_within c' x) → (q : Source x) × In p (pages_within c q.was)
    page_source x p i j =
        elim (source x (judged_from x i)) [
          | inl q ↦ (q, page_from x q p j)
          | inr q ↦ absurd (subst (λ l. In p l) (pages_none x q) j)
        ]

    pub listed_before : (p : ℕ) → In p (judged_pages c') → In p (judged_pages c)
    listed_before p i =
        let m = flat_map-In (pages_within c') p (judged_files c') i in
        let q = page_source m.0 p m.1 m.2 in
        In-flat (pages_within c) q.0.was p (judged_files c) q.0.judged q.1

    owning_met : meets_owning c' ≡ true
    owning_met =
        and_from _ (are_new [] (numbers (judged_entries c')))
        (and_from _ (list_all (entry_is_own c') (judged_entries c')) (and_from (list_all (λ page. is_among page (bundle_pages b')) (judged_pages c')) (are_new [] (judged_pages c')) pages_own pages_new) entries_own)
        entries_new
      where
        pages_own : list_all (λ page. is_among page (bundle_pages b')) (judged_pages c') ≡ true
        pages_own =
            list_all-each (λ page. is_among page (bundle_pages b')) (judged_pages c')
            (λ p i. ap (is_among p) g.pages ∙ list_all-In (λ page. is_among page (bundle_pages b)) p (judged_pages c) (owned v).pages (listed_before p i))

        each_new' : (x : Met) → In x (judged_files c') → are_new [] (pages_within c' x) ≡ true
        each_new' x i =
            elim (source x (judged_from x i)) [
              | inl q ↦
                  let r = again q.was q.judged in
                  let f = reads_before v q.was q.judged in
                  ap (λ z. are_new [] (pages_in z)) (q.reads ∙ r.read)
                  ∙ ap (λ z. are_new [] (z.index ++ z.blocks)) r.chain
                  ∙ ap (λ z. are_new [] (pages_in z)) (sym f.1)
                  ∙ each_new (pages_within c) (judged_files c) q.was (owned v).pages_once q.judged
              | inr q ↦ ap (are_new []) (pages_none x q)
            ]

        pages_new : are_new [] (judged_pages c') ≡ true
        pages_new =
            gathered_new (λ (m : Met). m.ino) (pages_within c') (judged_files c') once_then each_new'
            (λ m x p i j d e.
            let q = page_source m p i d in
            let r = page_source x p j e in
            sym q.0.number ∙ ap (λ (z : Met). z.ino) (one_of (pages_within c) (judged_files c) q.0.was r.0.was p (owned v).pages_once q.0.judged r.0.judged q.1 r.1) ∙ r.0.number)

        entries_own : list_all (entry_is_own c') (judged_entries c') ≡ true
        entries_own =
            list_all-each (entry_is_own c') (judged_entries c')
            (λ e i. elim (entry_all e i) [
              | inl old ↦ list_all-In (entry_is_own c) e (judged_entries c) (owned v).entries old
              | inr come ↦ ap (entry_is_own c) come.2 ∙ g.own come.0 come.1
            ])

    rights_met : meets_rights c' ≡ true
    rights_met =
        and_from (list_all (entry_keeps_rights c') (judged_entries c')) (list_all (λ m. file_keeps_rights c' m (file_within (bundle_core c') m)) (judged_files c'))
        (list_all-each (entry_keeps_rights c') (judged_entries c')
        (λ e i. elim (entry_all e i) [
          | inl old ↦
              list_all-In (entry_keeps_rights c) e (judged_entries c) (and_parts (list_all (entry_keeps_rights c) (judged_entries c)) _ v.shows.rights).0 old
          | inr come ↦ ap (entry_keeps_rights c) come.2 ∙ g.rights come.0 come.1
        ]))
        (list_all-each (λ m. file_keeps_rights c' m (file_within (bundle_core c') m)) (judged_files c') (λ m i. keeps m (judged_from m i)))
      where
        own : Body → Bool
        own x = eqb x.uid creds.uid && eqb x.gid creds.gid

        keeps : (m : Met) → New m ⊎ Old m → file_keeps_rights c' m (file_within (bundle_core c') m) ≡ true
        keeps m j =
            elim (source m j) [
              | inl q ↦
                  let r = again q.was q.judged in
                  let f = reads_before v q.was q.judged in
                  let before : file_keeps_rights c q.was (file_within (bundle_core c) q.was) ≡ true =
                  list_all-In (λ m. file_keeps_rights c m (file_within (bundle_core c) m)) q.was (judged_files c) (and_parts (list_all (entry_keeps_rights c) (judged_entries c)) _ v.shows.rights).1 q.judged in
                  ap (file_keeps_rights c' m) (q.reads ∙ r.read)
                  ∙ ap (λ t. cond t (has_rights (row_in rows m.ino) r.then.body) (own r.then.body)) (g.written m.ino)
                  ∙ ap (λ k. cond (is_written b k) (has_rights (row_in rows k) r.then.body) (own r.then.body)) (sym q.number)
                  ∙ ap (λ x. cond (is_written b q.was.ino) (has_rights (row_in rows q.was.ino) x) (own x)) r.body
                  ∙ sym (ap (file_keeps_rights c q.was) f.1)
                  ∙ before
              | inr q ↦
                  let number : m.ino ≡ n = ap (λ (z : Met). z.ino) q.is ∙ g.number q.entry q.is_now in
                  let free : is_written b n ≡ false =
                  false_from_ne_true (is_written b n) (λ t. written_live v n (is_among-In n (map (λ (w : Written). w.ino) b.writes) (sym (written_among b.writes n) ∙ t)) q.new) in
                  ap (file_keeps_rights c' m) (ap (file_within (bundle_core c')) q.is ∙ q.bare.read)
                  ∙ ap (λ t. cond t (has_rights (row_in rows m.ino) q.bare.file.body) (own q.bare.file.body)) (g.written m.ino ∙ ap (is_written b) number ∙ free)
                  ∙ and_from (eqb q.bare.file.body.uid creds.uid) (eqb q.bare.file.body.gid creds.gid) (eq-eqb q.bare.file.body.uid creds.uid q.bare.uid) (eq-eqb q.bare.file.body.gid creds.gid q.bare.gid)
            ]

    pub shown : Shows c' nodes after
    shown = record { grammar = grammar_met; owning = owning_met; rights = rights_met; each = each; whole = whole }
