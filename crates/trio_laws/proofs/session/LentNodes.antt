-- The nodes of what a lease shows.
use Rattle.trio_laws.proofs.Words.{◌∙◌, ◌≡◌, HasContent, HasFile, In, In-find, IsTree, IsWellLent, List, Listed, Met, Node, Nodes, None, Option, Row, Shown, ShownEntry, Sizes, Some, ap, arith, cases_eq, cond, entries_shown, entry_of_listed, entry_of_node, eq-eqb, eqb, eqb-true, find, find-In, inl, inr, is_place_of, node_at, option_map, refl, rights_in, rights_of, row_in, some_one, subst, sym, true, ℕ, Bool, IsDirectory, entries_on, entries_or_none, false, gathered, is_directory, is_directory-false, [], LentPage, Rights}
use Rattle.trio_laws.proofs.session.LentFiles.{lent_entries_are, lent_entry_one, lent_file}

-- what is there under a function
pub mapped : {X Y : Type 0} (g : X → Y) (p : Option X) (y : Y) → option_map g p ≡ Some y → (x : X) × (p ≡ Some x) × (g x ≡ y)
mapped g None y e = absurd (let wrong : None ≡ Some y = e in cc wrong)
mapped g (Some x) y e = (x, refl, (let t : Some (g x) ≡ Some y = e in cc t))

-- a node that a directory is shown to list
pub node_entry : (d : ℕ) (p : Option Node) (e : ShownEntry) → entry_of_node d p ≡ Some e → (x : Node) × (p ≡ Some x) × (x.parent ≡ d) × (x.name ≡ e.name) × (rights_of x ≡ e.rights)
node_entry d p e t = search (arith, eqb-true)

-- a node as its directory shows it
abbrev pub shown_as : Node → ShownEntry
shown_as x = record { name = x.name; rights = rights_of x }

module _ (sizes : Sizes) (f : Shown) (well : IsWellLent sizes f) (rows : List (Option Row)) (places : (l : Listed) → In l (entries_shown sizes f) → is_place_of f.ino l.page l.slot (row_in rows l.entry.ino) ≡ true) where
  abbrev as_met : Met
  as_met = record { ino = f.ino; kind = f.kind; parent = 0; page = 0; slot = 0; body = f.body }

  entries_are : (lent_file sizes f well).entries ≡ entries_shown sizes f
  entries_are = lent_entries_are sizes f well as_met refl refl

  entry_one : (l k : Listed) → In l (entries_shown sizes f) → In k (entries_shown sizes f) → l.entry.ino ≡ k.entry.ino → l ≡ k
  entry_one l k i j same =
      lent_entry_one sizes f well as_met refl refl rows (λ l i. places l (subst (λ z. In l z) entries_are i))
      l k (subst (λ z. In l z) (sym entries_are) i) (subst (λ z. In k z) (sym entries_are) j) same

  -- the entry of a number is the one that is found
  entry_found : (l : Listed) → In l (entries_shown sizes f) → find (λ (z : Listed). eqb z.entry.ino l.entry.ino) (entries_shown sizes f) ≡ Some l
  entry_found l j =
      let r = In-find (λ (z : Listed). eqb z.entry.ino l.entry.ino) (entries_shown sizes f) l j (eq-eqb l.entry.ino l.entry.ino refl) in
      let q = find-In (λ (z : Listed). eqb z.entry.ino l.entry.ino) (entries_shown sizes f) r.0 r.1 in
      r.1 ∙ ap Some (entry_one r.0 l q.0 j (eqb-true r.0.entry.ino l.entry.ino q.1))

  -- each entry has its node
  pub entry_node : (ns : Nodes) → HasFile sizes ns f → (l : Listed) → In l (entries_shown sizes f) → (x : Node) × (node_at ns l.entry.ino ≡ Some x) × (x.parent ≡ f.ino) × (x.name ≡ l.entry.name) × (rights_of x ≡ rights_in l.entry.kind l.body)
  entry_node ns it l j = by (is_directory f.kind) refl it.content
    where
      by : (d : Bool) → is_directory f.kind ≡ d → HasContent sizes ns f d → (x : Node) × (node_at ns l.entry.ino ≡ Some x) × (x.parent ≡ f.ino) × (x.name ≡ l.entry.name) × (rights_of x ≡ rights_in l.entry.kind l.body)
      by false t k = absurd (subst (λ z. In l z) (ap (λ d. cond d (entries_or_none (gathered (λ (p : LentPage). entries_on sizes.inodes p.no.0 p.page) f.blocks)) []) t) j)
      by true t k = node_entry f.ino (node_at ns l.entry.ino) (entry_of_listed l) (k l.entry.ino ∙ ap (option_map entry_of_listed) (entry_found l j))

-- a node in the directory has an entry
pub has_entry : (sizes : Sizes) (f : Shown) (ns : Nodes) → IsTree ns → HasFile sizes ns f → (n : ℕ) (x : Node) → node_at ns n ≡ Some x → x.parent ≡ f.ino → (l : Listed) × In l (entries_shown sizes f) × (l.entry.ino ≡ n) × (l.entry.name ≡ x.name)
has_entry sizes f ns t it n x e at = by (is_directory f.kind) refl it.content
  where
    found : (q : Option Listed) → find (λ (l : Listed). eqb l.entry.ino n) (entries_shown sizes f) ≡ q → Some (shown_as x) ≡ option_map entry_of_listed q → (l : Listed) × In l (entries_shown sizes f) × (l.entry.ino ≡ n) × (l.entry.name ≡ x.name)
    found None u k = absurd (let wrong : Some (shown_as x) ≡ None = k in cc wrong)
    found (Some l) u k =
        let j = find-In (λ (l : Listed). eqb l.entry.ino n) (entries_shown sizes f) l u in
        let same : shown_as x ≡ entry_of_listed l = (let v : Some (shown_as x) ≡ Some (entry_of_listed l) = k in cc v) in
        (l, j.0, eqb-true l.entry.ino n j.1, sym (ap (λ (z : ShownEntry). z.name) same))

    by : (d : Bool) → is_directory f.kind ≡ d → HasContent sizes ns f d → (l : Listed) × In l (entries_shown sizes f) × (l.entry.ino ≡ n) × (l.entry.name ≡ x.name)
    by true u k =
        found (find (λ (l : Listed). eqb l.entry.ino n) (entries_shown sizes f)) refl
        (sym (ap (λ v. cond v (Some (shown_as x)) None) (eq-eqb x.parent f.ino at)) ∙ sym (ap (entry_of_node f.ino) e) ∙ k n)
    by false u k =
        let y = mapped rights_of (node_at ns f.ino) (rights_in f.kind f.body) it.rights in
        elim (cases_eq n 1) [
          | inl one ↦ search (arith, some_one)
          | inr d ↦
              let parent : IsDirectory (Some y.0) = subst IsDirectory (ap (node_at ns) at ∙ y.1) (t.parents n x e d) in
              absurd (is_directory-false f.kind u (sym (ap (λ (z : Rights). z.kind) y.2) ∙ parent))
        ]
