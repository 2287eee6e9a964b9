-- The entries of a bundle's directories, with their names and without.
use Rattle.trio_laws.proofs.Words.{◌++◌, ◌∙◌, ◌∷◌, ◌≡◌, Bool, Case, FileRead, In, In-find, In-map, List, ListedEntry, Location, Met, Naming, None, Ok, Result, Some, [], ap, arith, bundle_core, children_in, cond, entries_in, entry_listed, eq-eqb, eqb, eqb-true, false, file_within, find, find-In, flat_map, flat_map-In, judged_entries, judged_files, listing, map, map-In, map-append, map-map, met_in, naming_of, namings, namings_in, option_map, option_map_or, plain, proposed_parent, refl, row_parent, subst, sym, true, ℕ}

-- the entry without its name
unfoldable pub met_of : Naming → Met
met_of e = met_in plain e.directory e.listed

entries_named : (directory : ℕ) (r : Result FileRead Location) → children_in plain directory r ≡ map met_of (namings_in directory r)
unfolding met_of
entries_named directory r = search (arith, met_of, map-map)

flat_named : (c : Case) (ms : List Met) → flat_map (entries_in c) ms ≡ map met_of (flat_map (λ (m : Met). namings_in m.ino (file_within (bundle_core c) m)) ms)
flat_named c [] = refl
flat_named c (m ∷ ms) =
    ap (λ l. l ++ flat_map (entries_in c) ms) (entries_named m.ino (file_within (bundle_core c) m))
    ∙ ap (λ l. map met_of (namings_in m.ino (file_within (bundle_core c) m)) ++ l) (flat_named c ms)
    ∙ sym (map-append met_of (namings_in m.ino (file_within (bundle_core c) m)) (flat_map (λ (x : Met). namings_in x.ino (file_within (bundle_core c) x)) ms))

pub judged_named : (c : Case) → judged_entries c ≡ map met_of (namings c)
judged_named c = flat_named c (judged_files c)

pub find_map : {X Y : Type 0} (p : Y → Bool) (f : X → Y) (xs : List X) → find p (map f xs) ≡ option_map f (find (λ x. p (f x)) xs)
find_map p f [] = refl
find_map p f (x ∷ xs) = by (p (f x)) (find_map p f xs)
  where
    by : (b : Bool) → find p (map f xs) ≡ option_map f (find (λ z. p (f z)) xs) → cond b (Some (f x)) (find p (map f xs)) ≡ option_map f (cond b (Some x) (find (λ z. p (f z)) xs))
    by true h = refl
    by false h = h

-- the listing's entry of a number
pub listed_entry : (c : Case) (n : ℕ) → find (λ (e : ListedEntry). eqb e.ino n) (listing c).entries ≡ option_map (λ e. entry_listed c (met_of e)) (naming_of c n)
unfolding met_of
listed_entry c n = search (arith, met_of, judged_named, map-map, find_map)

pub parent_listed : (c : Case) (n : ℕ) (e : Naming) → naming_of c n ≡ Some e → proposed_parent (listing c) c.rows n ≡ e.directory
unfolding met_of
parent_listed c n e h =
    ap (λ o. option_map_or (λ (x : ListedEntry). x.dir) o (row_parent c.rows n)) (listed_entry c n ∙ ap (option_map (λ x. entry_listed c (met_of x))) h)

pub parent_unlisted : (c : Case) (n : ℕ) → naming_of c n ≡ None → proposed_parent (listing c) c.rows n ≡ row_parent c.rows n
parent_unlisted c n h =
    ap (λ o. option_map_or (λ (x : ListedEntry). x.dir) o (row_parent c.rows n)) (listed_entry c n ∙ ap (option_map (λ x. entry_listed c (met_of x))) h)

-- an entry with a number: who lists it, and that it is among the judged entries
pub record IsNaming (c : Case) (n : ℕ) (e : Naming) : Type 0 where
  pub number : e.listed.entry.ino ≡ n
  pub judged_by : Met
  pub among : In judged_by (judged_files c)
  pub directory : e.directory ≡ judged_by.ino
  pub file : FileRead
  pub read : file_within (bundle_core c) judged_by ≡ Ok file
  pub entry : In e.listed file.entries
  pub met : In (met_of e) (judged_entries c)

naming_in : (directory : ℕ) (r : Result FileRead Location) (e : Naming) → In e (namings_in directory r) → (f : FileRead) × (r ≡ Ok f) × In e.listed f.entries × (e.directory ≡ directory)
naming_in directory r e i = search (arith, map-In)

pub naming_is : (c : Case) (n : ℕ) (e : Naming) → naming_of c n ≡ Some e → IsNaming c n e
naming_is c n e h =
    let f = find-In (λ (x : Naming). eqb x.listed.entry.ino n) (namings c) e h in
    let m = flat_map-In (λ (m : Met). namings_in m.ino (file_within (bundle_core c) m)) e (judged_files c) f.0 in
    let r = naming_in m.0.ino (file_within (bundle_core c) m.0) e m.2 in
    record {
      number = eqb-true e.listed.entry.ino n f.1;
      judged_by = m.0;
      among = m.1;
      directory = r.3;
      file = r.0;
      read = r.1;
      entry = r.2;
      met = subst (λ l. In (met_of e) l) (sym (judged_named c)) (In-map met_of e (namings c) f.0);
    }

-- an entry of the listing is that of some naming, so its number has one
pub listed_naming : (c : Case) (x : ListedEntry) → In x (listing c).entries → (e : Naming) × (naming_of c x.ino ≡ Some e)
unfolding met_of
listed_naming c x i =
    let j : In x (map (entry_listed c) (map met_of (namings c))) = subst (λ l. In x (map (entry_listed c) l)) (judged_named c) i in
    let a = map-In (entry_listed c) x (map met_of (namings c)) j in
    let b = map-In met_of a.0 (namings c) a.1 in
    let number : b.0.listed.entry.ino ≡ x.ino = sym (ap (λ (y : ListedEntry). y.ino) (a.2 ∙ ap (entry_listed c) b.2)) in
    let r = In-find (λ (e : Naming). eqb e.listed.entry.ino x.ino) (namings c) b.0 b.1 (eq-eqb b.0.listed.entry.ino x.ino number) in (r.0, r.1)
