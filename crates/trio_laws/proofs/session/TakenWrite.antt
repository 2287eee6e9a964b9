-- A write lease is taken, untouched: the same nodes are shown.
use Rattle.trio_laws.proofs.Words.{◌++◌, ◌∙◌, ◌∷◌, ◌≡◌, ◌⊎◌, ArePossible, Bool, Bundle, Case, DeskSeen, Err, FileRead, HasContent, HasFile, Held, HoldParts, In, In-cases, In-find, In-flat, In-is_among, In-left, In-map, In-right, InHand, IsAmong, IsForeign, IsInOrder, IsUntouched, LentFile, List, Listed, Location, MayShow, Met, Naming, Node, Nodes, None, Ok, Option, Result, Rights, Row, Sheet, Shown, Shows, Some, Takes, Written, [], and_from, ap, append-nil, are_new, are_new-append, arith, bundle_core, bundle_of, bundle_pages, bundle_sheets, bytes_now, bytes_read, bytes_shown, case_in_hand, cases_eq, children_in, cond, entries_in, entries_shown, entry_in, eq-eqb, eqb, eqb-true, false, false_from_ne_true, file_keeps_rights, file_numbers, file_within, filter, filter-none, find, find-In, flat_map, flat_map-In, flat_map-append, flat_map-same, has_kind, inl, inr, is_among, is_among-In, is_kept, is_place_of, is_some, is_written, judged_files, judged_pages, lent_files, map, map-In, map-append, map-map, met_in, naming_of, ne_eqb, new_beside, new_entries, node_at, node_left, node_now, node_says, numbers, numbers_of_file, option_map, or_cases, pages_in, pages_within, place_parts, placed, plain, refl, rights_in, rights_of, row_in, row_says, sheet_numbers, some_one, subst, sym, true, with_bytes, with_write, written_files, written_in, written_met, written_numbers, ℕ, guard_in, guard_now, is_directory, pages_bytes, take, with_guard, with_judged}
use Rattle.trio_laws.specs.session.Takes.{TakesWrite}
use Rattle.trio_laws.proofs.judgement.JudgedFacts.{written_body, written_ino, written_kind}
use Rattle.trio_laws.proofs.judgement.RuleParts.{same_kind_from}
use Rattle.trio_laws.proofs.session.Again.{hand_files_once, entries_again, entry_own, judged_page, new_between, page_again, pages_more, possible_with_less, read_again, said_alike}
use Rattle.trio_laws.proofs.session.Edges.{new_dead, node_row}
use Rattle.trio_laws.proofs.session.LentFiles.{lent_bytes, lent_entries_are, lent_file, lent_file-body, lent_file-pages, lent_numbers_new, lent_reads, lent_sheet_numbers, lent_sheets}
use Rattle.trio_laws.proofs.session.LentNodes.{entry_node, has_entry, mapped}
use Rattle.trio_laws.proofs.session.Namings.{naming_is}
use Rattle.trio_laws.proofs.session.Ruled.{IsFurther, IsNewFile, bytes_new, bytes_same, case_with, listed_pages, met_entries, naming_new, naming_same, shows_by, guard_new, guard_same}
use Rattle.trio_laws.proofs.session.Spares.{judged_own, no_bytes, shown_spares, no_guard}
use Rattle.trio_laws.proofs.session.Starts.{Share, among_alike, judged_once, number_start, shared, sorted-cut, start_from, start_judged, start_number, start_to}

module _ (desk : DeskSeen) (h : InHand) (f : LentFile) (o : IsInOrder desk h) (u : IsUntouched desk h f) where
  abbrev b : Bundle
  b = bundle_of h.parcel

  abbrev w : Written
  w = written_in f.lent

  abbrev b2 : Bundle
  b2 = record b { writes = b.writes ++ w ∷ [] }

  pub bundle_is : bundle_of (with_write h f).parcel ≡ b2
  bundle_is = search (arith, map-append)

  -- ---- what is possible

  files_more : (x : Shown) → In x (lent_files h.parcel.writes ++ h.back) → In x (lent_files (h.parcel.writes ++ f ∷ []) ++ h.back)
  files_more x i =
      elim (In-cases x (lent_files h.parcel.writes) h.back i) [
        | inl a ↦ search (arith, In-left, map-append)
        | inr r ↦ In-right x (lent_files (h.parcel.writes ++ f ∷ [])) h.back r
      ]

  pub less : (nodes : Nodes) (rows : List (Option Row)) → ArePossible desk (with_write h f).parcel h.back nodes rows → ArePossible desk h.parcel h.back nodes rows
  less = possible_with_less desk h.parcel (with_write h f).parcel h.back h.back files_more (λ k i. i) (λ n i. i)

  file_in_hand : In f.lent (lent_files (with_write h f).parcel.writes ++ h.back)
  file_in_hand =
      In-left f.lent (lent_files (h.parcel.writes ++ f ∷ [])) h.back
      (subst (λ l. In f.lent l) (sym (map-append (λ (y : LentFile). y.lent) h.parcel.writes (f ∷ []))) (In-right f.lent (lent_files h.parcel.writes) (f.lent ∷ []) (inl refl)))

  -- ---- pages

  sheets_are : bundle_sheets b2 ≡ (flat_map (λ (x : Written). x.index ++ x.blocks) b.writes ++ lent_sheets f.lent) ++ b.pages
  sheets_are = search (arith, flat_map-append, append-nil, map-append)

  abbrev front : List Sheet
  front = flat_map (λ (x : Written). x.index ++ x.blocks) b.writes

  pub sub : (x : Sheet) → In x (bundle_sheets b) → In x (bundle_sheets b2)
  sub x i =
      subst (λ l. In x l) (sym sheets_are)
      (elim (In-cases x front b.pages i) [
        | inl a ↦ In-left x (front ++ lent_sheets f.lent) b.pages (In-left x front (lent_sheets f.lent) a)
        | inr p ↦ In-right x (front ++ lent_sheets f.lent) b.pages p
      ])

  pub lent_sub : (x : Sheet) → In x (lent_sheets f.lent) → In x (bundle_sheets b2)
  lent_sub x i = subst (λ l. In x l) (sym sheets_are) (In-left x (front ++ lent_sheets f.lent) b.pages (In-right x front (lent_sheets f.lent) i))

  pages_are : (xs ys : List Sheet) → sheet_numbers (xs ++ ys) ≡ sheet_numbers xs ++ sheet_numbers ys
  pages_are xs ys = map-append (λ (x : Sheet). x.page) xs ys

  pub pages_once : are_new [] (bundle_pages b2) ≡ true
  pages_once =
      ap (λ l. are_new [] (sheet_numbers l)) sheets_are
      ∙ ap (are_new []) (pages_are (front ++ lent_sheets f.lent) b.pages ∙ ap (λ l. l ++ sheet_numbers b.pages) (pages_are front (lent_sheets f.lent)))
      ∙ new_between (sheet_numbers front) (sheet_numbers (lent_sheets f.lent)) (sheet_numbers b.pages)
      (ap (are_new []) (sym (pages_are front b.pages)) ∙ o.pages)
      (ap (are_new []) (lent_sheet_numbers f.lent) ∙ u.well.once)
      (λ n i j. u.apart n (subst (λ l. In n l) (lent_sheet_numbers f.lent) i) (subst (λ l. In n l) (sym (pages_are front b.pages)) j))

  -- ---- files

  written_are : map (λ (x : Written). x.ino) b.writes ≡ file_numbers h.parcel.writes
  written_are = map-map (λ (x : Written). x.ino) (λ (x : LentFile). written_in x.stands) h.parcel.writes

  unwritten : In w.ino (map (λ (x : Written). x.ino) b.writes) → ⊥
  unwritten i = u.unwritten (subst (λ l. In f.lent.ino l) written_are i)

  pub files_once : are_new [] (map (λ (x : Written). x.ino) b2.writes) ≡ true
  files_once =
      ap (are_new []) (map-append (λ (x : Written). x.ino) b.writes (w ∷ []))
      ∙ are_new-append [] (map (λ (x : Written). x.ino) b.writes) (w.ino ∷ [])
      ∙ and_from (are_new [] (map (λ (x : Written). x.ino) b.writes)) (are_new (map (λ (x : Written). x.ino) b.writes) (w.ino ∷ []))
      (hand_files_once desk h o)
      (new_beside (map (λ (x : Written). x.ino) b.writes) (w.ino ∷ []) refl (λ p i j. elim i [ inl e ↦ unwritten (subst (λ n. In n (map (λ (x : Written). x.ino) b.writes)) e j) | inr no' ↦ no' ]))

-- a node that a directory lists, by what it lists
pub node_in : (d : ℕ) (p : Option Node) (x : Node) → x.parent ≡ d → entry_in d (Some x) ≡ entry_in d p → (y : Node) × (p ≡ Some y) × (y.parent ≡ d)
node_in d p x at e = search (arith, eq-eqb, eqb-true)

pub child_parent : (d : ℕ) (r : Result FileRead Location) (e : Met) → In e (children_in plain d r) → e.parent ≡ d
child_parent d (Err place) e i = absurd i
child_parent d (Ok f) e i = let q = map-In (met_in plain d) e f.entries i in ap (λ (x : Met). x.parent) q.2

pub find-skip : {X : Type 0} (p : X → Bool) (xs : List X) (x : X) → p x ≡ false → find p (xs ++ x ∷ []) ≡ find p xs
find-skip p [] x e = ap (λ t. cond t (Some x) None) e
find-skip p (y ∷ ys) x e = ap (λ l. cond (p y) (Some y) l) (find-skip p ys x e)

pub placed_there : (g : Naming) (x : Node) → g.directory ≡ x.parent → g.listed.entry.name ≡ x.name → placed g x ≡ x
placed_there g x at name = search arith

module _ (desk : DeskSeen) (h : InHand) (f : LentFile) (o : IsInOrder desk h) (u : IsUntouched desk h f) (nodes nodes' : Nodes) (rows : List (Option Row)) (may : MayShow desk h (with_write h f) nodes nodes' rows) where
  abbrev hand : Bundle
  hand = bundle_of h.parcel

  abbrev taken : Written
  taken = written_in f.lent

  abbrev more : Bundle
  more = record hand { writes = hand.writes ++ taken ∷ [] }

  abbrev lent : List Held
  lent = map (λ (k : HoldParts). record { ino = k.ino; body = k.body }) h.parcel.holds

  abbrev c : Case
  c = case_with desk.sizes desk.creds rows hand lent

  abbrev c2 : Case
  c2 = case_with desk.sizes desk.creds rows more lent

  p : ArePossible desk h.parcel h.back nodes rows
  p = less desk h f o u nodes rows may.possible

  a : IsAmong c nodes
  a = o.among nodes rows p

  abbrev s : Shows c nodes nodes'
  s = may.shows

  has : HasFile desk.sizes nodes f.lent
  has = may.possible.agrees.files f.lent (file_in_hand desk h f o u)

  node : (x : Node) × (node_at nodes taken.ino ≡ Some x) × (rights_of x ≡ rights_in f.lent.kind f.lent.body)
  node = mapped rights_of (node_at nodes taken.ino) (rights_in f.lent.kind f.lent.body) has.rights

  row : (r : Row) × (row_in rows taken.ino ≡ Some r) × (r.parent ≡ node.0.parent)
  row = node_row c nodes nodes' p.tree may.tree a s taken.ino node.0 node.1

  said : row_says row.0 ≡ node_says node.0
  said = said_alike rows nodes taken.ino row.0 node.0 a.same row.1 node.1

  apart_written : In taken.ino (written_numbers c) → ⊥
  apart_written = unwritten desk h f o u

  foreign : IsForeign c taken.ino
  foreign = (apart_written, u.unheld)

  judged_apart : (m : Met) → In m (judged_files c) → m.ino ≡ taken.ino → ⊥
  judged_apart m i e = search (arith, judged_own, apart_written, new_dead, p, a, row)

  -- ---- the file

  abbrev M : Met
  M = written_met c2 taken

  abbrev F : FileRead
  F = lent_file desk.sizes f.lent u.well

  number : M.ino ≡ taken.ino
  number = written_ino c2 taken

  pub reads : file_within (bundle_core c2) M ≡ Ok F
  reads =
      lent_reads desk.sizes f.lent u.well M (written_kind c2 taken) (written_body c2 taken) (bundle_sheets more) (pages_once desk h f o u) (lent_sub desk h f o u)

  entries_are : F.entries ≡ entries_shown desk.sizes f.lent
  entries_are = lent_entries_are desk.sizes f.lent u.well M (written_kind c2 taken) (written_body c2 taken)

  place : (l : Listed) → In l F.entries → is_place_of f.lent.ino l.page l.slot (row_in rows l.entry.ino) ≡ true
  place l i = may.possible.places f.lent l (file_in_hand desk h f o u) (subst (λ z. In l z) entries_are i)

  entry_row : (l : Listed) → In l F.entries → (r : Row) × (row_in rows l.entry.ino ≡ Some r) × (r.parent ≡ f.lent.ino)
  entry_row l i = let q = place_parts f.lent.ino l.page l.slot (row_in rows l.entry.ino) (place l i) in (q.0, q.1, q.2)

  entry_new : (l : Listed) → In l F.entries → In l.entry.ino hand.numbers → ⊥
  entry_new l i k = let r = entry_row l i in new_dead c nodes nodes' p.tree may.tree a s l.entry.ino r.0 r.1 k

  entry_unheld : (l : Listed) → In l F.entries → In l.entry.ino hand.holds → ⊥
  entry_unheld l i k =
      let r = entry_row l i in apart_written (subst (λ n. In n (written_numbers c)) r.2 (a.closed l.entry.ino r.0 k r.1))

  met_listed : (e : Met) → In e (met_entries M F) → (l : Listed) × In l F.entries × (e ≡ met_in plain M.ino l)
  met_listed e i = map-In (met_in plain M.ino) e F.entries i

  -- each entry has its node
  pub listed_node : (l : Listed) → In l F.entries → (x : Node) × (node_at nodes l.entry.ino ≡ Some x) × (x.parent ≡ f.lent.ino) × (x.name ≡ l.entry.name) × (rights_of x ≡ rights_in l.entry.kind l.body)
  listed_node l i =
      entry_node desk.sizes f.lent u.well rows (λ l j. may.possible.places f.lent l (file_in_hand desk h f o u) j) nodes has l (subst (λ z. In l z) entries_are i)

  -- ---- the judged files

  kids_none : new_entries c2 M ≡ []
  kids_none =
      filter-none (λ (e : Met). is_among e.ino more.numbers) (entries_in c2 M)
      (λ e i.
      let q = met_listed e (subst (λ l. In e l) (ap (children_in plain M.ino) reads) i) in
      false_from_ne_true (is_among e.ino hand.numbers)
      (λ t. entry_new q.0 q.1 (subst (λ (x : Met). In x.ino hand.numbers) q.2 (is_among-In e.ino hand.numbers t))))

  once : are_new [] (bundle_pages hand) ≡ true
  once = o.pages

  kids_again : (m : Met) → In m (judged_files c) → new_entries c2 m ≡ new_entries c m
  kids_again m i =
      ap (filter (λ (e : Met). is_among e.ino hand.numbers)) (entries_again desk.sizes desk.creds rows hand more lent lent nodes nodes' s once (pages_once desk h f o u) (sub desk h f o u) m i)

  first : flat_map (new_entries c2) (written_files c2) ≡ flat_map (new_entries c) (written_files c)
  first =
      let cut = sorted-cut (λ (x : Written). x.ino) hand.writes taken in
      let K : Met → List Met = new_entries c2 in
      let W : Written → Met = written_met c2 in
      ap (λ l. flat_map K (map W l)) cut.new
      ∙ ap (flat_map K) (map-append W cut.before (taken ∷ cut.after))
      ∙ flat_map-append K (map W cut.before) (M ∷ map W cut.after)
      ∙ ap (λ l. flat_map K (map W cut.before) ++ (l ++ flat_map K (map W cut.after))) kids_none
      ∙ sym (flat_map-append K (map W cut.before) (map W cut.after))
      ∙ ap (flat_map K) (sym (map-append W cut.before cut.after))
      ∙ ap (λ l. flat_map K (map W l)) (sym cut.old)
      ∙ flat_map-same K (new_entries c) (written_files c) (λ m i. kids_again m (start_judged c m i))

  among : (n : ℕ) → In n hand.numbers → is_among n (numbers (written_files c2)) ≡ is_among n (numbers (written_files c))
  among n i =
      among_alike n (numbers (written_files c2)) (numbers (written_files c))
      (λ j.
      let k : In n (map (λ (x : Written). x.ino) hand.writes ++ taken.ino ∷ []) = subst (λ l. In n l) (map-append (λ (x : Written). x.ino) hand.writes (taken ∷ [])) (start_number c2 n j) in
      elim (In-cases n (map (λ (x : Written). x.ino) hand.writes) (taken.ino ∷ []) k) [
        | inl before ↦ number_start c n before
        | inr here ↦ elim here [ inl e ↦ absurd (new_dead c nodes nodes' p.tree may.tree a s taken.ino row.0 row.1 (subst (λ m. In m hand.numbers) e i)) | inr no' ↦ absurd no' ]
      ])
      (λ j.
      number_start c2 n
      (subst (λ l. In n l) (sym (map-append (λ (x : Written). x.ino) hand.writes (taken ∷ []))) (In-left n (map (λ (x : Written). x.ino) hand.writes) (taken.ino ∷ []) (start_number c n j))))

  share : Share desk.sizes desk.creds desk.creds rows rows hand more lent lent
  share = shared desk.sizes desk.creds desk.creds rows rows hand more lent lent first among (λ m i l. kids_again m i)

  abbrev New : Met → Type 0
  New m = m ≡ written_met c2 taken

  abbrev Old : Met → Type 0
  Old m = In m (judged_files c)

  pub judged_from : (m : Met) → In m (judged_files c2) → New m ⊎ Old m
  judged_from m i =
      elim (In-cases m (written_files c2) share.rest (subst (λ l. In m l) share.new i)) [
        | inl start ↦
            let q = start_from c2 m start in
            elim (In-cases q.0 hand.writes (taken ∷ []) q.1) [
              | inl before ↦ inr (start_judged c m (subst (λ x. In x (written_files c)) (sym q.2) (start_to c q.0 before)))
              | inr here ↦ elim here [ inl e ↦ inl (q.2 ∙ ap (written_met c2) e) | inr no' ↦ absurd no' ]
            ]
        | inr later ↦ inr (subst (λ l. In m l) (sym share.old) (In-right m (written_files c) share.rest later))
      ]

  pub judged_to : (m : Met) → In m (judged_files c) → In m (judged_files c2)
  judged_to m i =
      elim (In-cases m (written_files c) share.rest (subst (λ l. In m l) share.old i)) [
        | inl start ↦
            let q = start_from c m start in
            start_judged c2 m (subst (λ x. In x (written_files c2)) (sym q.2) (start_to c2 q.0 (In-left q.0 hand.writes (taken ∷ []) q.1)))
        | inr later ↦ subst (λ l. In m l) (sym share.new) (In-right m (written_files c2) share.rest later)
      ]

  taken_judged : In M (judged_files c2)
  taken_judged = start_judged c2 M (start_to c2 taken (In-right taken hand.writes (taken ∷ []) (inl refl)))

  -- ---- the file is in order

  pages_listed : (q : ℕ) → In q (listed_pages F) → In q (numbers_of_file f.lent)
  pages_listed q i = subst (λ l. In q l) (lent_file-pages desk.sizes f.lent u.well) i

  pages_own : (q : ℕ) → In q (listed_pages F) → In q (bundle_pages more)
  pages_own q i =
      let k = map-In (λ (x : Sheet). x.page) q (lent_sheets f.lent) (subst (λ l. In q l) (sym (lent_sheet_numbers f.lent)) (pages_listed q i)) in
      subst (λ n. In n (bundle_pages more)) (sym k.2) (In-map (λ (x : Sheet). x.page) k.0 (bundle_sheets more) (lent_sub desk h f o u k.0 k.1))

  entry_kept : (e : Met) → In e (met_entries M F) → is_kept c2 e ≡ true
  entry_kept e i = search (arith, met_listed, number, place)

  entry_kind : (e : Met) → In e (met_entries M F) → has_kind e.kind (row_in rows e.ino) ≡ true
  entry_kind e i = search (arith, met_listed, entry_row, listed_node, said_alike, a, same_kind_from)

  entries_once : are_new [] (numbers (met_entries M F)) ≡ true
  entries_once =
      ap (are_new []) (map-map (λ (z : Met). z.ino) (met_in plain M.ino) F.entries)
      ∙ lent_numbers_new desk.sizes f.lent u.well M (written_kind c2 taken) (written_body c2 taken) rows place

  -- no entry of before names what this file lists
  named_apart : (x e : Met) (l : Listed) → In x (judged_files c) → In e (entries_in c x) → In l F.entries → l.entry.ino ≡ e.ino → ⊥
  named_apart x e l i j k same =
      let r = entry_row l k in
      let parent : e.parent ≡ x.ino = child_parent x.ino (file_within (bundle_core c) x) e j in
      let q = entry_own desk.sizes desk.creds rows hand more lent lent nodes nodes' s e (In-flat (entries_in c) x e (judged_files c) i j) in
      search (arith, or_cases, first, place_parts, some_one, judged_apart, entry_unheld, is_among-In, entry_new)

  file_written : is_written more M.ino ≡ true
  file_written =
      let r = In-find (λ (x : Written). eqb x.ino taken.ino) more.writes taken (In-right taken hand.writes (taken ∷ []) (inl refl)) (eq-eqb taken.ino taken.ino refl) in
      ap (is_written more) number ∙ ap is_some r.1

  file_rights : file_keeps_rights c2 M (Ok F) ≡ true
  file_rights = search (arith, row, said, node, lent_file-body, number, file_written, and_from, eq-eqb)

  file_new : IsNewFile desk.sizes desk.creds rows hand more lent lent New Old M
  file_new = record {
    file = F;
    read = reads;
    pages = pages_own;
    pages_once = ap (are_new []) (lent_file-pages desk.sizes f.lent u.well) ∙ u.well.once;
    pages_apart = λ x q i j k. u.apart q (pages_listed q k) (judged_page desk.sizes desk.creds rows hand more lent lent nodes nodes' s x q i j);
    kept = entry_kept;
    kind = entry_kind;
    entries_once = entries_once;
    entries_apart = λ x e y i j k same. (let q = met_listed y k in named_apart x e q.0 i j q.1 (sym (ap (λ (z : Met). z.ino) q.2) ∙ same));
    rights = file_rights;
  }

  new_file : (m : Met) → New m → IsNewFile desk.sizes desk.creds rows hand more lent lent New Old m
  new_file m e = subst (λ x. IsNewFile desk.sizes desk.creds rows hand more lent lent New Old x) (sym e) file_new

  further : IsFurther desk.sizes desk.creds rows hand more lent lent New Old
  further = record {
    once = judged_once c2 (files_once desk h f o u);
    from = judged_from;
    new_to = λ m e. subst (λ x. In x (judged_files c2)) (sym e) taken_judged;
    old_to = judged_to;
    old_in = λ m i. i;
    left = λ m i. inl i;
    page = λ m q i j. page_again desk.sizes desk.creds rows hand more lent lent nodes nodes' s once (pages_once desk h f o u) (sub desk h f o u) m q i j;
    more = pages_more desk.sizes desk.creds rows hand more lent lent nodes nodes' s once (pages_once desk h f o u) (sub desk h f o u);
    written = λ m i. ap is_some (find-skip (λ (x : Written). eqb x.ino m.ino) hand.writes taken (ne_eqb taken.ino m.ino (λ e. judged_apart m i (sym e))));
    own = λ e i k. k;
    keeps = λ e i k r. r;
    one = λ m x e k. ap (λ (y : Met). y.ino) (e ∙ sym k);
    new = new_file;
  }

  -- ---- the nodes

  file_of_new : (m : Met) (w : New m) → (further.new m w).file ≡ F
  file_of_new m w =
      let same : Ok (further.new m w).file ≡ Ok F = sym (further.new m w).read ∙ ap (file_within (bundle_core c2)) w ∙ reads in cc same

  -- the bytes that the bundle has of the file are those of the node, or it has none; and so is the guard
  file_bytes : (bytes_now c2 taken.ino ≡ None) ⊎ (bytes_now c2 taken.ino ≡ Some node.0.bytes)
  file_bytes = by (is_directory f.lent.kind) refl has.content
    where
      now : bytes_now c2 taken.ino ≡ bytes_read (bundle_core c2) M.kind (Ok F)
      now = ap (bytes_now c2) (sym number) ∙ bytes_new desk.sizes desk.creds rows hand more lent lent New Old further nodes nodes' s M refl ∙ ap (λ z. bytes_read (bundle_core c2) M.kind (Ok z)) (file_of_new M refl)

      have : Bool → Option (List ℕ)
      have d = cond d None (Some (take F.body.size (pages_bytes (bundle_core c2) F.chain.blocks)))

      by : (d : Bool) → is_directory f.lent.kind ≡ d → HasContent desk.sizes nodes f.lent d → (bytes_now c2 taken.ino ≡ None) ⊎ (bytes_now c2 taken.ino ≡ Some node.0.bytes)
      by true t content = inl (now ∙ ap have (ap is_directory (written_kind c2 taken) ∙ t))
      by false t content =
          let same : Some node.0.bytes ≡ Some (bytes_shown f.lent) = sym (ap (option_map (λ (x : Node). x.bytes)) node.1) ∙ content in
          inr (now ∙ ap have (ap is_directory (written_kind c2 taken) ∙ t)
          ∙ lent_bytes desk.sizes f.lent u.well M (written_kind c2 taken) (written_body c2 taken) (bundle_sheets more) (pages_once desk h f o u) (lent_sub desk h f o u) ∙ sym same)

  file_guard : guard_now c2 taken.ino ≡ Some node.0.guard
  file_guard =
      ap (guard_now c2) (sym number)
      ∙ guard_new desk.sizes desk.creds rows hand more lent lent New Old further nodes nodes' s M refl
      ∙ ap (λ b. Some (guard_in b)) (written_body c2 taken)
      ∙ sym (sym (ap (option_map (λ (x : Node). x.guard)) node.1) ∙ has.guard)

  -- a node with the bytes and the guard of the lent one
  abbrev Fits : Node → Type 0
  Fits y = (y.bytes ≡ node.0.bytes) × (y.guard ≡ node.0.guard)

  judged_fit : (n : ℕ) (z : Option Node) → ((y : Node) → z ≡ Some y → n ≡ taken.ino → Fits y) → option_map (with_judged (bytes_now c n) (guard_now c n)) z ≡ option_map (with_judged (bytes_now c2 n) (guard_now c2 n)) z
  judged_fit n z fit =
      elim (cases_eq n taken.ino) [
        | inr d ↦
            let out : (m : Met) → New m → m.ino ≡ n → ⊥ = λ m e k. d (sym k ∙ ap (λ (x : Met). x.ino) e ∙ number) in
            ap (λ q. option_map (with_judged q (guard_now c n)) z) (sym (bytes_same desk.sizes desk.creds rows hand more lent lent New Old further nodes nodes' s n out))
            ∙ ap (λ g. option_map (with_judged (bytes_now c2 n) g) z) (sym (guard_same desk.sizes desk.creds rows hand more lent lent New Old further nodes nodes' s n out))
        | inl same ↦
            ap (λ q. option_map (with_judged q (guard_now c n)) z) (ap (bytes_now c) same ∙ no_bytes c nodes nodes' p.tree may.tree a s taken.ino node.0 node.1 row.0 row.1 row.2 foreign)
            ∙ ap (λ g. option_map (with_judged None g) z) (ap (guard_now c) same ∙ no_guard c nodes nodes' p.tree may.tree a s taken.ino node.0 node.1 row.0 row.1 row.2 foreign)
            ∙ by z (λ y e. fit y e same) (bytes_now c2 n) (guard_now c2 n) (elim file_bytes [ inl e ↦ inl (ap (bytes_now c2) same ∙ e) | inr e ↦ inr (ap (bytes_now c2) same ∙ e) ])
            (ap (guard_now c2) same ∙ file_guard)
      ]
    where
      bytes_by : (y : Node) → Fits y → (q : Option (List ℕ)) → (q ≡ None) ⊎ (q ≡ Some node.0.bytes) → y ≡ with_bytes q y
      bytes_by y fit q (inl e) = ap (λ r. with_bytes r y) (sym e)
      bytes_by y fit q (inr e) = ap (λ l. record y { bytes = l }) fit.0 ∙ ap (λ r. with_bytes r y) (sym e)

      by : (z : Option Node) → ((y : Node) → z ≡ Some y → Fits y) → (q : Option (List ℕ)) (g : Option Bool) → (q ≡ None) ⊎ (q ≡ Some node.0.bytes) → g ≡ Some node.0.guard → option_map (with_judged None None) z ≡ option_map (with_judged q g) z
      by None fit q g e h = refl
      by (Some y) fit q g e h =
          ap (λ b. Some (record y { guard = b })) (fit y refl).1
          ∙ ap (λ r. Some (with_guard r y)) (sym h)
          ∙ ap (λ x. Some (with_guard g x)) (bytes_by y (fit y refl) q e)

  left_fits : (g : Option Naming) (y : Node) → node_left c taken.ino g (Some node.0) ≡ Some y → Fits y
  left_fits (Some g) y e = (let t : Some (placed g node.0) ≡ Some y = e in let one : placed g node.0 ≡ y = cc t in (ap (λ (x : Node). x.bytes) (sym one), ap (λ (x : Node). x.guard) (sym one)))
  left_fits None y e = by (is_among taken.ino c.bundle.holds) e
    where
      by : (t : Bool) → cond t None (Some node.0) ≡ Some y → Fits y
      by true e = absurd cc
      by false e = (let one : node.0 ≡ y = cc e in (ap (λ (x : Node). x.bytes) (sym one), ap (λ (x : Node). x.guard) (sym one)))

  named : (n : ℕ) → ((l : Listed) × In l F.entries × (l.entry.ino ≡ n)) ⊎ ((l : Listed) → In l F.entries → l.entry.ino ≡ n → ⊥)
  named n = by (find (λ (l : Listed). eqb l.entry.ino n) F.entries) refl
    where
      by : (q : Option Listed) → find (λ (l : Listed). eqb l.entry.ino n) F.entries ≡ q → ((l : Listed) × In l F.entries × (l.entry.ino ≡ n)) ⊎ ((l : Listed) → In l F.entries → l.entry.ino ≡ n → ⊥)
      by (Some l) e = let k = find-In (λ (l : Listed). eqb l.entry.ino n) F.entries l e in inl (l, k.0, eqb-true l.entry.ino n k.1)
      by None e =
          inr (λ l i is.
          let k = In-find (λ (l : Listed). eqb l.entry.ino n) F.entries l i (eq-eqb l.entry.ino n is) in
          let wrong : None ≡ Some k.0 = sym e ∙ k.1 in absurd (cc wrong))

  -- what the file lists, nothing named before
  unnamed : (l : Listed) → In l F.entries → naming_of c l.entry.ino ≡ None
  unnamed l i = by (naming_of c l.entry.ino) refl
    where
      by : (q : Option Naming) → naming_of c l.entry.ino ≡ q → naming_of c l.entry.ino ≡ None
      by None e = e
      by (Some g) e =
          let k = naming_is c l.entry.ino g e in
          let j : In (met_in plain k.judged_by.ino g.listed) (entries_in c k.judged_by) =
          subst (λ r. In (met_in plain k.judged_by.ino g.listed) (children_in plain k.judged_by.ino r)) (sym k.read) (In-map (met_in plain k.judged_by.ino) g.listed k.file.entries k.entry) in
          absurd (named_apart k.judged_by (met_in plain k.judged_by.ino g.listed) l k.among j i (sym k.number))

  naming_taken : (l : Listed) → In l F.entries → naming_of c2 l.entry.ino ≡ Some (record { directory = M.ino; listed = l })
  naming_taken l i = naming_new desk.sizes desk.creds rows hand more lent lent New Old further nodes nodes' s M refl l (subst (λ (z : FileRead). In l z.entries) (sym (file_of_new M refl)) i)

  each_listed : (l : Listed) → In l F.entries → node_at nodes' l.entry.ino ≡ node_now c2 l.entry.ino (node_at nodes l.entry.ino)
  each_listed l i =
      let n : ℕ = l.entry.ino in
      let x = listed_node l i in
      let g : Naming = record { directory = M.ino; listed = l } in
      let free : is_among n hand.holds ≡ false = false_from_ne_true (is_among n hand.holds) (λ t. entry_unheld l i (is_among-In n hand.holds t)) in
      let there : placed g x.0 ≡ x.0 = placed_there g x.0 (number ∙ sym x.2) (sym x.3) in
      s.each n
      ∙ ap (λ q. option_map (with_judged (bytes_now c n) (guard_now c n)) (node_left c n q (node_at nodes n))) (unnamed l i)
      ∙ ap (λ t. option_map (with_judged (bytes_now c n) (guard_now c n)) (cond t None (node_at nodes n))) free
      ∙ ap (option_map (with_judged (bytes_now c n) (guard_now c n))) x.1
      ∙ judged_fit n (Some x.0)
      (λ y e same.
      let one : x.0 ≡ y = (let t : Some x.0 ≡ Some y = e in cc t) in
      let two : x.0 ≡ node.0 = some_one (node_at nodes taken.ino) x.0 node.0 (ap (node_at nodes) (sym same) ∙ x.1) node.1 in
      (ap (λ (z : Node). z.bytes) (sym one ∙ two), ap (λ (z : Node). z.guard) (sym one ∙ two)))
      ∙ ap (λ z. option_map (with_judged (bytes_now c2 n) (guard_now c2 n)) (Some z)) (sym there)
      ∙ ap (λ q. option_map (with_judged (bytes_now c2 n) (guard_now c2 n)) (node_left c2 n (Some g) q)) (sym x.1)
      ∙ ap (λ q. option_map (with_judged (bytes_now c2 n) (guard_now c2 n)) (node_left c2 n q (node_at nodes n))) (sym (naming_taken l i))

  out_of : (n : ℕ) → ((l : Listed) → In l F.entries → l.entry.ino ≡ n → ⊥) → naming_of c2 n ≡ naming_of c n
  out_of n out =
      naming_same desk.sizes desk.creds rows hand more lent lent New Old further nodes nodes' s n
      (λ m w l i e. out l (subst (λ (z : FileRead). In l z.entries) (file_of_new m w) i) e)

  each_other : (n : ℕ) → ((l : Listed) → In l F.entries → l.entry.ino ≡ n → ⊥) → node_at nodes' n ≡ node_now c2 n (node_at nodes n)
  each_other n out =
      s.each n
      ∙ judged_fit n (node_left c n (naming_of c n) (node_at nodes n))
      (λ y e same.
      left_fits (naming_of c n) y
      (ap (λ q. node_left c taken.ino (naming_of c n) q) (sym node.1) ∙ ap (λ k. node_left c k (naming_of c n) (node_at nodes k)) (sym same) ∙ e))
      ∙ ap (λ q. option_map (with_judged (bytes_now c2 n) (guard_now c2 n)) (node_left c2 n q (node_at nodes n))) (sym (out_of n out))

  each : (n : ℕ) → node_at nodes' n ≡ node_now c2 n (node_at nodes n)
  each n =
      elim (named n) [
        | inl q ↦ subst (λ k. node_at nodes' k ≡ node_now c2 k (node_at nodes k)) q.2 (each_listed q.0 q.1)
        | inr out ↦ each_other n out
      ]

  -- a node in this directory is one that it lists
  no_other : (n : ℕ) (x : Node) → node_at nodes' n ≡ Some x → x.parent ≡ taken.ino → ((l : Listed) → In l F.entries → l.entry.ino ≡ n → ⊥) → ⊥
  no_other n x e at out =
      let spared = (shown_spares c nodes nodes' p.tree may.tree a s).1 taken.ino node.0 node.1 foreign in
      let y = node_in taken.ino (node_at nodes n) x at (ap (entry_in taken.ino) (sym e) ∙ spared.2.entries n) in
      let l = has_entry desk.sizes f.lent nodes p.tree has n y.0 y.1 y.2 in
      out l.0 (subst (λ z. In l.0 z) (sym entries_are) l.1) l.2

  whole : (n : ℕ) (x : Node) → node_at nodes' n ≡ Some x → is_among x.parent (numbers (judged_files c2)) ≡ true → is_some (naming_of c2 n) ≡ true
  whole n x e i =
      elim (named n) [
        | inl q ↦ subst (λ k. is_some (naming_of c2 k) ≡ true) q.2 (ap is_some (naming_taken q.0 q.1))
        | inr out ↦
            let m = map-In (λ (y : Met). y.ino) x.parent (judged_files c2) (is_among-In x.parent (numbers (judged_files c2)) i) in
            elim (judged_from m.0 m.1) [
              | inl new ↦ absurd (no_other n x e (m.2 ∙ ap (λ (y : Met). y.ino) new ∙ number) out)
              | inr old ↦
                  let j : is_among x.parent (numbers (judged_files c)) ≡ true =
                  In-is_among x.parent (numbers (judged_files c)) (subst (λ k. In k (numbers (judged_files c))) (sym m.2) (In-map (λ (y : Met). y.ino) m.0 (judged_files c) old)) in
                  ap is_some (out_of n out) ∙ s.whole n x e j
            ]
      ]

  pub shown : Shows c2 nodes nodes'
  shown = shows_by desk.sizes desk.creds rows hand more lent lent New Old further nodes nodes' s nodes' each whole

  -- what was judged before reads the same
  pub old_reads : (m : Met) → In m (judged_files c) → file_within (bundle_core c2) m ≡ file_within (bundle_core c) m
  old_reads m i = read_again desk.sizes desk.creds rows hand more lent lent nodes nodes' s once (pages_once desk h f o u) (sub desk h f o u) m i

  -- the pages that are listed then
  pub listed_then : (q : ℕ) → In q (judged_pages c2) → In q (judged_pages c) ⊎ In q (numbers_of_file f.lent)
  listed_then q i =
      let m = flat_map-In (pages_within c2) q (judged_files c2) i in
      elim (judged_from m.0 m.1) [
        | inl new ↦
            let here : In q (pages_in (file_within (bundle_core c2) M)) = subst (λ (x : Met). In q (pages_in (file_within (bundle_core c2) x))) new m.2 in
            inr (pages_listed q (subst (λ r. In q (pages_in r)) reads here))
        | inr old ↦
            inl (In-flat (pages_within c) m.0 q (judged_files c) old
            (subst (λ r. In q (pages_in r)) (read_again desk.sizes desk.creds rows hand more lent lent nodes nodes' s once (pages_once desk h f o u) (sub desk h f o u) m.0 old) m.2))
      ]

-- ---- the law

-- a live file has a row
pub row_there : (desk : DeskSeen) (h : InHand) (nodes : Nodes) (rows : List (Option Row)) (n : ℕ) (rights : Rights) → ArePossible desk h.parcel h.back nodes rows → option_map rights_of (node_at nodes n) ≡ Some rights → (r : Row) × (row_in rows n ≡ Some r)
row_there desk h nodes rows n rights p e = search (arith, p, mapped)

module _ (desk : DeskSeen) (h : InHand) (f : LentFile) (o : IsInOrder desk h) (u : IsUntouched desk h f) where
  among_then : (nodes : Nodes) (rows : List (Option Row)) → ArePossible desk (with_write h f).parcel h.back nodes rows → IsAmong (case_in_hand desk rows (with_write h f)) nodes
  among_then nodes rows possible =
      let hand : Bundle = bundle_of h.parcel in
      let taken : Written = written_in f.lent in
      let more : Bundle = record hand { writes = hand.writes ++ taken ∷ [] } in
      let held : List Held = map (λ (k : HoldParts). record { ino = k.ino; body = k.body }) h.parcel.holds in
      let a : IsAmong (case_in_hand desk rows h) nodes = o.among nodes rows (less desk h f o u nodes rows possible) in
      let has : HasFile desk.sizes nodes f.lent = possible.agrees.files f.lent (file_in_hand desk h f o u) in
      let r = row_there desk (with_write h f) nodes rows f.lent.ino (rights_in f.lent.kind f.lent.body) possible has.rights in
      let cut : (n : ℕ) → In n (map (λ (x : Written). x.ino) (hand.writes ++ taken ∷ [])) → In n (map (λ (x : Written). x.ino) hand.writes) ⊎ (n ≡ taken.ino) =
      λ n i. elim (In-cases n (map (λ (x : Written). x.ino) hand.writes) (taken.ino ∷ []) (subst (λ l. In n l) (map-append (λ (x : Written). x.ino) hand.writes (taken ∷ [])) i)) [
        | inl before ↦ inl before
        | inr here ↦ elim here [ inl e ↦ inr e | inr no' ↦ absurd no' ]
      ] in
      let then : IsAmong (case_with desk.sizes desk.creds rows more held) nodes =
      record {
        same = a.same;
        written = λ n i. elim (cut n i) [ inl j ↦ a.written n j | inr e ↦ ap (λ k. is_some (row_in rows k)) e ∙ ap is_some r.1 ];
        held = a.held;
        apart = λ n i j. elim (cut n j) [ inl k ↦ a.apart n i k | inr e ↦ u.unheld (subst (λ k. In k hand.holds) e i) ];
        closed = λ n q i e.
            subst (λ l. In q.parent l) (sym (map-append (λ (x : Written). x.ino) hand.writes (taken ∷ []))) (In-left q.parent (map (λ (x : Written). x.ino) hand.writes) (taken.ino ∷ []) (a.closed n q i e));
        new = a.new;
      } in
      subst (λ (x : Bundle). IsAmong (case_with desk.sizes desk.creds rows x held) nodes) (sym (bundle_is desk h f o u)) then

  pub takes_write_here : Takes desk h (with_write h f)
  takes_write_here = record {
    more = λ nodes rows possible. less desk h f o u nodes rows possible;
    shows = λ nodes nodes' rows may.
        let held : List Held = map (λ (k : HoldParts). record { ino = k.ino; body = k.body }) h.parcel.holds in
        subst (λ (x : Bundle). Shows (case_with desk.sizes desk.creds rows x held) nodes nodes') (sym (bundle_is desk h f o u)) (shown desk h f o u nodes nodes' rows may);
    tree = λ nodes nodes' rows may. may.tree;
    order = record {
      among = among_then;
      pages = ap (λ (x : Bundle). are_new [] (bundle_pages x)) (bundle_is desk h f o u) ∙ pages_once desk h f o u;
      files =
          ap (are_new []) (sym (map-map (λ (x : Written). x.ino) (λ (x : LentFile). written_in x.stands) (h.parcel.writes ++ f ∷ [])) ∙ ap (λ (x : Bundle). map (λ (y : Written). y.ino) x.writes) (bundle_is desk h f o u))
          ∙ files_once desk h f o u;
    };
  }

pub takes_write : TakesWrite
takes_write desk h f o u = takes_write_here desk h f o u
