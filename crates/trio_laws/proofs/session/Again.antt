-- What is judged reads the same where the bundle has more pages; and what is possible with more in hand was possible with less.
use Rattle.trio_laws.proofs.Words.{◌++◌, ◌∙◌, ◌≡◌, ArePossible, Bundle, Case, Creds, DeskSeen, FileRead, Held, HoldParts, In, In-cases, In-flat, In-left, In-map, In-right, InHand, IsInOrder, LentFile, List, Met, Node, Nodes, Ok, Option, Parcel, Row, SaySame, Sheet, Shown, Shows, Sizes, Some, Written, [], and_from, and_parts, ap, are_new, are_new-append, arith, bundle_core, bundle_of, bundle_pages, bundle_sheets, children_in, entries_in, entry_is_own, file_within, ino_numbers, is_among, is_among-In, is_ok, is_ok-Ok, judged_entries, judged_files, judged_pages, lent_files, list_all-In, map, map-In, map-map, new_beside, node_at, node_says, option_map, page_of, pages_in, pages_within, plain, row_in, row_says, subst, sym, true, written_in, ℕ}
use Rattle.trio_lists.proofs.New.{are_new-joined}
use Rattle.trio_laws.proofs.session.Reading.{file_as_before, page_kept}
use Rattle.trio_laws.proofs.session.Ruled.{case_with, owning_parts}

-- numbers that are put between others, and are none of them
pub new_between : (xs ys zs : List ℕ) → are_new [] (xs ++ zs) ≡ true → are_new [] ys ≡ true → ((n : ℕ) → In n ys → In n (xs ++ zs) → ⊥) → are_new [] ((xs ++ ys) ++ zs) ≡ true
new_between xs ys zs new once apart =
    let p = and_parts (are_new [] xs) (are_new xs zs) (sym (are_new-append [] xs zs) ∙ new) in
    let front : are_new [] (xs ++ ys) ≡ true =
    are_new-append [] xs ys ∙ and_from (are_new [] xs) (are_new xs ys) p.0 (new_beside xs ys once (λ n i j. apart n i (In-left n xs zs j))) in
    are_new-append [] (xs ++ ys) zs
    ∙ and_from (are_new [] (xs ++ ys)) (are_new (xs ++ ys) zs) front (are_new-joined xs ys (xs ++ ys) zs (λ n i. In-cases n xs ys i) p.1 (λ n i j. apart n j (In-right n xs zs i)))

-- what a row and a node of a number say alike
pub said_alike : (rows : List (Option Row)) (nodes : Nodes) (n : ℕ) (r : Row) (x : Node) → SaySame rows nodes → row_in rows n ≡ Some r → node_at nodes n ≡ Some x → row_says r ≡ node_says x
said_alike rows nodes n r x same row node =
    let says : Some (row_says r) ≡ Some (node_says x) = sym (ap (option_map row_says) row) ∙ same n ∙ ap (option_map node_says) node in cc says

-- what is possible with more is possible with less
pub possible_with_less : (desk : DeskSeen) (b b' : Parcel) (back back' : List Shown)
    → ((f : Shown) → In f (lent_files b.writes ++ back) → In f (lent_files b'.writes ++ back'))
    → ((k : HoldParts) → In k b.holds → In k b'.holds)
    → ((n : ℕ) → In n (ino_numbers b.inodes) → In n (ino_numbers b'.inodes))
    → (nodes : Nodes) (rows : List (Option Row)) → ArePossible desk b' back' nodes rows → ArePossible desk b back nodes rows
possible_with_less desk b b' back back' files holds inodes nodes rows p = record {
  tree = p.tree;
  agrees = record { root_is = p.agrees.root_is; files = λ f i. p.agrees.files f (files f i); holds = λ k i. p.agrees.holds k (holds k i) };
  none = λ n i. p.none n (inodes n i);
  same = p.same;
  places = λ f l i. p.places f l (files f i);
}

-- each written file stands once in what would be judged
pub hand_files_once : (desk : DeskSeen) (h : InHand) → IsInOrder desk h → are_new [] (map (λ (w : Written). w.ino) (bundle_of h.parcel).writes) ≡ true
hand_files_once desk h o = ap (are_new []) (map-map (λ (x : Written). x.ino) (λ (x : LentFile). written_in x.stands) h.parcel.writes) ∙ o.files

module _ (sizes : Sizes) (creds : Creds) (rows : List (Option Row)) (b b' : Bundle) (lent lent' : List Held) (nodes nodes' : Nodes) (s : Shows (case_with sizes creds rows b lent) nodes nodes') where
  abbrev c : Case
  c = case_with sizes creds rows b lent

  abbrev c' : Case
  c' = case_with sizes creds rows b' lent'

  pub judged_reads : (m : Met) → In m (judged_files (case_with sizes creds rows b lent)) → (f : FileRead) × (file_within (bundle_core (case_with sizes creds rows b lent)) m ≡ Ok f)
  judged_reads m i = search (arith, is_ok-Ok, list_all-In, is_ok, and_parts)

  pub judged_page : (m : Met) (p : ℕ) → In m (judged_files (case_with sizes creds rows b lent)) → In p (pages_within (case_with sizes creds rows b lent) m) → In p (bundle_pages b)
  judged_page m p i j =
      is_among-In p (bundle_pages b) (list_all-In (λ page. is_among page (bundle_pages b)) p (judged_pages c) (owning_parts c s.owning).pages (In-flat (pages_within c) m p (judged_files c) i j))

  pub entry_own : (e : Met) → In e (judged_entries (case_with sizes creds rows b lent)) → entry_is_own (case_with sizes creds rows b lent) e ≡ true
  entry_own e i = list_all-In (entry_is_own c) e (judged_entries c) (owning_parts c s.owning).entries i

  module _ (once : are_new [] (bundle_pages b) ≡ true) (once' : are_new [] (bundle_pages b') ≡ true) (sub : (x : Sheet) → In x (bundle_sheets b) → In x (bundle_sheets b')) where
    pub page_again : (m : Met) (p : ℕ) → In m (judged_files (case_with sizes creds rows b lent)) → In p (pages_within (case_with sizes creds rows b lent) m) → page_of (bundle_core (case_with sizes creds rows b' lent')) p ≡ page_of (bundle_core (case_with sizes creds rows b lent)) p
    page_again m p i j = page_kept sizes.range sizes.inodes (bundle_sheets b) (bundle_sheets b') p once once' sub (judged_page m p i j)

    pub read_again : (m : Met) → In m (judged_files (case_with sizes creds rows b lent)) → file_within (bundle_core (case_with sizes creds rows b' lent')) m ≡ file_within (bundle_core (case_with sizes creds rows b lent)) m
    read_again m i =
        let r = judged_reads m i in
        file_as_before (bundle_core c) (bundle_core c').pages m r.0 r.1 (λ p j. page_again m p i (subst (λ w. In p (pages_in w)) (sym r.1) j)) ∙ sym r.1

    pub entries_again : (m : Met) → In m (judged_files (case_with sizes creds rows b lent)) → entries_in (case_with sizes creds rows b' lent') m ≡ entries_in (case_with sizes creds rows b lent) m
    entries_again m i = ap (children_in plain m.ino) (read_again m i)

    pub pages_more : (p : ℕ) → In p (bundle_pages b) → In p (bundle_pages b')
    pages_more p i =
        let q = map-In (λ (x : Sheet). x.page) p (bundle_sheets b) i in
        subst (λ n. In n (bundle_pages b')) (sym q.2) (In-map (λ (x : Sheet). x.page) q.0 (bundle_sheets b') (sub q.0 q.1))
