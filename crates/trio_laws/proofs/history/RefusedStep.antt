-- A refused release extends the history.
use Rattle.trio_laws.proofs.Words.{AllByRecursion, BlocksAreKnown, Bool, Bundle, Ends, GivenTo, Handed, HandedFile, HasNameOf, HasPlaceOf, HasRightsOf, Image, In, In-list_any, IsMarked, IsWithinGrants, Kept, LentWhole, List, Node, Nodes, None, OpenGrant, Option, RawFile, Refused, Release, Row, SameContent, Some, Standing, State, ToldBlock, Why, Write, Written, [], and_from, and_parts, ap, arith, both_ways, bundle_handed, bytes_in, bytes_of, cond, count_up, creds_of, data_of, entry_in, eq-eqb, eqb, eqb-true, false, find-In, guard_of, inl, inr, is_among, is_directory, is_given, is_handed, is_others, is_told, is_written, length, list_any-In, list_any-map, node_at, node_by, node_of, nodes_of, not, not-true, or_left, raw_entry, raw_file, raw_files, raw_nodes, refl, refused_image, row_at, settled, size_of, some_of, standing_of, stands, subst, sym, told_by, true, writer_of, ℕ, ◌&&◌, ◌+◌, ◌∙◌, ◌∷◌, ◌≡◌, ◌⊎◌, name_of}
use Rattle.std.proofs.Common.{map, filter, find}
use Rattle.trio_laws.proofs.Bundles.{Closed}
use Rattle.trio_laws.proofs.StateFacts.{alone}
use Rattle.std.specs.Prelude.{MatchOption}
use Rattle.trio_nodes.specs.Legal.{HasAllButBytesOf, LegalVerdict}
use Rattle.trio_laws.specs.history.Entries.{refused_for}
use Rattle.trio_laws.proofs.history.Extends.{Makes, past_is}
use Rattle.trio_laws.proofs.history.Facts.{node_is}
use Rattle.trio_laws.proofs.history.OldBytes.{old_long}
use Rattle.trio_laws.proofs.history.RawGiven.{given_grant, given_is, grants_end, handed_is, files_from}
use Rattle.trio_laws.proofs.history.RawParts.{raw_number}
use Rattle.trio_laws.proofs.history.ToldFiles.{tells_these}
use Rattle.trio_laws.proofs.history.RefusedNodes.{bs, bytes_back, guard_stays, name_stays, size_stays, same_node, node_settled, refused_nodes}
use Rattle.trio_laws.proofs.history.Still.{node_with}

-- what holds of each of the files
all_files : (P : RawFile → Type 0) (xs : List RawFile) → ((f : RawFile) → In f xs → P f) → AllByRecursion P xs
all_files P [] h = tt
all_files P (x ∷ xs) h = (h x (inl refl), all_files P xs (λ f i. h f (inr i)))

one_of : (x y : Node) → Some x ≡ Some y → x ≡ y
one_of x y e = cc e

module _ (s s' : State) (k : Kept s) (k' : Kept s') (whole : LentWhole s) (whole' : LentWhole s') (lib : ℕ) (h : Handed) (given : GivenTo s lib (bundle_handed h)) (closed : Closed s lib (bundle_handed h)) (e : Ends s lib (bundle_handed h) (refused_image (settled s) (bundle_handed h)) s') (marked : (w : HandedFile) → In w h.writes → IsMarked s lib w) where
  abbrev b : Bundle
  b = bundle_handed h

  abbrev image : Image
  image = settled s

  abbrev after : Image
  after = refused_image image b

  abbrev these : List RawFile
  these = raw_files image after b

  abbrev blocks : List ToldBlock
  blocks = bs s s' k k' whole lib h given closed e marked

  abbrev gs : List Standing
  gs = map standing_of s.open_grants

  -- a node before and after
  was : (n : ℕ) → node_at (nodes_of s) n ≡ node_by image n (writer_of s n) (row_at s.home n)
  was n = node_is s k n

  is : (n : ℕ) → node_at (nodes_of s') n ≡ node_by after n (writer_of s' n) (row_at s.home n)
  is n = node_is s' k' n ∙ node_settled s s' k k' whole lib h given closed e marked n

  -- a live node, by its row
  pub record Live (n : ℕ) (x : Node) : Type 0 where
    pub row : Row
    pub at : row_at s.home n ≡ Some row
    pub before : x ≡ node_of image n (writer_of s n) row
    pub now : node_at (nodes_of s') n ≡ Some (node_of after n (writer_of s' n) row)

  live : (n : ℕ) (x : Node) → node_at (nodes_of s) n ≡ Some x → Live n x
  live n x there = search (arith, Live, was, one_of, is)

  -- every node keeps its place, name, kind and rights
  entry_same : (dir n : ℕ) → entry_in dir (node_at (nodes_of s') n) ≡ entry_in dir (node_at (nodes_of s) n)
  entry_same dir n = search (arith, is, was, name_stays)

  pub unwritten_same : (n : ℕ) → is_written b n ≡ false → SameContent (nodes_of s) (nodes_of s') n
  unwritten_same n un = search (arith, is, was, entry_same, same_node)

  pub rights_same : (n : ℕ) (x : Node) → node_at (nodes_of s) n ≡ Some x → HasRightsOf x (node_at (nodes_of s') n)
  rights_same n x there =
      let l = live n x there in
      let H : Node → Option Node → Type 0 = λ y o. HasRightsOf y o in
      subst (λ o. H x o) (sym l.now) (subst (λ y. H y (Some (node_of after n (writer_of s' n) l.row))) (sym l.before) (refl, refl, refl, refl))

  place_same : (n : ℕ) (x : Node) → node_at (nodes_of s) n ≡ Some x → HasPlaceOf x (node_at (nodes_of s') n)
  place_same n x there =
      let l = live n x there in
      let H : Node → Option Node → Type 0 = λ y o. HasPlaceOf y o in
      subst (λ o. H x o) (sym l.now) (subst (λ y. H y (Some (node_of after n (writer_of s' n) l.row))) (sym l.before) refl)

  name_same : (n : ℕ) (x : Node) → node_at (nodes_of s) n ≡ Some x → HasNameOf x (node_at (nodes_of s') n)
  name_same n x there =
      let l = live n x there in
      let H : Node → Option Node → Type 0 = λ y o. HasNameOf y o in
      subst (λ o. H x o) (sym l.now) (subst (λ y. H y (Some (node_of after n (writer_of s' n) l.row))) (sym l.before) (refl, name_stays s s' k k' whole lib h given closed e marked n l.row l.at))

  -- a grant stands on what is written, and no other library's
  written_stands : (n : ℕ) → is_written b n ≡ true → stands gs lib n Write ≡ true
  written_stands n wr =
      let w = some_of (find (λ (w : Written). eqb w.ino n) b.writes) wr in
      let f = find-In (λ (w : Written). eqb w.ino n) b.writes w.0 w.1 in
      let l = given.writes w.0 f.0 in
      let number : l.grant.ino ≡ n = l.ino ∙ eqb-true w.0.ino n f.1 in
      search (arith, list_any-map, In-list_any, and_from, eq-eqb)

  others_unwritten : (n : ℕ) → is_others gs lib n ≡ true → is_written b n ≡ false
  others_unwritten n t = by (is_written b n) refl
    where
      by : (w : Bool) → is_written b n ≡ w → is_written b n ≡ false
      by false wr = wr
      by true wr =
          let a = list_any-In (λ (g : OpenGrant). not (eqb g.lib lib) && eqb g.ino n) s.open_grants (sym (list_any-map standing_of (λ (g : Standing). not (eqb g.lib lib) && eqb g.ino n) s.open_grants) ∙ t) in
          let p = and_parts (not (eqb a.0.lib lib)) (eqb a.0.ino n) a.2 in
          let g = given_grant s k lib b given n (or_left (is_written b n) (is_among n b.holds) wr) in
          let one : g.0 ≡ a.0 = alone s.open_grants g.0 a.0 k.apart g.1 a.1 g.4 (g.3 ∙ sym (eqb-true a.0.ino n p.1)) in
          let mine : eqb a.0.lib lib ≡ true = eq-eqb a.0.lib lib (sym (ap (λ (x : OpenGrant). x.lib) one) ∙ g.2) in
          absurd (both_ways (eqb a.0.lib lib) (not-true (eqb a.0.lib lib) p.0) mine)

  within : IsWithinGrants gs (creds_of s lib) lib (nodes_of s) (nodes_of s')
  within = record {
    content = λ n x there. by_written n (is_written b n) refl;
    name = λ n x there. inr (name_same n x there);
    place = λ n x there. inr (place_same n x there);
    rights = λ n x y there now. (let H : Option Node → Type 0 = λ o. HasRightsOf x o in subst H now (rights_same n x there));
    others = λ n x there t. (rights_same n x there, place_same n x there, unwritten_same n (others_unwritten n t));
    new = λ n y there now. absurd (none_new n y there now);
  }
    where
      by_written : (n : ℕ) (w : Bool) → is_written b n ≡ w → (stands gs lib n Write ≡ true) ⊎ ((node_at (nodes_of s') n ≡ None) ⊎ SameContent (nodes_of s) (nodes_of s') n)
      by_written n true wr = inl (written_stands n wr)
      by_written n false un = inr (inr (unwritten_same n un))

      none_new : (n : ℕ) (y : Node) → node_at (nodes_of s) n ≡ None → node_at (nodes_of s') n ≡ Some y → ⊥
      none_new n y there now = search (arith, is, was)

  -- ---- bytes

  length_was : (n : ℕ) (r : Row) → row_at s.home n ≡ Some r → length (data_of image n r (writer_of s n)) ≡ size_of after n
  length_was n r row = old_long s k whole n r row ∙ sym (size_stays s s' k k' whole lib h given closed e marked n r row)

  length_now : (n : ℕ) (r : Row) → row_at s.home n ≡ Some r → length (data_of after n r (writer_of s' n)) ≡ size_of after n
  length_now n r row =
      let row' : row_at s'.home n ≡ Some r = ap (λ (i : Image). row_at i n) e.settles ∙ row in
      ap (λ (i : Image). length (data_of i n r (writer_of s' n))) (sym e.settles) ∙ old_long s' k' whole' n r row' ∙ ap (λ (i : Image). size_of i n) e.settles

  length_same : (n : ℕ) (r : Row) → row_at s.home n ≡ Some r → length (bytes_of after n r (writer_of s' n) r.kind) ≡ length (bytes_of image n r (writer_of s n) r.kind)
  length_same n r row = by (is_directory r.kind)
    where
      by : (d : Bool) → length (cond d [] (data_of after n r (writer_of s' n))) ≡ length (cond d [] (data_of image n r (writer_of s n)))
      by true = refl
      by false = length_now n r row ∙ sym (length_was n r row)

  bare_same : (n : ℕ) (r : Row) → row_at s.home n ≡ Some r → record (node_of after n (writer_of s' n) r) { bytes = [] } ≡ record (node_of image n (writer_of s n) r) { bytes = [] }
  bare_same n r row =
      ap (λ l. node_with r (guard_of after n) l []) (name_stays s s' k k' whole lib h given closed e marked n r row)
      ∙ ap (λ g. node_with r g (name_of image n r) []) (guard_stays s s' k k' whole lib h given closed e marked n r row)

  -- a node keeps all but bytes, and these too where it is guarded
  judged_by : (n : ℕ) (o : Option Row) → row_at s.home n ≡ o → MatchOption (node_by image n (writer_of s n) o) (node_by after n (writer_of s' n) o ≡ None) (λ x. HasAllButBytesOf x (node_by after n (writer_of s' n) o))
  judged_by n None row = refl
  judged_by n (Some r) row =
      (bare_same n r row, length_same n r row, λ guarded. bytes_back s s' k k' whole lib h given closed e marked n r row guarded)

  judged : (why : Why) → LegalVerdict (refused_for why) (nodes_of s) (nodes_of s')
  judged why n =
      let M : Option Node → Option Node → Type 0 = λ x y. MatchOption x (y ≡ None) (λ z. HasAllButBytesOf z y) in
      subst (λ x. M x (node_at (nodes_of s') n)) (sym (was n))
      (subst (λ y. M (node_by image n (writer_of s n) (row_at s.home n)) y) (sym (is n)) (judged_by n (row_at s.home n) refl))

  -- a file of the entry, by its row
  record Filed (m : ℕ) (f : RawFile) : Type 0 where
    pub row : Row
    pub at : row_at s.home m ≡ Some row
    pub size : f.size ≡ size_of after m
    pub kind : f.kind ≡ row.kind

  filed : (m : ℕ) (f : RawFile) (t : Bool) (o : Option Row) → row_at s.home m ≡ o → cond t (told_by image after b m o o) None ≡ Some f → Filed m f
  filed m f t o row q = search arith

  long_enough : (f : RawFile) → In f these → is_directory f.kind ≡ false → f.size ≡ length (bytes_in (node_at (nodes_of s) f.ino))
  long_enough f i plain' =
      let q = files_from (raw_file image after b) (count_up 1 s.home.core.inodes) f i in
      let number : f.ino ≡ q.0 = raw_number image after b q.0 f q.1 in
      let r = filed q.0 f (is_told image after b q.0) (row_at s.home q.0) refl q.1 in
      let bytes : bytes_in (node_at (nodes_of s) q.0) ≡ bytes_of image q.0 r.row (writer_of s q.0) r.row.kind = ap bytes_in (was q.0 ∙ ap (node_by image q.0 (writer_of s q.0)) r.at) in
      let kind : is_directory r.row.kind ≡ false = ap is_directory (sym r.kind) ∙ plain' in
      let held : bytes_of image q.0 r.row (writer_of s q.0) r.row.kind ≡ data_of image q.0 r.row (writer_of s q.0) = ap (λ t. cond t [] (data_of image q.0 r.row (writer_of s q.0))) kind in
      r.size ∙ sym (length_was q.0 r.row r.at) ∙ ap length (sym held) ∙ ap length (sym bytes) ∙ ap (λ j. length (bytes_in (node_at (nodes_of s) j))) (sym number)

  known : AllByRecursion (λ f. BlocksAreKnown blocks f (node_at (nodes_of s) f.ino)) these
  known = all_files (λ f. BlocksAreKnown blocks f (node_at (nodes_of s) f.ino)) these (λ f i at regular inside. inr (let z = long_enough f i regular in omega (arith, z)))

  given_are : (n : ℕ) → is_given these n ≡ is_handed h n
  given_are n = given_is s k lib b given after n ∙ sym (handed_is h n)

  is_raw : (n : ℕ) → node_at (raw_nodes blocks these (nodes_of s)) n ≡ node_by after n (writer_of s' n) (row_at after n)
  is_raw n = ap (λ (ns : Nodes). node_at ns n) (sym (refused_nodes s s' k k' whole lib h given closed e marked)) ∙ is n

  pub refused_makes : (why : Why) → Makes s (Release lib b) (Refused why) s' (raw_entry image lib h (refused_for why) after)
  refused_makes why = record {
    legal = record {
      told = tells_these image after h (nodes_of s) blocks (writer_of s) (writer_of s') was is_raw given_are;
      given = given_are;
      within = subst (λ (ns : Nodes). IsWithinGrants gs (creds_of s lib) lib (nodes_of s) ns) (refused_nodes s s' k k' whole lib h given closed e marked) within;
      judged = subst (λ (ns : Nodes). LegalVerdict (refused_for why) (nodes_of s) ns) (refused_nodes s s' k k' whole lib h given closed e marked) (judged why);
      known = known;
    };
    comes = past_is s' (raw_nodes blocks these (nodes_of s)) (filter (λ (g : Standing). not (eqb g.lib lib && is_given these g.ino)) gs) (s.entries + 1) (refused_nodes s s' k k' whole lib h given closed e marked) (grants_end s k lib b given after s' e.grants) e.entries;
    tells = refl;
    says = refl;
  }
