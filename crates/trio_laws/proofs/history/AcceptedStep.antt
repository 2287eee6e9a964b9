-- An accepted release extends the history.
use Rattle.trio_laws.proofs.Words.{Accepted, AllByRecursion, BlocksAreKnown, Bool, Bundle, Core, Ends, FileRead, GivenTo, GrantKind, Handed, HandedFile, HasNameOf, HasPlaceOf, HasRightsOf, Hold, Image, In, In-flat, In-list_any, In-map, IsFit, IsMarked, IsWithinGrants, Kept, Kind, LentWhole, List, Listed, Met, Node, Nodes, None, Ok, Ok-one, OpenGrant, Option, RawFile, Release, Row, SameContent, Some, Standing, State, ToldBlock, Verifies, Write, Written, [], all_listed, and_from, and_parts, ap, arith, block_numbers, both_ways, bundle_handed, bytes_in, bytes_of, cases_eq, child_has, children, cond, creds_of, data_of, entry_in, eq-eqb, eqb, eqb-true, false, false_from_ne_true, file_of, find-In, has_owner, has_parent_grant, inl, inr, is_accepted, is_among, is_among-In, is_block_told, is_directory, is_given, is_guarded, is_handed, is_others, is_write, is_written, length, list_any-In, list_any-map, listed_no_root, map-In, met_in, met_numbered, min, name_of, ne_eqb, next, node_at, node_by, node_of, nodes_of, not, not-true, one_met, or_left, or_right, page_of, pages_are, picked_entry, plain, raw_blocks, raw_entry, raw_files, raw_nodes, read_met, reads_from, reads_to, refl, root_is_met, root_of, row_at, row_at_is, row_by, row_met, row_of, same_Some, same_kind, settled, settled_body, size_of, slice_get, some_of, standing_of, stands, subst, suc, survey, sym, told_blocks, told_blocks_of, told_by, told_file, true, unwrap_or, writer_of, zero, ℕ, ◌&&◌, ◌*◌, ◌++◌, ◌+◌, ◌<◌, ◌∙◌, ◌∷◌, ◌≡◌, ◌≤◌, ◌⊎◌}
use Rattle.std.proofs.Common.{map, filter, find}
use Rattle.trio_nodes.specs.declared.answers.ReleaseAnswer.TheVariants.{Accepted as IsAccepted}
use Rattle.trio_laws.proofs.Bundles.{Unwritten, page_kept, unwritten_apart}
use Rattle.trio_laws.proofs.Isolated.{same_file}
use Rattle.trio_surveys.proofs.Picked.{listed_are_met}
use Rattle.trio_laws.proofs.StateFacts.{alone}
use Rattle.trio_laws.proofs.Survivors.{held_rights}
use Rattle.trio_nodes.specs.Legal.{is_listed}
use Rattle.trio_laws.proofs.history.AcceptedFiles.{P, pick, fitP, soundP, fitJ, verifiesJ, Now, now, kept_follows, FileIs, Stayed, Wrote, New, file_is, unheld_now}
use Rattle.trio_laws.proofs.history.Blocks.{chain_count}
use Rattle.trio_laws.proofs.history.Grown.{unlisted_is}
use Rattle.trio_laws.proofs.history.OldBytes.{old_long}
use Rattle.trio_laws.proofs.history.AcceptedNodes.{size_now, numbers_now, accepted_nodes, node_settled, kept_bytes, dead_unwritten}
use Rattle.trio_laws.proofs.history.Extends.{Makes, past_is}
use Rattle.trio_laws.proofs.history.Facts.{Live, any_same, live, node_is}
use Rattle.trio_laws.proofs.history.Follows.{Follows, name_at_entry, guard_follows}
use Rattle.trio_laws.proofs.history.Listing.{listing, met_at, body_met, tables_of}
use Rattle.trio_laws.proofs.history.RawGiven.{is_in, given_grant, given_is, grants_end, handed_is, files_from}
use Rattle.trio_laws.proofs.history.ModeNodes.{name_root}
use Rattle.trio_laws.proofs.history.ToldFiles.{tells_these}

module _ (s s' : State) (k : Kept s) (k' : Kept s') (whole : LentWhole s) (lib : ℕ) (h : Handed) (given : GivenTo s lib (bundle_handed h)) (accepted : is_accepted (settled s) (creds_of s lib) (bundle_handed h) ≡ true) (e : Ends s lib (bundle_handed h) (next (settled s) (bundle_handed h)) s') (marked : (w : HandedFile) → In w h.writes → IsMarked s lib w) where
  abbrev b : Bundle
  b = bundle_handed h

  abbrev image : Image
  image = settled s

  abbrev after : Image
  after = next image b

  abbrev proposed_core : Core
  proposed_core = P s k lib (creds_of s lib) b given accepted

  abbrev picks : ℕ → ℕ → ℕ → ℕ → List ℕ → List ℕ
  picks = pick s k lib (creds_of s lib) b given accepted

  abbrev at_now : (n : ℕ) (r : Row) → row_at after n ≡ Some r → Now s k lib (creds_of s lib) b given accepted n r
  at_now n r row = now s k lib (creds_of s lib) b given accepted n r row

  fit' : IsFit after.core
  fit' = fitJ s k lib (creds_of s lib) b given accepted

  verifies' : Verifies after
  verifies' = verifiesJ s k lib (creds_of s lib) b given accepted

  abbrev gs : List Standing
  gs = map standing_of s.open_grants

  was : (n : ℕ) → node_at (nodes_of s) n ≡ node_by image n (writer_of s n) (row_at s.home n)
  was n = node_is s k n

  is : (n : ℕ) → node_at (nodes_of s') n ≡ node_by after n (writer_of s' n) (row_at after n)
  is n = node_is s' k' n ∙ node_settled s s' k k' whole lib h given accepted e marked n

  -- ---- a file that stays reads as before

  -- a file that is live before and after it, and is not written
  pub record Stays (n : ℕ) (r r' : Row) : Type 0 where
    pub row : row_at s.home n ≡ Some r
    pub row' : row_at after n ≡ Some r'
    pub follows : Follows image after n r r'
    pub unwritten : Unwritten b n
    pub kind : r'.kind ≡ r.kind
    pub met : Met
    pub met' : Met
    pub file : FileRead
    pub number : met.ino ≡ n
    pub number' : met'.ino ≡ n
    pub stood : In met (survey image.core plain)
    pub stands' : In met' (survey after.core plain)
    pub read : file_of image.core met ≡ Ok file
    pub read' : file_of after.core met' ≡ Ok (record file { entries = map (picked_entry picks met'.ino) file.entries })

  stays_by : (n : ℕ) (r r' : Row) (row : row_at s.home n ≡ Some r) (row' : row_at after n ≡ Some r') → is_written b n ≡ false → FileIs s k lib (creds_of s lib) b given accepted (at_now n r' row').met → Stays n r r'
  stays_by n r r' row row' un (Wrote wr unheld own) = absurd (both_ways (is_written b n) un (ap (is_written b) (sym (at_now n r' row').number) ∙ wr))
  stays_by n r r' row row' un (New dead owner own) = (let wrong : None ≡ Some r = sym dead ∙ ap (row_at image) (at_now n r' row').number ∙ row in absurd (cc wrong))
  stays_by n r r' row row' un (Stayed q row_q kind body unw) =
      let w = at_now n r' row' in
      let m0 = met_at image k.fit k.verifies n r row in
      let q_r : q ≡ r = same_Some q r (sym row_q ∙ ap (row_at image) w.number ∙ row) in
      let kinds : w.met.kind ≡ m0.met.kind = kind ∙ ap (λ (x : Row). x.kind) q_r ∙ ap (λ (x : Row). x.kind) m0.row in
      let bodies : w.met.body ≡ m0.met.body = body ∙ ap (settled_body image) w.number ∙ body_met image k.fit k.verifies n r row in
      let un0 : Unwritten b m0.met.ino = λ x i j. unw x i (j ∙ m0.number ∙ sym w.number) in
      let pages : (p : ℕ) → In p (m0.file.chain.index ++ m0.file.chain.blocks) → page_of proposed_core p ≡ page_of image.core p =
      λ p i. page_kept s k lib b given p (λ j. unwritten_apart s k lib b given m0.met p m0.stands un0 (subst (λ l. In p l) (sym (pages_are image.core m0.met m0.file m0.read)) i) j) in
      let now0 : file_of proposed_core m0.met ≡ Ok m0.file = same_file image.core proposed_core m0.met m0.file refl refl m0.read pages in
      let a = reads_from proposed_core m0.met m0.file now0 in
      let here : file_of proposed_core w.met ≡ Ok m0.file = search (arith, reads_to) in
      let same : w.file ≡ m0.file = Ok-one (file_of proposed_core w.met) w.file m0.file w.read here in
      record {
        row = row;
        row' = row';
        follows = kept_follows s k lib (creds_of s lib) b given accepted n r r' row row' (q, row_q, kind, body, unw);
        unwritten = λ x i j. unw x i (j ∙ sym w.number);
        kind = ap (λ (x : Row). x.kind) w.row ∙ kinds ∙ sym (ap (λ (x : Row). x.kind) m0.row);
        met = m0.met;
        met' = w.met;
        file = m0.file;
        number = m0.number;
        number' = w.number;
        stood = m0.stands;
        stands' = w.stands';
        read = m0.read;
        read' = w.read' ∙ ap (λ (f : FileRead). Ok (record f { entries = map (picked_entry picks w.met.ino) f.entries })) same;
      }

  stays_at : (n : ℕ) (r r' : Row) → row_at s.home n ≡ Some r → row_at after n ≡ Some r' → is_written b n ≡ false → Stays n r r'
  stays_at n r r' row row' un =
      stays_by n r r' row row' un (file_is s k lib (creds_of s lib) b given accepted (at_now n r' row').met (at_now n r' row').stands)

  -- ---- what it lists

  -- what an image says of a number that a file lists
  pub record Child (i : Image) (dir n : ℕ) (name : List ℕ) (kind : Kind) : Type 0 where
    pub row : Row
    pub at : row_at i n ≡ Some row
    pub parent : row.parent ≡ dir
    pub name_is : name_of i n row ≡ name
    pub kind_is : row.kind ≡ kind

  child_of : (i : Image) (fit : IsFit i.core) (v : Verifies i) (m : Met) (f : FileRead) (l : Listed) → In m (survey i.core plain) → file_of i.core m ≡ Ok f → In l f.entries → Child i m.ino l.entry.ino l.entry.name l.entry.kind
  child_of i fit v m f l stands read listed =
      let c : Met = met_in plain m.ino l in
      let j = child_has i.core plain m f l read listed in
      let all : In c (all_listed i.core plain) = In-flat (children i.core plain) m c (survey i.core plain) stands j in
      let met = listed_are_met i.core plain fit v.sound c all in
      let g = read_met i.core plain fit v.sound c met in
      let row : row_at i l.entry.ino ≡ Some (row_by c g.0.body) = row_at_is i.core plain fit v.sound i (tables_of i fit v) l.entry.ino ∙ row_met i.core plain fit v.sound c g.0 met g.1 in
      let other : l.entry.ino ≡ 1 → ⊥ = listed_no_root i.core plain fit v.sound c all in
      record {
        row = row_by c g.0.body;
        at = row;
        parent = refl;
        name_is = name_at_entry i m f l l.entry.ino (row_by c g.0.body) read listed other refl refl;
        kind_is = refl;
      }

  entry_is : (i : Image) (dir n : ℕ) (w : Option OpenGrant) (name : List ℕ) (kind : Kind) → Child i dir n name kind → entry_in dir (node_by i n w (row_at i n)) ≡ Some (name, kind)
  entry_is i dir n w name kind c = search (arith, eq-eqb)

  -- the root is in no directory
  root_above : (i : Image) (fit : IsFit i.core) (v : Verifies i) (n : ℕ) (r : Row) → row_at i n ≡ Some r → n ≡ 1 → r.parent ≡ 0
  root_above i fit v n r row one =
      let root = root_is_met i.core plain fit v.sound in
      let f = read_met i.core plain fit v.sound (root_of i.core) root in
      let there : row_at i 1 ≡ Some (row_by (root_of i.core) f.0.body) = row_at_is i.core plain fit v.sound i (tables_of i fit v) 1 ∙ row_met i.core plain fit v.sound (root_of i.core) f.0 root f.1 in
      ap (λ (x : Row). x.parent) (same_Some r (row_by (root_of i.core) f.0.body) (sym row ∙ ap (row_at i) one ∙ there))

  live_above : (n : ℕ) (r : Row) → row_at s.home n ≡ Some r → n ≡ 0 → ⊥
  live_above n r row z =
      let m = met_at image k.fit k.verifies n r row in
      let q = (met_numbered image.core plain k.fit k.verifies.sound m.met m.stands).0 in
      let d = m.number in omega (arith, q, d, z)

  -- an entry of a file that stays is one before and after
  listed_both : (dir : ℕ) (r r' : Row) (st : Stays dir r r') (n : ℕ) (l : Listed) → In l st.file.entries → l.entry.ino ≡ n → entry_in dir (node_by after n (writer_of s' n) (row_at after n)) ≡ entry_in dir (node_by image n (writer_of s n) (row_at s.home n))
  listed_both dir r r' st n l i number =
      let C : Image → ℕ → ℕ → Type 0 = λ im d j. Child im d j l.entry.name l.entry.kind in
      let old0 : C image st.met.ino l.entry.ino = child_of image k.fit k.verifies st.met st.file l st.stood st.read i in
      let old : C image dir n = subst (λ d. C image d n) st.number (subst (λ j. C image st.met.ino j) number old0) in
      let new0 : C after st.met'.ino l.entry.ino = child_of after fit' verifies' st.met' (record st.file { entries = map (picked_entry picks st.met'.ino) st.file.entries }) (picked_entry picks st.met'.ino l) st.stands' st.read' (In-map (picked_entry picks st.met'.ino) l st.file.entries i) in
      let new : C after dir n = subst (λ d. C after d n) st.number' (subst (λ j. C after st.met'.ino j) number new0) in
      entry_is after dir n (writer_of s' n) l.entry.name l.entry.kind new ∙ sym (entry_is image dir n (writer_of s n) l.entry.name l.entry.kind old)

  not_root : (i : Image) (fit : IsFit i.core) (v : Verifies i) (dir : ℕ) (r : Row) → row_at s.home dir ≡ Some r → (n : ℕ) (q : Row) → row_at i n ≡ Some q → q.parent ≡ dir → n ≡ 1 → ⊥
  not_root i fit v dir r row n q at parent one = live_above dir r row (sym parent ∙ root_above i fit v n q at one)

  there : (dir : ℕ) (r r' : Row) (st : Stays dir r r') (n : ℕ) (q : Row) → row_at s.home n ≡ Some q → q.parent ≡ dir → entry_in dir (node_by after n (writer_of s' n) (row_at after n)) ≡ entry_in dir (node_by image n (writer_of s n) (row_at s.home n))
  there dir r r' st n q row parent =
      let l = listing image k.fit k.verifies n q row (not_root image k.fit k.verifies dir r st.row n q row parent) in
      let same : l.parent ≡ st.met = one_met image.core plain k.fit k.verifies.sound l.parent st.met l.met st.stood (sym l.above ∙ parent ∙ sym st.number) in
      let file : l.file ≡ st.file = Ok-one (file_of image.core st.met) l.file st.file (ap (file_of image.core) (sym same) ∙ l.read) st.read in
      listed_both dir r r' st n l.entry (subst (λ (f : FileRead). In l.entry f.entries) file l.listed) l.number

  back : (dir : ℕ) (r r' : Row) (st : Stays dir r r') (n : ℕ) (q : Row) → row_at after n ≡ Some q → q.parent ≡ dir → entry_in dir (node_by after n (writer_of s' n) (row_at after n)) ≡ entry_in dir (node_by image n (writer_of s n) (row_at s.home n))
  back dir r r' st n q row parent =
      let l = listing after fit' verifies' n q row (not_root after fit' verifies' dir r st.row n q row parent) in
      let same : l.parent ≡ st.met' = one_met after.core plain fit' verifies'.sound l.parent st.met' l.met st.stands' (sym l.above ∙ parent ∙ sym st.number') in
      let file : l.file ≡ record st.file { entries = map (picked_entry picks st.met'.ino) st.file.entries } = Ok-one (file_of after.core st.met') l.file (record st.file { entries = map (picked_entry picks st.met'.ino) st.file.entries }) (ap (file_of after.core) (sym same) ∙ l.read) st.read' in
      let m = map-In (picked_entry picks st.met'.ino) l.entry st.file.entries (subst (λ (f : FileRead). In l.entry f.entries) file l.listed) in
      listed_both dir r r' st n m.0 m.1 (sym (ap (λ (x : Listed). x.entry.ino) m.2) ∙ l.number)

  none_in : (dir n : ℕ) (i : Image) (w : Option OpenGrant) (o : Option Row) → ((q : Row) → o ≡ Some q → q.parent ≡ dir → ⊥) → entry_in dir (node_by i n w o) ≡ None
  none_in dir n i w None h = refl
  none_in dir n i w (Some q) h = ap (λ t. cond t (Some (name_of i n q, q.kind)) None) (ne_eqb q.parent dir (h q refl))

  in_dir : (dir : ℕ) (o : Option Row) → ((q : Row) × (o ≡ Some q) × (q.parent ≡ dir)) ⊎ ((q : Row) → o ≡ Some q → q.parent ≡ dir → ⊥)
  in_dir dir None = inr (λ q e p. absurd cc)
  in_dir dir (Some q) =
      elim (cases_eq q.parent dir) [
        | inl same ↦ inl (q, refl, same)
        | inr differ ↦ inr (λ x f p. differ (ap (λ (y : Row). y.parent) (same_Some q x f) ∙ p))
      ]

  -- each entry of a file that stays is one after it, and the other way round
  entries_stay : (dir : ℕ) (r r' : Row) → Stays dir r r' → (n : ℕ) → entry_in dir (node_at (nodes_of s') n) ≡ entry_in dir (node_at (nodes_of s) n)
  entries_stay dir r r' st n =
      ap (entry_in dir) (is n)
      ∙ elim (in_dir dir (row_at s.home n)) [
        | inl q ↦ there dir r r' st n q.0 q.1 q.2
        | inr none ↦
            elim (in_dir dir (row_at after n)) [
              | inl q ↦ back dir r r' st n q.0 q.1 q.2
              | inr none' ↦ none_in dir n after (writer_of s' n) (row_at after n) none' ∙ sym (none_in dir n image (writer_of s n) (row_at s.home n) none)
            ]
      ]
      ∙ sym (ap (entry_in dir) (was n))

  stays_kind : (n : ℕ) (r r' : Row) (st : Stays n r r') → bytes_of after n r' (writer_of s' n) r'.kind ≡ bytes_of image n r (writer_of s n) r.kind
  stays_kind n r r' st = ap (bytes_of after n r' (writer_of s' n)) st.kind ∙ by (is_directory r.kind) refl
    where
      by : (d : Bool) → is_directory r.kind ≡ d → cond d [] (data_of after n r' (writer_of s' n)) ≡ cond d [] (data_of image n r (writer_of s n))
      by true d = refl
      by false d = kept_bytes s s' k k' whole lib h given accepted e marked n r r' st.row st.row' st.follows st.unwritten d

  was_row : (n : ℕ) (r r' : Row) → Stays n r r' → node_at (nodes_of s) n ≡ Some (node_of image n (writer_of s n) r)
  was_row n r r' st = was n ∙ ap (node_by image n (writer_of s n)) st.row

  is_row : (n : ℕ) (r r' : Row) → Stays n r r' → node_at (nodes_of s') n ≡ Some (node_of after n (writer_of s' n) r')
  is_row n r r' st = is n ∙ ap (node_by after n (writer_of s' n)) st.row'

  content_stays : (n : ℕ) (r r' : Row) → Stays n r r' → SameContent (nodes_of s) (nodes_of s') n
  content_stays n r r' st = record {
    guard =
        ap is_guarded (is_row n r r' st)
        ∙ guard_follows image after k.fit fit' k.verifies verifies' n r r' st.row st.row' st.follows
        ∙ sym (ap is_guarded (was_row n r r' st));
    bytes = ap bytes_in (is_row n r r' st) ∙ stays_kind n r r' st ∙ sym (ap bytes_in (was_row n r r' st));
    entries = entries_stay n r r' st;
  }

  -- ---- live nodes

  now_is : (n : ℕ) (o : Option Row) → row_at after n ≡ o → node_at (nodes_of s') n ≡ node_by after n (writer_of s' n) o
  now_is n o row = is n ∙ ap (node_by after n (writer_of s' n)) row

  unheld_row : (n : ℕ) (r : Row) → row_at s.home n ≡ Some r → is_among n b.holds ≡ false → row_at after n ≡ Some r
  unheld_row n r row un = unheld_now s k lib (creds_of s lib) b given accepted n r row un

  -- the rights of one that is met after it
  rights_of : (n : ℕ) (r r' : Row) → row_at s.home n ≡ Some r → row_at after n ≡ Some r' → (t : Bool) → is_among n b.holds ≡ t → (r'.kind ≡ r.kind) × (r'.mode ≡ r.mode) × (r'.uid ≡ r.uid) × (r'.gid ≡ r.gid)
  rights_of n r r' row row' false un =
      let same : r ≡ r' = same_Some r r' (sym (unheld_row n r row un) ∙ row') in
      (ap (λ (x : Row). x.kind) (sym same), ap (λ (x : Row). x.mode) (sym same), ap (λ (x : Row). x.uid) (sym same), ap (λ (x : Row). x.gid) (sym same))
  rights_of n r r' row row' true held =
      held_rights s k lib (creds_of s lib) b given accepted n r r' (is_among-In n b.holds held) row
      (sym (row_at_is proposed_core picks (fitP s k lib (creds_of s lib) b given accepted) (soundP s k lib (creds_of s lib) b given accepted) after (record { rows = refl; owners = refl }) n) ∙ row')

  -- ---- grants that stand

  grant_stands : (n : ℕ) (g : OpenGrant) (t : GrantKind) → In g s.open_grants → g.lib ≡ lib → g.ino ≡ n → g.kind ≡ t → same_kind t t ≡ true → stands gs lib n t ≡ true
  grant_stands n g t i l ino kind refl_kind = search (arith, list_any-map, In-list_any, and_from, eq-eqb)

  written_stands : (n : ℕ) → is_written b n ≡ true → stands gs lib n Write ≡ true
  written_stands n wr =
      let w = some_of (find (λ (w : Written). eqb w.ino n) b.writes) wr in
      let f = find-In (λ (w : Written). eqb w.ino n) b.writes w.0 w.1 in
      let l = given.writes w.0 f.0 in
      grant_stands n l.grant Write l.is_open l.lib (l.ino ∙ eqb-true w.0.ino n f.1) l.kind refl

  held_stands : (n : ℕ) → is_among n b.holds ≡ true → stands gs lib n Hold ≡ true
  held_stands n held = (let l = given.holds n (is_among-In n b.holds held) in grant_stands n l.grant Hold l.is_open l.lib l.ino l.kind refl)

  -- a held file's directory is written by its library
  held_above : (n : ℕ) (r : Row) → row_at s.home n ≡ Some r → is_among n b.holds ≡ true → stands gs lib r.parent Write ≡ true
  held_above n r row held =
      let l = given.holds n (is_among-In n b.holds held) in
      let p = (k.held l.grant l.is_open l.kind) in
      let a : has_parent_grant s lib (Some r) ≡ true = ap (has_parent_grant s lib) (sym row) ∙ ap (λ j. has_parent_grant s lib (row_at s.home j)) (sym l.ino) ∙ ap (λ j. has_parent_grant s j (row_at s.home l.grant.ino)) (sym l.lib) ∙ p in
      list_any-map standing_of (λ (g : Standing). eqb g.lib lib && eqb g.ino r.parent && same_kind g.kind Write) s.open_grants
      ∙ any_same (λ (g : OpenGrant). eqb g.lib lib && eqb g.ino r.parent && same_kind g.kind Write) (λ (g : OpenGrant). eqb g.lib lib && eqb g.ino r.parent && is_write g.kind) s.open_grants
      (λ g i. ap (λ x. eqb g.lib lib && eqb g.ino r.parent && x) (write_same g.kind))
      ∙ a
    where
      write_same : (t : GrantKind) → same_kind t Write ≡ is_write t
      write_same t = search arith

  others_out : (n : ℕ) → is_others gs lib n ≡ true → (is_written b n ≡ false) × (is_among n b.holds ≡ false)
  others_out n t = (
    false_from_ne_true (is_written b n) (λ wr. mine (or_left (is_written b n) (is_among n b.holds) wr)),
    false_from_ne_true (is_among n b.holds) (λ held. mine (or_right (is_written b n) (is_among n b.holds) held)),
  )
    where
      mine : is_in b n ≡ true → ⊥
      mine wr =
          let a = list_any-In (λ (g : OpenGrant). not (eqb g.lib lib) && eqb g.ino n) s.open_grants (sym (list_any-map standing_of (λ (g : Standing). not (eqb g.lib lib) && eqb g.ino n) s.open_grants) ∙ t) in
          let p = and_parts (not (eqb a.0.lib lib)) (eqb a.0.ino n) a.2 in
          let g = given_grant s k lib b given n wr in
          let one : g.0 ≡ a.0 = alone s.open_grants g.0 a.0 k.apart g.1 a.1 g.4 (g.3 ∙ sym (eqb-true a.0.ino n p.1)) in
          let own : eqb a.0.lib lib ≡ true = eq-eqb a.0.lib lib (sym (ap (λ (x : OpenGrant). x.lib) one) ∙ g.2) in
          both_ways (eqb a.0.lib lib) (not-true (eqb a.0.lib lib) p.0) own

  -- ---- what the release may do

  content_by : (n : ℕ) (x : Node) → node_at (nodes_of s) n ≡ Some x → (t : Bool) → is_written b n ≡ t → (stands gs lib n Write ≡ true) ⊎ ((node_at (nodes_of s') n ≡ None) ⊎ SameContent (nodes_of s) (nodes_of s') n)
  content_by n x there true wr = inl (written_stands n wr)
  content_by n x there false un = inr (by (row_at after n) refl)
    where
      by : (o : Option Row) → row_at after n ≡ o → (node_at (nodes_of s') n ≡ None) ⊎ SameContent (nodes_of s) (nodes_of s') n
      by None row' = inl (now_is n None row')
      by (Some r') row' = (let l = live s k n x there in inr (content_stays n l.row r' (stays_at n l.row r' l.at row' un)))

  has_rights : (n : ℕ) (x : Node) (l : Live s n x) (r' : Row) → row_at after n ≡ Some r' → HasRightsOf x (node_at (nodes_of s') n)
  has_rights n x l r' row' =
      let H : Node → Option Node → Type 0 = λ y o. HasRightsOf y o in
      let r = rights_of n l.row r' l.at row' (is_among n b.holds) refl in
      subst (λ o. H x o) (sym (now_is n (Some r') row')) (subst (λ y. H y (Some (node_of after n (writer_of s' n) r'))) (sym l.before) r)

  place_by : (n : ℕ) (x : Node) → node_at (nodes_of s) n ≡ Some x → is_among n b.holds ≡ false → HasPlaceOf x (node_at (nodes_of s') n)
  place_by n x there un =
      let l = live s k n x there in
      let H : Node → Option Node → Type 0 = λ y o. HasPlaceOf y o in
      subst (λ o. H x o) (sym (now_is n (Some l.row) (unheld_row n l.row l.at un))) (subst (λ y. H y (Some (node_of after n (writer_of s' n) l.row))) (sym l.before) refl)

  -- a file whose directory isn't written keeps its name
  name_stays : (n : ℕ) (r : Row) → row_at s.home n ≡ Some r → row_at after n ≡ Some r → is_written b r.parent ≡ false → name_of after n r ≡ name_of image n r
  name_stays n r row row' un =
      elim (cases_eq n 1) [
        | inl one ↦ name_root after n r one ∙ sym (name_root image n r one)
        | inr other ↦
            let l = listing image k.fit k.verifies n r row other in
            let l' = listing after fit' verifies' n r row' other in
            let g = read_met image.core plain k.fit k.verifies.sound l.parent l.met in
            let above : row_at s.home r.parent ≡ Some (row_by l.parent g.0.body) = ap (row_at image) l.above ∙ row_at_is image.core plain k.fit k.verifies.sound image (tables_of image k.fit k.verifies) l.parent.ino ∙ row_met image.core plain k.fit k.verifies.sound l.parent g.0 l.met g.1 in
            let g' = read_met after.core plain fit' verifies'.sound l'.parent l'.met in
            let above' : row_at after r.parent ≡ Some (row_by l'.parent g'.0.body) = ap (row_at after) l'.above ∙ row_at_is after.core plain fit' verifies'.sound after (tables_of after fit' verifies') l'.parent.ino ∙ row_met after.core plain fit' verifies'.sound l'.parent g'.0 l'.met g'.1 in
            let st = stays_at r.parent (row_by l.parent g.0.body) (row_by l'.parent g'.0.body) above above' un in
            let same = entries_stay r.parent (row_by l.parent g.0.body) (row_by l'.parent g'.0.body) st n in
            let one = ap (entry_in r.parent) (now_is n (Some r) row') in
            let two = ap (entry_in r.parent) (was n ∙ ap (node_by image n (writer_of s n)) row) in
            let here : eqb r.parent r.parent ≡ true = eq-eqb r.parent r.parent refl in
            let three : entry_in r.parent (Some (node_of after n (writer_of s' n) r)) ≡ Some (name_of after n r, r.kind) = ap (λ t. cond t (Some (name_of after n r, r.kind)) None) here in
            let four : entry_in r.parent (Some (node_of image n (writer_of s n) r)) ≡ Some (name_of image n r, r.kind) = ap (λ t. cond t (Some (name_of image n r, r.kind)) None) here in
            let both : Some (name_of after n r, r.kind) ≡ Some (name_of image n r, r.kind) = sym three ∙ sym one ∙ same ∙ two ∙ four in
            ap (λ (p : List ℕ × Kind). p.0) (same_Some (name_of after n r, r.kind) (name_of image n r, r.kind) both)
      ]

  name_by_cases : (n : ℕ) (x : Node) → node_at (nodes_of s) n ≡ Some x → (t u : Bool) → is_among n b.holds ≡ t → (l : Live s n x) → is_written b l.row.parent ≡ u → (stands gs lib x.parent Write ≡ true) ⊎ HasNameOf x (node_at (nodes_of s') n)
  name_by_cases n x there true u held l wr = inl (ap (λ (y : Node). stands gs lib y.parent Write) l.before ∙ held_above n l.row l.at held)
  name_by_cases n x there false true held l wr = inl (ap (λ (y : Node). stands gs lib y.parent Write) l.before ∙ written_stands l.row.parent wr)
  name_by_cases n x there false false un l wr =
      let H : Node → Option Node → Type 0 = λ y o. HasNameOf y o in
      let row' = unheld_row n l.row l.at un in
      inr (subst (λ o. H x o) (sym (now_is n (Some l.row) row')) (subst (λ y. H y (Some (node_of after n (writer_of s' n) l.row))) (sym l.before) (refl, name_stays n l.row l.at row' wr)))

  new_owner : (n : ℕ) (r : Row) (row : row_at after n ≡ Some r) → row_at s.home n ≡ None → FileIs s k lib (creds_of s lib) b given accepted (at_now n r row).met → (r.uid ≡ (creds_of s lib).uid) × (r.gid ≡ (creds_of s lib).gid)
  new_owner n r row dead (Stayed q row_q kind body un) = (let wrong : None ≡ Some q = sym dead ∙ ap (row_at image) (sym (at_now n r row).number) ∙ row_q in absurd (cc wrong))
  new_owner n r row dead (Wrote wr unheld own) =
      absurd (both_ways (is_written b n) (dead_unwritten s s' k k' whole lib h given accepted e marked n dead) (ap (is_written b) (sym (at_now n r row).number) ∙ wr))
  new_owner n r row dead (New none owner own) =
      let at : row_of proposed_core (survey proposed_core picks) n ≡ Some r = sym (row_at_is proposed_core picks (fitP s k lib (creds_of s lib) b given accepted) (soundP s k lib (creds_of s lib) b given accepted) after (record { rows = refl; owners = refl }) n) ∙ row in
      let has : has_owner (creds_of s lib) (Some r) ≡ true = ap (has_owner (creds_of s lib)) (sym at) ∙ ap (λ j. has_owner (creds_of s lib) (row_of proposed_core (survey proposed_core picks) j)) (sym (at_now n r row).number) ∙ owner in
      let p = and_parts (eqb r.uid (creds_of s lib).uid) (eqb r.gid (creds_of s lib).gid) has in
      (eqb-true r.uid (creds_of s lib).uid p.0, eqb-true r.gid (creds_of s lib).gid p.1)

  -- what is neither written nor held keeps its rights and its content
  pub outside_same : (n : ℕ) (x : Node) → node_at (nodes_of s) n ≡ Some x → is_written b n ≡ false → is_among n b.holds ≡ false → HasRightsOf x (node_at (nodes_of s') n) × SameContent (nodes_of s) (nodes_of s') n
  outside_same n x there unwritten unheld =
      let l = live s k n x there in
      let row' = unheld_row n l.row l.at unheld in
      (has_rights n x l l.row row', content_stays n l.row l.row (stays_at n l.row l.row l.at row' unwritten))

  pub within : IsWithinGrants gs (creds_of s lib) lib (nodes_of s) (nodes_of s')
  within = record {
    content = λ n x there. content_by n x there (is_written b n) refl;
    name = λ n x there. name_by_cases n x there (is_among n b.holds) (is_written b (live s k n x there).row.parent) refl (live s k n x there) refl;
    place = λ n x there. place_cases n x there (is_among n b.holds) refl;
    rights = λ n x y there there'. rights_cases n x y there there' (row_at after n) refl;
    others = λ n x there t.
        let o = others_out n t in
        let same = outside_same n x there o.0 o.1 in
        (same.0, place_by n x there o.1, same.1);
    new = λ n y none there'. new_cases n y none there' (row_at s.home n) (row_at after n) refl refl;
  }
    where
      place_cases : (n : ℕ) (x : Node) → node_at (nodes_of s) n ≡ Some x → (t : Bool) → is_among n b.holds ≡ t → (stands gs lib n Hold ≡ true) ⊎ HasPlaceOf x (node_at (nodes_of s') n)
      place_cases n x there true held = inl (held_stands n held)
      place_cases n x there false un = inr (place_by n x there un)

      rights_cases : (n : ℕ) (x y : Node) → node_at (nodes_of s) n ≡ Some x → node_at (nodes_of s') n ≡ Some y → (o : Option Row) → row_at after n ≡ o → HasRightsOf x (Some y)
      rights_cases n x y there there' None row = (let wrong : None ≡ Some y = sym (now_is n None row) ∙ there' in absurd (cc wrong))
      rights_cases n x y there there' (Some r') row = (let H : Option Node → Type 0 = λ o. HasRightsOf x o in subst H there' (has_rights n x (live s k n x there) r' row))

      new_cases : (n : ℕ) (y : Node) → node_at (nodes_of s) n ≡ None → node_at (nodes_of s') n ≡ Some y → (o o' : Option Row) → row_at s.home n ≡ o → row_at after n ≡ o' → (y.uid ≡ (creds_of s lib).uid) × (y.gid ≡ (creds_of s lib).gid)
      new_cases n y none there' (Some r) o' row row' = (let wrong : Some (node_of image n (writer_of s n) r) ≡ None = sym (was n ∙ ap (node_by image n (writer_of s n)) row) ∙ none in absurd (cc wrong))
      new_cases n y none there' None None row row' = (let wrong : None ≡ Some y = sym (now_is n None row') ∙ there' in absurd (cc wrong))
      new_cases n y none there' None (Some r') row row' =
          let same : node_of after n (writer_of s' n) r' ≡ y = same_Some (node_of after n (writer_of s' n) r') y (sym (now_is n (Some r') row') ∙ there') in
          let o = new_owner n r' row' row (file_is s k lib (creds_of s lib) b given accepted (at_now n r' row').met (at_now n r' row').stands) in
          (ap (λ (z : Node). z.uid) (sym same) ∙ o.0, ap (λ (z : Node). z.gid) (sym same) ∙ o.1)

  -- ---- the listed blocks

  abbrev these : List RawFile
  these = raw_files image after b

  abbrev blocks : List ToldBlock
  blocks = raw_blocks IsAccepted image after h these

  told_step : (t : Bool) (x y : ToldBlock) (rest : List ToldBlock) → In y rest → In y (cond t (x ∷ rest) rest)
  told_step true x y rest i = inr i
  told_step false x y rest i = i

  -- a block that is told stands in the list
  told_has : (n at : ℕ) (pages : List ℕ) (i page : ℕ) → slice_get pages i ≡ Some page → is_block_told image after h n (at + i) page ≡ true → (x : ToldBlock) × In x (told_blocks image after h n at pages) × (x.ino ≡ n) × (x.at ≡ at + i)
  told_has n at [] i page get t = absurd cc
  told_has n at (p ∷ ps) zero page get t =
      let same : p ≡ page = same_Some p page get in
      let e : at + 0 ≡ at = omega arith in
      let x : ToldBlock = record { ino = n; at = at; bytes = unwrap_or (page_of after.core p) [] } in
      let told : is_block_told image after h n at p ≡ true = ap (is_block_told image after h n at) same ∙ ap (λ m. is_block_told image after h n m page) (sym e) ∙ t in
      (x, subst (λ l. In x l) (sym (ap (λ q. cond q (x ∷ told_blocks image after h n (at + 1) ps) (told_blocks image after h n (at + 1) ps)) told)) (inl refl), refl, sym e)
  told_has n at (p ∷ ps) (suc i) page get t =
      let e : at + suc i ≡ (at + 1) + i = omega arith in
      let r = told_has n (at + 1) ps i page get (ap (λ m. is_block_told image after h n m page) (sym e) ∙ t) in
      (r.0, told_step (is_block_told image after h n at p) (record { ino = n; at = at; bytes = unwrap_or (page_of after.core p) [] }) r.0 (told_blocks image after h n (at + 1) ps) r.1, r.2, r.3 ∙ sym e)

  old_size : (n : ℕ) (q : Row) → row_at s.home n ≡ Some q → is_directory q.kind ≡ false → length (bytes_in (node_at (nodes_of s) n)) ≡ size_of image n
  old_size n q row plain' =
      ap (λ o. length (bytes_in o)) (was n ∙ ap (node_by image n (writer_of s n)) row)
      ∙ ap (λ d. length (cond d [] (data_of image n q (writer_of s n)))) plain'
      ∙ old_long s k whole n q row

  -- a position within the size has its block
  has_block : (n : ℕ) (r : Row) (row : row_at after n ≡ Some r) (at : ℕ) → 4096 * at < size_of after n → (page : ℕ) × (slice_get (block_numbers after n (row_at after n)) at ≡ Some page)
  has_block n r row at inside =
      let w = at_now n r row in
      let size = size_now s s' k k' whole lib h given accepted e marked n r row in
      let numbers = numbers_now s s' k k' whole lib h given accepted e marked n r row in
      let c = (chain_count proposed_core w.file.body w.file.chain (reads_from proposed_core w.met w.file w.read).chain).0 in
      let g = get_there w.file.chain.blocks at (omega (arith, c, inside, size)) in
      (g.0, ap (λ l. slice_get l at) numbers ∙ g.1)
    where
      get_there : (xs : List ℕ) (i : ℕ) → i < length xs → (x : ℕ) × (slice_get xs i ≡ Some x)
      get_there [] i l = absurd (omega arith)
      get_there (x ∷ xs) zero l = (x, refl)
      get_there (x ∷ xs) (suc i) l = get_there xs i (omega arith)

  listed_in : (n : ℕ) (f : RawFile) → In f these → f.ino ≡ n → is_directory f.kind ≡ false → f.gone ≡ false → (at page : ℕ) → slice_get (block_numbers after n (row_at after n)) at ≡ Some page → is_block_told image after h n at page ≡ true → is_listed blocks f.ino at ≡ true
  listed_in n f i number plain' there at page get t =
      let zero_i : 0 + at ≡ at = omega arith in
      let x = told_has n 0 (block_numbers after n (row_at after n)) at page get (ap (λ m. is_block_told image after h n m page) zero_i ∙ t) in
      let own : told_blocks_of image after h f (not (is_directory f.kind)) ≡ told_blocks image after h n 0 (block_numbers after n (row_at after n)) =
      ap (λ d. told_blocks_of image after h f (not d)) plain'
      ∙ ap (λ g. cond g [] (told_blocks image after h f.ino 0 (block_numbers after f.ino (row_at after f.ino)))) there
      ∙ ap (λ m. told_blocks image after h m 0 (block_numbers after m (row_at after m))) number in
      let mine : In x.0 blocks = In-flat (λ f. told_blocks_of image after h f (not (is_directory f.kind))) f x.0 these i (subst (λ l. In x.0 l) (sym own) x.1) in
      In-list_any (λ (y : ToldBlock). eqb y.ino f.ino && eqb y.at at) x.0 blocks mine
      (and_from (eqb x.0.ino f.ino) (eqb x.0.at at) (eq-eqb x.0.ino f.ino (x.2 ∙ sym number)) (eq-eqb x.0.at at (x.3 ∙ zero_i)))

  abbrev Known : RawFile → Type 0
  Known f = BlocksAreKnown blocks f (node_at (nodes_of s) f.ino)

  -- a file that is there after the release
  known_there : (n : ℕ) (r : Row) (f : RawFile) → row_at after n ≡ Some r → told_file after b n false r ≡ f → In f these → Known f
  known_there n r f row same i at plain' inside =
      let number : f.ino ≡ n = sym (ap (λ (x : RawFile). x.ino) same) in
      let size : f.size ≡ size_of after n = sym (ap (λ (x : RawFile). x.size) same) in
      let there : f.gone ≡ false = sym (ap (λ (x : RawFile). x.gone) same) in
      let kind : is_directory r.kind ≡ false = ap (λ (x : RawFile). is_directory x.kind) same ∙ plain' in
      let p = has_block n r row at (omega (arith, inside, size)) in
      by number size there kind p.0 p.1 (is_block_told image after h n at p.0) refl
    where
      by : f.ino ≡ n → f.size ≡ size_of after n → f.gone ≡ false → is_directory r.kind ≡ false → (page : ℕ) → slice_get (block_numbers after n (row_at after n)) at ≡ Some page → (t : Bool) → is_block_told image after h n at page ≡ t → (is_listed blocks f.ino at ≡ true) ⊎ (min f.size (4096 * at + 4096) ≤ length (bytes_in (node_at (nodes_of s) f.ino)))
      by number size there kind page get true t = inl (listed_in n f i number plain' there at page get t)
      by number size there kind page get false t =
          let u = unlisted_is image after h n at page t in
          inr (old (row_at s.home n) refl u.same u.counted)
        where
          old : (o : Option Row) → row_at s.home n ≡ o → slice_get (block_numbers image n (row_at image n)) at ≡ Some page → min (size_of after n) (4096 * at + 4096) ≤ size_of image n → min f.size (4096 * at + 4096) ≤ length (bytes_in (node_at (nodes_of s) f.ino))
          old o h found counted = search (arith, live, rights_of, old_size)

  -- one that is gone
  known_gone : (n : ℕ) (q : Row) (f : RawFile) → row_at s.home n ≡ Some q → told_file image b n true q ≡ f → Known f
  known_gone n q f row same at plain' inside = search (arith, old_size)

  known_by : (n : ℕ) (f : RawFile) (t : Bool) (o o' : Option Row) → row_at s.home n ≡ o → row_at after n ≡ o' → cond t (told_by image after b n o o') None ≡ Some f → In f these → Known f
  known_by n f t o o' row row' q i = search (arith, known_there, same_Some, known_gone)

  known_at : (f : RawFile) → In f these → Known f
  known_at f i = search (arith, files_from, known_by)

  all_files : (P : RawFile → Type 0) (xs : List RawFile) → ((f : RawFile) → In f xs → P f) → AllByRecursion P xs
  all_files P [] h = tt
  all_files P (x ∷ xs) h = (h x (inl refl), all_files P xs (λ f i. h f (inr i)))

  given_are : (n : ℕ) → is_given these n ≡ is_handed h n
  given_are n = given_is s k lib b given after n ∙ sym (handed_is h n)

  is_raw : (n : ℕ) → node_at (raw_nodes blocks these (nodes_of s)) n ≡ node_by after n (writer_of s' n) (row_at after n)
  is_raw n = ap (λ (ns : Nodes). node_at ns n) (sym (accepted_nodes s s' k k' whole lib h given accepted e marked)) ∙ is n

  pub accepted_makes : Makes s (Release lib b) Accepted s' (raw_entry image lib h IsAccepted after)
  accepted_makes = record {
    legal = record {
      told = tells_these image after h (nodes_of s) blocks (writer_of s) (writer_of s') was is_raw given_are;
      given = given_are;
      within = subst (λ (ns : Nodes). IsWithinGrants gs (creds_of s lib) lib (nodes_of s) ns) (accepted_nodes s s' k k' whole lib h given accepted e marked) within;
      judged = tt;
      known = all_files Known these known_at;
    };
    comes = past_is s' (raw_nodes blocks these (nodes_of s)) (filter (λ (g : Standing). not (eqb g.lib lib && is_given these g.ino)) gs) (s.entries + 1) (accepted_nodes s s' k k' whole lib h given accepted e marked) (grants_end s k lib b given after s' e.grants) e.entries;
    tells = refl;
    says = refl;
  }
