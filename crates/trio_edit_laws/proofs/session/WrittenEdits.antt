-- A written file that is no directory is edited: of the nodes that are shown it alone has other bytes and another guard. It is a judged file, and this is an edit of one.
use Rattle.trio_edit_laws.proofs.Words.{◌∙◌, ◌≡◌, Becomes, Body, Bundle, Case, DeskSeen, FileRead, Held, In, In-map, InHand, IsInOrder, IsJudgedEdit, LentFile, List, MayShow, Met, Nodes, None, Ok, Option, Regular, Row, Shows, Written, [], ap, bare, bare_at, bare_file, body-number, body_at, body_stands, bundle_core, bundle_of, bytes_listed, case_in_hand, case_with, content_of, core_in_hand, file_within, files_in_hand, held_by, inl, judged_files, judged_reads, map, map-each, map-map, pages_in, read_in_hand, refl, plain_entries, row_in, start_judged, start_to, subst, sym, with_content, within_from, written_at, written_in, written_met, ℕ, cond, is_directory, false}
use Rattle.trio_laws.specs.session.FileEdits.{with_body}
use Rattle.trio_edit_laws.specs.session.FileEdits.{FileEditShows, IsFileEdit, with_data}
use Rattle.trio_edit_laws.specs.session.Listed.{ListedAfterEdit}
use Rattle.trio_edit_laws.proofs.session.EditedOrder.{order_stays, possible_before}
use Rattle.trio_edit_laws.proofs.session.JudgedEdits.{judged_edit_shows, listed_after_judged_edit}
use Rattle.trio_laws.proofs.session.Stands.{written_alike}

module _ (desk : DeskSeen) (h h' : InHand) (f : LentFile) (body : List ℕ) (file : FileRead) (u : IsFileEdit desk h h' f body file) where
  abbrev b : Bundle
  b = bundle_of h.parcel

  abbrev lent : List Held
  lent = map held_by h.parcel.holds

  abbrev mine : Written
  mine = written_in f.stands

  -- the file, as it is judged
  abbrev pub met : Met
  met = written_at (bare_file f.stands) None

  mine_in : In mine b.writes
  mine_in = In-map (λ (x : LentFile). written_in x.stands) f h.parcel.writes u.written

  judged : (rows : List (Option Row)) → In (written_at mine (row_in rows f.stands.ino)) (judged_files (case_with desk.sizes desk.creds rows b lent))
  judged rows =
      let c : Case = case_with desk.sizes desk.creds rows b lent in
      start_judged c (written_met c mine) (start_to c mine mine_in)

  -- it read, as it stood
  pub read_before : (nodes nodes' : Nodes) (rows : List (Option Row)) → Shows (case_in_hand desk rows h) nodes nodes' → (before : FileRead) × (read_in_hand desk h (bare_file f.stands) ≡ Ok before)
  read_before nodes nodes' rows s =
      let r = judged_reads desk.sizes desk.creds rows b b lent lent nodes nodes' s (written_at mine (row_in rows f.stands.ino)) (judged rows) in
      let core = bundle_core (case_with desk.sizes desk.creds rows b lent) in
      (r.0, ap (file_within core) (bare_at mine None) ∙ written_alike core mine None (row_in rows f.stands.ino) ∙ r.1)

  pub judged_edit : (before : FileRead) → read_in_hand desk h (bare_file f.stands) ≡ Ok before → IsJudgedEdit desk h h' (written_at (bare_file f.stands) None) body before file
  judged_edit before read = record {
    judged = judged [];
    reads = read;
    body_now = inl (record { lease = f; written = u.written; number = refl; number_lent = u.number_lent; kind_lent = u.kind_lent; files = u.files });
    pages = u.pages;
    lent = u.lent;
    holds = u.holds;
    inodes = u.inodes;
    back = u.back;
    reads_now = u.reads;
    rights =
        let stands : body_at f.stands.body ≡ before.body = body_stands f.stands.kind desk.sizes.range f.stands.body before.body (within_from (core_in_hand desk h) met before read).body in
        record {
          mode = u.rights.mode ∙ ap (λ (x : Body). x.mode.0) stands;
          uid = u.rights.uid ∙ ap (λ (x : Body). x.uid) stands;
          gid = u.rights.gid ∙ ap (λ (x : Body). x.gid) stands;
        };
    entries = plain_entries (core_in_hand desk h') (record met { body = body }) file u.kind u.reads ∙ sym (plain_entries (core_in_hand desk h) met before u.kind read);
    own = u.own;
    once = u.once;
    apart = u.apart;
    bytes = λ page out then away. u.bytes page (λ i. out (subst (λ r. In page (pages_in r)) read i)) then;
  }

  numbers_same : map (λ (w : Written). w.ino) (bundle_of h'.parcel).writes ≡ map (λ (w : Written). w.ino) b.writes
  numbers_same =
      sym (map-map (λ (w : Written). w.ino) bare (bundle_of h'.parcel).writes)
      ∙ ap (map (λ (w : Written). w.ino)) (map-map bare (λ (x : LentFile). written_in x.stands) h'.parcel.writes ∙ u.files)
      ∙ map-map (λ (w : Written). w.ino) (with_body f.stands.ino body) (files_in_hand h)
      ∙ map-each (λ w. (with_body f.stands.ino body w).ino) (λ (w : Written). w.ino) (files_in_hand h) (λ w i. body-number f.stands.ino body w)
      ∙ sym (ap (map (λ (w : Written). w.ino)) (map-map bare (λ (x : LentFile). written_in x.stands) h.parcel.writes))
      ∙ map-map (λ (w : Written). w.ino) bare b.writes

  module _ (o : IsInOrder desk h) where
    abbrev bytes : List ℕ
    bytes = bytes_listed (core_in_hand desk h') file

    becomes : (nodes nodes' : Nodes) (rows : List (Option Row)) → MayShow desk h h' nodes nodes' rows → Becomes desk h h' (with_data f.stands.ino bytes file.body.guard)
    becomes nodes nodes' rows may =
        let r = read_before nodes nodes' rows may.shows in
        subst (λ t. Becomes desk h h' (λ nodes. cond t nodes (with_data f.stands.ino bytes file.body.guard nodes))) u.kind (judged_edit_shows desk h h' met body r.0 file o (judged_edit r.0 r.1))

    pub file_edit_here : Becomes desk h h' (with_data f.stands.ino (bytes_listed (core_in_hand desk h') file) file.body.guard)
    file_edit_here = record {
      more = possible_before desk h h' u.holds u.inodes u.lent u.back;
      shows = λ nodes nodes' rows may. (becomes nodes nodes' rows may).shows nodes nodes' rows may;
      tree = λ nodes nodes' rows may. (becomes nodes nodes' rows may).tree nodes nodes' rows may;
      order = order_stays desk h h' u.holds u.inodes u.lent u.back numbers_same u.pages o;
    }

pub file_edit_shows : FileEditShows
file_edit_shows desk h h' f body file o u = file_edit_here desk h h' f body file u o

pub listed_after_edit : ListedAfterEdit
listed_after_edit desk h h' f body file nodes nodes' rows page u v i =
    let r = read_before desk h h' f body file u nodes nodes' rows v.shows.shows in
    listed_after_judged_edit desk h h' (written_at (bare_file f.stands) None) body r.0 file nodes nodes' rows page (judged_edit desk h h' f body file u r.0 r.1) v i
