-- An edit of one open file: the nodes that it shows, and that all that a session keeps holds after it.
use Rattle.trio_edit_laws.proofs.Words.{if◌then◌else◌, ◌∙◌, ◌≡◌, ◌≢◌, AreMade, ArePossible, Becomes, Bool, Case, Chain, Core, DeskSeen, Directory, EntriesHaveRights, FileRead, HoldParts, In, In-flat, In-map, In-right, InoParts, IsJudgedEdit, IsUnlent, IsView, Kind, List, Listed, MadeFile, MayEdit, MayShow, Met, Nodes, Ok, Option, Regular, Row, SameRights, SessionSeen, Shown, Some, [], ap, arith, body_at, body_in, body_in_slot, body_of, body_stands, bytes_listed, case_as_stands, cases_eq, chain_in, content_of, core_in_hand, entries_within, eqb, false, file_in, find, flat_map, flat_map-same, hand_files_once, if_other, if_same, in_hand, inl, ino_numbers, inr, is_among, is_among-In, is_some, judged_files, judged_once, listed_with, made_body, made_file, made_met, map, map-In, met_with, one_of, open_kind, page_in, page_of, pages_in, pages_listed, pages_within, refl, plain_entries, same_met, slice_get-In, some_of, subst, sym, take, true, unwrap_or, with_body_in, within_from, within_to, written_with, ℕ, Link, is_directory}
use Rattle.trio_edit_laws.specs.session.JudgedEdits.{HasBodyByLease, HasBodyInSlot, HasBodyNow, file_beside}
use Rattle.trio_edit_laws.proofs.session.JudgedEdits.{judged_after_edit, judged_edit_shows, reads_after_edit}
use Rattle.trio_edit_laws.proofs.session.JudgedReads.{met_with-number}
use Rattle.trio_edit_laws.proofs.Anew.{made_here, made_other, none_anew}
use Rattle.trio_edit_laws.proofs.Blank.{entries_within-blank}
use Rattle.trio_edit_laws.proofs.Hand.{hand_page}
use Rattle.trio_edit_laws.proofs.HandStays.{chains_beside, hands_in_all, in_order, is_on, left_alone, page_then, takes_more, well_given, within_pages}
use Rattle.trio_edit_laws.proofs.Keeps.{IsEdit, WasMade, bodied_files, chains_now, core_stays, files_anew, found_there, hand_now, made_at, made_body_now, made_body_stays, made_once_now, new_held, once_now, own_now, slot_held, slot_whole, slots_now, was_made}
use Rattle.trio_edit_laws.proofs.Opens.{OpenMade, OpenWritten, opened, pages_of_chain}
use Rattle.trio_edit_laws.proofs.Touches.{bare_files}
use Rattle.trio_edit_laws.proofs.Whole.{OpenReads, chain_within-named, judged_reads, open_reads, own_slot, shows_after, view_then}
use Rattle.trio_edit_laws.proofs.session.ListedPages.{listed_are_in_hand}

module _ (desk : DeskSeen) (s s' : SessionSeen) (ino : ℕ) (kind : Kind) (m : MayEdit desk s) (o : open_kind s ino ≡ Some kind) (e : IsEdit desk s s' ino kind) where
  abbrev c : Case
  c = case_as_stands desk (in_hand s)

  abbrev core' : Core
  core' = core_in_hand desk (in_hand s')

  -- the bytes of the blocks then, up to the size
  abbrev pub bytes_then : List ℕ
  bytes_then = take e.read.size (flat_map (page_in s'.parcel) e.chain.blocks)

  module _ (nodes nodes' : Nodes) (rows : List (Option Row)) (v : IsView desk (in_hand s) (in_hand s') nodes nodes' rows) where
    pub r : OpenReads desk s ino kind
    r = open_reads desk s ino kind (in_hand s') nodes nodes' rows m v o

    abbrev pub met : Met
    met = r.is.met

    old_pages : pages_listed r.file ≡ pages_of_chain (chain_in s ino)
    old_pages = ap pages_of_chain r.chain

    -- the body is in its place
    body_there : HasBodyNow desk (in_hand s) (in_hand s') r.is.met e.body
    body_there = elim (opened s ino kind o) [
      | inl w ↦ inl (written w)
      | inr w ↦ inr (made w)
    ]
      where
        written : OpenWritten s ino kind → HasBodyByLease (in_hand s) (in_hand s') r.is.met e.body
        written w =
            let i = slice_get-In s.parcel.writes w.place w.file w.there in
            let given = m.all.given.writes w.file i in
            record {
              lease = w.file;
              written = i;
              number = w.number ∙ sym r.is.number;
              number_lent = given.same.ino;
              kind_lent = given.same.kind;
              files =
                  e.alters.files ∙ ap (λ q. bodied_files q ino e.body (bare_files s.parcel)) w.none ∙ ap (λ n. map (written_with n e.body) (bare_files s.parcel)) (sym r.is.number);
            }

        made : OpenMade s ino kind → HasBodyInSlot desk (in_hand s) (in_hand s') r.is.met e.body
        made w =
            let b = e.slot w.file w.found in
            let p = r.is.place w.file w.found in
            let held = slot_held desk s w.file m w.among in
            record {
              made = subst (λ n. In n (ino_numbers s.parcel.inodes)) (w.number ∙ sym r.is.number) (m.made.numbers w.file w.among);
              files = e.alters.files ∙ ap (λ q. bodied_files q ino e.body (bare_files s.parcel)) w.found;
              sized = b.0;
              page = page_in s.parcel w.file.page;
              whole = slot_whole desk s w.file m w.among;
              before = ap (page_of (core_in_hand desk (in_hand s))) p.0 ∙ hand_page desk s w.file.page m held;
              after =
                  ap (page_of (core_in_hand desk (in_hand s'))) p.0 ∙ page_then desk s s' m (hand_now desk s s' ino kind m o e) w.file.page held ∙ ap Some b.1
                  ∙ ap (λ k. Some (with_body_in k e.body (page_in s.parcel w.file.page))) (sym p.1);
            }

    -- the entries are as they were
    entries_then : (k : Kind) → kind ≡ k → entries_within (core_in_hand desk (in_hand s')) k e.chain.blocks ≡ Ok r.file.entries
    entries_then Regular is =
        ap Ok (sym (plain_entries (core_in_hand desk (in_hand s)) r.is.met r.file (ap is_directory (r.is.kind ∙ is)) r.reads))
    entries_then Link is =
        ap Ok (sym (plain_entries (core_in_hand desk (in_hand s)) r.is.met r.file (ap is_directory (r.is.kind ∙ is)) r.reads))
    entries_then Directory is =
        let g = e.grows is in
        let w = within_from (core_in_hand desk (in_hand s)) r.is.met r.file r.reads in
        let old : List ℕ = (chain_in s ino).blocks in
        ap (entries_within (core_in_hand desk (in_hand s')) Directory) g.are
        ∙ entries_within-blank (core_in_hand desk (in_hand s)) (core_in_hand desk (in_hand s')) (chain_in s ino).blocks g.more refl
        (λ n i. core_stays desk s s' ino kind m o e n (λ t. g.out n t i)
        (λ mf found same. (let f = made_at s ino mf found in own_slot desk s ino kind (in_hand s') nodes nodes' rows mf m v o f.0 f.1 (subst (λ k. In k (chain_in s ino).blocks) same i))))
        (λ n i. page_then desk s s' m (hand_now desk s s' ino kind m o e) n (new_held desk s s' ino kind m o e n (In-right n e.chain.index e.chain.blocks (subst (λ l. In n l) (sym g.are) (In-right n (chain_in s ino).blocks g.more i)))) ∙ ap Some (g.blank n i))
        ∙ ap (λ k. entries_within (core_in_hand desk (in_hand s)) k (chain_in s ino).blocks) (sym (r.is.kind ∙ is))
        ∙ ap (λ (x : Chain). entries_within (core_in_hand desk (in_hand s)) r.is.met.kind x.blocks) (sym r.chain)
        ∙ w.entries

    reads_then : file_in (case_as_stands desk (in_hand s')) (record r.is.met { body = e.body }) ≡ Ok (record { body = e.read; chain = e.chain; entries = r.file.entries })
    reads_then =
        within_to (core_in_hand desk (in_hand s')) (record r.is.met { body = e.body }) (record { body = e.read; chain = e.chain; entries = r.file.entries }) (record {
          body = ap (λ k. body_of k desk.sizes.range e.body) r.is.kind ∙ e.is;
          chain = chain_within-named (core_in_hand desk (in_hand s')) e.chain.index e.chain.blocks e.read e.named e.count e.head;
          entries = ap (λ k. entries_within (core_in_hand desk (in_hand s')) k e.chain.blocks) r.is.kind ∙ entries_then kind refl;
        })

    apart_then : (x : Met) (page : ℕ) → In x (judged_files (case_as_stands desk (in_hand s))) → x.ino ≢ r.is.met.ino → In page (pages_within (case_as_stands desk (in_hand s)) x) → In page (pages_of_chain e.chain) → ⊥
    apart_then x page i d j k =
        elim (e.from page k) [
          | inr free ↦ free.unlisted nodes rows (v.more nodes rows v.shows.possible) (In-flat (pages_within c) x page (judged_files c) i j)
          | inl old ↦
              let here : In page (pages_within c r.is.met) = subst (λ q. In page (pages_in q)) (sym r.reads) (subst (λ l. In page l) (sym old_pages) old) in
              let same : x ≡ r.is.met = one_of (pages_within c) (judged_files c) x r.is.met page (listed_are_in_hand desk (in_hand s) (in_hand s') nodes nodes' rows v).0 i r.is.judged j here in
              d (ap (λ (y : Met). y.ino) same)
        ]

    pub edit_is : IsJudgedEdit desk (in_hand s) (in_hand s') r.is.met e.body r.file (record { body = e.read; chain = e.chain; entries = r.file.entries })
    edit_is =
        let stands : body_at (body_in s ino) ≡ r.file.body = body_stands kind desk.sizes.range (body_in s ino) r.file.body r.body in
        record {
          judged = r.is.judged;
          reads = r.reads;
          body_now = body_there;
          pages = e.alters.pages;
          lent = e.alters.lent;
          holds = e.alters.holds;
          inodes = e.alters.inodes;
          back = e.anew.reads;
          reads_now = reads_then;
          rights = subst (SameRights e.read) stands e.rights;
          entries = refl;
          own = λ page i. new_held desk s s' ino kind m o e page i;
          once = e.once;
          apart = apart_then;
          bytes = λ page out out' away.
              core_stays desk s s' ino kind m o e page
              (λ t. elim (e.own page t) [ inl a ↦ out (subst (λ l. In page l) (sym old_pages) a) | inr b ↦ out' b ])
              (λ mf found same.
              let f = made_at s ino mf found in
              away (subst (λ n. In n (ino_numbers s.parcel.inodes)) (f.1 ∙ sym r.is.number) (m.made.numbers mf f.0)) (same ∙ sym (r.is.place mf found).0));
        }

    bytes_are : bytes_listed (core_in_hand desk (in_hand s')) (record { body = e.read; chain = e.chain; entries = r.file.entries }) ≡ bytes_then
    bytes_are =
        ap (take e.read.size)
        (flat_map-same (λ n. unwrap_or (page_of core' n) []) (page_in s'.parcel) e.chain.blocks
        (λ n i. ap (λ q. unwrap_or q []) (page_then desk s s' m (hand_now desk s s' ino kind m o e) n (new_held desk s s' ino kind m o e n (In-right n e.chain.index e.chain.blocks i)))))

    pub law_now : Becomes desk (in_hand s) (in_hand s') (content_of kind ino bytes_then e.read.guard)
    law_now =
        subst (λ k. Becomes desk (in_hand s) (in_hand s') (content_of k ino bytes_then e.read.guard)) r.is.kind
        (subst (λ n. Becomes desk (in_hand s) (in_hand s') (content_of r.is.met.kind n bytes_then e.read.guard)) r.is.number
        (subst (λ l. Becomes desk (in_hand s) (in_hand s') (content_of r.is.met.kind r.is.met.ino l e.read.guard)) bytes_are
        (judged_edit_shows desk (in_hand s) (in_hand s') r.is.met e.body r.file (record { body = e.read; chain = e.chain; entries = r.file.entries }) m.order edit_is)))

  view : (nodes nodes' : Nodes) (rows : List (Option Row)) → MayShow desk (in_hand s) (in_hand s') nodes nodes' rows → IsView desk (in_hand s) (in_hand s') nodes nodes' rows
  view nodes nodes' rows may = record { order = m.order; more = takes_more desk s s' m (hand_now desk s s' ino kind m o e); shows = may }

  pub becomes_now : Becomes desk (in_hand s) (in_hand s') (content_of kind ino bytes_then e.read.guard)
  becomes_now = record {
    more = takes_more desk s s' m (hand_now desk s s' ino kind m o e);
    shows = λ nodes nodes' rows may. (law_now nodes nodes' rows (view nodes nodes' rows may)).shows nodes nodes' rows may;
    tree = λ nodes nodes' rows may. (law_now nodes nodes' rows (view nodes nodes' rows may)).tree nodes nodes' rows may;
    order = in_order desk s s' m (hand_now desk s s' ino kind m o e);
  }

  -- ---- files that were made

  view_of : (nodes : Nodes) (rows : List (Option Row)) → ArePossible desk s'.parcel s'.reads nodes rows → (nodes' : Nodes) × IsView desk (in_hand s) (in_hand s') nodes nodes' rows
  view_of nodes rows possible = view_then desk s (in_hand s') nodes rows m (takes_more desk s s' m (hand_now desk s s' ino kind m o e)) possible

  -- the judged files then
  judged_then : (nodes nodes' : Nodes) (rows : List (Option Row)) → IsView desk (in_hand s) (in_hand s') nodes nodes' rows
      → judged_files (case_as_stands desk (in_hand s')) ≡ map (met_with ino e.body) (judged_files (case_as_stands desk (in_hand s)))
  judged_then nodes nodes' rows v =
      let q = r nodes nodes' rows v in
      judged_after_edit desk (in_hand s) (in_hand s') q.is.met e.body q.file (record { body = e.read; chain = e.chain; entries = q.file.entries }) nodes nodes' rows (edit_is nodes nodes' rows v) v
      ∙ ap (λ n. map (met_with n e.body) (judged_files (case_as_stands desk (in_hand s)))) q.is.number

  -- a file that was made is met with the body that it has then
  met_then : (x : MadeFile) (directory : ℕ) → In x s'.made → (w : WasMade desk s s' ino kind m o e x) → met_with ino e.body (made_met s directory w.was) ≡ made_met s' directory x
  met_then x directory i w =
      let y : MadeFile = w.was in
      let met' : ℕ → Kind → ℕ → ℕ → List ℕ → Met = λ n k p t b. record { ino = n; kind = k; parent = directory; page = p; slot = t; body = b } in
      let same : (b : List ℕ) → met' y.ino y.kind y.page y.slot b ≡ met' x.ino x.kind x.page x.slot b = search arith in
      let body : body_in_slot y.slot (page_in s'.parcel y.page) ≡ made_body s' x =
      ap (λ t. body_in_slot t (page_in s'.parcel y.page)) (sym w.slot_is) ∙ ap (λ p. body_in_slot x.slot (page_in s'.parcel p)) (sym w.page_is) in
      elim (cases_eq y.ino ino) [
        | inl here ↦
            let found : made_file s ino ≡ Some y = found_there desk s y ino m w.among here in
            if_same y.ino ino (record (made_met s directory y) { body = e.body }) (made_met s directory y) here
            ∙ ap (λ b. met' y.ino y.kind y.page y.slot b) (sym (made_body_now desk s s' ino kind m o e y found) ∙ body)
            ∙ same (made_body s' x)
        | inr other ↦
            if_other y.ino ino (record (made_met s directory y) { body = e.body }) (made_met s directory y) other
            ∙ ap (λ b. met' y.ino y.kind y.page y.slot b) (sym (made_body_stays desk s s' ino kind m o e y w.among other) ∙ body)
            ∙ same (made_body s' x)
      ]

  pub made_now : AreMade desk s'
  made_now = record {
    numbers = λ x i.
        let w = was_made desk s s' ino kind m o e x i in
        subst (λ (l : List InoParts). In x.ino (ino_numbers l)) (sym e.alters.inodes) (subst (λ n. In n (ino_numbers s.parcel.inodes)) (sym w.ino_is) (m.made.numbers w.was w.among));
    gone = λ x i. subst (λ (l : List InoParts). In x.ino (ino_numbers l)) (sym e.alters.inodes) (m.made.gone x (subst (λ l. In x l) e.anew.cleared i));
    once = made_once_now desk s s' ino kind m o e;
    apart = λ x i.
        let w = was_made desk s s' ino kind m o e x i in
        let u = m.made.apart w.was w.among in
        subst (IsUnlent s') (sym w.ino_is) (record {
          written = none_anew s.parcel s'.parcel ino (files_anew desk s s' ino kind m o e) w.was.ino u.written;
          held = ap (find (λ (h : HoldParts). eqb h.ino w.was.ino)) e.alters.holds ∙ u.held;
          read = ap (find (λ (f : Shown). eqb f.ino w.was.ino)) e.anew.reads ∙ u.read;
        });
    slots = slots_now desk s s' ino kind m o e;
    judged = λ nodes rows possible x i.
        let v = view_of nodes rows possible in
        let w = was_made desk s s' ino kind m o e x i in
        let j = m.made.judged nodes rows (takes_more desk s s' m (hand_now desk s s' ino kind m o e) nodes rows possible) w.was w.among in
        record {
          directory = j.directory;
          judged =
              subst (λ l. In (made_met s' j.directory x) l) (sym (judged_then nodes v.0 rows v.1))
              (subst (λ y. In y (map (met_with ino e.body) (judged_files (case_as_stands desk (in_hand s))))) (met_then x j.directory i w)
              (In-map (met_with ino e.body) (made_met s j.directory w.was) (judged_files (case_as_stands desk (in_hand s))) j.judged));
        };
    only = λ nodes rows possible x i new.
        let v = view_of nodes rows possible in
        let y = map-In (met_with ino e.body) x (judged_files (case_as_stands desk (in_hand s))) (subst (λ l. In x l) (judged_then nodes v.0 rows v.1) i) in
        let number : x.ino ≡ y.0.ino = ap (λ (z : Met). z.ino) y.2 ∙ met_with-number ino e.body y.0 in
        let was = m.made.only nodes rows (takes_more desk s s' m (hand_now desk s s' ino kind m o e) nodes rows possible) y.0 y.1
        (subst (λ n. In n (ino_numbers s.parcel.inodes)) number (subst (λ (l : List InoParts). In x.ino (ino_numbers l)) e.alters.inodes new)) in
        subst (λ n. is_some (made_file s' n) ≡ true) (sym number) (still_made y.0.ino was);
  }
    where
      still_made : (n : ℕ) → is_some (made_file s n) ≡ true → is_some (made_file s' n) ≡ true
      still_made n was =
          elim (cases_eq n ino) [
            | inr d ↦ ap is_some (made_other s s' ino e.chain e.anew (files_anew desk s s' ino kind m o e) n d) ∙ was
            | inl same ↦
                let f = some_of (made_file s n) was in
                let found : made_file s ino ≡ Some f.0 = ap (made_file s) (sym same) ∙ f.1 in
                ap (λ k. is_some (made_file s' k)) same ∙ ap is_some (made_here s s' ino e.chain e.anew (files_anew desk s s' ino kind m o e) f.0 found)
          ]

  -- ---- entries

  entries_now : EntriesHaveRights desk s'
  entries_now nodes rows x file l possible i reads j out =
      let v = view_of nodes rows possible in
      let q = r nodes v.0 rows v.1 in
      let before = takes_more desk s s' m (hand_now desk s s' ino kind m o e) nodes rows possible in
      let y = map-In (met_with ino e.body) x (judged_files (case_as_stands desk (in_hand s))) (subst (λ z. In x z) (judged_then nodes v.0 rows v.1) i) in
      let not_new : In l.entry.ino (ino_numbers s.parcel.inodes) → ⊥ = λ k. out (subst (λ (z : List InoParts). In l.entry.ino (ino_numbers z)) (sym e.alters.inodes) k) in
      elim (cases_eq y.0.ino ino) [
        | inl here ↦
            let one : y.0 ≡ q.is.met = same_met (judged_files (case_as_stands desk (in_hand s))) y.0 q.is.met (judged_once (case_as_stands desk (in_hand s)) (hand_files_once desk (in_hand s) m.order)) y.1 q.is.judged (here ∙ sym q.is.number) in
            let met_is : x ≡ record q.is.met { body = e.body } = y.2 ∙ if_same y.0.ino ino (record y.0 { body = e.body }) y.0 here ∙ ap (λ (z : Met). record z { body = e.body }) one in
            let same : Ok file ≡ Ok (record { body = e.read; chain = e.chain; entries = q.file.entries }) = sym reads ∙ ap (file_in (case_as_stands desk (in_hand s'))) met_is ∙ reads_then nodes v.0 rows v.1 in
            let is : file ≡ record { body = e.read; chain = e.chain; entries = q.file.entries } = cc same in
            m.entries nodes rows q.is.met q.file l before q.is.judged q.reads (subst (λ (z : FileRead). In l z.entries) is j) not_new
        | inr other ↦
            let f = judged_reads desk (in_hand s) (in_hand s') nodes v.0 rows y.0 v.1 y.1 in
            let met_is : x ≡ y.0 = y.2 ∙ if_other y.0.ino ino (record y.0 { body = e.body }) y.0 other in
            let now = (reads_after_edit desk (in_hand s) (in_hand s') q.is.met e.body q.file (record { body = e.read; chain = e.chain; entries = q.file.entries }) nodes v.0 rows y.0 f.0 (edit_is nodes v.0 rows v.1) v.1 y.1
            (λ k. other (k ∙ q.is.number)) f.1).0 in
            let same : Ok file ≡ Ok (file_beside (in_hand s) q.is.met.ino e.body f.0) = sym reads ∙ ap (file_in (case_as_stands desk (in_hand s'))) met_is ∙ now in
            let is : file ≡ file_beside (in_hand s) q.is.met.ino e.body f.0 = cc same in
            m.entries nodes rows y.0 f.0 l before y.1 f.1 (beside q.is.met.ino f.0 l (subst (λ (z : FileRead). In l z.entries) is j) not_new) not_new
      ]
    where
      -- an entry that isn't the edited file's is as it was
      beside : (n : ℕ) (f : FileRead) (l : Listed) → In l (file_beside (in_hand s) n e.body f).entries → (In l.entry.ino (ino_numbers s.parcel.inodes) → ⊥) → In l f.entries
      beside n f l k not_new = by (is_among n (ino_numbers s.parcel.inodes)) refl k
        where
          by : (t : Bool) → is_among n (ino_numbers s.parcel.inodes) ≡ t → In l (if t then record f { entries = map (listed_with n e.body) f.entries } else f).entries → In l f.entries
          by false out k = k
          by true new k =
              let y = map-In (listed_with n e.body) l f.entries k in
              elim (cases_eq y.0.entry.ino n) [
                | inr d ↦ subst (λ z. In z f.entries) (sym (y.2 ∙ if_other y.0.entry.ino n (record y.0 { body = e.body }) y.0 d)) y.1
                | inl same ↦ search (arith, if_same, is_among-In)
              ]

  -- ---- all that is kept

  pub may_now : MayEdit desk s'
  may_now = record {
    on = is_on desk s s' m (hand_now desk s s' ino kind m o e);
    all = hands_in_all desk s s' m (hand_now desk s s' ino kind m o e);
    given = well_given desk s s' m (hand_now desk s s' ino kind m o e);
    order = in_order desk s s' m (hand_now desk s s' ino kind m o e);
    shows = shows_after desk s s' (content_of kind ino bytes_then e.read.guard) m.shows becomes_now;
    alone = left_alone desk s s' m (hand_now desk s s' ino kind m o e);
    beside = chains_beside desk s s' m (hand_now desk s s' ino kind m o e);
    chains = chains_now desk s s' ino kind m o e;
    own = own_now desk s s' ino kind m o e;
    once = once_now desk s s' ino kind m o e;
    placed = within_pages desk s s' m (hand_now desk s s' ino kind m o e) s'.placed e.placed;
    made = made_now;
    entries = entries_now;
    held = λ k nodes rows i possible. m.held k nodes rows (subst (λ l. In k l) e.alters.holds i) (takes_more desk s s' m (hand_now desk s s' ino kind m o e) nodes rows possible);
  }
