-- A file that is open and no directory has, as a node that is shown, the rights of its body and the bytes that the session reads.
use Rattle.trio_edit_laws.proofs.Words.{◌*◌, ◌∙◌, ◌≡◌, Body, Case, Chain, Core, DeskSeen, HasRights, In, In-find, In-right, IsOpen, IsView, LentFile, List, MayEdit, Met, Node, Nodes, None, Ok, Option, Regular, Row, SessionSeen, Some, [], ap, arith, bare_file, body_in, body_stands, bundle_of, bytes_in, bytes_listed, bytes_now, case_in_hand, chain_in, core_in_hand, eq-eqb, eqb, eqb-true, file_within, find, find-In, flat_map, flat_map-same, hand_files_once, held_by, in_hand, inl, ino_numbers, inr, judged_files, judged_once, judged_there, length, map, node_at, option_map, page_in, page_of, pages_bytes, read_in_hand, rights_in, same_met, sees_made, sees_written, size_in, slice_get-In, subst, sym, take, unwrap_or, written_at, ℕ, Kind, is_directory, false, option_and_then, bytes_read, cond, mapped, rights_of, node_left, naming_of, with_judged, guard_now, Bool, IsOpenFile, refl, open_kind, guard_in, within_from}
use Rattle.std.proofs.Common.{length-take-le}
use Rattle.trio_edit_laws.proofs.session.JudgedReads.{file_within-alike}
use Rattle.trio_laws.proofs.session.Stands.{Read}
use Rattle.trio_edit_laws.specs.EditLaws.{SeesBytes}
use Rattle.trio_edit_laws.proofs.Anew.{body-made, body-written}
use Rattle.trio_edit_laws.proofs.Hand.{hand_page}
use Rattle.trio_edit_laws.proofs.OpenChain.{open_chain}
use Rattle.trio_edit_laws.proofs.Opens.{OpenMade, OpenWritten, opened}
use Rattle.trio_edit_laws.proofs.Parts.{length-pages}
use Rattle.trio_edit_laws.proofs.Whole.{OpenReads, made_listed, open_reads}

-- the blocks of an open file have 4096 bytes each
pub length-blocks : (desk : DeskSeen) (s : SessionSeen) (ino : ℕ) (kind : Kind) → MayEdit desk s → open_kind s ino ≡ Some kind → length (flat_map (page_in s.parcel) (chain_in s ino).blocks) ≡ 4096 * length (chain_in s ino).blocks
length-blocks desk s ino kind m o =
    let c = open_chain desk s ino kind m o in
    length-pages (page_in s.parcel) (chain_in s ino).blocks (λ n i. c.whole n (In-right n (chain_in s ino).index (chain_in s ino).blocks i))

-- as many bytes are read as its size says
pub length-bytes_open : (desk : DeskSeen) (s : SessionSeen) (ino : ℕ) (kind : Kind) → MayEdit desk s → open_kind s ino ≡ Some kind → length (bytes_in s ino) ≡ size_in (body_in s ino)
length-bytes_open desk s ino kind m o =
    let c = open_chain desk s ino kind m o in
    let count = c.count in
    length-take-le (size_in (body_in s ino)) (flat_map (page_in s.parcel) (chain_in s ino).blocks) (omega (arith, count, length-blocks desk s ino kind m o))

pub length-bytes_in : (desk : DeskSeen) (s : SessionSeen) (ino : ℕ) → MayEdit desk s → IsOpenFile s ino → length (bytes_in s ino) ≡ size_in (body_in s ino)
length-bytes_in desk s ino m o = length-bytes_open desk s ino Regular m o

module _ (desk : DeskSeen) (s : SessionSeen) (ino : ℕ) (kind : Kind) (nodes nodes' : Nodes) (rows : List (Option Row)) (m : MayEdit desk s) (o : open_kind s ino ≡ Some kind) (plain : is_directory kind ≡ false) (v : IsView desk (in_hand s) (in_hand s) nodes nodes' rows) where
  r : OpenReads desk s ino kind
  r = open_reads desk s ino kind (in_hand s) nodes nodes' rows m v o

  -- what the file lists are the bytes that the session reads
  listed : bytes_listed (core_in_hand desk (in_hand s)) r.file ≡ bytes_in s ino
  listed =
      let c = open_chain desk s ino kind m o in
      let size : r.file.body.size ≡ size_in (body_in s ino) = ap (λ (b : Body). b.size) (sym (body_stands kind desk.sizes.range (body_in s ino) r.file.body r.body)) in
      ap (λ n. take n (pages_bytes (core_in_hand desk (in_hand s)) r.file.chain.blocks)) size
      ∙ ap (λ (k : Chain). take (size_in (body_in s ino)) (pages_bytes (core_in_hand desk (in_hand s)) k.blocks)) r.chain
      ∙ ap (take (size_in (body_in s ino)))
      (flat_map-same (λ n. unwrap_or (page_of (core_in_hand desk (in_hand s)) n) []) (page_in s.parcel) (chain_in s ino).blocks
      (λ n i. ap (λ q. unwrap_or q []) (hand_page desk s n m (c.held n (In-right n (chain_in s ino).index (chain_in s ino).blocks i)))))

  -- the node has the rights of the body
  rights : HasRights (rights_in kind (body_in s ino)) (node_at nodes' ino)
  rights = elim (opened s ino kind o) [
    | inl w ↦ written w
    | inr w ↦ made w
  ]
    where
      written : OpenWritten s ino kind → HasRights (rights_in kind (body_in s ino)) (node_at nodes' ino)
      written w =
          let f : LentFile = w.file in
          let i = slice_get-In s.parcel.writes w.place f w.there in
          let given = m.all.given.writes f i in
          let body : f.stands.body ≡ body_in s ino = sym (body-written s ino f.stands w.none w.shown) in
          let reads : read_in_hand desk (in_hand s) (bare_file f.stands) ≡ Ok r.file =
          file_within-alike (core_in_hand desk (in_hand s)) (written_at (bare_file f.stands) None) r.is.met (w.kind_is ∙ sym r.is.kind) (body ∙ sym r.is.body) ∙ r.reads in
          subst (λ n. HasRights (rights_in kind (body_in s ino)) (node_at nodes' n)) w.number
          (subst (λ b. HasRights (rights_in kind b) (node_at nodes' f.stands.ino)) body
          (subst (λ k. HasRights (rights_in k f.stands.body) (node_at nodes' f.stands.ino)) w.kind_is
          (sees_written desk (in_hand s) (in_hand s) nodes nodes' rows f r.file v i given.same.ino given.same.kind reads).0))

      made : OpenMade s ino kind → HasRights (rights_in kind (body_in s ino)) (node_at nodes' ino)
      made w =
          let l = made_listed desk s (in_hand s) nodes nodes' rows w.file m v w.among in
          let new : In l.listed.entry.ino (ino_numbers s.parcel.inodes) = subst (λ n. In n (ino_numbers s.parcel.inodes)) (sym l.number) (m.made.numbers w.file w.among) in
          subst (λ n. HasRights (rights_in kind (body_in s ino)) (node_at nodes' n)) (l.number ∙ w.number)
          (subst (λ b. HasRights (rights_in kind b) (node_at nodes' l.listed.entry.ino)) (l.body ∙ sym (body-made s ino w.file w.found))
          (subst (λ k. HasRights (rights_in k l.listed.body) (node_at nodes' l.listed.entry.ino)) (l.kind ∙ w.kind_is)
          (sees_made desk (in_hand s) (in_hand s) nodes nodes' rows l.directory l.file l.listed v l.judged l.reads l.among new)))

  abbrev c : Case
  c = case_in_hand desk rows (in_hand s)

  -- the judged file
  here : (x : Met) × (find (λ (y : Met). eqb y.ino ino) (judged_files (case_in_hand desk rows (in_hand s))) ≡ Some x) × (x.kind ≡ kind) × (file_within (core_in_hand desk (in_hand s)) x ≡ Ok r.file)
  here =
      let core : Core = core_in_hand desk (in_hand s) in
      let x = judged_there desk.sizes desk.creds rows [] (bundle_of s.parcel) (map held_by s.parcel.holds) r.is.met r.is.judged in
      let number : x.0.ino ≡ ino = ap (λ (z : Read). z.ino) x.2 ∙ r.is.number in
      let reads : file_within core x.0 ≡ Ok r.file = ap (λ (z : Read). z.reads) x.2 ∙ r.reads in
      let q = In-find (λ (y : Met). eqb y.ino ino) (judged_files c) x.0 x.1 (eq-eqb x.0.ino ino number) in
      let p = find-In (λ (y : Met). eqb y.ino ino) (judged_files c) q.0 q.1 in
      let there : find (λ (y : Met). eqb y.ino ino) (judged_files c) ≡ Some x.0 =
      q.1 ∙ ap Some (same_met (judged_files c) q.0 x.0 (judged_once c (hand_files_once desk (in_hand s) m.order)) p.0 x.1 (eqb-true q.0.ino ino p.1 ∙ sym number)) in
      (x.0, there, ap (λ (z : Read). z.kind) x.2 ∙ r.is.kind, reads)

  -- the bundle has the bytes of the number
  bytes_have : bytes_now (case_in_hand desk rows (in_hand s)) ino ≡ Some (bytes_in s ino)
  bytes_have =
      let core : Core = core_in_hand desk (in_hand s) in
      ap (option_and_then (λ (y : Met). bytes_read core y.kind (file_within core y))) here.1
      ∙ ap (bytes_read core here.0.kind) here.3
      ∙ ap (λ t. cond t None (Some (take r.file.body.size (pages_bytes core r.file.chain.blocks)))) (ap is_directory here.2 ∙ plain)
      ∙ ap Some listed

  -- and its guard
  guard_have : guard_now (case_in_hand desk rows (in_hand s)) ino ≡ Some (guard_in (body_in s ino))
  guard_have =
      let w = within_from (core_in_hand desk (in_hand s)) here.0 r.file here.3 in
      ap (option_map (λ (y : Met). guard_in y.body)) here.1
      ∙ ap (λ (b : Body). Some b.guard) (body_stands here.0.kind desk.sizes.range here.0.body r.file.body w.body ∙ sym (body_stands kind desk.sizes.range (body_in s ino) r.file.body r.body))

  -- the node that is shown
  node_shown : (y : Node) × (node_at nodes' ino ≡ Some (with_judged (bytes_now (case_in_hand desk rows (in_hand s)) ino) (guard_now (case_in_hand desk rows (in_hand s)) ino) y))
  node_shown =
      let x = mapped rights_of (node_at nodes' ino) (rights_in kind (body_in s ino)) rights in
      by (node_left c ino (naming_of c ino) (node_at nodes ino)) (v.shows.shows.each ino) (sym x.1 ∙ v.shows.shows.each ino)
    where
      by : {x : Node} (z : Option Node) → node_at nodes' ino ≡ option_map (with_judged (bytes_now c ino) (guard_now c ino)) z → Some x ≡ option_map (with_judged (bytes_now c ino) (guard_now c ino)) z
          → (y : Node) × (node_at nodes' ino ≡ Some (with_judged (bytes_now (case_in_hand desk rows (in_hand s)) ino) (guard_now (case_in_hand desk rows (in_hand s)) ino) y))
      by {x} None e some = absurd (let wrong : Some x ≡ None = some in cc wrong)
      by (Some y) e some = (y, e)

  pub node_bytes : option_map (λ (x : Node). x.bytes) (node_at nodes' ino) ≡ Some (bytes_in s ino)
  node_bytes =
      ap (option_map (λ (y : Node). y.bytes)) node_shown.1
      ∙ ap (λ q. Some (with_judged q (guard_now c ino) node_shown.0).bytes) bytes_have ∙ ap Some (bytes_with (bytes_in s ino) (guard_now c ino) node_shown.0)
    where
      bytes_with : (l : List ℕ) (g : Option Bool) (w : Node) → (with_judged (Some l) g w).bytes ≡ l
      bytes_with l None w = refl
      bytes_with l (Some guarded) w = refl

  -- it has the guard of the body
  pub node_guard : option_map (λ (x : Node). x.guard) (node_at nodes' ino) ≡ Some (guard_in (body_in s ino))
  node_guard = ap (option_map (λ (y : Node). y.guard)) node_shown.1 ∙ ap (λ g. Some (with_judged (bytes_now c ino) g node_shown.0).guard) guard_have

pub sees_bytes : SeesBytes
sees_bytes desk s ino kind nodes nodes' rows m o plain may = search (arith, rights, node_bytes, length-bytes_open)
