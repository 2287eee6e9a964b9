-- What a session that may make calls shows and has in hand, and that it may with one lease more.
use Rattle.trio_edit_laws.proofs.Words.{◌++◌, ◌||◌, ◌∙◌, ◌≡◌, AboveIsOpen, ArePossible, Chain, DeskSeen, Directory, Hold, HoldParts, In, In-cases, In-flat, In-left, In-right, IsFreshLease, IsListedNow, IsOn, IsView, Kind, Lent, LentFile, List, MadeFile, MayCall, MayShow, Node, Nodes, None, Option, Read, Rights, Row, SeenAfter, SessionSeen, Shown, Some, Write, ap, batch_nodes, body_in, false, flat_map, flat_map-In, held_file, in_hand, inl, inr, is_some, made_file, map, map-In, mapped, node_at, numbers_of_file, open_kind, option_map, option_or, pages_in_hand, pages_out, read_file, refl, rights_in, rights_of, same_seen, serves, subst, sym, true, with_lease, written_file, ℕ}
use Rattle.trio_lease.specs.declared.lease.Lease.TheVariants.{Write as WriteLease, Read as ReadLease, Hold as HoldLease}
use Rattle.trio_desk.specs.Call.{Grant}
use Rattle.trio_edit_laws.proofs.session.Fresh.{page_out}
use Rattle.trio_session.specs.Seen.{has_out}
use Rattle.trio_edit_laws.proofs.Keeps.{slot_held}
use Rattle.trio_edit_laws.proofs.Shown.{shown_by}
use Rattle.trio_edit_laws.proofs.TakenHold.{keeps_hold}
use Rattle.trio_edit_laws.proofs.TakenReads.{keeps_reads}
use Rattle.trio_edit_laws.proofs.TakenWrite.{keeps_write}
use Rattle.trio_edit_laws.proofs.directories.Sees.{lists, open_rights, r as reads_open}
use Rattle.trio_edit_laws.proofs.Alike.{may_took}

-- ---- what is shown

kind_of_rights : (o : Option Node) (r : Rights) → option_map rights_of o ≡ Some r → option_map (λ (x : Node). x.kind) o ≡ Some r.kind
kind_of_rights None r e = absurd (cc e)
kind_of_rights (Some x) r e = (let same : rights_of x ≡ r = cc e in ap (λ (k : Rights). Some k.kind) same)

module _ (desk : DeskSeen) (s : SessionSeen) (may : MayCall desk s) (nodes : Nodes) (rows : List (Option Row)) (p : ArePossible desk s.parcel s.reads nodes rows) where
  pub shows_calls : MayShow desk (in_hand s) (in_hand s) nodes (batch_nodes desk.creds s.calls nodes) rows
  shows_calls = shown_by desk (in_hand s) (in_hand s) s.calls nodes rows (λ n r q. q) may.comes p

  pub view_calls : IsView desk (in_hand s) (in_hand s) nodes (batch_nodes desk.creds s.calls nodes) rows
  view_calls = record { order = may.edits.order; more = λ n r q. q; shows = shows_calls }

  -- a file that is open is of its kind
  pub kind_shows : (ino : ℕ) (kind : Kind) → open_kind s ino ≡ Some kind → option_map (λ (x : Node). x.kind) (node_at (batch_nodes desk.creds s.calls nodes) ino) ≡ Some kind
  kind_shows ino kind o =
      let now : Nodes = batch_nodes desk.creds s.calls nodes in
      kind_of_rights (node_at now ino) (rights_in kind (body_in s ino)) (open_rights desk s ino kind (in_hand s) nodes now rows may.edits view_calls o)

-- a directory that is open, and lists a file in the nodes that are shown, is judged and reads its entry
pub listed_now : (desk : DeskSeen) (s : SessionSeen) (n directory : ℕ) → MayCall desk s → open_kind s directory ≡ Some Directory
    → ((nodes : Nodes) (rows : List (Option Row)) → ArePossible desk s.parcel s.reads nodes rows → option_map (λ (x : Node). x.parent) (node_at (batch_nodes desk.creds s.calls nodes) n) ≡ Some directory)
    → IsListedNow desk s n
listed_now desk s n directory may opens named nodes rows p =
    let now : Nodes = batch_nodes desk.creds s.calls nodes in
    let v = view_calls desk s may nodes rows p in
    let reads = reads_open desk s directory (in_hand s) nodes now rows may.edits v opens in
    let x = mapped (λ (y : Node). y.parent) (node_at now n) directory (named nodes rows p) in
    let l = (lists desk s directory (in_hand s) nodes now rows may.edits v opens).only n x.0 x.1 x.2 in
    record { directory = reads.is.met; file = reads.file; listed = l.0; judged = reads.is.judged; reads = reads.reads; among = l.1; number = l.2 }

-- ---- its pages

block_chained : (cs : List Chain) (page : ℕ) → In page (flat_map (λ (c : Chain). c.blocks) cs) → In page (flat_map (λ (c : Chain). c.index ++ c.blocks) cs)
block_chained cs page i =
    let c = flat_map-In (λ (c : Chain). c.blocks) page cs i in In-flat (λ (k : Chain). k.index ++ k.blocks) c.0 page cs c.1 (In-right page c.0.index c.0.blocks c.2)

module _ (desk : DeskSeen) (s : SessionSeen) (may : MayCall desk s) where
  -- the blocks of its chains and the pages of its slots are in hand
  pub looked_held : (page : ℕ) → In page (flat_map (λ (c : Chain). c.blocks) (s.chains ++ map (λ (m : MadeFile). m.chain) s.made) ++ map (λ (m : MadeFile). m.page) s.made) → In page (pages_in_hand (in_hand s))
  looked_held page i =
      let cs : List Chain = s.chains ++ map (λ (m : MadeFile). m.chain) s.made in
      elim (In-cases page (flat_map (λ (c : Chain). c.blocks) cs) (map (λ (m : MadeFile). m.page) s.made) i) [
        | inl block ↦ may.edits.own page (block_chained cs page block)
        | inr slot ↦
            (let m = map-In (λ (m : MadeFile). m.page) page s.made slot in
            subst (λ n. In n (pages_in_hand (in_hand s))) (sym m.2) (slot_held desk s m.0 may.edits m.1))
      ]

  -- and what is in hand was lent or allotted
  pub hand_out : (page : ℕ) → In page (pages_in_hand (in_hand s)) → In page (pages_out (has_out s))
  hand_out page i =
      let on = may.edits.on in
      let lent : List Shown → List ℕ = λ l. flat_map numbers_of_file l in
      elim (In-cases page (flat_map numbers_of_file desk.out.writes) desk.out.pages (page_out desk (in_hand s) may.edits.all.given page i)) [
        | inl a ↦ In-left page (flat_map numbers_of_file (has_out s).writes) (has_out s).pages (subst (λ l. In page (lent l)) on.out.writes a)
        | inr b ↦ In-right page (flat_map numbers_of_file (has_out s).writes) (has_out s).pages ((on.out.pages page).0 b)
      ]

-- ---- with one lease more

module _ (desk desk' : DeskSeen) (s : SessionSeen) (may : MayCall desk s) where
  unopened : (n : ℕ) → serves s n Write ≡ false → open_kind s n ≡ None
  unopened n un = by (open_kind s n) un
    where
      by : (o : Option Kind) → is_some o ≡ false → o ≡ None
      by None u = refl
      by (Some k) u = absurd (cc u)

  unmade_read : (n : ℕ) → serves s n Read ≡ false → made_file s n ≡ None
  unmade_read n un = by (made_file s n) refl
    where
      by : (o : Option MadeFile) → made_file s n ≡ o → made_file s n ≡ None
      by None is = is
      by (Some m) is =
          absurd
          (let wrong : true ≡ false =
          sym (ap (λ o. is_some (option_or (option_map (λ (m : MadeFile). m.kind) o) (option_map (λ (f : Shown). f.kind) (written_file s n))) || is_some (read_file s n)) is) ∙ un in
          cc wrong)

  unmade_held : (n : ℕ) → serves s n Hold ≡ false → made_file s n ≡ None
  unmade_held n un = by (made_file s n) refl
    where
      by : (o : Option MadeFile) → made_file s n ≡ o → made_file s n ≡ None
      by None is = is
      by (Some m) is = absurd (let wrong : true ≡ false = sym (ap (λ o. is_some o || is_some (held_file s n)) is) ∙ un in cc wrong)

  -- on a file that it didn't serve so before
  pub may_write : (f : LentFile) → serves s f.lent.ino Write ≡ false → IsFreshLease desk.lib f.lent.ino desk.sizes desk.out (WriteLease f)
      → SeenAfter desk (Grant f.lent.ino Write) (Lent (WriteLease f)) desk' → IsOn desk' (with_lease s (WriteLease f)) → MayCall desk' (with_lease s (WriteLease f))
  may_write f un fresh seen on =
      may_took desk desk' s (with_lease s (WriteLease f)) may (same_seen desk desk' (Grant f.lent.ino Write) (Lent (WriteLease f)) seen)
      (keeps_write desk desk' s f.lent.ino Write f may.edits (unopened f.lent.ino un) fresh seen on) refl refl refl refl

  pub may_read : (f : Shown) → serves s f.ino Read ≡ false → IsFreshLease desk.lib f.ino desk.sizes desk.out (ReadLease f)
      → SeenAfter desk (Grant f.ino Read) (Lent (ReadLease f)) desk' → IsOn desk' (with_lease s (ReadLease f)) → MayCall desk' (with_lease s (ReadLease f))
  may_read f un fresh seen on =
      may_took desk desk' s (with_lease s (ReadLease f)) may (same_seen desk desk' (Grant f.ino Read) (Lent (ReadLease f)) seen)
      (keeps_reads desk desk' s f.ino Read f may.edits (unmade_read f.ino un) fresh seen on) refl refl refl refl

  -- one that is held is listed by a directory that is open, and those above it give reading
  pub may_hold : (h : HoldParts) → serves s h.ino Hold ≡ false → IsListedNow desk s h.ino
      → ((nodes : Nodes) (rows : List (Option Row)) → ArePossible desk s.parcel s.reads nodes rows → AboveIsOpen nodes desk.creds h.ino)
      → IsFreshLease desk.lib h.ino desk.sizes desk.out (HoldLease h)
      → SeenAfter desk (Grant h.ino Hold) (Lent (HoldLease h)) desk' → IsOn desk' (with_lease s (HoldLease h)) → MayCall desk' (with_lease s (HoldLease h))
  may_hold h un listed above fresh seen on =
      may_took desk desk' s (with_lease s (HoldLease h)) may (same_seen desk desk' (Grant h.ino Hold) (Lent (HoldLease h)) seen)
      (keeps_hold desk desk' s h.ino Hold h may.edits (unmade_held h.ino un) may.comes listed above fresh seen on) refl refl refl refl
