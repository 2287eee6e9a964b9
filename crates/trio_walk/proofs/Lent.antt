-- A session that was lent a file may walk on.
use Rattle.trio_walk.proofs.Words.{◌++◌, ◌+◌, ◌<◌, ◌∙◌, ◌∷◌, ◌≡◌, ◌⊎◌, AboveIsOpen, ArePossible, Bool, Chain, DeskSeen, Directory, EntryPart, HasFile, HoldLease, HoldParts, In, In-cases, In-flat, In-left, In-map, In-right, IsFreshLease, IsLeaseIn, IsOn, IsView, Kind, LentFile, LentPage, LibOut, List, Lists, MadeFile, MayWalk, Node, Nodes, None, Option, Place, ReadLease, Rights, Row, SeesOpen, SessionSeen, Sheet, Shown, Some, WriteLease, Written, [], ap, batch_nodes, block_shown, body_in, case_as_stands, chain_in, cond, dir_pages, entries_shown, entry_node, entry_shown, eq-eqb, eqb, eqb-true, false, file_numbers, files_out, find, find-append, flat_map, hold_numbers, in_hand, inl, ino_numbers, inr, is_some, length, length-append, lent_files, lent_sheet, made_body, made_file, map, map-In, map-append, naming_of, no_chain, node_at, numbers_of_file, open_kind, option_map, option_map_or, option_or, pages_in_hand, pages_looked, pages_out, place_in, refl, rights_in, rights_of, sheets_of, slice_index_or, subst, sym, tree_stays_through, true, with_lease, written_file, written_in, ℕ}
use Rattle.std.proofs.lemmas.Grind.{flat_map-append}
use Rattle.std.proofs.lemmas.List.{get_or_append_left}
use Rattle.std.proofs.Math.Seq.{get_or-append_seam}
use Rattle.trio_rights.specs.Bundle.{Bundle, bundle_sheets}
use Rattle.trio_rights.specs.Sheets.{sheet_numbers}
use Rattle.trio_lists.proofs.Members.{flat_map-In}
use Rattle.trio_lease.specs.Views.{fresh_sheet}
use Rattle.trio_desk.specs.Edits.{InHand, MayShow}
use Rattle.trio_desk.specs.Out.{lent_numbers}
use Rattle.trio_laws.specs.session.Sees.{IsLeftAlone}
use Rattle.trio_laws.specs.session.Takes.{IsInOrder, IsUntouched, Takes}
use Rattle.trio_laws.proofs.session.LentFiles.{lent_sheet_numbers, lent_sheets}
use Rattle.trio_laws.proofs.session.Sees as sees
use Rattle.trio_laws.proofs.session.TakenMore as more
use Rattle.trio_laws.proofs.session.TakenHold as hold
use Rattle.trio_laws.proofs.session.TakenWrite as write
use Rattle.trio_session.specs.Layout.{page_in}
use Rattle.trio_session.specs.Seen.{has_out}
use Rattle.trio_session.specs.Asked.{lent_chain}
use Rattle.trio_walk.proofs.Leased.{ByLease, ByMade, IsMore, IsOpened, held_out, opened, read_out, sees_still, written_out}
use Rattle.trio_walk.proofs.Listing.{SeesIn, block_of_entry, lease_sees, shown_listed}
use Rattle.trio_walk.proofs.Opened.{IsSeenBy, open_seen, page_in-lent, page_in-more, position-append, position-last}

-- the kind of a node whose rights are these
pub kind_of_rights : (o : Option Node) (r : Rights) → option_map rights_of o ≡ Some r → option_map (λ (x : Node). x.kind) o ≡ Some r.kind
kind_of_rights None r e = (let wrong : None ≡ Some r = e in absurd (cc wrong))
kind_of_rights (Some x) r e = (let same : Some (rights_of x) ≡ Some r = e in let is : rights_of x ≡ r = cc same in ap (λ (q : Rights). Some q.kind) is)

module _ (desk : DeskSeen) (out' : LibOut) (s : SessionSeen) (may : MayWalk desk s) where
  abbrev now : DeskSeen
  now = record desk { out = out' }

  possible_at : (nodes : Nodes) (rows : List (Option Row)) → ArePossible (record desk { out = out' }) s.parcel s.reads nodes rows → ArePossible desk s.parcel s.reads nodes rows
  possible_at nodes rows p = record { tree = p.tree; agrees = p.agrees; none = p.none; same = p.same; places = p.places }

  order : IsInOrder (record desk { out = out' }) (in_hand s)
  order = record { among = λ nodes rows p. may.order.among nodes rows (possible_at nodes rows p); pages = may.order.pages; files = may.order.files }

  -- the nodes are shown as before
  module _ (h' : InHand) (takes : Takes (record desk { out = out' }) (in_hand s) h') (nodes : Nodes) (rows : List (Option Row)) (p : ArePossible (record desk { out = out' }) h'.parcel h'.back nodes rows) where
    was : ArePossible desk s.parcel s.reads nodes rows
    was = possible_at nodes rows (takes.more nodes rows p)

    still_shows : MayShow (record desk { out = out' }) (in_hand s) h' nodes (batch_nodes desk.creds s.calls nodes) rows
    still_shows =
        let c = may.comes nodes rows was in
        record { possible = p; tree = tree_stays_through nodes desk.creds s.calls was.tree c.0; shows = c.1 }

    view : IsView (record desk { out = out' }) (in_hand s) h' nodes (batch_nodes desk.creds s.calls nodes) rows
    view = record { order = order; more = takes.more; shows = still_shows }

  -- ---- for writing

  module _ (ino : ℕ) (f : LentFile) (fresh : IsFreshLease desk.lib ino desk.sizes desk.out (WriteLease f)) (on : IsOn (record desk { out = out' }) (with_lease s (WriteLease f))) where
    abbrev taken : SessionSeen
    taken = with_lease s (WriteLease f)

    not_in_hand : (n : ℕ) → In n (files_out desk.out) → f.lent.ino ≡ n → ⊥
    not_in_hand n i e = fresh.new (subst (λ k. In k (files_out desk.out)) (sym e ∙ fresh.is.ino) i)

    page_out : (n : ℕ) → In n (pages_out (has_out s)) → In n (pages_out desk.out)
    page_out n i =
        elim (In-cases n (flat_map numbers_of_file (has_out s).writes) (has_out s).pages i) [
          | inl a ↦ In-left n (flat_map numbers_of_file desk.out.writes) desk.out.pages (subst (λ l. In n (flat_map numbers_of_file l)) (sym may.on.out.writes) a)
          | inr b ↦ In-right n (flat_map numbers_of_file desk.out.writes) desk.out.pages ((may.on.out.pages n).1 b)
        ]

    untouched : IsUntouched (record desk { out = out' }) (in_hand s) f
    untouched = record {
      as_lent = fresh.is.as_lent;
      well = fresh.is.well;
      unwritten = λ i. not_in_hand f.lent.ino (written_out desk s may f.lent.ino i) refl;
      unheld = λ i. not_in_hand f.lent.ino (held_out desk s may f.lent.ino i) refl;
      apart = λ n i j. fresh.is.apart n i (page_out n (may.pages n j));
    }

    takes_it : Takes (record desk { out = out' }) (in_hand s) (in_hand (with_lease s (WriteLease f)))
    takes_it = write.takes_write (record desk { out = out' }) (in_hand s) f order untouched

    sub : (x : Sheet) → In x (sheets_of s.parcel) → In x (sheets_of (with_lease s (WriteLease f)).parcel)
    sub x i =
        subst (λ (b : Bundle). In x (bundle_sheets b)) (sym (write.bundle_is (record desk { out = out' }) (in_hand s) f order untouched))
        (write.sub (record desk { out = out' }) (in_hand s) f order untouched x i)

    lent_sub : (x : Sheet) → In x (lent_sheets f.lent) → In x (sheets_of (with_lease s (WriteLease f)).parcel)
    lent_sub x i =
        subst (λ (b : Bundle). In x (bundle_sheets b)) (sym (write.bundle_is (record desk { out = out' }) (in_hand s) f order untouched))
        (write.lent_sub (record desk { out = out' }) (in_hand s) f order untouched x i)

    pub has_more : IsMore s (with_lease s (WriteLease f))
    has_more = record {
      made = refl;
      written = λ n g h.
          let p : LentFile → Bool = λ (x : LentFile). eqb x.stands.ino n in
          find-append p s.parcel.writes (f ∷ []) ∙ ap (λ o. option_or o (find p (f ∷ []))) h;
      place = λ n i e. position-append (λ (x : LentFile). eqb x.stands.ino n) s.parcel.writes (f ∷ []) i e;
      chain = λ i lt. get_or_append_left s.chains (lent_chain f ∷ []) no_chain i lt;
      page = λ n i. page_in-more s.parcel (with_lease s (WriteLease f)).parcel n takes_it.order.pages sub i;
    }

    -- it is the new file
    pub record IsNewFile (n : ℕ) (kind' : Kind) : Type 0 where
      pub unmade : made_file s n ≡ None
      pub first : find (λ (g : LentFile). eqb g.stands.ino n) s.parcel.writes ≡ None
      pub number : f.stands.ino ≡ n
      pub kind : f.stands.kind ≡ kind'

    split : (n : ℕ) (kind : Kind) → open_kind (with_lease s (WriteLease f)) n ≡ Some kind → (open_kind s n ≡ Some kind) ⊎ IsNewFile n kind
    split n kind e = by (opened (with_lease s (WriteLease f)) n kind e)
      where
        last : (b : Bool) → eqb f.stands.ino n ≡ b → (g : LentFile) → cond b (Some f) None ≡ Some g → (b ≡ true) × (f ≡ g)
        last true t g h = (refl, (let same : Some f ≡ Some g = h in cc same))
        last false t g h = (let wrong : None ≡ Some g = h in absurd (cc wrong))

        by_find : (g : LentFile) → made_file s n ≡ None → g.stands.kind ≡ kind → (o : Option LentFile) → find (λ (x : LentFile). eqb x.stands.ino n) s.parcel.writes ≡ o → option_or o (find (λ (x : LentFile). eqb x.stands.ino n) (f ∷ [])) ≡ Some g
            → (open_kind s n ≡ Some kind) ⊎ IsNewFile n kind
        by_find g none k (Some x) h w =
            let same : Some x ≡ Some g = w in
            let is : x ≡ g = cc same in
            inl (ap (λ o. option_or (option_map (λ (y : MadeFile). y.kind) o) (option_map (λ (z : Shown). z.kind) (written_file s n))) none
            ∙ ap (λ o. option_map (λ (z : Shown). z.kind) (option_map (λ (z : LentFile). z.stands) o)) h ∙ ap (λ (z : LentFile). Some z.stands.kind) is ∙ ap Some k)
        by_find g none k None h w =
            let l = last (eqb f.stands.ino n) refl g w in
            inr (record { unmade = none; first = h; number = eqb-true f.stands.ino n l.0; kind = ap (λ (z : LentFile). z.stands.kind) l.1 ∙ k })

        by : IsOpened (with_lease s (WriteLease f)) n kind → (open_kind s n ≡ Some kind) ⊎ IsNewFile n kind
        by (ByMade m h k) =
            inl (ap (λ o. option_or (option_map (λ (y : MadeFile). y.kind) o) (option_map (λ (z : Shown). z.kind) (written_file s n))) h ∙ ap Some k)
        by (ByLease g none h k) =
            by_find g none k (find (λ (x : LentFile). eqb x.stands.ino n) s.parcel.writes) refl (sym (find-append (λ (x : LentFile). eqb x.stands.ino n) s.parcel.writes (f ∷ [])) ∙ h)

    lease_in : IsLeaseIn (in_hand (with_lease s (WriteLease f))) f.lent
    lease_in = In-left f.lent (lent_files (s.parcel.writes ++ f ∷ [])) s.reads (In-map (λ (y : LentFile). y.lent) f (s.parcel.writes ++ f ∷ []) (In-right f s.parcel.writes (f ∷ []) (inl refl)))

    alone_then : IsLeftAlone (in_hand s) f.lent.ino
    alone_then = (untouched.unwritten, untouched.unheld)

    module _ (n : ℕ) (kind : Kind) (new : IsNewFile n kind) where
      number : f.lent.ino ≡ n
      number = sym (ap (λ (x : Shown). x.ino) fresh.is.as_lent) ∙ new.number

      lent_kind : f.lent.kind ≡ kind
      lent_kind = sym (ap (λ (x : Shown). x.kind) fresh.is.as_lent) ∙ new.kind

      written_now : find (λ (g : LentFile). eqb g.stands.ino n) (s.parcel.writes ++ f ∷ []) ≡ Some f
      written_now =
          let p : LentFile → Bool = λ (x : LentFile). eqb x.stands.ino n in
          find-append p s.parcel.writes (f ∷ []) ∙ ap (λ o. option_or o (find p (f ∷ []))) new.first ∙ ap (λ b. cond b (Some f) None) (eq-eqb f.stands.ino n new.number)

      chain_now : chain_in (with_lease s (WriteLease f)) n ≡ lent_chain f
      chain_now =
          let p : LentFile → Bool = λ (x : LentFile). eqb x.stands.ino n in
          let chains : List Chain = s.chains ++ lent_chain f ∷ [] in
          let at : place_in (with_lease s (WriteLease f)) n ≡ Some (length s.chains) = position-last p s.parcel.writes f new.first (eq-eqb f.stands.ino n new.number) ∙ ap Some (sym may.beside) in
          ap (λ o. option_map_or (λ (y : MadeFile). y.chain) o (option_map_or (λ i. slice_index_or chains i no_chain) (place_in (with_lease s (WriteLease f)) n) no_chain)) new.unmade
          ∙ ap (λ o. option_map_or (λ i. slice_index_or chains i no_chain) o no_chain) at
          ∙ get_or-append_seam s.chains (lent_chain f) [] no_chain

      body_now : body_in (with_lease s (WriteLease f)) n ≡ f.lent.body
      body_now =
          ap (λ o. option_map_or (made_body (with_lease s (WriteLease f))) o (option_map_or (λ (x : Shown). x.body) (written_file (with_lease s (WriteLease f)) n) [])) new.unmade
          ∙ ap (λ o. option_map_or (λ (x : Shown). x.body) (option_map (λ (x : LentFile). x.stands) o) []) written_now
          ∙ ap (λ (x : Shown). x.body) fresh.is.as_lent

      pages_of : (qs : List LentPage) → ((q : LentPage) → In q qs → In (lent_sheet q) (lent_sheets f.lent)) → map (page_in (with_lease s (WriteLease f)).parcel) (lent_numbers qs) ≡ map (λ (q : LentPage). q.page) qs
      pages_of [] own = refl
      pages_of (q ∷ qs) own =
          ap (λ x. x ∷ map (page_in (with_lease s (WriteLease f)).parcel) (lent_numbers qs))
          (page_in-lent (with_lease s (WriteLease f)).parcel q takes_it.order.pages (lent_sub (lent_sheet q) (own q (inl refl))))
          ∙ ap (λ l. q.page ∷ l) (pages_of qs (λ r i. own r (inr i)))

      pages_now : map (page_in (with_lease s (WriteLease f)).parcel) (chain_in (with_lease s (WriteLease f)) n).blocks ≡ dir_pages f.lent
      pages_now =
          ap (λ (c : Chain). map (page_in (with_lease s (WriteLease f)).parcel) c.blocks) chain_now
          ∙ pages_of f.lent.blocks (λ q i. In-map lent_sheet q (f.lent.index ++ f.lent.blocks) (In-right q f.lent.index f.lent.blocks i))

      module _ (nodes : Nodes) (rows : List (Option Row)) (p : ArePossible (record desk { out = out' }) (with_lease s (WriteLease f)).parcel s.reads nodes rows) where
        v : IsView (record desk { out = out' }) (in_hand s) (in_hand (with_lease s (WriteLease f))) nodes (batch_nodes desk.creds s.calls nodes) rows
        v = view (in_hand (with_lease s (WriteLease f))) takes_it nodes rows p

        has : HasFile desk.sizes (batch_nodes desk.creds s.calls nodes) f.lent
        has = sees.sees_lease (record desk { out = out' }) (in_hand s) (in_hand (with_lease s (WriteLease f))) nodes (batch_nodes desk.creds s.calls nodes) rows f.lent v lease_in alone_then

        new_kind : option_map (λ (x : Node). x.kind) (node_at (batch_nodes desk.creds s.calls nodes) n) ≡ Some kind
        new_kind =
            ap (λ k. option_map (λ (x : Node). x.kind) (node_at (batch_nodes desk.creds s.calls nodes) k)) (sym number)
            ∙ kind_of_rights (node_at (batch_nodes desk.creds s.calls nodes) f.lent.ino) (rights_in f.lent.kind f.lent.body) has.rights ∙ ap Some lent_kind

        module _ (dir : kind ≡ Directory) where
          here : Nodes
          here = batch_nodes desk.creds s.calls nodes

          is_dir : f.lent.kind ≡ Directory
          is_dir = lent_kind ∙ dir

          seen : IsSeenBy (with_lease s (WriteLease f)) n (dir_pages f.lent)
          seen =
              let opens : open_kind (with_lease s (WriteLease f)) n ≡ Some Directory =
              ap (λ o. option_or (option_map (λ (y : MadeFile). y.kind) o) (option_map (λ (z : Shown). z.kind) (written_file (with_lease s (WriteLease f)) n))) new.unmade
              ∙ ap (λ o. option_map (λ (z : Shown). z.kind) (option_map (λ (z : LentFile). z.stands) o)) written_now ∙ ap Some (new.kind ∙ dir) in
              subst (λ ps. IsSeenBy (with_lease s (WriteLease f)) n ps) pages_now (open_seen (with_lease s (WriteLease f)) n opens)

          in_it : SeesIn (with_lease s (WriteLease f)) n (batch_nodes desk.creds s.calls nodes)
          in_it =
              let lists = sees.sees_lent (record desk { out = out' }) (in_hand s) (in_hand (with_lease s (WriteLease f))) nodes (batch_nodes desk.creds s.calls nodes) rows f.lent v lease_in alone_then untouched.well in
              lease_sees desk.sizes f.lent is_dir untouched.well (with_lease s (WriteLease f)) n seen (batch_nodes desk.creds s.calls nodes) v.shows.tree
              (subst (λ k. Lists (batch_nodes desk.creds s.calls nodes) k (entries_shown desk.sizes f.lent)) number lists)
              (λ l x i e. sees.sees_entry_rights (record desk { out = out' }) (in_hand s) (in_hand (with_lease s (WriteLease f))) nodes (batch_nodes desk.creds s.calls nodes) rows f.lent l x v lease_in untouched.well i e)

          not_made : (place : Place) (e : EntryPart) (page : List ℕ) → place.slot < 16 → block_shown (with_lease s (WriteLease f)) n place.block ≡ Some page
              → entry_shown (with_lease s (WriteLease f)) n place ≡ Some e → In e.ino (ino_numbers s.parcel.inodes) → ⊥
          not_made place e page lt block entry i =
              let l = shown_listed desk.sizes f.lent is_dir untouched.well (with_lease s (WriteLease f)) n seen place e page lt block entry in
              let x = entry_node desk.sizes f.lent untouched.well rows (λ k j. p.places f.lent k lease_in j) nodes (p.agrees.files f.lent lease_in) l.0 l.1 in
              let none : node_at nodes l.0.entry.ino ≡ None = ap (λ (y : EntryPart). node_at nodes y.ino) l.2 ∙ p.none e.ino i in
              let wrong : Some x.0 ≡ None = sym x.1 ∙ none in cc wrong

          new_sees : SeesOpen (with_lease s (WriteLease f)) n (batch_nodes desk.creds s.calls nodes)
          new_sees = record {
            rights =
                subst (λ k. option_map rights_of (node_at (batch_nodes desk.creds s.calls nodes) k) ≡ Some (rights_in Directory (body_in (with_lease s (WriteLease f)) n))) number
                (has.rights ∙ ap (λ k. Some (rights_in k f.lent.body)) is_dir ∙ ap (λ b. Some (rights_in Directory b)) (sym body_now));
            named = in_it.named;
            entries = in_it.entries;
            made = λ place e lt entry i.
                let b = block_of_entry (with_lease s (WriteLease f)) n place e entry in
                absurd (not_made place e b.0 lt b.1 entry i);
          }

    -- ---- what stays

    more_pages : (page : ℕ) → In page (pages_in_hand (in_hand s)) → In page (pages_in_hand (in_hand (with_lease s (WriteLease f))))
    more_pages page i =
        let x = map-In (λ (y : Sheet). y.page) page (sheets_of s.parcel) i in
        subst (λ n. In n (pages_in_hand (in_hand (with_lease s (WriteLease f))))) (sym x.2) (In-map (λ (y : Sheet). y.page) x.0 (sheets_of (with_lease s (WriteLease f)).parcel) (sub x.0 x.1))

    own_pages : (page : ℕ) → In page (numbers_of_file f.lent) → In page (pages_in_hand (in_hand (with_lease s (WriteLease f))))
    own_pages page i =
        let x = map-In (λ (y : Sheet). y.page) page (lent_sheets f.lent) (subst (λ l. In page l) (sym (lent_sheet_numbers f.lent)) i) in
        subst (λ n. In n (pages_in_hand (in_hand (with_lease s (WriteLease f))))) (sym x.2) (In-map (λ (y : Sheet). y.page) x.0 (sheets_of (with_lease s (WriteLease f)).parcel) (lent_sub x.0 x.1))

    looked : (page : ℕ) → In page (pages_looked (with_lease s (WriteLease f))) → In page (pages_in_hand (in_hand (with_lease s (WriteLease f))))
    looked page i =
        let made : List Chain = map (λ (x : MadeFile). x.chain) s.made in
        let blocks : Chain → List ℕ = λ c. c.blocks in
        let slots : List ℕ = map (λ (x : MadeFile). x.page) s.made in
        let old : (c : Chain) → In c (s.chains ++ made) → In page c.blocks → In page (pages_in_hand (in_hand (with_lease s (WriteLease f)))) =
        λ c j k. more_pages page (may.own page (In-left page (flat_map blocks (s.chains ++ made)) slots (In-flat blocks c page (s.chains ++ made) j k))) in
        elim (In-cases page (flat_map blocks ((s.chains ++ lent_chain f ∷ []) ++ made)) slots i) [
          | inr slot ↦ more_pages page (may.own page (In-right page (flat_map blocks (s.chains ++ made)) slots slot))
          | inl block ↦
              let c = flat_map-In blocks page ((s.chains ++ lent_chain f ∷ []) ++ made) block in
              elim (In-cases c.0 (s.chains ++ lent_chain f ∷ []) made c.1) [
                | inr m ↦ old c.0 (In-right c.0 s.chains made m) c.2
                | inl w ↦
                    elim (In-cases c.0 s.chains (lent_chain f ∷ []) w) [
                      | inl o ↦ old c.0 (In-left c.0 s.chains made o) c.2
                      | inr (inl e) ↦ own_pages page (In-right page (lent_numbers f.lent.index) (lent_numbers f.lent.blocks) (subst (λ (x : Chain). In page x.blocks) e c.2))
                      | inr (inr none) ↦ absurd none
                    ]
              ]
        ]

    -- the pages in hand were lent or allotted
    given : (page : ℕ) → In page (pages_in_hand (in_hand (with_lease s (WriteLease f)))) → In page (pages_out (has_out (with_lease s (WriteLease f))))
    given page i =
        let files : List Shown = map (λ (x : LentFile). x.lent) (s.parcel.writes ++ f ∷ []) in
        let all : files ≡ (has_out s).writes ++ f.lent ∷ [] = map-append (λ (x : LentFile). x.lent) s.parcel.writes (f ∷ []) in
        let flat : flat_map numbers_of_file files ≡ flat_map numbers_of_file (has_out s).writes ++ (numbers_of_file f.lent ++ []) = ap (flat_map numbers_of_file) all ∙ flat_map-append numbers_of_file (has_out s).writes (f.lent ∷ []) in
        let back : In page (flat_map numbers_of_file (has_out s).writes ++ (numbers_of_file f.lent ++ [])) → In page (pages_out (has_out (with_lease s (WriteLease f)))) =
        λ j. In-left page (flat_map numbers_of_file files) (has_out s).pages (subst (λ l. In page l) (sym flat) j) in
        let old : In page (pages_in_hand (in_hand s)) → In page (pages_out (has_out (with_lease s (WriteLease f)))) =
        λ j. elim (In-cases page (flat_map numbers_of_file (has_out s).writes) (has_out s).pages (may.pages page j)) [
          | inl a ↦ back (In-left page (flat_map numbers_of_file (has_out s).writes) (numbers_of_file f.lent ++ []) a)
          | inr b ↦ In-right page (flat_map numbers_of_file files) (has_out s).pages b
        ] in
        let own : In page (sheet_numbers (lent_sheets f.lent)) → In page (pages_out (has_out (with_lease s (WriteLease f)))) =
        λ j. back (In-right page (flat_map numbers_of_file (has_out s).writes) (numbers_of_file f.lent ++ [])
        (In-left page (numbers_of_file f.lent) [] (subst (λ l. In page l) (lent_sheet_numbers f.lent) j))) in
        let x = map-In (λ (y : Sheet). y.page) page (sheets_of (with_lease s (WriteLease f)).parcel) i in
        let sheets : List Sheet = flat_map (λ (w : Written). w.index ++ w.blocks) (map (λ (y : LentFile). written_in y.stands) (s.parcel.writes ++ f ∷ [])) in
        let before : List Written = map (λ (y : LentFile). written_in y.stands) s.parcel.writes in
        let again : In x.0 (sheets_of s.parcel) → In page (pages_out (has_out (with_lease s (WriteLease f)))) =
        λ j. old (subst (λ n. In n (pages_in_hand (in_hand s))) (sym x.2) (In-map (λ (y : Sheet). y.page) x.0 (sheets_of s.parcel) j)) in
        elim (In-cases x.0 sheets (map fresh_sheet s.parcel.pages) x.1) [
          | inr page_fresh ↦ again (In-right x.0 (flat_map (λ (w : Written). w.index ++ w.blocks) before) (map fresh_sheet s.parcel.pages) page_fresh)
          | inl lent ↦
              let w = flat_map-In (λ (w : Written). w.index ++ w.blocks) x.0 (map (λ (y : LentFile). written_in y.stands) (s.parcel.writes ++ f ∷ [])) lent in
              let g = map-In (λ (y : LentFile). written_in y.stands) w.0 (s.parcel.writes ++ f ∷ []) w.1 in
              elim (In-cases g.0 s.parcel.writes (f ∷ []) g.1) [
                | inl o ↦
                    again (In-left x.0 (flat_map (λ (z : Written). z.index ++ z.blocks) before) (map fresh_sheet s.parcel.pages)
                    (In-flat (λ (z : Written). z.index ++ z.blocks) w.0 x.0 before (subst (λ z. In z before) (sym g.2) (In-map (λ (y : LentFile). written_in y.stands) g.0 s.parcel.writes o)) w.2))
                | inr (inl e) ↦
                    let is : w.0 ≡ written_in f.lent = g.2 ∙ ap (λ (y : LentFile). written_in y.stands) e ∙ ap written_in fresh.is.as_lent in
                    let there : In x.0 (map lent_sheet f.lent.index ++ map lent_sheet f.lent.blocks) = subst (λ (z : Written). In x.0 (z.index ++ z.blocks)) is w.2 in
                    own (subst (λ n. In n (sheet_numbers (lent_sheets f.lent))) (sym x.2)
                    (In-map (λ (y : Sheet). y.page) x.0 (lent_sheets f.lent) (subst (λ l. In x.0 l) (sym (map-append lent_sheet f.lent.index f.lent.blocks)) there)))
                | inr (inr none) ↦ absurd none
              ]
        ]

    -- a file that is read is left alone
    alone : (g : Shown) → In g s.reads → IsLeftAlone (in_hand (with_lease s (WriteLease f))) g.ino
    alone g i = (
      λ j.
          let x = map-In (λ (y : LentFile). y.stands.ino) g.ino (s.parcel.writes ++ f ∷ []) j in
          elim (In-cases x.0 s.parcel.writes (f ∷ []) x.1) [
            | inl o ↦ (may.alone g i).0 (subst (λ n. In n (file_numbers s.parcel.writes)) (sym x.2) (In-map (λ (y : LentFile). y.stands.ino) x.0 s.parcel.writes o))
            | inr (inl e) ↦
                not_in_hand g.ino (read_out desk s may g.ino (In-map (λ (y : Shown). y.ino) g s.reads i))
                (sym (ap (λ (y : Shown). y.ino) fresh.is.as_lent) ∙ ap (λ (y : LentFile). y.stands.ino) (sym e) ∙ sym x.2)
            | inr (inr none) ↦ none
          ],
      (may.alone g i).1,
    )

    pub may_write : MayWalk (record desk { out = out' }) (with_lease s (WriteLease f))
    may_write = record {
      on = on;
      comes = λ nodes rows p.
          let c = may.comes nodes rows (was (in_hand (with_lease s (WriteLease f))) takes_it nodes rows p) in
          (c.0, takes_it.shows nodes (batch_nodes desk.creds s.calls nodes) rows (still_shows (in_hand (with_lease s (WriteLease f))) takes_it nodes rows p));
      order = takes_it.order;
      alone = alone;
      kinds = λ n kind e nodes rows p.
          elim (split n kind e) [
            | inl old ↦ may.kinds n kind old nodes rows (was (in_hand (with_lease s (WriteLease f))) takes_it nodes rows p)
            | inr new ↦ new_kind n kind new nodes rows p
          ];
      sees = λ d e nodes rows p.
          elim (split d Directory e) [
            | inl old ↦ sees_still desk s may (with_lease s (WriteLease f)) has_more d old (batch_nodes desk.creds s.calls nodes) (λ n i. i) (may.sees d old nodes rows (was (in_hand (with_lease s (WriteLease f))) takes_it nodes rows p))
            | inr new ↦ new_sees d Directory new nodes rows p refl
          ];
      numbers = λ g i.
          elim (In-cases g s.parcel.writes (f ∷ []) i) [
            | inl o ↦ may.numbers g o
            | inr (inl e) ↦ subst (λ (y : LentFile). y.stands.ino ≡ y.lent.ino) (sym e) (ap (λ (y : Shown). y.ino) fresh.is.as_lent)
            | inr (inr none) ↦ absurd none
          ];
      beside = length-append s.chains (lent_chain f ∷ []) ∙ ap (λ n. n + 1) may.beside ∙ sym (length-append s.parcel.writes (f ∷ []));
      own = looked;
      pages = given;
      made = may.made;
      held = λ h nodes rows i p. may.held h nodes rows i (was (in_hand (with_lease s (WriteLease f))) takes_it nodes rows p);
    }

  -- ---- for reading

  module _ (ino : ℕ) (f : Shown) (fresh : IsFreshLease desk.lib ino desk.sizes desk.out (ReadLease f)) (on : IsOn (record desk { out = out' }) (with_lease s (ReadLease f))) where
    takes_read : Takes (record desk { out = out' }) (in_hand s) (in_hand (with_lease s (ReadLease f)))
    takes_read = more.takes_reads (record desk { out = out' }) (in_hand s) (f ∷ []) order

    same_files : IsMore s (with_lease s (ReadLease f))
    same_files = record { made = refl; written = λ n g h. h; place = λ n i e. e; chain = λ i lt. refl; page = λ n i. refl }

    pub may_read : MayWalk (record desk { out = out' }) (with_lease s (ReadLease f))
    may_read = record {
      on = on;
      comes = λ nodes rows p. may.comes nodes rows (was (in_hand (with_lease s (ReadLease f))) takes_read nodes rows p);
      order = takes_read.order;
      alone = λ g i.
          elim (In-cases g s.reads (f ∷ []) i) [
            | inl o ↦ may.alone g o
            | inr (inl e) ↦ subst (λ (y : Shown). IsLeftAlone (in_hand s) y.ino) (sym e) (
              λ j. fresh.new (subst (λ k. In k (files_out desk.out)) fresh.is.1 (written_out desk s may f.ino j)),
              λ j. fresh.new (subst (λ k. In k (files_out desk.out)) fresh.is.1 (held_out desk s may f.ino j)),
            )
            | inr (inr none) ↦ absurd none
          ];
      kinds = λ n kind e nodes rows p. may.kinds n kind e nodes rows (was (in_hand (with_lease s (ReadLease f))) takes_read nodes rows p);
      sees = λ d e nodes rows p.
          sees_still desk s may (with_lease s (ReadLease f)) same_files d e (batch_nodes desk.creds s.calls nodes) (λ n i. i)
          (may.sees d e nodes rows (was (in_hand (with_lease s (ReadLease f))) takes_read nodes rows p));
      numbers = may.numbers;
      beside = may.beside;
      own = may.own;
      pages = may.pages;
      made = may.made;
      held = λ h nodes rows i p. may.held h nodes rows i (was (in_hand (with_lease s (ReadLease f))) takes_read nodes rows p);
    }

  -- ---- to hold

  module _ (ino : ℕ) (h : HoldParts) (fresh : IsFreshLease desk.lib ino desk.sizes desk.out (HoldLease h)) (on : IsOn (record desk { out = out' }) (with_lease s (HoldLease h)))
      (listed : is_some (naming_of (case_as_stands (record desk { out = out' }) (in_hand s)) h.ino) ≡ true)
      (above : (nodes : Nodes) (rows : List (Option Row)) → ArePossible desk s.parcel s.reads nodes rows → AboveIsOpen nodes desk.creds h.ino) where
    takes_the_hold : Takes (record desk { out = out' }) (in_hand s) (in_hand (with_lease s (HoldLease h)))
    takes_the_hold =
        hold.takes_hold (record desk { out = out' }) (in_hand s) s.calls h order (λ nodes rows p. may.comes nodes rows (possible_at nodes rows p))
        (λ j. fresh.new (subst (λ k. In k (files_out desk.out)) fresh.is.1 (held_out desk s may h.ino j)))
        (λ j. fresh.new (subst (λ k. In k (files_out desk.out)) fresh.is.1 (written_out desk s may h.ino j)))
        listed

    same_open : IsMore s (with_lease s (HoldLease h))
    unfolding page_in
    same_open = record { made = refl; written = λ n g q. q; place = λ n i e. e; chain = λ i lt. refl; page = λ n i. refl }

    pub may_hold : MayWalk (record desk { out = out' }) (with_lease s (HoldLease h))
    may_hold = record {
      on = on;
      comes = λ nodes rows p.
          let c = may.comes nodes rows (was (in_hand (with_lease s (HoldLease h))) takes_the_hold nodes rows p) in
          (c.0, takes_the_hold.shows nodes (batch_nodes desk.creds s.calls nodes) rows (still_shows (in_hand (with_lease s (HoldLease h))) takes_the_hold nodes rows p));
      order = takes_the_hold.order;
      alone = λ g i. (
        (may.alone g i).0,
        λ j.
            let x = map-In (λ (y : HoldParts). y.ino) g.ino (s.parcel.holds ++ h ∷ []) j in
            elim (In-cases x.0 s.parcel.holds (h ∷ []) x.1) [
              | inl o ↦ (may.alone g i).1 (subst (λ n. In n (hold_numbers s.parcel.holds)) (sym x.2) (In-map (λ (y : HoldParts). y.ino) x.0 s.parcel.holds o))
              | inr (inl e) ↦
                  fresh.new (subst (λ k. In k (files_out desk.out)) (x.2 ∙ ap (λ (y : HoldParts). y.ino) e ∙ fresh.is.1) (read_out desk s may g.ino (In-map (λ (y : Shown). y.ino) g s.reads i)))
              | inr (inr none) ↦ none
            ],
      );
      kinds = λ n kind e nodes rows p. may.kinds n kind e nodes rows (was (in_hand (with_lease s (HoldLease h))) takes_the_hold nodes rows p);
      sees = λ d e nodes rows p.
          sees_still desk s may (with_lease s (HoldLease h)) same_open d e (batch_nodes desk.creds s.calls nodes) (λ n i. i)
          (may.sees d e nodes rows (was (in_hand (with_lease s (HoldLease h))) takes_the_hold nodes rows p));
      numbers = may.numbers;
      beside = may.beside;
      own = may.own;
      pages = may.pages;
      made = may.made;
      held = λ k nodes rows i p.
          let q = was (in_hand (with_lease s (HoldLease h))) takes_the_hold nodes rows p in
          elim (In-cases k s.parcel.holds (h ∷ []) i) [
            | inl o ↦ may.held k nodes rows o q
            | inr (inl e) ↦ subst (λ (y : HoldParts). AboveIsOpen nodes desk.creds y.ino) (sym e) (above nodes rows q)
            | inr (inr none) ↦ absurd none
          ];
    }

  -- ---- what a refused grant leaves

  pub may_now : IsOn (record desk { out = out' }) s → MayWalk (record desk { out = out' }) s
  may_now on = record {
    on = on;
    comes = λ nodes rows p. may.comes nodes rows (possible_at nodes rows p);
    order = order;
    alone = may.alone;
    kinds = λ n kind e nodes rows p. may.kinds n kind e nodes rows (possible_at nodes rows p);
    sees = λ d e nodes rows p. may.sees d e nodes rows (possible_at nodes rows p);
    numbers = may.numbers;
    beside = may.beside;
    own = may.own;
    pages = may.pages;
    made = may.made;
    held = λ h nodes rows i p. may.held h nodes rows i (possible_at nodes rows p);
  }
