-- Pages and numbers that are wanted: what comes of it, and what an allotment leaves as it was.
use Rattle.trio_edit_laws.proofs.Words.{◌++◌, ◌+◌, ◌∙◌, ◌∷◌, ◌≡◌, ArePossible, AreSpare, Ask, Chain, ComesToShown, DeskSeen, Err, FreshParts, HoldParts, In, In-cases, In-is_among, In-left, In-map, In-right, InoParts, IsAlike, IsFreshAllotment, IsOn, Kind, Lent, LentFile, List, Made, MadeFile, MayCall, MayEdit, MayGoOn, NamesStay, None, NotMade, NotSettled, Ok, OneCall, Option, Result, Room, SameDesk, SeenAfter, SessionSeen, Settled, Sheet, Shown, Some, Told, TookMore, Written, [], ap, append-nil, are_new, block_shown, block_shown-open, block_shown-read, body_in, body_in_slot, bundle_of, chain_in, cleared_file, cond, entry_in, eqb, eqb-true, every_number, false≢true, files_out, filter-In, find, find-In, first_empty, flat_map, fresh_sheet, grant_in, growth, held_file, hold_numbers, in_hand, inl, ino_numbers, inr, is_among, is_some, kind_shown, length, length-map, made_body, made_file, map, map-append, map-each, no_chain, open_kind, option_and_then, option_map, option_map_or, option_or, page_in, page_numbers, pages_in_hand, pages_shown, pages_shown-open, pages_shown-read, place_of, position, read_file, refl, same_seen, slice_get, slice_get-In, slice_index_or, slot_bytes, slot_growth, slot_of, slots_of, slots_shown, spare_numbers, spare_pages, subst, sym, true, used_numbers, with_allotted, written_file, zero_page, ℕ}
use Rattle.std.specs.Prelude.{not}
use Rattle.trio_lease.specs.declared.fresh.Allotted.{Allotted as AllottedPages}
use Rattle.trio_nodes.specs.declared.answers.AllotFault.{AllotFault}
use Rattle.trio_nodes.specs.declared.answers.AllotFault.TheVariants.{NoMemory}
use Rattle.trio_desk.specs.Call.{Allot, NotLent, Given, NotGiven, Judged, NotJudged, ModeSet, NotModeSet, Done as GivenBack}
use Rattle.trio_desk.specs.Calls.{Call, Calls}
use Rattle.trio_desk.specs.Out.{new_ino}
use Rattle.trio_session.specs.Asked.{AfterWant, Allots, IsSame, NoWant, NoneWanted, SomeWanted, TellsAllotment, allot_asks, took}
use Rattle.trio_session.specs.Seen.{room_in}
use Rattle.trio_edit_laws.specs.Allotting.{AllotEnds, Allotted, FilesStay, IsToldFault, IsUngiven, Wanted}
use Rattle.trio_edit_laws.proofs.Alike.{comes_same, go_on_alike, may_go_on, spare_alike}
use Rattle.trio_edit_laws.proofs.Called.{may_same}
use Rattle.trio_edit_laws.proofs.Keeps.{slot_held}
use Rattle.trio_edit_laws.proofs.MorePages.{HasPagesOf, page_in-more}
use Rattle.trio_edit_laws.proofs.OpenChain.{open_chain}
use Rattle.trio_edit_laws.proofs.directories.Mades.{find-absent, number_of}
use Rattle.trio_edit_laws.proofs.directories.Stays.{grant-none}
use Rattle.trio_edit_laws.proofs.TakenAllotment.{keeps_allotment}
use Rattle.trio_session.proofs.Alike.{alike_back, alike_room, alike_then, on_alike, took_alike}
use Rattle.trio_edit_laws.proofs.session.ListedPages.{taking_keeps}

-- ---- what stays

-- a session that differs in room alone shows the same
pub names_room : (s s' : SessionSeen) → IsSame s s' → NamesStay s s'
names_room s s' e =
    subst (λ (q : SessionSeen). NamesStay s q) (sym e)
    (record { opens = λ n. refl; places = λ n name. refl; entries = λ n name place at. refl; holds = refl; reads = refl; indexed = refl })

pub names_then : (a b c : SessionSeen) → NamesStay a b → NamesStay b c → NamesStay a c
names_then a b c x y = record {
  opens = λ n. y.opens n ∙ x.opens n;
  places = λ n name. y.places n name ∙ x.places n name;
  entries = λ n name place at. y.entries n name place (x.places n name ∙ at) ∙ x.entries n name place at;
  holds = y.holds ∙ x.holds;
  reads = y.reads ∙ x.reads;
  indexed = y.indexed ∙ x.indexed;
}

pub files_room : (s s' : SessionSeen) → IsSame s s' → FilesStay s s'
files_room s s' e =
    subst (λ (q : SessionSeen). FilesStay s q) (sym e)
    (record { made = refl; chains = refl; writes = refl; bodies = λ n kind o. refl; slots = λ n. refl })

pub files_then : (a b c : SessionSeen) → NamesStay a b → FilesStay a b → FilesStay b c → FilesStay a c
files_then a b c n x y = record {
  made = y.made ∙ x.made;
  chains = y.chains ∙ x.chains;
  writes = y.writes ∙ x.writes;
  bodies = λ k kind o. y.bodies k kind (n.opens k ∙ o) ∙ x.bodies k kind o;
  slots = λ k. y.slots k ∙ x.slots k;
}

-- what an allotment leaves
module _ (desk : DeskSeen) (s : SessionSeen) (may : MayEdit desk s) (ps ns : List ℕ) (has : HasPagesOf (in_hand s) (in_hand (with_allotted s ps ns))) (once : are_new [] (pages_in_hand (in_hand (with_allotted s ps ns))) ≡ true) where
  abbrev x : SessionSeen
  x = with_allotted s ps ns

  same_block : (dir : ℕ) (kind : Kind) → open_kind s dir ≡ Some kind → (n : ℕ) → In n (chain_in s dir).blocks → page_in x.parcel n ≡ page_in s.parcel n
  same_block dir kind o n i =
      page_in-more (in_hand s) (in_hand x) n has once ((open_chain desk s dir kind may o).held n (In-right n (chain_in s dir).index (chain_in s dir).blocks i))

  pages_still : (dir : ℕ) → pages_shown x dir ≡ pages_shown s dir
  pages_still dir = by (open_kind s dir) refl
    where
      by : (q : Option Kind) → open_kind s dir ≡ q → pages_shown x dir ≡ pages_shown s dir
      by (Some k) o =
          pages_shown-open x dir k o ∙ map-each (page_in x.parcel) (page_in s.parcel) (chain_in s dir).blocks (same_block dir k o) ∙ sym (pages_shown-open s dir k o)
      by None o = pages_shown-read x dir o ∙ sym (pages_shown-read s dir o)

  block_still : (dir k : ℕ) → block_shown x dir k ≡ block_shown s dir k
  block_still dir k = by (open_kind s dir) refl
    where
      by : (q : Option Kind) → open_kind s dir ≡ q → block_shown x dir k ≡ block_shown s dir k
      by None o = block_shown-read x dir k o ∙ sym (block_shown-read s dir k o)
      by (Some kind) o = block_shown-open x dir kind k o ∙ at (slice_get (chain_in s dir).blocks k) refl ∙ sym (block_shown-open s dir kind k o)
        where
          at : (q : Option ℕ) → slice_get (chain_in s dir).blocks k ≡ q → option_map (page_in x.parcel) q ≡ option_map (page_in s.parcel) q
          at None e = refl
          at (Some n) e = ap Some (same_block dir kind o n (slice_get-In (chain_in s dir).blocks k n e))

  slots_still : (dir : ℕ) → slots_shown x dir ≡ slots_shown s dir
  slots_still dir = ap (slots_of every_number) (pages_still dir)

  body_still : (n : ℕ) → body_in x n ≡ body_in s n
  body_still n = by (made_file s n) refl
    where
      by : (q : Option MadeFile) → made_file s n ≡ q
          → option_map_or (made_body x) q (option_map_or (λ (f : Shown). f.body) (written_file s n) []) ≡ option_map_or (made_body s) q (option_map_or (λ (f : Shown). f.body) (written_file s n) [])
      by None e = refl
      by (Some mf) e =
          let i : In mf s.made = (find-In (λ (m : MadeFile). eqb m.ino n) s.made mf e).0 in
          ap (body_in_slot mf.slot) (page_in-more (in_hand s) (in_hand x) mf.page has once (slot_held desk s mf may i))

  allotted_names : NamesStay s x
  allotted_names = record {
    opens = λ n. refl;
    places = λ n name. ap (λ l. place_of (kind_shown s n) l name) (slots_still n);
    entries = λ n name place at. ap (option_and_then (λ bytes. entry_in (slot_of every_number (slot_bytes place.slot bytes)))) (block_still n place.block);
    holds = refl;
    reads = refl;
    indexed = refl;
  }

  allotted_files : FilesStay s x
  allotted_files = record { made = refl; chains = refl; writes = refl; bodies = λ n kind o. body_still n; slots = slots_still }

-- the sheets of what was in hand are in hand still
more_sheets : (s : SessionSeen) (ps ns : List ℕ) → HasPagesOf (in_hand s) (in_hand (with_allotted s ps ns))
more_sheets s ps ns y i =
    let lent : List Sheet = flat_map (λ (w : Written). w.index ++ w.blocks) (bundle_of s.parcel).writes in
    let old : List Sheet = (bundle_of s.parcel).pages in
    let new : List Sheet = map fresh_sheet (map (zero_page s.lib) ps) in
    subst (λ l. In y (lent ++ l)) (sym (map-append fresh_sheet s.parcel.pages (map (zero_page s.lib) ps)))
    (elim (In-cases y lent old i) [ inl a ↦ In-left y lent (old ++ new) a | inr b ↦ In-right y lent (old ++ new) (In-left y old new b) ])

-- on a number on which nothing is out, and which none has that was made, the session has nothing
unlent_number : (desk : DeskSeen) (s : SessionSeen) (n : ℕ) → MayEdit desk s → (In n (files_out desk.out) → ⊥) → made_file s n ≡ None → grant_in s n ≡ None
unlent_number desk s n may free none = grant-none s n opens held read
  where
    writes : List ℕ
    writes = map (λ (w : Shown). w.ino) desk.out.writes

    reads : List ℕ
    reads = map (λ (r : Shown). r.ino) desk.out.reads

    written : (o : Option LentFile) → find (λ (f : LentFile). eqb f.stands.ino n) s.parcel.writes ≡ o → option_map (λ (f : Shown). f.kind) (option_map (λ (f : LentFile). f.stands) o) ≡ None
    written None e = refl
    written (Some f) e =
        let i = find-In (λ (z : LentFile). eqb z.stands.ino n) s.parcel.writes f e in
        let number : f.lent.ino ≡ n = sym (may.all.given.writes f i.0).same.ino ∙ eqb-true f.stands.ino n i.1 in
        let out : In f.lent desk.out.writes = subst (λ l. In f.lent l) (sym may.on.out.writes) (In-map (λ (z : LentFile). z.lent) f s.parcel.writes i.0) in
        absurd (free (In-left n (writes ++ reads) (hold_numbers desk.out.holds) (In-left n writes reads (subst (λ k. In k writes) number (In-map (λ (w : Shown). w.ino) f.lent desk.out.writes out)))))

    opens : open_kind s n ≡ None
    opens =
        ap (λ (q : Option MadeFile). option_or (option_map (λ (m : MadeFile). m.kind) q) (option_map (λ (f : Shown). f.kind) (written_file s n))) none
        ∙ written (find (λ (f : LentFile). eqb f.stands.ino n) s.parcel.writes) refl

    held : held_file s n ≡ None
    held = by (held_file s n) refl
      where
        by : (o : Option HoldParts) → held_file s n ≡ o → held_file s n ≡ None
        by None e = e
        by (Some h) e =
            let i = find-In (λ (z : HoldParts). eqb z.ino n) s.parcel.holds h e in
            let number : h.ino ≡ n = eqb-true h.ino n i.1 in
            let out : In h desk.out.holds = subst (λ l. In h l) (sym may.on.out.holds) i.0 in
            absurd (free (In-right n (writes ++ reads) (hold_numbers desk.out.holds) (subst (λ k. In k (hold_numbers desk.out.holds)) number (In-map (λ (z : HoldParts). z.ino) h desk.out.holds out))))

    read : read_file s n ≡ None
    read = by (read_file s n) refl
      where
        by : (o : Option Shown) → read_file s n ≡ o → read_file s n ≡ None
        by None e = e
        by (Some f) e =
            let i = find-In (λ (z : Shown). eqb z.ino n) s.reads f e in
            let number : f.ino ≡ n = eqb-true f.ino n i.1 in
            let out : In f desk.out.reads = subst (λ l. In f l) (sym may.on.out.reads) i.0 in
            absurd (free (In-left n (writes ++ reads) (hold_numbers desk.out.holds) (In-right n writes reads (subst (λ k. In k reads) number (In-map (λ (z : Shown). z.ino) f desk.out.reads out)))))

-- a number that is spare is none of a file that was made
pub spare_unmade : (s : SessionSeen) (n : ℕ) → In n (spare_numbers s) → made_file s n ≡ None
spare_unmade s n i =
    let spare = filter-In (λ k. not (is_among k (used_numbers s))) n (ino_numbers s.parcel.inodes) i in
    find-absent n s.made
    (λ j. false≢true (ap not (sym (In-is_among n (used_numbers s)
    (subst (λ l. In n l) (sym (map-append number_of s.made s.cleared)) (In-left n (map number_of s.made) (map number_of s.cleared) j)))) ∙ spare.1))

-- nor of one whose slot was cleared
pub spare_uncleared : (s : SessionSeen) (n : ℕ) → In n (spare_numbers s) → cleared_file s n ≡ None
spare_uncleared s n i =
    let spare = filter-In (λ k. not (is_among k (used_numbers s))) n (ino_numbers s.parcel.inodes) i in
    find-absent n s.cleared
    (λ j. false≢true (ap not (sym (In-is_among n (used_numbers s)
    (subst (λ l. In n l) (sym (map-append number_of s.made s.cleared)) (In-right n (map number_of s.made) (map number_of s.cleared) j)))) ∙ spare.1))

-- what a session is after an allotment of these
abbrev TookThem : DeskSeen → SessionSeen → List ℕ → List ℕ → Type 0
TookThem desk s ps ns =
    let x = with_allotted s ps ns in
    TookMore desk s x × (spare_pages s ≡ [] → (spare_pages x ≡ ps) × AreSpare desk x) × (spare_numbers s ≡ [] → spare_numbers x ≡ ns)
    × NamesStay s x × FilesStay s x × (spare_numbers s ≡ [] → (n : ℕ) → In n (spare_numbers x) → grant_in x n ≡ None)

given_took : (desk desk' : DeskSeen) (s : SessionSeen) (pages numbers : ℕ) (ps ns : List ℕ) (given : AllottedPages) → ps ≡ page_numbers given.pages.items → ns ≡ ino_numbers given.inodes.items
    → IsFreshAllotment desk.lib desk.sizes desk.out given → MayCall desk s → SeenAfter desk (Allot pages numbers) (Given ps ns) desk' → IsOn desk' (with_allotted s ps ns) → TookThem desk' s ps ns
given_took desk desk' s pages numbers ps ns given p n fresh may =
    let P : List ℕ = page_numbers given.pages.items in
    let N : List ℕ = ino_numbers given.inodes.items in
    subst (λ q. SeenAfter desk (Allot pages numbers) (Given q ns) desk' → IsOn desk' (with_allotted s q ns) → TookThem desk' s q ns) (sym p)
    (subst (λ q. SeenAfter desk (Allot pages numbers) (Given P q) desk' → IsOn desk' (with_allotted s P q) → TookThem desk' s P q) (sym n)
    (λ seen on.
    let t = keeps_allotment desk desk' s pages numbers given may.edits may.comes fresh seen on in
    let has : HasPagesOf (in_hand s) (in_hand (with_allotted s P N)) = λ y i. more_sheets s P N y i in (
      t.0,
      t.1,
      t.2,
      allotted_names desk s may.edits P N has t.0.takes.order.pages,
      allotted_files desk s may.edits P N has t.0.takes.order.pages,
      λ none k i.
          let fresh' : In k N = subst (λ l. In k l) (t.2 none) i in
          unlent_number desk s k may.edits (λ out. fresh.unlent k fresh' out) (spare_unmade (with_allotted s P N) k i),
    )))

-- ---- what comes of the wish

module _ {D : Type 0} (called : D → Ask → Told → D → Type 0) (seen : D → DeskSeen) (d : D) (s : SessionSeen) (pages numbers : ℕ) (d' : D) (s' : SessionSeen) (may : MayCall (seen d) s) where
  -- nothing was given
  pub wanted_none : (last : List Call) → Calls called d last d' → SameDesk (seen d) (seen d') → MayGoOn (seen d') s → IsSame s s' → Wanted called seen d s [] last d' s'
  wanted_none last made same go_on e = record {
    each = λ c i. absurd i;
    made = made;
    calls = ap (λ (q : SessionSeen). q.calls) e;
    same = same;
    more = λ nodes rows p. subst (λ (q : SessionSeen). ArePossible (seen d') q.parcel q.reads nodes rows) e p;
    may = go_on_alike (seen d') s s' (alike_room s s' e) go_on;
    stays = names_room s s' e;
  }

  -- no call was made of the desk
  pub stood : d' ≡ d → IsSame s s' → Wanted called seen d s [] [] d' s'
  stood stays e =
      let desk : seen d' ≡ seen d = ap seen stays in
      wanted_none [] stays (record { lib = ap (λ (x : DeskSeen). x.lib) desk; creds = ap (λ (x : DeskSeen). x.creds) desk; sizes = ap (λ (x : DeskSeen). x.sizes) desk; root = ap (λ (x : DeskSeen). x.root) desk })
      (subst (λ x. MayGoOn x s) (sym desk) (may_go_on (seen d) s may)) e

  pub spent_still : IsSame s s' → spare_pages s' ≡ []
  spent_still e = ap (λ (q : SessionSeen). spare_pages q) e ∙ may.spent

  pub numbers_still : IsSame s s' → spare_numbers s' ≡ []
  numbers_still e = ap (λ (q : SessionSeen). spare_numbers q) e ∙ may.spent_numbers

  -- so it is that nothing was given, however that ends
  none_given : (last : List Call) (result : Result Unit AllotFault) → Wanted called seen d s [] last d' s' → IsSame s s' → AllotEnds (seen d') pages numbers [] last result s' → Allotted called seen d s pages numbers result d' s'
  none_given last result wanted e ends =
      record { given = []; last = last; wanted = wanted; alike = alike_room s s' e; lent = λ x. refl; files = files_room s s' e; ends = ends }

  none_wanted : pages ≡ 0 → numbers ≡ 0 → d' ≡ d → s' ≡ s → Allotted called seen d s pages numbers (Ok tt) d' s'
  none_wanted no_page no_number stays same =
      let e : IsSame s s' = same ∙ ap (λ r. record s { room = r }) (sym (ap (λ (q : SessionSeen). q.room) same)) in
      none_given [] (Ok tt) (stood stays e) e (
        refl,
        ap (λ n. allot_asks n numbers) no_page ∙ ap (allot_asks 0) no_number,
        (λ n i. absurd (subst (λ l. In n l) (spent_still e) i)),
        ap (λ (l : List ℕ). length l) (spent_still e) ∙ sym no_page,
        record { many = ap (λ (l : List ℕ). length l) (numbers_still e) ∙ sym no_number; unlent = λ n i. absurd (subst (λ l. In n l) (numbers_still e) i) },
      )

  unasked : d' ≡ d → IsSame s s' → Allotted called seen d s pages numbers (Err NoMemory) d' s'
  unasked stays e =
      none_given [] (Err NoMemory) (stood stays e) e (record { none = refl; ends = inr (refl, refl); spent = spent_still e; spent_numbers = numbers_still e })

  module _ (asks : allot_asks pages numbers ≡ Allot pages numbers ∷ []) (on : IsOn (seen d') s') where
    -- the desk told a fault
    refused : (fault : AllotFault) → called d (Allot pages numbers) (NotGiven fault) d' → TellsAllotment (seen d) pages numbers (NotGiven fault) (seen d') → IsSame s s' → Allotted called seen d s pages numbers (Err fault) d' s'
    refused fault made tells e =
        let last : List Call = record { ask = Allot pages numbers; told = NotGiven fault } ∷ [] in
        let same = same_seen (seen d) (seen d') (Allot pages numbers) (NotGiven fault) tells.seen in
        let on_s : IsOn (seen d') s = on_alike (seen d') s' s (alike_back s s' (alike_room s s' e)) on in
        none_given last (Err fault) (wanted_none last (d', made, refl) same (may_go_on (seen d') s (may_same (seen d) (seen d') s same may on_s)) e) e
        (record { none = refl; ends = inl (record { told = refl; asks = asks; lack = tells.lack }); spent = spent_still e; spent_numbers = numbers_still e })

    -- they are given
    gave : (ps ns : List ℕ) → called d (Allot pages numbers) (Given ps ns) d' → TellsAllotment (seen d) pages numbers (Given ps ns) (seen d') → IsSame (with_allotted s ps ns) s' → Allotted called seen d s pages numbers (Ok tt) d' s'
    gave ps ns made tells same =
        let desk : DeskSeen = seen d in
        let desk' : DeskSeen = seen d' in
        let x : SessionSeen = with_allotted s ps ns in
        let alike : IsAlike x s' = alike_room x s' same in
        let on_x : IsOn desk' x = on_alike desk' s' x (alike_back x s' alike) on in
        let given = tells.fits.0 in
        let ps_is : ps ≡ page_numbers given.pages.items = tells.fits.3 in
        let ns_is : ns ≡ ino_numbers given.inodes.items = tells.fits.4 in
        let desks = same_seen desk desk' (Allot pages numbers) (Given ps ns) tells.seen in
        let t : TookThem desk' s ps ns = given_took desk desk' s pages numbers ps ns given ps_is ns_is tells.fits.1 may tells.seen on_x in
        let comes' : ComesToShown desk' s.parcel s.reads s.calls = comes_same desk desk' s desks may.comes in
        let kept : (n : ℕ) → In n (ino_numbers s.parcel.inodes) → In n (ino_numbers x.parcel.inodes) =
        λ n i. subst (λ l. In n l) (sym (map-append (λ (p : InoParts). p.no) s.parcel.inodes (map (new_ino s.lib) ns))) (In-left n (ino_numbers s.parcel.inodes) (ino_numbers (map (new_ino s.lib) ns)) i) in
        let go_on : MayGoOn desk' x = record {
          edits = t.0.may;
          comes = taking_keeps desk' (in_hand s) (in_hand x) s.calls t.0.takes comes';
          made = λ q i some. kept q.made (may.made q i some);
        } in
        let spare = t.1 may.spent in
        let spare_ns : spare_numbers x ≡ ns = t.2 may.spent_numbers in
        record {
          given = record { ask = Allot pages numbers; told = Given ps ns } ∷ [];
          last = [];
          wanted = record {
            each = λ c i. elim i [ inl e ↦ inr (ps, ns, ap (λ (k : Call). k.told) e) | inr none ↦ absurd none ];
            made = (d', made, refl);
            calls = ap (λ (q : SessionSeen). q.calls) alike;
            same = desks;
            more = λ nodes rows p. t.0.takes.more nodes rows (subst (λ (q : SessionSeen). ArePossible desk' q.parcel q.reads nodes rows) alike p);
            may = go_on_alike desk' x s' alike go_on;
            stays = names_then s x s' t.3 (names_room x s' same);
          };
          alike = alike;
          lent = λ y. refl;
          files = files_then s x s' t.3 t.4 (files_room x s' same);
          ends = (
            refl,
            asks,
            spare_alike desk' x s' alike spare.1,
            ap (λ (q : SessionSeen). length (spare_pages q)) alike ∙ ap (λ (l : List ℕ). length l) (spare.0 ∙ ps_is) ∙ length-map given.pages.items (λ (p : FreshParts). p.no.0) ∙ tells.fits.2.pages,
            record {
              many =
                  ap (λ (q : SessionSeen). length (spare_numbers q)) alike ∙ ap (λ (l : List ℕ). length l) (spare_ns ∙ ns_is) ∙ length-map given.inodes.items (λ (p : InoParts). p.no) ∙ tells.fits.2.numbers;
              unlent = λ n i. ap (λ (q : SessionSeen). grant_in q n) alike ∙ t.5 may.spent_numbers n (subst (λ l. In n l) (ap (λ (q : SessionSeen). spare_numbers q) alike) i);
            },
          );
        }

    asked : (result : Result Unit AllotFault) → OneCall called d (Allot pages numbers) d' (λ told. TellsAllotment (seen d) pages numbers told (seen d') × AfterWant s result s' told) (NoWant s result s')
        → Allotted called seen d s pages numbers result d' s'
    asked result (NotMade stays none) = subst (λ r. Allotted called seen d s pages numbers r d' s') (sym none.0) (unasked stays none.1)
    asked result (Made told made then') = by told made then'.0 then'.1
      where
        by : (told : Told) → called d (Allot pages numbers) told d' → TellsAllotment (seen d) pages numbers told (seen d') → AfterWant s result s' told → Allotted called seen d s pages numbers result d' s'
        by (Given ps ns) made tells after = subst (λ r. Allotted called seen d s pages numbers r d' s') (sym after.0) (gave ps ns made tells after.1)
        by (NotGiven fault) made tells after = subst (λ r. Allotted called seen d s pages numbers r d' s') (sym after.0) (refused fault made tells after.1)
        by (Lent lease) made tells after = absurd after
        by (NotLent fault) made tells after = absurd after
        by GivenBack made tells after = absurd after
        by (Judged answer) made tells after = absurd after
        by (NotJudged fault) made tells after = absurd after
        by Settled made tells after = absurd after
        by NotSettled made tells after = absurd after
        by ModeSet made tells after = absurd after
        by (NotModeSet fault) made tells after = absurd after

  -- what a session is after an allotment
  pub allotted : (result : Result Unit AllotFault) → IsOn (seen d') s' → Allots called seen d s pages numbers result d' s' → Allotted called seen d s pages numbers result d' s'
  allotted result on (NoneWanted no_page no_number end stays same) = subst (λ r. Allotted called seen d s pages numbers r d' s') (sym end) (none_wanted no_page no_number stays same)
  allotted result on (SomeWanted asks call) = asked asks on result call

-- ---- places were made before

-- chains, growths and places of files that stay
pub chain_files : (s s' : SessionSeen) → FilesStay s s' → (n : ℕ) → chain_in s' n ≡ chain_in s n
chain_files s s' f n =
    let by : List MadeFile → List Chain → List LentFile → Chain =
    λ ms cs ws. option_map_or (λ (m : MadeFile). m.chain) (find (λ (m : MadeFile). eqb m.ino n) ms) (option_map_or (λ i. slice_index_or cs i no_chain) (position (λ (w : LentFile). eqb w.stands.ino n) ws) no_chain) in
    ap (λ ms. by ms s'.chains s'.parcel.writes) f.made ∙ ap (λ cs. by s.made cs s'.parcel.writes) f.chains ∙ ap (by s.made s.chains) f.writes

pub growth_files : (s s' : SessionSeen) → FilesStay s s' → (dir : ℕ) → slot_growth s' dir ≡ slot_growth s dir
growth_files s s' f dir =
    let by : Chain → List (Option (List ℕ)) → ℕ = λ c l. cond (is_some (first_empty l)) 0 (growth (length c.blocks) (length c.blocks + 1)) in
    ap (λ c. by c (slots_shown s' dir)) (chain_files s s' f dir) ∙ ap (by (chain_in s dir)) (f.slots dir)

pub room_files : (s s' : SessionSeen) → FilesStay s s' → s'.room ≡ s.room → (n : ℕ) → room_in s' n ≡ room_in s n
room_files s s' f e n =
    let by : Room → List MadeFile → List LentFile → ℕ =
    λ k ms ws. option_map_or (λ i. slice_index_or k.made_blocks i 0) (position (λ (m : MadeFile). eqb m.ino n) ms) (option_map_or (λ i. slice_index_or k.blocks i 0) (position (λ (w : LentFile). eqb w.stands.ino n) ws) 0) in
    ap (λ k. by k s'.made s'.parcel.writes) e ∙ ap (λ ms. by s.room ms s'.parcel.writes) f.made ∙ ap (by s.room s.made) f.writes

-- what is so from the session with its places is so from the session before
pub allotted_before : {D : Type 0} (called : D → Ask → Told → D → Type 0) (seen : D → DeskSeen) (d : D) (s s1 : SessionSeen) (pages numbers : ℕ) (result : Result Unit AllotFault) (d' : D) (s' : SessionSeen)
    → IsSame s s1 → Allotted called seen d s1 pages numbers result d' s' → Allotted called seen d s pages numbers result d' s'
allotted_before called seen d s s1 pages numbers result d' s' e a = record {
  given = a.given;
  last = a.last;
  wanted = record {
    each = a.wanted.each;
    made = a.wanted.made;
    calls = a.wanted.calls ∙ ap (λ (q : SessionSeen). q.calls) e;
    same = a.wanted.same;
    more = λ nodes rows p. subst (λ (q : SessionSeen). ArePossible (seen d') q.parcel q.reads nodes rows) e (a.wanted.more nodes rows p);
    may = a.wanted.may;
    stays = names_then s s1 s' (names_room s s1 e) a.wanted.stays;
  };
  alike =
      let told : List Told = map (λ (c : Call). c.told) a.given in
      alike_then (took s told) (took s1 told) s' (took_alike s s1 told (alike_room s s1 e)) a.alike;
  lent = a.lent;
  files = files_then s s1 s' (names_room s s1 e) (files_room s s1 e) a.files;
  ends = a.ends;
}

-- ---- nothing was given

module _ (pages numbers : ℕ) (given last : List Call) (s : SessionSeen) where
  -- another fault than want of memory was told
  pub told_fault : (fault : AllotFault) → IsUngiven pages numbers fault given last s → (fault ≡ NoMemory → ⊥) → IsToldFault pages numbers fault last
  told_fault fault x other = elim x.ends [ inl told ↦ told | inr none ↦ absurd (other none.1) ]

  -- the calls were these
  only : (l : List Call) → given ≡ [] → last ≡ l → map (λ (c : Call). c.ask) (given ++ last) ≡ map (λ (c : Call). c.ask) l
  only l none are = ap (λ (q : List Call). map (λ (c : Call). c.ask) (q ++ last)) none ∙ ap (map (λ (c : Call). c.ask)) are

  pub asks_fault : (fault : AllotFault) → given ≡ [] → IsToldFault pages numbers fault last → allot_asks pages numbers ≡ map (λ (c : Call). c.ask) (given ++ last)
  asks_fault fault none told = told.asks ∙ sym (only (record { ask = Allot pages numbers; told = NotGiven fault } ∷ []) none told.told)

  -- for want of memory they may have been none
  pub asks_short : IsUngiven pages numbers NoMemory given last s → (rest : List Ask) × (allot_asks pages numbers ≡ map (λ (c : Call). c.ask) (given ++ last) ++ rest)
  asks_short x =
      elim x.ends [
        | inl told ↦ ([], asks_fault NoMemory x.none told ∙ sym (append-nil (map (λ (c : Call). c.ask) (given ++ last))))
        | inr none ↦ (allot_asks pages numbers, sym (ap (λ (l : List Ask). l ++ allot_asks pages numbers) (only [] x.none none.0)))
      ]
