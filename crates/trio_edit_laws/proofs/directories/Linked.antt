-- A link that is made with its text is a new node.
use Rattle.trio_edit_laws.proofs.Words.{◌&&◌, ◌++◌, ◌+◌, ◌-◌, ◌<◌, ◌∙◌, ◌∷◌, ◌≡◌, ◌≤◌, AreSpare, AreWithinLimits, Becomes, Body, Bool, Chain, Changes, DeskSeen, Directory, Entry, EntryPart, GetsBytes, In, In-right, IsInSlot, IsOpenDir, IsOpenFile, IsTree, Kind, List, MadeFile, MayEdit, MayShow, Node, Nodes, None, Option, Place, Regular, SessionSeen, Some, StaysTree, [], and_from, and_parts, ap, arith, block_count, body_at, body_in, body_in_slot, body_stands, bytes_in, chain_in, cond, drop, empty_shown, every_number, grant_in, growth, guard_in, in_hand, inl, inr, is_directory, is_name, length, made_body, made_file, node_at, open_kind, option_map, option_map_or, page_in, place_shown, refl, size_in, slot_bytes, slot_of, spare_numbers, spare_pages, subst, sym, true, false, with_changed, with_content, with_node, with_node-same, zero, suc, ℕ, append-nil, drop_all, Row, ArePossible, TakesMore, chained, listed_in_hand, no_chain, page_in-with_page_else, CoreRange, bytes_eq, nat_le, le-leb, In-is_among, ino_numbers, option_or, Shown, written_file, page_numbers, filter, not, eqb, drop-drop}
use Rattle.trio_rights.specs.declared.kind.Kind.TheVariants.{Link}
use Rattle.trio_laws.proofs.session.TakenMore.{becomes_through}
use Rattle.trio_nodes.specs.Apply.{put_at, resized}
use Rattle.trio_session.specs.Deeds.{link_made}
use Rattle.trio_session.specs.Layout.{body_sized}
use Rattle.trio_session.specs.Seen.{fill, grown, put}
use Rattle.trio_edit_laws.specs.DirLaws.{IsEmptyBody, LeavesFilled, LeavesLink, LinkLeaves, LinkShows, link_node, node_made}
use Rattle.trio_edit_laws.specs.EditLaws.{IsSpare}
use Rattle.trio_edit_laws.specs.session.SlotEdits.{rekinded}
use Rattle.trio_edit_laws.proofs.Gets.{becomes_as}
use Rattle.trio_edit_laws.proofs.Growing.{grow_gets}
use Rattle.trio_edit_laws.proofs.Keeps.{place_of_open}
use Rattle.trio_edit_laws.proofs.Opens.{open_chained}
use Rattle.trio_edit_laws.proofs.Puts.{put_shows}
use Rattle.trio_edit_laws.proofs.Resized.{length-resized}
use Rattle.trio_edit_laws.proofs.Sized.{guard_in-sized}
use Rattle.trio_edit_laws.proofs.directories.Filled.{FillNeeds, chained_filled, cond_some, fill_changes, fill_leaves, fill_more, fill_pages, fits, needs_of, none_cleared, sized, spare, unused_made}
use Rattle.trio_edit_laws.proofs.directories.LinkParts.{LinkGiven, body_filled, chain_filled, fill_then, filled_is, found_filled, found_put, grow_then, grown_is, made, made_of, put_body, put_entry, parcel_leaves, put_is, put_then, spare_as, spare_filled, turn_then}
use Rattle.trio_edit_laws.proofs.Anew.{body-made}
use Rattle.trio_edit_laws.proofs.directories.Places.{IsEmptyPlace, empty_place}
use Rattle.trio_edit_laws.proofs.directories.TreeTurned.{tree_turned}
use Rattle.trio_edit_laws.proofs.directories.Writes.{block_whole}
use Rattle.trio_layout.specs.Body.{body_bytes, body_fits, body_of, head_fits, size_fits}
use Rattle.trio_layout.specs.Range.{core_count}
use Rattle.trio_rights.specs.ByKind.{guard_fits}
use Rattle.trio_laws.specs.session.FileEdits.{node_with}
use Rattle.trio_edit_laws.proofs.directories.Sees.{entry_from}
use Rattle.trio_edit_laws.proofs.directories.Turned.{TurnNeeds, turn_changes, turned_session}

-- ---- nodes

with_node-again : (nodes : Nodes) (n : ℕ) (x y : Option Node) → with_node (with_node nodes n x) n y ≡ with_node nodes n y
with_node-again [] zero x y = refl
with_node-again [] (suc n) x y = ap (λ l. None ∷ l) (with_node-again [] n x y)
with_node-again (z ∷ zs) zero x y = refl
with_node-again (z ∷ zs) (suc n) x y = ap (λ l. z ∷ l) (with_node-again zs n x y)

-- a node that was put, and changed
changed_put : (nodes : Nodes) (n : ℕ) (x : Node) (f : Node → Node) → with_changed n f (with_node nodes n (Some x)) ≡ with_node nodes n (Some (f x))
changed_put nodes n x f =
    ap (λ o. with_node (with_node nodes n (Some x)) n (option_map f o)) (with_node-same nodes n (Some x)) ∙ with_node-again nodes n (Some x) (Some (f x))

-- bytes that are put over as many
put_over : (text old : List ℕ) → 0 < length text → length old ≡ length text → put_at 0 text old ≡ text
put_over [] old some same = absurd (let z = some in omega (arith, z))
put_over (b ∷ bs) old some same = search (arith, append-nil, drop_all)

-- ---- two pages

record IsPair (l : List ℕ) : Type 0 where
  pub first : ℕ
  pub second : ℕ
  pub rest : List ℕ
  pub is : l ≡ first ∷ (second ∷ rest)

pair_of : (l : List ℕ) → 2 ≤ length l → IsPair l
pair_of [] le = absurd (let z = le in omega (arith, z))
pair_of (x ∷ []) le = absurd (let z = le in omega (arith, z))
pair_of (x ∷ (y ∷ l)) le = record { first = x; second = y; rest = l; is = refl }

one_block : (size : ℕ) → 0 < size → size ≤ 4096 → block_count size ≡ 1
one_block size some few = omega (arith, some, few)

-- ---- the body of a link

-- a body of a regular file that isn't guarded is one of a link, where its size is that of one
link_body : (range : CoreRange) (bytes : List ℕ) (b : Body) → body_of Regular range bytes ≡ Some b → 0 < b.size → b.size ≤ 4096 → b.guard ≡ false → body_of Link range bytes ≡ Some b
unfolding body_of
link_body range bytes b is some few guard =
    let x : Body = body_at bytes in
    let c = cond_some (bytes_eq bytes (body_bytes x) && body_fits Regular range x) x b is in
    let same : x ≡ b = c.1 in
    let spelled : Bool = bytes_eq bytes (body_bytes x) in
    let narrow : Bool = nat_le x.mode.0 511 && nat_le (block_count x.size) (core_count range) in
    let head : Bool = head_fits range (block_count x.size) x.head in
    let f = and_parts spelled (body_fits Regular range x) c.0 in
    let g = and_parts ((narrow && true) && head) (guard_fits Regular x.guard) f.1 in
    let h = and_parts (narrow && true) head g.0 in
    let k = and_parts narrow true h.0 in
    let size : size_fits Link x.size ≡ true =
    and_from (nat_le 1 x.size) (nat_le x.size 4096) (le-leb 1 x.size (subst (λ (z : Body). 1 ≤ z.size) (sym same) some)) (le-leb x.size 4096 (subst (λ (z : Body). z.size ≤ 4096) (sym same) few)) in
    let plain : guard_fits Link x.guard ≡ true = ap (λ t. guard_fits Link t) (ap (λ (z : Body). z.guard) same ∙ guard) in
    let all : spelled && body_fits Link range x ≡ true =
    and_from spelled (body_fits Link range x) f.0
    (and_from ((narrow && size_fits Link x.size) && head) (guard_fits Link x.guard) (and_from (narrow && size_fits Link x.size) head (and_from narrow (size_fits Link x.size) k.0 size) h.1) plain) in
    ap (λ t. cond t (Some x) None) all ∙ ap Some same

-- ---- the law

-- what is given of a link that is made, but for its pages' bytes
pub record LinkMade (desk : DeskSeen) (s : SessionSeen) (dir' : ℕ) (place' : Place) (name' : List ℕ) (n' : ℕ) (body' : List ℕ) (b : Body) (text' : List ℕ) : Type 0 where
  pub limits : AreWithinLimits desk.sizes
  pub may : MayEdit desk s
  pub opens : IsOpenDir s dir'
  pub empty : empty_shown s dir' ≡ Some place'
  pub free : place_shown s dir' name' ≡ None
  pub name : is_name name' ≡ true
  pub spare : In n' (spare_numbers s)
  pub unlent : grant_in s n' ≡ None
  pub body : IsEmptyBody desk Regular body' b
  pub some : 0 < length text'
  pub few : length text' ≤ 4096
  pub pages : 2 ≤ length (spare_pages s)

module _ (desk : DeskSeen) (s : SessionSeen) (dir : ℕ) (place : Place) (name : List ℕ) (n : ℕ) (body : List ℕ) (b : Body) (text : List ℕ)
    (z : LinkMade desk s dir place name n body b text) where
  abbrev q : FillNeeds desk s dir place name n Regular body b
  q = needs_of desk s dir place name n Regular body b z.limits z.may z.opens z.empty z.free z.name z.spare z.unlent z.body

  p : IsEmptyPlace s dir q.opens place
  p = empty_place s dir q.opens place z.empty

  abbrev num : ℕ
  num = p.there.number

  pair : IsPair (spare_pages s)
  pair = pair_of (spare_pages s) z.pages

  abbrev i : ℕ
  i = pair.first

  abbrev k : ℕ
  k = pair.second

  body_stands_so : body_at body ≡ b
  body_stands_so = body_stands Regular desk.sizes.range body b z.body.is

  given : LinkGiven s dir place name n body (length text) p.there.number pair.first pair.second pair.rest
  given = record {
    empty = z.empty;
    block = p.there.is;
    slot = p.there.slot;
    whole = block_whole desk s dir num z.may q.opens p.there.block;
    unmade = unused_made desk s dir place name n Regular body b q;
    uncleared = none_cleared desk s dir place name n Regular body b q;
    allotted = In-is_among n (ino_numbers s.parcel.inodes) (spare desk s dir place name n Regular body b q).0;
    fits = fits desk s dir place name n Regular body b q;
    sized = sized desk s dir place name n Regular body b q;
    none = ap (λ (y : Body). y.size) body_stands_so ∙ z.body.size;
    pages = pair.is;
    one = one_block (length text) z.some z.few;
    some = z.some;
  }

  abbrev A : SessionSeen
  A = filled_is s dir place name n body text num i k pair.rest given Regular

  abbrev G : SessionSeen
  G = grown_is s dir place name n body text num i k pair.rest given Regular

  abbrev P : SessionSeen
  P = put_is s dir place name n body text num i k pair.rest given Regular

  abbrev L : SessionSeen
  L = put_is s dir place name n body text num i k pair.rest given Link

  link_is : link_made dir name n body text s ≡ L
  link_is = made_of s dir place name n body text num i k pair.rest given Link

  filled : fill dir name n Regular body s ≡ A
  filled = fill_then s dir place name n body text num i k pair.rest given Regular

  abbrev node : Node
  node = node_made dir name Regular b

  abbrev first : Nodes → Nodes
  first nodes = with_node nodes n (Some (node_made dir name Regular b))

  abbrev change : Nodes → Nodes
  change nodes = with_node nodes n (Some (link_node dir name b text))

  more : TakesMore desk (in_hand s) (in_hand A)
  more = subst (λ y. TakesMore desk (in_hand s) (in_hand y)) filled (fill_more desk s dir place name n Regular body b q)

  -- ---- what it leaves

  pages_kept : page_numbers L.parcel.pages ≡ page_numbers s.parcel.pages
  pages_kept = (parcel_leaves s dir place name n body text num i k pair.rest given Link).pages

  numbers_left : spare_numbers L ≡ filter (λ j. not (eqb j n)) (spare_numbers s)
  numbers_left =
      let f = fill_leaves desk s dir place name n Regular body b z.limits z.may z.opens z.empty z.free z.name z.spare z.unlent z.body in
      spare_as s dir place name n body text num i k pair.rest given ∙ ap spare_numbers (sym filled) ∙ f.numbers

  pub link_left : LeavesLink s (link_made dir name n body text s) n
  link_left =
      subst (λ y. LeavesLink s y n) (sym link_is)
      (record {
        calls = refl;
        inodes = (parcel_leaves s dir place name n body text num i k pair.rest given Link).inodes;
        pages = ap (drop (s.placed + 2)) pages_kept ∙ sym (drop-drop 2 s.placed (page_numbers s.parcel.pages));
        numbers = numbers_left;
      })

  -- ---- with pages that are spare, and nodes that stay a tree

  module _ (spares : AreSpare desk s) (tree : StaysTree desk s s (λ nodes. with_node nodes n (Some (link_node dir name b text)))) where
    -- the directory's page is none of them
    block_chained : In p.there.number (chained s)
    block_chained = open_chained s dir num (place_of_open desk s dir Directory z.may q.opens) (In-right num (chain_in s dir).index (chain_in s dir).blocks p.there.block)

    apart : (j : ℕ) → In j (spare_pages s) → p.there.number ≡ j → ⊥
    apart j at same = (spares j at).unchained (subst (λ m. In m (chained s)) same block_chained)

    apart_i : p.there.number ≡ pair.first → ⊥
    apart_i = apart i (subst (λ l. In i l) (sym pair.is) (inl refl))

    apart_k : p.there.number ≡ pair.second → ⊥
    apart_k = apart k (subst (λ l. In k l) (sym pair.is) (inr (inl refl)))

    -- ---- the fill

    tree_filled : StaysTree desk s (fill dir name n Regular body s) (λ nodes. with_node nodes n (Some (node_made dir name Regular b)))
    tree_filled nodes nodes' rows may =
        let t = tree nodes nodes' rows (record { possible = fill_more desk s dir place name n Regular body b q nodes rows may.possible; tree = may.tree; shows = may.shows }) in
        subst IsTree (with_node-again nodes' n (Some (link_node dir name b text)) (Some node))
        (tree_turned (with_node nodes' n (Some (link_node dir name b text))) t n (link_node dir name b text) node (with_node-same nodes' n (Some (link_node dir name b text))) refl refl refl)

    fills : Changes desk s A (λ nodes. with_node nodes n (Some (node_made dir name Regular b)))
    fills = subst (λ y. Changes desk s y first) filled (fill_changes desk s dir place name n Regular body b q tree_filled)

    pages_then : (nodes : Nodes) (rows : List (Option Row)) → ArePossible desk A.parcel A.reads nodes rows → (j : ℕ) → In j (listed_in_hand desk (in_hand A)) → In j (listed_in_hand desk (in_hand s))
    pages_then =
        subst (λ y. (nodes : Nodes) (rows : List (Option Row)) → ArePossible desk y.parcel y.reads nodes rows → (j : ℕ) → In j (listed_in_hand desk (in_hand y)) → In j (listed_in_hand desk (in_hand s)))
        filled (fill_pages desk s dir place name n Regular body b q tree_filled)

    chained_then : chained A ≡ chained s
    chained_then = ap chained (sym filled) ∙ chained_filled desk s dir place name n Regular body b q

    spares_then : AreSpare desk A
    spares_then j at =
        let at' : In j (spare_pages s) = subst (λ l. In j l) (spare_filled s dir place name n body text num i k pair.rest given Regular) at in
        let w = spares j at' in
        record {
          zero = page_in-with_page_else num j _ s.parcel (λ e. apart j at' (sym e)) ∙ w.zero;
          unchained = λ c. w.unchained (subst (λ l. In j l) chained_then c);
          unlisted = λ nodes rows possible l. w.unlisted nodes rows (more nodes rows possible) (pages_then nodes rows possible j l);
        }

    -- ---- the growth

    opens_filled : open_kind A n ≡ Some Regular
    opens_filled =
        ap (λ o. option_or (option_map (λ (y : MadeFile). y.kind) o) (option_map (λ (f : Shown). f.kind) (written_file A n)))
        (found_filled s dir place name n body text num i k pair.rest given Regular)

    chain_none : chain_in A n ≡ no_chain
    chain_none = chain_filled s dir place name n body text num i k pair.rest given Regular

    body_is : body_in A n ≡ body
    body_is = body_filled s dir place name n body text num i k pair.rest given Regular

    room : growth (length (chain_in A n).blocks) (block_count (length text)) ≤ length (spare_pages A)
    room =
        let two : growth 0 1 ≤ length (spare_pages s) = z.pages in
        subst (λ (c : Chain). growth (length c.blocks) (block_count (length text)) ≤ length (spare_pages A)) (sym chain_none)
        (subst (λ l. growth 0 (block_count (length text)) ≤ length l) (sym (spare_filled s dir place name n body text num i k pair.rest given Regular))
        (subst (λ c. growth 0 c ≤ length (spare_pages s)) (sym given.one) two))

    grows : GetsBytes desk A G n (resized (length text) (bytes_in A n))
    grows =
        subst (λ y. GetsBytes desk A y n (resized (length text) (bytes_in A n))) (grow_then s dir place name n body text num i k pair.rest given Regular)
        (grow_gets desk A n (length text) z.limits fills.may spares_then opens_filled
        (subst (λ l. size_in l ≤ length text) (sym body_is) (let none = given.none in omega (arith, none)))
        (let few = z.few in omega (arith, few)) room)

    -- ---- the text

    size_grown : size_in (body_in G n) ≡ length text
    size_grown = grows.size ∙ length-resized (length text) (bytes_in A n)

    bytes_long : length (bytes_in G n) ≡ length text
    bytes_long = ap (λ (l : List ℕ). length l) grows.bytes ∙ length-resized (length text) (bytes_in A n)

    puts : GetsBytes desk G P n text
    puts =
        subst (λ t. GetsBytes desk G P n t) (put_over text (bytes_in G n) z.some bytes_long)
        (subst (λ y. GetsBytes desk G y n (put_at 0 text (bytes_in G n))) (put_then s dir place name n body text num i k pair.rest given Regular)
        (put_shows desk G n 0 text grows.may grows.writable (let size = size_grown in omega (arith, size))))

    -- ---- the other kind

    dir_differs : dir ≡ n → ⊥
    dir_differs same = (let wrong : None ≡ Some Directory = sym q.unopened ∙ ap (open_kind s) (sym same) ∙ q.opens in absurd (cc wrong))

    left : LeavesFilled s A dir place (record { ino = n; kind = Regular; name = name })
    left = subst (λ y. LeavesFilled s y dir place (record { ino = n; kind = Regular; name = name })) filled
        (fill_leaves desk s dir place name n Regular body b z.limits z.may z.opens z.empty z.free z.name z.spare z.unlent z.body)

    opens_put : open_kind P dir ≡ Some Directory
    opens_put = puts.others.opens dir ∙ grows.others.opens dir ∙ left.files.opens dir dir_differs ∙ q.opens

    chain_put : chain_in P dir ≡ chain_in s dir
    chain_put = puts.others.chains dir dir_differs ∙ grows.others.chains dir dir_differs ∙ left.files.chains dir dir_differs

    in_slot : IsInSlot P (made s dir place name n body text num i k pair.rest given Regular)
    in_slot = record {
      directory = dir;
      opens = opens_put;
      block = subst (λ (c : Chain). In p.there.number c.blocks) (sym chain_put) p.there.block;
      slot = p.there.slot;
      entry = record { ino = n; kind = Regular; name = name };
      says =
          entry_from (slot_of every_number (slot_bytes place.slot (page_in P.parcel p.there.number))) (record { ino = n; kind = Regular; name = name })
          (put_entry s dir place name n body text num i k pair.rest given apart_i apart_k);
      number = refl;
      kind = refl;
    }

    abbrev file : MadeFile
    file = made s dir place name n body text num i k pair.rest given Regular

    body_put : made_body P file ≡ body_sized pair.first (length text) body
    body_put = put_body s dir place name n body text num i k pair.rest given apart_i apart_k

    body_open : body_in P n ≡ made_body P file
    body_open = body-made P n file (found_put s dir place name n body text num i k pair.rest given Regular)

    needs : TurnNeeds desk P n (made s dir place name n body text num i k pair.rest given Regular) Link
    needs = record {
      may = puts.may;
      found = found_put s dir place name n body text num i k pair.rest given Regular;
      plain = refl;
      plain_now = refl;
      fits = λ y is.
          let stands : body_at (made_body P file) ≡ y = body_stands Regular desk.sizes.range (made_body P file) y is in
          let size : y.size ≡ length text = sym (ap (λ (u : Body). u.size) stands) ∙ ap size_in (sym body_open) ∙ puts.size in
          let guard : y.guard ≡ false =
          sym (ap (λ (u : Body). u.guard) stands) ∙ ap guard_in body_put ∙ guard_in-sized pair.first (length text) body given.sized ∙ ap (λ (u : Body). u.guard) body_stands_so ∙ z.body.guard in
          let some = z.some in
          let few = z.few in
          link_body desk.sizes.range (made_body P file) y is (omega (arith, size, some)) (omega (arith, size, few)) guard;
      slot = in_slot;
    }

    turns : Changes desk P L (with_changed n (rekinded Link))
    unfolding needs in_slot
    turns =
        subst (λ y. Changes desk P y (with_changed n (rekinded Link))) (turn_then s dir place name n body text num i k pair.rest given apart_i apart_k)
        (turn_changes desk P n file Link needs)

    -- ---- all of it

    abbrev grown_change : Nodes → Nodes
    grown_change = with_content n (resized (length text) (bytes_in A n))

    abbrev put_change : Nodes → Nodes
    put_change = with_content n text

    abbrev through : Nodes → Nodes
    through nodes = with_changed n (rekinded Link) (put_change (grown_change (first nodes)))

    same_change : (nodes : Nodes) → through nodes ≡ change nodes
    same_change nodes =
        ap (λ ns. with_changed n (rekinded Link) (put_change ns)) (changed_put nodes n node (node_with (resized (length text) (bytes_in A n))))
        ∙ ap (with_changed n (rekinded Link)) (changed_put nodes n (node_with (resized (length text) (bytes_in A n)) node) (node_with text))
        ∙ changed_put nodes n (node_with text (node_with (resized (length text) (bytes_in A n)) node)) (rekinded Link)

    becomes_all : Becomes desk (in_hand s) (in_hand L) through
    becomes_all =
        becomes_through desk (in_hand s) (in_hand P) (in_hand L) (λ nodes. put_change (grown_change (first nodes))) (with_changed n (rekinded Link))
        (becomes_through desk (in_hand s) (in_hand G) (in_hand P) (λ nodes. grown_change (first nodes)) put_change
        (becomes_through desk (in_hand s) (in_hand A) (in_hand G) first grown_change fills.becomes grows.becomes) puts.becomes) turns.becomes

    pub link_changes : Changes desk s (link_made dir name n body text s) (λ nodes. with_node nodes n (Some (link_node dir name b text)))
    link_changes =
        subst (λ y. Changes desk s y change) (sym link_is)
        (record { becomes = becomes_as desk (in_hand s) (in_hand L) through change becomes_all (λ nodes nodes' rows may. same_change nodes'); may = turns.may })

pub link_shows : LinkShows
link_shows desk s dir place name n body b text limits m spares open_dir empty free is spare unlent body_is some few pages tree =
    link_changes desk s dir place name n body b text
    (record {
      limits = limits;
      may = m;
      opens = open_dir;
      empty = empty;
      free = free;
      name = is;
      spare = spare;
      unlent = unlent;
      body = body_is;
      some = some;
      few = few;
      pages = pages;
    })
    spares tree

pub link_leaves : LinkLeaves
link_leaves desk s dir place name n body b text limits m open_dir empty free is spare unlent body_is some few pages =
    link_left desk s dir place name n body b text
    (record {
      limits = limits;
      may = m;
      opens = open_dir;
      empty = empty;
      free = free;
      name = is;
      spare = spare;
      unlent = unlent;
      body = body_is;
      some = some;
      few = few;
      pages = pages;
    })
