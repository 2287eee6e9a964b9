-- What an edit of a file shows: bytes that are put, and another size.
use Rattle.trio_calls_file.proofs.Words.{◌++◌, ◌+◌, ◌-◌, ◌/◌, ◌∙◌, ◌∷◌, ◌≡◌, ◌≤◌, AreWithinLimits, Bool, DeskSeen, IsAlike, IsOpenFile, List, MayShow, Node, Nodes, None, Option, Parcel, Regular, Row, SessionSeen, Some, [], alike_by, ap, append_assoc, arith, block_count, body_in, bytes_in, chain_in, cond, drop, false, growth, in_hand, inl, inr, largest_size, length, length-bytes_in, length-resized, mapped, max, node_at, open_chain, option_map, put_at, refl, resized, sees_bytes, size_in, sized, spare_numbers, spare_pages, subst, suc, sym, take, true, with_content, zero, ℕ}
use Rattle.std.proofs.Common.{replicate}
use Rattle.std.specs.Prelude.{nat_lt, slice_index}
use Rattle.std.proofs.lemmas.Bool.{cases_lt, ltb-false, ltb-true}
use Rattle.std.proofs.lemmas.List.{length-append, length-drop, length-replicate, replicate-append-replicate, take-append-le, take_all, take_at}
use Rattle.std.proofs.Math.ListN.{drop_of_length-le}
use Rattle.trio_page.specs.Field.{zeros}
use Rattle.trio_layout.specs.Chain.{Chain, index_count}
use Rattle.trio_nodes.specs.Nodes.{with_node}
use Rattle.trio_nodes.specs.Tree.{IsTree}
use Rattle.trio_nodes.proofs.NodeFacts.{with_node-same}
use Rattle.trio_desk.specs.Edits.{InHand}
use Rattle.trio_desk.specs.Out.{page_numbers}
use Rattle.trio_desk.specs.Ready.{parcel_case}
use Rattle.trio_desk.specs.Shows.{Shows}
use Rattle.trio_laws.specs.session.FileEdits.{node_with}
use Rattle.trio_laws.specs.session.Takes.{Becomes}
use Rattle.trio_laws.proofs.session.TakenMore.{becomes_through}
use Rattle.trio_session.specs.Layout.{Home, InSlot, Leased, blocks_under, body_sized, chain_cut, chain_grown, gap, linked, new_index, numbered, put_block, put_blocks, put_bytes, unlinked, unnamed, with_block_number, with_body, with_body_at, with_number_in, with_page}
use Rattle.trio_session.specs.Seen.{cut, grown, home_in, put}
use Rattle.trio_session.proofs.Stays.{fresh_numbers}
use Rattle.trio_edit_laws.specs.EditLaws.{AreSpare, GetsBytes}
use Rattle.trio_edit_laws.specs.Written.{MayEdit}
use Rattle.trio_edit_laws.proofs.Cutting.{cut_gets}
use Rattle.trio_edit_laws.proofs.Growing.{grow_gets}
use Rattle.trio_edit_laws.proofs.Opens.{with_chain-beside}
use Rattle.trio_edit_laws.proofs.Puts.{put_shows}
use Rattle.trio_calls_file.proofs.Alike.{open_alike}
use Rattle.trio_session.proofs.Alike.{calls-with_chain, calls-grown, placed-grown}
use Rattle.trio_edit_laws.proofs.Alike.{edit_alike}

-- ---- nodes

with_node-there : (nodes : Nodes) (n : ℕ) (x : Node) → node_at nodes n ≡ Some x → with_node nodes n (Some x) ≡ nodes
with_node-there [] n x e = absurd cc
with_node-there (y ∷ ys) zero x e = ap (λ z. z ∷ ys) (sym e)
with_node-there (y ∷ ys) (suc n) x e = ap (λ l. y ∷ l) (with_node-there ys n x e)

with_node-again : (nodes : Nodes) (n : ℕ) (x y : Option Node) → with_node (with_node nodes n x) n y ≡ with_node nodes n y
with_node-again [] zero x y = refl
with_node-again [] (suc n) x y = ap (λ l. None ∷ l) (with_node-again [] n x y)
with_node-again (z ∷ zs) zero x y = refl
with_node-again (z ∷ zs) (suc n) x y = ap (λ l. z ∷ l) (with_node-again zs n x y)

-- the content that a file has
with_content-there : (ino : ℕ) (bytes : List ℕ) (nodes : Nodes) → option_map (λ (x : Node). x.bytes) (node_at nodes ino) ≡ Some bytes → with_content ino bytes nodes ≡ nodes
with_content-there ino bytes nodes e =
    let x = mapped (λ (x : Node). x.bytes) (node_at nodes ino) bytes e in
    let same : node_with bytes x.0 ≡ x.0 = ap (λ b. node_with b x.0) (sym x.2) in
    ap (λ o. with_node nodes ino (option_map (node_with bytes) o)) x.1 ∙ ap (λ y. with_node nodes ino (Some y)) same ∙ with_node-there nodes ino x.0 x.1

-- of two contents the second is there
with_content-again : (ino : ℕ) (first second : List ℕ) (nodes : Nodes) → with_content ino second (with_content ino first nodes) ≡ with_content ino second nodes
with_content-again ino first second nodes =
    let o : Option Node = node_at nodes ino in
    ap (λ q. with_node (with_content ino first nodes) ino (option_map (node_with second) q)) (with_node-same nodes ino (option_map (node_with first) o))
    ∙ with_node-again nodes ino (option_map (node_with first) o) (option_map (node_with second) (option_map (node_with first) o))
    ∙ ap (with_node nodes ino) (by o)
  where
    by : (o : Option Node) → option_map (node_with second) (option_map (node_with first) o) ≡ option_map (node_with second) o
    by None = refl
    by (Some x) = refl

-- ---- bytes

resized-same : (size : ℕ) (old : List ℕ) → length old ≡ size → resized size old ≡ old
resized-same size old e = take_at old (replicate (size - length old) 0) size e

resized-more : (size : ℕ) (old : List ℕ) → length old ≤ size → resized size old ≡ old ++ replicate (size - length old) 0
resized-more size old le =
    let zs : List ℕ = replicate (size - length old) 0 in
    take_all size (old ++ zs) (omega (arith, length-append old zs, length-replicate {A = ℕ} (size - length old) 0))

-- what has grown begins as what was there
resized-again : (at size : ℕ) (old : List ℕ) → at ≤ size → length old ≤ size → resized at (resized size old) ≡ resized at old
resized-again at size old le long =
    let n : ℕ = length old in
    let k : ℕ = size - n in
    let a : ℕ = at - n in
    let zs : List ℕ = replicate k 0 in
    let more : List ℕ = replicate a 0 in
    let rest : List ℕ = replicate (k - a) 0 in
    let l : length (old ++ zs) ≡ size = omega (arith, length-append old zs, length-replicate {A = ℕ} k 0) in
    let split : zs ≡ more ++ rest = (let e : k ≡ a + (k - a) = omega arith in ap (λ m. replicate m 0) e ∙ sym (replicate-append-replicate a (k - a) 0)) in
    let front : at ≤ length (old ++ more) = omega (arith, length-append old more, length-replicate {A = ℕ} a 0) in
    let first : resized at (resized size old) ≡ resized at (old ++ zs) = ap (resized at) (resized-more size old long) in
    let within : resized at (old ++ zs) ≡ take at (old ++ zs) = take-append-le at (old ++ zs) (replicate (at - length (old ++ zs)) 0) (omega (arith, l)) in
    let parts : take at (old ++ zs) ≡ take at ((old ++ more) ++ rest) = ap (λ q. take at (old ++ q)) split ∙ ap (take at) (sym (append_assoc old more rest)) in
    first ∙ (within ∙ (parts ∙ take-append-le at (old ++ more) rest front))

pub put_at-resized : (at b : ℕ) (bs old : List ℕ) → put_at at (b ∷ bs) (resized (max (length old) (at + length (b ∷ bs))) old) ≡ put_at at (b ∷ bs) old
put_at-resized at b bs old =
    let new : List ℕ = b ∷ bs in
    let end : ℕ = at + length new in
    let size : ℕ = max (length old) end in
    elim (cases_lt (length old) end) [
      | inl past ↦
          let is : size ≡ end = omega arith in
          let none : drop end (resized size old) ≡ [] = drop_of_length-le (resized size old) (omega (arith, length-resized size old)) in
          let none_then : drop end old ≡ [] = drop_of_length-le old (omega arith) in
          ap (λ q. q ++ new ++ drop end (resized size old)) (resized-again at size old (omega arith) (omega arith))
          ∙ ap (λ q. resized at old ++ new ++ q) (none ∙ sym none_then)
      | inr within ↦
          let is : length old ≡ size = omega arith in
          ap (λ q. resized at q ++ new ++ drop end q) (resized-same size old is)
    ]

-- ---- pages stay

-- what is in hand has the same allotted pages
abbrev SamePages : Parcel → Parcel → Type 0
SamePages b b' = page_numbers b'.pages ≡ page_numbers b.pages

pages-with_page : (n : ℕ) (bytes : List ℕ) (b : Parcel) → SamePages b (with_page n bytes b)
unfolding with_page
pages-with_page n bytes b = fresh_numbers n bytes b.pages

pages-with_body : (ino : ℕ) (body : List ℕ) (b : Parcel) → SamePages b (with_body ino body b)
unfolding with_body
pages-with_body ino body b = refl

pub pages-with_body_at : (home : Home) (body : List ℕ) (b : Parcel) → SamePages b (with_body_at home body b)
pages-with_body_at (Leased ino) body b = pages-with_body ino body b
pages-with_body_at (InSlot page slot) body b = pages-with_page page _ b

pages-put_blocks : (blocks : List ℕ) (k more at : ℕ) (new : List ℕ) (b : Parcel) → SamePages b (put_blocks blocks k more at new b)
pages-put_blocks blocks k zero at new b = refl
pages-put_blocks blocks k (suc more) at new b = pages-put_blocks blocks (suc k) more at new (put_block blocks k at new b) ∙ pages-with_page (slice_index blocks k) _ b

pages-linked : (ns : List ℕ) (b : Parcel) → SamePages b (linked ns b)
pages-linked [] b = refl
pages-linked (n ∷ []) b = refl
pages-linked (n ∷ (m ∷ rest)) b = pages-linked (m ∷ rest) (with_number_in n 4088 m b) ∙ pages-with_page n _ b

pages-unlinked : (ns : List ℕ) (b : Parcel) → SamePages b (unlinked ns b)
pages-unlinked [] b = refl
pages-unlinked (n ∷ rest) b = pages-unlinked rest (with_number_in n 4088 0 b) ∙ pages-with_page n _ b

pages-numbered : (index : List ℕ) (k : ℕ) (ns : List ℕ) (b : Parcel) → SamePages b (numbered index k ns b)
pages-numbered index k [] b = refl
pages-numbered index k (n ∷ rest) b = pages-numbered index (suc k) rest (with_block_number index k n b) ∙ pages-with_page (slice_index index (k / 511)) _ b

pages-unnamed : (index : List ℕ) (k more : ℕ) (b : Parcel) → SamePages b (unnamed index k more b)
pages-unnamed index k zero b = refl
pages-unnamed index k (suc more) b = pages-unnamed index (suc k) more (with_block_number index k 0 b) ∙ pages-with_page (slice_index index (k / 511)) _ b

pages-grown : (ino size : ℕ) (s : SessionSeen) → SamePages s.parcel (grown ino size s).parcel
unfolding grown
pages-grown ino size s =
    let chain : Chain = chain_in s ino in
    let old : ℕ = size_in (body_in s ino) in
    let taken : List ℕ = take (growth (length chain.blocks) (block_count size)) (spare_pages s) in
    let chain' : Chain = chain_grown chain (block_count size) taken in
    let zeroed : Parcel = put_bytes chain.blocks old (zeros (gap old size)) s.parcel in
    let links : Parcel = linked (drop (length chain.index - 1) chain'.index) zeroed in
    let more : List ℕ = drop (new_index (length chain.blocks) (block_count size)) taken in
    let named : Parcel = numbered chain'.index (length chain.blocks) more links in
    pages-with_body_at (home_in s ino) (body_sized (slice_index chain'.index 0) size (body_in s ino)) named
    ∙ pages-numbered chain'.index (length chain.blocks) more links
    ∙ pages-linked (drop (length chain.index - 1) chain'.index) zeroed
    ∙ pages-put_blocks chain.blocks (old / 4096) (blocks_under old (length (zeros (gap old size)))) old (zeros (gap old size)) s.parcel

pages-cut : (ino size : ℕ) (s : SessionSeen) → SamePages s.parcel (cut ino size s).parcel
unfolding cut
pages-cut ino size s =
    let chain : Chain = chain_in s ino in
    let c : ℕ = block_count size in
    let named : Parcel = unnamed chain.index c (length chain.blocks - c) s.parcel in
    let links : Parcel = unlinked (drop (index_count c - 1) chain.index) named in
    pages-with_body_at (home_in s ino) (body_sized (slice_index (chain_cut chain c).index 0) size (body_in s ino)) links
    ∙ pages-unlinked (drop (index_count c - 1) chain.index) named
    ∙ pages-unnamed chain.index c (length chain.blocks - c) s.parcel

-- a put leaves the pages that are spare
pub spare-put : (ino at : ℕ) (new : List ℕ) (s : SessionSeen) → spare_pages (put ino at new s) ≡ spare_pages s
unfolding put
spare-put ino at new s = ap (drop s.placed) (pages-put_blocks (chain_in s ino).blocks (at / 4096) (blocks_under at (length new)) at new s.parcel)

drop-spent : (xs : List ℕ) (k more : ℕ) → length (drop k xs) ≡ more → drop (k + more) xs ≡ []
drop-spent xs k more e = drop_of_length-le xs (omega (arith, length-drop k xs, e))

spent-grown : (ino size : ℕ) (s : SessionSeen) → length (spare_pages s) ≡ growth (length (chain_in s ino).blocks) (block_count size) → spare_pages (grown ino size s) ≡ []
spent-grown ino size s all =
    let wanted : ℕ = growth (length (chain_in s ino).blocks) (block_count size) in
    ap (λ n. drop n (page_numbers (grown ino size s).parcel.pages)) (placed-grown ino size s)
    ∙ ap (drop (s.placed + wanted)) (pages-grown ino size s) ∙ drop-spent (page_numbers s.parcel.pages) s.placed wanted all

placed-cut : (ino size : ℕ) (s : SessionSeen) → (cut ino size s).placed ≡ s.placed
unfolding cut
placed-cut ino size s = (with_chain-beside s ino (chain_cut (chain_in s ino) (block_count size))).placed

spare-cut : (ino size : ℕ) (s : SessionSeen) → spare_pages (cut ino size s) ≡ spare_pages s
spare-cut ino size s = ap (λ n. drop n (page_numbers (cut ino size s).parcel.pages)) (placed-cut ino size s) ∙ ap (drop s.placed) (pages-cut ino size s)

pub calls-cut : (ino size : ℕ) (s : SessionSeen) → (cut ino size s).calls ≡ s.calls
unfolding cut
calls-cut ino size s = calls-with_chain ino _ s

pub calls-put : (ino at : ℕ) (new : List ℕ) (s : SessionSeen) → (put ino at new s).calls ≡ s.calls
unfolding put
calls-put ino at new s = refl

-- nor does it need places
pub room_put : (ino at : ℕ) (new : List ℕ) (s t : SessionSeen) → t ≡ put ino at new s → t.room.calls ≡ s.room.calls
unfolding put
room_put ino at new s t e = ap (λ (q : SessionSeen). q.room.calls) e

-- ---- edits

-- A file gets these bytes, each allotted page is in place then, and no call was noted.
pub record Edits (desk : DeskSeen) (s t : SessionSeen) (ino : ℕ) (new : List ℕ) : Type 0 where
  pub becomes : Becomes desk (in_hand s) (in_hand t) (with_content ino new)
  pub may : MayEdit desk t
  pub writable : IsOpenFile t ino
  pub bytes : bytes_in t ino ≡ new
  pub size : size_in (body_in t ino) ≡ length new
  pub numbers : spare_numbers t ≡ spare_numbers s
  pub inodes : t.parcel.inodes ≡ s.parcel.inodes
  pub spent : spare_pages t ≡ []
  pub calls : t.calls ≡ s.calls

-- the same change, said otherwise
becomes_as : (desk : DeskSeen) (h h' : InHand) (f g : Nodes → Nodes) → Becomes desk h h' f
    → ((nodes nodes' : Nodes) (rows : List (Option Row)) → MayShow desk h h' nodes nodes' rows → f nodes' ≡ g nodes') → Becomes desk h h' g
becomes_as desk h h' f g b e = record {
  more = b.more;
  shows = λ nodes nodes' rows may. subst (λ k. Shows (parcel_case desk.sizes desk.creds rows h'.parcel) nodes k) (e nodes nodes' rows may) (b.shows nodes nodes' rows may);
  tree = λ nodes nodes' rows may. subst IsTree (e nodes nodes' rows may) (b.tree nodes nodes' rows may);
  order = b.order;
}

module _ (desk : DeskSeen) (s : SessionSeen) (ino : ℕ) (m : MayEdit desk s) (o : IsOpenFile s ino) where
  -- a file that stays gets the bytes that it has
  same_becomes : Becomes desk (in_hand s) (in_hand s) (with_content ino (bytes_in s ino))
  same_becomes =
      becomes_as desk (in_hand s) (in_hand s) (λ nodes. nodes) (with_content ino (bytes_in s ino))
      (record { more = λ nodes rows p. p; shows = λ nodes nodes' rows may. may.shows; tree = λ nodes nodes' rows may. may.tree; order = m.order })
      (λ nodes nodes' rows may. sym (with_content-there ino (bytes_in s ino) nodes' (sees_bytes desk s ino Regular nodes nodes' rows m o refl may).1))

  edits_of : (t : SessionSeen) (new : List ℕ) → GetsBytes desk s t ino new → spare_pages t ≡ [] → t.calls ≡ s.calls → Edits desk s t ino new
  edits_of t new g spent calls = record {
    becomes = g.becomes;
    may = g.may;
    writable = g.writable;
    bytes = g.bytes;
    size = g.size;
    numbers = g.others.numbers;
    inodes = g.others.inodes;
    spent = spent;
    calls = calls;
  }

  edits_still : spare_pages s ≡ [] → Edits desk s s ino (bytes_in s ino)
  edits_still spent = record {
    becomes = same_becomes;
    may = m;
    writable = o;
    bytes = refl;
    size = sym (length-bytes_in desk s ino m o);
    numbers = refl;
    inodes = refl;
    spent = spent;
    calls = refl;
  }

  module _ (size : ℕ) (limits : AreWithinLimits desk.sizes) (spare : AreSpare desk s) (largest : size ≤ largest_size)
      (many : length (spare_pages s) ≡ growth (block_count (size_in (body_in s ino))) (block_count size)) where
    blocks_many : block_count (size_in (body_in s ino)) ≡ length (chain_in s ino).blocks
    blocks_many = (open_chain desk s ino Regular m o).count

    all_spare : length (spare_pages s) ≡ growth (length (chain_in s ino).blocks) (block_count size)
    all_spare = many ∙ ap (λ n. growth n (block_count size)) blocks_many

    edits_grown : size_in (body_in s ino) ≤ size → Edits desk s (grown ino size s) ino (resized size (bytes_in s ino))
    edits_grown le =
        edits_of (grown ino size s) (resized size (bytes_in s ino)) (grow_gets desk s ino size limits m spare o le largest (omega (arith, all_spare)))
        (spent-grown ino size s all_spare) (calls-grown ino size s)

    -- a file that doesn't grow has no page spare
    none_spare : size ≤ size_in (body_in s ino) → spare_pages s ≡ []
    none_spare le = no_length (spare_pages s) (omega (arith, many, le))
      where
        no_length : (xs : List ℕ) → length xs ≡ 0 → xs ≡ []
        no_length [] e = refl
        no_length (x ∷ xs) e = absurd (omega (arith, e))

    edits_cut : size ≤ size_in (body_in s ino) → Edits desk s (cut ino size s) ino (resized size (bytes_in s ino))
    edits_cut le = edits_of (cut ino size s) (resized size (bytes_in s ino)) (cut_gets desk s ino size m o le) (spare-cut ino size s ∙ none_spare le) (calls-cut ino size s)

    edits_same : size ≡ size_in (body_in s ino) → Edits desk s s ino (resized size (bytes_in s ino))
    edits_same e =
        let same : resized size (bytes_in s ino) ≡ bytes_in s ino = resized-same size (bytes_in s ino) (length-bytes_in desk s ino m o ∙ sym e) in
        subst (λ new. Edits desk s s ino new) (sym same) (edits_still (none_spare (omega (arith, e))))

    -- so it has no page spare, and gets the bytes that it has
    pub edits_none : size ≡ size_in (body_in s ino) → Edits desk s s ino (bytes_in s ino)
    edits_none e = edits_still (none_spare (omega (arith, e)))

    -- a file that comes to another size
    pub edits_sized : Edits desk s (sized ino size s) ino (resized size (bytes_in s ino))
    edits_sized = by (nat_lt (size_in (body_in s ino)) size) (nat_lt size (size_in (body_in s ino))) refl refl
      where
        by : (t v : Bool) → nat_lt (size_in (body_in s ino)) size ≡ t → nat_lt size (size_in (body_in s ino)) ≡ v
            → Edits desk s (cond t (grown ino size s) (cond v (cut ino size s) s)) ino (resized size (bytes_in s ino))
        by true v e f = edits_grown (let l = ltb-true (size_in (body_in s ino)) size e in omega (arith, l))
        by false true e f = edits_cut (let l = ltb-true size (size_in (body_in s ino)) f in omega (arith, l))
        by false false e f = edits_same (let k = ltb-false (size_in (body_in s ino)) size e in let l = ltb-false size (size_in (body_in s ino)) f in omega (arith, k, l))

  -- bytes are put into it, and it grows before where they end past its size
  module _ (limits : AreWithinLimits desk.sizes) (spare : AreSpare desk s) (at b : ℕ) (bs : List ℕ) (largest : at + length (b ∷ bs) ≤ largest_size) (old_largest : size_in (body_in s ino) ≤ largest_size)
      (many : length (spare_pages s) ≡ growth (block_count (size_in (body_in s ino))) (block_count (max (size_in (body_in s ino)) (at + length (b ∷ bs))))) where
    abbrev end : ℕ
    end = max (size_in (body_in s ino)) (at + length (b ∷ bs))

    grows : Edits desk s (sized ino end s) ino (resized end (bytes_in s ino))
    grows = edits_sized end limits spare (omega (arith, largest, old_largest)) many

    within_sized : at + length (b ∷ bs) ≤ size_in (body_in (sized ino end s) ino)
    within_sized = (let g = grows.size in let l = length-resized end (bytes_in s ino) in omega (arith, g, l))

    pub edits_put : Edits desk s (put ino at (b ∷ bs) (sized ino end s)) ino (put_at at (b ∷ bs) (bytes_in s ino))
    edits_put =
        let g = put_shows desk (sized ino end s) ino at (b ∷ bs) grows.may grows.writable within_sized in
        let first : List ℕ = resized end (bytes_in s ino) in
        let l : length (bytes_in s ino) ≡ size_in (body_in s ino) = length-bytes_in desk s ino m o in
        let new : put_at at (b ∷ bs) (bytes_in (sized ino end s) ino) ≡ put_at at (b ∷ bs) (bytes_in s ino) =
        ap (put_at at (b ∷ bs)) (grows.bytes ∙ ap (λ n. resized (max n (at + length (b ∷ bs))) (bytes_in s ino)) (sym l)) ∙ put_at-resized at b bs (bytes_in s ino) in
        record {
          becomes =
              becomes_as desk (in_hand s) (in_hand (put ino at (b ∷ bs) (sized ino end s)))
              (λ nodes. with_content ino (put_at at (b ∷ bs) (bytes_in (sized ino end s) ino)) (with_content ino first nodes))
              (with_content ino (put_at at (b ∷ bs) (bytes_in s ino)))
              (becomes_through desk (in_hand s) (in_hand (sized ino end s)) (in_hand (put ino at (b ∷ bs) (sized ino end s))) (with_content ino first)
              (with_content ino (put_at at (b ∷ bs) (bytes_in (sized ino end s) ino))) grows.becomes g.becomes)
              (λ nodes nodes' rows may. with_content-again ino first (put_at at (b ∷ bs) (bytes_in (sized ino end s) ino)) nodes' ∙ ap (λ q. with_content ino q nodes') new);
          may = g.may;
          writable = g.writable;
          bytes = g.bytes ∙ new;
          size = g.size ∙ ap (λ (q : List ℕ). length q) new;
          numbers = g.others.numbers ∙ grows.numbers;
          inodes = g.others.inodes ∙ grows.inodes;
          spent = spare-put ino at (b ∷ bs) (sized ino end s) ∙ grows.spent;
          calls = calls-put ino at (b ∷ bs) (sized ino end s) ∙ grows.calls;
        }

-- So it is of a session that is alike.
pub edits_alike : (desk : DeskSeen) (s x t : SessionSeen) (ino : ℕ) (new : List ℕ) → IsAlike x t → Edits desk s x ino new → Edits desk s t ino new
edits_alike desk s x t ino new e d =
    alike_by (λ q. Edits desk s q ino new) x t e (λ is n r.
    let q : SessionSeen = record x { indexed = is; finds = n; room = r } in
    record {
      becomes = d.becomes;
      may = edit_alike desk x q refl d.may;
      writable = open_alike x q ino refl d.writable;
      bytes = d.bytes;
      size = d.size;
      numbers = d.numbers;
      inodes = d.inodes;
      spent = d.spent;
      calls = d.calls;
    })
