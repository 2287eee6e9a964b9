-- A session after a grant.
use Rattle.trio_session.proofs.Words.{◌&&◌, ◌++◌, ◌+◌, ◌∙◌, ◌∷◌, ◌≡◌, AreApart, AreLaid, Block, Bool, Chain, DeskSeen, Fresh, FreshParts, Grant, GrantKind, HasChain, HasLent, Hold, HoldParts, In, In-cases, In-left, In-map, Index, IsFile, IsFreshLease, IsNewLaid, IsOn, IsTrue, IsWellLent, Laid, LaidLeased, Lease, Leased, Lent, LentFile, LentPage, LibNo, LibOut, List, PagePlace, Parcel, Read, Room, SeenAfter, SessionSeen, Sheet, Shown, Sizes, Some, Write, [], ap, append-nil, are_new, are_new-push, arith, block_count, body_at, chain_at, chain_laid, chains_laid, false, file_numbers, fresh_number, has_out, hold_numbers, index_count, inl, inr, is_among, is_among-not, is_core, length, length-append, length-map, lent_chain, lent_core, lent_numbers, map, map-In, map-append, numbers_of_file, option_map_or, page_numbers, reads_leased, refl, sheet_at, shown_at, size_in, slice_get, subst, sym, take, true, with_lease, with_leased, ℕ}
use Rattle.std.proofs.Common.{not}
use Rattle.std.proofs.Math.Seq.{take-length}
use Rattle.trio_layout.specs.Body.{body_at as body_says}
use Rattle.trio_desk.specs.Out.{files_out}
use Rattle.trio_session.proofs.More.{More, file_more, has_more}
use Rattle.trio_session.proofs.Places.{block_at, block_parts, index_at, index_parts, shown_at-Leased}
use Rattle.trio_session.proofs.Lists.{In-slice_get}
use Rattle.trio_session.proofs.Given.{apart_file, page_out, push_at, left_at}
use Rattle.trio_session.proofs.Lengths.{chain_lengths}
use Rattle.trio_session.proofs.Chains.{chain_there}
use Rattle.trio_desk.specs.Out.{with_lease as desk_lease}
use Rattle.trio_session.proofs.Desks.{alike_trans}

-- holds have no pages
sheet_same : (b : Parcel) (hs : List HoldParts) (place : PagePlace) → sheet_at (record b { holds = hs }) place ≡ sheet_at b place
sheet_same b hs (Index file at) = refl
sheet_same b hs (Block file at) = refl
sheet_same b hs (Fresh at) = refl

apart_holds : (b : Parcel) (hs : List HoldParts) → AreApart b → AreApart (record b { holds = hs })
apart_holds b hs apart = record {
  pages = λ p q x y ex ey same. apart.pages p q x y (sym (sheet_same b hs p) ∙ ex) (sym (sheet_same b hs q) ∙ ey) same;
  files = apart.files;
}

-- a file that the session has is out
pub file_out : (b : Parcel) (out : LibOut) (n : ℕ) → out.writes ≡ map (λ f. f.lent) b.writes → ((i : ℕ) (f : LentFile) → slice_get b.writes i ≡ Some f → HasLent f)
    → In n (file_numbers b.writes) → In n (files_out out)
file_out b out n writes same i =
    let f = map-In (λ (g : LentFile). g.stands.ino) n b.writes i in
    let at = In-slice_get f.0 b.writes f.1 in
    let lent : In f.0.lent out.writes = subst (In f.0.lent) (sym writes) (In-map (λ (g : LentFile). g.lent) f.0 b.writes f.1) in
    let number : f.0.lent.ino ≡ n = sym (same at.0 f.0 at.1).ino ∙ sym f.2 in
    let here : In n (map (λ w. w.ino) out.writes) = subst (λ m. In m (map (λ (w : Shown). w.ino) out.writes)) number (In-map (λ (w : Shown). w.ino) f.0.lent out.writes lent) in
    In-left n (map (λ w. w.ino) out.writes ++ map (λ r. r.ino) out.reads) (hold_numbers out.holds) (In-left n (map (λ w. w.ino) out.writes) (map (λ r. r.ino) out.reads) here)

and_both : (a b : Bool) → a ≡ true → b ≡ true → (a && b) ≡ true
and_both a b ea eb = rw (ea, eb) refl

pub lease_apart : (b : Parcel) (lease : Lease) (lib : LibNo) (ino : ℕ) (sizes : Sizes) (out : LibOut) → AreApart b → IsFreshLease lib ino sizes out lease
    → out.writes ≡ map (λ f. f.lent) b.writes → ((n : ℕ) → In n (page_numbers b.pages) → In n out.pages)
    → ((i : ℕ) (f : LentFile) → slice_get b.writes i ≡ Some f → HasLent f) → AreApart (with_leased b lease)
lease_apart b (Write f) lib ino sizes out apart fresh writes pages same =
    let is = fresh.is in
    let numbers : numbers_of_file f.lent ≡ numbers_of_file f.stands = ap numbers_of_file (sym is.as_lent) in
    let number : f.stands.ino ≡ ino = ap (λ (g : Shown). g.ino) is.as_lent ∙ is.ino in
    let none : is_among f.stands.ino (file_numbers b.writes) ≡ false =
    is_among-not f.stands.ino (file_numbers b.writes) (λ i. fresh.new (subst (λ n. In n (files_out out)) number (file_out b out f.stands.ino writes same i))) in
    apart_file b f apart (subst (λ ns. are_new [] ns ≡ true) numbers is.well.once)
    (λ place x e i. is.apart x.page (subst (In x.page) (sym numbers) i) (page_out b out writes pages same place x e))
    (ap (are_new []) (map-append (λ (g : LentFile). g.stands.ino) b.writes (f ∷ [])) ∙ are_new-push [] (file_numbers b.writes) f.stands.ino
    ∙ and_both (are_new [] (file_numbers b.writes)) (not (is_among f.stands.ino (file_numbers b.writes))) apart.files (ap not none))
lease_apart b (Read f) lib ino sizes out apart fresh writes pages same = apart
lease_apart b (Hold h) lib ino sizes out apart fresh writes pages same = apart_holds b (b.holds ++ h ∷ []) apart

-- the chain of a new file is that which was lent
pub new_chain : (f : LentFile) (ps : List FreshParts) (l : Laid) → f.stands ≡ f.lent → IsNewLaid f l → chain_laid f.stands ps l ≡ lent_chain f
new_chain f ps l as_lent new =
    let c : ℕ → ℕ → List ℕ → List ℕ → Chain = λ ik bk im bm. record {
      index = take ik (lent_numbers f.stands.index) ++ map (fresh_number ps) im;
      blocks = take bk (lent_numbers f.stands.blocks) ++ map (fresh_number ps) bm;
    } in
    let li : l.index_kept ≡ length (lent_numbers f.stands.index) = new.index_kept ∙ sym (length-map f.stands.index (λ (p : LentPage). p.no.0)) in
    let lb : l.blocks_kept ≡ length (lent_numbers f.stands.blocks) = new.blocks_kept ∙ sym (length-map f.stands.blocks (λ (p : LentPage). p.no.0)) in
    let whole : (ns : List ℕ) → take (length ns) ns ++ [] ≡ ns = λ ns. append-nil (take (length ns) ns) ∙ take-length ns in
    ap (λ x. c x l.blocks_kept l.index_more.items l.blocks_more.items) li
    ∙ ap (λ x. c (length (lent_numbers f.stands.index)) x l.index_more.items l.blocks_more.items) lb
    ∙ ap (λ x. c (length (lent_numbers f.stands.index)) (length (lent_numbers f.stands.blocks)) x l.blocks_more.items) new.index_more
    ∙ ap (λ x. c (length (lent_numbers f.stands.index)) (length (lent_numbers f.stands.blocks)) [] x) new.blocks_more
    ∙ ap (λ ns. record (c (length (lent_numbers f.stands.index)) (length (lent_numbers f.stands.blocks)) [] []) { index = ns }) (whole (lent_numbers f.stands.index))
    ∙ ap (λ ns. record { index = lent_numbers f.stands.index; blocks = ns }) (whole (lent_numbers f.stands.blocks))
    ∙ ap (λ (g : Shown). record { index = lent_numbers g.index; blocks = lent_numbers g.blocks }) as_lent

pub chains_push : (fs : List LentFile) (ps : List FreshParts) (ls : List Laid) (f : LentFile) (l : Laid) → length ls ≡ length fs
    → chains_laid (fs ++ f ∷ []) ps (ls ++ l ∷ []) ≡ chains_laid fs ps ls ++ chain_laid f.stands ps l ∷ []
chains_push [] ps [] f l e = refl
chains_push [] ps (m ∷ ls) f l e = absurd (omega arith)
chains_push (g ∷ fs) ps [] f l e = absurd (omega arith)
chains_push (g ∷ fs) ps (m ∷ ls) f l e = ap (λ cs. chain_laid g.stands ps m ∷ cs) (chains_push fs ps ls f l (omega arith))

-- what was there is there, with one more file, or with other holds
pub push_more : (b : Parcel) (f : LentFile) → More b (record b { writes = b.writes ++ f ∷ [] })
push_more b f = record { sheets = sheets b f; leases = λ at g e. left_at b.writes (f ∷ []) at g e; numbers = λ at lt. refl; within = λ at lt. lt }
  where
    sheets : (b : Parcel) (f : LentFile) (place : PagePlace) (x : Sheet) → sheet_at b place ≡ Some x → sheet_at (record b { writes = b.writes ++ f ∷ [] }) place ≡ Some x
    sheets b f (Index file at) x e =
        let r = index_parts b file at x e in
        index_at (record b { writes = b.writes ++ f ∷ [] }) file at r.0 r.1 (left_at b.writes (f ∷ []) file r.0 r.2) r.3 ∙ ap Some r.4
    sheets b f (Block file at) x e =
        let r = block_parts b file at x e in
        block_at (record b { writes = b.writes ++ f ∷ [] }) file at r.0 r.1 (left_at b.writes (f ∷ []) file r.0 r.2) r.3 ∙ ap Some r.4
    sheets b f (Fresh at) x e = e

pub holds_more : (b : Parcel) (hs : List HoldParts) → More b (record b { holds = hs })
holds_more b hs = record { sheets = λ place x e. sheet_same b hs place ∙ e; leases = λ at g e. e; numbers = λ at lt. refl; within = λ at lt. lt }

pub last_at : {X : Type 0} (xs : List X) (x : X) → slice_get (xs ++ x ∷ []) (length xs) ≡ Some x
last_at [] x = refl
last_at (y ∷ ys) x = last_at ys x

pub write_laid : (b : Parcel) (ls : List Laid) (f : LentFile) (l : Laid) (sizes : Sizes) → f.stands ≡ f.lent → IsWellLent sizes f.lent → IsNewLaid f l → AreLaid b ls
    → AreLaid (record b { writes = b.writes ++ f ∷ [] }) (ls ++ l ∷ [])
write_laid b ls f l sizes as_lent well new are = record {
  beside = length-append ls (l ∷ []) ∙ ap (λ n. n + 1) are.beside ∙ sym (length-append b.writes (f ∷ []));
  same = λ i g e. elim (push_at b.writes f i g e) [
    | inl h ↦ are.same i g h
    | inr h ↦ subst HasLent h.1 (record { ino = ap (λ (s : Shown). s.ino) as_lent; numbers = ap numbers_of_file as_lent })
  ];
  each = λ i m e. elim (push_at ls l i m e) [
    | inl h ↦ file_more b b' (push_more b f) (Leased i) m (are.each i m h)
    | inr h ↦ subst (λ n. IsFile b' (Leased n) m) (sym h.0) (subst (IsFile b' (Leased (length ls))) h.1 here)
  ];
  chains = λ i m e. elim (push_at ls l i m e) [
    | inl h ↦ has_more b b' (push_more b f) (Leased i) m (are.each i m h) (are.chains i m h)
    | inr h ↦ subst (λ n. HasChain b' (Leased n) m) (sym h.0) (subst (HasChain b' (Leased (length ls))) h.1 counts)
  ];
}
  where
    b' : Parcel
    b' = record b { writes = b.writes ++ f ∷ [] }

    there : slice_get b'.writes (length ls) ≡ Some f
    there = ap (slice_get (b.writes ++ f ∷ [])) are.beside ∙ last_at b.writes f

    shown : shown_at b' (Leased (length ls)) ≡ Some f.stands
    shown = shown_at-Leased b' (length ls) f there

    here : IsFile b' (Leased (length ls)) l
    here = record {
      shown = f.stands;
      there = shown;
      slot = tt;
      laid = record {
        index = omega (arith, new.index_kept);
        blocks = omega (arith, new.blocks_kept);
        narrow_index = (let none : length l.index_more.items ≡ 0 = ap length new.index_more in omega (arith, none, new.index_narrow));
        narrow_blocks = (let none : length l.blocks_more.items ≡ 0 = ap length new.blocks_more in omega (arith, none, new.blocks_narrow));
        index_there = λ at i. absurd (subst (In at) new.index_more i);
        blocks_there = λ at i. absurd (subst (In at) new.blocks_more i);
      };
    }

    body : body_at b' (Leased (length ls)) ≡ f.lent.body
    body = ap (λ o. option_map_or (λ (g : Shown). g.body) o []) shown ∙ ap (λ (s : Shown). s.body) as_lent

    lengths : (length (lent_numbers f.lent.index) ≡ index_count (block_count (size_in f.lent.body))) × (index_count (block_count (size_in f.lent.body)) ≡ index_count (block_count (size_in f.lent.body)) → length (lent_numbers f.lent.blocks) ≡ block_count (size_in f.lent.body))
    lengths = chain_lengths (lent_core sizes f.lent) (index_count (block_count (size_in f.lent.body))) (block_count (size_in f.lent.body)) (body_says f.lent.body).head (record { index = lent_numbers f.lent.index; blocks = lent_numbers f.lent.blocks }) well.chain

    chain : chain_at b' (Leased (length ls)) l ≡ lent_chain f
    chain = chain_there b' (Leased (length ls)) l f.stands shown ∙ new_chain f b.pages l as_lent new

    counts : HasChain b' (Leased (length ls)) l
    counts = record {
      blocks = ap (λ (c : Chain). length c.blocks) chain ∙ lengths.1 refl ∙ ap (λ x. block_count (size_in x)) (sym body);
      index = ap (λ (c : Chain). length c.index) chain ∙ lengths.0 ∙ ap (λ x. index_count (block_count (size_in x))) (sym body);
    }

pub lease_laid : (b : Parcel) (ls ls' : List Laid) (lease : Lease) (lib : LibNo) (ino : ℕ) (sizes : Sizes) (out : LibOut) → IsFreshLease lib ino sizes out lease → LaidLeased ls lease ls'
    → AreLaid b ls → AreLaid (with_leased b lease) ls'
lease_laid b ls ls' (Write f) lib ino sizes out fresh new are =
    subst (AreLaid (record b { writes = b.writes ++ f ∷ [] })) (sym new.2) (write_laid b ls f new.0 sizes fresh.is.as_lent fresh.is.well new.1 are)
lease_laid b ls ls' (Read f) lib ino sizes out fresh new are = subst (AreLaid b) (sym new) are
lease_laid b ls ls' (Hold h) lib ino sizes out fresh new are = subst (AreLaid (record b { holds = b.holds ++ h ∷ [] })) (sym new) (record {
  beside = are.beside;
  same = are.same;
  each = λ i l e. file_more b (record b { holds = b.holds ++ h ∷ [] }) (holds_more b (b.holds ++ h ∷ [])) (Leased i) l (are.each i l e);
  chains = λ i l e. has_more b (record b { holds = b.holds ++ h ∷ [] }) (holds_more b (b.holds ++ h ∷ [])) (Leased i) l (are.each i l e) (are.chains i l e);
})

pub lease_pages : (b : Parcel) (lease : Lease) → (with_leased b lease).pages ≡ b.pages
lease_pages b (Write f) = refl
lease_pages b (Read f) = refl
lease_pages b (Hold h) = refl

-- the session with the lease, as its parts say
pub lease_view : (s : SessionSeen) (ls ls' : List Laid) (lease : Lease) (lib : LibNo) (ino : ℕ) (sizes : Sizes) (out : LibOut) → IsFreshLease lib ino sizes out lease → LaidLeased ls lease ls'
    → AreLaid s.parcel ls → s.chains ≡ chains_laid s.parcel.writes s.parcel.pages ls
    → record s { parcel = with_leased s.parcel lease; chains = chains_laid (with_leased s.parcel lease).writes (with_leased s.parcel lease).pages ls'; reads = reads_leased s.reads lease }
    ≡ with_lease s lease
lease_view s ls ls' (Write f) lib ino sizes out fresh new are e =
    ap (λ cs. record s { parcel = with_leased s.parcel (Write f); chains = cs })
    (ap (chains_laid (s.parcel.writes ++ f ∷ []) s.parcel.pages) new.2 ∙ chains_push s.parcel.writes s.parcel.pages ls f new.0 are.beside
    ∙ ap (λ c. chains_laid s.parcel.writes s.parcel.pages ls ++ c ∷ []) (new_chain f s.parcel.pages new.0 fresh.is.as_lent new.1)
    ∙ ap (λ cs. cs ++ lent_chain f ∷ []) (sym e))
lease_view s ls ls' (Read f) lib ino sizes out fresh new are e =
    ap (λ cs. record s { chains = cs; reads = s.reads ++ f ∷ [] }) (ap (chains_laid s.parcel.writes s.parcel.pages) new ∙ sym e)
lease_view s ls ls' (Hold h) lib ino sizes out fresh new are e =
    ap (λ cs. record s { parcel = with_leased s.parcel (Hold h); chains = cs }) (ap (chains_laid s.parcel.writes s.parcel.pages) new ∙ sym e)

-- and on its desk
pub lease_on : (d d' : DeskSeen) (ino : ℕ) (kind : GrantKind) (s : SessionSeen) (lease : Lease) (room : Room)
    → SeenAfter d (Grant ino kind) (Lent lease) d' → IsFreshLease d.lib ino d.sizes d.out lease → IsOn d s → IsOn d' (record (with_lease s lease) { room = room })
lease_on d d' ino kind s (Write f) room seen fresh on = record {
  lib = on.lib ∙ sym seen.lib;
  creds = on.creds ∙ sym seen.creds;
  out = alike_trans d'.out (desk_lease d.out (Write f)) (has_out (with_lease s (Write f))) seen.out (record {
    writes = ap (λ ws. ws ++ f.lent ∷ []) on.out.writes ∙ sym (map-append (λ (g : LentFile). g.lent) s.parcel.writes (f ∷ []));
    reads = on.out.reads;
    holds = on.out.holds;
    pages = on.out.pages;
    numbers = on.out.numbers;
  });
  writes = λ g i. subst (λ (z : Sizes). IsWellLent z g) (sym seen.sizes)
      (elim (In-cases g (map (λ (h : LentFile). h.lent) s.parcel.writes) (f.lent ∷ []) (subst (In g) (map-append (λ (h : LentFile). h.lent) s.parcel.writes (f ∷ [])) i)) [
        | inl h ↦ on.writes g h
        | inr h ↦ elim h [ inl e ↦ subst (IsWellLent d.sizes) (sym e) fresh.is.well | inr k ↦ absurd k ]
      ]);
  reads = λ g i. subst (λ (z : Sizes). IsWellLent z g) (sym seen.sizes) (on.reads g i);
  core = λ n i. subst (λ (z : Sizes). IsTrue (is_core z.range n)) (sym seen.sizes) (on.core n i);
}
lease_on d d' ino kind s (Read f) room seen fresh on = record {
  lib = on.lib ∙ sym seen.lib;
  creds = on.creds ∙ sym seen.creds;
  out = alike_trans d'.out (desk_lease d.out (Read f)) (has_out (with_lease s (Read f))) seen.out (record {
    writes = on.out.writes;
    reads = ap (λ rs. rs ++ f ∷ []) on.out.reads;
    holds = on.out.holds;
    pages = on.out.pages;
    numbers = on.out.numbers;
  });
  writes = λ g i. subst (λ (z : Sizes). IsWellLent z g) (sym seen.sizes) (on.writes g i);
  reads = λ g i. subst (λ (z : Sizes). IsWellLent z g) (sym seen.sizes)
      (elim (In-cases g s.reads (f ∷ []) i) [
        | inl h ↦ on.reads g h
        | inr h ↦ elim h [ inl e ↦ subst (IsWellLent d.sizes) (sym e) fresh.is.2 | inr k ↦ absurd k ]
      ]);
  core = λ n i. subst (λ (z : Sizes). IsTrue (is_core z.range n)) (sym seen.sizes) (on.core n i);
}
lease_on d d' ino kind s (Hold h) room seen fresh on = record {
  lib = on.lib ∙ sym seen.lib;
  creds = on.creds ∙ sym seen.creds;
  out = alike_trans d'.out (desk_lease d.out (Hold h)) (has_out (with_lease s (Hold h))) seen.out (record {
    writes = on.out.writes;
    reads = on.out.reads;
    holds = ap (λ hs. hs ++ h ∷ []) on.out.holds;
    pages = on.out.pages;
    numbers = on.out.numbers;
  });
  writes = λ g i. subst (λ (z : Sizes). IsWellLent z g) (sym seen.sizes) (on.writes g i);
  reads = λ g i. subst (λ (z : Sizes). IsWellLent z g) (sym seen.sizes) (on.reads g i);
  core = λ n i. subst (λ (z : Sizes). IsTrue (is_core z.range n)) (sym seen.sizes) (on.core n i);
}
