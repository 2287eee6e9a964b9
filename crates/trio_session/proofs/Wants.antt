-- A session after an allotment.
use Rattle.trio_session.proofs.Words.{◌++◌, ◌<◌, ◌∙◌, ◌∷◌, ◌≡◌, Allot, Allotted, AreApart, AreLaid, Block, Chain, DeskSeen, FilePlace, Fresh, FreshParts, Given, HasChain, HasLent, In, In-cases, In-left, In-right, InSlot, Index, InoParts, IsAt, IsFile, IsFreshAllotment, IsLaid, IsOn, IsTrue, IsWellLent, Laid, Leased, LentFile, LibNo, LibOut, List, Option, PagePlace, Parcel, Room, SeenAfter, SessionSeen, Sheet, Shown, Sizes, Some, [], ap, are_new-before, arith, block_count, body_at, chain_at, chain_laid, chains_laid, fresh_number, get_or, get_or_append_left, has_out, index_count, inl, ino_numbers, inr, is_core, length, length-append, length-map, lent_numbers, map, map-append, number_at, option_map_or, page_in, page_numbers, pages_out, refl, sheet_at, shown_at, size_in, slice_get, subst, suc, sym, with_given, zero, zero_page, ℕ}
use Rattle.std.specs.Prelude.{take}
use Rattle.trio_lists.proofs.New.{are_new-fewer}
use Rattle.trio_session.proofs.More.{More, chain_more, file_more, has_more}
use Rattle.trio_session.proofs.Places.{fresh_at, fresh_parts, shown_at-Leased}
use Rattle.trio_session.proofs.Given.{apart_pages, left_at, page_out}
use Rattle.trio_session.proofs.Chains.{chain_there}
use Rattle.trio_session.proofs.Desks.{alike_trans}
use Rattle.trio_desk.specs.Out.{with_allotted, new_ino}
use Rattle.trio_session.specs.Asked.{with_allotted as session_allotted}

-- what was there is there
pub given_more : (b : Parcel) (given : Allotted) → More b (with_given b given)
given_more b given = record {
  sheets = sheet_more b given;
  leases = λ at f e. e;
  numbers = λ at lt.
      let within : at < length (page_numbers b.pages) = rw length-map lt in
      ap (λ ns. get_or ns at 0) (map-append (λ (p : FreshParts). p.no.0) b.pages given.pages.items) ∙ get_or_append_left (page_numbers b.pages) (page_numbers given.pages.items) 0 at within;
  within = λ at lt. (let len = length-append b.pages given.pages.items in omega (arith, lt, len));
}
  where
    sheet_more : (b : Parcel) (given : Allotted) (place : PagePlace) (x : Sheet) → sheet_at b place ≡ Some x → sheet_at (with_given b given) place ≡ Some x
    sheet_more b given (Index file at) x e = e
    sheet_more b given (Block file at) x e = e
    sheet_more b given (Fresh at) x e =
        let p = fresh_parts b at x e in
        fresh_at (with_given b given) at p.0 (left_at b.pages given.pages.items at p.0 p.1) ∙ ap Some p.2

-- the chains of written files stay
chains_more : (b : Parcel) (given : Allotted) (fs : List LentFile) (ls : List Laid)
    → ((i : ℕ) (f : LentFile) (l : Laid) → slice_get fs i ≡ Some f → slice_get ls i ≡ Some l → IsLaid f.stands b.pages l) → chains_laid fs (with_given b given).pages ls ≡ chains_laid fs b.pages ls
chains_more b given [] ls all = refl
chains_more b given (f ∷ fs) [] all = refl
chains_more b given (f ∷ fs) (l ∷ ls) all =
    ap (λ c. c ∷ chains_laid fs (with_given b given).pages ls) (chain_more b (with_given b given) (given_more b given) f.stands l (all zero f l refl refl))
    ∙ ap (λ cs. chain_laid f.stands b.pages l ∷ cs) (chains_more b given fs ls (λ i g m eg em. all (suc i) g m eg em))

laid_at : (b : Parcel) (ls : List Laid) (i : ℕ) (l : Laid) (f : LentFile) → AreLaid b ls → slice_get ls i ≡ Some l → slice_get b.writes i ≡ Some f → IsLaid f.stands b.pages l
laid_at b ls i l f are el ef =
    let is = are.each i l el in
    let both : Some is.shown ≡ Some f.stands = sym is.there ∙ shown_at-Leased b i f ef in
    let same : is.shown ≡ f.stands = cc both in
    subst (λ g. IsLaid g b.pages l) same is.laid

pub given_chains : (b : Parcel) (ls : List Laid) (given : Allotted) → AreLaid b ls → chains_laid (with_given b given).writes (with_given b given).pages ls ≡ chains_laid b.writes b.pages ls
given_chains b ls given are = chains_more b given b.writes ls (λ i f l ef el. laid_at b ls i l f are el ef)

pub given_laid : (b : Parcel) (ls : List Laid) (given : Allotted) → AreLaid b ls → AreLaid (with_given b given) ls
given_laid b ls given are = record {
  beside = are.beside;
  same = are.same;
  each = λ i l e. file_more b (with_given b given) (given_more b given) (Leased i) l (are.each i l e);
  chains = λ i l e. has_more b (with_given b given) (given_more b given) (Leased i) l (are.each i l e) (are.chains i l e);
}

pub given_apart : (b : Parcel) (given : Allotted) (lib : LibNo) (sizes : Sizes) (out : LibOut) → AreApart b → IsFreshAllotment lib sizes out given
    → out.writes ≡ map (λ f. f.lent) b.writes → ((n : ℕ) → In n (page_numbers b.pages) → In n out.pages)
    → ((i : ℕ) (f : LentFile) → slice_get b.writes i ≡ Some f → HasLent f) → AreApart (with_given b given)
given_apart b given lib sizes out apart fresh writes pages same =
    apart_pages b given.pages.items (b.inodes ++ given.inodes.items) apart
    (are_new-fewer [] (pages_out out) (page_numbers given.pages.items) (λ n i. absurd i) fresh.pages)
    (λ place x e i. are_new-before x.page (pages_out out) (page_numbers given.pages.items) fresh.pages i (page_out b out writes pages same place x e))

-- the session on its desk, after an allotment
pub given_on : (d d' : DeskSeen) (pages numbers : ℕ) (s : SessionSeen) (given : Allotted) (cs : List Chain) (room : Room)
    → SeenAfter d (Allot pages numbers) (Given (page_numbers given.pages.items) (ino_numbers given.inodes.items)) d' → IsFreshAllotment d.lib d.sizes d.out given
    → IsOn d s → IsOn d' (record s { parcel = with_given s.parcel given; chains = cs; room = room })
given_on d d' pages numbers s given cs room seen fresh on = record {
  lib = on.lib ∙ sym seen.lib;
  creds = on.creds ∙ sym seen.creds;
  out = alike_trans d'.out (with_allotted d.out (page_numbers given.pages.items) (ino_numbers given.inodes.items)) (has_out (record s { parcel = with_given s.parcel given })) seen.out (record {
    writes = on.out.writes;
    reads = on.out.reads;
    holds = on.out.holds;
    pages = λ n. (
      (λ i. subst (In n) (sym (map-append (λ (p : FreshParts). p.no.0) s.parcel.pages given.pages.items)) (both n d.out.pages (page_numbers s.parcel.pages) (page_numbers given.pages.items) (on.out.pages n).0 i)),
      (λ i. both n (page_numbers s.parcel.pages) d.out.pages (page_numbers given.pages.items) (on.out.pages n).1 (subst (In n) (map-append (λ (p : FreshParts). p.no.0) s.parcel.pages given.pages.items) i)),
    );
    numbers = λ n. (
      (λ i. subst (In n) (sym (map-append (λ (p : InoParts). p.no) s.parcel.inodes given.inodes.items)) (both n d.out.numbers (ino_numbers s.parcel.inodes) (ino_numbers given.inodes.items) (on.out.numbers n).0 i)),
      (λ i. both n (ino_numbers s.parcel.inodes) d.out.numbers (ino_numbers given.inodes.items) (on.out.numbers n).1 (subst (In n) (map-append (λ (p : InoParts). p.no) s.parcel.inodes given.inodes.items) i)),
    );
  });
  writes = λ f i. subst (λ (z : Sizes). IsWellLent z f) (sym seen.sizes) (on.writes f i);
  reads = λ f i. subst (λ (z : Sizes). IsWellLent z f) (sym seen.sizes) (on.reads f i);
  core = λ n i. subst (λ (z : Sizes). IsTrue (is_core z.range n)) (sym seen.sizes)
      (elim (In-cases n (page_numbers s.parcel.pages) (page_numbers given.pages.items) (subst (In n) (map-append (λ (p : FreshParts). p.no.0) s.parcel.pages given.pages.items) i)) [
        | inl h ↦ on.core n h
        | inr h ↦ fresh.core n h
      ]);
}
  where
    both : (n : ℕ) (xs ys zs : List ℕ) → (In n xs → In n ys) → In n (xs ++ zs) → In n (ys ++ zs)
    both n xs ys zs f i = elim (In-cases n xs zs i) [ inl h ↦ In-left n ys zs (f h) | inr h ↦ In-right n ys zs h ]

-- what was allotted is all zero, and the library's
pub given_view : (s : SessionSeen) (given : Allotted) (lib : LibNo) (sizes : Sizes) (out : LibOut) → IsFreshAllotment lib sizes out given → s.lib ≡ lib
    → record s { parcel = with_given s.parcel given } ≡ session_allotted s (page_numbers given.pages.items) (ino_numbers given.inodes.items)
given_view s given lib sizes out fresh same =
    let view : List FreshParts → List InoParts → SessionSeen = λ ps ns. record s { parcel = record s.parcel { pages = s.parcel.pages ++ ps; inodes = s.parcel.inodes ++ ns } } in
    ap (λ ps. view ps given.inodes.items) (fresh.pages_are ∙ ap (λ l. map (zero_page l) (page_numbers given.pages.items)) (sym same))
    ∙ ap (view (map (zero_page s.lib) (page_numbers given.pages.items))) (fresh.inodes_are ∙ ap (λ l. map (new_ino l) (ino_numbers given.inodes.items)) (sym same))
