-- Sessions: their files' chains, and edits of one of them.
use Rattle.trio_session.proofs.Words.{◌*◌, ◌++◌, ◌+◌, ◌/◌, ◌<◌, ◌∙◌, ◌∷◌, ◌≡◌, ◌≢◌, ◌≤◌, ◌⊎◌, AreLaid, Chain, FilePlace, FreshParts, HasChain, HasLent, In, IsFile, Laid, Leased, LentFile, List, None, Parcel, Shown, Some, [], ap, arith, block_count, body_at, chain_at, chain_laid, chains_laid, eqb, fresh_number, get_or, get_or_from_slice_get, index_count, inl, inr, length, length-set, lent_numbers, map, no_chain, numbers_of_file, position, refl, set_same, size_in, slice_get, slice_get-get_or, slice_index_or, slice_set, subst, suc, sym, take, zero, ℕ}
use Rattle.trio_session.proofs.Places.{lent_parts, shown_at-Leased}
use Rattle.trio_session.proofs.Stays.{LeavesFiles, SameFile, SameFiles, SameFiles-back, SameFiles-length, chain_laid-left, chain_left, file_left}
use Rattle.trio_session.proofs.Found.{find-position}
use Rattle.trio_session.proofs.Chains.{chain_there}

-- the chain of file i
pub chains_at : (fs : List LentFile) (ps : List FreshParts) (ls : List Laid) (i : ℕ) (f : LentFile) (l : Laid) → slice_get fs i ≡ Some f → slice_get ls i ≡ Some l
    → slice_get (chains_laid fs ps ls) i ≡ Some (chain_laid f.stands ps l)
chains_at [] ps ls i f l ef el = absurd (let t : None ≡ Some f = ef in cc t)
chains_at (g ∷ fs) ps [] i f l ef el = absurd (let t : None ≡ Some l = el in cc t)
chains_at (g ∷ fs) ps (m ∷ ls) zero f l ef el =
    let eg : g ≡ f = (let t : Some g ≡ Some f = ef in cc t) in
    let em : m ≡ l = (let t : Some m ≡ Some l = el in cc t) in
    ap (λ (h : LentFile). Some (chain_laid h.stands ps m)) eg ∙ ap (λ k. Some (chain_laid f.stands ps k)) em
chains_at (g ∷ fs) ps (m ∷ ls) (suc i) f l ef el = chains_at fs ps ls i f l ef el

pub chain_of_file : (b : Parcel) (ls : List Laid) (i : ℕ) (l : Laid) → IsFile b (Leased i) l → slice_get ls i ≡ Some l
    → slice_index_or (chains_laid b.writes b.pages ls) i no_chain ≡ chain_at b (Leased i) l
chain_of_file b ls i l is el =
    let f = lent_parts b i is.shown is.there in
    get_or_from_slice_get (chains_laid b.writes b.pages ls) i (chain_laid f.0.stands b.pages l) no_chain (chains_at b.writes b.pages ls i f.0 l f.1 el)
    ∙ sym (chain_there b (Leased i) l f.0.stands (shown_at-Leased b i f.0 f.1))

-- an element of a list in which one was put
pub set_at : {X : Type 0} (xs : List X) (i j : ℕ) (x y : X) → slice_get (slice_set xs i x) j ≡ Some y → ((i ≡ j) × (x ≡ y)) ⊎ ((j ≢ i) × (slice_get xs j ≡ Some y))
set_at [] i j x y e = absurd (let t : None ≡ Some y = e in cc t)
set_at (z ∷ zs) zero zero x y e = inl (refl, (let t : Some x ≡ Some y = e in cc t))
set_at (z ∷ zs) zero (suc j) x y e = inr ((λ k. absurd (omega (arith, k))), e)
set_at (z ∷ zs) (suc i) zero x y e = inr ((λ k. absurd (omega (arith, k))), e)
set_at (z ∷ zs) (suc i) (suc j) x y e = elim (set_at zs i j x y e) [ inl h ↦ inl (ap suc h.0, h.1) | inr h ↦ inr ((λ k. h.0 (omega (arith, k))), h.1) ]

-- a step that leaves the files leaves all chains
pub chains_left : (b b' : Parcel) (fs gs : List LentFile) (ls : List Laid) → LeavesFiles b b' → SameFiles fs gs → chains_laid gs b'.pages ls ≡ chains_laid fs b.pages ls
chains_left b b' [] [] ls leaves same = refl
chains_left b b' [] (g ∷ gs) ls leaves same = absurd same
chains_left b b' (f ∷ fs) [] ls leaves same = absurd same
chains_left b b' (f ∷ fs) (g ∷ gs) [] leaves same = refl
chains_left b b' (f ∷ fs) (g ∷ gs) (l ∷ ls) leaves same =
    ap (λ c. c ∷ chains_laid gs b'.pages ls) (chain_laid-left f.stands g.stands b b' l leaves same.0.pages)
    ∙ ap (λ cs. chain_laid f.stands b.pages l ∷ cs) (chains_left b b' fs gs ls leaves same.1)

-- a file that was written has the pages that it had
lent_left : (f g : LentFile) → SameFile f g → HasLent f → HasLent g
lent_left f g same has = record {
  ino = same.ino ∙ has.ino ∙ ap (λ (x : Shown). x.ino) (sym same.lent);
  numbers = ap (λ ns. ns ++ lent_numbers g.stands.blocks) same.pages.index ∙ ap (λ ns. lent_numbers f.stands.index ++ ns) same.pages.blocks
      ∙ has.numbers ∙ ap numbers_of_file (sym same.lent);
}

-- a chain is as long as its size says after a step that leaves the body
pub has_left : (b b' : Parcel) (file : FilePlace) (l : Laid) → LeavesFiles b b' → body_at b' file ≡ body_at b file → HasChain b file l → HasChain b' file l
has_left b b' file l leaves body has = record {
  blocks = ap (λ (c : Chain). length c.blocks) (chain_left b b' file l leaves) ∙ has.blocks ∙ ap (λ w. block_count (size_in w)) (sym body);
  index = ap (λ (c : Chain). length c.index) (chain_left b b' file l leaves) ∙ has.index ∙ ap (λ w. index_count (block_count (size_in w))) (sym body);
}

-- files stay laid where their bodies stay
pub laid_left : (b b' : Parcel) (ls : List Laid) → LeavesFiles b b' → ((i : ℕ) → body_at b' (Leased i) ≡ body_at b (Leased i)) → AreLaid b ls → AreLaid b' ls
laid_left b b' ls leaves body are = record {
  beside = are.beside ∙ sym (SameFiles-length b.writes b'.writes leaves.files);
  same = λ i g e. let f = SameFiles-back b.writes b'.writes i g leaves.files e in lent_left f.0 g f.2 (are.same i f.0 f.1);
  each = λ i l e. file_left b b' (Leased i) l leaves (are.each i l e);
  chains = λ i l e. has_left b b' (Leased i) l leaves (body i) (are.chains i l e);
}

-- and where one is laid anew, and the bodies of the others stay
pub laid_anew : (b b' : Parcel) (ls : List Laid) (i : ℕ) (l : Laid) → LeavesFiles b b' → ((j : ℕ) → j ≢ i → body_at b' (Leased j) ≡ body_at b (Leased j))
    → AreLaid b ls → IsFile b' (Leased i) l → HasChain b' (Leased i) l → AreLaid b' (slice_set ls i l)
laid_anew b b' ls i l leaves body are is has = record {
  beside = length-set ls i l ∙ are.beside ∙ sym (SameFiles-length b.writes b'.writes leaves.files);
  same = λ j g e. let f = SameFiles-back b.writes b'.writes j g leaves.files e in lent_left f.0 g f.2 (are.same j f.0 f.1);
  each = λ j m e. elim (set_at ls i j l m e) [
    | inl h ↦ subst (λ n. IsFile b' (Leased n) m) h.0 (subst (IsFile b' (Leased i)) h.1 is)
    | inr h ↦ file_left b b' (Leased j) m leaves (are.each j m h.1)
  ];
  chains = λ j m e. elim (set_at ls i j l m e) [
    | inl h ↦ subst (λ n. HasChain b' (Leased n) m) h.0 (subst (HasChain b' (Leased i)) h.1 has)
    | inr h ↦ has_left b b' (Leased j) m leaves (body j h.0) (are.chains j m h.1)
  ];
}

-- ---- one file of a session

-- an element that an index gave
pub laid_at : (ls : List Laid) (i : ℕ) (l : Laid) → i < length ls → l ≡ get_or ls i l → slice_get ls i ≡ Some l
laid_at ls i l lt e = slice_get-get_or ls i l lt ∙ ap Some (sym e)

pub place_within : (b : Parcel) (ino file : ℕ) → position (λ f. eqb f.stands.ino ino) b.writes ≡ Some file → file < length b.writes
place_within b ino file e = (find-position (λ (f : LentFile). eqb f.stands.ino ino) b.writes file e).1

-- the size that a chain has room for
pub within_chain : (b : Parcel) (file : FilePlace) (l : Laid) (end : ℕ) → HasChain b file l → end ≤ size_in (body_at b file) → end ≤ 4096 * length (chain_at b file l).blocks
within_chain b file l end has le =
    let count : length (chain_at b file l).blocks ≡ (size_in (body_at b file) + 4095) / 4096 = has.blocks in
    omega (arith, count, le)

-- ---- the places of one file change

pub chains_set : (fs : List LentFile) (ps : List FreshParts) (ls : List Laid) (i : ℕ) (f : LentFile) (l : Laid) → slice_get fs i ≡ Some f → i < length ls
    → chains_laid fs ps (slice_set ls i l) ≡ slice_set (chains_laid fs ps ls) i (chain_laid f.stands ps l)
chains_set [] ps ls i f l ef lt = absurd (let t : None ≡ Some f = ef in cc t)
chains_set (g ∷ fs) ps [] i f l ef lt = absurd (omega arith)
chains_set (g ∷ fs) ps (m ∷ ls) zero f l ef lt =
    let eg : g ≡ f = (let t : Some g ≡ Some f = ef in cc t) in
    ap (λ (h : LentFile). chain_laid h.stands ps l ∷ chains_laid fs ps ls) eg
chains_set (g ∷ fs) ps (m ∷ ls) (suc i) f l ef lt = ap (λ cs. chain_laid g.stands ps m ∷ cs) (chains_set fs ps ls i f l ef (omega arith))

-- the chains after a file was laid anew
pub chains_anew : (b b' : Parcel) (ls : List Laid) (i : ℕ) (l : Laid) → LeavesFiles b b' → IsFile b' (Leased i) l → i < length ls
    → chains_laid b'.writes b'.pages (slice_set ls i l) ≡ slice_set (chains_laid b.writes b.pages ls) i (chain_at b' (Leased i) l)
chains_anew b b' ls i l leaves is lt =
    let f = lent_parts b' i is.shown is.there in
    chains_set b'.writes b'.pages ls i f.0 l f.1 lt
    ∙ ap (λ cs. slice_set cs i (chain_laid f.0.stands b'.pages l)) (chains_left b b' b.writes b'.writes ls leaves leaves.files)
    ∙ ap (slice_set (chains_laid b.writes b.pages ls) i) (sym (chain_there b' (Leased i) l f.0.stands (shown_at-Leased b' i f.0 f.1)))

-- the same places, whatever the room
pub record Alike (l l' : Laid) : Type 0 where
  pub index_kept : l'.index_kept ≡ l.index_kept
  pub blocks_kept : l'.blocks_kept ≡ l.blocks_kept
  pub index : l'.index_more.items ≡ l.index_more.items
  pub blocks : l'.blocks_more.items ≡ l.blocks_more.items

pub chain_alike : (f : Shown) (ps : List FreshParts) (l l' : Laid) → Alike l l' → chain_laid f ps l' ≡ chain_laid f ps l
chain_alike f ps l l' e =
    let c : ℕ → ℕ → List ℕ → List ℕ → Chain = λ ik bk im bm. record {
      index = take ik (lent_numbers f.index) ++ map (fresh_number ps) im;
      blocks = take bk (lent_numbers f.blocks) ++ map (fresh_number ps) bm;
    } in
    ap (λ x. c x l'.blocks_kept l'.index_more.items l'.blocks_more.items) e.index_kept
    ∙ ap (λ x. c l.index_kept x l'.index_more.items l'.blocks_more.items) e.blocks_kept
    ∙ ap (λ x. c l.index_kept l.blocks_kept x l'.blocks_more.items) e.index
    ∙ ap (λ x. c l.index_kept l.blocks_kept l.index_more.items x) e.blocks

pub file_alike : (b : Parcel) (file : FilePlace) (l l' : Laid) → Alike l l' → IsFile b file l → IsFile b file l'
file_alike b file l l' e is = record {
  shown = is.shown;
  there = is.there;
  slot = is.slot;
  laid = record {
    index = rw e.index_kept is.laid.index;
    blocks = rw e.blocks_kept is.laid.blocks;
    narrow_index = rw (e.index_kept, e.index) is.laid.narrow_index;
    narrow_blocks = rw (e.blocks_kept, e.blocks) is.laid.narrow_blocks;
    index_there = λ at h. is.laid.index_there at (subst (In at) e.index h);
    blocks_there = λ at h. is.laid.blocks_there at (subst (In at) e.blocks h);
  };
}

pub chain_at_alike : (b : Parcel) (file : FilePlace) (l l' : Laid) → Alike l l' → IsFile b file l → chain_at b file l' ≡ chain_at b file l
chain_at_alike b file l l' e is =
    chain_there b file l' is.shown is.there ∙ chain_alike is.shown b.pages l l' e ∙ sym (chain_there b file l is.shown is.there)

pub has_alike : (b : Parcel) (file : FilePlace) (l l' : Laid) → Alike l l' → IsFile b file l → HasChain b file l → HasChain b file l'
has_alike b file l l' e is has = record {
  blocks = ap (λ (c : Chain). length c.blocks) (chain_at_alike b file l l' e is) ∙ has.blocks;
  index = ap (λ (c : Chain). length c.index) (chain_at_alike b file l l' e is) ∙ has.index;
}

pub chains_set_alike : (b : Parcel) (ls : List Laid) (i : ℕ) (l l' : Laid) → AreLaid b ls → i < length ls → l ≡ get_or ls i l → Alike l l'
    → chains_laid b.writes b.pages (slice_set ls i l') ≡ chains_laid b.writes b.pages ls
chains_set_alike b ls i l l' are lt e alike =
    let is = are.each i l (laid_at ls i l lt e) in
    let f = lent_parts b i is.shown is.there in
    let there = chains_at b.writes b.pages ls i f.0 l f.1 (laid_at ls i l lt e) in
    chains_set b.writes b.pages ls i f.0 l' f.1 lt
    ∙ ap (slice_set (chains_laid b.writes b.pages ls) i) (chain_alike f.0.stands b.pages l l' alike)
    ∙ set_same (chains_laid b.writes b.pages ls) i (chain_laid f.0.stands b.pages l) there
