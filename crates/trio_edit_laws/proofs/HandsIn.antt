-- All that is out is in hand, each thing once: on its desk a session has it so, by what it has alone.
use Rattle.trio_edit_laws.proofs.Words.{◌++◌, ◌∙◌, ◌≡◌, Allotted, AreWhole, DeskSeen, FreshParts, HandsInAll, In, In-cases, In-map, In-right, InoParts, IsFreshAllotment, IsFreshLease, IsOn, LentFile, LibNo, LibOut, List, Parcel, SessionSeen, Shown, Sizes, [], and_from, are_new, are_new-append, are_new-fewer, arith, file_numbers, flat_map, hold_numbers, inl, ino_numbers, inr, length, length-zeros, map, map-In, map-append, numbers_of_file, page_numbers, pages_out, subst, sym, true, ℕ}
use Rattle.trio_lease.specs.declared.lease.Lease.TheVariants.{Write}
use Rattle.trio_desk.specs.Out.{SameFile}

-- the file stands as it was lent, but for bytes
pub record StandsAsLent (f : LentFile) : Type 0 where
  pub same : SameFile f.stands f.lent
  pub index : AreWhole f.stands.index
  pub blocks : AreWhole f.stands.blocks

-- What is in hand, whatever is out: files that stand as they were lent, whole pages, and each thing once.
pub record IsSound (b : Parcel) (back : List Shown) : Type 0 where
  pub files : (f : LentFile) → In f b.writes → StandsAsLent f
  pub whole : (p : FreshParts) → In p b.pages → length p.page ≡ 4096
  pub files_once : are_new [] (file_numbers b.writes) ≡ true
  pub holds_once : are_new [] (hold_numbers b.holds) ≡ true
  pub pages_once : are_new [] (page_numbers b.pages) ≡ true
  pub numbers_once : are_new [] (ino_numbers b.inodes) ≡ true
  pub reads_once : are_new [] (map (λ f. f.ino) back) ≡ true

-- what is handed in is so
pub sound : (out : LibOut) (b : Parcel) (back : List Shown) → HandsInAll out b back → IsSound b back
sound out b back all = record {
  files = λ f i. (let g = all.given.writes f i in record { same = g.same; index = g.index; blocks = g.blocks });
  whole = λ p i. (all.given.pages p i).whole;
  files_once = all.given.writes_once;
  holds_once = all.given.holds_once;
  pages_once = all.given.pages_once;
  numbers_once = all.given.numbers_once;
  reads_once = all.reads_once;
}

-- and on its desk a session hands in all that is out
pub hands_in : (desk : DeskSeen) (s : SessionSeen) → IsOn desk s → IsSound s.parcel s.reads → HandsInAll desk.out s.parcel s.reads
hands_in desk s on is = record {
  given = record {
    writes = λ f i.
        let g = is.files f i in
        record { lent = subst (λ l. In f.lent l) (sym on.out.writes) (In-map (λ (x : LentFile). x.lent) f s.parcel.writes i); same = g.same; index = g.index; blocks = g.blocks };
    holds = λ h i. subst (λ l. In h l) (sym on.out.holds) i;
    pages = λ p i. record { given = (on.out.pages p.no.0).1 (In-map (λ (x : FreshParts). x.no.0) p s.parcel.pages i); whole = is.whole p i };
    numbers = λ n i. (on.out.numbers n.no).1 (In-map (λ (x : InoParts). x.no) n s.parcel.inodes i);
    writes_once = is.files_once;
    holds_once = is.holds_once;
    pages_once = is.pages_once;
    numbers_once = is.numbers_once;
  };
  writes = λ f i. subst (λ l. In f l) on.out.writes i;
  reads = λ f. ((λ i. subst (λ l. In f l) on.out.reads i), (λ i. subst (λ l. In f l) (sym on.out.reads) i));
  reads_once = is.reads_once;
  holds = λ h i. subst (λ l. In h l) on.out.holds i;
  pages = λ n i. (on.out.pages n).0 i;
  numbers = λ n i. (on.out.numbers n).0 i;
}

-- a write lease stands as it was lent
pub fresh_stands : (lib : LibNo) (ino : ℕ) (sizes : Sizes) (out : LibOut) (f : LentFile) → IsFreshLease lib ino sizes out (Write f) → StandsAsLent f
fresh_stands lib ino sizes out f fresh = search arith

-- what is handed in stays sound with an allotment
module _ (lib : LibNo) (sizes : Sizes) (out : LibOut) (b : Parcel) (back : List Shown) (all : HandsInAll out b back) (given : Allotted) (fresh : IsFreshAllotment lib sizes out given) where
  abbrev pages : List ℕ
  pages = page_numbers given.pages.items

  abbrev numbers : List ℕ
  numbers = ino_numbers given.inodes.items

  once : (xs ys : List ℕ) → are_new [] xs ≡ true → are_new xs ys ≡ true → are_new [] (xs ++ ys) ≡ true
  once xs ys a n = are_new-append [] xs ys ∙ and_from (are_new [] xs) (are_new xs ys) a n

  page_there : (n : ℕ) → In n (page_numbers b.pages) → In n (pages_out out)
  page_there n i =
      let p = map-In (λ (x : FreshParts). x.no.0) n b.pages i in
      In-right n (flat_map numbers_of_file out.writes) out.pages (subst (λ m. In m out.pages) (sym p.2) (all.given.pages p.0 p.1).given)

  number_there : (n : ℕ) → In n (ino_numbers b.inodes) → In n out.numbers
  number_there n i = let p = map-In (λ (x : InoParts). x.no) n b.inodes i in subst (λ m. In m out.numbers) (sym p.2) (all.given.numbers p.0 p.1)

  zero_whole : (p : FreshParts) → In p given.pages.items → length p.page ≡ 4096
  zero_whole p i = search (arith, map-In, length-zeros)

  pub sound_allotted : IsSound (record b { pages = b.pages ++ given.pages.items; inodes = b.inodes ++ given.inodes.items }) back
  sound_allotted =
      let was = sound out b back all in
      record {
        files = was.files;
        whole = λ p i. elim (In-cases p b.pages given.pages.items i) [ inl j ↦ was.whole p j | inr j ↦ zero_whole p j ];
        files_once = was.files_once;
        holds_once = was.holds_once;
        pages_once = search (arith, map-append, once, are_new-fewer, page_there);
        numbers_once = search (arith, map-append, once, are_new-fewer, number_there);
        reads_once = was.reads_once;
      }
