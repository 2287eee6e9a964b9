-- What a library has stands on its desk's list, through all that the desk answers.
use Rattle.trio_raw.proofs.Words.{◌++◌, ◌∙◌, ◌∷◌, ◌≡◌, AreWhole, FreshParts, Has, Hold, HoldParts, In, In-cases, In-left, In-map, In-right, InoParts, IsFreshLease, IsLent, Lease, LentFile, LibNo, LibOut, List, OnList, OutAlike, Read, SameFile, Shown, Sizes, WasGiven, Write, [], and_from, ap, are_new, are_new-fewer, eqb, file_numbers, has_all_of, hold_numbers, inl, ino_numbers, inr, is_among, is_among-not, keeps_allotted, keeps_lease, length, map, map-In, map-append, ne_eqb, not, not_from_false, page_numbers, parcel_named, read_numbers, refl, rest_of, subst, sym, true, whole_parcel, with_allotted, with_lease, with_parcel, with_reads, without, without_parcel, without_read, ℕ}
use Rattle.std.proofs.lemmas.List.{map-id}
use Rattle.std.proofs.lemmas.Simd.{map-map}
use Rattle.trio_page.proofs.Cursor.{length-zeros}
use Rattle.trio_lists.proofs.Filters.{In-filter}
use Rattle.trio_desk.specs.Out.{files_out, new_ino, zero_page}
use Rattle.trio_raw.specs.Has.{without_read as has_without_read}
use Rattle.trio_raw.proofs.Once.{back_in, back_once, gone, left_unnamed, named_in, named_once, once_more, without_all_in, without_all_once, without_in, without_new}
use Rattle.trio_raw.proofs.Names.{names_once}

-- on a list that is alike it stands too
pub stands_alike : (a b : LibOut) (has : Has) → OutAlike a b → OnList b has → OnList a has
stands_alike a b has same h = record {
  writes = λ f i. let l = h.writes f i in record { lent = subst (In f.lent) (sym same.writes) l.lent; same = l.same; index = l.index; blocks = l.blocks };
  reads = λ r i. subst (In r) (sym same.reads) (h.reads r i);
  holds = λ k i. subst (In k) (sym same.holds) (h.holds k i);
  pages = λ p i. let x = h.pages p i in record { given = (same.pages p.no.0).1 x.given; whole = x.whole };
  numbers = λ n i. (same.numbers n.no).1 (h.numbers n i);
  writes_once = h.writes_once;
  reads_once = h.reads_once;
  holds_once = h.holds_once;
  pages_once = h.pages_once;
  numbers_once = h.numbers_once;
}

-- the same file with the same pages
pub same_file : (a : Shown) → SameFile a a
same_file a = record { lib = refl; ino = refl; kind = refl; entry = refl; index = refl; blocks = refl }

one_new : (xs : List ℕ) (n : ℕ) → (In n xs → ⊥) → are_new xs (n ∷ []) ≡ true
one_new xs n h = and_from (not (is_among n xs)) true (not_from_false (is_among n xs) (is_among-not n xs h)) refl

-- what is out where other things are
lent_still : (out : LibOut) (f : LentFile) (more : List Shown) (out' : LibOut) → out'.writes ≡ out.writes ++ more → IsLent out f → IsLent out' f
lent_still out f more out' e l = record { lent = subst (In f.lent) (sym e) (In-left f.lent out.writes more l.lent); same = l.same; index = l.index; blocks = l.blocks }

-- ---- what is given

-- a file that is new to the list is new to what is had of it
new_file : (out : LibOut) (has : Has) (n : ℕ) → OnList out has → (In n (map (λ (w : Shown). w.ino) out.writes) → ⊥) → In n (file_numbers has.writes) → ⊥
new_file out has n h new i =
    let r = map-In (λ (f : LentFile). f.stands.ino) n has.writes i in
    let l = h.writes r.0 r.1 in
    new (subst (λ m. In m (map (λ (w : Shown). w.ino) out.writes)) (sym l.same.ino ∙ sym r.2) (In-map (λ (w : Shown). w.ino) r.0.lent out.writes l.lent))

new_read : (out : LibOut) (has : Has) (n : ℕ) → OnList out has → (In n (read_numbers out.reads) → ⊥) → In n (read_numbers has.reads) → ⊥
new_read out has n h new i =
    let r = map-In (λ (f : Shown). f.ino) n has.reads i in
    new (subst (λ m. In m (read_numbers out.reads)) (sym r.2) (In-map (λ (w : Shown). w.ino) r.0 out.reads (h.reads r.0 r.1)))

new_hold : (out : LibOut) (has : Has) (n : ℕ) → OnList out has → (In n (hold_numbers out.holds) → ⊥) → In n (hold_numbers has.holds) → ⊥
new_hold out has n h new i =
    let r = map-In (λ (k : HoldParts). k.ino) n has.holds i in
    new (subst (λ m. In m (hold_numbers out.holds)) (sym r.2) (In-map (λ (k : HoldParts). k.ino) r.0 out.holds (h.holds r.0 r.1)))

-- nothing is out on a file, so no lease of any kind is
new_write : (out : LibOut) (n : ℕ) → (In n (files_out out) → ⊥) → In n (map (λ (w : Shown). w.ino) out.writes) → ⊥
new_write out n new i =
    let writes = map (λ (w : Shown). w.ino) out.writes in
    let reads = map (λ (r : Shown). r.ino) out.reads in
    new (In-left n (writes ++ reads) (hold_numbers out.holds) (In-left n writes reads i))

no_read : (out : LibOut) (n : ℕ) → (In n (files_out out) → ⊥) → In n (read_numbers out.reads) → ⊥
no_read out n new i =
    let writes = map (λ (w : Shown). w.ino) out.writes in
    let reads = map (λ (r : Shown). r.ino) out.reads in
    new (In-left n (writes ++ reads) (hold_numbers out.holds) (In-right n writes reads i))

no_hold : (out : LibOut) (n : ℕ) → (In n (files_out out) → ⊥) → In n (hold_numbers out.holds) → ⊥
no_hold out n new i =
    let writes = map (λ (w : Shown). w.ino) out.writes in
    let reads = map (λ (r : Shown). r.ino) out.reads in
    new (In-right n (writes ++ reads) (hold_numbers out.holds) i)

pub stands-lease : (lib : LibNo) (ino : ℕ) (sizes : Sizes) (out : LibOut) (has : Has) (lease : Lease) → OnList out has → IsFreshLease lib ino sizes out lease → OnList (with_lease out lease) (keeps_lease has lease)
stands-lease lib ino sizes out has (Write f) h fresh = record {
  writes = λ x i. elim (In-cases x has.writes (f ∷ []) i) [
    | inl a ↦ lent_still out x (f.lent ∷ []) (with_lease out (Write f)) refl (h.writes x a)
    | inr b ↦
        elim b [
          | inl e ↦
              subst (IsLent (with_lease out (Write f))) (sym e) (record {
                lent = In-right f.lent out.writes (f.lent ∷ []) (inl refl);
                same = subst (λ s. SameFile s f.lent) (sym fresh.is.as_lent) (same_file f.lent);
                index = subst (λ (s : Shown). AreWhole s.index) (sym fresh.is.as_lent) fresh.is.well.index;
                blocks = subst (λ (s : Shown). AreWhole s.blocks) (sym fresh.is.as_lent) fresh.is.well.blocks;
              })
          | inr k ↦ absurd k
        ]
  ];
  reads = h.reads;
  holds = h.holds;
  pages = λ p i. let a = h.pages p i in record { given = a.given; whole = a.whole };
  numbers = h.numbers;
  writes_once =
      ap (are_new []) (map-append (λ (x : LentFile). x.stands.ino) has.writes (f ∷ []))
      ∙ once_more (file_numbers has.writes) (f.stands.ino ∷ []) h.writes_once
      (one_new (file_numbers has.writes) f.stands.ino (λ i. new_file out has ino h (new_write out ino fresh.new) (subst (λ n. In n (file_numbers has.writes)) (ap (λ (s : Shown). s.ino) fresh.is.as_lent ∙ fresh.is.ino) i)));
  reads_once = h.reads_once;
  holds_once = h.holds_once;
  pages_once = h.pages_once;
  numbers_once = h.numbers_once;
}
stands-lease lib ino sizes out has (Read f) h fresh = record {
  writes = λ x i. let l = h.writes x i in record { lent = l.lent; same = l.same; index = l.index; blocks = l.blocks };
  reads = λ x i. elim (In-cases x has.reads (f ∷ []) i) [
    | inl a ↦ In-left x out.reads (f ∷ []) (h.reads x a)
    | inr b ↦ In-right x out.reads (f ∷ []) b
  ];
  holds = h.holds;
  pages = λ p i. let a = h.pages p i in record { given = a.given; whole = a.whole };
  numbers = h.numbers;
  writes_once = h.writes_once;
  reads_once =
      ap (are_new []) (map-append (λ (x : Shown). x.ino) has.reads (f ∷ []))
      ∙ once_more (read_numbers has.reads) (f.ino ∷ []) h.reads_once
      (one_new (read_numbers has.reads) f.ino (λ i. new_read out has ino h (no_read out ino fresh.new) (subst (λ n. In n (read_numbers has.reads)) fresh.is.1 i)));
  holds_once = h.holds_once;
  pages_once = h.pages_once;
  numbers_once = h.numbers_once;
}
stands-lease lib ino sizes out has (Hold k) h fresh = record {
  writes = λ x i. let l = h.writes x i in record { lent = l.lent; same = l.same; index = l.index; blocks = l.blocks };
  reads = h.reads;
  holds = λ x i. elim (In-cases x has.holds (k ∷ []) i) [
    | inl a ↦ In-left x out.holds (k ∷ []) (h.holds x a)
    | inr b ↦ In-right x out.holds (k ∷ []) b
  ];
  pages = λ p i. let a = h.pages p i in record { given = a.given; whole = a.whole };
  numbers = h.numbers;
  writes_once = h.writes_once;
  reads_once = h.reads_once;
  holds_once =
      ap (are_new []) (map-append (λ (x : HoldParts). x.ino) has.holds (k ∷ []))
      ∙ once_more (hold_numbers has.holds) (k.ino ∷ []) h.holds_once
      (one_new (hold_numbers has.holds) k.ino (λ i. new_hold out has ino h (no_hold out ino fresh.new) (subst (λ n. In n (hold_numbers has.holds)) fresh.is.1 i)));
  pages_once = h.pages_once;
  numbers_once = h.numbers_once;
}

-- more is out than it has
pub stands-wider : (out : LibOut) (has : Has) (pages numbers : List ℕ) → OnList out has → OnList (with_allotted out pages numbers) has
stands-wider out has pages numbers h = record {
  writes = λ x i. let l = h.writes x i in record { lent = l.lent; same = l.same; index = l.index; blocks = l.blocks };
  reads = h.reads;
  holds = h.holds;
  pages = λ p i. let a = h.pages p i in record { given = In-left p.no.0 out.pages pages a.given; whole = a.whole };
  numbers = λ n i. In-left n.no out.numbers numbers (h.numbers n i);
  writes_once = h.writes_once;
  reads_once = h.reads_once;
  holds_once = h.holds_once;
  pages_once = h.pages_once;
  numbers_once = h.numbers_once;
}

-- numbers new to a list are new to what is had of it
new_of : {X : Type 0} (number : X → ℕ) (xs : List X) (outs ns : List ℕ) → ((x : X) → In x xs → In (number x) outs) → are_new outs ns ≡ true → are_new (map number xs) ns ≡ true
new_of number xs outs ns there new =
    are_new-fewer (map number xs) outs ns (λ n i. let r = map-In number n xs i in subst (λ m. In m outs) (sym r.2) (there r.0 r.1)) new

pub stands-allotted : (lib : LibNo) (out : LibOut) (has : Has) (pages numbers : List ℕ) → OnList out has → are_new out.pages pages ≡ true → are_new out.numbers numbers ≡ true → OnList (with_allotted out pages numbers) (keeps_allotted lib has pages numbers)
stands-allotted lib out has pages numbers h p n =
    let w = stands-wider out has pages numbers h in
    let zs : List FreshParts = map (zero_page lib) pages in
    let is : List InoParts = map (new_ino lib) numbers in
    let page_nos : page_numbers zs ≡ pages = map-map (λ (x : FreshParts). x.no.0) (zero_page lib) pages ∙ map-id pages in
    let ino_nos : ino_numbers is ≡ numbers = map-map (λ (x : InoParts). x.no) (new_ino lib) numbers ∙ map-id numbers in
    record {
      writes = w.writes;
      reads = w.reads;
      holds = w.holds;
      pages = λ x i. elim (In-cases x has.pages zs i) [
        | inl a ↦ w.pages x a
        | inr b ↦
            (let r = map-In (zero_page lib) x pages b in
            record {
              given = In-right x.no.0 out.pages pages (subst (λ m. In m pages) (ap (λ (y : FreshParts). y.no.0) (sym r.2)) r.1);
              whole = ap (λ (y : FreshParts). length y.page) r.2 ∙ length-zeros 4096;
            })
      ];
      numbers = λ x i. elim (In-cases x has.inodes is i) [
        | inl a ↦ w.numbers x a
        | inr b ↦
            (let r = map-In (new_ino lib) x numbers b in
            In-right x.no out.numbers numbers (subst (λ m. In m numbers) (ap (λ (y : InoParts). y.no) (sym r.2)) r.1))
      ];
      writes_once = w.writes_once;
      reads_once = w.reads_once;
      holds_once = w.holds_once;
      pages_once =
          ap (are_new []) (map-append (λ (x : FreshParts). x.no.0) has.pages zs ∙ ap (λ l. page_numbers has.pages ++ l) page_nos)
          ∙ once_more (page_numbers has.pages) pages h.pages_once
          (new_of (λ (x : FreshParts). x.no.0) has.pages out.pages pages (λ x i. (h.pages x i).given) p);
      numbers_once =
          ap (are_new []) (map-append (λ (x : InoParts). x.no) has.inodes is ∙ ap (λ l. ino_numbers has.inodes ++ l) ino_nos)
          ∙ once_more (ino_numbers has.inodes) numbers h.numbers_once
          (new_of (λ (x : InoParts). x.no) has.inodes out.numbers numbers (λ x i. h.numbers x i) n);
    }

-- ---- read leases that go back

-- what is left where all of what is left was there, once, and none of it is on the file that is back
pub stands-left : (out : LibOut) (has : Has) (ino : ℕ) (left : List Shown) → OnList out has → ((r : Shown) → In r left → In r has.reads) → ((r : Shown) → In r left → r.ino ≡ ino → ⊥) → are_new [] (read_numbers left) ≡ true → OnList (without_read out ino) (with_reads has left)
stands-left out has ino left h there others once = record {
  writes = λ x i. let l = h.writes x i in record { lent = l.lent; same = l.same; index = l.index; blocks = l.blocks };
  reads = λ r i. In-filter (λ (x : Shown). not (eqb x.ino ino)) r out.reads (h.reads r (there r i)) (not_from_false (eqb r.ino ino) (ne_eqb r.ino ino (others r i)));
  holds = h.holds;
  pages = λ p i. let a = h.pages p i in record { given = a.given; whole = a.whole };
  numbers = h.numbers;
  writes_once = h.writes_once;
  reads_once = once;
  holds_once = h.holds_once;
  pages_once = h.pages_once;
  numbers_once = h.numbers_once;
}

pub stands-back : (out : LibOut) (has : Has) (ino : ℕ) → OnList out has → OnList (without_read out ino) (has_without_read has ino)
stands-back out has ino h =
    let number : Shown → ℕ = λ r. r.ino in
    stands-left out has ino (without number has.reads ino) h
    (λ r i. without_in number has.reads ino r i)
    (λ r i e. gone number has.reads ino r h.reads_once i e)
    (without_new number has.reads ino [] h.reads_once)

-- ---- what is handed in

-- what is named is out, each thing once
pub named-given : (out : LibOut) (has : Has) (inos pages numbers : List ℕ) → has_all_of has inos pages numbers ≡ true → OnList out has → WasGiven out (parcel_named has inos pages numbers)
named-given out has inos pages numbers all h =
    let once = names_once has inos pages numbers all in
    record {
      writes = λ f i. h.writes f (named_in (λ (f : LentFile). f.stands.ino) has.writes inos f i).0;
      holds = λ k i. h.holds k (named_in (λ (k : HoldParts). k.ino) has.holds inos k i).0;
      pages = λ p i. h.pages p (named_in (λ (p : FreshParts). p.no.0) has.pages pages p i).0;
      numbers = λ n i. h.numbers n (named_in (λ (n : InoParts). n.no) has.inodes numbers n i).0;
      writes_once = named_once (λ (f : LentFile). f.stands.ino) has.writes inos [] once.0;
      holds_once = named_once (λ (k : HoldParts). k.ino) has.holds inos [] once.0;
      pages_once = named_once (λ (p : FreshParts). p.no.0) has.pages pages [] once.1;
      numbers_once = named_once (λ (n : InoParts). n.no) has.inodes numbers [] once.2;
    }

-- so is all that it has
pub whole-given : (out : LibOut) (has : Has) → OnList out has → WasGiven out (whole_parcel has)
whole-given out has h = record {
  writes = h.writes;
  holds = h.holds;
  pages = h.pages;
  numbers = h.numbers;
  writes_once = h.writes_once;
  holds_once = h.holds_once;
  pages_once = h.pages_once;
  numbers_once = h.numbers_once;
}

-- what is left stands on the list without them
pub stands-rest : (out : LibOut) (has : Has) (inos pages numbers : List ℕ) → OnList out has → OnList (without_parcel out (parcel_named has inos pages numbers)) (rest_of has inos pages numbers)
stands-rest out has inos pages numbers h =
    let ino : LentFile → ℕ = λ f. f.stands.ino in
    let held : HoldParts → ℕ = λ k. k.ino in
    let page : FreshParts → ℕ = λ p. p.no.0 in
    let no : InoParts → ℕ = λ n. n.no in
    let p = parcel_named has inos pages numbers in
    record {
      writes = λ f i.
          let l = h.writes f (without_all_in ino has.writes inos f i) in
          let kept : not (is_among f.lent.ino (file_numbers p.writes)) ≡ true = ap (λ n. not (is_among n (file_numbers p.writes))) (sym l.same.ino) ∙ left_unnamed ino has.writes inos f h.writes_once i in
          record {
            lent = In-filter (λ (w : Shown). not (is_among w.ino (file_numbers p.writes))) f.lent out.writes l.lent kept;
            same = l.same;
            index = l.index;
            blocks = l.blocks;
          };
      reads = h.reads;
      holds = λ k i. In-filter (λ (x : HoldParts). not (is_among x.ino (hold_numbers p.holds))) k out.holds (h.holds k (without_all_in held has.holds inos k i)) (left_unnamed held has.holds inos k h.holds_once i);
      pages = λ x i.
          let a = h.pages x (without_all_in page has.pages pages x i) in
          record {
            given = In-filter (λ n. not (is_among n (page_numbers p.pages))) x.no.0 out.pages a.given (left_unnamed page has.pages pages x h.pages_once i);
            whole = a.whole;
          };
      numbers = λ x i. In-filter (λ n. not (is_among n (ino_numbers p.inodes))) x.no out.numbers (h.numbers x (without_all_in no has.inodes numbers x i)) (left_unnamed no has.inodes numbers x h.numbers_once i);
      writes_once = without_all_once ino has.writes inos h.writes_once;
      reads_once = h.reads_once;
      holds_once = without_all_once held has.holds inos h.holds_once;
      pages_once = without_all_once page has.pages pages h.pages_once;
      numbers_once = without_all_once no has.inodes numbers h.numbers_once;
    }

-- what came back stands as before
pub stands-returned : (out : LibOut) (has : Has) (inos pages numbers : List ℕ) → has_all_of has inos pages numbers ≡ true → OnList out has → OnList out (with_parcel (rest_of has inos pages numbers) (parcel_named has inos pages numbers))
stands-returned out has inos pages numbers all h =
    let once = names_once has inos pages numbers all in
    let ino : LentFile → ℕ = λ f. f.stands.ino in
    let held : HoldParts → ℕ = λ k. k.ino in
    let page : FreshParts → ℕ = λ p. p.no.0 in
    let no : InoParts → ℕ = λ n. n.no in
    record {
      writes = λ f i. h.writes f (back_in ino has.writes inos f i);
      reads = h.reads;
      holds = λ k i. h.holds k (back_in held has.holds inos k i);
      pages = λ x i. h.pages x (back_in page has.pages pages x i);
      numbers = λ x i. h.numbers x (back_in no has.inodes numbers x i);
      writes_once = back_once ino has.writes inos once.0 h.writes_once;
      reads_once = h.reads_once;
      holds_once = back_once held has.holds inos once.0 h.holds_once;
      pages_once = back_once page has.pages pages once.1 h.pages_once;
      numbers_once = back_once no has.inodes numbers once.2 h.numbers_once;
    }
