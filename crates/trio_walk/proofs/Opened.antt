-- What a session sees in its open files, and that more leases leave it so.
use Rattle.trio_walk.proofs.Words.{◌++◌, ◌+◌, ◌<◌, ◌∙◌, ◌∷◌, ◌≡◌, Bool, Directory, EntryPart, HasRights, In, In-map, Kind, LentPage, List, MadeFile, Nodes, None, Option, Parcel, Place, SeesOpen, SessionSeen, Sheet, Shown, Some, [], ap, arith, block_shown, body_in, bundle_of, chain_in, cond, dir_pages, entry_in, entry_shown, eqb, every_number, false, find, inl, ino_numbers, inr, is_some, kind_shown, length, length-append, lent_sheet, map, node_at, number_shown, open_kind, option_and_then, option_map, option_map_or, option_or, page_in, place_of, place_shown, read_file, refl, rights_in, sheets_of, slice_get, slot_bytes, slot_of, slots_of, slots_shown, subst, suc, sym, true, zero, ℕ}
use Rattle.std.proofs.Common.{ltb, not}
use Rattle.std.specs.List.{position, prefix_len}
use Rattle.std.proofs.lemmas.Bool.{cases_Bool, ltb-true, lt-ltb}
use Rattle.trio_rights.specs.Bundle.{bundle_pages}
use Rattle.trio_lists.specs.Lists.{are_new}
use Rattle.trio_lists.proofs.Gathered.{one_keyed}
use Rattle.trio_lease.specs.Shown.{page_at}
use Rattle.trio_session.specs.Seen.{pages_shown}
use Rattle.trio_session.proofs.Pages.{sheet_at}

-- ---- pages

-- a page of one that is there, where all of it is in more
pub page_in-more : (b b' : Parcel) (n : ℕ) → are_new [] (bundle_pages (bundle_of b')) ≡ true → ((x : Sheet) → In x (sheets_of b) → In x (sheets_of b'))
    → In n (bundle_pages (bundle_of b)) → page_in b' n ≡ page_in b n
page_in-more b b' n once sub i =
    let x = sheet_at b n i in
    let j : In n (bundle_pages (bundle_of b')) = subst (λ k. In k (bundle_pages (bundle_of b'))) x.2 (In-map (λ (y : Sheet). y.page) x.0 (sheets_of b') (sub x.0 x.1)) in
    let y = sheet_at b' n j in
    let one : y.0 ≡ x.0 = one_keyed (λ (z : Sheet). z.page) (sheets_of b') y.0 x.0 once y.1 (sub x.0 x.1) (y.2 ∙ sym x.2) in
    y.3 ∙ ap (λ (z : Sheet). z.bytes) one ∙ sym x.3

-- a lent page that is there
pub page_in-lent : (b : Parcel) (q : LentPage) → are_new [] (bundle_pages (bundle_of b)) ≡ true → In (lent_sheet q) (sheets_of b) → page_in b q.no.0 ≡ q.page
page_in-lent b q once i =
    let y = sheet_at b q.no.0 (In-map (λ (y : Sheet). y.page) (lent_sheet q) (sheets_of b) i) in
    let one : y.0 ≡ lent_sheet q = one_keyed (λ (z : Sheet). z.page) (sheets_of b) y.0 (lent_sheet q) once y.1 i y.2 in
    y.3 ∙ ap (λ (z : Sheet). z.bytes) one

-- ---- places

-- the first place stays with more behind it
pub prefix_len-append : {X : Type 0} (q : X → Bool) (xs ys : List X) → prefix_len q xs < length xs → prefix_len q (xs ++ ys) ≡ prefix_len q xs
prefix_len-append q [] ys lt = absurd (omega (arith, lt))
prefix_len-append {X} q (x ∷ xs) ys lt = by (λ less. prefix_len-append q xs ys less) (q x) refl
  where
    by : (prefix_len q xs < length xs → prefix_len q (xs ++ ys) ≡ prefix_len q xs) → (b : Bool) → q x ≡ b → prefix_len q ((x ∷ xs) ++ ys) ≡ prefix_len q (x ∷ xs)
    by again true e =
        let here : prefix_len q (x ∷ xs) ≡ 1 + prefix_len q xs = ap (λ b. cond b (1 + prefix_len q xs) 0) e in
        let less : prefix_len q xs < length xs = omega (arith, lt, here) in
        ap (λ b. cond b (1 + prefix_len q (xs ++ ys)) 0) e ∙ ap (λ n. 1 + n) (again less) ∙ sym here
    by again false e = ap (λ b. cond b (1 + prefix_len q (xs ++ ys)) 0) e ∙ sym (ap (λ b. cond b (1 + prefix_len q xs) 0) e)

-- where none passes but the last, its place is the last
prefix_len-last : {X : Type 0} (p : X → Bool) (xs : List X) (y : X) → find p xs ≡ None → p y ≡ true → prefix_len (λ x. not (p x)) (xs ++ y ∷ []) ≡ length xs
prefix_len-last p [] y none here = ap (λ b. cond (not b) (1 + 0) 0) here
prefix_len-last {X} p (x ∷ xs) y none here = by (λ later. prefix_len-last p xs y later here) (p x) refl
  where
    by : (find p xs ≡ None → prefix_len (λ z. not (p z)) (xs ++ y ∷ []) ≡ length xs) → (b : Bool) → p x ≡ b → prefix_len (λ z. not (p z)) ((x ∷ xs) ++ y ∷ []) ≡ length (x ∷ xs)
    by again true e = (let wrong : Some x ≡ None = sym (ap (λ b. cond b (Some x) (find p xs)) e) ∙ none in absurd (cc wrong))
    by again false e =
        let later : find p xs ≡ None = sym (ap (λ b. cond b (Some x) (find p xs)) e) ∙ none in
        ap (λ b. cond (not b) (1 + prefix_len (λ z. not (p z)) (xs ++ y ∷ [])) 0) e ∙ ap (λ n. 1 + n) (again later) ∙ (let z : 1 + length xs ≡ suc (length xs) = omega arith in z)

pub position-append : {X : Type 0} (p : X → Bool) (xs ys : List X) (i : ℕ) → position p xs ≡ Some i → position p (xs ++ ys) ≡ Some i
position-append p xs ys i e =
    elim (cases_Bool (ltb (prefix_len (λ x. not (p x)) xs) (length xs))) [
      | inl t ↦
          let q : ℕ = prefix_len (λ x. not (p x)) xs in
          let lt : q < length xs = ltb-true q (length xs) t in
          let long = length-append xs ys in
          let same : prefix_len (λ x. not (p x)) (xs ++ ys) ≡ q = prefix_len-append (λ x. not (p x)) xs ys lt in
          let more : ltb q (length (xs ++ ys)) ≡ true = lt-ltb q (length (xs ++ ys)) (omega (arith, lt, long)) in
          ap (λ n. cond (ltb n (length (xs ++ ys))) (Some n) None) same
          ∙ ap (λ b. cond b (Some q) None) more
          ∙ sym (ap (λ b. cond b (Some q) None) t)
          ∙ e
      | inr f ↦ (let wrong : None ≡ Some i = sym (ap (λ b. cond b (Some (prefix_len (λ x. not (p x)) xs)) None) f) ∙ e in absurd (cc wrong))
    ]

pub position-last : {X : Type 0} (p : X → Bool) (xs : List X) (y : X) → find p xs ≡ None → p y ≡ true → position p (xs ++ y ∷ []) ≡ Some (length xs)
position-last p xs y none here =
    let long = length-append xs (y ∷ []) in
    let same = prefix_len-last p xs y none here in
    let more : ltb (length xs) (length (xs ++ y ∷ [])) ≡ true = lt-ltb (length xs) (length (xs ++ y ∷ [])) (omega (arith, long)) in
    ap (λ n. cond (ltb n (length (xs ++ y ∷ []))) (Some n) None) same ∙ ap (λ b. cond b (Some (length xs)) None) more

-- ---- one open directory

-- what is seen in it goes by its blocks alone
pub record IsSeenBy (s : SessionSeen) (d : ℕ) (pages : List (List ℕ)) : Type 0 where
  pub place : (name : List ℕ) → place_shown s d name ≡ place_of (Some Directory) (slots_of every_number pages) name
  pub block : (k : ℕ) → block_shown s d k ≡ slice_get pages k

pub slice_get-mapped : {X Y : Type 0} (f : X → Y) (xs : List X) (k : ℕ) → option_map f (slice_get xs k) ≡ slice_get (map f xs) k
slice_get-mapped f [] k = refl
slice_get-mapped f (x ∷ xs) zero = refl
slice_get-mapped f (x ∷ xs) (suc k) = slice_get-mapped f xs k

pub open_seen : (s : SessionSeen) (d : ℕ) → open_kind s d ≡ Some Directory → IsSeenBy s d (map (page_in s.parcel) (chain_in s d).blocks)
open_seen s d e =
    let pages : pages_shown s d ≡ map (page_in s.parcel) (chain_in s d).blocks =
    ap (λ o. cond (is_some o) (map (page_in s.parcel) (chain_in s d).blocks) (option_map_or dir_pages (read_file s d) [])) e in
    let kind : kind_shown s d ≡ Some Directory = ap (λ o. option_or o (option_map (λ (f : Shown). f.kind) (read_file s d))) e in
    record {
      place = λ name. ap (λ k. place_of k (slots_shown s d) name) kind ∙ ap (λ p. place_of (Some Directory) (slots_of every_number p) name) pages;
      block = λ k.
          ap (λ o. cond (is_some o) (option_map (page_in s.parcel) (slice_get (chain_in s d).blocks k)) (option_and_then (λ (f : Shown). page_at f.blocks k) (read_file s d))) e
          ∙ slice_get-mapped (page_in s.parcel) (chain_in s d).blocks k;
    }

-- so two sessions see the same in it
module _ (s s' : SessionSeen) (d : ℕ) (pages : List (List ℕ)) (a : IsSeenBy s d pages) (b : IsSeenBy s' d pages) where
  block_same : (k : ℕ) → block_shown s' d k ≡ block_shown s d k
  block_same k = b.block k ∙ sym (a.block k)

  place_same : (name : List ℕ) → place_shown s' d name ≡ place_shown s d name
  place_same name = b.place name ∙ sym (a.place name)

  entry_same : (p : Place) → entry_shown s' d p ≡ entry_shown s d p
  entry_same p = ap (option_and_then (λ bytes. entry_in (slot_of every_number (slot_bytes p.slot bytes)))) (block_same p.block)

  pub sees_same : (now : Nodes) → body_in s' d ≡ body_in s d → s'.made ≡ s.made → ((n : ℕ) → In n (ino_numbers s'.parcel.inodes) → In n (ino_numbers s.parcel.inodes)) → SeesOpen s d now → SeesOpen s' d now
  sees_same now body made numbers o = record {
    rights = subst (λ x. HasRights (rights_in Directory x) (node_at now d)) (sym body) o.rights;
    named = λ name.
        o.named name
        ∙ ap (option_map (number_shown s d)) (sym (place_same name))
        ∙ number_all (place_shown s' d name);
    entries = λ p e page lt block entry. o.entries p e page lt (sym (block_same p.block) ∙ block) (sym (entry_same p) ∙ entry);
    made = λ p e lt entry i. subst (λ (l : List MadeFile). is_some (find (λ (m : MadeFile). eqb m.ino e.ino) l) ≡ true) (sym made) (o.made p e lt (sym (entry_same p) ∙ entry) (numbers e.ino i));
  }
    where
      number_all : (o : Option Place) → option_map (number_shown s d) o ≡ option_map (number_shown s' d) o
      number_all None = refl
      number_all (Some p) = ap (λ q. Some (option_map_or (λ (e : EntryPart). e.ino) q 0)) (sym (entry_same p))

-- a directory that is lent for reading
pub read_seen : (s : SessionSeen) (d : ℕ) (f : Shown) → open_kind s d ≡ None → read_file s d ≡ Some f → f.kind ≡ Directory → IsSeenBy s d (dir_pages f)
read_seen s d f closed is dir =
    let kind : kind_shown s d ≡ Some Directory =
    ap (λ o. option_or o (option_map (λ (x : Shown). x.kind) (read_file s d))) closed ∙ ap (option_map (λ (x : Shown). x.kind)) is ∙ ap Some dir in
    let pages : pages_shown s d ≡ dir_pages f =
    ap (λ o. cond (is_some o) (map (page_in s.parcel) (chain_in s d).blocks) (option_map_or dir_pages (read_file s d) [])) closed ∙ ap (λ o. option_map_or dir_pages o []) is in
    record {
      place = λ name. ap (λ k. place_of k (slots_shown s d) name) kind ∙ ap (λ q. place_of (Some Directory) (slots_of every_number q) name) pages;
      block = λ k.
          ap (λ o. cond (is_some o) (option_map (page_in s.parcel) (slice_get (chain_in s d).blocks k)) (option_and_then (λ (x : Shown). page_at x.blocks k) (read_file s d))) closed
          ∙ ap (option_and_then (λ (x : Shown). page_at x.blocks k)) is
          ∙ slice_get-mapped (λ q. q.page) f.blocks k;
    }

-- each directory that a session has is seen by some blocks
pub dir_seen : (s : SessionSeen) (d : ℕ) → kind_shown s d ≡ Some Directory → (pages : List (List ℕ)) × IsSeenBy s d pages
dir_seen s d h = by (open_kind s d) refl
  where
    kind_by : (o : Option Kind) → open_kind s d ≡ o → option_or o (option_map (λ (x : Shown). x.kind) (read_file s d)) ≡ Some Directory
    kind_by o e = sym (ap (λ q. option_or q (option_map (λ (x : Shown). x.kind) (read_file s d))) e) ∙ h

    by_read : open_kind s d ≡ None → (o : Option Shown) → read_file s d ≡ o → (pages : List (List ℕ)) × IsSeenBy s d pages
    by_read closed None e = (let wrong : None ≡ Some Directory = sym (ap (option_map (λ (x : Shown). x.kind)) e) ∙ kind_by None closed in absurd (cc wrong))
    by_read closed (Some f) e =
        let same : Some f.kind ≡ Some Directory = sym (ap (option_map (λ (x : Shown). x.kind)) e) ∙ kind_by None closed in (dir_pages f, read_seen s d f closed e (cc same))

    by : (o : Option Kind) → open_kind s d ≡ o → (pages : List (List ℕ)) × IsSeenBy s d pages
    by (Some k) e = (let same : Some k ≡ Some Directory = kind_by (Some k) e in (map (page_in s.parcel) (chain_in s d).blocks, open_seen s d (e ∙ same)))
    by None e = by_read e (read_file s d) refl
