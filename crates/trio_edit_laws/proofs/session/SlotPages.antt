-- A directory of which one slot is written anew: its body and its chain read as before, and its entries but for those of the slot.
use Rattle.trio_edit_laws.proofs.Words.{◌*◌, ◌++◌, ◌+◌, ◌<◌, ◌∙◌, ◌∷◌, ◌≡◌, ◌≤◌, ◌⊎◌, Core, Directory, FileRead, In, In-cases, In-left, In-list_any, In-right, List, Listed, Location, Met, None, Ok, Pages, Result, SlotRead, Some, [], ap, append-nil, append_assoc, are_new, are_new-first, arith, block_count, body_in_slot, both, both-Ok, bytes_eq, bytes_eq-true, cases_eq, chain_same, cond, entries_where, entries_within, false, false_from_ne_true, false≢true, file_within, gathered, gathered_below, has_name, index_count, inl, inr, length, list_any-In, listed_at, page_of, refl, repeated_name, result_then, result_then-Ok, slice_range, slot_bytes, slot_entries, slot_of, subst, suc, sym, true, true-bytes_eq, unless_repeated, with_names_apart, with_other, with_part, within_from, within_to, zero, ℕ}
use Rattle.trio_layout.specs.Entries.{place_of}
use Rattle.trio_page.proofs.Fields.{slice-with_part_above, slice-with_part_below, slice-with_part_same}
use Rattle.trio_page.proofs.Ranges.{slice-slice}
use Rattle.trio_layout.specs.Entries.{entries_on}

-- ---- one of several lists

module _ {Y E : Type 0} where
  below_same : (f g : ℕ → Result (List Y) E) (n : ℕ) → ((i : ℕ) → i < n → g i ≡ f i) → gathered_below g n ≡ gathered_below f n
  below_same f g zero h = refl
  below_same f g (suc n) h = ap (λ r. both r (g n)) (below_same f g n (λ i l. h i (omega (arith, l)))) ∙ ap (both (gathered_below f n)) (h n (omega arith))

  list_same : (f g : ℕ → Result (List Y) E) (xs : List ℕ) → ((x : ℕ) → In x xs → g x ≡ f x) → gathered g xs ≡ gathered f xs
  list_same f g [] h = refl
  list_same f g (x ∷ xs) h = ap (λ r. both r (gathered g xs)) (h x (inl refl)) ∙ ap (both (f x)) (list_same f g xs (λ y i. h y (inr i)))

  -- what the list of one number is in, and that another is put in its place
  pub record BelowAround (f : ℕ → Result (List Y) E) (n k : ℕ) (ls : List Y) : Type 0 where
    pub front : List Y
    pub here : List Y
    pub back : List Y
    pub at : f k ≡ Ok here
    pub are : ls ≡ front ++ (here ++ back)
    pub put : (g : ℕ → Result (List Y) E) (o : List Y) → ((i : ℕ) → i < n → (i ≡ k → ⊥) → g i ≡ f i) → g k ≡ Ok o → gathered_below g n ≡ Ok (front ++ (o ++ back))

  below_around : (f : ℕ → Result (List Y) E) (n k : ℕ) (ls : List Y) → k < n → gathered_below f n ≡ Ok ls → BelowAround f n k ls
  below_around f zero k ls h e = absurd (omega arith)
  below_around f (suc n) k ls h e =
      let q = both-Ok (gathered_below f n) (f n) ls e in
      elim (cases_eq k n) [
        | inl same ↦ record {
          front = q.0;
          here = q.1;
          back = [];
          at = ap f same ∙ q.3;
          are = sym q.4 ∙ ap (λ l. q.0 ++ l) (sym (append-nil q.1));
          put = search (arith, below_same, append-nil);
        }
        | inr d ↦
            let l : k < n = omega (arith, h) in
            let r = below_around f n k q.0 l q.2 in
            record {
              front = r.front;
              here = r.here;
              back = r.back ++ q.1;
              at = r.at;
              are = sym q.4 ∙ ap (λ x. x ++ q.1) r.are ∙ append_assoc r.front (r.here ++ r.back) q.1 ∙ ap (λ x. r.front ++ x) (append_assoc r.here r.back q.1);
              put = λ g o others here.
                  ap (λ x. both x (g n)) (r.put g o (λ i less. others i (omega (arith, less))) here)
                  ∙ ap (both (Ok (r.front ++ (o ++ r.back)))) (others n (omega arith) (λ t. d (sym t)) ∙ q.3)
                  ∙ ap Ok (append_assoc r.front (o ++ r.back) q.1 ∙ ap (λ x. r.front ++ x) (append_assoc o r.back q.1));
            }
      ]

  pub record ListAround (f : ℕ → Result (List Y) E) (xs : List ℕ) (x : ℕ) (ls : List Y) : Type 0 where
    pub front : List Y
    pub here : List Y
    pub back : List Y
    pub at : f x ≡ Ok here
    pub are : ls ≡ front ++ (here ++ back)
    pub put : (g : ℕ → Result (List Y) E) (o : List Y) → ((y : ℕ) → In y xs → (y ≡ x → ⊥) → g y ≡ f y) → g x ≡ Ok o → gathered g xs ≡ Ok (front ++ (o ++ back))

  list_around : (f : ℕ → Result (List Y) E) (xs : List ℕ) (x : ℕ) (ls : List Y) → are_new [] xs ≡ true → In x xs → gathered f xs ≡ Ok ls → ListAround f xs x ls
  list_around f [] x ls once i e = absurd i
  list_around f (y ∷ ys) x ls once i e =
      let q = both-Ok (f y) (gathered f ys) ls e in
      let first = are_new-first y ys once in
      elim (cases_eq y x) [
        | inl same ↦ record {
          front = [];
          here = q.0;
          back = q.1;
          at = ap f (sym same) ∙ q.2;
          are = sym q.4;
          put = search (arith, list_same);
        }
        | inr d ↦
            let j : In x ys = elim i [ inl t ↦ absurd (d (sym t)) | inr k ↦ k ] in
            let r = list_around f ys x q.1 first.1 j q.3 in
            record {
              front = q.0 ++ r.front;
              here = r.here;
              back = r.back;
              at = r.at;
              are = sym q.4 ∙ ap (λ z. q.0 ++ z) r.are ∙ sym (append_assoc q.0 r.front (r.here ++ r.back));
              put = search (arith, append_assoc);
            }
      ]

-- ---- names

apart_first : (seen : List Listed) (l : Listed) (ls : List Listed) → repeated_name seen (l ∷ ls) ≡ None → (has_name l.entry.name seen ≡ false) × (repeated_name (seen ++ l ∷ []) ls ≡ None)
apart_first seen l ls e = search arith

names_split : (seen xs ys : List Listed) → repeated_name seen (xs ++ ys) ≡ None → (repeated_name seen xs ≡ None) × (repeated_name (seen ++ xs) ys ≡ None)
names_split seen [] ys e = (refl, ap (λ l. repeated_name l ys) (append-nil seen) ∙ e)
names_split seen (x ∷ xs) ys e =
    let a = apart_first seen x (xs ++ ys) e in
    let r = names_split (seen ++ x ∷ []) xs ys a.1 in
    (ap (λ t. cond t (Some (place_of x)) (repeated_name (seen ++ x ∷ []) xs)) a.0 ∙ r.0, ap (λ l. repeated_name l ys) (sym (append_assoc seen (x ∷ []) xs)) ∙ r.1)

names_join : (seen xs ys : List Listed) → repeated_name seen xs ≡ None → repeated_name (seen ++ xs) ys ≡ None → repeated_name seen (xs ++ ys) ≡ None
names_join seen [] ys e h = ap (λ l. repeated_name l ys) (sym (append-nil seen)) ∙ h
names_join seen (x ∷ xs) ys e h =
    let a = apart_first seen x xs e in
    ap (λ t. cond t (Some (place_of x)) (repeated_name (seen ++ x ∷ []) (xs ++ ys))) a.0
    ∙ names_join (seen ++ x ∷ []) xs ys a.1 (ap (λ l. repeated_name l ys) (append_assoc seen (x ∷ []) xs) ∙ h)

-- an entry there has the name
abbrev Has : List ℕ → List Listed → Type 0
Has name ls = (l : Listed) × In l ls × (l.entry.name ≡ name)

has_name-Has : (name : List ℕ) (ls : List Listed) → has_name name ls ≡ true → Has name ls
has_name-Has name ls t =
    let q = list_any-In (λ (l : Listed). bytes_eq l.entry.name name) ls t in (q.0, q.1, bytes_eq-true q.0.entry.name name q.2)

Has-has_name : (name : List ℕ) (ls : List Listed) → Has name ls → has_name name ls ≡ true
Has-has_name name ls h = In-list_any (λ (l : Listed). bytes_eq l.entry.name name) h.0 ls h.1 (true-bytes_eq h.0.entry.name name h.2)

no_name : (name : List ℕ) (ls : List Listed) → (Has name ls → ⊥) → has_name name ls ≡ false
no_name name ls h = false_from_ne_true (has_name name ls) (λ t. h (has_name-Has name ls t))

-- names that differ from those seen differ from others, of which none has one that none of those had
names_after : (seen seen' xs : List Listed) → ((x : Listed) → In x xs → Has x.entry.name seen' → Has x.entry.name seen) → repeated_name seen xs ≡ None → repeated_name seen' xs ≡ None
names_after seen seen' [] h e = refl
names_after seen seen' (x ∷ xs) h e =
    let a = apart_first seen x xs e in
    let none : has_name x.entry.name seen' ≡ false =
    no_name x.entry.name seen' (λ k. false≢true (sym a.0 ∙ Has-has_name x.entry.name seen (h x (inl refl) k))) in
    ap (λ t. cond t (Some (place_of x)) (repeated_name (seen' ++ x ∷ []) xs)) none
    ∙ names_after (seen ++ x ∷ []) (seen' ++ x ∷ []) xs
    (λ y i k. elim (In-cases k.0 seen' (x ∷ []) k.1) [
      | inl j ↦ let q = h y (inr i) (k.0, j, k.2) in (q.0, In-left q.0 seen (x ∷ []) q.1, q.2)
      | inr j ↦ (k.0, In-right k.0 seen (x ∷ []) j, k.2)
    ]) a.1

-- at most one entry
abbrev pub AtMostOne : List Listed → Type 0
AtMostOne ls = (ls ≡ []) ⊎ ((l : Listed) × (ls ≡ l ∷ []))

-- a slot lists one at most
pub listed_one : (page k : ℕ) (body : List ℕ) (r : SlotRead) (has : List Listed) → listed_at page k body r ≡ Ok has → AtMostOne has
listed_one page k body r has e = search arith

-- where the names differ they do so with others in the place of some, of names that none beside has
names_put : (front had has back : List Listed) → AtMostOne has → ((l : Listed) → In l has → Has l.entry.name (front ++ back) → ⊥) → repeated_name [] (front ++ (had ++ back)) ≡ None → repeated_name [] (front ++ (has ++ back)) ≡ None
names_put front had has back one free e =
    let a = names_split [] front (had ++ back) e in
    let b = names_split front had back a.1 in
    names_join [] front (has ++ back) a.0
    (names_join front has back (here one)
    (names_after (front ++ had) (front ++ has) back
    (λ x i k. elim (In-cases k.0 front has k.1) [
      | inl j ↦ (k.0, In-left k.0 front had j, k.2)
      | inr j ↦ absurd (free k.0 j (x, In-right x front back i, sym k.2))
    ]) b.1))
  where
    here : AtMostOne has → repeated_name front has ≡ None
    here (inl none) = ap (repeated_name front) none
    here (inr l) =
        let i : In l.0 has = subst (λ z. In l.0 z) (sym l.1) (inl refl) in
        ap (repeated_name front) l.1
        ∙ ap (λ t. cond t (Some (place_of l.0)) None)
        (no_name l.0.entry.name front (λ k. free l.0 i (k.0, In-left k.0 front back k.1, k.2)))

apart_are : (ls es : List Listed) → with_names_apart ls ≡ Ok es → (repeated_name [] ls ≡ None) × (ls ≡ es)
apart_are ls es e = search arith

-- ---- one page

module _ (inodes page k : ℕ) (old new : List ℕ) (low : k < 16) (whole : length old ≡ 4096) (fills : length new ≡ 256) where
  abbrev then : List ℕ
  then = with_part (256 * k) new old

  fits : 256 * k + length new ≤ length old
  fits = omega (arith, low, whole, fills)

  bytes_here : slot_bytes k then ≡ new
  bytes_here = slice-with_part_same (256 * k) new old (256 * k + 256) fits (omega (arith, fills))

  body_here : body_in_slot k then ≡ body_in_slot 0 new
  body_here =
      sym (slice-slice then (256 * k) (256 * k + 256) 192 256 (omega arith) (omega arith)) ∙ ap (λ l. slice_range l 192 256) bytes_here

  slot_here : slot_entries inodes page then k ≡ listed_at page k (body_in_slot 0 new) (slot_of inodes new)
  slot_here = ap (λ l. listed_at page k l (slot_of inodes (slot_bytes k then))) body_here ∙ ap (λ l. listed_at page k (body_in_slot 0 new) (slot_of inodes l)) bytes_here

  range_else : (i from to : ℕ) → (i ≡ k → ⊥) → from ≤ to → 256 * i ≤ from → to ≤ 256 * i + 256 → slice_range then from to ≡ slice_range old from to
  range_else i from to d a b c = search (arith, slice-with_part_below, fits, slice-with_part_above)

  slot_else : (i : ℕ) → (i ≡ k → ⊥) → slot_entries inodes page then i ≡ slot_entries inodes page old i
  slot_else i d =
      ap (λ l. listed_at page i l (slot_of inodes (slot_bytes i then))) (range_else i (256 * i + 192) (256 * i + 256) d (omega arith) (omega arith) (omega arith))
      ∙ ap (λ l. listed_at page i (body_in_slot i old) (slot_of inodes l)) (range_else i (256 * i) (256 * i + 256) d (omega arith) (omega arith) (omega arith))

-- ---- the directory

module _ (core : Core) (pages : Pages) (m : Met) (f : FileRead) (page k : ℕ) (old new : List ℕ) where
  abbrev other : Core
  other = with_other core pages

  -- what of a directory's slot is known where it is written anew
  pub record IsRewritten : Type 0 where
    pub kind : m.kind ≡ Directory
    pub reads : file_within core m ≡ Ok f
    pub once : are_new [] f.chain.blocks ≡ true
    pub block : In page f.chain.blocks
    pub slot : k < 16
    pub before : page_of core page ≡ Some old
    pub whole : length old ≡ 4096
    pub fills : length new ≡ 256
    pub after : page_of (with_other core pages) page ≡ Some (with_part (256 * k) new old)
    pub index : (p : ℕ) → In p f.chain.index → page_of (with_other core pages) p ≡ page_of core p
    pub else : (p : ℕ) → In p f.chain.blocks → (p ≡ page → ⊥) → page_of (with_other core pages) p ≡ page_of core p

  -- the entries of the slot stand between others, and others are put in their place
  pub record SlotAround : Type 0 where
    pub front : List Listed
    pub had : List Listed
    pub back : List Listed
    pub before : listed_at page k (body_in_slot k old) (slot_of core.inodes (slot_bytes k old)) ≡ Ok had
    pub were : f.entries ≡ front ++ (had ++ back)
    pub put :
        (has : List Listed) → listed_at page k (body_in_slot 0 new) (slot_of core.inodes new) ≡ Ok has
        → ((l x : Listed) → In l has → In x (front ++ back) → x.entry.name ≡ l.entry.name → ⊥)
        → file_within (with_other core pages) m ≡ Ok (record f { entries = front ++ (has ++ back) })

  pub slot_around : IsRewritten → SlotAround
  unfolding entries_on
  slot_around r =
      let w = within_from core m f r.reads in
      let each : ℕ → Result (List Listed) Location = λ p. entries_where core.inodes p (page_of core p) in
      let each' : ℕ → Result (List Listed) Location = λ p. entries_where core.inodes p (page_of other p) in
      let dir : result_then with_names_apart (gathered each f.chain.blocks) ≡ Ok f.entries = sym (ap (λ z. entries_within core z f.chain.blocks) r.kind) ∙ w.entries in
      let g = result_then-Ok with_names_apart (gathered each f.chain.blocks) f.entries dir in
      let apart = apart_are g.0 f.entries g.2 in
      let outer = list_around each f.chain.blocks page g.0 r.once r.block g.1 in
      let on : gathered_below (slot_entries core.inodes page old) 16 ≡ Ok outer.here = sym (ap (entries_where core.inodes page) r.before) ∙ outer.at in
      let inner = below_around (slot_entries core.inodes page old) 16 k outer.here r.slot on in
      let front : List Listed = outer.front ++ inner.front in
      let back : List Listed = inner.back ++ outer.back in
      let joined : (o : List Listed) → outer.front ++ ((inner.front ++ (o ++ inner.back)) ++ outer.back) ≡ front ++ (o ++ back) =
      λ o. ap (λ l. outer.front ++ l) (append_assoc inner.front (o ++ inner.back) outer.back ∙ ap (λ l. inner.front ++ l) (append_assoc o inner.back outer.back))
      ∙ sym (append_assoc outer.front inner.front (o ++ back)) in
      let were : g.0 ≡ front ++ (inner.here ++ back) = outer.are ∙ ap (λ l. outer.front ++ (l ++ outer.back)) inner.are ∙ joined inner.here in
      record {
        front = front;
        had = inner.here;
        back = back;
        before = inner.at;
        were = sym apart.1 ∙ were;
        put = λ has says free.
            let here : gathered_below (slot_entries core.inodes page (with_part (256 * k) new old)) 16 ≡ Ok (inner.front ++ (has ++ inner.back)) =
            inner.put (slot_entries core.inodes page (with_part (256 * k) new old)) has
            (λ i l d. slot_else core.inodes page k old new r.slot r.whole r.fills i d)
            (slot_here core.inodes page k old new r.slot r.whole r.fills ∙ says) in
            let all : gathered each' f.chain.blocks ≡ Ok (front ++ (has ++ back)) =
            outer.put each' (inner.front ++ (has ++ inner.back)) (λ p i d. ap (entries_where core.inodes p) (r.else p i d)) (ap (entries_where core.inodes page) r.after ∙ here)
            ∙ ap Ok (joined has) in
            let names : repeated_name [] (front ++ (has ++ back)) ≡ None =
            names_put front inner.here has back (listed_one page k (body_in_slot 0 new) (slot_of core.inodes new) has says) (λ l i h. free l h.0 i h.1 h.2)
            (ap (repeated_name []) (sym were) ∙ apart.0) in
            within_to other m (record f { entries = front ++ (has ++ back) }) (record {
              body = w.body;
              chain = chain_same core pages (index_count (block_count f.body.size)) (block_count f.body.size) f.body.head f.chain w.chain r.index;
              entries =
                  ap (λ z. entries_within other z f.chain.blocks) r.kind ∙ ap (result_then with_names_apart) all
                  ∙ ap (unless_repeated (front ++ (has ++ back))) names;
            });
      }
