-- Each entry of a directory stands at its place, and each slot that says an entry is one of them.
use Rattle.trio_surveys.proofs.Words.{◌&&◌, ◌<◌, ◌∙◌, ◌∷◌, ◌≡◌, ◌≤◌, Bad, Bool, Core, Directory, Empty, Entry, EntryPart, In, In-cases, In-left, In-right, Kind, List, Listed, Location, None, Ok, Option, Result, SlotRead, Some, [], and_parts, ap, arith, at_page, body_in_slot, bytes_eq, cases_eq, cond, entries_of_kind, entry_at, entry_fits, eqb, gathered, gathered_below, inl, inr, leb, leb-true, listed_at, ltb, ltb-true, page_entries, page_of, refl, repeated_name, result_then, result_then-Ok, slot_bytes, slot_entries, subst, suc, sym, take, there_or, there_or-Ok, true, unless_repeated, zero, ℕ}
use Rattle.trio_layout.specs.Slot.{slot_of, entry_bytes}
use Rattle.trio_layout.specs.Entries.{entries_on, entries_of}
use Rattle.trio_lists.proofs.Members.{both-Ok}

-- the entry stands at its place in a page of these blocks
pub record Placed (core : Core) (blocks : List ℕ) (l : Listed) : Type 0 where
  pub block : In l.page blocks
  pub bytes : List ℕ
  pub page : page_of core l.page ≡ Some bytes
  pub slot : l.slot < 16
  pub says : slot_of core.inodes (slot_bytes l.slot bytes) ≡ Entry l.entry
  pub body : l.body ≡ body_in_slot l.slot bytes

pub gathered_from : {X Y E : Type 0} (f : X → Result (List Y) E) (xs : List X) (ys : List Y) (y : Y) → gathered f xs ≡ Ok ys → In y ys → (x : X) × (es : List Y) × In x xs × (f x ≡ Ok es) × In y es
gathered_from f [] ys y e h =
    let n : [] ≡ ys = cc in absurd (subst (λ l. In y l) (sym n) h)
gathered_from f (x ∷ xs) ys y e h =
    let b = both-Ok (f x) (gathered f xs) ys e in
    elim (In-cases y b.0 b.1 (subst (λ l. In y l) (sym b.4) h)) [
      | inl here ↦ (x, b.0, inl refl, b.2, here)
      | inr later ↦ let r = gathered_from f xs b.1 y b.3 later in (r.0, r.1, inr r.2, r.3, r.4)
    ]

pub gathered_has : {X Y E : Type 0} (f : X → Result (List Y) E) (xs : List X) (ys : List Y) (x : X) → gathered f xs ≡ Ok ys → In x xs → (es : List Y) × (f x ≡ Ok es) × ((y : Y) → In y es → In y ys)
gathered_has f [] ys x e h = absurd h
gathered_has f (z ∷ zs) ys x e (inl s) = search (arith, both-Ok, In-left, In-right)
gathered_has f (z ∷ zs) ys x e (inr h) =
    let b = both-Ok (f z) (gathered f zs) ys e in
    let r = gathered_has f zs b.1 x b.3 h in
    (r.0, r.1, λ y k. subst (λ l. In y l) b.4 (In-right y b.0 b.1 (r.2 y k)))

pub below_from : {Y E : Type 0} (f : ℕ → Result (List Y) E) (n : ℕ) (ys : List Y) (y : Y) → gathered_below f n ≡ Ok ys → In y ys → (k : ℕ) × (es : List Y) × (k < n) × (f k ≡ Ok es) × In y es
below_from f zero ys y e h =
    let n : [] ≡ ys = cc in absurd (subst (λ l. In y l) (sym n) h)
below_from f (suc n) ys y e h =
    let b = both-Ok (gathered_below f n) (f n) ys e in
    elim (In-cases y b.0 b.1 (subst (λ l. In y l) (sym b.4) h)) [
      | inl before ↦
          let r = below_from f n b.0 y b.2 before in
          let l : r.0 < n = r.2 in
          let l' : r.0 < suc n = omega (arith, l) in
          (r.0, r.1, l', r.3, r.4)
      | inr here ↦ let l : n < suc n = omega arith in (n, b.1, l, b.3, here)
    ]

pub below_has : {Y E : Type 0} (f : ℕ → Result (List Y) E) (n : ℕ) (ys : List Y) (k : ℕ) → gathered_below f n ≡ Ok ys → k < n → (es : List Y) × (f k ≡ Ok es) × ((y : Y) → In y es → In y ys)
below_has f zero ys k e h = absurd (omega arith)
below_has f (suc n) ys k e h =
    let b = both-Ok (gathered_below f n) (f n) ys e in
    elim (cases_eq k n) [
      | inl same ↦ (b.1, ap f same ∙ b.3, λ y i. subst (λ l. In y l) b.4 (In-right y b.0 b.1 i))
      | inr differ ↦
          let l : k < n = omega arith in
          let r = below_has f n b.0 k b.2 l in
          (r.0, r.1, λ y i. subst (λ l. In y l) b.4 (In-left y b.0 b.1 (r.2 y i)))
    ]

abbrev pub at_place : EntryPart → ℕ → ℕ → List ℕ → Listed
at_place e page slot body = record { entry = e; page = page; slot = slot; body = body }

listed_from : (page slot : ℕ) (body : List ℕ) (r : SlotRead) (es : List Listed) (l : Listed) → listed_at page slot body r ≡ Ok es → In l es → (e : EntryPart) × (r ≡ Entry e) × (l ≡ at_place e page slot body)
listed_from page slot body r es l e h = search arith

listed_has : (page slot : ℕ) (body : List ℕ) (r : SlotRead) (es : List Listed) (e : EntryPart) → listed_at page slot body r ≡ Ok es → r ≡ Entry e → In (at_place e page slot body) es
listed_has page slot body r es e h k = search arith

apart_ok : (o : Option Location) (ls es : List Listed) → unless_repeated ls o ≡ Ok es → (o ≡ None) × (ls ≡ es)
apart_ok None ls es e = (refl, cc)
apart_ok (Some place) ls es e = absurd cc

directory_gathers : (core : Core) (blocks : List ℕ) (es : List Listed) → entries_of core blocks ≡ Ok es → (gathered (page_entries core) blocks ≡ Ok es) × (repeated_name [] es ≡ None)
directory_gathers core blocks es e = search (arith, result_then-Ok, apart_ok)

pub gathers : (core : Core) (kind : Kind) (blocks : List ℕ) (es : List Listed) (l : Listed) → entries_of_kind core kind blocks ≡ Ok es → In l es → gathered (page_entries core) blocks ≡ Ok es
gathers core kind blocks es l e h = search (arith, directory_gathers)

pub gathers_directory : (core : Core) (blocks : List ℕ) (es : List Listed) → entries_of_kind core Directory blocks ≡ Ok es → (gathered (page_entries core) blocks ≡ Ok es) × (repeated_name [] es ≡ None)
gathers_directory core blocks es e = directory_gathers core blocks es e

slot_lists : (core : Core) (blocks : List ℕ) (p s : ℕ) (bytes : List ℕ) (l : Listed) (e : EntryPart) → In p blocks → page_of core p ≡ Some bytes → s < 16 → slot_of core.inodes (slot_bytes s bytes) ≡ Entry e → l ≡ at_place e p s (body_in_slot s bytes) → Placed core blocks l
slot_lists core blocks p s bytes l e i q k says same =
    let P : Listed → Type 0 = λ x. Placed core blocks x in
    let there : Placed core blocks (at_place e p s (body_in_slot s bytes)) = record { block = i; bytes = bytes; page = q; slot = k; says = says; body = refl } in
    subst P (sym same) there

page_lists : (core : Core) (blocks : List ℕ) (p : ℕ) (es : List Listed) (l : Listed) → In p blocks → page_entries core p ≡ Ok es → In l es → Placed core blocks l
unfolding entries_on
page_lists core blocks p es l i e h =
    let s = result_then-Ok (entries_on core.inodes p) (there_or (at_page p) (page_of core p)) es e in
    let b = below_from (slot_entries core.inodes p s.0) 16 es l s.2 h in
    let r = listed_from p b.0 (body_in_slot b.0 s.0) (slot_of core.inodes (slot_bytes b.0 s.0)) b.1 l b.3 b.4 in
    slot_lists core blocks p b.0 s.0 l r.0 i (there_or-Ok (at_page p) (page_of core p) s.0 s.1) b.2 r.1 r.2

pub placed_from : (core : Core) (kind : Kind) (blocks : List ℕ) (es : List Listed) (l : Listed) → entries_of_kind core kind blocks ≡ Ok es → In l es → Placed core blocks l
placed_from core kind blocks es l e h =
    let g = gathered_from (page_entries core) blocks es l (gathers core kind blocks es l e h) h in
    page_lists core blocks g.0 g.1 l g.2 g.3 g.4

-- a slot of a directory's page that says an entry is listed
pub slot_has : (core : Core) (blocks : List ℕ) (es : List Listed) (p s : ℕ) (bytes : List ℕ) (e : EntryPart) → gathered (page_entries core) blocks ≡ Ok es → In p blocks → page_of core p ≡ Some bytes → s < 16 → slot_of core.inodes (slot_bytes s bytes) ≡ Entry e → In (at_place e p s (body_in_slot s bytes)) es
unfolding entries_on
slot_has core blocks es p s bytes e g i q k says =
    let a = gathered_has (page_entries core) blocks es p g i in
    let on_page : entries_on core.inodes p bytes ≡ Ok a.0 = sym (ap (λ o. result_then (entries_on core.inodes p) (there_or (at_page p) o)) q) ∙ a.1 in
    let b = below_has (slot_entries core.inodes p bytes) 16 a.0 s on_page k in
    a.2 _ (b.2 _ (listed_has p s (body_in_slot s bytes) (slot_of core.inodes (slot_bytes s bytes)) b.0 e b.1 says))

entry_case : (zero' good : Bool) (e e' : EntryPart) → cond zero' Empty (cond good (Entry e) Bad) ≡ Entry e' → (good ≡ true) × (e ≡ e')
entry_case zero' good e e' h = search arith

-- an entry's number is one of the table
pub entry_numbered : (inodes : ℕ) (bytes : List ℕ) (e : EntryPart) → slot_of inodes bytes ≡ Entry e → (0 < e.ino) × (e.ino ≤ inodes)
unfolding slot_of
entry_numbered inodes bytes e h =
    let d : EntryPart = entry_at bytes in
    let spelled : Bool = bytes_eq (take 192 bytes) (entry_bytes d) in
    let c = entry_case (eqb d.ino 0) (spelled && entry_fits inodes d) d e h in
    let fits : entry_fits inodes d ≡ true = (and_parts spelled (entry_fits inodes d) c.0).1 in
    let two : (ltb 0 d.ino && leb d.ino inodes) ≡ true = (and_parts (ltb 0 d.ino && leb d.ino inodes) _ fits).0 in
    let parts = and_parts (ltb 0 d.ino) (leb d.ino inodes) two in
    let N : EntryPart → Type 0 = λ x. (0 < x.ino) × (x.ino ≤ inodes) in
    subst N c.1 (ltb-true 0 d.ino parts.0, leb-true d.ino inodes parts.1)
