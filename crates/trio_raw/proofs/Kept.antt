-- What a write keeps of the things of a library.
use Rattle.trio_raw.proofs.Words.{◌+◌, ◌∙◌, ◌∷◌, ◌≡◌, ◌≤◌, ◌⊎◌, AreWhole, Bool, Fresh, FreshParts, Has, HasLeases, In, IsLent, LentFile, LibOut, List, None, OnList, Option, SameFile, Some, [], ap, are_new, cond, eqb, false, file_numbers, inl, inr, leb, length, map, page_numbers, position, refl, slice_get, subst, suc, sym, true, ℕ}
use Rattle.std.proofs.Common.{zero}
use Rattle.std.specs.Prelude.{slice_set}
use Rattle.std.specs.Option.{option_map}
use Rattle.std.proofs.lemmas.Bool.{leb-true}
use Rattle.std.proofs.lemmas.Option.{cond_some, get_or_from_slice_get}
use Rattle.std.proofs.Math.Seq.{map-set_same}
use Rattle.trio_page.specs.Field.{with_part}
use Rattle.trio_page.proofs.Fields.{length-with_part}
use Rattle.trio_lists.proofs.Members.{option_and_then-Some}
use Rattle.trio_nodes.specs.declared.spot.Spot.{Spot}
use Rattle.trio_nodes.specs.declared.spot.Spot.TheVariants.{Body, Index, Block}
use Rattle.trio_lease.specs.declared.parts.LentPage.{LentPage}
use Rattle.trio_desk.specs.Out.{IsAllotted}
use Rattle.trio_raw.specs.Has.{changed_at, changed_first, poked, poked_block, poked_block_page, poked_body, poked_bytes, poked_fresh, poked_index, poked_index_page, with_file, with_fresh}
use Rattle.trio_raw.proofs.Leases.{leases_same}

map_some : {X Y : Type 0} (f : X → Y) (o : Option X) (y : Y) → option_map f o ≡ Some y → (x : X) × (o ≡ Some x) × (f x ≡ y)
map_some f None y e = absurd cc
map_some f (Some x) y e = (x, refl, cc)

-- ---- lists with one element changed

In-at : {X : Type 0} (xs : List X) (i : ℕ) (x : X) → slice_get xs i ≡ Some x → In x xs
In-at [] i x e = absurd cc
In-at (y ∷ ys) zero x e = inl (sym (cc e))
In-at (y ∷ ys) (suc i) x e = inr (In-at ys i x e)

In-set : {X : Type 0} (xs : List X) (i : ℕ) (y z : X) → In z (slice_set xs i y) → (z ≡ y) ⊎ In z xs
In-set [] i y z h = absurd h
In-set (x ∷ xs) zero y z (inl e) = inl e
In-set (x ∷ xs) zero y z (inr h) = inr (inr h)
In-set (x ∷ xs) (suc i) y z (inl e) = inr (inl e)
In-set (x ∷ xs) (suc i) y z (inr h) = elim (In-set xs i y z h) [ inl e ↦ inl e | inr k ↦ inr (inr k) ]

-- what a list with one element changed came from
pub record Changed {X : Type 0} (f : X → Option X) (xs ys : List X) : Type 0 where
  pub place : ℕ
  pub old : X
  pub new : X
  pub there : slice_get xs place ≡ Some old
  pub changed : f old ≡ Some new
  pub list : ys ≡ slice_set xs place new

changed_from : {X : Type 0} (f : X → Option X) (i : ℕ) (xs ys : List X) → changed_at f i xs ≡ Some ys → Changed f xs ys
changed_from f i xs ys e =
    let a = option_and_then-Some (λ x. option_map (λ y. slice_set xs i y) (f x)) (slice_get xs i) ys e in
    let b = map_some (λ y. slice_set xs i y) (f a.0) ys a.2 in
    record { place = i; old = a.0; new = b.0; there = a.1; changed = b.1; list = sym b.2 }

first_from : {X : Type 0} (p : X → Bool) (f : X → Option X) (xs ys : List X) → changed_first p f xs ≡ Some ys → Changed f xs ys
first_from p f xs ys e =
    let a = option_and_then-Some (λ i. changed_at f i xs) (position p xs) ys e in
    changed_from f a.0 xs ys a.2

-- each element is one as before or the changed one
changed_in : {X : Type 0} (f : X → Option X) (xs ys : List X) (c : Changed f xs ys) (z : X) → In z ys → (z ≡ c.new) ⊎ In z xs
changed_in f xs ys c z i = In-set xs c.place c.new z (subst (λ l. In z l) c.list i)

old_in : {X : Type 0} (f : X → Option X) (xs ys : List X) (c : Changed f xs ys) → In c.old xs
old_in f xs ys c = In-at xs c.place c.old c.there

-- what the change keeps of its element, it keeps of the list
changed_same : {X Y : Type 0} (f : X → Option X) (g : X → Y) (xs ys : List X) (c : Changed f xs ys) → g c.new ≡ g c.old → map g ys ≡ map g xs
changed_same f g xs ys c e =
    ap (map g) c.list
    ∙ map-set_same g xs c.place c.new c.old (e ∙ ap g (sym (get_or_from_slice_get xs c.place c.old c.old c.there)))

-- ---- pages

-- bytes that are put in place are as many as before
poked_length : (offset : ℕ) (new bytes after : List ℕ) → poked_bytes 4096 offset new bytes ≡ Some after → length bytes ≡ 4096 → length after ≡ 4096
poked_length offset new bytes after e full =
    let b = cond_some (leb (offset + length new) 4096) (with_part offset new bytes) after e in
    let fits : offset + length new ≤ 4096 = leb-true (offset + length new) 4096 b.0 in
    ap length (sym b.1) ∙ length-with_part offset new bytes (subst (λ n. offset + length new ≤ n) (sym full) fits) ∙ full

-- a write into a page keeps its number, and that it is whole
abbrev pub KeepsPage : (LentPage → Option LentPage) → Type 0
KeepsPage f = (p q : LentPage) → f p ≡ Some q → (q.no ≡ p.no) × (length p.page ≡ 4096 → length q.page ≡ 4096)

index_page_keeps : (offset : ℕ) (new : List ℕ) → KeepsPage (poked_index_page offset new)
index_page_keeps offset new p q e =
    let put : List ℕ → LentPage = λ bytes. record p { page = bytes } in
    let a = map_some put (poked_bytes 4096 offset new p.page) q e in
    (ap (λ (x : LentPage). x.no) (sym a.2), λ full. ap (λ (x : LentPage). length x.page) (sym a.2) ∙ poked_length offset new p.page a.0 a.1 full)

block_page_keeps : (offset : ℕ) (new : List ℕ) → KeepsPage (poked_block_page offset new)
block_page_keeps offset new p q e =
    let put : List ℕ → LentPage = λ bytes. record p { page = bytes; touched = true } in
    let a = map_some put (poked_bytes 4096 offset new p.page) q e in
    (ap (λ (x : LentPage). x.no) (sym a.2), λ full. ap (λ (x : LentPage). length x.page) (sym a.2) ∙ poked_length offset new p.page a.0 a.1 full)

pages_kept : (f : LentPage → Option LentPage) → KeepsPage f → (xs ys : List LentPage) → Changed f xs ys → (map (λ (p : LentPage). p.no) ys ≡ map (λ (p : LentPage). p.no) xs) × (AreWhole xs → AreWhole ys)
pages_kept f keeps xs ys c =
    let k = keeps c.old c.new c.changed in (
      changed_same f (λ (p : LentPage). p.no) xs ys c k.0,
      λ whole z i. elim (changed_in f xs ys c z i) [
        | inl e ↦ ap (λ (p : LentPage). length p.page) e ∙ k.1 (whole c.old (old_in f xs ys c))
        | inr j ↦ whole z j
      ],
    )

-- ---- files

-- the file is the same one with the same pages, lent as it was, and its pages are as long
pub record Keeps (f g : LentFile) : Type 0 where
  pub lent : g.lent ≡ f.lent
  pub same : SameFile g.stands f.stands
  pub index : AreWhole f.stands.index → AreWhole g.stands.index
  pub blocks : AreWhole f.stands.blocks → AreWhole g.stands.blocks

-- a write into a file keeps it so
abbrev pub KeepsFile : (LentFile → Option LentFile) → Type 0
KeepsFile write = (f g : LentFile) → write f ≡ Some g → Keeps f g

body_keeps : (offset : ℕ) (new : List ℕ) → KeepsFile (poked_body offset new)
body_keeps offset new f g e =
    let put : List ℕ → LentFile = λ body. record f { stands = record f.stands { body = body } } in
    let a = map_some put (poked_bytes 64 offset new f.stands.body) g e in
    subst (Keeps f) a.2 (record { lent = refl; same = record { lib = refl; ino = refl; kind = refl; entry = refl; index = refl; blocks = refl }; index = λ h. h; blocks = λ h. h })

index_keeps : (i offset : ℕ) (new : List ℕ) → KeepsFile (poked_index i offset new)
index_keeps i offset new f g e =
    let put : List LentPage → LentFile = λ index. record f { stands = record f.stands { index = index } } in
    let a = map_some put (changed_at (poked_index_page offset new) i f.stands.index) g e in
    let k = pages_kept (poked_index_page offset new) (index_page_keeps offset new) f.stands.index a.0 (changed_from (poked_index_page offset new) i f.stands.index a.0 a.1) in
    subst (Keeps f) a.2 (record { lent = refl; same = record { lib = refl; ino = refl; kind = refl; entry = refl; index = k.0; blocks = refl }; index = k.1; blocks = λ h. h })

block_keeps : (i offset : ℕ) (new : List ℕ) → KeepsFile (poked_block i offset new)
block_keeps i offset new f g e =
    let put : List LentPage → LentFile = λ blocks. record f { stands = record f.stands { blocks = blocks } } in
    let a = map_some put (changed_at (poked_block_page offset new) i f.stands.blocks) g e in
    let k = pages_kept (poked_block_page offset new) (block_page_keeps offset new) f.stands.blocks a.0 (changed_from (poked_block_page offset new) i f.stands.blocks a.0 a.1) in
    subst (Keeps f) a.2 (record { lent = refl; same = record { lib = refl; ino = refl; kind = refl; entry = refl; index = refl; blocks = k.0 }; index = λ h. h; blocks = k.1 })

-- a file that was lent is so with other bytes
lent_kept : (out : LibOut) (f g : LentFile) → Keeps f g → IsLent out f → IsLent out g
lent_kept out f g k l = record {
  lent = subst (λ s. In s out.writes) (sym k.lent) l.lent;
  same = subst (SameFile g.stands) (sym k.lent) (record {
    lib = k.same.lib ∙ l.same.lib;
    ino = k.same.ino ∙ l.same.ino;
    kind = k.same.kind ∙ l.same.kind;
    entry = k.same.entry ∙ l.same.entry;
    index = k.same.index ∙ l.same.index;
    blocks = k.same.blocks ∙ l.same.blocks;
  });
  index = k.index l.index;
  blocks = k.blocks l.blocks;
}

-- ---- all that a library has

-- what is kept of what a library has: it stands on each list on which it stood, and has the leases that it had
abbrev pub KeepsAll : Has → Has → Type 0
KeepsAll has has' = ((out : LibOut) → OnList out has → OnList out has') × ((out : LibOut) → HasLeases out has → HasLeases out has')

file_kept : (write : LentFile → Option LentFile) → KeepsFile write → (ino : ℕ) (has has' : Has) → with_file write ino has ≡ Some has' → KeepsAll has has'
file_kept write keeps ino has has' e =
    let put : List LentFile → Has = λ writes. record has { writes = writes } in
    let a = map_some put (changed_first (λ w. eqb w.stands.ino ino) write has.writes) has' e in
    let c = first_from (λ w. eqb w.stands.ino ino) write has.writes a.0 a.1 in
    let k = keeps c.old c.new c.changed in
    let numbers : file_numbers a.0 ≡ file_numbers has.writes = changed_same write (λ (f : LentFile). f.stands.ino) has.writes a.0 c k.same.ino in
    subst (KeepsAll has) a.2 (
      λ out h. record {
        writes = λ f i. elim (changed_in write has.writes a.0 c f i) [
          | inl s ↦ subst (IsLent out) (sym s) (lent_kept out c.old c.new k (h.writes c.old (old_in write has.writes a.0 c)))
          | inr j ↦ h.writes f j
        ];
        reads = h.reads;
        holds = h.holds;
        pages = h.pages;
        numbers = h.numbers;
        writes_once = ap (are_new []) numbers ∙ h.writes_once;
        reads_once = h.reads_once;
        holds_once = h.holds_once;
        pages_once = h.pages_once;
        numbers_once = h.numbers_once;
      },
      λ out l. leases_same out out has (put a.0) refl refl numbers refl l,
    )

fresh_kept : (offset : ℕ) (new : List ℕ) (page : ℕ) (has has' : Has) → with_fresh (poked_fresh offset new) page has ≡ Some has' → KeepsAll has has'
fresh_kept offset new page has has' e =
    let write : FreshParts → Option FreshParts = poked_fresh offset new in
    let put : List FreshParts → Has = λ pages. record has { pages = pages } in
    let a = map_some put (changed_first (λ p. eqb p.no.0 page) write has.pages) has' e in
    let c = first_from (λ p. eqb p.no.0 page) write has.pages a.0 a.1 in
    let fill : List ℕ → FreshParts = λ bytes. record c.old { page = bytes } in
    let b = map_some fill (poked_bytes 4096 offset new c.old.page) c.new c.changed in
    let number : c.new.no.0 ≡ c.old.no.0 = ap (λ (p : FreshParts). p.no.0) (sym b.2) in
    let numbers : page_numbers a.0 ≡ page_numbers has.pages = changed_same write (λ (p : FreshParts). p.no.0) has.pages a.0 c number in
    subst (KeepsAll has) a.2 (
      λ out h. record {
        writes = h.writes;
        reads = h.reads;
        holds = h.holds;
        pages = λ p i. elim (changed_in write has.pages a.0 c p i) [
          | inl s ↦
              (let old = h.pages c.old (old_in write has.pages a.0 c) in
              subst (IsAllotted out) (sym s) (record {
                given = subst (λ n. In n out.pages) (sym number) old.given;
                whole = ap (λ (p : FreshParts). length p.page) (sym b.2) ∙ poked_length offset new c.old.page b.0 b.1 old.whole;
              }))
          | inr j ↦ h.pages p j
        ];
        numbers = h.numbers;
        writes_once = h.writes_once;
        reads_once = h.reads_once;
        holds_once = h.holds_once;
        pages_once = ap (are_new []) numbers ∙ h.pages_once;
        numbers_once = h.numbers_once;
      },
      λ out l. leases_same out out has (put a.0) refl refl refl refl l,
    )

pub poke_keeps : (has : Has) (at : Spot) (offset : ℕ) (new : List ℕ) (has' : Has) → poked has at offset new ≡ Some has' → KeepsAll has has'
poke_keeps has (Body ino) offset new has' e = file_kept (poked_body offset new) (body_keeps offset new) ino has has' e
poke_keeps has (Index ino i) offset new has' e = file_kept (poked_index i offset new) (index_keeps i offset new) ino has has' e
poke_keeps has (Block ino i) offset new has' e = file_kept (poked_block i offset new) (block_keeps i offset new) ino has has' e
poke_keeps has (Fresh page) offset new has' e = fresh_kept offset new page has has' e

-- so it is whether or not the bytes were written
pub poke_keeps-if : (has : Has) (at : Spot) (offset : ℕ) (new : List ℕ) (has' : Has) (done : Bool) → poked has at offset new ≡ cond done (Some has') None → (done ≡ false → has' ≡ has) → KeepsAll has has'
poke_keeps-if has at offset new has' true e same = poke_keeps has at offset new has' e
poke_keeps-if has at offset new has' false e same = subst (KeepsAll has) (sym (same refl)) ((λ out h. h), (λ out h. h))
