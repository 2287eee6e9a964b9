-- Copies of pages, in the words of what is covered.
use Rattle.trio_checkpoint.proofs.Words.{◌&&◌, ◌++◌, ◌∙◌, ◌∷◌, ◌≡◌, All, All-head, All-tail, AreCopies, Bool, Core, IsCopy, IsSome, IsTrue, Kind, List, None, Option, Sheet, Some, [], and_from, and_parts, ap, append-nil, are_there, covered_numbers, covered_of, false, false≢true, get_or, guard_in, is_some, list_all-append, map-append, page_of, refl, sheet_numbers, sheets_of, sym, true, ℕ}
use Rattle.std.proofs.Common.{cond}
use Rattle.std.proofs.lemmas.Option.{cond_some}
use Rattle.std.specs.Str.{bytes_eq}
use Rattle.std.proofs.lemmas.List.Elements.{All-nil, All-cons, All-push}
use Rattle.trio_rights.specs.ByKind.{covers_blocks}
use Rattle.trio_layout.specs.declared.body.Body.{Body}
use Rattle.trio_layout.specs.declared.range.CoreRange.{CoreRange}
use Rattle.trio_layout.specs.Body.{body_at, body_bytes, body_fits, body_of}
use Rattle.trio_layout.specs.Range.{is_core}
use Rattle.trio_checkpoint.specs.inner.Steps.{AllStand}

-- a core page that is there stands at its number
pub at_its_number : (core : Core) (n : ℕ) → IsSome (page_of core n) → page_of core n ≡ get_or core.pages n None
at_its_number core n h = by (is_core core.range n) h
  where
    by : (b : Bool) → IsSome (cond b (get_or core.pages n None) None) → cond b (get_or core.pages n None) None ≡ get_or core.pages n None
    by true h = refl
    by false h = absurd (false≢true h)

pub all_stand : (core : Core) (ns : List ℕ) → IsTrue (are_there core ns) → AllStand core.pages ns
all_stand core [] h = All-nil (λ n. IsSome (get_or core.pages n None))
all_stand core (n ∷ ns) h =
    let parts = and_parts (is_some (page_of core n)) (are_there core ns) h in
    All-cons (λ n. IsSome (get_or core.pages n None)) n ns (ap is_some (sym (at_its_number core n parts.0)) ∙ parts.0) (all_stand core ns parts.1)

numbered : (core : Core) (xs : List Sheet) → All (IsCopy core.pages) xs → IsTrue (are_there core (sheet_numbers xs)) → xs ≡ sheets_of core (sheet_numbers xs)
numbered core [] h t = refl
numbered core (x ∷ xs) h t =
    let parts = and_parts (is_some (page_of core x.page)) (are_there core (sheet_numbers xs)) t in
    let page : page_of core x.page ≡ Some x.bytes = at_its_number core x.page parts.0 ∙ All-head (IsCopy core.pages) x xs h in
    rw page (ap (λ ys. x ∷ ys) (numbered core xs (All-tail (IsCopy core.pages) x xs h) parts.1))

-- copies of core pages are the sheets of their numbers
pub copies_are_sheets : (core : Core) (ns : List ℕ) (xs : List Sheet) → AreCopies core.pages ns xs → IsTrue (are_there core ns) → xs ≡ sheets_of core ns
copies_are_sheets core ns xs h t =
    numbered core xs h.copied (rw (← h.numbered) at t) ∙ ap (sheets_of core) h.numbered

-- one copy more
pub one_copy_more : (pages : List (Option (List ℕ))) (ns : List ℕ) (xs : List Sheet) (n : ℕ) (x : Sheet) → AreCopies pages ns xs → x.page ≡ n → IsCopy pages x → AreCopies pages (ns ++ n ∷ []) (xs ++ x ∷ [])
one_copy_more pages ns xs n x h e copy = record {
  numbered = map-append (λ (y : Sheet). y.page) xs (x ∷ []) ∙ rw (e, h.numbered) refl;
  copied = All-push (IsCopy pages) xs x h.copied copy;
}

-- one page more that is there
pub one_more_there : (core : Core) (ns : List ℕ) (n : ℕ) → IsTrue (are_there core ns) → IsSome (page_of core n) → IsTrue (are_there core (ns ++ n ∷ []))
one_more_there core ns n h some =
    list_all-append (λ page. is_some (page_of core page)) ns (n ∷ [])
    ∙ and_from (are_there core ns) (is_some (page_of core n) && true) h (and_from (is_some (page_of core n)) true some refl)

-- the guard of a body that could be read is that of its bytes
pub guard_in-read : (kind : Kind) (range : CoreRange) (bytes : List ℕ) (b : Body) → body_of kind range bytes ≡ Some b → b.guard ≡ guard_in bytes
unfolding body_of
guard_in-read kind range bytes b e =
    let x : Body = body_at bytes in
    sym (ap (λ (y : Body). y.guard) (cond_some (bytes_eq bytes (body_bytes x) && body_fits kind range x) x b e).1)

-- of these blocks, those that a checkpoint of the file of this body covers
pub taken_numbers : (kind : Kind) (range : CoreRange) (bytes : List ℕ) (b : Body) (numbers : List ℕ) (covers : Bool) → body_of kind range bytes ≡ Some b → covers ≡ covers_blocks kind b.guard
    → cond covers numbers [] ≡ covered_numbers kind (guard_in bytes) numbers
taken_numbers kind range bytes b numbers covers read is =
    ap (λ t. cond t numbers []) (is ∙ ap (covers_blocks kind) (guard_in-read kind range bytes b read))

-- what is covered of these index pages and of the blocks of these numbers
pub covered_are : (core : Core) (kind : Kind) (guarded : Bool) (index : List Sheet) (blocks : List ℕ) → index ++ sheets_of core (covered_numbers kind guarded blocks) ≡ covered_of kind guarded index (sheets_of core blocks)
covered_are core kind guarded index blocks = by (covers_blocks kind guarded)
  where
    by : (t : Bool) → index ++ sheets_of core (cond t blocks []) ≡ cond t (index ++ sheets_of core blocks) index
    by false = append-nil index
    by true = refl
