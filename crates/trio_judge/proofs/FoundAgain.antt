-- Directories that list again what one before them lists.
use Rattle.trio_judge.proofs.Words.{◌&&◌, ◌++◌, ◌+◌, ◌-◌, ◌<◌, ◌^◌, ◌||◌, ◌∙◌, ◌∷◌, ◌≡◌, ◌≤◌, ◌⊎◌, AreFoundHeads, Bool, Case, Directory, FileRead, In, In-is_among, In-left, In-map, In-right, IsListedBefore, IsPassed, IsQueued, List, Listed, Location, Met, None, Ok, Option, Result, Some, Stands, Walk, [], and_from, and_parts, ap, append-nil, arith, at_page, block_count, body_of, bundle_core, bundle_pages, children_in, entries_in, entry_in_grammar, eqb, false, false≢true, file_in, file_in_room, files_of, filter, first_listed, flat_map, flat_map-append, get_or, has_body, inl, inr, is_among, is_among-In, is_directory, is_marked, is_new, is_some, length, list_all, list_all-In, list_all-append, map, map-In, map-append, met_in, nat_tests, numbers, plain, refl, replicate, subst, suc, sym, take, take_more, true, within_from, zero, ℕ}
use Rattle.std.proofs.Common.{min}
use Rattle.std.proofs.lemmas.Bool.{cases_eq, or_cases}
use Rattle.std.proofs.lemmas.List.{length-replicate}
use Rattle.trio_rights.proofs.KindFacts.{is_directory-true}
use Rattle.trio_lists.specs.Lists.{result_map, there_or}
use Rattle.trio_lists.proofs.Filters.{In-filter, Ok-one, some_one}
use Rattle.trio_lists.proofs.Members.{list_all-each, result_map-Ok, result_then-Ok, there_or-Ok}
use Rattle.trio_layout.specs.declared.body.Body.{Body}
use Rattle.trio_layout.specs.declared.range.CoreRange.{CoreRange}
use Rattle.trio_layout.specs.Chain.{Chain, index_count, with_index}
use Rattle.trio_layout.specs.Core.{Core, page_of}
use Rattle.trio_layout.specs.Index.{Index, index_of}
use Rattle.trio_layout.specs.Listing.{is_kept}
use Rattle.trio_layout.specs.Within.{chain_within, entries_within, index_within}
use Rattle.trio_layout.proofs.QueueLaws.{among-first_listed}
use Rattle.trio_layout.proofs.WithinCore.{within_to}
use Rattle.trio_case.specs.declared.room.PageRoom.{PageRoom}
use Rattle.trio_judge.specs.inner.Again.{AreAllFound, AreFound, IsFoundHead}
use Rattle.trio_judge.proofs.FileNoted.{stands_still}
use Rattle.trio_case.proofs.IndexOnce.{index_once, index_page}
use Rattle.trio_judge.proofs.Noting.{entries_still}
use Rattle.trio_case.proofs.Ordered.{none_marked}
use Rattle.trio_judge.proofs.Visiting.{passed_more, queued_more}

-- ---- a chain is known by its first index page

same_or_not : (a b : Bool) → (a ≡ b) ⊎ (a ≡ b → ⊥)
same_or_not true true = inl refl
same_or_not true false = inr (λ e. cc)
same_or_not false true = inr (λ e. cc)
same_or_not false false = inl refl

-- an index page is one for one count and one place alone
one_reading : (used more : ℕ) (last end : Bool) (range : CoreRange) (bytes : List ℕ) (i j : Index) → 0 < range.first → range.end < 2 ^ 32 → used ≤ 511 → more ≤ 511 → index_of used last range bytes ≡ Some i → index_of more end range bytes ≡ Some j → (used ≡ more) × (last ≡ end)
one_reading used more last end range bytes i j first small a b h k =
    let no : ((used ≡ more) × (last ≡ end) → ⊥) → ⊥ = λ d. (let n = index_once used more last end range bytes i first small a b (index_page used last range bytes i small h) d in let both : None ≡ Some j = sym n ∙ k in absurd cc) in
    elim (cases_eq used more) [
      | inl u ↦ elim (same_or_not last end) [ inl l ↦ (u, l) | inr d ↦ absurd (no (λ e. d e.1)) ]
      | inr d ↦ absurd (no (λ e. d e.0))
    ]

module _ (core : Core) (first : 0 < core.range.first) (small : core.range.end < 2 ^ 32) where
  one_step : (page used used' : ℕ) (last last' : Bool) (rest rest' : Index → Result Chain Location) (o : Option (List ℕ)) (c c' : Chain) → used ≤ 511 → used' ≤ 511 → ((i : Index) (d d' : Chain) → last ≡ last' → rest i ≡ Ok d → rest' i ≡ Ok d' → d ≡ d') → index_within core page used last rest o ≡ Ok c → index_within core page used' last' rest' o ≡ Ok c' → c ≡ c'
  one_step page used used' last last' rest rest' None c c' a b agree h k = Ok-one _ c c' h k
  one_step page used used' last last' rest rest' (Some bytes) c c' a b agree h k =
      let p = result_then-Ok (λ i. result_map (with_index page i) (rest i)) (there_or (at_page page) (index_of used last core.range bytes)) c h in
      let q = result_then-Ok (λ i. result_map (with_index page i) (rest' i)) (there_or (at_page page) (index_of used' last' core.range bytes)) c' k in
      let i = there_or-Ok (at_page page) (index_of used last core.range bytes) p.0 p.1 in
      let j = there_or-Ok (at_page page) (index_of used' last' core.range bytes) q.0 q.1 in
      let d = result_map-Ok (with_index page p.0) (rest p.0) c p.2 in
      let e = result_map-Ok (with_index page q.0) (rest' q.0) c' q.2 in
      let once = one_reading used used' last last' core.range bytes p.0 q.0 first small a b i j in
      let there : index_of used last core.range bytes ≡ Some q.0 = rw (once.0, once.1) j in
      let same : p.0 ≡ q.0 = some_one (index_of used last core.range bytes) p.0 q.0 i there in
      let chain : d.0 ≡ e.0 = agree p.0 d.0 e.0 once.1 d.1 (ap rest' same ∙ e.1) in
      sym d.2 ∙ ap (λ x. with_index page x d.0) same ∙ ap (with_index page q.0) chain ∙ e.2

  one_chain : (more more' blocks blocks' page : ℕ) (c c' : Chain) → eqb more 0 ≡ eqb more' 0 → chain_within core more blocks page ≡ Ok c → chain_within core more' blocks' page ≡ Ok c' → c ≡ c'
  one_chain zero zero blocks blocks' page c c' e h k = Ok-one _ c c' h k
  one_chain zero (suc more') blocks blocks' page c c' e h k =
      let more : eqb (suc more') 0 ≡ false = grind (arith, nat_tests) in
      let both : true ≡ false = e ∙ more in absurd cc
  one_chain (suc more) zero blocks blocks' page c c' e h k =
      let some : eqb (suc more) 0 ≡ false = grind (arith, nat_tests) in
      let both : false ≡ true = sym some ∙ e in absurd cc
  one_chain (suc more) (suc more') blocks blocks' page c c' e h k =
      one_step page (min blocks 511) (min blocks' 511) (eqb more 0) (eqb more' 0) (λ i. chain_within core more (blocks - 511) i.next) (λ i. chain_within core more' (blocks' - 511) i.next) (page_of core page) c c' (omega arith) (omega arith)
      (λ i d d' last x y. one_chain more more' (blocks - 511) (blocks' - 511) i.next d d' last x y) h k

some_index : (n : ℕ) → 0 < n → eqb (index_count n) 0 ≡ false
some_index n h = let some : 1 ≤ index_count n = omega arith in grind (arith, nat_tests)

-- the head of a directory that was gone over
pub found_head : (c : Case) (found : List ℕ) (m : Met) (f : FileRead) → 0 < c.range.first → c.range.end < 2 ^ 32 → is_directory m.kind ≡ true → file_in c m ≡ Ok f → 0 < block_count f.body.size → list_all (has_body c.range) f.entries ≡ true → ((l : Listed) → In l f.entries → is_among l.entry.ino c.bundle.numbers ≡ true → is_among l.entry.ino found ≡ true) → IsFoundHead c found f.body.head
found_head c found m f first small dir e some bodies all = λ b chain same blocks whole.
    let core : Core = bundle_core c in
    let r = within_from core m f e in
    let count : eqb (index_count (block_count f.body.size)) 0 ≡ eqb (index_count (block_count b.size)) 0 = some_index (block_count f.body.size) some ∙ sym (some_index (block_count b.size) blocks) in
    let here : chain_within core (index_count (block_count b.size)) (block_count b.size) f.body.head ≡ Ok chain = ap (chain_within core (index_count (block_count b.size)) (block_count b.size)) (sym same) ∙ whole in
    let one : f.chain ≡ chain = one_chain core first small (index_count (block_count f.body.size)) (index_count (block_count b.size)) (block_count f.body.size) (block_count b.size) f.body.head f.chain chain count r.chain here in
    let read : entries_within core Directory f.chain.blocks ≡ Ok f.entries = ap (λ k. entries_within core k f.chain.blocks) (sym (is_directory-true m.kind dir)) ∙ r.entries in
    subst (λ (x : Chain). AreFound c found x.blocks) one (record { entries = f.entries; read = read; bodies = bodies; known = all })

-- ---- what is remembered

pub heads_more : (c : Case) (found : List ℕ) (heads heads' : List Bool) (head : ℕ) → length heads' ≡ length heads → ((n : ℕ) → is_marked (bundle_pages c.bundle) heads' n ≡ (is_marked (bundle_pages c.bundle) heads n || (is_among head (bundle_pages c.bundle) && eqb head n))) → AreFoundHeads c found heads → IsFoundHead c found head → AreFoundHeads c found heads'
heads_more c found heads heads' head len more all one = record {
  places = len ∙ all.places;
  each = λ n h.
      elim (or_cases (is_marked (bundle_pages c.bundle) heads n) (is_among head (bundle_pages c.bundle) && eqb head n) (sym (more n) ∙ h)) [
        | inl before ↦ all.each n before
        | inr now ↦
            let here = (and_parts (is_among head (bundle_pages c.bundle)) (eqb head n) now).1 in
            let same : head ≡ n = grind (arith, nat_tests) in
            subst (IsFoundHead c found) same one
      ];
}

pub heads_later : (c : Case) (found found' : List ℕ) (heads : List Bool) → ((n : ℕ) → is_among n found ≡ true → is_among n found' ≡ true) → AreFoundHeads c found heads → AreFoundHeads c found' heads
heads_later c found found' heads more all = record {
  places = all.places;
  each = λ n h b chain same some whole.
      let a = all.each n h b chain same some whole in
      record { entries = a.entries; read = a.read; bodies = a.bodies; known = λ l i k. more l.entry.ino (a.known l i k) };
}

-- ---- the queue

numbers_more : (fs xs : List Met) → numbers (fs ++ xs) ≡ numbers fs ++ numbers xs
numbers_more fs xs = map-append (λ (m : Met). m.ino) fs xs

-- the numbers found stay so
pub still_found : (fs xs : List Met) (n : ℕ) → is_among n (numbers fs) ≡ true → is_among n (numbers (fs ++ xs)) ≡ true
still_found fs xs n h =
    ap (is_among n) (numbers_more fs xs) ∙ In-is_among n (numbers fs ++ numbers xs) (In-left n (numbers fs) (numbers xs) (is_among-In n (numbers fs) h))

-- each new number of these entries is found then
pub now_found : (c : Case) (fs es : List Met) (e : Met) → In e es → is_new c e ≡ true → is_among e.ino (numbers (fs ++ first_listed (numbers fs) (filter (is_new c) es))) ≡ true
now_found c fs es e i new =
    let some : List Met = filter (is_new c) es in
    ap (is_among e.ino) (numbers_more fs (first_listed (numbers fs) some))
    ∙ among-first_listed e.ino (numbers fs) some
    ∙ In-is_among e.ino (numbers fs ++ numbers some) (In-right e.ino (numbers fs) (numbers some) (In-map (λ (m : Met). m.ino) e some (In-filter (is_new c) e es i new)))

-- ---- a directory that lists the same

-- it is in the grammar, and nothing in it is new
pub record NothingNew (c : Case) (fs : List Met) (m : Met) : Type 0 where
  pub file : FileRead
  pub read : file_in c m ≡ Ok file
  pub grammar : list_all (entry_in_grammar c) (entries_in c m) ≡ true
  pub queue : fs ≡ fs ++ first_listed (numbers fs) (filter (is_new c) (entries_in c m))

body_fits_so : (k b : Bool) → b ≡ true → (k || b) ≡ true
body_fits_so true b h = refl
body_fits_so false b h = h

filter_seen : (c : Case) (seen : List ℕ) (es : List Met) → ((e : Met) → In e es → is_new c e ≡ true → is_among e.ino seen ≡ true) → first_listed seen (filter (is_new c) es) ≡ []
filter_seen c seen [] h = refl
filter_seen c seen (e ∷ es) h = by (is_new c e) refl (filter_seen c seen es (λ x i. h x (inr i)))
  where
    by : (b : Bool) → is_new c e ≡ b → first_listed seen (filter (is_new c) es) ≡ [] → first_listed seen (filter (is_new c) (e ∷ es)) ≡ []
    by true n rest = rw (n, h e (inl refl) n) rest
    by false n rest = rw n rest

pub nothing_new : (c : Case) (fs : List Met) (heads : List Bool) (m : Met) → AreFoundHeads c (numbers fs) heads → IsListedBefore c heads m → NothingNew c fs m
nothing_new c fs heads m all is =
    let core : Core = bundle_core c in
    let a = all.each is.body.head is.head is.body is.chain refl is.blocks is.whole in
    let f : FileRead = record { body = is.body; chain = is.chain; entries = a.entries } in
    let entries : entries_within core m.kind is.chain.blocks ≡ Ok a.entries = ap (λ k. entries_within core k is.chain.blocks) (is_directory-true m.kind is.directory) ∙ a.read in
    let read : file_in c m ≡ Ok f = within_to core m f (record { body = is.reads; chain = is.whole; entries = entries }) in
    let list : entries_in c m ≡ map (met_in plain m.ino) a.entries = ap (children_in plain m.ino) read in
    let seen : (e : Met) → In e (map (met_in plain m.ino) a.entries) → is_new c e ≡ true → is_among e.ino (numbers fs) ≡ true = λ e i new.
    (let l = map-In (met_in plain m.ino) e a.entries i in
    ap (λ (x : Met). is_among x.ino (numbers fs)) l.2 ∙ a.known l.0 l.1 (ap (is_new c) (sym l.2) ∙ new)) in
    let fits : (e : Met) → In e (map (met_in plain m.ino) a.entries) → entry_in_grammar c e ≡ true = λ e i.
    (let l = map-In (met_in plain m.ino) e a.entries i in
    ap (entry_in_grammar c) l.2 ∙ body_fits_so (is_kept c (met_in plain m.ino l.0)) (has_body c.range l.0) (list_all-In (has_body c.range) l.0 a.entries a.bodies l.1)) in
    record {
      file = f;
      read = read;
      grammar = ap (list_all (entry_in_grammar c)) list ∙ list_all-each (entry_in_grammar c) (map (met_in plain m.ino) a.entries) fits;
      queue = sym (append-nil fs) ∙ ap (λ xs. fs ++ xs) (sym (ap (λ es. first_listed (numbers fs) (filter (is_new c) es)) list ∙ filter_seen c (numbers fs) (map (met_in plain m.ino) a.entries) seen));
    }

-- once I2 is broken the walk has found what such a directory is
pub stands_again : (c : Case) (done es fs : List Met) (m : Met) (w : Walk) → NothingNew c fs m → is_some w.owning ≡ true → Stands c done es w → Stands c (done ++ m ∷ []) (es ++ entries_in c m) w
stands_again c done es fs m w n broken s =
    let t = stands_still c done es m n.file w n.read broken s in
    record {
      read = t.read;
      grammar = list_all-append (entry_in_grammar c) es (entries_in c m) ∙ and_from _ _ t.grammar n.grammar;
      listed = entries_still c (done ++ m ∷ []) es (entries_in c m) w broken t.listed;
    }

-- ---- what was read

-- with its own body
pub read_of : (c : Case) (m : Met) (room : PageRoom) (b : Body) → file_in c m ≡ Ok (file_in_room room m.kind b) → (b' : Body) → body_of m.kind c.range m.body ≡ Some b' → file_in c m ≡ Ok (file_in_room room m.kind b')
read_of c m room b e b' h =
    let r = within_from (bundle_core c) m (file_in_room room m.kind b) e in
    e ∙ ap (λ x. Ok (file_in_room room m.kind x)) (some_one (body_of m.kind c.range m.body) b b' r.body h)

-- the entries of a file that was read are its own
pub found_of : (c : Case) (found : List ℕ) (m : Met) (f : FileRead) → file_in c m ≡ Ok f → AreAllFound c found (entries_in c m) → (l : Listed) → In l f.entries → is_among l.entry.ino c.bundle.numbers ≡ true → is_among l.entry.ino found ≡ true
found_of c found m f e all = λ l i new.
    all (met_in plain m.ino l) (subst (In (met_in plain m.ino l)) (sym (ap (children_in plain m.ino) e)) (In-map (met_in plain m.ino) l f.entries i)) new

-- nothing is remembered
pub no_heads : (c : Case) (found : List ℕ) → AreFoundHeads c found (replicate (length (bundle_pages c.bundle)) false)
no_heads c found = record {
  places = length-replicate _ _;
  each = λ head h. absurd (false≢true (sym (none_marked (bundle_pages c.bundle) (length (bundle_pages c.bundle)) head) ∙ h));
}

-- ---- bodies

-- those of one block more
pub bodies_more : (p : Listed → Bool) (f : ℕ → List Listed) (blocks : List ℕ) (i : ℕ) → i < length blocks → list_all p (flat_map f (take i blocks)) ≡ true → list_all p (f (get_or blocks i 0)) ≡ true → list_all p (flat_map f (take (i + 1) blocks)) ≡ true
bodies_more p f blocks i within before here =
    let more : flat_map f (take (i + 1) blocks) ≡ flat_map f (take i blocks) ++ f (get_or blocks i 0) =
    ap (flat_map f) (take_more blocks i 0 within) ∙ flat_map-append f (take i blocks) (get_or blocks i 0 ∷ []) ∙ ap (λ l. flat_map f (take i blocks) ++ l) (append-nil (f (get_or blocks i 0))) in
    ap (list_all p) more ∙ list_all-append p (flat_map f (take i blocks)) (f (get_or blocks i 0)) ∙ and_from _ _ before here

-- ---- such a directory passed

module _ (c : Case) (at : ℕ) (w : Walk) (m : Met) (inside : at < length (files_of w)) (here : get_or (files_of w) at m ≡ m) (n : NothingNew c (files_of w) m) where
  pub queued_again : IsQueued c at w → IsQueued c (at + 1) w
  queued_again q = queued_more c at w w m q inside here n.queue

  pub passed_again : is_some w.owning ≡ true → IsPassed c at w → IsPassed c (at + 1) w
  passed_again broken p =
      let done : List Met = take at (files_of w) in
      passed_more c at w w m inside here n.queue (stands_again c done (flat_map (entries_in c) done) (files_of w) m w n broken p)

-- ---- after a file was gone over

module _ (c : Case) (fs fs' xs : List Met) (grows : fs' ≡ fs ++ first_listed (numbers fs) (filter (is_new c) xs)) where
  pub heads_grown : (heads : List Bool) → AreFoundHeads c (numbers fs) heads → AreFoundHeads c (numbers fs') heads
  heads_grown heads all =
      heads_later c (numbers fs) (numbers fs') heads
      (λ n h. ap (λ ms. is_among n (numbers ms)) grows ∙ still_found fs (first_listed (numbers fs) (filter (is_new c) xs)) n h) all

  pub all_grown : AreAllFound c (numbers fs') xs
  all_grown = λ e i new. ap (λ ms. is_among e.ino (numbers ms)) grows ∙ now_found c fs xs e i new
