-- Pages that leave home one after another.
use Rattle.trio_open.proofs.Words.{if◌then◌else◌, ◌&&◌, ◌++◌, ◌+◌, ◌<◌, ◌∙◌, ◌∷◌, ◌≡◌, Bool, In, In-left, In-right, LentFile, LentPage, LibNo, List, None, Opened, Option, Read, Sheet, Some, Write, [], and_parts, ap, are_new, are_new-append, are_new-before, are_new-fewer, arith, core_of, drop, false, false≢true, get_or, get_or_default, inl, inr, is_among, is_some, length, lent_sheet, map, map-append, not, not-true, option_map, refl, sheets_of, subst, suc, sym, take, take-suc, true, untouched, without_pages, ℕ}
use Rattle.std.proofs.Common.{set}
use Rattle.std.specs.Prelude.{Ok, Err, Result}
use Rattle.std.specs.List.{cons_option, list_all}
use Rattle.std.specs.Option.{option_and_then}
use Rattle.std.proofs.lemmas.List.{take-append-drop}
use Rattle.std.proofs.lemmas.List.Elements.{filter_map-append}
use Rattle.std.proofs.lemmas.List.Folds.{list_all-append}
use Rattle.trio_rights.specs.declared.kind.Kind.{Kind}
use Rattle.trio_layout.specs.Body.{guard_in}
use Rattle.trio_layout.specs.Chain.{Chain}
use Rattle.trio_layout.specs.Core.{Core, Location, page_of}
use Rattle.trio_layout.specs.Range.{is_core}
use Rattle.trio_layout.specs.declared.range.CoreRange.{CoreRange}
use Rattle.trio_lists.proofs.Marked.{are_new-more}
use Rattle.trio_layout.specs.Pages.{covered_of}
use Rattle.trio_rights.specs.Sheets.{sheet_numbers}
use Rattle.trio_rights.specs.ByKind.{covers_blocks}
use Rattle.trio_checkpoint.specs.Covered.{Checkpointed, are_there, covered_numbers, covered_pages}
use Rattle.trio_lists.proofs.Filters.{get_or-In}
use Rattle.trio_lists.proofs.Members.{In-is_among, list_all-In}
use Rattle.trio_surveys.proofs.SheetLaws.{page_at}
use Rattle.trio_surveys.proofs.Images.{some_of}
use Rattle.trio_surveys.proofs.Sheets.{Pages, sheets_all, without_apart}
use Rattle.trio_lease.specs.Shown.{Shown}
use Rattle.trio_open.specs.inner.Lending.{IsLendable}
use Rattle.trio_open.specs.Open.{grant_on, lease_of, shown_of}
use Rattle.trio_open.specs.Covers.{CoversLent}

pub sheets_untouched : (xs : List Sheet) → map lent_sheet (map untouched xs) ≡ xs
sheets_untouched [] = refl
sheets_untouched (x ∷ xs) = ap (λ l. x ∷ l) (sheets_untouched xs)

-- the next number is not among those before it
next_apart : (ns : List ℕ) (i : ℕ) → i < length ns → are_new [] ns ≡ true → is_among (get_or ns i 0) (take i ns) ≡ false
next_apart ns i lt new =
    let whole : are_new [] (take (i + 1) ns ++ drop (i + 1) ns) ≡ true = ap (are_new []) (take-append-drop (i + 1) ns) ∙ new in
    let front : are_new [] (take (i + 1) ns) ≡ true = (and_parts (are_new [] (take (i + 1) ns)) (are_new ([] ++ take (i + 1) ns) (drop (i + 1) ns)) (sym (are_new-append [] (take (i + 1) ns) (drop (i + 1) ns)) ∙ whole)).0 in
    not-true (is_among (get_or ns i 0) (take i ns)) ((and_parts (are_new [] (take i ns)) (not (is_among (get_or ns i 0) (take i ns))) (sym (are_new-more [] ns i lt) ∙ front)).1)

-- the page of a number is there
there_at : (pages : List (Option (List ℕ))) (range : CoreRange) (ns : List ℕ) (i : ℕ) → i < length ns → are_there (core_of pages range) ns ≡ true → (bytes : List ℕ) × (page_of (core_of pages range) (get_or ns i 0) ≡ Some bytes) × (get_or pages (get_or ns i 0) None ≡ Some bytes)
there_at pages range ns i lt all =
    by (is_core range (get_or ns i 0)) (get_or pages (get_or ns i 0) None) (list_all-In (λ p. is_some (page_of (core_of pages range) p)) (get_or ns i 0) ns all (get_or-In ns i 0 lt))
  where
    by : (b : Bool) (o : Option (List ℕ)) → is_some (if b then o else None) ≡ true → (bytes : List ℕ) × ((if b then o else None) ≡ Some bytes) × (o ≡ Some bytes)
    by true None e = absurd cc
    by true (Some bytes) e = (bytes, refl, refl)
    by false o e = absurd cc

-- and still there once those before it are gone
next_home : (pages now : List (Option (List ℕ))) (ns : List ℕ) (i : ℕ) → i < length ns → are_new [] ns ≡ true → now ≡ without_pages (take i ns) pages → get_or now (get_or ns i 0) None ≡ get_or pages (get_or ns i 0) None
next_home pages now ns i lt new so_far =
    let n : ℕ = get_or ns i 0 in
    let apart : In n (take i ns) → ⊥ = λ k. false≢true (sym (next_apart ns i lt new) ∙ In-is_among n (take i ns) k) in
    ap (λ ps. get_or ps n None) so_far
    ∙ page_at (without_pages (take i ns) pages) n
    ∙ ap (option_and_then (λ x. x)) (without_apart (take i ns) pages n apart)
    ∙ sym (page_at pages n)

pub next_there : (pages now : List (Option (List ℕ))) (range : CoreRange) (ns : List ℕ) (i n : ℕ) → i < length ns → n ≡ get_or ns i n → are_there (core_of pages range) ns ≡ true → are_new [] ns ≡ true → now ≡ without_pages (take i ns) pages → is_some (get_or now n None) ≡ true
next_there pages now range ns i n lt is there new so_far =
    let e : n ≡ get_or ns i 0 = is ∙ get_or_default ns i n 0 lt in
    let t = there_at pages range ns i lt there in
    ap (λ m. is_some (get_or now m None)) e ∙ ap is_some (next_home pages now ns i lt new so_far ∙ t.2)

-- one page more of those that are lent, of which this is the next
more_lent : (core : Core) (ns : List ℕ) (i n : ℕ) (bytes : List ℕ) (before after : List LentPage) (page : LentPage) → i < length ns → n ≡ get_or ns i n → page_of core n ≡ Some bytes
    → page ≡ record { no = record { 0 = n }; page = bytes; touched = false } → before ≡ map untouched (sheets_of core (take i ns)) → after ≡ before ++ page ∷ []
    → after ≡ map untouched (sheets_of core (take (i + 1) ns))
more_lent core ns i n bytes before after page lt is here lent first more =
    let one : sheets_of core (n ∷ []) ≡ record { page = n; bytes = bytes } ∷ [] = ap (λ o. cons_option (option_map (λ bytes. record { page = n; bytes = bytes }) o) []) here in
    let up : i + 1 ≡ suc i = omega arith in
    let longer : take (i + 1) ns ≡ take i ns ++ n ∷ [] = ap (λ k. take k ns) up ∙ take-suc ns i n lt ∙ ap (λ m. take i ns ++ m ∷ []) (sym is) in
    more ∙ ap (λ l. l ++ page ∷ []) first
    ∙ ap (λ x. map untouched (sheets_of core (take i ns)) ++ x ∷ []) lent
    ∙ sym (map-append untouched (sheets_of core (take i ns)) (record { page = n; bytes = bytes } ∷ []))
    ∙ ap (λ l. map untouched (sheets_of core (take i ns) ++ l)) (sym one)
    ∙ ap (map untouched) (sym (filter_map-append (λ page. option_map (λ bytes. record { page = page; bytes = bytes }) (page_of core page)) (take i ns) (n ∷ [])))
    ∙ ap (λ l. map untouched (sheets_of core l)) (sym longer)

pub next_lent : (pages now : List (Option (List ℕ))) (range : CoreRange) (ns : List ℕ) (i n : ℕ) (bytes : List ℕ) (before after : List LentPage) (page : LentPage) → i < length ns → n ≡ get_or ns i n → are_there (core_of pages range) ns ≡ true → are_new [] ns ≡ true → now ≡ without_pages (take i ns) pages
    → get_or now n None ≡ Some bytes → page ≡ record { no = record { 0 = n }; page = bytes; touched = false } → before ≡ map untouched (sheets_of (core_of pages range) (take i ns)) → after ≡ before ++ page ∷ []
    → after ≡ map untouched (sheets_of (core_of pages range) (take (i + 1) ns))
next_lent pages now range ns i n bytes before after page lt is there new so_far had lent first more =
    let core : Core = core_of pages range in
    let e : n ≡ get_or ns i 0 = is ∙ get_or_default ns i n 0 lt in
    let t = there_at pages range ns i lt there in
    let same : Some t.0 ≡ Some bytes = sym (next_home pages now ns i lt new so_far ∙ t.2) ∙ ap (λ m. get_or now m None) (sym e) ∙ had in
    more_lent core ns i n bytes before after page lt is (ap (page_of core) e ∙ t.1 ∙ same) lent first more

pub next_copied : (pages now : List (Option (List ℕ))) (range : CoreRange) (ns : List ℕ) (i n : ℕ) (bytes : List ℕ) (before after : List LentPage) (page : LentPage) → i < length ns → n ≡ get_or ns i n → are_there (core_of pages range) ns ≡ true → now ≡ pages
    → get_or now n None ≡ Some bytes → page ≡ record { no = record { 0 = n }; page = bytes; touched = false } → before ≡ map untouched (sheets_of (core_of pages range) (take i ns)) → after ≡ before ++ page ∷ []
    → after ≡ map untouched (sheets_of (core_of pages range) (take (i + 1) ns))
next_copied pages now range ns i n bytes before after page lt is there same had lent first more =
    let core : Core = core_of pages range in
    let e : n ≡ get_or ns i 0 = is ∙ get_or_default ns i n 0 lt in
    let t = there_at pages range ns i lt there in
    let one : Some t.0 ≡ Some bytes = sym t.2 ∙ ap (λ m. get_or pages m None) (sym e) ∙ ap (λ ps. get_or ps n None) (sym same) ∙ had in
    more_lent core ns i n bytes before after page lt is (ap (page_of core) e ∙ t.1 ∙ one) lent first more

without-append : (ns ms : List ℕ) (pages : List (Option (List ℕ))) → without_pages (ns ++ ms) pages ≡ without_pages ms (without_pages ns pages)
without-append [] ms pages = refl
without-append (n ∷ ns) ms pages = without-append ns ms (set pages n None)

pub next_gone : (pages now after : List (Option (List ℕ))) (ns : List ℕ) (i n : ℕ) → i < length ns → n ≡ get_or ns i n → now ≡ without_pages (take i ns) pages → after ≡ without_pages (n ∷ []) now → after ≡ without_pages (take (i + 1) ns) pages
next_gone pages now after ns i n lt is so_far gone =
    let up : i + 1 ≡ suc i = omega arith in
    let longer : take (i + 1) ns ≡ take i ns ++ n ∷ [] = ap (λ k. take k ns) up ∙ take-suc ns i n lt ∙ ap (λ m. take i ns ++ m ∷ []) (sym is) in
    gone ∙ ap (without_pages (n ∷ [])) so_far ∙ sym (without-append (take i ns) (n ∷ []) pages) ∙ ap (λ l. without_pages l pages) (sym longer)

-- ---- a file's pages, its index pages first

there_parts : (core : Core) (xs ys : List ℕ) → are_there core (xs ++ ys) ≡ true → (are_there core xs ≡ true) × (are_there core ys ≡ true)
there_parts core xs ys all = and_parts (are_there core xs) (are_there core ys) (sym (list_all-append (λ p. is_some (page_of core p)) xs ys) ∙ all)

pub index_there : (core : Core) (c : Chain) → IsLendable core c → are_there core c.index ≡ true
index_there core c l = (there_parts core c.index c.blocks l.there).0

pub blocks_at_home : (core : Core) (c : Chain) → IsLendable core c → are_there core c.blocks ≡ true
blocks_at_home core c l = (there_parts core c.index c.blocks l.there).1

pub covered_there : (core : Core) (kind : Kind) (guarded : Bool) (c : Chain) → IsLendable core c → are_there core (covered_numbers kind guarded c.blocks) ≡ true
covered_there core kind guarded c l = by (covers_blocks kind guarded)
  where
    by : (t : Bool) → are_there core (if t then c.blocks else []) ≡ true
    by false = refl
    by true = (there_parts core c.index c.blocks l.there).1

once_parts : (c : Chain) → are_new [] (c.index ++ c.blocks) ≡ true → (are_new [] c.index ≡ true) × (are_new c.index c.blocks ≡ true)
once_parts c once = and_parts (are_new [] c.index) (are_new c.index c.blocks) (sym (are_new-append [] c.index c.blocks) ∙ once)

pub index_once : (core : Core) (c : Chain) → IsLendable core c → are_new [] c.index ≡ true
index_once core c l = (once_parts c l.once).0

pub blocks_once : (core : Core) (c : Chain) → IsLendable core c → are_new [] c.blocks ≡ true
blocks_once core c l = are_new-fewer [] c.index c.blocks (λ n i. absurd i) (once_parts c l.once).1

-- a page of the blocks stands where it stood once the index pages are gone
block_stays : (pages : Pages) (range : CoreRange) (c : Chain) → are_new [] (c.index ++ c.blocks) ≡ true → (p : ℕ) → In p c.blocks → page_of (core_of (without_pages c.index pages) range) p ≡ page_of (core_of pages range) p
block_stays pages range c once p i =
    let apart : In p c.index → ⊥ = λ k. are_new-before p c.index c.blocks (once_parts c once).1 i k in
    ap (λ o. if is_core range p then o else None)
    (page_at (without_pages c.index pages) p ∙ ap (option_and_then (λ x. x)) (without_apart c.index pages p apart) ∙ sym (page_at pages p))

all_same : (p q : ℕ → Bool) (xs : List ℕ) → ((n : ℕ) → In n xs → p n ≡ q n) → list_all p xs ≡ list_all q xs
all_same p q [] h = refl
all_same p q (x ∷ xs) h = ap (λ b. b && list_all p xs) (h x (inl refl)) ∙ ap (λ b. q x && b) (all_same p q xs (λ n i. h n (inr i)))

pub sheets_same : (a b : Core) (ns : List ℕ) → ((n : ℕ) → In n ns → page_of a n ≡ page_of b n) → sheets_of a ns ≡ sheets_of b ns
sheets_same a b [] h = refl
sheets_same a b (n ∷ ns) h =
    let sheet : List ℕ → Sheet = λ bytes. record { page = n; bytes = bytes } in
    ap (λ o. cons_option (option_map sheet o) (sheets_of a ns)) (h n (inl refl))
    ∙ ap (cons_option (option_map sheet (page_of b n))) (sheets_same a b ns (λ m i. h m (inr i)))

pub blocks_there : (pages now : Pages) (range : CoreRange) (c : Chain) → now ≡ without_pages c.index pages → IsLendable (core_of pages range) c → are_there (core_of now range) c.blocks ≡ true
blocks_there pages now range c is l =
    ap (λ ps. are_there (core_of ps range) c.blocks) is
    ∙ all_same (λ p. is_some (page_of (core_of (without_pages c.index pages) range) p)) (λ p. is_some (page_of (core_of pages range) p)) c.blocks (λ n i. ap is_some (block_stays pages range c l.once n i))
    ∙ (there_parts (core_of pages range) c.index c.blocks l.there).1

pub blocks_same : (pages now : Pages) (range : CoreRange) (c : Chain) → now ≡ without_pages c.index pages → IsLendable (core_of pages range) c → sheets_of (core_of now range) c.blocks ≡ sheets_of (core_of pages range) c.blocks
blocks_same pages now range c is l =
    ap (λ ps. sheets_of (core_of ps range) c.blocks) is ∙ sheets_same (core_of (without_pages c.index pages) range) (core_of pages range) c.blocks (block_stays pages range c l.once)

pub both_gone : (pages now after : Pages) (c : Chain) → now ≡ without_pages c.index pages → after ≡ without_pages c.blocks now → after ≡ without_pages (c.index ++ c.blocks) pages
both_gone pages now after c first second = second ∙ ap (without_pages c.blocks) first ∙ sym (without-append c.index c.blocks pages)

-- ---- the grant and its lease

pub opened_is : (o : Opened) (key lib ino entry : ℕ) (of : Kind) (body : List ℕ) (index blocks : List LentPage) (core : Core) (c x : Chain)
    → o ≡ record { key = key; grant = record { lib = lib; ino = ino; kind = Write; of = of; entry = entry; body = body; index = map lent_sheet index; blocks = map lent_sheet blocks; parent = 0; children = 0; checkpoint = [] } }
    → index ≡ map untouched (sheets_of core c.index) → blocks ≡ map untouched (sheets_of core c.blocks) → c ≡ x
    → o ≡ record { key = key; grant = record (grant_on core lib ino Write of entry body x) { checkpoint = [] } }
opened_is o key lib ino entry of body index blocks core c x made first second same =
    let G : List Sheet → List Sheet → Opened = λ is bs. record { key = key; grant = record { lib = lib; ino = ino; kind = Write; of = of; entry = entry; body = body; index = is; blocks = bs; parent = 0; children = 0; checkpoint = [] } } in
    made
    ∙ ap (λ l. G l (map lent_sheet blocks)) (ap (map lent_sheet) first ∙ sheets_untouched (sheets_of core c.index))
    ∙ ap (G (sheets_of core c.index)) (ap (map lent_sheet) second ∙ sheets_untouched (sheets_of core c.blocks))
    ∙ ap (λ (d : Chain). record { key = key; grant = record (grant_on core lib ino Write of entry body d) { checkpoint = [] } }) same

-- the checkpoint is that of the grant
pub checkpoint_is : (o : Opened) (key lib ino entry : ℕ) (of : Kind) (body : List ℕ) (core : Core) (k : Checkpointed)
    → o ≡ record { key = key; grant = record (grant_on core lib ino Write of entry body k.chain) { checkpoint = [] } }
    → covered_pages k ≡ covered_of of (guard_in body) (sheets_of core k.chain.index) (sheets_of core k.chain.blocks)
    → covered_pages k ≡ covered_of o.grant.of (guard_in o.grant.body) o.grant.index o.grant.blocks
checkpoint_is o key lib ino entry of body core k made told = told ∙ ap (λ (p : Opened). covered_of p.grant.of (guard_in p.grant.body) p.grant.index p.grant.blocks) (sym made)

-- the sheets of a chain have its numbers
numbers_there : (core : Core) (c : Chain) → IsLendable core c → record { index = sheet_numbers (sheets_of core c.index); blocks = sheet_numbers (sheets_of core c.blocks) } ≡ c
numbers_there core c fit =
    let C : List ℕ → List ℕ → Chain = λ xs ys. record { index = xs; blocks = ys } in
    ap (λ xs. C xs (sheet_numbers (sheets_of core c.blocks))) (sheets_all core c.index (λ p i. there p (In-left p c.index c.blocks i)))
    ∙ ap (C c.index) (sheets_all core c.blocks (λ p i. there p (In-right p c.index c.blocks i)))
  where
    there : (p : ℕ) → In p (c.index ++ c.blocks) → (bytes : List ℕ) × (page_of core p ≡ Some bytes)
    there p i = some_of (page_of core p) (list_all-In (λ page. is_some (page_of core page)) p (c.index ++ c.blocks) fit.there i)

pub checkpoint_covers : (o : Opened) (key lib ino entry : ℕ) (of : Kind) (body : List ℕ) (core : Core) (k : Checkpointed)
    → o ≡ record { key = key; grant = record (grant_on core lib ino Write of entry body k.chain) { checkpoint = [] } }
    → k.body ≡ body → k.index ≡ sheets_of core k.chain.index → k.blocks ≡ sheets_of core (covered_numbers of (guard_in body) k.chain.blocks) → IsLendable core k.chain
    → CoversLent o.grant k
checkpoint_covers o key lib ino entry of body core k made has first second fit =
    subst (λ (p : Opened). CoversLent p.grant k) (sym made) (record { body = has; chain = sym (numbers_there core k.chain fit); index = ap sheet_numbers first; blocks = ap sheet_numbers second ∙ by (covers_blocks of (guard_in body)) })
  where
    by : (t : Bool) → sheet_numbers (sheets_of core (if t then k.chain.blocks else [])) ≡ (if t then sheet_numbers (sheets_of core k.chain.blocks) else [])
    by false = refl
    by true = refl

pub lease_is : (o : Opened) (l : LentFile) (key ino entry : ℕ) (lib : LibNo) (of : Kind) (body : List ℕ) (index blocks : List LentPage) (xs ys : List Sheet)
    → o ≡ record { key = key; grant = record { lib = lib.0; ino = ino; kind = Write; of = of; entry = entry; body = body; index = map lent_sheet index; blocks = map lent_sheet blocks; parent = 0; children = 0; checkpoint = [] } }
    → index ≡ map untouched xs → blocks ≡ map untouched ys
    → (let s : Shown = record { lib = lib; ino = ino; kind = of; entry = entry; body = body; index = index; blocks = blocks } in l ≡ record { stands = s; lent = s })
    → l ≡ lease_of o.grant
lease_is o l key ino entry lib of body index blocks xs ys made first second leased =
    let S : List LentPage → List LentPage → LentFile = λ is bs. let s : Shown = record { lib = lib; ino = ino; kind = of; entry = entry; body = body; index = is; blocks = bs } in record { stands = s; lent = s } in
    let again : (ps : List LentPage) (zs : List Sheet) → ps ≡ map untouched zs → ps ≡ map untouched (map lent_sheet ps) =
    λ ps zs e. e ∙ ap (map untouched) (sym (sheets_untouched zs) ∙ ap (map lent_sheet) (sym e)) in
    leased
    ∙ ap (λ ps. S ps blocks) (again index xs first)
    ∙ ap (λ ps. S (map untouched (map lent_sheet index)) ps) (again blocks ys second)
    ∙ ap (λ (q : Opened). lease_of q.grant) (sym made)

-- ---- the grant of a copied file, and its lease

pub read_is : (o : Opened) (key lib ino entry : ℕ) (of : Kind) (body : List ℕ) (index blocks : List LentPage) (core : Core) (c x : Chain)
    → o ≡ record { key = key; grant = record { lib = lib; ino = ino; kind = Read; of = of; entry = entry; body = body; index = map lent_sheet index; blocks = map lent_sheet blocks; parent = 0; children = 0; checkpoint = [] } }
    → index ≡ map untouched (sheets_of core c.index) → blocks ≡ map untouched (sheets_of core c.blocks) → c ≡ x
    → o ≡ record { key = key; grant = grant_on core lib ino Read of entry body x }
read_is o key lib ino entry of body index blocks core c x made first second same =
    let G : List Sheet → List Sheet → Opened = λ is bs. record { key = key; grant = record { lib = lib; ino = ino; kind = Read; of = of; entry = entry; body = body; index = is; blocks = bs; parent = 0; children = 0; checkpoint = [] } } in
    made
    ∙ ap (λ l. G l (map lent_sheet blocks)) (ap (map lent_sheet) first ∙ sheets_untouched (sheets_of core c.index))
    ∙ ap (G (sheets_of core c.index)) (ap (map lent_sheet) second ∙ sheets_untouched (sheets_of core c.blocks))
    ∙ ap (λ (d : Chain). record { key = key; grant = grant_on core lib ino Read of entry body d }) same

pub shown_is : (o : Opened) (l : Shown) (key ino entry : ℕ) (lib : LibNo) (of : Kind) (body : List ℕ) (index blocks : List LentPage) (xs ys : List Sheet)
    → o ≡ record { key = key; grant = record { lib = lib.0; ino = ino; kind = Read; of = of; entry = entry; body = body; index = map lent_sheet index; blocks = map lent_sheet blocks; parent = 0; children = 0; checkpoint = [] } }
    → index ≡ map untouched xs → blocks ≡ map untouched ys
    → l ≡ record { lib = lib; ino = ino; kind = of; entry = entry; body = body; index = index; blocks = blocks }
    → l ≡ shown_of o.grant
shown_is o l key ino entry lib of body index blocks xs ys made first second leased =
    let S : List LentPage → List LentPage → Shown = λ is bs. record { lib = lib; ino = ino; kind = of; entry = entry; body = body; index = is; blocks = bs } in
    let again : (ps : List LentPage) (zs : List Sheet) → ps ≡ map untouched zs → ps ≡ map untouched (map lent_sheet ps) =
    λ ps zs e. e ∙ ap (map untouched) (sym (sheets_untouched zs) ∙ ap (map lent_sheet) (sym e)) in
    leased
    ∙ ap (λ ps. S ps blocks) (again index xs first)
    ∙ ap (λ ps. S (map untouched (map lent_sheet index)) ps) (again blocks ys second)
    ∙ ap (λ (q : Opened). shown_of q.grant) (sym made)

pub read_or : Chain → Result Chain Location → Chain
read_or c (Ok x) = x
read_or c (Err place) = c

pub same_chain : (c x : Chain) (r : Result Chain Location) → Ok c ≡ r → r ≡ Ok x → c ≡ x
unfolding read_or
same_chain c x r e f = ap (read_or c) (e ∙ f)
