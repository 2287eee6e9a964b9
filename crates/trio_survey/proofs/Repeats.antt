-- What is listed again, of numbers, entries and files.
use Rattle.trio_survey.proofs.Words.{◌&&◌, ◌++◌, ◌||◌, ◌∙◌, ◌∷◌, ◌≡◌, Bool, Core, FailsAt, FaultAt, FileRead, FirstEntry, FirstRepeat, In, IsFirstRepeat, List, Listed, Location, Met, None, Ok, Option, Pick, Some, [], and_from, and_parts, ap, append-nil, append_assoc, are_in_grammar, are_listed_once, are_new, are_new-append, at_page, children, children_in, false, file_of, file_repeat, flat_map-append, inl, inr, is_among, is_among-append, is_ok, list_all, listed_numbers, listed_pages, map, map-append, met_in, not, numbers, option_or, pages_in, pages_of, place_of, refl, survey, sym, true, ℕ}
use Rattle.std.proofs.lemmas.Bool.{and_right}
use Rattle.trio_layout.specs.Sound.{is_sound, listings, page_listings, PageListing, ListsNumberAgain, ListsPageAgain}
use Rattle.trio_lists.proofs.Marked.{are_new-push, and-false}
use Rattle.trio_survey.specs.inner.Walk.{Repeats, RepeatsEntry, RepeatsAt}

-- ---- numbers

repeats_more : (before xs : List ℕ) (n : ℕ) (ys : List ℕ) → Repeats before xs n → Repeats before (xs ++ ys) n
repeats_more before xs n ys r = record {
  earlier = r.earlier;
  later = r.later ++ ys;
  order = ap (λ l. l ++ ys) r.order ∙ append_assoc r.earlier (n ∷ r.later) ys;
  seen = r.seen;
}

repeats_behind : (before xs ys : List ℕ) (n : ℕ) → Repeats (before ++ xs) ys n → Repeats before (xs ++ ys) n
repeats_behind before xs ys n r = record {
  earlier = xs ++ r.earlier;
  later = r.later;
  order = ap (λ l. xs ++ l) r.order ∙ sym (append_assoc xs r.earlier (n ∷ r.later));
  seen = ap (is_among n) (sym (append_assoc before xs r.earlier)) ∙ r.seen;
}

pub first_marked : (before xs : List ℕ) (n : ℕ) (first : Option ℕ) → is_among n (before ++ xs) ≡ true → FirstRepeat before xs first → FirstRepeat before (xs ++ n ∷ []) (option_or first (Some n))
first_marked before xs n None e h = record { earlier = xs; later = []; order = refl; seen = e }
first_marked before xs n (Some x) e h = repeats_more before xs x (n ∷ []) h

pub first_unmarked : (before xs : List ℕ) (n : ℕ) (first : Option ℕ) → is_among n (before ++ xs) ≡ false → FirstRepeat before xs first → FirstRepeat before (xs ++ n ∷ []) first
first_unmarked before xs n None e h =
    are_new-push before xs n ∙ ap (λ b. are_new before xs && not b) e ∙ ap (λ b. b && true) h
first_unmarked before xs n (Some x) e h = repeats_more before xs x (n ∷ []) h

-- whether numbers are new goes by which numbers are seen alone
are_new-same : (s t xs : List ℕ) → ((n : ℕ) → is_among n s ≡ is_among n t) → are_new s xs ≡ are_new t xs
are_new-same s t [] h = refl
are_new-same s t (x ∷ xs) h =
    let rest = are_new-same (s ++ x ∷ []) (t ++ x ∷ []) xs (λ n. is_among-append n s (x ∷ []) ∙ ap (λ b. b || is_among n (x ∷ [])) (h n) ∙ sym (is_among-append n t (x ∷ []))) in
    ap (λ b. not b && are_new (s ++ x ∷ []) xs) (h x) ∙ ap (λ b. not (is_among x t) && b) rest

-- a number that stands before makes that not all are new
pub repeat_not_new : (seen earlier : List ℕ) (n : ℕ) (later : List ℕ) → is_among n (seen ++ earlier) ≡ true → are_new seen (earlier ++ n ∷ later) ≡ false
repeat_not_new seen earlier n later e =
    are_new-append seen earlier (n ∷ later)
    ∙ ap (λ b. are_new seen earlier && (not b && are_new ((seen ++ earlier) ++ n ∷ []) later)) e
    ∙ and-false (are_new seen earlier)

-- ---- entries

-- the inode numbers of entries
abbrev pub numbers_of : List Listed → List ℕ
numbers_of es = map (λ l. l.entry.ino) es

entry_more : (before : List ℕ) (es : List Listed) (e : Listed) (place : Location) → RepeatsEntry before es place → RepeatsEntry before (es ++ e ∷ []) place
entry_more before es e place r = record {
  earlier = r.earlier;
  again = r.again;
  later = r.later ++ e ∷ [];
  order = ap (λ l. l ++ e ∷ []) r.order ∙ append_assoc r.earlier (r.again ∷ r.later) (e ∷ []);
  place_is = r.place_is;
  seen = r.seen;
}

pub entry_marked : (before : List ℕ) (es : List Listed) (e : Listed) (p : Location) (first : Option Location) → place_of e ≡ p → is_among e.entry.ino (before ++ numbers_of es) ≡ true → FirstEntry before es first → FirstEntry before (es ++ e ∷ []) (option_or first (Some p))
entry_marked before es e p None at a h =
    record { earlier = es; again = e; later = []; order = refl; place_is = at; seen = a }
entry_marked before es e p (Some q) at a h = entry_more before es e q h

pub entry_unmarked : (before : List ℕ) (es : List Listed) (e : Listed) (first : Option Location) → is_among e.entry.ino (before ++ numbers_of es) ≡ false → FirstEntry before es first → FirstEntry before (es ++ e ∷ []) first
entry_unmarked before es e None a h =
    ap (are_new before) (map-append (λ (l : Listed). l.entry.ino) es (e ∷ []))
    ∙ are_new-push before (numbers_of es) e.entry.ino
    ∙ ap (λ b. are_new before (numbers_of es) && not b) a
    ∙ ap (λ b. b && true) h
entry_unmarked before es e (Some q) a h = entry_more before es e q h

-- ---- files

pub numbers_listed : (core : Core) (pick : Pick) (files : List Met) → numbers (listings core pick files) ≡ listed_numbers core pick files
numbers_listed core pick [] = refl
numbers_listed core pick (m ∷ ms) =
    map-append (λ (x : Met). x.ino) (children core pick m) (listings core pick ms)
    ∙ ap (λ l. numbers (children core pick m) ++ l) (numbers_listed core pick ms)

-- the listings of one file
abbrev here : ℕ → List ℕ → List PageListing
here ino pages = map (λ p. record { ino = ino; page = p }) pages

pages_here : (ino : ℕ) (pages : List ℕ) → map (λ (l : PageListing). l.page) (here ino pages) ≡ pages
pages_here ino [] = refl
pages_here ino (p ∷ ps) = ap (λ l. p ∷ l) (pages_here ino ps)

pages_listed : (core : Core) (files : List Met) → map (λ (l : PageListing). l.page) (page_listings core files) ≡ listed_pages core files
pages_listed core [] = refl
pages_listed core (m ∷ ms) =
    map-append (λ (l : PageListing). l.page) (here m.ino (pages_of core m)) (page_listings core ms)
    ∙ ap (λ l. l ++ map (λ (l : PageListing). l.page) (page_listings core ms)) (pages_here m.ino (pages_of core m))
    ∙ ap (λ l. pages_of core m ++ l) (pages_listed core ms)

-- what is listed again stays so with further files
pub repeats_keep : (core : Core) (pick : Pick) (done more : List Met) (ino : ℕ) (place : Location) → RepeatsAt core pick done ino place → RepeatsAt core pick (done ++ more) ino place
repeats_keep core pick done more ino place (inl r) =
    inl (record {
      earlier = r.earlier;
      again = r.again;
      later = r.later ++ listings core pick more;
      order =
          flat_map-append (children core pick) done more
          ∙ ap (λ l. l ++ listings core pick more) r.order
          ∙ append_assoc r.earlier (r.again ∷ r.later) (listings core pick more);
      parent = r.parent;
      page = r.page;
      slot = r.slot;
      seen = r.seen;
    })
repeats_keep core pick done more ino place (inr r) =
    let it : PageListing = record { ino = ino; page = r.again } in
    inr (record {
      earlier = r.earlier;
      later = r.later ++ page_listings core more;
      again = r.again;
      order =
          flat_map-append (λ (m : Met). here m.ino (pages_of core m)) done more
          ∙ ap (λ l. l ++ page_listings core more) r.order
          ∙ append_assoc r.earlier (it ∷ r.later) (page_listings core more);
      seen = r.seen;
      place_is = r.place_is;
    })

-- a page of the next file that was listed before
page_repeats : (core : Core) (done : List Met) (m : Met) (n : ℕ) → Repeats (listed_pages core done) (pages_of core m) n → ListsPageAgain core (done ++ m ∷ []) m.ino (at_page n)
page_repeats core done m n r =
    let it : PageListing = record { ino = m.ino; page = n } in
    let P : List PageListing = page_listings core done in
    record {
      earlier = P ++ here m.ino r.earlier;
      later = here m.ino r.later;
      again = n;
      order =
          flat_map-append (λ (x : Met). here x.ino (pages_of core x)) done (m ∷ [])
          ∙ ap (λ l. P ++ l) (append-nil (here m.ino (pages_of core m)) ∙ ap (here m.ino) r.order ∙ map-append (λ (p : ℕ). record { ino = m.ino; page = p }) r.earlier (n ∷ r.later))
          ∙ sym (append_assoc P (here m.ino r.earlier) (it ∷ here m.ino r.later));
      seen =
          ap (is_among n) (map-append (λ (l : PageListing). l.page) P (here m.ino r.earlier)
          ∙ ap (λ l. l ++ map (λ (l : PageListing). l.page) (here m.ino r.earlier)) (pages_listed core done)
          ∙ ap (λ l. listed_pages core done ++ l) (pages_here m.ino r.earlier))
          ∙ r.seen;
      place_is = refl;
    }

pub numbers_met : (pick : Pick) (directory : ℕ) (es : List Listed) → numbers (map (met_in pick directory) es) ≡ numbers_of es
numbers_met pick directory [] = refl
numbers_met pick directory (e ∷ es) = ap (λ l. e.entry.ino ∷ l) (numbers_met pick directory es)

-- an entry of the next file whose number was listed before
entry_repeats : (core : Core) (pick : Pick) (done : List Met) (m : Met) (f : FileRead) (before : List ℕ) (place : Location) → file_of core m ≡ Ok f → ((n : ℕ) → is_among n before ≡ is_among n (1 ∷ listed_numbers core pick done)) → RepeatsEntry before f.entries place → ListsNumberAgain core pick (done ++ m ∷ []) m.ino place
entry_repeats core pick done m f before place read same r =
    let kid : Listed → Met = met_in pick m.ino in
    let L : List Met = listings core pick done in
    let N : List ℕ = listed_numbers core pick done in
    let n : ℕ = r.again.entry.ino in
    let E : List ℕ = numbers_of r.earlier in
    let kids_are : children core pick m ≡ map kid f.entries = ap (children_in pick m.ino) read in
    let e_is : numbers (map kid r.earlier) ≡ E = numbers_met pick m.ino r.earlier in
    record {
      earlier = L ++ map kid r.earlier;
      again = kid r.again;
      later = map kid r.later;
      order =
          flat_map-append (children core pick) done (m ∷ [])
          ∙ ap (λ l. L ++ l) (append-nil (children core pick m) ∙ kids_are ∙ ap (map kid) r.order ∙ map-append kid r.earlier (r.again ∷ r.later))
          ∙ sym (append_assoc L (map kid r.earlier) (kid r.again ∷ map kid r.later));
      parent = refl;
      page = ap (λ (p : Location). p.page) r.place_is;
      slot = ap (λ (p : Location). p.slot) r.place_is;
      seen =
          ap (λ l. is_among n (1 ∷ l)) (map-append (λ (x : Met). x.ino) L (map kid r.earlier) ∙ ap (λ l. l ++ numbers (map kid r.earlier)) (numbers_listed core pick done) ∙ ap (λ l. N ++ l) e_is)
          ∙ is_among-append n (1 ∷ N) E
          ∙ ap (λ b. b || is_among n E) (sym (same n))
          ∙ sym (is_among-append n before E)
          ∙ r.seen;
    }

-- the first repeat of a file more
pub first_repeat : (core : Core) (pick : Pick) (done : List Met) (m : Met) (f : FileRead) (before : List ℕ) (twice : Option FaultAt) (a b : Option ℕ) (c : Option Location) → file_of core m ≡ Ok f → ((n : ℕ) → is_among n before ≡ is_among n (1 ∷ listed_numbers core pick done)) → FirstRepeat (listed_pages core done) f.chain.index a → FirstRepeat (listed_pages core done ++ f.chain.index) f.chain.blocks b → FirstEntry before f.entries c → IsFirstRepeat core pick done twice → IsFirstRepeat core pick (done ++ m ∷ []) (option_or twice (file_repeat m.ino a b c))
first_repeat core pick done m f before (Some r) a b c read same x y z once =
    repeats_keep core pick done (m ∷ []) r.ino r.place once
first_repeat core pick done m f before None (Some n) b c read same x y z once =
    let pages_are : pages_of core m ≡ f.chain.index ++ f.chain.blocks = ap pages_in read in
    inr (page_repeats core done m n (rw pages_are (repeats_more (listed_pages core done) f.chain.index n f.chain.blocks x)))
first_repeat core pick done m f before None None (Some n) c read same x y z once =
    let pages_are : pages_of core m ≡ f.chain.index ++ f.chain.blocks = ap pages_in read in
    inr (page_repeats core done m n (rw pages_are (repeats_behind (listed_pages core done) f.chain.index f.chain.blocks n y)))
first_repeat core pick done m f before None None None (Some p) read same x y z once =
    inl (entry_repeats core pick done m f before p read same z)
first_repeat core pick done m f before None None None None read same x y z once =
    let L : List ℕ = listed_numbers core pick done in
    let P : List ℕ = listed_pages core done in
    let I : List ℕ = f.chain.index in
    let B : List ℕ = f.chain.blocks in
    let E : List ℕ = numbers_of f.entries in
    let kids_are : numbers (children core pick m) ≡ E = ap (λ r. numbers (children_in pick m.ino r)) read ∙ numbers_met pick m.ino f.entries in
    let pages_are : pages_of core m ≡ I ++ B = ap pages_in read in
    let old = and_parts (are_new (1 ∷ []) L) (are_new [] P) once in
    let L_more : listed_numbers core pick (done ++ m ∷ []) ≡ L ++ E =
    flat_map-append (λ (k : Met). numbers (children core pick k)) done (m ∷ []) ∙ ap (λ l. L ++ l) (append-nil (numbers (children core pick m)) ∙ kids_are) in
    let P_more : listed_pages core (done ++ m ∷ []) ≡ P ++ (I ++ B) =
    flat_map-append (pages_of core) done (m ∷ []) ∙ ap (λ l. P ++ l) (append-nil (pages_of core m) ∙ pages_are) in
    let new_numbers : are_new (1 ∷ []) (L ++ E) ≡ true =
    are_new-append (1 ∷ []) L E ∙ and_from (are_new (1 ∷ []) L) (are_new (1 ∷ L) E) old.0 (sym (are_new-same before (1 ∷ L) E same) ∙ z) in
    let new_pages : are_new [] (P ++ (I ++ B)) ≡ true =
    are_new-append [] P (I ++ B) ∙ and_from (are_new [] P) (are_new P (I ++ B)) old.1 (are_new-append P I B ∙ and_from (are_new P I) (are_new (P ++ I) B) x y) in
    and_from (are_new (1 ∷ []) (listed_numbers core pick (done ++ m ∷ []))) (are_new [] (listed_pages core (done ++ m ∷ []))) (ap (are_new (1 ∷ [])) L_more ∙ new_numbers) (ap (are_new []) P_more ∙ new_pages)

-- what is listed again is not listed once
pub repeats_not_once : (core : Core) (pick : Pick) (files : List Met) (ino : ℕ) (place : Location) → RepeatsAt core pick files ino place → are_listed_once core pick files ≡ false
repeats_not_once core pick files ino place (inl r) =
    let numbers_are : listed_numbers core pick files ≡ numbers r.earlier ++ r.again.ino ∷ numbers r.later =
    sym (numbers_listed core pick files) ∙ ap numbers r.order ∙ map-append (λ (x : Met). x.ino) r.earlier (r.again ∷ r.later) in
    ap (λ l. are_new (1 ∷ []) l && are_new [] (listed_pages core files)) numbers_are
    ∙ ap (λ b. b && are_new [] (listed_pages core files)) (repeat_not_new (1 ∷ []) (numbers r.earlier) r.again.ino (numbers r.later) r.seen)
repeats_not_once core pick files ino place (inr r) =
    let it : PageListing = record { ino = ino; page = r.again } in
    let page : PageListing → ℕ = λ l. l.page in
    let pages_are : listed_pages core files ≡ map page r.earlier ++ r.again ∷ map page r.later =
    sym (pages_listed core files) ∙ ap (map page) r.order ∙ map-append page r.earlier (it ∷ r.later) in
    ap (λ l. are_new (1 ∷ []) (listed_numbers core pick files) && are_new [] l) pages_are
    ∙ ap (λ b. are_new (1 ∷ []) (listed_numbers core pick files) && b) (repeat_not_new [] (map page r.earlier) r.again (map page r.later) r.seen)
    ∙ and-false (are_new (1 ∷ []) (listed_numbers core pick files))

in_fails : {X : Type 0} (q : X → Bool) (x : X) (xs : List X) → In x xs → q x ≡ false → list_all q xs ≡ false
in_fails q x [] i e = absurd i
in_fails q x (y ∷ ys) (inl s) e = ap (λ b. b && list_all q ys) (ap q (sym s) ∙ e)
in_fails q x (y ∷ ys) (inr i) e = ap (λ b. q y && b) (in_fails q x ys i e) ∙ and-false (q y)

-- where a rule fails, the survey isn't sound
pub fails_unsound : (core : Core) (pick : Pick) (rule ino : ℕ) (place : Location) → FailsAt core pick rule ino place → is_sound core pick ≡ false
fails_unsound core pick rule ino place (inl f) =
    let files : List Met = survey core pick in
    ap (λ b. b && are_listed_once core pick files) (in_fails (λ m. is_ok (file_of core m)) f.1.met files f.1.among (ap is_ok f.1.fault))
fails_unsound core pick rule ino place (inr f) =
    let files : List Met = survey core pick in
    and_right (are_in_grammar core files) (are_listed_once core pick files) (repeats_not_once core pick files ino place f.2)
