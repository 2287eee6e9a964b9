-- One entry more, and one file more.
use Rattle.trio_judge.proofs.Words.{◌++◌, ◌+◌, ◌<◌, ◌||◌, ◌∙◌, ◌∷◌, ◌≡◌, ◌≤◌, AreFound, AreOwn, BadEntry, Bool, Case, DirEntry, FaultAt, FileRead, In, In-cases, In-flat, In-is_among, In-left, In-map, In-right, IsForeign, IsReady, KeepRights, List, Listed, Listing, Lists, MatchOption, Met, None, Noted, Ok, Option, OwningFails, Owns, PlacesLeft, RightsFail, SameQueue, Some, Walk, [], all-push, and_from, ap, append-nil, append_assoc, are_new, are_new-append, arith, bundle_pages, cond, entry_in_grammar, entry_is_own, entry_keeps_rights, entry_listed, eqb, false, false≢true, file_in, file_keeps_rights, file_listed, file_met, files_of, filter, first_listed, flat_map, flat_map-append, get_or, get_or-In, get_or_default, inl, inr, is_among, is_among-In, is_among-push, is_new, is_some, length, length-append, length-map, list_all, list_all-append, listed_met, listed_seen, listing_of, map, map-In, map-append, map_push, mark_more, met_in, no_more, nowhere, numbers, option_map, option_map_or, option_or, own_numbers, pages_within, place_of, plain, refl, subst, sym, take, take_more, true, vec_len, writes_directory, ℕ}
use Rattle.std.proofs.Common.{vec_capacity, set}
use Rattle.std.specs.List.{find}
use Rattle.std.proofs.lemmas.List.{length-set}
use Rattle.trio_rights.specs.declared.kind.Kind.TheVariants.{Regular}
use Rattle.trio_lists.proofs.Marked.{are_new-push, is_among-append}
use Rattle.trio_layout.proofs.QueueLaws.{first_listed-append}
use Rattle.trio_layout.specs.Listing.{ListedEntry}
use Rattle.trio_judge.specs.inner.Walk.{IsListed, SameFindings}
use Rattle.trio_case.proofs.Counted.{place_some, place_within}
use Rattle.trio_judge.proofs.Faults.{entry_denied, entry_fault, file_denied}

-- ---- entries

pub owns_entry : (c : Case) (done es : List Met) (e : Met) → Owns c done es → entry_is_own c e ≡ true → is_among e.ino (numbers es) ≡ false → Owns c done (es ++ e ∷ [])
owns_entry c done es e o own new = record {
  pages = o.pages;
  pages_once = o.pages_once;
  entries = all-push (entry_is_own c) es e o.entries own;
  entries_once = ap (are_new []) (map_push (λ (m : Met). m.ino) es e) ∙ are_new-push [] (numbers es) e.ino ∙ rw (o.entries_once, new) refl;
}

abbrev pub RightsSo : Case → List Met → List Met → Option FaultAt → Type 0
RightsSo c done es rights = MatchOption rights (KeepRights c done es) (RightsFail c done es)

pub rights_entry : (c : Case) (done es : List Met) (e : Met) (rights : Option FaultAt) (keeps : Bool) → keeps ≡ entry_keeps_rights c e → RightsSo c done es rights → RightsSo c done (es ++ e ∷ []) (option_or rights (cond keeps None (Some (entry_fault e))))
rights_entry c done es e None true k r = record { files = r.files; entries = all-push (entry_keeps_rights c) es e r.entries (sym k) }
rights_entry c done es e None false k r = entry_denied c done es e (sym k)
rights_entry c done es e (Some p) keeps k r = λ rest more a b. r rest (e ∷ more) a (b ∙ append_assoc es (e ∷ []) more)

-- ---- files

pub owns_file : (c : Case) (done es : List Met) (m : Met) → Owns c done es → list_all (λ p. is_among p (bundle_pages c.bundle)) (pages_within c m) ≡ true → are_new (flat_map (pages_within c) done) (pages_within c m) ≡ true → Owns c (done ++ m ∷ []) es
owns_file c done es m o own new =
    let all : flat_map (pages_within c) (done ++ m ∷ []) ≡ flat_map (pages_within c) done ++ pages_within c m =
    flat_map-append (pages_within c) done (m ∷ []) ∙ ap (λ l. flat_map (pages_within c) done ++ l) (append-nil (pages_within c m)) in
    record {
      pages = rw all (list_all-append (λ p. is_among p (bundle_pages c.bundle)) (flat_map (pages_within c) done) (pages_within c m) ∙ and_from _ _ o.pages own);
      pages_once = rw all (are_new-append [] (flat_map (pages_within c) done) (pages_within c m) ∙ and_from _ _ o.pages_once new);
      entries = o.entries;
      entries_once = o.entries_once;
    }

pub rights_file : (c : Case) (done es : List Met) (m : Met) (rights : Option FaultAt) (keeps : Bool) → keeps ≡ file_keeps_rights c m (file_in c m) → RightsSo c done es rights → RightsSo c (done ++ m ∷ []) es (option_or rights (cond keeps None (Some (record { ino = m.ino; place = nowhere }))))
rights_file c done es m None true k r = record { files = all-push (λ m. file_keeps_rights c m (file_in c m)) done m r.files (sym k); entries = r.entries }
rights_file c done es m None false k r = file_denied c done es m (sym k)
rights_file c done es m (Some p) keeps k r = λ rest more a b. r (m ∷ rest) more (a ∙ append_assoc done (m ∷ []) rest) b

-- the index pages and then the blocks of a file
pub foreign_index : (own before index blocks : List ℕ) (page : ℕ) → IsForeign own before index page → IsForeign own before (index ++ blocks) page
foreign_index own before index blocks page f = record {
  earlier = f.earlier;
  later = f.later ++ blocks;
  order = ap (λ l. l ++ blocks) f.order ∙ append_assoc f.earlier (page ∷ f.later) blocks;
  fault = f.fault;
}

pub foreign_block : (own before index blocks : List ℕ) (page : ℕ) → IsForeign own (before ++ index) blocks page → IsForeign own before (index ++ blocks) page
foreign_block own before index blocks page f = record {
  earlier = index ++ f.earlier;
  later = f.later;
  order = ap (λ l. index ++ l) f.order ∙ sym (append_assoc index f.earlier (page ∷ f.later));
  fault = elim f.fault [ inl a ↦ inl a | inr b ↦ inr (ap (is_among page) (sym (append_assoc before index f.earlier)) ∙ b) ];
}

pub own_both : (own before index blocks : List ℕ) (marks marks' : List Bool) → AreOwn own before index marks → AreOwn own (before ++ index) blocks marks' → AreOwn own before (index ++ blocks) marks'
own_both own before index blocks marks marks' a b = record {
  own_all = list_all-append (λ p. is_among p own) index blocks ∙ and_from _ _ a.own_all b.own_all;
  new = are_new-append before index blocks ∙ and_from _ _ a.new b.new;
  marked = rw (← append_assoc before index blocks) b.marked;
}

-- what the listing of a file is
pub listed-file : (c : Case) (done es : List Met) (m : Met) (f : FileRead) → file_in c m ≡ Ok f → flat_map (λ m. file_listed m (file_in c m)) (done ++ m ∷ []) ≡ flat_map (λ m. file_listed m (file_in c m)) done ++ file_listed m (Ok f)
listed-file c done es m f e =
    flat_map-append (λ m. file_listed m (file_in c m)) done (m ∷ []) ∙ ap (λ l. flat_map (λ m. file_listed m (file_in c m)) done ++ l) (append-nil (file_listed m (file_in c m)) ∙ ap (file_listed m) e)

-- ---- one entry listed

-- an entry that is its own and names a new number
pub lists_entry : (c : Case) (done es : List Met) (e : Met) (w w' : Walk) (keeps : Bool) → Lists c done es w → entry_is_own c e ≡ true → is_among e.ino (numbers es) ≡ false → keeps ≡ entry_keeps_rights c e → w'.rights ≡ option_or w.rights (cond keeps None (Some (entry_fault e))) → w'.listing.listing ≡ record { held = w.listing.listing.held; files = w.listing.listing.files; entries = w.listing.listing.entries ++ entry_listed c e ∷ [] } → w'.pages ≡ w.pages → Lists c done (es ++ e ∷ []) w'
lists_entry c done es e w w' keeps l own new k r li pa = record {
  owns = owns_entry c done es e l.owns own new;
  rights = rw r (rights_entry c done es e w.rights keeps k l.rights);
  listing = li ∙ ap (λ (x : Listing). record { held = x.held; files = x.files; entries = x.entries ++ entry_listed c e ∷ [] }) l.listing ∙ ap (λ ys. record { held = (listing_of c done es).held; files = (listing_of c done es).files; entries = ys }) (sym (map_push (entry_listed c) es e));
  pages = rw pa l.pages;
}

-- the listing has a directory for just the numbers of its entries
entry_step : (here : Bool) (e : ListedEntry) (o : Option ListedEntry) → is_some (option_map (λ (x : ListedEntry). x.dir) (cond here (Some e) o)) ≡ (here || is_some (option_map (λ (x : ListedEntry). x.dir) o))
entry_step true e o = refl
entry_step false e o = refl

entries_named : (c : Case) (es : List Met) (n : ℕ) → is_some (option_map (λ (x : ListedEntry). x.dir) (find (λ (x : ListedEntry). eqb x.ino n) (map (entry_listed c) es))) ≡ is_among n (numbers es)
entries_named c [] n = refl
entries_named c (e ∷ es) n = entry_step (eqb e.ino n) (entry_listed c e) _ ∙ ap (λ b. eqb e.ino n || b) (entries_named c es n)

pub is_named : (c : Case) (done es : List Met) (w : Walk) (n : ℕ) → Lists c done es w → is_some (option_map (λ (x : ListedEntry). x.dir) (find (λ (x : ListedEntry). eqb x.ino n) w.listing.listing.entries)) ≡ is_among n (numbers es)
is_named c done es w n l = rw l.listing (entries_named c es n)

-- ---- a fault of I2 before

pub is_none_of : {X : Type 0} (o : Option X) → is_some o ≡ false → o ≡ None
is_none_of None e = refl
is_none_of (Some x) e = absurd (false≢true (sym e))

pub none_is : {X : Type 0} (o : Option X) → ((x : X) → o ≡ Some x → ⊥) → o ≡ None
none_is None h = refl
none_is (Some x) h = absurd (h x refl)

none_case : {X : Type 0} (A : Type 0) (B : X → Type 0) (o : Option X) → o ≡ None → MatchOption o A B → A
none_case A B None e h = h
none_case A B (Some x) e h = absurd cc

pub so_far : (c : Case) (done es : List Met) (w : Walk) → w.owning ≡ None → IsListed c done es w → Lists c done es w
so_far c done es w e l = none_case (Lists c done es w) (OwningFails c done es) w.owning e l

still_at : (c : Case) (done es : List Met) (w : Walk) (done' es' : List Met) (w' : Walk) (o : Option FaultAt) → is_some o ≡ true → ((p : FaultAt) → OwningFails c done es p → OwningFails c done' es' p) → MatchOption o (Lists c done es w) (OwningFails c done es) → MatchOption o (Lists c done' es' w') (OwningFails c done' es')
still_at c done es w done' es' w' None e h l = absurd (false≢true e)
still_at c done es w done' es' w' (Some p) e h l = h p l

-- it stays, whatever is found behind
pub entries_still : (c : Case) (done es xs : List Met) (w : Walk) → is_some w.owning ≡ true → IsListed c done es w → IsListed c done (es ++ xs) w
entries_still c done es xs w e l =
    still_at c done es w done (es ++ xs) w w.owning e (λ p h. λ rest more a b. h rest (xs ++ more) a (b ∙ append_assoc es xs more)) l

pub files_still : (c : Case) (done es ms : List Met) (w : Walk) → is_some w.owning ≡ true → IsListed c done es w → IsListed c (done ++ ms) es w
files_still c done es ms w e l =
    still_at c done es w (done ++ ms) es w w.owning e (λ p h. λ rest more a b. h (ms ++ rest) more (a ∙ append_assoc done ms rest) b) l

lists_same : (c : Case) (done es : List Met) (w w' : Walk) → SameFindings w w' → Lists c done es w → Lists c done es w'
lists_same c done es w w' s l = record {
  owns = l.owns;
  rights = rw s.rights l.rights;
  listing = rw s.listing l.listing;
  pages = rw s.pages l.pages;
}

same_at : (c : Case) (done es : List Met) (w w' : Walk) (o : Option FaultAt) → SameFindings w w' → MatchOption o (Lists c done es w) (OwningFails c done es) → MatchOption o (Lists c done es w') (OwningFails c done es)
same_at c done es w w' None s l = lists_same c done es w w' s l
same_at c done es w w' (Some p) s l = l

pub listed_same : (c : Case) (done es : List Met) (w w' : Walk) → SameFindings w w' → IsListed c done es w → IsListed c done es w'
listed_same c done es w w' s l =
    subst (λ o. MatchOption o (Lists c done es w') (OwningFails c done es)) (sym s.owning) (same_at c done es w w' w.owning s l)

-- ---- the queue

pub ready_same : (c : Case) (w w' : Walk) → SameQueue w w' → IsReady c w → IsReady c w'
ready_same c w w' s r = record {
  fit = r.fit;
  once = rw s.files r.once;
  own = rw s.files r.own;
  written = rw s.files r.written;
  found = rw (s.found, s.files) r.found;
  lists = rw s.files r.lists;
  places = rw s.files r.places;
  pages = s.pages ∙ r.pages;
  room = rw s.room r.room;
}

pub files_same : (w w' : Walk) → SameQueue w w' → files_of w' ≡ files_of w
files_same w w' s = rw s.files refl

-- ---- the file of an entry found

either_false : (a b : Bool) → (a || b) ≡ false → b ≡ false
either_false true b h = absurd (false≢true (sym h))
either_false false b h = h

-- the number of an entry is new, where it is one that a judged file may have, and no file with it was found
pub unfound_new : (c : Case) (w : Walk) (n at : ℕ) → IsReady c w → place_of n (own_numbers c) ≡ Some at → is_among n (numbers (files_of w)) ≡ false → is_among n c.bundle.numbers ≡ true
unfound_new c w n at r place unfound =
    elim (In-cases n (map (λ x. x.ino) c.bundle.writes) c.bundle.numbers (is_among-In n (own_numbers c) (sym (place_some n (own_numbers c)) ∙ ap is_some place))) [
      | inl written ↦ absurd (false≢true (sym unfound ∙ In-is_among n (numbers (files_of w)) (r.written n written)))
      | inr new ↦ In-is_among n c.bundle.numbers new
    ]

-- it isn't, where it is none that a judged file may have
pub unplaced_old : (c : Case) (n : ℕ) → place_of n (own_numbers c) ≡ None → is_among n c.bundle.numbers ≡ false
unplaced_old c n none =
    either_false (is_among n (map (λ x. x.ino) c.bundle.writes)) (is_among n c.bundle.numbers)
    (sym (is_among-append n (map (λ x. x.ino) c.bundle.writes) c.bundle.numbers) ∙ sym (place_some n (own_numbers c)) ∙ ap is_some none)

-- its mark
pub mark_at : (c : Case) (w : Walk) (n at : ℕ) → IsReady c w → place_of n (own_numbers c) ≡ Some at → get_or w.found.items at false ≡ is_among n (numbers (files_of w))
mark_at c w n at r place = ap (λ o. option_map_or (λ i. get_or w.found.items i false) o false) (sym place) ∙ r.found.each n

pub mark_within : (c : Case) (w : Walk) (n at : ℕ) → IsReady c w → place_of n (own_numbers c) ≡ Some at → at < length w.found.items
mark_within c w n at r place = omega (arith, place_within n at (own_numbers c) place, r.found.places)

found_more : (own : List ℕ) (marks : List Bool) (files : List ℕ) (n at : ℕ) → place_of n own ≡ Some at → AreFound own marks files → AreFound own (set marks at true) (files ++ n ∷ [])
found_more own marks files n at place f = record {
  places = length-set marks at true ∙ f.places;
  each = λ m. mark_more own marks n at place (omega (arith, place_within n at own place, f.places)) m ∙ ap (λ b. b || eqb n m) (f.each m) ∙ sym (is_among-push m n files);
}

-- the number of an entry that isn't new
pub find_old : (c : Case) (files : List Met) (e : Met) → is_new c e ≡ false → files ≡ files ++ first_listed (numbers files) (filter (is_new c) (e ∷ []))
find_old c files e h = rw h (sym (append-nil files))

pub find_again : (c : Case) (files : List Met) (e : Met) → is_among e.ino (numbers files) ≡ true → files ≡ files ++ first_listed (numbers files) (filter (is_new c) (e ∷ []))
find_again c files e h = by (is_new c e) refl
  where
    by : (b : Bool) → is_new c e ≡ b → files ≡ files ++ first_listed (numbers files) (filter (is_new c) (e ∷ []))
    by true n = rw (n, h) (sym (append-nil files))
    by false n = find_old c files e n

pub find_first : (c : Case) (files : List Met) (e : Met) → is_new c e ≡ true → is_among e.ino (numbers files) ≡ false → files ++ e ∷ [] ≡ files ++ first_listed (numbers files) (filter (is_new c) (e ∷ []))
find_first c files e n h = rw (n, h) refl

pub ready_more : (c : Case) (w w' : Walk) (e : Met) (at : ℕ) → IsReady c w → files_of w' ≡ files_of w ++ e ∷ [] → is_among e.ino (numbers (files_of w)) ≡ false → is_new c e ≡ true → place_of e.ino (own_numbers c) ≡ Some at → w'.found.items ≡ set w.found.items at true → vec_capacity w.files ≤ vec_capacity w'.files → vec_len w'.pages ≡ vec_len w.pages → w'.listing.room ≡ w.listing.room → writes_directory c ≡ true → IsReady c w'
ready_more c w w' e at r files unfound new place found places pages room lists =
    let all : numbers (files_of w') ≡ numbers (files_of w) ++ e.ino ∷ [] = ap numbers files ∙ map_push (λ (x : Met). x.ino) (files_of w) e in
    record {
      fit = r.fit;
      once = rw all (are_new-push [] (numbers (files_of w)) e.ino ∙ rw (r.once, unfound) refl);
      own = λ n i. elim (In-cases n (numbers (files_of w)) (e.ino ∷ []) (subst (λ l. In n l) all i)) [
        | inl before ↦ r.own n before
        | inr last ↦ elim last [ inl same ↦ subst (λ k. In k (own_numbers c)) (sym same) (In-right e.ino (map (λ x. x.ino) c.bundle.writes) c.bundle.numbers (is_among-In e.ino c.bundle.numbers new)) | inr none ↦ absurd none ]
      ];
      written = λ n i. subst (λ l. In n l) (sym all) (In-left n (numbers (files_of w)) (e.ino ∷ []) (r.written n i));
      found = rw (found, all) (found_more (own_numbers c) w.found.items (numbers (files_of w)) e.ino at place r.found);
      lists = λ m i d. lists;
      places = omega (arith, r.places, places);
      pages = pages ∙ r.pages;
      room = rw room r.room;
    }

-- there is a place for one file more
pub place_left : (c : Case) (w : Walk) (e : Met) → IsReady c w → is_among e.ino (numbers (files_of w)) ≡ false → is_new c e ≡ true → length w.files.items < vec_capacity w.files
place_left c w e r unfound new =
    let ns : List ℕ = numbers (files_of w) in
    let once : are_new [] (ns ++ e.ino ∷ []) ≡ true = are_new-push [] ns e.ino ∙ rw (r.once, unfound) refl in
    let own : (n : ℕ) → In n (ns ++ e.ino ∷ []) → In n (own_numbers c) =
    λ n i. elim (In-cases n ns (e.ino ∷ []) i) [
      | inl before ↦ r.own n before
      | inr last ↦ elim last [ inl same ↦ subst (λ k. In k (own_numbers c)) (sym same) (In-right e.ino (map (λ x. x.ino) c.bundle.writes) c.bundle.numbers (is_among-In e.ino c.bundle.numbers new)) | inr none ↦ absurd none ]
    ] in
    let few = no_more (ns ++ e.ino ∷ []) (own_numbers c) once own in
    omega (arith, few, r.places, length-append ns (e.ino ∷ []), length-map (files_of w) (λ (m : Met). m.ino), length-map w.files.items file_met)

pub bad_entry : (c : Case) (e : Met) → entry_in_grammar c e ≡ false → BadEntry c (e ∷ []) (entry_fault e)
bad_entry c e h = (e, inl refl, refl, refl, refl, h)

pub noted_entry : (c : Case) (e : Met) (w w' w'' : Walk) → entry_in_grammar c e ≡ true → ((done es : List Met) → IsListed c done es w → IsListed c done (es ++ e ∷ []) w') → SameQueue w w' → ((n : ℕ) → PlacesLeft (n + 1) w → PlacesLeft n w') → files_of w'' ≡ files_of w' ++ first_listed (numbers (files_of w')) (filter (is_new c) (e ∷ [])) → IsReady c w'' → SameFindings w' w'' → Noted c (e ∷ []) w w''
noted_entry c e w w' w'' good lists same places grows ready found = record {
  stands = λ done es s. record {
    read = s.read;
    grammar = all-push (entry_in_grammar c) es e s.grammar good;
    listed = listed_same c done (es ++ e ∷ []) w' w'' found (lists done es s.listed);
  };
  grows = subst (λ fs. files_of w'' ≡ fs ++ first_listed (numbers fs) (filter (is_new c) (e ∷ []))) (files_same w w' same) grows;
  ready = ready;
  places = λ n h none.
      let one : n + 1 ≡ 1 + n = omega arith in
      rw found.listing (places n (rw one h) (sym found.owning ∙ none));
}

-- ---- several entries

pub places_fewer : (m n : ℕ) (w : Walk) → m ≤ n → PlacesLeft n w → PlacesLeft m w
places_fewer m n w l h = λ none. omega (arith, l, h none)

pub noted_none : (c : Case) (w : Walk) → IsReady c w → Noted c [] w w
noted_none c w r = record {
  stands = λ done es s. rw (append-nil es) s;
  grows = sym (append-nil (files_of w));
  ready = r;
  places = λ n h. places_fewer n (0 + n) w (omega arith) h;
}

filter-append : (c : Case) (xs ys : List Met) → filter (is_new c) (xs ++ ys) ≡ filter (is_new c) xs ++ filter (is_new c) ys
filter-append c [] ys = refl
filter-append c (x ∷ xs) ys = step (is_new c x) (filter-append c xs ys)
  where
    step : (b : Bool) → filter (is_new c) (xs ++ ys) ≡ filter (is_new c) xs ++ filter (is_new c) ys → cond b (x ∷ filter (is_new c) (xs ++ ys)) (filter (is_new c) (xs ++ ys)) ≡ cond b (x ∷ filter (is_new c) xs) (filter (is_new c) xs) ++ filter (is_new c) ys
    step true h = ap (λ l. x ∷ l) h
    step false h = h

grown : (c : Case) (a b d xs ys : List Met) → b ≡ a ++ first_listed (numbers a) (filter (is_new c) xs) → d ≡ b ++ first_listed (numbers b) (filter (is_new c) ys) → d ≡ a ++ first_listed (numbers a) (filter (is_new c) (xs ++ ys))
grown c a b d xs ys e f =
    let new : List Met = first_listed (numbers a) (filter (is_new c) xs) in
    let more = first_listed-append (numbers a) (filter (is_new c) xs) (filter (is_new c) ys) in
    let nb : numbers b ≡ numbers a ++ numbers new = ap numbers e ∙ map-append (λ (m : Met). m.ino) a new in
    f ∙ rw (nb, e) (append_assoc a new _)
    ∙ ap (λ l. a ++ l) (sym more) ∙ ap (λ l. a ++ first_listed (numbers a) l) (sym (filter-append c xs ys))

pub noted_append : (c : Case) (xs ys : List Met) (w w' w'' : Walk) → Noted c xs w w' → Noted c ys w' w'' → Noted c (xs ++ ys) w w''
noted_append c xs ys w w' w'' a b = record {
  stands = λ done es s. rw (← append_assoc es xs ys) (b.stands done (es ++ xs) (a.stands done es s));
  grows = grown c (files_of w) (files_of w') (files_of w'') xs ys a.grows b.grows;
  ready = b.ready;
  places = λ n h.
      let e : length (xs ++ ys) + n ≡ length xs + (length ys + n) = omega (arith, length-append xs ys) in
      b.places n (a.places (length ys + n) (rw e at h));
}

pub bad_among : (c : Case) (xs ys : List Met) (p : FaultAt) → ((e : Met) → In e xs → In e ys) → BadEntry c xs p → BadEntry c ys p
bad_among c xs ys p h b = (b.0, h b.0 b.1, b.2, b.3, b.4, b.5)

-- ---- the entries of a block, and of several

-- the entry that stands where none does
abbrev pub blank : DirEntry
blank = record { ino = 0; name = 0; page = 0; slot = 0; kind = Regular; body = [] }

pub block_at : (i : ℕ) (es : List DirEntry) → i < length es → get_or es i (get_or es i blank) ≡ get_or es i blank
block_at i es h = get_or_default es i (get_or es i blank) blank h

pub block_more : (d i : ℕ) (es : List DirEntry) (x : DirEntry) → i < length es → get_or es i x ≡ x → map (listed_met d) (take (i + 1) es) ≡ map (listed_met d) (take i es) ++ listed_met d x ∷ []
block_more d i es x h at =
    ap (map (listed_met d)) (take_more es i x h ∙ ap (λ y. take i es ++ y ∷ []) at) ∙ map_push (listed_met d) (take i es) x

pub block_len : (d : ℕ) (es : List DirEntry) → length (map (listed_met d) es) ≡ length es
block_len d es = length-map es (listed_met d)

pub block_has : (d i : ℕ) (es : List DirEntry) (x : DirEntry) → i < length es → get_or es i x ≡ x → In (listed_met d x) (map (listed_met d) es)
block_has d i es x h at = In-map (listed_met d) x es (subst (λ y. In y es) at (get_or-In es i x h))

-- what the entries of a block list, whatever their names are
pub listed_is : (d : ℕ) (names : List (List ℕ)) (es : List DirEntry) → map (listed_met d) es ≡ map (met_in plain d) (map (listed_seen names) es)
listed_is d names [] = refl
listed_is d names (e ∷ es) = ap (λ ms. listed_met d e ∷ ms) (listed_is d names es)

pub entries_more : (f : ℕ → List Listed) (d i : ℕ) (bs : List ℕ) → i < length bs → map (met_in plain d) (flat_map f (take (i + 1) bs)) ≡ map (met_in plain d) (flat_map f (take i bs)) ++ map (met_in plain d) (f (get_or bs i 0))
entries_more f d i bs h =
    ap (λ l. map (met_in plain d) (flat_map f l)) (take_more bs i 0 h)
    ∙ ap (map (met_in plain d)) (flat_map-append f (take i bs) (get_or bs i 0 ∷ []) ∙ ap (λ l. flat_map f (take i bs) ++ l) (append-nil (f (get_or bs i 0))))
    ∙ map-append (met_in plain d) (flat_map f (take i bs)) (f (get_or bs i 0))

pub entries_have : (f : ℕ → List Listed) (d i : ℕ) (bs : List ℕ) (e : Met) → i < length bs → In e (map (met_in plain d) (f (get_or bs i 0))) → In e (map (met_in plain d) (flat_map f bs))
entries_have f d i bs e h k =
    let l = map-In (met_in plain d) e (f (get_or bs i 0)) k in
    subst (λ x. In x (map (met_in plain d) (flat_map f bs))) (sym l.2) (In-map (met_in plain d) l.0 (flat_map f bs) (In-flat f (get_or bs i 0) l.0 bs (get_or-In bs i 0 h) l.1))
