-- One file passed.
use Rattle.trio_judge.proofs.Words.{◌*◌, ◌++◌, ◌+◌, ◌<◌, ◌∙◌, ◌∷◌, ◌≡◌, ◌≤◌, BadEntry, BreaksGrammar, Case, Err, FaultAt, In, In-flat, IsPassed, IsQueued, IsReady, List, Listing, Location, Met, Noted, Ok, PlacesLeft, Result, SameQueue, Stands, Walk, [], ap, append-nil, arith, bundle_pages, drop, drop_more, entries_in, entry_listed, file_in, files_of, filter, first_listed, flat_map, flat_map-append, get_or, get_or-In, inl, inr, is_directory, is_new, length, length-append, length-map, length-take-le, new_entries, no_more, numbers, own_numbers, refl, subst, suc, sym, take, take-append-drop, take_more, true, writes_directory, written_files, ℕ}
use Rattle.std.specs.Prelude.{IfErr, OnOk}
use Rattle.std.proofs.lemmas.List.{drop-append-le, take-append-le}
use Rattle.trio_layout.specs.Survey.{Front}
use Rattle.trio_layout.specs.JudgedFiles.{judged_files}
use Rattle.trio_layout.proofs.QueueLaws.{pass_many}
use Rattle.trio_layout.proofs.Walks.{pass_many-more, pigeons, waiting_in_fronts}
use Rattle.trio_judge.specs.inner.Walk.{IsOnWay}
use Rattle.trio_judge.proofs.Listings.{entries_few, pages_few}
use Rattle.trio_judge.proofs.Noting.{files_same, so_far}

pub few_files : (c : Case) (w : Walk) → IsReady c w → length (files_of w) ≤ length (own_numbers c)
few_files c w r = omega (arith, no_more (numbers (files_of w)) (own_numbers c) r.once r.own, length-map (files_of w) (λ (m : Met). m.ino))

pub short : (c : Case) (w : Walk) → IsReady c w → length (files_of w) ≤ c.inodes + 1
short c w r =
    omega (arith, pigeons (c.inodes + 1) (numbers (files_of w)) r.once (λ n i. r.fit n (r.own n i)), length-map (files_of w) (λ (m : Met). m.ino))

-- the files passed with this one
pub taken : (fs : List Met) (at : ℕ) (m : Met) → at < length fs → get_or fs at m ≡ m → take (at + 1) fs ≡ take at fs ++ m ∷ []
taken fs at m h e = take_more fs at m h ∙ ap (λ x. take at fs ++ x ∷ []) e

waiting : (fs : List Met) (at : ℕ) (m : Met) → at < length fs → get_or fs at m ≡ m → drop at fs ≡ m ∷ drop (at + 1) fs
waiting fs at m h e = drop_more fs at m h ∙ ap (λ x. x ∷ drop (at + 1) fs) e

pub is_judged : (c : Case) (at : ℕ) (w : Walk) (m : Met) → IsQueued c at w → IsReady c w → at < length (files_of w) → get_or (files_of w) at m ≡ m → In m (judged_files c)
unfolding judged_files
is_judged c at w m q r h e =
    let fs : List Met = files_of w in
    waiting_in_fronts (new_entries c) (written_files c) (suc c.inodes) at (take at fs) m (drop (at + 1) fs)
    (q.queued ∙ ap (λ l. record { passed = take at fs; level = l }) (waiting fs at m h e))
    (omega (arith, h, short c w r))

-- a file that leaves the grammar
pub file_breaks : (c : Case) (m : Met) (place : Location) → In m (judged_files c) → file_in c m ≡ Err place → BreaksGrammar c m.ino place
file_breaks c m place i e = inl (m, record { among = i; number = refl }, e)

-- an entry with a body that does
pub entry_breaks : (c : Case) (m : Met) (p : FaultAt) → In m (judged_files c) → BadEntry c (entries_in c m) p → BreaksGrammar c p.ino p.place
entry_breaks c m p i b =
    inr (b.0, record { among = In-flat (entries_in c) m b.0 (judged_files c) i b.1; directory = b.2; page = b.3; slot = b.4 }, b.5)

pub on_way : (c : Case) (at : ℕ) (w : Walk) (m : Met) → IsPassed c at w → IsReady c w → at < length (files_of w) → IsOnWay c m w
on_way c at w m p r h = record {
  done = take at (files_of w);
  es = flat_map (entries_in c) (take at (files_of w));
  stands = p;
  few = omega (arith, h, few_files c w r, length-take-le at (files_of w) (omega (arith, h)));
}

-- a directory among the files found, which is there only where one is written
pub directory_found : (c : Case) (at : ℕ) (w : Walk) (m : Met) → IsReady c w → at < length (files_of w) → get_or (files_of w) at m ≡ m → is_directory m.kind ≡ true → writes_directory c ≡ true
directory_found c at w m r h e d = r.lists m (subst (λ x. In x (files_of w)) e (get_or-In (files_of w) at m h)) d

-- its entries have a place in the listing
pub entries_place : (c : Case) (done es : List Met) (m : Met) (w w' : Walk) → IsReady c w → writes_directory c ≡ true → SameQueue w w' → es ≡ flat_map (entries_in c) done → Stands c (done ++ m ∷ []) es w' → PlacesLeft (length (entries_in c m)) w'
entries_place c done es m w w' r lists same is s = λ none.
    let l = so_far c (done ++ m ∷ []) es w' none s.listed in
    let few = pages_few c (done ++ m ∷ []) es l.owns in
    let all = entries_few c (done ++ m ∷ []) in
    let both : length (flat_map (entries_in c) (done ++ m ∷ [])) ≡ length es + length (entries_in c m) =
    ap length (flat_map-append (entries_in c) done (m ∷ []) ∙ ap (λ l. flat_map (entries_in c) done ++ l) (append-nil (entries_in c m))) ∙ length-append (flat_map (entries_in c) done) (entries_in c m) ∙ ap (λ l. length l + length (entries_in c m)) (sym is) in
    let so = ap (λ (x : Listing). length x.entries) l.listing ∙ length-map es (entry_listed c) in
    let room : 16 * length (bundle_pages c.bundle) ≤ w'.listing.room.entries = rw same.room (r.room.entries lists) in
    omega (arith, few, all, both, so, room)

-- ---- the queue

passes : (c : Case) (at : ℕ) (fs : List Met) (m : Met) → pass_many (new_entries c) at (record { passed = []; level = written_files c }) ≡ record { passed = take at fs; level = drop at fs } → at < length fs → get_or fs at m ≡ m → pass_many (new_entries c) (at + 1) (record { passed = []; level = written_files c }) ≡ record { passed = take at fs ++ m ∷ []; level = drop (at + 1) fs ++ first_listed (numbers fs) (new_entries c m) }
passes c at fs m q h e =
    let start : Front = record { passed = []; level = written_files c } in
    let whole : take at fs ++ m ∷ drop (at + 1) fs ≡ fs = ap (λ l. take at fs ++ l) (sym (waiting fs at m h e)) ∙ take-append-drop at fs in
    sym (pass_many-more (new_entries c) at 1 start)
    ∙ ap (pass_many (new_entries c) 1) (q ∙ ap (λ l. record { passed = take at fs; level = l }) (waiting fs at m h e))
    ∙ ap (λ l. record { passed = take at fs ++ m ∷ []; level = drop (at + 1) fs ++ first_listed (numbers l) (new_entries c m) }) whole

pub queued_more : (c : Case) (at : ℕ) (w w' : Walk) (m : Met) → IsQueued c at w → at < length (files_of w) → get_or (files_of w) at m ≡ m → files_of w' ≡ files_of w ++ first_listed (numbers (files_of w)) (filter (is_new c) (entries_in c m)) → IsQueued c (at + 1) w'
queued_more c at w w' m q h e g =
    let fs : List Met = files_of w in
    let new : List Met = first_listed (numbers fs) (filter (is_new c) (entries_in c m)) in
    let l : at + 1 ≤ length fs = omega (arith, h) in
    let t : take (at + 1) (files_of w') ≡ take at fs ++ m ∷ [] = ap (take (at + 1)) g ∙ take-append-le (at + 1) fs new l ∙ taken fs at m h e in
    let d : drop (at + 1) (files_of w') ≡ drop (at + 1) fs ++ new = ap (drop (at + 1)) g ∙ drop-append-le (at + 1) fs new l in
    record {
      inside = omega (arith, l, ap length g, length-append fs new);
      queued = passes c at fs m q.queued h e ∙ ap (λ p. record { passed = p; level = drop (at + 1) fs ++ new }) (sym t) ∙ ap (λ p. record { passed = take (at + 1) (files_of w'); level = p }) (sym d);
    }

-- the files passed with this one, and their entries
pub passed_more : (c : Case) (at : ℕ) (w w' : Walk) (m : Met) → at < length (files_of w) → get_or (files_of w) at m ≡ m → files_of w' ≡ files_of w ++ first_listed (numbers (files_of w)) (filter (is_new c) (entries_in c m)) → Stands c (take at (files_of w) ++ m ∷ []) (flat_map (entries_in c) (take at (files_of w)) ++ entries_in c m) w' → IsPassed c (at + 1) w'
passed_more c at w w' m h e g s =
    let fs : List Met = files_of w in
    let new : List Met = first_listed (numbers fs) (filter (is_new c) (entries_in c m)) in
    let l : at + 1 ≤ length fs = omega (arith, h) in
    let t : take (at + 1) (files_of w') ≡ take at fs ++ m ∷ [] = ap (take (at + 1)) g ∙ take-append-le (at + 1) fs new l ∙ taken fs at m h e in
    let es : flat_map (entries_in c) (take at fs ++ m ∷ []) ≡ flat_map (entries_in c) (take at fs) ++ entries_in c m =
    flat_map-append (entries_in c) (take at fs) (m ∷ []) ∙ ap (λ l. flat_map (entries_in c) (take at fs) ++ l) (append-nil (entries_in c m)) in
    subst (λ ms. Stands c ms (flat_map (entries_in c) ms) w') (sym t) (subst (λ xs. Stands c (take at fs ++ m ∷ []) xs w') (sym es) s)

-- ---- the file noted, and then its entries

pub on_ok_then : {X E : Type 0} {A B : Type 0} (r : Result X E) → (A → B) → OnOk r A → OnOk r B
on_ok_then (Ok x) f h = f h
on_ok_then (Err e) f h = tt

pub if_err_then : {X E : Type 0} {A B : E → Type 0} (r : Result X E) → ((e : E) → A e → B e) → IfErr r A → IfErr r B
if_err_then (Ok x) f h = tt
if_err_then (Err e) f h = f e h

module _ (c : Case) (at : ℕ) (w w' : Walk) (m : Met) (q : IsQueued c at w) (r : IsReady c w) (inside : at < length (files_of w)) (here : get_or (files_of w) at m ≡ m) (same : SameQueue w w') (s : Stands c (take at (files_of w) ++ m ∷ []) (flat_map (entries_in c) (take at (files_of w))) w') where
  grown_same : (fs : List Met) → fs ≡ files_of w' ++ first_listed (numbers (files_of w')) (filter (is_new c) (entries_in c m)) → fs ≡ files_of w ++ first_listed (numbers (files_of w)) (filter (is_new c) (entries_in c m))
  grown_same fs g = subst (λ old. fs ≡ old ++ first_listed (numbers old) (filter (is_new c) (entries_in c m))) (files_same w w' same) g

  no_entries : entries_in c m ≡ [] → files_of w' ≡ files_of w' ++ first_listed (numbers (files_of w')) (filter (is_new c) (entries_in c m))
  no_entries e = rw e (sym (append-nil (files_of w')))

  pub regular_queued : entries_in c m ≡ [] → IsQueued c (at + 1) w'
  regular_queued e = queued_more c at w w' m q inside here (grown_same (files_of w') (no_entries e))

  pub regular_passed : entries_in c m ≡ [] → IsPassed c (at + 1) w'
  regular_passed e =
      passed_more c at w w' m inside here (grown_same (files_of w') (no_entries e))
      (rw e (subst (λ xs. Stands c (take at (files_of w) ++ m ∷ []) xs w') (sym (append-nil (flat_map (entries_in c) (take at (files_of w))))) s))

  pub directory_queued : (w'' : Walk) → Noted c (entries_in c m) w' w'' → IsQueued c (at + 1) w''
  directory_queued w'' n = queued_more c at w w'' m q inside here (grown_same (files_of w'') n.grows)

  pub directory_passed : (w'' : Walk) → Noted c (entries_in c m) w' w'' → IsPassed c (at + 1) w''
  directory_passed w'' n =
      passed_more c at w w'' m inside here (grown_same (files_of w'') n.grows) (n.stands (take at (files_of w) ++ m ∷ []) (flat_map (entries_in c) (take at (files_of w))) s)
