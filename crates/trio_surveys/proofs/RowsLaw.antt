-- Over a core with rows: the survey meets just the live numbers exactly where the rows say all that is listed.
use Rattle.trio_surveys.proofs.Words.{◌++◌, ◌+◌, ◌<◌, ◌∙◌, ◌∷◌, ◌≡◌, ◌≤◌, Bool, Core, Front, Image, In, In-flat, IsFit, List, Met, None, Option, Pick, Reaches, Row, Some, Verifies, [], ap, are_new, are_new-before, are_new-fewer, arith, body_at_place, body_by_row, cases_eq, cases_lt, children, climbs, cond, eq-eqb, eqb, eqb-true, false≢true, file_of, flat_map, flat_map-In, get_or, get_or-set_other, inl, inr, is_ok, is_some, is_sound, length, levels, list_all-In, list_all-each, listed_numbers, map-In, ne_eqb, new_beside, numbers, numbers-flat, option_map_or, or_cases, or_right, pages_of, plain, refl, root_of, row_by, row_of, set, settled_body, subst, suc, survey, sym, tabulated-length, true, zero, ℕ}
use Rattle.std.proofs.lemmas.List.{get_or_past, length-map}
use Rattle.std.proofs.lemmas.List.Sums.{sum_by-set}
use Rattle.std.specs.List.{count_by}
use Rattle.trio_rights.specs.Row.{row_in}
use Rattle.trio_lists.proofs.Counting.{count_from, count_in}
use Rattle.trio_lists.proofs.Filters.{some_one}
use Rattle.trio_lists.proofs.Gathered.{each_new, new_spread, new_tail, one_of}
use Rattle.trio_lists.specs.Counting.{count_up}
use Rattle.trio_layout.proofs.QueueLaws.{levels_enough}
use Rattle.trio_layout.specs.Edges.{row_parent}
use Rattle.trio_layout.specs.Sound.{listings}
use Rattle.trio_surveys.proofs.Climbing.{climbs_more}
use Rattle.trio_surveys.proofs.Images.{MetAt, TablesOf, met_numbered, met_row, read_met, root_is_met, row_at_is, row_met, same_met, settled_body_met, some_of}
use Rattle.trio_surveys.proofs.Owned.{sound_parts}
use Rattle.trio_surveys.proofs.Reached.{child_body, child_met, child_parent, level_down, level_of, met_cases, no_root_listed, passed_new, reached_met, root_met, survey_reached}
use Rattle.trio_surveys.proofs.Sharing.{Shares, sound_by, survey_keeps}
use Rattle.trio_surveys.specs.Rows.{HasRows, IsAtRow, ListsRows, MeetsRows, RowsAreSurvey, VerifiedHasRows, file_at_row, live_at, live_files}

pub row_there : (rows : List (Option Row)) (n : ℕ) → is_some (row_in rows n) ≡ true → n < length rows
row_there rows n e = search (arith, cases_lt, false≢true, get_or_past)

-- distinct live numbers are no more than there are live numbers
pub live_many : (rows : List (Option Row)) (xs : List ℕ) → are_new [] xs ≡ true → ((x : ℕ) → In x xs → is_some (row_in rows x) ≡ true) → length xs ≤ count_by is_some rows
live_many rows [] new live = omega arith
live_many rows (x ∷ xs) new live =
    let t = new_tail x xs new in
    let here : is_some (get_or rows x None) ≡ true = live x (inl refl) in
    let l : x < length rows = row_there rows x here in
    let ih : length xs ≤ count_by is_some (set rows x None) =
    live_many (set rows x None) xs t.1
    (λ y i. ap is_some (get_or-set_other rows x y None None (λ e. are_new-before y (x ∷ []) xs t.0 i (inl e))) ∙ live y (inr i)) in
    let s = sum_by-set (λ (o : Option Row). cond (is_some o) 1 0) rows x None None l in
    let weigh : Bool → ℕ = λ b. cond b 1 0 in
    let one : weigh (is_some (get_or rows x None)) ≡ weigh true = ap weigh here in
    omega (arith, ih, s, one)

pub met_same : (m x : Met) → m.ino ≡ x.ino → m.kind ≡ x.kind → m.parent ≡ x.parent → m.page ≡ x.page → m.slot ≡ x.slot → m.body ≡ x.body → m ≡ x
met_same m x ino kind parent page slot body = search arith

module _ (core : Core) (pick : Pick) (rows : List (Option Row)) where
  live_from_at : (n : ℕ) (o : Option Row) (m : Met) → row_in rows n ≡ o → In m (live_at core pick n o) → (r : Row) × (row_in rows n ≡ Some r) × (m ≡ file_at_row core pick n r)
  live_from_at n o m e h = search arith

  pub live_from : (m : Met) → In m (live_files core pick rows) → (r : Row) × (row_in rows m.ino ≡ Some r) × (m ≡ file_at_row core pick m.ino r)
  live_from m i = search (arith, flat_map-In, live_from_at)

  live_new_step : (n : ℕ) (o : Option Row) (rest : List Met) → ((p : ℕ) → In p (numbers rest) → suc n ≤ p) → are_new [] (numbers rest) ≡ true → are_new [] (numbers (live_at core pick n o ++ rest)) ≡ true
  live_new_step n None rest high new = new
  live_new_step n (Some r) rest high new =
      new_beside (n ∷ []) (numbers rest) new
      (λ p i e. elim e [
        | inl s ↦ let l = high p i in omega (arith, l, s)
        | inr no' ↦ no'
      ])

  live_new_from : (from k : ℕ) → are_new [] (numbers (flat_map (λ n. live_at core pick n (row_in rows n)) (count_up from k))) ≡ true
  live_new_from from zero = refl
  live_new_from from (suc k) =
      live_new_step from (row_in rows from) (flat_map (λ n. live_at core pick n (row_in rows n)) (count_up (suc from) k))
      (λ p i.
      let q = map-In (λ (m : Met). m.ino) p _ i in
      let r = flat_map-In (λ n. live_at core pick n (row_in rows n)) q.0 (count_up (suc from) k) q.1 in
      let s = live_from_at r.0 (row_in rows r.0) q.0 refl r.2 in
      let n : q.0.ino ≡ r.0 = ap (λ (x : Met). x.ino) s.2 in
      let b = count_from (suc from) k r.0 r.1 in
      let low : suc from ≤ r.0 = b.0 in
      let is : p ≡ q.0.ino = q.2 in
      omega (arith, low, n, is))
      (live_new_from (suc from) k)

  pub live_new : are_new [] (numbers (live_files core pick rows)) ≡ true
  live_new = live_new_from 1 core.inodes

module _ (core : Core) (pick : Pick) (rows : List (Option Row)) (one : 1 ≤ core.inodes) (h : HasRows core pick rows) where
  abbrev L : List Met
  L = live_files core pick rows

  abbrev at : ℕ → Row → Met
  at n r = file_at_row core pick n r

  row_bounds : (n : ℕ) (r : Row) → row_in rows n ≡ Some r → (1 ≤ n) × (n < 1 + core.inodes)
  row_bounds n r e =
      let low : (n ≡ 0) → ⊥ = λ z. (let wrong : None ≡ Some r = sym h.none ∙ ap (row_in rows) (sym z) ∙ e in absurd cc) in
      let many = h.many in
      let inside : n < length rows = there rows n r e in
      elim (cases_eq n 0) [
        | inl z ↦ absurd (low z)
        | inr d ↦ let a : 1 ≤ n = omega (arith, d) in let b : n < 1 + core.inodes = omega (arith, inside, many) in (a, b)
      ]
    where
      there : (rs : List (Option Row)) (n : ℕ) (r : Row) → get_or rs n None ≡ Some r → n < length rs
      there [] n r e = absurd cc
      there (x ∷ rs) zero r e = omega arith
      there (x ∷ rs) (suc n) r e = let l = there rs n r e in omega (arith, l)

  in_live : (n : ℕ) (r : Row) → row_in rows n ≡ Some r → In (at n r) L
  in_live n r e =
      let b = row_bounds n r e in
      let here : In (at n r) (live_at core pick n (row_in rows n)) = subst (λ o. In (at n r) (live_at core pick n o)) (sym e) (inl refl) in
      In-flat (λ n. live_at core pick n (row_in rows n)) n (at n r) (count_up 1 core.inodes) (count_in 1 core.inodes n b.0 b.1) here

  root_at : at 1 h.root ≡ root_of core
  root_at = met_same (at 1 h.root) (root_of core) refl h.root_kind h.root_parent h.root_page h.root_slot refl

  root_live : In (root_of core) L
  root_live = subst (λ m. In m L) root_at (in_live 1 h.root h.root_row)

  listings_new : are_new [] (listed_numbers core pick L) ≡ true → are_new [] (numbers (listings core pick L)) ≡ true
  listings_new o = ap (are_new []) (numbers-flat (children core pick) L) ∙ o

  -- a file that is listed where its row says is the row's file
  listed_at_row : (m c : Met) (r : Row) → In m L → In c (children core pick m) → row_in rows c.ino ≡ Some r → (c.ino ≡ 1 → ⊥) → IsAtRow c c.ino r → c ≡ at c.ino r
  listed_at_row m c r i j e not_one a =
      let listed : In c (listings core pick L) = In-flat (children core pick) m c L i j in
      let kind = h.kinds c r listed e a.parent a.page a.slot in
      let body : c.body ≡ (at c.ino r).body =
      child_body core pick m c j
      ∙ ap (λ p. pick p c.page c.slot c.ino (body_at_place core c.page c.slot)) a.parent
      ∙ ap (λ p. pick r.parent p c.slot c.ino (body_at_place core p c.slot)) a.page
      ∙ ap (λ p. pick r.parent r.page p c.ino (body_at_place core r.page p)) a.slot
      ∙ sym (ap (λ b. cond b core.root (pick r.parent r.page r.slot c.ino (body_at_place core r.page r.slot))) (ne_eqb c.ino 1 not_one)) in
      met_same c (at c.ino r) refl kind a.parent a.page a.slot body

  -- ---- what the rows list gives the survey
  module _ (b : ListsRows core pick rows) where
    listed_once : (c x : Met) → In c (listings core pick L) → In x (listings core pick L) → c.ino ≡ x.ino → c ≡ x
    listed_once c x i j e = same_met (listings core pick L) c x (listings_new b.once) i j e

    down_live : (m c : Met) → In m L → In c (children core pick m) → In c L
    down_live m c i j =
        let listed : In c (listings core pick L) = In-flat (children core pick) m c L i j in
        let n = b.nothing_else c listed in
        let r = some_of (row_in rows c.ino) n.1 in
        let l = b.listed c.ino r.0 r.1 n.0 in
        let same : c ≡ l.0 = listed_once c l.0 listed l.1 (sym l.2.number) in
        let P : Met → Type 0 = λ x. IsAtRow x c.ino r.0 in
        let a : IsAtRow c c.ino r.0 = subst P (sym same) l.2 in
        subst (λ x. In x L) (sym (listed_at_row m c r.0 i j r.1 n.0 a)) (in_live c.ino r.0 r.1)

    shares : Shares core pick (λ m. In m L)
    shares = record {
      root = root_live;
      down = down_live;
      reads = λ m i. list_all-In (λ m. is_ok (file_of core m)) m L h.grammar i;
      pages = λ m i. each_new (pages_of core) L m h.pages_once i;
      paged = λ m x p i j a c. ap (λ (y : Met). y.ino) (one_of (pages_of core) L m x p h.pages_once i j a c);
      names = λ m i. each_new (λ m. numbers (children core pick m)) L m b.once i;
      named = λ m x n i j a c. ap (λ (y : Met). y.ino) (one_of (λ m. numbers (children core pick m)) L m x n b.once i j a c);
      no_root = λ m c i j. (b.nothing_else c (In-flat (children core pick) m c L i j)).0;
    }

    sound_now : is_sound core pick ≡ true
    sound_now = sound_by core pick (λ m. In m L) shares

    climb_root : (n : ℕ) (r : Row) → row_in rows n ≡ Some r → n ≡ 1 → In (at n r) (survey core pick)
    climb_root n r e is = search (arith, some_one, root_at, root_met, sound_now)

    climb_above : (n : ℕ) (r : Row) → row_in rows n ≡ Some r → (n ≡ 1 → ⊥) → ((p : ℕ) (q : Row) → row_in rows p ≡ Some q → row_parent rows n ≡ p → In (at p q) (survey core pick)) → In (at n r) (survey core pick)
    climb_above n r e not_one above =
        let l = b.listed n r e not_one in
        let m : Met = l.0 in
        let q = flat_map-In (children core pick) m L l.1 in
        let x : Met = q.0 in
        let rx = live_from core pick rows x q.1 in
        let up : row_parent rows n ≡ x.ino = ap (λ o. option_map_or (λ (r : Row). r.parent) o 0) e ∙ sym l.2.parent ∙ child_parent core pick x m q.2 in
        let there : In x (survey core pick) = subst (λ y. In y (survey core pick)) (sym rx.2) (above x.ino rx.0 rx.1 up) in
        let here : In m (survey core pick) = child_met core pick one sound_now x m there q.2 in
        let em : row_in rows m.ino ≡ Some r = ap (row_in rows) l.2.number ∙ e in
        let am : IsAtRow m m.ino r = record { number = refl; parent = l.2.parent; page = l.2.page; slot = l.2.slot } in
        let is : m ≡ at n r = listed_at_row x m r q.1 q.2 em (λ z. not_one (sym l.2.number ∙ z)) am ∙ ap (λ k. at k r) l.2.number in
        subst (λ y. In y (survey core pick)) is here

    climb_met : (k n : ℕ) (r : Row) → row_in rows n ≡ Some r → climbs (row_parent rows) k n ≡ true → In (at n r) (survey core pick)
    climb_met zero n r e c = climb_root n r e (eqb-true n 1 c)
    climb_met (suc k) n r e c =
        elim (cases_eq n 1) [
          | inl is ↦ climb_root n r e is
          | inr not_one ↦
              climb_above n r e not_one
              (λ p q f up. climb_met k p q f
              (elim (or_cases (eqb n 1) (climbs (row_parent rows) k (row_parent rows n)) c) [
                | inl y ↦ absurd (not_one (eqb-true n 1 y))
                | inr y ↦ ap (climbs (row_parent rows) k) (sym up) ∙ y
              ]))
        ]

    pub from_rows : MeetsRows core pick rows
    from_rows = record {
      sound = sound_now;
      met = λ n r e. climb_met (count_by is_some rows) n r e (b.climb n (ap is_some e));
      just = λ m i. live_from core pick rows m (survey_keeps core pick (λ m. In m L) root_live down_live m i);
    }

  -- ---- what the survey gives the rows
  module _ (a : MeetsRows core pick rows) where
    live_is_met : (m : Met) → In m L → In m (survey core pick)
    live_is_met m i = let r = live_from core pick rows m i in subst (λ x. In x (survey core pick)) (sym r.2) (a.met m.ino r.0 r.1)

    met_is_live : (m : Met) → In m (survey core pick) → In m L
    met_is_live m i = let r = a.just m i in subst (λ x. In x L) (sym r.2) (in_live m.ino r.0 r.1)

    new_less : (xs : List ℕ) → are_new (1 ∷ []) xs ≡ true → are_new [] xs ≡ true
    new_less xs e = are_new-fewer [] (1 ∷ []) xs (λ n i. absurd i) e

    down_climbs : (k : ℕ) (m : Met) → Reaches core pick k m → climbs (row_parent rows) k m.ino ≡ true
    down_climbs zero m d = eq-eqb m.ino 1 (ap (λ (x : Met). x.ino) d)
    down_climbs (suc k) m d =
        let above = down_climbs k d.0 d.1 in
        let i = child_met core pick one a.sound d.0 m (reached_met core pick one a.sound k d.0 d.1) d.2 in
        let r = a.just m i in
        let up : row_parent rows m.ino ≡ d.0.ino =
        ap (λ o. option_map_or (λ (r : Row). r.parent) o 0) r.1 ∙ ap (λ (x : Met). x.parent) (sym r.2) ∙ child_parent core pick d.0 m d.2 in
        or_right (eqb m.ino 1) (climbs (row_parent rows) k (row_parent rows m.ino)) (ap (climbs (row_parent rows) k) up ∙ above)

    -- a level that has a file comes after no more files than there are live numbers
    level_low : (k : ℕ) (m : Met) → k ≤ core.inodes → In m (levels (children core pick) (root_of core) k).level → k ≤ count_by is_some rows
    level_low k m l i =
        let kids : Met → List Met = children core pick in
        let w : Front = levels kids (root_of core) k in
        let few : length (numbers w.passed) ≤ count_by is_some rows =
        live_many rows (numbers w.passed) (passed_new core pick k)
        (λ x j.
        let q = map-In (λ (m : Met). m.ino) x w.passed j in
        let lv = level_of core pick k q.0 q.1 in
        let r = a.just q.0 (reached_met core pick one a.sound lv.0 q.0 (level_down core pick lv.0 q.0 lv.2)) in
        ap (λ n. is_some (row_in rows n)) q.2 ∙ ap is_some r.1) in
        elim (levels_enough kids (root_of core) k) [
          | inl empty ↦ absurd (subst (λ l. In m l) empty i)
          | inr enough ↦ omega (arith, few, enough, length-map w.passed (λ (m : Met). m.ino))
        ]

    climb_at : (n : ℕ) → is_some (row_in rows n) ≡ true → climbs (row_parent rows) (count_by is_some rows) n ≡ true
    climb_at n e =
        let r = some_of (row_in rows n) e in
        let d = survey_reached core pick (at n r.0) (a.met n r.0 r.1) in
        climbs_more (row_parent rows) d.0 (count_by is_some rows) n (level_low d.0 (at n r.0) d.1 d.3) (down_climbs d.0 (at n r.0) d.2)

    pub to_rows : ListsRows core pick rows
    to_rows = record {
      listed = λ n r e not_one.
          elim (met_cases core pick one a.sound (at n r) (a.met n r e)) [
            | inl z ↦ absurd (not_one (ap (λ (x : Met). x.ino) z))
            | inr q ↦ (
              at n r,
              In-flat (children core pick) q.0 (at n r) L (met_is_live q.0 q.1) q.2,
              record { number = refl; parent = refl; page = refl; slot = refl },
            )
          ];
      once = new_spread (λ (m : Met). m.ino) (λ m. numbers (children core pick m)) (λ m. numbers (children core pick m)) (survey core pick) L (new_less (listed_numbers core pick (survey core pick)) (sound_parts core pick a.sound).numbered) (live_new core pick rows) live_is_met (λ y i. refl);
      nothing_else = λ m i.
          let q = flat_map-In (children core pick) m L i in
          let x = live_is_met q.0 q.1 in
          let r = a.just m (child_met core pick one a.sound q.0 m x q.2) in
          (no_root_listed core pick one a.sound q.0 m x q.2, ap is_some r.1);
      climb = climb_at;
    }

pub rows_are_survey : RowsAreSurvey
rows_are_survey core pick rows one h = (λ a. to_rows core pick rows one h a, λ b. from_rows core pick rows one h b)

-- ---- every image that verifies has such rows

module _ (image : Image) (fit : IsFit image.core) (v : Verifies image) where
  abbrev the_core : Core
  the_core = image.core

  the_tables : TablesOf image image.core plain
  the_tables = record { rows = v.rows; owners = v.owners }

  row_there_met : (n : ℕ) (r : Row) → row_in image.rows n ≡ Some r → MetAt image.core plain n r
  row_there_met n r e = met_row image.core plain fit v.sound n r (sym (row_at_is image.core plain fit v.sound image the_tables n) ∙ e)

  row_is_met : (n : ℕ) (r : Row) → row_in image.rows n ≡ Some r → In (file_at_row image.core plain n r) (survey image.core plain)
  row_is_met n r e =
      let q = row_there_met n r e in
      let m : Met = q.met in
      let settled_at : settled_body image n ≡ cond (eqb n 1) the_core.root (body_at_place the_core r.page r.slot) = ap (λ o. cond (eqb n 1) the_core.root (body_by_row the_core o)) e in
      let body : m.body ≡ (file_at_row image.core plain n r).body = sym (settled_body_met image m fit v.sound the_tables q.stands) ∙ ap (settled_body image) q.number ∙ settled_at in
      let is : m ≡ file_at_row image.core plain n r =
      met_same m (file_at_row image.core plain n r) q.number (ap (λ (x : Row). x.kind) (sym q.row)) (ap (λ (x : Row). x.parent) (sym q.row)) (ap (λ (x : Row). x.page) (sym q.row)) (ap (λ (x : Row). x.slot) (sym q.row)) body in
      subst (λ x. In x (survey image.core plain)) is q.stands

  live_is_met' : (m : Met) → In m (live_files image.core plain image.rows) → In m (survey image.core plain)
  live_is_met' m i = search (arith, live_from, row_is_met)

  row_zero : (o : Option Row) → row_in image.rows 0 ≡ o → row_in image.rows 0 ≡ None
  row_zero None e = e
  row_zero (Some r) e =
      let q = row_there_met 0 r e in
      let low : 0 < q.met.ino = (met_numbered image.core plain fit v.sound q.met q.stands).0 in
      let is : q.met.ino ≡ 0 = q.number in
      absurd (omega (arith, low, is))

  has_rows : HasRows image.core plain image.rows
  has_rows =
      let root : Met = root_of image.core in
      let i = root_is_met image.core plain fit v.sound in
      let f = read_met image.core plain fit v.sound root i in
      let count : length image.rows ≡ image.core.inodes + 1 = ap length v.rows ∙ tabulated-length (row_of image.core (survey image.core plain)) (image.core.inodes + 1) in
      record {
        root = row_by root f.0.body;
        root_row = row_at_is image.core plain fit v.sound image the_tables 1 ∙ row_met image.core plain fit v.sound root f.0 i f.1;
        root_kind = refl;
        root_parent = refl;
        root_page = refl;
        root_slot = refl;
        none = row_zero (row_in image.rows 0) refl;
        many = omega (arith, count);
        grammar = list_all-each (λ m. is_ok (file_of image.core m)) (live_files image.core plain image.rows) (λ m k. ap is_ok (read_met image.core plain fit v.sound m (live_is_met' m k)).1);
        pages_once = new_spread (λ (m : Met). m.ino) (pages_of image.core) (pages_of image.core) (survey image.core plain) (live_files image.core plain image.rows) (sound_parts image.core plain v.sound).paged (live_new image.core plain image.rows) live_is_met' (λ m k. refl);
        kinds = λ m r k e parent page slot.
            let q = flat_map-In (children image.core plain) m (live_files image.core plain image.rows) k in
            let there = child_met image.core plain fit.numbers v.sound q.0 m (live_is_met' q.0 q.1) q.2 in
            let g = read_met image.core plain fit v.sound m there in
            let row : row_in image.rows m.ino ≡ Some (row_by m g.0.body) = row_at_is image.core plain fit v.sound image the_tables m.ino ∙ row_met image.core plain fit v.sound m g.0 there g.1 in
            ap (λ (x : Row). x.kind) (some_one (row_in image.rows m.ino) (row_by m g.0.body) r row e);
      }

pub verified_has_rows : VerifiedHasRows
verified_has_rows image fit v = has_rows image fit v
