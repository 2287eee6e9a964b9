-- What the tables of the survey say of a bundle that is judged.
use Rattle.trio_proposal.proofs.Words.{◌&&◌, ◌+◌, ◌-◌, ◌<◌, ◌||◌, ◌∙◌, ◌≡◌, ◌≤◌, Bool, Bundled, CanBeJudged, Core, CoreRange, Creds, Image, IsFit, List, None, Option, Pick, Row, Some, [], and_from, and_parts, ap, arith, both_ways, bundle_in, bundle_pages, bundle_sheets, cond, eqb, false, get_or, image_of, is_allowed, is_among, is_some, is_sound, is_written, length, ltb, mets_below, not, owner_may, owner_of, pick_of, proposed, proposed_pick, refl, row_at, row_in, row_may, row_of, subst, survey, sym, true, with_bodies, with_pages, ℕ}
use Rattle.std.specs.Prelude.{IsTrue}
use Rattle.std.proofs.lemmas.Bool.{le-ltb, false_from_ne_true}
use Rattle.trio_layout.specs.Sound.{rows_table, owners_table}
use Rattle.trio_layout.specs.Accept.{is_accepted, next}
use Rattle.trio_survey.specs.Answer.{core_of}
use Rattle.trio_survey.specs.declared.whole.Found.{Found}
use Rattle.trio_surveys.proofs.Accepted.{fit_proposed}
use Rattle.trio_surveys.proofs.Images.{TablesOf, row_at_is, owner_at}
use Rattle.trio_lists.proofs.Tabulated.{tabulated-length}
use Rattle.trio_proposal.specs.declared.propose.Proposal.{Proposal}
use Rattle.trio_proposal.specs.inner.Proposes.{Proposes}
use Rattle.trio_proposal.specs.inner.Steps.{RowsMay, OwnersMay}
use Rattle.trio_proposal.proofs.Allowing.{may_own, allowed_from, rows_stand, owners_stand}
use Rattle.trio_proposal.proofs.Keeping.{live_below, written_is, root_is, kept_of, picks_are}
use Rattle.trio_proposal.proofs.Placing.{bodies_placed}

abbrev Pages : Type 0
Pages = List (Option (List ℕ))

-- the survey of this core is sound, and these are its tables
pub record FoundIn (core : Core) (pick : Pick) (f : Found) : Type 0 where
  pub sound : is_sound core pick ≡ true
  pub rows : f.rows ≡ rows_table core (survey core pick)
  pub owners : f.owners ≡ owners_table core (survey core pick)

module _ (pages : Pages) (root : List ℕ) (range : CoreRange) (rows : List (Option Row)) (creds : Creds) (b : Bundled) (ok : CanBeJudged (image_of pages root range rows []) (bundle_in b)) (p : Proposal) (is : Proposes pages root rows b p) where
  abbrev pub image : Image
  image = image_of pages root range rows []

  abbrev pub core : Core
  core = proposed (image_of pages root range rows []) (bundle_in b)

  abbrev pub pick : Pick
  pick = proposed_pick (image_of pages root range rows []) (bundle_in b)

  many : 1 < length rows
  many = (let one = ok.fit.numbers in omega (arith, one))

  -- the core that is surveyed, and the picks
  pub core_is : (now : Pages) (inodes : ℕ) → now ≡ with_pages (bundle_sheets (bundle_in b)) pages → length rows ≡ inodes + 1 → core_of now p.root range inodes ≡ core
  core_is now inodes e len =
      let root' = is.root ∙ root_is pages root range rows b ok p.handed.written.items p.kept.items is.written is.many_written many in
      let inodes' : inodes ≡ length rows - 1 = omega (arith, len) in
      rw (e, root', inodes') refl

  pub pick_is : pick_of p.picks ≡ pick
  pick_is = picks_are pages root range rows b ok p.handed.written.items p.kept.items is.written is.many_written is.kept p.picks is.picks

  -- what is found of the core that is surveyed is found of the proposed image
  pub is_found : (now : Pages) (inodes : ℕ) (f : Found) → now ≡ with_pages (bundle_sheets (bundle_in b)) pages → length rows ≡ inodes + 1 → FoundIn (core_of now p.root range inodes) (pick_of p.picks) f → FoundIn core pick f
  is_found now inodes f e len h = subst (λ k. FoundIn core k f) pick_is (subst (λ c. FoundIn c (pick_of p.picks) f) (core_is now inodes e len) h)

  fit : IsFit core
  fit = fit_proposed image (bundle_in b) ok.fit ok.full

  pub unsound : (now : Pages) (inodes : ℕ) → now ≡ with_pages (bundle_sheets (bundle_in b)) pages → length rows ≡ inodes + 1 → is_sound (core_of now p.root range inodes) (pick_of p.picks) ≡ false → is_accepted image creds (bundle_in b) ≡ false
  unsound now inodes e len h =
      let bad : is_sound core pick ≡ false = subst (λ k. is_sound core k ≡ false) pick_is (subst (λ c. is_sound c (pick_of p.picks) ≡ false) (core_is now inodes e len) h) in
      rw bad refl

  module _ (f : Found) (s : FoundIn (proposed (image_of pages root range rows []) (bundle_in b)) (proposed_pick (image_of pages root range rows []) (bundle_in b)) f) where
    abbrev after : Image
    after = record { core = core; rows = f.rows; owners = f.owners }

    tables : TablesOf after core pick
    tables = record { rows = s.rows; owners = s.owners }

    found_at : (n : ℕ) → row_in f.rows n ≡ row_of core (survey core pick) n
    found_at n = row_at_is core pick fit s.sound after tables n

    owned_at : (k : ℕ) → range.first ≤ k → k < range.end → get_or f.owners k 0 ≡ owner_of core (survey core pick) k
    owned_at k low high =
        owner_at core pick fit s.sound after tables k high
        ∙ ap (λ t. cond t 0xFFFFFFFF (owner_of core (survey core pick) k)) (le-ltb k range.first low)

    pub owned_long : range.end ≤ length f.owners
    owned_long = (let e : length f.owners ≡ range.end = ap length s.owners ∙ tabulated-length (λ page. cond (ltb page range.first) 0xFFFFFFFF (owner_of core (survey core pick) page)) range.end in omega (arith, e))

    number_is : (n : ℕ) → n < length rows → get_or p.handed.numbers.items n false ≡ is_among n (bundle_in b).numbers
    number_is n l = is.numbers n (let m = is.many_numbers in omega (arith, l, m))

    page_is : (k : ℕ) → k < range.end → get_or p.handed.pages.items k false ≡ is_among k (bundle_pages (bundle_in b))
    page_is k l = is.pages k (let m = is.many_pages in let long = ok.fit.long in omega (arith, l, m, long))

    live_is : (o : ℕ) → (is_some (row_in rows o) && not (is_some (get_or p.handed.written.items o None))) ≡ (is_some (row_at image o) && not (is_written (bundle_in b) o))
    live_is o = by (row_in rows o) refl
      where
        by : (r : Option Row) → row_in rows o ≡ r → (is_some r && not (is_some (get_or p.handed.written.items o None))) ≡ (is_some r && not (is_written (bundle_in b) o))
        by None e = refl
        by (Some r) e = ap not (written_is pages root range rows b ok p.handed.written.items p.kept.items is.written is.many_written o (live_below rows o r e))

    row_same : (n : ℕ) → n < length rows → row_may creds (get_or p.handed.numbers.items n false) (row_in rows n) (row_in f.rows n) ≡ row_may creds (is_among n (bundle_in b).numbers) (row_at image n) (row_of core (survey core pick) n)
    row_same n l = ap (λ h. row_may creds h (row_in rows n) (row_in f.rows n)) (number_is n l) ∙ ap (row_may creds (is_among n (bundle_in b).numbers) (row_in rows n)) (found_at n)

    owner_same : (k : ℕ) → range.first ≤ k → k < range.end → owner_may rows p.handed.written.items (get_or p.handed.pages.items k false) (get_or f.owners k 0) ≡ may_own image (bundle_in b) k (owner_of core (survey core pick) k)
    owner_same k low high =
        ap (λ h. owner_may rows p.handed.written.items h (get_or f.owners k 0)) (page_is k high)
        ∙ ap (owner_may rows p.handed.written.items (is_among k (bundle_pages (bundle_in b)))) (owned_at k low high)
        ∙ ap (λ t. eqb (owner_of core (survey core pick) k) 0 || is_among k (bundle_pages (bundle_in b)) || t) (live_is (owner_of core (survey core pick) k))

    pub allowed_is : RowsMay creds p.handed.numbers.items rows f.rows → OwnersMay rows p.handed.written.items p.handed.pages.items f.owners range.first range.end → is_allowed image creds (bundle_in b) core (survey core pick) ≡ true
    allowed_is r o =
        allowed_from image creds (bundle_in b) ok.no_holds core pick fit s.sound
        (λ n low high. let l : n < length rows = omega (arith, many, high) in sym (row_same n l) ∙ r n low l)
        (λ k low high. sym (owner_same k low high) ∙ o k low high)

    pub rows_may : is_allowed image creds (bundle_in b) core (survey core pick) ≡ true → RowsMay creds p.handed.numbers.items rows f.rows
    rows_may h n low l = row_same n l ∙ rows_stand image creds (bundle_in b) ok.no_holds core pick fit s.sound h n low (omega (arith, many, l))

    pub owners_may : is_allowed image creds (bundle_in b) core (survey core pick) ≡ true → OwnersMay rows p.handed.written.items p.handed.pages.items f.owners range.first range.end
    owners_may h k low high = owner_same k low high ∙ owners_stand image creds (bundle_in b) ok.no_holds core pick fit s.sound h k low high

    pub accepted : is_allowed image creds (bundle_in b) core (survey core pick) ≡ true → is_accepted image creds (bundle_in b) ≡ true
    accepted h = and_from (is_sound core pick) (is_allowed image creds (bundle_in b) core (survey core pick)) s.sound h

    pub refused : (t : Bool) → (IsTrue t → RowsMay creds p.handed.numbers.items rows f.rows × OwnersMay rows p.handed.written.items p.handed.pages.items f.owners range.first range.end) → (RowsMay creds p.handed.numbers.items rows f.rows × OwnersMay rows p.handed.written.items p.handed.pages.items f.owners range.first range.end → IsTrue t) → t ≡ false → is_accepted image creds (bundle_in b) ≡ false
    refused t to from e =
        false_from_ne_true (is_accepted image creds (bundle_in b))
        (λ h.
        let a = (and_parts (is_sound core pick) (is_allowed image creds (bundle_in b) core (survey core pick)) h).1 in
        both_ways t e (from (rows_may a, owners_may a)))

    pub next_pages : is_allowed image creds (bundle_in b) core (survey core pick) ≡ true → with_bodies (mets_below rows p.kept.items (length rows)) core.pages ≡ (next image (bundle_in b)).core.pages
    next_pages h =
        bodies_placed image creds (bundle_in b) ok.no_holds fit s.sound h p.kept.items (omega (arith, many))
        (kept_of pages root range rows b ok p.handed.written.items p.kept.items is.written is.many_written is.kept)
